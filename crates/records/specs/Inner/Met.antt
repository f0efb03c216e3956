-- What a walk in code has met, as its cursor tells it at the end: at fault is the last field that it came to.
use Rattle.std.specs.Prelude.{◌-◌, eqb}
use Rattle.rows.specs.Row.{pick}
use Rattle.rows.specs.Inner.Standing.{Standing}
use Rattle.records.specs.Answer.{refusal, refusal_at}
use Rattle.records.specs.Answer.{Answer}

abbrev pub met : Standing → Answer
met c = pick (eqb c.why 0) (refusal 0 0) (refusal_at c.why c.at (c.field - 1))
