-- The refusals that need no reading.
use Rattle.std.specs.Prelude.{◌/◌}
use Rattle.rows.specs.Row.{pick}
use Rattle.records.specs.Answer.{refusal, Answer}
use Rattle.loading.specs.Loading.{lengths, limits}
use Rattle.loading.specs.declared.Order.{Order}
use Rattle.loading.specs.declared.Lengths.{Lengths}

-- 1, 11, or none.
abbrev pub unread : Order → Lengths → Answer
unread o l = pick (lengths o l) (pick (limits o (l.journal / 29)) (refusal 0 0) (refusal 11 0)) (refusal 1 0)
