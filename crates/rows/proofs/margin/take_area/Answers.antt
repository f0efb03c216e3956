use Rattle.std.proofs.Common.{length, ◌∙◌}
use Rattle.rows.proofs.Margins.{cut_none}
use Rattle.rows.proofs.margin.take_area.Goals as goal

-- Where no one is found, the words stay zeros.
pub returns-then-next_one-end : goal.returns-then-next_one-end
returns-then-next_one-end c bs long e = c.rest.ensures bs e

pub returns-else-next_one-end : goal.returns-else-next_one-end
returns-else-next_one-end c bs long e =
    c.requires.margin_value ∙ cut_none 64 (length c.args.margin.now) c.args.end c.args.at c.next_one.result bs long (c.next_one.ensures bs long e) c.if-next_one-end.false
