use Rattle.std.proofs.Common.{refl, arith}
use Rattle.bits.specs.Bits.{cleared}
use Rattle.rows.proofs.Margins.{word_at, four_words}
use Rattle.rows.proofs.margin.take.Goals as goal

-- The four words are those of the cleared bits.
pub returns : goal.returns
returns c bs e =
    let a = c.args in
    four_words (cleared a.at bs) _ _ _ _
    (c.cleared.ensures bs (word_at a.words.now bs e 0 0 (omega arith) refl))
    (c.cleared-2.ensures bs (word_at a.words.now bs e 2 64 (omega arith) refl))
    (c.cleared-3.ensures bs (word_at a.words.now bs e 4 128 (omega arith) refl))
    (c.cleared-4.ensures bs (word_at a.words.now bs e 6 192 (omega arith) refl))
