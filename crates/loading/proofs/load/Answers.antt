use Rattle.std.proofs.Common.{Err, rules}
use Rattle.loading.specs.Loading.{Lent, lengths_of}
use Rattle.loading.specs.Inner.Unread.{unread}
use Rattle.loading.proofs.Ending.{Card, unread_none, refused_unread, ends, accepts}
use mathlib.Core.Path.{◌≡◌, refl, sym, ap, ◌∙◌}
use mathlib.Core.List.{List}
use Prim.Native.Nat.{ℕ}
use Rattle.records.specs.Answer.{Answer}
use Rattle.rows.proofs.Stepping.{numbered}
use Rattle.loading.specs.declared.Order.{Order}
use Rattle.loading.specs.declared.Lengths.{Lengths}
use borrow.Author.Tests.{ne_eqb}
use Rattle.loading.proofs.load.Goals as goal

-- What is refused unread, by the lengths of what is lent.
asked : (o : Order) (list file : List ℕ) (lent : Lent) (l : Lengths) (r : Answer) → l ≡ lengths_of list file lent → r ≡ unread o l
    → r ≡ unread o (lengths_of list file lent)
asked o list file lent l r of is = is ∙ ap (unread o) of

-- Where nothing is, lengths and limits agree.
card_of : (o : Order) (list file : List ℕ) (lent : Lent) (l : Lengths) (r : Answer) → l ≡ lengths_of list file lent → r ≡ unread o l
    → r.number ≡ 0 → Card o list file lent
card_of o list file lent l r of is none =
    unread_none o list file lent (ap (λ (x : Answer). x.number) (sym (asked o list file lent l r of is)) ∙ none)

pub returns-in_err-refused_unread : goal.returns-in_err-refused_unread
returns-in_err-refused_unread c =
    let is : c.from_residual.result ≡ Err c.in_err-refused_unread.field-0.0 = search rules in
    rw is (refused_unread _ _ _ _ _ (asked c.args.order _ _ _ _ _ c.lengths.ensures c.in_err-refused_unread.ensures) (numbered _))

-- Refused, the file is as it was.
pub returns-in_err-pointer : goal.returns-in_err-pointer
returns-in_err-pointer c =
    let is : c.from_residual-in_err-pointer.result ≡ Err c.in_err-pointer.field-0.0 = search rules in
    let card = card_of c.args.order _ _ _ _ _ c.lengths.ensures c.in_ok-refused_unread.ensures refl in
    let done = c.in_err-pointer.ensures c.args.file.now c.args.new.now in
    rw is ((rw (ne_eqb _ _ (numbered c.in_err-pointer.field-0.0.why)) at done) ∙ ends _ _ _ _ card _ refl c.read_rest-rest.ensures)

pub put_new-requires : goal.put_new-requires
put_new-requires c =
    let card = card_of c.args.order _ _ _ _ _ c.lengths.ensures c.in_ok-refused_unread.ensures refl in
    accepts _ _ _ _ card _ (c.in_ok-pointer.ensures c.args.file.now c.args.new.now) c.read_rest-rest.ensures refl

pub returns : goal.returns
returns c =
    let card = card_of c.args.order _ _ _ _ _ c.lengths.ensures c.in_ok-refused_unread.ensures refl in
    rw c.put_new.ensures (c.in_ok-pointer.ensures c.args.file.now c.args.new.now ∙ ends _ _ _ _ card _ refl c.read_rest-rest.ensures)
