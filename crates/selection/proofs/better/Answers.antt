use Rattle.selection.proofs.Choosing.{not_better, not_in_question}
use Rattle.selection.proofs.better.Goals.{else-in_question-via-then-in_question+else-serves, else-in_question-via-else-in_question}
use Rattle.selection.proofs.better.Goals as goal

pub returns : goal.returns
returns c =
    let a = c.args in
    elim c.else-in_question.branch [
      | else-in_question-via-then-in_question+else-serves w ↦ not_better a.day a.operator a.file.now a.position a.entry a.best (rw w.serves.ensures at w.if-serves.false)
      | else-in_question-via-else-in_question w ↦ not_in_question a.day a.operator a.file.now a.position a.entry a.best (rw c.in_question.ensures at w.if-in_question.false)
    ]
