use Rattle.std.proofs.Common.{List, ℕ, ◌++◌, ◌∙◌, ap}
use Rattle.std.specs.Prelude.{codes}
use Rattle.std.proofs.lemmas.Result.{on_ok_weaker}
use Rattle.lab_graph.specs.declared.picture.StepBox.{StepBox}
use Rattle.lab_draw.specs.Escapes.{escaped}
use Rattle.lab_draw.specs.Marks.{upper_text, value_words}
use Rattle.lab_draw.proofs.Appending.{then_more, on_ok_is}
use Rattle.lab_draw.proofs.marks.push_lines.Goals as goal

pub returns : goal.returns
returns c =
    let b : StepBox = c.args.step.now in
    let start : List ℕ = c.args.text.now.items in
    let two = then_more start _ c.push_after.new.text.items (upper_text b) (value_words b) c.in_ok-push_upper.ensures
    (c.in_ok-push_after.ensures
    ∙ ap (λ w. c.push_upper.new.text.items ++ (codes "<text x='5' y='28'>" ++ escaped w)) c.as_slice.ensures) in
    on_ok_weaker c.extend_from_slice.result
    (λ e. then_more start _ c.extend_from_slice.new.self.items (upper_text b ++ value_words b) (codes "</text>") two e)
    (on_ok_is c.extend_from_slice.result _ _ _ c.extend_from_slice.ensures.items)
