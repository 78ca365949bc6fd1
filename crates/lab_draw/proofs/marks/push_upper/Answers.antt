use Rattle.std.proofs.Common.{List, ℕ, ◌++◌, ◌∙◌, ap}
use Rattle.std.specs.Prelude.{codes}
use Rattle.std.proofs.lemmas.Result.{on_ok_weaker}
use Rattle.lab_graph.specs.declared.picture.StepBox.{StepBox}
use Rattle.lab_draw.specs.Escapes.{escaped}
use Rattle.lab_draw.specs.Marks.{serial_words, instruction_words, line_words}
use Rattle.lab_draw.proofs.Appending.{then_more, on_ok_is}
use Rattle.lab_draw.proofs.marks.push_upper.Goals as goal

pub returns : goal.returns
returns c =
    let b : StepBox = c.args.step.now in
    let start : List ℕ = c.args.text.now.items in
    let two = then_more start _ c.push_after.new.text.items (serial_words b) (instruction_words b)
    c.in_ok-push_numbered.ensures
    (c.in_ok-push_after.ensures ∙ ap (λ w. c.push_numbered.new.text.items ++ (codes " " ++ escaped w)) c.as_slice.ensures)
    in
    let three = then_more start _ c.push_numbered-2.new.text.items (serial_words b ++ instruction_words b) (line_words b)
    two c.in_ok-push_numbered-2.ensures in
    on_ok_weaker c.extend_from_slice.result
    (λ e. then_more start _ c.extend_from_slice.new.self.items (serial_words b ++ instruction_words b ++ line_words b)
    (codes "</text>") three e) (on_ok_is c.extend_from_slice.result _ _ _ c.extend_from_slice.ensures.items)
