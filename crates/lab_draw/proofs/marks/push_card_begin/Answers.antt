use Rattle.std.proofs.Common.{List, ℕ, ◌++◌}
use Rattle.std.specs.Prelude.{codes}
use Rattle.std.proofs.lemmas.Result.{on_ok_weaker}
use Rattle.lab_graph.specs.declared.picture.StepBox.{StepBox}
use Rattle.lab_draw.specs.declared.scale.Scale.{Scale}
use Rattle.lab_draw.specs.Marks.{class_text, corner_text, hue_text}
use Rattle.lab_draw.proofs.Appending.{then_more, on_ok_is}
use Rattle.lab_draw.proofs.marks.push_card_begin.Goals as goal

pub returns : goal.returns
returns c =
    let b : StepBox = c.args.step.now in
    let s : Scale = c.args.scale in
    let start : List ℕ = c.args.text.now.items in
    let p1 : List ℕ = codes "<svg class='" in
    let p2 : List ℕ = class_text c.args.class.now b in
    let p3 : List ℕ = codes "' width='92' height='34'" in
    let two = then_more start _ c.push_class.new.text.items p1 p2 c.in_ok-extend_from_slice.ensures.items
    c.in_ok-push_class.ensures in
    let three = then_more start _ c.extend_from_slice-2.new.self.items (p1 ++ p2) p3 two
    c.in_ok-extend_from_slice-2.ensures.items in
    let four = then_more start _ c.push_corner.new.text.items (p1 ++ p2 ++ p3) (corner_text s b) three
    c.in_ok-push_corner.ensures in
    let five = then_more start _ c.push_hue.new.text.items (p1 ++ p2 ++ p3 ++ corner_text s b) (hue_text b.line) four
    c.in_ok-push_hue.ensures in
    on_ok_weaker c.extend_from_slice-3.result
    (λ e. then_more start _ c.extend_from_slice-3.new.self.items (p1 ++ p2 ++ p3 ++ corner_text s b ++ hue_text b.line)
    (codes ">") five e) (on_ok_is c.extend_from_slice-3.result _ _ _ c.extend_from_slice-3.ensures.items)
