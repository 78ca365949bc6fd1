use Rattle.std.proofs.Common.{List, ℕ, ◌++◌}
use Rattle.std.specs.Prelude.{codes}
use Rattle.std.proofs.lemmas.Result.{on_ok_weaker}
use Rattle.lab_graph.specs.declared.picture.StepBox.{StepBox}
use Rattle.lab_draw.specs.Marks.{card_begin, title_text, lines_text}
use Rattle.lab_draw.proofs.Appending.{then_more, on_ok_is}
use Rattle.lab_draw.proofs.marks.push_card.Goals as goal

pub returns : goal.returns
returns c =
    let b : StepBox = c.args.step.now in
    let start : List ℕ = c.args.text.now.items in
    let p1 : List ℕ = card_begin c.args.class.now c.args.scale b in
    let p3 : List ℕ = codes "<rect width='92' height='34' rx='4'/>" in
    let two = then_more start _ c.push_title.new.text.items p1 (title_text b) c.in_ok-push_card_begin.ensures
    c.in_ok-push_title.ensures in
    let three = then_more start _ c.extend_from_slice.new.self.items (p1 ++ title_text b) p3 two
    c.in_ok-extend_from_slice.ensures.items in
    let four = then_more start _ c.push_lines.new.text.items (p1 ++ title_text b ++ p3) (lines_text b) three
    c.in_ok-push_lines.ensures in
    on_ok_weaker c.extend_from_slice-2.result
    (λ e. then_more start _ c.extend_from_slice-2.new.self.items (p1 ++ title_text b ++ p3 ++ lines_text b)
    (codes "</svg>\n") four e) (on_ok_is c.extend_from_slice-2.result _ _ _ c.extend_from_slice-2.ensures.items)
