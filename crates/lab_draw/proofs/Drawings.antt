-- What a page has of a session.
use Rattle.std.proofs.Common.{◌≡◌, ◌∙◌, ap, subst, ℕ, List, [], ◌++◌, Option, ◌↔◌}
use Rattle.std.specs.Prelude.{map, codes, Contains}
use Rattle.om_code.specs.declared.raw.Raw.{Raw}
use Rattle.om_undo_history.specs.Cones.{transitions}
use Rattle.om_undo.specs.Machines.{MachineView, rules_for}
use Rattle.om_book.specs.Books.{BookView}
use Rattle.lab_graph.specs.declared.traced.Traced.{Traced}
use Rattle.lab_graph.specs.declared.picture.StepBox.{StepBox}
use Rattle.lab_graph.specs.declared.picture.Arrow.{Arrow}
use Rattle.lab_graph.specs.Pictures.{box_of, IsArrow}
use Rattle.lab_replay.specs.Said.{AreSaid}
use Rattle.lab_replay.specs.Traces.{transition_of}
use Rattle.lab_draw.specs.declared.scale.Scale.{Scale}
use Rattle.lab_draw.specs.declared.outcome.Page as outcome
use Rattle.lab_draw.specs.Marks.{boxes_text}
use Rattle.lab_draw.specs.Places.{first_serial}
use Rattle.lab_draw.specs.Strokes.{arrows_text}
use Rattle.lab_draw.specs.Pages.{Leaves, IsDrawing, IsShown, IsPage}
use Rattle.om_shell.specs.Files.{ReadsAll}

-- the picture of a machine's steps, and the page with it
pub drawing_of : (m seen : MachineView) (program : Raw) (steps ts : List Traced) (boxes : List StepBox)
    (arrows : List Arrow) (scale : Scale) (front behind bytes : List ℕ) → seen ≡ m → program ≡ seen.program
    → ts ≡ steps → map transition_of steps ≡ transitions (rules_for seen) seen.history.entries
    → AreSaid seen seen.history.entries steps
    → boxes ≡ map box_of ts → ((x : Arrow) → Contains arrows x ↔ IsArrow ts x)
    → scale.first ≡ first_serial boxes
    → bytes ≡ front ++ arrows_text program (codes "arrow") scale arrows ++ boxes_text (codes "step") scale boxes
    ++ behind → IsDrawing m bytes
drawing_of m seen program steps ts boxes arrows scale front behind bytes same p same_steps traced said b exactly left text =
    let program_is : program ≡ m.program = p ∙ ap (λ (x : MachineView). x.program) same in
    let boxes_are : boxes ≡ map box_of steps = b ∙ ap (λ (l : List Traced). map box_of l) same_steps in
    record {
      steps = steps;
      traced =
          subst (λ (x : MachineView). map transition_of steps ≡ transitions (rules_for x) x.history.entries)
          same traced;
      said = subst (λ (x : MachineView). AreSaid x x.history.entries steps) same said;
      arrows = arrows;
      exactly = subst (λ (l : List Traced). (x : Arrow) → Contains arrows x ↔ IsArrow l x) same_steps exactly;
      scale = scale;
      leftmost = left ∙ ap first_serial boxes_are;
      front = front;
      behind = behind;
      text = text
          ∙ (λ i. front ++ arrows_text (program_is i) (codes "arrow") scale arrows
          ++ boxes_text (codes "step") scale (boxes_are i) ++ behind);
    }

-- what a session that was run over a reader's bytes shows
pub page_of : (left_before left_after : Option (List ℕ)) (workers : ℕ) (given : Option (List ℕ))
    (input seen text : List ℕ) (status : ℕ) (book : Option BookView) (page : outcome.Page)
    → ReadsAll left_before left_after input → seen ≡ input → Leaves seen text workers given status book
    → IsShown book text page → IsPage left_before left_after workers given page
page_of left_before left_after workers given input seen text status book page reads same leaves shown = record {
  input = input;
  reads = reads;
  text = text;
  status = status;
  book = book;
  leaves = subst (λ l. Leaves l text workers given status book) same leaves;
  shown = shown;
}
