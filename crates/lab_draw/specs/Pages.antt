-- The page of a session.
use Rattle.std.specs.Prelude.{◌≡◌, ◌↔◌, ◌++◌, ℕ, List, [], Option, None, Some, Vec, map, codes, option_copied, Contains}
use Rattle.std.specs.declared.alloc.Global.{Global}
use Rattle.om_code.specs.declared.raw.Raw.{Raw}
use Rattle.om_undo_history.specs.Cones.{transitions}
use Rattle.om_undo.specs.Machines.{MachineView, rules_for}
use Rattle.om_book.specs.Books.{BookView, machine_of}
use Rattle.om_shell.specs.declared.shell.Options.{Options}
use Rattle.om_shell.specs.Files.{ReadsAll}
use Rattle.om_shell.specs.Ends.{RunsToEnd}
use Rattle.om_shell.specs.Progress.{moment_of}
use Rattle.lab_graph.specs.declared.traced.Traced.{Traced}
use Rattle.lab_graph.specs.declared.picture.Arrow.{Arrow}
use Rattle.lab_graph.specs.declared.picture.Picture.{Picture}
use Rattle.lab_draw.specs.declared.scale.Scale.{Scale}
use Rattle.lab_draw.specs.declared.session.Heard.{Heard}
use Rattle.lab_draw.specs.declared.outcome.Page as outcome
use Rattle.lab_draw.specs.declared.outcome.Page.TheVariants.{Drawn, Refused}
use Rattle.lab_graph.specs.Pictures.{box_of, IsArrow}
use Rattle.lab_replay.specs.Said.{AreSaid}
use Rattle.lab_replay.specs.Traces.{transition_of}
use Rattle.lab_draw.specs.Marks.{boxes_text}
use Rattle.lab_draw.specs.Places.{first_serial}
use Rattle.lab_draw.specs.Strokes.{arrows_text}

-- a session over these bytes came to its end: what it wrote, and the book that it left
abbrev pub Leaves : List ℕ → List ℕ → ℕ → Option (List ℕ) → ℕ → Option BookView → Type 0
Leaves input text workers given status book =
    (left : Option (List ℕ))
    × RunsToEnd (moment_of (Some input) (Some []) []) (moment_of left (Some text) []) workers given status book

-- a session with these options over these bytes came to an end with a status, and this was heard of it
abbrev pub EndsSo : List ℕ → Options → Heard → Type 0
EndsSo input options heard =
    (status : ℕ)
    × Leaves input heard.text.items options.workers (option_copied options.source) status heard.book

-- a page has a front, the arrows and the boxes of a picture, and a foot
abbrev pub HasElements : Vec ℕ Global → Raw → Scale → Picture → List ℕ → Vec ℕ Global → Type 0
HasElements front program scale picture foot page = page.items
    ≡ front.items ++ arrows_text program (codes "arrow") scale picture.arrows.items
    ++ boxes_text (codes "step") scale picture.boxes.items ++ foot

-- A page has a stretch that is the picture of a machine's history: the texts of its arrows, and then of its boxes. In
-- this stretch there is a box for each entry of the history, and for nothing else, and an arrow exactly where the steps
-- have one. The first entry stands at the left. Of what stands before and behind it nothing is said: there are steps
-- that were taken out, and undos that were refused.
pub record IsDrawing (m : MachineView) (bytes : List ℕ) : Type 0 where
  -- the entries with the footprints of their steps in the replay; their instruction and variable are any bytes
  pub steps : List Traced
  pub traced : map transition_of steps ≡ transitions (rules_for m) m.history.entries
  -- each says whether its step met a fault; if it did not, and put a number, its value is that number behind a name
  pub said : AreSaid m m.history.entries steps
  pub arrows : List Arrow
  pub exactly : (x : Arrow) → Contains arrows x ↔ IsArrow steps x
  pub scale : Scale
  -- the first entry stands at the left
  pub leftmost : scale.first ≡ first_serial (map box_of steps)
  pub front : List ℕ
  pub behind : List ℕ
  pub text : bytes ≡ front ++ arrows_text m.program (codes "arrow") scale arrows
      ++ boxes_text (codes "step") scale (map box_of steps) ++ behind

-- what is shown of a session: the picture of the history in the book that it left, or what it wrote, which is the line
-- of its refusal
abbrev pub IsShown : Option BookView → List ℕ → outcome.Page → Type 0
IsShown (Some book) text (Drawn page turned_down) = IsDrawing (machine_of book) page.items
IsShown None text (Refused line) = line.items ≡ text
IsShown _ text _ = ⊥

-- what comes of a session over all that a reader had
pub record IsPage (left_before left_after : Option (List ℕ)) (workers : ℕ) (given : Option (List ℕ))
    (page : outcome.Page) : Type 0 where
  pub input : List ℕ
  pub reads : ReadsAll left_before left_after input
  pub text : List ℕ
  pub status : ℕ
  pub book : Option BookView
  pub leaves : Leaves input text workers given status book
  pub shown : IsShown book text page

-- this page comes of a session with these options over all that a reader had
abbrev pub Shows : (left_before left_after : Option (List ℕ)) → Options → outcome.Page → Type 0
Shows left_before left_after options page =
    IsPage left_before left_after options.workers (option_copied options.source) page
