-- A frame that stands has its instruction, and stands again where that goes on.
use Rattle.std.proofs.Common.{◌≡◌, refl, sym, ◌∙◌, ap, subst, ℕ, zero, suc, ◌+◌, ◌-◌, ◌<◌, ◌≤◌, arith, List, [], ◌∷◌}
use Rattle.std.proofs.Common.{◌++◌, Option, Some, length, drop, length-append, length-drop, option_map}
use Rattle.std.specs.Prelude.{All, Contains, slice_get, option_to_list, option_and_then, unwrap_or}
use Rattle.std.proofs.lemmas.Option.{get_or_from_slice_get, slice_get_within}
use Rattle.om_code.specs.declared.frame.Operand.{Operand}
use Rattle.om_code.specs.declared.instruction.Instr.{Instr}
use Rattle.om_code.specs.declared.raw.Body.{Body}
use Rattle.om_code.specs.declared.raw.Line.{Line}
use Rattle.om_code.specs.declared.raw.Raw.{Raw}
use Rattle.om_code.specs.Places.{at_place, instruction_at, slots_of}
use Rattle.om_code.specs.Validity.{IsValid, IsValidBody, NamesKnown, StaysInside}
use Rattle.om_code.specs.Ways.{pops, pushes, successors, Way, starts, follows}
use Rattle.om_state.specs.declared.control.Frame.{Frame}
use Rattle.om_state.specs.Edits.{frame_at}
use Rattle.om_soundness.specs.Standing.{Owned, FitHomes, StandsWith, IsStandingFrame}

-- what a frame has that stands at an instruction
pub record StandsAt (program : Raw) (owned : Owned) (frame : Frame) (instr : Instr) : Type 0 where
  pub body : Body
  pub found : slice_get program.bodies frame.body ≡ Some body
  pub rest : ℕ
  pub operands : length frame.operands ≡ rest + pops instr
  pub leads : (to : ℕ) → Contains (successors program.picks frame.next instr) to
      → Way program.picks body.code to (rest + pushes instr)
  pub homes : FitHomes owned body.slots frame.homes
  pub names : NamesKnown program body.slots instr

-- a way never leaves its body
way_inside : (picks : List (List ℕ)) (code : List Line) (at height : ℕ) → StaysInside picks code
    → Way picks code at height → at < length code
way_inside picks code at height stays starts = stays.begins
way_inside picks code at height stays (follows from h rest to line way found few goes) =
    stays.goes_on from to line found goes

line_there : (code : List Line) (at : ℕ) → at < length code → (line : Line) × (slice_get code at ≡ Some line)
line_there [] at lt = absurd (omega arith)
line_there (line ∷ code) zero lt = (line, refl)
line_there (line ∷ code) (suc at) lt = line_there code at (omega (arith, lt))

left_over : (n m : ℕ) → m ≤ n → (rest : ℕ) × (n ≡ rest + m)
left_over n m le = (n - m, omega (arith, le))

-- an element that is found is one of all
of_all : {X : Type 0} (P : X → Type 0) (xs : List X) (k : ℕ) (x : X) → All P xs → slice_get xs k ≡ Some x → P x
of_all P xs k x all is = subst P (get_or_from_slice_get xs k x x is) (all k x (slice_get_within xs k x is))

-- a body of valid code is valid
body_valid : (raw : Raw) (number : ℕ) (body : Body) → IsValid raw → slice_get raw.bodies number ≡ Some body
    → IsValidBody raw body
body_valid raw number body valid is = of_all (λ (b : Body). IsValidBody raw b) raw.bodies number body valid.bodies is

-- what an instruction of valid code names exists
names_known : (raw : Raw) (body : Body) (at : ℕ) (line : Line) → IsValidBody raw body
    → slice_get body.code at ≡ Some line → NamesKnown raw body.slots line.instruction
names_known raw body at line valid is =
    of_all (λ (l : Line). NamesKnown raw body.slots l.instruction) body.code at line valid.known.names is

at_line : (program : Raw) (owned : Owned) (frame : Frame) (h : IsStandingFrame program owned frame) (line : Line)
    → IsValid program → slice_get h.body.code frame.next ≡ Some line → StandsAt program owned frame line.instruction
at_line program owned frame h line valid found =
    let good : IsValidBody program h.body = body_valid program frame.body h.body valid h.found in
    let way : Way program.picks h.body.code frame.next (length frame.operands) =
    subst (Way program.picks h.body.code frame.next) (omega arith) h.way in
    let few : pops line.instruction ≤ length frame.operands =
    good.one_height.enough frame.next (length frame.operands) line way found in
    let r = left_over (length frame.operands) (pops line.instruction) few in
    record {
      body = h.body;
      found = h.found;
      rest = r.0;
      operands = r.1;
      leads = λ to goes. follows frame.next (length frame.operands) r.0 to line way found r.1 goes;
      homes = h.homes;
      names = names_known program h.body frame.next line good found;
    }

found_place : (program : Raw) (number at : ℕ) (body : Body) → slice_get program.bodies number ≡ Some body
    → at_place program number at ≡ slice_get body.code at
found_place program number at body e = ap (option_and_then (λ (b : Body). slice_get b.code at)) e

pub found_slots : (program : Raw) (number : ℕ) (body : Body) → slice_get program.bodies number ≡ Some body
    → slots_of program number ≡ body.slots
found_slots program number body e = ap (λ o. unwrap_or (option_map (λ (b : Body). b.slots) o) []) e

-- the instruction at which a frame stands
pub stands_at : (program : Raw) (owned : Owned) (frame : Frame) → IsValid program
    → IsStandingFrame program owned frame → (instr : Instr)
    × (instruction_at program frame.body frame.next ≡ Some instr) × StandsAt program owned frame instr
stands_at program owned frame valid h =
    let good : IsValidBody program h.body = body_valid program frame.body h.body valid h.found in
    let l =
    line_there h.body.code frame.next
    (way_inside program.picks h.body.code frame.next (0 + length frame.operands) good.stays_inside h.way) in (
      l.0.instruction,
      ap (option_map (λ (line : Line). line.instruction))
          (found_place program frame.body frame.next h.body h.found ∙ l.1),
      at_line program owned frame h l.0 valid l.1,
    )

-- a frame that goes on to where its instruction leads, with what this takes and leaves, stands for what is to come
pub goes_on : (program : Raw) (owned : Owned) (frame : Frame) (instr : Instr) (coming to takes : ℕ)
    (pushed : Option Operand) → StandsAt program owned frame instr → takes ≤ pops instr
    → pops instr + (length (option_to_list pushed) + coming) ≡ takes + pushes instr
    → Contains (successors program.picks frame.next instr) to
    → StandsWith coming program owned (frame_at to takes pushed frame)
goes_on program owned frame instr coming to takes pushed h few left goes =
    let long : coming + length (option_to_list pushed ++ drop takes frame.operands) ≡ h.rest + pushes instr =
    omega (
      arith,
      few,
      left,
      h.operands,
      length-append (option_to_list pushed) (drop takes frame.operands),
      length-drop takes frame.operands,
    ) in
    record {
      body = h.body;
      found = h.found;
      way = subst (Way program.picks h.body.code to) (sym long) (h.leads to goes);
      homes = h.homes;
    }
