-- What an instruction of valid code relies on, where the counters are low.
use Rattle.std.proofs.Common.{◌≡◌, refl, sym, ◌∙◌, ap, subst, ℕ, suc, zero, ◌+◌, ◌<◌, ◌≤◌, ◌^◌, List, [], ◌∷◌, Option}
use Rattle.std.proofs.Common.{None, Some, length, arith, option_map}
use Rattle.std.specs.Prelude.{All, IfSome, slice_get, unwrap_or, option_and_then}
use Rattle.std.proofs.lemmas.Option.{slice_get_within, get_or_from_slice_get}
use Rattle.om_code.specs.declared.instruction.Instr.{Instr}
use Rattle.om_code.specs.declared.raw.Body.{Body}
use Rattle.om_code.specs.declared.raw.Line.{Line}
use Rattle.om_code.specs.declared.raw.Raw.{Raw}
use Rattle.om_code.specs.Places.{instruction_at, slots_of}
use Rattle.om_code.specs.Validity.{IsValid, IsValidBody, NamesKnown}
use Rattle.om_state.specs.declared.control.Stack.{Stack}
use Rattle.om_team.specs.Counters.{IsWithin}
use Rattle.om_team_serial.specs.Ready.{IsReady}

-- what holds of every element holds of one that is found
all_found : {X : Type 0} (P : X → Type 0) (xs : List X) (k : ℕ) (x : X) → All P xs → slice_get xs k ≡ Some x → P x
all_found P xs k x all h = subst P (get_or_from_slice_get xs k x x h) (all k x (slice_get_within xs k x h))

few_slots : (program : Raw) (body : ℕ) (o : Option Body) → IsValid program → slice_get program.bodies body ≡ o
    → length (slots_of program body) ≤ 2 ^ 32
few_slots program body None valid e = subst
    (λ (o : Option Body). length (unwrap_or (option_map (λ (b : Body). b.slots) o) []) ≤ 2 ^ 32) (sym e) (omega arith)
few_slots program body (Some b) valid e = subst
    (λ (o : Option Body). length (unwrap_or (option_map (λ (b : Body). b.slots) o) []) ≤ 2 ^ 32) (sym e)
    (all_found (λ d. IsValidBody program d) program.bodies body b valid.bodies e).known.numbered

line_within : (code : List Line) (at : ℕ) (instr : Instr) → option_map (λ (l : Line). l.instruction)
    (slice_get code at) ≡ Some instr → at < length code
line_within [] at instr e = cc
line_within (l ∷ code) zero instr e = omega arith
line_within (l ∷ code) (suc at) instr e = omega (arith, line_within code at instr e)

next_fits : (program : Raw) (body at : ℕ) (instr : Instr) (o : Option Body) → IsValid program
    → slice_get program.bodies body ≡ o → instruction_at program body at ≡ Some instr → at + 1 < 2 ^ 32
next_fits program body at instr None valid e is = let none : instruction_at program body at
    ≡ None = ap (λ (o : Option Body). option_map (λ (l : Line). l.instruction)
    (option_and_then (λ (b : Body). slice_get b.code at) o)) e in cc
next_fits program body at instr (Some b) valid e is =
    let found : option_map (λ (l : Line). l.instruction) (slice_get b.code at) ≡ Some instr =
    sym (ap (λ (o : Option Body). option_map (λ (l : Line). l.instruction)
    (option_and_then (λ (b : Body). slice_get b.code at) o)) e) ∙ is in
    let few : length b.code < 2 ^ 32 = (all_found (λ d. IsValidBody program d) program.bodies body b valid.bodies
    e).stays_inside.numbered in
    omega (arith, line_within b.code at instr found, few)

-- what an instruction of valid code relies on, where the counters are low
ready : (program : Raw) (stack : Stack) (instr : Instr) → IsValid program → NamesKnown program
    (slots_of program stack.top.frame.body) instr → instruction_at program stack.top.frame.body stack.top.frame.next
    ≡ Some instr → IsWithin (2 ^ 63) stack.top → IsReady program stack instr
ready program stack instr valid known is w = record {
  names = known;
  slots = few_slots program stack.top.frame.body (slice_get program.bodies stack.top.frame.body) valid refl;
  next = next_fits program stack.top.frame.body stack.top.frame.next instr
      (slice_get program.bodies stack.top.frame.body) valid refl is;
  births = omega (arith, w.births);
  regions = omega (arith, w.regions);
  phase = omega (arith, w.phase);
}

-- so does one that is found
pub ready_if : (program : Raw) (stack : Stack) (o : Option Instr) → IsValid program → o
    ≡ instruction_at program stack.top.frame.body stack.top.frame.next
    → IfSome o (λ instr. NamesKnown program (slots_of program stack.top.frame.body) instr)
    → IsWithin (2 ^ 63) stack.top → IfSome o (λ instr. IsReady program stack instr)
ready_if program stack None valid e known w = tt
ready_if program stack (Some instr) valid e known w = ready program stack instr valid known (sym e) w
