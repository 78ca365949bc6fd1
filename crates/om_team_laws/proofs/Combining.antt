-- A step of RED that meets no fault combines the copy with the original, and changes no other variable.
use Rattle.std.proofs.Common.{◌≡◌, refl, sym, ◌∙◌, ap, ℕ, ℤ, ◌+◌, Bool, true, false, cond, None, Some}
use Rattle.std.proofs.Common.{List, [], ◌∷◌}
use Rattle.std.specs.Prelude.{Result, Ok, Err}
use Rattle.om_foot.specs.declared.object.Obj.{Obj}
use Rattle.om_foot.specs.declared.object.Obj.TheVariants as obj
use Rattle.om_foot.specs.declared.footprint.Access.{Access}
use Rattle.om_foot.specs.Footprint.{obj_eq}
use Rattle.om_foot.specs.Objects.{obj_eq-same, obj_eq-true}
use Rattle.om_code.specs.declared.frame.Cell as cells
use Rattle.om_code.specs.declared.frame.Cell.TheVariants as cell
use Rattle.om_code.specs.declared.frame.Fault.{Fault}
use Rattle.om_code.specs.declared.frame.Fault.TheVariants as fault
use Rattle.om_code.specs.declared.instruction.Instr.TheVariants as i
use Rattle.om_code.specs.declared.instruction.Place.{Place}
use Rattle.om_code.specs.declared.instruction.Place.TheVariants as place
use Rattle.om_code.specs.declared.instruction.Reduction.{Reduction}
use Rattle.om_code.specs.declared.instruction.Sharing.TheVariants as sharings
use Rattle.om_code.specs.declared.raw.Raw.{Raw}
use Rattle.om_code.specs.Arithmetic.{combine}
use Rattle.om_code.specs.Places.{instruction_at}
use Rattle.om_state.specs.declared.control.Control.TheVariants.{Running, Faulted}
use Rattle.om_state.specs.declared.control.Edit.TheVariants.{Go}
use Rattle.om_state.specs.declared.control.Stack.{Stack}
use Rattle.om_state.specs.declared.step.Choice.TheVariants.{Next}
use Rattle.om_state.specs.declared.step.Label.{Label}
use Rattle.om_state.specs.declared.step.Update.TheVariants.{Put, Keep}
use Rattle.om_state.specs.declared.value.Val.{Val}
use Rattle.om_state.specs.declared.value.Val.TheVariants as value
use Rattle.om_state.specs.Edits.{changed}
use Rattle.om_state.specs.Rules.{control_access, next_state, state_after_outcome, step_at}
use Rattle.om_state.specs.State.{State, state_after, updated}
use Rattle.om_state.specs.Values.{cell_in, control_in}
use Rattle.om_team_serial.specs.Objects.{object_of, read, write}
use Rattle.om_team_serial.specs.SerialRows.{put_combined, reduced}
use Rattle.om_task.specs.Rules.{outcome_after, rules_of}
use Rattle.om_task.specs.Shapes.{is_cell}
use Rattle.om_team_laws.specs.Reductions.{Combines}
use Rattle.om_team_laws.proofs.Asking.{at_instruction}
use Rattle.om_team_laws.proofs.Behind.{with_control, with_own}
use Rattle.om_team_laws.proofs.Traced.{none_left, skipped}

same_both : (b : Bool) (v : Val) → cond b v v ≡ v
same_both true v = refl
same_both false v = refl

module _ (program : Raw) (workers : ℕ) (l : Label) (stack other : Stack) (s t : State)
    (still : t (obj.Control l.worker) ≡ value.Control (Running other)) (r : Reduction) (copy : ℕ) (p : Place) where
  abbrev copied_at : Obj
  copied_at = object_of stack.top (place.Slot copy) 0

  abbrev original_at : Obj
  original_at = object_of stack.top p 0

  abbrev names : List Access
  names = control_access l ∷ read copied_at ∷ write original_at ∷ []

  abbrev to : ℕ
  to = stack.top.frame.next + 1

  -- it met no fault
  no_fault : (f : Fault) → updated names (Put (value.Control (Faulted f stack)) ∷ []) s ≡ t
      → Combines s t stack.top r copy p
  no_fault f e =
      let met : updated names (Put (value.Control (Faulted f stack)) ∷ []) s (obj.Control l.worker)
      ≡ value.Control (Faulted f stack) =
      none_left (read copied_at ∷ write original_at ∷ []) (with_control l (Faulted f stack) s) (obj.Control l.worker)
      ∙ with_own l (Faulted f stack) s in
      let here : t (obj.Control l.worker) ≡ value.Control (Faulted f stack) =
      ap (λ (u : State). u (obj.Control l.worker)) (sym e) ∙ met in
      let no : value.Control (Running other) ≡ value.Control (Faulted f stack) = sym still ∙ here in
      absurd cc

  abbrev after : ℤ → State
  after n = updated names (Put (value.Control (changed (Go to 0 None ∷ []) (Running stack))) ∷ Keep
      ∷ Put (value.Cell (cell.Int n)) ∷ []) s

  -- a variable's cell is no control
  unchanged : (n : ℤ) (q : Obj) → is_cell q ≡ true → (original_at ≡ q → ⊥) → after n q ≡ s q
  unchanged n q is differs = by q is (obj_eq original_at q) refl differs
    where
      old : (q : Obj) → is_cell q ≡ true
          → with_control l (changed (Go to 0 None ∷ []) (Running stack)) s q ≡ s q
      old (obj.Cell task frame slot index) e = refl
      old (obj.Global variable index) e = refl
      old (obj.Control w) e = cc
      old (obj.Task x) e = cc
      old (obj.Kids x) e = cc
      old (obj.Pending x k) e = cc
      old (obj.Arrived x k) e = cc
      old (obj.Work x k) e = cc
      old (obj.Lock k) e = cc
      old (obj.Group x) e = cc
      old obj.Output e = cc
      old (obj.Events w) e = cc

      by : (q : Obj) → is_cell q ≡ true → (b : Bool) → obj_eq original_at q ≡ b → (original_at ≡ q → ⊥)
          → after n q ≡ s q
      by q is true e differs = absurd (differs (obj_eq-true original_at q e))
      by q is false e differs =
          skipped (obj_eq original_at q) (value.Cell (cell.Int n)) _ e
          ∙ same_both (obj_eq copied_at q) (with_control l (changed (Go to 0 None ∷ []) (Running stack)) s q)
          ∙ old q is

  combined_here : (c o : ℤ) (result : Result ℤ Fault) → cell_in (s copied_at) ≡ cell.Int c
      → cell_in (s original_at) ≡ cell.Int o → combine r o c ≡ result
      → state_after_outcome names (outcome_after (Running stack) (put_combined to result)) s ≡ Some t
      → Combines s t stack.top r copy p
  combined_here c o (Ok n) has_copy had result is =
      let new : after n ≡ t = cc in
      record {
        copied = c;
        was = o;
        now = n;
        has_copy = has_copy;
        had = had;
        combined = result;
        put = ap (λ (u : State). u original_at) (sym new)
            ∙ ap (λ b. cond b (value.Cell (cell.Int n)) (state_after (read copied_at) Keep
            (with_control l (changed (Go to 0 None ∷ []) (Running stack)) s) original_at)) (obj_eq-same original_at);
        others = λ q at differs. ap (λ (u : State). u q) (sym new) ∙ unchanged n q at differs;
      }
  combined_here c o (Err f) has_copy had result is = no_fault f cc

  reduced_here : (copied original : cells.Cell) → cell_in (s copied_at) ≡ copied → cell_in (s original_at) ≡ original
      → state_after_outcome names (outcome_after (Running stack) (reduced to r copied original)) s ≡ Some t
      → Combines s t stack.top r copy p
  reduced_here cell.Dead original e f is = no_fault fault.Dead cc
  reduced_here cell.Unset cell.Dead e f is = no_fault fault.Dead cc
  reduced_here cell.Unset cell.Unset e f is = no_fault fault.Unset cc
  reduced_here cell.Unset (cell.Int v) e f is = no_fault fault.Unset cc
  reduced_here (cell.Int c) cell.Dead e f is = no_fault fault.Dead cc
  reduced_here (cell.Int c) cell.Unset e f is = no_fault fault.Unset cc
  reduced_here (cell.Int c) (cell.Int o) e f is = combined_here c o (combine r o c) e f refl is

  pub combines : s (obj.Control l.worker) ≡ value.Control (Running stack) → l.choice ≡ Next
      → instruction_at program stack.top.frame.body stack.top.frame.next
      ≡ Some (i.Sharing (sharings.Reduce r copy p)) → next_state (rules_of program workers) s l ≡ Some t
      → Combines s t stack.top r copy p
  unfolding step_at
  combines runs choice there is =
      reduced_here (cell_in (s copied_at)) (cell_in (s original_at)) refl refl
      (at_instruction program workers l stack s t (i.Sharing (sharings.Reduce r copy p))
      (control_in (s (obj.Control l.worker))) (ap control_in runs) choice there is)
