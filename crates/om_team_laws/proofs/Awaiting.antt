-- A step that goes on from a `taskwait`, or from the end of a task group, finds that no task is left.
use Rattle.std.proofs.Common.{◌≡◌, refl, ap, subst, ℕ, pos, Bool, true, false, Option, Some, List, [], ◌∷◌}
use Rattle.om_foot.specs.declared.footprint.Access.{Access}
use Rattle.om_foot.specs.declared.object.Obj.TheVariants as obj
use Rattle.om_code.specs.declared.instruction.Instr.TheVariants as i
use Rattle.om_code.specs.declared.instruction.Task.TheVariants as taskings
use Rattle.om_code.specs.declared.raw.Raw.{Raw}
use Rattle.om_code.specs.Places.{instruction_at}
use Rattle.om_state.specs.declared.control.Control.TheVariants.{Running}
use Rattle.om_state.specs.declared.control.Stack.{Stack}
use Rattle.om_state.specs.declared.step.Choice.TheVariants.{Next}
use Rattle.om_state.specs.declared.step.Label.{Label}
use Rattle.om_state.specs.declared.value.Val.TheVariants as value
use Rattle.om_state.specs.Rules.{control_access, next_state, state_after_outcome, step_at}
use Rattle.om_state.specs.State.{State}
use Rattle.om_state.specs.Values.{control_in, count_in}
use Rattle.om_team_serial.specs.Objects.{events, innermost, read}
use Rattle.om_team_serial.specs.Rows.{is_zero}
use Rattle.om_team_serial.specs.Sites.{next}
use Rattle.om_task.specs.Rows.{closed, closed_row, waited}
use Rattle.om_task.specs.Rules.{outcome_after, rules_of}
use Rattle.om_task.specs.Tasks.{innermost_group}
use Rattle.om_team_laws.proofs.Asking.{Made, at_instruction, here}
use Rattle.om_team_laws.proofs.Waiting.{zero_count}

module _ (program : Raw) (workers : ℕ) (l : Label) (stack : Stack) (s t : State) where
  waited_finds : (P : Type 0) (names : List Access) (to : ℕ) (over : Bool) → (over ≡ true → P)
      → state_after_outcome (control_access l ∷ names) (outcome_after (Running stack) (waited to stack.top over)) s ≡ Some t
      → P
  waited_finds P names to true h is = h refl
  waited_finds P names to false h is = cc

  closed_finds : (P : Type 0) (names : List Access) (to : ℕ) (over : Bool) → (over ≡ true → P)
      → state_after_outcome (control_access l ∷ names) (outcome_after (Running stack) (closed to stack.top over)) s ≡ Some t
      → P
  closed_finds P names to true h is = h refl
  closed_finds P names to false h is = cc

  pub no_child_left : s (obj.Control l.worker) ≡ value.Control (Running stack) → l.choice ≡ Next
      → instruction_at program stack.top.frame.body stack.top.frame.next ≡ Some (i.Task taskings.WaitEnd)
      → next_state (rules_of program workers) s l ≡ Some t → count_in (s (obj.Kids stack.top.task)) ≡ pos 0
  unfolding step_at
  no_child_left runs choice there is =
      waited_finds (count_in (s (obj.Kids stack.top.task)) ≡ pos 0) (read (obj.Kids stack.top.task) ∷ events l.worker ∷ [])
      (next (here program workers l stack s t)) (is_zero (count_in (s (obj.Kids stack.top.task))))
      (λ over. zero_count (count_in (s (obj.Kids stack.top.task))) over)
      (at_instruction program workers l stack s t (i.Task taskings.WaitEnd) (control_in (s (obj.Control l.worker)))
      (ap control_in runs) choice there is)

  pub no_task_left : (group : List ℕ) → s (obj.Control l.worker) ≡ value.Control (Running stack) → l.choice ≡ Next
      → instruction_at program stack.top.frame.body stack.top.frame.next ≡ Some (i.Task taskings.GroupEnd)
      → innermost_group (innermost stack.top.constructs) ≡ Some group
      → next_state (rules_of program workers) s l ≡ Some t → count_in (s (obj.Group group)) ≡ pos 0
  unfolding step_at
  no_task_left group runs choice there has is =
      closed_finds (count_in (s (obj.Group group)) ≡ pos 0) (read (obj.Group group) ∷ events l.worker ∷ [])
      (next (here program workers l stack s t)) (is_zero (count_in (s (obj.Group group))))
      (λ over. zero_count (count_in (s (obj.Group group))) over)
      (subst (λ (o : Option (List ℕ)). Made program workers l stack s t
      (closed_row l.worker (next (here program workers l stack s t)) stack.top o)) has
      (at_instruction program workers l stack s t (i.Task taskings.GroupEnd) (control_in (s (obj.Control l.worker)))
      (ap control_in runs) choice there is))
