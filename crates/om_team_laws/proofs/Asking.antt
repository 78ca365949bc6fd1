-- A member that asks for a further chunk of a loop with a dynamic schedule, or for a section, gets one, or all are given
-- out.
use Rattle.std.proofs.Common.{◌≡◌, refl, sym, ◌∙◌, ap, subst, ℕ, suc, ◌+◌, ◌<◌, ◌≤◌, arith, Bool, true, false}
use Rattle.std.proofs.Common.{◌&&◌, if◌then◌else◌, Option, None, Some, [], ◌∷◌, ◌⊎◌, inl, inr}
use Rattle.std.specs.Prelude.{min, nat_lt}
use Rattle.std.proofs.lemmas.Bool.{lt-ltb, ltb-false}
use Rattle.om_foot.specs.declared.object.Obj.TheVariants as obj
use Rattle.om_code.specs.declared.instruction.Instr.{Instr}
use Rattle.om_code.specs.declared.instruction.Instr.TheVariants as i
use Rattle.om_code.specs.declared.instruction.Schedule.{Schedule}
use Rattle.om_code.specs.declared.instruction.Schedule.TheVariants as schedule
use Rattle.om_code.specs.declared.instruction.Sharing.TheVariants as sharings
use Rattle.om_code.specs.declared.raw.Raw.{Raw}
use Rattle.om_code.specs.Places.{instruction_at}
use Rattle.om_state.specs.declared.control.Control as controls
use Rattle.om_state.specs.declared.control.Control.TheVariants.{Running}
use Rattle.om_state.specs.declared.control.Edit.TheVariants.{Replace}
use Rattle.om_state.specs.declared.control.Share.{Share}
use Rattle.om_state.specs.declared.control.Stack.{Stack}
use Rattle.om_state.specs.declared.step.Choice.TheVariants.{Next}
use Rattle.om_state.specs.declared.step.Label.{Label}
use Rattle.om_state.specs.declared.step.Update.TheVariants.{Put}
use Rattle.om_state.specs.declared.value.Val.TheVariants as value
use Rattle.om_state.specs.Rules.{control_access, next_state, state_after_outcome, step_at}
use Rattle.om_state.specs.State.{State, values_read}
use Rattle.om_state.specs.Values.{control_in}
use Rattle.om_team_serial.specs.Objects.{write}
use Rattle.om_team_serial.specs.Rows.{Asked}
use Rattle.om_team_serial.specs.Sites.{Site, next, site}
use Rattle.om_team_worksharing.specs.declared.chunk.Chunk.{Chunk}
use Rattle.om_team_worksharing.specs.Chunks.{chunk_within}
use Rattle.om_team_worksharing.specs.Rows.{chunk_row, edits, given_row, grab_row, in_chunk, share_in}
use Rattle.om_task.specs.Rules.{choice_row, further_in, outcome_after, row_in, rules_of}
use Rattle.om_team_laws.specs.Works.{given_out}
use Rattle.om_team_laws.proofs.Cases.{behind}
use Rattle.om_team_laws.proofs.Works.{chunk_rises, put_here, put_there}

-- the chunk from a first iteration on, where there is one
abbrev further : (count first size : ℕ) → Bool → Option Chunk
further count first size left = if left then Some (record { first = first; end = min (first + size) count }) else None

-- where there is none nothing is left
none_left : (count first size : ℕ) → chunk_within count first (suc size) ≡ None → count ≤ first
none_left count first size e = by (nat_lt first count) refl e
  where
    by : (b : Bool) → nat_lt first count ≡ b → further count first (suc size) (nat_lt 0 (suc size) && b) ≡ None
        → count ≤ first
    by true is e =
        let some : nat_lt 0 (suc size) ≡ true = lt-ltb 0 (suc size) (omega arith) in
        let no : further count first (suc size) true ≡ None =
        sym (ap (λ b. further count first (suc size) (b && true)) some) ∙ e in
        absurd cc
    by false is e = ltb-false first count is

module _ (program : Raw) (workers : ℕ) (l : Label) (stack : Stack) (s t : State) where
  abbrev pub here : Site
  here = site program workers l.worker stack

  -- what is asked leads to this state
  abbrev pub Made : Asked → Type 0
  Made a = state_after_outcome (control_access l ∷ a.names)
      (outcome_after (Running stack) (a.row (values_read a.names s))) s ≡ Some t

  abbrev pub MadeBy : controls.Control → Type 0
  MadeBy c = state_after_outcome (control_access l ∷ further_in program workers l c)
      (outcome_after c (row_in program workers l c (values_read (further_in program workers l c) s))) s ≡ Some t

  -- the step of a worker that runs, by its next instruction
  pub at_instruction : (instr : Instr) (c : controls.Control) → c ≡ Running stack → l.choice ≡ Next
      → instruction_at program stack.top.frame.body stack.top.frame.next ≡ Some instr → MadeBy c
      → Made (choice_row here (Some instr) Next)
  at_instruction instr c runs choice there is =
      subst (λ o. Made (choice_row here o Next)) there
      (subst (λ x. Made (choice_row here (instruction_at program stack.top.frame.body stack.top.frame.next) x)) choice
      (subst MadeBy runs is))

  module _ (share : Share) (size : ℕ) where
    abbrev Gets : Type 0
    Gets = (given_out s stack.top.team.name share.region < given_out t stack.top.team.name share.region)
        ⊎ (share.count ≤ given_out s stack.top.team.name share.region)

    given_gets : (otherwise : ℕ) (chunk : Option Chunk)
        → chunk_within share.count (given_out s stack.top.team.name share.region) (suc size) ≡ chunk
        → state_after_outcome (control_access l ∷ write (obj.Work stack.top.team.name share.region) ∷ [])
        (outcome_after (Running stack) (given_row (next here) otherwise share chunk)) s ≡ Some t → Gets
    given_gets otherwise None e is = inr (none_left share.count (given_out s stack.top.team.name share.region) size e)
    given_gets otherwise (Some chunk) e is =
        let es = edits (next here) 0 (Replace (in_chunk share share.taken chunk)) in
        let up = chunk_rises share.count (given_out s stack.top.team.name share.region) (suc size) chunk e in
        let more : given_out s stack.top.team.name share.region < chunk.end = up.ends in
        let new : behind l stack s (write (obj.Work stack.top.team.name share.region) ∷ []) es
        (Put (value.Number chunk.end) ∷ []) ≡ t = cc in
        let now : given_out t stack.top.team.name share.region ≡ chunk.end =
        ap (λ u. given_out u stack.top.team.name share.region) (sym new)
        ∙ put_there l stack s stack.top.team.name share.region stack.top.team.name share.region chunk.end [] es [] tt
        ∙ put_here s stack.top.team.name share.region chunk.end in
        inl (omega (arith, more, now))

    pub gets_or_none : (otherwise : ℕ) → s (obj.Control l.worker) ≡ value.Control (Running stack) → l.choice ≡ Next
        → instruction_at program stack.top.frame.body stack.top.frame.next
        ≡ Some (i.Sharing (sharings.Grab otherwise)) → share_in stack.top ≡ Some share
        → share.schedule ≡ schedule.Dynamic (suc size) → next_state (rules_of program workers) s l ≡ Some t → Gets
    unfolding step_at
    gets_or_none otherwise runs choice there has dynamic is =
        given_gets otherwise
        (chunk_within share.count (given_out s stack.top.team.name share.region) (suc size)) refl
        (subst (λ (x : Schedule). Made (chunk_row (next here) otherwise stack.top share x)) dynamic
        (subst (λ (o : Option Share). Made (grab_row (next here) otherwise stack.top o)) has
        (at_instruction (i.Sharing (sharings.Grab otherwise)) (control_in (s (obj.Control l.worker))) (ap control_in runs)
        choice there is)))
