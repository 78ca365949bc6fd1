-- What a plan says of the step that it stands for.
use Rattle.std.proofs.Common.{◌≡◌, ap, sym, ◌∙◌, subst, ◌+◌, ℕ, true, false, Option, None, Some, List}
use Rattle.std.specs.Prelude.{unwrap_or, Result, Ok, Err, IfOk, OnOk, OnErr}
use Rattle.std.specs.Global.{Box}
use Rattle.om_foot.specs.declared.object.Obj.TheVariants as obj
use Rattle.om_state.specs.declared.step.Blocked.{Blocked}
use Rattle.om_state.specs.declared.step.Change.{Change}
use Rattle.om_state.specs.declared.step.Choice.{Choice}
use Rattle.om_state.specs.declared.step.Label.{Label}
use Rattle.om_state.specs.declared.step.Outcome.{Outcome}
use Rattle.om_state.specs.declared.step.Outcome.TheVariants as outcome
use Rattle.om_state.specs.declared.step.Step.{Step}
use Rattle.om_state.specs.Edits.{HaveRoom}
use Rattle.om_state.specs.Rules.{Rules, step_at}
use Rattle.om_state.specs.State.{State}
use Rattle.om_state.specs.Values.{control_in}
use Rattle.om_task.specs.declared.planned.Plan.{Plan}
use Rattle.om_task.specs.declared.planned.Plan.TheVariants as plan
use Rattle.om_task.specs.Plans.{PlanHasRoom}
use Rattle.om_undo_history.specs.declared.history.History as kept
use Rattle.om_undo_history.specs.declared.reply.StepReply.{StepReply}
use Rattle.om_undo_history.specs.declared.reply.StepReply.TheVariants as step_reply
use Rattle.om_undo_history.specs.Choices.{choice_of, label_by}
use Rattle.om_undo_history.specs.Runs.{entry_for, reply_for, history_with, reply_to_step, after_step}
use Rattle.om_undo_history.specs.Runs.{state_of_entries}
use Rattle.om_undo_history.specs.Pasts.{past_in, history_in, IsHeld, IsPlanned, IsReplay, Stays, step_for}
use Rattle.om_undo_history.specs.Replayed.{ReplaysTo-replay}
use Rattle.om_code.specs.declared.raw.Raw.{Raw}
use Rattle.om_task.specs.Rules.{rules_of}
use Rattle.om_undo.specs.Machines.{IsPlan, MachineView, PlansAt, RepliesToPlan, TakesPlan, rules_for, state_in}
use Rattle.om_undo.specs.PlannedSteps.{IsPlanAt, PlannedView, footprint_if_made, if_updates, is_made, planned_at, touched_if_made}
use Rattle.om_undo.proofs.Views.{view_of}

-- where a plan with a change is made, the step that the change stands for is planned
pub is_planned : (r : Rules) (h : kept.History) (l : Label) (p : Plan) (change : Change) → p ≡ plan.Updates change
    → IsPlan r h l p → IsPlanned r h l (step_for l change h)
is_planned r h l p change e is = (is.held, sym (subst (PlansAt r l (past_in h).state) e is.planned))

-- and its edits have room
pub has_room : (r : Rules) (h : kept.History) (l : Label) (p : Plan) (change : Change) → p ≡ plan.Updates change
    → IsPlan r h l p → HaveRoom change.edits (control_in ((past_in h).state (obj.Control l.worker)))
has_room r h l p change e is = subst (PlanHasRoom (control_in ((past_in h).state (obj.Control l.worker)))) e is.room

pub blocked_reply : (r : Rules) (h : kept.History) (l : Label) (p : Plan) (b : Blocked) → p ≡ plan.Blocked b
    → IsPlan r h l p → step_reply.Blocked b ≡ reply_to_step r (history_in h) l
blocked_reply r h l p b e is =
    let s : State = state_of_entries r (history_in h).entries in
    sym (ap (reply_for ((history_in h).made + 1) (step_at r s l).line) (subst (PlansAt r l s) e is.replayed))

pub blocked_after : (r : Rules) (h : kept.History) (l : Label) (p : Plan) (b : Blocked) → p ≡ plan.Blocked b
    → IsPlan r h l p → history_in h ≡ after_step r (history_in h) l
blocked_after r h l p b e is =
    let s : State = state_of_entries r (history_in h).entries in
    sym (ap (history_with (history_in h) (entry_for (history_in h).made l (step_at r s l)))
    (subst (PlansAt r l s) e is.replayed))

pub ended_reply : (r : Rules) (h : kept.History) (l : Label) (p : Plan) → p ≡ plan.Ended → IsPlan r h l p
    → step_reply.Ended ≡ reply_to_step r (history_in h) l
ended_reply r h l p e is =
    let s : State = state_of_entries r (history_in h).entries in
    sym (ap (reply_for ((history_in h).made + 1) (step_at r s l).line) (subst (PlansAt r l s) e is.replayed))

pub ended_after : (r : Rules) (h : kept.History) (l : Label) (p : Plan) → p ≡ plan.Ended → IsPlan r h l p
    → history_in h ≡ after_step r (history_in h) l
ended_after r h l p e is =
    let s : State = state_of_entries r (history_in h).entries in
    sym (ap (history_with (history_in h) (entry_for (history_in h).made l (step_at r s l)))
    (subst (PlansAt r l s) e is.replayed))

-- the plan at the state of a history's store is the plan there
pub is_plan : (r : Rules) (h : kept.History) (l : Label) (s : State) (p : Plan) → IsHeld r h → s ≡ (past_in h).state
    → IsReplay h s → PlansAt r l s p → PlanHasRoom (control_in (s (obj.Control l.worker))) p → IsPlan r h l p
is_plan r h l s p held state replays is room = record {
  held = held;
  planned = subst (λ t. PlansAt r l t p) state is;
  replayed = subst (λ t. PlansAt r l t p) (sym (ap (λ o. unwrap_or o r.start) (replays r held))) is;
  room = subst (λ (t : State). PlanHasRoom (control_in (t (obj.Control l.worker))) p) state room;
}

-- the state of a history that is held is the replay of its entries
state_of_past : (r : Rules) (h : kept.History) → IsHeld r h
    → (past_in h).state ≡ state_of_entries r (history_in h).entries
state_of_past r h held = sym (ap (λ o. unwrap_or o r.start)
    (ReplaysTo-replay r r.start (past_in h).records (past_in h).state held.past.replays))

-- the plan where a machine's history stands is the plan at that machine
pub plan_at : (program : Raw) (workers : ℕ) (h : kept.History) (m : MachineView) (l : Label) (p : Plan)
    → view_of program workers (history_in h) ≡ m → IsPlan (rules_of program workers) h l p → IsPlanAt m l p
plan_at program workers h m l p seen is = subst (λ (x : MachineView). IsPlanAt x l p) seen (record {
  planned = is.replayed;
  room = subst (λ (t : State). PlanHasRoom (control_in (t (obj.Control l.worker))) p)
      (state_of_past (rules_of program workers) h is.held) is.room;
})

-- and the plan at a machine is the plan where its history stands
pub plan_of : (program : Raw) (workers : ℕ) (h : kept.History) (m : MachineView) (l : Label) (p : Plan)
    → view_of program workers (history_in h) ≡ m → IsHeld (rules_of program workers) h → IsPlanAt m l p
    → IsPlan (rules_of program workers) h l p
plan_of program workers h m l p seen held is =
    let r : Rules = rules_of program workers in
    let at : IsPlanAt (view_of program workers (history_in h)) l p =
    subst (λ (x : MachineView). IsPlanAt x l p) (sym seen) is in
    let same : (past_in h).state ≡ state_of_entries r (history_in h).entries = state_of_past r h held in
    record {
      held = held;
      planned = subst (λ (t : State). PlansAt r l t p) (sym same) at.planned;
      replayed = at.planned;
      room = subst (λ (t : State). PlanHasRoom (control_in (t (obj.Control l.worker))) p) (sym same) at.room;
    }

-- a worker's label by a choice that is kept
pub label_is : (worker : ℕ) (start : Option (Box (List ℕ))) (x : Choice) → choice_of start ≡ x
    → label_by worker start ≡ record { worker = worker; choice = x }
label_is worker start x is = ap (λ (y : Choice). let l : Label = record { worker = worker; choice = y } in l) is

-- what was planned at a machine is the plan where its history stands, by a label that is the step's
pub plan_taken : (program : Raw) (workers : ℕ) (h : kept.History) (m at : MachineView) (l k : Label) (p : Plan)
    (v : PlannedView) → view_of program workers (history_in h) ≡ m → IsHeld (rules_of program workers) h
    → planned_at at l ≡ v → v.machine ≡ m → IsPlanAt at l p → k ≡ l
    → IsPlan (rules_of program workers) h k p × (k ≡ v.label)
plan_taken program workers h m at l k p v seen held view planned is same =
    let here : IsPlanAt m l p =
    subst (λ (x : MachineView). IsPlanAt x l p) (ap (λ (w : PlannedView). w.machine) view ∙ planned) is in (
      subst (λ (j : Label). IsPlan (rules_of program workers) h j p) (sym same)
          (plan_of program workers h m l p seen held here),
      same ∙ ap (λ (w : PlannedView). w.label) view,
    )

-- what is replied where a plan is taken is the reply at the machine
pub replied_at : {E : Type 0} (result : Result StepReply E) (program : Raw) (workers : ℕ) (h : kept.History)
    (m : MachineView) (k l : Label) (p : Plan) → view_of program workers (history_in h) ≡ m → k ≡ l
    → IsPlan (rules_of program workers) h k p → IfOk result (RepliesToPlan k p h)
    → IfOk result (λ x. x ≡ reply_to_step (rules_for m) m.history l)
replied_at (Ok x) program workers h m k l p seen same is replies =
    replies (rules_of program workers) is
    ∙ ap (reply_to_step (rules_of program workers) (history_in h)) same
    ∙ ap (λ (v : MachineView). reply_to_step (rules_for v) v.history l) seen
replied_at (Err e) program workers h m k l p seen same is replies = tt

-- whatever comes of taking a plan, the history is held
pub held_after : {T E : Type 0} (result : Result T E) (r : Rules) (old new : kept.History) (l : Label) (p : Plan)
    → OnOk result (TakesPlan l p old new) → OnErr result (Stays old new) → IsPlan r old l p → IsHeld r new
held_after (Ok x) r old new l p takes stays is = (takes r is).1
held_after (Err e) r old new l p takes stays is = stays.1 r is.held

-- whether a step is made is read from its plan

pub made_by_updates : (m : MachineView) (l : Label) (p : Plan) (change : Change) → p ≡ plan.Updates change
    → IsPlanAt m l p → true ≡ is_made (reply_to_step (rules_for m) m.history l)
made_by_updates m l p change e is =
    let s : State = state_in m in
    sym (ap (λ (d : Step). is_made (reply_for (m.history.made + 1) d.line d.outcome))
    (subst (PlansAt (rules_for m) l s) e is.planned))

pub not_made_by_blocked : (m : MachineView) (l : Label) (p : Plan) (b : Blocked) → p ≡ plan.Blocked b
    → IsPlanAt m l p → false ≡ is_made (reply_to_step (rules_for m) m.history l)
not_made_by_blocked m l p b e is =
    let s : State = state_in m in
    sym (ap (λ (o : Outcome). is_made (reply_for (m.history.made + 1) (step_at (rules_for m) s l).line o))
    (subst (PlansAt (rules_for m) l s) e is.planned))

pub not_made_by_ended : (m : MachineView) (l : Label) (p : Plan) → p ≡ plan.Ended
    → IsPlanAt m l p → false ≡ is_made (reply_to_step (rules_for m) m.history l)
not_made_by_ended m l p e is =
    let s : State = state_in m in
    sym (ap (λ (o : Outcome). is_made (reply_for (m.history.made + 1) (step_at (rules_for m) s l).line o))
    (subst (PlansAt (rules_for m) l s) e is.planned))

-- and so is what it touches

pub touched_by_updates : (m : MachineView) (l : Label) (p : Plan) (change : Change) → p ≡ plan.Updates change
    → IsPlanAt m l p → Some change.footprint ≡ touched_if_made m l
touched_by_updates m l p change e is =
    sym (ap footprint_if_made (subst (PlansAt (rules_for m) l (state_in m)) e is.planned))

pub untouched_by_blocked : (m : MachineView) (l : Label) (p : Plan) (b : Blocked) → p ≡ plan.Blocked b
    → IsPlanAt m l p → None ≡ touched_if_made m l
untouched_by_blocked m l p b e is =
    let d : Step = step_at (rules_for m) (state_in m) l in
    sym (ap (if_updates d.footprint) (subst (PlansAt (rules_for m) l (state_in m)) e is.planned))

pub untouched_by_ended : (m : MachineView) (l : Label) (p : Plan) → p ≡ plan.Ended
    → IsPlanAt m l p → None ≡ touched_if_made m l
untouched_by_ended m l p e is =
    let d : Step = step_at (rules_for m) (state_in m) l in
    sym (ap (if_updates d.footprint) (subst (PlansAt (rules_for m) l (state_in m)) e is.planned))
