-- The number that updates put, and what is said of a step by its plan.
use Rattle.std.proofs.Common.{◌≡◌, refl, ap, sym, ◌∙◌, subst, ℕ, zero, suc, ◌+◌, List, [], ◌∷◌, ◌++◌, Option, None, Some}
use Rattle.std.proofs.Common.{ℤ, is_some, ◌≢◌, true, false}
use Rattle.std.specs.Prelude.{map, unwrap_or}
use Rattle.std.specs.Option.{option_or}
use Rattle.om_code.specs.declared.frame.Cell.{Cell}
use Rattle.om_code.specs.declared.frame.Cell.TheVariants as cell
use Rattle.om_code.specs.declared.frame.Fault.{Fault}
use Rattle.om_code.specs.declared.raw.Raw.{Raw}
use Rattle.om_foot.specs.declared.object.Obj.TheVariants as obj
use Rattle.om_state.specs.declared.step.Entry.{Entry}
use Rattle.om_state.specs.declared.step.Label.{Label}
use Rattle.om_state.specs.declared.step.Outcome.{Outcome}
use Rattle.om_state.specs.declared.step.Outcome.TheVariants as outcome
use Rattle.om_state.specs.declared.step.Step.{Step}
use Rattle.om_state.specs.declared.step.Update.{Update}
use Rattle.om_state.specs.declared.step.Update.TheVariants.{Put}
use Rattle.om_state.specs.declared.value.Run.{Run}
use Rattle.om_state.specs.declared.value.Val.TheVariants as value
use Rattle.om_state.specs.Changes.{step_of}
use Rattle.om_state.specs.Rules.{Rules, step_at, next_state, replay_from}
use Rattle.om_state.specs.Runs.{puts_of, runs_listed, run_puts}
use Rattle.om_state.specs.State.{State}
use Rattle.om_state.specs.Values.{control_in}
use Rattle.om_task.specs.declared.planned.Plan.{Plan}
use Rattle.om_task.specs.declared.planned.Plan.TheVariants as plan
use Rattle.om_undo_history.specs.declared.history.History as kept
use Rattle.om_undo_history.specs.declared.reply.StepReply.{StepReply}
use Rattle.om_undo_history.specs.Laws.{updates_of}
use Rattle.om_undo_history.specs.Pasts.{past_in, history_in, IsHeld}
use Rattle.om_undo_history.specs.Runs.{fault_of, label_of, reply_for, reply_to_step, state_after_step, state_of_entries}
use Rattle.om_undo.specs.Machines.{IsPlan, PlansAt}
use Rattle.lab_graph.specs.declared.traced.Traced.{Traced}
use Rattle.lab_replay.specs.Manners.{manner_at}
use Rattle.lab_replay.specs.Said.{AreSaidFrom, IsFaultOf, IsSaidOf, TellsNumber, fault_in, first_number, number_by}
use Rattle.lab_replay.specs.Said.{number_of, number_of_cell}
use Rattle.lab_replay.proofs.Replays.{Then, replays_to, same_state, then_by}

-- ---- numbers among updates

or_assoc : (a b c : Option ℤ) → option_or (option_or a b) c ≡ option_or a (option_or b c)
or_assoc None b c = refl
or_assoc (Some n) b c = refl

-- the first number of updates and of others behind them
pub first_of : (us vs : List Update) → first_number (us ++ vs) ≡ option_or (first_number us) (first_number vs)
first_of [] vs = refl
first_of (u ∷ us) vs =
    ap (option_or (number_of u)) (first_of us vs)
    ∙ sym (or_assoc (number_of u) (first_number us) (first_number vs))

first_of_puts : (c : Cell) (n : ℕ) → first_number (puts_of c (suc n)) ≡ number_of_cell c
first_of_puts (cell.Int k) n = refl
first_of_puts cell.Unset zero = refl
first_of_puts cell.Unset (suc n) = first_of_puts cell.Unset n
first_of_puts cell.Dead zero = refl
first_of_puts cell.Dead (suc n) = first_of_puts cell.Dead n

-- a run of some cells puts the number of its value
pub first_of_run : (c : Cell) (n : ℕ) → n ≢ 0 → first_number (puts_of c n) ≡ number_of_cell c
first_of_run c zero some = absurd (some refl)
first_of_run c (suc n) some = first_of_puts c n

-- updates in three parts
pub first_of_three : (all us vs ws : List Update) → all ≡ us ++ (vs ++ ws)
    → option_or (option_or (first_number us) (first_number vs)) (first_number ws) ≡ first_number all
first_of_three all us vs ws is =
    or_assoc (first_number us) (first_number vs) (first_number ws)
    ∙ ap (option_or (first_number us)) (sym (first_of vs ws)) ∙ sym (first_of us (vs ++ ws)) ∙ ap first_number (sym is)

-- what is left of runs begins with one, which puts a number or leaves that to the others
pub run_found : (runs left : List Run) (r : Run) (number all : Option ℤ) → runs ≡ r ∷ left
    → first_number (runs_listed runs) ≡ all → number ≡ first_number (run_puts r) → is_some number ≡ true
    → number ≡ all
run_found runs left r None all split is one some = cc
run_found runs left r (Some n) all split is one some =
    ap (λ o. option_or o (first_number (runs_listed left))) one ∙ sym (first_of (run_puts r) (runs_listed left))
    ∙ ap (λ l. first_number (runs_listed l)) (sym split) ∙ is

pub run_passed : (runs left : List Run) (r : Run) (number all : Option ℤ) → runs ≡ r ∷ left
    → first_number (runs_listed runs) ≡ all → number ≡ first_number (run_puts r) → is_some number ≡ false
    → first_number (runs_listed left) ≡ all
run_passed runs left r (Some n) all split is one none = cc
run_passed runs left r None all split is one none =
    ap (λ o. option_or o (first_number (runs_listed left))) one ∙ sym (first_of (run_puts r) (runs_listed left))
    ∙ ap (λ l. first_number (runs_listed l)) (sym split) ∙ is

-- ---- what is said of a step

-- the number of a planned step is that of its plan
number_planned : (r : Rules) (s : State) (l : Label) (p : Plan) → PlansAt r l s p
    → number_by p ≡ first_number (updates_of (step_at r s l).outcome)
number_planned r s l (plan.Updates change) is =
    sym (ap (λ (d : Step). first_number (updates_of d.outcome)) is)
number_planned r s l (plan.Blocked b) is = sym (ap (λ (o : Outcome). first_number (updates_of o)) is)
number_planned r s l plan.Ended is = sym (ap (λ (o : Outcome). first_number (updates_of o)) is)

pub said_of : (program : Raw) (r : Rules) (h : kept.History) (l : Label) (p : Plan) (number : Option ℤ)
    (fault : Option Fault) (t : Traced) → IsPlan r h l p → number ≡ number_by p → IsFaultOf h l p fault
    → t.is_fault ≡ is_some fault → TellsNumber number fault t.value → t.manner ≡ manner_at program (past_in h).state l
    → IsSaidOf program r (past_in h).state l t
said_of program r h l p number fault t planned is faulted told value manner =
    let d : Step = step_at r (past_in h).state l in
    let same : number ≡ first_number (updates_of d.outcome) =
    is ∙ number_planned r (past_in h).state l p planned.planned in
    let met : fault ≡ fault_of (updates_of d.outcome) = faulted r planned in
    record {
      is_fault = told ∙ ap is_some met;
      value = subst (λ f. TellsNumber (first_number (updates_of d.outcome)) f t.value) met
          (subst (λ n. TellsNumber n fault t.value) same value);
      manner = manner;
    }

fault_for : (serial line : ℕ) (o : Outcome) → fault_in (reply_for serial line o) ≡ fault_of (updates_of o)
fault_for serial line (outcome.Updates us) = refl
fault_for serial line (outcome.Blocked b) = refl
fault_for serial line outcome.Ended = refl

-- the fault that a step's reply tells
pub fault_told : (r : Rules) (h : kept.History) (l : Label) (reply : StepReply) → IsHeld r h
    → reply ≡ reply_to_step r (history_in h) l
    → fault_in reply ≡ fault_of (updates_of (step_at r (past_in h).state l).outcome)
fault_told r h l reply held is =
    let s : State = state_of_entries r (history_in h).entries in
    let same : s ≡ (past_in h).state =
    ap (λ o. unwrap_or o r.start) (replays_to r r.start (past_in h).records (past_in h).state held.past.replays) in
    ap fault_in is
    ∙ fault_for ((history_in h).made + 1) (step_at r s l).line (step_at r s l).outcome
    ∙ ap (λ (t : State). fault_of (updates_of (step_at r t l).outcome)) same

-- ---- entries in turn

-- what is said of entries, and of one more
pub said_more : (program : Raw) (r : Rules) (from s : State) (es : List Entry) (ts : List Traced) (e : Entry) (t : Traced)
    → replay_from r from (map label_of es) ≡ Some s → AreSaidFrom program r from es ts
    → IsSaidOf program r s (label_of e) t → AreSaidFrom program r from (es ++ e ∷ []) (ts ++ t ∷ [])
said_more program r from s [] [] e t h said one = (subst (λ x. IsSaidOf program r x (label_of e) t) (sym (same_state from s h)) one, tt)
said_more program r from s [] (y ∷ ys) e t h said one = absurd said
said_more program r from s (x ∷ xs) [] e t h said one = absurd said
said_more program r from s (x ∷ xs) (y ∷ ys) e t h said one =
    let f : State → Option State = λ q. replay_from r q (map label_of xs) in
    let z : Then r (next_state r from (label_of x)) f s = then_by r (next_state r from (label_of x)) f s h in
    let next : state_after_step r from (label_of x) ≡ z.mid = ap (λ o. unwrap_or o from) z.first in (
      said.0,
      subst (λ q. AreSaidFrom program r q (xs ++ e ∷ []) (ys ++ t ∷ [])) (sym next)
          (said_more program r z.mid s xs ys e t z.rest (subst (λ q. AreSaidFrom program r q xs ys) next said.1) one),
    )
