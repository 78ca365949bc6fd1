-- Every state of a run stands, with the cells of frames that ran.
use Rattle.std.proofs.Common.{◌≡◌, refl, sym, ◌∙◌, ap, subst, ℕ, ◌≤◌, List, [], ◌∷◌, ◌++◌, Option, None, Some, append_assoc}
use Rattle.std.specs.Prelude.{IsSomeAnd}
use Rattle.om_foot.specs.declared.object.Obj.TheVariants as obj
use Rattle.om_code.specs.declared.raw.Raw.{Raw}
use Rattle.om_code.specs.declared.raw.Slot.{Slot}
use Rattle.om_code.specs.declared.raw.Source.TheVariants.{Own}
use Rattle.om_code.specs.Validity.{IsValid}
use Rattle.om_state.specs.declared.control.Control.TheVariants.{Idle, Running, Faulted, Ended}
use Rattle.om_state.specs.declared.step.Label.{Label}
use Rattle.om_state.specs.declared.value.Val.{Val}
use Rattle.om_state.specs.declared.value.Val.TheVariants as value
use Rattle.om_state.specs.Rules.{Rules, next_state, and_then, replay, replay_from}
use Rattle.om_state.specs.State.{State}
use Rattle.om_state.specs.Values.{control_in}
use Rattle.om_task.specs.Rules.{rules_of}
use Rattle.om_soundness.specs.Laws.{StepsStand}
use Rattle.om_soundness.specs.Running.{HasRun}
use Rattle.om_soundness.specs.Standing.{IsStanding}
use Rattle.om_soundness.proofs.Homes.{WorkerHasOwn, WorkersHaveOwn}

then_more : (o : Option State) (f g : State → Option State) (s u : State)
    → ((v : State) → f v ≡ Some s → g v ≡ Some u) → and_then o f ≡ Some s → and_then o g ≡ Some u
then_more None f g s u h e = cc
then_more (Some v) f g s u h e = h v e

-- a replay with one more step
replay_more : (r : Rules) (xs : List Label) (l : Label) (a s u : State) → replay_from r a xs ≡ Some s
    → next_state r s l ≡ Some u → replay_from r a (xs ++ l ∷ []) ≡ Some u
replay_more r [] l a s u e n =
    let same : a ≡ s = cc in
    let last : next_state r a l ≡ Some u = subst (λ x. next_state r x l ≡ Some u) (sym same) n in
    ap (λ o. and_then o (λ t. Some t)) last
replay_more r (x ∷ xs) l a s u e n =
    then_more (next_state r a x) (λ v. replay_from r v xs) (λ v. replay_from r v (xs ++ l ∷ [])) s u
    (λ v is. replay_more r xs l v s u is n) e

module _ (program : Raw) (workers : ℕ) (all : List Label) where
  -- what runs in a state of a run has run
  worker_own : (before after : List Label) (s : State) (worker : ℕ) (v : Val) → before ++ after ≡ all
      → replay (rules_of program workers) before ≡ Some s → s (obj.Control worker) ≡ v
      → WorkerHasOwn program (HasRun program workers all) (control_in v)
  worker_own before after s worker (value.Control (Running stack)) parts reached is =
      λ number slot found own. record {
        before = before;
        after = after;
        parts = parts;
        state = s;
        reached = reached;
        worker = worker;
        stack = stack;
        runs = is;
        named = refl;
        numbered = refl;
        has =
            subst (λ (o : Option Slot). IsSomeAnd o (λ x. (x.source ≡ Own) × (x.cells ≡ slot.cells))) (sym found)
            (own, refl);
      }
  worker_own before after s worker (value.Control Idle) parts reached is = tt
  worker_own before after s worker (value.Control (Faulted fault stack)) parts reached is = tt
  worker_own before after s worker (value.Control (Ended result)) parts reached is = tt
  worker_own before after s worker (value.Task t) parts reached is = tt
  worker_own before after s worker (value.Cell c) parts reached is = tt
  worker_own before after s worker (value.Count k) parts reached is = tt
  worker_own before after s worker (value.Number k) parts reached is = tt
  worker_own before after s worker (value.Lock k) parts reached is = tt
  worker_own before after s worker (value.Output k) parts reached is = tt
  worker_own before after s worker (value.Events k) parts reached is = tt

  pub have_own : (before after : List Label) (s : State) → before ++ after ≡ all
      → replay (rules_of program workers) before ≡ Some s → WorkersHaveOwn program (HasRun program workers all) s
  have_own before after s parts reached worker =
      worker_own before after s worker (s (obj.Control worker)) parts reached refl

  then_stands : (o : Option State) (f : State → Option State) (t : State)
      → ((u : State) → o ≡ Some u → f u ≡ Some t → IsStanding program (HasRun program workers all) t)
      → and_then o f ≡ Some t → IsStanding program (HasRun program workers all) t
  then_stands None f t h e = cc
  then_stands (Some u) f t h e = h u refl e

  -- the state after the rest of a run
  pub rest_stands : StepsStand → (before rest : List Label) (s t : State) → IsValid program → 1 ≤ workers
      → before ++ rest ≡ all
      → replay (rules_of program workers) before ≡ Some s → IsStanding program (HasRun program workers all) s
      → replay_from (rules_of program workers) s rest ≡ Some t → IsStanding program (HasRun program workers all) t
  rest_stands steps before [] s t valid some parts reached h e =
      let same : s ≡ t = cc in subst (IsStanding program (HasRun program workers all)) same h
  rest_stands steps before (l ∷ rest) s t valid some parts reached h e =
      then_stands (next_state (rules_of program workers) s l) (λ u. replay_from (rules_of program workers) u rest) t
      (λ u is left. rest_stands steps (before ++ l ∷ []) rest u t valid some (append_assoc before (l ∷ []) rest ∙ parts)
      (replay_more (rules_of program workers) before l (rules_of program workers).start s u reached is)
      (steps program workers all before rest l s u valid some parts reached h is) left) e
