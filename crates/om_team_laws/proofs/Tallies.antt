-- Sums over the contexts of a worker, behind a step.
use Rattle.std.proofs.Common.{◌≡◌, refl, sym, ◌∙◌, ap, subst, ℕ, ◌-◌, ◌≤◌, arith, false, cond, None}
use Rattle.std.proofs.Common.{List, [], ◌∷◌, ◌++◌}
use Rattle.std.specs.Prelude.{nat_eq}
use Rattle.om_foot.specs.declared.footprint.Access.{Access}
use Rattle.om_foot.specs.declared.object.Obj.TheVariants as obj
use Rattle.om_foot.specs.Footprint.{obj_eq}
use Rattle.om_code.specs.declared.frame.Fault.{Fault}
use Rattle.om_state.specs.declared.control.Context.{Context}
use Rattle.om_state.specs.declared.control.Control as controls
use Rattle.om_state.specs.declared.control.Control.TheVariants.{Idle, Running, Faulted, Ended}
use Rattle.om_state.specs.declared.control.Edit.{Edit}
use Rattle.om_state.specs.declared.control.Edit.TheVariants.{Go, BeginContext, CountBirth}
use Rattle.om_state.specs.declared.control.Frame.{Frame}
use Rattle.om_state.specs.declared.control.Stack.{Stack}
use Rattle.om_state.specs.declared.control.Team.{Team}
use Rattle.om_state.specs.declared.step.Label.{Label}
use Rattle.om_state.specs.declared.step.Update.{Update}
use Rattle.om_state.specs.declared.step.Update.TheVariants.{Put}
use Rattle.om_state.specs.declared.value.Val.{Val}
use Rattle.om_state.specs.declared.value.Val.TheVariants as value
use Rattle.om_state.specs.Edits.{changed, context_ended}
use Rattle.om_state.specs.Rules.{control_access}
use Rattle.om_state.specs.State.{State, updated}
use Rattle.om_state.specs.Values.{control_in}
use Rattle.om_team.specs.Teams.{member, member_controls, workers_from}
use Rattle.om_team_laws.specs.Contexts.{contexts_at, contexts_of, tally}
use Rattle.om_team_laws.proofs.Behind.{behind_put, behind_quiet, members_behind, own_or_other, with_control}
use Rattle.om_team_laws.proofs.Cases.{IsQuiet, behind}
use Rattle.om_team_laws.proofs.Traced.{AreUntraced, none_left, skipped}

-- of a control that is quiet, where the running context counts no more
pub tally_quiet : (number : Context → ℕ) (stack : Stack) (c : controls.Control) → IsQuiet stack c
    → ((other : Stack) → c ≡ Running other → number other.top ≤ number stack.top)
    → tally number (contexts_of c) ≤ tally number (stack.top ∷ stack.below)
tally_quiet number stack (Running other) q h =
    let top : number other.top ≤ number stack.top = h other refl in
    let rest : tally number other.below ≡ tally number stack.below = ap (tally number) q.1 in
    omega (arith, top, rest)
tally_quiet number stack (Ended result) q h = omega arith
tally_quiet number stack (Faulted fault other) q h = absurd q
tally_quiet number stack Idle q h = absurd q

-- of what is left where the running context has ended
tally_ended : (number : Context → ℕ) (below : List Context)
    → tally number (contexts_of (context_ended below)) ≤ tally number below
tally_ended number [] = omega arith
tally_ended number (c ∷ below) = omega arith

module _ (number : Context → ℕ) (l : Label) (stack : Stack) (s : State)
    (runs : control_in (s (obj.Control l.worker)) ≡ Running stack) where
  -- so much it has before the step
  abbrev pub before : ℕ
  before = tally number (stack.top ∷ stack.below)

  pub before_is : tally number (contexts_at s l.worker) ≡ before
  before_is = ap (λ c. tally number (contexts_of c)) runs

  pub less_ended : tally number (contexts_of (context_ended stack.below)) ≤ before
  less_ended = let less = tally_ended number stack.below in omega (arith, less)

  -- where the worker itself has no more, no worker has
  pub less_there : (c : controls.Control) (w : ℕ) → tally number (contexts_of c) ≤ before
      → tally number (contexts_of (control_in (cond (nat_eq l.worker w) (value.Control c) (s (obj.Control w)))))
      ≤ tally number (contexts_at s w)
  less_there c w le =
      own_or_other (λ contexts. tally number contexts ≤ tally number (contexts_at s w)) l.worker w c (s (obj.Control w))
      (λ same.
      let own : tally number (contexts_at s w) ≡ before =
      ap (λ n. tally number (contexts_at s n)) same ∙ before_is in
      omega (arith, own, le)) (omega arith)

  -- behind a row that names nothing besides
  pub less_quiet : (names : List Access) (es : List Edit) (us : List Update) → AreUntraced names
      → tally number (contexts_of (changed es (Running stack))) ≤ before → (w : ℕ)
      → tally number (contexts_at (behind l stack s names es us) w) ≤ tally number (contexts_at s w)
  less_quiet names es us u less w =
      subst (λ (v : Val). tally number (contexts_of (control_in v)) ≤ tally number (contexts_at s w))
      (sym (behind_quiet l (changed es (Running stack)) s names us (obj.Control w) u refl))
      (less_there (changed es (Running stack)) w less)

  -- behind one that puts something besides, at an object that is no control
  pub less_put : (a : Access) (x : Update) (names : List Access) (es : List Edit) (us : List Update)
      → AreUntraced names → ((w : ℕ) → obj_eq a.object (obj.Control w) ≡ false)
      → tally number (contexts_of (changed es (Running stack))) ≤ before → (w : ℕ)
      → tally number (contexts_at (behind l stack s (a ∷ names) es (x ∷ us)) w) ≤ tally number (contexts_at s w)
  less_put a x names es us u f less w =
      let c = changed es (Running stack) in
      subst (λ (v : Val). tally number (contexts_of (control_in v)) ≤ tally number (contexts_at s w))
      (sym (behind_put l c s a x names us (obj.Control w) u refl
      ∙ skipped (obj_eq a.object (obj.Control w)) _ (with_control l c s (obj.Control w)) (f w)))
      (less_there c w less)

  -- behind a fault
  pub less_fault : (names : List Access) (f : Fault) (w : ℕ)
      → tally number (contexts_at (updated (control_access l ∷ names) (Put (value.Control (Faulted f stack)) ∷ []) s) w)
      ≤ tally number (contexts_at s w)
  less_fault names f w =
      subst (λ (v : Val). tally number (contexts_of (control_in v)) ≤ tally number (contexts_at s w))
      (sym (none_left names (with_control l (Faulted f stack) s) (obj.Control w)))
      (less_there (Faulted f stack) w (omega arith))

  -- behind the making of a team, whose members have nothing
  pub less_forked : (team : Team) (frame : Frame) (to takes : ℕ) (names : List Access) (us : List Update)
      → AreUntraced names → ((k : ℕ) → number (member (record team { number = k }) frame) ≡ 0)
      → tally number (contexts_of (changed (Go to takes None ∷ CountBirth ∷ BeginContext (member team frame) ∷ [])
      (Running stack))) ≤ before → (w : ℕ)
      → tally number (contexts_at (behind l stack s (workers_from 1 (team.size - 1) ++ names)
      (Go to takes None ∷ CountBirth ∷ BeginContext (member team frame) ∷ [])
      (member_controls team frame 1 (team.size - 1) ++ us)) w)
      ≤ tally number (contexts_at s w)
  less_forked team frame to takes names us u none less w =
      let c = changed (Go to takes None ∷ CountBirth ∷ BeginContext (member team frame) ∷ []) (Running stack) in
      members_behind (λ (v : Val). tally number (contexts_of (control_in v)) ≤ tally number (contexts_at s w)) team frame 1
      (team.size - 1) names us (with_control l c s) w u (less_there c w less)
      (λ le. let n = none w in omega (arith, n))
