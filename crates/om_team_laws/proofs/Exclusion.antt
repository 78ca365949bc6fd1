-- At most one worker is inside a critical region of a lock, behind each step.
use Rattle.std.proofs.Common.{◌≡◌, refl, sym, ◌∙◌, ap, ℕ, zero, suc, ◌+◌, ◌-◌, ◌≤◌, arith, Bool, true, false, cond}
use Rattle.std.proofs.Common.{if◌then◌else◌, Option, None, Some, List, [], ◌∷◌, ◌++◌, drop}
use Rattle.std.specs.Prelude.{nat_eq}
use Rattle.std.proofs.lemmas.Bool.{eqb-true, eq-eqb}
use Rattle.om_foot.specs.declared.footprint.Access.{Access}
use Rattle.om_foot.specs.declared.object.Obj.TheVariants as obj
use Rattle.om_foot.specs.Footprint.{obj_eq}
use Rattle.om_code.specs.declared.raw.Raw.{Raw}
use Rattle.om_state.specs.declared.control.Construct.{Construct}
use Rattle.om_state.specs.declared.control.Construct.TheVariants as construct
use Rattle.om_state.specs.declared.control.Context.{Context}
use Rattle.om_state.specs.declared.control.Control as controls
use Rattle.om_state.specs.declared.control.Control.TheVariants.{Idle, Running, Faulted, Ended}
use Rattle.om_state.specs.declared.control.Edit.{Edit}
use Rattle.om_state.specs.declared.control.Edit.TheVariants.{Go, BeginContext, EndContext, Open, Close, Replace, CountBirth}
use Rattle.om_state.specs.declared.control.Stack.{Stack}
use Rattle.om_state.specs.declared.step.Label.{Label}
use Rattle.om_state.specs.declared.step.Update.{Update}
use Rattle.om_state.specs.declared.step.Update.TheVariants.{Put, Keep}
use Rattle.om_state.specs.declared.value.Task.TheVariants as task
use Rattle.om_state.specs.declared.value.Val.TheVariants as value
use Rattle.om_state.specs.Edits.{changed, context_ended}
use Rattle.om_state.specs.Rules.{next_state}
use Rattle.om_state.specs.State.{State}
use Rattle.om_state.specs.Values.{control_in, holder_in}
use Rattle.om_team_serial.specs.declared.row.Row.{Row}
use Rattle.om_team_serial.specs.Objects.{innermost, write}
use Rattle.om_team_worksharing.specs.Rows.{begun, edits, in_chunk, is_critical}
use Rattle.om_team.specs.Teams.{member, member_controls, workers_from}
use Rattle.om_task.specs.Rules.{first_context, rules_of, start_of}
use Rattle.om_task.specs.Tasks.{task_context}
use Rattle.om_team_laws.specs.Contexts.{contexts_of, tally}
use Rattle.om_team_laws.specs.Criticals.{HasExclusion, open_criticals, openings}
use Rattle.om_team_laws.proofs.Behind.{behind_put, behind_quiet, no_member, with_control}
use Rattle.om_team_laws.proofs.Cases.{Covers, IsQuiet, Leads, behind, leads, leads_to_fault, no_step_blocked}
use Rattle.om_team_laws.proofs.Cases.{no_step_lacks}
use Rattle.om_team_laws.proofs.Regions.{replaced_openings}
use Rattle.om_team_laws.proofs.Tallies.{before_is, less_ended, less_fault, less_forked, less_put, less_quiet}
use Rattle.om_team_laws.proofs.Tallies.{less_there, tally_quiet}
use Rattle.om_team_laws.proofs.Traced.{AreUntraced, none_left, skipped}
use Rattle.om_team_laws.proofs.Walk.{step_leads}

-- how many critical regions of a lock contexts have open
abbrev pub criticals : ℕ → List Context → ℕ
criticals lock contexts = tally (λ (c : Context). openings lock c.constructs) contexts

-- where nobody is inside of more, and each lock is held as before
kept : (s t : State) → HasExclusion s
    → ((lock w : ℕ) → open_criticals t lock w ≤ open_criticals s lock w)
    → ((lock : ℕ) → holder_in (t (obj.Lock lock)) ≡ holder_in (s (obj.Lock lock))) → HasExclusion t
kept s t h less same = record {
  once = λ lock w. let a = less lock w in let b = h.once lock w in omega (arith, a, b);
  held = λ lock w inside.
      let a = less lock w in same lock ∙ h.held lock w (omega (arith, inside, a));
}

-- the innermost region is a critical one, and closes
closed_critical : (constructs : List Construct) (lock : ℕ) → is_critical lock (innermost constructs) ≡ true → (n : ℕ)
    → openings n constructs ≡ (if nat_eq lock n then 1 else 0) + openings n (drop 1 constructs)
closed_critical [] lock e n = cc
closed_critical (construct.Critical x ∷ constructs) lock e n =
    ap (λ m. (if nat_eq m n then 1 else 0) + openings n constructs) (eqb-true x lock e)
closed_critical (construct.Share share ∷ constructs) lock e n = cc
closed_critical (construct.Single runs ∷ constructs) lock e n = cc
closed_critical (construct.Masked ∷ constructs) lock e n = cc
closed_critical (construct.Group name ∷ constructs) lock e n = cc

abbrev openings_of : ℕ → Context → ℕ
openings_of lock c = openings lock c.constructs

module _ (l : Label) (stack : Stack) (s : State) (runs : control_in (s (obj.Control l.worker)) ≡ Running stack)
    (h : HasExclusion s) where
  -- so many it has open before the step
  abbrev before : ℕ → ℕ
  before lock = criticals lock (stack.top ∷ stack.below)

  was : (lock : ℕ) → open_criticals s lock l.worker ≡ before lock
  was lock = before_is (openings_of lock) l stack s runs

  same_openings : (lock : ℕ) (c : controls.Control) → IsQuiet stack c → (other : Stack) → c ≡ Running other
      → openings lock other.top.constructs ≤ openings lock stack.top.constructs
  same_openings lock (Running x) q other e =
      let same : x ≡ other = cc e in
      let equal : openings lock other.top.constructs ≡ openings lock stack.top.constructs =
      ap (λ (y : Stack). openings lock y.top.constructs) (sym same) ∙ q.0.openings lock in
      omega (arith, equal)
  same_openings lock (Ended result) q other e = cc
  same_openings lock (Faulted fault x) q other e = cc
  same_openings lock Idle q other e = cc

  -- a step that puts something besides, at an object that is neither a control nor a lock
  quiet_put : (a : Access) (x : Update) (names : List Access) (es : List Edit) (us : List Update) → AreUntraced names
      → ((w : ℕ) → obj_eq a.object (obj.Control w) ≡ false) → ((lock : ℕ) → obj_eq a.object (obj.Lock lock) ≡ false)
      → ((lock : ℕ) → criticals lock (contexts_of (changed es (Running stack))) ≤ before lock)
      → HasExclusion (behind l stack s (a ∷ names) es (x ∷ us))
  quiet_put a x names es us u f g less =
      let c = changed es (Running stack) in
      kept s (behind l stack s (a ∷ names) es (x ∷ us)) h
      (λ lock w. less_put (openings_of lock) l stack s runs a x names es us u f (less lock) w)
      (λ lock. ap holder_in (behind_put l c s a x names us (obj.Lock lock) u refl
      ∙ skipped (obj_eq a.object (obj.Lock lock)) _ (with_control l c s (obj.Lock lock)) (g lock)))

  -- ---- the state behind a step at a lock: the worker has this control, and this worker holds the lock
  record Sees (t : State) (c : controls.Control) (lock : ℕ) (holder : Option ℕ) : Type 0 where
    control : (w : ℕ) → t (obj.Control w) ≡ cond (nat_eq l.worker w) (value.Control c) (s (obj.Control w))
    lock_at : (n : ℕ) → t (obj.Lock n) ≡ cond (nat_eq lock n) (value.Lock holder) (s (obj.Lock n))

  -- so many are open there, by whether the worker is this one
  open_there : (t : State) (c : controls.Control) (lock : ℕ) (holder : Option ℕ) → Sees t c lock holder → (n w : ℕ)
      → open_criticals t n w
      ≡ criticals n (contexts_of (control_in (cond (nat_eq l.worker w) (value.Control c) (s (obj.Control w)))))
  open_there t c lock holder g n w = ap (λ v. criticals n (contexts_of (control_in v))) (g.control w)

  holds_there : (t : State) (c : controls.Control) (lock : ℕ) (holder : Option ℕ) → Sees t c lock holder → (n : ℕ)
      → holder_in (t (obj.Lock n)) ≡ holder_in (cond (nat_eq lock n) (value.Lock holder) (s (obj.Lock n)))
  holds_there t c lock holder g n = ap holder_in (g.lock_at n)

  -- ---- a lock is taken
  module _ (t : State) (lock to : ℕ) (free : holder_in (s (obj.Lock lock)) ≡ None) where
    abbrev entered : controls.Control
    entered = changed (edits to 0 (Open (construct.Critical lock))) (Running stack)

    nobody : (w : ℕ) → open_criticals s lock w ≡ 0
    nobody w = by (open_criticals s lock w) refl
      where
        by : (n : ℕ) → open_criticals s lock w ≡ n → open_criticals s lock w ≡ 0
        by zero e = e
        by (suc n) e =
            let no : None ≡ Some w = sym free ∙ h.held lock w (omega (arith, e)) in
            cc

    one_more : (n : ℕ) → criticals n (contexts_of entered) ≡ (if nat_eq lock n then 1 else 0) + before n
    one_more n = omega arith

    once_inside : (n w : ℕ) (own same : Bool) → nat_eq l.worker w ≡ own → nat_eq lock n ≡ same
        → criticals n (contexts_of (control_in (cond own (value.Control entered) (s (obj.Control w))))) ≤ 1
    once_inside n w false same e f = h.once n w
    once_inside n w true false e f =
        let more : criticals n (contexts_of entered) ≡ 0 + before n =
        one_more n ∙ ap (λ b. (if b then 1 else 0) + before n) f in
        let once = h.once n l.worker in
        let was = was n in
        omega (arith, more, once, was)
    once_inside n w true true e f =
        let more : criticals n (contexts_of entered) ≡ 1 + before n =
        one_more n ∙ ap (λ b. (if b then 1 else 0) + before n) f in
        let none : open_criticals s n l.worker ≡ 0 =
        ap (λ m. open_criticals s m l.worker) (sym (eqb-true lock n f)) ∙ nobody l.worker in
        let was = was n in
        omega (arith, more, none, was)

    held_inside : (n w : ℕ) (own same : Bool) → nat_eq l.worker w ≡ own → nat_eq lock n ≡ same
        → 1 ≤ criticals n (contexts_of (control_in (cond own (value.Control entered) (s (obj.Control w)))))
        → holder_in (cond same (value.Lock (Some l.worker)) (s (obj.Lock n))) ≡ Some w
    held_inside n w false false e f inside = h.held n w inside
    held_inside n w false true e f inside =
        let none : open_criticals s n w ≡ 0 =
        ap (λ m. open_criticals s m w) (sym (eqb-true lock n f)) ∙ nobody w in
        absurd (omega (arith, none, inside))
    held_inside n w true true e f inside = ap (λ m. Some m) (eqb-true l.worker w e)
    held_inside n w true false e f inside =
        let more : criticals n (contexts_of entered) ≡ 0 + before n =
        one_more n ∙ ap (λ b. (if b then 1 else 0) + before n) f in
        let was = was n in
        h.held n l.worker (omega (arith, more, was, inside)) ∙ ap (λ m. Some m) (eqb-true l.worker w e)

    enters : Sees t entered lock (Some l.worker) → HasExclusion t
    enters g = record {
      once = λ n w.
          let there = open_there t entered lock (Some l.worker) g n w in
          let once = once_inside n w (nat_eq l.worker w) (nat_eq lock n) refl refl in
          omega (arith, there, once);
      held = λ n w inside.
          let there = open_there t entered lock (Some l.worker) g n w in
          holds_there t entered lock (Some l.worker) g n
          ∙ held_inside n w (nat_eq l.worker w) (nat_eq lock n) refl refl (omega (arith, there, inside));
    }

  -- ---- a lock is given back
  module _ (t : State) (lock to : ℕ) (is : is_critical lock (innermost stack.top.constructs) ≡ true) where
    abbrev left : controls.Control
    left = changed (edits to 0 Close) (Running stack)

    one_less : (n : ℕ) → before n ≡ (if nat_eq lock n then 1 else 0) + criticals n (contexts_of left)
    one_less n =
        let own = closed_critical stack.top.constructs lock is n in
        omega (arith, own)

    -- the worker is inside, and so holds the lock
    holds : holder_in (s (obj.Lock lock)) ≡ Some l.worker
    holds =
        let less : before lock ≡ 1 + criticals lock (contexts_of left) =
        one_less lock ∙ ap (λ b. (if b then 1 else 0) + criticals lock (contexts_of left)) (eq-eqb lock lock refl) in
        let was = was lock in
        h.held lock l.worker (omega (arith, less, was))

    once_outside : (n w : ℕ) (own : Bool) → nat_eq l.worker w ≡ own
        → criticals n (contexts_of (control_in (cond own (value.Control left) (s (obj.Control w))))) ≤ 1
    once_outside n w false e = h.once n w
    once_outside n w true e =
        let less = one_less n in
        let once = h.once n l.worker in
        let was = was n in
        omega (arith, less, once, was)

    held_outside : (n w : ℕ) (own same : Bool) → nat_eq l.worker w ≡ own → nat_eq lock n ≡ same
        → 1 ≤ criticals n (contexts_of (control_in (cond own (value.Control left) (s (obj.Control w)))))
        → holder_in (cond same (value.Lock None) (s (obj.Lock n))) ≡ Some w
    held_outside n w false false e f inside = h.held n w inside
    held_outside n w false true e f inside =
        let at : lock ≡ n = eqb-true lock n f in
        let both : Some l.worker ≡ Some w =
        sym holds ∙ ap (λ m. holder_in (s (obj.Lock m))) at ∙ h.held n w inside in
        let same : l.worker ≡ w = cc in
        let no : true ≡ false = sym (eq-eqb l.worker w same) ∙ e in
        cc
    held_outside n w true false e f inside =
        let less = one_less n in
        let was = was n in
        h.held n l.worker (omega (arith, less, was, inside)) ∙ ap (λ m. Some m) (eqb-true l.worker w e)
    held_outside n w true true e f inside =
        let less : before n ≡ 1 + criticals n (contexts_of left) =
        one_less n ∙ ap (λ b. (if b then 1 else 0) + criticals n (contexts_of left)) f in
        let once = h.once n l.worker in
        let was = was n in
        absurd (omega (arith, less, once, was, inside))

    exits : Sees t left lock None → HasExclusion t
    exits g = record {
      once = λ n w.
          let there = open_there t left lock None g n w in
          let once = once_outside n w (nat_eq l.worker w) refl in
          omega (arith, there, once);
      held = λ n w inside.
          let there = open_there t left lock None g n w in
          holds_there t left lock None g n
          ∙ held_outside n w (nat_eq l.worker w) (nat_eq lock n) refl refl (omega (arith, there, inside));
    }

  -- ---- each case
  abbrev Q : List Access → Row → Type 0
  Q = Leads l stack s HasExclusion

  pub excludes : Covers l.worker stack s Q
  excludes = record {
    faults = λ names f. leads_to_fault l stack s HasExclusion names f
        (kept s _ h (λ lock w. less_fault (openings_of lock) l stack s runs names f w)
        (λ lock. ap holder_in (none_left names (with_control l (Faulted f stack) s) (obj.Lock lock))));
    blocked = no_step_blocked l stack s HasExclusion;
    lacks = no_step_lacks l stack s HasExclusion;
    goes = λ names es us u q more. leads l stack s HasExclusion names es us
        (kept s _ h (λ lock w. less_quiet (openings_of lock) l stack s runs names es us u
        (tally_quiet (openings_of lock) stack (changed es (Running stack)) q
        (same_openings lock (changed es (Running stack)) q)) w)
        (λ lock. ap holder_in (behind_quiet l (changed es (Running stack)) s names us (obj.Lock lock) u refl)));
    leaves = λ names us u e. leads l stack s HasExclusion names (EndContext ∷ []) us
        (kept s _ h (λ lock w. less_quiet (openings_of lock) l stack s runs names (EndContext ∷ []) us u
        (less_ended (openings_of lock) l stack s runs) w)
        (λ lock. ap holder_in (behind_quiet l (context_ended stack.below) s names us (obj.Lock lock) u refl)));
    forks = λ team frame to takes names us z e u. leads l stack s HasExclusion (workers_from 1 (team.size - 1) ++ names)
        (Go to takes None ∷ CountBirth ∷ BeginContext (member team frame) ∷ [])
        (member_controls team frame 1 (team.size - 1) ++ us)
        (kept s _ h (λ lock w. less_forked (openings_of lock) l stack s runs team frame to takes names us u (λ k. refl)
        (omega arith) w)
        (λ lock. ap holder_in (no_member team frame 1 (team.size - 1) names us
        (with_control l (changed (Go to takes None ∷ CountBirth ∷ BeginContext (member team frame) ∷ []) (Running stack)) s)
        (obj.Lock lock) u refl (λ w. refl))));
    makes = λ new ready to takes names us e u. leads l stack s HasExclusion (write (obj.Task new) ∷ names)
        (Go to takes None ∷ CountBirth ∷ []) (Put (value.Task (task.Ready ready)) ∷ us)
        (quiet_put (write (obj.Task new)) (Put (value.Task (task.Ready ready))) names
        (Go to takes None ∷ CountBirth ∷ []) us u (λ w. refl) (λ lock. refl) (λ lock. omega arith));
    begins = λ name ready names us e u. leads l stack s HasExclusion (write (obj.Task name) ∷ names)
        (BeginContext (task_context name stack.top ready) ∷ []) (Put (value.Task (task.Running l.worker)) ∷ us)
        (quiet_put (write (obj.Task name)) (Put (value.Task (task.Running l.worker))) names
        (BeginContext (task_context name stack.top ready) ∷ []) us u (λ w. refl) (λ lock. refl) (λ lock. omega arith));
    ends = λ next below names us e f u. leads l stack s HasExclusion (write (obj.Task stack.top.task) ∷ names)
        (EndContext ∷ []) (Put (value.Task task.Done) ∷ us)
        (quiet_put (write (obj.Task stack.top.task)) (Put (value.Task task.Done)) names (EndContext ∷ []) us u
        (λ w. refl) (λ lock. refl) (λ lock. less_ended (openings_of lock) l stack s runs));
    enters = λ lock to names us free u. leads l stack s HasExclusion (write (obj.Lock lock) ∷ names)
        (edits to 0 (Open (construct.Critical lock))) (Put (value.Lock (Some l.worker)) ∷ us)
        (enters _ lock to free (record {
          control = λ w. behind_put l (changed (edits to 0 (Open (construct.Critical lock))) (Running stack)) s (write (obj.Lock lock)) (Put (value.Lock (Some l.worker)))
              names us (obj.Control w) u refl;
          lock_at = λ n. behind_put l (changed (edits to 0 (Open (construct.Critical lock))) (Running stack)) s (write (obj.Lock lock)) (Put (value.Lock (Some l.worker)))
              names us (obj.Lock n) u refl;
        }));
    exits = λ lock to names us is u. leads l stack s HasExclusion (write (obj.Lock lock) ∷ names)
        (edits to 0 Close) (Put (value.Lock None) ∷ us)
        (exits _ lock to is (record {
          control = λ w. behind_put l (changed (edits to 0 Close) (Running stack)) s (write (obj.Lock lock)) (Put (value.Lock None)) names us
              (obj.Control w) u refl;
          lock_at = λ n. behind_put l (changed (edits to 0 Close) (Running stack)) s (write (obj.Lock lock)) (Put (value.Lock None)) names us
              (obj.Lock n) u refl;
        }));
    runs = λ to names us e u.
        let work = write (obj.Work stack.top.team.name stack.top.regions) in
        leads l stack s HasExclusion (work ∷ names) (begun to 0 (construct.Single true)) (Put (value.Number 1) ∷ us)
        (quiet_put work (Put (value.Number 1)) names (begun to 0 (construct.Single true)) us u (λ w. refl) (λ lock. refl)
        (λ lock. omega arith));
    passes = λ to names us e u.
        let work = write (obj.Work stack.top.team.name stack.top.regions) in
        leads l stack s HasExclusion (work ∷ names) (begun to 0 (construct.Single false)) (Keep ∷ us)
        (quiet_put work Keep names (begun to 0 (construct.Single false)) us u (λ w. refl) (λ lock. refl)
        (λ lock. omega arith));
    takes = λ share size to chunk e f g.
        let work = write (obj.Work stack.top.team.name share.region) in
        let es = edits to 0 (Replace (in_chunk share share.taken chunk)) in
        leads l stack s HasExclusion (work ∷ []) es (Put (value.Number chunk.end) ∷ [])
        (quiet_put work (Put (value.Number chunk.end)) [] es [] tt (λ w. refl) (λ lock. refl)
        (λ lock.
        let same = replaced_openings stack.top.constructs share
        (record share { taken = share.taken; next = chunk.first; end = chunk.end }) e lock in
        omega (arith, same)));
    finds_none = λ share to. leads l stack s HasExclusion
        (write (obj.Work stack.top.team.name share.region) ∷ []) (Go to 0 None ∷ []) []
        (kept s _ h
        (λ lock w. less_there (openings_of lock) l stack s runs (changed (Go to 0 None ∷ []) (Running stack)) w (omega arith))
        (λ lock. refl));
  }

-- ---- the start

one_context : (program : Raw) (b : Bool) (lock : ℕ)
    → criticals lock (contexts_of (if b then Running (record { top = first_context program; below = [] }) else Idle)) ≡ 0
one_context program true lock = refl
one_context program false lock = refl

pub start_excludes : (program : Raw) (workers : ℕ) → HasExclusion (start_of program workers)
start_excludes program workers = record {
  once = λ lock w. let none = one_context program (nat_eq w 0) lock in omega (arith, none);
  held = λ lock w inside.
      let none = one_context program (nat_eq w 0) lock in absurd (omega (arith, none, inside));
}

pub step_excludes : (program : Raw) (workers : ℕ) (s t : State) (l : Label) → HasExclusion s
    → next_state (rules_of program workers) s l ≡ Some t → HasExclusion t
step_excludes program workers s t l h is =
    step_leads program workers l s HasExclusion (λ stack runs. excludes l stack s runs h) t is
