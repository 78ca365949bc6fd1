-- Behind a step that begins, ends or makes a task, or makes a team, names of tasks are new, and each task goes on in its
-- order.
use Rattle.std.proofs.Common.{◌≡◌, refl, sym, ◌∙◌, ap, subst, ℕ, ◌+◌, ◌-◌, ◌≤◌, arith, Bool, true, false}
use Rattle.std.proofs.Common.{cond, None, Some, List, [], ◌∷◌, ◌++◌, length, ◌⊎◌, inl, inr}
use Rattle.std.specs.Prelude.{nat_eq, nat_le}
use Rattle.std.specs.Cmp.Lexicographic.{pointwise}
use Rattle.std.proofs.lemmas.Bool.{eq-eqb}
use Rattle.om_foot.specs.declared.footprint.Access.{Access}
use Rattle.om_foot.specs.declared.object.Obj.TheVariants as obj
use Rattle.om_foot.specs.Footprint.{obj_eq}
use Rattle.om_state.specs.declared.control.Context.{Context}
use Rattle.om_state.specs.declared.control.Control as controls
use Rattle.om_state.specs.declared.control.Control.TheVariants.{Idle, Running, Faulted, Ended}
use Rattle.om_state.specs.declared.control.Edit.{Edit}
use Rattle.om_state.specs.declared.control.Edit.TheVariants.{Go, BeginContext, EndContext, CountBirth}
use Rattle.om_state.specs.declared.control.Frame.{Frame}
use Rattle.om_state.specs.declared.control.Kind.TheVariants as kind
use Rattle.om_state.specs.declared.control.Stack.{Stack}
use Rattle.om_state.specs.declared.control.Team.{Team}
use Rattle.om_state.specs.declared.step.Label.{Label}
use Rattle.om_state.specs.declared.step.Update.{Update}
use Rattle.om_state.specs.declared.step.Update.TheVariants.{Put}
use Rattle.om_state.specs.declared.value.Ready.{Ready}
use Rattle.om_state.specs.declared.value.Task as tasks
use Rattle.om_state.specs.declared.value.Task.TheVariants as task
use Rattle.om_state.specs.declared.value.Val.{Val}
use Rattle.om_state.specs.declared.value.Val.TheVariants as value
use Rattle.om_state.specs.Edits.{changed, context_at, context_ended}
use Rattle.om_state.specs.State.{State}
use Rattle.om_state.specs.Values.{control_in, task_in}
use Rattle.om_team_serial.specs.Objects.{write}
use Rattle.om_team.specs.Teams.{member, member_controls, workers_from}
use Rattle.om_task.specs.Tasks.{born, task_context}
use Rattle.om_team_laws.specs.Contexts.{contexts_at, contexts_of}
use Rattle.om_team_laws.specs.Tasks.{AreDistinct, GoesOn, Has, IsOrderly, task_at}
use Rattle.om_team_laws.proofs.Behind.{behind_put, behind_quiet, members_behind, no_member, own_or_other, with_control}
use Rattle.om_team_laws.proofs.Behind.{own_or_else}
use Rattle.om_team_laws.proofs.Cases.{IsQuiet, behind}
use Rattle.om_team_laws.proofs.Names.{same_starts, starts_itself}
use Rattle.om_team_laws.proofs.OrderForks.{IsMember, forks, not_new}
use Rattle.om_team_laws.proofs.Orders.{FromOld, IsTheNew, as_it_was, begins, ends, makes, old_only, which}
use Rattle.om_team_laws.proofs.Traced.{AreUntraced, skipped}

-- names are new, and each task goes on in its order
pub record GoOn (s : State) (worker : ℕ) (t : State) : Type 0 where
  pub orderly : IsOrderly t
  pub goes : (name : List ℕ) → GoesOn worker (task_at s name) (task_at t name)

-- the next name of a context
pub born_is : (c : Context) (new : List ℕ) → born c ≡ Some new → new ≡ c.task ++ (c.births + 1) ∷ []
born_is c new e = by (nat_le (length (c.task ++ (c.births + 1) ∷ [])) 64) e
  where
    by : (b : Bool) → cond b (Some (c.task ++ (c.births + 1) ∷ [])) None ≡ Some new
        → new ≡ c.task ++ (c.births + 1) ∷ []
    by true f = let same : c.task ++ (c.births + 1) ∷ [] ≡ new = cc f in sym same
    by false f = cc

module _ (l : Label) (stack : Stack) (s : State) (runs : control_in (s (obj.Control l.worker)) ≡ Running stack)
    (h : IsOrderly s) where
  -- what the worker has
  its : (d : Context) → Has (stack.top ∷ stack.below) d → Has (contexts_at s l.worker) d
  its d a = subst (λ c. Has (contexts_of c) d) (sym runs) a

  its_distinct : AreDistinct (stack.top ∷ stack.below)
  its_distinct = subst (λ c. AreDistinct (contexts_of c)) runs (h.distinct l.worker)

  top_there : Has (contexts_at s l.worker) stack.top
  top_there = its stack.top (inl refl)

  -- contexts of the worker that were there before
  pub record AreOld (contexts : List Context) : Type 0 where
    pub from : (d : Context) → Has contexts d → FromOld s l.worker d
    pub dist : AreDistinct contexts

  -- the worker has this control behind the step, and others have theirs
  abbrev pub HasControl : State → controls.Control → Type 0
  HasControl t c = (w : ℕ) → t (obj.Control w) ≡ with_control l c s (obj.Control w)

  all_from : (t : State) (c : controls.Control) → HasControl t c → AreOld (contexts_of c) → (w : ℕ) (d : Context)
      → Has (contexts_at t w) d → FromOld s w d
  all_from t c e o w d a =
      own_or_other (λ contexts. (x : Context) → Has contexts x → FromOld s w x) l.worker w c (s (obj.Control w))
      (λ same x b. subst (λ n. FromOld s n x) (sym same) (o.from x b)) (λ x b. as_it_was s w x b) d
      (subst (λ (v : Val). Has (contexts_of (control_in v)) d) (e w) a)

  all_distinct : (t : State) (c : controls.Control) → HasControl t c → AreOld (contexts_of c) → (w : ℕ)
      → AreDistinct (contexts_at t w)
  all_distinct t c e o w =
      subst (λ (v : Val). AreDistinct (contexts_of (control_in v))) (sym (e w))
      (own_or_other AreDistinct l.worker w c (s (obj.Control w)) (λ same. o.dist) (h.distinct w))

  -- ---- the worker's contexts

  -- the running one is of the same task, with the others below
  same_old : (x : Context) (below : List Context) → x.task ≡ stack.top.task → x.kind ≡ stack.top.kind
      → stack.top.births ≤ x.births → below ≡ stack.below → AreOld (x ∷ below)
  same_old x below e f le g = record {
    from = λ d a. by d a;
    dist = (
      λ d a same. its_distinct.0 d (subst (λ ds. Has ds d) g a) (same ∙ e),
      subst AreDistinct (sym g) its_distinct.1,
    );
  }
    where
      by : (d : Context) → Has (x ∷ below) d → FromOld s l.worker d
      by d (inl is) = subst (λ y. FromOld s l.worker y) is
          (record { old = stack.top; there = top_there; task = e; kind = f; births = le })
      by d (inr a) = as_it_was s l.worker d (its d (inr (subst (λ ds. Has ds d) g a)))

  pub quiet_old : (c : controls.Control) → IsQuiet stack c → AreOld (contexts_of c)
  quiet_old (Running other) q = same_old other.top other.below q.0.task q.0.kind q.0.births q.1
  quiet_old (Ended result) q = record { from = λ d a. absurd a; dist = tt }
  quiet_old (Faulted fault other) q = absurd q
  quiet_old Idle q = absurd q

  pub ended_old : (below : List Context) → below ≡ stack.below → AreOld (contexts_of (context_ended below))
  ended_old [] e = record { from = λ d a. absurd a; dist = tt }
  ended_old (c ∷ below) e = record {
    from = λ d a. as_it_was s l.worker d (its d (inr (subst (λ ds. Has ds d) e a)));
    dist = subst AreDistinct (sym e) its_distinct.1;
  }

  -- ---- steps that change no task

  pub no_change : (t : State) (c : controls.Control) → HasControl t c → AreOld (contexts_of c)
      → ((name : List ℕ) → task_at t name ≡ task_at s name) → GoOn s l.worker t
  no_change t c e o same = record {
    orderly = old_only s h t (all_from t c e o) (all_distinct t c e o) same;
    goes = λ name. inl (same name);
  }

  pub quiet : (names : List Access) (es : List Edit) (us : List Update) → AreUntraced names
      → AreOld (contexts_of (changed es (Running stack))) → GoOn s l.worker (behind l stack s names es us)
  quiet names es us u o =
      let c = changed es (Running stack) in
      no_change _ c (λ w. behind_quiet l c s names us (obj.Control w) u refl) o
      (λ name. ap task_in (behind_quiet l c s names us (obj.Task name) u refl))

  pub quiet_put : (a : Access) (x : Update) (names : List Access) (es : List Edit) (us : List Update) → AreUntraced names
      → ((w : ℕ) → obj_eq a.object (obj.Control w) ≡ false)
      → ((name : List ℕ) → obj_eq a.object (obj.Task name) ≡ false)
      → AreOld (contexts_of (changed es (Running stack))) → GoOn s l.worker (behind l stack s (a ∷ names) es (x ∷ us))
  quiet_put a x names es us u f g o =
      let c = changed es (Running stack) in
      no_change _ c
      (λ w. behind_put l c s a x names us (obj.Control w) u refl
      ∙ skipped (obj_eq a.object (obj.Control w)) _ (with_control l c s (obj.Control w)) (f w)) o
      (λ name. ap task_in (behind_put l c s a x names us (obj.Task name) u refl
      ∙ skipped (obj_eq a.object (obj.Task name)) _ (with_control l c s (obj.Task name)) (g name)))

  -- ---- steps that change the task of a name

  module _ (name : List ℕ) (now : tasks.Task) (names : List Access) (es : List Edit) (us : List Update)
      (u : AreUntraced names) where
    abbrev pub after : State
    after = behind l stack s (write (obj.Task name) ∷ names) es (Put (value.Task now) ∷ us)

    control_after : HasControl after (changed es (Running stack))
    control_after w = behind_put l (changed es (Running stack)) s (write (obj.Task name)) (Put (value.Task now)) names us
        (obj.Control w) u refl

    task_after : (other : List ℕ) → task_at after other
        ≡ task_in (cond (pointwise nat_eq name other) (value.Task now) (s (obj.Task other)))
    task_after other = ap task_in (behind_put l (changed es (Running stack)) s (write (obj.Task name))
        (Put (value.Task now)) names us (obj.Task other) u refl)

  -- a task goes on so where its name is the one, and else stays
  goes_at : (t : State) (name : List ℕ) (now : tasks.Task)
      → ((other : List ℕ) → ((name ≡ other) × (task_at t other ≡ now))
      ⊎ ((name ≡ other → ⊥) × (task_at t other ≡ task_at s other)))
      → GoesOn l.worker (task_at s name) now → (other : List ℕ) → GoesOn l.worker (task_at s other) (task_at t other)
  goes_at t name now at g other = by (at other)
    where
      by : ((name ≡ other) × (task_at t other ≡ now)) ⊎ ((name ≡ other → ⊥) × (task_at t other ≡ task_at s other))
          → GoesOn l.worker (task_at s other) (task_at t other)
      by (inl it) = subst (λ x. GoesOn l.worker (task_at s other) x) (sym it.1)
          (subst (λ n. GoesOn l.worker (task_at s n) now) it.0 g)
      by (inr it) = inl it.1

  -- no other context is of the task that runs
  no_other : (w : ℕ) → nat_eq l.worker w ≡ false → (d : Context) → Has (contexts_at s w) d → d.task ≡ stack.top.task
      → ⊥
  no_other w differs d a e =
      let same : w ≡ l.worker = h.apart w l.worker d stack.top a top_there e in
      let no : true ≡ false = sym (eq-eqb l.worker w (sym same)) ∙ differs in
      cc

  -- ---- a task ends

  module _ (names : List Access) (us : List Update) (u : AreUntraced names)
      (explicit : stack.top.kind ≡ kind.Explicit) where
    abbrev pub ended : State
    ended = after stack.top.task task.Done names (EndContext ∷ []) us u

    ended_control : HasControl ended (context_ended stack.below)
    ended_control = control_after stack.top.task task.Done names (EndContext ∷ []) us u

    ended_task : (other : List ℕ) → task_at ended other
        ≡ task_in (cond (pointwise nat_eq stack.top.task other) (value.Task task.Done) (s (obj.Task other)))
    ended_task = task_after stack.top.task task.Done names (EndContext ∷ []) us u

    below_gone : (below : List Context) → below ≡ stack.below → (d : Context)
        → Has (contexts_of (context_ended below)) d → d.task ≡ stack.top.task → ⊥
    below_gone [] e d a f = absurd a
    below_gone (c ∷ below) e d a f = its_distinct.0 d (subst (λ ds. Has ds d) e a) f

    gone : (w : ℕ) (d : Context) → Has (contexts_at ended w) d → d.task ≡ stack.top.task → ⊥
    gone w d a e =
        own_or_else (λ contexts. (x : Context) → Has contexts x → x.task ≡ stack.top.task → ⊥) l.worker w
        (context_ended stack.below) (s (obj.Control w)) (λ same x b f. below_gone stack.below refl x b f)
        (λ differs x b f. no_other w differs x b f) d
        (subst (λ (v : Val). Has (contexts_of (control_in v)) d) (ended_control w) a) e

    pub end_goes : GoOn s l.worker ended
    end_goes =
        let o = ended_old stack.below refl in
        record {
          orderly = ends s h ended stack.top.task task.Done ended_task refl l.worker stack.top top_there refl
              (all_from ended (context_ended stack.below) ended_control o)
              (all_distinct ended (context_ended stack.below) ended_control o) gone;
          goes = goes_at ended stack.top.task task.Done (which s h ended stack.top.task task.Done ended_task)
              (inr (inr (inr (h.running l.worker stack.top top_there explicit, refl))));
        }

  -- ---- a task begins

  module _ (name : List ℕ) (ready : Ready) (names : List Access) (us : List Update)
      (was : task_at s name ≡ task.Ready ready) (u : AreUntraced names) where
    abbrev pub new : Context
    new = task_context name stack.top ready

    abbrev pub es : List Edit
    es = BeginContext new ∷ []

    abbrev pub begun_state : State
    begun_state = after name (task.Running l.worker) names es us u

    begun_control : HasControl begun_state (changed es (Running stack))
    begun_control = control_after name (task.Running l.worker) names es us u

    begun_task : (other : List ℕ) → task_at begun_state other
        ≡ task_in (cond (pointwise nat_eq name other) (value.Task (task.Running l.worker)) (s (obj.Task other)))
    begun_task = task_after name (task.Running l.worker) names es us u

    abbrev IsNew : ℕ → Context → Type 0
    IsNew w d = IsTheNew s h begun_state name (task.Running l.worker) begun_task l.worker w d

    own_begun : (w : ℕ) → w ≡ l.worker → (d : Context) → Has (new ∷ stack.top ∷ stack.below) d
        → FromOld s w d ⊎ IsNew w d
    own_begun w same d (inl is) = inr (record {
      here = same;
      named = ap (λ (c : Context). c.task) (sym is);
      fresh = ap (λ (c : Context). c.births) (sym is);
    })
    own_begun w same d (inr a) = inl (subst (λ n. FromOld s n d) (sym same) (as_it_was s l.worker d (its d a)))

    from_begun : (w : ℕ) (d : Context) → Has (contexts_at begun_state w) d → FromOld s w d ⊎ IsNew w d
    from_begun w d a =
        own_or_other (λ contexts. (x : Context) → Has contexts x → FromOld s w x ⊎ IsNew w x) l.worker w
        (changed es (Running stack)) (s (obj.Control w)) (λ same x b. own_begun w same x b)
        (λ x b. inl (as_it_was s w x b)) d
        (subst (λ (v : Val). Has (contexts_of (control_in v)) d) (begun_control w) a)

    distinct_begun : (w : ℕ) → AreDistinct (contexts_at begun_state w)
    distinct_begun w =
        subst (λ (v : Val). AreDistinct (contexts_of (control_in v))) (sym (begun_control w))
        (own_or_other AreDistinct l.worker w (changed es (Running stack)) (s (obj.Control w)) (λ same. (
          λ d a e. h.waiting name ready l.worker d was (its d a)
              (same_starts name d.task name name (sym e) refl (starts_itself name)),
          its_distinct,
        )) (h.distinct w))

    pub begin_goes : GoOn s l.worker begun_state
    begin_goes = record {
      orderly = begins s h begun_state name (task.Running l.worker) begun_task l.worker ready refl was from_begun
          distinct_begun;
      goes = goes_at begun_state name (task.Running l.worker)
          (which s h begun_state name (task.Running l.worker) begun_task) (inr (inr (inl (ready, was, refl))));
    }

  -- ---- a task is made

  module _ (new : List ℕ) (ready : Ready) (to takes : ℕ) (names : List Access) (us : List Update)
      (named : new ≡ stack.top.task ++ (stack.top.births + 1) ∷ []) (u : AreUntraced names) where
    abbrev pub births : List Edit
    births = Go to takes None ∷ CountBirth ∷ []

    abbrev pub made : State
    made = after new (task.Ready ready) names births us u

    abbrev pub parent : Context
    parent = record (context_at to takes None stack.top) { births = stack.top.births + 1 }

    made_control : HasControl made (changed births (Running stack))
    made_control = control_after new (task.Ready ready) names births us u

    made_task : (other : List ℕ) → task_at made other
        ≡ task_in (cond (pointwise nat_eq new other) (value.Task (task.Ready ready)) (s (obj.Task other)))
    made_task = task_after new (task.Ready ready) names births us u

    made_old : AreOld (parent ∷ stack.below)
    made_old = same_old parent stack.below refl refl (omega arith) refl

    own_counted : (d : Context) → Has (parent ∷ stack.below) d → d.task ≡ stack.top.task
        → d.births ≡ stack.top.births + 1
    own_counted d (inl is) e = ap (λ (c : Context). c.births) (sym is)
    own_counted d (inr a) e = absurd (its_distinct.0 d a e)

    counted : (w : ℕ) (d : Context) → Has (contexts_at made w) d → d.task ≡ stack.top.task
        → d.births ≡ stack.top.births + 1
    counted w d a e =
        own_or_else (λ contexts. (x : Context) → Has contexts x → x.task ≡ stack.top.task
        → x.births ≡ stack.top.births + 1) l.worker w (changed births (Running stack)) (s (obj.Control w))
        (λ same x b f. own_counted x b f) (λ differs x b f. absurd (no_other w differs x b f)) d
        (subst (λ (v : Val). Has (contexts_of (control_in v)) d) (made_control w) a) e

    pub make_goes : GoOn s l.worker made
    make_goes = record {
      orderly = makes s h made new (task.Ready ready) made_task l.worker stack.top ready refl top_there named
          (all_from made (changed births (Running stack)) made_control made_old)
          (all_distinct made (changed births (Running stack)) made_control made_old) counted;
      goes = goes_at made new (task.Ready ready) (which s h made new (task.Ready ready) made_task)
          (inr (inl (
            ready,
            h.unmade l.worker stack.top (stack.top.births + 1) new top_there (omega arith)
                (same_starts new new new (stack.top.task ++ (stack.top.births + 1) ∷ []) refl named (starts_itself new)),
            refl,
          )));
    }

  -- ---- a team is made

  module _ (team : Team) (frame : Frame) (to takes : ℕ) (names : List Access) (us : List Update)
      (first : team.number ≡ 0) (named : team.name ≡ stack.top.task ++ (stack.top.births + 1) ∷ [])
      (u : AreUntraced names) where
    abbrev pub forking : List Edit
    forking = Go to takes None ∷ CountBirth ∷ BeginContext (member team frame) ∷ []

    abbrev pub forked : State
    forked = behind l stack s (workers_from 1 (team.size - 1) ++ names) forking
        (member_controls team frame 1 (team.size - 1) ++ us)

    abbrev pub maker : Context
    maker = record (context_at to takes None stack.top) { births = stack.top.births + 1 }

    abbrev IsOne : ℕ → Context → Type 0
    IsOne w d = IsMember s h forked l.worker stack.top top_there team.name named w d

    maker_old : AreOld (maker ∷ stack.below)
    maker_old = same_old maker stack.below refl refl (omega arith) refl

    -- of each control there
    there : (P : ℕ → Val → Type 0) (w : ℕ) → P w (with_control l (changed forking (Running stack)) s (obj.Control w))
        → (1 ≤ w → P w (value.Control (Running (record {
          top = member (record team { number = w }) frame;
          below = [];
        })))) → P w (forked (obj.Control w))
    there P w old new = members_behind (P w) team frame 1 (team.size - 1) names us
        (with_control l (changed forking (Running stack)) s) w u old new

    own_forked : (w : ℕ) → w ≡ l.worker → (d : Context) → Has (member team frame ∷ maker ∷ stack.below) d
        → FromOld s w d ⊎ IsOne w d
    own_forked w same d (inl is) = inr (record {
      number = team.number;
      task = ap (λ (c : Context). c.task) (sym is);
      implicit = ap (λ (c : Context). c.kind) (sym is);
      which = inl (first, same);
    })
    own_forked w same d (inr a) = inl (subst (λ n. FromOld s n d) (sym same) (maker_old.from d a))

    new_forked : (w : ℕ) → 1 ≤ w → (d : Context) → Has (member (record team { number = w }) frame ∷ []) d → IsOne w d
    new_forked w le d (inl is) = record {
      number = w;
      task = ap (λ (c : Context). c.task) (sym is);
      implicit = ap (λ (c : Context). c.kind) (sym is);
      which = inr (refl, le);
    }
    new_forked w le d (inr a) = absurd a

    from_forked : (w : ℕ) (d : Context) → Has (contexts_at forked w) d → FromOld s w d ⊎ IsOne w d
    from_forked w d a =
        there (λ n v. (x : Context) → Has (contexts_of (control_in v)) x → FromOld s n x ⊎ IsOne n x) w
        (own_or_other (λ contexts. (x : Context) → Has contexts x → FromOld s w x ⊎ IsOne w x) l.worker w
        (changed forking (Running stack)) (s (obj.Control w)) (λ same x b. own_forked w same x b)
        (λ x b. inl (as_it_was s w x b)))
        (λ le x b. inr (new_forked w le x b)) d a

    -- a member's task is none that was there
    not_there : (w number : ℕ) (d : Context) → FromOld s w d → d.task ≡ team.name ++ number ∷ [] → ⊥
    not_there w number d f e =
        not_new s h forked l.worker stack.top top_there team.name named w d f (number ∷ [], e)

    distinct_forked : (w : ℕ) → AreDistinct (contexts_at forked w)
    distinct_forked w =
        there (λ n v. AreDistinct (contexts_of (control_in v))) w
        (own_or_other AreDistinct l.worker w (changed forking (Running stack)) (s (obj.Control w)) (λ same. (
          λ d a e. not_there l.worker team.number d (maker_old.from d a) e,
          maker_old.dist,
        )) (h.distinct w)) (λ le. (λ d a e. absurd a, tt))

    own_maker : (d : Context) → Has (member team frame ∷ maker ∷ stack.below) d → FromOld s l.worker d
        → d.task ≡ stack.top.task → d.births ≡ stack.top.births + 1
    own_maker d (inl is) f e = absurd (not_there l.worker team.number d f (ap (λ (c : Context). c.task) (sym is)))
    own_maker d (inr (inl is)) f e = ap (λ (c : Context). c.births) (sym is)
    own_maker d (inr (inr a)) f e = absurd (its_distinct.0 d a e)

    counted_forked : (w : ℕ) (d : Context) → Has (contexts_at forked w) d → FromOld s w d
        → d.task ≡ stack.top.task → d.births ≡ stack.top.births + 1
    counted_forked w d a f e =
        there (λ n v. (x : Context) → Has (contexts_of (control_in v)) x → FromOld s n x → x.task ≡ stack.top.task
        → x.births ≡ stack.top.births + 1) w
        (own_or_else (λ contexts. (x : Context) → Has contexts x → FromOld s w x → x.task ≡ stack.top.task
        → x.births ≡ stack.top.births + 1) l.worker w (changed forking (Running stack)) (s (obj.Control w))
        (λ same x b g i. own_maker x b (subst (λ n. FromOld s n x) same g) i)
        (λ differs x b g i. absurd (no_other w differs x b i)))
        (λ le x b g i. absurd (new_none w x b g)) d a f e
      where
        new_none : (w : ℕ) (x : Context) → Has (member (record team { number = w }) frame ∷ []) x → FromOld s w x → ⊥
        new_none w x (inl is) g = not_there w w x g (ap (λ (c : Context). c.task) (sym is))
        new_none w x (inr b) g = absurd b

    task_forked : (name : List ℕ) → task_at forked name ≡ task_at s name
    task_forked name = ap task_in (no_member team frame 1 (team.size - 1) names us
        (with_control l (changed forking (Running stack)) s) (obj.Task name) u refl (λ w. refl))

    pub fork_goes : GoOn s l.worker forked
    fork_goes = record {
      orderly = forks s h forked l.worker stack.top top_there team.name named from_forked distinct_forked counted_forked
          task_forked;
      goes = λ name. inl (task_forked name);
    }

  -- the running context goes on with these regions
  pub top_old : (x : Context) → x.task ≡ stack.top.task → x.kind ≡ stack.top.kind → x.births ≡ stack.top.births
      → AreOld (x ∷ stack.below)
  top_old x e f g = same_old x stack.below e f (omega (arith, g)) refl
