-- Where each context behind a step comes from, and each task that waits: case by case.
use Rattle.std.proofs.Common.{◌≡◌, refl, sym, ◌∙◌, ap, subst, ℕ, ◌+◌, ◌-◌, ◌≤◌, arith, Bool, true, false, cond}
use Rattle.std.proofs.Common.{None, Some, List, [], ◌∷◌, ◌++◌, drop, ◌⊎◌, inl, inr}
use Rattle.std.specs.Prelude.{nat_eq}
use Rattle.std.specs.Cmp.Lexicographic.{pointwise}
use Rattle.om_foot.specs.Below.{same_list}
use Rattle.om_foot.specs.declared.footprint.Access.{Access}
use Rattle.om_foot.specs.declared.object.Obj.TheVariants as obj
use Rattle.om_foot.specs.Footprint.{obj_eq}
use Rattle.om_code.specs.declared.raw.Raw.{Raw}
use Rattle.om_state.specs.declared.control.Construct.TheVariants as construct
use Rattle.om_state.specs.declared.control.Context.{Context}
use Rattle.om_state.specs.declared.control.Control as controls
use Rattle.om_state.specs.declared.control.Control.TheVariants.{Idle, Running, Faulted, Ended}
use Rattle.om_state.specs.declared.control.Edit.{Edit}
use Rattle.om_state.specs.declared.control.Edit.TheVariants.{Go, BeginContext, EndContext, Open, Close, Replace, CountBirth}
use Rattle.om_state.specs.declared.control.Frame.{Frame}
use Rattle.om_state.specs.declared.control.Share.{Share}
use Rattle.om_state.specs.declared.control.Stack.{Stack}
use Rattle.om_state.specs.declared.control.Team.{Team}
use Rattle.om_state.specs.declared.step.Label.{Label}
use Rattle.om_state.specs.declared.step.Update.{Update}
use Rattle.om_state.specs.declared.step.Update.TheVariants.{Put, Keep}
use Rattle.om_state.specs.declared.value.Ready.{Ready}
use Rattle.om_state.specs.declared.value.Task as tasks
use Rattle.om_state.specs.declared.value.Task.TheVariants as task
use Rattle.om_state.specs.declared.value.Val.{Val}
use Rattle.om_state.specs.declared.value.Val.TheVariants as value
use Rattle.om_state.specs.Edits.{changed, context_at, context_ended}
use Rattle.om_state.specs.Rules.{next_state}
use Rattle.om_state.specs.State.{State}
use Rattle.om_state.specs.Values.{control_in, task_in}
use Rattle.om_team_serial.specs.Objects.{write}
use Rattle.om_team_worksharing.specs.declared.chunk.Chunk.{Chunk}
use Rattle.om_team_worksharing.specs.Rows.{begun, edits, in_chunk, share_in}
use Rattle.om_team.specs.Teams.{member, member_controls, workers_from}
use Rattle.om_task.specs.Rules.{rules_of}
use Rattle.om_task.specs.Tasks.{task_context}
use Rattle.om_team_laws.specs.Contexts.{contexts_at, contexts_of}
use Rattle.om_team_laws.specs.Tasks.{Has, task_at}
use Rattle.om_team_laws.specs.Works.{is_dynamic}
use Rattle.om_team_laws.proofs.Advancing.{given_advances}
use Rattle.om_team_laws.proofs.Behind.{behind_put, behind_quiet, members_behind, no_member, own_or_other, with_control}
use Rattle.om_team_laws.proofs.Cases.{Covers, IsLike, IsQuiet, Leads, behind, leads, leads_to_fault, no_step_blocked}
use Rattle.om_team_laws.proofs.Cases.{no_step_lacks}
use Rattle.om_team_laws.proofs.Owned.{KeepsOwn, keeps_close, keeps_open, keeps_replace, keeps_same, keeps_single}
use Rattle.om_team_laws.proofs.TaskSteps.{born_is}
use Rattle.om_team_laws.proofs.Traced.{AreUntraced, none_left, skipped}
use Rattle.om_team_laws.proofs.Walk.{step_leads}

-- a context goes on
pub record Follows (a b : Context) : Type 0 where
  pub task : b.task ≡ a.task
  pub kind : b.kind ≡ a.kind
  pub team : b.team ≡ a.team
  pub births : a.births ≤ b.births
  pub own : KeepsOwn a b

pub record HasGoneOn (s : State) (w : ℕ) (d : Context) : Type 0 where
  pub old : Context
  pub there : Has (contexts_at s w) old
  pub follows : Follows old d

-- a name is the next one of a context
pub record IsNext (s : State) (name : List ℕ) : Type 0 where
  pub worker : ℕ
  pub maker : Context
  pub there : Has (contexts_at s worker) maker
  pub named : name ≡ maker.task ++ (maker.births + 1) ∷ []

-- a context begins: that of a member of a new team, or of a task that waits
pub record IsNewMember (s : State) (d : Context) : Type 0 where
  pub team : Team
  pub frame : Frame
  pub next : IsNext s team.name
  pub is : member team frame ≡ d

pub record IsNewTask (s : State) (d : Context) : Type 0 where
  pub name : List ℕ
  pub ready : Ready
  pub below : Context
  pub waited : task_at s name ≡ task.Ready ready
  pub is : task_context name below ready ≡ d

abbrev pub Comes : State → ℕ → Context → Type 0
Comes s w d = HasGoneOn s w d ⊎ (IsNewMember s d ⊎ IsNewTask s d)

pub record Moves (s t : State) : Type 0 where
  pub comes : (w : ℕ) (d : Context) → Has (contexts_at t w) d → Comes s w d
  -- a task that waits was waiting, or is made
  pub waits : (name : List ℕ) (ready : Ready) → task_at t name ≡ task.Ready ready
      → (task_at s name ≡ task.Ready ready) ⊎ IsNext s name

same_follows : (d : Context) → Follows d d
same_follows d = record {
  task = refl;
  kind = refl;
  team = refl;
  births = omega arith;
  own = λ h. (h, λ small region iteration. omega arith);
}

stays : (s : State) (w : ℕ) (d : Context) → Has (contexts_at s w) d → Comes s w d
stays s w d a = inl (record { old = d; there = a; follows = same_follows d })

of_like : (a b : Context) → IsLike a b → Follows a b
of_like a b h = record { task = h.task; kind = h.kind; team = h.team; births = h.births; own = h.own }

module _ (l : Label) (stack : Stack) (s : State) (runs : control_in (s (obj.Control l.worker)) ≡ Running stack) where
  its : (d : Context) → Has (stack.top ∷ stack.below) d → Has (contexts_at s l.worker) d
  its d a = subst (λ c. Has (contexts_of c) d) (sym runs) a

  top_there : Has (contexts_at s l.worker) stack.top
  top_there = its stack.top (inl refl)

  -- ---- the worker's contexts

  abbrev OwnCome : List Context → Type 0
  OwnCome contexts = (d : Context) → Has contexts d → Comes s l.worker d

  top_comes : (x : Context) (below : List Context) → Follows stack.top x → below ≡ stack.below → OwnCome (x ∷ below)
  top_comes x below f e d (inl is) =
      subst (λ y. Comes s l.worker y) is (inl (record { old = stack.top; there = top_there; follows = f }))
  top_comes x below f e d (inr a) = stays s l.worker d (its d (inr (subst (λ ds. Has ds d) e a)))

  quiet_comes : (c : controls.Control) → IsQuiet stack c → OwnCome (contexts_of c)
  quiet_comes (Running other) q = top_comes other.top other.below (of_like stack.top other.top q.0) q.1
  quiet_comes (Ended result) q = λ d a. absurd a
  quiet_comes (Faulted fault other) q = absurd q
  quiet_comes Idle q = absurd q

  ended_comes : (below : List Context) → below ≡ stack.below → OwnCome (contexts_of (context_ended below))
  ended_comes [] e d a = absurd a
  ended_comes (c ∷ below) e d a = stays s l.worker d (its d (inr (subst (λ ds. Has ds d) e a)))

  -- ---- all contexts

  abbrev HasControl : State → controls.Control → Type 0
  HasControl t c = (w : ℕ) → t (obj.Control w) ≡ with_control l c s (obj.Control w)

  all_come : (t : State) (c : controls.Control) → HasControl t c → OwnCome (contexts_of c) → (w : ℕ) (d : Context)
      → Has (contexts_at t w) d → Comes s w d
  all_come t c e own w d a =
      own_or_other (λ contexts. (x : Context) → Has contexts x → Comes s w x) l.worker w c (s (obj.Control w))
      (λ same x b. subst (λ n. Comes s n x) (sym same) (own x b)) (λ x b. stays s w x b) d
      (subst (λ (v : Val). Has (contexts_of (control_in v)) d) (e w) a)

  moves : (t : State) (c : controls.Control) → HasControl t c → OwnCome (contexts_of c)
      → ((name : List ℕ) → task_at t name ≡ task_at s name) → Moves s t
  moves t c e own same = record {
    comes = all_come t c e own;
    waits = λ name ready w. inl (sym (same name) ∙ w);
  }

  -- ---- steps that change no task

  quiet : (names : List Access) (es : List Edit) (us : List Update) → AreUntraced names
      → OwnCome (contexts_of (changed es (Running stack))) → Moves s (behind l stack s names es us)
  quiet names es us u own =
      let c = changed es (Running stack) in
      moves _ c (λ w. behind_quiet l c s names us (obj.Control w) u refl) own
      (λ name. ap task_in (behind_quiet l c s names us (obj.Task name) u refl))

  quiet_put : (a : Access) (x : Update) (names : List Access) (es : List Edit) (us : List Update) → AreUntraced names
      → ((w : ℕ) → obj_eq a.object (obj.Control w) ≡ false)
      → ((name : List ℕ) → obj_eq a.object (obj.Task name) ≡ false)
      → OwnCome (contexts_of (changed es (Running stack))) → Moves s (behind l stack s (a ∷ names) es (x ∷ us))
  quiet_put a x names es us u f g own =
      let c = changed es (Running stack) in
      moves _ c
      (λ w. behind_put l c s a x names us (obj.Control w) u refl
      ∙ skipped (obj_eq a.object (obj.Control w)) _ (with_control l c s (obj.Control w)) (f w)) own
      (λ name. ap task_in (behind_put l c s a x names us (obj.Task name) u refl
      ∙ skipped (obj_eq a.object (obj.Task name)) _ (with_control l c s (obj.Task name)) (g name)))

  -- ---- steps that change the task of a name

  task_put : (name : List ℕ) (now : tasks.Task) (names : List Access) (es : List Edit) (us : List Update)
      → AreUntraced names → OwnCome (contexts_of (changed es (Running stack)))
      → ((ready : Ready) → now ≡ task.Ready ready → IsNext s name)
      → Moves s (behind l stack s (write (obj.Task name) ∷ names) es (Put (value.Task now) ∷ us))
  task_put name now names es us u own new = record {
    comes = all_come (behind l stack s (write (obj.Task name) ∷ names) es (Put (value.Task now) ∷ us))
        (changed es (Running stack))
        (λ w. behind_put l (changed es (Running stack)) s (write (obj.Task name)) (Put (value.Task now)) names us
        (obj.Control w) u refl) own;
    waits = λ other ready w.
        by other ready (pointwise nat_eq name other) refl
        (sym (ap task_in (behind_put l (changed es (Running stack)) s (write (obj.Task name)) (Put (value.Task now)) names us
        (obj.Task other) u refl)) ∙ w);
  }
    where
      by : (other : List ℕ) (ready : Ready) (b : Bool) → pointwise nat_eq name other ≡ b
          → task_in (cond b (value.Task now) (s (obj.Task other))) ≡ task.Ready ready
          → (task_at s other ≡ task.Ready ready) ⊎ IsNext s other
      by other ready true e w = inr (subst (IsNext s) ((same_list name other).0 e) (new ready w))
      by other ready false e w = inl w

  -- ---- a team is made

  module _ (team : Team) (frame : Frame) (to takes : ℕ) (names : List Access) (us : List Update)
      (named : team.name ≡ stack.top.task ++ (stack.top.births + 1) ∷ []) (u : AreUntraced names) where
    abbrev forking : List Edit
    forking = Go to takes None ∷ CountBirth ∷ BeginContext (member team frame) ∷ []

    abbrev forked : State
    forked = behind l stack s (workers_from 1 (team.size - 1) ++ names) forking
        (member_controls team frame 1 (team.size - 1) ++ us)

    abbrev maker : Context
    maker = record (context_at to takes None stack.top) { births = stack.top.births + 1 }

    next_name : IsNext s team.name
    next_name = record { worker = l.worker; maker = stack.top; there = top_there; named = named }

    maker_follows : Follows stack.top maker
    maker_follows = record {
      task = refl;
      kind = refl;
      team = refl;
      births = omega arith;
      own = keeps_same stack.top maker refl refl refl refl;
    }

    own_forked : OwnCome (member team frame ∷ maker ∷ stack.below)
    own_forked d (inl is) = inr (inl (record { team = team; frame = frame; next = next_name; is = is }))
    own_forked d (inr a) = top_comes maker stack.below maker_follows refl d a

    new_forked : (w : ℕ) (d : Context) → Has (member (record team { number = w }) frame ∷ []) d → Comes s w d
    new_forked w d (inl is) =
        inr (inl (record { team = record team { number = w }; frame = frame; next = next_name; is = is }))
    new_forked w d (inr a) = absurd a

    fork_moves : Moves s forked
    fork_moves = record {
      comes = λ w d a.
          members_behind (λ (v : Val). (x : Context) → Has (contexts_of (control_in v)) x → Comes s w x) team frame 1
          (team.size - 1) names us (with_control l (changed forking (Running stack)) s) w u
          (own_or_other (λ contexts. (x : Context) → Has contexts x → Comes s w x) l.worker w
          (changed forking (Running stack)) (s (obj.Control w))
          (λ same x b. subst (λ n. Comes s n x) (sym same) (own_forked x b)) (λ x b. stays s w x b))
          (λ le x b. new_forked w x b) d a;
      waits = λ name ready w. inl (sym (ap task_in (no_member team frame 1 (team.size - 1) names us
          (with_control l (changed forking (Running stack)) s) (obj.Task name) u refl (λ n. refl))) ∙ w);
    }

  -- ---- each case

  -- the running context goes on with these regions
  goes_on : (x : Context) → x.task ≡ stack.top.task → x.kind ≡ stack.top.kind → x.team ≡ stack.top.team
      → x.births ≡ stack.top.births → KeepsOwn stack.top x → OwnCome (x ∷ stack.below)
  goes_on x e f g births own =
      top_comes x stack.below (record { task = e; kind = f; team = g; births = omega (arith, births); own = own }) refl

  abbrev Q : State → Type 0
  Q t = Moves s t

  pub moving : Covers l.worker stack s (Leads l stack s Q)
  moving = record {
    faults = λ names f. leads_to_fault l stack s Q names f
        (moves _ (Faulted f stack) (λ w. none_left names (with_control l (Faulted f stack) s) (obj.Control w))
        (λ d a. stays s l.worker d (its d a))
        (λ name. ap task_in (none_left names (with_control l (Faulted f stack) s) (obj.Task name))));
    blocked = no_step_blocked l stack s Q;
    lacks = no_step_lacks l stack s Q;
    goes = λ names es us u q more. leads l stack s Q names es us
        (quiet names es us u (quiet_comes (changed es (Running stack)) q));
    leaves = λ names us u e. leads l stack s Q names (EndContext ∷ []) us
        (quiet names (EndContext ∷ []) us u (ended_comes stack.below refl));
    forks = λ t frame to takes names us z e u. leads l stack s Q (workers_from 1 (t.size - 1) ++ names)
        (Go to takes None ∷ CountBirth ∷ BeginContext (member t frame) ∷ [])
        (member_controls t frame 1 (t.size - 1) ++ us) (fork_moves t frame to takes names us e u);
    makes = λ new ready to takes names us e u. leads l stack s Q (write (obj.Task new) ∷ names)
        (Go to takes None ∷ CountBirth ∷ []) (Put (value.Task (task.Ready ready)) ∷ us)
        (task_put new (task.Ready ready) names (Go to takes None ∷ CountBirth ∷ []) us u
        (top_comes (record (context_at to takes None stack.top) { births = stack.top.births + 1 }) stack.below (record {
          task = refl;
          kind = refl;
          team = refl;
          births = omega arith;
          own = keeps_same stack.top (record (context_at to takes None stack.top) { births = stack.top.births + 1 }) refl refl refl
              refl;
        }) refl)
        (λ other f. record { worker = l.worker; maker = stack.top; there = top_there; named = born_is stack.top new e }));
    begins = λ name ready names us e u. leads l stack s Q (write (obj.Task name) ∷ names)
        (BeginContext (task_context name stack.top ready) ∷ []) (Put (value.Task (task.Running l.worker)) ∷ us)
        (task_put name (task.Running l.worker) names (BeginContext (task_context name stack.top ready) ∷ []) us u
        (begun_comes name ready e) (λ other f. cc));
    ends = λ next below names us e f u. leads l stack s Q (write (obj.Task stack.top.task) ∷ names)
        (EndContext ∷ []) (Put (value.Task task.Done) ∷ us)
        (task_put stack.top.task task.Done names (EndContext ∷ []) us u (ended_comes stack.below refl)
        (λ other f. cc));
    enters = λ lock to names us free u. leads l stack s Q (write (obj.Lock lock) ∷ names)
        (edits to 0 (Open (construct.Critical lock))) (Put (value.Lock (Some l.worker)) ∷ us)
        (quiet_put (write (obj.Lock lock)) (Put (value.Lock (Some l.worker))) names
        (edits to 0 (Open (construct.Critical lock))) us u (λ w. refl) (λ name. refl)
        (entered_comes lock to));
    exits = λ lock to names us is u. leads l stack s Q (write (obj.Lock lock) ∷ names)
        (edits to 0 Close) (Put (value.Lock None) ∷ us)
        (quiet_put (write (obj.Lock lock)) (Put (value.Lock None)) names (edits to 0 Close) us u (λ w. refl)
        (λ name. refl)
        (closed_comes to));
    runs = λ to names us e u.
        let work = write (obj.Work stack.top.team.name stack.top.regions) in
        leads l stack s Q (work ∷ names) (begun to 0 (construct.Single true)) (Put (value.Number 1) ∷ us)
        (quiet_put work (Put (value.Number 1)) names (begun to 0 (construct.Single true)) us u (λ w. refl) (λ name. refl)
        (single_comes to true));
    passes = λ to names us e u.
        let work = write (obj.Work stack.top.team.name stack.top.regions) in
        leads l stack s Q (work ∷ names) (begun to 0 (construct.Single false)) (Keep ∷ us)
        (quiet_put work Keep names (begun to 0 (construct.Single false)) us u (λ w. refl) (λ name. refl)
        (single_comes to false));
    takes = λ share size to chunk e f g.
        let work = write (obj.Work stack.top.team.name share.region) in
        let es = edits to 0 (Replace (in_chunk share share.taken chunk)) in
        leads l stack s Q (work ∷ []) es (Put (value.Number chunk.end) ∷ [])
        (quiet_put work (Put (value.Number chunk.end)) [] es [] tt (λ w. refl) (λ name. refl)
        (given_comes share to chunk e (ap is_dynamic f)));
    finds_none = λ share to. leads l stack s Q (write (obj.Work stack.top.team.name share.region) ∷ [])
        (Go to 0 None ∷ []) []
        (moves _ (changed (Go to 0 None ∷ []) (Running stack)) (λ w. refl)
        (goes_on (context_at to 0 None stack.top) refl refl refl refl (keeps_same stack.top (context_at to 0 None stack.top) refl refl
        refl refl))
        (λ name. refl));
  }
    where
      begun_comes : (name : List ℕ) (ready : Ready) → task_in (s (obj.Task name)) ≡ task.Ready ready
          → OwnCome (task_context name stack.top ready ∷ stack.top ∷ stack.below)
      begun_comes name ready e d (inl is) =
          inr (inr (record { name = name; ready = ready; below = stack.top; waited = e; is = is }))
      begun_comes name ready e d (inr a) = stays s l.worker d (its d a)

      entered_comes : (lock to : ℕ) → OwnCome (record (context_at to 0 None stack.top) {
        constructs = construct.Critical lock ∷ stack.top.constructs;
      } ∷ stack.below)
      entered_comes lock to =
          let now = record (context_at to 0 None stack.top) {
            constructs = construct.Critical lock ∷ stack.top.constructs;
          } in
          goes_on now refl refl refl refl
          (keeps_open stack.top now (construct.Critical lock) refl refl (λ region. omega arith) refl
          (λ region iteration. refl) tt)

      closed_comes : (to : ℕ) → OwnCome (record (context_at to 0 None stack.top) {
        constructs = drop 1 stack.top.constructs;
      } ∷ stack.below)
      closed_comes to =
          let now = record (context_at to 0 None stack.top) { constructs = drop 1 stack.top.constructs } in
          goes_on now refl refl refl refl (keeps_close stack.top now refl refl refl refl)

      single_comes : (to : ℕ) (which : Bool) → OwnCome (record (context_at to 0 None stack.top) {
        regions = stack.top.regions + 1;
        constructs = construct.Single which ∷ stack.top.constructs;
      } ∷ stack.below)
      single_comes to which =
          let now = record (context_at to 0 None stack.top) {
            regions = stack.top.regions + 1;
            constructs = construct.Single which ∷ stack.top.constructs;
          } in
          goes_on now refl refl refl refl (keeps_single stack.top now which refl refl refl refl)

      given_comes : (share : Share) (to : ℕ) (chunk : Chunk) → share_in stack.top ≡ Some share
          → is_dynamic share.schedule ≡ true → OwnCome (record (context_at to 0 None stack.top) {
            constructs = in_chunk share share.taken chunk ∷ drop 1 stack.top.constructs;
          } ∷ stack.below)
      given_comes share to chunk e f =
          let now = record (context_at to 0 None stack.top) {
            constructs = in_chunk share share.taken chunk ∷ drop 1 stack.top.constructs;
          } in
          goes_on now refl refl refl refl
          (keeps_replace stack.top now share (record share { taken = share.taken; next = chunk.first; end = chunk.end }) refl
          refl refl refl e (given_advances stack.top.team stack.top.kind share chunk f))

-- ---- a step

pub step_moves : (program : Raw) (workers : ℕ) (s t : State) (l : Label)
    → next_state (rules_of program workers) s l ≡ Some t → Moves s t
step_moves program workers s t l is =
    step_leads program workers l s (λ t. Moves s t) (λ stack runs. moving l stack s runs) t is
