-- A step that opens a `single` region to run it finds that nobody has run it, and one that passes it by that somebody has.
use Rattle.std.proofs.Common.{◌≡◌, refl, sym, ◌∙◌, ap, subst, ℕ, zero, suc, ◌+◌, ◌-◌, ◌≤◌, arith, Bool, true, false}
use Rattle.std.proofs.Common.{None, Some, List, [], ◌∷◌, ◌++◌, drop, length}
use Rattle.std.specs.Prelude.{nat_eq}
use Rattle.om_foot.specs.declared.footprint.Access.{Access}
use Rattle.om_foot.specs.declared.object.Obj.TheVariants as obj
use Rattle.om_foot.specs.Footprint.{obj_eq}
use Rattle.om_code.specs.declared.raw.Raw.{Raw}
use Rattle.om_state.specs.declared.control.Construct.{Construct}
use Rattle.om_state.specs.declared.control.Construct.TheVariants as construct
use Rattle.om_state.specs.declared.control.Context.{Context}
use Rattle.om_state.specs.declared.control.Control as controls
use Rattle.om_state.specs.declared.control.Control.TheVariants.{Idle, Running, Faulted, Ended}
use Rattle.om_state.specs.declared.control.Edit.{Edit}
use Rattle.om_state.specs.declared.control.Edit.TheVariants.{Go, BeginContext, EndContext, Open, Close, Replace, CountBirth}
use Rattle.om_state.specs.declared.control.Frame.{Frame}
use Rattle.om_state.specs.declared.control.Stack.{Stack}
use Rattle.om_state.specs.declared.control.Team.{Team}
use Rattle.om_state.specs.declared.step.Label.{Label}
use Rattle.om_state.specs.declared.step.Update.{Update}
use Rattle.om_state.specs.declared.step.Update.TheVariants.{Put, Keep}
use Rattle.om_state.specs.declared.value.Task.TheVariants as task
use Rattle.om_state.specs.declared.value.Val.{Val}
use Rattle.om_state.specs.declared.value.Val.TheVariants as value
use Rattle.om_state.specs.Edits.{changed, context_at, context_ended}
use Rattle.om_state.specs.Rules.{replay_from}
use Rattle.om_state.specs.State.{State}
use Rattle.om_state.specs.Values.{control_in}
use Rattle.om_team_serial.specs.Objects.{write}
use Rattle.om_team_worksharing.specs.Rows.{begun, edits, in_chunk}
use Rattle.om_team.specs.Teams.{member, member_controls, workers_from}
use Rattle.om_task.specs.Rules.{rules_of}
use Rattle.om_task.specs.Tasks.{task_context}
use Rattle.om_team_laws.specs.Contexts.{contexts_at, contexts_of}
use Rattle.om_team_laws.specs.Works.{OpensSingle, given_out}
use Rattle.om_team_laws.proofs.Behind.{members_behind, own_fault, own_put, own_quiet, with_control}
use Rattle.om_team_laws.proofs.Behind.{with_own}
use Rattle.om_team_laws.proofs.Cases.{Covers, IsQuiet, Leads, behind, leads, leads_to_fault, no_step_blocked, no_step_lacks}
use Rattle.om_team_laws.proofs.Regions.{agree, singles}
use Rattle.om_team_laws.proofs.Shared.{stays_given}
use Rattle.om_team_laws.proofs.Traced.{AreUntraced}
use Rattle.om_team_laws.proofs.Walk.{step_leads}
use Rattle.om_team_laws.proofs.Works.{put_here, put_there}

-- no list is its own rest
longer : {A : Type 0} (xs : List A) (x : A) → xs ≡ x ∷ xs → ⊥
longer xs x e = let long = ap length e in absurd (omega (arith, long))

longer_two : {A : Type 0} (xs : List A) (x y z : A) → x ∷ y ∷ xs ≡ z ∷ xs → ⊥
longer_two xs x y z e = let long = ap length e in absurd (omega (arith, long))

dropped : (xs : List Construct) (x : Construct) → drop 1 xs ≡ x ∷ xs → ⊥
dropped [] x e = cc
dropped (y ∷ xs) x e = let long = ap length e in absurd (omega (arith, long))

agrees : (which : Bool) → agree which which ≡ 1
agrees true = refl
agrees false = refl

is_some : (n : ℕ) → nat_eq n 0 ≡ false → 1 ≤ n
is_some zero e = cc
is_some (suc n) e = omega arith

module _ (l : Label) (stack : Stack) (s : State) where
  abbrev team : List ℕ
  team = stack.top.team.name

  abbrev region : ℕ
  region = stack.top.regions

  -- contexts in which the running one has such a region more
  pub record HasOpened (which : Bool) (contexts : List Context) : Type 0 where
    pub context : Context
    pub same_below : contexts ≡ context ∷ stack.below
    pub opened : context.constructs ≡ construct.Single which ∷ stack.top.constructs

  -- what is found, and what is left
  abbrev pub Found : Bool → State → Type 0
  Found true t = (given_out s team region ≡ 0) × (given_out t team region ≡ 1)
  Found false t = 1 ≤ given_out s team region

  abbrev Q : State → Type 0
  Q t = (which : Bool) → HasOpened which (contexts_at t l.worker) → Found which t

  -- a step that opens none
  abbrev OpensNone : List Context → Type 0
  OpensNone contexts = (which : Bool) → HasOpened which contexts → ⊥

  none : (t : State) (contexts : List Context) → contexts_at t l.worker ≡ contexts → OpensNone contexts → Q t
  none t contexts e h which o = absurd (h which (subst (HasOpened which) e o))

  quiet_none : (c : controls.Control) → IsQuiet stack c → OpensNone (contexts_of c)
  quiet_none (Running other) q which o =
      let same : other.top ≡ o.context = ap first o.same_below in
      let more : singles which other.top.constructs ≡ agree which which + singles which stack.top.constructs =
      ap (λ (c : Context). singles which c.constructs) same ∙ ap (singles which) o.opened in
      let less = q.0.singles which in
      let some = agrees which in
      absurd (omega (arith, more, less, some))
    where
      first : List Context → Context
      first [] = other.top
      first (c ∷ contexts) = c
  quiet_none (Ended result) q which o = let no : [] ≡ o.context ∷ stack.below = o.same_below in cc
  quiet_none (Faulted fault other) q which o = q
  quiet_none Idle q which o = q

  ended_none : (below : List Context) → below ≡ stack.below → OpensNone (contexts_of (context_ended below))
  ended_none [] e which o = let no : [] ≡ o.context ∷ stack.below = o.same_below in cc
  ended_none (c ∷ below) e which o = longer stack.below o.context (sym e ∙ o.same_below)

  -- another context on top
  more_none : (x y : Context) → OpensNone (x ∷ y ∷ stack.below)
  more_none x y which o = longer_two stack.below x y o.context o.same_below

  -- the same context, with these regions
  regions_none : (x : Context) → ((which : Bool) → x.constructs ≡ construct.Single which ∷ stack.top.constructs → ⊥)
      → OpensNone (x ∷ stack.below)
  regions_none x h which o =
      h which (ap (λ (c : Context). c.constructs) same ∙ o.opened)
    where
      first : List Context → Context
      first [] = x
      first (c ∷ contexts) = c

      same : x ≡ o.context
      same = ap first o.same_below

  same_none : (x : Context) → x.constructs ≡ stack.top.constructs → OpensNone (x ∷ stack.below)
  same_none x e = regions_none x (λ which f. longer stack.top.constructs (construct.Single which) (sym e ∙ f))

  -- a member on its own
  member_none : (t : Team) (frame : Frame) → OpensNone (member t frame ∷ [])
  member_none t frame which o = let no : [] ≡ construct.Single which ∷ stack.top.constructs =
      ap (λ (c : Context). c.constructs) same ∙ o.opened in cc
    where
      first : List Context → Context
      first [] = member t frame
      first (c ∷ contexts) = c

      same : member t frame ≡ o.context
      same = ap first o.same_below

  -- a row that puts something besides, at an object that is no control
  put_none : (a : Access) (x : Update) (names : List Access) (es : List Edit) (us : List Update) → AreUntraced names
      → obj_eq a.object (obj.Control l.worker) ≡ false → OpensNone (contexts_of (changed es (Running stack)))
      → Q (behind l stack s (a ∷ names) es (x ∷ us))
  put_none a x names es us u f h =
      none _ (contexts_of (changed es (Running stack))) (own_put l (changed es (Running stack)) s a x names us u f) h

  -- ---- the two steps that open one

  abbrev opened : Bool → ℕ → Context
  opened which to = record (context_at to 0 None stack.top) {
    regions = stack.top.regions + 1;
    constructs = construct.Single which ∷ stack.top.constructs;
  }

  is_which : (which other : Bool) (to : ℕ) → HasOpened which (opened other to ∷ stack.below) → which ≡ other
  is_which which other to o =
      let heads : construct.Single other ∷ stack.top.constructs ≡ construct.Single which ∷ stack.top.constructs =
      ap (λ (c : Context). c.constructs) same ∙ o.opened in
      cc
    where
      first : List Context → Context
      first [] = opened other to
      first (c ∷ contexts) = c

      same : opened other to ≡ o.context
      same = ap first o.same_below

  abbrev work : Access
  work = write (obj.Work team region)

  runs_it : (to : ℕ) (names : List Access) (us : List Update) → given_out s team region ≡ 0 → AreUntraced names
      → Q (behind l stack s (work ∷ names) (begun to 0 (construct.Single true)) (Put (value.Number 1) ∷ us))
  runs_it to names us e u which o =
      let es = begun to 0 (construct.Single true) in
      let is : which ≡ true = is_which which true to
      (subst (HasOpened which) (own_put l (changed es (Running stack)) s work (Put (value.Number 1)) names us u refl) o) in
      subst (λ b. Found b (behind l stack s (work ∷ names) es (Put (value.Number 1) ∷ us))) (sym is)
      (e, put_there l stack s team region team region 1 names es us u ∙ put_here s team region 1)

  passes_it : (to : ℕ) (names : List Access) (us : List Update) → nat_eq (given_out s team region) 0 ≡ false
      → AreUntraced names
      → Q (behind l stack s (work ∷ names) (begun to 0 (construct.Single false)) (Keep ∷ us))
  passes_it to names us e u which o =
      let es = begun to 0 (construct.Single false) in
      let is : which ≡ false = is_which which false to
      (subst (HasOpened which) (own_put l (changed es (Running stack)) s work Keep names us u refl) o) in
      subst (λ b. Found b (behind l stack s (work ∷ names) es (Keep ∷ us))) (sym is)
      (is_some (given_out s team region) e)

  -- ---- each case

  pub finding : Covers l.worker stack s (Leads l stack s Q)
  finding = record {
    faults = λ names f. leads_to_fault l stack s Q names f
        (none _ (stack.top ∷ stack.below) (own_fault l (Faulted f stack) s names) (same_none stack.top refl));
    blocked = no_step_blocked l stack s Q;
    lacks = no_step_lacks l stack s Q;
    goes = λ names es us u q more. leads l stack s Q names es us
        (none _ (contexts_of (changed es (Running stack))) (own_quiet l (changed es (Running stack)) s names us u)
        (quiet_none (changed es (Running stack)) q));
    leaves = λ names us u e. leads l stack s Q names (EndContext ∷ []) us
        (none _ (contexts_of (context_ended stack.below)) (own_quiet l (context_ended stack.below) s names us u)
        (ended_none stack.below refl));
    forks = λ t frame to takes names us z e u.
        let es = Go to takes None ∷ CountBirth ∷ BeginContext (member t frame) ∷ [] in
        let c = changed es (Running stack) in
        leads l stack s Q (workers_from 1 (t.size - 1) ++ names) es (member_controls t frame 1 (t.size - 1) ++ us)
        (λ which o. absurd (members_behind (λ (v : Val). OpensNone (contexts_of (control_in v))) t frame 1 (t.size - 1) names
        us (with_control l c s) l.worker u
        (subst (λ (v : Val). OpensNone (contexts_of (control_in v))) (sym (with_own l c s)) (more_none _ _))
        (λ le. member_none (record t { number = l.worker }) frame) which o));
    makes = λ new ready to takes names us e u. leads l stack s Q (write (obj.Task new) ∷ names)
        (Go to takes None ∷ CountBirth ∷ []) (Put (value.Task (task.Ready ready)) ∷ us)
        (put_none (write (obj.Task new)) (Put (value.Task (task.Ready ready))) names (Go to takes None ∷ CountBirth ∷ []) us
        u refl (same_none (record (context_at to takes None stack.top) { births = stack.top.births + 1 }) refl));
    begins = λ name ready names us e u. leads l stack s Q (write (obj.Task name) ∷ names)
        (BeginContext (task_context name stack.top ready) ∷ []) (Put (value.Task (task.Running l.worker)) ∷ us)
        (put_none (write (obj.Task name)) (Put (value.Task (task.Running l.worker))) names
        (BeginContext (task_context name stack.top ready) ∷ []) us u refl (more_none _ _));
    ends = λ next below names us e f u. leads l stack s Q (write (obj.Task stack.top.task) ∷ names)
        (EndContext ∷ []) (Put (value.Task task.Done) ∷ us)
        (put_none (write (obj.Task stack.top.task)) (Put (value.Task task.Done)) names (EndContext ∷ []) us u refl
        (ended_none stack.below refl));
    enters = λ lock to names us free u. leads l stack s Q (write (obj.Lock lock) ∷ names)
        (edits to 0 (Open (construct.Critical lock))) (Put (value.Lock (Some l.worker)) ∷ us)
        (put_none (write (obj.Lock lock)) (Put (value.Lock (Some l.worker))) names
        (edits to 0 (Open (construct.Critical lock))) us u refl
        (regions_none (record (context_at to 0 None stack.top) {
          constructs = construct.Critical lock ∷ stack.top.constructs;
        }) (λ which e. cc)));
    exits = λ lock to names us is u. leads l stack s Q (write (obj.Lock lock) ∷ names)
        (edits to 0 Close) (Put (value.Lock None) ∷ us)
        (put_none (write (obj.Lock lock)) (Put (value.Lock None)) names (edits to 0 Close) us u refl
        (regions_none (record (context_at to 0 None stack.top) { constructs = drop 1 stack.top.constructs })
        (λ which e. dropped stack.top.constructs (construct.Single which) e)));
    runs = λ to names us e u. leads l stack s Q (work ∷ names) (begun to 0 (construct.Single true))
        (Put (value.Number 1) ∷ us) (runs_it to names us e u);
    passes = λ to names us e u. leads l stack s Q (work ∷ names) (begun to 0 (construct.Single false))
        (Keep ∷ us) (passes_it to names us e u);
    takes = λ share size to chunk e f g.
        let es = edits to 0 (Replace (in_chunk share share.taken chunk)) in
        leads l stack s Q (write (obj.Work team share.region) ∷ []) es (Put (value.Number chunk.end) ∷ [])
        (put_none (write (obj.Work team share.region)) (Put (value.Number chunk.end)) [] es [] tt refl
        (regions_none (record (context_at to 0 None stack.top) {
          constructs = in_chunk share share.taken chunk ∷ drop 1 stack.top.constructs;
        }) (λ which e. cc)));
    finds_none = λ share to. leads l stack s Q (write (obj.Work team share.region) ∷ []) (Go to 0 None ∷ []) []
        (none _ (stack_top to ∷ stack.below)
        (own_fault l (changed (Go to 0 None ∷ []) (Running stack)) s (write (obj.Work team share.region) ∷ []))
        (same_none (stack_top to) refl));
  }
    where
      stack_top : ℕ → Context
      stack_top to = context_at to 0 None stack.top

-- ---- a step

-- what a step that opens a `single` region finds
pub found : (which : Bool) (program : Raw) (workers : ℕ) (s t : State) (l : Label) (team : List ℕ) (region : ℕ)
    → (o : OpensSingle which program workers s t l team region) → Found l o.stack s which t
found which program workers s t l team region o =
    step_leads program workers l s (Q l o.stack s) (λ stack runs.
    let same : o.stack ≡ stack = the_same stack runs in
    subst (λ (x : Stack). Covers l.worker x s (Leads l x s (Q l o.stack s))) same (finding l o.stack s)) t o.made which
    (record { context = o.context; same_below = o.same_below; opened = o.opened })
  where
    the_same : (stack : Stack) → control_in (s (obj.Control l.worker)) ≡ Running stack → o.stack ≡ stack
    the_same stack runs =
        let both : Running o.stack ≡ Running stack = sym (ap control_in o.running) ∙ runs in
        cc

-- the same of its own number
at_number : (s : State) (stack : Stack) (name : List ℕ) (number : ℕ) → stack.top.team.name ≡ name
    → stack.top.regions ≡ number
    → given_out s stack.top.team.name stack.top.regions ≡ given_out s name number
at_number s stack name number e f =
    ap (λ n. given_out s n stack.top.regions) e ∙ ap (λ r. given_out s name r) f

pub runs_new : (program : Raw) (workers : ℕ) (s t : State) (l : Label) (team : List ℕ) (region : ℕ)
    → OpensSingle true program workers s t l team region
    → (given_out s team region ≡ 0) × (given_out t team region ≡ 1)
runs_new program workers s t l team region o =
    let f = found true program workers s t l team region o in (
      sym (at_number s o.stack team region o.of_team o.of_region) ∙ f.0,
      sym (at_number t o.stack team region o.of_team o.of_region) ∙ f.1,
    )

pub passes_old : (program : Raw) (workers : ℕ) (s t : State) (l : Label) (team : List ℕ) (region : ℕ)
    → OpensSingle false program workers s t l team region → 1 ≤ given_out s team region
passes_old program workers s t l team region o =
    let f = found false program workers s t l team region o in
    let same = at_number s o.stack team region o.of_team o.of_region in
    omega (arith, f, same)

-- one step at most runs it
pub runs_once : (program : Raw) (workers : ℕ) (between : List Label) (l m : Label) (s t u v : State) (team : List ℕ)
    (region : ℕ) → OpensSingle true program workers s t l team region
    → replay_from (rules_of program workers) t between ≡ Some u
    → OpensSingle true program workers u v m team region → ⊥
runs_once program workers between l m s t u v team region first e again =
    let one = (runs_new program workers s t l team region first).1 in
    let still = stays_given program workers between t u team region 1 (omega (arith, one)) e in
    let none = (runs_new program workers u v m team region again).0 in
    absurd (omega (arith, still, none))
