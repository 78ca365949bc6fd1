-- Who has an iteration or a section in hand behind a step, and what is given out.
use Rattle.std.proofs.Common.{◌≡◌, refl, ◌∙◌, ap, subst, ℕ, zero, ◌+◌, ◌-◌, ◌≤◌, ◌<◌, arith, Bool, true, false}
use Rattle.std.proofs.Common.{if◌then◌else◌, None, Some, List, [], ◌∷◌, ◌++◌, drop, ◌⊎◌, inl, inr}
use Rattle.std.specs.Prelude.{nat_eq, nat_le}
use Rattle.std.specs.Cmp.Lexicographic.{pointwise}
use Rattle.std.proofs.lemmas.Bool.{eqb-true, leb-true, ltb-true}
use Rattle.om_foot.specs.Below.{same_list, two_true}
use Rattle.om_foot.specs.declared.footprint.Access.{Access}
use Rattle.om_foot.specs.declared.object.Obj.TheVariants as obj
use Rattle.om_foot.specs.Footprint.{obj_eq}
use Rattle.om_code.specs.declared.raw.Raw.{Raw}
use Rattle.om_state.specs.declared.control.Construct.TheVariants as construct
use Rattle.om_state.specs.declared.control.Context.{Context}
use Rattle.om_state.specs.declared.control.Control as controls
use Rattle.om_state.specs.declared.control.Control.TheVariants.{Idle, Running, Faulted, Ended}
use Rattle.om_state.specs.declared.control.Edit.{Edit}
use Rattle.om_state.specs.declared.control.Edit.TheVariants.{Go, BeginContext, EndContext, Open, Close, Replace, CountBirth}
use Rattle.om_state.specs.declared.control.Share.{Share}
use Rattle.om_state.specs.declared.control.Stack.{Stack}
use Rattle.om_state.specs.declared.control.Team.{Team}
use Rattle.om_state.specs.declared.step.Label.{Label}
use Rattle.om_state.specs.declared.step.Update.{Update}
use Rattle.om_state.specs.declared.step.Update.TheVariants.{Put, Keep}
use Rattle.om_state.specs.declared.value.Task.TheVariants as task
use Rattle.om_state.specs.declared.value.Val.TheVariants as value
use Rattle.om_state.specs.Edits.{changed, context_at}
use Rattle.om_state.specs.Rules.{next_state}
use Rattle.om_state.specs.State.{State}
use Rattle.om_state.specs.Values.{control_in}
use Rattle.om_team_serial.specs.Objects.{write}
use Rattle.om_team_worksharing.specs.declared.chunk.Chunk.{Chunk}
use Rattle.om_team_worksharing.specs.Rows.{begun, edits, in_chunk}
use Rattle.om_team.specs.Teams.{member, member_controls, workers_from}
use Rattle.om_task.specs.Rules.{rules_of}
use Rattle.om_task.specs.Tasks.{task_context}
use Rattle.om_team_laws.specs.Contexts.{contexts_of, tally}
use Rattle.om_team_laws.specs.Works.{given_out, hand, hands, hands_of, has_iteration, in_hand}
use Rattle.om_team_laws.specs.Works.{is_dynamic}
use Rattle.om_team_laws.proofs.Behind.{other_put, own_put}
use Rattle.om_team_laws.proofs.Cases.{Covers, HasNoMore, IsQuiet, Leads, behind, leads, leads_to_fault, no_step_blocked}
use Rattle.om_team_laws.proofs.Cases.{no_step_lacks}
use Rattle.om_team_laws.proofs.Regions.{closed_hands}
use Rattle.om_team_laws.proofs.Tallies.{before, before_is, less_ended, less_fault, less_forked, less_put, less_quiet}
use Rattle.om_team_laws.proofs.Tallies.{less_there, tally_quiet}
use Rattle.om_team_laws.proofs.Traced.{AreUntraced}
use Rattle.om_team_laws.proofs.Walk.{step_leads}
use Rattle.om_team_laws.proofs.Works.{Rises, chunk_rises, kept_there, no_less, put_here, put_there, same_fault, same_forked}
use Rattle.om_team_laws.proofs.Works.{same_put, same_quiet}

-- no worker has more of it
abbrev pub Less : State → State → List ℕ → (region iteration : ℕ) → Type 0
Less s t team region iteration = (w : ℕ)
    → in_hand t team region iteration w ≤ in_hand s team region iteration w

-- or the worker got it, and it was not given out before
pub record IsDealt (s t : State) (team : List ℕ) (region iteration worker : ℕ) : Type 0 where
  pub new : given_out s team region ≤ iteration
  pub given : iteration < given_out t team region
  pub has : 1 ≤ in_hand t team region iteration worker
  pub own : in_hand t team region iteration worker ≤ 1 + in_hand s team region iteration worker
  pub others : (w : ℕ) → nat_eq worker w ≡ false
      → in_hand t team region iteration w ≤ in_hand s team region iteration w

-- what a step of a worker does to what is given out
pub record Deals (s : State) (worker : ℕ) (t : State) : Type 0 where
  pub no_less : (team : List ℕ) (region : ℕ) → given_out s team region ≤ given_out t team region
  pub deals : (team : List ℕ) (region iteration : ℕ)
      → Less s t team region iteration ⊎ IsDealt s t team region iteration worker

-- a context of the same team has no more
same_team : (team : List ℕ) (region iteration : ℕ) (a b : Context) → b.team ≡ a.team
    → hands region iteration b.constructs ≤ hands region iteration a.constructs
    → hands_of team region iteration b ≤ hands_of team region iteration a
same_team team region iteration a b e le =
    let same : pointwise nat_eq b.team.name team ≡ pointwise nat_eq a.team.name team =
    ap (λ (x : Team). pointwise nat_eq x.name team) e in
    by (pointwise nat_eq b.team.name team) (pointwise nat_eq a.team.name team) same
  where
    by : (x y : Bool) → x ≡ y → (if x then hands region iteration b.constructs else 0)
        ≤ (if y then hands region iteration a.constructs else 0)
    by true true f = le
    by true false f = cc
    by false true f = cc
    by false false f = omega arith

-- a new context has none
none_new : (b : Bool) → (if b then zero else zero) ≡ zero
none_new true = refl
none_new false = refl

module _ (l : Label) (stack : Stack) (s : State) (runs : control_in (s (obj.Control l.worker)) ≡ Running stack) where
  abbrev N : List ℕ → (region iteration : ℕ) → Context → ℕ
  N team region iteration = hands_of team region iteration

  quiet_hands : (team : List ℕ) (region iteration : ℕ) (c : controls.Control) → IsQuiet stack c → HasNoMore stack c
      → (other : Stack) → c ≡ Running other → N team region iteration other.top ≤ N team region iteration stack.top
  quiet_hands team region iteration (Running x) q more other e =
      let same : x ≡ other = cc e in
      subst (λ (y : Stack). N team region iteration y.top ≤ N team region iteration stack.top) same
      (same_team team region iteration stack.top x.top q.0.team (more region iteration))
  quiet_hands team region iteration (Ended result) q more other e = cc
  quiet_hands team region iteration (Faulted fault x) q more other e = cc
  quiet_hands team region iteration Idle q more other e = cc

  new_none : (team : List ℕ) (region iteration : ℕ) (x : Context) → x.constructs ≡ []
      → N team region iteration x ≡ 0
  new_none team region iteration x e =
      ap (λ cs. if pointwise nat_eq x.team.name team then hands region iteration cs else 0) e
      ∙ none_new (pointwise nat_eq x.team.name team)

  -- a context of the same team with no more
  top_less : (team : List ℕ) (region iteration : ℕ) (y : Context) → y.team ≡ stack.top.team
      → hands region iteration y.constructs ≤ hands region iteration stack.top.constructs
      → tally (N team region iteration) (y ∷ stack.below) ≤ before (N team region iteration) l stack s runs
  top_less team region iteration y e le =
      let less = same_team team region iteration stack.top y e le in omega (arith, less)

  -- another context on top has none
  more_below : (team : List ℕ) (region iteration : ℕ) (x y : Context) → x.constructs ≡ [] → y.team ≡ stack.top.team
      → y.constructs ≡ stack.top.constructs
      → tally (N team region iteration) (x ∷ y ∷ stack.below) ≤ before (N team region iteration) l stack s runs
  more_below team region iteration x y e f g =
      let none = new_none team region iteration x e in
      let same = ap (hands region iteration) g in
      let less = top_less team region iteration y f (omega (arith, same)) in
      omega (arith, none, less)

  -- ---- a chunk is given out
  module _ (share : Share) (to : ℕ) (chunk : Chunk)
      (up : Rises (given_out s stack.top.team.name share.region) chunk) where
    abbrev work : Access
    work = write (obj.Work stack.top.team.name share.region)

    abbrev es : List Edit
    es = edits to 0 (Replace (in_chunk share share.taken chunk))

    abbrev after : State
    after = behind l stack s (work ∷ []) es (Put (value.Number chunk.end) ∷ [])

    abbrev new : Share
    new = record share { taken = share.taken; next = chunk.first; end = chunk.end }

    abbrev top : Context
    top = record (context_at to 0 None stack.top) { constructs = construct.Share new ∷ drop 1 stack.top.constructs }

    abbrev rest : (region iteration : ℕ) → ℕ
    rest region iteration = hands region iteration (drop 1 stack.top.constructs)

    given_here : given_out after stack.top.team.name share.region ≡ chunk.end
    given_here =
        put_there l stack s stack.top.team.name share.region stack.top.team.name share.region chunk.end [] es [] tt
        ∙ put_here s stack.top.team.name share.region chunk.end

    given_more : (team : List ℕ) (region : ℕ) → given_out s team region ≤ given_out after team region
    given_more team region =
        let ends : given_out s stack.top.team.name share.region < chunk.end = up.ends in
        let less = no_less s team stack.top.team.name region share.region chunk.end (omega (arith, ends)) in
        let there = put_there l stack s team region stack.top.team.name share.region chunk.end [] es [] tt in
        omega (arith, less, there)

    -- where it is not in the new chunk
    chunk_less : (region iteration : ℕ) (b : Bool)
        → (if b then hand region iteration (construct.Share new) else 0) ≡ 0
        → (if b then hands region iteration (construct.Share new ∷ drop 1 stack.top.constructs) else 0)
        ≤ (if b then hands region iteration stack.top.constructs else 0)
    chunk_less region iteration true none =
        let less = closed_hands stack.top.constructs region iteration in omega (arith, none, less)
    chunk_less region iteration false none = omega arith

    less_chunk : (team : List ℕ) (region iteration : ℕ)
        → (if pointwise nat_eq stack.top.team.name team then hand region iteration (construct.Share new) else 0) ≡ 0
        → Less s after team region iteration
    less_chunk team region iteration none w =
        let le = chunk_less region iteration (pointwise nat_eq stack.top.team.name team) none in
        less_put (N team region iteration) l stack s runs work (Put (value.Number chunk.end)) [] es [] tt (λ n. refl)
        (omega (arith, le)) w

    -- where it is
    own_is : (team : List ℕ) (region iteration : ℕ)
        → in_hand after team region iteration l.worker ≡ tally (N team region iteration) (top ∷ stack.below)
    own_is team region iteration =
        ap (tally (N team region iteration))
        (own_put l (changed es (Running stack)) s work (Put (value.Number chunk.end)) [] [] tt refl)

    pub dealt : (team : List ℕ) (region iteration : ℕ) → pointwise nat_eq stack.top.team.name team ≡ true
        → has_iteration region iteration new ≡ true → IsDealt s after team region iteration l.worker
    dealt team region iteration name is =
        let two = two_true (is_dynamic new.schedule) _ is in
        let more = two_true (nat_eq new.region region) _ two.1 in
        let last = two_true (nat_le new.next iteration) _ more.1 in
        let from : chunk.first ≤ iteration = leb-true chunk.first iteration last.0 in
        let til : iteration < chunk.end = ltb-true iteration chunk.end last.1 in
        let same_name : stack.top.team.name ≡ team = (same_list stack.top.team.name team).0 name in
        let same_region : share.region ≡ region = eqb-true share.region region more.0 in
        let was : given_out s stack.top.team.name share.region ≡ given_out s team region =
        ap (λ n. given_out s n share.region) same_name ∙ ap (λ r. given_out s team r) same_region in
        let now : given_out after stack.top.team.name share.region ≡ given_out after team region =
        ap (λ n. given_out after n share.region) same_name ∙ ap (λ r. given_out after team r) same_region in
        let ends : given_out after stack.top.team.name share.region ≡ chunk.end = given_here in
        let begins : chunk.first ≡ given_out s stack.top.team.name share.region = up.begins in
        let own = own_is team region iteration in
        let top_is : N team region iteration top ≡ 1 + rest region iteration =
        ap (λ b. if b then hands region iteration (construct.Share new ∷ drop 1 stack.top.constructs) else 0) name
        ∙ ap (λ b. (if b then 1 else 0) + rest region iteration) is in
        let old_is : N team region iteration stack.top ≡ hands region iteration stack.top.constructs =
        ap (λ b. if b then hands region iteration stack.top.constructs else 0) name in
        let less = closed_hands stack.top.constructs region iteration in
        let before_own = before_is (N team region iteration) l stack s runs in
        record {
          new = omega (arith, was, begins, from);
          given = omega (arith, now, ends, til);
          has = omega (arith, own, top_is);
          own = omega (arith, own, top_is, old_is, less, before_own);
          others = λ w apart.
              let same = ap (tally (N team region iteration))
              (other_put l (changed es (Running stack)) s work (Put (value.Number chunk.end)) [] [] w tt refl apart) in
              omega (arith, same);
        }

    chunk_deals : (team : List ℕ) (region iteration : ℕ) (name is : Bool)
        → pointwise nat_eq stack.top.team.name team ≡ name → has_iteration region iteration new ≡ is
        → Less s after team region iteration ⊎ IsDealt s after team region iteration l.worker
    chunk_deals team region iteration true true e f = inr (dealt team region iteration e f)
    chunk_deals team region iteration true false e f =
        inl (less_chunk team region iteration
        (ap (λ b. if b then hand region iteration (construct.Share new) else 0) e ∙ ap (λ b. if b then 1 else 0) f))
    chunk_deals team region iteration false is e f =
        inl (less_chunk team region iteration
        (ap (λ b. if b then hand region iteration (construct.Share new) else 0) e))

    takes : Deals s l.worker after
    takes = record {
      no_less = given_more;
      deals = λ team region iteration.
          chunk_deals team region iteration (pointwise nat_eq stack.top.team.name team)
          (has_iteration region iteration new) refl refl;
    }

  -- ---- each case

  -- nobody has more, and no less is given out
  kept : (t : State) → ((team : List ℕ) (region : ℕ) → given_out s team region ≤ given_out t team region)
      → ((team : List ℕ) (region iteration : ℕ) → Less s t team region iteration) → Deals s l.worker t
  kept t more less = record { no_less = more; deals = λ team region iteration. inl (less team region iteration) }

  -- where the same is given out
  as_much : (n m : ℕ) → n ≡ m → m ≤ n
  as_much n m e = omega (arith, e)

  -- something is put at an object that is neither a control nor a work
  put_kept : (a : Access) (x : Update) (names : List Access) (es : List Edit) (us : List Update) → AreUntraced names
      → ((w : ℕ) → obj_eq a.object (obj.Control w) ≡ false)
      → ((team : List ℕ) (region : ℕ) → obj_eq a.object (obj.Work team region) ≡ false)
      → ((team : List ℕ) (region iteration : ℕ)
      → tally (N team region iteration) (contexts_of (changed es (Running stack)))
      ≤ before (N team region iteration) l stack s runs)
      → Deals s l.worker (behind l stack s (a ∷ names) es (x ∷ us))
  put_kept a x names es us u f g less = kept _
      (λ team region. as_much _ _ (same_put l stack s team region a x names es us u (g team region)))
      (λ team region iteration w. less_put (N team region iteration) l stack s runs a x names es us u f
      (less team region iteration) w)

  abbrev Q : State → Type 0
  Q t = Deals s l.worker t

  pub dealing : Covers l.worker stack s (Leads l stack s Q)
  dealing = record {
    faults = λ names f. leads_to_fault l stack s Q names f
        (kept _ (λ team region. as_much _ _ (same_fault l stack s team region names f))
        (λ team region iteration w. less_fault (N team region iteration) l stack s runs names f w));
    blocked = no_step_blocked l stack s Q;
    lacks = no_step_lacks l stack s Q;
    goes = λ names es us u q more. leads l stack s Q names es us
        (kept _ (λ team region. as_much _ _ (same_quiet l stack s team region names es us u))
        (λ team region iteration w. less_quiet (N team region iteration) l stack s runs names es us u
        (tally_quiet (N team region iteration) stack (changed es (Running stack)) q
        (quiet_hands team region iteration (changed es (Running stack)) q more)) w));
    leaves = λ names us u e. leads l stack s Q names (EndContext ∷ []) us
        (kept _ (λ team region. as_much _ _ (same_quiet l stack s team region names (EndContext ∷ []) us u))
        (λ team region iteration w. less_quiet (N team region iteration) l stack s runs names (EndContext ∷ []) us u
        (less_ended (N team region iteration) l stack s runs) w));
    forks = λ t frame to takes names us z e u. leads l stack s Q (workers_from 1 (t.size - 1) ++ names)
        (Go to takes None ∷ CountBirth ∷ BeginContext (member t frame) ∷ [])
        (member_controls t frame 1 (t.size - 1) ++ us)
        (kept _ (λ team region. as_much _ _ (same_forked l stack s team region t frame to takes names us u))
        (λ team region iteration w. less_forked (N team region iteration) l stack s runs t frame to takes names us u
        (λ k. new_none team region iteration (member (record t { number = k }) frame) refl)
        (more_below team region iteration (member t frame)
        (record (context_at to takes None stack.top) { births = stack.top.births + 1 }) refl refl refl) w));
    makes = λ new ready to takes names us e u. leads l stack s Q (write (obj.Task new) ∷ names)
        (Go to takes None ∷ CountBirth ∷ []) (Put (value.Task (task.Ready ready)) ∷ us)
        (put_kept (write (obj.Task new)) (Put (value.Task (task.Ready ready))) names
        (Go to takes None ∷ CountBirth ∷ []) us u (λ w. refl) (λ team region. refl) (λ team region iteration. omega arith));
    begins = λ name ready names us e u. leads l stack s Q (write (obj.Task name) ∷ names)
        (BeginContext (task_context name stack.top ready) ∷ []) (Put (value.Task (task.Running l.worker)) ∷ us)
        (put_kept (write (obj.Task name)) (Put (value.Task (task.Running l.worker))) names
        (BeginContext (task_context name stack.top ready) ∷ []) us u (λ w. refl) (λ team region. refl)
        (λ team region iteration. more_below team region iteration (task_context name stack.top ready) stack.top refl refl
        refl));
    ends = λ next below names us e f u. leads l stack s Q (write (obj.Task stack.top.task) ∷ names)
        (EndContext ∷ []) (Put (value.Task task.Done) ∷ us)
        (put_kept (write (obj.Task stack.top.task)) (Put (value.Task task.Done)) names (EndContext ∷ []) us u
        (λ w. refl) (λ team region. refl)
        (λ team region iteration. less_ended (N team region iteration) l stack s runs));
    enters = λ lock to names us free u. leads l stack s Q (write (obj.Lock lock) ∷ names)
        (edits to 0 (Open (construct.Critical lock))) (Put (value.Lock (Some l.worker)) ∷ us)
        (put_kept (write (obj.Lock lock)) (Put (value.Lock (Some l.worker))) names
        (edits to 0 (Open (construct.Critical lock))) us u (λ w. refl) (λ team region. refl)
        (λ team region iteration. top_less team region iteration
        (record (context_at to 0 None stack.top) { constructs = construct.Critical lock ∷ stack.top.constructs }) refl
        (omega arith)));
    exits = λ lock to names us is u. leads l stack s Q (write (obj.Lock lock) ∷ names)
        (edits to 0 Close) (Put (value.Lock None) ∷ us)
        (put_kept (write (obj.Lock lock)) (Put (value.Lock None)) names (edits to 0 Close) us u (λ w. refl)
        (λ team region. refl)
        (λ team region iteration. top_less team region iteration
        (record (context_at to 0 None stack.top) { constructs = drop 1 stack.top.constructs }) refl
        (closed_hands stack.top.constructs region iteration)));
    runs = λ to names us e u.
        let work = write (obj.Work stack.top.team.name stack.top.regions) in
        leads l stack s Q (work ∷ names) (begun to 0 (construct.Single true)) (Put (value.Number 1) ∷ us)
        (kept _
        (λ team region.
        let less = no_less s team stack.top.team.name region stack.top.regions 1 (omega (arith, e)) in
        let there = put_there l stack s team region stack.top.team.name stack.top.regions 1 names
        (begun to 0 (construct.Single true)) us u in
        omega (arith, less, there))
        (λ team region iteration w. less_put (N team region iteration) l stack s runs work (Put (value.Number 1)) names
        (begun to 0 (construct.Single true)) us u (λ n. refl)
        (top_less team region iteration (record (context_at to 0 None stack.top) {
          regions = stack.top.regions + 1;
          constructs = construct.Single true ∷ stack.top.constructs;
        }) refl (omega arith)) w));
    passes = λ to names us e u.
        let work = write (obj.Work stack.top.team.name stack.top.regions) in
        leads l stack s Q (work ∷ names) (begun to 0 (construct.Single false)) (Keep ∷ us)
        (kept _
        (λ team region. as_much _ _ (kept_there l stack s team region stack.top.team.name stack.top.regions names
        (begun to 0 (construct.Single false)) us u))
        (λ team region iteration w. less_put (N team region iteration) l stack s runs work Keep names
        (begun to 0 (construct.Single false)) us u (λ n. refl)
        (top_less team region iteration (record (context_at to 0 None stack.top) {
          regions = stack.top.regions + 1;
          constructs = construct.Single false ∷ stack.top.constructs;
        }) refl (omega arith)) w));
    takes = λ share size to chunk e f g.
        leads l stack s Q (write (obj.Work stack.top.team.name share.region) ∷ [])
        (edits to 0 (Replace (in_chunk share share.taken chunk))) (Put (value.Number chunk.end) ∷ [])
        (takes share to chunk
        (chunk_rises share.count (given_out s stack.top.team.name share.region) size chunk g));
    finds_none = λ share to. leads l stack s Q (write (obj.Work stack.top.team.name share.region) ∷ [])
        (Go to 0 None ∷ []) []
        (kept _ (λ team region. omega arith)
        (λ team region iteration w. less_there (N team region iteration) l stack s runs
        (changed (Go to 0 None ∷ []) (Running stack)) w (omega arith)));
  }

-- ---- a step

pub step_deals : (program : Raw) (workers : ℕ) (s t : State) (l : Label)
    → next_state (rules_of program workers) s l ≡ Some t → Deals s l.worker t
step_deals program workers s t l is =
    step_leads program workers l s (λ t. Deals s l.worker t) (λ stack runs. dealing l stack s runs) t is
