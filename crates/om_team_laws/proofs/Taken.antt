-- What is given out of a region was taken by a step: by one that opens a `single` region to run it, or by one that gives
-- a chunk.
use Rattle.std.proofs.Common.{◌≡◌, refl, ◌∙◌, ap, subst, ℕ, zero, suc, ◌+◌, ◌-◌, ◌≤◌, ◌<◌, arith, Bool, true, false}
use Rattle.std.proofs.Common.{cond, Option, None, Some, List, [], ◌∷◌, ◌++◌, ◌⊎◌, inl, inr, ⊎_elim}
use Rattle.std.proofs.lemmas.Bool.{eq-eqb, le-leb, lt-ltb}
use Rattle.om_foot.specs.Below.{both_true, same_list}
use Rattle.om_foot.specs.declared.footprint.Access.{Access}
use Rattle.om_foot.specs.declared.object.Obj.TheVariants as obj
use Rattle.om_foot.specs.Footprint.{obj_eq}
use Rattle.om_foot.specs.Objects.{obj_eq-true}
use Rattle.om_code.specs.declared.instruction.Schedule.TheVariants as schedule
use Rattle.om_code.specs.declared.raw.Raw.{Raw}
use Rattle.om_state.specs.declared.control.Construct.TheVariants as construct
use Rattle.om_state.specs.declared.control.Control.TheVariants.{Running}
use Rattle.om_state.specs.declared.control.Edit.{Edit}
use Rattle.om_state.specs.declared.control.Edit.TheVariants.{Go, BeginContext, EndContext, Open, Close, Replace, CountBirth}
use Rattle.om_state.specs.declared.control.Share.{Share}
use Rattle.om_state.specs.declared.control.Stack.{Stack}
use Rattle.om_state.specs.declared.step.Label.{Label}
use Rattle.om_state.specs.declared.step.Update.{Update}
use Rattle.om_state.specs.declared.step.Update.TheVariants.{Put, Keep}
use Rattle.om_state.specs.declared.value.Task.TheVariants as task
use Rattle.om_state.specs.declared.value.Val.{Val}
use Rattle.om_state.specs.declared.value.Val.TheVariants as value
use Rattle.om_state.specs.Edits.{changed, context_at}
use Rattle.om_state.specs.Rules.{and_then, next_state, replay_from}
use Rattle.om_state.specs.State.{State}
use Rattle.om_state.specs.Values.{control_in, number_in}
use Rattle.om_team_serial.specs.Objects.{write}
use Rattle.om_team_worksharing.specs.declared.chunk.Chunk.{Chunk}
use Rattle.om_team_worksharing.specs.Chunks.{chunk_within}
use Rattle.om_team_worksharing.specs.Rows.{begun, edits, in_chunk}
use Rattle.om_team.specs.Teams.{member, member_controls, workers_from}
use Rattle.om_task.specs.Rules.{rules_of}
use Rattle.om_task.specs.Tasks.{task_context}
use Rattle.om_team_laws.specs.Contexts.{contexts_at}
use Rattle.om_team_laws.specs.Works.{HasTaken, IsSharedOut, Takes, given_out, is_dynamic}
use Rattle.om_team_laws.proofs.Behind.{own_put}
use Rattle.om_team_laws.proofs.Cases.{Covers, Leads, behind, leads, leads_to_fault, no_step_blocked, no_step_lacks}
use Rattle.om_team_laws.proofs.Hands.{IsDealt, dealt}
use Rattle.om_team_laws.proofs.Shared.{not_in_hand, step_shared}
use Rattle.om_team_laws.proofs.Singles.{HasOpened}
use Rattle.om_team_laws.proofs.Traced.{AreUntraced}
use Rattle.om_team_laws.proofs.Walk.{step_leads}
use Rattle.om_team_laws.proofs.Works.{chunk_rises, kept_there, put_there, same_fault, same_forked, same_put, same_quiet}

-- a worker opens a `single` region of this number, to run it
record RunsHere (l : Label) (s t : State) (team : List ℕ) (region : ℕ) : Type 0 where
  stack : Stack
  running : control_in (s (obj.Control l.worker)) ≡ Running stack
  of_team : stack.top.team.name ≡ team
  of_region : stack.top.regions ≡ region
  opened : HasOpened l stack s true (contexts_at t l.worker)

abbrev IsTook : Label → State → State → List ℕ → ℕ → Type 0
IsTook l s t team region = RunsHere l s t team region
    ⊎ ((iteration : ℕ) × IsDealt s t team region iteration l.worker)

abbrev TakesNew : Label → State → State → Type 0
TakesNew l s t = (team : List ℕ) (region : ℕ) → given_out s team region ≡ 0 → 1 ≤ given_out t team region
    → IsTook l s t team region

module _ (l : Label) (stack : Stack) (s : State) (runs : control_in (s (obj.Control l.worker)) ≡ Running stack) where
  abbrev Q : State → Type 0
  Q t = TakesNew l s t

  -- as much is given out as before
  same : (t : State) → ((team : List ℕ) (region : ℕ) → given_out t team region ≡ given_out s team region) → Q t
  same t e team region z some = let as_before = e team region in absurd (omega (arith, as_before, z, some))

  put_same : (a : Access) (x : Update) (names : List Access) (es : List Edit) (us : List Update) → AreUntraced names
      → ((team : List ℕ) (region : ℕ) → obj_eq a.object (obj.Work team region) ≡ false)
      → Q (behind l stack s (a ∷ names) es (x ∷ us))
  put_same a x names es us u f =
      same _ (λ team region. same_put l stack s team region a x names es us u (f team region))

  -- a number is put at a work: only there is more
  only_there : (t : State) (other : List ℕ) (number n : ℕ)
      → ((team : List ℕ) (region : ℕ) → given_out t team region
      ≡ number_in (cond (obj_eq (obj.Work other number) (obj.Work team region)) (value.Number n)
      (s (obj.Work team region))))
      → (given_out s other number ≡ 0 → IsTook l s t other number) → Q t
  only_there t other number n e h team region z some =
      by (obj_eq (obj.Work other number) (obj.Work team region)) refl (e team region)
    where
      by : (b : Bool) → obj_eq (obj.Work other number) (obj.Work team region) ≡ b
          → given_out t team region ≡ number_in (cond b (value.Number n) (s (obj.Work team region)))
          → IsTook l s t team region
      by true is there =
          let at : obj.Work other number ≡ obj.Work team region = obj_eq-true _ _ is in
          let name : other ≡ team = cc at in
          let its : number ≡ region = cc at in
          subst (λ r. IsTook l s t team r) its (subst (λ o. IsTook l s t o number) name
          (h (ap (λ q. number_in (s q)) at ∙ z)))
      by false is there = absurd (omega (arith, there, z, some))

  runs_it : (to : ℕ) (names : List Access) (us : List Update) → AreUntraced names
      → Q (behind l stack s (write (obj.Work stack.top.team.name stack.top.regions) ∷ names)
      (begun to 0 (construct.Single true)) (Put (value.Number 1) ∷ us))
  runs_it to names us u =
      let work = write (obj.Work stack.top.team.name stack.top.regions) in
      let es = begun to 0 (construct.Single true) in
      only_there _ stack.top.team.name stack.top.regions 1
      (λ team region. put_there l stack s team region stack.top.team.name stack.top.regions 1 names es us u)
      (λ z. inl (record {
        stack = stack;
        running = runs;
        of_team = refl;
        of_region = refl;
        opened = record {
          context = record (context_at to 0 None stack.top) {
            regions = stack.top.regions + 1;
            constructs = construct.Single true ∷ stack.top.constructs;
          };
          same_below = own_put l (changed es (Running stack)) s work (Put (value.Number 1)) names us u refl;
          opened = refl;
        };
      }))

  takes_it : (share : Share) (size to : ℕ) (chunk : Chunk) → share.schedule ≡ schedule.Dynamic size
      → chunk_within share.count (given_out s stack.top.team.name share.region) size ≡ Some chunk
      → Q (behind l stack s (write (obj.Work stack.top.team.name share.region) ∷ [])
      (edits to 0 (Replace (in_chunk share share.taken chunk))) (Put (value.Number chunk.end) ∷ []))
  takes_it share size to chunk f g =
      let es = edits to 0 (Replace (in_chunk share share.taken chunk)) in
      let up = chunk_rises share.count (given_out s stack.top.team.name share.region) size chunk g in
      let first : chunk.first ≡ given_out s stack.top.team.name share.region = up.begins in
      let end : given_out s stack.top.team.name share.region < chunk.end = up.ends in
      only_there _ stack.top.team.name share.region chunk.end
      (λ team region. put_there l stack s team region stack.top.team.name share.region chunk.end [] es [] tt)
      (λ z. inr (
        chunk.first,
        dealt l stack s runs share to chunk up stack.top.team.name share.region chunk.first
            ((same_list stack.top.team.name stack.top.team.name).1 refl)
            (both_true _ _ (ap is_dynamic f) (both_true _ _ (eq-eqb share.region share.region refl)
            (both_true _ _ (le-leb chunk.first chunk.first (omega arith))
            (lt-ltb chunk.first chunk.end (omega (arith, first, end)))))),
      ))

  taking : Covers l.worker stack s (Leads l stack s Q)
  taking = record {
    faults = λ names f. leads_to_fault l stack s Q names f
        (same _ (λ team region. same_fault l stack s team region names f));
    blocked = no_step_blocked l stack s Q;
    lacks = no_step_lacks l stack s Q;
    goes = λ names es us u q more. leads l stack s Q names es us
        (same _ (λ team region. same_quiet l stack s team region names es us u));
    leaves = λ names us u e. leads l stack s Q names (EndContext ∷ []) us
        (same _ (λ team region. same_quiet l stack s team region names (EndContext ∷ []) us u));
    forks = λ t frame to takes names us z e u. leads l stack s Q (workers_from 1 (t.size - 1) ++ names)
        (Go to takes None ∷ CountBirth ∷ BeginContext (member t frame) ∷ [])
        (member_controls t frame 1 (t.size - 1) ++ us)
        (same _ (λ team region. same_forked l stack s team region t frame to takes names us u));
    makes = λ new ready to takes names us e u. leads l stack s Q (write (obj.Task new) ∷ names)
        (Go to takes None ∷ CountBirth ∷ []) (Put (value.Task (task.Ready ready)) ∷ us)
        (put_same (write (obj.Task new)) (Put (value.Task (task.Ready ready))) names (Go to takes None ∷ CountBirth ∷ []) us
        u (λ team region. refl));
    begins = λ name ready names us e u. leads l stack s Q (write (obj.Task name) ∷ names)
        (BeginContext (task_context name stack.top ready) ∷ []) (Put (value.Task (task.Running l.worker)) ∷ us)
        (put_same (write (obj.Task name)) (Put (value.Task (task.Running l.worker))) names
        (BeginContext (task_context name stack.top ready) ∷ []) us u (λ team region. refl));
    ends = λ next below names us e f u. leads l stack s Q (write (obj.Task stack.top.task) ∷ names)
        (EndContext ∷ []) (Put (value.Task task.Done) ∷ us)
        (put_same (write (obj.Task stack.top.task)) (Put (value.Task task.Done)) names (EndContext ∷ []) us u
        (λ team region. refl));
    enters = λ lock to names us free u. leads l stack s Q (write (obj.Lock lock) ∷ names)
        (edits to 0 (Open (construct.Critical lock))) (Put (value.Lock (Some l.worker)) ∷ us)
        (put_same (write (obj.Lock lock)) (Put (value.Lock (Some l.worker))) names
        (edits to 0 (Open (construct.Critical lock))) us u (λ team region. refl));
    exits = λ lock to names us is u. leads l stack s Q (write (obj.Lock lock) ∷ names)
        (edits to 0 Close) (Put (value.Lock None) ∷ us)
        (put_same (write (obj.Lock lock)) (Put (value.Lock None)) names (edits to 0 Close) us u (λ team region. refl));
    runs = λ to names us e u.
        leads l stack s Q (write (obj.Work stack.top.team.name stack.top.regions) ∷ names)
        (begun to 0 (construct.Single true)) (Put (value.Number 1) ∷ us) (runs_it to names us u);
    passes = λ to names us e u.
        leads l stack s Q (write (obj.Work stack.top.team.name stack.top.regions) ∷ names)
        (begun to 0 (construct.Single false)) (Keep ∷ us)
        (same _ (λ team region. kept_there l stack s team region stack.top.team.name stack.top.regions names
        (begun to 0 (construct.Single false)) us u));
    takes = λ share size to chunk e f g.
        leads l stack s Q (write (obj.Work stack.top.team.name share.region) ∷ [])
        (edits to 0 (Replace (in_chunk share share.taken chunk))) (Put (value.Number chunk.end) ∷ [])
        (takes_it share size to chunk f g);
    finds_none = λ share to. leads l stack s Q (write (obj.Work stack.top.team.name share.region) ∷ [])
        (Go to 0 None ∷ []) [] (same _ (λ team region. refl));
  }

-- ---- a step, and a run

is_control : (v : Val) (stack : Stack) → control_in v ≡ Running stack → v ≡ value.Control (Running stack)
is_control (value.Control c) stack e = ap value.Control e
is_control (value.Task t) stack e = cc
is_control (value.Cell c) stack e = cc
is_control (value.Count k) stack e = cc
is_control (value.Number k) stack e = cc
is_control (value.Lock k) stack e = cc
is_control (value.Output k) stack e = cc
is_control (value.Events k) stack e = cc

module _ (program : Raw) (workers : ℕ) where
  takes_first : (s t : State) (l : Label) (team : List ℕ) (region : ℕ) → IsSharedOut s
      → next_state (rules_of program workers) s l ≡ Some t → given_out s team region ≡ 0
      → 1 ≤ given_out t team region → Takes program workers s t l team region
  takes_first s t l team region h is z some =
      ⊎_elim
      (λ (first : RunsHere l s t team region). inl (record {
        stack = first.stack;
        running = is_control (s (obj.Control l.worker)) first.stack first.running;
        of_team = first.of_team;
        of_region = first.of_region;
        made = is;
        context = first.opened.context;
        same_below = first.opened.same_below;
        opened = first.opened.opened;
      }))
      (λ (other : (iteration : ℕ) × IsDealt s t team region iteration l.worker). inr (
        other.0,
        record {
          before = not_in_hand s h team region other.0 l.worker other.1.new;
          after = other.1.has;
        },
      ))
      (step_leads program workers l s (TakesNew l s) (λ stack runs. taking l stack s runs) t is team region z some)

  then_taken : (o : Option State) (f : State → Option State) (t : State) (C : Type 0)
      → ((u : State) → o ≡ Some u → f u ≡ Some t → C) → and_then o f ≡ Some t → C
  then_taken None f t C h e = cc
  then_taken (Some u) f t C h e = h u refl e

  pub was_taken : (ls : List Label) (s t : State) (team : List ℕ) (region : ℕ) → IsSharedOut s
      → given_out s team region ≡ 0 → 1 ≤ given_out t team region
      → replay_from (rules_of program workers) s ls ≡ Some t → HasTaken program workers s ls team region
  was_taken [] s t team region h z some e =
      let same : s ≡ t = cc in
      let none : given_out s team region ≡ given_out t team region = ap (λ u. given_out u team region) same in
      absurd (omega (arith, none, z, some))
  was_taken (l ∷ ls) s t team region h z some e =
      then_taken (next_state (rules_of program workers) s l) (λ u. replay_from (rules_of program workers) u ls) t
      (HasTaken program workers s (l ∷ ls) team region)
      (λ u is left. by u (λ g none. was_taken ls u t team region g none some left) is (given_out u team region) refl) e
    where
      by : (u : State) → (IsSharedOut u → given_out u team region ≡ 0 → HasTaken program workers u ls team region)
          → next_state (rules_of program workers) s l ≡ Some u → (n : ℕ) → given_out u team region ≡ n
          → HasTaken program workers s (l ∷ ls) team region
      by u more is zero f = (u, is, inr (more (step_shared program workers s u l h is) f))
      by u more is (suc n) f = (u, is, inl (takes_first s u l team region h is z (omega (arith, f))))
