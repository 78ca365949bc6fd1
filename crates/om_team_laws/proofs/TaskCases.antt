-- Each step keeps that names of tasks are new, and each task goes on in its order: case by case.
use Rattle.std.proofs.Common.{◌≡◌, refl, sym, ◌∙◌, ap, ℕ, ◌+◌, ◌-◌, Bool, true, false}
use Rattle.std.proofs.Common.{if◌then◌else◌, None, Some, [], ◌∷◌, ◌++◌, drop, inl, inr}
use Rattle.std.specs.Prelude.{nat_eq}
use Rattle.std.proofs.lemmas.Bool.{eqb-true}
use Rattle.om_foot.specs.declared.object.Obj.TheVariants as obj
use Rattle.om_code.specs.declared.raw.Raw.{Raw}
use Rattle.om_state.specs.declared.control.Construct.TheVariants as construct
use Rattle.om_state.specs.declared.control.Context.{Context}
use Rattle.om_state.specs.declared.control.Control.TheVariants.{Idle, Running, Faulted}
use Rattle.om_state.specs.declared.control.Edit.TheVariants.{Go, BeginContext, EndContext, Open, Close, Replace, CountBirth}
use Rattle.om_state.specs.declared.control.Kind.TheVariants as kind
use Rattle.om_state.specs.declared.control.Stack.{Stack}
use Rattle.om_state.specs.declared.step.Label.{Label}
use Rattle.om_state.specs.declared.step.Update.TheVariants.{Put, Keep}
use Rattle.om_state.specs.declared.value.Task.TheVariants as task
use Rattle.om_state.specs.declared.value.Val.TheVariants as value
use Rattle.om_state.specs.Edits.{changed, context_at}
use Rattle.om_state.specs.Rules.{next_state}
use Rattle.om_state.specs.State.{State}
use Rattle.om_state.specs.Values.{control_in, task_in}
use Rattle.om_team_serial.specs.Objects.{write}
use Rattle.om_team_worksharing.specs.Rows.{begun, edits, in_chunk}
use Rattle.om_team.specs.Teams.{member, member_controls, workers_from}
use Rattle.om_task.specs.Rules.{first_context, rules_of, start_of}
use Rattle.om_task.specs.Tasks.{task_context}
use Rattle.om_team_laws.specs.Contexts.{contexts_at, contexts_of}
use Rattle.om_team_laws.specs.Tasks.{AreDistinct, Has, IsOrderly}
use Rattle.om_team_laws.proofs.Behind.{with_control}
use Rattle.om_team_laws.proofs.Cases.{Covers, Leads, leads, leads_to_fault, no_step_blocked, no_step_lacks}
use Rattle.om_team_laws.proofs.Names.{not_below_itself}
use Rattle.om_team_laws.proofs.Traced.{none_left}
use Rattle.om_team_laws.proofs.Walk.{step_leads}
use Rattle.om_team_laws.proofs.TaskSteps.{GoOn, begin_goes, born_is, end_goes, ended_old, fork_goes, make_goes}
use Rattle.om_team_laws.proofs.TaskSteps.{no_change, quiet, quiet_old, quiet_put, top_old}

module _ (l : Label) (stack : Stack) (s : State) (runs : control_in (s (obj.Control l.worker)) ≡ Running stack)
    (h : IsOrderly s) where
  -- ---- each case

  abbrev Q : State → Type 0
  Q t = GoOn s l.worker t

  pub going : Covers l.worker stack s (Leads l stack s Q)
  going = record {
    faults = λ names f. leads_to_fault l stack s Q names f
        (no_change l stack s runs h _ (Faulted f stack) (λ w. none_left names (with_control l (Faulted f stack) s) (obj.Control w))
        (top_old l stack s runs h stack.top refl refl refl)
        (λ name. ap task_in (none_left names (with_control l (Faulted f stack) s) (obj.Task name))));
    blocked = no_step_blocked l stack s Q;
    lacks = no_step_lacks l stack s Q;
    goes = λ names es us u q more. leads l stack s Q names es us
        (quiet l stack s runs h names es us u (quiet_old l stack s runs h (changed es (Running stack)) q));
    leaves = λ names us u e. leads l stack s Q names (EndContext ∷ []) us
        (quiet l stack s runs h names (EndContext ∷ []) us u (ended_old l stack s runs h stack.below refl));
    forks = λ t frame to takes names us z e u. leads l stack s Q (workers_from 1 (t.size - 1) ++ names)
        (Go to takes None ∷ CountBirth ∷ BeginContext (member t frame) ∷ [])
        (member_controls t frame 1 (t.size - 1) ++ us) (fork_goes l stack s runs h t frame to takes names us z e u);
    makes = λ new ready to takes names us e u. leads l stack s Q (write (obj.Task new) ∷ names)
        (Go to takes None ∷ CountBirth ∷ []) (Put (value.Task (task.Ready ready)) ∷ us)
        (make_goes l stack s runs h new ready to takes names us (born_is stack.top new e) u);
    begins = λ name ready names us e u. leads l stack s Q (write (obj.Task name) ∷ names)
        (BeginContext (task_context name stack.top ready) ∷ []) (Put (value.Task (task.Running l.worker)) ∷ us)
        (begin_goes l stack s runs h name ready names us e u);
    ends = λ next below names us e f u. leads l stack s Q (write (obj.Task stack.top.task) ∷ names)
        (EndContext ∷ []) (Put (value.Task task.Done) ∷ us) (end_goes l stack s runs h names us u e);
    enters = λ lock to names us free u. leads l stack s Q (write (obj.Lock lock) ∷ names)
        (edits to 0 (Open (construct.Critical lock))) (Put (value.Lock (Some l.worker)) ∷ us)
        (quiet_put l stack s runs h (write (obj.Lock lock)) (Put (value.Lock (Some l.worker))) names
        (edits to 0 (Open (construct.Critical lock))) us u (λ w. refl) (λ name. refl)
        (top_old l stack s runs h (record (context_at to 0 None stack.top) {
          constructs = construct.Critical lock ∷ stack.top.constructs;
        }) refl refl refl));
    exits = λ lock to names us is u. leads l stack s Q (write (obj.Lock lock) ∷ names)
        (edits to 0 Close) (Put (value.Lock None) ∷ us)
        (quiet_put l stack s runs h (write (obj.Lock lock)) (Put (value.Lock None)) names (edits to 0 Close) us u (λ w. refl)
        (λ name. refl)
        (top_old l stack s runs h (record (context_at to 0 None stack.top) { constructs = drop 1 stack.top.constructs }) refl refl refl));
    runs = λ to names us e u.
        let work = write (obj.Work stack.top.team.name stack.top.regions) in
        leads l stack s Q (work ∷ names) (begun to 0 (construct.Single true)) (Put (value.Number 1) ∷ us)
        (quiet_put l stack s runs h work (Put (value.Number 1)) names (begun to 0 (construct.Single true)) us u (λ w. refl) (λ name. refl)
        (top_old l stack s runs h (record (context_at to 0 None stack.top) {
          regions = stack.top.regions + 1;
          constructs = construct.Single true ∷ stack.top.constructs;
        }) refl refl refl));
    passes = λ to names us e u.
        let work = write (obj.Work stack.top.team.name stack.top.regions) in
        leads l stack s Q (work ∷ names) (begun to 0 (construct.Single false)) (Keep ∷ us)
        (quiet_put l stack s runs h work Keep names (begun to 0 (construct.Single false)) us u (λ w. refl) (λ name. refl)
        (top_old l stack s runs h (record (context_at to 0 None stack.top) {
          regions = stack.top.regions + 1;
          constructs = construct.Single false ∷ stack.top.constructs;
        }) refl refl refl));
    takes = λ share size to chunk e f g.
        let work = write (obj.Work stack.top.team.name share.region) in
        let es = edits to 0 (Replace (in_chunk share share.taken chunk)) in
        leads l stack s Q (work ∷ []) es (Put (value.Number chunk.end) ∷ [])
        (quiet_put l stack s runs h work (Put (value.Number chunk.end)) [] es [] tt (λ w. refl) (λ name. refl)
        (top_old l stack s runs h (record (context_at to 0 None stack.top) {
          constructs = in_chunk share share.taken chunk ∷ drop 1 stack.top.constructs;
        }) refl refl refl));
    finds_none = λ share to. leads l stack s Q (write (obj.Work stack.top.team.name share.region) ∷ [])
        (Go to 0 None ∷ []) []
        (no_change l stack s runs h _ (changed (Go to 0 None ∷ []) (Running stack)) (λ w. refl)
        (top_old l stack s runs h (context_at to 0 None stack.top) refl refl refl) (λ name. refl));
  }

-- ---- a step, and the start

pub step_goes_on : (program : Raw) (workers : ℕ) (s t : State) (l : Label) → IsOrderly s
    → next_state (rules_of program workers) s l ≡ Some t → GoOn s l.worker t
step_goes_on program workers s t l h is =
    step_leads program workers l s (λ t. GoOn s l.worker t) (λ stack runs. going l stack s runs h) t is

-- the only context is that of the initial task
abbrev IsFirst : Raw → ℕ → Context → Type 0
IsFirst program w c = (w ≡ 0) × (c ≡ first_context program)

one_first : (program : Raw) (w : ℕ) (b : Bool) → nat_eq w 0 ≡ b → (c : Context)
    → Has (contexts_of (if b then Running (record { top = first_context program; below = [] }) else Idle)) c
    → IsFirst program w c
one_first program w true e c (inl is) = (eqb-true w 0 e, sym is)
one_first program w true e c (inr a) = absurd a
one_first program w false e c a = absurd a

first_distinct : (program : Raw) (b : Bool)
    → AreDistinct (contexts_of (if b then Running (record { top = first_context program; below = [] }) else Idle))
first_distinct program true = (λ d a e. absurd a, tt)
first_distinct program false = tt

first_is : (program : Raw) (workers w : ℕ) (c : Context) → Has (contexts_at (start_of program workers) w) c
    → IsFirst program w c
first_is program workers w c a = one_first program w (nat_eq w 0) refl c a

pub start_orderly : (program : Raw) (workers : ℕ) → IsOrderly (start_of program workers)
start_orderly program workers = record {
  unborn = λ v w c d number a b lt x.
      let one = first_is program workers v c a in
      let two = first_is program workers w d b in
      not_below_itself (first_context program).task x.0 number (ap (λ (z : Context). z.task) (sym two.1) ∙ x.1
      ∙ ap (λ (z : Context). (z.task ++ number ∷ []) ++ x.0) one.1);
  unmade = λ w c number name a lt x. refl;
  waiting = λ name ready w d e b x. cc;
  childless = λ name ready number rest e. refl;
  apart = λ v w c d a b e. (first_is program workers v c a).0 ∙ sym (first_is program workers w d b).0;
  distinct = λ w. first_distinct program (nat_eq w 0);
  running = λ w c a e.
      let initial : kind.Initial ≡ kind.Explicit =
      ap (λ (z : Context). z.kind) (sym (first_is program workers w c a).1) ∙ e in
      cc;
}
