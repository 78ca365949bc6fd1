-- The count of a task's children is how many of them are unfinished: each step keeps that.
use Rattle.std.proofs.Common.{◌≡◌, refl, sym, ◌∙◌, ap, subst, ℕ, suc, ◌+◌, ℤ, pos, negsuc, Bool, true, false, cond, arith}
use Rattle.std.proofs.Common.{if◌then◌else◌, Option, None, Some, List, [], ◌∷◌, ◌++◌, length, take, reverse, option_map, ◌⊎◌}
use Rattle.std.proofs.Common.{inl, inr, slice_get, nat_le, unwrap_or}
use Rattle.std.specs.Prelude.{All, IsSomeAnd, nat_eq, option_and_then}
use Rattle.std.specs.Cmp.Lexicographic.{pointwise}
use Rattle.std.proofs.lemmas.Bool.{leb-true}
use Rattle.std.proofs.lemmas.List.{length-reverse, length-take-le}
use Rattle.std.proofs.lemmas.Option.{slice_get_within, get_or_from_slice_get}
use Rattle.om_foot.specs.Below.{same_list}
use Rattle.om_foot.specs.Names.{above}
use Rattle.om_foot.specs.declared.footprint.Access.{Access}
use Rattle.om_foot.specs.declared.object.Obj.TheVariants as obj
use Rattle.om_code.specs.declared.frame.Operand.{Operand}
use Rattle.om_code.specs.declared.frame.Operand.TheVariants as operand
use Rattle.om_code.specs.declared.instruction.Instr.{Instr}
use Rattle.om_code.specs.declared.instruction.Instr.TheVariants as i
use Rattle.om_code.specs.declared.instruction.Task.TheVariants as taskings
use Rattle.om_code.specs.declared.raw.Body.{Body}
use Rattle.om_code.specs.declared.raw.Line.{Line}
use Rattle.om_code.specs.declared.raw.Raw.{Raw}
use Rattle.om_code.specs.declared.raw.Slot.{Slot}
use Rattle.om_code.specs.Places.{instruction_at, no_body}
use Rattle.om_code.specs.Printing.{ints, ints_on}
use Rattle.om_code.specs.Validity.{CanBegin, IsValid, IsValidBody, NamesKnown}
use Rattle.om_events.specs.declared.event.Record.TheVariants as event_record
use Rattle.om_events.specs.declared.kind.TaskStatus as statuses
use Rattle.om_state.specs.declared.control.Context.{Context}
use Rattle.om_state.specs.declared.control.Control as controls
use Rattle.om_state.specs.declared.control.Control.TheVariants.{Idle, Running, Faulted, Ended}
use Rattle.om_state.specs.declared.control.Edit.{Edit}
use Rattle.om_state.specs.declared.control.Edit.TheVariants.{Go, BeginContext, EndContext, CountBirth}
use Rattle.om_state.specs.declared.control.Kind.{Kind}
use Rattle.om_state.specs.declared.control.Kind.TheVariants as kind
use Rattle.om_state.specs.declared.control.Stack.{Stack}
use Rattle.om_state.specs.declared.step.Choice.{Choice}
use Rattle.om_state.specs.declared.step.Choice.TheVariants.{Next, Start}
use Rattle.om_state.specs.declared.step.Label.{Label}
use Rattle.om_state.specs.declared.step.Update.{Update}
use Rattle.om_state.specs.declared.step.Update.TheVariants.{Put}
use Rattle.om_state.specs.declared.value.Ready.{Ready}
use Rattle.om_state.specs.declared.value.Task as tasks
use Rattle.om_state.specs.declared.value.Task.TheVariants as task
use Rattle.om_state.specs.declared.value.Val.TheVariants as value
use Rattle.om_state.specs.Rules.{control_access, next_state, replay_from, state_after_outcome, step_at}
use Rattle.om_state.specs.State.{State, updated, values_read}
use Rattle.om_state.specs.Values.{control_in, count_in, task_in, value_plus}
use Rattle.om_team_serial.specs.declared.row.Row.{Row}
use Rattle.om_team_serial.specs.declared.row.Row.TheVariants as row
use Rattle.om_team_serial.specs.Objects.{add, deaths, event, events, given_cells, own_cells, puts, write}
use Rattle.om_team_serial.specs.Rows.{Asked}
use Rattle.om_team_serial.specs.Sites.{Site, body_of, launch, line, site, slots}
use Rattle.om_task.specs.declared.task.Making.{Making}
use Rattle.om_task.specs.Rows.{end_row_of, ended_row, given_row, made_names, made_row, ready_for, started, started_row}
use Rattle.om_task.specs.Rows.{ended_names, ended_updates, made_updates}
use Rattle.om_task.specs.Rules.{admits_all, choice_row, further_in, leaving, outcome_after, row_in, rules_of, start_of}
use Rattle.om_task.specs.Table.{row_of}
use Rattle.om_task.specs.Tasks.{born, group_count, group_of, ready_of, task_context}
use Rattle.om_team_laws.specs.Children.{HasChildren, IsChild, IsIn, is_unfinished}
use Rattle.om_team_laws.specs.Contexts.{contexts_at, contexts_of}
use Rattle.om_team_laws.specs.Tasks.{Has, IsOrderly, task_at}
use Rattle.om_team_laws.proofs.Behind.{behind_put, with_control}
use Rattle.om_team_laws.proofs.Cases.{behind}
use Rattle.om_team_laws.proofs.Counted.{AreUncounted, added_behind, given_uncounted, own_uncounted, uncounted}
use Rattle.om_team_laws.proofs.Naming.{IsPlain, plain_names}
use Rattle.om_team_laws.proofs.Names.{same_starts, starts_itself}
use Rattle.om_team_laws.proofs.Replays.{rest_keeps}
use Rattle.om_team_laws.proofs.Sets.{Changes, changes_keep}
use Rattle.om_team_laws.proofs.TaskCases.{start_orderly, step_goes_on}
use Rattle.om_team_laws.proofs.TaskSteps.{born_is}
use Rattle.om_team_laws.proofs.Traced.{AreUntraced, counts_untraced, given_untraced, none_left, own_untraced, untraced_append}

-- ---- as many values as a task's body begins with

abbrev GivesAll : Raw → Type 0
GivesAll program = (body at spawned values : ℕ)
    → instruction_at program body at ≡ Some (i.Task (taskings.Spawn spawned values))
    → length (body_of program spawned).given ≡ values

of_all : {X : Type 0} (P : X → Type 0) (xs : List X) (k : ℕ) (x : X) → All P xs → slice_get xs k ≡ Some x → P x
of_all P xs k x all is = subst P (get_or_from_slice_get xs k x x is) (all k x (slice_get_within xs k x is))

valid_gives : (program : Raw) → IsValid program → GivesAll program
valid_gives program valid body at spawned values e = in_body (slice_get program.bodies body) refl e
  where
    begins : (outer : List Slot) (o : Option Body) → slice_get program.bodies spawned ≡ o
        → IsSomeAnd o (λ c. CanBegin outer values c) → length (body_of program spawned).given ≡ values
    begins outer (Some c) is h = ap (λ (x : Option Body). length (unwrap_or x no_body).given) is ∙ h.given
    begins outer None is h = absurd h

    in_line : (b : Body) → IsValidBody program b → (o : Option Line) → slice_get b.code at ≡ o
        → option_map (λ (l : Line). l.instruction) o ≡ Some (i.Task (taskings.Spawn spawned values))
        → length (body_of program spawned).given ≡ values
    in_line b v None is e = cc
    in_line b v (Some l) is e =
        let known = of_all (λ (x : Line). NamesKnown program b.slots x.instruction) b.code at l v.known.names is in
        let instr : l.instruction ≡ i.Task (taskings.Spawn spawned values) = cc e in
        begins b.slots (slice_get program.bodies spawned) refl (subst (NamesKnown program b.slots) instr known)

    in_body : (o : Option Body) → slice_get program.bodies body ≡ o
        → option_map (λ (l : Line). l.instruction) (option_and_then (λ (b : Body). slice_get b.code at) o)
        ≡ Some (i.Task (taskings.Spawn spawned values)) → length (body_of program spawned).given ≡ values
    in_body None is e = cc
    in_body (Some b) is e =
        in_line b (of_all (IsValidBody program) program.bodies body b valid.bodies is) (slice_get b.code at) refl e

length_ints : (s : List Operand) (vs : List ℤ) → ints s ≡ Some vs → length vs ≡ length s
length_ints [] vs e = let f : [] ≡ vs = cc in ap length (sym f)
length_ints (operand.NoValue ∷ s) vs e = cc
length_ints (operand.Int v ∷ s) vs e = of (ints s) (λ ws was. length_ints s ws was) e
  where
    of : (o : Option (List ℤ)) → ((ws : List ℤ) → o ≡ Some ws → length ws ≡ length s) → option_map (λ l. v ∷ l) o
        ≡ Some vs → length vs ≡ suc (length s)
    of None h f = cc
    of (Some ws) h f = let g : v ∷ ws ≡ vs = cc in ap length (sym g) ∙ ap (λ k. suc k) (h ws refl)

length_ints_on : (n : ℕ) (s : List Operand) (vs : List ℤ) → ints_on n s ≡ Some vs → length vs ≡ n
length_ints_on n s vs e = of (nat_le n (length s)) refl e
  where
    of : (b : Bool) → nat_le n (length s) ≡ b → (if b then ints (reverse (take n s)) else None) ≡ Some vs
        → length vs ≡ n
    of false was f = cc
    of true was f = length_ints (reverse (take n s)) vs f ∙ length-reverse (take n s) ∙ length-take-le n s
        (leb-true n (length s) was)

length_cells : (new given : List ℕ) (frame : ℕ) → length (given_cells new frame given) ≡ length given
length_cells new [] frame = refl
length_cells new (slot ∷ given) frame = ap (λ k. suc k) (length_cells new given frame)

length_puts : (ns : List ℤ) → length (puts ns) ≡ length ns
length_puts [] = refl
length_puts (n ∷ ns) = ap (λ k. suc k) (length_puts ns)

length_deaths : (own : List Access) → length own ≡ length (deaths own)
length_deaths [] = refl
length_deaths (a ∷ own) = ap (λ k. suc k) (length_deaths own)

-- ---- a step

module _ (l : Label) (stack : Stack) (s : State) (runs : control_in (s (obj.Control l.worker)) ≡ Running stack) where
  -- whatever comes of a row that names no count
  plain_changes : (names : List Access) (r : Row) → AreUncounted names → (t : State)
      → state_after_outcome (control_access l ∷ names) (outcome_after (Running stack) r) s ≡ Some t → Changes s t
  plain_changes names (row.Goes es us) u t e =
      let new : behind l stack s names es us ≡ t = cc in
      subst (Changes s) new (inl (record {
        kids = λ p. uncounted names us _ (obj.Kids p) u refl;
        tasks = λ n. ap (λ v. is_unfinished (task_in v)) (uncounted names us _ (obj.Task n) u refl);
      }))
  plain_changes names (row.Faults f) u t e =
      let new : updated (control_access l ∷ names) (Put (value.Control (Faulted f stack)) ∷ []) s ≡ t = cc in
      subst (Changes s) new (inl (record {
        kids = λ p. none_left names (with_control l (Faulted f stack) s) (obj.Kids p);
        tasks = λ n. ap (λ v. is_unfinished (task_in v))
            (none_left names (with_control l (Faulted f stack) s) (obj.Task n));
      }))
  plain_changes names (row.Blocked b) u t e = cc
  plain_changes names row.Lacks u t e = cc

  abbrev Leads : Asked → Type 0
  Leads a = (t : State) → state_after_outcome (control_access l ∷ a.names)
      (outcome_after (Running stack) (a.row (values_read a.names s))) s ≡ Some t → Changes s t

  -- the task of one name changes
  which_task : (name : List ℕ) (now : tasks.Task) (names : List Access) (es : List Edit) (us : List Update)
      → AreUntraced names → (n : List ℕ)
      → ((name ≡ n) × (is_unfinished (task_at (behind l stack s (write (obj.Task name) ∷ names) es
      (Put (value.Task now) ∷ us)) n) ≡ is_unfinished now))
      ⊎ ((name ≡ n → ⊥) × (task_at (behind l stack s (write (obj.Task name) ∷ names) es (Put (value.Task now) ∷ us)) n
      ≡ task_at s n))
  which_task name now names es us u n = by (pointwise nat_eq name n) refl
    where
      there : behind l stack s (write (obj.Task name) ∷ names) es (Put (value.Task now) ∷ us) (obj.Task n)
          ≡ cond (pointwise nat_eq name n) (value.Task now) (s (obj.Task n))
      there = behind_put l _ s (write (obj.Task name)) (Put (value.Task now)) names us (obj.Task n) u refl

      by : (b : Bool) → pointwise nat_eq name n ≡ b
          → ((name ≡ n) × (is_unfinished (task_at (behind l stack s (write (obj.Task name) ∷ names) es
          (Put (value.Task now) ∷ us)) n) ≡ is_unfinished now))
          ⊎ ((name ≡ n → ⊥) × (task_at (behind l stack s (write (obj.Task name) ∷ names) es (Put (value.Task now) ∷ us)) n
          ≡ task_at s n))
      by true e = inl (
        (same_list name n).0 e,
        ap (λ v. is_unfinished (task_in v)) there
            ∙ ap (λ b. is_unfinished (task_in (cond b (value.Task now) (s (obj.Task n))))) e,
      )
      by false e = inr (
        λ same. (let no : true ≡ false = sym ((same_list name n).1 same) ∙ e in cc),
        ap task_in there ∙ ap (λ b. task_in (cond b (value.Task now) (s (obj.Task n)))) e,
      )

  -- ---- a task is started

  begun_same : (name : List ℕ) (ready : Ready) (es : List Edit) (us : List Update) → task_at s name ≡ task.Ready ready
      → (n : List ℕ) → is_unfinished (task_at (behind l stack s (write (obj.Task name) ∷ events l.worker ∷ []) es
      (Put (value.Task (task.Running l.worker)) ∷ us)) n) ≡ is_unfinished (task_at s n)
  begun_same name ready es us e n =
      by (behind l stack s (write (obj.Task name) ∷ events l.worker ∷ []) es (Put (value.Task (task.Running l.worker)) ∷ us))
      (which_task name (task.Running l.worker) (events l.worker ∷ []) es us (refl, tt) n)
    where
      by : (t : State)
          → ((name ≡ n) × (is_unfinished (task_at t n) ≡ true)) ⊎ ((name ≡ n → ⊥) × (task_at t n ≡ task_at s n))
          → is_unfinished (task_at t n) ≡ is_unfinished (task_at s n)
      by t (inl it) = it.1 ∙ sym (ap is_unfinished (ap (task_at s) (sym it.0) ∙ e))
      by t (inr it) = ap is_unfinished it.1

  begun_changes : (name : List ℕ) (st : statuses.TaskStatus) (t : tasks.Task) → task_at s name ≡ t → (u : State)
      → state_after_outcome (control_access l ∷ write (obj.Task name) ∷ events l.worker ∷ [])
      (outcome_after (Running stack) (started l.worker name stack.top st (ready_for stack.top.team.name t))) s ≡ Some u
      → Changes s u
  begun_changes name st task.Absent e u is = cc
  begun_changes name st (task.Running other) e u is = cc
  begun_changes name st task.Done e u is = cc
  begun_changes name st (task.Ready ready) e u is = of_team (pointwise nat_eq ready.team stack.top.team.name) is
    where
      of_team : (b : Bool) → state_after_outcome (control_access l ∷ write (obj.Task name) ∷ events l.worker ∷ [])
          (outcome_after (Running stack) (started l.worker name stack.top st (if b then Some ready else None))) s ≡ Some u
          → Changes s u
      of_team false is = cc
      of_team true is =
          let es = BeginContext (task_context name stack.top ready) ∷ [] in
          let us = event (event_record.TaskSchedule stack.top.task st name) ∷ [] in
          let new : behind l stack s (write (obj.Task name) ∷ events l.worker ∷ []) es
          (Put (value.Task (task.Running l.worker)) ∷ us) ≡ u = cc in
          subst (Changes s) new (inl (record { kids = λ p. refl; tasks = λ n. begun_same name ready es us e n }))

  start_changes : (name : List ℕ) (admits : Bool) (st : Option statuses.TaskStatus)
      → Leads (started_row l.worker name stack.top admits st)
  start_changes name admits None t is = cc
  start_changes name false (Some st) t is = cc
  start_changes name true (Some st) t is = begun_changes name st (task_at s name) refl t is

  -- ---- a task is made, or ends

  module _ (h : IsOrderly s) (below : (c : Context) (new : List ℕ) → born c ≡ Some new → above new ≡ c.task) where
    top_there : Has (contexts_at s l.worker) stack.top
    top_there = subst (λ c. Has (contexts_of c) stack.top) (sym runs) (inl refl)

    group_uncounted : (c : Context) (group : Option (List ℕ))
        → AreUncounted (add (obj.Pending c.team.name c.phase) ∷ (group_count group ++ events l.worker ∷ []))
    group_uncounted c None = (refl, (refl, tt))
    group_uncounted c (Some g) = (refl, (refl, (refl, tt)))

    -- behind the count of the parent the additions to the others
    abbrev others : Option (List ℕ) → List Access
    others group = add (obj.Pending stack.top.team.name stack.top.phase) ∷ (group_count group ++ events l.worker ∷ [])

    made_changes : (m : Making) (body : Body) (ns : List ℤ) (new : Option (List ℕ)) → m.worker ≡ l.worker
        → born stack.top ≡ new → length body.given ≡ length ns → Leads (made_row m body stack.top ns new)
    made_changes m body ns None w e g t is = plain_changes [] (row.Faults _) tt t is
    made_changes m body ns (Some new) w e g t is =
        let es = Go m.launch.to m.launch.takes None ∷ CountBirth ∷ [] in
        let us = made_updates m body stack.top new ns in
        let names = made_names m.worker body stack.top new in
        let after : behind l stack s names es us ≡ t = cc in
        subst (Changes s) after (inr (inl (record {
          name = new;
          parent = stack.top.task;
          below = below stack.top new e;
          before = ap is_unfinished (h.unmade l.worker stack.top (stack.top.births + 1) new top_there (omega arith)
              (same_starts new new new (stack.top.task ++ (stack.top.births + 1) ∷ []) refl (born_is stack.top new e)
              (starts_itself new)));
          kids = λ p. kids p;
          which = λ n. which_task new (task.Ready (ready_of m body stack.top)) _ es _
              (untraced_append _ _ (given_untraced new 0 body.given)
              (counts_untraced stack.top.task stack.top (group_of stack.top) m.worker)) n;
        })))
      where
        kids : (p : List ℕ) → behind l stack s (made_names m.worker body stack.top new)
            (Go m.launch.to m.launch.takes None ∷ CountBirth ∷ []) (made_updates m body stack.top new ns) (obj.Kids p)
            ≡ cond (pointwise nat_eq stack.top.task p) (value_plus (pos 1) (s (obj.Kids p))) (s (obj.Kids p))
        kids p = added_behind (given_cells new 0 body.given) _ (puts ns) _ _ stack.top.task p (pos 1)
            (length_cells new body.given 0 ∙ g ∙ sym (length_puts ns)) (given_uncounted new 0 body.given)
            (rest (group_of stack.top))
          where
            rest : (group : Option (List ℕ))
                → AreUncounted (add (obj.Pending stack.top.team.name stack.top.phase)
                ∷ (group_count group ++ events m.worker ∷ []))
            rest None = (refl, (refl, tt))
            rest (Some g) = (refl, (refl, (refl, tt)))

    given_changes : (m : Making) (body : Body) (values : Option (List ℤ)) → m.worker ≡ l.worker
        → ((ns : List ℤ) → values ≡ Some ns → length body.given ≡ length ns) → Leads (given_row m body stack.top values)
    given_changes m body None w g t is = cc
    given_changes m body (Some ns) w g t is = made_changes m body ns (born stack.top) w refl (g ns refl) t is

    end_changes : (own : List Slot) (under : List Context) → stack.top.kind ≡ kind.Explicit
        → Leads (ended_row l.worker stack.top under (own_cells stack.top own))
    end_changes own [] x t is = cc
    end_changes own (next ∷ under) x t is =
        let es = EndContext ∷ [] in
        let us = ended_updates stack.top (own_cells stack.top own) next.task in
        let names = ended_names l.worker stack.top (own_cells stack.top own) (above stack.top.task) in
        let after : behind l stack s names es us ≡ t = cc in
        subst (Changes s) after (inr (inr (record {
          name = stack.top.task;
          parent = above stack.top.task;
          below = refl;
          before = ap is_unfinished (h.running l.worker stack.top top_there x);
          kids = λ p. added_behind (own_cells stack.top own) _ (deaths (own_cells stack.top own)) _ _ (above stack.top.task) p
              (negsuc 0) (length_deaths (own_cells stack.top own)) (own_uncounted stack.top own)
              (group_uncounted stack.top stack.top.group);
          which = λ n. which_task stack.top.task task.Done _ es _
              (untraced_append _ _ (own_untraced stack.top own)
              (counts_untraced (above stack.top.task) stack.top stack.top.group l.worker)) n;
        })))

    ends : (own : List Slot) (which : Kind) → stack.top.kind ≡ which → Leads (end_row_of l.worker stack own which)
    ends own kind.Initial x t is = cc
    ends own kind.Implicit x t is = cc
    ends own kind.Explicit x t is = end_changes own stack.below x t is

    module _ (program : Raw) (workers : ℕ) (gives : GivesAll program) where
      abbrev here : Site
      here = site program workers l.worker stack

      plain : (instr : Instr) → IsPlain instr → Leads (row_of here instr)
      plain instr h t is =
          plain_changes (row_of here instr).names ((row_of here instr).row (values_read (row_of here instr).names s))
          (plain_names program workers l.worker stack instr h) t is

      instruction_changes : (instr : Instr)
          → instruction_at program stack.top.frame.body stack.top.frame.next ≡ Some instr → Leads (row_of here instr)
      instruction_changes (i.Serial x) at t is = plain (i.Serial x) tt t is
      instruction_changes (i.Function x) at t is =
          plain (i.Function x) tt t is
      instruction_changes (i.Team x) at t is = plain (i.Team x) tt t is
      instruction_changes (i.Sharing x) at t is =
          plain (i.Sharing x) tt t is
      instruction_changes (i.Region x) at t is =
          plain (i.Region x) tt t is
      instruction_changes (i.Task (taskings.Spawn body values)) at t is =
          given_changes (record {
            worker = l.worker;
            line = line here;
            launch = launch here values body;
          }) (body_of program body) (ints_on values stack.top.frame.operands) refl
          (λ ns e. gives stack.top.frame.body stack.top.frame.next body values at
          ∙ sym (length_ints_on values stack.top.frame.operands ns e)) t is
      instruction_changes (i.Task taskings.TaskEnd) at t is = ends (slots here) stack.top.kind refl t is
      instruction_changes (i.Task taskings.WaitBegin) at t is =
          plain (i.Task taskings.WaitBegin) tt t is
      instruction_changes (i.Task taskings.WaitEnd) at t is =
          plain (i.Task taskings.WaitEnd) tt t is
      instruction_changes (i.Task taskings.Yield) at t is =
          plain (i.Task taskings.Yield) tt t is
      instruction_changes (i.Task taskings.GroupBegin) at t is =
          plain (i.Task taskings.GroupBegin) tt t is
      instruction_changes (i.Task taskings.GroupEnd) at t is =
          plain (i.Task taskings.GroupEnd) tt t is

      choice_changes : (o : Option Instr) (choice : Choice)
          → instruction_at program stack.top.frame.body stack.top.frame.next ≡ o → Leads (choice_row here o choice)
      choice_changes None Next at t is = cc
      choice_changes (Some instr) Next at t is = instruction_changes instr at t is
      choice_changes o (Start name) at t is =
          start_changes name (admits_all program name (stack.top ∷ stack.below)) (leaving o) t is

module _ (program : Raw) (workers : ℕ) (below : (c : Context) (new : List ℕ) → born c ≡ Some new → above new ≡ c.task)
    (gives : GivesAll program) where
  by_control : (l : Label) (s : State) → IsOrderly s → (c : controls.Control)
      → control_in (s (obj.Control l.worker)) ≡ c → (t : State)
      → state_after_outcome (control_access l ∷ further_in program workers l c)
      (outcome_after c (row_in program workers l c (values_read (further_in program workers l c) s))) s ≡ Some t
      → Changes s t
  by_control l s h (Running stack) e t is =
      choice_changes l stack s e h below program workers gives
      (instruction_at program stack.top.frame.body stack.top.frame.next) l.choice refl t is
  by_control l s h Idle e t is = cc
  by_control l s h (Faulted fault stack) e t is = cc
  by_control l s h (Ended result) e t is = cc

  step_changes : (s t : State) (l : Label) → IsOrderly s → next_state (rules_of program workers) s l ≡ Some t
      → Changes s t
  unfolding step_at
  step_changes s t l h is = by_control l s h (control_in (s (obj.Control l.worker))) refl t is

  record IsCounted (s : State) : Type 0 where
    orderly : IsOrderly s
    children : HasChildren s

  start_counted : IsCounted (start_of program workers)
  start_counted = record {
    orderly = start_orderly program workers;
    children = λ p. (
      [],
      record {
        each = λ n a. absurd a;
        all = λ n c. (let no : false ≡ true = c.1 in cc);
        once = tt;
      },
      refl,
    );
  }

  pub runs_count : (ls : List Label) (s : State)
      → replay_from (rules_of program workers) (start_of program workers) ls ≡ Some s → HasChildren s
  runs_count ls s e =
      (rest_keeps (rules_of program workers) IsCounted
      (λ u v l k is. record {
        orderly = (step_goes_on program workers u v l k.orderly is).orderly;
        children = changes_keep u v k.children (step_changes u v l k.orderly is);
      }) ls (start_of program workers) s start_counted e).children

pub valid_runs_count : (program : Raw) (workers : ℕ)
    → ((c : Context) (new : List ℕ) → born c ≡ Some new → above new ≡ c.task) → IsValid program → (ls : List Label)
    (s : State) → replay_from (rules_of program workers) (start_of program workers) ls ≡ Some s → HasChildren s
valid_runs_count program workers below valid ls s e =
    runs_count program workers below (valid_gives program valid) ls s e

-- where the count is 0 there is no child
pub none_unfinished : (s : State) (parent name : List ℕ) → HasChildren s → count_in (s (obj.Kids parent)) ≡ pos 0
    → IsChild s parent name → ⊥
none_unfinished s parent name h zero c =
    by (h parent).0 (sym (ap count_in (h parent).2) ∙ zero) ((h parent).1.all name c)
  where
    by : (names : List (List ℕ)) → count_in (value.Count (pos (length names))) ≡ pos 0 → IsIn names name → ⊥
    by [] e a = absurd a
    by (n ∷ names) e a = cc
