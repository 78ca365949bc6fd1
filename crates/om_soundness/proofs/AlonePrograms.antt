-- Functions and whole programs: what a worker does alone is what they mean.
use Rattle.std.proofs.Common.{◌≡◌, ℕ, zero, suc, ◌<◌, ◌≤◌, ℤ, pos, Bool, true, false, List, [], ◌∷◌, Option, Some, None}
use Rattle.std.proofs.Common.{refl, sym, ap, ◌∙◌, subst, ⊎_elim, length, slice_get, option_map, arith}
use Rattle.std.specs.Prelude.{All, IsSome, IsSomeAnd, position, unwrap_or, slice_index_or}
use Rattle.om_foot.specs.declared.object.Obj.TheVariants as obj
use Rattle.om_code.specs.declared.frame.Fault.{Fault}
use Rattle.om_code.specs.declared.frame.Operand.{Operand}
use Rattle.om_code.specs.declared.raw.Body.{Body}
use Rattle.om_code.specs.declared.raw.Raw.{Raw}
use Rattle.om_code.specs.declared.raw.Slot.{Slot}
use Rattle.om_code.specs.declared.raw.Source.{Source}
use Rattle.om_code.specs.declared.raw.Source.TheVariants as source
use Rattle.om_code.specs.Frames as frames
use Rattle.om_code.specs.Frames.{FrameTurn, Finished}
use Rattle.om_code.specs.Places.{no_body}
use Rattle.om_code.specs.Validity.{IsKnown, IsValid, IsValidBody, CanBegin, FitsOuter}
use Rattle.om_state.specs.declared.control.Control.{Control}
use Rattle.om_state.specs.declared.control.Control.TheVariants.{Running, Faulted, Ended}
use Rattle.om_state.specs.declared.control.Control.TheVariants as controls
use Rattle.om_state.specs.declared.control.Home.{Home}
use Rattle.om_state.specs.declared.control.Home.TheVariants.{Own}
use Rattle.om_state.specs.declared.control.Stack.{Stack}
use Rattle.om_state.specs.declared.value.Val.{Val}
use Rattle.om_state.specs.declared.value.Val.TheVariants as value
use Rattle.om_state.specs.Rules.{step_at, next_state, state_after_outcome, and_then, control_access}
use Rattle.om_state.specs.State.{State, values_read}
use Rattle.om_state.specs.Values.{control_in}
use Rattle.om_team_serial.specs.Objects.{home_for, homes_for}
use Rattle.std.proofs.lemmas.Bool.{cases_lt}
use Rattle.std.proofs.lemmas.List.Elements.{All-head, All-tail}
use Rattle.std.proofs.lemmas.List.Quantifiers.{position-Some}
use Rattle.std.proofs.lemmas.Option.{get_or_from_slice_get}
use Rattle.om_task.specs.Rules.{rules_of, further_in, outcome_of, first_context, start_of}
use Rattle.om_scope_tree.specs.Uses.{is_main_function}
use Rattle.om_lower_rules.specs.Bodies.{called_body, function_variables}
use Rattle.om_lower_rules.specs.MeaningLaws.{Agrees, Behaves, SerialMeaning, layout_of, IsOver}
use Rattle.om_lower_rules.specs.MeaningLaws as meanings
use Rattle.om_lower_rules.specs.Meaning as flows
use Rattle.om_lower_rules.specs.Meaning.{Flow, Failed, OutOfTurns}
use Rattle.om_lower_rules.specs.Running.{ended, frame, run, world_of}
use Rattle.om_lower_rules.specs.Worlds.{World}
use Rattle.om_soundness.specs.Alone.{Shows, OwnsCells, dead, next_of, stack_at, stepped}
use Rattle.om_soundness.specs.AloneLaws.{CanFinish, MayEnd, Leads, LeadsSoon, Follows, Does, Runs, FunctionsRun, ProgramsStart}
use Rattle.om_soundness.specs.AloneLaws.{ProgramsRun, alone, control_behind, world_behind, first_stack, first_world}
use Rattle.om_soundness.proofs.Following.{of_all, follow}

-- ---- a function

module _ (program : Raw) (workers worker : ℕ) (stack : Stack) (s : State) where
  -- what follows the end of a run leads to the end of the function
  ends_so : (is_main : Bool) (v : Option ℤ) (n : ℕ) (f : frames.Frame) (u : World) → world_of f ≡ u
      → MayEnd is_main stack.top s
      → Follows program workers worker stack s n (ended is_main v f)
      → (m : ℕ) × Leads program workers worker stack s m (control_behind is_main v stack) (world_behind is_main u)
  ends_so true None n f u e may h = let l = h may in
      (l.0, subst (Leads program workers worker stack s l.0 (Ended (pos 0))) e l.2)
  ends_so true (Some v) n f u e may h = let l = h may in
      (l.0, subst (Leads program workers worker stack s l.0 (Ended v)) e l.2)
  ends_so false None n f u e may h =
      let l = h may in (
        l.0,
        subst (λ w.
            Leads program workers worker stack s l.0 (control_behind false None stack) (dead w)) e l.2,
      )
  ends_so false (Some v) n f u e may h =
      let l = h may in (
        l.0,
        subst (λ w.
            Leads program workers worker stack s l.0 (control_behind false (Some v) stack) (dead w)) e l.2,
      )

  module _ (body : Body) (found : slice_get program.bodies stack.top.frame.body ≡ Some body)
      (known : IsKnown program body) (owns : OwnsCells stack.top)
      (w : World) (shows : Shows program worker stack.top (Running (stack_at stack 0 [])) w s) where
    pub followed : (n : ℕ) → Follows program workers worker stack s n (run program body n (frame 0 [] w))
    followed n = follow program workers worker stack body found known owns n s (frame 0 [] w) shows

    does : (is_main : Bool) (means : ℕ → World → Flow) → Behaves program body is_main means
        → Does program workers worker stack s is_main (λ n. means n w)
    does is_main means b = record {
      ends = λ may n v u e.
          let end = b.ends w n v u e in
          ends_so is_main v end.turns end.last u end.world may
          (subst (Follows program workers worker stack s end.turns) end.over (followed end.turns));
      faults = λ n x u e.
          let end = b.faults w n x u e in
          let l = subst (Follows program workers worker stack s end.turns) end.over (followed end.turns) in (
            l.0,
            end.last.place,
            end.last.operands,
            subst (Leads program workers worker stack s l.0
                (Faulted x (stack_at stack end.last.place end.last.operands))) end.world l.2,
          );
      goes_on = λ n e.
          let on = b.goes_on w n e in (
            on.0.place,
            on.0.operands,
            world_of on.0,
            subst (Follows program workers worker stack s n) on.1
                (followed n),
          );
    }

pub functions_run : SerialMeaning → FunctionsRun
functions_run meaning tree raw code valid k f e serial workers worker stack s w at owns shows =
    there (slice_get raw.bodies (called_body tree.functions k)) refl (meaning tree raw code k f e serial)
  where
    there : (o : Option Body) → slice_get raw.bodies (called_body tree.functions k) ≡ o
        → IsSomeAnd o (λ body. Behaves raw body (is_main_function f)
        (meanings.source (layout_of raw body (function_variables f)) f.body))
        → IsSomeAnd o (λ body. Does raw workers worker stack s (is_main_function f)
        (λ n. meanings.source (layout_of raw body (function_variables f)) f.body n w))
    there None is b = b
    there (Some body) is b =
        does raw workers worker stack s body (ap (slice_get raw.bodies) at ∙ is)
        (of_all (λ body. IsValidBody raw body) raw.bodies (called_body tree.functions k) body valid.bodies is).known
        owns w shows
        (is_main_function f) (meanings.source (layout_of raw body (function_variables f)) f.body) b

-- ---- the start of a program

-- slots that no outer frame has are in the frame itself
own_home : (task : List ℕ) (ordinal : ℕ) (homes : List Home) (cells : ℕ) (from : Source) → FitsOuter [] cells from
    → home_for task ordinal homes from ≡ Own
own_home task ordinal homes cells source.Own fits = refl
own_home task ordinal homes cells (source.Outer number) fits = absurd fits

homes_own : (task : List ℕ) (ordinal : ℕ) (homes : List Home) (slots : List Slot)
    → All (λ slot. FitsOuter [] slot.cells slot.source) slots → (n : ℕ)
    → slice_index_or (homes_for task ordinal homes slots) n Own ≡ Own
homes_own task ordinal homes [] fits n = refl
homes_own task ordinal homes (slot ∷ slots) fits zero =
    own_home task ordinal homes slot.cells slot.source
    (All-head (λ slot. FitsOuter [] slot.cells slot.source) slot slots fits)
homes_own task ordinal homes (slot ∷ slots) fits (suc n) =
    homes_own task ordinal homes slots (All-tail (λ slot. FitsOuter [] slot.cells slot.source) slot slots fits) n

first_owns : (program : Raw) → IsValid program → OwnsCells (first_context program)
first_owns program valid = there (slice_get program.bodies program.main) refl valid.tables.main
  where
    there : (o : Option Body) → slice_get program.bodies program.main ≡ o → IsSomeAnd o (λ b. CanBegin [] 0 b)
        → OwnsCells (first_context program)
    there None is b = absurd b
    there (Some body) is b =
        λ slot.
        ap (λ (o : Option Body). slice_index_or
        (homes_for (0 ∷ []) 0 [] (unwrap_or o no_body).slots) slot Own) is
        ∙ homes_own (0 ∷ []) 0 [] body.slots b.fits slot

pub programs_start : ProgramsStart
programs_start program workers valid = (
  first_owns program valid,
  record { control = refl; slots = λ slot index lt. refl; globals = λ variable index. refl; output = refl },
  record { initial = refl; none = refl },
)

-- ---- a worker that is over takes no step

abbrev IsDone : Control → Type 0
IsDone (Faulted x stack) = Unit {0}
IsDone (Ended v) = Unit {0}
IsDone _ = ⊥

module _ (program : Raw) (workers worker : ℕ) where
  abbrev next : State → Option State
  next s = next_state (rules_of program workers) s (next_of worker)

  stops : (t : State) (control : Control) → t (obj.Control worker) ≡ value.Control control → IsDone control
      → next t ≡ None
  unfolding step_at
  stops t control e done =
      ap (λ (v : Val). state_after_outcome
      (control_access (next_of worker) ∷ further_in program workers (next_of worker) (control_in v))
      (outcome_of program workers (next_of worker)
      (v ∷ values_read (further_in program workers (next_of worker) (control_in v)) t)) t) e
      ∙ none control done
    where
      none : (control : Control) → IsDone control
          → state_after_outcome (control_access (next_of worker) ∷ further_in program workers (next_of worker)
          control)
          (outcome_of program workers (next_of worker)
          (value.Control control ∷ values_read (further_in program workers (next_of worker) control) t)) t
          ≡ None
      none (Faulted x stack) done = refl
      none (Ended v) done = refl
      none controls.Idle done = absurd done
      none (Running stack) done = absurd done

  behind : (m n : ℕ) (t u : State)
      → ((v : State) → stepped program workers worker m v ≡ Some t → stepped program workers worker n v ≡ Some u
      → m ≡ n) → (o : Option State)
      → and_then o (λ v. stepped program workers worker m v) ≡ Some t
      → and_then o (λ v. stepped program workers worker n v) ≡ Some u → suc m ≡ suc n
  behind m n t u same None e now = absurd cc
  behind m n t u same (Some v) e now = ap suc (same v e now)

  one_time : (m n : ℕ) (s t u : State) → m ≤ n → stepped program workers worker m s ≡ Some t → next t ≡ None
      → stepped program workers worker n s ≡ Some u → m ≡ n
  one_time zero zero s t u le e over now = refl
  one_time zero (suc n) s t u le e over now =
      let same : s ≡ t = cc e in
      let none : stepped program workers worker (suc n) s ≡ None = ap
      (λ o. and_then o (λ v. stepped program workers worker n v)) (ap next same ∙ over) in
      absurd cc
  one_time (suc m) zero s t u le e over now = absurd (omega (arith, le))
  one_time (suc m) (suc n) s t u le e over now =
      behind m n t u (λ v f g. one_time m n v t u (omega (arith, le)) f over g) (next s) e now

  module _ (stack : Stack) (s : State) where
    -- what is reached and over after n steps at most is reached then
    at_last : (n : ℕ) (control : Control) (w : World) (u : State) → IsDone control
        → LeadsSoon program workers worker stack s n control w
        → stepped program workers worker n s ≡ Some u → Leads program workers worker stack s n control w
    at_last n control w u done l now =
        subst (λ m. Leads program workers worker stack s m control w)
        (one_time l.0 n s l.2.0 u l.1 l.2.1 (stops l.2.0 control l.2.2.control done) now) l.2

    shown : (n : ℕ) (control : Control) (w : World) (u : State) → Leads program workers worker stack s n control w
        → stepped program workers worker n s ≡ Some u
        → Shows program worker stack.top control w u
    shown n control w u l now = let same : l.0 ≡ u = cc (l.1, now) in
        subst (Shows program worker stack.top control w) same l.2

one_control : (c d : Control) (v : Val) → v ≡ value.Control c → v ≡ value.Control d → c ≡ d
one_control c d v e f = ap control_in (sym e ∙ f)

-- ---- a whole program

module _ (program : Raw) (workers : ℕ) (valid : IsValid program) (body : Body)
    (found : slice_get program.bodies program.main ≡ Some body) (means : ℕ → World → Flow)
    (behaves : Behaves program body true means) where
  abbrev start : State
  start = start_of program workers

  abbrev first : Stack
  first = first_stack program

  abbrev at_start : FrameTurn → ℕ → Type 0
  at_start t n = Follows program workers 0 first start n t

  follows : (n : ℕ) → at_start (run program body n (frame 0 [] (first_world program))) n
  follows =
      followed program workers 0 first start body found
      (of_all (λ body. IsValidBody program body) program.bodies program.main body valid.bodies found).known
      (programs_start program workers valid).0 (first_world program) (programs_start program workers valid).1

  may : CanFinish (first_context program) start
  may = (programs_start program workers valid).2

  -- what the meaning says of a run that has finished or faulted
  finished_says : (r : Flow) (v : ℤ) (f : frames.Frame) → Agrees true r (Finished v f) → (z : Option ℤ) × (u : World)
      × (r ≡ flows.Returned z u) × (v ≡ unwrap_or z (pos 0)) × (world_of f ≡ u)
  finished_says (flows.Returned None w) v f a = let e = a.1 in
      (None, w, refl, cc e, ap world_of (let same : f ≡ a.0 = cc e in same) ∙ a.2)
  finished_says (flows.Returned (Some z) w) v f a = let e = a.1 in
      (Some z, w, refl, cc e, ap world_of (let same : f ≡ a.0 = cc e in same) ∙ a.2)
  finished_says (Failed x w) v f a = absurd (let e = a.1 in cc)
  finished_says OutOfTurns v f a = absurd a
  finished_says (flows.Onward w) v f a = absurd a
  finished_says (flows.Broke w) v f a = absurd a
  finished_says (flows.Continued w) v f a = absurd a

  faulted_says : (r : Flow) (x : Fault) (f : frames.Frame) → Agrees true r (frames.Faulted x f) → (u : World)
      × (r ≡ Failed x u) × (world_of f ≡ u)
  faulted_says (flows.Returned None w) x f a = absurd (let e = a.1 in cc)
  faulted_says (flows.Returned (Some z) w) x f a = absurd (let e = a.1 in cc)
  faulted_says (Failed y w) x f a =
      let e = a.1 in let same : x ≡ y = cc e in
      (w, ap (λ z. Failed z w) (sym same), ap world_of (let frames_same : f ≡ a.0 = cc e in frames_same) ∙ a.2)
  faulted_says OutOfTurns x f a = absurd a
  faulted_says (flows.Onward w) x f a = absurd a
  faulted_says (flows.Broke w) x f a = absurd a
  faulted_says (flows.Continued w) x f a = absurd a

  returned_never : (r : Flow) (v : Operand) (f : frames.Frame) → Agrees true r (frames.Returned v f) → ⊥
  returned_never (flows.Returned None w) v f a = let e = a.1 in cc
  returned_never (flows.Returned (Some z) w) v f a = let e = a.1 in cc
  returned_never (Failed x w) v f a = let e = a.1 in cc
  returned_never OutOfTurns v f a = a
  returned_never (flows.Onward w) v f a = a
  returned_never (flows.Broke w) v f a = a
  returned_never (flows.Continued w) v f a = a

  abbrev begun : World
  begun = first_world program

  only_ends : (n : ℕ) (v : ℤ) (s : State) → alone program workers n ≡ Some s
      → s (obj.Control 0) ≡ value.Control (Ended v) → (t : FrameTurn)
      → run program body n (frame 0 [] begun) ≡ t → at_start t n
      → (r : Option ℤ) × (u : World) × (means n begun ≡ flows.Returned r u) × (v ≡ unwrap_or r (pos 0))
      × Shows program 0 (first_context program) (Ended v) u s
  only_ends n v s now ctl (frames.Onward f) e h =
      let no = one_control (Ended v) (Running (stack_at first f.place f.operands)) _ ctl
      (shown program workers 0 first start n _ (world_of f) s h now).control in absurd cc
  only_ends n v s now ctl (frames.Faulted x f) e h =
      let l = at_last program workers 0 first start n (Faulted x (stack_at first f.place f.operands)) (world_of f) s
      tt h now in
      let no = one_control (Ended v) (Faulted x (stack_at first f.place f.operands)) _ ctl
      (shown program workers 0 first start n _ (world_of f) s l now).control in absurd cc
  only_ends n v s now ctl (frames.Finished z f) e h =
      let l = at_last program workers 0 first start n (Ended z) (world_of f) s tt (h may) now in
      let at = shown program workers 0 first start n (Ended z) (world_of f) s l now in
      let same : v ≡ z = cc (one_control (Ended v) (Ended z) _ ctl at.control) in
      let a = finished_says (means n begun) z f (behaves.only begun n (Finished z f) tt e) in (
        a.0,
        a.1,
        a.2,
        same ∙ a.3,
        subst (λ u. Shows program 0 (first_context program) (Ended v) u s) a.4
            (subst (λ y. Shows program 0 (first_context program) (Ended y) (world_of f) s) (sym same) at),
      )
  only_ends n v s now ctl (frames.Returned z f) e h =
      absurd (returned_never (means n begun) z f (behaves.only begun n (frames.Returned z f) tt e))
  only_ends n v s now ctl frames.Stuck e h = absurd (behaves.never_stuck begun n e)

  only_faults : (n : ℕ) (x : Fault) (stack : Stack) (s : State) → alone program workers n ≡ Some s
      → s (obj.Control 0) ≡ value.Control (Faulted x stack) → (t : FrameTurn)
      → run program body n (frame 0 [] begun) ≡ t → at_start t n → (u : World) × (means n begun ≡ Failed x u)
      × Shows program 0 (first_context program) (Faulted x stack) u s
  only_faults n x stack s now ctl (frames.Onward f) e h =
      let no = one_control (Faulted x stack) (Running (stack_at first f.place f.operands)) _ ctl
      (shown program workers 0 first start n _ (world_of f) s h now).control in absurd cc
  only_faults n x stack s now ctl (frames.Finished z f) e h =
      let l = at_last program workers 0 first start n (Ended z) (world_of f) s tt (h may) now in
      let no = one_control (Faulted x stack) (Ended z) _ ctl
      (shown program workers 0 first start n _ (world_of f) s l now).control in absurd cc
  only_faults n x stack s now ctl (frames.Faulted y f) e h =
      let end : Control = Faulted y (stack_at first f.place f.operands) in
      let l = at_last program workers 0 first start n end (world_of f) s tt h now in
      let at = shown program workers 0 first start n end (world_of f) s l now in
      let same : end ≡ Faulted x stack = one_control end (Faulted x stack) _ at.control ctl in
      let fault_same : y ≡ x = cc same in
      let a = faulted_says (means n begun) y f (behaves.only begun n (frames.Faulted y f) tt e) in (
        a.0,
        a.1 ∙ ap (λ z. Failed z a.0) fault_same,
        subst (λ u. Shows program 0 (first_context program) (Faulted x stack) u s) a.2
            (subst (λ c. Shows program 0 (first_context program) c (world_of f) s) same at),
      )
  only_faults n x stack s now ctl (frames.Returned z f) e h =
      absurd (returned_never (means n begun) z f (behaves.only begun n (frames.Returned z f) tt e))
  only_faults n x stack s now ctl frames.Stuck e h = absurd (behaves.never_stuck begun n e)

  -- what is over is so behind the last step
  not_before : (n : ℕ) (stack : Stack) (control : Control) (w : World) (s : State) → alone program workers n ≡ Some s
      → s (obj.Control 0) ≡ value.Control (Running stack) → IsDone control
      → LeadsSoon program workers 0 first start (suc n) control w → IsSome (alone program workers (suc n))
  not_before n stack control w s now ctl done l =
      ⊎_elim
      (λ (early : l.0 < suc n).
      let at = at_last program workers 0 first start n control w s done (l.0, omega (arith, early), l.2) now in
      let same : control ≡ Running stack = one_control control (Running stack) _
      (shown program workers 0 first start n control w s at now).control ctl in
      absurd (subst IsDone same done))
      (λ (late : suc n ≤ l.0).
      let same : l.0 ≡ suc n = omega (arith, late, l.1) in
      subst (λ m. IsSome (alone program workers m)) same (subst IsSome (sym l.2.1) refl))
      (cases_lt l.0 (suc n))

  never_stuck : (n : ℕ) (stack : Stack) (s : State) → alone program workers n ≡ Some s
      → s (obj.Control 0) ≡ value.Control (Running stack) → (t : FrameTurn)
      → run program body (suc n) (frame 0 [] begun) ≡ t → at_start t (suc n) → IsSome (alone program workers (suc n))
  never_stuck n stack s now ctl (frames.Onward f) e h = subst IsSome (sym h.1) refl
  never_stuck n stack s now ctl (frames.Faulted x f) e h =
      not_before n stack (Faulted x (stack_at first f.place f.operands)) (world_of f) s now ctl tt h
  never_stuck n stack s now ctl (frames.Finished z f) e h =
      not_before n stack (Ended z) (world_of f) s now ctl tt (h may)
  never_stuck n stack s now ctl (frames.Returned z f) e h =
      absurd (returned_never (means (suc n) begun) z f (behaves.only begun (suc n) (frames.Returned z f) tt e))
  never_stuck n stack s now ctl frames.Stuck e h = absurd (behaves.never_stuck begun (suc n) e)

  runs : Runs program workers (λ n. means n begun)
  runs =
      let d =
      does program workers 0 first start body found
      (of_all (λ body. IsValidBody program body) program.bodies program.main body valid.bodies found).known
      (programs_start program workers valid).0 begun (programs_start program workers valid).1 true means behaves in
      record {
        ends = d.ends may;
        faults = λ n x u e. let l = d.faults n x u e in (l.0, stack_at first l.1 l.2, l.3);
        goes_on = λ n e. let l = d.goes_on n e in (stack_at first l.0 l.1, l.2, l.3);
        only_ends = λ n v s now ctl. only_ends n v s now ctl (run program body n (frame 0 [] begun)) refl (follows n);
        only_faults = λ n x stack s now ctl.
            only_faults n x stack s now ctl (run program body n (frame 0 [] begun)) refl (follows n);
        never_stuck = λ n stack s now ctl.
            never_stuck n stack s now ctl (run program body (suc n) (frame 0 [] begun)) refl (follows (suc n));
      }

element_there : {A : Type 0} (xs : List A) (k : ℕ) → k < length xs → (x : A) × (slice_get xs k ≡ Some x)
element_there [] k lt = absurd (omega (arith, lt))
element_there (x ∷ xs) zero lt = (x, refl)
element_there (x ∷ xs) (suc k) lt = element_there xs k (omega (arith, lt))

-- where the first that passes is, one passes
position_there : {A : Type 0} (test : A → Bool) (xs : List A) (k : ℕ) → position test xs ≡ Some k
    → (x : A) × (slice_get xs k ≡ Some x) × (test x ≡ true)
position_there {A} test xs k e = first xs refl e
  where
    -- a default of the type is at hand only where there is an element
    first : (ys : List A) → xs ≡ ys → position test ys ≡ Some k
        → (x : A) × (slice_get xs k ≡ Some x) × (test x ≡ true)
    first [] same e = absurd cc
    first (d ∷ ds) same e =
        let at = position-Some test (d ∷ ds) k d e in
        let x = element_there (d ∷ ds) k at.0 in (
          x.0,
          ap (λ z. slice_get z k) same ∙ x.1,
          ap test (sym (get_or_from_slice_get (d ∷ ds) k x.0 d x.1)) ∙ at.1,
        )

pub programs_run : SerialMeaning → ProgramsRun
programs_run meaning tree raw workers code valid k f at e serial =
    let main : called_body tree.functions k ≡ raw.main = cc
    (sym (ap (option_map (called_body tree.functions)) at) ∙ code.main) in
    let is_main : is_main_function f ≡ true =
    let found = position_there is_main_function tree.functions k at in
    let same : found.0 ≡ f = cc (found.1, e) in ap is_main_function (sym same) ∙ found.2 in
    there (slice_get raw.bodies raw.main) refl
    (subst (λ b. IsSomeAnd (slice_get raw.bodies raw.main)
    (λ body. Behaves raw body b (meanings.source (layout_of raw body (function_variables f)) f.body))) is_main
    (subst (λ m. IsSomeAnd (slice_get raw.bodies m)
    (λ body. Behaves raw body (is_main_function f)
    (meanings.source (layout_of raw body (function_variables f)) f.body))) main
    (meaning tree raw code k f e serial)))
  where
    there : (o : Option Body) → slice_get raw.bodies raw.main ≡ o
        → IsSomeAnd o (λ body. Behaves raw body true
        (meanings.source (layout_of raw body (function_variables f)) f.body))
        → IsSomeAnd o (λ body. Runs raw workers
        (λ n. meanings.source (layout_of raw body (function_variables f)) f.body n (first_world raw)))
    there None is b = b
    there (Some body) is b = runs raw workers valid body is
        (meanings.source (layout_of raw body (function_variables f)) f.body) b
