-- Commands of many steps, one step at a time.
use Rattle.std.proofs.Common.{◌≡◌, refl, sym, ap, ◌∙◌, ◌<◌, ◌≤◌, ◌-◌, ◌+◌, zero, suc, true, false, None, Some, ℕ, List}
use Rattle.std.proofs.Common.{Option, cond, [], ◌∷◌, ◌++◌, length, drop, get_or, append_assoc, append-nil, arith, Bool, map}
use Rattle.om_state.specs.declared.step.Choice.{Choice}
use Rattle.om_state.specs.declared.step.Choice.TheVariants.{Next, Start}
use Rattle.om_state.specs.declared.step.Outcome.{Outcome}
use Rattle.om_state.specs.declared.step.Outcome.TheVariants as outcome
use Rattle.om_state.specs.declared.step.Update.{Update}
use Rattle.om_shell_commands.specs.Steps.{full_text, step_text, undo_text}
use Rattle.om_shell_commands.specs.Lists.{entry_line, history_text, joined}
use Rattle.om_shell_commands.specs.declared.stop.Stop.TheVariants as stop
use Rattle.om_state.specs.Values.{control_in}
use Rattle.om_foot.specs.declared.object.Obj.TheVariants as object
use Rattle.om_state.specs.declared.step.Entry.{Entry}
use Rattle.om_state.specs.declared.step.Label.{Label}
use Rattle.om_state.specs.declared.value.Val.{Val}
use Rattle.om_undo_history.specs.declared.reply.RollReply.{RollReply}
use Rattle.om_undo_history.specs.declared.reply.UndoReply.{UndoReply}
use Rattle.om_undo_history.specs.Runs.{reply_for, reply_to_step}
use Rattle.om_undo_history.specs.declared.reply.StepReply.{StepReply}
use Rattle.om_undo_history.specs.declared.reply.StepReply.TheVariants as stepped
use Rattle.om_task.specs.Laws.{StartsAtSchedulingPoints}
use Rattle.om_task.specs.Rules.{is_at_scheduling_point}
use Rattle.om_undo.specs.Machines.{MachineView, rules_for, state_in, step_reply}
use Rattle.om_undo.specs.PlannedSteps.{PlannedView, is_made, planned_at}
use Rattle.om_shell_debugger.specs.declared.marks.Marks.{Marks}
use Rattle.om_shell_debugger.specs.declared.runs.Moved.{Moved}
use Rattle.om_shell_debugger.specs.Moves.{goes_on, steps_within, undoes_within, next_within, back_within}
use Rattle.om_book.specs.Books.{BookView, is_full, machine_of}
use Rattle.om_book_journal.specs.Journals.{IsLegal}
use Rattle.om_book_journal.specs.Runs.{after, is_step_made, reply_to}
use Rattle.om_book_journal.specs.Records.{JournalRecord}
use Rattle.om_book_journal.specs.Growing.{left_by-snoc}
use Rattle.om_book_journal.specs.declared.command.Command.TheVariants as call
use Rattle.om_book_journal.specs.declared.command.Query.{Query}
use Rattle.om_book_journal.specs.declared.reply.Reply.TheVariants as reply
use Rattle.om_task.specs.Plans.{label_at}
use Rattle.om_shell_debugger.specs.Calls.{undo_reply_of, with_debugger_call, with_step}
use Rattle.om_drive.specs.OwnCalls.{AreOwnCalls}
use Rattle.om_shell_debugger.specs.Freed.{SeatCall, AreOwn, records_by}
use Rattle.om_shell_debugger.specs.Runs.{after_move, can_step, move_among, move_of, moved_of, ran, run_within, said_by}
use Rattle.om_shell_debugger.specs.Runs.{planned_for, planned_if, planned_move, start_among}
use Rattle.om_shell_debugger.specs.Said.{Said}

abbrev full : BookView → Said
full b = record { text = full_text; book = b }

-- `next`

pub next_full : (further line worker : ℕ) (b : BookView) → is_full b ≡ true → next_within further line worker b ≡ full b
unfolding next_within
next_full zero line worker b e = rw e refl
next_full (suc n) line worker b e = rw e refl

abbrev stepped_once : ℕ → BookView → Said
stepped_once worker b = record {
  text = step_text worker (step_reply (machine_of b) (label_at worker Next));
  book = with_step b (label_at worker Next);
}

pub next_stops : (further line worker : ℕ) (b : BookView) → is_full b ≡ false → goes_on further
    (steps_within line worker b) ≡ false
    → next_within further line worker b ≡ stepped_once worker b
unfolding next_within
next_stops zero line worker b e h = rw e refl
next_stops (suc n) line worker b e h = rw (e, h) refl

pub next_goes_on : (further line worker : ℕ) (b : BookView) → is_full b ≡ false → goes_on further
    (steps_within line worker b) ≡ true
    → next_within (further - 1) line worker (with_step b (label_at worker Next)) ≡ next_within further line worker b
unfolding next_within
next_goes_on zero line worker b e h = cc
next_goes_on (suc n) line worker b e h = let same : suc n - 1 ≡ n = omega arith in rw (same, e, h) refl

-- `back`

pub back_full : (further line worker : ℕ) (b : BookView) → is_full b ≡ true → back_within further line worker b ≡ full b
unfolding back_within
back_full zero line worker b e = rw e refl
back_full (suc n) line worker b e = rw e refl

abbrev undone_once : ℕ → BookView → Said
undone_once worker b = record {
  text = undo_text b.start.program worker (undo_reply_of (machine_of b) worker);
  book = with_debugger_call b (call.Undo worker);
}

pub back_stops : (further line worker : ℕ) (b : BookView) → is_full b ≡ false → goes_on further
    (undoes_within line worker b) ≡ false
    → back_within further line worker b ≡ undone_once worker b
unfolding back_within
back_stops zero line worker b e h = rw e refl
back_stops (suc n) line worker b e h = rw (e, h) refl

pub back_goes_on : (further line worker : ℕ) (b : BookView) → is_full b ≡ false → goes_on further
    (undoes_within line worker b) ≡ true
    → back_within (further - 1) line worker (with_debugger_call b (call.Undo worker)) ≡ back_within further line worker b
unfolding back_within
back_goes_on zero line worker b e h = cc
back_goes_on (suc n) line worker b e h = let same : suc n - 1 ≡ n = omega arith in rw (same, e, h) refl

-- `run`

pub no_worker_left : (m : MachineView) (last : ℕ) → last ≤ 0 → move_among m last ≡ None
unfolding move_among
no_worker_left m zero p = refl
no_worker_left m (suc n) p = absurd (omega (arith, p))

pub worker_moves : (m : MachineView) (last : ℕ) (choice : Choice) → 0 < last → move_of m (m.workers - last)
    ≡ Some choice
    → move_among m last ≡ Some (label_at (m.workers - last) choice)
unfolding move_among
worker_moves m zero choice p e = absurd (omega (arith, p))
worker_moves m (suc n) choice p e = rw e refl

pub worker_rests : (m : MachineView) (last : ℕ) → 0 < last → move_of m (m.workers - last) ≡ None
    → move_among m (last - 1) ≡ move_among m last
unfolding move_among
worker_rests m zero p e = absurd (omega (arith, p))
worker_rests m (suc n) p e = let same : suc n - 1 ≡ n = omega arith in rw (same, e) refl

pub run_ends : (left made : ℕ) (marks : Marks) (b : BookView) → left ≤ 0 → run_within left made marks b
    ≡ ran b made stop.Limit
unfolding run_within
run_ends zero made marks b p = refl
run_ends (suc n) made marks b p = absurd (omega (arith, p))

pub run_came : (left made : ℕ) (marks : Marks) (b : BookView) (came : Moved) → 0 < left → moved_of marks b ≡ came
    → run_within left made marks b ≡ said_by came made (after_move b) (run_within (left - 1) (made + 1) marks
    (after_move b))
unfolding run_within
run_came zero made marks b came p e = absurd (omega (arith, p))
run_came (suc n) made marks b came p e =
    let same : suc n - 1 ≡ n = omega arith in
    rw same (ap (λ m. said_by m made (after_move b) (run_within n (made + 1) marks (after_move b))) e)

pub start_here : (m : MachineView) (worker : ℕ) (name : List ℕ) (names : List (List ℕ)) → can_step m worker
    (Start name) ≡ true
    → start_among m worker (name ∷ names) ≡ Some (Start name)
start_here m worker name names e = rw e refl

pub start_behind : (m : MachineView) (worker : ℕ) (name : List ℕ) (names : List (List ℕ)) → can_step m worker
    (Start name) ≡ false
    → start_among m worker (name ∷ names) ≡ start_among m worker names
start_behind m worker name names e = rw e refl

pub some_same : {A : Type 0} (a b : A) → Some a ≡ Some b → a ≡ b
some_same a b e = cc

some_none : {A : Type 0} (a : A) → Some a ≡ None → ⊥
some_none a e = cc

-- what is told in a reply of a kind

pub same_undo : (x y : UndoReply) → reply.Undo x ≡ reply.Undo y → x ≡ y
same_undo x y e = cc

pub same_roll : (x y : RollReply) → reply.Roll x ≡ reply.Roll y → x ≡ y
same_roll x y e = cc

pub same_value : (x y : Val) → reply.Value x ≡ reply.Value y → x ≡ y
same_value x y e = cc

pub same_names : (x y : List (List ℕ)) → reply.Ready x ≡ reply.Ready y → x ≡ y
same_names x y e = cc

pub same_entries : (x y : List Entry) → reply.Entries x ≡ reply.Entries y → x ≡ y
same_entries x y e = cc

-- planned steps

same_made : (x : StepReply) → is_made x ≡ is_step_made (reply.Step x)
same_made (stepped.Done serial line fault) = refl
same_made (stepped.Blocked b) = refl
same_made stepped.Ended = refl

-- a planned step is possible where the worker can make it
pub can_be_made : (m : MachineView) (worker : ℕ) (choice : Choice) (p : PlannedView) (can : Bool)
    → p ≡ planned_at m (label_at worker choice)
    → can ≡ is_made (reply_to_step (rules_for p.machine) p.machine.history p.label) → can ≡ can_step m worker choice
can_be_made m worker choice p can e is =
    is
    ∙ ap (λ (v : PlannedView). is_made (reply_to_step (rules_for v.machine) v.machine.history v.label)) e
    ∙ same_made (step_reply m (label_at worker choice))

pub planned_here : (m : MachineView) (worker : ℕ) (choice : Choice) (p : PlannedView)
    → p ≡ planned_at m (label_at worker choice) → can_step m worker choice ≡ true
    → Some p ≡ planned_if m (can_step m worker choice) (label_at worker choice)
planned_here m worker choice p e can = rw can (ap Some e)

pub planned_not : (m : MachineView) (worker : ℕ) (choice : Choice) → can_step m worker choice ≡ false
    → None ≡ planned_if m (can_step m worker choice) (label_at worker choice)
planned_not m worker choice cannot = rw cannot refl

some_if : (m : MachineView) (can : Bool) (label : Label) (p : PlannedView) → Some p ≡ planned_if m can label
    → can ≡ true
some_if m true label p e = refl
some_if m false label p e = cc

none_if : (m : MachineView) (can : Bool) (label : Label) → None ≡ planned_if m can label → can ≡ false
none_if m true label e = cc
none_if m false label e = refl

-- what is planned says whether it can be made
pub can_where_planned : (m : MachineView) (worker : ℕ) (choice : Choice) (o : Option PlannedView) (p : PlannedView)
    → o ≡ Some p → o ≡ planned_if m (can_step m worker choice) (label_at worker choice)
    → can_step m worker choice ≡ true
can_where_planned m worker choice o p some is = some_if m (can_step m worker choice) (label_at worker choice) p
    (sym some ∙ is)

pub cannot_where_none : (m : MachineView) (worker : ℕ) (choice : Choice) (o : Option PlannedView)
    → o ≡ None → o ≡ planned_if m (can_step m worker choice) (label_at worker choice)
    → can_step m worker choice ≡ false
cannot_where_none m worker choice o none is = none_if m (can_step m worker choice) (label_at worker choice)
    (sym none ∙ is)

-- and which step it is
pub planned_is : (m : MachineView) (worker : ℕ) (choice : Choice) (o : Option PlannedView) (p : PlannedView)
    → o ≡ Some p → o ≡ planned_if m (can_step m worker choice) (label_at worker choice)
    → Some p ≡ planned_for m worker (Some choice)
planned_is m worker choice o p some is =
    sym some ∙ is
    ∙ ap (λ b. planned_if m b (label_at worker choice)) (can_where_planned m worker choice o p some is)

-- a move that is planned for a worker, or that there is none

pub some_move : (m : MachineView) (worker : ℕ) (choice : Option Choice) (p : PlannedView)
    → Some p ≡ planned_for m worker choice → (c : Choice) × (choice ≡ Some c) × (p ≡ planned_at m (label_at worker c))
some_move m worker (Some c) p e = (c, refl, some_same p (planned_at m (label_at worker c)) e)
some_move m worker None p e = absurd (some_none p e)

pub none_move : (m : MachineView) (worker : ℕ) (choice : Option Choice) → None ≡ planned_for m worker choice
    → choice ≡ None
none_move m worker (Some c) e = cc
none_move m worker None e = refl

-- a move that is planned among workers is the step of its label

pub planned_label : (m : MachineView) (o : Option Label) (p : PlannedView) → Some p ≡ planned_move m o
    → (o ≡ Some p.label) × (p.machine ≡ m)
planned_label m (Some label) p e =
    let is : p ≡ planned_at m label = some_same p (planned_at m label) e in (
      ap (λ (v : PlannedView). Some v.label) (sym is),
      ap (λ (v : PlannedView). v.machine) is,
    )
planned_label m None p e = absurd (some_none p e)

pub no_label : (m : MachineView) (o : Option Label) → None ≡ planned_move m o → o ≡ None
no_label m (Some label) e = cc
no_label m None e = refl

-- a worker that is at no scheduling point can begin no task

abbrev is_at_point : MachineView → ℕ → Bool
is_at_point m worker = is_at_scheduling_point m.program (control_in (state_in m (object.Control worker)))

not_done : (o : Outcome) (serial line : ℕ) (at : Bool) → at ≡ false → ((us : List Update) → o ≡ outcome.Updates us
    → at ≡ true)
    → is_step_made (reply.Step (reply_for serial line o)) ≡ false
not_done (outcome.Updates us) serial line at elsewhere h = sym (h us refl) ∙ elsewhere
not_done (outcome.Blocked b) serial line at elsewhere h = refl
not_done outcome.Ended serial line at elsewhere h = refl

pub no_start : StartsAtSchedulingPoints → (m : MachineView) (worker : ℕ) (names : List (List ℕ)) → is_at_point m worker
    ≡ false → start_among m worker names ≡ None
no_start law m worker [] elsewhere = refl
no_start law m worker (name ∷ names) elsewhere =
    start_behind m worker name names (not_done _ _ _ (is_at_point m worker) elsewhere
    (law m.program m.workers worker name (state_in m)))
    ∙ no_start law m worker names elsewhere

-- a question leaves the machine as it was
pub looked_same : (b : BookView) (q : Query) → machine_of (with_debugger_call b (call.Look q)) ≡ machine_of b
looked_same b q = left_by-snoc b.start b.journal _

-- the records of a free run

abbrev pub call_of : JournalRecord → SeatCall
call_of r = record { seat = r.seat; command = r.command }

-- legal records are those of their calls
pub legal_records : (m : MachineView) (rs : List JournalRecord) → IsLegal m rs → rs ≡ records_by m (map call_of rs)
legal_records m [] h = refl
legal_records m (r ∷ rs) h =
    ap (λ x. record { seat = r.seat; command = r.command; reply = x } ∷ rs) h.0
    ∙ ap (λ more. record r { reply = reply_to m r.command } ∷ more) (legal_records (after m r.command) rs h.1)

-- records of own calls
pub own_calls : (rs : List JournalRecord) → AreOwnCalls rs → AreOwn (map call_of rs)
own_calls [] h = tt
own_calls (r ∷ rs) h = (h.0, own_calls rs h.1)

-- lists, an item at a time

drop_here : {A : Type 0} (xs : List A) (k : ℕ) (x : A) → k < length xs → x ≡ get_or xs k x → drop k xs ≡ x
    ∷ drop (suc k) xs
drop_here [] k x within is = absurd (omega (arith, within))
drop_here (y ∷ ys) zero x within is = ap (λ v. v ∷ ys) (sym is)
drop_here (y ∷ ys) (suc n) x within is = drop_here ys n x (omega (arith, within)) is

pub drop_next : {A : Type 0} (xs : List A) (k : ℕ) (x : A) → k < length xs → x ≡ get_or xs k x → drop k xs ≡ x
    ∷ drop (k + 1) xs
drop_next xs k x within is =
    let one_more : suc k ≡ k + 1 = omega arith in
    drop_here xs k x within is ∙ ap (λ n. x ∷ drop n xs) one_more

pub joined_next : {A : Type 0} (text : A → List ℕ) (now more all : List ℕ) (xs : List A) (k : ℕ) (x : A)
    → k < length xs → x ≡ get_or xs k x
    → now ++ joined text (drop k xs) ≡ all → more ≡ now ++ text x → more ++ joined text (drop (k + 1) xs) ≡ all
joined_next text now more all xs k x within is h added =
    ap (λ t. t ++ joined text (drop (k + 1) xs)) added ∙ append_assoc now (text x) (joined text (drop (k + 1) xs))
    ∙ ap (λ l. now ++ joined text l) (sym (drop_next xs k x within is)) ∙ h

-- a step that stands alone is one line
pub one_line : (now more : List ℕ) (got entry : Entry) → got ≡ entry → more ≡ now ++ history_text (got ∷ [])
    → more ≡ now ++ entry_line entry
one_line now more got entry same said =
    said
    ∙ ap (λ x. now ++ history_text (x ∷ [])) same
    ∙ ap (λ l. now ++ l) (append-nil (entry_line entry))
