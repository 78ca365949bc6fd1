-- The other rows lack something for their reasons alone.
use Rattle.std.proofs.Common.{◌≡◌, inl, inr, refl, ℕ, zero, suc, ◌+◌, ◌-◌, ℤ, pos, negsuc, Bool, true, false}
use Rattle.std.proofs.Common.{if◌then◌else◌, List, [], ◌∷◌, Option, None, Some, length}
use Rattle.std.specs.Ordering.{int_eq}
use Rattle.std.specs.Prelude.{◌≢◌, Result, Ok, Err, slice_get, nat_lt, nat_le, nat_eq}
use Rattle.om_foot.specs.declared.footprint.Access.{Access}
use Rattle.om_code.specs.declared.frame.Cell as cells
use Rattle.om_code.specs.declared.frame.Cell.TheVariants as cell
use Rattle.om_code.specs.declared.frame.Fault.{Fault}
use Rattle.om_code.specs.declared.frame.Operand.{Operand}
use Rattle.om_code.specs.declared.instruction.Barrier.{Barrier}
use Rattle.om_code.specs.declared.instruction.LoopForm.{LoopForm}
use Rattle.om_code.specs.declared.instruction.Place.{Place}
use Rattle.om_code.specs.declared.instruction.Reduction.{Reduction}
use Rattle.om_code.specs.declared.instruction.Schedule.{Schedule}
use Rattle.om_code.specs.declared.instruction.Schedule.TheVariants as schedule
use Rattle.om_code.specs.declared.raw.Body.{Body}
use Rattle.om_code.specs.declared.raw.Slot.{Slot}
use Rattle.om_code.specs.Arithmetic.{combine}
use Rattle.om_code.specs.Printing.{ints_on}
use Rattle.om_events.specs.declared.kind.TaskStatus as statuses
use Rattle.om_state.specs.declared.control.Construct.{Construct}
use Rattle.om_state.specs.declared.control.Construct.TheVariants as construct
use Rattle.om_state.specs.declared.control.Context.{Context}
use Rattle.om_state.specs.declared.control.Frame.{Frame}
use Rattle.om_state.specs.declared.control.Kind.{Kind}
use Rattle.om_state.specs.declared.control.Kind.TheVariants as kind
use Rattle.om_state.specs.declared.control.Share.{Share}
use Rattle.om_state.specs.declared.control.Stack.{Stack}
use Rattle.om_state.specs.declared.value.Ready.{Ready}
use Rattle.om_state.specs.declared.value.Val.{Val}
use Rattle.om_state.specs.Values.{cell_in, number_in, count_in, holder_in, task_in}
use Rattle.om_state.specs.OpenShares.{is_loop}
use Rattle.om_team_serial.specs.declared.row.Launch.{Launch}
use Rattle.om_team_serial.specs.declared.row.Row.{Row}
use Rattle.om_team_serial.specs.Rows.{Asked, first_of, rest_of}
use Rattle.om_team_serial.specs.Objects.{own_cells, homes_in, is_misplaced}
use Rattle.om_team_serial.specs.SerialRows.{call_row, return_row, put_combined, reduced, reduce_row}
use Rattle.om_team_worksharing.specs.Barriers.{is_open}
use Rattle.om_team_serial.specs.Begins.{first_frame}
use Rattle.om_team.specs.Teams.{first_busy}
use Rattle.om_team.specs.Rows.{forked, team_of, named_row, sized_row, fork_row}
use Rattle.om_team_worksharing.specs.Rows.{is_misplaced_barrier, arrive_row, departed, depart_row, left, leave_row}
use Rattle.om_team_worksharing.specs.declared.chunk.Chunk.{Chunk}
use Rattle.om_team_worksharing.specs.Chunks.{static_chunk, chunk_within}
use Rattle.om_team_worksharing.specs.Rows.{open_row, loop_row, sections_row, taken_row, given_row as chunk_given_row, static_row}
use Rattle.om_team_worksharing.specs.Rows.{chunk_row, grab_row, iteration_row, iterate_row, section_row}
use Rattle.om_team_worksharing.specs.Rows.{is_section, is_masked, is_critical, is_right_form, pick_row}
use Rattle.om_team_worksharing.specs.Rows.{chosen_row, single_row, end_worksharing_row, filtered_row, masked_row, end_masked_row}
use Rattle.om_team_worksharing.specs.Rows.{lock_row, enter_critical_row, leave_critical_row}
use Rattle.om_task.specs.declared.task_start.Starting.{Starting}
use Rattle.om_task.specs.declared.task.Making.{Making}
use Rattle.om_team_serial.specs.Rows.{is_zero}
use Rattle.om_task.specs.Tasks.{born}
use Rattle.om_task.specs.Rows.{made_row, given_row, spawn_row, ended_row, end_row_of, task_end_row, waited}
use Rattle.om_task.specs.Rows.{wait_end_row, opened_row, group_begin_row, closed, closed_row}
use Rattle.om_team_serial.specs.Ends.{finished, finished_row}
use Rattle.om_task.specs.Rows.{ready_for, started, started_row, start_row}
use Rattle.om_soundness.specs.Reasons.{is_in_loop, HasNoSection, is_worksharing}
use Rattle.om_soundness.proofs.Reasons.{Only}

module _ (reason : Type 0) where
  only_if : (b : Bool) (x y : Asked) (values : List Val) → (b ≡ true → Only reason (x.row values))
      → (b ≡ false → Only reason (y.row values)) → Only reason ((if b then x else y).row values)
  only_if true x y values h k = h refl
  only_if false x y values h k = k refl

  only_row : (b : Bool) (x y : Row) → Only reason x → (b ≡ false → Only reason y) → Only reason (if b then x else y)
  only_row true x y h k = h
  only_row false x y h k = k refl

  -- ---- calls, returns and reductions

  pub call_only : (launch : Launch) (body : Body) (c : Context) (ints : Option (List ℤ)) (values : List Val)
      → (ints ≡ None → reason) → Only reason ((call_row launch body c ints).row values)
  call_only launch body c None values n = n refl
  call_only launch body c (Some ns) values n = only_if (nat_le 999 (length c.callers)) _ _ values (λ e. tt) (λ e. tt)

  pub return_only : (c : Context) (slots : List Slot) (callers : List Frame) (v : Option Operand) (values : List Val)
      → (v ≡ None → reason) → (callers ≡ [] → reason) → Only reason ((return_row c slots callers v).row values)
  return_only c slots callers None values n m = n refl
  return_only c slots [] (Some v) values n m = m refl
  return_only c slots (f ∷ callers) (Some v) values n m = tt

  put_combined_only : (to : ℕ) (r : Result ℤ Fault) → Only reason (put_combined to r)
  put_combined_only to (Ok x) = tt
  put_combined_only to (Err f) = tt

  reduced_only : (to : ℕ) (r : Reduction) (copy original : cells.Cell) → Only reason (reduced to r copy original)
  reduced_only to r cell.Dead original = tt
  reduced_only to r cell.Unset cell.Dead = tt
  reduced_only to r cell.Unset cell.Unset = tt
  reduced_only to r cell.Unset (cell.Int x) = tt
  reduced_only to r (cell.Int copy) cell.Dead = tt
  reduced_only to r (cell.Int copy) cell.Unset = tt
  reduced_only to r (cell.Int copy) (cell.Int original) = put_combined_only to (combine r original copy)

  pub reduce_only : (c : Context) (r : Reduction) (copy : ℕ) (p : Place) (values : List Val)
      → Only reason ((reduce_row c r copy p).row values)
  reduce_only c r copy p values =
      reduced_only (c.frame.next + 1) r (cell_in (first_of values)) (cell_in (first_of (rest_of values)))

  -- ---- parallel regions and barriers

  forked_only : (launch : Launch) (name : List ℕ) (worker workers : ℕ) (c : Context) (asked : Option ℕ)
      (frame : Frame) (ns : List ℤ) (busy : Option ℕ)
      → Only reason (forked launch name (team_of workers c asked) frame ns busy)
  forked_only launch name worker workers c asked frame ns (Some w) = tt
  forked_only launch name worker workers c asked frame ns None = tt

  named_only : (worker workers : ℕ) (launch : Launch) (body : Body) (c : Context) (asked : Option ℕ) (ns : List ℤ)
      (values : List Val) → Only reason ((named_row worker workers launch body c asked ns).row values)
  named_only worker workers launch body c asked ns values = only_if (nat_lt 62 (length c.task)) _ _ values (λ e. tt)
      (λ e. forked_only launch c.task worker workers c asked (first_frame launch.body (homes_in c body.slots)) ns
      (first_busy 1 ((team_of workers c asked).size - 1) values))

  sized_only : (worker workers : ℕ) (launch : Launch) (body : Body) (c : Context) (size : Option ℤ) (ns : List ℤ)
      (values : List Val) → (size ≡ None → reason)
      → Only reason ((sized_row worker workers launch body c size ns).row values)
  sized_only worker workers launch body c None ns values n = n refl
  sized_only worker workers launch body c (Some (pos zero)) ns values n = tt
  sized_only worker workers launch body c (Some (pos (suc k))) ns values n =
      named_only worker workers launch body c (Some (suc k)) ns values
  sized_only worker workers launch body c (Some (negsuc k)) ns values n = tt

  pub fork_only : (worker workers : ℕ) (launch : Launch) (body : Body) (c : Context) (sized : Bool) (size : Option ℤ)
      (ints : Option (List ℤ)) (values : List Val) → (ints ≡ None → reason) → (sized ≡ true → size ≡ None → reason)
      → Only reason ((fork_row worker workers launch body c sized size ints).row values)
  fork_only worker workers launch body c sized size None values n m = n refl
  fork_only worker workers launch body c false size (Some ns) values n m =
      named_only worker workers launch body c None ns values
  fork_only worker workers launch body c true size (Some ns) values n m =
      sized_only worker workers launch body c size ns values (m refl)

  pub arrive_only : (worker to : ℕ) (b : Barrier) (c : Context) (values : List Val)
      → Only reason ((arrive_row worker to b c).row values)
  arrive_only worker to b c values = only_if (is_misplaced_barrier b c) _ _ values (λ e. tt) (λ e. tt)

  departed_only : (to : ℕ) (b : Barrier) (c : Context) (opens : Bool) → Only reason (departed to b c opens)
  departed_only to b c false = tt
  departed_only to b c true = tt

  pub depart_only : (worker to : ℕ) (b : Barrier) (c : Context) (values : List Val)
      → Only reason ((depart_row worker to b c).row values)
  depart_only worker to b c values = departed_only to b c (is_open c.phase c.team.size values)

  left_only : (c : Context) (below : List Context) (own : List Access) (opens : Bool)
      → Only reason (left c below own opens)
  left_only c below own false = tt
  left_only c below own true = tt

  pub leave_only : (worker : ℕ) (c : Context) (below : List Context) (slots : List Slot) (k : Kind) (number : ℕ)
      (values : List Val) → ((k ≢ kind.Implicit) → reason) → (below ≡ [] → reason)
      → Only reason ((leave_row worker c below slots k number).row values)
  leave_only worker c below slots kind.Initial number values n m = n (λ e. cc)
  leave_only worker c below slots kind.Explicit number values n m = n (λ e. cc)
  leave_only worker c [] slots kind.Implicit zero values n m = m refl
  leave_only worker c [] slots kind.Implicit (suc k) values n m =
      left_only c [] (own_cells c slots) (is_open c.phase c.team.size values)
  leave_only worker c (b ∷ below) slots kind.Implicit zero values n m =
      left_only c (b ∷ below) (own_cells c slots) (is_open c.phase c.team.size values)
  leave_only worker c (b ∷ below) slots kind.Implicit (suc k) values n m =
      left_only c (b ∷ below) (own_cells c slots) (is_open c.phase c.team.size values)

  -- ---- worksharing, masked and critical regions

  open_only : (worker to takes : ℕ) (c : Context) (share : Share) (values : List Val)
      → Only reason ((open_row worker to takes c share).row values)
  open_only worker to takes c share values = only_if (is_misplaced c) _ _ values (λ e. tt) (λ e. tt)

  pub loop_only : (worker to : ℕ) (c : Context) (form : LoopForm) (lower upper : Option ℤ) (values : List Val)
      → (lower ≡ None → reason) → (upper ≡ None → reason) → (is_right_form form ≡ false → reason)
      → Only reason ((loop_row worker to c form lower upper).row values)
  loop_only worker to c form (Some lower) (Some upper) values n m k =
      only_if (is_right_form form) _ _ values (λ e. open_only worker to 2 c _ values) k
  loop_only worker to c form (Some lower) None values n m k = m refl
  loop_only worker to c form None upper values n m k = n refl

  pub sections_only : (worker to : ℕ) (c : Context) (count : ℕ) (values : List Val)
      → Only reason ((sections_row worker to c count).row values)
  sections_only worker to c count values = open_only worker to 0 c _ values

  taken_only : (to otherwise : ℕ) (share : Share) (chunk : Option Chunk)
      → Only reason (taken_row to otherwise share chunk)
  taken_only to otherwise share (Some chunk) = tt
  taken_only to otherwise share None = tt

  given_only : (to otherwise : ℕ) (share : Share) (chunk : Option Chunk)
      → Only reason (chunk_given_row to otherwise share chunk)
  given_only to otherwise share (Some chunk) = tt
  given_only to otherwise share None = tt

  static_only : (to otherwise : ℕ) (c : Context) (share : Share) (size : Option ℕ) (values : List Val)
      → Only reason ((static_row to otherwise c share size).row values)
  static_only to otherwise c share size values =
      taken_only to otherwise share (static_chunk size share.count c.team.size c.team.number share.taken)

  chunk_only : (to otherwise : ℕ) (c : Context) (share : Share) (s : Schedule) (values : List Val)
      → Only reason ((chunk_row to otherwise c share s).row values)
  chunk_only to otherwise c share schedule.Static values = static_only to otherwise c share None values
  chunk_only to otherwise c share (schedule.StaticChunk size) values =
      static_only to otherwise c share (Some size) values
  chunk_only to otherwise c share (schedule.Dynamic size) values =
      given_only to otherwise share (chunk_within share.count (number_in (first_of values)) size)

  pub grab_only : (to otherwise : ℕ) (c : Context) (share : Option Share) (values : List Val)
      → (share ≡ None → reason) → Only reason ((grab_row to otherwise c share).row values)
  grab_only to otherwise c (Some share) values n = chunk_only to otherwise c share share.schedule values
  grab_only to otherwise c None values n = n refl

  iteration_only : (to otherwise : ℕ) (c : Context) (slot : ℕ) (share : Share) (values : List Val)
      → Only reason ((iteration_row to otherwise c slot share).row values)
  iteration_only to otherwise c slot share values =
      only_if (nat_lt share.next share.end) _ _ values (λ e. tt) (λ e. tt)

  section_only : (to : Option ℕ) → (to ≡ None → reason) → Only reason (section_row to)
  section_only (Some to) h = tt
  section_only None h = h refl

  chosen_only : (to otherwise : ℕ) (c : Context) (first : Bool) → Only reason (chosen_row to otherwise c first)
  chosen_only to otherwise c true = tt
  chosen_only to otherwise c false = tt

  pub single_only : (worker to otherwise : ℕ) (c : Context) (values : List Val)
      → Only reason ((single_row worker to otherwise c).row values)
  single_only worker to otherwise c values =
      only_if (is_misplaced c) _ _ values (λ e. tt)
      (λ e. chosen_only to otherwise c (nat_eq (number_in (first_of values)) 0))

  filtered_only : (worker to otherwise : ℕ) (c : Context) (own : Bool) (values : List Val)
      → Only reason ((filtered_row worker to otherwise c own).row values)
  filtered_only worker to otherwise c true values = tt
  filtered_only worker to otherwise c false values = tt

  pub masked_only : (worker to otherwise : ℕ) (c : Context) (number : Option ℤ) (values : List Val)
      → (number ≡ None → reason) → Only reason ((masked_row worker to otherwise c number).row values)
  masked_only worker to otherwise c (Some number) values n =
      filtered_only worker to otherwise c (int_eq number (pos c.team.number)) values
  masked_only worker to otherwise c None values n = n refl

  pub end_masked_only : (worker to : ℕ) (c : Context) (region : Option Construct) (values : List Val)
      → (is_masked region ≡ false → reason) → Only reason ((end_masked_row worker to c region).row values)
  end_masked_only worker to c region values n = only_if (is_masked region) _ _ values (λ e. tt) n

  lock_only : (worker to number : ℕ) (lock : List ℕ) (holder : Option ℕ)
      → Only reason (lock_row worker to number lock holder)
  lock_only worker to number lock None = tt
  lock_only worker to number lock (Some holder) = tt

  pub enter_critical_only : (worker to number : ℕ) (lock : List ℕ) (values : List Val)
      → Only reason ((enter_critical_row worker to number lock).row values)
  enter_critical_only worker to number lock values = lock_only worker to number lock (holder_in (first_of values))

  pub leave_critical_only : (worker to number : ℕ) (lock : List ℕ) (region : Option Construct) (values : List Val)
      → (is_critical number region ≡ false → reason)
      → Only reason ((leave_critical_row worker to number lock region).row values)
  leave_critical_only worker to number lock region values n = only_if (is_critical number region) _ _ values (λ e. tt) n

  -- ---- tasks, task groups and the end of the program

  made_only : (m : Making) (body : Body) (c : Context) (ns : List ℤ) (new : Option (List ℕ)) (values : List Val)
      → Only reason ((made_row m body c ns new).row values)
  made_only m body c ns None values = tt
  made_only m body c ns (Some new) values = tt

  given_ints_only : (m : Making) (body : Body) (c : Context) (ints : Option (List ℤ)) (values : List Val)
      → (ints ≡ None → reason) → Only reason ((given_row m body c ints).row values)
  given_ints_only m body c None values n = n refl
  given_ints_only m body c (Some ns) values n = made_only m body c ns (born c) values

  pub spawn_only : (m : Making) (body : Body) (c : Context) (values : List Val)
      → (ints_on m.launch.takes c.frame.operands ≡ None → reason) → Only reason ((spawn_row m body c).row values)
  spawn_only m body c values n = given_ints_only m body c (ints_on m.launch.takes c.frame.operands) values n

  ended_only : (worker : ℕ) (c : Context) (below : List Context) (own : List Access) (values : List Val)
      → (below ≡ [] → reason) → Only reason ((ended_row worker c below own).row values)
  ended_only worker c [] own values n = n refl
  ended_only worker c (b ∷ below) own values n = tt

  end_only : (worker : ℕ) (s : Stack) (slots : List Slot) (k : Kind) (values : List Val)
      → ((k ≢ kind.Explicit) → reason) → (s.below ≡ [] → reason)
      → Only reason ((end_row_of worker s slots k).row values)
  end_only worker s slots kind.Initial values h n = h (λ e. cc)
  end_only worker s slots kind.Implicit values h n = h (λ e. cc)
  end_only worker s slots kind.Explicit values h n =
      ended_only worker s.top s.below (own_cells s.top slots) values n

  pub task_end_only : (worker : ℕ) (s : Stack) (slots : List Slot) (values : List Val)
      → ((s.top.kind ≢ kind.Explicit) → reason) → (s.below ≡ [] → reason)
      → Only reason ((task_end_row worker s slots).row values)
  task_end_only worker s slots values h n = end_only worker s slots s.top.kind values h n

  waited_only : (to : ℕ) (c : Context) (over : Bool) → Only reason (waited to c over)
  waited_only to c true = tt
  waited_only to c false = tt

  pub wait_end_only : (worker to : ℕ) (c : Context) (values : List Val)
      → Only reason ((wait_end_row worker to c).row values)
  wait_end_only worker to c values = waited_only to c (is_zero (count_in (first_of values)))

  opened_only : (worker to : ℕ) (c : Context) (group : Option (List ℕ)) (values : List Val)
      → Only reason ((opened_row worker to c group).row values)
  opened_only worker to c None values = tt
  opened_only worker to c (Some group) values = tt

  pub group_begin_only : (worker to : ℕ) (c : Context) (values : List Val)
      → Only reason ((group_begin_row worker to c).row values)
  group_begin_only worker to c values = opened_only worker to c (born c) values

  closed_only : (to : ℕ) (c : Context) (over : Bool) → Only reason (closed to c over)
  closed_only to c true = tt
  closed_only to c false = tt

  pub group_end_only : (worker to : ℕ) (c : Context) (group : Option (List ℕ)) (values : List Val)
      → (group ≡ None → reason) → Only reason ((closed_row worker to c group).row values)
  group_end_only worker to c None values n = n refl
  group_end_only worker to c (Some group) values n = closed_only to c (is_zero (count_in (first_of values)))

  finished_only : (c : Context) (x : ℤ) (over : Bool) → Only reason (finished c x over)
  finished_only c x true = tt
  finished_only c x false = tt

  pub finish_only : (worker : ℕ) (c : Context) (k : Kind) (v : Option ℤ) (values : List Val)
      → ((k ≢ kind.Initial) → reason) → (v ≡ None → reason) → Only reason ((finished_row worker c k v).row values)
  finish_only worker c kind.Implicit v values h n = h (λ e. cc)
  finish_only worker c kind.Explicit v values h n = h (λ e. cc)
  finish_only worker c kind.Initial None values h n = n refl
  finish_only worker c kind.Initial (Some x) values h n = finished_only c x (is_zero (count_in (first_of values)))

  started_only : (worker : ℕ) (name : List ℕ) (c : Context) (s : statuses.TaskStatus) (r : Option Ready)
      → Only reason (started worker name c s r)
  started_only worker name c s None = tt
  started_only worker name c s (Some ready) = tt

  started_row_only : (worker : ℕ) (name : List ℕ) (c : Context) (admits : Bool) (s : Option statuses.TaskStatus)
      (values : List Val) → Only reason ((started_row worker name c admits s).row values)
  started_row_only worker name c admits None values = tt
  started_row_only worker name c false (Some s) values = tt
  started_row_only worker name c true (Some s) values =
      started_only worker name c s (ready_for c.team.name (task_in (first_of values)))

  pub start_only : (s : Starting) (name : List ℕ) (c : Context) (values : List Val)
      → Only reason ((start_row s name c).row values)
  start_only s name c values = started_row_only s.worker name c s.admits s.status values

-- ---- rows whose reason is one of the region

pub iterate_only : (to otherwise : ℕ) (c : Context) (slot : ℕ) (share : Option Share) (values : List Val)
    → Only (is_in_loop share ≡ false) ((iterate_row to otherwise c slot share).row values)
iterate_only to otherwise c slot (Some share) values =
    only_if (is_loop share.sharing ≡ false) (is_loop share.sharing) _ _ values
    (λ loops. iteration_only (is_loop share.sharing ≡ false) to otherwise c slot share values) (λ e. e)
iterate_only to otherwise c slot None values = refl

pub pick_only : (targets : List ℕ) (share : Option Share) (values : List Val)
    → Only (HasNoSection targets share) ((pick_row targets share).row values)
pick_only targets (Some share) values =
    only_row (HasNoSection targets (Some share)) (is_section share) _ _
    (section_only (HasNoSection targets (Some share)) (slice_get targets share.next) inr) inl
pick_only targets None values = tt

pub end_worksharing_only : (worker to : ℕ) (c : Context) (region : Option Construct) (values : List Val)
    → Only (is_worksharing region ≡ false) ((end_worksharing_row worker to c region).row values)
end_worksharing_only worker to c (Some (construct.Share share)) values = tt
end_worksharing_only worker to c (Some (construct.Single runs)) values = tt
end_worksharing_only worker to c (Some construct.Masked) values = refl
end_worksharing_only worker to c (Some (construct.Critical lock)) values = refl
end_worksharing_only worker to c (Some (construct.Group name)) values = refl
end_worksharing_only worker to c None values = refl
