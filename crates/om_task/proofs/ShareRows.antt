-- The rows of worksharing, masked and critical regions keep to their bounds.
use Rattle.std.proofs.Common.{refl, ℕ, ◌≤◌, ℤ, Bool, true, false, arith, List, [], ◌∷◌, Option, None, Some}
use Rattle.std.specs.Prelude.{slice_get, nat_lt, nat_eq}
use Rattle.std.specs.Ordering.{int_eq}
use Rattle.std.specs.Prelude.{pos}
use Rattle.om_code.specs.declared.frame.Fault.TheVariants as fault
use Rattle.om_code.specs.declared.instruction.LoopForm.{LoopForm}
use Rattle.om_code.specs.declared.instruction.Schedule.{Schedule}
use Rattle.om_code.specs.declared.instruction.Schedule.TheVariants as schedule
use Rattle.om_events.specs.declared.event.Record.{Record}
use Rattle.om_state.specs.declared.control.Context.{Context}
use Rattle.om_state.specs.declared.control.Construct.{Construct}
use Rattle.om_state.specs.declared.control.Construct.TheVariants as construct
use Rattle.om_state.specs.declared.control.Share.{Share}
use Rattle.om_state.specs.declared.control.Edit.{Edit}
use Rattle.om_state.specs.declared.control.Edit.TheVariants.{Go, Open, Close}
use Rattle.om_state.specs.declared.value.Val.{Val}
use Rattle.om_state.specs.OpenShares.{is_loop, value_of}
use Rattle.om_state.specs.Values.{number_in, holder_in}
use Rattle.om_team_serial.specs.declared.row.Row.TheVariants.{Faults}
use Rattle.om_team_serial.specs.Rows.{goes, first_of}
use Rattle.om_team_serial.specs.Objects.{is_misplaced}
use Rattle.om_team_worksharing.specs.declared.chunk.Chunk.{Chunk}
use Rattle.om_team_worksharing.specs.Chunks.{static_chunk, chunk_within}
use Rattle.om_team_worksharing.specs.Rows.{edits, begun, recorded, open_row, loop_row, loop_of, sections_row, taken_row, given_row}
use Rattle.om_team_worksharing.specs.Rows.{static_row, dynamic_row, chunk_row, grab_row, value_row, iteration_row}
use Rattle.om_team_worksharing.specs.Rows.{iterate_row, section_row, is_section, is_masked, is_critical}
use Rattle.om_team_worksharing.specs.Rows.{is_right_form, pick_row, chosen_row, single_row, end_worksharing_row, filtered_row}
use Rattle.om_team_worksharing.specs.Rows.{masked_row, end_masked_row, ask_critical_row, lock_row, enter_critical_row}
use Rattle.om_team_worksharing.specs.Rows.{leave_critical_row}
use Rattle.om_task.proofs.Bounds.{counts, BeginWithin, RowWithin, AskedWithin}
use Rattle.om_task.proofs.Gentle.{lacks, by_control, plain, if_row, if_asked}

-- a row that appends one event record alone
recorded_within : (n worker : ℕ) (es : List Edit) (entry : Record) (values : List Val) → counts es ≤ 1
    → BeginWithin n es → AskedWithin n (recorded worker es entry) values
recorded_within n worker es entry values h b = plain n (recorded worker es entry) values (refl, tt)
    (record { few = h; begun = b; gentle = (tt, tt) })

open_within : (n worker to takes : ℕ) (c : Context) (share : Share) (values : List Val)
    → AskedWithin n (open_row worker to takes c share) values
open_within n worker to takes c share values =
    if_asked n (is_misplaced c) _ _ values (by_control n (Faults fault.Nesting) values tt)
    (recorded_within n worker (begun to takes (construct.Share share)) _ values (omega arith) (tt, (tt, (tt, tt))))

pub loop_within : (n worker to : ℕ) (c : Context) (form : LoopForm) (lower upper : Option ℤ) (values : List Val)
    → AskedWithin n (loop_row worker to c form lower upper) values
loop_within n worker to c form (Some lower) (Some upper) values = if_asked n (is_right_form form) _ _ values
    (open_within n worker to 2 c (loop_of c.regions form lower upper) values) (lacks n values)
loop_within n worker to c form (Some lower) None values = lacks n values
loop_within n worker to c form None upper values = lacks n values

pub sections_within : (n worker to : ℕ) (c : Context) (count : ℕ) (values : List Val)
    → AskedWithin n (sections_row worker to c count) values
sections_within n worker to c count values = open_within n worker to 0 c _ values

taken_within : (n to otherwise : ℕ) (share : Share) (chunk : Option Chunk)
    → RowWithin n (taken_row to otherwise share chunk)
taken_within n to otherwise share (Some chunk) = record { few = omega arith; begun = (tt, (tt, tt)); gentle = tt }
taken_within n to otherwise share None = record { few = omega arith; begun = (tt, tt); gentle = tt }

given_within : (n to otherwise : ℕ) (share : Share) (chunk : Option Chunk)
    → RowWithin n (given_row to otherwise share chunk)
given_within n to otherwise share (Some chunk) = record {
  few = omega arith;
  begun = (tt, (tt, tt));
  gentle = ((tt, tt), tt);
}
given_within n to otherwise share None = record { few = omega arith; begun = (tt, tt); gentle = tt }

static_within : (n to otherwise : ℕ) (c : Context) (share : Share) (size : Option ℕ) (values : List Val)
    → AskedWithin n (static_row to otherwise c share size) values
static_within n to otherwise c share size values = by_control n _ values
    (taken_within n to otherwise share (static_chunk size share.count c.team.size c.team.number share.taken))

dynamic_within : (n to otherwise : ℕ) (c : Context) (share : Share) (size : ℕ) (values : List Val)
    → AskedWithin n (dynamic_row to otherwise c share size) values
dynamic_within n to otherwise c share size values = plain n (dynamic_row to otherwise c share size) values
    (refl, tt) (given_within n to otherwise share (chunk_within share.count (number_in (first_of values)) size))

chunk_within_bounds : (n to otherwise : ℕ) (c : Context) (share : Share) (s : Schedule) (values : List Val)
    → AskedWithin n (chunk_row to otherwise c share s) values
chunk_within_bounds n to otherwise c share schedule.Static values = static_within n to otherwise c share None values
chunk_within_bounds n to otherwise c share (schedule.StaticChunk size) values = static_within n to otherwise c share
    (Some size) values
chunk_within_bounds n to otherwise c share (schedule.Dynamic size) values = dynamic_within n to otherwise c share
    size values

pub grab_within : (n to otherwise : ℕ) (c : Context) (share : Option Share) (values : List Val)
    → AskedWithin n (grab_row to otherwise c share) values
grab_within n to otherwise c (Some share) values = chunk_within_bounds n to otherwise c share share.schedule values
grab_within n to otherwise c None values = lacks n values

value_within : (n to : ℕ) (c : Context) (slot : ℕ) (share : Share) (x : ℤ) (values : List Val)
    → AskedWithin n (value_row to c slot share x) values
value_within n to c slot share x values = plain n (value_row to c slot share x) values (refl, tt)
    (record { few = omega arith; begun = (tt, (tt, tt)); gentle = ((tt, tt), tt) })

iteration_within : (n to otherwise : ℕ) (c : Context) (slot : ℕ) (share : Share) (values : List Val)
    → AskedWithin n (iteration_row to otherwise c slot share) values
iteration_within n to otherwise c slot share values =
    if_asked n (nat_lt share.next share.end) _ _ values
    (value_within n to c slot share (value_of share.lower share.step share.next) values)
    (by_control n (goes otherwise 0 None []) values (record { few = omega arith; begun = (tt, tt); gentle = tt }))

pub iterate_within : (n to otherwise : ℕ) (c : Context) (slot : ℕ) (share : Option Share) (values : List Val)
    → AskedWithin n (iterate_row to otherwise c slot share) values
iterate_within n to otherwise c slot (Some share) values = if_asked n (is_loop share.sharing) _ _ values
    (iteration_within n to otherwise c slot share values) (lacks n values)
iterate_within n to otherwise c slot None values = lacks n values

section_within : (n : ℕ) (to : Option ℕ) → RowWithin n (section_row to)
section_within n (Some to) = record { few = omega arith; begun = (tt, tt); gentle = tt }
section_within n None = tt

pub pick_within : (n : ℕ) (targets : List ℕ) (share : Option Share) (values : List Val)
    → AskedWithin n (pick_row targets share) values
pick_within n targets (Some share) values = by_control n _ values
    (if_row n (is_section share) _ _ (section_within n (slice_get targets share.next)) tt)
pick_within n targets None values = lacks n values

chosen_within : (n to otherwise : ℕ) (c : Context) (first : Bool) → RowWithin n (chosen_row to otherwise c first)
chosen_within n to otherwise c true = record {
  few = omega arith;
  begun = (tt, (tt, (tt, tt)));
  gentle = ((tt, tt), (tt, tt));
}
chosen_within n to otherwise c false = record {
  few = omega arith;
  begun = (tt, (tt, (tt, tt)));
  gentle = (tt, (tt, tt));
}

pub single_within : (n worker to otherwise : ℕ) (c : Context) (values : List Val)
    → AskedWithin n (single_row worker to otherwise c) values
single_within n worker to otherwise c values =
    if_asked n (is_misplaced c) _ _ values (by_control n (Faults fault.Nesting) values tt)
    (plain n _ values (refl, (refl, tt)) (chosen_within n to otherwise c (nat_eq (number_in (first_of values)) 0)))

pub end_worksharing_within : (n worker to : ℕ) (c : Context) (region : Option Construct) (values : List Val)
    → AskedWithin n (end_worksharing_row worker to c region) values
end_worksharing_within n worker to c (Some (construct.Share share)) values = recorded_within n worker
    (edits to 0 Close) _ values (omega arith) (tt, (tt, tt))
end_worksharing_within n worker to c (Some (construct.Single runs)) values = recorded_within n worker
    (edits to 0 Close) _ values (omega arith) (tt, (tt, tt))
end_worksharing_within n worker to c (Some construct.Masked) values = lacks n values
end_worksharing_within n worker to c (Some (construct.Critical lock)) values = lacks n values
end_worksharing_within n worker to c (Some (construct.Group name)) values = lacks n values
end_worksharing_within n worker to c None values = lacks n values

filtered_within : (n worker to otherwise : ℕ) (c : Context) (own : Bool) (values : List Val)
    → AskedWithin n (filtered_row worker to otherwise c own) values
filtered_within n worker to otherwise c true values = recorded_within n worker (edits to 1 (Open construct.Masked))
    _ values (omega arith) (tt, (tt, tt))
filtered_within n worker to otherwise c false values = plain n (filtered_row worker to otherwise c false) values
    (refl, tt) (record { few = omega arith; begun = (tt, tt); gentle = tt })

pub masked_within : (n worker to otherwise : ℕ) (c : Context) (number : Option ℤ) (values : List Val)
    → AskedWithin n (masked_row worker to otherwise c number) values
masked_within n worker to otherwise c (Some number) values = filtered_within n worker to otherwise c
    (int_eq number (pos c.team.number)) values
masked_within n worker to otherwise c None values = lacks n values

pub end_masked_within : (n worker to : ℕ) (c : Context) (region : Option Construct) (values : List Val)
    → AskedWithin n (end_masked_row worker to c region) values
end_masked_within n worker to c region values = if_asked n (is_masked region) _ _ values
    (recorded_within n worker (edits to 0 Close) _ values (omega arith) (tt, (tt, tt))) (lacks n values)

pub ask_critical_within : (n worker to : ℕ) (lock : List ℕ) (values : List Val)
    → AskedWithin n (ask_critical_row worker to lock) values
ask_critical_within n worker to lock values = recorded_within n worker (Go to 0 None ∷ []) _ values (omega arith)
    (tt, tt)

lock_within : (n worker to number : ℕ) (lock : List ℕ) (holder : Option ℕ)
    → RowWithin n (lock_row worker to number lock holder)
lock_within n worker to number lock None = record {
  few = omega arith;
  begun = (tt, (tt, tt));
  gentle = ((tt, tt), (tt, tt));
}
lock_within n worker to number lock (Some holder) = tt

pub enter_critical_within : (n worker to number : ℕ) (lock : List ℕ) (values : List Val)
    → AskedWithin n (enter_critical_row worker to number lock) values
enter_critical_within n worker to number lock values = plain n (enter_critical_row worker to number lock) values
    (refl, (refl, tt)) (lock_within n worker to number lock (holder_in (first_of values)))

pub leave_critical_within : (n worker to number : ℕ) (lock : List ℕ) (region : Option Construct) (values : List Val)
    → AskedWithin n (leave_critical_row worker to number lock region) values
leave_critical_within n worker to number lock region values =
    if_asked n (is_critical number region) _ _ values (plain n _ values (refl, (refl, tt))
    (record { few = omega arith; begun = (tt, (tt, tt)); gentle = ((tt, tt), (tt, tt)) })) (lacks n values)
