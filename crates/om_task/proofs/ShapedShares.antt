-- The rows of worksharing, masked and critical regions are shaped: they name no control, and put cells at cells.
use Rattle.std.proofs.Common.{refl, ℕ, ℤ, Bool, true, false, List, [], Option, None, Some}
use Rattle.std.specs.Prelude.{nat_lt, pos}
use Rattle.std.specs.Ordering.{int_eq}
use Rattle.om_code.specs.declared.frame.Fault.TheVariants as fault
use Rattle.om_code.specs.declared.instruction.LoopForm.{LoopForm}
use Rattle.om_code.specs.declared.instruction.Place.TheVariants.{Slot}
use Rattle.om_code.specs.declared.instruction.Schedule.{Schedule}
use Rattle.om_code.specs.declared.instruction.Schedule.TheVariants as schedule
use Rattle.om_events.specs.declared.event.Record.{Record}
use Rattle.om_state.specs.declared.control.Context.{Context}
use Rattle.om_state.specs.declared.control.Construct.{Construct}
use Rattle.om_state.specs.declared.control.Construct.TheVariants as construct
use Rattle.om_state.specs.declared.control.Share.{Share}
use Rattle.om_state.specs.declared.control.Edit.{Edit}
use Rattle.om_state.specs.OpenShares.{is_loop, value_of}
use Rattle.om_team_serial.specs.declared.row.Row.TheVariants.{Faults, Lacks}
use Rattle.om_team_serial.specs.Rows.{goes}
use Rattle.om_team_serial.specs.Objects.{is_misplaced}
use Rattle.om_team_worksharing.specs.Rows.{recorded, open_row, loop_row, loop_of, sections_row, static_row, dynamic_row, chunk_row}
use Rattle.om_team_worksharing.specs.Rows.{grab_row, value_row, iteration_row, iterate_row, is_masked, is_critical}
use Rattle.om_team_worksharing.specs.Rows.{is_right_form, pick_row, single_row, end_worksharing_row, filtered_row, masked_row}
use Rattle.om_team_worksharing.specs.Rows.{end_masked_row, ask_critical_row, enter_critical_row, leave_critical_row}
use Rattle.om_task.proofs.NoControls.{AskedShaped, object_none, of_cells, apart, by_control, if_asked}

-- a row that appends one event record alone
recorded_shaped : (worker : ℕ) (es : List Edit) (entry : Record) → AskedShaped (recorded worker es entry)
recorded_shaped worker es entry = apart (recorded worker es entry) (refl, tt) (refl, tt)

open_shaped : (worker to takes : ℕ) (c : Context) (share : Share) → AskedShaped (open_row worker to takes c share)
open_shaped worker to takes c share = if_asked (is_misplaced c) _ _ (by_control (Faults fault.Nesting))
    (recorded_shaped worker _ _)

pub loop_shaped : (worker to : ℕ) (c : Context) (form : LoopForm) (lower upper : Option ℤ)
    → AskedShaped (loop_row worker to c form lower upper)
loop_shaped worker to c form (Some lower) (Some upper) = if_asked (is_right_form form) _ _
    (open_shaped worker to 2 c (loop_of c.regions form lower upper)) (by_control Lacks)
loop_shaped worker to c form (Some lower) None = by_control Lacks
loop_shaped worker to c form None upper = by_control Lacks

pub sections_shaped : (worker to : ℕ) (c : Context) (count : ℕ) → AskedShaped (sections_row worker to c count)
sections_shaped worker to c count = open_shaped worker to 0 c _

chunk_shaped : (to otherwise : ℕ) (c : Context) (share : Share) (s : Schedule)
    → AskedShaped (chunk_row to otherwise c share s)
chunk_shaped to otherwise c share schedule.Static = apart (static_row to otherwise c share None) tt tt
chunk_shaped to otherwise c share (schedule.StaticChunk size) = apart (static_row to otherwise c share (Some size)) tt tt
chunk_shaped to otherwise c share (schedule.Dynamic size) = apart (dynamic_row to otherwise c share size) (refl, tt) (refl, tt)

pub grab_shaped : (to otherwise : ℕ) (c : Context) (share : Option Share) → AskedShaped (grab_row to otherwise c share)
grab_shaped to otherwise c (Some share) = chunk_shaped to otherwise c share share.schedule
grab_shaped to otherwise c None = by_control Lacks

value_shaped : (to : ℕ) (c : Context) (slot : ℕ) (share : Share) (x : ℤ) → AskedShaped (value_row to c slot share x)
value_shaped to c slot share x = of_cells (value_row to c slot share x) (object_none c (Slot slot) 0, tt)
    (λ values. (tt, tt))

iteration_shaped : (to otherwise : ℕ) (c : Context) (slot : ℕ) (share : Share)
    → AskedShaped (iteration_row to otherwise c slot share)
iteration_shaped to otherwise c slot share = if_asked (nat_lt share.next share.end) _ _
    (value_shaped to c slot share (value_of share.lower share.step share.next))
    (by_control (goes otherwise 0 None []))

pub iterate_shaped : (to otherwise : ℕ) (c : Context) (slot : ℕ) (share : Option Share)
    → AskedShaped (iterate_row to otherwise c slot share)
iterate_shaped to otherwise c slot (Some share) = if_asked (is_loop share.sharing) _ _
    (iteration_shaped to otherwise c slot share) (by_control Lacks)
iterate_shaped to otherwise c slot None = by_control Lacks

pub pick_shaped : (targets : List ℕ) (share : Option Share) → AskedShaped (pick_row targets share)
pick_shaped targets (Some share) = by_control _
pick_shaped targets None = by_control Lacks

pub single_shaped : (worker to otherwise : ℕ) (c : Context) → AskedShaped (single_row worker to otherwise c)
single_shaped worker to otherwise c = if_asked (is_misplaced c) _ _ (by_control (Faults fault.Nesting))
    (apart _ (refl, (refl, tt)) (refl, (refl, tt)))

pub end_worksharing_shaped : (worker to : ℕ) (c : Context) (region : Option Construct)
    → AskedShaped (end_worksharing_row worker to c region)
end_worksharing_shaped worker to c (Some (construct.Share share)) = recorded_shaped worker _ _
end_worksharing_shaped worker to c (Some (construct.Single runs)) = recorded_shaped worker _ _
end_worksharing_shaped worker to c (Some construct.Masked) = by_control Lacks
end_worksharing_shaped worker to c (Some (construct.Critical lock)) = by_control Lacks
end_worksharing_shaped worker to c (Some (construct.Group name)) = by_control Lacks
end_worksharing_shaped worker to c None = by_control Lacks

filtered_shaped : (worker to otherwise : ℕ) (c : Context) (own : Bool)
    → AskedShaped (filtered_row worker to otherwise c own)
filtered_shaped worker to otherwise c true = recorded_shaped worker _ _
filtered_shaped worker to otherwise c false = apart (filtered_row worker to otherwise c false) (refl, tt) (refl, tt)

pub masked_shaped : (worker to otherwise : ℕ) (c : Context) (number : Option ℤ)
    → AskedShaped (masked_row worker to otherwise c number)
masked_shaped worker to otherwise c (Some number) = filtered_shaped worker to otherwise c
    (int_eq number (pos c.team.number))
masked_shaped worker to otherwise c None = by_control Lacks

pub end_masked_shaped : (worker to : ℕ) (c : Context) (region : Option Construct)
    → AskedShaped (end_masked_row worker to c region)
end_masked_shaped worker to c region = if_asked (is_masked region) _ _ (recorded_shaped worker _ _) (by_control Lacks)

pub ask_critical_shaped : (worker to : ℕ) (lock : List ℕ) → AskedShaped (ask_critical_row worker to lock)
ask_critical_shaped worker to lock = recorded_shaped worker _ _

pub enter_critical_shaped : (worker to number : ℕ) (lock : List ℕ)
    → AskedShaped (enter_critical_row worker to number lock)
enter_critical_shaped worker to number lock = apart (enter_critical_row worker to number lock) (refl, (refl, tt))
    (refl, (refl, tt))

pub leave_critical_shaped : (worker to number : ℕ) (lock : List ℕ) (region : Option Construct)
    → AskedShaped (leave_critical_row worker to number lock region)
leave_critical_shaped worker to number lock region = if_asked (is_critical number region) _ _
    (apart _ (refl, (refl, tt)) (refl, (refl, tt))) (by_control Lacks)
