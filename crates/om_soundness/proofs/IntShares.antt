-- The rows of worksharing, masked and critical regions open and put ints alone.
use Rattle.std.proofs.Common.{◌≡◌, ℕ, ℤ, pos, Bool, true, false, arith}
use Rattle.std.proofs.Common.{List, [], ◌∷◌, Option, None, Some}
use Rattle.std.specs.Prelude.{All, IfSome, nat_lt, nat_eq}
use Rattle.std.specs.Ordering.{int_eq}
use Rattle.std.proofs.lemmas.Bool.{ltb-true}
use Rattle.std.proofs.lemmas.List.Elements.{All-head}
use Rattle.om_code.specs.declared.instruction.LoopForm.{LoopForm}
use Rattle.om_code.specs.declared.instruction.Schedule.{Schedule}
use Rattle.om_code.specs.declared.instruction.Schedule.TheVariants as schedule
use Rattle.om_state.specs.declared.control.Construct.{Construct}
use Rattle.om_state.specs.declared.control.Construct.TheVariants as construct
use Rattle.om_state.specs.declared.control.Context.{Context}
use Rattle.om_state.specs.declared.control.Share.{Share}
use Rattle.om_state.specs.declared.value.Val.{Val}
use Rattle.om_state.specs.OpenShares.{is_loop, value_of}
use Rattle.om_state.specs.Values.{number_in, holder_in}
use Rattle.om_team_serial.specs.Objects.{innermost, is_misplaced}
use Rattle.om_team_serial.specs.Rows.{first_of}
use Rattle.om_team_worksharing.specs.declared.chunk.Chunk.{Chunk}
use Rattle.om_team_worksharing.specs.Chunks.{static_chunk, chunk_within}
use Rattle.om_team_worksharing.specs.Rows.{share_within, open_row, loop_row, loop_of, sections_row, taken_row, given_row}
use Rattle.om_team_worksharing.specs.Rows.{static_row, chunk_row, grab_row, value_row, iteration_row, iterate_row, section_row}
use Rattle.om_team_worksharing.specs.Rows.{is_section, is_masked, is_critical, is_right_form, pick_row}
use Rattle.om_team_worksharing.specs.Rows.{chosen_row, single_row, end_worksharing_row, filtered_row, masked_row, end_masked_row}
use Rattle.om_team_worksharing.specs.Rows.{lock_row, enter_critical_row, leave_critical_row}
use Rattle.om_team_worksharing.specs.Iterations.{EndsWithin, loop_ints, next_int, chunk_ends, static_ends}
use Rattle.om_soundness.specs.Ints.{IsInt, ShareHasInts, ConstructHasInts}
use Rattle.om_soundness.proofs.IntEdits.{RowHasInts, AskedHasInts, if_row, if_asked}

open_ints : (worker to takes : ℕ) (c : Context) (share : Share) (values : List Val) → ShareHasInts share
    → AskedHasInts (open_row worker to takes c share) values
open_ints worker to takes c share values h =
    if_asked (is_misplaced c) _ _ values (λ e. tt) ((tt, (tt, (h, tt))), (tt, tt))

pub loop_row_ints : (worker to : ℕ) (c : Context) (form : LoopForm) (lower upper : Option ℤ) (values : List Val)
    → IfSome lower IsInt → IfSome upper IsInt → AskedHasInts (loop_row worker to c form lower upper) values
loop_row_ints worker to c form (Some lower) (Some upper) values h k =
    if_asked (is_right_form form) _ _ values
    (λ e. open_ints worker to 2 c (loop_of c.regions form lower upper) values
    (loop_ints c.regions form lower upper h k e)) tt
loop_row_ints worker to c form (Some lower) None values h k = tt
loop_row_ints worker to c form None upper values h k = tt

pub sections_ints : (worker to : ℕ) (c : Context) (count : ℕ) (values : List Val)
    → AskedHasInts (sections_row worker to c count) values
sections_ints worker to c count values =
    open_ints worker to 0 c _ values (record { within = omega arith; values = λ is j lt. cc })

taken_ints : (to otherwise : ℕ) (share : Share) (chunk : Option Chunk) → ShareHasInts share
    → EndsWithin share.count chunk → RowHasInts (taken_row to otherwise share chunk)
taken_ints to otherwise share (Some chunk) h k = ((tt, (record { within = k; values = h.values }, tt)), tt)
taken_ints to otherwise share None h k = ((tt, tt), tt)

given_ints : (to otherwise : ℕ) (share : Share) (chunk : Option Chunk) → ShareHasInts share
    → EndsWithin share.count chunk → RowHasInts (given_row to otherwise share chunk)
given_ints to otherwise share (Some chunk) h k = ((tt, (record { within = k; values = h.values }, tt)), (tt, tt))
given_ints to otherwise share None h k = ((tt, tt), tt)

static_ints : (to otherwise : ℕ) (c : Context) (share : Share) (size : Option ℕ) (values : List Val)
    → ShareHasInts share → AskedHasInts (static_row to otherwise c share size) values
static_ints to otherwise c share size values h =
    taken_ints to otherwise share (static_chunk size share.count c.team.size c.team.number share.taken) h
    (static_ends size share.count c.team.size c.team.number share.taken)

chunk_ints : (to otherwise : ℕ) (c : Context) (share : Share) (s : Schedule) (values : List Val)
    → ShareHasInts share → AskedHasInts (chunk_row to otherwise c share s) values
chunk_ints to otherwise c share schedule.Static values h = static_ints to otherwise c share None values h
chunk_ints to otherwise c share (schedule.StaticChunk size) values h =
    static_ints to otherwise c share (Some size) values h
chunk_ints to otherwise c share (schedule.Dynamic size) values h =
    given_ints to otherwise share (chunk_within share.count (number_in (first_of values)) size) h
    (chunk_ends share.count (number_in (first_of values)) size)

-- the innermost region, where it is a loop or sections
pub innermost_ints : (constructs : List Construct) → All ConstructHasInts constructs
    → IfSome (share_within (innermost constructs)) ShareHasInts
innermost_ints [] h = tt
innermost_ints (construct.Share share ∷ rest) h = All-head ConstructHasInts (construct.Share share) rest h
innermost_ints (construct.Single runs ∷ rest) h = tt
innermost_ints (construct.Masked ∷ rest) h = tt
innermost_ints (construct.Critical lock ∷ rest) h = tt
innermost_ints (construct.Group name ∷ rest) h = tt

pub grab_ints : (to otherwise : ℕ) (c : Context) (share : Option Share) (values : List Val)
    → IfSome share ShareHasInts → AskedHasInts (grab_row to otherwise c share) values
grab_ints to otherwise c (Some share) values h = chunk_ints to otherwise c share share.schedule values h
grab_ints to otherwise c None values h = tt

value_ints : (to : ℕ) (c : Context) (slot : ℕ) (share : Share) (n : ℤ) (values : List Val)
    → ShareHasInts share → IsInt n → AskedHasInts (value_row to c slot share n) values
value_ints to c slot share n values h k =
    ((tt, (record { within = h.within; values = h.values }, tt)), (k, tt))

iteration_ints : (to otherwise : ℕ) (c : Context) (slot : ℕ) (share : Share) (values : List Val)
    → ShareHasInts share → is_loop share.sharing ≡ true → AskedHasInts (iteration_row to otherwise c slot share) values
iteration_ints to otherwise c slot share values h loops =
    if_asked (nat_lt share.next share.end) _ _ values
    (λ e. value_ints to c slot share (value_of share.lower share.step share.next) values h
    (next_int share h loops (ltb-true share.next share.end e))) ((tt, tt), tt)

pub iterate_ints : (to otherwise : ℕ) (c : Context) (slot : ℕ) (share : Option Share) (values : List Val)
    → IfSome share ShareHasInts → AskedHasInts (iterate_row to otherwise c slot share) values
iterate_ints to otherwise c slot (Some share) values h =
    if_asked (is_loop share.sharing) _ _ values (λ e. iteration_ints to otherwise c slot share values h e) tt
iterate_ints to otherwise c slot None values h = tt

section_ints : (to : Option ℕ) → RowHasInts (section_row to)
section_ints (Some to) = ((tt, tt), tt)
section_ints None = tt

pub pick_ints : (targets : List ℕ) (share : Option Share) (values : List Val)
    → AskedHasInts (pick_row targets share) values
pick_ints targets (Some share) values = if_row (is_section share) _ _ (section_ints _) tt
pick_ints targets None values = tt

chosen_ints : (to otherwise : ℕ) (c : Context) (first : Bool) → RowHasInts (chosen_row to otherwise c first)
chosen_ints to otherwise c true = ((tt, (tt, (tt, tt))), (tt, (tt, tt)))
chosen_ints to otherwise c false = ((tt, (tt, (tt, tt))), (tt, (tt, tt)))

pub single_ints : (worker to otherwise : ℕ) (c : Context) (values : List Val)
    → AskedHasInts (single_row worker to otherwise c) values
single_ints worker to otherwise c values =
    if_asked (is_misplaced c) _ _ values (λ e. tt)
    (chosen_ints to otherwise c (nat_eq (number_in (first_of values)) 0))

pub end_worksharing_ints : (worker to : ℕ) (c : Context) (region : Option Construct) (values : List Val)
    → AskedHasInts (end_worksharing_row worker to c region) values
end_worksharing_ints worker to c (Some (construct.Share share)) values = ((tt, (tt, tt)), (tt, tt))
end_worksharing_ints worker to c (Some (construct.Single runs)) values = ((tt, (tt, tt)), (tt, tt))
end_worksharing_ints worker to c (Some construct.Masked) values = tt
end_worksharing_ints worker to c (Some (construct.Critical lock)) values = tt
end_worksharing_ints worker to c (Some (construct.Group name)) values = tt
end_worksharing_ints worker to c None values = tt

filtered_ints : (worker to otherwise : ℕ) (c : Context) (own : Bool) (values : List Val)
    → AskedHasInts (filtered_row worker to otherwise c own) values
filtered_ints worker to otherwise c true values = ((tt, (tt, tt)), (tt, tt))
filtered_ints worker to otherwise c false values = ((tt, tt), tt)

pub masked_ints : (worker to otherwise : ℕ) (c : Context) (number : Option ℤ) (values : List Val)
    → AskedHasInts (masked_row worker to otherwise c number) values
masked_ints worker to otherwise c (Some number) values =
    filtered_ints worker to otherwise c (int_eq number (pos c.team.number)) values
masked_ints worker to otherwise c None values = tt

pub end_masked_ints : (worker to : ℕ) (c : Context) (region : Option Construct) (values : List Val)
    → AskedHasInts (end_masked_row worker to c region) values
end_masked_ints worker to c region values =
    if_asked (is_masked region) _ _ values (λ e. ((tt, (tt, tt)), (tt, tt))) tt

lock_ints : (worker to number : ℕ) (lock : List ℕ) (holder : Option ℕ)
    → RowHasInts (lock_row worker to number lock holder)
lock_ints worker to number lock None = ((tt, (tt, tt)), (tt, (tt, tt)))
lock_ints worker to number lock (Some holder) = tt

pub enter_critical_ints : (worker to number : ℕ) (lock : List ℕ) (values : List Val)
    → AskedHasInts (enter_critical_row worker to number lock) values
enter_critical_ints worker to number lock values = lock_ints worker to number lock (holder_in (first_of values))

pub leave_critical_ints : (worker to number : ℕ) (lock : List ℕ) (region : Option Construct) (values : List Val)
    → AskedHasInts (leave_critical_row worker to number lock region) values
leave_critical_ints worker to number lock region values =
    if_asked (is_critical number region) _ _ values (λ e. ((tt, (tt, tt)), (tt, (tt, tt)))) tt
