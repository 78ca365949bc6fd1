-- The rows of worksharing, masked and critical regions lead from a stack that stands to one that does.
use Rattle.std.proofs.Common.{◌≡◌, refl, ℕ, ℤ, Bool, true, false, List, Option, None, Some}
use Rattle.std.specs.Prelude.{slice_get, nat_lt, nat_eq, pos}
use Rattle.std.specs.Ordering.{int_eq}
use Rattle.om_code.specs.declared.instruction.LoopForm.{LoopForm}
use Rattle.om_code.specs.declared.instruction.Schedule.{Schedule}
use Rattle.om_code.specs.declared.instruction.Schedule.TheVariants as schedule
use Rattle.om_code.specs.declared.raw.Raw.{Raw}
use Rattle.om_state.specs.declared.control.Context.{Context}
use Rattle.om_state.specs.declared.control.Construct.{Construct}
use Rattle.om_state.specs.declared.control.Construct.TheVariants as construct
use Rattle.om_state.specs.declared.control.Share.{Share}
use Rattle.om_state.specs.declared.control.Stack.{Stack}
use Rattle.om_state.specs.declared.value.Val.{Val}
use Rattle.om_state.specs.Values.{number_in, holder_in}
use Rattle.om_state.specs.OpenShares.{is_loop, value_of}
use Rattle.om_team_serial.specs.Rows.{first_of}
use Rattle.om_team_serial.specs.Objects.{is_misplaced}
use Rattle.om_team_worksharing.specs.declared.chunk.Chunk.{Chunk}
use Rattle.om_team_worksharing.specs.Chunks.{static_chunk, chunk_within}
use Rattle.om_team_worksharing.specs.Rows.{open_row, loop_row, loop_of, sections_row, taken_row, given_row, static_row, chunk_row}
use Rattle.om_team_worksharing.specs.Rows.{grab_row, value_row, iteration_row, iterate_row, section_row, is_section}
use Rattle.om_team_worksharing.specs.Rows.{is_masked, is_critical, is_right_form, pick_row, chosen_row}
use Rattle.om_team_worksharing.specs.Rows.{single_row, end_worksharing_row, filtered_row, masked_row, end_masked_row}
use Rattle.om_team_worksharing.specs.Rows.{ask_critical_row, lock_row, enter_critical_row, leave_critical_row}
use Rattle.om_soundness.specs.Standing.{Owned}
use Rattle.om_soundness.proofs.Bounds.{RowStands, AskedStands, Leads, if_row, if_asked}

module _ (program : Raw) (owned : Owned) (stack : Stack) where
  open_stands : (worker to takes : ℕ) (c : Context) (share : Share) (values : List Val)
      → Leads program owned stack to takes None
      → AskedStands program owned stack (open_row worker to takes c share) values
  open_stands worker to takes c share values h =
      if_asked program owned stack (is_misplaced c) _ _ values tt
      (((record { frame = h.0.frame; callers = h.0.callers; member = h.0.member; named = h.0.named }, h.1), (tt, tt)))

  pub loop_stands : (worker to : ℕ) (c : Context) (form : LoopForm) (lower upper : Option ℤ) (values : List Val)
      → Leads program owned stack to 2 None
      → AskedStands program owned stack (loop_row worker to c form lower upper) values
  loop_stands worker to c form (Some lower) (Some upper) values h =
      if_asked program owned stack (is_right_form form) _ _ values
      (open_stands worker to 2 c (loop_of c.regions form lower upper) values h) tt
  loop_stands worker to c form (Some lower) None values h = tt
  loop_stands worker to c form None upper values h = tt

  pub sections_stand : (worker to : ℕ) (c : Context) (count : ℕ) (values : List Val)
      → Leads program owned stack to 0 None → AskedStands program owned stack (sections_row worker to c count) values
  sections_stand worker to c count values h = open_stands worker to 0 c _ values h

  taken_stands : (to otherwise : ℕ) (share : Share) (chunk : Option Chunk) → Leads program owned stack to 0 None
      → Leads program owned stack otherwise 0 None
      → RowStands program owned stack (taken_row to otherwise share chunk)
  taken_stands to otherwise share (Some chunk) h k = ((record { frame = h.0.frame; callers = h.0.callers; member = h.0.member; named = h.0.named }, h.1), tt)
  taken_stands to otherwise share None h k = (k, tt)

  given_stands : (to otherwise : ℕ) (share : Share) (chunk : Option Chunk) → Leads program owned stack to 0 None
      → Leads program owned stack otherwise 0 None
      → RowStands program owned stack (given_row to otherwise share chunk)
  given_stands to otherwise share (Some chunk) h k =
      ((record { frame = h.0.frame; callers = h.0.callers; member = h.0.member; named = h.0.named }, h.1), (tt, tt))
  given_stands to otherwise share None h k = (k, tt)

  static_stands : (to otherwise : ℕ) (c : Context) (share : Share) (size : Option ℕ) (values : List Val)
      → Leads program owned stack to 0 None → Leads program owned stack otherwise 0 None
      → AskedStands program owned stack (static_row to otherwise c share size) values
  static_stands to otherwise c share size values h k =
      taken_stands to otherwise share (static_chunk size share.count c.team.size c.team.number share.taken) h k

  chunk_stands : (to otherwise : ℕ) (c : Context) (share : Share) (s : Schedule) (values : List Val)
      → Leads program owned stack to 0 None → Leads program owned stack otherwise 0 None
      → AskedStands program owned stack (chunk_row to otherwise c share s) values
  chunk_stands to otherwise c share schedule.Static values h k = static_stands to otherwise c share None values h k
  chunk_stands to otherwise c share (schedule.StaticChunk size) values h k =
      static_stands to otherwise c share (Some size) values h k
  chunk_stands to otherwise c share (schedule.Dynamic size) values h k =
      given_stands to otherwise share (chunk_within share.count (number_in (first_of values)) size) h k

  pub grab_stands : (to otherwise : ℕ) (c : Context) (share : Option Share) (values : List Val)
      → Leads program owned stack to 0 None → Leads program owned stack otherwise 0 None
      → AskedStands program owned stack (grab_row to otherwise c share) values
  grab_stands to otherwise c (Some share) values h k = chunk_stands to otherwise c share share.schedule values h k
  grab_stands to otherwise c None values h k = tt

  value_stands : (to : ℕ) (c : Context) (slot : ℕ) (share : Share) (n : ℤ) (values : List Val)
      → Leads program owned stack to 0 None → AskedStands program owned stack (value_row to c slot share n) values
  value_stands to c slot share n values h =
      ((record { frame = h.0.frame; callers = h.0.callers; member = h.0.member; named = h.0.named }, h.1), (tt, tt))

  iteration_stands : (to otherwise : ℕ) (c : Context) (slot : ℕ) (share : Share) (values : List Val)
      → Leads program owned stack to 0 None → Leads program owned stack otherwise 0 None
      → AskedStands program owned stack (iteration_row to otherwise c slot share) values
  iteration_stands to otherwise c slot share values h k =
      if_asked program owned stack (nat_lt share.next share.end) _ _ values
      (value_stands to c slot share (value_of share.lower share.step share.next) values h) (k, tt)

  pub iterate_stands : (to otherwise : ℕ) (c : Context) (slot : ℕ) (share : Option Share) (values : List Val)
      → Leads program owned stack to 0 None → Leads program owned stack otherwise 0 None
      → AskedStands program owned stack (iterate_row to otherwise c slot share) values
  iterate_stands to otherwise c slot (Some share) values h k =
      if_asked program owned stack (is_loop share.sharing) _ _ values
      (iteration_stands to otherwise c slot share values h k) tt
  iterate_stands to otherwise c slot None values h k = tt

  section_stands : (to : Option ℕ) → ((n : ℕ) → to ≡ Some n → Leads program owned stack n 0 None)
      → RowStands program owned stack (section_row to)
  section_stands (Some to) h = (h to refl, tt)
  section_stands None h = tt

  pub pick_stands : (targets : List ℕ) (share : Option Share) (values : List Val)
      → ((k to : ℕ) → slice_get targets k ≡ Some to → Leads program owned stack to 0 None)
      → AskedStands program owned stack (pick_row targets share) values
  pick_stands targets (Some share) values h =
      if_row program owned stack (is_section share) _ _
      (section_stands (slice_get targets share.next) (λ to e. h share.next to e)) tt
  pick_stands targets None values h = tt

  chosen_stands : (to otherwise : ℕ) (c : Context) (first : Bool) → Leads program owned stack to 0 None
      → Leads program owned stack otherwise 0 None → RowStands program owned stack (chosen_row to otherwise c first)
  chosen_stands to otherwise c true h k = ((record { frame = h.0.frame; callers = h.0.callers; member = h.0.member; named = h.0.named }, h.1), (tt, (tt, tt)))
  chosen_stands to otherwise c false h k =
      ((record { frame = k.0.frame; callers = k.0.callers; member = k.0.member; named = k.0.named }, k.1), (tt, (tt, tt)))

  pub single_stands : (worker to otherwise : ℕ) (c : Context) (values : List Val)
      → Leads program owned stack to 0 None → Leads program owned stack otherwise 0 None
      → AskedStands program owned stack (single_row worker to otherwise c) values
  single_stands worker to otherwise c values h k =
      if_asked program owned stack (is_misplaced c) _ _ values tt
      (chosen_stands to otherwise c (nat_eq (number_in (first_of values)) 0) h k)

  pub end_worksharing_stands : (worker to : ℕ) (c : Context) (region : Option Construct) (values : List Val)
      → Leads program owned stack to 0 None
      → AskedStands program owned stack (end_worksharing_row worker to c region) values
  end_worksharing_stands worker to c (Some (construct.Share share)) values h =
      ((record { frame = h.0.frame; callers = h.0.callers; member = h.0.member; named = h.0.named }, h.1), (tt, tt))
  end_worksharing_stands worker to c (Some (construct.Single runs)) values h =
      ((record { frame = h.0.frame; callers = h.0.callers; member = h.0.member; named = h.0.named }, h.1), (tt, tt))
  end_worksharing_stands worker to c (Some construct.Masked) values h = tt
  end_worksharing_stands worker to c (Some (construct.Critical lock)) values h = tt
  end_worksharing_stands worker to c (Some (construct.Group name)) values h = tt
  end_worksharing_stands worker to c None values h = tt

  filtered_stands : (worker to otherwise : ℕ) (c : Context) (own : Bool) (values : List Val)
      → Leads program owned stack to 1 None → Leads program owned stack otherwise 1 None
      → AskedStands program owned stack (filtered_row worker to otherwise c own) values
  filtered_stands worker to otherwise c true values h k =
      ((record { frame = h.0.frame; callers = h.0.callers; member = h.0.member; named = h.0.named }, h.1), (tt, tt))
  filtered_stands worker to otherwise c false values h k = (k, tt)

  pub masked_stands : (worker to otherwise : ℕ) (c : Context) (number : Option ℤ) (values : List Val)
      → Leads program owned stack to 1 None → Leads program owned stack otherwise 1 None
      → AskedStands program owned stack (masked_row worker to otherwise c number) values
  masked_stands worker to otherwise c (Some number) values h k =
      filtered_stands worker to otherwise c (int_eq number (pos c.team.number)) values h k
  masked_stands worker to otherwise c None values h k = tt

  pub end_masked_stands : (worker to : ℕ) (c : Context) (region : Option Construct) (values : List Val)
      → Leads program owned stack to 0 None
      → AskedStands program owned stack (end_masked_row worker to c region) values
  end_masked_stands worker to c region values h =
      if_asked program owned stack (is_masked region) _ _ values
      (((record { frame = h.0.frame; callers = h.0.callers; member = h.0.member; named = h.0.named }, h.1), (tt, tt))) tt

  pub ask_critical_stands : (worker to : ℕ) (lock : List ℕ) (values : List Val) → Leads program owned stack to 0 None
      → AskedStands program owned stack (ask_critical_row worker to lock) values
  ask_critical_stands worker to lock values h = (h, (tt, tt))

  lock_stands : (worker to number : ℕ) (lock : List ℕ) (holder : Option ℕ) → Leads program owned stack to 0 None
      → RowStands program owned stack (lock_row worker to number lock holder)
  lock_stands worker to number lock None h =
      ((record { frame = h.0.frame; callers = h.0.callers; member = h.0.member; named = h.0.named }, h.1), (tt, (tt, tt)))
  lock_stands worker to number lock (Some holder) h = tt

  pub enter_critical_stands : (worker to number : ℕ) (lock : List ℕ) (values : List Val)
      → Leads program owned stack to 0 None
      → AskedStands program owned stack (enter_critical_row worker to number lock) values
  enter_critical_stands worker to number lock values h =
      lock_stands worker to number lock (holder_in (first_of values)) h

  pub leave_critical_stands : (worker to number : ℕ) (lock : List ℕ) (region : Option Construct) (values : List Val)
      → Leads program owned stack to 0 None
      → AskedStands program owned stack (leave_critical_row worker to number lock region) values
  leave_critical_stands worker to number lock region values h =
      if_asked program owned stack (is_critical number region) _ _ values
      (((record { frame = h.0.frame; callers = h.0.callers; member = h.0.member; named = h.0.named }, h.1), (tt, (tt, tt)))) tt
