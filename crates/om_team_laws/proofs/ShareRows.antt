-- The rows of worksharing, masked and critical regions are among the cases.
use Rattle.std.proofs.Common.{◌≡◌, refl, ap, ℕ, ◌+◌, ℤ, pos, arith, Bool, true, false}
use Rattle.std.proofs.Common.{if◌then◌else◌, Option, None, Some, List, [], ◌∷◌}
use Rattle.std.specs.Ordering.{int_eq}
use Rattle.std.specs.Prelude.{nat_eq, nat_lt, slice_get}
use Rattle.std.proofs.lemmas.Bool.{eqb-true}
use Rattle.om_foot.specs.declared.footprint.Access.{Access}
use Rattle.om_foot.specs.declared.object.Obj.TheVariants as obj
use Rattle.om_code.specs.declared.frame.Fault.TheVariants as fault
use Rattle.om_code.specs.declared.instruction.LoopForm.{LoopForm}
use Rattle.om_code.specs.declared.instruction.Place.TheVariants as place
use Rattle.om_code.specs.declared.instruction.Schedule.{Schedule}
use Rattle.om_code.specs.declared.instruction.Schedule.TheVariants as schedule
use Rattle.om_state.specs.declared.control.Construct.{Construct}
use Rattle.om_state.specs.declared.control.Construct.TheVariants as construct
use Rattle.om_state.specs.declared.control.Edit.TheVariants.{Open, Close, Replace}
use Rattle.om_state.specs.declared.control.Share.{Share}
use Rattle.om_state.specs.declared.control.Sharing.TheVariants as sharing
use Rattle.om_state.specs.declared.control.Stack.{Stack}
use Rattle.om_state.specs.declared.step.Blocked.TheVariants as blocked
use Rattle.om_state.specs.declared.step.Update.{Update}
use Rattle.om_state.specs.OpenShares.{is_loop}
use Rattle.om_state.specs.State.{State}
use Rattle.om_state.specs.Values.{holder_in, number_in}
use Rattle.om_team_serial.specs.declared.row.Row.{Row}
use Rattle.om_team_serial.specs.declared.row.Row.TheVariants as row
use Rattle.om_team_serial.specs.Objects.{innermost, is_misplaced, write}
use Rattle.om_team_serial.specs.Rows.{Asked}
use Rattle.om_team_worksharing.specs.declared.chunk.Chunk.{Chunk}
use Rattle.om_team_worksharing.specs.Chunks.{chunk_within, static_chunk}
use Rattle.om_team_worksharing.specs.Rows.{ask_critical_row, begun, chosen_row, chunk_row, edits}
use Rattle.om_team_worksharing.specs.Rows.{end_masked_row, end_worksharing_row, enter_critical_row, filtered_row}
use Rattle.om_team_worksharing.specs.Rows.{given_row, grab_row, is_critical, is_right_form, is_section}
use Rattle.om_team_worksharing.specs.Rows.{iterate_row, iteration_row, leave_critical_row, lock_row, loop_of, loop_row}
use Rattle.om_team_worksharing.specs.Rows.{masked_row, open_row, opened, pick_row, section_row, sections_row, share_in}
use Rattle.om_team_worksharing.specs.Rows.{single_row, taken_row}
use Rattle.om_team_laws.specs.Statics.{size_in}
use Rattle.om_team_laws.specs.Works.{is_dynamic}
use Rattle.om_team_laws.proofs.Advancing.{taken_advances}
use Rattle.om_team_laws.proofs.Cases.{Covers}
use Rattle.om_team_laws.proofs.Likes.{like_begun, like_close, like_open, like_replace}
use Rattle.om_team_laws.proofs.Owned.{Advances, IsFresh, next_advances, not_explicit}
use Rattle.om_team_laws.proofs.Regions.{HasNoFurther, IsOther, begun_next, closed_hands, no_chunk, not_dynamic}
use Rattle.om_team_laws.proofs.Regions.{replaced_hands}
use Rattle.om_team_laws.proofs.TeamRows.{Meets, go, if_meets}
use Rattle.om_team_laws.proofs.Traced.{AreUntraced, object_untraced}

module _ (worker : ℕ) (stack : Stack) (s : State) (P : List Access → Row → Type 0)
    (k : Covers worker stack s P) where
  abbrev Met : Asked → Type 0
  Met a = Meets worker stack s P k a

  -- ---- loops and sections

  open_meets : (to takes : ℕ) (share : Share) → IsFresh stack.top share → Met (open_row worker to takes stack.top share)
  open_meets to takes share e =
      if_meets worker stack s P k (is_misplaced stack.top) _ _ (λ is. k.faults [] fault.Nesting)
      (λ is. k.goes _ (begun to takes (construct.Share share)) _ (refl, tt) (
        like_begun stack.top _ share refl refl refl refl refl refl e
            (not_explicit stack.top.kind stack.top.constructs is),
        refl,
      ) (λ region iteration. let none = no_chunk share e.no_end region iteration in omega (arith, none)))

  pub loop_meets : (to : ℕ) (form : LoopForm) (lower upper : Option ℤ)
      → Met (loop_row worker to stack.top form lower upper)
  loop_meets to form (Some lower) (Some upper) =
      if_meets worker stack s P k (is_right_form form) _ _
      (λ is. open_meets to 2 (loop_of stack.top.regions form lower upper) (record { of_region = refl; no_next = refl; no_end = refl })) (λ is. k.lacks [])
  loop_meets to form (Some lower) None = k.lacks []
  loop_meets to form None upper = k.lacks []

  pub sections_meets : (to n : ℕ) → Met (sections_row worker to stack.top n)
  sections_meets to n =
      open_meets to 0 (opened sharing.Sections stack.top.regions n (pos 0) (pos 1) (schedule.Dynamic 1))
      (record { of_region = refl; no_next = refl; no_end = refl })

  -- the innermost share is replaced by one with no iteration more
  replaced : (names : List Access) (to : ℕ) (share other : Share) (us : List Update)
      → share_in stack.top ≡ Some share → HasNoFurther share other
      → Advances stack.top.team stack.top.kind share other → AreUntraced names
      → P names (row.Goes (edits to 0 (Replace (construct.Share other))) us)
  replaced names to share other us e less on h =
      k.goes names (edits to 0 (Replace (construct.Share other))) us h (
        like_replace stack.top _ share other (record { task = refl; kind = refl; team = refl; births = omega arith; regions = refl }) refl e on,
        refl,
      ) (replaced_hands stack.top.constructs share other e less)

  taken_meets : (to otherwise : ℕ) (share : Share) (chunk : Option Chunk) → share_in stack.top ≡ Some share
      → is_dynamic share.schedule ≡ false
      → static_chunk (size_in share.schedule) share.count stack.top.team.size stack.top.team.number share.taken ≡ chunk
      → P [] (taken_row to otherwise share chunk)
  taken_meets to otherwise share (Some chunk) e f g =
      let other : Share = record share { taken = share.taken + 1; next = chunk.first; end = chunk.end } in
      replaced [] to share other [] e (not_dynamic share other f)
      (taken_advances stack.top.team stack.top.kind share chunk f g) tt
  taken_meets to otherwise share None e f g = go worker stack s P k [] otherwise 0 None [] tt

  given_meets : (to otherwise : ℕ) (share : Share) (size : ℕ) (chunk : Option Chunk) → share_in stack.top ≡ Some share
      → share.schedule ≡ schedule.Dynamic size
      → chunk_within share.count (number_in (s (obj.Work stack.top.team.name share.region))) size ≡ chunk
      → P (write (obj.Work stack.top.team.name share.region) ∷ []) (given_row to otherwise share chunk)
  given_meets to otherwise share size (Some chunk) e f g = k.takes share size to chunk e f g
  given_meets to otherwise share size None e f g = k.finds_none share otherwise

  chunk_meets : (to otherwise : ℕ) (share : Share) (sched : Schedule) → share_in stack.top ≡ Some share
      → share.schedule ≡ sched → Met (chunk_row to otherwise stack.top share sched)
  chunk_meets to otherwise share schedule.Static e f =
      taken_meets to otherwise share
      (static_chunk None share.count stack.top.team.size stack.top.team.number share.taken) e (ap is_dynamic f)
      (ap (λ z. static_chunk (size_in z) share.count stack.top.team.size stack.top.team.number share.taken) f)
  chunk_meets to otherwise share (schedule.StaticChunk size) e f =
      taken_meets to otherwise share
      (static_chunk (Some size) share.count stack.top.team.size stack.top.team.number share.taken) e (ap is_dynamic f)
      (ap (λ z. static_chunk (size_in z) share.count stack.top.team.size stack.top.team.number share.taken) f)
  chunk_meets to otherwise share (schedule.Dynamic size) e f =
      given_meets to otherwise share size
      (chunk_within share.count (number_in (s (obj.Work stack.top.team.name share.region))) size) e f refl

  pub grab_meets : (to otherwise : ℕ) (share : Option Share) → share_in stack.top ≡ share
      → Met (grab_row to otherwise stack.top share)
  grab_meets to otherwise (Some share) e = chunk_meets to otherwise share share.schedule e refl
  grab_meets to otherwise None e = k.lacks []

  iteration_meets : (to otherwise slot : ℕ) (share : Share) → share_in stack.top ≡ Some share
      → Met (iteration_row to otherwise stack.top slot share)
  iteration_meets to otherwise slot share e =
      if_meets worker stack s P k (nat_lt share.next share.end) _ _
      (λ is. replaced _ to share (record share { next = share.next + 1 }) _ e (begun_next share)
      (next_advances stack.top.team stack.top.kind share is)
      (object_untraced stack.top (place.Slot slot) 0, tt))
      (λ is. go worker stack s P k [] otherwise 0 None [] tt)

  pub iterate_meets : (to otherwise slot : ℕ) (share : Option Share) → share_in stack.top ≡ share
      → Met (iterate_row to otherwise stack.top slot share)
  iterate_meets to otherwise slot (Some share) e =
      if_meets worker stack s P k (is_loop share.sharing) _ _ (λ is. iteration_meets to otherwise slot share e)
      (λ is. k.lacks [])
  iterate_meets to otherwise slot None e = k.lacks []

  section_meets : (to : Option ℕ) → P [] (section_row to)
  section_meets (Some to) = go worker stack s P k [] to 0 None [] tt
  section_meets None = k.lacks []

  pub pick_meets : (targets : List ℕ) (share : Option Share) → Met (pick_row targets share)
  pick_meets targets (Some share) = by (is_section share)
    where
      by : (b : Bool) → P [] (if b then section_row (slice_get targets share.next) else row.Lacks)
      by true = section_meets (slice_get targets share.next)
      by false = k.lacks []
  pick_meets targets None = k.lacks []

  -- ---- `single`

  chosen_meets : (to otherwise : ℕ) (names : List Access) (first : Bool)
      → nat_eq (number_in (s (obj.Work stack.top.team.name stack.top.regions))) 0 ≡ first → AreUntraced names
      → P (write (obj.Work stack.top.team.name stack.top.regions) ∷ names) (chosen_row to otherwise stack.top first)
  chosen_meets to otherwise names true e h = k.runs to names _ (eqb-true _ 0 e) h
  chosen_meets to otherwise names false e h = k.passes otherwise names _ e h

  pub single_meets : (to otherwise : ℕ) → Met (single_row worker to otherwise stack.top)
  single_meets to otherwise =
      if_meets worker stack s P k (is_misplaced stack.top) _ _ (λ is. k.faults [] fault.Nesting)
      (λ is. chosen_meets to otherwise _
      (nat_eq (number_in (s (obj.Work stack.top.team.name stack.top.regions))) 0) refl (refl, tt))

  -- ---- regions end

  closed : (names : List Access) (to : ℕ) (x : Construct) (us : List Update) → innermost stack.top.constructs ≡ Some x
      → IsOther x → AreUntraced names → P names (row.Goes (edits to 0 Close) us)
  closed names to x us e o h =
      k.goes names (edits to 0 Close) us h (
        like_close stack.top _ x (record { task = refl; kind = refl; team = refl; births = omega arith; regions = refl }) refl e o,
        refl,
      ) (closed_hands stack.top.constructs)

  pub end_worksharing_meets : (to : ℕ) (region : Option Construct) → innermost stack.top.constructs ≡ region
      → Met (end_worksharing_row worker to stack.top region)
  end_worksharing_meets to (Some (construct.Share share)) e =
      closed _ to (construct.Share share) _ e (λ lock. refl) (refl, tt)
  end_worksharing_meets to (Some (construct.Single runs)) e =
      closed _ to (construct.Single runs) _ e (λ lock. refl) (refl, tt)
  end_worksharing_meets to (Some construct.Masked) e = k.lacks []
  end_worksharing_meets to (Some (construct.Critical lock)) e = k.lacks []
  end_worksharing_meets to (Some (construct.Group name)) e = k.lacks []
  end_worksharing_meets to None e = k.lacks []

  -- ---- masked regions

  filtered_meets : (to otherwise : ℕ) (runs : Bool) → Met (filtered_row worker to otherwise stack.top runs)
  filtered_meets to otherwise true =
      k.goes _ (edits to 1 (Open construct.Masked)) _ (refl, tt) (
        like_open stack.top _ construct.Masked (record { task = refl; kind = refl; team = refl; births = omega arith; regions = refl }) refl
            (λ lock. refl) (λ which. refl) (λ region iteration. refl) tt,
        refl,
      ) (λ region iteration. omega arith)
  filtered_meets to otherwise false = go worker stack s P k _ otherwise 1 None [] (refl, tt)

  pub masked_meets : (to otherwise : ℕ) (number : Option ℤ) → Met (masked_row worker to otherwise stack.top number)
  masked_meets to otherwise (Some n) = filtered_meets to otherwise (int_eq n (pos stack.top.team.number))
  masked_meets to otherwise None = k.lacks []

  pub end_masked_meets : (to : ℕ) (region : Option Construct) → innermost stack.top.constructs ≡ region
      → Met (end_masked_row worker to stack.top region)
  end_masked_meets to (Some construct.Masked) e = closed _ to construct.Masked _ e (λ lock. refl) (refl, tt)
  end_masked_meets to (Some (construct.Share share)) e = k.lacks []
  end_masked_meets to (Some (construct.Single runs)) e = k.lacks []
  end_masked_meets to (Some (construct.Critical lock)) e = k.lacks []
  end_masked_meets to (Some (construct.Group name)) e = k.lacks []
  end_masked_meets to None e = k.lacks []

  -- ---- critical regions

  pub ask_critical_meets : (to : ℕ) (name : List ℕ) → Met (ask_critical_row worker to name)
  ask_critical_meets to name = go worker stack s P k _ to 0 None _ (refl, tt)

  lock_meets : (to lock : ℕ) (name : List ℕ) (names : List Access) (holder : Option ℕ)
      → holder_in (s (obj.Lock lock)) ≡ holder → AreUntraced names
      → P (write (obj.Lock lock) ∷ names) (lock_row worker to lock name holder)
  lock_meets to lock name names None e h = k.enters lock to names _ e h
  lock_meets to lock name names (Some other) e h = k.blocked _ (blocked.Critical other)

  pub enter_critical_meets : (to lock : ℕ) (name : List ℕ) → Met (enter_critical_row worker to lock name)
  enter_critical_meets to lock name =
      lock_meets to lock name _ (holder_in (s (obj.Lock lock))) refl (refl, tt)

  pub leave_critical_meets : (to lock : ℕ) (name : List ℕ)
      → Met (leave_critical_row worker to lock name (innermost stack.top.constructs))
  leave_critical_meets to lock name =
      if_meets worker stack s P k (is_critical lock (innermost stack.top.constructs)) _ _
      (λ is. k.exits lock to _ _ is (refl, tt)) (λ is. k.lacks [])
