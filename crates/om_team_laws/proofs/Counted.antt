-- Which objects the counts of children are about, and what is there behind updates of other ones.
use Rattle.std.proofs.Common.{◌≡◌, refl, sym, ◌∙◌, ap, ℕ, zero, suc, ◌+◌, ℤ, Bool, true, false, cond}
use Rattle.std.proofs.Common.{List, [], ◌∷◌, ◌++◌, length}
use Rattle.std.specs.Prelude.{nat_eq}
use Rattle.std.specs.Cmp.Lexicographic.{pointwise}
use Rattle.om_foot.specs.declared.footprint.Access.{Access}
use Rattle.om_foot.specs.declared.footprint.Mode.{Mode}
use Rattle.om_foot.specs.declared.footprint.Mode.TheVariants as mode
use Rattle.om_foot.specs.declared.object.Obj.{Obj}
use Rattle.om_foot.specs.declared.object.Obj.TheVariants as obj
use Rattle.om_foot.specs.Footprint.{obj_eq}
use Rattle.om_foot.specs.Objects.{obj_eq-true}
use Rattle.om_code.specs.declared.instruction.Place.{Place}
use Rattle.om_code.specs.declared.instruction.Place.TheVariants as place
use Rattle.om_code.specs.declared.raw.Slot.{Slot}
use Rattle.om_state.specs.declared.control.Context.{Context}
use Rattle.om_state.specs.declared.control.Home.{Home}
use Rattle.om_state.specs.declared.control.Home.TheVariants.{Own, Elsewhere}
use Rattle.om_state.specs.declared.control.Team.{Team}
use Rattle.om_state.specs.declared.step.Update.{Update}
use Rattle.om_state.specs.declared.step.Update.TheVariants as update
use Rattle.om_state.specs.declared.value.Val.{Val}
use Rattle.om_state.specs.Homes.{cell_of}
use Rattle.om_state.specs.State.{State, state_after, updated, value_after}
use Rattle.om_state.specs.Values.{value_plus}
use Rattle.om_team_serial.specs.Objects.{add, given_cells, home_at, object_of, own_cells, own_from, own_slot, slot_cells}
use Rattle.om_team_worksharing.specs.Barriers.{arrivals, barrier}
use Rattle.om_team.specs.Teams.{member_cells, workers_from}

-- a count of children, and a task
abbrev pub is_count : Obj → Bool
is_count (obj.Kids task) = true
is_count (obj.Task name) = true
is_count (obj.Control worker) = false
is_count (obj.Work team region) = false
is_count (obj.Lock lock) = false
is_count (obj.Cell task frame slot index) = false
is_count (obj.Global variable index) = false
is_count (obj.Pending team phase) = false
is_count (obj.Arrived team number) = false
is_count (obj.Group name) = false
is_count obj.Output = false
is_count (obj.Events worker) = false

abbrev changes : Mode → Bool
changes mode.Read = false
changes mode.Write = true
changes mode.Add = true

-- whether an access may change one
abbrev pub may_count : Obj → Mode → Bool
may_count (obj.Kids task) m = changes m
may_count (obj.Task name) m = true
may_count (obj.Control worker) m = false
may_count (obj.Work team region) m = false
may_count (obj.Lock lock) m = false
may_count (obj.Cell task frame slot index) m = false
may_count (obj.Global variable index) m = false
may_count (obj.Pending team phase) m = false
may_count (obj.Arrived team number) m = false
may_count (obj.Group name) m = false
may_count obj.Output m = false
may_count (obj.Events worker) m = false

abbrev pub AreUncounted : List Access → Type 0
AreUncounted [] = Unit {0}
AreUncounted (a ∷ names) = (may_count a.object a.mode ≡ false) × AreUncounted names

-- ---- behind updates

read_keeps : (u : Update) (v : Val) → value_after mode.Read u v ≡ v
read_keeps (update.Put x) v = refl
read_keeps (update.Append x) v = refl
read_keeps (update.Add d) v = refl
read_keeps (update.Cut n) v = refl
read_keeps update.Keep v = refl

keeps_count : (q : Obj) (m : Mode) (u : Update) (v : Val) → may_count q m ≡ false → is_count q ≡ true
    → value_after m u v ≡ v
keeps_count (obj.Kids task) mode.Read u v h e = read_keeps u v
keeps_count (obj.Kids task) mode.Write u v h e = cc
keeps_count (obj.Kids task) mode.Add u v h e = cc
keeps_count (obj.Task name) m u v h e = cc
keeps_count (obj.Control worker) m u v h e = cc
keeps_count (obj.Work team region) m u v h e = cc
keeps_count (obj.Lock lock) m u v h e = cc
keeps_count (obj.Cell task frame slot index) m u v h e = cc
keeps_count (obj.Global variable index) m u v h e = cc
keeps_count (obj.Pending team phase) m u v h e = cc
keeps_count (obj.Arrived team number) m u v h e = cc
keeps_count (obj.Group name) m u v h e = cc
keeps_count obj.Output m u v h e = cc
keeps_count (obj.Events worker) m u v h e = cc

pub uncounted_one : (a : Access) (u : Update) (s : State) (q : Obj) → may_count a.object a.mode ≡ false
    → is_count q ≡ true → state_after a u s q ≡ s q
uncounted_one a u s q h e = by (obj_eq a.object q) refl
  where
    by : (b : Bool) → obj_eq a.object q ≡ b → cond b (value_after a.mode u (s q)) (s q) ≡ s q
    by true is =
        keeps_count q a.mode u (s q) (ap (λ o. may_count o a.mode) (sym (obj_eq-true a.object q is)) ∙ h) e
    by false is = refl

pub uncounted : (names : List Access) (us : List Update) (s : State) (q : Obj) → AreUncounted names
    → is_count q ≡ true → updated names us s q ≡ s q
uncounted [] us s q h e = refl
uncounted (a ∷ names) [] s q h e = refl
uncounted (a ∷ names) (u ∷ us) s q h e =
    uncounted names us (state_after a u s) q h.1 e ∙ uncounted_one a u s q h.0 e

-- a number is added to the count of a parent, behind as many updates as there are other names
pub added_behind : (names rest : List Access) (us more : List Update) (s : State) (parent p : List ℕ) (d : ℤ)
    → length names ≡ length us → AreUncounted names → AreUncounted rest
    → updated (names ++ add (obj.Kids parent) ∷ rest) (us ++ update.Add d ∷ more) s (obj.Kids p)
    ≡ cond (pointwise nat_eq parent p) (value_plus d (s (obj.Kids p))) (s (obj.Kids p))
added_behind [] rest [] more s parent p d e h k =
    uncounted rest more (state_after (add (obj.Kids parent)) (update.Add d) s) (obj.Kids p) k refl
added_behind [] rest (u ∷ us) more s parent p d e h k = cc
added_behind (a ∷ names) rest [] more s parent p d e h k = cc
added_behind (a ∷ names) rest (u ∷ us) more s parent p d e h k =
    let shorter : length names ≡ length us = cc in
    added_behind names rest us more (state_after a u s) parent p d shorter h.1 k
    ∙ ap (λ v. cond (pointwise nat_eq parent p) (value_plus d v) v) (uncounted_one a u s (obj.Kids p) h.0 refl)

-- ---- what rows name

pub uncounted_append : (xs ys : List Access) → AreUncounted xs → AreUncounted ys → AreUncounted (xs ++ ys)
uncounted_append [] ys h k = k
uncounted_append (x ∷ xs) ys h k = (h.0, uncounted_append xs ys h.1 k)

cell_uncounted : (task : List ℕ) (frame slot index : ℕ) (home : Home) (m : Mode)
    → may_count (cell_of task frame slot index home) m ≡ false
cell_uncounted task frame slot index Own m = refl
cell_uncounted task frame slot index (Elsewhere t f s) m = refl

pub object_uncounted : (c : Context) (p : Place) (index : ℕ) (m : Mode) → may_count (object_of c p index) m ≡ false
object_uncounted c (place.Global variable) index m = refl
object_uncounted c (place.Slot slot) index m =
    cell_uncounted c.task c.frame.ordinal slot index (home_at c.frame.homes slot) m

pub slot_uncounted : (task : List ℕ) (frame slot : ℕ) (home : Home) (index count : ℕ)
    → AreUncounted (slot_cells task frame slot home index count)
slot_uncounted task frame slot home index zero = tt
slot_uncounted task frame slot home index (suc count) = (
  cell_uncounted task frame slot index home mode.Write,
  slot_uncounted task frame slot home (index + 1) count,
)

pub given_uncounted : (task : List ℕ) (frame : ℕ) (slots : List ℕ) → AreUncounted (given_cells task frame slots)
given_uncounted task frame [] = tt
given_uncounted task frame (slot ∷ slots) = (refl, given_uncounted task frame slots)

own_slot_uncounted : (c : Context) (slot cells : ℕ) (home : Home) → AreUncounted (own_slot c slot cells home)
own_slot_uncounted c slot cells Own = slot_uncounted c.task c.frame.ordinal slot Own 0 cells
own_slot_uncounted c slot cells (Elsewhere t f s) = tt

own_from_uncounted : (c : Context) (number : ℕ) (slots : List Slot) → AreUncounted (own_from c number slots)
own_from_uncounted c number [] = tt
own_from_uncounted c number (slot ∷ slots) = uncounted_append _ _ (own_slot_uncounted c number slot.cells
    (home_at c.frame.homes number)) (own_from_uncounted c (number + 1) slots)

pub own_uncounted : (c : Context) (slots : List Slot) → AreUncounted (own_cells c slots)
own_uncounted c slots = own_from_uncounted c 0 slots

arrivals_uncounted : (team : List ℕ) (number count : ℕ) → AreUncounted (arrivals team number count)
arrivals_uncounted team number zero = tt
arrivals_uncounted team number (suc count) = (refl, arrivals_uncounted team (number + 1) count)

pub barrier_uncounted : (team : Team) (phase : ℕ) → AreUncounted (barrier team phase)
barrier_uncounted team phase = uncounted_append _ _ (arrivals_uncounted team.name 0 team.size) (refl, tt)

pub members_uncounted : (team given : List ℕ) (number count : ℕ) → AreUncounted (member_cells team given number count)
members_uncounted team given number zero = tt
members_uncounted team given number (suc count) = uncounted_append _ _ (given_uncounted (team ++ number ∷ []) 0 given)
    (members_uncounted team given (number + 1) count)

pub workers_uncounted : (worker count : ℕ) → AreUncounted (workers_from worker count)
workers_uncounted worker zero = tt
workers_uncounted worker (suc count) = (refl, workers_uncounted (worker + 1) count)
