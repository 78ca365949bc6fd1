-- Gentle updates, and accesses that add nothing.
use Rattle.std.proofs.Common.{◌≡◌, refl, ℕ, zero, suc, ◌+◌, ℤ, pos, negsuc, Bool, true, false, if◌then◌else◌, arith}
use Rattle.std.proofs.Common.{List, [], ◌∷◌, ◌++◌, replicate}
use Rattle.std.proofs.lemmas.Int.{ints}
use Rattle.om_foot.specs.declared.footprint.Access.{Access}
use Rattle.om_code.specs.declared.raw.Slot.{Slot}
use Rattle.om_state.specs.declared.control.Home.{Home}
use Rattle.om_state.specs.declared.control.Home.TheVariants.{Own, Elsewhere}
use Rattle.om_state.specs.declared.control.Context.{Context}
use Rattle.om_state.specs.declared.control.Frame.{Frame}
use Rattle.om_state.specs.declared.control.Team.{Team}
use Rattle.om_state.specs.declared.step.Update.{Update}
use Rattle.om_state.specs.declared.step.Update.TheVariants.{Keep, Add}
use Rattle.om_state.specs.declared.value.Val.{Val}
use Rattle.om_team_serial.specs.declared.row.Row.{Row}
use Rattle.om_team_serial.specs.declared.row.Row.TheVariants.{Lacks}
use Rattle.om_team_serial.specs.Rows.{Asked, decided}
use Rattle.om_team_serial.specs.Objects.{slot_cells, given_cells, own_slot, own_from, home_at, puts, deaths}
use Rattle.om_team_worksharing.specs.Barriers.{arrivals}
use Rattle.om_team.specs.Teams.{workers_from, member_cells, member_controls, member_puts, member}
use Rattle.om_team.specs.Counters.{IsWithin}
use Rattle.om_task.specs.Steps.{is_add, AddOnce}
use Rattle.om_task.proofs.Bounds.{AreGentle, RowWithin, AskedWithin}

-- no access adds
abbrev pub AddNone : List Access → Type 0
AddNone [] = Unit {0}
AddNone (a ∷ rest) = (is_add a.mode ≡ false) × AddNone rest

pub none_append : (xs ys : List Access) → AddNone xs → AddNone ys → AddNone (xs ++ ys)
none_append [] ys h k = k
none_append (x ∷ xs) ys h k = (h.0, none_append xs ys h.1 k)

-- where the first accesses don't add, the later ones alone count
pub once_append : (xs ys : List Access) → AddNone xs → AddOnce ys → AddOnce (xs ++ ys)
once_append [] ys h k = k
once_append (x ∷ xs) ys h k = ((λ e. cc (h.0)), once_append xs ys h.1 k)

pub once : (xs : List Access) → AddNone xs → AddOnce xs
once [] h = tt
once (x ∷ xs) h = ((λ e. cc (h.0)), once xs h.1)

pub slot_none : (task : List ℕ) (frame slot : ℕ) (home : Home) (index count : ℕ)
    → AddNone (slot_cells task frame slot home index count)
slot_none task frame slot home index zero = tt
slot_none task frame slot home index (suc count) = (refl, slot_none task frame slot home (index + 1) count)

pub given_none : (task : List ℕ) (frame : ℕ) (slots : List ℕ) → AddNone (given_cells task frame slots)
given_none task frame [] = tt
given_none task frame (slot ∷ slots) = (refl, given_none task frame slots)

own_slot_none : (c : Context) (slot cells : ℕ) (home : Home) → AddNone (own_slot c slot cells home)
own_slot_none c slot cells Own = slot_none c.task c.frame.ordinal slot Own 0 cells
own_slot_none c slot cells (Elsewhere t f s) = tt

pub own_none : (c : Context) (number : ℕ) (slots : List Slot) → AddNone (own_from c number slots)
own_none c number [] = tt
own_none c number (slot ∷ slots) = none_append _ _ (own_slot_none c number slot.cells
    (home_at c.frame.homes number)) (own_none c (number + 1) slots)

pub arrivals_none : (team : List ℕ) (number count : ℕ) → AddNone (arrivals team number count)
arrivals_none team number zero = tt
arrivals_none team number (suc count) = (refl, arrivals_none team (number + 1) count)

pub workers_none : (worker count : ℕ) → AddNone (workers_from worker count)
workers_none worker zero = tt
workers_none worker (suc count) = (refl, workers_none (worker + 1) count)

pub members_none : (team given : List ℕ) (number count : ℕ) → AddNone (member_cells team given number count)
members_none team given number zero = tt
members_none team given number (suc count) = none_append _ _ (given_none (team ++ number ∷ []) 0 given)
    (members_none team given (number + 1) count)

pub gentle_append : (n : ℕ) (us ws : List Update) → AreGentle n us → AreGentle n ws → AreGentle n (us ++ ws)
gentle_append n [] ws g h = h
gentle_append n (u ∷ us) ws g h = (g.0, gentle_append n us ws g.1 h)

pub puts_gentle : (n : ℕ) (ns : List ℤ) → AreGentle n (puts ns)
puts_gentle n [] = tt
puts_gentle n (x ∷ ns) = ((tt, tt), puts_gentle n ns)

pub deaths_gentle : (n : ℕ) (own : List Access) → AreGentle n (deaths own)
deaths_gentle n [] = tt
deaths_gentle n (a ∷ own) = ((tt, tt), deaths_gentle n own)

pub keeps_gentle : (n k : ℕ) → AreGentle n (replicate k Keep)
keeps_gentle n zero = tt
keeps_gentle n (suc k) = (tt, keeps_gentle n k)

-- a member of a team begins with nothing counted
pub member_within : (n : ℕ) (team : Team) (frame : Frame) → IsWithin n (member team frame)
member_within n team frame = record {
  births = omega arith;
  regions = omega arith;
  phase = omega arith;
  frames = omega arith;
}

pub controls_gentle : (n : ℕ) (team : Team) (frame : Frame) (number count : ℕ)
    → AreGentle n (member_controls team frame number count)
controls_gentle n team frame number zero = tt
controls_gentle n team frame number (suc count) = (
  (tt, (member_within n (record team { number = number }) frame, tt)),
  controls_gentle n team frame (number + 1)
      count,
)

pub values_gentle : (n : ℕ) (ns : List ℤ) (count : ℕ) → AreGentle n (member_puts ns count)
values_gentle n ns zero = tt
values_gentle n ns (suc count) = gentle_append n (puts ns) (member_puts ns count) (puts_gentle n ns)
    (values_gentle n ns count)

pub up_gentle : (n : ℕ) → AreGentle n (Add (pos 1) ∷ [])
up_gentle n = ((omega (arith, ints), omega (arith, ints)), tt)

pub down_gentle : (n : ℕ) → AreGentle n (Add (negsuc 0) ∷ [])
down_gentle n = ((omega (arith, ints), omega (arith, ints)), tt)

-- an instruction whose row lacks what it needs
pub lacks : (n : ℕ) (values : List Val) → AskedWithin n (decided Lacks) values
lacks n values = record { names = tt; row = tt }

pub by_control : (n : ℕ) (r : Row) (values : List Val) → RowWithin n r → AskedWithin n (decided r) values
by_control n r values h = record { names = tt; row = h }

-- one that adds nothing
pub plain : (n : ℕ) (a : Asked) (values : List Val) → AddNone a.names → RowWithin n (a.row values) → AskedWithin n a
    values
plain n a values h k = record { names = once a.names h; row = k }

pub if_row : (n : ℕ) (b : Bool) (x y : Row) → RowWithin n x → RowWithin n y → RowWithin n (if b then x else y)
if_row n true x y h k = h
if_row n false x y h k = k

pub if_asked : (n : ℕ) (b : Bool) (x y : Asked) (values : List Val) → AskedWithin n x values → AskedWithin n y
    values → AskedWithin n (if b then x else y) values
if_asked n true x y values h k = h
if_asked n false x y values h k = k
