-- Which places of a body are the access of an `atomic read` or an `atomic write` (OpenMP API 5.2, section 15.8.4).
--
-- All instructions of such a construct have the line of its directive, and no other code has that line. The code ends
-- by the store into the variable on the left. Of a `read` directly before it stands the load of the variable on the
-- right, which is the access; of a `write` the access is that store. What else the construct loads and stores, as the
-- index of an element or the operands of a value, is no access of it.
use Rattle.std.specs.Prelude.{ℕ, ◌+◌, List, [], ◌∷◌, Option, None, Some, Bool, true, false, not, ◌&&◌, nat_eq}
use Rattle.std.specs.Prelude.{if◌then◌else◌}
use Rattle.std.specs.BTreeMap.{is_at}
use Rattle.std.specs.Map.{lookup}
use Rattle.std.specs.Ordering.{nat_cmp}
use Rattle.om_code.specs.declared.instruction.Instr.{Instr}
use Rattle.om_code.specs.declared.instruction.Instr.TheVariants as i
use Rattle.om_code.specs.declared.instruction.Serial.TheVariants as serials
use Rattle.om_code.specs.declared.raw.Line.{Line}
use Rattle.om_scope_tree.specs.declared.resolved.AtomicAccess.{AtomicAccess}
use Rattle.om_scope_tree.specs.declared.resolved.AtomicAccess.TheVariants as accesses

abbrev pub is_load : Instr → Bool
is_load (i.Serial (serials.Load place)) = true
is_load (i.Serial (serials.LoadElement place)) = true
is_load _ = false

abbrev pub is_store : Instr → Bool
is_store (i.Serial (serials.Store place keeps)) = true
is_store (i.Serial (serials.StoreElement place keeps)) = true
is_store _ = false

-- behind an instruction of this line no other one of it follows
abbrev pub is_last : ℕ → (behind : List Line) → Bool
is_last line [] = true
is_last line (next ∷ behind) = not (nat_eq next.line line)

-- behind it one more follows
abbrev pub is_last_but_one : ℕ → (behind : List Line) → Bool
is_last_but_one line [] = false
is_last_but_one line (next ∷ behind) = nat_eq next.line line && is_last line behind

-- whether an instruction, with those behind it, is the access of the `atomic` of its line, if there is one
abbrev pub is_access : Option AtomicAccess → Line → (behind : List Line) → Bool
is_access None one behind = false
is_access (Some accesses.Read) one behind = is_load one.instruction && is_last_but_one one.line behind
is_access (Some accesses.Write) one behind = is_store one.instruction && is_last one.line behind

-- what the `atomic` of a line does, by the table of a program
abbrev pub access_at : List (ℕ × AtomicAccess) → ℕ → Option AtomicAccess
access_at lines line = lookup (is_at (nat_cmp line)) lines

-- the places from this one on that are accesses
abbrev pub places_from : List (ℕ × AtomicAccess) → (place : ℕ) → List Line → List ℕ
places_from lines place [] = []
places_from lines place (one ∷ behind) =
    if is_access (access_at lines one.line) one behind
    then place ∷ places_from lines (place + 1) behind
    else places_from lines (place + 1) behind

-- those of a body
abbrev pub atomic_places : List (ℕ × AtomicAccess) → List Line → List ℕ
atomic_places lines code = places_from lines 0 code
