-- Which variable a name means at an instruction of a program (C17 6.2.1p4).
--
-- It is the innermost one of that name that is in scope there. In the body of a region that is the innermost one
-- of the body itself, and if there is none, the one that the name means where the region's directive stands; the
-- body may have no slot for that one, since no part of it uses it. Where no variable of the function is in scope
-- under the name, it means the global variable of that name.
use Rattle.std.specs.Prelude.{ℕ, zero, suc, ◌+◌, List, [], ◌∷◌, Option, None, Some, Bool, false, ◌&&◌, nat_eq, nat_le, nat_lt}
use Rattle.std.specs.Prelude.{position, slice_get, if◌then◌else◌}
use Rattle.std.specs.Str.{bytes_eq}
use Rattle.om_code.specs.declared.instruction.Instr.{Instr}
use Rattle.om_code.specs.declared.instruction.Instr.TheVariants as i
use Rattle.om_code.specs.declared.instruction.Team.TheVariants as teams
use Rattle.om_code.specs.declared.instruction.Task.TheVariants as taskings
use Rattle.om_code.specs.declared.raw.Body.{Body}
use Rattle.om_code.specs.declared.raw.GlobalVariable.{GlobalVariable}
use Rattle.om_code.specs.declared.raw.Line.{Line}
use Rattle.om_code.specs.declared.raw.Raw.{Raw}
use Rattle.om_code.specs.declared.raw.Scope.{Scope}
use Rattle.om_code_places.specs.declared.visible.Around.{Around}
use Rattle.om_code_places.specs.declared.visible.Local.{Local}
use Rattle.om_code_places.specs.declared.visible.Var.{Var}
use Rattle.om_code_places.specs.declared.visible.Var.TheVariants as var

-- the number of the global variable of a name
abbrev pub global_named : Raw → List ℕ → Option ℕ
global_named raw name = position (λ (global : GlobalVariable). bytes_eq global.name name) raw.globals

abbrev pub global_var : Option ℕ → Option Var
global_var None = None
global_var (Some number) = Some (var.Global number)

-- ---- in one body

-- a scope holds an instruction, and is one of this name
abbrev pub holds : (at : ℕ) → List ℕ → Scope → Bool
holds at name scope = nat_le scope.from at && (nat_lt at scope.to && bytes_eq name scope.name)

-- the variable of the innermost scope that does, which stands first
abbrev pub innermost : (at : ℕ) → List ℕ → List Scope → Option Local
innermost at name [] = None
innermost at name (scope ∷ rest) =
    if holds at name scope then Some (record { slot = scope.slot; length = scope.length })
    else innermost at name rest

abbrev pub slot_var : (length : Option ℕ) → (slot : Option ℕ) → Option Var
slot_var length None = None
slot_var length (Some slot) = Some (var.Slot slot length)

-- ---- in the body round a region

abbrev pub starts_body : ℕ → Instr → Bool
starts_body number (i.Team (teams.Fork body sized values)) = nat_eq body number
starts_body number (i.Task (taskings.Spawn body values)) = nat_eq body number
starts_body number _ = false

-- FORK and SPAWN of a body
abbrev pub starts : ℕ → Line → Bool
starts number line = starts_body number line.instruction

abbrev pub start_in : ℕ → Option Body → Option ℕ
start_in number None = None
start_in number (Some body) = position (starts number) body.code

abbrev pub around_or : (body : ℕ) → Option ℕ → Option Around → Option Around
around_or body None rest = rest
around_or body (Some at) rest = Some (record { body = body; at = at })

-- where the directive of a region's body stands: the instruction that starts the body, in a body below k
abbrev pub around_below : List Body → (number k : ℕ) → Option Around
around_below bodies number zero = None
around_below bodies number (suc k) =
    around_or k (start_in number (slice_get bodies k)) (around_below bodies number k)

-- the slot of the body round a body is this one
abbrev pub is_slot : ℕ → Option ℕ → Bool
is_slot slot None = false
is_slot slot (Some other) = nat_eq other slot

-- a variable of the body round a body, as this body has it
abbrev pub as_inner : List (Option ℕ) → Option Var → Option Var
as_inner outer None = None
as_inner outer (Some (var.Global number)) = Some (var.Global number)
as_inner outer (Some (var.Slot slot length)) = slot_var length (position (is_slot slot) outer)

-- ---- all together

abbrev pub round_meant : Option Var → List (Option ℕ) → Option Around → (Around → Option Var) → Option Var
round_meant global outer None meant = global
round_meant global outer (Some around) meant = as_inner outer (meant around)

abbrev pub meant_or : Option Local → Option Var → Option Var
meant_or (Some local) round = slot_var local.length local.slot
meant_or None round = round

-- in the body of this number, if there is one; else by what the name means at another instruction
abbrev pub meant_in : Raw → (number at : ℕ) → List ℕ → Option Body → (Around → Option Var) → Option Var
meant_in raw number at name None meant = global_var (global_named raw name)
meant_in raw number at name (Some body) meant =
    meant_or (innermost at name body.names.scopes)
    (round_meant (global_var (global_named raw name)) body.names.outer (around_below raw.bodies number number) meant)

-- in a body, or else in the body round it, and so on, so many times
abbrev pub meant : (steps : ℕ) → Raw → (body at : ℕ) → List ℕ → Option Var
meant zero raw body at name = None
meant (suc steps) raw body at name =
    meant_in raw body at name (slice_get raw.bodies body) (λ around. meant steps raw around.body around.at name)

-- a region stands in a body of a lower number
abbrev pub variable_at : Raw → (body at : ℕ) → List ℕ → Option Var
variable_at raw body at name = meant (body + 1) raw body at name
