-- What the names of a source mean at the instructions that the uses of its variables gave (C17 6.2.1p4; OpenMP API 5.2,
-- section 5.1).
use Rattle.std.specs.Prelude.{◌≡◌, ◌<◌, ◌⊎◌, ℕ, ◌+◌, List, [], ◌∷◌, Option, None, Some, Contains, false, slice_get}
use Rattle.om_code.specs.declared.instruction.Instr.{Instr}
use Rattle.om_code.specs.declared.instruction.Instr.TheVariants as i
use Rattle.om_code.specs.declared.instruction.Serial.TheVariants as serials
use Rattle.om_code.specs.declared.instruction.Sharing.TheVariants as sharings
use Rattle.om_code.specs.declared.instruction.Place.{Place}
use Rattle.om_code.specs.declared.instruction.Place.TheVariants as places
use Rattle.om_code.specs.declared.raw.Body.{Body}
use Rattle.om_code.specs.declared.raw.Line.{Line}
use Rattle.om_code.specs.declared.raw.Raw.{Raw}
use Rattle.om_code_places.specs.declared.visible.Var.TheVariants as var
use Rattle.om_code_places.specs.Visible.{innermost, slot_var, variable_at}
use Rattle.om_lower_rules.specs.Bodies.{BodySite, FunctionBody, Numbers, variables_of}
use Rattle.om_lower_rules.specs.Code.{IsBodyOf}
use Rattle.om_lower_rules.specs.Scopes.{slot_among}
use Rattle.om_lower_rules.specs.Slots.{place_of}
use Rattle.om_scope_rules.specs.TreePlaces as spots
use Rattle.om_scope_rules.specs.TreePlaces.{Declared, Begun, function_places}
use Rattle.om_scope_tree.specs.declared.resolved.Variable.TheVariants as named
use Rattle.om_scope_tree.specs.ResolvedTree.{ResolvedFunctionTree, ResolvedTree}
use Rattle.om_name_laws.specs.Sees.{SeesNames, global_as}

-- the variable that an instruction reads or writes, where that is one alone: RED names a copy and its original
abbrev pub named_place : Instr → Option Place
named_place (i.Serial (serials.Load place)) = Some place
named_place (i.Serial (serials.Store place keeps)) = Some place
named_place (i.Serial (serials.LoadElement place)) = Some place
named_place (i.Serial (serials.StoreElement place keeps)) = Some place
named_place (i.Serial (serials.Clear slot)) = Some (places.Slot slot)
named_place (i.Serial (serials.Atomic operator side place)) = Some place
named_place (i.Serial (serials.AtomicElement operator side place)) = Some place
named_place (i.Sharing (sharings.Iterate slot otherwise)) = Some (places.Slot slot)
named_place _ = None

-- one of these places is a variable of this name that is declared, or copied, at this byte
abbrev pub IsDeclared : List ℕ → (at : ℕ) → List spots.Place → Type 0
IsDeclared name at [] = ⊥
IsDeclared name at (Declared v ∷ ps) = ((v.name ≡ name) × (v.at ≡ at)) ⊎ IsDeclared name at ps
IsDeclared name at (Begun span ∷ ps) = IsDeclared name at ps

-- the whole body of a function
abbrev pub function_site : ResolvedFunctionTree → Numbers → BodySite
function_site f n = record { function = f; tree = FunctionBody; outer = []; numbers = n }

-- ---- the two kinds of instructions at which the name of a variable does not mean it

-- this instruction stands there
abbrev pub IsAt : Body → ℕ → Instr → Type 0
IsAt body p x = (line : ℕ) × (slice_get body.code p ≡ Some (record { instruction = x; line = line }))

-- The load with which a firstprivate copy of a worksharing construct begins: the next instruction stores the value into
-- a copy of the same name, and the name means the copy already.
abbrev pub IsCopied : Raw → ResolvedFunctionTree → Numbers → (number : ℕ) → Body → (p : ℕ) → List ℕ → Type 0
IsCopied raw f n number body p name =
    (copy : ℕ) × IsDeclared name copy (function_places f)
    × (variable_at raw number p name ≡ slot_var None (slot_among (variables_of (function_site f n)) copy))
    × IsAt body (p + 1) (i.Serial (serials.Store (place_of (variables_of (function_site f n)) (named.Local copy)) false))

-- A bound that reads the variable of its own loop: the ITER of this variable stands behind it.
abbrev pub IsEarly : Body → (p slot : ℕ) → Type 0
IsEarly body p slot = (at other : ℕ) × (p < at) × IsAt body at (i.Sharing (sharings.Iterate slot other))

-- ---- the law

-- at p the name of the variable that slot has means the slot
abbrev pub VariableMeant : Raw → ResolvedFunctionTree → Numbers → (number : ℕ) → Body → (p slot x : ℕ) → Type 0
VariableMeant raw f n number body p slot x =
    (name : List ℕ) × IsDeclared name x (function_places f)
    × (((length : Option ℕ) × (variable_at raw number p name ≡ Some (var.Slot slot length)))
    ⊎ (IsCopied raw f n number body p name ⊎ IsEarly body p slot))

-- at p no variable of the function hides the global of this number
abbrev pub GlobalMeant : ResolvedTree → Raw → ResolvedFunctionTree → Numbers → (number : ℕ) → Body → (p g : ℕ) → Type 0
GlobalMeant tree raw f n number body p g =
    (name : List ℕ) × (global_as name tree.globals ≡ Some g)
    × ((innermost p name body.names.scopes ≡ None) ⊎ IsCopied raw f n number body p name)

-- in the body of this number, which is the code of a function
pub record NamesMean (tree : ResolvedTree) (raw : Raw) (f : ResolvedFunctionTree) (n : Numbers) (number : ℕ)
    (body : Body) : Type 0 where
  pub variable : (p slot x : ℕ) (line : Line) → slice_get body.code p ≡ Some line
      → named_place line.instruction ≡ Some (places.Slot slot)
      → slice_get (variables_of (function_site f n)) slot ≡ Some x → VariableMeant raw f n number body p slot x
  pub global : (p g : ℕ) (line : Line) → slice_get body.code p ≡ Some line
      → named_place line.instruction ≡ Some (places.Global g) → GlobalMeant tree raw f n number body p g

-- Where a tree sees its names, the name of a variable means, at each instruction that a use of it gave in the body of
-- a function, the very place that the instruction names.
abbrev pub NamesMeanVariables : Type 0
NamesMeanVariables =
    (tree : ResolvedTree) (raw : Raw) (f : ResolvedFunctionTree) (n : Numbers) (number : ℕ) (body : Body)
    → SeesNames tree → Contains tree.functions f → IsBodyOf tree raw (function_site f n) body
    → slice_get raw.bodies number ≡ Some body → NamesMean tree raw f n number body
