-- The limits on bodies, and which functions pass them.
use Rattle.std.specs.Prelude.{◌≡◌, ◌<◌, ◌≤◌, ℕ, Bool, true, false, List, [], ◌∷◌, ◌++◌, All, Any, length, map, sum}
use Rattle.om_code.specs.declared.raw.Line.{Line}
use Rattle.om_code.specs.declared.raw.Slot.{Slot}
use Rattle.om_code.specs.declared.raw.Source.{Source}
use Rattle.om_code.specs.declared.raw.Source.TheVariants.{Own, Outer}
use Rattle.om_code.specs.Validity.{IsLow}
use Rattle.om_lexer.specs.declared.fault.FaultCode.TheVariants.{TooMany}
use Rattle.om_lexer.specs.declared.fault.SourceFault.{SourceFault}
use Rattle.om_scope_tree.specs.ResolvedTree.{ResolvedFunctionTree, ResolvedTree}
use Rattle.om_scope_tree.specs.Uses.{is_main_function}
use Rattle.om_lower_rules.specs.Bodies.{BodySite, behind_functions, bodies_from, bodies_of, first_numbers, function_bodies}
use Rattle.om_lower_rules.specs.Bodies.{variables_of}
use Rattle.om_lower_rules.specs.Code.{body_row, slots_of}
use Rattle.om_lower_rules.specs.declared.variables.VariableScope.{VariableScope}
use Rattle.om_lower_rules.specs.Scopes.{body_scopes}
use Rattle.om_lower_rules.specs.Numbered.{numbered_in, site_with}

-- the cells that a frame has of its own for a slot
abbrev pub cells_at : Source → (cells : ℕ) → ℕ
cells_at Own cells = cells
cells_at (Outer number) cells = 0

abbrev pub own_cells : Slot → ℕ
own_cells slot = cells_at slot.source slot.cells

abbrev pub frame_cells : List Slot → ℕ
frame_cells slots = sum (map own_cells slots)

-- this is the code of a body, in a program with these lists of PICK
abbrev pub IsCodeAt : ResolvedTree → (picks : List (List ℕ)) → BodySite → List Line → Type 0
IsCodeAt tree picks b code =
    body_row (site_with (numbered_in tree (variables_of b) (is_main_function b.function)) code picks) b.numbers
    b.function b.tree 0 (length code)

-- these are the scopes in it, all of which end with it
abbrev pub AreScopesAt : ResolvedTree → (picks : List (List ℕ)) → BodySite → List Line → List VariableScope → Type 0
AreScopesAt tree picks b code scopes =
    body_scopes (site_with (numbered_in tree (variables_of b) (is_main_function b.function)) code picks) b.function
    b.tree 0 (length code) (record { opened = []; closed = scopes })

abbrev pub HasFewSlots : BodySite → Type 0
HasFewSlots b = length (variables_of b) ≤ 256

abbrev pub HasManySlots : BodySite → Type 0
HasManySlots b = 256 < length (variables_of b)

abbrev pub HasSlots : (few : Bool) → BodySite → Type 0
HasSlots true b = HasFewSlots b
HasSlots false b = HasManySlots b

-- at most 256 slots, and 4,096 cells of its own
pub record HasRoom (b : BodySite) : Type 0 where
  pub slots : length (variables_of b) ≤ 256
  pub cells : frame_cells (slots_of b) ≤ 4096

-- and code of at most 65,536 instructions, with at most 256 operands at once
pub record IsWithin (tree : ResolvedTree) (b : BodySite) : Type 0 where
  pub room : HasRoom b
  pub picks : List (List ℕ)
  pub code : List Line
  pub is_code : IsCodeAt tree picks b code
  pub short : length code ≤ 65536
  pub low : IsLow picks code

-- no body of a tree passes a limit
abbrev pub AreWithin : ResolvedTree → Type 0
AreWithin tree = All (λ b. IsWithin tree b) (bodies_of tree)

-- a limit is passed
pub data IsOver (tree : ResolvedTree) (b : BodySite) : Type 0 where
  many_slots : 256 < length (variables_of b) → IsOver tree b
  many_cells : 4096 < frame_cells (slots_of b) → IsOver tree b
  long : (picks : List (List ℕ)) (code : List Line) → IsCodeAt tree picks b code → 65536 < length code
      → IsOver tree b
  high : (picks : List (List ℕ)) (code : List Line) → IsCodeAt tree picks b code → ¬ (IsLow picks code)
      → IsOver tree b

-- S11 at the name of the first function that has a body which passes a limit
pub record IsTooMany (tree : ResolvedTree) (fault : SourceFault) : Type 0 where
  pub before : List ResolvedFunctionTree
  pub function : ResolvedFunctionTree
  pub after : List ResolvedFunctionTree
  pub functions : tree.functions ≡ before ++ function ∷ after
  pub within : All (λ b. IsWithin tree b) (bodies_from first_numbers before)
  pub over : Any (λ b. IsOver tree b) (function_bodies (behind_functions first_numbers before) function)
  pub is : fault ≡ record { code = TooMany; at = function.name_at }
