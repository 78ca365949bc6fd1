-- Bodies that were made, before all of their program is.
use Rattle.std.specs.Prelude.{◌≡◌, ◌≤◌, ◌<◌, ◌⊎◌, ℕ, List, [], ◌∷◌, ◌++◌, Option, None, Some, Bool, true, false, All}
use Rattle.std.specs.Prelude.{Any, IfSome, Vec, length, map, slice_get, take}
use Rattle.std.specs.declared.alloc.Global.{Global}
use Rattle.std.specs.List.{AllZip, flat_map}
use Rattle.om_lower.specs.declared.body.Emitted.{Emitted}
use Rattle.om_lower.specs.Emitted.{FitsRow}
use Rattle.om_code.specs.declared.raw.Body.{Body}
use Rattle.om_code.specs.declared.raw.Line.{Line}
use Rattle.om_code.specs.declared.raw.Names.{Names}
use Rattle.om_lower_emit.specs.declared.draft.PickList.{PickList}
use Rattle.om_lower_emit.specs.Settled.{ListsStand, number_of}
use Rattle.om_lower.specs.declared.bodies.Bodies.{Bodies}
use Rattle.om_lower.specs.declared.functions.Lowered.{Lowered}
use Rattle.om_lower.specs.declared.functions.Next.{Next}
use Rattle.om_lower.specs.declared.functions.Placed.{Placed}
use Rattle.om_lower.specs.Heights.{AreLow, IsFirst}
use Rattle.om_lower.specs.Limits.{AreScopesAt, HasRoom, IsCodeAt, IsOver}
use Rattle.om_lower.specs.Once.{site_picks}
use Rattle.om_lower_rules.specs.declared.variables.VariableScope.{VariableScope}
use Rattle.om_scope_tree.specs.ResolvedTree.{ResolvedFunctionTree, ResolvedTree}
use Rattle.om_scope_tree.specs.Weights.{function_weight}
use Rattle.om_lower_tables.specs.Room.{HasNumbers}
use Rattle.om_lower_rules.specs.AtomicPlaces.{atomic_places}
use Rattle.om_lower_rules.specs.Mentions.{atomic_lines}
use Rattle.om_lower_rules.specs.Bodies.{BodySite, Numbers, behind_function, behind_functions, bodies_from, first_numbers}
use Rattle.om_lower_rules.specs.Bodies.{function_bodies, variables_of}
use Rattle.om_lower_rules.specs.Code.{given_of, slots_of}
use Rattle.om_lower_rules.specs.Coded.{BodyHasCode}
use Rattle.om_lower_rules.specs.Scopes.{names_with}
use Rattle.om_lower_rules.specs.Positions.{StandsAt}
use Rattle.om_scope_tree.specs.ResolvedView as view
use Rattle.om_scope_tree.specs.Uses.{is_main_function}
use Rattle.om_lower_rules.specs.Numbered.{numbered_in}
use Rattle.om_lower_rules.specs.declared.tables.Tables.{Tables}
use Rattle.om_lower_rules.specs.Ends.{function_ends}
use Rattle.om_lower_rules.specs.Numbering.{numbers_of}
use Rattle.om_lower_rules.specs.ProgramTables.{AreCellsOf, ends_in}

-- what names mean in a body, by its function and its scopes, in every program that has these lists of PICK
pub record AreNames (tree : ResolvedTree) (lists : List PickList) (b : BodySite) (code : List Line) (names : Names)
    : Type 0 where
  pub scopes : List VariableScope
  pub stand : (picks : List (List ℕ)) → ListsStand lists picks → AreScopesAt tree picks b code scopes
  pub named : names ≡ names_with b.function.name (variables_of b) b.outer scopes

-- a body of the tree, in every program that has these lists of PICK
pub record IsMade (tree : ResolvedTree) (lists : List PickList) (b : BodySite) (body : Body) : Type 0 where
  pub code : (picks : List (List ℕ)) → ListsStand lists picks → IsCodeAt tree picks b body.code
  pub slots : body.slots ≡ slots_of b
  pub given : body.given ≡ given_of b
  pub atomic : body.atomic ≡ atomic_places (atomic_lines tree) body.code
  pub names : AreNames tree lists b body.code body.names
  pub room : HasRoom b
  pub short : length body.code ≤ 65536

abbrev pub AreMade : ResolvedTree → (lists : List PickList) → List BodySite → List Body → Type 0
AreMade tree lists sites bodies = AllZip (λ b body. IsMade tree lists b body) sites bodies

-- these lists are those of the bodies
abbrev pub AreListsOf : List BodySite → List PickList → Type 0
AreListsOf sites lists = map number_of lists ≡ flat_map site_picks sites

-- the bodies of the first functions, function by function
abbrev pub AreFunctions : ResolvedTree → (lists : List PickList) → Numbers → List ResolvedFunctionTree
    → List (List Body) → Type 0
AreFunctions tree lists n fs [] = Unit {0}
AreFunctions tree lists n [] (bodies ∷ rest) = ⊥
AreFunctions tree lists n (f ∷ fs) (bodies ∷ rest) = AreMade tree lists (function_bodies n f) bodies
    × AreFunctions tree lists (behind_function n f) fs rest

-- the code of a body of a tree, by the tables of that tree; none where it has too many instructions
abbrev pub FitsCode : ResolvedTree → BodySite → Option Emitted → Type 0
FitsCode tree b made =
    FitsRow (numbered_in tree (variables_of b) (is_main_function b.function)) b.numbers b.function b.tree made

-- a body that is put behind others with the lists of the PICKs in it, unless it passes a limit
abbrev pub AddsBody : ResolvedTree → BodySite → Bodies → Bodies → (fits : Bool) → Type 0
AddsBody tree b old new false = IsOver tree b
AddsBody tree b old new true = (body : Body) × (lists : List PickList) × IsMade tree lists b body
    × (map number_of lists ≡ site_picks b)
    × (new.bodies ≡ old.bodies ++ body ∷ []) × (new.lists ≡ old.lists ++ lists)

-- bodies, if none passes a limit
abbrev pub FitsBodies : ResolvedTree → List BodySite → Option Bodies → Type 0
FitsBodies tree sites None = Any (λ b. IsOver tree b) sites
FitsBodies tree sites (Some made) = AreMade tree made.lists sites made.bodies × AreListsOf sites made.lists

-- bodies that were added to none, unless one passes a limit
abbrev pub AreAdded : ResolvedTree → List BodySite → Bodies → (fits : Bool) → Type 0
AreAdded tree sites made false = FitsBodies tree sites None
AreAdded tree sites made true = FitsBodies tree sites (Some made)

-- items are put behind others, or nothing changes
abbrev pub IsPut : {A : Type 0} → (put : Bool) → (old more new : List A) → Type 0
IsPut false old more new = new ≡ old
IsPut true old more new = new ≡ old ++ more

-- the bodies of a function are put behind those of other ones with their lists, or nothing changes
abbrev pub PutsBodies : Bodies → Lowered → Lowered → (put : Bool) → Type 0
PutsBodies bodies old new put = IsPut put old.functions (bodies.bodies ∷ []) new.functions

abbrev pub PutsLists : Bodies → Lowered → Lowered → (put : Bool) → Type 0
PutsLists bodies old new put = IsPut put old.lists bodies.lists new.lists

-- the bodies of a function, if none passes a limit
abbrev pub FitsFunction : ResolvedTree → Numbers → ResolvedFunctionTree → Option Bodies → Type 0
FitsFunction tree n f made = FitsBodies tree (function_bodies n f) made

-- the bodies of a function are put behind others, unless one passes a limit
abbrev pub AddsFunction : ResolvedTree → Numbers → ResolvedFunctionTree → Lowered → Lowered → (fits : Bool) → Type 0
AddsFunction tree n f old new false = FitsFunction tree n f None
    × (new.functions ≡ old.functions) × (new.lists ≡ old.lists)
AddsFunction tree n f old new true = (bodies : Bodies) × FitsFunction tree n f (Some bodies)
    × (new.functions ≡ old.functions ++ bodies.bodies ∷ []) × (new.lists ≡ old.lists ++ bodies.lists)

-- the variables of one body are put behind those of the bodies before it
abbrev pub AddsVariables : BodySite → (old new : Vec (List ℕ) Global) → Type 0
AddsVariables b old new = new.items ≡ old.items ++ variables_of b ∷ []

-- the variables of these bodies are put behind those of the bodies before them; nothing is said unless they fit
abbrev pub AddsAllVariables : List BodySite → (old new : Vec (List ℕ) Global) → (fits : Bool) → Type 0
AddsAllVariables bodies old new fits = fits ≡ true → new.items ≡ old.items ++ map variables_of bodies

abbrev pub next_function : Next → ResolvedFunctionTree
next_function next = view.function next.function.now

abbrev pub next_numbers : Next → Numbers
next_numbers next = numbers_of next.numbers

-- the bodies of a function that is lowered next
abbrev pub next_bodies : Next → List BodySite
next_bodies next = function_bodies (next_numbers next) (next_function next)

-- they are put behind others, unless one passes a limit
abbrev pub AddsNext : ResolvedTree → Next → Lowered → Lowered → (fits : Bool) → Type 0
AddsNext tree next old new fits = AddsFunction tree (next_numbers next) (next_function next) old new fits

-- a function can be lowered next: its bodies have code, its cells and the numbers behind its bodies are known, and
-- so are the variables of all bodies before them; and numbers of 32 bits are enough for it
pub record IsNext (tables : Tables) (slots : List (List ℕ)) (next : Next) : Type 0 where
  pub cells : AreCellsOf (next_function next) next.extents.now
  pub code : All (λ b. BodyHasCode b.function b.tree) (function_bodies (next_numbers next) (next_function next))
  pub ends : StandsAt (ends_in tables) (next_numbers next).bodies
      (function_ends (next_numbers next) (next_function next))
  pub before : length slots ≡ (next_numbers next).bodies
  pub room : HasNumbers (function_weight (next_function next)) next.numbers

-- the first function without bodies passes a limit
pub record Stops (tree : ResolvedTree) (functions : List (List Body)) : Type 0 where
  pub within : length functions < length tree.functions
  pub function : ResolvedFunctionTree
  pub there : slice_get tree.functions (length functions) ≡ Some function
  pub over : Any (λ b. IsOver tree b)
      (function_bodies (behind_functions first_numbers (take (length functions) tree.functions)) function)

-- all functions have bodies, or those up to the first that passes a limit
abbrev pub StopsUnless : (is_whole : Bool) → ResolvedTree → List (List Body) → Type 0
StopsUnless true tree functions = length functions ≡ length tree.functions
StopsUnless false tree functions = Stops tree functions

-- the functions that have bodies
abbrev pub functions_in : ResolvedTree → List (List Body) → List ResolvedFunctionTree
functions_in tree functions = take (length functions) tree.functions

-- the bodies of functions, with so many lists of PICK
pub record IsGathered (tree : ResolvedTree) (lists : List PickList) (count : ℕ) (functions : List (List Body))
    (is_whole : Bool) : Type 0 where
  pub made : AreFunctions tree lists first_numbers tree.functions functions
  pub stops : StopsUnless is_whole tree functions
  pub listed : AreListsOf (bodies_from first_numbers (functions_in tree functions)) lists
  pub counted : count ≡ (behind_functions first_numbers (functions_in tree functions)).picks

-- what is lowered has them
abbrev pub AreGathered : ResolvedTree → Lowered → Type 0
AreGathered tree made = IsGathered tree made.lists made.count made.functions made.is_whole

-- the bodies of functions, in a program with these lists of PICK
pub record IsLowered (tree : ResolvedTree) (picks : List (List ℕ)) (functions : List (List Body))
    (is_whole : Bool) : Type 0 where
  pub lists : List PickList
  pub stand : ListsStand lists picks
  pub made : AreFunctions tree lists first_numbers tree.functions functions
  pub stops : StopsUnless is_whole tree functions
  pub long : length picks ≡ (behind_functions first_numbers (functions_in tree functions)).picks

-- what is placed has them, with its lists
abbrev pub ArePlaced : ResolvedTree → Placed → Type 0
ArePlaced tree placed = IsLowered tree placed.picks placed.functions placed.is_whole

-- what is found is the index of an item of a list, if anything is found
abbrev pub IsIndexIn : {A : Type 0} → List A → Option ℕ → Type 0
IsIndexIn items found = IfSome found (λ index. index < length items)

-- which function passes a limit, if one does
abbrev pub IsOverAt : (picks : List (List ℕ)) → (functions : List (List Body)) → (is_whole : Bool) → Option ℕ → Type 0
IsOverAt picks functions is_whole None = (is_whole ≡ true) × All (λ bodies. AreLow picks bodies) functions
IsOverAt picks functions is_whole (Some index) =
    IsFirst picks functions index ⊎
    ((is_whole ≡ false) × (index ≡ length functions) × All (λ bodies. AreLow picks bodies) functions)

-- which of those that are placed does
abbrev pub IsOverIn : Placed → Option ℕ → Type 0
IsOverIn placed index = IsOverAt placed.picks placed.functions placed.is_whole index
