-- The numbers behind each body of a program, in the order of the bodies, and what is known of bodies by their
-- numbers.
use Rattle.std.specs.Prelude.{◌≡◌, ◌<◌, ◌≤◌, ℕ, List, [], ◌∷◌, ◌++◌, Some, length, slice_get}
use Rattle.om_scope_tree.specs.ResolvedTree.{ResolvedStatementTree, Declaration, Block, Empty, Expression, If, IfElse}
use Rattle.om_scope_tree.specs.ResolvedTree.{While, Do, For, Return, Break, Continue, Region, Loop, Sections}
use Rattle.om_scope_tree.specs.ResolvedTree.{Construct, Update, StandAlone, ResolvedStatementsTree, NoStatements}
use Rattle.om_scope_tree.specs.ResolvedTree.{Statement, ResolvedPartsTree, NoParts, Part, ResolvedFunctionTree}
use Rattle.om_lower_rules.specs.Bodies.{Numbers, BodyTree, FunctionBody, RegionBody, behind, behind_all}
use Rattle.om_lower_rules.specs.Bodies.{behind_function, next_body, next_pick, region_variables}

-- those behind the regions in a part of a body, and in those regions
abbrev mutual
  pub region_ends : Numbers → ResolvedStatementTree → List Numbers
  region_ends n (Declaration at ds) = []
  region_ends n (Block at items) = all_region_ends n items
  region_ends n (Empty at) = []
  region_ends n (Expression at e) = []
  region_ends n (If at c s) = region_ends n s
  region_ends n (IfElse at c s t) = region_ends n s ++ region_ends (behind n s) t
  region_ends n (While at c s) = region_ends n s
  region_ends n (Do at s c) = region_ends n s
  region_ends n (For at start condition step s) = region_ends n s
  region_ends n (Return at value) = []
  region_ends n (Break at) = []
  region_ends n (Continue at) = []
  region_ends n (Region at kind clauses captures s) = behind (next_body n) s ∷ region_ends (next_body n) s
  region_ends n (Loop at clauses nowait l s) = region_ends n s
  region_ends n (Sections at clauses nowait parts) = parts_region_ends (next_pick n) parts
  region_ends n (Construct at kind clauses s) = region_ends n s
  region_ends n (Update at u) = []
  region_ends n (StandAlone at directive) = []

  pub all_region_ends : Numbers → ResolvedStatementsTree → List Numbers
  all_region_ends n NoStatements = []
  all_region_ends n (Statement s rest) = region_ends n s ++ all_region_ends (behind n s) rest

  pub parts_region_ends : Numbers → ResolvedPartsTree → List Numbers
  parts_region_ends n NoParts = []
  parts_region_ends n (Part items rest) = all_region_ends n items ++ parts_region_ends (behind_all n items) rest

-- those behind a region with this statement, and behind the regions in it
abbrev pub body_ends : Numbers → ResolvedStatementTree → List Numbers
body_ends n s = behind (next_body n) s ∷ region_ends (next_body n) s

-- those behind functions, and behind the regions in them
abbrev pub function_ends : Numbers → ResolvedFunctionTree → List Numbers
function_ends n f = behind_function n f ∷ all_region_ends (next_body n) f.body

abbrev pub ends_from : Numbers → List ResolvedFunctionTree → List Numbers
ends_from n [] = []
ends_from n (f ∷ fs) = function_ends n f ++ ends_from (behind_function n f) fs

-- ---- what is known of bodies, by their numbers

-- the numbers behind each body, and the variables of those whose slots are numbered by now
pub record KnownBodies : Type 0 where
  pub ends : List Numbers
  pub slots : List (List ℕ)

-- the numbers behind a body and its variables are known; it has at most 256 slots
pub record IsKnown (known : KnownBodies) (body : ℕ) (numbers : Numbers) (variables : List ℕ) : Type 0 where
  pub ends : slice_get known.ends body ≡ Some numbers
  pub slots : slice_get known.slots body ≡ Some variables
  pub few : length variables ≤ 256

-- each region in a part of a body is known, and behind each list of PICK there is a number of 32 bits; the
-- regions in a region are bodies of their own
abbrev mutual
  pub HasEnds : (known : KnownBodies) → Numbers → ResolvedStatementTree → Type 0
  HasEnds known n (Declaration at ds) = Unit {0}
  HasEnds known n (Block at items) = HasAllEnds known n items
  HasEnds known n (Empty at) = Unit {0}
  HasEnds known n (Expression at e) = Unit {0}
  HasEnds known n (If at c s) = HasEnds known n s
  HasEnds known n (IfElse at c s t) = HasEnds known n s × HasEnds known (behind n s) t
  HasEnds known n (While at c s) = HasEnds known n s
  HasEnds known n (Do at s c) = HasEnds known n s
  HasEnds known n (For at start condition step s) = HasEnds known n s
  HasEnds known n (Return at value) = Unit {0}
  HasEnds known n (Break at) = Unit {0}
  HasEnds known n (Continue at) = Unit {0}
  HasEnds known n (Region at kind clauses captures s) =
      IsKnown known n.bodies (behind (next_body n) s) (region_variables clauses s)
  HasEnds known n (Loop at clauses nowait l s) = HasEnds known n s
  HasEnds known n (Sections at clauses nowait parts) =
      (n.picks < 4294967295) × HasPartsEnds known (next_pick n) parts
  HasEnds known n (Construct at kind clauses s) = HasEnds known n s
  HasEnds known n (Update at u) = Unit {0}
  HasEnds known n (StandAlone at directive) = Unit {0}

  pub HasAllEnds : (known : KnownBodies) → Numbers → ResolvedStatementsTree → Type 0
  HasAllEnds known n NoStatements = Unit {0}
  HasAllEnds known n (Statement s rest) = HasEnds known n s × HasAllEnds known (behind n s) rest

  pub HasPartsEnds : (known : KnownBodies) → Numbers → ResolvedPartsTree → Type 0
  HasPartsEnds known n NoParts = Unit {0}
  HasPartsEnds known n (Part items rest) = HasAllEnds known n items × HasPartsEnds known (behind_all n items) rest

-- the same of a body
abbrev pub HasBodyEnds : (known : KnownBodies) → Numbers → ResolvedFunctionTree → BodyTree → Type 0
HasBodyEnds known n f FunctionBody = HasAllEnds known n f.body
HasBodyEnds known n f (RegionBody first kind clauses captures s) = HasEnds known n s
