-- The bodies of a program: those of functions, of `parallel` and of `task`, numbered together from 0 by the
-- places where they begin.
use Rattle.std.specs.Prelude.{ℕ, ◌+◌, List, [], ◌∷◌, ◌++◌, map, take, nat_eq}
use Rattle.std.specs.List.{flat_map}
use Rattle.om_lexer.specs.declared.token.Span.{Span}
use Rattle.om_scope_tree.specs.declared.resolved.Capture.{Capture}
use Rattle.om_scope_tree.specs.declared.resolved.RegionKind.{RegionKind}
use Rattle.om_scope_tree.specs.ResolvedTree.{ResolvedClauseTree, ResolvedStatementTree, Declaration, Block, Empty}
use Rattle.om_scope_tree.specs.ResolvedTree.{Expression, If, IfElse, While, Do, For, Return, Break, Continue, Region}
use Rattle.om_scope_tree.specs.ResolvedTree.{Loop, Sections, Construct, Update, StandAlone, ResolvedStatementsTree}
use Rattle.om_scope_tree.specs.ResolvedTree.{NoStatements, Statement, ResolvedPartsTree, NoParts, Part}
use Rattle.om_scope_tree.specs.ResolvedTree.{ResolvedFunctionTree, ResolvedTree}
use Rattle.om_lower_rules.specs.Slots.{parameter_sight, region_clause_sights, statement_sights, statements_sights}
use Rattle.om_lower_rules.specs.Tables.{table_of}

-- ---- numbers

-- the numbers that the next body, and the next list of PICK, get
pub record Numbers : Type 0 where
  pub bodies : ℕ
  pub picks : ℕ

abbrev pub next_body : Numbers → Numbers
next_body n = record { bodies = n.bodies + 1; picks = n.picks }

abbrev pub next_pick : Numbers → Numbers
next_pick n = record { bodies = n.bodies; picks = n.picks + 1 }

-- the numbers behind a statement, whose parts are numbered in the order of the text
abbrev mutual
  pub behind : Numbers → ResolvedStatementTree → Numbers
  behind n (Declaration at ds) = n
  behind n (Block at items) = behind_all n items
  behind n (Empty at) = n
  behind n (Expression at e) = n
  behind n (If at c s) = behind n s
  behind n (IfElse at c s t) = behind (behind n s) t
  behind n (While at c s) = behind n s
  behind n (Do at s c) = behind n s
  behind n (For at start condition step s) = behind n s
  behind n (Return at value) = n
  behind n (Break at) = n
  behind n (Continue at) = n
  behind n (Region at kind clauses captures s) = behind (next_body n) s
  behind n (Loop at clauses nowait l s) = behind n s
  behind n (Sections at clauses nowait parts) = behind_parts (next_pick n) parts
  behind n (Construct at kind clauses s) = behind n s
  behind n (Update at u) = n
  behind n (StandAlone at directive) = n

  pub behind_all : Numbers → ResolvedStatementsTree → Numbers
  behind_all n NoStatements = n
  behind_all n (Statement s rest) = behind_all (behind n s) rest

  pub behind_parts : Numbers → ResolvedPartsTree → Numbers
  behind_parts n NoParts = n
  behind_parts n (Part items rest) = behind_parts (behind_all n items) rest

-- the numbers behind a function, and behind functions
abbrev pub behind_function : Numbers → ResolvedFunctionTree → Numbers
behind_function n f = behind_all (next_body n) f.body

abbrev pub behind_functions : Numbers → List ResolvedFunctionTree → Numbers
behind_functions n [] = n
behind_functions n (f ∷ fs) = behind_functions (behind_function n f) fs

abbrev pub first_numbers : Numbers
first_numbers = record { bodies = 0; picks = 0 }

-- the body of the function of a number
abbrev pub called_body : List ResolvedFunctionTree → ℕ → ℕ
called_body functions function = (behind_functions first_numbers (take function functions)).bodies

-- ---- bodies

-- what a body is the code of
pub data BodyTree : Type 0 where
  -- the whole of its function
  FunctionBody : BodyTree
  RegionBody : Span → RegionKind → List ResolvedClauseTree → List Capture → ResolvedStatementTree → BodyTree

-- a body, where it stands: in a function, in a body with these variables by their slots, and with these
-- numbers at its begin
pub record BodySite : Type 0 where
  pub function : ResolvedFunctionTree
  pub tree : BodyTree
  pub outer : List ℕ
  pub numbers : Numbers

-- the variables of the body of a `parallel` or a `task`, by their slots
abbrev pub region_variables : List ResolvedClauseTree → ResolvedStatementTree → List ℕ
region_variables clauses s = table_of nat_eq (flat_map region_clause_sights clauses ++ statement_sights s)

abbrev pub function_variables : ResolvedFunctionTree → List ℕ
function_variables f = table_of nat_eq (map parameter_sight f.parameters ++ statements_sights f.body)

-- the variables of a body, by their slots
abbrev pub variables_in : ResolvedFunctionTree → BodyTree → List ℕ
variables_in f FunctionBody = function_variables f
variables_in f (RegionBody at kind clauses captures s) = region_variables clauses s

abbrev pub variables_of : BodySite → List ℕ
variables_of b = variables_in b.function b.tree

-- the body of a `parallel` or a `task`, the bodies of the regions in it, and so on, in the order of the text
unfoldable mutual
  pub regions : ResolvedFunctionTree → List ℕ → Numbers → ResolvedStatementTree → List BodySite
  regions f outer n (Declaration at ds) = []
  regions f outer n (Block at items) = all_regions f outer n items
  regions f outer n (Empty at) = []
  regions f outer n (Expression at e) = []
  regions f outer n (If at c s) = regions f outer n s
  regions f outer n (IfElse at c s t) = regions f outer n s ++ regions f outer (behind n s) t
  regions f outer n (While at c s) = regions f outer n s
  regions f outer n (Do at s c) = regions f outer n s
  regions f outer n (For at start condition step s) = regions f outer n s
  regions f outer n (Return at value) = []
  regions f outer n (Break at) = []
  regions f outer n (Continue at) = []
  regions f outer n (Region at kind clauses captures s) =
      record { function = f; tree = RegionBody at kind clauses captures s; outer = outer; numbers = next_body n }
      ∷ regions f (region_variables clauses s) (next_body n) s
  regions f outer n (Loop at clauses nowait l s) = regions f outer n s
  regions f outer n (Sections at clauses nowait parts) = parts_regions f outer (next_pick n) parts
  regions f outer n (Construct at kind clauses s) = regions f outer n s
  regions f outer n (Update at u) = []
  regions f outer n (StandAlone at directive) = []

  pub all_regions : ResolvedFunctionTree → List ℕ → Numbers → ResolvedStatementsTree → List BodySite
  all_regions f outer n NoStatements = []
  all_regions f outer n (Statement s rest) = regions f outer n s ++ all_regions f outer (behind n s) rest

  pub parts_regions : ResolvedFunctionTree → List ℕ → Numbers → ResolvedPartsTree → List BodySite
  parts_regions f outer n NoParts = []
  parts_regions f outer n (Part items rest) = all_regions f outer n items ++ parts_regions f outer
      (behind_all n items) rest

-- the body of a function, and those in it
abbrev pub function_bodies : Numbers → ResolvedFunctionTree → List BodySite
function_bodies n f =
    record { function = f; tree = FunctionBody; outer = []; numbers = next_body n }
    ∷ all_regions f (function_variables f) (next_body n) f.body

abbrev pub bodies_from : Numbers → List ResolvedFunctionTree → List BodySite
bodies_from n [] = []
bodies_from n (f ∷ fs) = function_bodies n f ++ bodies_from (behind_function n f) fs

-- the bodies of a program, by their numbers
abbrev pub bodies_of : ResolvedTree → List BodySite
bodies_of tree = bodies_from first_numbers tree.functions
