-- The lists of PICK that a body has.
use Rattle.std.specs.Prelude.{ℕ, List, [], ◌∷◌, ◌++◌}
use Rattle.om_scope_tree.specs.ResolvedTree.{ResolvedStatementTree, Declaration, Block, Empty, Expression, If, IfElse}
use Rattle.om_scope_tree.specs.ResolvedTree.{While, Do, For, Return, Break, Continue, Region, Loop, Sections}
use Rattle.om_scope_tree.specs.ResolvedTree.{Construct, Update, StandAlone, ResolvedStatementsTree, NoStatements}
use Rattle.om_scope_tree.specs.ResolvedTree.{Statement, ResolvedPartsTree, NoParts, Part, ResolvedFunctionTree}
use Rattle.om_lower_rules.specs.Bodies.{Numbers, BodyTree, FunctionBody, RegionBody, behind, behind_all, next_pick}

-- the numbers of the lists of the `sections` in a part of a body, in the order of the text; regions in it are
-- bodies of their own
abbrev mutual
  pub own_picks : Numbers → ResolvedStatementTree → List ℕ
  own_picks n (Declaration at ds) = []
  own_picks n (Block at items) = all_own_picks n items
  own_picks n (Empty at) = []
  own_picks n (Expression at e) = []
  own_picks n (If at c s) = own_picks n s
  own_picks n (IfElse at c s t) = own_picks n s ++ own_picks (behind n s) t
  own_picks n (While at c s) = own_picks n s
  own_picks n (Do at s c) = own_picks n s
  own_picks n (For at start condition step s) = own_picks n s
  own_picks n (Return at value) = []
  own_picks n (Break at) = []
  own_picks n (Continue at) = []
  own_picks n (Region at kind clauses captures s) = []
  own_picks n (Loop at clauses nowait l s) = own_picks n s
  own_picks n (Sections at clauses nowait parts) = n.picks ∷ parts_own_picks (next_pick n) parts
  own_picks n (Construct at kind clauses s) = own_picks n s
  own_picks n (Update at u) = []
  own_picks n (StandAlone at directive) = []

  pub all_own_picks : Numbers → ResolvedStatementsTree → List ℕ
  all_own_picks n NoStatements = []
  all_own_picks n (Statement s rest) = own_picks n s ++ all_own_picks (behind n s) rest

  pub parts_own_picks : Numbers → ResolvedPartsTree → List ℕ
  parts_own_picks n NoParts = []
  parts_own_picks n (Part items rest) = all_own_picks n items ++ parts_own_picks (behind_all n items) rest

-- those of a body
abbrev pub body_picks : Numbers → ResolvedFunctionTree → BodyTree → List ℕ
body_picks n f FunctionBody = all_own_picks n f.body
body_picks n f (RegionBody first kind clauses captures s) = own_picks n s
