-- In a whole tree the captures of each `parallel` and `task` are what it takes from outside.
use Rattle.std.proofs.Common.{◌≡◌, ℕ, List, [], ◌∷◌, map}
use Rattle.std.specs.Prelude.{All}
use Rattle.std.proofs.lemmas.List.Elements.{All-nil, All-cons, All-append, All-head, All-tail}
use Rattle.om_scope_tree.specs.declared.resolved.GlobalVariable.{GlobalVariable}
use Rattle.om_scope_tree.specs.Captures.{captured_variable, taken_variables}
use Rattle.om_scope_tree.specs.ResolvedTree.{ResolvedStatementTree, Declaration, Block, Empty, Expression, If, IfElse}
use Rattle.om_scope_tree.specs.ResolvedTree.{While, Do, For, Return, Break, Continue, Region, Loop, Sections, Construct}
use Rattle.om_scope_tree.specs.ResolvedTree.{Update, StandAlone, ResolvedStatementsTree, NoStatements, Statement}
use Rattle.om_scope_tree.specs.ResolvedTree.{ResolvedPartsTree, NoParts, Part, ResolvedFunctionTree, ResolvedTree}
use Rattle.om_scope_tree.specs.Whole.{Around, AreWholeItems, AreWholeParts, IsWholeFunction, IsWholeStatement}
use Rattle.om_scope_tree.specs.Whole.{IsWholeTree, after_item, after_start, at_function, iterated, repeated, within}
use Rattle.om_lower_rules.specs.Bodies.{BodySite, BodyTree, FunctionBody, Numbers, RegionBody, all_regions, behind}
use Rattle.om_lower_rules.specs.Bodies.{behind_all, behind_function, bodies_from, bodies_of, first_numbers}
use Rattle.om_lower_rules.specs.Bodies.{function_bodies, function_variables, next_body, next_pick, parts_regions}
use Rattle.om_lower_rules.specs.Bodies.{region_variables, regions}

-- what the body of a region takes is what the rules say that it takes
abbrev pub TakesRight : BodyTree → Type 0
TakesRight FunctionBody = Unit {0}
TakesRight (RegionBody at kind clauses captures s) = map captured_variable captures
    ≡ taken_variables at.start clauses s

abbrev pub IsTaken : BodySite → Type 0
IsTaken b = TakesRight b.tree

module _ (f : ResolvedFunctionTree) where
  mutual
    unfolding regions all_regions parts_regions

    taken : (s : ResolvedStatementTree) (a : Around) (outer : List ℕ) (n : Numbers) → IsWholeStatement a s
        → All IsTaken (regions f outer n s)
    taken (Declaration at ds) a outer n h = All-nil IsTaken
    taken (Block at items) a outer n h = all_taken items a outer n h
    taken (Empty at) a outer n h = All-nil IsTaken
    taken (Expression at e) a outer n h = All-nil IsTaken
    taken (If at c s) a outer n h = taken s a outer n h.1
    taken (IfElse at c s t) a outer n h =
        All-append IsTaken (regions f outer n s) (regions f outer (behind n s) t) (taken s a outer n h.1)
        (taken t a outer (behind n s) h.2)
    taken (While at c s) a outer n h = taken s (repeated a) outer n h.1
    taken (Do at s c) a outer n h = taken s (repeated a) outer n h.0
    taken (For at start condition step s) a outer n h = taken s (repeated (after_start a start)) outer n h.3
    taken (Return at value) a outer n h = All-nil IsTaken
    taken (Break at) a outer n h = All-nil IsTaken
    taken (Continue at) a outer n h = All-nil IsTaken
    taken (Region at kind clauses captures s) a outer n h =
        All-cons IsTaken _ (regions f (region_variables clauses s) (next_body n) s) h.1.taken
        (taken s (within a clauses) (region_variables clauses s) (next_body n) h.2)
    taken (Loop at clauses nowait l s) a outer n h = taken s (iterated a clauses l) outer n h.2
    taken (Sections at clauses nowait parts) a outer n h =
        parts_taken parts (within a clauses) outer (next_pick n) h.3
    taken (Construct at kind clauses s) a outer n h = taken s (within a clauses) outer n h.1
    taken (Update at u) a outer n h = All-nil IsTaken
    taken (StandAlone at directive) a outer n h = All-nil IsTaken

    all_taken : (items : ResolvedStatementsTree) (a : Around) (outer : List ℕ) (n : Numbers) → AreWholeItems a items
        → All IsTaken (all_regions f outer n items)
    all_taken NoStatements a outer n h = All-nil IsTaken
    all_taken (Statement s rest) a outer n h =
        All-append IsTaken (regions f outer n s) (all_regions f outer (behind n s) rest) (taken s a outer n h.0)
        (all_taken rest (after_item a s) outer (behind n s) h.1)

    parts_taken : (parts : ResolvedPartsTree) (a : Around) (outer : List ℕ) (n : Numbers) → AreWholeParts a parts
        → All IsTaken (parts_regions f outer n parts)
    parts_taken NoParts a outer n h = All-nil IsTaken
    parts_taken (Part items rest) a outer n h =
        All-append IsTaken (all_regions f outer n items) (parts_regions f outer (behind_all n items) rest)
        (all_taken items a outer n h.1) (parts_taken rest a outer (behind_all n items) h.2)

functions_taken : (globals : List GlobalVariable) (all fs : List ResolvedFunctionTree) (n : Numbers)
    → All (IsWholeFunction globals all) fs → All IsTaken (bodies_from n fs)
functions_taken globals all [] n h = All-nil IsTaken
functions_taken globals all (f ∷ fs) n h =
    All-append IsTaken (function_bodies n f) (bodies_from (behind_function n f) fs)
    (All-cons IsTaken _ (all_regions f (function_variables f) (next_body n) f.body) tt
    (all_taken f f.body (at_function globals all f) (function_variables f) (next_body n)
    (All-head (IsWholeFunction globals all) f fs h).body))
    (functions_taken globals all fs (behind_function n f) (All-tail (IsWholeFunction globals all) f fs h))

pub bodies_taken : (tree : ResolvedTree) → IsWholeTree tree → All IsTaken (bodies_of tree)
bodies_taken tree h = functions_taken tree.globals tree.functions tree.functions first_numbers h.functions
