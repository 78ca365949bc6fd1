-- What a `parallel` or a `task` takes from outside is among the variables of the body round it.
use Rattle.std.proofs.Common.{ℕ, List, [], ◌∷◌, ◌++◌, map}
use Rattle.std.specs.Prelude.{All}
use Rattle.std.specs.List.{flat_map}
use Rattle.std.proofs.lemmas.List.Elements.{All-nil, All-cons, All-append}
use Rattle.om_scope_tree.specs.Captures.{captured_variable, clause_uses, expression_uses, perhaps_uses}
use Rattle.om_scope_tree.specs.ResolvedTree.{ResolvedStatementTree, Declaration, Block, Empty, Expression, If, IfElse}
use Rattle.om_scope_tree.specs.ResolvedTree.{While, Do, For, Return, Break, Continue, Region, Loop, Sections, Construct}
use Rattle.om_scope_tree.specs.ResolvedTree.{Update, StandAlone, ResolvedStatementsTree, NoStatements, Statement}
use Rattle.om_scope_tree.specs.ResolvedTree.{ResolvedPartsTree, NoParts, Part, ResolvedFunctionTree, ResolvedTree}
use Rattle.om_lower_rules.specs.Bodies.{BodySite, Numbers, all_regions, behind, behind_all, behind_function}
use Rattle.om_lower_rules.specs.Bodies.{bodies_from}
use Rattle.om_lower_rules.specs.Bodies.{bodies_of, first_numbers, function_bodies, function_variables, next_body}
use Rattle.om_lower_rules.specs.Bodies.{next_pick}
use Rattle.om_lower_rules.specs.Bodies.{parts_regions, region_variables, regions}
use Rattle.om_lower_rules.specs.Code.{captures_of}
use Rattle.om_lower_rules.specs.Slots.{clause_sights, loop_sights, parameter_sight, parts_sights, region_clause_sights}
use Rattle.om_lower_rules.specs.Slots.{start_sights, statement_sights, statements_sights}
use Rattle.om_lower_laws.proofs.Tables.{Has, has_back, has_front, table_has}

-- what a body takes is among the variables of the body round it
abbrev pub IsCaptured : BodySite → Type 0
IsCaptured b = Has b.outer (map captured_variable (captures_of b.tree))

module _ (f : ResolvedFunctionTree) where
  mutual
    unfolding regions all_regions parts_regions statement_sights statements_sights parts_sights

    -- where all that a statement names is among these variables
    captured : (s : ResolvedStatementTree) (outer : List ℕ) (n : Numbers) → Has outer (statement_sights s)
        → All IsCaptured (regions f outer n s)
    captured (Declaration at ds) outer n h = All-nil IsCaptured
    captured (Block at items) outer n h = all_captured items outer n h
    captured (Empty at) outer n h = All-nil IsCaptured
    captured (Expression at e) outer n h = All-nil IsCaptured
    captured (If at c s) outer n h =
        captured s outer n (has_back outer (expression_uses c) (statement_sights s) h)
    captured (IfElse at c s t) outer n h =
        let parts = has_back outer (expression_uses c) (statement_sights s ++ statement_sights t) h in
        All-append IsCaptured (regions f outer n s) (regions f outer (behind n s) t)
        (captured s outer n (has_front outer (statement_sights s) (statement_sights t) parts))
        (captured t outer (behind n s) (has_back outer (statement_sights s) (statement_sights t) parts))
    captured (While at c s) outer n h =
        captured s outer n (has_back outer (expression_uses c) (statement_sights s) h)
    captured (Do at s c) outer n h =
        captured s outer n (has_front outer (statement_sights s) (expression_uses c) h)
    captured (For at start condition step s) outer n h =
        captured s outer n (has_back outer (perhaps_uses step) (statement_sights s)
        (has_back outer (perhaps_uses condition) (perhaps_uses step ++ statement_sights s)
        (has_back outer (start_sights start) (perhaps_uses condition ++ (perhaps_uses step ++ statement_sights s)) h)))
    captured (Return at value) outer n h = All-nil IsCaptured
    captured (Break at) outer n h = All-nil IsCaptured
    captured (Continue at) outer n h = All-nil IsCaptured
    captured (Region at kind clauses captures s) outer n h =
        let own = region_variables clauses s in
        let listed = flat_map region_clause_sights clauses in
        All-cons IsCaptured _ (regions f own (next_body n) s)
        (has_back outer (flat_map clause_uses clauses) (map captured_variable captures) h)
        (captured s own (next_body n) (has_back own listed (statement_sights s)
        (table_has (listed ++ statement_sights s))))
    captured (Loop at clauses nowait l s) outer n h =
        captured s outer n (has_back outer (loop_sights l) (statement_sights s)
        (has_back outer (flat_map clause_sights clauses) (loop_sights l ++ statement_sights s) h))
    captured (Sections at clauses nowait parts) outer n h =
        parts_captured parts outer (next_pick n) (has_back outer (flat_map clause_sights clauses)
        (parts_sights parts) h)
    captured (Construct at kind clauses s) outer n h =
        captured s outer n (has_back outer (flat_map clause_sights clauses) (statement_sights s) h)
    captured (Update at u) outer n h = All-nil IsCaptured
    captured (StandAlone at directive) outer n h = All-nil IsCaptured

    all_captured : (items : ResolvedStatementsTree) (outer : List ℕ) (n : Numbers)
        → Has outer (statements_sights items) → All IsCaptured (all_regions f outer n items)
    all_captured NoStatements outer n h = All-nil IsCaptured
    all_captured (Statement s rest) outer n h =
        All-append IsCaptured (regions f outer n s) (all_regions f outer (behind n s) rest)
        (captured s outer n (has_front outer (statement_sights s) (statements_sights rest) h))
        (all_captured rest outer (behind n s) (has_back outer (statement_sights s) (statements_sights rest) h))

    parts_captured : (parts : ResolvedPartsTree) (outer : List ℕ) (n : Numbers) → Has outer (parts_sights parts)
        → All IsCaptured (parts_regions f outer n parts)
    parts_captured NoParts outer n h = All-nil IsCaptured
    parts_captured (Part items rest) outer n h =
        All-append IsCaptured (all_regions f outer n items) (parts_regions f outer (behind_all n items) rest)
        (all_captured items outer n (has_front outer (statements_sights items) (parts_sights rest) h))
        (parts_captured rest outer (behind_all n items)
        (has_back outer (statements_sights items) (parts_sights rest) h))

function_captured : (f : ResolvedFunctionTree) (n : Numbers) → All IsCaptured (function_bodies n f)
function_captured f n =
    let variables = function_variables f in
    let parameters = map parameter_sight f.parameters in
    All-cons IsCaptured _ (all_regions f variables (next_body n) f.body) tt
    (all_captured f f.body variables (next_body n) (has_back variables parameters (statements_sights f.body)
    (table_has (parameters ++ statements_sights f.body))))

functions_captured : (fs : List ResolvedFunctionTree) (n : Numbers) → All IsCaptured (bodies_from n fs)
functions_captured [] n = All-nil IsCaptured
functions_captured (f ∷ fs) n =
    All-append IsCaptured (function_bodies n f) (bodies_from (behind_function n f) fs) (function_captured f n)
    (functions_captured fs (behind_function n f))

pub bodies_captured : (tree : ResolvedTree) → All IsCaptured (bodies_of tree)
bodies_captured tree = functions_captured tree.functions first_numbers
