-- What a statement uses is among its sights, and so is what a `parallel` or a `task` takes from outside.
use Rattle.std.proofs.Common.{◌≡◌, ℕ, Bool, true, false, List, [], ◌∷◌, ◌++◌}
use Rattle.std.specs.Prelude.{nat_eq, fold, if◌then◌else◌}
use Rattle.std.specs.List.{flat_map, list_any}
use Rattle.om_scope_tree.specs.declared.resolved.CopyKind.{CopyKind}
use Rattle.om_scope_tree.specs.declared.resolved.CopyKind.TheVariants as copies
use Rattle.om_scope_tree.specs.declared.resolved.Variable as variables
use Rattle.om_scope_tree.specs.Captures.{clause_uses, combined_uses, copy_uses, declarator_uses, expression_uses}
use Rattle.om_scope_tree.specs.Captures.{is_further, listed_uses, listed_variables, parts_uses, perhaps_uses}
use Rattle.om_scope_tree.specs.Captures.{start_uses, statement_uses, statements_uses, taken_variables, with_use}
use Rattle.om_scope_tree.specs.ResolvedTree.{ResolvedClauseTree, ClauseValue, Shared, Copied, ResolvedDeclaratorTree}
use Rattle.om_scope_tree.specs.ResolvedTree.{ResolvedStartTree, StartNothing, StartExpression, StartDeclaration}
use Rattle.om_scope_tree.specs.ResolvedTree.{ResolvedStatementTree, Declaration, Block, Empty, Expression, If, IfElse}
use Rattle.om_scope_tree.specs.ResolvedTree.{While, Do, For, Return, Break, Continue, Region, Loop, Sections, Construct}
use Rattle.om_scope_tree.specs.ResolvedTree.{Update, StandAlone, ResolvedStatementsTree, NoStatements, Statement}
use Rattle.om_scope_tree.specs.ResolvedTree.{ResolvedPartsTree, NoParts, Part}
use Rattle.om_lower_rules.specs.Slots.{clause_sights, combined_sights, declarator_sights, loop_sights, original_sights}
use Rattle.om_lower_rules.specs.Slots.{parts_sights, region_clause_sights, start_sights, statement_sights}
use Rattle.om_lower_rules.specs.Slots.{statements_sights}
use Rattle.om_lower_laws.proofs.Tables.{Has, has_back, has_both, has_front}

module _ (table : List ℕ) where
  -- ---- declarations and clauses

  declared_uses : (ds : List ResolvedDeclaratorTree) → Has table (flat_map declarator_sights ds)
      → Has table (flat_map declarator_uses ds)
  declared_uses [] h = tt
  declared_uses (d ∷ ds) h = has_both table (perhaps_uses d.initial) (flat_map declarator_uses ds)
      (has_front table (perhaps_uses d.initial) (flat_map declarator_sights ds) h.1)
      (declared_uses ds (has_back table (perhaps_uses d.initial) (flat_map declarator_sights ds) h.1))

  started_uses : (start : ResolvedStartTree) → Has table (start_sights start) → Has table (start_uses start)
  started_uses StartNothing h = tt
  started_uses (StartExpression e) h = h
  started_uses (StartDeclaration ds) h = declared_uses ds h

  copied : (kind : CopyKind) (original : variables.Variable) → Has table (original_sights kind original)
      → Has table (copy_uses kind original)
  copied copies.Private original h = tt
  copied copies.Firstprivate original h = h
  copied (copies.Reduction o) original h = h

  clause : (c : ResolvedClauseTree) → Has table (clause_sights c) → Has table (clause_uses c)
  clause (ClauseValue kind e) h = h
  clause (Shared v) h = h
  clause (Copied kind original copy) h =
      copied kind original (has_front table (original_sights kind original) (copy.at ∷ []) h)

  clauses_use : (cs : List ResolvedClauseTree) → Has table (flat_map clause_sights cs)
      → Has table (flat_map clause_uses cs)
  clauses_use [] h = tt
  clauses_use (c ∷ cs) h = has_both table (clause_uses c) (flat_map clause_uses cs)
      (clause c (has_front table (clause_sights c) (flat_map clause_sights cs) h))
      (clauses_use cs (has_back table (clause_sights c) (flat_map clause_sights cs) h))

  combined : (kind : CopyKind) (original : variables.Variable) → Has table (combined_sights kind original)
      → Has table (combined_uses kind original)
  combined copies.Private original h = tt
  combined copies.Firstprivate original h = tt
  combined (copies.Reduction o) original h = h

  listed : (c : ResolvedClauseTree) → Has table (region_clause_sights c) → Has table (listed_uses c)
  listed (ClauseValue kind e) h = tt
  listed (Shared v) h = h
  listed (Copied kind original copy) h =
      combined kind original (has_front table (combined_sights kind original) (copy.at ∷ []) h)

  all_listed : (cs : List ResolvedClauseTree) → Has table (flat_map region_clause_sights cs)
      → Has table (flat_map listed_uses cs)
  all_listed [] h = tt
  all_listed (c ∷ cs) h = has_both table (listed_uses c) (flat_map listed_uses cs)
      (listed c (has_front table (region_clause_sights c) (flat_map region_clause_sights cs) h))
      (all_listed cs (has_back table (region_clause_sights c) (flat_map region_clause_sights cs) h))

  -- ---- statements

  mutual
    unfolding statement_uses statements_uses parts_uses statement_sights statements_sights parts_sights

    used : (s : ResolvedStatementTree) → Has table (statement_sights s) → Has table (statement_uses s)
    used (Declaration at ds) h = declared_uses ds h
    used (Block at items) h = all_used items h
    used (Empty at) h = tt
    used (Expression at e) h = h
    used (If at c s) h = has_both table (expression_uses c) (statement_uses s)
        (has_front table (expression_uses c) (statement_sights s) h)
        (used s (has_back table (expression_uses c) (statement_sights s) h))
    used (IfElse at c s t) h =
        let both = has_back table (expression_uses c) (statement_sights s ++ statement_sights t) h in
        has_both table (expression_uses c) (statement_uses s ++ statement_uses t)
        (has_front table (expression_uses c) (statement_sights s ++ statement_sights t) h)
        (has_both table (statement_uses s) (statement_uses t)
        (used s (has_front table (statement_sights s) (statement_sights t) both))
        (used t (has_back table (statement_sights s) (statement_sights t) both)))
    used (While at c s) h = has_both table (expression_uses c) (statement_uses s)
        (has_front table (expression_uses c) (statement_sights s) h)
        (used s (has_back table (expression_uses c) (statement_sights s) h))
    used (Do at s c) h = has_both table (statement_uses s) (expression_uses c)
        (used s (has_front table (statement_sights s) (expression_uses c) h))
        (has_back table (statement_sights s) (expression_uses c) h)
    used (For at start condition step s) h =
        let last = perhaps_uses step ++ statement_sights s in
        let rest = has_back table (start_sights start) (perhaps_uses condition ++ last) h in
        let more = has_back table (perhaps_uses condition) last rest in
        has_both table (start_uses start) (perhaps_uses condition ++ (perhaps_uses step ++ statement_uses s))
        (started_uses start (has_front table (start_sights start) (perhaps_uses condition ++ last) h))
        (has_both table (perhaps_uses condition) (perhaps_uses step ++ statement_uses s)
        (has_front table (perhaps_uses condition) last rest)
        (has_both table (perhaps_uses step) (statement_uses s)
        (has_front table (perhaps_uses step) (statement_sights s) more)
        (used s (has_back table (perhaps_uses step) (statement_sights s) more))))
    used (Return at value) h = h
    used (Break at) h = tt
    used (Continue at) h = tt
    used (Region at kind clauses captures s) h = h
    used (Loop at clauses nowait l s) h =
        let bounds = expression_uses l.from ++ expression_uses l.to in
        let rest = has_back table (flat_map clause_sights clauses) (loop_sights l ++ statement_sights s) h in
        let both = (has_front table (loop_sights l) (statement_sights s) rest).1 in
        has_both table (flat_map clause_uses clauses)
        (expression_uses l.from ++ (expression_uses l.to ++ statement_uses s))
        (clauses_use clauses (has_front table (flat_map clause_sights clauses) (loop_sights l ++ statement_sights s) h))
        (has_both table (expression_uses l.from) (expression_uses l.to ++ statement_uses s)
        (has_front table (expression_uses l.from) (expression_uses l.to) both)
        (has_both table (expression_uses l.to) (statement_uses s)
        (has_back table (expression_uses l.from) (expression_uses l.to) both)
        (used s (has_back table (loop_sights l) (statement_sights s) rest))))
    used (Sections at clauses nowait parts) h =
        has_both table (flat_map clause_uses clauses) (parts_uses parts)
        (clauses_use clauses (has_front table (flat_map clause_sights clauses) (parts_sights parts) h))
        (parts_used parts (has_back table (flat_map clause_sights clauses) (parts_sights parts) h))
    used (Construct at kind clauses s) h =
        has_both table (flat_map clause_uses clauses) (statement_uses s)
        (clauses_use clauses (has_front table (flat_map clause_sights clauses) (statement_sights s) h))
        (used s (has_back table (flat_map clause_sights clauses) (statement_sights s) h))
    used (Update at u) h = h
    used (StandAlone at directive) h = h

    all_used : (items : ResolvedStatementsTree) → Has table (statements_sights items)
        → Has table (statements_uses items)
    all_used NoStatements h = tt
    all_used (Statement s rest) h = has_both table (statement_uses s) (statements_uses rest)
        (used s (has_front table (statement_sights s) (statements_sights rest) h))
        (all_used rest (has_back table (statement_sights s) (statements_sights rest) h))

    parts_used : (parts : ResolvedPartsTree) → Has table (parts_sights parts) → Has table (parts_uses parts)
    parts_used NoParts h = tt
    parts_used (Part items rest) h = has_both table (statements_uses items) (parts_uses rest)
        (all_used items (has_front table (statements_sights items) (parts_sights rest) h))
        (parts_used rest (has_back table (statements_sights items) (parts_sights rest) h))

  -- ---- what is taken

  with_one : (found : List ℕ) (x : ℕ) (is : Bool) → Has table found → list_any (nat_eq x) table ≡ true
      → Has table (if is then found ++ x ∷ [] else found)
  with_one found x true h e = has_both table found (x ∷ []) h (e, tt)
  with_one found x false h e = h

  further : (start : ℕ) (xs found : List ℕ) → Has table found → Has table xs
      → Has table (fold (with_use start) found xs)
  further start [] found h k = h
  further start (x ∷ xs) found h k =
      further start xs (with_use start found x) (with_one found x (is_further start found x) h k.0) k.1

  pub taken_seen : (start : ℕ) (cs : List ResolvedClauseTree) (s : ResolvedStatementTree)
      → Has table (flat_map region_clause_sights cs ++ statement_sights s)
      → Has table (taken_variables start cs s)
  taken_seen start cs s h =
      further start (statement_uses s) (listed_variables start cs)
      (further start (flat_map listed_uses cs) [] tt
      (all_listed cs (has_front table (flat_map region_clause_sights cs) (statement_sights s) h)))
      (used s (has_back table (flat_map region_clause_sights cs) (statement_sights s) h))
