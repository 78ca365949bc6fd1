-- Two codes of one body have the same scopes, since their parts end at the same places.
use Rattle.std.proofs.Common.{◌≡◌, ℕ, Bool, List, [], ◌∷◌, Option, Some, None, refl, sym, ap, subst, ◌∙◌}
use Rattle.om_code.specs.declared.instruction.Instr.{Instr}
use Rattle.om_code.specs.declared.raw.Line.{Line}
use Rattle.om_scope_tree.specs.declared.resolved.ConstructKind.TheVariants as constructs
use Rattle.om_scope_tree.specs.declared.resolved.CopyKind.{CopyKind}
use Rattle.om_scope_tree.specs.declared.resolved.CopyKind.TheVariants as copies
use Rattle.om_scope_tree.specs.declared.resolved.LocalVariable.{LocalVariable}
use Rattle.om_scope_tree.specs.declared.resolved.RegionKind.TheVariants as kinds
use Rattle.om_scope_tree.specs.declared.resolved.Variable as variables
use Rattle.om_scope_tree.specs.ResolvedTree.{ResolvedExpressionTree, ResolvedDeclaratorTree, ResolvedClauseTree}
use Rattle.om_scope_tree.specs.ResolvedTree.{ClauseValue, Shared, Copied, ResolvedLoopTree, ResolvedStartTree}
use Rattle.om_scope_tree.specs.ResolvedTree.{StartNothing, StartExpression, StartDeclaration, ResolvedStatementTree}
use Rattle.om_scope_tree.specs.ResolvedTree.{Declaration, Block, Empty, Expression, If, IfElse, While, Do, For, Return}
use Rattle.om_scope_tree.specs.ResolvedTree.{Break, Continue, Region, Loop, Sections, Construct, Update}
use Rattle.om_scope_tree.specs.ResolvedTree.{StandAlone, ResolvedStatementsTree, NoStatements, Statement}
use Rattle.om_scope_tree.specs.ResolvedTree.{ResolvedPartsTree, NoParts, Part, ResolvedFunctionTree}
use Rattle.om_lower_rules.specs.Bodies.{BodyTree, FunctionBody, RegionBody}
use Rattle.om_lower_rules.specs.Expressions.{value, effect}
use Rattle.om_lower_rules.specs.Rows.{Site, Row, end, ins, part, perhaps}
use Rattle.om_lower_rules.specs.Scopes.{Found, ◌then◌, ending, Scoping, plain, after, before, both, each_scope, opens_at, opens}
use Rattle.om_lower_rules.specs.Scopes.{block, instructions, tested, declarator_scope, start_scopes, clause_scope}
use Rattle.om_lower_rules.specs.Scopes.{team_scope, task_scope, parameter_scope, bounds_scopes, loop_head, sections_head}
use Rattle.om_lower_rules.specs.Scopes.{for_head, scopes, all_scopes, part_scopes, body_scopes}
use Rattle.om_lower_rules.specs.Statements.{assignment_row, clause_value, closes, given_copies}
use Rattle.om_lower_rules.proofs.ExpressionTwins as expressions
use Rattle.om_lower_rules.proofs.ExpressionTwins.{with_code}
use Rattle.om_lower_rules.proofs.HeadTwins as heads

module _ (base : Site) (code code' : List Line) (picks picks' : List (List ℕ)) where
  abbrev c : Site
  c = with_code base code picks

  abbrev d : Site
  d = with_code base code' picks'

  -- what begins at one place ends at one
  abbrev Ends : Row → Row → Type 0
  Ends r t = (p q q' : ℕ) → r p q → t p q' → q ≡ q'

  -- and has the same scopes
  abbrev Match : Scoping → Scoping → Type 0
  Match s t = (p q q' : ℕ) (found found' : Found) → s p q found → t p q' found' → (q ≡ q') × (found ≡ found')

  -- ---- code

  ends : {N G : Type 0} (r t : Row) → heads.Twins base code code' picks picks' N G r t → Ends r t
  ends r t h p q q' x y = (h p p q q' x y).same refl

  end_ends : Ends end end
  end_ends p q q' x y = sym x ∙ y

  ins_ends : (l : ℕ) (u v : Instr) → Ends (ins c l u end) (ins d l v end)
  ins_ends l u v p q q' x y = sym x.1 ∙ y.1

  instructions_end : (n : ℕ) → Ends (instructions n) (instructions n)
  instructions_end n p q q' x y = x ∙ sym y

  parts_end : (r t s u : Row) → Ends r t → Ends s u → Ends (part r s) (part t u)
  parts_end r t s u e g p q q' x y = g x.0 q q' x.2 (subst (λ z. u z q') (sym (e p x.0 y.0 x.1 y.1)) y.2)

  perhaps_end : {A : Type 0} (row row' : A → Row) (x : Option A) → ((y : A) → Ends (row y) (row' y))
      → Ends (perhaps row x) (perhaps row' x)
  perhaps_end row row' None h = end_ends
  perhaps_end row row' (Some x) h = h x

  value_ends : (l : ℕ) (e : ResolvedExpressionTree) → Ends (value c l e) (value d l e)
  value_ends l e = ends (value c l e) (value d l e) (expressions.value_twin base code code' picks picks' l e)

  effect_ends : (l : ℕ) (e : ResolvedExpressionTree) → Ends (effect c l e) (effect d l e)
  effect_ends l e = ends (effect c l e) (effect d l e) (expressions.effect_twin base code code' picks picks' l e)

  tested_ends : (l : ℕ) (e : ResolvedExpressionTree) → Ends (tested c l e) (tested d l e)
  tested_ends l e p q q' x y = ends _ _ (heads.test_twin base code code' picks picks' l x.0 y.0 e) p q q' x.1 y.1

  closes_end : (l : ℕ) (clauses : List ResolvedClauseTree) (nowait : Bool)
      → Ends (closes c l clauses nowait) (closes d l clauses nowait)
  closes_end l clauses nowait =
      parts_end _ _ _ _ (ends _ _ (heads.reductions_twin base code code' picks picks' l clauses))
      (ends _ _ (heads.end_twin base code code' picks picks' l nowait))

  assignment_ends : (l : ℕ) (s : ResolvedStatementTree) → Ends (assignment_row c l s) (assignment_row d l s)
  assignment_ends l (Expression first e) p q q' x y = effect_ends l e p q q' x y
  assignment_ends l _ p q q' x y = absurd x

  -- ---- rows of scopes

  plain_match : (r t : Row) → Ends r t → Match (plain r) (plain t)
  plain_match r t e p q q' f g x y = (e p q q' x.0 y.0, x.1 ∙ sym y.1)

  after_match : (r t : Row) (s u : Scoping) → Ends r t → Match s u → Match (after r s) (after t u)
  after_match r t s u e m p q q' f g x y =
      m x.0 q q' f g x.2 (subst (λ z. u z q' g) (sym (e p x.0 y.0 x.1 y.1)) y.2)

  before_match : (s u : Scoping) (r t : Row) → Match s u → Ends r t → Match (before s r) (before u t)
  before_match s u r t m e p q q' f g x y =
      let inside = m p x.0 y.0 f g x.1 y.1 in
      (e x.0 q q' x.2 (subst (λ z. t z q') (sym inside.0) y.2), inside.1)

  both_match : (s u v w : Scoping) → Match s u → Match v w → Match (both s v) (both u w)
  both_match s u v w m n p q q' f g x y =
      let one = m p x.0 y.0 x.1 y.1 x.3 y.3 in
      let other = n x.0 q q' x.2 y.2 x.4 (subst (λ z. w z q' y.2) (sym one.0) y.4) in
      (other.0, x.5 ∙ ap (λ z. z then x.2) one.1 ∙ ap (λ z. y.1 then z) other.1 ∙ sym y.5)

  block_match : (s u : Scoping) → Match s u → Match (block s) (block u)
  block_match s u m p q q' f g x y =
      let inside = m p q q' x.0 y.0 x.1 y.1 in
      (inside.0, x.2 ∙ ap (λ z. ending q z) inside.1 ∙ ap (λ z. ending z y.0) inside.0 ∙ sym y.2)

  opens_at_match : (from : ℕ) (length : Option ℕ) (variable : LocalVariable) (r t : Row) → Ends r t
      → Match (opens_at from length variable r) (opens_at from length variable t)
  opens_at_match from length variable r t e p q q' f g x y = (e p q q' x.0 y.0, x.1 ∙ sym y.1)

  opens_match : (length : Option ℕ) (variable : LocalVariable) (r t : Row) → Ends r t
      → Match (opens length variable r) (opens length variable t)
  opens_match length variable r t e p q q' f g x y = (e p q q' x.0 y.0, x.1 ∙ sym y.1)

  none_match : Match (plain end) (plain end)
  none_match = plain_match end end end_ends

  each_match : {A : Type 0} (row row' : A → Scoping) (xs : List A) → ((x : A) → Match (row x) (row' x))
      → Match (each_scope row xs) (each_scope row' xs)
  each_match row row' [] h = none_match
  each_match row row' (x ∷ xs) h =
      both_match (row x) (row' x) (each_scope row xs) (each_scope row' xs) (h x) (each_match row row' xs h)

  -- ---- variables

  declarators_match : (l : ℕ) (ds : List ResolvedDeclaratorTree)
      → Match (each_scope (declarator_scope c l) ds) (each_scope (declarator_scope d l) ds)
  declarators_match l ds =
      each_match (declarator_scope c l) (declarator_scope d l) ds (λ x. opens_match x.length x.variable _ _
      (ends _ _ (heads.declared_twin base code code' picks picks' l x.variable x.initial)))

  start_match : (l : ℕ) (s : ResolvedStartTree) → Match (start_scopes c l s) (start_scopes d l s)
  start_match l StartNothing = none_match
  start_match l (StartExpression e) = plain_match (effect c l e) (effect d l e) (effect_ends l e)
  start_match l (StartDeclaration ds) = declarators_match l ds

  clause_match : (l : ℕ) (clause : ResolvedClauseTree) → Match (clause_scope c l clause) (clause_scope d l clause)
  clause_match l (ClauseValue kind e) = none_match
  clause_match l (Shared x) = none_match
  clause_match l (Copied kind x copy) =
      opens_match None copy _ _ (ends _ _ (heads.copy_start_twin base code code' picks picks' l kind x copy))

  copies_match : (l : ℕ) (clauses : List ResolvedClauseTree)
      → Match (each_scope (clause_scope c l) clauses) (each_scope (clause_scope d l) clauses)
  copies_match l clauses = each_match (clause_scope c l) (clause_scope d l) clauses (clause_match l)

  team_copy_match : (l : ℕ) (kind : CopyKind) (x : variables.Variable) (copy : LocalVariable)
      → Match (team_scope c l (Copied kind x copy)) (team_scope d l (Copied kind x copy))
  team_copy_match l copies.Private x copy = opens_at_match 0 None copy end end end_ends
  team_copy_match l copies.Firstprivate x copy = opens_at_match 0 None copy end end end_ends
  team_copy_match l (copies.Reduction o) x copy =
      opens_match None copy _ _
      (ends _ _ (heads.copy_start_twin base code code' picks picks' l (copies.Reduction o) x copy))

  team_match : (l : ℕ) (clause : ResolvedClauseTree) → Match (team_scope c l clause) (team_scope d l clause)
  team_match l (ClauseValue kind e) = none_match
  team_match l (Shared x) = none_match
  team_match l (Copied kind x copy) = team_copy_match l kind x copy

  task_match : (clause : ResolvedClauseTree) → Match (task_scope clause) (task_scope clause)
  task_match (ClauseValue kind e) = none_match
  task_match (Shared x) = none_match
  task_match (Copied kind x copy) = opens_at_match 0 None copy end end end_ends

  -- ---- heads

  for_head_match : (l : ℕ) (begin : ResolvedStartTree) (e : Option ResolvedExpressionTree)
      → Match (for_head c l begin e) (for_head d l begin e)
  for_head_match l begin e =
      before_match (start_scopes c l begin) (start_scopes d l begin) _ _ (start_match l begin)
      (perhaps_end (tested c l) (tested d l) e (tested_ends l))

  loop_head_match : (l : ℕ) (clauses : List ResolvedClauseTree) (loop : ResolvedLoopTree)
      → Match (loop_head c l clauses loop) (loop_head d l clauses loop)
  loop_head_match l clauses loop =
      both_match (bounds_scopes c l clauses loop) (bounds_scopes d l clauses loop) _ _
      (after_match _ _ (after (value c loop.at.line loop.to) (each_scope (clause_scope c l) clauses))
      (after (value d loop.at.line loop.to) (each_scope (clause_scope d l) clauses))
      (value_ends loop.at.line loop.from)
      (after_match _ _ (each_scope (clause_scope c l) clauses) (each_scope (clause_scope d l) clauses)
      (value_ends loop.at.line loop.to) (copies_match l clauses)))
      (opens_match None loop.variable (instructions 3) (instructions 3) (instructions_end 3))

  sections_head_match : (l : ℕ) (clauses : List ResolvedClauseTree)
      → Match (sections_head c l clauses) (sections_head d l clauses)
  sections_head_match l clauses =
      before_match (each_scope (clause_scope c l) clauses) (each_scope (clause_scope d l) clauses) _ _
      (copies_match l clauses) (instructions_end 3)

  -- ---- statements

  -- a construct that makes no copies
  around : (s : ResolvedStatementTree) (r t : Row) → Ends r t → Match (scopes c s) (scopes d s)
      → Match (block (both (plain r) (before (block (scopes c s)) (instructions 1))))
      (block (both (plain t) (before (block (scopes d s)) (instructions 1))))
  around s r t e m =
      block_match _ _ (both_match (plain r) (plain t) _ _ (plain_match r t e)
      (before_match _ _ (instructions 1) (instructions 1) (block_match _ _ m) (instructions_end 1)))

  inner : (s : ResolvedStatementTree) → Match (scopes c s) (scopes d s)
      → Match (block (scopes c s)) (block (scopes d s))
  inner s m = block_match (scopes c s) (scopes d s) m

  mutual
    statement_match : (s : ResolvedStatementTree) → Match (scopes c s) (scopes d s)
    statement_match (Declaration first ds) = declarators_match first.line ds
    statement_match (Block first items) = block_match _ _ (statements_match items)
    statement_match (Empty first) = plain_match _ _ (λ p q q' x y. end_ends p q q' x.2 y.2)
    statement_match (Expression first e) = plain_match _ _ (λ p q q' x y. effect_ends first.line e p q q' x.2 y.2)
    statement_match (If first e s) = after_match _ _ _ _ (tested_ends first.line e) (inner s (statement_match s))
    statement_match (IfElse first e s t) =
        after_match _ _ _ _ (tested_ends first.line e)
        (both_match _ _ _ _ (inner s (statement_match s)) (after_match _ _ _ _ (instructions_end 1) (inner t (statement_match t))))
    statement_match (While first e s) =
        after_match _ _ _ _ (tested_ends first.line e) (before_match _ _ _ _ (inner s (statement_match s)) (instructions_end 1))
    statement_match (Do first s e) =
        before_match _ _ _ _ (inner s (statement_match s)) (parts_end _ _ _ _ (tested_ends first.line e) (instructions_end 1))
    statement_match (For first begin e step s) =
        block_match _ _ (both_match _ _ _ _ (for_head_match first.line begin e)
        (before_match _ _ _ _ (inner s (statement_match s))
        (parts_end _ _ _ _ (perhaps_end (effect c first.line) (effect d first.line) step (effect_ends first.line))
        (instructions_end 1))))
    statement_match (Return first e) =
        plain_match _ _ (λ p q q' x y. ends _ _
        (heads.returned_twin base code code' picks picks' first.line base.is_main e) p q q' x.2 y.2)
    statement_match (Break first) =
        plain_match _ _ (λ p q q' x y. ends _ _
        (heads.jump_twin base code code' picks picks' first.line x.1.over y.1.over) p q q' x.2 y.2)
    statement_match (Continue first) =
        plain_match _ _ (λ p q q' x y. ends _ _
        (heads.jump_twin base code code' picks picks' first.line x.1.next y.1.next) p q q' x.2 y.2)
    statement_match (Region first kinds.Parallel clauses captures s) =
        plain_match _ _ (λ p q q' x y. parts_end _ _ _ _
        (perhaps_end (value c first.line) (value d first.line) (clause_value clauses) (value_ends first.line))
        (parts_end _ _ _ _
        (ends _ _ (heads.loads_twin base code code' picks picks' first.line (given_copies clauses captures s)))
        (ins_ends first.line _ _)) p q q' x.2 y.2)
    statement_match (Region first kinds.Task clauses captures s) =
        plain_match _ _ (λ p q q' x y. parts_end _ _ _ _
        (ends _ _ (heads.loads_twin base code code' picks picks' first.line (given_copies clauses captures s)))
        (ins_ends first.line _ _) p q q' x.2 y.2)
    statement_match (Loop first clauses nowait loop s) =
        block_match _ _ (both_match _ _ _ _ (loop_head_match first.line clauses loop)
        (before_match _ _ _ _ (inner s (statement_match s))
        (parts_end _ _ _ _ (instructions_end 1) (closes_end first.line clauses nowait))))
    statement_match (Sections first clauses nowait sections) =
        block_match _ _ (both_match _ _ _ _ (sections_head_match first.line clauses)
        (before_match _ _ _ _ (parts_match sections) (closes_end first.line clauses nowait)))
    statement_match (Construct first (constructs.Single nowait) clauses s) =
        block_match _ _ (both_match _ _ _ _
        (after_match _ _ _ _ (instructions_end 1) (copies_match first.line clauses))
        (before_match _ _ _ _ (inner s (statement_match s)) (ends _ _ (heads.end_twin base code code' picks picks' first.line nowait))))
    statement_match (Construct first constructs.Masked clauses s) =
        around s _ _
        (parts_end _ _ _ _
        (ends _ _ (heads.filter_twin base code code' picks picks' first.line (clause_value clauses)))
        (instructions_end 1)) (statement_match s)
    statement_match (Construct first (constructs.Critical name) clauses s) =
        around s _ _ (instructions_end 2) (statement_match s)
    statement_match (Construct first (constructs.Atomic access) clauses s) =
        plain_match _ _ (assignment_ends first.line s)
    statement_match (Construct first constructs.Taskgroup clauses s) =
        around s _ _ (instructions_end 1) (statement_match s)
    statement_match (Update first u) =
        plain_match _ _ (λ p q q' x y. ends _ _ (heads.update_twin base code code' picks picks' first.line u) p q q'
        x.2 y.2)
    statement_match (StandAlone first directive) =
        plain_match _ _ (λ p q q' x y. ends _ _
        (heads.alone_twin base code code' picks picks' first.line directive) p q q' x.2 y.2)

    statements_match : (items : ResolvedStatementsTree) → Match (all_scopes c items) (all_scopes d items)
    statements_match NoStatements = none_match
    statements_match (Statement s rest) = both_match _ _ _ _ (statement_match s) (statements_match rest)

    parts_match : (sections : ResolvedPartsTree) → Match (part_scopes c sections) (part_scopes d sections)
    parts_match NoParts = none_match
    parts_match (Part items rest) =
        both_match _ _ _ _
        (before_match _ _ _ _ (block_match _ _ (statements_match items)) (instructions_end 1))
        (parts_match rest)

  -- ---- whole bodies

  pub body_match : (f : ResolvedFunctionTree) (tree : BodyTree)
      → Match (body_scopes c f tree) (body_scopes d f tree)
  body_match f FunctionBody =
      block_match _ _ (both_match _ _ _ _
      (each_match parameter_scope parameter_scope f.parameters (λ x. opens_at_match 0 None x end end end_ends))
      (before_match _ _ _ _ (statements_match f.body) (instructions_end 1)))
  body_match f (RegionBody first kinds.Parallel clauses captures s) =
      block_match _ _ (both_match _ _ _ _
      (after_match _ _ _ _ (instructions_end 1)
      (each_match (team_scope c first.line) (team_scope d first.line) clauses (team_match first.line)))
      (before_match _ _ _ _ (inner s (statement_match s))
      (parts_end _ _ _ _ (ends _ _ (heads.reductions_twin base code code' picks picks' first.line clauses))
      (instructions_end 2))))
  body_match f (RegionBody first kinds.Task clauses captures s) =
      block_match _ _ (both_match _ _ _ _ (each_match task_scope task_scope clauses task_match)
      (before_match _ _ _ _ (inner s (statement_match s)) (instructions_end 1)))
