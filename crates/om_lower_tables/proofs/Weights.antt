-- The weight of a part of the program is that of its parts.
use Rattle.std.proofs.Common.{◌≡◌, ◌<◌, ◌≤◌, ◌+◌, ◌*◌, ◌⊎◌, inl, inr, subst, ℕ, suc, List, ◌∷◌, length, map, option_map, drop, ap, arith, sym, ◌∙◌}
use Rattle.std.proofs.Common.{add-one, drop-cons}
use Rattle.std.specs.Prelude.{get_or, sum}
use denote.Param.Weighed.{at_most, most}
use Rattle.om_lexer.specs.declared.token.Span.{Span}
use Rattle.std.proofs.lemmas.List.Sums.{sum_by-cons}
use Rattle.om_scope_tree.specs.declared.resolved.ResolvedPart.{ResolvedPart, fold_out-ResolvedPart, out-ResolvedPart}
use Rattle.om_scope_tree.specs.declared.resolved.ResolvedExpression.{ResolvedExpression, fold-roll-ResolvedExpression}
use Rattle.om_scope_tree.specs.declared.resolved.ResolvedExpression.TheOpen.{ResolvedExpression-F}
use Rattle.om_scope_tree.specs.declared.resolved.ResolvedExpression.TheVariants as expressions
use Rattle.om_scope_tree.specs.declared.resolved.ResolvedExpression.TheViews.{size-ResolvedExpression, sized-Assign}
use Rattle.om_scope_tree.specs.declared.resolved.ResolvedExpression.TheViews.{sized-Element, sized-PostfixElement}
use Rattle.om_scope_tree.specs.declared.resolved.ResolvedExpression.TheViews.{sized-Unary}
use Rattle.om_scope_tree.specs.declared.resolved.ResolvedStatement.{ResolvedStatement, fold-roll-ResolvedStatement}
use Rattle.om_scope_tree.specs.declared.resolved.ResolvedStatement.TheOpen.{ResolvedStatement-F}
use Rattle.om_scope_tree.specs.declared.resolved.ResolvedStatement.TheVariants as v
use Rattle.om_scope_tree.specs.declared.resolved.ResolvedStatement.TheViews.{size-ResolvedStatement, sized-Construct}
use Rattle.om_scope_tree.specs.declared.resolved.ResolvedStatement.TheViews.{sized-Do, sized-For, sized-If, sized-Loop}
use Rattle.om_scope_tree.specs.declared.resolved.ResolvedStatement.TheViews.{sized-While}
use Rattle.om_scope_tree.specs.ResolvedTree as trees
use Rattle.om_scope_tree.specs.ResolvedTree.{ResolvedExpressionTree, ResolvedStatementTree, ResolvedStatementsTree}
use Rattle.om_scope_tree.specs.ResolvedView.{expression_layer, part_layer, statement_layer}
use Rattle.om_scope_tree.specs.ResolvedView as view
use Rattle.om_scope_tree.specs.Weights.{clause_weight, declarator_weight, expression_weight, loop_weight, parts_weight}
use Rattle.om_scope_tree.specs.Weights.{perhaps_weight, update_weight}
use Rattle.om_scope_tree.specs.Weights.{start_weight, statement_weight, statements_weight, values_weight}

-- ---- expressions

abbrev pub weight_of : ResolvedExpression → ℕ
weight_of t = expression_weight (view.expression t)

pub weight_call : (t : ResolvedExpression) (f : _) (es : _) → t ≡ expressions.Call f es
    → weight_of t ≡ values_weight (trees.values (map view.expression es.items))
unfolding expression_weight
weight_call t f es is = ap weight_of (is ∙ sym (expressions.rolls-Call f es)) ∙ ap expression_weight
    (fold-roll-ResolvedExpression ResolvedExpressionTree expression_layer (ResolvedExpression-F.Call f es))

pub weight_print : (t : ResolvedExpression) (text : _) (es : _) → t ≡ expressions.Print text es
    → weight_of t ≡ 1 + values_weight (trees.values (map view.expression es.items))
unfolding expression_weight
weight_print t text es is = ap weight_of (is ∙ sym (expressions.rolls-Print text es)) ∙ ap expression_weight
    (fold-roll-ResolvedExpression ResolvedExpressionTree expression_layer (ResolvedExpression-F.Print text es))

pub weight_binary : (t : ResolvedExpression) (a : _) (o : _) (b : _) → t ≡ expressions.Binary a o b
    → weight_of t ≡ weight_of a.value + weight_of b.value
unfolding expression_weight
weight_binary t a o b is = ap weight_of (is ∙ sym (expressions.rolls-Binary a o b)) ∙ ap expression_weight
    (fold-roll-ResolvedExpression ResolvedExpressionTree expression_layer (ResolvedExpression-F.Binary a o b))

pub weight_conditional : (t : ResolvedExpression) (c : _) (a : _) (b : _) → t ≡ expressions.Conditional c a b
    → weight_of t ≡ weight_of c.value + (weight_of a.value + weight_of b.value)
unfolding expression_weight
weight_conditional t c a b is = ap weight_of (is ∙ sym (expressions.rolls-Conditional c a b)) ∙ ap expression_weight
    (fold-roll-ResolvedExpression ResolvedExpressionTree expression_layer (ResolvedExpression-F.Conditional c a b))

pub weight_assign_element : (t : ResolvedExpression) (x : _) (j : _) (o : _) (e : _) → t ≡ expressions.AssignElement x j o e
    → weight_of t ≡ weight_of j.value + weight_of e.value
unfolding expression_weight
weight_assign_element t x j o e is = ap weight_of (is ∙ sym (expressions.rolls-AssignElement x j o e)) ∙ ap expression_weight
    (fold-roll-ResolvedExpression ResolvedExpressionTree expression_layer (ResolvedExpression-F.AssignElement x j o e))

-- an expression in a form that has no other one in it
pub weight_inner : (t : ResolvedExpression) (e : _)
    → ((x : _) × (t ≡ expressions.Element x e))
    ⊎ (((o : _) × (t ≡ expressions.Unary o e))
    ⊎ (((x : _) × (o : _) × (t ≡ expressions.Assign x o e))
    ⊎ ((x : _) × (o : _) × (t ≡ expressions.PostfixElement x e o))))
    → weight_of t ≡ weight_of e.value
unfolding expression_weight
weight_inner t e (inl is) =
    ap weight_of (is.1 ∙ sym (expressions.rolls-Element is.0 e)) ∙ ap expression_weight
    (fold-roll-ResolvedExpression ResolvedExpressionTree expression_layer (ResolvedExpression-F.Element is.0 e))
weight_inner t e (inr (inl is)) =
    ap weight_of (is.1 ∙ sym (expressions.rolls-Unary is.0 e)) ∙ ap expression_weight
    (fold-roll-ResolvedExpression ResolvedExpressionTree expression_layer (ResolvedExpression-F.Unary is.0 e))
weight_inner t e (inr (inr (inl is))) =
    ap weight_of (is.2 ∙ sym (expressions.rolls-Assign is.0 is.1 e)) ∙ ap expression_weight
    (fold-roll-ResolvedExpression ResolvedExpressionTree expression_layer (ResolvedExpression-F.Assign is.0 is.1 e))
weight_inner t e (inr (inr (inr is))) =
    ap weight_of (is.2 ∙ sym (expressions.rolls-PostfixElement is.0 e is.1)) ∙ ap expression_weight
    (fold-roll-ResolvedExpression ResolvedExpressionTree expression_layer (ResolvedExpression-F.PostfixElement is.0 e is.1))

pub smaller_inner : (t : ResolvedExpression) (e : _)
    → ((x : _) × (t ≡ expressions.Element x e))
    ⊎ (((o : _) × (t ≡ expressions.Unary o e))
    ⊎ (((x : _) × (o : _) × (t ≡ expressions.Assign x o e))
    ⊎ ((x : _) × (o : _) × (t ≡ expressions.PostfixElement x e o))))
    → size-ResolvedExpression e.value < size-ResolvedExpression t
smaller_inner t e (inl is) = omega (arith, ap size-ResolvedExpression is.1, sized-Element is.0 e)
smaller_inner t e (inr (inl is)) = omega (arith, ap size-ResolvedExpression is.1, sized-Unary is.0 e)
smaller_inner t e (inr (inr (inl is))) = omega (arith, ap size-ResolvedExpression is.2, sized-Assign is.0 is.1 e)
smaller_inner t e (inr (inr (inr is))) = omega (arith, ap size-ResolvedExpression is.2, sized-PostfixElement is.0 e is.1)

-- ---- statements

abbrev pub all_weight_of : ResolvedStatement → ℕ
all_weight_of t = statement_weight (view.statement t)

pub weight_declaration : (t : ResolvedStatement) (at : _) (ds : _) → t ≡ v.Declaration at ds
    → all_weight_of t ≡ sum (map declarator_weight (map view.declarator ds.items))
unfolding statement_weight
weight_declaration t at ds is = ap all_weight_of (is ∙ sym (v.rolls-Declaration at ds)) ∙ ap statement_weight
    (fold-roll-ResolvedStatement ResolvedStatementTree ResolvedStatementsTree statement_layer part_layer
    (ResolvedStatement-F.Declaration at ds))

pub weight_expression : (t : ResolvedStatement) (at : _) (e : _) → t ≡ v.Expression at e
    → all_weight_of t ≡ weight_of e
unfolding statement_weight
weight_expression t at e is = ap all_weight_of (is ∙ sym (v.rolls-Expression at e)) ∙ ap statement_weight
    (fold-roll-ResolvedStatement ResolvedStatementTree ResolvedStatementsTree statement_layer part_layer
    (ResolvedStatement-F.Expression at e))

pub weight_return : (t : ResolvedStatement) (at : _) (e : _) → t ≡ v.Return at e
    → all_weight_of t ≡ perhaps_weight (option_map view.expression e)
unfolding statement_weight
weight_return t at e is = ap all_weight_of (is ∙ sym (v.rolls-Return at e)) ∙ ap statement_weight
    (fold-roll-ResolvedStatement ResolvedStatementTree ResolvedStatementsTree statement_layer part_layer
    (ResolvedStatement-F.Return at e))

pub weight_update : (t : ResolvedStatement) (at : _) (u : _) → t ≡ v.Update at u
    → all_weight_of t ≡ update_weight (view.update u.value)
unfolding statement_weight
weight_update t at u is = ap all_weight_of (is ∙ sym (v.rolls-Update at u)) ∙ ap statement_weight
    (fold-roll-ResolvedStatement ResolvedStatementTree ResolvedStatementsTree statement_layer part_layer
    (ResolvedStatement-F.Update at u))

pub weight_block : (t : ResolvedStatement) (at : _) (items : _) → t ≡ v.Block at items
    → all_weight_of t ≡ statements_weight (trees.statements (map view.statement items.items))
unfolding statement_weight
weight_block t at items is = ap all_weight_of (is ∙ sym (v.rolls-Block at items)) ∙ ap statement_weight
    (fold-roll-ResolvedStatement ResolvedStatementTree ResolvedStatementsTree statement_layer part_layer
    (ResolvedStatement-F.Block at items))

pub weight_if : (t : ResolvedStatement) (at : _) (c : _) (s : _) → t ≡ v.If at c s
    → all_weight_of t ≡ weight_of c + all_weight_of s.value
unfolding statement_weight
weight_if t at c s is = ap all_weight_of (is ∙ sym (v.rolls-If at c s)) ∙ ap statement_weight
    (fold-roll-ResolvedStatement ResolvedStatementTree ResolvedStatementsTree statement_layer part_layer
    (ResolvedStatement-F.If at c s))

pub view_if_else : (t : ResolvedStatement) (at : _) (c : _) (s : _) (u : _) → t ≡ v.IfElse at c s u
    → view.statement t
    ≡ trees.IfElse at (view.expression c) (view.statement s.value) (view.statement u.value)
view_if_else t at c s u is = ap view.statement (is ∙ sym (v.rolls-IfElse at c s u))
    ∙ fold-roll-ResolvedStatement ResolvedStatementTree ResolvedStatementsTree statement_layer part_layer
    (ResolvedStatement-F.IfElse at c s u)

pub weight_if_else : (t : ResolvedStatement) (at : _) (c : _) (s : _) (u : _) → t ≡ v.IfElse at c s u
    → all_weight_of t ≡ weight_of c + (all_weight_of s.value + all_weight_of u.value)
unfolding statement_weight
weight_if_else t at c s u is = ap all_weight_of (is ∙ sym (v.rolls-IfElse at c s u)) ∙ ap statement_weight
    (fold-roll-ResolvedStatement ResolvedStatementTree ResolvedStatementsTree statement_layer part_layer
    (ResolvedStatement-F.IfElse at c s u))

pub weight_while : (t : ResolvedStatement) (at : _) (c : _) (s : _) → t ≡ v.While at c s
    → all_weight_of t ≡ weight_of c + all_weight_of s.value
unfolding statement_weight
weight_while t at c s is = ap all_weight_of (is ∙ sym (v.rolls-While at c s)) ∙ ap statement_weight
    (fold-roll-ResolvedStatement ResolvedStatementTree ResolvedStatementsTree statement_layer part_layer
    (ResolvedStatement-F.While at c s))

pub weight_do : (t : ResolvedStatement) (at : _) (s : _) (c : _) → t ≡ v.Do at s c
    → all_weight_of t ≡ all_weight_of s.value + weight_of c
unfolding statement_weight
weight_do t at s c is = ap all_weight_of (is ∙ sym (v.rolls-Do at s c)) ∙ ap statement_weight
    (fold-roll-ResolvedStatement ResolvedStatementTree ResolvedStatementsTree statement_layer part_layer
    (ResolvedStatement-F.Do at s c))

pub weight_for : (t : ResolvedStatement) (at : _) (h : _) (s : _) → t ≡ v.For at h s
    → all_weight_of t ≡ start_weight (view.start h.value.start)
    + (perhaps_weight (option_map view.expression h.value.condition)
    + (perhaps_weight (option_map view.expression h.value.step) + all_weight_of s.value))
unfolding statement_weight
weight_for t at h s is = ap all_weight_of (is ∙ sym (v.rolls-For at h s)) ∙ ap statement_weight
    (fold-roll-ResolvedStatement ResolvedStatementTree ResolvedStatementsTree statement_layer part_layer
    (ResolvedStatement-F.For at h s))

pub weight_region : (t : ResolvedStatement) (at : _) (kind : _) (clauses : _) (captures : _) (s : _)
    → t ≡ v.Region at kind clauses captures s
    → all_weight_of t ≡ 1 + (sum (map clause_weight (map view.clause clauses.items)) + all_weight_of s.value)
unfolding statement_weight
weight_region t at kind clauses captures s is = ap all_weight_of (is ∙ sym (v.rolls-Region at kind clauses captures s))
    ∙ ap statement_weight
    (fold-roll-ResolvedStatement ResolvedStatementTree ResolvedStatementsTree statement_layer part_layer
    (ResolvedStatement-F.Region at kind clauses captures s))

pub weight_loop : (t : ResolvedStatement) (at : _) (clauses : _) (nowait : _) (l : _) (s : _) → t ≡ v.Loop at clauses nowait l s
    → all_weight_of t ≡ sum (map clause_weight (map view.clause clauses.items)) + (loop_weight (view.loop l.value)
    + all_weight_of s.value)
unfolding statement_weight
weight_loop t at clauses nowait l s is = ap all_weight_of (is ∙ sym (v.rolls-Loop at clauses nowait l s)) ∙ ap statement_weight
    (fold-roll-ResolvedStatement ResolvedStatementTree ResolvedStatementsTree statement_layer part_layer
    (ResolvedStatement-F.Loop at clauses nowait l s))

pub weight_sections : (t : ResolvedStatement) (at : _) (clauses : _) (nowait : _) (parts : _) → t ≡ v.Sections at clauses nowait parts
    → all_weight_of t ≡ 1 + (sum (map clause_weight (map view.clause clauses.items)) + parts_weight
    (trees.parts (map view.part parts.items)))
unfolding statement_weight
weight_sections t at clauses nowait parts is = ap all_weight_of (is ∙ sym (v.rolls-Sections at clauses nowait parts)) ∙ ap statement_weight
    (fold-roll-ResolvedStatement ResolvedStatementTree ResolvedStatementsTree statement_layer part_layer
    (ResolvedStatement-F.Sections at clauses nowait parts))

pub weight_construct : (t : ResolvedStatement) (at : _) (kind : _) (clauses : _) (s : _) → t ≡ v.Construct at kind clauses s
    → all_weight_of t ≡ 1 + (sum (map clause_weight (map view.clause clauses.items)) + all_weight_of s.value)
unfolding statement_weight
weight_construct t at kind clauses s is = ap all_weight_of (is ∙ sym (v.rolls-Construct at kind clauses s)) ∙ ap statement_weight
    (fold-roll-ResolvedStatement ResolvedStatementTree ResolvedStatementsTree statement_layer part_layer
    (ResolvedStatement-F.Construct at kind clauses s))

pub weight_tested : (t : ResolvedStatement) (c : _) (s : _)
    → ((at : Span) × (t ≡ v.If at c s)) ⊎ ((at : Span) × (t ≡ v.While at c s))
    → all_weight_of t ≡ weight_of c + all_weight_of s.value
weight_tested t c s (inl is) = weight_if t is.0 c s is.1
weight_tested t c s (inr is) = weight_while t is.0 c s is.1

-- ---- what stands in one of several forms is smaller

pub smaller_tested : (t : ResolvedStatement) (c : _) (s : _)
    → ((at : Span) × (t ≡ v.If at c s)) ⊎ ((at : Span) × (t ≡ v.While at c s))
    → size-ResolvedStatement s.value < size-ResolvedStatement t
smaller_tested t c s (inl is) = omega (arith, ap size-ResolvedStatement is.1, sized-If is.0 c s)
smaller_tested t c s (inr is) = omega (arith, ap size-ResolvedStatement is.1, sized-While is.0 c s)

-- the one statement of a form, and its weight
pub inside : (t : ResolvedStatement) (s : _)
    → ((at : _) × (c : _) × (t ≡ v.If at c s))
    ⊎ (((at : _) × (c : _) × (t ≡ v.While at c s))
    ⊎ (((at : _) × (c : _) × (t ≡ v.Do at s c))
    ⊎ (((at : _) × (h : _) × (t ≡ v.For at h s))
    ⊎ (((at : _) × (cs : _) × (nowait : _) × (l : _) × (t ≡ v.Loop at cs nowait l s))
    ⊎ (((at : _) × (kind : _) × (cs : _) × (t ≡ v.Construct at kind cs s)))))))
    → (size-ResolvedStatement s.value < size-ResolvedStatement t) × (all_weight_of s.value ≤ all_weight_of t)
inside t s (inl is) = (
  omega (arith, ap size-ResolvedStatement is.2, sized-If is.0 is.1 s),
  omega (arith, weight_if t is.0 is.1 s is.2),
)
inside t s (inr (inl is)) = (
  omega (arith, ap size-ResolvedStatement is.2, sized-While is.0 is.1 s),
  omega (arith, weight_while t is.0 is.1 s is.2),
)
inside t s (inr (inr (inl is))) = (
  omega (arith, ap size-ResolvedStatement is.2, sized-Do is.0 s is.1),
  omega (arith, weight_do t is.0 s is.1 is.2),
)
inside t s (inr (inr (inr (inl is)))) = (
  omega (arith, ap size-ResolvedStatement is.2, sized-For is.0 is.1 s),
  omega (arith, weight_for t is.0 is.1 s is.2),
)
inside t s (inr (inr (inr (inr (inl is))))) = (
  omega (arith, ap size-ResolvedStatement is.4, sized-Loop is.0 is.1 is.2 is.3 s),
  omega (arith, weight_loop t is.0 is.1 is.2 is.3 s is.4),
)
inside t s (inr (inr (inr (inr (inr is))))) = (
  omega (arith, ap size-ResolvedStatement is.3, sized-Construct is.0 is.1 is.2 s),
  omega (arith, weight_construct t is.0 is.1 is.2 s is.3),
)

-- ---- what is left of a list

pub next_left : {A : Type 0} (xs : List A) (k : ℕ) (x : A) → k < length xs → x ≡ get_or xs k x
    → drop k xs ≡ x ∷ drop (k + 1) xs
next_left xs k x lt is =
    drop-cons xs k x lt ∙ ap (λ y. y ∷ drop (suc k) xs) (sym is) ∙ ap (λ j. x ∷ drop j xs) (sym (add-one k))

pub sum_left : {A B : Type 0} (weigh : B → ℕ) (see : A → B) (xs : List A) (k : ℕ) (x : A) → k < length xs
    → x ≡ get_or xs k x
    → sum (map weigh (map see (drop k xs))) ≡ weigh (see x) + sum (map weigh (map see (drop (k + 1) xs)))
sum_left weigh see xs k x lt is =
    ap (λ ys. sum (map weigh (map see ys))) (next_left xs k x lt is)
    ∙ sum_by-cons (λ n. n) (weigh (see x)) (map weigh (map see (drop (k + 1) xs)))

pub value_left : (es : List ResolvedExpression) (k : ℕ) (e : ResolvedExpression) → k < length es → e ≡ get_or es k e
    → values_weight (trees.values (map view.expression (drop k es)))
    ≡ weight_of e + values_weight (trees.values (map view.expression (drop (k + 1) es)))
unfolding values_weight
value_left es k e lt is =
    ap (λ xs. values_weight (trees.values (map view.expression xs))) (next_left es k e lt is)

pub next_item : (items : List ResolvedStatement) (k : ℕ) (x : ResolvedStatement) → k < length items
    → x ≡ get_or items k x
    → trees.statements (map view.statement (drop k items))
    ≡ trees.Statement (view.statement x) (trees.statements (map view.statement (drop (k + 1) items)))
next_item items k x lt is =
    ap (λ xs. trees.statements (map view.statement xs)) (next_left items k x lt is)

pub item_left : (items : List ResolvedStatement) (k : ℕ) (x : ResolvedStatement) → k < length items
    → x ≡ get_or items k x
    → statements_weight (trees.statements (map view.statement (drop k items)))
    ≡ all_weight_of x + statements_weight (trees.statements (map view.statement (drop (k + 1) items)))
unfolding statements_weight
item_left items k x lt is = ap (λ all. statements_weight all) (next_item items k x lt is)

pub next_part : (parts : List ResolvedPart) (k : ℕ) (x : ResolvedPart) → k < length parts → x ≡ get_or parts k x
    → trees.parts (map view.part (drop k parts))
    ≡ trees.Part (trees.statements (map view.statement (out-ResolvedPart x).items.items))
    (trees.parts (map view.part (drop (k + 1) parts)))
next_part parts k x lt is =
    ap (λ xs. trees.parts (map view.part xs)) (next_left parts k x lt is)
    ∙ ap (λ items. trees.Part items (trees.parts (map view.part (drop (k + 1) parts))))
    (fold_out-ResolvedPart ResolvedStatementTree ResolvedStatementsTree statement_layer part_layer x)

pub part_left : (parts : List ResolvedPart) (k : ℕ) (x : ResolvedPart) → k < length parts → x ≡ get_or parts k x
    → parts_weight (trees.parts (map view.part (drop k parts)))
    ≡ statements_weight (trees.statements (map view.statement (out-ResolvedPart x).items.items))
    + parts_weight (trees.parts (map view.part (drop (k + 1) parts)))
unfolding parts_weight
part_left parts k x lt is = ap (λ all. parts_weight all) (next_part parts k x lt is)

-- an item is no larger than the largest one; `size` is the one by which the call of the loop's function is measured
pub with_depth : {X : Type 0} (size : X → ℕ) (m a : ℕ) (items : List X) (i : ℕ) (item : X) {n : ℕ} {G : Type 0}
    → i < length items → item ≡ get_or items i item → m * most size items + a ≡ n
    → (size item ≤ most size items → G) → G
with_depth size m a items i item below is measure goes_on =
    goes_on (subst (λ x. size x ≤ most size items) (sym is) (at_most size items i item below))
