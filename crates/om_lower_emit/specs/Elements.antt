-- The code of an assignment to an element, and of a step of one: matter of proofs.
use Rattle.std.proofs.Common.{◌≡◌, ℕ, Bool, Option, Some, None, subst}
use Rattle.om_code.specs.declared.instruction.BinaryOperator as machine
use Rattle.om_lower_emit.specs.declared.expression.Target.{Target}
use Rattle.om_lower_emit.specs.Drafts.{Written}
use Rattle.om_lower_emit.specs.Emits.{site, EmitsRow, EmitsValue}
use Rattle.om_lower_emit.specs.Rests.{assignment_rest, element_rest}
use Rattle.om_lower_emit.specs.Writing.{emits_as, emits_then}
use Rattle.om_scope_tree.specs.declared.resolved.Variable as variables
use Rattle.om_scope_tree.specs.ResolvedTree.{ResolvedExpressionTree}
use Rattle.om_lower_rules.specs.Expressions.{element_assigned, value}
use Rattle.om_lower_rules.specs.Rows.{Site, Row, part, ◌▸◌}
use Rattle.om_lower_rules.specs.Numbered.{Numbered}

element_is : (at : Site) (l : ℕ) (keeps : Bool) (x : variables.Variable) (j : Row)
    (o : Option machine.BinaryOperator) (e : Row) (p q : ℕ)
    → (part j ▸ element_rest at l keeps x o e) p q → element_assigned at l keeps x j o e p q
element_is at l keeps x j None e p q r = r
element_is at l keeps x j (Some o) e p q r = r

-- under any use of the value
pub emits_element_assigned : (names : Numbered) (l : ℕ) (keeps : Bool) (x : variables.Variable)
    (j : ResolvedExpressionTree) (o : Option machine.BinaryOperator)
    (e : Site → Row) (a b c : Written)
    → EmitsValue names l j a b → EmitsRow names (λ at. element_rest at l keeps x o (e at)) b c
    → EmitsRow names (λ at. element_assigned at l keeps x (value at l j) o (e at)) a c
emits_element_assigned names l keeps x j o e a b c h k =
    emits_as (λ done at. part (value (site names done) l j)
    ▸ element_rest (site names done) l keeps x o (e (site names done))) _ a c
    (λ done at p q r. element_is (site names done) l keeps x (value (site names done) l j) o (e
    (site names done)) p q r)
    (emits_then (λ done at. value (site names done) l j) (λ done at. element_rest (site names done) l keeps x o (e
    (site names done))) a b c h k)

-- under the target as it was made
pub target_is : (names : Numbered) (l : ℕ) (e : ResolvedExpressionTree) (t u : Target) (a c : Written)
    → t ≡ u → EmitsRow names (λ at. assignment_rest at l t.keeps t.variable t.operator e) a c
    → EmitsRow names (λ at. assignment_rest at l u.keeps u.variable u.operator e) a c
target_is names l e t u a c is h =
    subst (λ z. EmitsRow names (λ at. assignment_rest at l z.keeps z.variable z.operator e) a c) is h
