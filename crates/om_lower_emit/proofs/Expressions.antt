-- The code of expressions, row by row.
use Rattle.std.proofs.Common.{◌≡◌, ℕ, Bool, List, [], ◌∷◌, length, Some, None, subst, arith}
use Rattle.om_code.specs.declared.instruction.BinaryOperator as machine
use Rattle.om_code.specs.declared.instruction.Instr.{Instr}
use Rattle.om_code.specs.declared.instruction.Instr.TheVariants as i
use Rattle.om_code.specs.declared.instruction.Serial.TheVariants as serials
use Rattle.om_code.specs.declared.instruction.Function.TheVariants as calls
use Rattle.om_code.specs.declared.instruction.Place.{Place}
use Rattle.om_lower_emit.specs.Drafts.{Written, Puts, PutsAll}
use Rattle.om_lower_emit.specs.Emits.{Part, site, Emits, EmitsRow, EmitsValue, EmitsValues}
use Rattle.om_lower_emit.specs.Rests.{assignment, assignment_rest, binary_rest, call, element_rest, postfix_rest, unary_rest}
use Rattle.om_lower_emit.specs.Writing.{all_ins, emits_as, emits_put, emits_then, goes_end, goes_put, goes_put_all}
use Rattle.om_lower_emit.specs.Writing.{goes_part, put_all_length, put_length}
use Rattle.om_scope_tree.specs.declared.resolved.UnaryOperator.{UnaryOperator}
use Rattle.om_scope_tree.specs.declared.resolved.UnaryOperator.TheVariants as unaries
use Rattle.om_scope_tree.specs.declared.resolved.Variable as variables
use Rattle.om_scope_tree.specs.ResolvedTree.{ResolvedExpressionTree, Element, Call, Unary, Binary, PostfixElement}
use Rattle.om_scope_tree.specs.ResolvedTree.{ValuesTree}
use Rattle.om_lower_rules.specs.Bodies.{called_body}
use Rattle.om_lower_rules.specs.Expressions.{assigned, binary_row, unary_row, value, values, value_count}
use Rattle.om_lower_rules.specs.Operators.{BinaryForm, Both, Either, Plain, form_of, compound_of}
use Rattle.om_lower_rules.specs.Rows.{Site, Row, end, ins, part, ◌▸◌}
use Rattle.om_lower_rules.specs.Slots.{place_of}
use Rattle.om_lower_rules.specs.Numbered.{Numbered}
use Rattle.om_parser_tree.specs.declared.tree.AssignOperator.{AssignOperator}
use Rattle.om_parser_tree.specs.declared.tree.BinaryOperator.{BinaryOperator}
use Rattle.om_parser_tree.specs.declared.tree.PostfixOperator.{PostfixOperator}

-- ---- a part, and one instruction

pub emits_element : (names : Numbered) (l : ℕ) (x : variables.Variable) (j : ResolvedExpressionTree) (a b c : Written)
    → EmitsValue names l j a b → Puts l (i.Serial (serials.LoadElement (place_of names.slots x))) b c
    → EmitsValue names l (Element x j) a c
emits_element names l x j a b c e h =
    emits_put names (λ at. value at l j) l (i.Serial (serials.LoadElement (place_of names.slots x))) a b c e h

pub emits_call : (names : Numbered) (l function : ℕ) (es : ValuesTree) (body count : ℕ) (a b c : Written)
    → body ≡ called_body names.functions function → count ≡ value_count es
    → EmitsValues names l es a b → Puts l (i.Function (calls.Call body count)) b c → EmitsRow names (λ at. call at l function es) a c
emits_call names l function es body count a b c is counts e h =
    subst (λ z. Emits (λ done at. part (values (site names done) l es)
    ▸ ins (site names done) l (i.Function (calls.Call z (value_count es))) ▸ end) a c) is
    (subst (λ z. Emits (λ done at. part (values (site names done) l es) ▸ ins (site names done) l (i.Function (calls.Call body z))
    ▸ end) a c) counts
    (emits_put names (λ at. values at l es) l (i.Function (calls.Call body count)) a b c e h))

pub emits_used_call : (names : Numbered) (l function : ℕ) (es : ValuesTree) (a b c : Written)
    → EmitsRow names (λ at. call at l function es) a b → Puts l (i.Serial serials.Use) b c → EmitsValue names l (Call function es) a c
emits_used_call names l function es a b c e h = emits_put names (λ at. call at l function es) l (i.Serial serials.Use) a b c e h

pub emits_right : (names : Numbered) (l : ℕ) (o : machine.BinaryOperator) (y : ResolvedExpressionTree) (a b c : Written)
    → EmitsValue names l y a b → Puts l (i.Serial (serials.Binary o)) b c → EmitsRow names (λ at. binary_rest at l (Plain o) y) a c
emits_right names l o y a b c e h = emits_put names (λ at. value at l y) l (i.Serial (serials.Binary o)) a b c e h

-- ---- a part, and what stands behind it

unary_is : (at : Site) (l : ℕ) (operator : UnaryOperator) (e : Row) (p q : ℕ)
    → (part e ▸ unary_rest at l operator) p q → unary_row at l operator e p q
unary_is at l unaries.Plus e p q r = subst (λ z. e p z) r.2 r.1
unary_is at l unaries.Negate e p q r = r
unary_is at l unaries.Not e p q r = r

pub emits_unary : (names : Numbered) (l : ℕ) (operator : UnaryOperator) (e : ResolvedExpressionTree) (a b c : Written)
    → EmitsValue names l e a b → EmitsRow names (λ at. unary_rest at l operator) b c
    → EmitsValue names l (Unary operator e) a c
emits_unary names l operator e a b c h k =
    emits_as (λ done at. part (value (site names done) l e) ▸ unary_rest (site names done) l operator) _ a c
    (λ done at p q r. unary_is (site names done) l operator (value (site names done) l e) p q r)
    (emits_then (λ done at. value (site names done) l e) (λ done at. unary_rest
    (site names done) l operator) a b c h k)

binary_is : (at : Site) (l : ℕ) (form : BinaryForm) (x : Row) (y : ResolvedExpressionTree) (p q : ℕ)
    → (part x ▸ binary_rest at l form y) p q → binary_row at l form x (value at l y) p q
binary_is at l Both x y p q r = (r.2.0, r.2.1, (r.0, r.1, r.2.2))
binary_is at l Either x y p q r = (r.2.0, r.2.1, r.2.2, (r.0, r.1, r.2.3))
binary_is at l (Plain o) x y p q r = r

pub emits_binary : (names : Numbered) (l : ℕ) (operator : BinaryOperator) (x y : ResolvedExpressionTree)
    (a b c : Written)
    → EmitsValue names l x a b → EmitsRow names (λ at. binary_rest at l (form_of operator) y) b c
    → EmitsValue names l (Binary x operator y) a c
emits_binary names l operator x y a b c e h =
    emits_as (λ done at. part (value (site names done) l x)
    ▸ binary_rest (site names done) l (form_of operator) y) _ a c
    (λ done at p q r. binary_is (site names done) l (form_of operator) (value (site names done) l x) y p q r)
    (emits_then (λ done at. value (site names done) l x) (λ done at. binary_rest (site names done) l
    (form_of operator) y) a b c e h)

-- the form of the operator as it was looked up
pub rest_is : (names : Numbered) (l : ℕ) (form other : BinaryForm) (y : ResolvedExpressionTree) (a c : Written)
    → form ≡ other → EmitsRow names (λ at. binary_rest at l form y) a c
    → EmitsRow names (λ at. binary_rest at l other y) a c
rest_is names l form other y a c is e = subst (λ z. EmitsRow names (λ at. binary_rest at l z y) a c) is e

pub emits_postfix_element : (names : Numbered) (l : ℕ) (x : variables.Variable) (j : ResolvedExpressionTree)
    (operator : PostfixOperator) (a b c : Written)
    → EmitsValue names l j a b → EmitsRow names (λ at. postfix_rest at l x operator) b c
    → EmitsValue names l (PostfixElement x j operator) a c
emits_postfix_element names l x j operator a b c h k =
    emits_as (λ done at. part (value (site names done) l j) ▸ postfix_rest (site names done) l x operator) _ a c
    (λ done at p q r. (r.2.0, (r.0, r.1, r.2.1), r.2.2))
    (emits_then (λ done at. value (site names done) l j) (λ done at. postfix_rest
    (site names done) l x operator) a b c h k)

-- ---- assignments

pub emits_set : (names : Numbered) (l : ℕ) (keeps : Bool) (x : variables.Variable) (operator : AssignOperator)
    (e : ResolvedExpressionTree) (a b c : Written)
    → None ≡ compound_of operator → EmitsValue names l e a b → Puts l (i.Serial (serials.Store (place_of names.slots x) keeps)) b c
    → EmitsRow names (λ at. assignment at l keeps x operator e) a c
emits_set names l keeps x operator e a b c is h k =
    subst (λ z. EmitsRow names (λ at. assigned at l keeps x z (value at l e)) a c) is
    (emits_put names (λ at. value at l e) l (i.Serial (serials.Store (place_of names.slots x) keeps)) a b c h k)

pub emits_compound : (names : Numbered) (l : ℕ) (keeps : Bool) (x : variables.Variable) (operator : AssignOperator)
    (o : machine.BinaryOperator) (e : ResolvedExpressionTree) (a b c d g : Written)
    → Some o ≡ compound_of operator → Puts l (i.Serial (serials.Load (place_of names.slots x))) a b
    → EmitsValue names l e b c → Puts l (i.Serial (serials.Binary o)) c d → Puts l (i.Serial (serials.Store (place_of names.slots x) keeps)) d g
    → EmitsRow names (λ at. assignment at l keeps x operator e) a g
emits_compound names l keeps x operator o e a b c d g is h1 h2 h3 h4 =
    let n = length a.places in
    let n1 = put_length l _ a b h1 in
    let place = place_of names.slots x in
    let r4 : Part = λ done at. ins (site names done) l (i.Serial (serials.Store place keeps)) ▸ end in
    let r3 : Part = λ done at. ins (site names done) l (i.Serial (serials.Binary o)) ▸ r4 done at in
    let r2 : Part = λ done at. part (value (site names done) l e) ▸ r3 done at in
    subst (λ z. EmitsRow names (λ at. assigned at l keeps x z (value at l e)) a g) is
    (goes_put names n l (i.Serial (serials.Load place)) r2 a b g h1
    (goes_part n (λ done at. value (site names done) l e) r3 b c g (omega arith) h2
    (goes_put names n l (i.Serial (serials.Binary o)) r4 c d g h3
    (goes_put names n l (i.Serial (serials.Store place keeps)) (λ done at. end) d g g h4
    (goes_end n g)))))

pub emits_set_element : (names : Numbered) (l : ℕ) (keeps : Bool) (x : variables.Variable) (operator : AssignOperator)
    (at_x : Place) (e : ResolvedExpressionTree) (a b c : Written)
    → None ≡ compound_of operator → at_x ≡ place_of names.slots x → EmitsValue names l e a b
    → Puts l (i.Serial (serials.StoreElement at_x keeps)) b c
    → EmitsRow names (λ at. assignment_rest at l keeps x operator e) a c
emits_set_element names l keeps x operator at_x e a b c is here h k =
    subst (λ z. EmitsRow names (λ at. element_rest at l keeps x z (value at l e)) a c) is
    (emits_put names (λ at. value at l e) l (i.Serial (serials.StoreElement (place_of names.slots x) keeps)) a b c h
    (subst (λ p. Puts l (i.Serial (serials.StoreElement p keeps)) b c) here k))

pub emits_compound_element : (names : Numbered) (l : ℕ) (keeps : Bool) (x : variables.Variable)
    (operator : AssignOperator) (o : machine.BinaryOperator) (at_x : Place)
    (e : ResolvedExpressionTree) (a b c d : Written)
    → Some o ≡ compound_of operator → at_x ≡ place_of names.slots x
    → PutsAll l ((i.Serial serials.Duplicate) ∷ i.Serial (serials.LoadElement at_x) ∷ []) a b → EmitsValue names l e b c
    → PutsAll l (i.Serial (serials.Binary o) ∷ i.Serial (serials.StoreElement at_x keeps) ∷ []) c d
    → EmitsRow names (λ at. assignment_rest at l keeps x operator e) a d
emits_compound_element names l keeps x operator o at_x e a b c d is here h1 h2 h3 =
    let n = length a.places in
    let n1 = put_all_length l _ a b h1 in
    let place = place_of names.slots x in
    let loaded : Place → List Instr = λ p. (i.Serial serials.Duplicate) ∷ i.Serial (serials.LoadElement p) ∷ [] in
    let stored : Place → List Instr = λ p. i.Serial (serials.Binary o) ∷ i.Serial (serials.StoreElement p keeps) ∷ [] in
    let r3 : Part = λ done at. all_ins (site names done) at l (stored place) end in
    let r2 : Part = λ done at. part (value (site names done) l e) ▸ r3 done at in
    subst (λ z. EmitsRow names (λ at. element_rest at l keeps x z (value at l e)) a d) is
    (goes_put_all names n l (loaded place) r2 a b d (subst (λ p. PutsAll l (loaded p) a b) here h1)
    (goes_part n (λ done at. value (site names done) l e) r3 b c d (omega arith) h2
    (goes_put_all names n l (stored place) (λ done at. end) c d d (subst (λ p. PutsAll l (stored p) c d) here h3)
    (goes_end n d))))

-- ---- another name for the tree

pub value_is : (names : Numbered) (l : ℕ) (x y : ResolvedExpressionTree) (a c : Written) → x ≡ y
    → EmitsValue names l x a c → EmitsValue names l y a c
value_is names l x y a c is e = subst (λ z. EmitsValue names l z a c) is e
