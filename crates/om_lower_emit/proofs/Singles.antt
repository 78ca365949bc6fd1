-- What a few instructions in a row are.
use Rattle.std.proofs.Common.{◌≡◌, ◌<◌, ℕ, ◌+◌, ℤ, pos, Bool, List, [], ◌∷◌, length, Some, refl, subst, arith}
use Rattle.om_code.specs.declared.instruction.BinaryOperator as machine
use Rattle.om_code.specs.declared.instruction.Instr.{Instr}
use Rattle.om_code.specs.declared.instruction.Instr.TheVariants as i
use Rattle.om_code.specs.declared.instruction.Serial.TheVariants as serials
use Rattle.om_code.specs.declared.instruction.Place.{Place}
use Rattle.om_lower_emit.specs.Drafts.{Written, Defines, Puts, PutsAll}
use Rattle.om_lower_emit.specs.Emits.{Part, site, Goes, Emits, EmitsRow}
use Rattle.om_lower_emit.specs.Rests.{element_rest, stepped, stepped_rest, truth_row}
use Rattle.om_lower_emit.specs.Writing.{all_ins, emits_as, emits_one, goes_end, goes_put, goes_put_all, goes_here}
use Rattle.om_scope_tree.specs.declared.resolved.Variable as variables
use Rattle.om_lower_rules.specs.Expressions.{assigned, constant, stepped_back}
use Rattle.om_lower_rules.specs.Operators.{step_of, inverse_step_of}
use Rattle.om_lower_rules.specs.Rows.{end, ins, here, ◌▸◌}
use Rattle.om_lower_rules.specs.Slots.{place_of}
use Rattle.om_lower_rules.specs.Numbered.{Numbered}
use Rattle.om_parser_tree.specs.declared.tree.PostfixOperator.{PostfixOperator}

-- several instructions of one line
pub emits_all : (names : Numbered) (l : ℕ) (xs : List Instr) (a b : Written) → PutsAll l xs a b
    → Emits (λ done at. all_ins (site names done) at l xs end) a b
emits_all names l xs a b h = goes_put_all names (length a.places) l xs (λ done at. end) a b b h (goes_end
    (length a.places) b)

-- the number as it was read
pub emits_constant : (names : Numbered) (l : ℕ) (c read : ℤ) (a b : Written) → read ≡ c → Puts l (i.Serial (serials.Constant read)) a b
    → EmitsRow names (λ at. constant at l c) a b
emits_constant names l c read a b is h =
    subst (λ z. EmitsRow names (λ at. constant at l z) a b) is (emits_one names l (i.Serial (serials.Constant read)) a b h)

-- CONST 1, BIN
pub emits_old : (names : Numbered) (l : ℕ) (operator : PostfixOperator) (o : machine.BinaryOperator)
    (a b : Written) → o ≡ inverse_step_of operator → PutsAll l (i.Serial (serials.Constant (pos 1)) ∷ i.Serial (serials.Binary o) ∷ []) a b
    → EmitsRow names (λ at. stepped_back at l (inverse_step_of operator)) a b
emits_old names l operator o a b is h =
    subst (λ z. EmitsRow names (λ at. stepped_back at l z) a b) is (emits_all names l _ a b h)

-- LOAD, CONST 1, BIN, STORE
pub emits_stepped : (names : Numbered) (l : ℕ) (keeps : Bool) (x : variables.Variable) (operator : PostfixOperator)
    (o : machine.BinaryOperator) (at_x : Place) (a b : Written)
    → o ≡ step_of operator → at_x ≡ place_of names.slots x
    → PutsAll l (i.Serial (serials.Load at_x) ∷ i.Serial (serials.Constant (pos 1)) ∷ i.Serial (serials.Binary o) ∷ i.Serial (serials.Store at_x keeps) ∷ []) a b
    → EmitsRow names (λ at. stepped at l keeps x operator) a b
emits_stepped names l keeps x operator o at_x a b is here h =
    let all : Place → List Instr = λ p. i.Serial (serials.Load p) ∷ i.Serial (serials.Constant (pos 1)) ∷ i.Serial (serials.Binary o) ∷ i.Serial (serials.Store p keeps) ∷ [] in
    let place = place_of names.slots x in
    subst (λ z. EmitsRow names (λ at. assigned at l keeps x (Some z) (constant at l (pos 1))) a b) is
    (emits_as (λ done at. all_ins (site names done) at l (all place) end) _ a b
    (λ done at p q r. (r.0, (p + 1 + 1, (r.1.0, refl), r.1.1)))
    (emits_all names l (all place) a b (subst (λ p. PutsAll l (all p) a b) here h)))

-- DUP, LOADX, CONST 1, BIN, STOREX
pub emits_stepped_element : (names : Numbered) (l : ℕ) (keeps : Bool) (x : variables.Variable)
    (operator : PostfixOperator) (o : machine.BinaryOperator) (at_x : Place) (a b : Written)
    → o ≡ step_of operator → at_x ≡ place_of names.slots x
    → PutsAll l ((i.Serial serials.Duplicate) ∷ i.Serial (serials.LoadElement at_x) ∷ i.Serial (serials.Constant (pos 1)) ∷ i.Serial (serials.Binary o) ∷ i.Serial (serials.StoreElement at_x keeps) ∷ []) a b
    → EmitsRow names (λ at. stepped_rest at l keeps x operator) a b
emits_stepped_element names l keeps x operator o at_x a b is here h =
    let all : Place → List Instr =
    λ p. (i.Serial serials.Duplicate) ∷ i.Serial (serials.LoadElement p) ∷ i.Serial (serials.Constant (pos 1)) ∷ i.Serial (serials.Binary o) ∷ i.Serial (serials.StoreElement p keeps) ∷ [] in
    let place = place_of names.slots x in
    subst (λ z. EmitsRow names (λ at. element_rest at l keeps x (Some z) (constant at l (pos 1))) a b) is
    (emits_as (λ done at. all_ins (site names done) at l (all place) end) _ a b
    (λ done at p q r. (r.0, (r.1.0, (p + 1 + 1 + 1, (r.1.1.0, refl), r.1.1.1))))
    (emits_all names l (all place) a b (subst (λ p. PutsAll l (all p) a b) here h)))

-- JZ f, CONST 1, JMP e, f: CONST 0, e:
pub emits_truth : (names : Numbered) (l f e : ℕ) (a b c d g : Written) → f < e
    → PutsAll l (i.Serial (serials.JumpIfZero f) ∷ i.Serial (serials.Constant (pos 1)) ∷ i.Serial (serials.Jump e) ∷ []) a b → Defines f b c
    → Puts l (i.Serial (serials.Constant (pos 0))) c d → Defines e d g
    → Goes f (λ done at. truth_row (site names done) l (at f) (at e)) a g
emits_truth names l f e a b c d g lt h1 h2 h3 h4 =
    let r3 : Part = λ done at. here (at e) ▸ end in
    let r2 : Part = λ done at. ins (site names done) l (i.Serial (serials.Constant (pos 0))) ▸ r3 done at in
    let r1 : Part = λ done at. here (at f) ▸ r2 done at in
    goes_put_all names f l (i.Serial (serials.JumpIfZero f) ∷ i.Serial (serials.Constant (pos 1)) ∷ i.Serial (serials.Jump e) ∷ []) r1 a b g h1
    (goes_here f f r2 b c g (omega arith) h2
    (goes_put names f l (i.Serial (serials.Constant (pos 0))) r3 c d g h3
    (goes_here f e (λ done at. end) d g g (omega arith) h4
    (goes_end f g))))
