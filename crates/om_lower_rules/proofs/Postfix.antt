-- What a postfix operator did with its 1 and then undid is the old value.
use Rattle.std.proofs.Common.{◌≡◌, ℕ, ℤ, pos, Bool, true, false, Option, Some, None, refl, sym, ap, ◌∙◌, arith}
use Rattle.std.proofs.Common.{subst}
use Rattle.std.proofs.lemmas.Int.{ints}
use Rattle.std.specs.Prelude.{◌+ℤ◌, ◌-ℤ◌, Result, Ok, Err, if◌then◌else◌}
use Rattle.om_code.specs.declared.frame.Cell.{Cell}
use Rattle.om_code.specs.declared.frame.Cell.TheVariants as cell
use Rattle.om_code.specs.declared.frame.Fault.{Fault}
use Rattle.om_code.specs.declared.frame.Fault.TheVariants as fault
use Rattle.om_code.specs.declared.instruction.Place.{Place}
use Rattle.om_code.specs.Arithmetic.{is_int, in_range, operate}
use Rattle.om_code.specs.Frames.{index_in}
use Rattle.om_parser_tree.specs.declared.tree.PostfixOperator.{PostfixOperator}
use Rattle.om_parser_tree.specs.declared.tree.PostfixOperator.TheVariants as postfixes
use Rattle.om_lower_rules.specs.Operators.{step_of, inverse_step_of}
use Rattle.om_lower_rules.specs.SourceOperators.{Operation}
use Rattle.om_lower_rules.specs.Ints.{HoldsInt, HoldsInts, LeavesInts}
use Rattle.om_lower_rules.specs.MeaningLaws.{PostfixGivesOld, ElementGivesOld}
use Rattle.om_lower_rules.specs.Meaning.{assigned, element_assigned, stepped_back, load_element, store_element, one, value_of}
use Rattle.om_lower_rules.specs.Worlds.{World, Outcome, Got, Faulty, with_value, result, held, with_held, found, put_into}
use Rattle.om_lower_rules.specs.Worlds.{load, store, at_index}
use Rattle.om_lower_rules.proofs.Ints.{value_ints}
use Rattle.om_lower_rules.proofs.OperatorsAgree.{step_pair}

ok_of : (b : Bool) (x z : ℤ) → (if b then Ok x else Err fault.Overflow) ≡ Ok z → x ≡ z
ok_of true x z e = cc e
ok_of false x z e = absurd cc

up_down : (x : ℤ) → (x +ℤ pos 1) -ℤ pos 1 ≡ x
up_down x = omega (arith, ints)

down_up : (x : ℤ) → (x -ℤ pos 1) +ℤ pos 1 ≡ x
down_up x = omega (arith, ints)

-- a step and its inverse give the old value
undoes : (o : PostfixOperator) (old z : ℤ) → is_int old ≡ true → operate (step_of o) old (pos 1) ≡ Ok z
    → operate (inverse_step_of o) z (pos 1) ≡ Ok old
undoes postfixes.Increment old z int e =
    let sum : old +ℤ pos 1 ≡ z = ok_of (is_int (old +ℤ pos 1)) (old +ℤ pos 1) z e in
    let back : z -ℤ pos 1 ≡ old = ap (λ y. y -ℤ pos 1) (sym sum) ∙ up_down old in
    ap (λ y. in_range y) back ∙ ap (λ b. if b then Ok old else Err fault.Overflow) int
undoes postfixes.Decrement old z int e =
    let sum : old -ℤ pos 1 ≡ z = ok_of (is_int (old -ℤ pos 1)) (old -ℤ pos 1) z e in
    let back : z +ℤ pos 1 ≡ old = ap (λ y. y +ℤ pos 1) (sym sum) ∙ down_up old in
    ap (λ y. in_range y) back ∙ ap (λ b. if b then Ok old else Err fault.Overflow) int

-- behind a sum: it overflows, or is stored and taken back
summed : (o : PostfixOperator) (at : Place) (k : ℕ) (old : ℤ) (w : World) (r : Result ℤ Fault) → held w at k
    ≡ cell.Int old → is_int old ≡ true
    → operate (step_of o) old (pos 1) ≡ r
    → stepped_back (operate (inverse_step_of o)) (with_value (result r w) (λ z u. store at k z u))
    ≡ with_value (with_value (result r w) (λ z u. store at k z u)) (λ z u. Got old u)
unfolding store
summed o at k old w (Err f) there int e = refl
summed o at k old w (Ok z) there int e =
    ap (λ c. stepped_back (operate (inverse_step_of o)) (put_into c at k z w)) there
    ∙ ap (λ (r : Result ℤ Fault). result r (with_held w at k (cell.Int z))) (undoes o old z int e)
    ∙ ap (λ c. with_value (put_into c at k z w) (λ z u. Got old u)) (sym there)

-- behind the load of the old value
loaded : (o : PostfixOperator) (at : Place) (k : ℕ) (old : ℤ) (w : World) → held w at k ≡ cell.Int old → is_int old
    ≡ true
    → stepped_back (operate (inverse_step_of o)) (with_value (load at k w)
    (λ x u. with_value (one u) (λ y t. with_value (result (operate (step_of o) x y) t) (λ z s. store at k z s))))
    ≡ with_value (with_value (load at k w)
    (λ x u. with_value (one u) (λ y t. with_value (result (operate (step_of o) x y) t)
    (λ z s. store at k z s)))) (λ z u. Got old u)
unfolding load
loaded o at k old w there int =
    ap (λ c. stepped_back (operate (inverse_step_of o))
    (with_value (found c w) (λ x u. with_value (one u) (λ y t. with_value (result (operate (step_of o) x y) t)
    (λ z s. store at k z s))))) there
    ∙ summed o at k old w (operate (step_of o) old (pos 1)) there int refl
    ∙ ap (λ c. with_value
    (with_value (found c w) (λ x u. with_value (one u) (λ y t. with_value (result (operate (step_of o) x y) t)
    (λ z s. store at k z s)))) (λ z u. Got old u))
    (sym there)

-- the load, the sum and the store
abbrev steps_on : PostfixOperator → Place → ℕ → World → Outcome
steps_on o at k w =
    with_value (load at k w) (λ x u. with_value (one u) (λ y t. with_value (result (operate (step_of o) x y) t)
    (λ z s. store at k z s)))

-- whatever the cell holds
cell_old : (o : PostfixOperator) (at : Place) (k : ℕ) (w : World) (c : Cell) → held w at k ≡ c → HoldsInt c
    → stepped_back (operate (inverse_step_of o)) (steps_on o at k w)
    ≡ with_value (load at k w) (λ old u. with_value (steps_on o at k w)
    (λ z t. Got old t))
unfolding load
cell_old o at k w (cell.Int old) there int =
    loaded o at k old w there int
    ∙ ap (λ c. with_value (found c w) (λ y u. with_value (steps_on o at k w) (λ z t. Got y t))) (sym there)
cell_old o at k w cell.Unset there int =
    ap (λ c. stepped_back (operate (inverse_step_of o))
    (with_value (found c w) (λ x u. with_value (one u) (λ y t. with_value (result (operate (step_of o) x y) t)
    (λ z s. store at k z s))))) there
    ∙ ap (λ c. with_value (found c w) (λ y u. with_value (steps_on o at k w) (λ z t. Got y t))) (sym there)
cell_old o at k w cell.Dead there int =
    ap (λ c. stepped_back (operate (inverse_step_of o))
    (with_value (found c w) (λ x u. with_value (one u) (λ y t. with_value (result (operate (step_of o) x y) t)
    (λ z s. store at k z s))))) there
    ∙ ap (λ c. with_value (found c w) (λ y u. with_value (steps_on o at k w) (λ z t. Got y t))) (sym there)

pub postfix_gives_old : PostfixGivesOld
postfix_gives_old at x o w h =
    subst (λ (z : Operation × Operation). stepped_back z.1 (assigned (at.place x) (Some z.0) one w)
    ≡ with_value (load (at.place x) 0 w) (λ old u. with_value (assigned (at.place x) (Some z.0) one w)
    (λ z t. Got old t))) (sym (step_pair o))
    (cell_old o (at.place x) 0 w (held w (at.place x) 0) refl (h (at.place x) 0))

-- an element, behind its index
abbrev by_index : PostfixOperator → Place → World → Option ℕ → Outcome
by_index o at w i =
    with_value (at_index i w (λ m. load at m w))
    (λ x t. with_value (one t) (λ y s. with_value (result (operate (step_of o) x y) s)
    (λ z r. at_index i r (λ m. store at m z r))))

index_old : (o : PostfixOperator) (at : Place) (w : World) (i : Option ℕ) → HoldsInts w
    → stepped_back (operate (inverse_step_of o)) (by_index o at w i) ≡ with_value (at_index i w (λ m. load at m w))
    (λ old u. with_value (by_index o at w i) (λ z t. Got old t))
index_old o at w None h = refl
index_old o at w (Some k) h = cell_old o at k w (held w at k) refl (h at k)

abbrev stepped : PostfixOperator → Place → ℕ → ℤ → World → Outcome
stepped o at cells n u =
    with_value (load_element at cells n u)
    (λ x t. with_value (one t) (λ y s. with_value (result (operate (step_of o) x y) s)
    (λ z r. store_element at cells n z r)))

outcome_old : (o : PostfixOperator) (at : Place) (cells : ℕ) (r : Outcome) → LeavesInts r
    → stepped_back (operate (inverse_step_of o)) (with_value r (λ n u. stepped o at cells n u))
    ≡ with_value r (λ n u. with_value (load_element at cells n u)
    (λ old s. with_value (with_value r (λ n u. stepped o at cells n u)) (λ z t. Got old t)))
outcome_old o at cells (Got n u) h = index_old o at u (index_in cells n) h.1
outcome_old o at cells (Faulty x u) h = refl

pub element_gives_old : ElementGivesOld
element_gives_old at a j o w ints h =
    subst (λ (z : Operation × Operation). stepped_back z.1 (element_assigned (at.place a) (at.cells (at.place a))
    (λ u. value_of at j u) (Some z.0) one w)
    ≡ with_value (value_of at j w) (λ n u. with_value (load_element (at.place a) (at.cells (at.place a)) n u)
    (λ old s. with_value (element_assigned (at.place a) (at.cells (at.place a)) (λ u. value_of at j u) (Some z.0) one w)
    (λ z t. Got old t)))) (sym (step_pair o))
    (outcome_old o (at.place a) (at.cells (at.place a)) (value_of at j w) (value_ints at j ints w h))
