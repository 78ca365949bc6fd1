-- What the operators of the source give is what the instructions give.
use Rattle.std.proofs.Common.{◌≡◌, ℕ, ◌^◌, ℤ, pos, negsuc, Bool, true, false, refl, ap, ◌∙◌, arith}
use Rattle.std.proofs.lemmas.Bool.{leb-true, leb-false, ltb-true, ltb-false}
use Rattle.std.proofs.lemmas.Int.{ints, quot-rem}
use Rattle.std.specs.Prelude.{◌+ℤ◌, ◌-ℤ◌, ◌*ℤ◌, neg_ℤ, int_lt, int_le, int_div, int_rem, not, ◌&&◌, nat_le, nat_lt}
use Rattle.std.specs.Prelude.{Ok, Err, Some, if◌then◌else◌}
use Rattle.std.specs.Ordering.{int_eq}
use Rattle.om_code.specs.declared.frame.Fault.TheVariants as fault
use Rattle.om_code.specs.Arithmetic.{is_int, in_range, truth, divided, remaining, operate}
use Rattle.om_parser_tree.specs.declared.tree.AssignOperator.TheVariants as assigns
use Rattle.om_parser_tree.specs.declared.tree.BinaryOperator.TheVariants as binaries
use Rattle.om_parser_tree.specs.declared.tree.PostfixOperator.{PostfixOperator}
use Rattle.om_parser_tree.specs.declared.tree.PostfixOperator.TheVariants as postfixes
use Rattle.om_lower_rules.specs.Operators.{step_of, inverse_step_of}
use Rattle.om_lower_rules.specs.SourceOperators.{Operation, is_int_value, int_value, one_if, sum, difference, product}
use Rattle.om_lower_rules.specs.SourceOperators.{quotient, remainder, OfBoth, BinariesAgree, UnariesAgree}
use Rattle.om_lower_rules.specs.SourceOperators.{CompoundsAgree, StepsAgree, step_meaning, inverse_step_meaning}

-- ---- ints

below_or_at : (n : ℕ) → nat_le n 2147483647 ≡ nat_lt n (2 ^ 31)
below_or_at n = both (nat_le n 2147483647) (nat_lt n (2 ^ 31)) refl refl
  where
    both : (a b : Bool) → nat_le n 2147483647 ≡ a → nat_lt n (2 ^ 31) ≡ b → a ≡ b
    both true true e f = refl
    both false false e f = refl
    both true false e f =
        let le = leb-true n 2147483647 e in let more = ltb-false n (2 ^ 31) f in absurd (omega (arith, le, more))
    both false true e f =
        let more = leb-false n 2147483647 e in let lt = ltb-true n (2 ^ 31) f in absurd (omega (arith, more, lt))

and_true : (b : Bool) → (b && true) ≡ b
and_true true = refl
and_true false = refl

pub int_is : (z : ℤ) → is_int_value z ≡ is_int z
int_is (pos n) = below_or_at n
int_is (negsuc n) = and_true (nat_le n 2147483647) ∙ below_or_at n

pub value_is : (z : ℤ) → int_value z ≡ in_range z
value_is z = ap (λ b. if b then Ok z else Err fault.Overflow) (int_is z)

pub one_is : (b : Bool) → one_if b ≡ truth b
one_is true = refl
one_is false = refl

-- ---- operators

what_is_left : (x r a : ℤ) → x +ℤ r ≡ a → a -ℤ x ≡ r
what_is_left x r a e = omega (arith, ints, e)

pub sum_is : (a b : ℤ) → sum a b ≡ in_range (a +ℤ b)
sum_is a b = value_is (a +ℤ b)

pub difference_is : (a b : ℤ) → difference a b ≡ in_range (a -ℤ b)
difference_is a b = value_is (a -ℤ b)

product_is : (a b : ℤ) → product a b ≡ in_range (a *ℤ b)
product_is a b = value_is (a *ℤ b)

quotient_is : (a b : ℤ) → quotient a b ≡ divided a b
quotient_is a b = ap (λ r. if int_eq b (pos 0) then Err fault.ZeroDivisor else r) (value_is (int_div a b))

remainder_is : (a b : ℤ) → remainder a b ≡ remaining a b
remainder_is a b =
    ap (λ (z : ℤ). if int_eq b (pos 0) then Err fault.ZeroDivisor
    else if is_int_value (int_div a b) then Ok z else Err fault.Overflow)
    (what_is_left (int_div a b *ℤ b) (int_rem a b) a (quot-rem a b))
    ∙ ap (λ i. if int_eq b (pos 0) then Err fault.ZeroDivisor
    else if i then Ok (int_rem a b) else Err fault.Overflow) (int_is (int_div a b))

pub binaries_agree : BinariesAgree
binaries_agree binaries.And = refl
binaries_agree binaries.Or = refl
binaries_agree binaries.Equal = λ i. OfBoth (λ a b. Ok (one_is (int_eq a b) i))
binaries_agree binaries.NotEqual = λ i. OfBoth (λ a b. Ok (one_is (not (int_eq a b)) i))
binaries_agree binaries.Less = λ i. OfBoth (λ a b. Ok (one_is (int_lt a b) i))
binaries_agree binaries.Greater = λ i. OfBoth (λ a b. Ok (one_is (int_lt b a) i))
binaries_agree binaries.LessEqual = λ i. OfBoth (λ a b. Ok (one_is (int_le a b) i))
binaries_agree binaries.GreaterEqual = λ i. OfBoth (λ a b. Ok (one_is (int_le b a) i))
binaries_agree binaries.Add = λ i. OfBoth (λ a b. sum_is a b i)
binaries_agree binaries.Subtract = λ i. OfBoth (λ a b. difference_is a b i)
binaries_agree binaries.Multiply = λ i. OfBoth (λ a b. product_is a b i)
binaries_agree binaries.Divide = λ i. OfBoth (λ a b. quotient_is a b i)
binaries_agree binaries.Remainder = λ i. OfBoth (λ a b. remainder_is a b i)

pub unaries_agree : UnariesAgree
unaries_agree v = (value_is (neg_ℤ v), ap (λ z. Ok z) (one_is (int_eq v (pos 0))))

pub compounds_agree : CompoundsAgree
compounds_agree assigns.Set = refl
compounds_agree assigns.Add = λ i. Some (λ a b. sum_is a b i)
compounds_agree assigns.Subtract = λ i. Some (λ a b. difference_is a b i)
compounds_agree assigns.Multiply = λ i. Some (λ a b. product_is a b i)
compounds_agree assigns.Divide = λ i. Some (λ a b. quotient_is a b i)
compounds_agree assigns.Remainder = λ i. Some (λ a b. remainder_is a b i)

pub steps_agree : StepsAgree
steps_agree postfixes.Increment = (λ i. λ a b. sum_is a b i, λ i. λ a b. difference_is a b i)
steps_agree postfixes.Decrement = (λ i. λ a b. difference_is a b i, λ i. λ a b. sum_is a b i)

-- a step and what takes it back
pub step_pair : (o : PostfixOperator) → ◌≡◌ {A = Operation × Operation} (step_meaning o, inverse_step_meaning o)
    (operate (step_of o), operate (inverse_step_of o))
step_pair o = let step = (steps_agree o).0 in let back = (steps_agree o).1 in λ i. (step i, back i)
