-- What the operators of the source give, or which fault they meet (C17 6.5.2.4, 6.5.3.3, 6.5.5 to 6.5.9, 6.5.13,
-- 6.5.14, 6.5.16.2). Nothing here knows instructions. What theirs give is said by om_code/specs/Arithmetic, and
-- the laws at the end join the two.
use Rattle.std.specs.Prelude.{◌≡◌, ℤ, pos, negsuc, ◌+ℤ◌, ◌-ℤ◌, ◌*ℤ◌, neg_ℤ, int_lt, int_le, int_div, Bool, true, false, not}
use Rattle.std.specs.Prelude.{◌&&◌, Result, Ok, Err, Option, None, Some, option_map, if◌then◌else◌}
use Rattle.std.specs.Ordering.{int_eq}
use Rattle.om_code.specs.declared.frame.Fault.{Fault}
use Rattle.om_code.specs.declared.frame.Fault.TheVariants as fault
use Rattle.om_code.specs.declared.instruction.UnaryOperator.TheVariants as machine_unaries
use Rattle.om_code.specs.Arithmetic.{operate, operate_on_one}
use Rattle.om_parser_tree.specs.declared.tree.AssignOperator.{AssignOperator}
use Rattle.om_parser_tree.specs.declared.tree.AssignOperator.TheVariants as assigns
use Rattle.om_parser_tree.specs.declared.tree.BinaryOperator.{BinaryOperator}
use Rattle.om_parser_tree.specs.declared.tree.BinaryOperator.TheVariants as binaries
use Rattle.om_parser_tree.specs.declared.tree.PostfixOperator.{PostfixOperator}
use Rattle.om_parser_tree.specs.declared.tree.PostfixOperator.TheVariants as postfixes
use Rattle.om_scope_tree.specs.declared.resolved.UnaryOperator.{UnaryOperator}
use Rattle.om_scope_tree.specs.declared.resolved.UnaryOperator.TheVariants as unaries
use Rattle.om_lower_rules.specs.Operators.{BinaryForm, Both, Either, Plain, form_of, compound_of, step_of, inverse_step_of}

-- what is made of two values
abbrev pub Operation : Type 0
Operation = ℤ → ℤ → Result ℤ Fault

-- an `int` has 32 bits: from -2147483647 - 1 to 2147483647 (C17 5.2.4.2.1)
abbrev pub is_int_value : ℤ → Bool
is_int_value z = int_le (negsuc 2147483647) z && int_le z (pos 2147483647)

-- C17 6.5p5: what is no value of its type is undefined
abbrev pub int_value : ℤ → Result ℤ Fault
int_value z = if is_int_value z then Ok z else Err fault.Overflow

-- C17 6.5.8p6, 6.5.9p3: 1 if it is true, and 0 if it is false
abbrev pub one_if : Bool → ℤ
one_if true = pos 1
one_if false = pos 0

-- C17 6.5.6
abbrev pub sum : Operation
sum a b = int_value (a +ℤ b)

abbrev pub difference : Operation
difference a b = int_value (a -ℤ b)

-- C17 6.5.5p4 to p6: a quotient loses what is behind the point; and a remainder is what the quotient leaves, if that
-- is an `int`
abbrev pub product : Operation
product a b = int_value (a *ℤ b)

abbrev pub divided_by : Operation → Operation
divided_by of a b = if int_eq b (pos 0) then Err fault.ZeroDivisor else of a b

abbrev pub quotient : Operation
quotient = divided_by (λ a b. int_value (int_div a b))

abbrev pub remainder : Operation
remainder = divided_by (λ a b.
    if is_int_value (int_div a b) then Ok (a -ℤ int_div a b *ℤ b) else Err fault.Overflow)

-- ---- which operator is which

-- an operator between two operands: `&&` and `||` evaluate the second one only where the first leaves the value open
-- (C17 6.5.13p4, 6.5.14p4), the others evaluate both
pub data BinaryMeaning : Type 0 where
  And : BinaryMeaning
  Or : BinaryMeaning
  OfBoth : Operation → BinaryMeaning

abbrev pub binary_meaning : BinaryOperator → BinaryMeaning
binary_meaning binaries.And = And
binary_meaning binaries.Or = Or
binary_meaning binaries.Equal = OfBoth (λ a b. Ok (one_if (int_eq a b)))
binary_meaning binaries.NotEqual = OfBoth (λ a b. Ok (one_if (not (int_eq a b))))
binary_meaning binaries.Less = OfBoth (λ a b. Ok (one_if (int_lt a b)))
binary_meaning binaries.Greater = OfBoth (λ a b. Ok (one_if (int_lt b a)))
binary_meaning binaries.LessEqual = OfBoth (λ a b. Ok (one_if (int_le a b)))
binary_meaning binaries.GreaterEqual = OfBoth (λ a b. Ok (one_if (int_le b a)))
binary_meaning binaries.Add = OfBoth sum
binary_meaning binaries.Subtract = OfBoth difference
binary_meaning binaries.Multiply = OfBoth product
binary_meaning binaries.Divide = OfBoth quotient
binary_meaning binaries.Remainder = OfBoth remainder

-- C17 6.5.3.3
abbrev pub unary_meaning : UnaryOperator → ℤ → Result ℤ Fault
unary_meaning unaries.Plus v = Ok v
unary_meaning unaries.Negate v = int_value (neg_ℤ v)
unary_meaning unaries.Not v = Ok (one_if (int_eq v (pos 0)))

-- C17 6.5.16.2p3: what a compound assignment makes of the old value and the other one; `=` makes nothing of them
abbrev pub compound_meaning : AssignOperator → Option Operation
compound_meaning assigns.Set = None
compound_meaning assigns.Add = Some sum
compound_meaning assigns.Subtract = Some difference
compound_meaning assigns.Multiply = Some product
compound_meaning assigns.Divide = Some quotient
compound_meaning assigns.Remainder = Some remainder

-- C17 6.5.2.4p2 and p3: what `x++` and `x--` make of x and 1, and what takes that back
abbrev pub step_meaning : PostfixOperator → Operation
step_meaning postfixes.Increment = sum
step_meaning postfixes.Decrement = difference

abbrev pub inverse_step_meaning : PostfixOperator → Operation
inverse_step_meaning postfixes.Increment = difference
inverse_step_meaning postfixes.Decrement = sum

-- ---- what the instructions make of the operators is the same

-- what an operator does whose code has this form
abbrev pub form_meaning : BinaryForm → BinaryMeaning
form_meaning Both = And
form_meaning Either = Or
form_meaning (Plain operator) = OfBoth (operate operator)

-- The instruction of an operator gives what the operator gives, and meets the same fault.
abbrev pub BinariesAgree : Type 0
BinariesAgree = (o : BinaryOperator) → binary_meaning o ≡ form_meaning (form_of o)

abbrev pub UnariesAgree : Type 0
UnariesAgree = (v : ℤ) → (unary_meaning unaries.Negate v ≡ operate_on_one machine_unaries.Negate v)
    × (unary_meaning unaries.Not v ≡ operate_on_one machine_unaries.Not v)

abbrev pub CompoundsAgree : Type 0
CompoundsAgree = (o : AssignOperator) → compound_meaning o ≡ option_map operate (compound_of o)

abbrev pub StepsAgree : Type 0
StepsAgree = (o : PostfixOperator) → (step_meaning o ≡ operate (step_of o))
    × (inverse_step_meaning o ≡ operate (inverse_step_of o))
