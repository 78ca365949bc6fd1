-- What operators give, or which fault they meet.
use Rattle.std.specs.Prelude.{ℤ, pos, negsuc, ◌+ℤ◌, ◌-ℤ◌, ◌*ℤ◌, neg_ℤ, int_lt, int_le, int_div, int_rem, nat_lt, ◌^◌}
use Rattle.std.specs.Prelude.{Bool, true, false, not, Result, Ok, Err, if◌then◌else◌}
use Rattle.std.specs.Ordering.{int_eq}
use Rattle.std.specs.Int.{int_max, int_min}
use Rattle.om_code.specs.declared.frame.Fault.{Fault}
use Rattle.om_code.specs.declared.frame.Fault.TheVariants as fault
use Rattle.om_code.specs.declared.instruction.UnaryOperator.{UnaryOperator}
use Rattle.om_code.specs.declared.instruction.UnaryOperator.TheVariants as unary
use Rattle.om_code.specs.declared.instruction.BinaryOperator.{BinaryOperator}
use Rattle.om_code.specs.declared.instruction.BinaryOperator.TheVariants as binary
use Rattle.om_code.specs.declared.instruction.AtomicOperator.{AtomicOperator}
use Rattle.om_code.specs.declared.instruction.AtomicOperator.TheVariants as atomic
use Rattle.om_code.specs.declared.instruction.Side.{Side}
use Rattle.om_code.specs.declared.instruction.Side.TheVariants.{Left, Right}
use Rattle.om_code.specs.declared.instruction.Reduction.{Reduction}
use Rattle.om_code.specs.declared.instruction.Reduction.TheVariants as reduction

-- from -2 ^ 31 to 2 ^ 31 - 1
abbrev pub is_int : ℤ → Bool
is_int (pos n) = nat_lt n (2 ^ 31)
is_int (negsuc n) = nat_lt n (2 ^ 31)

-- C17 6.5p5: a result that is no int is undefined
abbrev pub in_range : ℤ → Result ℤ Fault
in_range z = if is_int z then Ok z else Err fault.Overflow

-- C17 6.5.5 paragraphs 5 and 6: a quotient is rounded toward zero, and a remainder is defined where the quotient is
abbrev pub divided : ℤ → ℤ → Result ℤ Fault
divided a b = if int_eq b (pos 0) then Err fault.ZeroDivisor else in_range (int_div a b)

abbrev pub remaining : ℤ → ℤ → Result ℤ Fault
remaining a b =
    if int_eq b (pos 0) then Err fault.ZeroDivisor
    else if is_int (int_div a b) then Ok (int_rem a b)
    else Err fault.Overflow

-- C17 6.5.8p6: a comparison gives 1 where it holds, and 0 where not
abbrev pub truth : Bool → ℤ
truth true = pos 1
truth false = pos 0

abbrev pub operate : BinaryOperator → ℤ → ℤ → Result ℤ Fault
operate binary.Add a b = in_range (a +ℤ b)
operate binary.Subtract a b = in_range (a -ℤ b)
operate binary.Multiply a b = in_range (a *ℤ b)
operate binary.Divide a b = divided a b
operate binary.Remainder a b = remaining a b
operate binary.Less a b = Ok (truth (int_lt a b))
operate binary.LessOrEqual a b = Ok (truth (int_le a b))
operate binary.Greater a b = Ok (truth (int_lt b a))
operate binary.GreaterOrEqual a b = Ok (truth (int_le b a))
operate binary.Equal a b = Ok (truth (int_eq a b))
operate binary.NotEqual a b = Ok (truth (not (int_eq a b)))

-- C17 6.5.3.3
abbrev pub operate_on_one : UnaryOperator → ℤ → Result ℤ Fault
operate_on_one unary.Negate a = in_range (neg_ℤ a)
operate_on_one unary.Not a = Ok (truth (int_eq a (pos 0)))

-- an operator of an atomic update is one of the language's
abbrev pub as_binary : AtomicOperator → BinaryOperator
as_binary atomic.Add = binary.Add
as_binary atomic.Subtract = binary.Subtract
as_binary atomic.Multiply = binary.Multiply
as_binary atomic.Divide = binary.Divide

-- OpenMP 5.2, 15.8.4: the old value stands on its side of the operator
abbrev pub update : AtomicOperator → Side → ℤ → ℤ → Result ℤ Fault
update operator Left old other = operate (as_binary operator) old other
update operator Right old other = operate (as_binary operator) other old

-- OpenMP 5.2, 5.5.3: two copies of a reduction are combined
abbrev pub combine : Reduction → ℤ → ℤ → Result ℤ Fault
combine reduction.Add a b = operate binary.Add a b
combine reduction.Multiply a b = operate binary.Multiply a b
combine reduction.Max a b = Ok (int_max a b)
combine reduction.Min a b = Ok (int_min a b)
