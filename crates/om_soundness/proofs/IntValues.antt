-- Operators give ints, and so do readings of operands and cells that are ints.
use Rattle.std.proofs.Common.{◌≡◌, refl, sym, subst, ℕ, zero, suc, ◌-◌, ◌<◌, ◌≤◌, ◌^◌, ℤ, pos, negsuc, arith, Bool}
use Rattle.std.proofs.Common.{true, false, cond, if◌then◌else◌, List, [], ◌∷◌, Option, None, Some, length, take, reverse}
use Rattle.std.proofs.Common.{option_map, nat_le, drop, ◌++◌}
use Rattle.std.specs.Ordering.{int_eq}
use Rattle.std.specs.Prelude.{All, IfSome, Result, Ok, Err, slice_get, int_lt, int_div, int_rem, unsigned_abs, neg_ℤ}
use Rattle.std.specs.Prelude.{◌+ℤ◌, ◌-ℤ◌, ◌*ℤ◌, option_to_list}
use Rattle.std.proofs.lemmas.Bool.{ltb-true, lt-ltb}
use Rattle.std.proofs.lemmas.Int.{rem_below}
use Rattle.std.proofs.lemmas.List.{length-reverse, get_or-reverse}
use Rattle.std.proofs.lemmas.List.Elements.{All-nil, All-cons, All-head, All-tail, All-take, All-drop, All-get_or}
use Rattle.om_code.specs.declared.frame.Fault.{Fault}
use Rattle.om_code.specs.declared.frame.Fault.TheVariants as fault
use Rattle.om_code.specs.declared.frame.Operand.{Operand}
use Rattle.om_code.specs.declared.frame.Operand.TheVariants as operand
use Rattle.om_code.specs.declared.instruction.AtomicOperator.{AtomicOperator}
use Rattle.om_code.specs.declared.instruction.BinaryOperator.{BinaryOperator}
use Rattle.om_code.specs.declared.instruction.BinaryOperator.TheVariants as binary
use Rattle.om_code.specs.declared.instruction.Reduction.{Reduction}
use Rattle.om_code.specs.declared.instruction.Reduction.TheVariants as reduction
use Rattle.om_code.specs.declared.instruction.Side.{Side}
use Rattle.om_code.specs.declared.instruction.Side.TheVariants.{Left, Right}
use Rattle.om_code.specs.declared.instruction.UnaryOperator.{UnaryOperator}
use Rattle.om_code.specs.declared.instruction.UnaryOperator.TheVariants as unary
use Rattle.om_code.specs.Arithmetic.{is_int, in_range, divided, remaining, truth, operate, operate_on_one, as_binary}
use Rattle.om_code.specs.Arithmetic.{update, combine}
use Rattle.om_code.specs.Frames.{int_in, int_at}
use Rattle.om_code.specs.Printing.{ints, ints_on}
use Rattle.om_soundness.specs.Ints.{IsInt, IsIntOperand}

-- ---- operators

abbrev pub IsIntResult : Result ℤ Fault → Type 0
IsIntResult (Ok v) = IsInt v
IsIntResult (Err f) = Unit {0}

in_range_int : (z : ℤ) → IsIntResult (in_range z)
in_range_int z = tested (is_int z) refl
  where
    tested : (b : Bool) → is_int z ≡ b → IsIntResult (if b then Ok z else Err fault.Overflow)
    tested true e = e
    tested false e = tt

truth_int : (b : Bool) → IsInt (truth b)
truth_int true = refl
truth_int false = refl

size_of : (d : ℤ) → IsInt d → unsigned_abs d ≤ 2 ^ 31
size_of (pos n) e = let lt = ltb-true n (2 ^ 31) e in omega (arith, lt)
size_of (negsuc n) e = let lt = ltb-true n (2 ^ 31) e in omega (arith, lt)

small_int : (r : ℤ) → unsigned_abs r < 2 ^ 31 → IsInt r
small_int (pos n) lt = lt-ltb n (2 ^ 31) lt
small_int (negsuc n) lt = lt-ltb n (2 ^ 31) (omega (arith, lt))

some_size : (d : ℤ) → int_eq d (pos 0) ≡ false → 0 < unsigned_abs d
some_size (pos zero) e = absurd cc
some_size (pos (suc n)) e = omega arith
some_size (negsuc n) e = omega arith

remaining_int : (a b : ℤ) → IsInt b → IsIntResult (remaining a b)
remaining_int a b int = tested (int_eq b (pos 0)) (is_int (int_div a b)) refl
  where
    tested : (z i : Bool) → int_eq b (pos 0) ≡ z → IsIntResult (if z then Err fault.ZeroDivisor else if i then Ok
        (int_rem a b) else Err fault.Overflow)
    tested true i e = tt
    tested false false e = tt
    tested false true e = let lt = rem_below a b (some_size b e) in let le = size_of b int in small_int
        (int_rem a b) (omega (arith, lt, le))

divided_int : (a b : ℤ) → IsIntResult (divided a b)
divided_int a b = tested (int_eq b (pos 0))
  where
    tested : (z : Bool) → IsIntResult (if z then Err fault.ZeroDivisor else in_range (int_div a b))
    tested true = tt
    tested false = in_range_int (int_div a b)

pub operate_int : (o : BinaryOperator) (a b : ℤ) → IsInt b → IsIntResult (operate o a b)
operate_int binary.Add a b int = in_range_int (a +ℤ b)
operate_int binary.Subtract a b int = in_range_int (a -ℤ b)
operate_int binary.Multiply a b int = in_range_int (a *ℤ b)
operate_int binary.Divide a b int = divided_int a b
operate_int binary.Remainder a b int = remaining_int a b int
operate_int binary.Less a b int = truth_int _
operate_int binary.LessOrEqual a b int = truth_int _
operate_int binary.Greater a b int = truth_int _
operate_int binary.GreaterOrEqual a b int = truth_int _
operate_int binary.Equal a b int = truth_int _
operate_int binary.NotEqual a b int = truth_int _

pub operate_on_one_int : (o : UnaryOperator) (a : ℤ) → IsIntResult (operate_on_one o a)
operate_on_one_int unary.Negate a = in_range_int (neg_ℤ a)
operate_on_one_int unary.Not a = truth_int _

pub update_int : (o : AtomicOperator) (side : Side) (old other : ℤ) → IsInt old → IsInt other
    → IsIntResult (update o side old other)
update_int o Left old other h k = operate_int (as_binary o) old other k
update_int o Right old other h k = operate_int (as_binary o) other old h

one_int : (b : Bool) (x y : ℤ) → IsInt x → IsInt y → IsInt (cond b x y)
one_int true x y h k = h
one_int false x y h k = k

pub combine_int : (r : Reduction) (a b : ℤ) → IsInt a → IsInt b → IsIntResult (combine r a b)
combine_int reduction.Add a b h k = operate_int binary.Add a b k
combine_int reduction.Multiply a b h k = operate_int binary.Multiply a b k
combine_int reduction.Max a b h k = one_int (int_lt b a) a b h k
combine_int reduction.Min a b h k = one_int (int_lt b a) b a k h

-- ---- what is found and read

-- what is found is one of all
pub found_one : {X : Type 0} (P : X → Type 0) (xs : List X) (n : ℕ) → All P xs → IfSome (slice_get xs n) P
found_one P [] n all = tt
found_one P (x ∷ xs) zero all = All-head P x xs all
found_one P (x ∷ xs) (suc n) all = found_one P xs n (All-tail P x xs all)

in_int : (o : Option Operand) → IfSome o IsIntOperand → IfSome (int_in o) IsInt
in_int None h = tt
in_int (Some (operand.Int v)) h = h
in_int (Some operand.NoValue) h = tt

pub at_int : (depth : ℕ) (s : List Operand) → All IsIntOperand s → IfSome (int_at depth s) IsInt
at_int depth s h = in_int (slice_get s depth) (found_one IsIntOperand s depth h)

pub as_operand : (o : Option ℤ) → IfSome o IsInt → IfSome (option_map operand.Int o) IsIntOperand
as_operand None h = tt
as_operand (Some v) h = h

one_more : (v : ℤ) (o : Option (List ℤ)) → IsInt v → IfSome o (λ ns. All IsInt ns)
    → IfSome (option_map (λ values. v ∷ values) o) (λ ns. All IsInt ns)
one_more v None i h = tt
one_more v (Some ns) i h = All-cons IsInt v ns i h

ints_int : (s : List Operand) → All IsIntOperand s → IfSome (ints s) (λ ns. All IsInt ns)
ints_int [] h = All-nil IsInt
ints_int (operand.NoValue ∷ s) h = tt
ints_int (operand.Int v ∷ s) h =
    one_more v (ints s) (All-head IsIntOperand (operand.Int v) s h)
    (ints_int s (All-tail IsIntOperand (operand.Int v) s h))

reversed : (s : List Operand) → All IsIntOperand s → All IsIntOperand (reverse s)
reversed s h = λ k d lt.
    let few : k < length s = omega (arith, lt, length-reverse s) in
    subst IsIntOperand (sym (get_or-reverse s k d few))
    (All-get_or IsIntOperand s (length s - 1 - k) d (omega (arith, few)) h)

if_there : (b : Bool) (o : Option (List ℤ)) → IfSome o (λ ns. All IsInt ns)
    → IfSome (if b then o else None) (λ ns. All IsInt ns)
if_there true o h = h
if_there false o h = tt

pub on_ints : (count : ℕ) (s : List Operand) → All IsIntOperand s → IfSome (ints_on count s) (λ ns. All IsInt ns)
on_ints count s h =
    if_there (nat_le count (length s)) (ints (reverse (take count s)))
    (ints_int (reverse (take count s)) (reversed (take count s) (All-take IsIntOperand count s h)))

-- operands of which some are taken, and then one pushed
pub moved : (takes : ℕ) (pushed : Option Operand) (s : List Operand) → IfSome pushed IsIntOperand
    → All IsIntOperand s → All IsIntOperand (option_to_list pushed ++ drop takes s)
moved takes None s p h = All-drop IsIntOperand takes s h
moved takes (Some x) s p h = All-cons IsIntOperand x (drop takes s) p (All-drop IsIntOperand takes s h)
