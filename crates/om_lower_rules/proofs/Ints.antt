-- Each value is an int, and what is stored is one.
use Rattle.std.proofs.Common.{◌≡◌, ℕ, zero, suc, ◌<◌, ◌≤◌, ◌^◌, ℤ, pos, negsuc, Bool, true, false, Option, Some, None}
use Rattle.std.proofs.Common.{refl, sym, subst, arith}
use Rattle.std.specs.Prelude.{Result, Ok, Err, nat_eq, not, int_div, int_rem, unsigned_abs, ◌+ℤ◌, ◌-ℤ◌, ◌*ℤ◌, neg_ℤ}
use Rattle.std.specs.Prelude.{◌&&◌, option_map, if◌then◌else◌}
use Rattle.std.specs.Ordering.{int_eq}
use Rattle.std.proofs.lemmas.Bool.{ltb-true, lt-ltb}
use Rattle.std.proofs.lemmas.Int.{rem_below}
use Rattle.om_code.specs.declared.frame.Cell.{Cell}
use Rattle.om_code.specs.declared.frame.Cell.TheVariants as cell
use Rattle.om_code.specs.declared.frame.Fault.{Fault}
use Rattle.om_code.specs.declared.frame.Fault.TheVariants as fault
use Rattle.om_code.specs.declared.instruction.BinaryOperator as machine
use Rattle.om_code.specs.declared.instruction.BinaryOperator.TheVariants as binary
use Rattle.om_code.specs.declared.instruction.Place.{Place}
use Rattle.om_code.specs.declared.instruction.Place.TheVariants as place
use Rattle.om_code.specs.Arithmetic.{is_int, in_range, divided, remaining, truth, operate}
use Rattle.om_code.specs.Frames.{index_in}
use Rattle.om_scope_tree.specs.declared.resolved.UnaryOperator.{UnaryOperator}
use Rattle.om_scope_tree.specs.declared.resolved.UnaryOperator.TheVariants as unaries
use Rattle.om_scope_tree.specs.ResolvedTree.{ResolvedExpressionTree, Constant, Variable, Element, Call, ThreadNumber}
use Rattle.om_scope_tree.specs.ResolvedTree.{TeamSize, Print, Unary, Binary, Conditional, Assign, AssignElement, Postfix}
use Rattle.om_scope_tree.specs.ResolvedTree.{PostfixElement}
use Rattle.om_lower_rules.specs.Operators.{BinaryForm, Both, Either, Plain, form_of, compound_of, step_of, inverse_step_of}
use Rattle.om_lower_rules.specs.SourceOperators.{Operation, int_value, one_if, form_meaning}
use Rattle.om_lower_rules.specs.Ints.{IsInt, HoldsInt, HoldsInts, LeavesInts, HasInts}
use Rattle.om_lower_rules.specs.MeaningLaws.{IntsStay}
use Rattle.om_lower_rules.specs.Meaning.{is_zero, unary_value, binary_value, assigned, load_element, store_element}
use Rattle.om_lower_rules.specs.Meaning.{element_assigned, stepped_back, one, value_of}
use Rattle.om_lower_rules.specs.Worlds.{World, Layout, Outcome, Got, Faulty, with_value, result, held, with_held, found}
use Rattle.om_lower_rules.specs.Worlds.{put_into, load, store, at_index}
use Rattle.om_lower_rules.proofs.OperatorsAgree.{value_is, binaries_agree, compounds_agree, step_pair}

-- ---- operators

-- an operator's value is an int
abbrev IsIntResult : Result ℤ Fault → Type 0
IsIntResult (Ok v) = IsInt v
IsIntResult (Err f) = Unit {0}

in_range_int : (z : ℤ) → IsIntResult (in_range z)
in_range_int z = tested (is_int z) refl
  where
    tested : (b : Bool) → is_int z ≡ b → IsIntResult (if b then Ok z else Err fault.Overflow)
    tested true e = e
    tested false e = tt

truth_int : (b : Bool) → IsInt (truth b)
truth_int true = refl
truth_int false = refl

one_if_int : (b : Bool) → IsInt (one_if b)
one_if_int true = refl
one_if_int false = refl

size_of : (d : ℤ) → IsInt d → unsigned_abs d ≤ 2 ^ 31
size_of (pos n) e = let lt = ltb-true n (2 ^ 31) e in omega (arith, lt)
size_of (negsuc n) e = let lt = ltb-true n (2 ^ 31) e in omega (arith, lt)

small_int : (r : ℤ) → unsigned_abs r < 2 ^ 31 → IsInt r
small_int (pos n) lt = lt-ltb n (2 ^ 31) lt
small_int (negsuc n) lt = lt-ltb n (2 ^ 31) (omega (arith, lt))

some_size : (d : ℤ) → int_eq d (pos 0) ≡ false → 0 < unsigned_abs d
some_size (pos zero) e = absurd cc
some_size (pos (suc n)) e = omega arith
some_size (negsuc n) e = omega arith

remaining_int : (a b : ℤ) → IsInt b → IsIntResult (remaining a b)
remaining_int a b int = tested (int_eq b (pos 0)) (is_int (int_div a b)) refl
  where
    tested : (z i : Bool) → int_eq b (pos 0) ≡ z → IsIntResult (if z then Err fault.ZeroDivisor else if i then Ok
        (int_rem a b) else Err fault.Overflow)
    tested true i e = tt
    tested false false e = tt
    tested false true e = let lt = rem_below a b (some_size b e) in let le = size_of b int in small_int
        (int_rem a b) (omega (arith, lt, le))

divided_int : (a b : ℤ) → IsIntResult (divided a b)
divided_int a b = tested (int_eq b (pos 0))
  where
    tested : (z : Bool) → IsIntResult (if z then Err fault.ZeroDivisor else in_range (int_div a b))
    tested true = tt
    tested false = in_range_int (int_div a b)

operate_int : (o : machine.BinaryOperator) (a b : ℤ) → IsInt b → IsIntResult (operate o a b)
operate_int binary.Add a b int = in_range_int (a +ℤ b)
operate_int binary.Subtract a b int = in_range_int (a -ℤ b)
operate_int binary.Multiply a b int = in_range_int (a *ℤ b)
operate_int binary.Divide a b int = divided_int a b
operate_int binary.Remainder a b int = remaining_int a b int
operate_int binary.Less a b int = truth_int _
operate_int binary.LessOrEqual a b int = truth_int _
operate_int binary.Greater a b int = truth_int _
operate_int binary.GreaterOrEqual a b int = truth_int _
operate_int binary.Equal a b int = truth_int _
operate_int binary.NotEqual a b int = truth_int _

result_ints : (r : Result ℤ Fault) (w : World) → IsIntResult r → HoldsInts w → LeavesInts (result r w)
result_ints (Ok v) w int h = (int, h)
result_ints (Err f) w int h = h

-- ---- outcomes

with_ints_of : (r : Outcome) (f : ℤ → World → Outcome) → LeavesInts r → ((v : ℤ) (u : World) → IsInt v → HoldsInts u
    → LeavesInts (f v u)) → LeavesInts (with_value r f)
with_ints_of (Got v w) f h g = g v w h.0 h.1
with_ints_of (Faulty x w) f h g = h

chosen_ints : (b : Bool) (r t : Outcome) → LeavesInts r → LeavesInts t → LeavesInts (if b then r else t)
chosen_ints true r t h g = h
chosen_ints false r t h g = g

-- ---- cells

found_ints : (c : Cell) (w : World) → HoldsInt c → HoldsInts w → LeavesInts (found c w)
found_ints (cell.Int v) w int h = (int, h)
found_ints cell.Unset w int h = h
found_ints cell.Dead w int h = h

load_ints : (at : Place) (k : ℕ) (w : World) → HoldsInts w → LeavesInts (load at k w)
unfolding load
load_ints at k w h = found_ints (held w at k) w (h at k) h

put_ints : (at : Place) (k : ℕ) (v : ℤ) (w : World) → IsInt v → HoldsInts w → HoldsInts (with_held w at k (cell.Int v))
put_ints (place.Global g) k v w int h (place.Global n) m = chosen (nat_eq n g && nat_eq m k)
  where
    chosen : (b : Bool) → HoldsInt (if b then cell.Int v else w.globals n m)
    chosen true = int
    chosen false = h (place.Global n) m
put_ints (place.Global g) k v w int h (place.Slot n) m = h (place.Slot n) m
put_ints (place.Slot g) k v w int h (place.Slot n) m = chosen (nat_eq n g && nat_eq m k)
  where
    chosen : (b : Bool) → HoldsInt (if b then cell.Int v else w.slots n m)
    chosen true = int
    chosen false = h (place.Slot n) m
put_ints (place.Slot g) k v w int h (place.Global n) m = h (place.Global n) m

pub store_ints : (at : Place) (k : ℕ) (v : ℤ) (w : World) → IsInt v → HoldsInts w → LeavesInts (store at k v w)
unfolding store
store_ints at k v w int h = cell_by (held w at k)
  where
    cell_by : (c : Cell) → LeavesInts (put_into c at k v w)
    cell_by (cell.Int z) = (int, put_ints at k v w int h)
    cell_by cell.Unset = (int, put_ints at k v w int h)
    cell_by cell.Dead = h

load_element_ints : (at : Place) (cells : ℕ) (n : ℤ) (w : World) → HoldsInts w → LeavesInts (load_element at cells n w)
load_element_ints at cells n w h = index_by (index_in cells n)
  where
    index_by : (o : Option ℕ) → LeavesInts (at_index o w (λ k. load at k w))
    index_by None = h
    index_by (Some k) = load_ints at k w h

store_element_ints : (at : Place) (cells : ℕ) (n v : ℤ) (w : World) → IsInt v → HoldsInts w
    → LeavesInts (store_element at cells n v w)
store_element_ints at cells n v w int h = index_by (index_in cells n)
  where
    index_by : (o : Option ℕ) → LeavesInts (at_index o w (λ k. store at k v w))
    index_by None = h
    index_by (Some k) = store_ints at k v w int h

-- ---- expressions

-- from a world of ints it leaves ints
abbrev pub Stays : (World → Outcome) → Type 0
Stays f = (w : World) → HoldsInts w → LeavesInts (f w)

unary_ints : (o : UnaryOperator) (v : ℤ) (w : World) → IsInt v → HoldsInts w → LeavesInts (unary_value o v w)
unary_ints unaries.Plus v w int h = (int, h)
unary_ints unaries.Negate v w int h =
    result_ints (int_value (neg_ℤ v)) w (subst IsIntResult (sym (value_is (neg_ℤ v))) (in_range_int (neg_ℤ v))) h
unary_ints unaries.Not v w int h = (one_if_int (int_eq v (pos 0)), h)

binary_ints : (form : BinaryForm) (a : Outcome) (b : World → Outcome) → LeavesInts a → Stays b
    → LeavesInts (binary_value (form_meaning form) a b)
binary_ints Both a b ha hb =
    with_ints_of a _ ha (λ x u int h. chosen_ints (is_zero x) _ _ (refl, h)
    (with_ints_of (b u) _ (hb u h) (λ y t int h. (one_if_int (not (is_zero y)), h))))
binary_ints Either a b ha hb =
    with_ints_of a _ ha (λ x u int h. chosen_ints (is_zero x) _ _
    (with_ints_of (b u) _ (hb u h) (λ y t int h. (one_if_int (not (is_zero y)), h))) (refl, h))
binary_ints (Plain o) a b ha hb =
    with_ints_of a _ ha (λ x u int h. with_ints_of (b u) _ (hb u h) (λ y t int h. result_ints (operate o x y) t
    (operate_int o x y int) h))

pub assigned_ints : (at : Place) (o : Option machine.BinaryOperator) (e : World → Outcome) → Stays e
    → Stays (λ w. assigned at (option_map operate o) e w)
assigned_ints at None e he w h = with_ints_of (e w) _ (he w h) (λ v u int h. store_ints at 0 v u int h)
assigned_ints at (Some o) e he w h =
    with_ints_of (load at 0 w) _ (load_ints at 0 w h) (λ x u int h. with_ints_of (e u) _ (he u h) (λ y t int h.
    with_ints_of (result (operate o x y) t) _ (result_ints (operate o x y) t (operate_int o x y int) h)
    (λ z s int h. store_ints at 0 z s int h)))

pub element_assigned_ints : (at : Place) (cells : ℕ) (j : World → Outcome) (o : Option machine.BinaryOperator)
    (e : World → Outcome) → Stays j → Stays e
    → Stays (λ w. element_assigned at cells j (option_map operate o) e w)
element_assigned_ints at cells j None e hj he w h =
    with_ints_of (j w) _ (hj w h) (λ n u int h. with_ints_of (e u) _ (he u h) (λ v t int h. store_element_ints at
    cells n v t int h))
element_assigned_ints at cells j (Some o) e hj he w h =
    with_ints_of (j w) _ (hj w h) (λ n u int h. with_ints_of (load_element at cells n u) _
    (load_element_ints at cells n u h) (λ x t int h.
    with_ints_of (e t) _ (he t h) (λ y s int h. with_ints_of (result (operate o x y) s) _
    (result_ints (operate o x y) s (operate_int o x y int) h)
    (λ z r int h. store_element_ints at cells n z r int h))))

pub one_ints : Stays one
one_ints w h = (refl, h)

stepped_back_ints : (o : machine.BinaryOperator) (r : Outcome) → LeavesInts r → LeavesInts (stepped_back (operate o) r)
stepped_back_ints o r h = with_ints_of r _ h (λ z w int h. result_ints (operate o z (pos 1)) w
    (operate_int o z (pos 1) refl) h)

pub value_ints : (at : Layout) (e : ResolvedExpressionTree) → HasInts e → Stays (λ w. value_of at e w)
value_ints at (Constant c) g w h = (g, h)
value_ints at (Variable x) g w h = load_ints (at.place x) 0 w h
value_ints at (Element a j) g w h = with_ints_of (value_of at j w) _ (value_ints at j g w h)
    (λ n u int h. load_element_ints (at.place a) (at.cells (at.place a)) n u h)
value_ints at (Call f es) g w h = h
value_ints at ThreadNumber g w h = h
value_ints at TeamSize g w h = h
value_ints at (Print format es) g w h = h
value_ints at (Unary o e) g w h = with_ints_of (value_of at e w) _ (value_ints at e g w h)
    (λ v u int h. unary_ints o v u int h)
value_ints at (Binary a o b) g w h =
    subst (λ z. LeavesInts (binary_value z (value_of at a w) (λ u. value_of at b u))) (sym (binaries_agree o))
    (binary_ints (form_of o) (value_of at a w) (λ u. value_of at b u) (value_ints at a g.0 w h) (value_ints at b g.1))
value_ints at (Conditional c a b) g w h =
    with_ints_of (value_of at c w) _ (value_ints at c g.0 w h)
    (λ v u int h. chosen_ints (is_zero v) (value_of at b u) (value_of at a u) (value_ints at b g.2 u h)
    (value_ints at a g.1 u h))
value_ints at (Assign x o e) g w h =
    subst (λ z. LeavesInts (assigned (at.place x) z (λ u. value_of at e u) w)) (sym (compounds_agree o))
    (assigned_ints (at.place x) (compound_of o) (λ u. value_of at e u) (value_ints at e g) w h)
value_ints at (AssignElement a j o e) g w h =
    subst (λ z. LeavesInts (element_assigned (at.place a) (at.cells (at.place a)) (λ u. value_of at j u) z
    (λ u. value_of at e u) w)) (sym (compounds_agree o))
    (element_assigned_ints (at.place a) (at.cells (at.place a)) (λ u. value_of at j u) (compound_of o)
    (λ u. value_of at e u) (value_ints at j g.0) (value_ints at e g.1) w h)
value_ints at (Postfix x o) g w h =
    subst (λ (z : Operation × Operation). LeavesInts (stepped_back z.1 (assigned (at.place x) (Some z.0) one w)))
    (sym (step_pair o))
    (stepped_back_ints (inverse_step_of o) _ (assigned_ints (at.place x) (Some (step_of o)) one one_ints w h))
value_ints at (PostfixElement a j o) g w h =
    subst (λ (z : Operation × Operation). LeavesInts (stepped_back z.1
    (element_assigned (at.place a) (at.cells (at.place a)) (λ u. value_of at j u) (Some z.0) one w)))
    (sym (step_pair o))
    (stepped_back_ints (inverse_step_of o) _
    (element_assigned_ints (at.place a) (at.cells (at.place a)) (λ u. value_of at j u)
    (Some (step_of o)) one (value_ints at j g) one_ints w h))

pub ints_stay : IntsStay
ints_stay at e w g h = value_ints at e g w h
