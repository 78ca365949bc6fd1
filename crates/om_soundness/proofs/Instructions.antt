-- Each instruction that stays in its frame fits: what it touches is inside, and only what it writes is put.
use Rattle.std.proofs.Common.{◌≡◌, ℕ, zero, suc, ◌<◌, ◌≤◌, ℤ, pos, negsuc, Bool, true, false, List, [], ◌∷◌, Option}
use Rattle.std.proofs.Common.{Some, None, length, refl, subst, slice_get, arith}
use Rattle.std.specs.Prelude.{Result, Ok, Err, All, nat_lt, get_or, if◌then◌else◌, option_map, unwrap_or}
use Rattle.std.specs.Ordering.{int_eq}
use Rattle.std.proofs.lemmas.Bool.Decides.{Decides-ltb}
use Rattle.std.proofs.lemmas.Option.{slice_get-get_or}
use Rattle.om_code.specs.declared.frame.Cell.{Cell}
use Rattle.om_code.specs.declared.frame.Cell.TheVariants as cell
use Rattle.om_code.specs.declared.frame.Fault.{Fault}
use Rattle.om_code.specs.declared.frame.Operand.{Operand}
use Rattle.om_code.specs.declared.frame.Operand.TheVariants as operand
use Rattle.om_code.specs.declared.instruction.AtomicOperator.{AtomicOperator}
use Rattle.om_code.specs.declared.instruction.Serial.TheVariants as serials
use Rattle.om_code.specs.declared.instruction.Place.{Place}
use Rattle.om_code.specs.declared.instruction.Place.TheVariants as place
use Rattle.om_code.specs.declared.instruction.Side.{Side}
use Rattle.om_code.specs.declared.instruction.BinaryOperator.{BinaryOperator}
use Rattle.om_code.specs.declared.instruction.UnaryOperator.{UnaryOperator}
use Rattle.om_code.specs.declared.raw.Raw.{Raw}
use Rattle.om_code.specs.declared.raw.Slot.{Slot}
use Rattle.om_code.specs.Arithmetic.{operate, operate_on_one, update}
use Rattle.om_code.specs.Frames.{Act, act, decided, reads, writes, on_operand, on_int, on_ints, at_index, int_at, goes}
use Rattle.om_code.specs.Frames.{gives, put, loaded, stored, updated, cells_in, index_in, left_by, kept, used, jump_if}
use Rattle.om_code.specs.Validity.{IsKnownPlace}
use Rattle.om_soundness.proofs.Turns.{IsOnward, IsStill, IsInside, Fits}

gives_still : (takes : ℕ) (r : Result ℤ Fault) → IsStill (gives takes r)
gives_still takes (Ok v) = tt
gives_still takes (Err f) = tt

loaded_still : (takes : ℕ) (c : Cell) → IsStill (loaded takes c)
loaded_still takes (cell.Int v) = tt
loaded_still takes cell.Unset = tt
loaded_still takes cell.Dead = tt

used_still : (x : Operand) → IsStill (used x)
used_still (operand.Int v) = tt
used_still operand.NoValue = tt

jump_still : (b : Bool) (target : ℕ) → IsStill (jump_if b target)
jump_still true target = tt
jump_still false target = tt

put_onward : (takes : ℕ) (r : Result ℤ Fault) → IsOnward (put takes r)
put_onward takes (Ok v) = tt
put_onward takes (Err f) = tt

stored_onward : (takes : ℕ) (pushed : Option Operand) (v : ℤ) (c : Cell) → IsOnward (stored takes pushed v c)
stored_onward takes pushed v (cell.Int w) = tt
stored_onward takes pushed v cell.Unset = tt
stored_onward takes pushed v cell.Dead = tt

updated_onward : (takes : ℕ) (o : AtomicOperator) (side : Side) (v : ℤ) (c : Cell)
    → IsOnward (updated takes o side v c)
updated_onward takes o side v (cell.Int w) = put_onward takes (update o side w v)
updated_onward takes o side v cell.Unset = tt
updated_onward takes o side v cell.Dead = tt

lt_of : (n m : ℕ) → nat_lt n m ≡ true → n < m
lt_of n m e = (Decides-ltb n m).0 e

module _ (raw : Raw) (slots : List Slot) where
  on_operand_fits : (x : Option Operand) (row : Operand → Act) → ((a : Operand) → Fits raw slots (row a))
      → Fits raw slots (on_operand x row)
  on_operand_fits None row h = ((λ c. tt), tt)
  on_operand_fits (Some a) row h = h a

  on_int_fits : (x : Option ℤ) (row : ℤ → Act) → ((a : ℤ) → Fits raw slots (row a)) → Fits raw slots (on_int x row)
  on_int_fits None row h = ((λ c. tt), tt)
  on_int_fits (Some a) row h = h a

  on_ints_fits : (x y : Option ℤ) (row : ℤ → ℤ → Act) → ((a b : ℤ) → Fits raw slots (row a b))
      → Fits raw slots (on_ints x y row)
  on_ints_fits None y row h = ((λ c. tt), tt)
  on_ints_fits (Some a) None row h = ((λ c. tt), tt)
  on_ints_fits (Some a) (Some b) row h = h a b

  at_index_fits : (k : Option ℕ) (row : ℕ → Act) → ((n : ℕ) → k ≡ Some n → Fits raw slots (row n))
      → Fits raw slots (at_index k row)
  at_index_fits None row h = ((λ c. tt), tt)
  at_index_fits (Some n) row h = h n refl

  -- an index that is one is inside
  if_within : (b : Bool) (n k cells : ℕ) → (b ≡ true → n < cells) → (if b then Some n else None) ≡ Some k → k < cells
  if_within true n k cells lt e = let same : n ≡ k = cc e in subst (λ m. m < cells) same (lt refl)
  if_within false n k cells lt e = absurd cc

  index_within : (cells : ℕ) (n : ℤ) (k : ℕ) → index_in cells n ≡ Some k → k < cells
  index_within cells (pos n) k e = if_within (nat_lt n cells) n k cells (lt_of n cells) e
  index_within cells (negsuc n) k e = absurd cc

  element_inside : (p : Place) (n : ℤ) (k : ℕ) → index_in (cells_in raw slots p) n ≡ Some k → IsInside raw slots p k
  element_inside (place.Global g) n k e = tt
  element_inside (place.Slot slot) n k e = index_within (cells_in raw slots (place.Slot slot)) n k e

  module _ (cells : All (λ slot. 1 ≤ slot.cells) slots) where
    slot_inside : (number : ℕ) (o : Option Slot) → slice_get slots number ≡ o → number < length slots
        → 0 < unwrap_or (option_map (λ (slot : Slot). slot.cells) o) 0
    slot_inside number None e lt = absurd (none_past slots number e lt)
      where
        none_past : (xs : List Slot) (k : ℕ) → slice_get xs k ≡ None → k < length xs → ⊥
        none_past [] k e lt = omega (arith, lt)
        none_past (x ∷ xs) zero e lt = cc
        none_past (x ∷ xs) (suc k) e lt = none_past xs k e (omega (arith, lt))
    slot_inside number (Some slot) e lt =
        let some : slice_get slots number ≡ Some (get_or slots number slot) = slice_get-get_or slots number slot lt in
        let same : get_or slots number slot ≡ slot = cc (some, e) in
        omega (arith, subst (λ (x : Slot). 1 ≤ x.cells) same (cells number slot lt))

    scalar_inside : (p : Place) → IsKnownPlace raw.globals slots p → IsInside raw slots p 0
    scalar_inside (place.Global g) known = tt
    scalar_inside (place.Slot slot) known = slot_inside slot (slice_get slots slot) refl known

    -- the acts of instructions that stay in their frame, but for CLEAR and PRINT
    module _ (s : List Operand) where
      pub duplicate_fits : Fits raw slots (act raw slots serials.Duplicate s)
      duplicate_fits = on_operand_fits (slice_get s 0) (λ x. decided (goes 0 (Some x))) (λ x. ((λ c. tt), tt))

      pub pop_fits : Fits raw slots (act raw slots serials.Pop s)
      pop_fits = on_operand_fits (slice_get s 0) (λ x. decided (goes 1 None)) (λ x. ((λ c. tt), tt))

      pub unary_fits : (o : UnaryOperator) → Fits raw slots (act raw slots (serials.Unary o) s)
      unary_fits o = on_int_fits (int_at 0 s) (λ a. decided (gives 1 (operate_on_one o a)))
          (λ a. ((λ c. gives_still 1 (operate_on_one o a)), tt))

      pub binary_fits : (o : BinaryOperator) → Fits raw slots (act raw slots (serials.Binary o) s)
      binary_fits o =
          on_ints_fits (int_at 1 s) (int_at 0 s) (λ a b. decided (gives 2 (operate o a b)))
          (λ a b. ((λ c. gives_still 2 (operate o a b)), tt))

      pub jump_fits : (target : ℕ) → Fits raw slots (act raw slots (serials.JumpIfZero target) s)
      jump_fits target =
          on_int_fits (int_at 0 s) (λ a. decided (jump_if (int_eq a (pos 0)) target))
          (λ a. ((λ c. jump_still (int_eq a (pos 0)) target), tt))

      pub use_fits : Fits raw slots (act raw slots serials.Use s)
      use_fits = on_operand_fits (slice_get s 0) (λ x. decided (used x)) (λ x. ((λ c. used_still x), tt))

      pub load_fits : (p : Place) → IsKnownPlace raw.globals slots p → Fits raw slots (act raw slots (serials.Load p) s)
      load_fits p known = ((scalar_inside p known, λ c. loaded_still 0 c), tt)

      pub store_fits : (p : Place) (keeps : Bool) → IsKnownPlace raw.globals slots p
          → Fits raw slots (act raw slots (serials.Store p keeps) s)
      store_fits p keeps known =
          on_int_fits (int_at 0 s) (λ a. writes p 0 (stored (left_by keeps) None a))
          (λ a. ((scalar_inside p known, λ c. stored_onward (left_by keeps) None a c), tt))

      pub load_element_fits : (p : Place) → Fits raw slots (act raw slots (serials.LoadElement p) s)
      load_element_fits p =
          on_int_fits (int_at 0 s) (λ n. at_index (index_in (cells_in raw slots p) n) (λ k. reads p k (loaded 1)))
          (λ n. at_index_fits (index_in (cells_in raw slots p) n) (λ k. reads p k (loaded 1))
          (λ k e. ((element_inside p n k e, λ c. loaded_still 1 c), tt)))

      pub store_element_fits : (p : Place) (keeps : Bool) → Fits raw slots (act raw slots (serials.StoreElement p keeps) s)
      store_element_fits p keeps =
          on_ints_fits (int_at 1 s) (int_at 0 s)
          (λ n a. at_index (index_in (cells_in raw slots p) n) (λ k. writes p k (stored 2 (kept keeps a) a)))
          (λ n a. at_index_fits (index_in (cells_in raw slots p) n) (λ k. writes p k (stored 2 (kept keeps a) a))
          (λ k e. ((element_inside p n k e, λ c. stored_onward 2 (kept keeps a) a c), tt)))

      pub atomic_fits : (o : AtomicOperator) (side : Side) (p : Place) → IsKnownPlace raw.globals slots p
          → Fits raw slots (act raw slots (serials.Atomic o side p) s)
      atomic_fits o side p known =
          on_int_fits (int_at 0 s) (λ a. writes p 0 (updated 1 o side a))
          (λ a. ((scalar_inside p known, λ c. updated_onward 1 o side a c), tt))

      pub atomic_element_fits : (o : AtomicOperator) (side : Side) (p : Place)
          → Fits raw slots (act raw slots (serials.AtomicElement o side p) s)
      atomic_element_fits o side p =
          on_ints_fits (int_at 1 s) (int_at 0 s)
          (λ n a. at_index (index_in (cells_in raw slots p) n) (λ k. writes p k (updated 2 o side a)))
          (λ n a. at_index_fits (index_in (cells_in raw slots p) n) (λ k. writes p k (updated 2 o side a))
          (λ k e. ((element_inside p n k e, λ c. updated_onward 2 o side a c), tt)))
