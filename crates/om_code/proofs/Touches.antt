-- What a serial instruction touches exists.
use Rattle.std.proofs.Common.{◌≡◌, ℕ, ℤ, pos, true, false, List, Option, Some, None, refl, ap, slice_get, is_some}
use Rattle.std.specs.Ordering.{int_eq}
use Rattle.om_code.specs.declared.instruction.Instr.TheVariants as i
use Rattle.om_code.specs.declared.instruction.Serial.{Serial}
use Rattle.om_code.specs.declared.instruction.Serial.TheVariants as serials
use Rattle.om_code.specs.declared.raw.Slot.{Slot}
use Rattle.om_code.specs.declared.raw.Raw.{Raw}
use Rattle.om_code.specs.declared.frame.Operand.{Operand}
use Rattle.om_code.specs.declared.frame.Operand.TheVariants as operand
use Rattle.om_code.specs.Arithmetic.{operate, operate_on_one}
use Rattle.om_code.specs.Printing.{ints_on}
use Rattle.om_code.specs.Validity.{NamesKnown}
use Rattle.om_code.specs.Frames.{Act, act, IsThere, decided, reads, writes, on_operand, on_int, on_ints, at_index}
use Rattle.om_code.specs.Frames.{int_at, goes, gives, loaded, stored, updated, cells_in, index_in, left_by, kept, used}
use Rattle.om_code.specs.Frames.{jump_if, print}

module _ (raw : Raw) (slots : List Slot) (s : List Operand) where
  on_operand_there : (x : Option Operand) (row : Operand → Act)
      → ((a : Operand) → IsThere raw slots s (row a).touch) → IsThere raw slots s (on_operand x row).touch
  on_operand_there None row h = tt
  on_operand_there (Some a) row h = h a

  on_int_there : (x : Option ℤ) (row : ℤ → Act) → ((a : ℤ) → IsThere raw slots s (row a).touch) → IsThere raw slots
      s (on_int x row).touch
  on_int_there None row h = tt
  on_int_there (Some a) row h = h a

  on_ints_there : (x y : Option ℤ) (row : ℤ → ℤ → Act) → ((a b : ℤ) → IsThere raw slots s (row a b).touch)
      → IsThere raw slots s (on_ints x y row).touch
  on_ints_there None y row h = tt
  on_ints_there (Some a) None row h = tt
  on_ints_there (Some a) (Some b) row h = h a b

  at_index_there : (k : Option ℕ) (row : ℕ → Act) → ((n : ℕ) → IsThere raw slots s (row n).touch)
      → IsThere raw slots s (at_index k row).touch
  at_index_there None row h = tt
  at_index_there (Some n) row h = h n

  print_there : (text values : ℕ) (vs : Option (List ℤ)) → ints_on values s ≡ vs → NamesKnown raw slots
      (i.Serial (serials.Print text values)) → IsThere raw slots s (print text values vs).touch
  print_there text values None e known = tt
  print_there text values (Some vs) e known = (known, ap is_some e)

  pub touch_there : (instr : Serial) → NamesKnown raw slots (i.Serial instr) → IsThere raw slots s (act raw slots instr s).touch
  touch_there serials.Duplicate known = on_operand_there (slice_get s 0) (λ x. decided (goes 0 (Some x))) (λ x. tt)
  touch_there serials.Pop known = on_operand_there (slice_get s 0) (λ x. decided (goes 1 None)) (λ x. tt)
  touch_there (serials.Unary o) known = on_int_there (int_at 0 s) (λ a. decided (gives 1 (operate_on_one o a))) (λ a. tt)
  touch_there (serials.Binary o) known = on_ints_there (int_at 1 s) (int_at 0 s)
      (λ a b. decided (gives 2 (operate o a b))) (λ a b. tt)
  touch_there (serials.JumpIfZero target) known = on_int_there (int_at 0 s)
      (λ a. decided (jump_if (int_eq a (pos 0)) target)) (λ a. tt)
  touch_there serials.Use known = on_operand_there (slice_get s 0) (λ x. decided (used x)) (λ x. tt)
  touch_there (serials.Load place) known = known
  touch_there (serials.Store place keeps) known = on_int_there (int_at 0 s)
      (λ a. writes place 0 (stored (left_by keeps) None a)) (λ a. known)
  touch_there (serials.LoadElement place) known = on_int_there (int_at 0 s)
      (λ n. at_index (index_in (cells_in raw slots place) n) (λ k. reads place k (loaded 1)))
      (λ n. at_index_there (index_in (cells_in raw slots place) n) (λ k. reads place k (loaded 1)) (λ k. known))
  touch_there (serials.StoreElement place keeps) known = on_ints_there (int_at 1 s) (int_at 0 s)
      (λ n a. at_index (index_in (cells_in raw slots place) n) (λ k. writes place k (stored 2 (kept keeps a) a)))
      (λ n a. at_index_there (index_in (cells_in raw slots place) n)
      (λ k. writes place k (stored 2 (kept keeps a) a)) (λ k. known))
  touch_there (serials.Clear slot) known = known
  touch_there (serials.Print text values) known = print_there text values (ints_on values s) refl known
  touch_there (serials.Atomic o side place) known = on_int_there (int_at 0 s) (λ a. writes place 0 (updated 1 o side a))
      (λ a. known)
  touch_there (serials.AtomicElement o side place) known = on_ints_there (int_at 1 s) (int_at 0 s)
      (λ n a. at_index (index_in (cells_in raw slots place) n) (λ k. writes place k (updated 2 o side a)))
      (λ n a. at_index_there (index_in (cells_in raw slots place) n) (λ k. writes place k (updated 2 o side a))
      (λ k. known))
  touch_there (serials.Constant value) known = tt
  touch_there serials.Nop known = tt
  touch_there (serials.Jump target) known = tt
