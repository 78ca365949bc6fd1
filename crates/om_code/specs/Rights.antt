-- A turn of a serial instruction keeps a frame on a way of its body: matter of proofs, for whoever goes on from it.
use Rattle.std.proofs.Common.{◌≡◌, ℕ, ◌+◌, ◌≤◌, ℤ, pos, Bool, true, false, List, [], ◌∷◌, Option, Some, None, refl, sym}
use Rattle.std.proofs.Common.{subst, arith, length, slice_get}
use Rattle.std.specs.Ordering.{int_eq}
use Rattle.std.specs.Prelude.{Contains, Result, Ok, Err, option_to_list}
use Rattle.om_code.specs.declared.instruction.Instr.{Instr}
use Rattle.om_code.specs.declared.instruction.Instr.TheVariants as i
use Rattle.om_code.specs.declared.instruction.Serial.{Serial}
use Rattle.om_code.specs.declared.instruction.Serial.TheVariants as serials
use Rattle.om_code.specs.declared.instruction.Exits.TheVariants.{Next}
use Rattle.om_code.specs.declared.instruction.AtomicOperator.{AtomicOperator}
use Rattle.om_code.specs.declared.instruction.Side.{Side}
use Rattle.om_code.specs.declared.raw.Slot.{Slot}
use Rattle.om_code.specs.declared.raw.Raw.{Raw}
use Rattle.om_code.specs.declared.act.Turn.TheVariants.{Goes}
use Rattle.om_code.specs.declared.frame.Cell.{Cell}
use Rattle.om_code.specs.declared.frame.Cell.TheVariants as cell
use Rattle.om_code.specs.declared.frame.Fault.{Fault}
use Rattle.om_code.specs.declared.frame.Operand.{Operand}
use Rattle.om_code.specs.declared.frame.Operand.TheVariants as operand
use Rattle.om_code.specs.Ways.{pops, pushes, exits, places}
use Rattle.om_code.specs.Arithmetic.{operate, operate_on_one, update}
use Rattle.om_code.specs.Printing.{ints_on}
use Rattle.om_code.specs.Frames.{Act, act, IsRight, decided, reads, writes, on_operand, on_int, on_ints, at_index}
use Rattle.om_code.specs.Frames.{int_at, goes, gives, put, loaded, stored, updated, cells_in, index_in, used, jump_if}
use Rattle.om_code.specs.Frames.{print}
use Rattle.om_code.specs.Contained.{Contains-here, Contains-there}

-- an act whose every turn is right
record RightAct (instr : Instr) (a : Act) : Type 0 where
  right : (c : Cell) → IsRight instr (a.turn c)

module _ (instr : Instr) where
  -- numbers that are right, for an instruction that goes to the next one
  record Fits (takes : ℕ) (pushed : ℕ) : Type 0 where
    few : takes ≤ pops instr
    left : pops instr + pushed ≡ takes + pushes instr
    next : exits instr ≡ Next

  goes_right : (takes : ℕ) (pushed : Option Operand) (puts : Option ℤ) → Fits takes (length (option_to_list pushed))
      → IsRight instr (Goes None takes pushed puts)
  goes_right takes pushed puts fits = (
    fits.few,
    fits.left,
    λ picks at. subst (λ e. Contains (places picks at e)
        (at + 1)) (sym fits.next) (Contains-here (at + 1) []),
  )

  gives_right : (takes : ℕ) (value : Result ℤ Fault) → Fits takes 1 → IsRight instr (gives takes value)
  gives_right takes (Ok v) fits = goes_right takes (Some (operand.Int v)) None fits
  gives_right takes (Err f) fits = tt

  put_right : (takes : ℕ) (value : Result ℤ Fault) → Fits takes 0 → IsRight instr (put takes value)
  put_right takes (Ok v) fits = goes_right takes None (Some v) fits
  put_right takes (Err f) fits = tt

  loaded_right : (takes : ℕ) (c : Cell) → Fits takes 1 → IsRight instr (loaded takes c)
  loaded_right takes (cell.Int v) fits = goes_right takes (Some (operand.Int v)) None fits
  loaded_right takes cell.Unset fits = tt
  loaded_right takes cell.Dead fits = tt

  stored_right : (takes : ℕ) (pushed : Option Operand) (v : ℤ) (c : Cell)
      → Fits takes (length (option_to_list pushed)) → IsRight instr (stored takes pushed v c)
  stored_right takes pushed v (cell.Int w) fits = goes_right takes pushed (Some v) fits
  stored_right takes pushed v cell.Unset fits = goes_right takes pushed (Some v) fits
  stored_right takes pushed v cell.Dead fits = tt

  updated_right : (takes : ℕ) (operator : AtomicOperator) (side : Side) (v : ℤ) (c : Cell) → Fits takes 0
      → IsRight instr (updated takes operator side v c)
  updated_right takes operator side v (cell.Int w) fits = put_right takes (update operator side w v) fits
  updated_right takes operator side v cell.Unset fits = tt
  updated_right takes operator side v cell.Dead fits = tt

  on_operand_right : (x : Option Operand) (row : Operand → Act) → ((a : Operand) → RightAct instr (row a))
      → RightAct instr (on_operand x row)
  on_operand_right None row h = record { right = λ c. tt }
  on_operand_right (Some a) row h = h a

  on_int_right : (x : Option ℤ) (row : ℤ → Act) → ((a : ℤ) → RightAct instr (row a)) → RightAct instr (on_int x row)
  on_int_right None row h = record { right = λ c. tt }
  on_int_right (Some a) row h = h a

  on_ints_right : (x y : Option ℤ) (row : ℤ → ℤ → Act) → ((a b : ℤ) → RightAct instr (row a b))
      → RightAct instr (on_ints x y row)
  on_ints_right None y row h = record { right = λ c. tt }
  on_ints_right (Some a) None row h = record { right = λ c. tt }
  on_ints_right (Some a) (Some b) row h = h a b

  at_index_right : (k : Option ℕ) (row : ℕ → Act) → ((n : ℕ) → RightAct instr (row n)) → RightAct instr (at_index k row)
  at_index_right None row h = record { right = λ c. tt }
  at_index_right (Some n) row h = h n

used_right : (x : Operand) → IsRight (i.Serial serials.Use) (used x)
used_right (operand.Int v) = goes_right (i.Serial serials.Use) 0 None None (record { few = omega arith; left = refl; next = refl })
used_right operand.NoValue = tt

jump_right : (b : Bool) (target : ℕ) → IsRight (i.Serial (serials.JumpIfZero target)) (jump_if b target)
jump_right true target = (
  omega arith,
  refl,
  λ picks at. Contains-there (at + 1) target (target ∷ [])
      (Contains-here target []),
)
jump_right false target = (omega arith, refl, λ picks at. Contains-here (at + 1) (target ∷ []))

print_right : (text values : ℕ) (vs : Option (List ℤ)) → RightAct (i.Serial (serials.Print text values)) (print text values vs)
print_right text values None = record { right = λ c. tt }
print_right text values (Some vs) = record {
  right = λ c. goes_right (i.Serial (serials.Print text values)) values None None
      (record { few = omega arith; left = refl; next = refl });
}

row_right : (raw : Raw) (slots : List Slot) (instr : Serial) (s : List Operand)
    → RightAct (i.Serial instr) (act raw slots instr s)
row_right raw slots (serials.Constant value) s = record {
  right = λ c. goes_right (i.Serial (serials.Constant value)) 0
      (Some (operand.Int value)) None (record { few = omega arith; left = refl; next = refl });
}
row_right raw slots serials.Duplicate s = on_operand_right (i.Serial serials.Duplicate) (slice_get s 0) (λ x. decided (goes 0 (Some x)))
    (λ a. record {
      right = λ c. goes_right (i.Serial serials.Duplicate) 0 (Some a) None
          (record { few = omega arith; left = refl; next = refl });
    })
row_right raw slots serials.Pop s = on_operand_right (i.Serial serials.Pop) (slice_get s 0) (λ x. decided (goes 1 None))
    (λ a. record { right = λ c. goes_right (i.Serial serials.Pop) 1 None None (record { few = omega arith; left = refl; next = refl }) })
row_right raw slots serials.Nop s = record {
  right = λ c. goes_right (i.Serial serials.Nop) 0 None None
      (record { few = omega arith; left = refl; next = refl });
}
row_right raw slots (serials.Unary o) s = on_int_right (i.Serial (serials.Unary o)) (int_at 0 s)
    (λ a. decided (gives 1 (operate_on_one o a)))
    (λ a. record {
      right = λ c. gives_right (i.Serial (serials.Unary o)) 1 (operate_on_one o a)
          (record { few = omega arith; left = refl; next = refl });
    })
row_right raw slots (serials.Binary o) s = on_ints_right (i.Serial (serials.Binary o)) (int_at 1 s) (int_at 0 s)
    (λ a b. decided (gives 2 (operate o a b)))
    (λ a b. record {
      right = λ c. gives_right (i.Serial (serials.Binary o)) 2 (operate o a b)
          (record { few = omega arith; left = refl; next = refl });
    })
row_right raw slots (serials.Jump target) s = record { right = λ c. (omega arith, refl, λ picks at. Contains-here target []) }
row_right raw slots (serials.JumpIfZero target) s = on_int_right (i.Serial (serials.JumpIfZero target)) (int_at 0 s)
    (λ a. decided (jump_if (int_eq a (pos 0)) target))
    (λ a. record { right = λ c. jump_right (int_eq a (pos 0)) target })
row_right raw slots serials.Use s = on_operand_right (i.Serial serials.Use) (slice_get s 0) (λ x. decided (used x))
    (λ a. record { right = λ c. used_right a })
row_right raw slots (serials.Load place) s = record {
  right = λ c. loaded_right (i.Serial (serials.Load place)) 0 c
      (record { few = omega arith; left = refl; next = refl });
}
row_right raw slots (serials.Store place true) s = on_int_right (i.Serial (serials.Store place true)) (int_at 0 s)
    (λ a. writes place 0 (stored 0 None a)) (λ a. record {
      right = λ c. stored_right (i.Serial (serials.Store place true)) 0 None a c
          (record { few = omega arith; left = refl; next = refl });
    })
row_right raw slots (serials.Store place false) s = on_int_right (i.Serial (serials.Store place false)) (int_at 0 s)
    (λ a. writes place 0 (stored 1 None a)) (λ a. record {
      right = λ c. stored_right (i.Serial (serials.Store place false)) 1 None a
          c (record { few = omega arith; left = refl; next = refl });
    })
row_right raw slots (serials.LoadElement place) s = on_int_right (i.Serial (serials.LoadElement place)) (int_at 0 s)
    (λ n. at_index (index_in (cells_in raw slots place) n) (λ k. reads place k (loaded 1)))
    (λ a. at_index_right (i.Serial (serials.LoadElement place)) (index_in (cells_in raw slots place) a)
    (λ k. reads place k (loaded 1))
    (λ n. record {
      right = λ c. loaded_right (i.Serial (serials.LoadElement place)) 1 c
          (record { few = omega arith; left = refl; next = refl });
    }))
row_right raw slots (serials.StoreElement place true) s = on_ints_right (i.Serial (serials.StoreElement place true)) (int_at 1 s)
    (int_at 0 s) (λ n a. at_index (index_in (cells_in raw slots place) n)
    (λ k. writes place k (stored 2 (Some (operand.Int a)) a))) (λ a b. at_index_right (i.Serial (serials.StoreElement place true))
    (index_in (cells_in raw slots place) a) (λ k. writes place k (stored 2 (Some (operand.Int b)) b))
    (λ n. record {
      right = λ c. stored_right (i.Serial (serials.StoreElement place true)) 2 (Some (operand.Int b)) b c
          (record { few = omega arith; left = refl; next = refl });
    }))
row_right raw slots (serials.StoreElement place false) s = on_ints_right (i.Serial (serials.StoreElement place false)) (int_at 1 s)
    (int_at 0 s) (λ n a. at_index (index_in (cells_in raw slots place) n) (λ k. writes place k (stored 2 None a)))
    (λ a b. at_index_right (i.Serial (serials.StoreElement place false)) (index_in (cells_in raw slots place) a)
    (λ k. writes place k (stored 2 None b)) (λ n. record {
      right = λ c. stored_right (i.Serial (serials.StoreElement place false)) 2
          None b c (record { few = omega arith; left = refl; next = refl });
    }))
row_right raw slots (serials.Clear slot) s = record {
  right = λ c. goes_right (i.Serial (serials.Clear slot)) 0 None None
      (record { few = omega arith; left = refl; next = refl });
}
row_right raw slots (serials.Print text values) s = print_right text values (ints_on values s)
row_right raw slots (serials.Atomic o side place) s = on_int_right (i.Serial (serials.Atomic o side place)) (int_at 0 s)
    (λ a. writes place 0 (updated 1 o side a)) (λ a. record {
      right = λ c. updated_right (i.Serial (serials.Atomic o side place)) 1 o
          side a c (record { few = omega arith; left = refl; next = refl });
    })
row_right raw slots (serials.AtomicElement o side place) s = on_ints_right (i.Serial (serials.AtomicElement o side place)) (int_at 1 s)
    (int_at 0 s) (λ n a. at_index (index_in (cells_in raw slots place) n)
    (λ k. writes place k (updated 2 o side a))) (λ a b. at_index_right (i.Serial (serials.AtomicElement o side place))
    (index_in (cells_in raw slots place) a) (λ k. writes place k (updated 2 o side b))
    (λ n. record {
      right = λ c. updated_right (i.Serial (serials.AtomicElement o side place)) 2 o side b c
          (record { few = omega arith; left = refl; next = refl });
    }))

pub act_right : (raw : Raw) (slots : List Slot) (instr : Serial) (s : List Operand) (c : Cell)
    → IsRight (i.Serial instr) ((act raw slots instr s).turn c)
act_right raw slots instr s c = (row_right raw slots instr s).right c
