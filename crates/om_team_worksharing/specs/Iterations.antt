-- Matter of proofs, for om_soundness too: the iterations of a loop between ints are ints, and no chunk ends behind its
-- last one.
use Rattle.std.proofs.Common.{◌≡◌, refl, ℕ, zero, suc, ◌+◌, ◌-◌, ◌*◌, ◌/◌, ◌%◌, ◌<◌, ◌≤◌, ◌^◌, ℤ, pos, negsuc, arith, Bool}
use Rattle.std.proofs.Common.{true, false, if◌then◌else◌, Option, None, Some, FitsSigned, subst, sym}
use Rattle.std.specs.Int.{w32}
use Rattle.std.specs.Prelude.{◌&&◌, IfSome, min, nat_lt, nat_eq, neg_ℤ, ◌+ℤ◌, ◌-ℤ◌}
use Rattle.std.proofs.Math.Nat.{min-le_right, suc-mul}
use Rattle.std.proofs.lemmas.Bool.{ltb-true, lt-ltb}
use Rattle.std.proofs.lemmas.Int.{ints}
use Rattle.std.proofs.lemmas.Nat.{div-add-mod', mul-le}
use Rattle.om_code.specs.declared.instruction.Comparison.{Comparison}
use Rattle.om_code.specs.declared.instruction.Comparison.TheVariants.{Less, LessOrEqual, Greater, GreaterOrEqual}
use Rattle.om_code.specs.declared.instruction.LoopForm.{LoopForm}
use Rattle.om_state.specs.declared.control.Share.{Share}
use Rattle.om_state.specs.OpenShares.{IsInt, ShareHasInts, is_loop, value_of}
use Rattle.om_team_worksharing.specs.declared.chunk.Chunk.{Chunk}
use Rattle.om_team_worksharing.specs.Chunks.{step_size, rounded_up, rounded_down, count_of, chunk_within}
use Rattle.om_team_worksharing.specs.Chunks.{block_size, block_start, block, static_chunk}
use Rattle.om_team_worksharing.specs.Rows.{is_right_form, is_right_schedule, loop_of}

fits : (v : ℤ) → IsInt v → FitsSigned w32 v
fits (pos n) e = let lt : n < 2 ^ 31 = ltb-true n (2 ^ 31) e in omega (arith, ints, lt)
fits (negsuc n) e = let lt : n < 2 ^ 31 = ltb-true n (2 ^ 31) e in omega (arith, ints, lt)

pub int_that_fits : (v : ℤ) → FitsSigned w32 v → IsInt v
int_that_fits (pos n) f = lt-ltb n (2 ^ 31) (omega (arith, ints, f))
int_that_fits (negsuc n) f = lt-ltb n (2 ^ 31) (omega (arith, ints, f))

-- ---- the steps from one bound toward the other

-- a distance that is at least so far
record Reaches (distance : ℤ) (far : ℕ) : Type 0 where
  whole : ℕ
  is : distance ≡ pos whole
  within : far ≤ whole

-- steps of which as many as are taken lie in a distance
in_quotient : (n step j : ℕ) → j ≤ n / step → j * step ≤ n
in_quotient n step j le =
    let whole : n / step * step + n % step ≡ n = div-add-mod' n step in
    let few : j * step ≤ n / step * step = mul-le j step (n / step) step le (omega arith) in
    omega (arith, whole, few)

up : (n step j : ℕ) → 1 ≤ step → j < (n + (step - 1)) / step → j * step ≤ n
up n step j some lt =
    let few : suc j * step ≤ n + (step - 1) = in_quotient (n + (step - 1)) step (suc j) (omega (arith, lt)) in
    let more : suc j * step ≡ j * step + step = suc-mul j step in
    omega (arith, some, few, more)

reaches_up : (distance : ℤ) (step j : ℕ) → 1 ≤ step → j < rounded_up distance step → Reaches distance (j * step)
reaches_up (pos n) step j some lt = record { whole = n; is = refl; within = up n step j some lt }
reaches_up (negsuc n) step j some lt = absurd (omega (arith, lt))

reaches_down : (distance : ℤ) (step j : ℕ) → j < rounded_down distance step → Reaches distance (j * step)
reaches_down (pos n) step j lt = record { whole = n; is = refl; within = in_quotient n step j (omega (arith, lt)) }
reaches_down (negsuc n) step j lt = absurd (omega (arith, lt))

ahead : (lower upper : ℤ) (far : ℕ) → IsInt lower → IsInt upper → Reaches (upper -ℤ lower) far
    → IsInt (lower +ℤ pos far)
ahead lower upper far l u r =
    let f : FitsSigned w32 lower = fits lower l in
    let g : FitsSigned w32 upper = fits upper u in
    let e : upper -ℤ lower ≡ pos r.whole = r.is in
    let le : far ≤ r.whole = r.within in
    int_that_fits (lower +ℤ pos far) (omega (arith, ints, f, g, e, le))

behind : (lower upper : ℤ) (far : ℕ) → IsInt lower → IsInt upper → Reaches (lower -ℤ upper) far
    → IsInt (lower +ℤ neg_ℤ (pos far))
behind lower upper far l u r =
    let f : FitsSigned w32 lower = fits lower l in
    let g : FitsSigned w32 upper = fits upper u in
    let e : lower -ℤ upper ≡ pos r.whole = r.is in
    let le : far ≤ r.whole = r.within in
    int_that_fits (lower +ℤ neg_ℤ (pos far)) (omega (arith, ints, f, g, e, le))

-- OpenMP 5.2, 4.4.1: each iteration lies between the bounds
iteration_int : (c : Comparison) (lower upper step : ℤ) (j : ℕ) → IsInt lower → IsInt upper → 1 ≤ step_size c step
    → j < count_of c lower upper (step_size c step) → IsInt (value_of lower step j)
iteration_int Less lower upper (pos k) j l u some lt =
    ahead lower upper (j * k) l u (reaches_up (upper -ℤ lower) k j some lt)
iteration_int Less lower upper (negsuc k) j l u some lt = absurd (omega (arith, some))
iteration_int LessOrEqual lower upper (pos k) j l u some lt =
    ahead lower upper (j * k) l u (reaches_down (upper -ℤ lower) k j lt)
iteration_int LessOrEqual lower upper (negsuc k) j l u some lt = absurd (omega (arith, some))
iteration_int Greater lower upper (pos zero) j l u some lt = absurd (omega (arith, some))
iteration_int Greater lower upper (pos (suc k)) j l u some lt = absurd (omega (arith, some))
iteration_int Greater lower upper (negsuc k) j l u some lt =
    behind lower upper (j * suc k) l u (reaches_up (lower -ℤ upper) (suc k) j some lt)
iteration_int GreaterOrEqual lower upper (pos zero) j l u some lt = absurd (omega (arith, some))
iteration_int GreaterOrEqual lower upper (pos (suc k)) j l u some lt = absurd (omega (arith, some))
iteration_int GreaterOrEqual lower upper (negsuc k) j l u some lt =
    behind lower upper (j * suc k) l u (reaches_down (lower -ℤ upper) (suc k) j lt)

first_of_both : (a b : Bool) → a && b ≡ true → a ≡ true
first_of_both true b e = refl
first_of_both false b e = cc

-- a loop that is opened between ints, by a right form
pub loop_ints : (region : ℕ) (form : LoopForm) (lower upper : ℤ) → IsInt lower → IsInt upper
    → is_right_form form ≡ true → ShareHasInts (loop_of region form lower upper)
loop_ints region form lower upper l u right =
    let some : 0 < step_size form.comparison form.step =
    ltb-true 0 (step_size form.comparison form.step)
    (first_of_both (nat_lt 0 (step_size form.comparison form.step)) (is_right_schedule form.schedule) right) in
    record {
      within = omega arith;
      values = λ is j lt. iteration_int form.comparison lower upper form.step j l u (omega (arith, some)) lt;
    }

-- the same of numbers of 32 bits
pub opened_ints : (share : Share) (region : ℕ) (form : LoopForm) (lower upper : ℤ) → share
    ≡ loop_of region form lower upper → is_right_form form ≡ true → FitsSigned w32 lower → FitsSigned w32 upper
    → ShareHasInts share
opened_ints share region form lower upper e right f g =
    subst ShareHasInts (sym e) (loop_ints region form lower upper (int_that_fits lower f) (int_that_fits upper g) right)

-- the value of the next iteration, where one is left
pub next_int : (share : Share) → ShareHasInts share → is_loop share.sharing ≡ true → share.next < share.end
    → IsInt (value_of share.lower share.step share.next)
next_int share h is left = h.values is share.next (omega (arith, h.within, left))

-- ---- chunks

abbrev pub EndsWithin : ℕ → Option Chunk → Type 0
EndsWithin count chunk = IfSome chunk (λ c. c.end ≤ count)

if_ends : (count : ℕ) (b : Bool) (o : Option Chunk) → EndsWithin count o → EndsWithin count (if b then o else None)
if_ends count true o h = h
if_ends count false o h = tt

pub chunk_ends : (count first size : ℕ) → EndsWithin count (chunk_within count first size)
chunk_ends count first size =
    if_ends count (nat_lt 0 size && nat_lt first count)
    (Some (record { first = first; end = min (first + size) count })) (min-le_right (first + size) count)

pub static_ends : (size : Option ℕ) (count threads number taken : ℕ)
    → EndsWithin count (static_chunk size count threads number taken)
static_ends None count threads number taken =
    if_ends count (nat_eq taken 0) (block count threads number)
    (chunk_ends count (block_start count threads number) (block_size count threads number))
static_ends (Some size) count threads number taken =
    chunk_ends count ((taken * threads + number) * size) size
