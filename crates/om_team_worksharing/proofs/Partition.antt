-- A static schedule parts the iterations of a loop.
use Rattle.std.proofs.Common.{◌≡◌, ⊎_elim, subst, sym, ◌∙◌, ap, ℕ, zero, suc, ◌+◌, ◌-◌, ◌*◌, ◌/◌, ◌%◌, ◌<◌, ◌≤◌, arith}
use Rattle.std.proofs.Common.{Option, None, Some}
use Rattle.std.specs.Prelude.{nat_lt, nat_eq, min, if◌then◌else◌, IsSomeAnd}
use Rattle.std.proofs.lemmas.Grind.{common_steps}
use Rattle.std.proofs.lemmas.Nat.{div-add-mod', mod_below, mul-le, same_from_place, div-mul-add}
use Rattle.std.proofs.lemmas.Bool.{cases_lt, cases_order}
use Rattle.om_team_worksharing.specs.declared.chunk.Chunk.{Chunk}
use Rattle.om_team_worksharing.specs.Chunks.{chunk_within, round_robin, block_start, block_size, block, IsChunkSize, LiesIn}
use Rattle.om_team_worksharing.specs.Chunks.{IsPartition, AreShares}

-- a chunk, if there is one, holds an iteration
abbrev pub Holds : Option Chunk → ℕ → Type 0
Holds found k = IsSomeAnd found (λ chunk. (chunk.first ≤ k) × (k < chunk.end))

pub record IsBetween (n first size k : ℕ) : Type 0 where
  pub low : first ≤ k
  pub high : k < first + size
  pub below : k < n

held : (n first size k : ℕ) → Holds (chunk_within n first size) k → IsBetween n first size k
held n first size k h = grind (arith, common_steps)

holds : (n first size k : ℕ) → IsBetween n first size k → Holds (chunk_within n first size) k
holds n first size k h = grind (arith, common_steps)

-- the number of the chunk in which an iteration lies
same_number : (size a b k : ℕ) → a * size ≤ k → k < a * size + size → b * size ≤ k → k < b * size + size → a ≡ b
same_number size a b k p q r s = (same_from_place a (k - a * size) b (k - b * size) size (omega arith) (omega arith)
    (omega arith)).0

round_one : (n size t i r j s k : ℕ) → i < t → j < t → Holds (round_robin n size t i r) k
    → Holds (round_robin n size t j s) k → (i ≡ j) × (r ≡ s)
round_one n size t i r j s k p q h g =
    let a = held n ((r * t + i) * size) size k h in
    let b = held n ((s * t + j) * size) size k g in
    let e = same_from_place r i s j t p q (same_number size (r * t + i) (s * t + j) k a.low a.high b.low b.high) in
    (e.1, e.0)

-- an iteration lies in the chunk of its quotient
in_quotient : (n size a k : ℕ) → 1 ≤ size → a ≡ k / size → k < n → IsBetween n (a * size) size k
in_quotient n size a k p e h =
    let whole : a * size + k % size ≡ k = ap (λ q. q * size + k % size) e ∙ div-add-mod' k size in
    let part = mod_below k size p in
    record { low = omega arith; high = omega arith; below = h }

round_some : (n size t k : ℕ) → 1 ≤ size → 1 ≤ t → k < n → Holds (round_robin n size t (k / size % t) (k / size / t)) k
round_some n size t k p q h = holds n _ size k (in_quotient n size _ k p (div-add-mod' (k / size) t) h)

next_of : (i q m : ℕ) → (i + 1) * q + min (i + 1) m ≡ i * q + min i m + (if nat_lt i m then q + 1 else q)
next_of i q m = grind (arith, common_steps)

next_block : (n t i : ℕ) → block_start n t (i + 1) ≡ block_start n t i + block_size n t i
next_block n t i = next_of i (n / t) (n % t)

last_block : (n t : ℕ) → 1 ≤ t → block_start n t t ≡ n
last_block n t h =
    let whole = div-add-mod' n t in
    let part = mod_below n t h in
    omega arith

later_block : (n t i j : ℕ) → i ≤ j → block_start n t i ≤ block_start n t j
later_block n t i j h =
    let wholes = mul-le i (n / t) j (n / t) h (omega arith) in
    omega arith

-- the block in which an iteration in front of thread i lies
record IsStarted (n t i k : ℕ) : Type 0 where
  thread : ℕ
  before : thread < i
  low : block_start n t thread ≤ k
  high : k < block_start n t (thread + 1)

in_last : (n t i m k : ℕ) → m ≡ i + 1 → block_start n t i ≤ k → k < block_start n t m → IsStarted n t m k
in_last n t i m k e low high = record {
  thread = i;
  before = omega (arith, e);
  low = low;
  high = subst
      (λ q. k < block_start n t q) e high;
}

further : (n t i k : ℕ) → IsStarted n t i k → IsStarted n t (suc i) k
further n t i k r = record { thread = r.thread; before = omega (arith, r.before); low = r.low; high = r.high }

started : (n t i k : ℕ) → k < block_start n t i → IsStarted n t i k
started n t zero k h = record { thread = 0; before = omega (arith, h); low = omega (arith, h); high = omega (arith, h) }
started n t (suc i) k h = ⊎_elim (λ less. further n t i k (started n t i k less))
    (λ more. in_last n t i (suc i) k (omega arith) more h) (cases_lt k (block_start n t i))

block_some : (n t k : ℕ) → 1 ≤ t → k < n → (i : ℕ) × (i < t) × Holds (block n t i) k
block_some n t k p h =
    let r = started n t t k (omega (arith, last_block n t p)) in (
      r.thread,
      r.before,
      holds n _ _ k (record {
        low = r.low;
        high = omega (arith, r.high, next_block n t r.thread);
        below = h;
      }),
    )

-- a later block begins where this one ends, or further on
apart : (n t i j k : ℕ) → i < j → Holds (block n t i) k → Holds (block n t j) k → i ≡ j
apart n t i j k p h g =
    let a = held n (block_start n t i) _ k h in
    let b = held n (block_start n t j) _ k g in
    omega (arith, a.high, b.low, next_block n t i, later_block n t (i + 1) j (omega arith))

block_one : (n t i j k : ℕ) → Holds (block n t i) k → Holds (block n t j) k → i ≡ j
block_one n t i j k h g = ⊎_elim (λ same. same) (λ other. ⊎_elim (λ less. apart n t i j k less h g)
    (λ more. sym (apart n t j i k more g h)) other) (cases_order i j)

-- a block is the chunk of number 0 alone
only_block : (found : Option Chunk) (r k : ℕ) → Holds (if nat_eq r 0 then found else None) k → (r ≡ 0) × Holds found k
only_block found r k h = grind (arith, common_steps)

pub partition : (size : Option ℕ) (n t : ℕ) → IsChunkSize size → 1 ≤ t → IsPartition size n t
partition (Some size) n t p q = record {
  within = λ i r k b h. (held n _ size k h).below;
  some = λ k b. (k / size % t, k / size / t, mod_below _ t q, round_some n size t k p q b);
  one = λ i r j s k a b h g. round_one n size t i r j s k a b h g;
}
partition None n t p q = record {
  within = λ i r k b h. (held n (block_start n t i) _ k (only_block (block n t i) r k h).1).below;
  some = λ k b. let found = block_some n t k q b in (found.0, 0, found.1, found.2);
  one = λ i r j s k a b h g.
      let first = only_block (block n t i) r k h in
      let other = only_block (block n t j) s k g in
      (block_one n t i j k first.1 other.1, first.0 ∙ sym other.0);
}

-- the number of the chunk, by division
quotient_is : (size a k : ℕ) → a * size ≤ k → k < a * size + size → k / size ≡ a
quotient_is size a k p q =
    let whole : k ≡ a * size + (k - a * size) = omega arith in
    ap (λ j. j / size) whole ∙ div-mul-add a size (k - a * size) (omega arith)

round_to : (n size t i r k : ℕ) → Holds (round_robin n size t i r) k → (k < n) × (k / size ≡ r * t + i)
round_to n size t i r k h =
    let a = held n ((r * t + i) * size) size k h in
    (a.below, quotient_is size (r * t + i) k a.low a.high)

whole_to : (n t i r k : ℕ) → LiesIn None n t i r k → (r ≡ 0) × (block_start n t i ≤ k)
    × (k < block_start n t i + block_size n t i)
whole_to n t i r k h =
    let first = only_block (block n t i) r k h in
    let a = held n (block_start n t i) _ k first.1 in
    (first.0, a.low, a.high)

first_block : (found : Option Chunk) (r k : ℕ) → r ≡ 0 → Holds found k → Holds (if nat_eq r 0 then found else None) k
first_block found r k e h = subst (λ q. Holds (if nat_eq q 0 then found else None) k) (sym e) h

whole_from : (n t i r k : ℕ) → i < t → r ≡ 0 → block_start n t i ≤ k → k < block_start n t i + block_size n t i
    → LiesIn None n t i r k
whole_from n t i r k p e low high =
    let last = last_block n t (omega arith) in
    let rises = later_block n t (i + 1) t (omega arith) in
    first_block (block n t i) r k e
    (holds n _ _ k (record { low = low; high = high; below = omega (arith, last, rises, high, next_block n t i) }))

pub shares : (n t : ℕ) → AreShares n t
shares n t = record {
  round = λ size i r k p q. (round_to n size t i r k, λ h. holds n _ size k (in_quotient n size _ k p (sym h.1) h.0));
  whole = λ i r k p. (whole_to n t i r k, λ h. whole_from n t i r k p h.0 h.1 h.2);
}
