-- The chunks of a member under a static schedule lie one behind another.
use Rattle.std.proofs.Common.{◌≡◌, refl, sym, subst, ℕ, ◌+◌, ◌*◌, ◌≤◌, ◌<◌, arith, Bool, true, false}
use Rattle.std.proofs.Common.{if◌then◌else◌, Option, None, Some}
use Rattle.std.specs.Prelude.{min, nat_eq, nat_lt, ◌&&◌, IsSomeAnd}
use Rattle.std.proofs.lemmas.Bool.{eqb-true, ltb-true}
use Rattle.std.proofs.lemmas.Nat.{mul-le}
use Rattle.om_foot.specs.Below.{two_true}
use Rattle.om_team_worksharing.specs.declared.chunk.Chunk.{Chunk}
use Rattle.om_team_worksharing.specs.Chunks.{IsChunkSize, LiesIn, block, block_size, block_start, chunk_within, round_robin, static_chunk}
use Rattle.om_team_laws.proofs.Works.{chunk_rises}

-- a chunk has at most its size of iterations, and some
chunk_ends : (n first size : ℕ) (c : Chunk) → chunk_within n first size ≡ Some c → c.end ≤ first + size
chunk_ends n first size c e = by (nat_lt 0 size && nat_lt first n) e
  where
    least : min (first + size) n ≤ first + size
    least = omega arith

    by : (b : Bool) → (if b then Some (record { first = first; end = min (first + size) n }) else None) ≡ Some c
        → c.end ≤ first + size
    by true e =
        let made : record { first = first; end = min (first + size) n } ≡ c = cc e in
        subst (λ (d : Chunk). d.end ≤ first + size) made least
    by false e = cc

has_size : (n first size : ℕ) (c : Chunk) → chunk_within n first size ≡ Some c → 1 ≤ size
has_size n first size c e = by (nat_lt 0 size && nat_lt first n) refl e
  where
    by : (b : Bool) → (nat_lt 0 size && nat_lt first n) ≡ b
        → (if b then Some (record { first = first; end = min (first + size) n }) else None) ≡ Some c → 1 ≤ size
    by true is e = let some : 0 < size = ltb-true 0 size (two_true (nat_lt 0 size) (nat_lt first n) is).0 in omega (arith, some)
    by false is e = cc

round_behind : (n size t i r q : ℕ) (c d : Chunk) → i < t → r < q → round_robin n size t i r ≡ Some c
    → round_robin n size t i q ≡ Some d → c.end ≤ d.first
round_behind n size t i r q c d small less e g =
    let ends = chunk_ends n ((r * t + i) * size) size c e in
    let begins : d.first ≡ (q * t + i) * size = (chunk_rises n ((q * t + i) * size) size d g).begins in
    let rounds : (r + 1) * t ≤ q * t = mul-le (r + 1) t q t (omega (arith, less)) (omega arith) in
    let more : r * t + i + 1 ≤ q * t + i = omega (arith, rounds, small) in
    let times : (r * t + i + 1) * size ≤ (q * t + i) * size =
    mul-le (r * t + i + 1) size (q * t + i) size more (omega arith) in
    omega (arith, ends, begins, times)

-- the next chunks begin where this one has ended
pub chunks_behind : (size : Option ℕ) (n t i r q : ℕ) (c d : Chunk) → i < t → r < q → static_chunk size n t i r ≡ Some c
    → static_chunk size n t i q ≡ Some d → c.end ≤ d.first
chunks_behind None n t i r q c d small less e g = by (nat_eq q 0) refl g
  where
    by : (b : Bool) → nat_eq q 0 ≡ b → (if b then block n t i else None) ≡ Some d → c.end ≤ d.first
    by true is g =
        let first : q ≡ 0 = eqb-true q 0 is in
        absurd (omega (arith, less, first))
    by false is g = cc
chunks_behind (Some size) n t i r q c d small less e g = round_behind n size t i r q c d small less e g

pub chunk_has_some : (size : Option ℕ) (n t i r : ℕ) (c : Chunk) → static_chunk size n t i r ≡ Some c → c.first < c.end
chunk_has_some None n t i r c e = by (nat_eq r 0) e
  where
    by : (b : Bool) → (if b then block n t i else None) ≡ Some c → c.first < c.end
    by true e =
        let up = chunk_rises n (block_start n t i) (block_size n t i) c e in
        let begins : c.first ≡ block_start n t i = up.begins in
        let ends : block_start n t i < c.end = up.ends in
        omega (arith, begins, ends)
    by false e = cc
chunk_has_some (Some size) n t i r c e =
    let up = chunk_rises n ((r * t + i) * size) size c e in
    let begins : c.first ≡ (r * t + i) * size = up.begins in
    let ends : (r * t + i) * size < c.end = up.ends in
    omega (arith, begins, ends)

pub chunk_lies : (size : Option ℕ) (n t i r iteration : ℕ) (c : Chunk) → static_chunk size n t i r ≡ Some c
    → c.first ≤ iteration → iteration < c.end → LiesIn size n t i r iteration
chunk_lies size n t i r iteration c e low high =
    subst (λ o. IsSomeAnd o (λ (chunk : Chunk). (chunk.first ≤ iteration) × (iteration < chunk.end))) (sym e) (low, high)

-- a schedule that gives a chunk has a chunk size
pub lies_sized : (size : Option ℕ) (n t i r iteration : ℕ) → LiesIn size n t i r iteration → IsChunkSize size
lies_sized None n t i r iteration h = tt
lies_sized (Some size) n t i r iteration h = by (round_robin n size t i r) refl h
  where
    by : (o : Option Chunk) → round_robin n size t i r ≡ o
        → IsSomeAnd o (λ (chunk : Chunk). (chunk.first ≤ iteration) × (iteration < chunk.end)) → 1 ≤ size
    by (Some c) e h = has_size n ((r * t + i) * size) size c e
    by None e h = absurd h
