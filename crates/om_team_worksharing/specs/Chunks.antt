-- The iterations of a loop, and the chunks in which they are shared out (OpenMP 5.2, 4.4.2 and 11.5.3).
use Rattle.std.specs.Prelude.{◌≡◌, ◌↔◌, ℕ, ◌+◌, ◌-◌, ◌*◌, ◌/◌, ◌%◌, ◌<◌, ◌≤◌, ℤ, pos, negsuc, ◌-ℤ◌, neg_ℤ}
use Rattle.std.specs.Prelude.{nat_lt, nat_eq, ◌&&◌, min, if◌then◌else◌, Option, None, Some, IsSomeAnd, IfSome}
use Rattle.om_code.specs.declared.instruction.Comparison.{Comparison}
use Rattle.om_code.specs.declared.instruction.Comparison.TheVariants.{Less, LessOrEqual, Greater, GreaterOrEqual}
use Rattle.om_team_worksharing.specs.declared.chunk.Chunk.{Chunk}

-- a number that is not below 0, else 0
abbrev pub upwards : ℤ → ℕ
upwards (pos n) = n
upwards (negsuc n) = 0

-- the size of a step in the direction of its comparison, and 0 where it has another direction
abbrev pub step_size : Comparison → ℤ → ℕ
step_size Less step = upwards step
step_size LessOrEqual step = upwards step
step_size Greater step = upwards (neg_ℤ step)
step_size GreaterOrEqual step = upwards (neg_ℤ step)

-- how many steps of this size there are in a distance, the last one perhaps in part
abbrev pub rounded_up : ℤ → ℕ → ℕ
rounded_up (pos n) step = (n + (step - 1)) / step
rounded_up (negsuc n) step = 0

-- how many whole steps of this size there are in a distance, and one more: none where it is below 0
abbrev pub rounded_down : ℤ → ℕ → ℕ
rounded_down (pos n) step = n / step + 1
rounded_down (negsuc n) step = 0

-- how many iterations a loop has, by its bounds and the size of its step
abbrev pub count_of : Comparison → ℤ → ℤ → ℕ → ℕ
count_of Less lower upper step = rounded_up (upper -ℤ lower) step
count_of LessOrEqual lower upper step = rounded_down (upper -ℤ lower) step
count_of Greater lower upper step = rounded_up (lower -ℤ upper) step
count_of GreaterOrEqual lower upper step = rounded_down (lower -ℤ upper) step

-- so many iterations from the first on, cut at n; none where none is left
abbrev pub chunk_within : ℕ → ℕ → ℕ → Option Chunk
chunk_within n first size = if nat_lt 0 size && nat_lt first n then Some
    (record { first = first; end = min (first + size) n }) else None

-- the r-th chunk, from 0, of thread i of t, where chunks of this size go round by thread number
abbrev pub round_robin : ℕ → ℕ → ℕ → ℕ → ℕ → Option Chunk
round_robin n size t i r = chunk_within n ((r * t + i) * size) size

-- how many iterations thread i of t has in one block, where the first n mod t threads have one more than the others
abbrev pub block_size : ℕ → ℕ → ℕ → ℕ
block_size n t i = if nat_lt i (n % t) then n / t + 1 else n / t

-- where it begins
abbrev pub block_start : ℕ → ℕ → ℕ → ℕ
block_start n t i = i * (n / t) + min i (n % t)

-- the block of thread i of t
abbrev pub block : ℕ → ℕ → ℕ → Option Chunk
block n t i = chunk_within n (block_start n t i) (block_size n t i)

-- the r-th chunk of thread i of t under a static schedule, by its chunk size; without one a thread has one block
abbrev pub static_chunk : Option ℕ → ℕ → ℕ → ℕ → ℕ → Option Chunk
static_chunk None n t i r = if nat_eq r 0 then block n t i else None
static_chunk (Some size) n t i r = round_robin n size t i r

-- a chunk size, where there is one, is at least 1
abbrev pub IsChunkSize : Option ℕ → Type 0
IsChunkSize size = IfSome size (λ s. 1 ≤ s)

-- an iteration lies in the r-th chunk of thread i of t
abbrev pub LiesIn : Option ℕ → ℕ → ℕ → ℕ → ℕ → ℕ → Type 0
LiesIn size n t i r iteration = IsSomeAnd (static_chunk size n t i r) (λ chunk. (chunk.first ≤ iteration)
    × (iteration < chunk.end))

-- OpenMP 5.2, 11.5.3: a static schedule parts the n iterations of a loop among t threads, and each thread's into chunks
pub record IsPartition (size : Option ℕ) (n t : ℕ) : Type 0 where
  -- a chunk holds iterations below n only
  pub within : (i r iteration : ℕ) → i < t → LiesIn size n t i r iteration → iteration < n
  -- each iteration below n lies in a chunk of a thread
  pub some : (iteration : ℕ) → iteration < n → (i : ℕ) × (r : ℕ) × (i < t) × LiesIn size n t i r iteration
  -- it lies in no other chunk, and in none of another thread
  pub one : (i r j s iteration : ℕ) → i < t → j < t → LiesIn size n t i r iteration → LiesIn size n t j s iteration
      → (i ≡ j) × (r ≡ s)

-- OpenMP 5.2, 11.5.3: whose iterations they are. Chunks of a size go round by thread number; without one,
-- each thread has its block
pub record AreShares (n t : ℕ) : Type 0 where
  pub round : (size i r iteration : ℕ) → 1 ≤ size → i < t → LiesIn (Some size) n t i r iteration
      ↔ ((iteration < n) × (iteration / size ≡ r * t + i))
  pub whole : (i r iteration : ℕ) → i < t → LiesIn None n t i r iteration
      ↔ ((r ≡ 0) × (block_start n t i ≤ iteration) × (iteration < block_start n t i + block_size n t i))
