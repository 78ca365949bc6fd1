-- Which serials are in a set by blocks.
use Rattle.std.specs.Prelude.{◌≡◌, Bool, false, true, cond, ◌&&◌, nat_eq, nat_lt, ℕ, suc, ◌≤◌, ◌/◌, ◌%◌, ◌^◌, List, [], ◌∷◌, Option, None, Some}
use Rattle.std.specs.Ordering.{nat_cmp}
use Rattle.std.specs.Map.{lookup}
use Rattle.std.specs.BTreeMap.{is_at}
use Rattle.om_foot.specs.Offsets.{has_offset}

-- blocks: each block's number, and its bits
abbrev pub Numbered : Type 0
Numbered = List (ℕ × ℕ)

-- the block with a number
abbrev pub block_of : Numbered → ℕ → Option ℕ
block_of blocks number = lookup (is_at (nat_cmp number)) blocks

-- whether an offset is in a block, if it is there
abbrev pub is_offset : Option ℕ → ℕ → Bool
is_offset None k = false
is_offset (Some bits) k = has_offset bits k

-- whether a serial is in one of these blocks; each has 64 serials, and serials are below 2^64
abbrev pub in_older : Numbered → ℕ → Bool
in_older older s = nat_lt (s / 64) (2 ^ 58) && is_offset (block_of older (s / 64)) (s % 64)

-- whether it is in the block of a number
abbrev pub in_newest : ℕ → Option ℕ → ℕ → Bool
in_newest number newest s = nat_lt (s / 64) (2 ^ 58) && (nat_eq number (s / 64) && is_offset newest (s % 64))

-- the numbers of blocks rise, from a number on
abbrev pub AreRising : ℕ → Numbered → Type 0
AreRising low [] = Unit {0}
AreRising low (b ∷ bs) = (low ≤ b.0) × AreRising (suc b.0) bs

-- the newest block, and those before it
pub record BlocksView : Type 0 where
  pub older : Numbered
  pub number : ℕ
  pub newest : Option ℕ

-- no block has this number, or one above it
abbrev pub AreBefore : ℕ → Numbered → Type 0
AreBefore number older = (q : ℕ) → nat_lt q number ≡ false → block_of older q ≡ None

-- where there is no newest block, there is no older one
abbrev pub IsApart : Option ℕ → Numbered → Type 0
IsApart None older = (q : ℕ) → block_of older q ≡ None
IsApart (Some bits) older = Unit {0}

-- whether a serial is among them
abbrev pub has_in : BlocksView → ℕ → Bool
has_in b s = cond (in_newest b.number b.newest s) true (in_older b.older s)
