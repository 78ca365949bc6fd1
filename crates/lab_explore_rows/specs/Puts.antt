-- An entry that is put at a place of a row.
use Rattle.std.specs.Prelude.{◌≡◌, ℕ, ◌<◌, ◌≤◌, List, length, slice_index}

pub record PutsAt (place entry : ℕ) (old new : List ℕ) : Type 0 where
  pub here : slice_index new place ≡ entry
  pub elsewhere : (i : ℕ) → (i ≡ place → ⊥) → slice_index new i ≡ slice_index old i
  pub short : (most : ℕ) → length old ≤ most → place < most → length new ≤ most
