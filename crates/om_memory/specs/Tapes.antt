-- Tapes: the items of a stack from the top down, and those that were taken from it.
use Rattle.std.specs.Prelude.{Option, Some, None, List, ◌∷◌, ◌++◌, ℕ, take, drop, reverse}

pub record TapeView (T : Type 0) : Type 0 where
  -- what stands, the top first
  pub items : List T
  -- what was taken and not yet pushed over, the nearest first
  pub taken : List T

-- the tape of slots whose first `height` stand
abbrev pub tape_at : {T : Type 0} → ℕ → List T → TapeView T
tape_at height slots = record { items = reverse (take height slots); taken = drop height slots }

-- an item is pushed, over the nearest that was taken
abbrev pub pushed : {T : Type 0} → T → TapeView T → TapeView T
pushed x t = record { items = x ∷ t.items; taken = drop 1 t.taken }

-- a push is taken back, by the item that it lay over
abbrev pub unpushed : {T : Type 0} → Option T → TapeView T → TapeView T
unpushed None t = record { items = drop 1 t.items; taken = t.taken }
unpushed (Some x) t = record { items = drop 1 t.items; taken = x ∷ t.taken }

-- items are taken from the top
abbrev pub lowered : {T : Type 0} → ℕ → TapeView T → TapeView T
lowered n t = record { items = drop n t.items; taken = reverse (take n t.items) ++ t.taken }

-- items are put back
abbrev pub raised : {T : Type 0} → ℕ → TapeView T → TapeView T
raised n t = record { items = reverse (take n t.taken) ++ t.items; taken = drop n t.taken }

-- the top is taken, and an item left above it in its place
abbrev pub swapped_down : {T : Type 0} → T → TapeView T → TapeView T
swapped_down x t = record { items = drop 1 t.items; taken = x ∷ t.taken }

-- an item is put on the top in place of the nearest that was taken
abbrev pub swapped_up : {T : Type 0} → T → TapeView T → TapeView T
swapped_up x t = record { items = x ∷ t.items; taken = drop 1 t.taken }

-- an item is put in the place of the top one
abbrev pub exchanged : {T : Type 0} → T → TapeView T → TapeView T
exchanged x t = record { items = x ∷ drop 1 t.items; taken = t.taken }
