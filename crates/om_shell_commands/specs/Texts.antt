-- Texts that grow.
use Rattle.std.specs.Prelude.{◌≡◌, ℕ, List, ◌++◌, Vec}
use Rattle.std.specs.declared.alloc.Global.{Global}

-- these bytes are written behind a text, and the text before them stays
abbrev pub Writes : List ℕ → (old new : Vec ℕ Global) → Type 0
Writes bytes old new = new.items ≡ old.items ++ bytes
