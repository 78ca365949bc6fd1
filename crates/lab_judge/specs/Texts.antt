-- Texts that may be missing.
use Rattle.std.specs.Prelude.{ℕ, List, Option, Vec, option_map}
use Rattle.std.specs.declared.alloc.Global.{Global}

-- the bytes of a text, where there is one
abbrev pub text_in : Option (Vec ℕ Global) → Option (List ℕ)
text_in text = option_map (λ (bytes : Vec ℕ Global). bytes.items) text
