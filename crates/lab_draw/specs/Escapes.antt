-- Text in a page: what would be read as markup is escaped.
use Rattle.std.specs.Prelude.{ℕ, List, [], ◌∷◌, ◌++◌, ◌==◌, if◌then◌else◌, codes, decimal}

-- `&`, `<`, `>` and the single quote have names
abbrev pub escaped_byte : ℕ → List ℕ
escaped_byte b = if b == 38 then codes "&amp;" else if b == 60 then codes "&lt;" else if b == 62 then codes "&gt;" else
    if b == 39 then codes "&#39;" else b ∷ []

abbrev pub escaped : List ℕ → List ℕ
escaped [] = []
escaped (b ∷ bs) = escaped_byte b ++ escaped bs

-- an attribute whose value is a number
abbrev pub attribute_text : List ℕ → ℕ → List ℕ
attribute_text before number = before ++ decimal number ++ codes "'"
