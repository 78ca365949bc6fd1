-- What the words of a line make it.
use Rattle.std.specs.Prelude.{ℕ, Bool, false, List, [], ◌∷◌, ◌==◌, if◌then◌else◌, codes}
use Rattle.std.specs.Str.{bytes_eq}
use Rattle.lab_macros.specs.declared.said.Kind.{Kind}
use Rattle.lab_macros.specs.declared.said.Kind.TheVariants.{Nothing, Plain, Repeated, Until}

-- a word that begins with `#`
abbrev pub begins_comment : List ℕ → Bool
begins_comment [] = false
begins_comment (byte ∷ bytes) = byte == 35

-- a command with a worker, an `x`, and one more word
abbrev pub is_repeated : List (List ℕ) → Bool
is_repeated (verb ∷ (worker ∷ (mark ∷ (count ∷ [])))) = bytes_eq mark (codes "x")
is_repeated _ = false

abbrev pub kind_of : List (List ℕ) → Kind
kind_of [] = Nothing
kind_of (first ∷ rest) = if begins_comment first then Nothing else (if bytes_eq first (codes "until") then Until else
    (if is_repeated (first ∷ rest) then Repeated else Plain))
