-- A line, and what stands behind it.
use Rattle.std.proofs.Common.{◌≡◌, ℕ, Bool, true, false, cond, List, [], ◌∷◌, ◌++◌, sym, ap, ◌∙◌, codes, append_assoc, append-nil}
use Rattle.lab_text.specs.Tails.{fits_behind, tail_of}

pub no_tail : (text words : List ℕ) → fits_behind words ≡ false → text ≡ text ++ tail_of words
no_tail text words none = sym (append-nil text) ∙ ap (λ (b : Bool). text ++ cond b (codes " | " ++ words) []) (sym none)

pub a_tail : (text marked all words : List ℕ) → fits_behind words ≡ true → marked ≡ text ++ codes " | "
    → all ≡ marked ++ words → all ≡ text ++ tail_of words
a_tail text marked all words fits mark more =
    more ∙ ap (λ t. t ++ words) mark ∙ append_assoc text (codes " | ") words
    ∙ ap (λ (b : Bool). text ++ cond b (codes " | " ++ words) []) (sym fits)

pub noted : (line text all words : List ℕ) → text ≡ line ++ tail_of words → all ≡ text ++ 10 ∷ []
    → all ≡ line ++ tail_of words ++ 10 ∷ []
noted line text all words tail ended = ended ∙ ap (λ t. t ++ 10 ∷ []) tail
