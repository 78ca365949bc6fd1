-- Texts that are written in turn.
use Rattle.std.proofs.Common.{◌≡◌, ◌<◌, ◌+◌, ℕ, List, ◌∷◌, ◌++◌, sym, ap, ◌∙◌, append_assoc}
use Rattle.std.proofs.Common.{length, drop, get_or}
use Rattle.std.proofs.lemmas.List.{drop_more}
use Rattle.om_shell_commands.specs.Lists.{joined}

-- two texts that are appended in turn
pub appended_two : (old one two first second : List ℕ) → one ≡ old ++ first → two ≡ one ++ second → two ≡ old
    ++ (first ++ second)
appended_two old one two first second e f = f ∙ ap (λ t. t ++ second) e ∙ append_assoc old first second

-- one more of some items whose texts are written in turn
pub joined_next : {A : Type 0} (text : A → List ℕ) (now more all : List ℕ) (items : List A) (i : ℕ) (item : A)
    → i < length items → item ≡ get_or items i item → now ++ joined text (drop i items) ≡ all
    → more ≡ now ++ text item → more ++ joined text (drop (i + 1) items) ≡ all
joined_next text now more all items i item less is so_far added =
    ap (λ t. t ++ joined text (drop (i + 1) items)) added
    ∙ append_assoc now (text item) (joined text (drop (i + 1) items))
    ∙ ap (λ r. now ++ joined text r) (ap (λ x. x ∷ drop (i + 1) items) is ∙ sym (drop_more items i item less))
    ∙ so_far
