-- Words that are appended one after the other.
use Rattle.std.proofs.Common.{◌≡◌, ℕ, suc, ◌+◌, ◌<◌, List, [], ◌∷◌, ◌++◌, length, map, take, get_or, sym, ◌∙◌, ap}
use Rattle.std.proofs.Common.{arith, append_assoc, append-nil, length-append, take-suc}
use Rattle.std.specs.Prelude.{Result, Ok, Err, OnErr}
use Rattle.std.proofs.lemmas.List.{take-take}
use Rattle.std.proofs.Math.Seq.{take-append_seam}
use Rattle.om_events.specs.declared.words.Word.{Word}
use Rattle.om_events.specs.Records.{spaced}
use Rattle.om_events.specs.Words.{word_text}

-- the text of words, each behind a space
abbrev pub text : List Word → List ℕ
text ws = spaced (map word_text ws)

text-push : (ws : List Word) (w : Word) → text (ws ++ w ∷ []) ≡ text ws ++ 32 ∷ word_text w
text-push [] w = ap (λ r. 32 ∷ r) (append-nil (word_text w))
text-push (v ∷ ws) w =
    ap (λ r. 32 ∷ (word_text v ++ r)) (text-push ws w)
    ∙ ap (λ r. 32 ∷ r) (sym (append_assoc (word_text v) (text ws) (32 ∷ word_text w)))

text-next : (ws : List Word) (k : ℕ) (w : Word) → k < length ws → w ≡ get_or ws k w
    → text (take (k + 1) ws) ≡ text (take k ws) ++ 32 ∷ word_text w
text-next ws k w l is =
    ap text (ap (λ n. take n ws) one_more ∙ take-suc ws k w l ∙ ap (λ v. take k ws ++ v ∷ []) (sym is))
    ∙ text-push (take k ws) w
  where
    one_more : k + 1 ≡ suc k
    one_more = omega arith

pub next_word : (old now more : List ℕ) (ws : List Word) (k : ℕ) (w : Word) → k < length ws → w ≡ get_or ws k w
    → now ≡ old ++ text (take k ws) → more ≡ now ++ 32 ∷ word_text w → more ≡ old ++ text (take (k + 1) ws)
next_word old now more ws k w l is h m =
    m ∙ ap (λ s. s ++ 32 ∷ word_text w) h
    ∙ append_assoc old (text (take k ws)) (32 ∷ word_text w)
    ∙ ap (λ s. old ++ s) (sym (text-next ws k w l is))

-- what stood before still stands at the front, where what stood behind it stays at the front
pub front_of : (old now added new : List ℕ) → now ≡ old ++ added → take (length now) new ≡ now → take (length old)
    new ≡ old
front_of old now added new h front =
    sym (take-take (length old) (length now) new (omega (arith, length-append old added, ap length h)))
    ∙ ap (take (length old)) (front ∙ h)
    ∙ take-append_seam old added

pub on_error : {T E P : Type 0} (r : Result T E) → P → OnErr r P
on_error (Ok v) p = tt
on_error (Err e) p = p
