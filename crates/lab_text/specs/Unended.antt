-- Where no line feed is found, and a line with the tail for its words: matter of proofs, for lab_notes too.
use Rattle.std.proofs.Common.{◌≡◌, ℕ, Bool, true, false, cond, not, ◌&&◌, ◌==◌, nat_lt, List, [], ◌∷◌, ◌++◌, Option, Some, None, length, refl, ap, ◌∙◌}
use Rattle.std.proofs.Common.{arith, codes, is_none}
use Rattle.std.proofs.Common.{ltb-false}
use Rattle.std.proofs.lemmas.List.Sums.{prefix_len-le-length}
use Rattle.std.specs.List.{position, position_or_len}
use Rattle.lab_text.specs.Tails.{IsNoted, fits_behind, tail_of, no_words, with_words}

none_case : (b : Bool) (m : ℕ) → None ≡ cond b (Some m) None → b ≡ false
none_case true m e = cc
none_case false m e = refl

pub position_none : (p : ℕ → Bool) (xs : List ℕ) → None ≡ position p xs → position_or_len p xs ≡ length xs
position_none p xs e =
    let none = ltb-false _ _ (none_case (nat_lt (position_or_len p xs) (length xs)) (position_or_len p xs) e) in
    let most = prefix_len-le-length (λ x. not (p x)) xs in
    omega arith

none_of : (b : Bool) (o : Option ℕ) → b && is_none o ≡ true → None ≡ o
none_of true None e = refl
none_of true (Some n) e = cc
none_of false o e = cc

-- a line with the tail for its words is a line as it is written
pub is_noted : (line words text : List ℕ) → text ≡ line ++ tail_of words ++ 10 ∷ [] → IsNoted line text
is_noted line words text e = by (fits_behind words) refl
  where
    tailed : (b : Bool) → fits_behind words ≡ b → text ≡ line ++ cond b (codes " | " ++ words) [] ++ 10 ∷ []
    tailed b f = e ∙ ap (λ (c : Bool). line ++ cond c (codes " | " ++ words) [] ++ 10 ∷ []) f

    by : (b : Bool) → fits_behind words ≡ b → IsNoted line text
    by true f = record {
      tail = codes " | " ++ words;
      is_tail = with_words words (position_none (λ byte. byte == 10) words
          (none_of (not (length words == 0)) (position (λ byte. byte == 10) words) f));
      is = tailed true f;
    }
    by false f = record { tail = []; is_tail = no_words; is = tailed false f }
