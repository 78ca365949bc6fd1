-- With which bytes tokens begin.
use Rattle.std.proofs.Common.{◌≡◌, ℕ, ◌-◌, ◌<◌, ◌⊎◌, min, Bool, true, false, not, ◌||◌, ◌==◌, ltb, List, length, take}
use Rattle.std.proofs.Common.{drop, get_or, arith, refl, ap, subst, ◌∙◌, ⊎_elim, inl, inr, add-zero, length-take}
use Rattle.std.proofs.Common.{get_or-take, get_or-drop, slice_index, slice_range}
use Rattle.std.proofs.lemmas.Bool.{both_ways, or_cases, or_left, eqb-true, ltb-true, not-true, not_from_true}
use Rattle.std.proofs.lemmas.Bool.{false_from_ne_true}
use Rattle.std.specs.Char.{is_ascii_digit}
use Rattle.om_lexer.specs.declared.token.Keyword.{Keyword}
use Rattle.om_lexer.specs.declared.token.Punctuator.{Punctuator}
use Rattle.om_lexer.specs.Characters.{is_word_byte, is_blank}
use Rattle.om_lexer.specs.Spellings.{keyword_text, punctuator_text}
use Rattle.om_lexer.specs.Tokens.{IsWord, CouldBeToken}
use Rattle.om_lexer.proofs.Tables.{all_keywords, all_punctuators, keywords_pass, punctuators_pass}

-- a byte that begins no white space, no `#` line and no text
pub record IsApart (b : ℕ) : Type 0 where
  pub no_line_feed : b ≡ 10 → ⊥
  pub no_blank : is_blank b ≡ true → ⊥
  pub no_backslash : b ≡ 92 → ⊥
  pub no_hash : b ≡ 35 → ⊥
  pub no_quote : b ≡ 34 → ⊥

blank_cases : (b : ℕ) → is_blank b ≡ true → ((b ≡ 32) ⊎ (b ≡ 9)) ⊎ (b ≡ 13)
unfolding is_blank
blank_cases b blank =
    ⊎_elim
    (λ first. inl (⊎_elim (λ e. inl (eqb-true b 32 e)) (λ e. inr (eqb-true b 9 e)) (or_cases (b == 32) (b == 9) first)))
    (λ e. inr (eqb-true b 13 e))
    (or_cases (b == 32 || b == 9) (b == 13) blank)

refuted : (test : ℕ → Bool) (b n : ℕ) → test n ≡ false → test b ≡ true → b ≡ n → ⊥
refuted test b n fails passes same = both_ways (test b) (ap test same ∙ fails) passes

-- what passes a test that those bytes fail is apart from them
apart_from_test : (test : ℕ → Bool) (b : ℕ) → test 10 ≡ false → test 32 ≡ false → test 9 ≡ false → test 13 ≡ false
    → test 92 ≡ false → test 35 ≡ false → test 34 ≡ false → test b ≡ true → IsApart b
apart_from_test test b line_feed space tab return backslash hash quote passes = record {
  no_line_feed = refuted test b 10 line_feed passes;
  no_blank = λ blank. ⊎_elim (⊎_elim (refuted test b 32 space passes) (refuted test b 9 tab passes))
      (refuted test b 13 return passes) (blank_cases b blank);
  no_backslash = refuted test b 92 backslash passes;
  no_hash = refuted test b 35 hash passes;
  no_quote = refuted test b 34 quote passes;
}

pub word_apart : (b : ℕ) → is_word_byte b ≡ true → IsApart b
unfolding is_word_byte
word_apart b = apart_from_test is_word_byte b refl refl refl refl refl refl refl

-- no comment begins with a byte of a word
pub word_no_slash : (b : ℕ) → is_word_byte b ≡ true → b ≡ 47 → ⊥
unfolding is_word_byte
word_no_slash b = refuted is_word_byte b 47 refl

-- no word, no white space, no `#` line and no text begins with this byte
unfoldable is_other : ℕ → Bool
is_other b = not (((((is_word_byte b || is_blank b) || b == 10) || b == 92) || b == 35) || b == 34)

punctuator_other : (p : Punctuator) → is_other (slice_index (punctuator_text p) 0) ≡ true
unfolding all_punctuators is_other is_word_byte is_blank
punctuator_other = punctuators_pass (λ p. is_other (slice_index (punctuator_text p) 0)) refl

other_apart : (b : ℕ) → is_other b ≡ true → IsApart b
unfolding is_other is_word_byte is_blank
other_apart b = apart_from_test is_other b refl refl refl refl refl refl refl

other_no_word : (b : ℕ) → is_other b ≡ true → is_word_byte b ≡ false
unfolding is_other
other_no_word b other = false_from_ne_true _
    (λ word. both_ways (is_other b)
    (not_from_true _ (or_left _ _ (or_left _ _ (or_left _ _ (or_left _ _ (or_left _ _ word)))))) other)

pub punctuator_long : (p : Punctuator) → 0 < length (punctuator_text p)
unfolding all_punctuators
punctuator_long p = ltb-true 0 _ (punctuators_pass (λ p. ltb 0 (length (punctuator_text p))) refl p)

-- the first byte of a slice that has one
pub first_of_slice : (source : List ℕ) (from to : ℕ) → 0 < length (slice_range source from to)
    → slice_index (slice_range source from to) 0 ≡ slice_index source from
first_of_slice source from to some =
    let long : length (take (to - from) (drop from source)) ≡ min (to - from) (length (drop from source)) =
    length-take (to - from) (drop from source) in
    let positive : 0 < to - from = omega (arith, long, some) in
    get_or-take (to - from) (drop from source) 0 0 positive ∙ get_or-drop from source 0 0
    ∙ ap (λ k. get_or source k 0) (add-zero from)

-- what could be a token has a byte, and its first byte is apart
pub could_be_some : (text : List ℕ) → CouldBeToken text → 0 < length text
could_be_some text (inl word) = word.some
could_be_some text (inr p) = let long = punctuator_long p.0 in omega (arith, long, ap length p.1)

could_be_apart : (text : List ℕ) → CouldBeToken text → IsApart (slice_index text 0)
could_be_apart text (inl word) = word_apart _ (word.word_bytes 0 0 word.some)
could_be_apart text (inr p) = other_apart _ (ap (λ t. is_other (slice_index t 0)) p.1 ∙ punctuator_other p.0)

pub token_apart : (source : List ℕ) (from to : ℕ) → CouldBeToken (slice_range source from to)
    → IsApart (slice_index source from)
token_apart source from to could_be = subst IsApart (first_of_slice source from to (could_be_some _ could_be))
    (could_be_apart _ could_be)

-- a punctuator begins with no byte of a word
pub punctuator_no_word : (text : List ℕ) (p : Punctuator) → text ≡ punctuator_text p
    → is_word_byte (slice_index text 0) ≡ false
punctuator_no_word text p same = other_no_word _ (ap (λ t. is_other (slice_index t 0)) same ∙ punctuator_other p)

-- a text that could be a token and begins with a byte of a word is a word
pub word_from_first : (text : List ℕ) → CouldBeToken text → is_word_byte (slice_index text 0) ≡ true → IsWord text
word_from_first text (inl word) first = word
word_from_first text (inr p) first = absurd (both_ways _ (punctuator_no_word text p.0 p.1) first)

-- .. and else a punctuator
pub punctuator_from_first : (text : List ℕ) → CouldBeToken text → is_word_byte (slice_index text 0) ≡ false
    → (p : Punctuator) × (text ≡ punctuator_text p)
punctuator_from_first text (inl word) first = absurd (both_ways _ first (word.word_bytes 0 0 word.some))
punctuator_from_first text (inr p) first = p

pub no_word_punctuator : (text : List ℕ) (p : Punctuator) → IsWord text → text ≡ punctuator_text p → ⊥
no_word_punctuator text p word same = both_ways _ (punctuator_no_word text p same) (word.word_bytes 0 0 word.some)

-- a byte that is no blank
pub no_blank_at : (b n : ℕ) → b ≡ n → is_blank n ≡ false → is_blank b ≡ true → ⊥
no_blank_at b n same no_blank blank = both_ways _ (ap is_blank same ∙ no_blank) blank

-- no keyword begins with a digit
pub keyword_no_digit : (k : Keyword) → is_ascii_digit (slice_index (keyword_text k) 0) ≡ false
unfolding all_keywords
keyword_no_digit k = not-true _ (keywords_pass (λ k. not (is_ascii_digit (slice_index (keyword_text k) 0))) refl k)
