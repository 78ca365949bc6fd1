-- Text literals: their characters are read one way.
use Rattle.std.proofs.Common.{◌≡◌, ℕ, ◌+◌, ◌<◌, ◌≤◌, List, [], ◌∷◌, ◌++◌, None, Some, length, arith, refl, sym, ap}
use Rattle.std.proofs.Common.{subst, ◌∙◌, ⊎_elim, append-nil, append_assoc, slice_index}
use Rattle.std.proofs.lemmas.Bool.{cases_lt}
use Rattle.om_lexer.specs.Texts.{escaped, IsCharacter, Characters, IsText}
use Rattle.om_lexer.proofs.Gaps.{byte_inside}

-- a letter of the source stands behind the backslash of an escape
pub escaped_letter : (letter c : ℕ) → escaped letter ≡ Some c → 0 < letter
unfolding escaped
escaped_letter letter c found =
    ⊎_elim (λ positive. positive) (λ none. let zero : letter ≡ 0 = omega (arith, none) in absurd
    (let both : None ≡ Some c = sym (ap escaped zero) ∙ found in cc)) (cases_lt 0 letter)

module _ (source : List ℕ) (from : ℕ) where
  pub quote_no_character : (c to : ℕ) → slice_index source from ≡ 34 → IsCharacter source from c to → ⊥
  quote_no_character c to quote character =
      ⊎_elim (λ plain. plain.2.1 (sym plain.1 ∙ quote)) (λ escape. omega (arith, quote, escape.0)) character

  character_one : (c d a b : ℕ) → IsCharacter source from c a → IsCharacter source from d b → (c ≡ d) × (a ≡ b)
  character_one c d a b x y =
      ⊎_elim
      (λ e. ⊎_elim (λ f. (sym e.1 ∙ f.1, e.3 ∙ sym f.3)) (λ f. absurd (e.2.2 (sym e.1 ∙ f.0))) y)
      (λ e. ⊎_elim (λ f. absurd (f.2.2 (sym f.1 ∙ e.0))) (λ f. let found : Some c ≡ Some d = sym e.1
      ∙ f.1 in (cc, e.2 ∙ sym f.2)) y)
      x

  character_moves : (c to : ℕ) → IsCharacter source from c to → from < to
  character_moves c to character = ⊎_elim (λ plain. omega (arith, plain.3)) (λ escape. omega (arith, escape.2))
      character

characters_one : (source : List ℕ) (from : ℕ) (cs ds : List ℕ) (a b : ℕ) → Characters source from cs a
    → Characters source from ds b → (cs ≡ ds) × (a ≡ b)
characters_one source from [] [] a b x y = (refl, x.1 ∙ sym y.1)
characters_one source from [] (d ∷ ds) a b x y = absurd (quote_no_character source from d y.0 x.0 y.1)
characters_one source from (c ∷ cs) [] a b x y = absurd (quote_no_character source from c x.0 y.0 x.1)
characters_one source from (c ∷ cs) (d ∷ ds) a b x y =
    let same = character_one source from c d x.0 y.0 x.1 y.1 in
    let rest = characters_one source y.0 cs ds a b (subst (λ n. Characters source n cs a) same.1 x.2) y.2 in
    ((λ i. same.0 i ∷ rest.0 i), rest.1)

pub text_one : (source : List ℕ) (from : ℕ) (cs ds : List ℕ) (a b : ℕ) → IsText source from cs a
    → IsText source from ds b → (cs ≡ ds) × (a ≡ b)
text_one source from cs ds a b x y = characters_one source (from + 1) cs ds a b x.1 y.1

characters_bound : (source : List ℕ) (from : ℕ) (cs : List ℕ) (to : ℕ) → Characters source from cs to → (from < to)
    × (to ≤ length source)
characters_bound source from [] to x = let there = byte_inside source from (omega (arith, x.0)) in
    (omega (arith, x.1), omega (arith, there, x.1))
characters_bound source from (c ∷ cs) to x =
    let moves = character_moves source from c x.0 x.1 in
    let rest = characters_bound source x.0 cs to x.2 in
    (omega (arith, moves, rest.0), rest.1)

pub text_bound : (source : List ℕ) (from : ℕ) (cs : List ℕ) (to : ℕ) → IsText source from cs to → (from < to)
    × (to ≤ length source)
text_bound source from cs to x = let rest = characters_bound source (from + 1) cs to x.1 in
    (omega (arith, rest.0), rest.1)

-- the characters up to a byte: what follows there makes them whole, and every text goes on there
pub record IsReadFrom (source : List ℕ) (from next : ℕ) (characters : List ℕ) : Type 0 where
  pub made : (rest : List ℕ) (to : ℕ) → Characters source next rest to → Characters source from (characters ++ rest) to
  pub only : (all : List ℕ) (to : ℕ) → Characters source from all to → (rest : List ℕ) × Characters source next rest to

pub none_read : (source : List ℕ) (from : ℕ) → IsReadFrom source from from []
none_read source from = record { made = λ rest to h. h; only = λ all to h. (all, h) }

rest_more : (source : List ℕ) (next end c to : ℕ) → (slice_index source next ≡ 34 → ⊥) → IsCharacter source next c
    end → (rest : List ℕ) → Characters source next rest to → (others : List ℕ) × Characters source end others to
rest_more source next end c to no_quote is_character [] there = absurd (no_quote there.0)
rest_more source next end c to no_quote is_character (d ∷ ds) there =
    let same = character_one source next c d end there.0 is_character there.1 in
    (ds, subst (λ n. Characters source n ds to) (sym same.1) there.2)

pub read_character : (source : List ℕ) (from next end c : ℕ) (characters : List ℕ)
    → (slice_index source next ≡ 34 → ⊥) → IsCharacter source next c end → IsReadFrom source from next characters
    → IsReadFrom source from end (characters ++ c ∷ [])
read_character source from next end c characters no_quote is_character read = record {
  made = λ rest to h. subst (λ cs. Characters source from cs to) (sym (append_assoc characters (c ∷ []) rest))
      (read.made (c ∷ rest) to (end, is_character, h));
  only = λ all to h. let there = read.only all to h in rest_more source next end c to no_quote is_character there.0
      there.1;
}

pub all_characters : (source : List ℕ) (from next : ℕ) (characters : List ℕ) → slice_index source next ≡ 34
    → IsReadFrom source from next characters → Characters source from characters (next + 1)
all_characters source from next characters quote read = subst (λ cs. Characters source from cs (next + 1))
    (append-nil characters) (read.made [] (next + 1) (quote, refl))

no_rest : (source : List ℕ) (next to : ℕ) → (slice_index source next ≡ 34 → ⊥)
    → ((c end : ℕ) → IsCharacter source next c end → ⊥) → (rest : List ℕ) → Characters source next rest to → ⊥
no_rest source next to no_quote no_character [] there = no_quote there.0
no_rest source next to no_quote no_character (c ∷ rest) there = no_character c there.0 there.1

pub no_characters : (source : List ℕ) (from next : ℕ) (characters : List ℕ) → (slice_index source next ≡ 34 → ⊥)
    → ((c end : ℕ) → IsCharacter source next c end → ⊥) → IsReadFrom source from next characters
    → (all : List ℕ) (to : ℕ) → Characters source from all to → ⊥
no_characters source from next characters no_quote no_character read all to h = let there = read.only all to h in
    no_rest source next to no_quote no_character there.0 there.1
