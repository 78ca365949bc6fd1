-- What a word spells.
use Rattle.std.proofs.Common.{◌≡◌, ℕ, ◌<◌, true, false, cond, eqb, List, [], ◌∷◌, length, drop, nat_eq, codes, arith}
use Rattle.std.proofs.Common.{refl, sym, ap, subst, ◌∙◌, ⊎_elim, slice_index}
use Rattle.std.proofs.lemmas.Bool.{both_ways, cases_Bool, and_parts, eqb-true, cond-false}
use Rattle.std.proofs.lemmas.Bool.Decides.{nat_tests}
use Rattle.std.specs.List.{starts_with}
use Rattle.std.specs.Char.{is_ascii_digit, digit_value}
use Rattle.om_lexer.specs.declared.token.TokenKind.{TokenKind}
use Rattle.om_lexer.specs.declared.token.TokenKind.TheVariants as kinds
use Rattle.om_lexer.specs.declared.token.Keyword.{Keyword}
use Rattle.om_lexer.specs.declared.fault.FaultCode.TheVariants as codes
use Rattle.om_lexer.specs.Constants.{base_of, digits_of, IsConstant, IsWrongConstant}
use Rattle.om_lexer.specs.Spellings.{keyword_text}
use Rattle.om_lexer.specs.Tokens.{IsWord, Spells, IsWrongText}
use Rattle.om_lexer.proofs.Beginnings.{keyword_no_digit, no_word_punctuator}

-- a text that begins with a zero begins with a digit
begins_with_zero : (text more : List ℕ) → starts_with nat_eq text (48 ∷ more) ≡ true
    → is_ascii_digit (slice_index text 0) ≡ true
begins_with_zero [] more begins = absurd (both_ways _ refl begins)
begins_with_zero (b ∷ text) more begins =
    let zero_first : 48 ≡ b = eqb-true 48 b (and_parts (eqb 48 b) _ begins).0 in
    ap is_ascii_digit (sym zero_first)

decimal_digit : (b : ℕ) → digit_value b < 10 → is_ascii_digit b ≡ true
decimal_digit b small = grind (arith, nat_tests)

-- constants begin with a digit
pub constant_first : (text : List ℕ) (value : ℕ) → IsConstant text value → is_ascii_digit (slice_index text 0) ≡ true
unfolding base_of digits_of
constant_first text value constant =
    let hexadecimal = starts_with nat_eq text (codes "0x") in
    let octal = starts_with nat_eq text (codes "0") in
    ⊎_elim
    (begins_with_zero text (codes "x"))
    (λ no_hexadecimal. ⊎_elim
    (begins_with_zero text [])
    (λ no_octal.
    let digits : digits_of text ≡ text = cond-false hexadecimal (drop 2 text) text no_hexadecimal in
    let base : base_of text ≡ 10 = cond-false hexadecimal 16 (cond octal 8 10) no_hexadecimal ∙ cond-false octal 8
    10 no_octal in
    let small = constant.digits 0 0 constant.has_digits in
    decimal_digit (slice_index text 0) (subst (λ n. digit_value (slice_index text 0) < n) base
    (subst (λ t. digit_value (slice_index t 0) < base_of text) digits small)))
    (cases_Bool octal))
    (cases_Bool hexadecimal)

-- a word with a digit first that is no constant spells nothing
pub no_constant_spells_nothing : (text : List ℕ) → IsWord text → is_ascii_digit (slice_index text 0) ≡ true
    → IsWrongConstant text codes.BadToken → IsWrongText text codes.BadToken
no_constant_spells_nothing text word digit wrong = (spells, wrong) where
  spells : (kind : TokenKind) → Spells text kind → ⊥
  spells (kinds.Name name) s = both_ways _ s.1.no_digit_first digit
  spells (kinds.Constant value) s = wrong value s.0
  spells (kinds.Keyword k) s = both_ways _ (keyword_no_digit k) (ap (λ t. is_ascii_digit (slice_index t 0)) (sym s)
      ∙ digit)
  spells (kinds.Punctuator p) s = no_word_punctuator text p word s
  spells (kinds.Text characters) s = s
  spells kinds.DirectiveBegin s = s
  spells kinds.DirectiveEnd s = s
  spells kinds.End s = s

-- a long word that is no keyword and has no digit first spells nothing
pub long_word_spells_nothing : (text : List ℕ) → IsWord text → is_ascii_digit (slice_index text 0) ≡ false
    → ((k : Keyword) → text ≡ keyword_text k → ⊥) → 63 < length text → IsWrongText text codes.BadToken
long_word_spells_nothing text word no_digit no_keyword long = (spells, wrong) where
  wrong : (value : ℕ) → IsConstant text value → ⊥
  wrong value constant = both_ways _ no_digit (constant_first text value constant)

  spells : (kind : TokenKind) → Spells text kind → ⊥
  spells (kinds.Name name) s = omega (arith, s.1.short)
  spells (kinds.Constant value) s = wrong value s.0
  spells (kinds.Keyword k) s = no_keyword k s
  spells (kinds.Punctuator p) s = no_word_punctuator text p word s
  spells (kinds.Text characters) s = s
  spells kinds.DirectiveBegin s = s
  spells kinds.DirectiveEnd s = s
  spells kinds.End s = s
