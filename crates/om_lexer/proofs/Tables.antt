-- The tables of keywords and punctuators have each of them.
use Rattle.std.proofs.Common.{◌≡◌, ℕ, ◌<◌, ◌≤◌, Bool, true, cond, ltb, eqb, List, [], ◌∷◌, length, get_or, arith, lit<}
use Rattle.std.proofs.Common.{refl, sym, ap, ◌∙◌}
use Rattle.std.proofs.lemmas.Bool.{agree_below, agree_below_at, eqb-true}
use Rattle.std.proofs.lemmas.Bool.Decides.{nat_tests}
use Rattle.om_lexer.specs.declared.token.Keyword.{Keyword}
use Rattle.om_lexer.specs.declared.token.Keyword.TheVariants as keywords
use Rattle.om_lexer.specs.declared.token.Punctuator.{Punctuator}
use Rattle.om_lexer.specs.declared.token.Punctuator.TheVariants as punctuators
use Rattle.om_lexer.specs.Spellings.{punctuator_text}

-- the keywords, in the order of the table
unfoldable pub all_keywords : List Keyword
all_keywords =
    keywords.Auto ∷
    keywords.Break ∷
    keywords.Case ∷
    keywords.Char ∷
    keywords.Const ∷
    keywords.Continue ∷
    keywords.Default ∷
    keywords.Do ∷
    keywords.Double ∷
    keywords.Else ∷
    keywords.Enum ∷
    keywords.Extern ∷
    keywords.Float ∷
    keywords.For ∷
    keywords.Goto ∷
    keywords.If ∷
    keywords.Inline ∷
    keywords.Int ∷
    keywords.Long ∷
    keywords.Register ∷
    keywords.Restrict ∷
    keywords.Return ∷
    keywords.Short ∷
    keywords.Signed ∷
    keywords.Sizeof ∷
    keywords.Static ∷
    keywords.Struct ∷
    keywords.Switch ∷
    keywords.Typedef ∷
    keywords.Union ∷
    keywords.Unsigned ∷
    keywords.Void ∷
    keywords.Volatile ∷
    keywords.While ∷
    keywords.Alignas ∷
    keywords.Alignof ∷
    keywords.Atomic ∷
    keywords.Bool ∷
    keywords.Complex ∷
    keywords.Generic ∷
    keywords.Imaginary ∷
    keywords.Noreturn ∷
    keywords.StaticAssert ∷
    keywords.ThreadLocal ∷
    []

abbrev pub keyword_at : ℕ → Keyword
keyword_at i = get_or all_keywords i keywords.Auto

-- where a keyword stands in the table
pub record KeywordStands (k : Keyword) : Type 0 where
  pub index : ℕ
  pub inside : index < 44
  pub there : keyword_at index ≡ k

pub keyword_stands : (k : Keyword) → KeywordStands k
unfolding all_keywords
keyword_stands keywords.Auto = record { index = 0; inside = lit< tt; there = refl }
keyword_stands keywords.Break = record { index = 1; inside = lit< tt; there = refl }
keyword_stands keywords.Case = record { index = 2; inside = lit< tt; there = refl }
keyword_stands keywords.Char = record { index = 3; inside = lit< tt; there = refl }
keyword_stands keywords.Const = record { index = 4; inside = lit< tt; there = refl }
keyword_stands keywords.Continue = record { index = 5; inside = lit< tt; there = refl }
keyword_stands keywords.Default = record { index = 6; inside = lit< tt; there = refl }
keyword_stands keywords.Do = record { index = 7; inside = lit< tt; there = refl }
keyword_stands keywords.Double = record { index = 8; inside = lit< tt; there = refl }
keyword_stands keywords.Else = record { index = 9; inside = lit< tt; there = refl }
keyword_stands keywords.Enum = record { index = 10; inside = lit< tt; there = refl }
keyword_stands keywords.Extern = record { index = 11; inside = lit< tt; there = refl }
keyword_stands keywords.Float = record { index = 12; inside = lit< tt; there = refl }
keyword_stands keywords.For = record { index = 13; inside = lit< tt; there = refl }
keyword_stands keywords.Goto = record { index = 14; inside = lit< tt; there = refl }
keyword_stands keywords.If = record { index = 15; inside = lit< tt; there = refl }
keyword_stands keywords.Inline = record { index = 16; inside = lit< tt; there = refl }
keyword_stands keywords.Int = record { index = 17; inside = lit< tt; there = refl }
keyword_stands keywords.Long = record { index = 18; inside = lit< tt; there = refl }
keyword_stands keywords.Register = record { index = 19; inside = lit< tt; there = refl }
keyword_stands keywords.Restrict = record { index = 20; inside = lit< tt; there = refl }
keyword_stands keywords.Return = record { index = 21; inside = lit< tt; there = refl }
keyword_stands keywords.Short = record { index = 22; inside = lit< tt; there = refl }
keyword_stands keywords.Signed = record { index = 23; inside = lit< tt; there = refl }
keyword_stands keywords.Sizeof = record { index = 24; inside = lit< tt; there = refl }
keyword_stands keywords.Static = record { index = 25; inside = lit< tt; there = refl }
keyword_stands keywords.Struct = record { index = 26; inside = lit< tt; there = refl }
keyword_stands keywords.Switch = record { index = 27; inside = lit< tt; there = refl }
keyword_stands keywords.Typedef = record { index = 28; inside = lit< tt; there = refl }
keyword_stands keywords.Union = record { index = 29; inside = lit< tt; there = refl }
keyword_stands keywords.Unsigned = record { index = 30; inside = lit< tt; there = refl }
keyword_stands keywords.Void = record { index = 31; inside = lit< tt; there = refl }
keyword_stands keywords.Volatile = record { index = 32; inside = lit< tt; there = refl }
keyword_stands keywords.While = record { index = 33; inside = lit< tt; there = refl }
keyword_stands keywords.Alignas = record { index = 34; inside = lit< tt; there = refl }
keyword_stands keywords.Alignof = record { index = 35; inside = lit< tt; there = refl }
keyword_stands keywords.Atomic = record { index = 36; inside = lit< tt; there = refl }
keyword_stands keywords.Bool = record { index = 37; inside = lit< tt; there = refl }
keyword_stands keywords.Complex = record { index = 38; inside = lit< tt; there = refl }
keyword_stands keywords.Generic = record { index = 39; inside = lit< tt; there = refl }
keyword_stands keywords.Imaginary = record { index = 40; inside = lit< tt; there = refl }
keyword_stands keywords.Noreturn = record { index = 41; inside = lit< tt; there = refl }
keyword_stands keywords.StaticAssert = record { index = 42; inside = lit< tt; there = refl }
keyword_stands keywords.ThreadLocal = record { index = 43; inside = lit< tt; there = refl }

-- the punctuators, in the order of the table
unfoldable pub all_punctuators : List Punctuator
all_punctuators =
    punctuators.PlusEqual ∷
    punctuators.MinusEqual ∷
    punctuators.StarEqual ∷
    punctuators.SlashEqual ∷
    punctuators.PercentEqual ∷
    punctuators.EqualEqual ∷
    punctuators.BangEqual ∷
    punctuators.LessEqual ∷
    punctuators.GreaterEqual ∷
    punctuators.PlusPlus ∷
    punctuators.MinusMinus ∷
    punctuators.AndAnd ∷
    punctuators.OrOr ∷
    punctuators.OpenParen ∷
    punctuators.CloseParen ∷
    punctuators.OpenBracket ∷
    punctuators.CloseBracket ∷
    punctuators.OpenBrace ∷
    punctuators.CloseBrace ∷
    punctuators.Semicolon ∷
    punctuators.Comma ∷
    punctuators.Question ∷
    punctuators.Colon ∷
    punctuators.Equal ∷
    punctuators.Less ∷
    punctuators.Greater ∷
    punctuators.Plus ∷
    punctuators.Minus ∷
    punctuators.Star ∷
    punctuators.Slash ∷
    punctuators.Percent ∷
    punctuators.Bang ∷
    []

abbrev pub punctuator_at : ℕ → Punctuator
punctuator_at i = get_or all_punctuators i punctuators.OpenParen

-- where a punctuator stands in the table
pub record PunctuatorStands (p : Punctuator) : Type 0 where
  pub index : ℕ
  pub inside : index < 32
  pub there : punctuator_at index ≡ p

pub punctuator_stands : (p : Punctuator) → PunctuatorStands p
unfolding all_punctuators
punctuator_stands punctuators.PlusEqual = record { index = 0; inside = lit< tt; there = refl }
punctuator_stands punctuators.MinusEqual = record { index = 1; inside = lit< tt; there = refl }
punctuator_stands punctuators.StarEqual = record { index = 2; inside = lit< tt; there = refl }
punctuator_stands punctuators.SlashEqual = record { index = 3; inside = lit< tt; there = refl }
punctuator_stands punctuators.PercentEqual = record { index = 4; inside = lit< tt; there = refl }
punctuator_stands punctuators.EqualEqual = record { index = 5; inside = lit< tt; there = refl }
punctuator_stands punctuators.BangEqual = record { index = 6; inside = lit< tt; there = refl }
punctuator_stands punctuators.LessEqual = record { index = 7; inside = lit< tt; there = refl }
punctuator_stands punctuators.GreaterEqual = record { index = 8; inside = lit< tt; there = refl }
punctuator_stands punctuators.PlusPlus = record { index = 9; inside = lit< tt; there = refl }
punctuator_stands punctuators.MinusMinus = record { index = 10; inside = lit< tt; there = refl }
punctuator_stands punctuators.AndAnd = record { index = 11; inside = lit< tt; there = refl }
punctuator_stands punctuators.OrOr = record { index = 12; inside = lit< tt; there = refl }
punctuator_stands punctuators.OpenParen = record { index = 13; inside = lit< tt; there = refl }
punctuator_stands punctuators.CloseParen = record { index = 14; inside = lit< tt; there = refl }
punctuator_stands punctuators.OpenBracket = record { index = 15; inside = lit< tt; there = refl }
punctuator_stands punctuators.CloseBracket = record { index = 16; inside = lit< tt; there = refl }
punctuator_stands punctuators.OpenBrace = record { index = 17; inside = lit< tt; there = refl }
punctuator_stands punctuators.CloseBrace = record { index = 18; inside = lit< tt; there = refl }
punctuator_stands punctuators.Semicolon = record { index = 19; inside = lit< tt; there = refl }
punctuator_stands punctuators.Comma = record { index = 20; inside = lit< tt; there = refl }
punctuator_stands punctuators.Question = record { index = 21; inside = lit< tt; there = refl }
punctuator_stands punctuators.Colon = record { index = 22; inside = lit< tt; there = refl }
punctuator_stands punctuators.Equal = record { index = 23; inside = lit< tt; there = refl }
punctuator_stands punctuators.Less = record { index = 24; inside = lit< tt; there = refl }
punctuator_stands punctuators.Greater = record { index = 25; inside = lit< tt; there = refl }
punctuator_stands punctuators.Plus = record { index = 26; inside = lit< tt; there = refl }
punctuator_stands punctuators.Minus = record { index = 27; inside = lit< tt; there = refl }
punctuator_stands punctuators.Star = record { index = 28; inside = lit< tt; there = refl }
punctuator_stands punctuators.Slash = record { index = 29; inside = lit< tt; there = refl }
punctuator_stands punctuators.Percent = record { index = 30; inside = lit< tt; there = refl }
punctuator_stands punctuators.Bang = record { index = 31; inside = lit< tt; there = refl }

-- how long the punctuator at a place of the table is
pub width_at : (i : ℕ) → i < 32 → length (punctuator_text (punctuator_at i)) ≡ cond (ltb i 13) 2 1
unfolding all_punctuators
width_at i inside = eqb-true _ _ (agree_below_at (λ n. eqb (length (punctuator_text (punctuator_at n)))
    (cond (ltb n 13) 2 1)) (λ n. true) 32 i refl inside)

width : ℕ → ℕ
width i = cond (ltb i 13) 2 1

narrows : (i j : ℕ) → i ≤ j → width j ≤ width i
unfolding width
narrows i j later = grind (arith, nat_tests)

-- those that stand later are no longer
pub wide_first : (i j : ℕ) → i ≤ j → j < 32 → length (punctuator_text (punctuator_at j)) ≤ length
    (punctuator_text (punctuator_at i))
unfolding width
wide_first i j later inside = omega (arith, width_at i (omega arith), width_at j inside, narrows i j later)

-- what the table shows holds of every keyword, and of every punctuator
pub keywords_pass : (test : Keyword → Bool) → agree_below (λ n. test (keyword_at n)) (λ n. true) 44 ≡ true
    → (k : Keyword) → test k ≡ true
keywords_pass test checked k =
    let stands = keyword_stands k in
    ap test (sym stands.there) ∙ agree_below_at (λ n. test (keyword_at n)) (λ n. true) 44 stands.index checked
    stands.inside

pub punctuators_pass : (test : Punctuator → Bool) → agree_below (λ n. test (punctuator_at n)) (λ n. true) 32 ≡ true
    → (p : Punctuator) → test p ≡ true
punctuators_pass test checked p =
    let stands = punctuator_stands p in
    ap test (sym stands.there) ∙ agree_below_at (λ n. test (punctuator_at n)) (λ n. true) 32 stands.index checked
    stands.inside
