-- A text spells one token at most, and one piece at most stands at a byte.
use Rattle.std.proofs.Common.{◌≡◌, ℕ, ◌<◌, true, false, List, Some, arith, refl, sym, ap, subst, ◌∙◌, ⊎_elim}
use Rattle.std.proofs.Common.{slice_index, slice_range}
use Rattle.std.proofs.lemmas.Bool.{both_ways, or_left}
use Rattle.std.specs.List.{find}
use Rattle.std.specs.Str.{bytes_eq}
use Rattle.std.specs.Char.{is_ascii_digit}
use Rattle.om_lexer.specs.declared.token.TokenKind.{TokenKind}
use Rattle.om_lexer.specs.declared.token.TokenKind.TheVariants as kinds
use Rattle.om_lexer.specs.declared.token.Keyword.{Keyword}
use Rattle.om_lexer.specs.declared.token.Keyword.TheVariants as keywords
use Rattle.om_lexer.specs.declared.token.Punctuator.{Punctuator}
use Rattle.om_lexer.specs.declared.token.Punctuator.TheVariants as punctuators
use Rattle.om_lexer.specs.declared.piece.Piece.{Piece}
use Rattle.om_lexer.specs.declared.piece.PieceKind.{PieceKind}
use Rattle.om_lexer.specs.declared.piece.PieceKind.TheVariants as pieces
use Rattle.om_lexer.specs.declared.piece.HashLine.{HashLine}
use Rattle.om_lexer.specs.declared.piece.LineState.{LineState}
use Rattle.om_lexer.specs.declared.piece.LineState.TheVariants as states
use Rattle.om_lexer.specs.Characters.{is_word_byte, is_blank}
use Rattle.om_lexer.specs.Constants.{IsConstant}
use Rattle.om_lexer.specs.Spellings.{keyword_text, punctuator_text}
use Rattle.om_lexer.specs.WhiteSpace.{IsWhiteSpace}
use Rattle.om_lexer.specs.Tokens.{IsName, Spells, IsLongest, IsSpelled, IsToken, IsTooLarge}
use Rattle.om_lexer.specs.HashLines.{IsHashLine}
use Rattle.om_lexer.specs.Pieces.{Context, is_fresh, is_ignored, IsPiece, Stands}
use Rattle.om_lexer.proofs.Tables.{all_keywords, all_punctuators, keywords_pass}
use Rattle.om_lexer.proofs.Beginnings.{IsApart, token_apart, keyword_no_digit, no_word_punctuator, punctuator_no_word}
use Rattle.om_lexer.proofs.Gaps.{no_white, white_one, comment_begins}
use Rattle.om_lexer.proofs.Quotes.{text_one}
use Rattle.om_lexer.proofs.HashLines.{line_hash, line_one}
use Rattle.om_lexer.proofs.Longest.{longest_one}
use Rattle.om_lexer.proofs.Words.{constant_first}

-- ---- spellings

keyword_found : (k : Keyword) → find (λ j. bytes_eq (keyword_text j) (keyword_text k)) all_keywords ≡ Some k
unfolding all_keywords
keyword_found keywords.Auto = refl
keyword_found keywords.Break = refl
keyword_found keywords.Case = refl
keyword_found keywords.Char = refl
keyword_found keywords.Const = refl
keyword_found keywords.Continue = refl
keyword_found keywords.Default = refl
keyword_found keywords.Do = refl
keyword_found keywords.Double = refl
keyword_found keywords.Else = refl
keyword_found keywords.Enum = refl
keyword_found keywords.Extern = refl
keyword_found keywords.Float = refl
keyword_found keywords.For = refl
keyword_found keywords.Goto = refl
keyword_found keywords.If = refl
keyword_found keywords.Inline = refl
keyword_found keywords.Int = refl
keyword_found keywords.Long = refl
keyword_found keywords.Register = refl
keyword_found keywords.Restrict = refl
keyword_found keywords.Return = refl
keyword_found keywords.Short = refl
keyword_found keywords.Signed = refl
keyword_found keywords.Sizeof = refl
keyword_found keywords.Static = refl
keyword_found keywords.Struct = refl
keyword_found keywords.Switch = refl
keyword_found keywords.Typedef = refl
keyword_found keywords.Union = refl
keyword_found keywords.Unsigned = refl
keyword_found keywords.Void = refl
keyword_found keywords.Volatile = refl
keyword_found keywords.While = refl
keyword_found keywords.Alignas = refl
keyword_found keywords.Alignof = refl
keyword_found keywords.Atomic = refl
keyword_found keywords.Bool = refl
keyword_found keywords.Complex = refl
keyword_found keywords.Generic = refl
keyword_found keywords.Imaginary = refl
keyword_found keywords.Noreturn = refl
keyword_found keywords.StaticAssert = refl
keyword_found keywords.ThreadLocal = refl

keyword_one : (k l : Keyword) → keyword_text k ≡ keyword_text l → k ≡ l
keyword_one k l same =
    let found : Some k ≡ Some l = sym (keyword_found k) ∙ ap (λ text. find (λ j. bytes_eq (keyword_text j) text)
    all_keywords) same ∙ keyword_found l in
    cc

punctuator_found : (p : Punctuator) → find (λ q. bytes_eq (punctuator_text q) (punctuator_text p)) all_punctuators
    ≡ Some p
unfolding all_punctuators
punctuator_found punctuators.OpenParen = refl
punctuator_found punctuators.CloseParen = refl
punctuator_found punctuators.OpenBracket = refl
punctuator_found punctuators.CloseBracket = refl
punctuator_found punctuators.OpenBrace = refl
punctuator_found punctuators.CloseBrace = refl
punctuator_found punctuators.Semicolon = refl
punctuator_found punctuators.Comma = refl
punctuator_found punctuators.Question = refl
punctuator_found punctuators.Colon = refl
punctuator_found punctuators.Equal = refl
punctuator_found punctuators.PlusEqual = refl
punctuator_found punctuators.MinusEqual = refl
punctuator_found punctuators.StarEqual = refl
punctuator_found punctuators.SlashEqual = refl
punctuator_found punctuators.PercentEqual = refl
punctuator_found punctuators.EqualEqual = refl
punctuator_found punctuators.BangEqual = refl
punctuator_found punctuators.Less = refl
punctuator_found punctuators.Greater = refl
punctuator_found punctuators.LessEqual = refl
punctuator_found punctuators.GreaterEqual = refl
punctuator_found punctuators.Plus = refl
punctuator_found punctuators.Minus = refl
punctuator_found punctuators.Star = refl
punctuator_found punctuators.Slash = refl
punctuator_found punctuators.Percent = refl
punctuator_found punctuators.Bang = refl
punctuator_found punctuators.PlusPlus = refl
punctuator_found punctuators.MinusMinus = refl
punctuator_found punctuators.AndAnd = refl
punctuator_found punctuators.OrOr = refl

punctuator_one : (p q : Punctuator) → punctuator_text p ≡ punctuator_text q → p ≡ q
punctuator_one p q same =
    let found : Some p ≡ Some q = sym (punctuator_found p)
    ∙ ap (λ text. find (λ r. bytes_eq (punctuator_text r) text) all_punctuators) same ∙ punctuator_found q in
    cc

digit_word : (b : ℕ) → is_ascii_digit b ≡ true → is_word_byte b ≡ true
unfolding is_word_byte
digit_word b digit = or_left _ _ (or_left _ _ (or_left _ _ digit))

keyword_word : (k : Keyword) → is_word_byte (slice_index (keyword_text k) 0) ≡ true
unfolding all_keywords is_word_byte
keyword_word = keywords_pass (λ k. is_word_byte (slice_index (keyword_text k) 0)) refl

name_constant : (text : List ℕ) (value : ℕ) → IsName text → IsConstant text value → ⊥
name_constant text value name constant = both_ways _ name.no_digit_first (constant_first text value constant)

keyword_constant : (text : List ℕ) (k : Keyword) (value : ℕ) → text ≡ keyword_text k → IsConstant text value → ⊥
keyword_constant text k value keyword constant = both_ways _ (keyword_no_digit k)
    (ap (λ t. is_ascii_digit (slice_index t 0)) (sym keyword) ∙ constant_first text value constant)

constant_punctuator : (text : List ℕ) (value : ℕ) (p : Punctuator) → IsConstant text value → text ≡ punctuator_text
    p → ⊥
constant_punctuator text value p constant same = both_ways _ (punctuator_no_word text p same)
    (digit_word _ (constant_first text value constant))

keyword_punctuator : (text : List ℕ) (k : Keyword) (p : Punctuator) → text ≡ keyword_text k → text ≡ punctuator_text
    p → ⊥
keyword_punctuator text k p keyword punctuator = both_ways _ (punctuator_no_word text p punctuator)
    (ap (λ t. is_word_byte (slice_index t 0)) keyword ∙ keyword_word k)

pub spells_one : (text : List ℕ) (k l : TokenKind) → Spells text k → Spells text l → k ≡ l
spells_one text (kinds.Name n) (kinds.Name m) s t = ap kinds.Name (s.0 ∙ sym t.0)
spells_one text (kinds.Name n) (kinds.Constant w) s t = absurd (name_constant text w s.1 t.0)
spells_one text (kinds.Name n) (kinds.Keyword l) s t = absurd (s.1.no_keyword l t)
spells_one text (kinds.Name n) (kinds.Punctuator q) s t = absurd (no_word_punctuator text q s.1.word t)
spells_one text (kinds.Constant v) (kinds.Name m) s t = absurd (name_constant text v t.1 s.0)
spells_one text (kinds.Constant v) (kinds.Constant w) s t = ap kinds.Constant (s.0.value_is ∙ sym t.0.value_is)
spells_one text (kinds.Constant v) (kinds.Keyword l) s t = absurd (keyword_constant text l v t s.0)
spells_one text (kinds.Constant v) (kinds.Punctuator q) s t = absurd (constant_punctuator text v q s.0 t)
spells_one text (kinds.Keyword k) (kinds.Name m) s t = absurd (t.1.no_keyword k s)
spells_one text (kinds.Keyword k) (kinds.Constant w) s t = absurd (keyword_constant text k w s t.0)
spells_one text (kinds.Keyword k) (kinds.Keyword l) s t = ap kinds.Keyword (keyword_one k l (sym s ∙ t))
spells_one text (kinds.Keyword k) (kinds.Punctuator q) s t = absurd (keyword_punctuator text k q s t)
spells_one text (kinds.Punctuator p) (kinds.Name m) s t = absurd (no_word_punctuator text p t.1.word s)
spells_one text (kinds.Punctuator p) (kinds.Constant w) s t = absurd (constant_punctuator text w p t.0 s)
spells_one text (kinds.Punctuator p) (kinds.Keyword l) s t = absurd (keyword_punctuator text l p t s)
spells_one text (kinds.Punctuator p) (kinds.Punctuator q) s t = ap kinds.Punctuator (punctuator_one p q (sym s ∙ t))
spells_one text (kinds.Text c) l s t = absurd s
spells_one text kinds.DirectiveBegin l s t = absurd s
spells_one text kinds.DirectiveEnd l s t = absurd s
spells_one text kinds.End l s t = absurd s
spells_one text (kinds.Name n) (kinds.Text c) s t = absurd t
spells_one text (kinds.Name n) kinds.DirectiveBegin s t = absurd t
spells_one text (kinds.Name n) kinds.DirectiveEnd s t = absurd t
spells_one text (kinds.Name n) kinds.End s t = absurd t
spells_one text (kinds.Constant v) (kinds.Text c) s t = absurd t
spells_one text (kinds.Constant v) kinds.DirectiveBegin s t = absurd t
spells_one text (kinds.Constant v) kinds.DirectiveEnd s t = absurd t
spells_one text (kinds.Constant v) kinds.End s t = absurd t
spells_one text (kinds.Keyword k) (kinds.Text c) s t = absurd t
spells_one text (kinds.Keyword k) kinds.DirectiveBegin s t = absurd t
spells_one text (kinds.Keyword k) kinds.DirectiveEnd s t = absurd t
spells_one text (kinds.Keyword k) kinds.End s t = absurd t
spells_one text (kinds.Punctuator p) (kinds.Text c) s t = absurd t
spells_one text (kinds.Punctuator p) kinds.DirectiveBegin s t = absurd t
spells_one text (kinds.Punctuator p) kinds.DirectiveEnd s t = absurd t
spells_one text (kinds.Punctuator p) kinds.End s t = absurd t

-- a constant above the limit spells no token
large_spells_nothing : (text : List ℕ) (value : ℕ) (k : TokenKind) → IsConstant text value → 2147483647 < value
    → Spells text k → ⊥
large_spells_nothing text value (kinds.Name n) constant large s = name_constant text value s.1 constant
large_spells_nothing text value (kinds.Constant w) constant large s = omega (
  arith,
  constant.value_is,
  s.0.value_is,
  s.1,
)
large_spells_nothing text value (kinds.Keyword k) constant large s = keyword_constant text k value s constant
large_spells_nothing text value (kinds.Punctuator p) constant large s = constant_punctuator text value p constant s
large_spells_nothing text value (kinds.Text characters) constant large s = s
large_spells_nothing text value kinds.DirectiveBegin constant large s = s
large_spells_nothing text value kinds.DirectiveEnd constant large s = s
large_spells_nothing text value kinds.End constant large s = s

-- ---- tokens

module _ (source : List ℕ) (from : ℕ) where
  pub spelled_apart : (to : ℕ) (kind : TokenKind) → IsSpelled source from to kind → IsApart (slice_index source from)
  spelled_apart to kind token = token_apart source from to token.longest.could_be

  spelled_one : (a b : ℕ) (k l : TokenKind) → IsSpelled source from a k → IsSpelled source from b l → (a ≡ b) × (k ≡ l)
  spelled_one a b k l x y =
      let same = longest_one source from a b x.longest y.longest in
      (same, spells_one _ k l x.spelled (subst (λ n. Spells (slice_range source from n) l) (sym same) y.spelled))

  token_one : (a b : ℕ) (k l : TokenKind) → IsToken source from a k → IsToken source from b l → (a ≡ b) × (k ≡ l)
  token_one a b k l x y =
      ⊎_elim
      (λ e. ⊎_elim (spelled_one a b k l e) (λ t. absurd ((spelled_apart a k e).no_quote t.2.0)) y)
      (λ t. ⊎_elim (λ e. absurd ((spelled_apart b l e).no_quote t.2.0)) (λ u. let same = text_one source from t.0
      u.0 a b t.2 u.2 in (same.1, t.1 ∙ ap kinds.Text same.0 ∙ sym u.1)) y)
      x

  -- no token begins where this byte stands
  no_token : (n : ℕ) → slice_index source from ≡ n → (IsApart n → ⊥) → (n ≡ 34 → ⊥) → (to : ℕ) (kind : TokenKind)
      → IsToken source from to kind → ⊥
  no_token n same no_apart no_quote to kind token =
      ⊎_elim (λ e. no_apart (subst IsApart same (spelled_apart to kind e))) (λ t. no_quote (sym same ∙ t.2.0)) token

  pub feed_no_token : slice_index source from ≡ 10 → (to : ℕ) (kind : TokenKind) → IsToken source from to kind → ⊥
  feed_no_token feed = no_token 10 feed (λ apart. apart.no_line_feed refl) (λ e. omega (arith, e))

  pub hash_no_token : slice_index source from ≡ 35 → (to : ℕ) (kind : TokenKind) → IsToken source from to kind → ⊥
  hash_no_token hash = no_token 35 hash (λ apart. apart.no_hash refl) (λ e. omega (arith, e))

  quote_no_white : slice_index source from ≡ 34 → (to : ℕ) → IsWhiteSpace source from to → ⊥
  unfolding is_blank
  quote_no_white quote = no_white source from 34 quote refl (λ e. omega (arith, e)) (λ e. omega (arith, e))

  feed_no_white : slice_index source from ≡ 10 → (to : ℕ) → IsWhiteSpace source from to → ⊥
  unfolding is_blank
  feed_no_white feed = no_white source from 10 feed refl (λ e. omega (arith, e)) (λ e. omega (arith, e))

  hash_no_white : slice_index source from ≡ 35 → (to : ℕ) → IsWhiteSpace source from to → ⊥
  unfolding is_blank
  hash_no_white hash = no_white source from 35 hash refl (λ e. omega (arith, e)) (λ e. omega (arith, e))

  longest_no_white : (to more : ℕ) → IsLongest source from to → IsWhiteSpace source from more → ⊥
  longest_no_white to more longest white =
      let apart = token_apart source from to longest.could_be in
      ⊎_elim
      (λ space. ⊎_elim (λ blank. apart.no_blank blank.0) (λ continued. apart.no_backslash continued.0) space)
      (λ comment. longest.no_comment (comment_begins source from more comment))
      white

  token_no_white : (to more : ℕ) (kind : TokenKind) → IsToken source from to kind → IsWhiteSpace source from more → ⊥
  token_no_white to more kind token white =
      ⊎_elim (λ e. longest_no_white to more e.longest white) (λ t. quote_no_white t.2.0 more white) token

  -- ---- pieces

  fresh_not_ignored : (s : LineState) → is_fresh s ≡ true → is_ignored s ≡ true → ⊥
  fresh_not_ignored states.Fresh fresh ignored = both_ways false refl ignored
  fresh_not_ignored states.Taken fresh ignored = both_ways false refl ignored
  fresh_not_ignored (states.Defining name) fresh ignored = both_ways false refl ignored
  fresh_not_ignored states.Ignored fresh ignored = both_ways false refl fresh
  fresh_not_ignored (states.Directive last) fresh ignored = both_ways false refl ignored

  module _ (context : Context) where
    stands_one : (a b : ℕ) (k l : PieceKind) → Stands source context from a k → Stands source context from b l
        → (a ≡ b) × (k ≡ l)
    stands_one a b pieces.LineFeed pieces.LineFeed x y = (x.1 ∙ sym y.1, refl)
    stands_one a b pieces.LineFeed pieces.Space x y = absurd (feed_no_white x.0 b y)
    stands_one a b pieces.LineFeed (pieces.Token l) x y = absurd (feed_no_token x.0 b l y.1)
    stands_one a b pieces.LineFeed (pieces.HashLine m) x y = absurd
        (omega (arith, x.0, line_hash source context.macros from b m y.1))
    stands_one a b pieces.LineFeed pieces.Passed x y = absurd (y.1.no_line_feed x.0)
    stands_one a b pieces.Space pieces.LineFeed x y = absurd (feed_no_white y.0 a x)
    stands_one a b pieces.Space pieces.Space x y = (white_one source from a b x y, refl)
    stands_one a b pieces.Space (pieces.Token l) x y = absurd (token_no_white b a l y.1 x)
    stands_one a b pieces.Space (pieces.HashLine m) x y = absurd
        (hash_no_white (line_hash source context.macros from b m y.1) a x)
    stands_one a b pieces.Space pieces.Passed x y = absurd (y.1.no_white_space a x)
    stands_one a b (pieces.Token k) pieces.LineFeed x y = absurd (feed_no_token y.0 a k x.1)
    stands_one a b (pieces.Token k) pieces.Space x y = absurd (token_no_white a b k x.1 y)
    stands_one a b (pieces.Token k) (pieces.Token l) x y = let same = token_one a b k l x.1 y.1 in
        (same.0, ap pieces.Token same.1)
    stands_one a b (pieces.Token k) (pieces.HashLine m) x y = absurd
        (hash_no_token (line_hash source context.macros from b m y.1) a k x.1)
    stands_one a b (pieces.Token k) pieces.Passed x y = absurd (both_ways _ x.0 y.0)
    stands_one a b (pieces.HashLine h) pieces.LineFeed x y = absurd
        (omega (arith, y.0, line_hash source context.macros from a h x.1))
    stands_one a b (pieces.HashLine h) pieces.Space x y = absurd
        (hash_no_white (line_hash source context.macros from a h x.1) b y)
    stands_one a b (pieces.HashLine h) (pieces.Token l) x y = absurd
        (hash_no_token (line_hash source context.macros from a h x.1) b l y.1)
    stands_one a b (pieces.HashLine h) (pieces.HashLine m) x y = let same = line_one source context.macros from a b
        h m x.1 y.1 in (same.0, ap pieces.HashLine same.1)
    stands_one a b (pieces.HashLine h) pieces.Passed x y = absurd (fresh_not_ignored context.state x.0 y.0)
    stands_one a b pieces.Passed pieces.LineFeed x y = absurd (x.1.no_line_feed y.0)
    stands_one a b pieces.Passed pieces.Space x y = absurd (x.1.no_white_space b y)
    stands_one a b pieces.Passed (pieces.Token l) x y = absurd (both_ways _ y.0 x.0)
    stands_one a b pieces.Passed (pieces.HashLine m) x y = absurd (fresh_not_ignored context.state y.0 x.0)
    stands_one a b pieces.Passed pieces.Passed x y = (x.1.end ∙ sym y.1.end, refl)

    -- where a constant above the limit stands, no piece does, unless the line is ignored
    large_stands : is_ignored context.state ≡ false → IsTooLarge source from → (to : ℕ) (kind : PieceKind)
        → Stands source context from to kind → ⊥
    large_stands heard large to pieces.LineFeed s =
        (token_apart source from large.to large.longest.could_be).no_line_feed s.0
    large_stands heard large to pieces.Space s = longest_no_white large.to to large.longest s
    large_stands heard large to (pieces.Token kind) s =
        ⊎_elim
        (λ e.
        let same = longest_one source from large.to to large.longest e.longest in
        large_spells_nothing (slice_range source from to) large.value kind
        (subst (λ n. IsConstant (slice_range source from n) large.value) same large.spelled) large.large e.spelled)
        (λ t. (token_apart source from large.to large.longest.could_be).no_quote t.2.0)
        s.1
    large_stands heard large to (pieces.HashLine line) s =
        (token_apart source from large.to large.longest.could_be).no_hash (line_hash source context.macros from to
        line s.1)
    large_stands heard large to pieces.Passed s = both_ways _ heard s.0

    bad_line_stands : slice_index source from ≡ 35 → is_fresh context.state ≡ true
        → ((to : ℕ) (line : HashLine) → IsHashLine source context.macros from to line → ⊥)
        → (to : ℕ) (kind : PieceKind) → Stands source context from to kind → ⊥
    bad_line_stands hash fresh no_line to pieces.LineFeed s = omega (arith, hash, s.0)
    bad_line_stands hash fresh no_line to pieces.Space s = hash_no_white hash to s
    bad_line_stands hash fresh no_line to (pieces.Token kind) s = hash_no_token hash to kind s.1
    bad_line_stands hash fresh no_line to (pieces.HashLine line) s = no_line to line s.1
    bad_line_stands hash fresh no_line to pieces.Passed s = fresh_not_ignored context.state fresh s.0

pub large_no_hash : (source : List ℕ) (from : ℕ) → IsTooLarge source from → slice_index source from ≡ 35 → ⊥
large_no_hash source from large = (token_apart source from large.to large.longest.could_be).no_hash

pub large_no_piece : (source : List ℕ) (context : Context) (from : ℕ) (p : Piece) → is_ignored context.state ≡ false
    → IsTooLarge source from → IsPiece source context from p → ⊥
large_no_piece source context from p heard large piece = large_stands source from context heard large p.end p.kind
    piece.stands

pub line_no_piece : (source : List ℕ) (context : Context) (from : ℕ) (p : Piece) → slice_index source from ≡ 35
    → is_fresh context.state ≡ true → ((to : ℕ) (line : HashLine) → IsHashLine source context.macros from to line
    → ⊥) → IsPiece source context from p → ⊥
line_no_piece source context from p hash fresh no_line piece = bad_line_stands source from context hash fresh
    no_line p.end p.kind piece.stands

pub piece_one : (source : List ℕ) (context : Context) (from : ℕ) (p q : Piece) → IsPiece source context from p
    → IsPiece source context from q → p ≡ q
piece_one source context from p q x y =
    let same = stands_one source from context p.end q.end p.kind q.kind x.stands y.stands in
    λ i. record { kind = same.1 i; end = same.0 i }
