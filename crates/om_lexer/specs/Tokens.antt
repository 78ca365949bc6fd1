-- Tokens: their spellings, and where one ends (C17 6.4).
use Rattle.std.specs.Prelude.{◌≡◌, ℕ, ◌<◌, ◌≤◌, ◌⊎◌, true, false, List, length, slice_index, slice_range, All}
use Rattle.std.specs.Char.{is_ascii_digit}
use Rattle.om_lexer.specs.declared.token.TokenKind.{TokenKind}
use Rattle.om_lexer.specs.declared.token.TokenKind.TheVariants as kinds
use Rattle.om_lexer.specs.declared.token.Keyword.{Keyword}
use Rattle.om_lexer.specs.declared.token.Punctuator.{Punctuator}
use Rattle.om_lexer.specs.declared.fault.FaultCode.{FaultCode}
use Rattle.om_lexer.specs.declared.fault.FaultCode.TheVariants as codes
use Rattle.om_lexer.specs.Characters.{is_word_byte}
use Rattle.om_lexer.specs.Constants.{IsConstant, IsWrongConstant}
use Rattle.om_lexer.specs.Spellings.{keyword_text, punctuator_text}
use Rattle.om_lexer.specs.WhiteSpace.{BeginsComment}
use Rattle.om_lexer.specs.Texts.{IsText}

-- a run of letters, digits and `_`
pub record IsWord (text : List ℕ) : Type 0 where
  pub some : 0 < length text
  pub word_bytes : All (λ b. is_word_byte b ≡ true) text

-- the run of letters, digits and `_` from there on, none or some
pub record IsRun (source : List ℕ) (from to : ℕ) : Type 0 where
  pub behind : from ≤ to
  pub inside : to ≤ length source
  pub run : (k : ℕ) → from ≤ k → k < to → is_word_byte (slice_index source k) ≡ true
  pub ends : to < length source → is_word_byte (slice_index source to) ≡ false

-- C17 6.4.2.1 and 5.2.4.1p1: an identifier that is no keyword, of at most 63 bytes
pub record IsName (text : List ℕ) : Type 0 where
  pub word : IsWord text
  pub no_digit_first : is_ascii_digit (slice_index text 0) ≡ false
  pub no_keyword : (k : Keyword) → text ≡ keyword_text k → ⊥
  pub short : length text ≤ 63

-- the text spells a token of this kind
abbrev pub Spells : List ℕ → TokenKind → Type 0
Spells text (kinds.Name name) = (name ≡ text) × IsName text
Spells text (kinds.Constant value) = IsConstant text value × (value ≤ 2147483647)
Spells text (kinds.Keyword k) = text ≡ keyword_text k
Spells text (kinds.Punctuator p) = text ≡ punctuator_text p
Spells text (kinds.Text characters) = ⊥
Spells text kinds.DirectiveBegin = ⊥
Spells text kinds.DirectiveEnd = ⊥
Spells text kinds.End = ⊥

-- the text could be a token (C17's preprocessing tokens): names and constants are whole runs of letters, digits and `_`
abbrev pub CouldBeToken : List ℕ → Type 0
CouldBeToken text = IsWord text ⊎ ((p : Punctuator) × (text ≡ punctuator_text p))

-- C17 6.4p4: the longest text from there on that could be a token, where no comment begins
pub record IsLongest (source : List ℕ) (from to : ℕ) : Type 0 where
  pub inside : to ≤ length source
  pub could_be : CouldBeToken (slice_range source from to)
  pub longest : (more : ℕ) → to < more → more ≤ length source → CouldBeToken (slice_range source from more) → ⊥
  pub no_comment : BeginsComment source from → ⊥

-- a name, a constant, a keyword or a punctuator stands there
pub record IsSpelled (source : List ℕ) (from to : ℕ) (kind : TokenKind) : Type 0 where
  pub longest : IsLongest source from to
  pub spelled : Spells (slice_range source from to) kind

-- a token of this kind stands there
abbrev pub IsToken : List ℕ → ℕ → ℕ → TokenKind → Type 0
IsToken source from to kind =
    IsSpelled source from to kind
    ⊎ ((characters : List ℕ) × (kind ≡ kinds.Text characters) × IsText source from characters to)

-- a constant above 2147483647 stands there
pub record IsTooLarge (source : List ℕ) (from : ℕ) : Type 0 where
  pub to : ℕ
  pub value : ℕ
  pub longest : IsLongest source from to
  pub spelled : IsConstant (slice_range source from to) value
  pub large : 2147483647 < value

-- what is wrong with a text that could be a token: it spells none, or a constant above 2147483647
abbrev pub IsWrongText : List ℕ → FaultCode → Type 0
IsWrongText text codes.BadToken = ((kind : TokenKind) → Spells text kind → ⊥) × IsWrongConstant text codes.BadToken
IsWrongText text codes.ConstantTooLarge = IsWrongConstant text codes.ConstantTooLarge
IsWrongText text _ = ⊥

-- what is wrong where no token stands: nothing that could be one, or a constant above 2147483647
abbrev pub IsNoToken : List ℕ → ℕ → FaultCode → Type 0
IsNoToken source from codes.BadToken = ((to : ℕ) (kind : TokenKind) → IsToken source from to kind → ⊥)
    × (IsTooLarge source from → ⊥)
IsNoToken source from codes.ConstantTooLarge = IsTooLarge source from
IsNoToken source from _ = ⊥
