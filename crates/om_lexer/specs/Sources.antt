-- What a source is to the lexer: its tokens, or its first fault.
use Rattle.std.specs.Prelude.{◌≡◌, ℕ, ◌<◌, ◌≤◌, ◌⊎◌, true, false, List, ◌∷◌, [], ◌++◌, length, slice_index}
use Rattle.om_lexer.specs.declared.token.Token.{Token}
use Rattle.om_lexer.specs.declared.token.TokenKind.TheVariants as kinds
use Rattle.om_lexer.specs.declared.piece.Piece.{Piece}
use Rattle.om_lexer.specs.declared.fault.FaultCode.{FaultCode}
use Rattle.om_lexer.specs.declared.fault.FaultCode.TheVariants as codes
use Rattle.om_lexer.specs.declared.fault.SourceFault.{SourceFault}
use Rattle.om_lexer.specs.Faults.{no_memory, IsRefusalAt}
use Rattle.om_lexer.specs.Tokens.{IsTooLarge}
use Rattle.om_lexer.specs.HashLines.{IsWrongHashLine}
use Rattle.om_lexer.specs.Pieces.{Context, at_first, is_fresh, is_ignored, IsPiece, Decomposes, context_behind_all}
use Rattle.om_lexer.specs.Pieces.{span_of}
use Rattle.om_lexer.specs.Folding.{tokens_of, directive_end}

-- the bytes that a source may have
abbrev pub source_limit : ℕ
source_limit = 1048576

-- the last token, at the end of the source
abbrev pub end_token : List ℕ → Token
end_token source = record { kind = kinds.End; span = span_of source (length source) (length source) }

-- the tokens of a source that is these pieces
abbrev pub all_tokens : List ℕ → List Piece → List Token
all_tokens source pieces =
    (tokens_of source at_first 0 pieces ++ directive_end (context_behind_all source at_first pieces).state)
    ++ end_token source ∷ []

-- the source is within the limit, and these are its tokens
pub record IsTokens (source : List ℕ) (tokens : List Token) : Type 0 where
  pub within : length source ≤ source_limit
  pub pieces : List Piece
  pub whole : Decomposes source at_first 0 pieces (length source)
  pub tokens_are : tokens ≡ all_tokens source pieces

-- a `#` with nothing but white space before it on its line
abbrev pub BeginsHashLine : List ℕ → Context → ℕ → Type 0
BeginsHashLine source context at = (slice_index source at ≡ 35) × (is_fresh context.state ≡ true)

-- nothing begins there: no piece, no constant of any size and no `#` line
pub record IsBadToken (source : List ℕ) (context : Context) (at : ℕ) : Type 0 where
  pub inside : at < length source
  pub no_piece : (piece : Piece) → IsPiece source context at piece → ⊥
  pub not_too_large : is_ignored context.state ≡ false → IsTooLarge source at → ⊥
  pub no_hash_line : BeginsHashLine source context at → ⊥

-- what is wrong at a byte where no piece begins
abbrev pub IsWrong : List ℕ → Context → ℕ → FaultCode → Type 0
IsWrong source context at codes.BadToken = IsBadToken source context at
IsWrong source context at codes.BadHashLine = BeginsHashLine source context at × IsWrongHashLine source
    context.macros at codes.BadHashLine
IsWrong source context at codes.TooMany = BeginsHashLine source context at × IsWrongHashLine source context.macros
    at codes.TooMany
IsWrong source context at codes.ConstantTooLarge = (is_ignored context.state ≡ false) × IsTooLarge source at
IsWrong source context at _ = ⊥

-- a refusal at a byte: out of memory, or what is wrong there
abbrev pub IsWrongAt : List ℕ → Context → ℕ → SourceFault → Type 0
IsWrongAt source context at = IsRefusalAt at (IsWrong source context at)

-- the source is pieces up to that byte, and there it is wrong
pub record GoesWrong (source : List ℕ) (code : FaultCode) (at : ℕ) : Type 0 where
  pub pieces : List Piece
  pub before : Decomposes source at_first 0 pieces at
  pub wrong : IsWrong source (context_behind_all source at_first pieces) at code

-- the source is above the limit, and is pieces up to the limit or past it
pub record IsTooLong (source : List ℕ) : Type 0 where
  pub above : source_limit < length source
  pub pieces : List Piece
  pub reached : ℕ
  pub before : Decomposes source at_first 0 pieces reached
  pub past : source_limit ≤ reached

-- the source has this fault: the first below the limit, or else that it is too long
abbrev pub IsFault : List ℕ → FaultCode → ℕ → Type 0
IsFault source codes.SourceTooLong at = (at ≡ source_limit) × IsTooLong source
IsFault source code at = (at < source_limit) × GoesWrong source code at

-- a refusal is out of memory, or the source's fault
abbrev pub IsRefusal : List ℕ → SourceFault → Type 0
IsRefusal source fault = (fault ≡ no_memory) ⊎ IsFault source fault.code fault.at
