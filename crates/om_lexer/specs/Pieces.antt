-- Translation phase 3 (C17 5.1.1.2): a source is decomposed into tokens, white space and the beginnings of `#` lines.
use Rattle.std.specs.Prelude.{◌≡◌, ℕ, ◌+◌, ◌<◌, Bool, true, false, List, [], ◌∷◌, ◌==◌, length, slice_index, take}
use Rattle.std.specs.Prelude.{count_by}
use Rattle.om_lexer.specs.declared.token.Span.{Span}
use Rattle.om_lexer.specs.declared.token.TokenKind.{TokenKind}
use Rattle.om_lexer.specs.declared.token.TokenKind.TheVariants as kinds
use Rattle.om_lexer.specs.declared.piece.Piece.{Piece}
use Rattle.om_lexer.specs.declared.piece.PieceKind.{PieceKind}
use Rattle.om_lexer.specs.declared.piece.PieceKind.TheVariants as pieces
use Rattle.om_lexer.specs.declared.piece.HashLine.{HashLine}
use Rattle.om_lexer.specs.declared.piece.HashLine.TheVariants as lines
use Rattle.om_lexer.specs.declared.piece.LineState.{LineState}
use Rattle.om_lexer.specs.declared.piece.LineState.TheVariants as states
use Rattle.om_lexer.specs.WhiteSpace.{IsWhiteSpace, BeginsComment}
use Rattle.om_lexer.specs.Tokens.{IsToken}
use Rattle.om_lexer.specs.Macros.{MacroList, with_macro}
use Rattle.om_lexer.specs.HashLines.{IsHashLine}

-- what stands before a byte: on its line, and the macros
pub record Context : Type 0 where
  pub state : LineState
  pub macros : MacroList

abbrev pub context_of : LineState → MacroList → Context
context_of state macros = record { state = state; macros = macros }

-- only white space stands before it on the line
abbrev pub is_fresh : LineState → Bool
is_fresh states.Fresh = true
is_fresh states.Taken = false
is_fresh (states.Defining name) = false
is_fresh states.Ignored = false
is_fresh (states.Directive last) = false

-- the line is a pragma that is ignored
abbrev pub is_ignored : LineState → Bool
is_ignored states.Fresh = false
is_ignored states.Taken = false
is_ignored (states.Defining name) = false
is_ignored states.Ignored = true
is_ignored (states.Directive last) = false

-- an ASCII character of an ignored pragma, where no white space begins
pub record IsPassed (source : List ℕ) (from to : ℕ) : Type 0 where
  pub inside : from < length source
  pub ascii : slice_index source from < 128
  pub no_line_feed : slice_index source from ≡ 10 → ⊥
  pub no_white_space : (more : ℕ) → IsWhiteSpace source from more → ⊥
  pub no_comment : BeginsComment source from → ⊥
  pub end : to ≡ from + 1

-- what stands from one byte up to another is a piece of this kind
abbrev pub Stands : List ℕ → Context → ℕ → ℕ → PieceKind → Type 0
Stands source context from to pieces.LineFeed = (slice_index source from ≡ 10) × (to ≡ from + 1)
Stands source context from to pieces.Space = IsWhiteSpace source from to
Stands source context from to (pieces.Token kind) = (is_ignored context.state ≡ false) × IsToken source from to kind
Stands source context from to (pieces.HashLine line) = (is_fresh context.state ≡ true) × IsHashLine source
    context.macros from to line
Stands source context from to pieces.Passed = (is_ignored context.state ≡ true) × IsPassed source from to

-- this piece begins there
pub record IsPiece (source : List ℕ) (context : Context) (from : ℕ) (piece : Piece) : Type 0 where
  pub stands : Stands source context from piece.end piece.kind

-- the line of a byte: 1 and the line feeds before it
abbrev pub line_at : List ℕ → ℕ → ℕ
line_at source at = 1 + count_by (λ b. b == 10) (take at source)

-- the place of what stands from one byte up to another
abbrev pub span_of : List ℕ → ℕ → ℕ → Span
span_of source from to = record { start = from; end = to; line = line_at source from }

-- the line behind a token that ends at `here`, a place of no width
abbrev pub state_behind_token : LineState → Span → LineState
state_behind_token states.Fresh here = states.Taken
state_behind_token states.Taken here = states.Taken
state_behind_token (states.Defining name) here = states.Taken
state_behind_token states.Ignored here = states.Taken
state_behind_token (states.Directive last) here = states.Directive here

-- the line behind the beginning of a `#` line
abbrev pub state_of_line : HashLine → Span → LineState
state_of_line lines.Include here = states.Taken
state_of_line (lines.Define name) here = states.Defining name
state_of_line (lines.Directive pragma omp) here = states.Directive here
state_of_line lines.Ignored here = states.Ignored

-- the line behind a piece: a line feed in a comment or behind a backslash ends none
abbrev pub state_behind : PieceKind → LineState → Span → LineState
state_behind pieces.LineFeed state here = states.Fresh
state_behind pieces.Space state here = state
state_behind (pieces.Token kind) state here = state_behind_token state here
state_behind (pieces.HashLine line) state here = state_of_line line here
state_behind pieces.Passed state here = state

-- the macros once this constant defines a name
abbrev pub macros_defined : MacroList → List ℕ → TokenKind → MacroList
macros_defined macros name (kinds.Constant number) = with_macro macros name number
macros_defined macros name _ = macros

abbrev pub macros_behind_token : LineState → MacroList → TokenKind → MacroList
macros_behind_token states.Fresh macros kind = macros
macros_behind_token states.Taken macros kind = macros
macros_behind_token (states.Defining name) macros kind = macros_defined macros name kind
macros_behind_token states.Ignored macros kind = macros
macros_behind_token (states.Directive last) macros kind = macros

-- the macros behind a piece
abbrev pub macros_behind : PieceKind → LineState → MacroList → MacroList
macros_behind pieces.LineFeed state macros = macros
macros_behind pieces.Space state macros = macros
macros_behind (pieces.Token kind) state macros = macros_behind_token state macros kind
macros_behind (pieces.HashLine line) state macros = macros
macros_behind pieces.Passed state macros = macros

abbrev pub context_behind : List ℕ → Context → Piece → Context
context_behind source context piece = record {
  state = state_behind piece.kind context.state (span_of source piece.end piece.end);
  macros = macros_behind piece.kind context.state context.macros;
}

-- the source from one byte up to another is these pieces, one behind the other
abbrev pub Decomposes : List ℕ → Context → ℕ → List Piece → ℕ → Type 0
Decomposes source context from [] to = from ≡ to
Decomposes source context from (piece ∷ rest) to =
    IsPiece source context from piece × Decomposes source (context_behind source context piece) piece.end rest to

-- what stands behind the last of some pieces
abbrev pub context_behind_all : List ℕ → Context → List Piece → Context
context_behind_all source context [] = context
context_behind_all source context (piece ∷ rest) = context_behind_all source (context_behind source context piece) rest

-- at the beginning of a source
abbrev pub at_first : Context
at_first = context_of states.Fresh []
