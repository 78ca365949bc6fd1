-- What reading a source adds to the tokens and the macros that are made so far.
use Rattle.std.specs.Prelude.{◌≡◌, ℕ, List, [], ◌∷◌, ◌++◌, Vec}
use Rattle.std.specs.declared.alloc.Global.{Global}
use Rattle.om_lexer.specs.declared.lexer.DirectiveWords.{DirectiveWords}
use Rattle.om_lexer.specs.declared.lexer.Output.{Output}
use Rattle.om_lexer.specs.declared.lexer.Placed.{Placed}
use Rattle.om_lexer.specs.declared.piece.HashLine.{HashLine}
use Rattle.om_lexer.specs.declared.piece.PieceKind.{PieceKind}
use Rattle.om_lexer.specs.declared.piece.LineState.{LineState}
use Rattle.om_lexer.specs.declared.token.Span.{Span}
use Rattle.om_lexer.specs.declared.token.Token.{Token}
use Rattle.om_lexer.specs.declared.token.TokenKind.{TokenKind}
use Rattle.om_lexer.specs.declared.token.TokenKind.TheVariants as kinds
use Rattle.om_lexer.specs.Folding.{tokens_in, token_in, tokens_of_line, directive_begin, directive_end}
use Rattle.om_lexer.specs.Macros.{replaced}
use Rattle.om_lexer.specs.Pieces.{context_of, span_of, state_behind, macros_behind, macros_behind_token}

-- the end of the source is added at its place, and before it that of the directive whose line ends here
abbrev pub AddsEnd : LineState → (old new : Vec Token Global) → Span → Type 0
AddsEnd state old new span =
    new.items ≡ (old.items ++ directive_end state) ++ record { kind = kinds.End; span = span } ∷ []

-- a name is added that no macro replaces
abbrev pub AddsWord : (old new : Vec Token Global) → List ℕ → Span → Type 0
AddsWord old new text span = new.items ≡ old.items ++ record { kind = kinds.Name text; span = span } ∷ []

-- the `#` of a directive and its words `pragma` and `omp` are added; the span begins at the `#`
abbrev pub AddsDirectiveBegin : List ℕ → (old new : Vec Token Global) → Span → DirectiveWords → Type 0
AddsDirectiveBegin source old new span words =
    new.items ≡ old.items ++ directive_begin source span.start words.pragma words.omp

-- the tokens of the beginning of a `#` line are added
abbrev pub AddsHashLine : List ℕ → (old new : Vec Token Global) → Placed HashLine → Type 0
AddsHashLine source old new line = new.items ≡ old.items ++ tokens_of_line source line.span.start line.item

-- a token is added, replaced where it is a macro
abbrev pub AddsReplaced : (old new : Output) → Token → Type 0
AddsReplaced old new token =
    new.tokens.items ≡ old.tokens.items ++ record { kind = replaced old.macros token.kind; span = token.span } ∷ []

-- a token of the source is added, replaced where it is a macro; none for the constant of a define
abbrev pub AddsToken : LineState → (old new : Output) → Placed TokenKind → Type 0
AddsToken state old new token =
    new.tokens.items ≡ old.tokens.items ++ token_in state old.macros token.span token.item

-- the tokens of a piece are added
abbrev pub AddsPiece : List ℕ → LineState → (old new : Output) → Placed PieceKind → Type 0
AddsPiece source state old new piece = new.tokens.items ≡ old.tokens.items
    ++ tokens_in source (context_of state old.macros) piece.span.start piece.span.end piece.item

-- the new macros are those behind a token of the source
abbrev pub HasMacrosBehindToken : LineState → (old new : Output) → Placed TokenKind → Type 0
HasMacrosBehindToken state old new token = new.macros ≡ macros_behind_token state old.macros token.item

-- the new macros are those behind a piece
abbrev pub HasMacrosBehind : LineState → (old new : Output) → Placed PieceKind → Type 0
HasMacrosBehind state old new piece = new.macros ≡ macros_behind piece.item state old.macros

-- the line behind a piece at its place
abbrev pub state_behind_placed : List ℕ → LineState → Placed PieceKind → LineState
state_behind_placed source state piece =
    state_behind piece.item state (span_of source piece.span.end piece.span.end)
