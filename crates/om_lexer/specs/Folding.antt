-- Translation phase 4 (C17 5.1.1.2): the tokens of a source, once `#` lines are carried out and macros replaced.
use Rattle.std.specs.Prelude.{◌≡◌, ℕ, ◌+◌, ◌<◌, ◌≤◌, List, [], ◌∷◌, ◌++◌, codes}
use Rattle.om_lexer.specs.declared.token.Span.{Span}
use Rattle.om_lexer.specs.declared.token.Token.{Token}
use Rattle.om_lexer.specs.declared.token.TokenKind.{TokenKind}
use Rattle.om_lexer.specs.declared.token.TokenKind.TheVariants as kinds
use Rattle.om_lexer.specs.declared.piece.Piece.{Piece}
use Rattle.om_lexer.specs.declared.piece.PieceKind.{PieceKind}
use Rattle.om_lexer.specs.declared.piece.PieceKind.TheVariants as pieces
use Rattle.om_lexer.specs.declared.piece.HashLine.{HashLine}
use Rattle.om_lexer.specs.declared.piece.HashLine.TheVariants as lines
use Rattle.om_lexer.specs.declared.piece.LineState.{LineState}
use Rattle.om_lexer.specs.declared.piece.LineState.TheVariants as states
use Rattle.om_lexer.specs.Macros.{MacroList, replaced}
use Rattle.om_lexer.specs.Pieces.{Context, context_behind, span_of}

-- the end of the directive whose line ends here, if one does: behind its last token
abbrev pub directive_end : LineState → List Token
directive_end states.Fresh = []
directive_end states.Taken = []
directive_end (states.Defining name) = []
directive_end states.Ignored = []
directive_end (states.Directive last) = record { kind = kinds.DirectiveEnd; span = last } ∷ []

-- a token of the source, replaced where it is a macro; none for the constant of a define
abbrev pub token_in : LineState → MacroList → Span → TokenKind → List Token
token_in states.Fresh macros span kind = record { kind = replaced macros kind; span = span } ∷ []
token_in states.Taken macros span kind = record { kind = replaced macros kind; span = span } ∷ []
token_in (states.Defining name) macros span kind = []
token_in states.Ignored macros span kind = record { kind = replaced macros kind; span = span } ∷ []
token_in (states.Directive last) macros span kind = record { kind = replaced macros kind; span = span } ∷ []

-- the `#` of a directive and its words `pragma` and `omp`, which no macro replaces
abbrev pub directive_begin : List ℕ → ℕ → ℕ → ℕ → List Token
directive_begin source from pragma omp =
    record { kind = kinds.DirectiveBegin; span = span_of source from (from + 1) } ∷
    record { kind = kinds.Name (codes "pragma"); span = span_of source pragma (pragma + 6) } ∷
    record { kind = kinds.Name (codes "omp"); span = span_of source omp (omp + 3) } ∷
    []

-- the tokens of a `#` line's beginning
abbrev pub tokens_of_line : List ℕ → ℕ → HashLine → List Token
tokens_of_line source from lines.Include = []
tokens_of_line source from (lines.Define name) = []
tokens_of_line source from (lines.Directive pragma omp) = directive_begin source from pragma omp
tokens_of_line source from lines.Ignored = []

-- the tokens of a piece
abbrev pub tokens_in : List ℕ → Context → ℕ → ℕ → PieceKind → List Token
tokens_in source context from to pieces.LineFeed = directive_end context.state
tokens_in source context from to pieces.Space = []
tokens_in source context from to (pieces.Token kind) = token_in context.state context.macros
    (span_of source from to) kind
tokens_in source context from to (pieces.HashLine line) = tokens_of_line source from line
tokens_in source context from to pieces.Passed = []

-- the tokens of pieces, one behind the other
abbrev pub tokens_of : List ℕ → Context → ℕ → List Piece → List Token
tokens_of source context from [] = []
tokens_of source context from (piece ∷ rest) =
    tokens_in source context from piece.end piece.kind ++ tokens_of source (context_behind source context piece)
    piece.end rest

-- the words of a directive stand between the ends of its beginning
abbrev pub HasWords : HashLine → ℕ → ℕ → Type 0
HasWords lines.Include from to = Unit {0}
HasWords (lines.Define name) from to = Unit {0}
HasWords (lines.Directive pragma omp) from to = (from < pragma) × (pragma + 6 ≤ omp) × (to ≡ omp + 3)
HasWords lines.Ignored from to = Unit {0}

abbrev pub HasWordsInside : PieceKind → ℕ → ℕ → Type 0
HasWordsInside pieces.LineFeed from to = Unit {0}
HasWordsInside pieces.Space from to = Unit {0}
HasWordsInside (pieces.Token kind) from to = Unit {0}
HasWordsInside (pieces.HashLine line) from to = HasWords line from to
HasWordsInside pieces.Passed from to = Unit {0}
