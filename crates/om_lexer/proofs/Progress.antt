-- How far a source has been read.
use Rattle.std.proofs.Common.{◌≡◌, ◌==◌, ℕ, ◌+◌, ◌-◌, ◌<◌, ◌≤◌, cond, List, [], ◌∷◌, ◌++◌, length, take, drop, count_by}
use Rattle.std.proofs.Common.{arith, refl, sym, ap, subst, ◌∙◌, ⊎_elim, inl, inr, append-nil, append_assoc}
use Rattle.std.proofs.Common.{take-append-drop, slice_range}
use Rattle.std.proofs.lemmas.List.{take-take, drop-take}
use Rattle.std.proofs.lemmas.List.Sums.{sum_by-append, count_by-le-length}
use Rattle.std.proofs.lemmas.Bool.{cases_lt}
use Rattle.om_lexer.specs.declared.token.Token.{Token}
use Rattle.om_lexer.specs.declared.token.TokenKind.{TokenKind}
use Rattle.om_lexer.specs.declared.token.TokenKind.TheVariants as kinds
use Rattle.om_lexer.specs.declared.fault.FaultCode.{FaultCode}
use Rattle.om_lexer.specs.declared.fault.FaultCode.TheVariants as codes
use Rattle.om_lexer.specs.declared.fault.SourceFault.{SourceFault}
use Rattle.om_lexer.specs.declared.piece.Piece.{Piece}
use Rattle.om_lexer.specs.declared.piece.PieceKind.{PieceKind}
use Rattle.om_lexer.specs.declared.piece.PieceKind.TheVariants as pieces
use Rattle.om_lexer.specs.declared.piece.HashLine.{HashLine}
use Rattle.om_lexer.specs.declared.piece.HashLine.TheVariants as lines
use Rattle.om_lexer.specs.declared.piece.LineState.{LineState}
use Rattle.om_lexer.specs.declared.piece.LineState.TheVariants as states
use Rattle.om_lexer.specs.Tokens.{IsToken}
use Rattle.om_lexer.specs.Macros.{MacroList}
use Rattle.om_lexer.specs.HashLines.{IsHashLine}
use Rattle.om_lexer.specs.Pieces.{Context, context_of, IsPiece, Stands, Decomposes, span_of, line_at, state_behind}
use Rattle.om_lexer.specs.Pieces.{macros_behind, context_behind, context_behind_all, at_first}
use Rattle.om_lexer.specs.Folding.{directive_end, tokens_in, tokens_of, HasWords, HasWordsInside}
use Rattle.om_lexer.specs.Sources.{source_limit, IsTokens, IsWrong, IsWrongAt, GoesWrong, IsFault, IsRefusal, IsTooLong}
use Rattle.om_lexer.specs.Sources.{end_token}
use Rattle.om_lexer.proofs.Beginnings.{could_be_some}
use Rattle.om_lexer.proofs.Gaps.{white_moves, white_inside}
use Rattle.om_lexer.proofs.Quotes.{text_bound}
use Rattle.om_lexer.proofs.HashLines.{line_bound, directive_words}
use Rattle.om_lexer.proofs.Longest.{length_slice}

token_bound : (source : List ℕ) (from to : ℕ) (kind : TokenKind) → IsToken source from to kind → (from < to)
    × (to ≤ length source)
token_bound source from to kind token =
    ⊎_elim
    (λ e.
    let some = could_be_some _ e.longest.could_be in
    let long = length_slice source from to in
    (omega (arith, some, long), e.longest.inside))
    (λ t. text_bound source from t.0 to t.2)
    token

-- every piece has a byte, and ends in the source
stands_bound : (source : List ℕ) (context : Context) (from to : ℕ) (kind : PieceKind) → from < length source
    → Stands source context from to kind → (from < to) × (to ≤ length source)
stands_bound source context from to pieces.LineFeed inside s = (omega (arith, s.1), omega (arith, s.1))
stands_bound source context from to pieces.Space inside s = (
  white_moves source from to s,
  white_inside source from
      to inside s,
)
stands_bound source context from to (pieces.Token kind) inside s = token_bound source from to kind s.1
stands_bound source context from to (pieces.HashLine line) inside s = line_bound source context.macros from to line s.1
stands_bound source context from to pieces.Passed inside s = (omega (arith, s.1.end), omega (arith, s.1.end))

pub piece_inside : (source : List ℕ) (context : Context) (from : ℕ) (piece : Piece) → from < length source
    → IsPiece source context from piece → piece.end ≤ length source
piece_inside source context from piece inside p = (stands_bound source context from piece.end piece.kind inside
    p.stands).1

stands_moves : (source : List ℕ) (context : Context) (from to : ℕ) (kind : PieceKind) → Stands source context from
    to kind → from < to
stands_moves source context from to pieces.LineFeed s = omega (arith, s.1)
stands_moves source context from to pieces.Space s = white_moves source from to s
stands_moves source context from to (pieces.Token kind) s = (token_bound source from to kind s.1).0
stands_moves source context from to (pieces.HashLine line) s = (line_bound source context.macros from to line s.1).0
stands_moves source context from to pieces.Passed s = omega (arith, s.1.end)

pub piece_moves : (source : List ℕ) (context : Context) (from : ℕ) (piece : Piece) → IsPiece source context from
    piece → from < piece.end
piece_moves source context from piece p = stands_moves source context from piece.end piece.kind p.stands

line_has_words : (source : List ℕ) (macros : MacroList) (from to : ℕ) (line : HashLine) → IsHashLine source macros
    from to line → HasWords line from to
line_has_words source macros from to lines.Include x = tt
line_has_words source macros from to (lines.Define name) x = tt
line_has_words source macros from to (lines.Directive pragma omp) x = directive_words source from pragma omp to x
line_has_words source macros from to lines.Ignored x = tt

stands_words : (source : List ℕ) (context : Context) (from to : ℕ) (kind : PieceKind) → Stands source context from
    to kind → HasWordsInside kind from to
stands_words source context from to pieces.LineFeed s = tt
stands_words source context from to pieces.Space s = tt
stands_words source context from to (pieces.Token kind) s = tt
stands_words source context from to (pieces.HashLine line) s = line_has_words source context.macros from to line s.1
stands_words source context from to pieces.Passed s = tt

pub piece_words : (source : List ℕ) (context : Context) (from : ℕ) (piece : Piece) → IsPiece source context from
    piece → HasWordsInside piece.kind from piece.end
piece_words source context from piece p = stands_words source context from piece.end piece.kind p.stands

-- one more piece
pub decomposes_more : (source : List ℕ) (context : Context) (from at : ℕ) (ps : List Piece) (p : Piece)
    → Decomposes source context from ps at → IsPiece source (context_behind_all source context ps) at p
    → Decomposes source context from (ps ++ p ∷ []) p.end
decomposes_more source context from at [] p before is_piece = (
  subst (λ n. IsPiece source context n p) (sym before)
      is_piece,
  refl,
)
decomposes_more source context from at (q ∷ ps) p before is_piece =
    (before.0, decomposes_more source (context_behind source context q) q.end at ps p before.1 is_piece)

tokens_more : (source : List ℕ) (context : Context) (from at : ℕ) (ps : List Piece) (p : Piece) → Decomposes source
    context from ps at
    → tokens_of source context from (ps ++ p ∷ []) ≡ tokens_of source context from ps ++ tokens_in source
    (context_behind_all source context ps) at p.end p.kind
tokens_more source context from at [] p before = append-nil _ ∙ ap (λ n. tokens_in source context n p.end p.kind) before
tokens_more source context from at (q ∷ ps) p before =
    ap (λ ts. tokens_in source context from q.end q.kind ++ ts)
    (tokens_more source (context_behind source context q) q.end at ps p before.1)
    ∙ sym (append_assoc (tokens_in source context from q.end q.kind)
    (tokens_of source (context_behind source context q) q.end ps)
    (tokens_in source (context_behind_all source (context_behind source context q) ps) at p.end p.kind))

context_more : (source : List ℕ) (context : Context) (ps : List Piece) (p : Piece) → context_behind_all source
    context (ps ++ p ∷ []) ≡ context_behind source (context_behind_all source context ps) p
context_more source context [] p = refl
context_more source context (q ∷ ps) p = context_more source (context_behind source context q) ps p

take_slice : (source : List ℕ) (from to : ℕ) → from ≤ to → take to source ≡ take from source ++ slice_range source
    from to
take_slice source from to order =
    let sum : from + (to - from) ≡ to = omega arith in
    sym (take-append-drop from (take to source))
    ∙ ap (λ xs. xs ++ drop from (take to source)) (take-take from to source order)
    ∙ ap (λ n. take from source ++ drop from (take n source)) (sym sum)
    ∙ ap (λ xs. take from source ++ xs) (drop-take from (to - from) source)

pub line_more : (source : List ℕ) (from to : ℕ) → from ≤ to → line_at source to ≡ line_at source from + count_by
    (λ b. b == 10) (slice_range source from to)
line_more source from to order =
    let whole = ap (count_by (λ b. b == 10)) (take_slice source from to order) in
    let parts = sum_by-append (λ b. cond (b == 10) 1 0) (take from source) (slice_range source from to) in
    omega (arith, whole, parts)

-- the source up to a byte: its tokens, its line, and what stands before
pub record IsReadTo (source : List ℕ) (tokens : List Token) (at line : ℕ) (state : LineState)
    (macros : MacroList) : Type 0 where
  pub pieces : List Piece
  pub before : Decomposes source at_first 0 pieces at
  pub tokens_are : tokens ≡ tokens_of source at_first 0 pieces
  pub line_is : line ≡ line_at source at
  pub context_is : context_of state macros ≡ context_behind_all source at_first pieces

pub read_none : (source : List ℕ) → IsReadTo source [] 0 1 states.Fresh []
read_none source = record { pieces = []; before = refl; tokens_are = refl; line_is = refl; context_is = refl }

pub read_more : (source : List ℕ) (tokens tokens' : List Token) (at line line' : ℕ) (state state' : LineState)
    (macros macros' : MacroList) (p : Piece)
    → IsReadTo source tokens at line state macros → IsPiece source (context_of state macros) at p
    → tokens' ≡ tokens ++ tokens_in source (context_of state macros) at p.end p.kind
    → line' ≡ line_at source p.end
    → state' ≡ state_behind p.kind state (span_of source p.end p.end)
    → macros' ≡ macros_behind p.kind state macros
    → IsReadTo source tokens' p.end line' state' macros'
read_more source tokens tokens' at line line' state state' macros macros' p read is_piece tokens_are line_is
    state_is macros_are =
    let more = tokens_more source at_first 0 at read.pieces p read.before in
    record {
      pieces = read.pieces ++ p ∷ [];
      before = decomposes_more source at_first 0 at read.pieces p read.before (subst (λ c. IsPiece source c at p)
          read.context_is is_piece);
      tokens_are = tokens_are
          ∙ ap (λ ts. ts ++ tokens_in source (context_of state macros) at p.end p.kind) read.tokens_are
          ∙ ap (λ c. tokens_of source at_first 0 read.pieces ++ tokens_in source c at p.end p.kind) read.context_is
          ∙ sym more;
      line_is = line_is;
      context_is = (λ i. context_of (state_is i) (macros_are i)) ∙ ap (λ c. context_behind source c p)
          read.context_is ∙ sym (context_more source at_first read.pieces p);
    }

-- a byte that is left is below the limit
pub below_limit : (length at : ℕ) → at < length → (source_limit < length → at < source_limit) → at < source_limit
below_limit length at left below = ⊎_elim below (λ short. omega arith) (cases_lt source_limit length)

-- a line feed at most for each byte
pub few_feeds : (source : List ℕ) (at to feeds : ℕ) → feeds ≡ count_by (λ b. b == 10) (slice_range source at to)
    → feeds ≤ to - at
few_feeds source at to feeds same =
    let most = count_by-le-length (λ b. b == 10) (slice_range source at to) in
    let long = length_slice source at to in
    omega (arith, most, long, same)

-- at the end
pub all_read : (source : List ℕ) (tokens tokens' : List Token) (line : ℕ) (state : LineState) (macros : MacroList)
    → length source ≤ source_limit → IsReadTo source tokens (length source) line state macros
    → tokens' ≡ tokens ++ directive_end state
    → IsTokens source (tokens'
    ++ record { kind = kinds.End; span = record { start = length source; end = length source; line = line } } ∷ [])
all_read source tokens tokens' line state macros within read ended = record {
  within = within;
  pieces = read.pieces;
  whole = read.before;
  tokens_are = ap (λ n. tokens'
      ++ record { kind = kinds.End; span = record { start = length source; end = length source; line = n } } ∷ [])
      read.line_is
      ∙ ap (λ ts. ts ++ end_token source ∷ []) (ended ∙ ap (λ ts. ts ++ directive_end state) read.tokens_are
      ∙ ap (λ c. tokens_of source at_first 0 read.pieces ++ directive_end c.state) read.context_is);
}

-- past the limit
pub too_long : (source : List ℕ) (tokens : List Token) (at line : ℕ) (state : LineState) (macros : MacroList)
    (p : Piece) → source_limit < length source → source_limit ≤ p.end → IsReadTo source tokens at line state macros
    → IsPiece source (context_of state macros) at p → IsTooLong source
too_long source tokens at line state macros p above past read is_piece = record {
  above = above;
  pieces = read.pieces ++ p ∷ [];
  reached = p.end;
  before = decomposes_more source at_first 0 at read.pieces p read.before (subst (λ c. IsPiece source c at p)
      read.context_is is_piece);
  past = past;
}

-- what is wrong where the reading has come is the source's fault
fault_there : (source : List ℕ) (at : ℕ) (code : FaultCode) → at < source_limit → GoesWrong source code at
    → IsFault source code at
fault_there source at codes.SourceTooLong below wrong = absurd wrong.wrong
fault_there source at codes.Memory below wrong = (below, wrong)
fault_there source at codes.BadToken below wrong = (below, wrong)
fault_there source at codes.Syntax below wrong = (below, wrong)
fault_there source at codes.BadHashLine below wrong = (below, wrong)
fault_there source at codes.UnknownDirective below wrong = (below, wrong)
fault_there source at codes.BadClause below wrong = (below, wrong)
fault_there source at codes.Undeclared below wrong = (below, wrong)
fault_there source at codes.Redeclared below wrong = (below, wrong)
fault_there source at codes.Misuse below wrong = (below, wrong)
fault_there source at codes.ConstantTooLarge below wrong = (below, wrong)
fault_there source at codes.TooMany below wrong = (below, wrong)
fault_there source at codes.LoopForm below wrong = (below, wrong)
fault_there source at codes.Unlisted below wrong = (below, wrong)
fault_there source at codes.LeavesConstruct below wrong = (below, wrong)
fault_there source at codes.NoMain below wrong = (below, wrong)
fault_there source at codes.TooDeep below wrong = (below, wrong)

pub refused_there : (source : List ℕ) (tokens : List Token) (at line : ℕ) (state : LineState) (macros : MacroList)
    (fault : SourceFault) → at < source_limit → IsReadTo source tokens at line state macros → IsWrongAt source
    (context_of state macros) at fault → IsRefusal source fault
refused_there source tokens at line state macros fault below read (inl memory) = inl memory
refused_there source tokens at line state macros fault below read (inr wrong) =
    let place = sym wrong.0 in
    inr (subst (IsFault source fault.code) place (fault_there source at fault.code below (record {
      pieces = read.pieces;
      before = read.before;
      wrong = subst (λ c. IsWrong source c at fault.code) read.context_is wrong.1;
    })))
