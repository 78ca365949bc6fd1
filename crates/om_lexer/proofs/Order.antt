-- The tokens of a source stand in order, and its directives are whole.
use Rattle.std.proofs.Common.{◌≡◌, ◌≢◌, ℕ, ◌+◌, ◌<◌, ◌≤◌, ◌⊎◌, Bool, true, false, List, [], ◌∷◌, ◌++◌, Option, None}
use Rattle.std.proofs.Common.{Some, length, arith, refl, sym, ap, subst, ◌∙◌, inl, inr, append_assoc, slice_range}
use Rattle.std.proofs.Common.{codes}
use Rattle.om_lexer.specs.declared.token.Span.{Span}
use Rattle.om_lexer.specs.declared.token.Token.{Token}
use Rattle.om_lexer.specs.declared.token.TokenKind.{TokenKind}
use Rattle.om_lexer.specs.declared.token.TokenKind.TheVariants as kinds
use Rattle.om_lexer.specs.declared.piece.Piece.{Piece}
use Rattle.om_lexer.specs.declared.piece.PieceKind.{PieceKind}
use Rattle.om_lexer.specs.declared.piece.PieceKind.TheVariants as pieces
use Rattle.om_lexer.specs.declared.piece.HashLine.{HashLine}
use Rattle.om_lexer.specs.declared.piece.HashLine.TheVariants as lines
use Rattle.om_lexer.specs.declared.piece.LineState.{LineState}
use Rattle.om_lexer.specs.declared.piece.LineState.TheVariants as states
use Rattle.om_lexer.specs.Folding.{directive_end, tokens_in, tokens_of, directive_begin}
use Rattle.om_lexer.specs.HashLines.{IsDirective}
use Rattle.om_lexer.specs.Macros.{MacroList, number_of_macro, constant_or, replaced}
use Rattle.om_lexer.specs.Order.{StandsAs, HasWidth, IsInPlace, AreInOrder, GoesOn, AreWhole, StandsBefore, IsDefinable}
use Rattle.om_lexer.specs.Pieces.{Context, context_of, context_behind, context_behind_all, Stands, Decomposes, span_of}
use Rattle.om_lexer.specs.Pieces.{state_behind, at_first}
use Rattle.om_lexer.specs.Sources.{IsTokens, end_token}
use Rattle.om_lexer.specs.Spellings.{keyword_text}
use Rattle.om_lexer.specs.Tokens.{IsToken, Spells}
use Rattle.om_lexer.proofs.HashLines.{hash_word_bound, directive_words}
use Rattle.om_lexer.proofs.Progress.{piece_moves}

-- the tokens from a byte on are in order, and whole
Follow : List ℕ → Bool → ℕ → List Token → Type 0
Follow source inside at ts = AreInOrder source at ts × AreWhole inside ts

-- ---- a token that stands in the source

abbrev is_plain : TokenKind → Bool
is_plain kinds.DirectiveBegin = false
is_plain kinds.DirectiveEnd = false
is_plain kinds.End = false
is_plain _ = true

module _ (source : List ℕ) (from to : ℕ) where
  -- a kind of a token in the text, and what stands there
  Plain : TokenKind → Type 0
  Plain k = (is_plain k ≡ true) × StandsAs source from to k

  macro_plain : (kind : TokenKind) (number : Option ℕ) → IsDefinable (slice_range source from to) → Plain kind
      → Plain (constant_or number kind)
  unfolding Plain
  macro_plain kind None name plain = plain
  macro_plain kind (Some n) name plain = (refl, inr name)

  spelled_plain : (macros : MacroList) (kind : TokenKind) → Spells (slice_range source from to) kind
      → Plain (replaced macros kind)
  unfolding Plain
  spelled_plain macros (kinds.Name text) s = macro_plain (kinds.Name text) (number_of_macro macros text) (inl s.1)
      (refl, s.0)
  spelled_plain macros (kinds.Constant value) s = (refl, inl s.0)
  spelled_plain macros (kinds.Keyword k) s = macro_plain (kinds.Keyword k) (number_of_macro macros (keyword_text k))
      (inr (k, s)) (refl, s)
  spelled_plain macros (kinds.Punctuator p) s = (refl, s)
  spelled_plain macros (kinds.Text characters) s = absurd s
  spelled_plain macros kinds.DirectiveBegin s = absurd s
  spelled_plain macros kinds.DirectiveEnd s = absurd s
  spelled_plain macros kinds.End s = absurd s

  token_plain : (macros : MacroList) (kind : TokenKind) → IsToken source from to kind → Plain (replaced macros kind)
  unfolding Plain
  token_plain macros kind (inl s) = spelled_plain macros kind s.spelled
  token_plain macros kind (inr text) = subst (λ k. Plain (replaced macros k)) (sym text.1) (refl, text.2)

plain_width : (k : TokenKind) (from to : ℕ) → is_plain k ≡ true → from < to → HasWidth k from to
plain_width kinds.DirectiveBegin from to plain wide = wide
plain_width kinds.DirectiveEnd from to plain wide = absurd cc
plain_width kinds.End from to plain wide = absurd cc
plain_width _ from to plain wide = wide

plain_goes : (inside : Bool) (k : TokenKind) (last : Type 0) (rest : Bool → Type 0) → is_plain k ≡ true
    → rest inside → GoesOn inside k last rest
plain_goes inside kinds.DirectiveBegin last rest plain x = absurd cc
plain_goes inside kinds.DirectiveEnd last rest plain x = absurd cc
plain_goes inside kinds.End last rest plain x = absurd cc
plain_goes inside _ last rest plain x = x

-- a plain token and those behind it
plain_first : (source : List ℕ) (inside : Bool) (at from to : ℕ) (k : TokenKind) (ts : List Token) → at ≤ from
    → from < to → Plain source from to k
    → Follow source inside to ts → Follow source inside at (record { kind = k; span = span_of source from to } ∷ ts)
unfolding Follow AreInOrder AreWhole Plain
plain_first source inside at from to k ts low wide plain rest = (
  (low, record { stands = plain.1; width = plain_width k from to plain.0 wide; line = refl }, rest.0),
  plain_goes inside k (ts ≡ []) (λ b. AreWhole b ts) plain.0 rest.1,
)

-- the end of a directive and the tokens behind it
end_first : (source : List ℕ) (at end : ℕ) (last : Span) (ts : List Token) → last ≡ span_of source end end → at ≤ end
    → Follow source false end ts → Follow source true at (record { kind = kinds.DirectiveEnd; span = last } ∷ ts)
unfolding Follow AreInOrder AreWhole
end_first source at end last ts is low rest =
    subst (λ (s : Span). Follow source true at (record { kind = kinds.DirectiveEnd; span = s } ∷ ts)) (sym is)
    ((low, record { stands = tt; width = refl; line = refl }, rest.0), (refl, rest.1))

-- the end of the source
end_last : (source : List ℕ) (at : ℕ) → at ≤ length source → Follow source false at (end_token source ∷ [])
unfolding Follow AreInOrder AreWhole
end_last source at low = ((low, record { stands = refl; width = refl; line = refl }, omega arith), (refl, refl))

-- the beginning of a directive and the tokens behind it
begin_first : (source : List ℕ) (at from pragma omp to : ℕ) (ts : List Token) → at ≤ from → IsDirective source from
    pragma omp to
    → Follow source true to ts → Follow source false at (directive_begin source from pragma omp ++ ts)
unfolding Follow AreInOrder AreWhole Plain
begin_first source at from pragma omp to ts low x rest =
    let places = directive_words source from pragma omp to x in
    let head = hash_word_bound source from pragma x.pragma_end (codes "pragma") x.begins in
    let pragma_is : codes "pragma" ≡ slice_range source pragma (pragma + 6) = x.begins.is_word.text_is
    ∙ ap (slice_range source pragma) head.1 in
    let omp_is : codes "omp" ≡ slice_range source omp (omp + 3) = x.is_omp.text_is ∙ ap (slice_range source omp)
    places.2 in
    let behind : Follow source true (omp + 3) ts = subst (λ n. Follow source true n ts) places.2 rest in
    let omp_first = plain_first source true (pragma + 6) omp (omp + 3) (kinds.Name (codes "omp")) ts places.1
    (omega arith) (refl, omp_is) behind in
    let omp_token : Token = record { kind = kinds.Name (codes "omp"); span = span_of source omp (omp + 3) } in
    let words = plain_first source true (from + 1) pragma (pragma + 6) (kinds.Name (codes "pragma"))
    (omp_token ∷ ts) (omega (arith, places.0)) (omega arith) (refl, pragma_is) omp_first in
    ((low, record { stands = (x.begins.hash, refl); width = omega arith; line = refl }, words.0), (refl, words.1))

-- ---- pieces

abbrev in_directive : LineState → Bool
in_directive (states.Directive last) = true
in_directive _ = false

-- the last token ends at the first byte or before it, and so does the directive that is open
abbrev IsOpen : List ℕ → LineState → ℕ → ℕ → Type 0
IsOpen source (states.Directive last) at from = (end : ℕ) × (last ≡ span_of source end end) × (at ≤ end) × (end ≤ from)
IsOpen source _ at from = at ≤ from

open_later : (source : List ℕ) (state : LineState) (at from to : ℕ) → from ≤ to → IsOpen source state at from
    → IsOpen source state at to
open_later source (states.Directive last) at from to later is_open = (
  is_open.0,
  is_open.1,
  is_open.2,
  omega (arith, is_open.3),
)
open_later source states.Fresh at from to later is_open = omega (arith, is_open)
open_later source states.Taken at from to later is_open = omega (arith, is_open)
open_later source (states.Defining name) at from to later is_open = omega (arith, is_open)
open_later source states.Ignored at from to later is_open = omega (arith, is_open)

-- what follows behind a piece, wherever the last token ends
Rest : List ℕ → LineState → ℕ → List Token → Type 0
Rest source state to ts = (at : ℕ) → IsOpen source state at to → Follow source (in_directive state) at ts

module _ (source : List ℕ) (macros : MacroList) (at from to : ℕ) (ts : List Token) (wide : from < to) where
  abbrev here : Span
  here = span_of source to to

  Stays : LineState → PieceKind → Type 0
  Stays state kind = IsOpen source state at from → Stands source (context_of state macros) from to kind
      → Rest source (state_behind kind state here) to ts
      → Follow source (in_directive state) at (tokens_in source (context_of state macros) from to kind ++ ts)

  feed_follows : (state : LineState) → Stays state pieces.LineFeed
  unfolding Stays Rest
  feed_follows (states.Directive last) is_open s rest = end_first source at is_open.0 last ts is_open.1 is_open.2
      (rest is_open.0 (omega (arith, is_open.3)))
  feed_follows states.Fresh is_open s rest = rest at (omega (arith, is_open))
  feed_follows states.Taken is_open s rest = rest at (omega (arith, is_open))
  feed_follows (states.Defining name) is_open s rest = rest at (omega (arith, is_open))
  feed_follows states.Ignored is_open s rest = rest at (omega (arith, is_open))

  here_first : (inside : Bool) (kind : TokenKind) → IsToken source from to kind → at ≤ from → Follow source inside to ts
      → Follow source inside at (record { kind = replaced macros kind; span = span_of source from to } ∷ ts)
  here_first inside kind s low rest = plain_first source inside at from to (replaced macros kind) ts low wide
      (token_plain source from to macros kind s) rest

  token_follows : (state : LineState) (kind : TokenKind) → Stays state (pieces.Token kind)
  unfolding Stays Rest
  token_follows (states.Directive last) kind is_open s rest = here_first true kind s.1
      (omega (arith, is_open.2, is_open.3)) (rest to (to, refl, omega arith, omega arith))
  token_follows states.Fresh kind is_open s rest = here_first false kind s.1 is_open (rest to (omega arith))
  token_follows states.Taken kind is_open s rest = here_first false kind s.1 is_open (rest to (omega arith))
  token_follows (states.Defining name) kind is_open s rest = rest at (omega (arith, is_open))
  token_follows states.Ignored kind is_open s rest = absurd cc

  line_follows : (state : LineState) (line : HashLine) → Stays state (pieces.HashLine line)
  unfolding Stays Rest
  line_follows states.Fresh lines.Include is_open s rest = rest at (omega (arith, is_open))
  line_follows states.Fresh (lines.Define name) is_open s rest = rest at (omega (arith, is_open))
  line_follows states.Fresh (lines.Directive pragma omp) is_open s rest = begin_first source at from pragma omp to
      ts is_open s.1 (rest to (to, refl, omega arith, omega arith))
  line_follows states.Fresh lines.Ignored is_open s rest = rest at (omega (arith, is_open))
  line_follows states.Taken line is_open s rest = absurd cc
  line_follows (states.Defining name) line is_open s rest = absurd cc
  line_follows states.Ignored line is_open s rest = absurd cc
  line_follows (states.Directive last) line is_open s rest = absurd cc

  piece_follows : (state : LineState) (kind : PieceKind) → Stays state kind
  unfolding Stays Rest
  piece_follows state pieces.LineFeed is_open s rest = feed_follows state is_open s rest
  piece_follows state pieces.Space is_open s rest = rest at (open_later source state at from to (omega arith) is_open)
  piece_follows state (pieces.Token kind) is_open s rest = token_follows state kind is_open s rest
  piece_follows state (pieces.HashLine line) is_open s rest = line_follows state line is_open s rest
  piece_follows state pieces.Passed is_open s rest = rest at (open_later source state at from to (omega arith) is_open)

-- the end of the source, and before it that of the directive that is open
ends_follow : (source : List ℕ) (state : LineState) (at : ℕ) → IsOpen source state at (length source)
    → Follow source (in_directive state) at (directive_end state ++ end_token source ∷ [])
ends_follow source (states.Directive last) at is_open = end_first source at is_open.0 last (end_token source ∷ [])
    is_open.1 is_open.2 (end_last source is_open.0 is_open.3)
ends_follow source states.Fresh at is_open = end_last source at is_open
ends_follow source states.Taken at is_open = end_last source at is_open
ends_follow source (states.Defining name) at is_open = end_last source at is_open
ends_follow source states.Ignored at is_open = end_last source at is_open

pieces_follow : (source : List ℕ) (context : Context) (from at : ℕ) (ps : List Piece) → Decomposes source context
    from ps (length source) → IsOpen source context.state at from
    → Follow source (in_directive context.state) at
    ((tokens_of source context from ps ++ directive_end (context_behind_all source context ps).state)
    ++ end_token source ∷ [])
unfolding Stays Rest
pieces_follow source context from at [] whole is_open = ends_follow source context.state at
    (subst (λ n. IsOpen source context.state at n) whole is_open)
pieces_follow source context from at (p ∷ ps) whole is_open =
    let next = context_behind source context p in
    let tokens = tokens_of source next p.end ps in
    let ends = directive_end (context_behind_all source next ps).state in
    let there = piece_follows source context.macros at from p.end ((tokens ++ ends) ++ end_token source ∷ [])
    (piece_moves source context from p whole.0) context.state p.kind is_open whole.0.stands
    (λ later is_later. pieces_follow source next p.end later ps whole.1 is_later) in
    let regroup = ap (λ (ts : List Token). ts ++ end_token source ∷ [])
    (append_assoc (tokens_in source context from p.end p.kind) tokens ends)
    ∙ append_assoc (tokens_in source context from p.end p.kind) (tokens ++ ends) (end_token source ∷ []) in
    subst (λ (ts : List Token). Follow source (in_directive context.state) at ts) (sym regroup) there

-- ---- the laws

all_follow : (source : List ℕ) (ts : List Token) → IsTokens source ts → Follow source false 0 ts
all_follow source ts x = subst (λ (us : List Token). Follow source false 0 us) (sym x.tokens_are)
    (pieces_follow source at_first 0 0 x.pieces x.whole (omega arith))

pub in_order : (source : List ℕ) (ts : List Token) → IsTokens source ts → AreInOrder source 0 ts
unfolding Follow
in_order source ts x = (all_follow source ts x).0

pub whole : (source : List ℕ) (ts : List Token) → IsTokens source ts → AreWhole false ts
unfolding Follow
whole source ts x = (all_follow source ts x).1

-- ---- two tokens

width_ends : (k : TokenKind) (from to : ℕ) → HasWidth k from to → from ≤ to
width_ends kinds.DirectiveEnd from to w = omega (arith, w)
width_ends kinds.End from to w = omega (arith, w)
width_ends (kinds.Name text) from to w = omega (arith, w)
width_ends (kinds.Constant value) from to w = omega (arith, w)
width_ends (kinds.Keyword k) from to w = omega (arith, w)
width_ends (kinds.Text characters) from to w = omega (arith, w)
width_ends (kinds.Punctuator p) from to w = omega (arith, w)
width_ends kinds.DirectiveBegin from to w = omega (arith, w)

width_rises : (k : TokenKind) (from to : ℕ) → k ≢ kinds.DirectiveEnd → k ≢ kinds.End → HasWidth k from to → from < to
width_rises kinds.DirectiveEnd from to no_end no_last w = absurd (no_end refl)
width_rises kinds.End from to no_end no_last w = absurd (no_last refl)
width_rises _ from to no_end no_last w = w

-- a token behind some others
behind : (source : List ℕ) (at : ℕ) (front : List Token) (t : Token) (back : List Token) → AreInOrder source at
    (front ++ t ∷ back) → (at ≤ t.span.start) × IsInPlace source t × AreInOrder source t.span.end back
unfolding AreInOrder
behind source at [] t back x = x
behind source at (s ∷ front) t back x =
    let later = behind source s.span.end front t back x.2 in
    (omega (arith, x.0, later.0, width_ends s.kind s.span.start s.span.end x.1.width), later.1, later.2)

goes_on : (inside : Bool) (k : TokenKind) (last : Type 0) (rest : Bool → Type 0) → GoesOn inside k last rest
    → ((k ≡ kinds.End) × last) ⊎ ((now : Bool) × rest now)
goes_on inside kinds.End last rest x = inl (refl, x.1)
goes_on inside kinds.DirectiveBegin last rest x = inr (true, x.1)
goes_on inside kinds.DirectiveEnd last rest x = inr (false, x.1)
goes_on inside _ last rest x = inr (inside, x)

goes_last : (inside : Bool) (k : TokenKind) (last : Type 0) (rest : Bool → Type 0) → k ≡ kinds.End → GoesOn inside k
    last rest → last
goes_last inside kinds.End last rest is x = x.1
goes_last inside _ last rest is x = absurd cc

more_left : (front : List Token) (t : Token) (back : List Token) → front ++ t ∷ back ≡ [] → ⊥
more_left [] t back none = absurd cc
more_left (s ∷ front) t back none = absurd cc

end_is_last : (inside : Bool) (front : List Token) (t : Token) (back : List Token) → AreWhole inside
    (front ++ t ∷ back) → t.kind ≡ kinds.End → back ≡ []
unfolding AreWhole
end_is_last inside [] t back x is = goes_last inside t.kind (back ≡ []) (λ now. AreWhole now back) is x
end_is_last inside (s ∷ front) t back x is = elim (goes_on inside s.kind (front ++ t ∷ back ≡ [])
    (λ now. AreWhole now (front ++ t ∷ back)) x) [
      | inl none ↦ absurd (more_left front t back none.1)
      | inr more ↦ end_is_last more.0 front t back more.1 is
    ]

pub ends_last : (source : List ℕ) (front : List Token) (t : Token) (back : List Token) → IsTokens source
    (front ++ t ∷ back) → t.kind ≡ kinds.End → back ≡ []
ends_last source front t back x is = end_is_last false front t back (whole source (front ++ t ∷ back) x) is

pub apart : (source : List ℕ) (ts : List Token) (t u : Token) → IsTokens source ts → StandsBefore ts t u
    → t.span.end ≤ u.span.start
apart source ts t u x before =
    let first = behind source 0 before.front t (before.between ++ u ∷ before.back)
    (subst (AreInOrder source 0) before.parts (in_order source ts x)) in
    (behind source t.span.end before.between u before.back first.2).0

pub starts_rise : (source : List ℕ) (ts : List Token) (t u : Token) → IsTokens source ts → StandsBefore ts t u
    → t.kind ≢ kinds.DirectiveEnd → t.span.start < u.span.start
starts_rise source ts t u x before no_end =
    let first = behind source 0 before.front t (before.between ++ u ∷ before.back)
    (subst (AreInOrder source 0) before.parts (in_order source ts x)) in
    let no_last : t.kind ≢ kinds.End = λ is. more_left before.between u before.back
    (ends_last source before.front t (before.between ++ u ∷ before.back) (subst (IsTokens source) before.parts
    x) is) in
    omega (arith, width_rises t.kind t.span.start t.span.end no_end no_last first.1.width, apart source ts t u x before)
