-- The tokens of a source start one behind the other.
use Rattle.std.proofs.Common.{ℕ, ◌≤◌, List, [], ◌∷◌, ◌++◌, arith}
use Rattle.om_lexer.specs.declared.token.Token.{Token}
use Rattle.om_lexer.specs.declared.token.TokenKind.{TokenKind}
use Rattle.om_lexer.specs.declared.token.TokenKind.TheVariants as kinds
use Rattle.om_lexer.specs.Order.{AreInOrder, HasWidth}

-- each of these tokens starts there or further on
abbrev pub StartBehind : ℕ → List Token → Type 0
StartBehind start [] = Unit {0}
StartBehind start (t ∷ ts) = (start ≤ t.span.start) × StartBehind start ts

-- each token starts no later than those behind it
abbrev pub Rises : List Token → Type 0
Rises [] = Unit {0}
Rises (t ∷ ts) = StartBehind t.span.start ts × Rises ts

pub behind_front : (start : ℕ) (ts us : List Token) → StartBehind start (ts ++ us) → StartBehind start ts
behind_front start [] us h = tt
behind_front start (t ∷ ts) us h = (h.0, behind_front start ts us h.1)

pub behind_back : (start : ℕ) (ts us : List Token) → StartBehind start (ts ++ us) → StartBehind start us
behind_back start [] us h = h
behind_back start (t ∷ ts) us h = behind_back start ts us h.1

pub rises_front : (ts us : List Token) → Rises (ts ++ us) → Rises ts
rises_front [] us h = tt
rises_front (t ∷ ts) us h = (behind_front t.span.start ts us h.0, rises_front ts us h.1)

pub rises_back : (ts us : List Token) → Rises (ts ++ us) → Rises us
rises_back [] us h = h
rises_back (t ∷ ts) us h = rises_back ts us h.1

-- ---- tokens in order

pub wide : (k : TokenKind) (from to : ℕ) → HasWidth k from to → from ≤ to
wide kinds.DirectiveEnd from to h = omega arith
wide kinds.End from to h = omega arith
wide kinds.DirectiveBegin from to h = omega arith
wide (kinds.Name text) from to h = omega arith
wide (kinds.Constant value) from to h = omega arith
wide (kinds.Keyword k) from to h = omega arith
wide (kinds.Punctuator p) from to h = omega arith
wide (kinds.Text characters) from to h = omega arith

weaker : (least start : ℕ) (ts : List Token) → least ≤ start → StartBehind start ts → StartBehind least ts
weaker least start [] e h = tt
weaker least start (t ∷ ts) e h = (omega (h.0, arith), weaker least start ts e h.1)

rises_from : (source : List ℕ) (from : ℕ) (ts : List Token) → AreInOrder source from ts → StartBehind from ts × Rises ts
unfolding AreInOrder
rises_from source from [] h = (tt, tt)
rises_from source from (t ∷ ts) h =
    let width = wide t.kind t.span.start t.span.end h.1.width in
    let behind = rises_from source t.span.end ts h.2 in
    let first = h.0 in (
      (first, weaker from t.span.end ts (omega arith) behind.0),
      (weaker t.span.start t.span.end ts width behind.0, behind.1),
    )

pub rises : (source : List ℕ) (ts : List Token) → AreInOrder source 0 ts → Rises ts
rises source ts h = (rises_from source 0 ts h).1
