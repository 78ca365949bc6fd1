-- Places at which tokens stand, in the order of these.
use Rattle.std.proofs.Common.{List, [], ◌∷◌, ◌++◌, inl, inr, refl}
use Rattle.om_lexer.specs.declared.token.Token.{Token}
use Rattle.om_lexer.specs.declared.token.TokenKind.TheVariants as kinds
use Rattle.om_lexer.specs.declared.token.Span.{Span}
use Rattle.om_scope_rules.specs.TreePlaces.{Place, Declared, Begun, AreAmong}
use Rattle.om_pragma.specs.declared.clause.Name as names
use Rattle.om_scope_rules.specs.StatementResolution.{local_of}
use Rattle.om_parser_tree.specs.Spelling.{name, token}

pub none : (ts : List Token) → AreAmong [] ts
unfolding AreAmong
none ts = tt

-- behind a token
pub further : (ps : List Place) (t : Token) (ts : List Token) → AreAmong ps ts → AreAmong ps (t ∷ ts)
unfolding AreAmong
further [] t ts h = tt
further (p ∷ ps) t ts h = inr h

-- behind tokens
pub behind : (ps : List Place) (front back : List Token) → AreAmong ps back → AreAmong ps (front ++ back)
behind ps [] back h = h
behind ps (t ∷ front) back h = further ps t (front ++ back) (behind ps front back h)

-- before tokens
pub before : (ps : List Place) (front back : List Token) → AreAmong ps front → AreAmong ps (front ++ back)
unfolding AreAmong
before [] front back h = tt
before (p ∷ ps) [] back h = absurd h
before (p ∷ ps) (t ∷ front) back (inl h) = inl (h.0, before ps front back h.1)
before (p ∷ ps) (t ∷ front) back (inr h) = inr (before (p ∷ ps) front back h)

-- two parts, one behind the other
pub together : (ps qs : List Place) (front back : List Token) → AreAmong ps front → AreAmong qs back
    → AreAmong (ps ++ qs) (front ++ back)
unfolding AreAmong
together [] qs front back h more = behind qs front back more
together (p ∷ ps) qs [] back h more = absurd h
together (p ∷ ps) qs (t ∷ front) back (inl h) more = inl (h.0, together ps qs front back h.1 more)
together (p ∷ ps) qs (t ∷ front) back (inr h) more = inr (together (p ∷ ps) qs front back h more)

-- a name is that of its own variable, before those behind it
pub named : (n : names.Name) (ps : List Place) (ts : List Token) → AreAmong ps ts
    → AreAmong (Declared (local_of n) ∷ ps) (name n ∷ ts)
unfolding AreAmong
named n ps ts h = inl ((refl, refl), h)

-- so is the beginning of a directive
pub begun : (at : Span) (ps : List Place) (ts : List Token) → AreAmong ps ts
    → AreAmong (Begun at ∷ ps) (token kinds.DirectiveBegin at ∷ ts)
unfolding AreAmong
begun at ps ts h = inl ((refl, refl), h)
