-- The bytes of places that stand among the tokens of a source rise, as these stand in order.
use Rattle.std.proofs.Common.{◌≡◌, ◌≤◌, ◌<◌, ℕ, zero, suc, ◌+◌, List, [], ◌∷◌, map, get_or, inl, inr, subst, arith}
use Rattle.std.specs.List.Sorted.{IsStrictlyIncreasing}
use Rattle.om_lexer.specs.declared.token.Token.{Token}
use Rattle.om_lexer.specs.declared.token.TokenKind.{TokenKind}
use Rattle.om_lexer.specs.declared.token.TokenKind.TheVariants as kinds
use Rattle.om_lexer.specs.Order.{AreInOrder, HasWidth}
use Rattle.om_scope_rules.specs.TreePlaces.{AreAmong, IsTokenOf}
use Rattle.om_scope_rules.proofs.Rising.{wide}
use Rattle.om_scope_rules.specs.TreePlaces.{Place, Declared, Begun, byte_of}

-- each of these is above the one before it, and the first no less than that
abbrev RisesFrom : ℕ → List ℕ → Type 0
RisesFrom least [] = Unit {0}
RisesFrom least (x ∷ xs) = (least ≤ x) × RisesFrom (suc x) xs

weaker : (least start : ℕ) (xs : List ℕ) → least ≤ start → RisesFrom start xs → RisesFrom least xs
weaker least start [] e h = tt
weaker least start (x ∷ xs) e h = (omega (h.0, arith), h.1)

increasing : (least : ℕ) (xs : List ℕ) → RisesFrom least xs → IsStrictlyIncreasing xs
increasing least [] h k within = absurd (omega arith)
increasing least (x ∷ []) h k within = absurd (omega arith)
increasing least (x ∷ y ∷ xs) h zero within = omega (h.1.0, arith)
increasing least (x ∷ y ∷ xs) h (suc k) within =
    let e : suc (k + 1) ≡ suc k + 1 = omega arith in
    subst (λ n. get_or (y ∷ xs) k 0 < get_or (x ∷ y ∷ xs) n 0) e
    (increasing (suc x) (y ∷ xs) h.1 k (omega (within, arith)))

-- names and beginnings of directives have a width
named_wide : (k : TokenKind) (text : List ℕ) (from to : ℕ) → k ≡ kinds.Name text → HasWidth k from to → from < to
named_wide k text from to e h = subst (λ kind. HasWidth kind from to) e h

begin_wide : (k : TokenKind) (from to : ℕ) → k ≡ kinds.DirectiveBegin → HasWidth k from to → from < to
begin_wide k from to e h = subst (λ kind. HasWidth kind from to) e h

-- so has what stands at a place
pub place_wide : (p : Place) (t : Token) → IsTokenOf p t → HasWidth t.kind t.span.start t.span.end
    → (byte_of p ≡ t.span.start) × (t.span.start < t.span.end)
place_wide (Declared v) t h width = (h.1, named_wide t.kind v.name t.span.start t.span.end h.0 width)
place_wide (Begun at) t h width = (h.1, begin_wide t.kind t.span.start t.span.end h.0 width)

rises_from : (source : List ℕ) (from : ℕ) (ts : List Token) (ps : List Place) → AreInOrder source from ts
    → AreAmong ps ts → RisesFrom from (map byte_of ps)
unfolding AreInOrder AreAmong
rises_from source from ts [] order h = tt
rises_from source from [] (p ∷ ps) order h = absurd h
rises_from source from (t ∷ ts) (p ∷ ps) order (inl h) =
    let first = order.0 in
    let there = place_wide p t h.0 order.1.width in
    let place = there.0 in
    let width = there.1 in
    let rest = rises_from source t.span.end ts ps order.2 h.1 in
    let above : suc (byte_of p) ≤ t.span.end = omega (width, place, arith) in
    (omega (first, place, arith), weaker (suc (byte_of p)) t.span.end (map byte_of ps) above rest)
rises_from source from (t ∷ ts) (p ∷ ps) order (inr h) =
    let width = wide t.kind t.span.start t.span.end order.1.width in
    let first = order.0 in
    weaker from t.span.end (map byte_of (p ∷ ps)) (omega (first, width, arith))
    (rises_from source t.span.end ts (p ∷ ps) order.2 h)

pub places_rise : (source : List ℕ) (ts : List Token) (ps : List Place) → AreInOrder source 0 ts
    → AreAmong ps ts → IsStrictlyIncreasing (map byte_of ps)
places_rise source ts ps order h = increasing 0 (map byte_of ps) (rises_from source 0 ts ps order h)
