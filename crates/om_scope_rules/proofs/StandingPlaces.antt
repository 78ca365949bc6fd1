-- At places that stand among the tokens of a source, the source has what stands there.
use Rattle.std.proofs.Common.{◌≡◌, ◌≤◌, ◌<◌, ℕ, ◌+◌, ◌-◌, List, [], ◌∷◌, All, inl, inr, length, slice_index}
use Rattle.std.proofs.Common.{slice_range, drop, min, arith, ap, sym, subst, ◌∙◌, length-take, length-drop}
use Rattle.std.proofs.lemmas.List.Elements.{All-nil, All-cons}
use Rattle.om_lexer.specs.declared.token.Span.{Span}
use Rattle.om_lexer.specs.declared.token.Token.{Token}
use Rattle.om_lexer.specs.Order.{AreInOrder, IsInPlace, StandsAs}
use Rattle.om_scope_rules.specs.TreePlaces.{AreAmong, IsTokenOf}
use Rattle.om_scope_rules.proofs.Ascending.{place_wide}
use Rattle.om_scope_rules.proofs.Rising.{wide}
use Rattle.om_scope_rules.specs.TreePlaces.{Place, Declared, Begun, StandsThere}
use Rattle.om_scope_tree.specs.declared.resolved.LocalVariable.{LocalVariable}

module _ (source : List ℕ) where
  -- tokens in order end where the source does, or before
  pub within : (from : ℕ) (ts : List Token) → AreInOrder source from ts → from ≤ length source
  unfolding AreInOrder
  within from [] order = order
  within from (t ∷ ts) order =
      let first = order.0 in
      let width = wide t.kind t.span.start t.span.end order.1.width in
      let rest = within t.span.end ts order.2 in
      omega (first, width, rest, arith)

  -- a text is as long as the bytes that it is
  sized : (text : List ℕ) (from to : ℕ) → text ≡ slice_range source from to → from < to → to ≤ length source
      → slice_range source from (from + length text) ≡ text
  sized text from to e width inside =
      let long = ap length e ∙ length-take (to - from) (drop from source) ∙ ap (min (to - from))
      (length-drop from source) in
      subst (λ end. slice_range source from end ≡ text) {x = to} {y = from + length text}
      (omega (long, width, inside, arith)) (sym e)

  -- the text of a name
  variable_stands : (v : LocalVariable) (t : Token) → IsTokenOf (Declared v) t → IsInPlace source t
      → t.span.start < t.span.end → t.span.end ≤ length source → StandsThere source (Declared v)
  variable_stands v t h place width inside =
      let text = subst (StandsAs source t.span.start t.span.end) h.0 place.stands in
      subst (λ at. slice_range source at (at + length v.name) ≡ v.name) (sym h.1)
      (sized v.name t.span.start t.span.end text width inside)

  -- the first byte of a directive
  region_stands : (at : Span) (t : Token) → IsTokenOf (Begun at) t → IsInPlace source t
      → StandsThere source (Begun at)
  region_stands at t h place =
      let hash = subst (StandsAs source t.span.start t.span.end) h.0 place.stands in
      subst (λ from. slice_index source from ≡ 35) (sym h.1) hash.0

  stands : (p : Place) (t : Token) → IsTokenOf p t → IsInPlace source t → t.span.end ≤ length source
      → StandsThere source p
  stands (Declared v) t h place inside =
      variable_stands v t h place (place_wide (Declared v) t h place.width).1 inside
  stands (Begun at) t h place inside = region_stands at t h place

  pub all_stand : (from : ℕ) (ts : List Token) (ps : List Place) → AreInOrder source from ts
      → AreAmong ps ts → All (StandsThere source) ps
  unfolding AreInOrder AreAmong
  all_stand from ts [] order h = All-nil (StandsThere source)
  all_stand from [] (p ∷ ps) order h = absurd h
  all_stand from (t ∷ ts) (p ∷ ps) order (inl h) =
      All-cons (StandsThere source) p ps (stands p t h.0 order.1 (within t.span.end ts order.2))
      (all_stand t.span.end ts ps order.2 h.1)
  all_stand from (t ∷ ts) (p ∷ ps) order (inr h) = all_stand t.span.end ts (p ∷ ps) order.2 h
