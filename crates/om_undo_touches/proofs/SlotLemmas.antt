-- The writes of slots, by name, with those of one slot changed.
use Rattle.std.proofs.Common.{◌≡◌, refl, sym, ◌∙◌, ap, subst, Bool, true, false, cond, ◌&&◌, nat_eq, nat_lt, ℕ, arith}
use Rattle.std.proofs.Common.{Option, None, Some, List, [], ◌∷◌, length}
use Rattle.std.specs.Prelude.{IsSome}
use Rattle.std.specs.Map.{lookup}
use Rattle.std.specs.BTreeMap.{is_at}
use Rattle.std.specs.Ordering.{is_eq, nat_cmp, ordering_then}
use Rattle.std.specs.Cmp.Lexicographic.{pointwise, slice_cmp, texts_ties}
use Rattle.std.specs.declared.cmp.Ordering.{Ordering}
use Rattle.std.specs.declared.cmp.Ordering.TheVariants.{Less, Equal, Greater}
use Rattle.std.proofs.lemmas.Bool.Decides.{nat_tests, Decides-eqb}
use Rattle.om_foot.specs.Below.{same_list, two_true, both_true}
use Rattle.om_foot.specs.declared.object.Obj.{Obj}
use Rattle.om_foot.specs.declared.object.Obj.TheVariants as object
use Rattle.om_foot.specs.declared.object.SlotName.{SlotName}
use Rattle.om_foot.specs.contracts.object.SlotNameOrd.TheImpl.{cmp-value}
use Rattle.om_undo_touches.specs.declared.spans.SpanTouches.{SpanTouches}
use Rattle.om_undo_touches.specs.declared.spans.Spans.{Spans}
use Rattle.om_undo_touches.specs.declared.slots.SlotTouches.{SlotTouches}
use Rattle.om_foot.specs.Cells.{spot_of}
use Rattle.om_undo_touches.specs.Slots.{slot_eq, has_span, spans_in, spans_of}
use Rattle.om_undo_touches.specs.Touches.{has_slot_write}

-- names of slots are told apart by `slot_eq`, as by their order

number_cmp : (x y : ℕ) → is_eq (nat_cmp x y) ≡ nat_eq x y
number_cmp x y = grind (arith, nat_tests)

then_both : (o p : Ordering) (a b : Bool) → is_eq o ≡ a → is_eq p ≡ b → is_eq (ordering_then o p) ≡ a && b
then_both Less p a b h g = ap (λ x. x && b) h
then_both Equal p a b h g = g ∙ ap (λ x. x && b) h
then_both Greater p a b h g = ap (λ x. x && b) h

pub slot_cmp : (a b : SlotName) → is_eq (cmp-value.it a b) ≡ slot_eq a b
slot_cmp a b = then_both _ _ _ _ (sym (texts_ties a.task b.task))
    (then_both _ _ _ _ (number_cmp a.frame b.frame) (number_cmp a.slot b.slot))

number_same : (x y : ℕ) → nat_eq x y ≡ true → x ≡ y
number_same x y h = (Decides-eqb x y).0 h

pub slot_eq-true : (a b : SlotName) → slot_eq a b ≡ true → a ≡ b
slot_eq-true a b h =
    let t = two_true (pointwise nat_eq a.task b.task) (nat_eq a.frame b.frame && nat_eq a.slot b.slot) h in
    let u = two_true (nat_eq a.frame b.frame) (nat_eq a.slot b.slot) t.1 in
    λ i. record {
      task = (same_list a.task b.task).0 t.0 i;
      frame = number_same a.frame b.frame u.0 i;
      slot = number_same a.slot b.slot u.1 i;
    }

pub slot_eq-same : (a : SlotName) → slot_eq a a ≡ true
slot_eq-same a = both_true _ _ ((same_list a.task a.task).1 refl)
    (both_true _ _ ((Decides-eqb a.frame a.frame).1 refl) ((Decides-eqb a.slot a.slot).1 refl))

-- a look-up by their order is one by `slot_eq`
pub lookup-slot : {X : Type 0} (a : SlotName) (es : List (SlotName × X)) → lookup (is_at (cmp-value.it a)) es
    ≡ lookup (slot_eq a) es
lookup-slot a [] = refl
lookup-slot a (e ∷ es) = ap (λ b. cond b (Some e.1) (lookup (is_at (cmp-value.it a)) es)) (slot_cmp a e.0)
    ∙ ap (λ r. cond (slot_eq a e.0) (Some e.1) r) (lookup-slot a es)

-- fs is es with w at k
abbrev pub Sets : List (SlotName × Spans) → List (SlotName × Spans) → SlotName → Spans → Type 0
Sets es fs k w = (q : SlotName) → lookup (is_at (cmp-value.it q)) fs ≡ cond (is_at (cmp-value.it k) q) (Some w)
    (lookup (is_at (cmp-value.it q)) es)

lookup-sets : (es fs : List (SlotName × Spans)) (k : SlotName) (w : Spans) → Sets es fs k w → (q : SlotName)
    → lookup (slot_eq q) fs ≡ cond (slot_eq k q) (Some w) (lookup (slot_eq q) es)
lookup-sets es fs k w h q =
    sym (lookup-slot q fs) ∙ h q ∙ ap (λ b. cond b (Some w) (lookup (is_at (cmp-value.it q)) es)) (slot_cmp k q)
    ∙ ap (λ o. cond (slot_eq k q) (Some w) o) (lookup-slot q es)

-- what a look-up found
pub spans_there : (es : List (SlotName × Spans)) (k : SlotName) (spans : Spans)
    → Some spans ≡ lookup (is_at (cmp-value.it k)) es → spans_in (lookup (slot_eq k) es) ≡ spans.spans.items
spans_there es k spans h = ap spans_in (sym (lookup-slot k es) ∙ sym h)

pub no_spans : (es : List (SlotName × Spans)) (k : SlotName)
    → None ≡ lookup (is_at (cmp-value.it k)) es → spans_in (lookup (slot_eq k) es) ≡ []
no_spans es k h = ap spans_in (sym (lookup-slot k es) ∙ sym h)

pub is_there : (es : List (SlotName × Spans)) (k : SlotName) (spans : Spans)
    → Some spans ≡ lookup (is_at (cmp-value.it k)) es → IsSome (lookup (is_at (cmp-value.it k)) es)
is_there es k spans h = subst IsSome h refl

-- a change of the writes of one slot
pub spans_set : (b e : Bool) (es fs : List (SlotName × Spans)) (k : SlotName) (w : Spans) (i s : ℕ) → Sets es fs k w
    → has_span w.spans.items i s ≡ cond e b (has_span (spans_in (lookup (slot_eq k) es)) i s)
    → (q : SlotName) → has_span (spans_in (lookup (slot_eq q) fs)) i s
    ≡ cond (slot_eq k q && e) b (has_span (spans_in (lookup (slot_eq q) es)) i s)
spans_set b e es fs k w i s sets changed q =
    ap (λ o. has_span (spans_in o) i s) (lookup-sets es fs k w sets q) ∙ go (slot_eq k q) refl
  where
    go : (same : Bool) → slot_eq k q ≡ same → has_span (spans_in (cond same (Some w) (lookup (slot_eq q) es))) i s
        ≡ cond (same && e) b (has_span (spans_in (lookup (slot_eq q) es)) i s)
    go false is = refl
    go true is =
        changed ∙ ap (λ p. cond e b (has_span (spans_in (lookup (slot_eq p) es)) i s)) (slot_eq-true k q is)

-- the writes of one slot stay in their places
pub spans_same : (es fs : List (SlotName × Spans)) (k : SlotName) (w : Spans) (i s : ℕ) → Sets es fs k w
    → has_span w.spans.items i s ≡ has_span (spans_in (lookup (slot_eq k) es)) i s
    → (q : SlotName) → has_span (spans_in (lookup (slot_eq q) fs)) i s ≡ has_span (spans_in (lookup (slot_eq q) es)) i s
spans_same es fs k w i s sets same q =
    spans_set false false es fs k w i s sets same q
    ∙ none (slot_eq k q) (has_span (spans_in (lookup (slot_eq q) es)) i s)
  where
    none : (e x : Bool) → cond (e && false) false x ≡ x
    none true x = refl
    none false x = refl

-- a slot without writes has none to take out
pub spans_unset : (es : List (SlotName × Spans)) (k : SlotName) (serial : ℕ) → spans_in (lookup (slot_eq k) es) ≡ []
    → (q : SlotName) (i s : ℕ) → has_span (spans_in (lookup (slot_eq q) es)) i s
    ≡ cond (slot_eq k q && nat_eq serial s) false (has_span (spans_in (lookup (slot_eq q) es)) i s)
spans_unset es k serial none q i s = go (slot_eq k q) refl
  where
    empty : (e x : Bool) → x ≡ false → x ≡ cond e false x
    empty true x h = h
    empty false x h = refl

    go : (same : Bool) → slot_eq k q ≡ same → has_span (spans_in (lookup (slot_eq q) es)) i s
        ≡ cond (same && nat_eq serial s) false (has_span (spans_in (lookup (slot_eq q) es)) i s)
    go false is = refl
    go true is = empty (nat_eq serial s) (has_span (spans_in (lookup (slot_eq q) es)) i s)
        (ap (λ p. has_span (spans_in (lookup (slot_eq p) es)) i s) (sym (slot_eq-true k q is))
        ∙ ap (λ xs. has_span xs i s) none)

-- the writes of a cell are those of its index
pub write_at : (slots : SlotTouches) (o : Obj) (p : SlotName × ℕ) → Some p ≡ spot_of o
    → (s : ℕ) → has_slot_write slots o s ≡ has_span (spans_of slots p.0) p.1 s
write_at slots (object.Cell t f n i) p h s =
    let is : p ≡ (record { task = t; frame = f; slot = n }, i) = cc in
    ap (λ (x : SlotName × ℕ). has_span (spans_of slots x.0) x.1 s) (sym is)
write_at slots o p h s = cc

pub no_write_at : (slots : SlotTouches) (o : Obj) → None ≡ spot_of o → (s : ℕ) → has_slot_write slots o s ≡ false
no_write_at slots (object.Cell t f n i) h s = cc
no_write_at slots o h s = refl

-- no slot has writes where none is known
pub nothing_known : (slots : SlotTouches) (o : Obj) → length slots.slots.entries ≡ 0 → (s : ℕ)
    → has_slot_write slots o s ≡ false
nothing_known slots (object.Cell t f n i) h s =
    ap (λ es. has_span (spans_in (lookup (slot_eq (record { task = t; frame = f; slot = n })) es)) i s)
    (none slots.slots.entries h)
  where
    none : (es : List (SlotName × Spans)) → length es ≡ 0 → es ≡ []
    none [] h = refl
    none (e ∷ es) h = absurd (omega (arith, h))
nothing_known slots o h s = refl
