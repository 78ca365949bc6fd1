-- The values of slots' cells: what is put at one of them, and at the first of a slot.
use Rattle.std.proofs.Common.{◌≡◌, ◌≢◌, refl, sym, ◌∙◌, ap, subst, arith, ℕ, zero, suc, ◌+◌, ◌-◌, ◌<◌, ◌≤◌}
use Rattle.std.proofs.Common.{Bool, true, false, cond, ◌&&◌, nat_eq, Option, None, Some, List, [], ◌∷◌, ◌++◌, length, set}
use Rattle.std.proofs.Common.{Bor}
use Rattle.std.proofs.Math.Path.{fun_ext}
use Rattle.std.proofs.lemmas.Bool.{eqb-false}
use Rattle.std.proofs.lemmas.Bool.Decides.{Decides-eqb}
use Rattle.std.proofs.lemmas.List.{append_assoc}
use Rattle.std.specs.Prelude.{slice_get, is_some, IsSome, unwrap_or}
use Rattle.std.specs.Option.{option_copied}
use Rattle.std.specs.Ordering.{is_eq, nat_cmp, ordering_then}
use Rattle.std.specs.declared.cmp.Ordering.{Ordering}
use Rattle.std.specs.declared.cmp.Ordering.TheVariants.{Less, Equal, Greater}
use Rattle.std.specs.Cmp.Lexicographic.{slice_cmp, texts_ties, pointwise}
use Rattle.om_foot.specs.declared.object.Obj.{Obj}
use Rattle.om_foot.specs.declared.object.Obj.TheVariants as obj
use Rattle.om_foot.specs.declared.footprint.Access.{Access}
use Rattle.om_foot.specs.Footprint.{obj_eq}
use Rattle.om_foot.specs.Objects.{obj_eq-true, cmp-is_eq}
use Rattle.om_foot.specs.Below.{same_list, two_true, both_true}
use Rattle.om_foot.specs.declared.object.SlotName.{SlotName}
use Rattle.om_foot.specs.declared.object.Cells.{Cells}
use Rattle.om_state.specs.declared.step.Update.{Update}
use Rattle.om_state.specs.declared.step.Update.TheVariants.{Put}
use Rattle.om_state.specs.declared.value.Val.{Val}
use Rattle.om_state.specs.State.{State, with_value, updated}
use Rattle.om_state.specs.Values.{default_of}
use Rattle.om_foot.specs.Cells.{Spot, cell_at, spot_of, cells_from, cells_of}
use Rattle.om_cells.specs.Slots.{Slots, same_slot, values_in, value_among, value_in, slot_value}
use Rattle.om_cells.specs.Slots.{value_with, kept_over, values_of, Replaces, PutsIn, unset, Grows, SlotsGrow, KeepsCells}
use Rattle.om_cells.specs.Slots.{HasCells, Mirrors, Leads, ReplacesAll, olds, reset, ResetsIn}
use Rattle.om_cells.proofs.StoreLemmas.{Kept, held}

-- names of slots

then_is : (o p : Ordering) → is_eq (ordering_then o p) ≡ is_eq o && is_eq p
then_is Less p = refl
then_is Equal p = refl
then_is Greater p = refl

regroup : (a b c d : Bool) → (a && (b && c)) && d ≡ a && (b && (c && d))
regroup true true c d = refl
regroup true false c d = refl
regroup false b c d = refl

nat_is : (m n : ℕ) → is_eq (nat_cmp m n) ≡ nat_eq m n
nat_is m n = cmp-is_eq (obj.Control m) (obj.Control n)

three : (a a2 b b2 c c2 : Bool) → a ≡ a2 → b ≡ b2 → c ≡ c2 → a && (b && c) ≡ a2 && (b2 && c2)
three a a2 b b2 c c2 h g k = λ i. h i && (g i && k i)

by_fields : (a b : SlotName) → same_slot a b
    ≡ pointwise nat_eq a.task b.task && (nat_eq a.frame b.frame && nat_eq a.slot b.slot)
by_fields a b =
    then_is (slice_cmp nat_cmp a.task b.task) (ordering_then (nat_cmp a.frame b.frame) (nat_cmp a.slot b.slot))
    ∙ ap (λ x. is_eq (slice_cmp nat_cmp a.task b.task) && x) (then_is (nat_cmp a.frame b.frame) (nat_cmp a.slot b.slot))
    ∙ three _ _ _ _ _ _ (sym (texts_ties a.task b.task)) (nat_is a.frame b.frame) (nat_is a.slot b.slot)

nat_same : (x y : ℕ) → nat_eq x y ≡ true → x ≡ y
nat_same x y h = (Decides-eqb x y).0 h

nat_self : (x : ℕ) → nat_eq x x ≡ true
nat_self x = (Decides-eqb x x).1 refl

pub slot_is : (a b : SlotName) → same_slot a b ≡ true → a ≡ b
slot_is a b h =
    let t = two_true (pointwise nat_eq a.task b.task) (nat_eq a.frame b.frame && nat_eq a.slot b.slot)
    (sym (by_fields a b) ∙ h) in
    let u = two_true (nat_eq a.frame b.frame) (nat_eq a.slot b.slot) t.1 in
    λ i. record {
      task = (same_list a.task b.task).0 t.0 i;
      frame = nat_same a.frame b.frame u.0 i;
      slot = nat_same a.slot b.slot u.1 i;
    }

pub same_slot-self : (a : SlotName) → same_slot a a ≡ true
same_slot-self a = by_fields a a ∙ both_true _ _ ((same_list a.task a.task).1 refl)
    (both_true _ _ (nat_self a.frame) (nat_self a.slot))

-- whether a place is at an index of a slot
abbrev pub at_spot : SlotName → ℕ → Option Spot → Bool
at_spot slot i None = false
at_spot slot i (Some p) = same_slot slot p.0 && nat_eq i p.1

same_cell : (slot : SlotName) (i : ℕ) (q : Obj) → obj_eq (cell_at slot i) q ≡ at_spot slot i (spot_of q)
same_cell slot i (obj.Cell t f s j) =
    let other : SlotName = record { task = t; frame = f; slot = s } in
    sym (ap (λ b. b && nat_eq i j) (by_fields slot other)
    ∙ regroup (pointwise nat_eq slot.task t) (nat_eq slot.frame f) (nat_eq slot.slot s) (nat_eq i j))
same_cell slot i _ = refl

abbrev object_at : Option Spot → Obj
object_at None = obj.Output
object_at (Some p) = cell_at p.0 p.1

pub spot_is : (q : Obj) (slot : SlotName) (i : ℕ) → spot_of q ≡ Some (slot, i) → cell_at slot i ≡ q
spot_is (obj.Cell t f s j) slot i h = sym (ap object_at h)
spot_is _ slot i h = cc

-- a value that is put at an index

get_put : {A : Type 0} (xs : List A) (i : ℕ) (v : A) → i < length xs → slice_get (set xs i v) i ≡ Some v
get_put [] i v h = absurd (omega arith)
get_put (x ∷ xs) zero v h = refl
get_put (x ∷ xs) (suc i) v h = get_put xs i v (omega arith)

get_other : {A : Type 0} (xs : List A) (i j : ℕ) (v : A) → j ≢ i → slice_get (set xs i v) j ≡ slice_get xs j
get_other [] i j v h = refl
get_other (x ∷ xs) zero zero v h = absurd (h refl)
get_other (x ∷ xs) zero (suc j) v h = refl
get_other (x ∷ xs) (suc i) zero v h = refl
get_other (x ∷ xs) (suc i) (suc j) v h = get_other xs i j v (λ e. h (ap suc e))

get_set : (vs : List Val) (i j : ℕ) (v : Val) → i < length vs
    → slice_get (set vs i v) j ≡ cond (nat_eq i j) (Some v) (slice_get vs j)
get_set vs i j v h = go (nat_eq i j) refl
  where
    go : (b : Bool) → nat_eq i j ≡ b → slice_get (set vs i v) j ≡ cond b (Some v) (slice_get vs j)
    go true e = subst (λ k. slice_get (set vs i v) k ≡ Some v) (nat_same i j e) (get_put vs i v h)
    go false e = get_other vs i j v (λ x. eqb-false i j e (sym x))

pub put_with : (slot : SlotName) (vs : List Val) (es : Slots) (i : ℕ) (v : Val) → i < length vs → (o : Option Spot)
    → value_with slot (set vs i v) es o ≡ cond (at_spot slot i o) (Some v) (value_with slot vs es o)
put_with slot vs es i v h None = refl
put_with slot vs es i v h (Some p) = go (same_slot slot p.0)
  where
    go : (b : Bool) → value_among (cond b (Some (set vs i v)) (values_in es p.0)) p.1
        ≡ cond (b && nat_eq i p.1) (Some v) (value_among (cond b (Some vs) (values_in es p.0)) p.1)
    go true = get_set vs i p.1 v h
    go false = refl

-- the same by objects
pub put_cell : (slot : SlotName) (vs : List Val) (es : Slots) (i : ℕ) (v : Val) → i < length vs → (q : Obj)
    → value_with slot (set vs i v) es (spot_of q)
    ≡ cond (obj_eq (cell_at slot i) q) (Some v) (value_with slot vs es (spot_of q))
put_cell slot vs es i v h q = put_with slot vs es i v h (spot_of q)
    ∙ ap (λ b. cond b (Some v) (value_with slot vs es (spot_of q))) (sym (same_cell slot i q))

-- slots with other values in one of them

pub replaced_at : (slot : SlotName) (ws : List Val) (es fs : Slots) → Replaces slot ws es fs → (q : Obj)
    → slot_value fs q ≡ value_with slot ws es (spot_of q)
replaced_at slot ws es fs h q = go (spot_of q)
  where
    go : (o : Option Spot) → value_in fs o ≡ value_with slot ws es o
    go None = refl
    go (Some p) = ap (λ x. value_among x p.1) (h p.0)

pub own_at : (slot : SlotName) (vs : List Val) (es : Slots) → values_in es slot ≡ Some vs → (q : Obj)
    → slot_value es q ≡ value_with slot vs es (spot_of q)
own_at slot vs es there q = go (spot_of q)
  where
    at : (p : Spot) (b : Bool) → same_slot slot p.0 ≡ b
        → value_among (values_in es p.0) p.1 ≡ value_among (cond b (Some vs) (values_in es p.0)) p.1
    at p true e = ap (λ x. value_among x p.1) (ap (values_in es) (sym (slot_is slot p.0 e)) ∙ there)
    at p false e = refl

    go : (o : Option Spot) → value_in es o ≡ value_with slot vs es o
    go None = refl
    go (Some p) = at p (same_slot slot p.0) refl

-- a value at one cell
pub puts_in : (slot : SlotName) (vs : List Val) (es fs : Slots) (i : ℕ) (v : Val) → values_in es slot ≡ Some vs
    → i < length vs → Replaces slot (set vs i v) es fs → PutsIn (cell_at slot i) v es fs
puts_in slot vs es fs i v there h replaces q =
    replaced_at slot (set vs i v) es fs replaces q ∙ put_cell slot vs es i v h q
    ∙ ap (λ o. cond (obj_eq (cell_at slot i) q) (Some v) o) (sym (own_at slot vs es there q))

-- the same values
pub same_in : (slot : SlotName) (vs ws : List Val) (es fs : Slots) → values_in es slot ≡ Some vs → ws ≡ vs
    → Replaces slot ws es fs → (q : Obj) → slot_value fs q ≡ slot_value es q
same_in slot vs ws es fs there same replaces q = replaced_at slot ws es fs replaces q
    ∙ ap (λ x. value_with slot x es (spot_of q)) same ∙ sym (own_at slot vs es there q)

-- a slot without values that gets to be known
pub known_in : (slot : SlotName) (ws : List Val) (es fs : Slots) → ws ≡ [] → is_some (values_in es slot) ≡ false
    → Replaces slot ws es fs → (q : Obj) → slot_value fs q ≡ slot_value es q
known_in slot ws es fs none absent replaces q = replaced_at slot ws es fs replaces q
    ∙ ap (λ x. value_with slot x es (spot_of q)) none ∙ go (spot_of q)
  where
    missing : (o : Option (List Val)) (i : ℕ) → is_some o ≡ false → None ≡ value_among o i
    missing None i e = refl
    missing (Some vs) i e = cc

    at : (p : Spot) (b : Bool) → same_slot slot p.0 ≡ b
        → value_among (cond b (Some []) (values_in es p.0)) p.1 ≡ value_among (values_in es p.0) p.1
    at p true e = missing (values_in es p.0) p.1
        (ap (λ x. is_some (values_in es x)) (sym (slot_is slot p.0 e)) ∙ absent)
    at p false e = refl

    go : (o : Option Spot) → value_with slot [] es o ≡ value_in es o
    go None = refl
    go (Some p) = at p (same_slot slot p.0) refl

pub known_there : (slot : SlotName) (ws : List Val) (es fs : Slots) → Replaces slot ws es fs
    → values_in fs slot ≡ Some ws
known_there slot ws es fs replaces = replaces slot
    ∙ ap (λ b. cond b (Some ws) (values_in es slot)) (same_slot-self slot)

-- more values
pub grows_in : (slot : SlotName) (vs ws : List Val) (es fs : Slots) → values_in es slot ≡ Some vs → Grows vs ws
    → Replaces slot ws es fs → SlotsGrow es fs
grows_in slot vs ws es fs there grows replaces = record {
  holds = λ q. ap (λ o. unwrap_or o (default_of q)) (replaced_at slot ws es fs replaces q)
      ∙ holds q ∙ ap (λ o. unwrap_or o (default_of q)) (sym (own_at slot vs es there q));
  keeps = λ q kept. ap is_some (replaced_at slot ws es fs replaces q)
      ∙ keeps (spot_of q) (ap is_some (sym (own_at slot vs es there q)) ∙ kept);
}
  where
    more : (p : Spot) (b : Bool) → unwrap_or (value_among (cond b (Some ws) (values_in es p.0)) p.1) unset
        ≡ unwrap_or (value_among (cond b (Some vs) (values_in es p.0)) p.1) unset
    more p true = grows.holds p.1
    more p false = refl

    holds : (q : Obj) → unwrap_or (value_with slot ws es (spot_of q)) (default_of q)
        ≡ unwrap_or (value_with slot vs es (spot_of q)) (default_of q)
    holds (obj.Cell t f s i) = more (record { task = t; frame = f; slot = s }, i)
        (same_slot slot (record { task = t; frame = f; slot = s }))
    holds _ = refl

    too : (p : Spot) (b : Bool) → is_some (value_among (cond b (Some vs) (values_in es p.0)) p.1) ≡ true
        → is_some (value_among (cond b (Some ws) (values_in es p.0)) p.1) ≡ true
    too p true = grows.keeps p.1
    too p false = λ h. h

    keeps : (o : Option Spot) → is_some (value_with slot vs es o) ≡ true → is_some (value_with slot ws es o) ≡ true
    keeps None h = h
    keeps (Some p) h = too p (same_slot slot p.0) h

within_some : {A : Type 0} (xs : List A) (i : ℕ) → i < length xs → is_some (slice_get xs i) ≡ true
within_some [] i h = absurd (omega arith)
within_some (x ∷ xs) zero h = refl
within_some (x ∷ xs) (suc i) h = within_some xs i (omega arith)

pub some_within : {A : Type 0} (xs : List A) (i : ℕ) → is_some (slice_get xs i) ≡ true → i < length xs
some_within [] i h = cc
some_within (x ∷ xs) zero h = omega arith
some_within (x ∷ xs) (suc i) h = omega (arith, some_within xs i h)

-- the first cells of a slot that has as many values
pub keeps_first : (c : Cells) (ws : List Val) (fs : Slots) → values_in fs c.slot ≡ Some ws → c.count ≤ length ws
    → KeepsCells (λ q. is_some (slot_value fs q)) c
keeps_first c ws fs there enough i h = ap (λ o. is_some (value_among o i)) there
    ∙ within_some ws i (omega (arith, h, enough))

-- what a look-up found
pub get_through : (es : Slots) (q : Obj) (o : Option Spot) (slot : SlotName) (i : ℕ) (r : Option (Bor (List Val)))
    (vs : Bor (List Val)) → o ≡ spot_of q → o ≡ Some (slot, i) → option_copied r ≡ values_in es slot → r ≡ Some vs
    → slice_get vs.now i ≡ slot_value es q
get_through es q o slot i r vs spot is found there =
    ap (λ x. value_among x i) (sym (ap option_copied there) ∙ found)
    ∙ ap (value_in es) (sym is ∙ spot)

-- more values behind the others

grows_push : (vs : List Val) (i : ℕ) → unwrap_or (slice_get (vs ++ unset ∷ []) i) unset ≡ unwrap_or (slice_get vs i) unset
grows_push [] zero = refl
grows_push [] (suc i) = refl
grows_push (v ∷ vs) zero = refl
grows_push (v ∷ vs) (suc i) = grows_push vs i

keeps_push : (vs : List Val) (i : ℕ) → is_some (slice_get vs i) ≡ true → is_some (slice_get (vs ++ unset ∷ []) i) ≡ true
keeps_push [] i h = cc
keeps_push (v ∷ vs) zero h = refl
keeps_push (v ∷ vs) (suc i) h = keeps_push vs i h

pub grows_more : (us vs ws : List Val) → Grows us vs → ws ≡ vs ++ unset ∷ [] → Grows us ws
grows_more us vs ws grows is = subst (Grows us) (sym is) (record {
  holds = λ i. grows_push vs i ∙ grows.holds i;
  keeps = λ i h. keeps_push vs i (grows.keeps i h);
})

pub grows_none : (us : List Val) → Grows us us
grows_none us = record { holds = λ i. refl; keeps = λ i h. h }

-- puts in turn

one_less : (n size : ℕ) → n < size → size - n ≡ suc (size - (n + 1))
one_less n size h = omega arith

pub leads_one : (slot : SlotName) (index count : ℕ) (v : Val) (s t : State) → index < count
    → t ≡ with_value (cell_at slot index) v s → Leads (Put v ∷ []) slot count index (index + 1) s t
leads_one slot index count v s t h is more =
    ap (updated (cells_from slot (index + 1) (count - (index + 1))) more) is
    ∙ ap (λ k. updated (cells_from slot index k) (Put v ∷ more) s) (sym (one_less index count h))

none_left : (n size : ℕ) → size ≤ n → size - n ≡ 0
none_left n size h = omega arith

pub leads_none : (slot : SlotName) (index count : ℕ) (us : List Update) (s : State) → count ≤ index
    → Leads us slot count index index s s
leads_none slot index count us s h more =
    ap (λ k. updated (cells_from slot index k) more s) (none_left index count h)
    ∙ sym (ap (λ k. updated (cells_from slot index k) (us ++ more) s) (none_left index count h))

pub leads_then : (us vs : List Update) (slot : SlotName) (count a b c : ℕ) (s t u : State)
    → Leads us slot count a b s t → Leads vs slot count b c t u → Leads (us ++ vs) slot count a c s u
leads_then us vs slot count a b c s t u first second more = second more ∙ first (vs ++ more)
    ∙ ap (λ x. updated (cells_from slot a (count - a)) x s) (sym (append_assoc us vs more))

pub no_updates : (accesses : List Access) (s : State) → updated accesses [] s ≡ s
no_updates [] s = refl
no_updates (a ∷ rest) s = refl

-- what is noted

pub olds_past : (us : List Update) (slot : SlotName) (i count : ℕ) (s : State) (v : Val) → i < count
    → s (cell_at slot i) ≡ v
    → (us ++ Put v ∷ []) ++ olds slot (i + 1) (count - (i + 1)) s ≡ us ++ olds slot i (count - i) s
olds_past us slot i count s v h is = append_assoc us (Put v ∷ []) _
    ∙ ap (λ x. us ++ Put x ∷ olds slot (i + 1) (count - (i + 1)) s) (sym is)
    ∙ ap (λ k. us ++ olds slot i k s) (sym (one_less i count h))

-- A store by the values of a slot's first cells, none of which is kept by itself.

over_dense : (b : Bool) (v d : Val) (x y : Option Val) → (b ≡ true → y ≡ None)
    → unwrap_or (kept_over (cond b (Some v) x) y) d ≡ cond b v (unwrap_or (kept_over x y) d)
over_dense true v d x y h = ap (λ o. unwrap_or o v) (h refl)
over_dense false v d x y h = refl

pub mirrors : (slot : SlotName) (count : ℕ) (es : Slots) (ks : Kept)
    → ((i : ℕ) → i < count → ks (cell_at slot i) ≡ None)
    → Mirrors slot count (λ ws. held (λ q. kept_over (value_with slot ws es (spot_of q)) (ks q)))
mirrors slot count es ks alone = record {
  has = λ i h vs v is.
      ap (λ b. unwrap_or (kept_over (value_among (cond b (Some vs) (values_in es slot)) i) (ks (cell_at slot i)))
      (default_of (cell_at slot i))) (same_slot-self slot)
      ∙ ap (λ o. unwrap_or (kept_over o (ks (cell_at slot i))) unset) is
      ∙ ap (λ o. unwrap_or o v) (alone i h);
  puts = λ i h vs within v. fun_ext λ q.
      ap (λ o. unwrap_or (kept_over o (ks q)) (default_of q)) (put_cell slot vs es i v within q)
      ∙ over_dense (obj_eq (cell_at slot i) q) v (default_of q) (value_with slot vs es (spot_of q)) (ks q)
      (λ e. ap ks (sym (obj_eq-true (cell_at slot i) q e)) ∙ alone i h);
}

pub slot_found : (es : Slots) (slot : SlotName) (vs : List Val) → Some vs ≡ values_in es slot
    → IsSome (values_in es slot)
slot_found es slot vs h = subst IsSome h refl

-- all that is put into the first cells of a slot

some_there : (o : Option (List Val)) → is_some o ≡ true → o ≡ Some (unwrap_or o [])
some_there None h = cc
some_there (Some vs) h = refl

own_state : (c : Cells) (es : Slots) (ks : Kept) → HasCells c es
    → held (λ q. kept_over (value_with c.slot (values_of es c.slot) es (spot_of q)) (ks q))
    ≡ held (λ q. kept_over (slot_value es q) (ks q))
own_state c es ks has = fun_ext λ q. ap (λ o. unwrap_or (kept_over o (ks q)) (default_of q))
    (sym (own_at c.slot (values_of es c.slot) es (some_there (values_in es c.slot) has.known) q))

pub written_in : (c : Cells) (us : List Update) (es fs : Slots) (ks : Kept) → HasCells c es → ReplacesAll c us es fs
    → ((i : ℕ) → i < c.count → ks (cell_at c.slot i) ≡ None)
    → held (λ q. kept_over (slot_value fs q) (ks q))
    ≡ updated (cells_of c) us (held (λ q. kept_over (slot_value es q) (ks q)))
written_in c us es fs ks has replaces alone =
    (fun_ext λ q. ap (λ o. unwrap_or (kept_over o (ks q)) (default_of q))
    (replaced_at c.slot (values_of fs c.slot) es fs replaces.replaced q))
    ∙ replaces.written c.slot (λ ws. held (λ q. kept_over (value_with c.slot ws es (spot_of q)) (ks q)))
    (mirrors c.slot c.count es ks alone)
    ∙ ap (updated (cells_of c) us) (own_state c es ks has)

same_there : (vs ws : List Val) → length ws ≡ length vs → (i : ℕ) → is_some (slice_get ws i) ≡ is_some (slice_get vs i)
same_there [] [] h i = refl
same_there [] (w ∷ ws) h i = absurd (omega (arith, h))
same_there (v ∷ vs) [] h i = absurd (omega (arith, h))
same_there (v ∷ vs) (w ∷ ws) h zero = refl
same_there (v ∷ vs) (w ∷ ws) h (suc i) = same_there vs ws (omega (arith, h)) i

pub same_places : (c : Cells) (us : List Update) (es fs : Slots) → HasCells c es → ReplacesAll c us es fs → (q : Obj)
    → is_some (slot_value fs q) ≡ is_some (slot_value es q)
same_places c us es fs has replaces q =
    ap is_some (replaced_at c.slot (values_of fs c.slot) es fs replaces.replaced q)
    ∙ go (spot_of q)
    ∙ ap is_some (sym (own_at c.slot (values_of es c.slot) es (some_there (values_in es c.slot) has.known) q))
  where
    at : (p : Spot) (b : Bool) → is_some (value_among (cond b (Some (values_of fs c.slot)) (values_in es p.0)) p.1)
        ≡ is_some (value_among (cond b (Some (values_of es c.slot)) (values_in es p.0)) p.1)
    at p true = same_there (values_of es c.slot) (values_of fs c.slot) replaces.same_length p.1
    at p false = refl

    go : (o : Option Spot) → is_some (value_with c.slot (values_of fs c.slot) es o)
        ≡ is_some (value_with c.slot (values_of es c.slot) es o)
    go None = refl
    go (Some p) = at p (same_slot c.slot p.0)

pub noted_in : (c : Cells) (es : Slots) (ks : Kept) (vs : List Val) (us : List Update) → HasCells c es
    → vs ≡ values_of es c.slot → ((i : ℕ) → i < c.count → ks (cell_at c.slot i) ≡ None)
    → ((slot : SlotName) (s : List Val → State) → Mirrors slot c.count s → us ≡ olds slot 0 c.count (s vs))
    → us ≡ olds c.slot 0 c.count (held (λ q. kept_over (slot_value es q) (ks q)))
noted_in c es ks vs us has is alone noted =
    noted c.slot (λ ws. held (λ q. kept_over (value_with c.slot ws es (spot_of q)) (ks q)))
    (mirrors c.slot c.count es ks alone)
    ∙ ap (λ ws. olds c.slot 0 c.count (held (λ q. kept_over (value_with c.slot ws es (spot_of q)) (ks q)))) is
    ∙ ap (olds c.slot 0 c.count) (own_state c es ks has)

-- the default at an object that is kept no longer by itself

-- what is kept in a slot is kept at a cell
slot_default : (es : Slots) (q : Obj) (v : Val) → slot_value es q ≡ Some v → default_of q ≡ unset
slot_default es (obj.Cell t f s i) v h = refl
slot_default es _ v h = cc

removed_at : (b : Bool) (old new single alone : Option Val) (d e : Val) → (b ≡ true → d ≡ e)
    → ((v : Val) → old ≡ Some v → e ≡ unset) → new ≡ cond b (reset old) old → alone ≡ cond b None single
    → unwrap_or (kept_over new alone) e ≡ cond b d (unwrap_or (kept_over old single) e)
removed_at false old new single alone d e same default there kept =
    ap (λ o. unwrap_or (kept_over o alone) e) there ∙ ap (λ o. unwrap_or (kept_over old o) e) kept
removed_at true None new single alone d e same default there kept =
    ap (λ o. unwrap_or (kept_over o alone) e) there ∙ ap (λ o. unwrap_or o e) kept ∙ sym (same refl)
removed_at true (Some v) new single alone d e same default there kept =
    ap (λ o. unwrap_or (kept_over o alone) e) there ∙ ap (λ o. unwrap_or (kept_over (Some unset) o) e) kept
    ∙ sym (default v refl) ∙ sym (same refl)

pub held-removed : (k : Obj) (old new : Slots) (single alone : Kept) → ResetsIn k old new
    → ((q : Obj) → alone q ≡ cond (obj_eq k q) None (single q))
    → held (λ q. kept_over (slot_value new q) (alone q))
    ≡ with_value k (default_of k) (held (λ q. kept_over (slot_value old q) (single q)))
held-removed k old new single alone resets forgets = fun_ext λ q.
    removed_at (obj_eq k q) (slot_value old q) (slot_value new q) (single q) (alone q) (default_of k) (default_of q)
    (λ e. ap default_of (obj_eq-true k q e)) (slot_default old q) (resets q) (forgets q)

others_at : (b : Bool) (old new single alone : Option Val) → b ≢ true → new ≡ cond b (reset old) old
    → alone ≡ cond b None single → is_some (kept_over new alone) ≡ is_some (kept_over old single)
others_at true old new single alone other there kept = absurd (other refl)
others_at false old new single alone other there kept = λ i. is_some (kept_over (there i) (kept i))

pub kept-removed : (k : Obj) (old new : Slots) (single alone : Kept) → ResetsIn k old new
    → ((q : Obj) → alone q ≡ cond (obj_eq k q) None (single q)) → (q : Obj) → q ≢ k
    → is_some (kept_over (slot_value new q) (alone q)) ≡ is_some (kept_over (slot_value old q) (single q))
kept-removed k old new single alone resets forgets q other =
    others_at (obj_eq k q) (slot_value old q) (slot_value new q) (single q) (alone q)
    (λ e. other (sym (obj_eq-true k q e))) (resets q) (forgets q)

-- where no cell is kept there, nothing is put
reset_none : (b : Bool) (o : Option Val) → (b ≡ true → o ≡ None) → o ≡ cond b (reset o) o
reset_none false o h = refl
reset_none true o h = h refl ∙ sym (ap reset (h refl))

pub resets_none : (k : Obj) (es : Slots) → is_some (slot_value es k) ≡ false → ResetsIn k es es
resets_none k es absent q = reset_none (obj_eq k q) (slot_value es q)
    (λ e. none (slot_value es q) (ap (λ x. is_some (slot_value es x)) (sym (obj_eq-true k q e)) ∙ absent))
  where
    none : (o : Option Val) → is_some o ≡ false → o ≡ None
    none None e = refl
    none (Some v) e = cc

reset_some : (b : Bool) (o p : Option Val) → p ≡ cond b (Some unset) o → (b ≡ true → is_some o ≡ true)
    → p ≡ cond b (reset o) o
reset_some false o p h there = h
reset_some true None p h there = go (there refl)
  where
    go : false ≡ true → p ≡ None
    go e = cc
reset_some true (Some v) p h there = h

pub resets_some : (k : Obj) (es fs : Slots) → is_some (slot_value es k) ≡ true → PutsIn k unset es fs → ResetsIn k es fs
resets_some k es fs there puts q = reset_some (obj_eq k q) (slot_value es q) (slot_value fs q) (puts q)
    (λ e. ap (λ x. is_some (slot_value es x)) (sym (obj_eq-true k q e)) ∙ there)
