-- A change of one trail, as a change of what each object holds and held.
use Rattle.std.proofs.Common.{◌≡◌, ℕ, zero, suc, ◌<◌, ◌≢◌, Bool, true, false, cond, List, [], ◌∷◌, length, Option}
use Rattle.std.proofs.Common.{Some, set, drop, map}
use Rattle.std.proofs.Common.{refl, sym, ap, ◌∙◌, subst, arith}
use Rattle.std.specs.Prelude.{slice_get, nat_eq, is_some, None}
use Rattle.std.proofs.Math.Path.{fun_ext}
use Rattle.std.proofs.lemmas.Bool.{eqb-false}
use Rattle.std.proofs.lemmas.Bool.Decides.{Decides-eqb}
use Rattle.om_foot.specs.declared.object.Obj.{Obj}
use Rattle.om_foot.specs.declared.object.Obj.TheVariants as obj
use Rattle.om_state.specs.declared.control.Control as plain_controls
use Rattle.om_state.specs.declared.value.Val.{Val}
use Rattle.om_state.specs.declared.value.Val.TheVariants as value
use Rattle.om_state.specs.State.{State, with_value}
use Rattle.om_memory.specs.Trails.{TrailView, undone_to, undone}
use Rattle.om_memory.specs.Memories.{trail_now, trail_past, held_by, kept_by, pasts_by, noted_at, popped_at, begun_at}
use Rattle.om_memory.specs.Memories.{first_or}

get_put : {A : Type 0} (xs : List A) (i : ℕ) (v : A) → i < length xs → slice_get (set xs i v) i ≡ Some v
get_put [] i v h = absurd (omega arith)
get_put (x ∷ xs) zero v h = refl
get_put (x ∷ xs) (suc i) v h = get_put xs i v (omega arith)

get_other : {A : Type 0} (xs : List A) (i j : ℕ) (v : A) → j ≢ i → slice_get (set xs i v) j ≡ slice_get xs j
get_other [] i j v h = refl
get_other (x ∷ xs) zero zero v h = absurd (h refl)
get_other (x ∷ xs) zero (suc j) v h = refl
get_other (x ∷ xs) (suc i) zero v h = refl
get_other (x ∷ xs) (suc i) (suc j) v h = get_other xs i j v (λ e. h (ap suc e))

-- a fact of each trail: it is that of the one that is put at w, and of the others as before
each : (P : Bool → ℕ → Type 0) (w v : ℕ) → P true w → (w ≢ v → P false v) → P (nat_eq w v) v
each P w v here there = at (nat_eq w v) refl
  where
    at : (b : Bool) → nat_eq w v ≡ b → P b v
    at true e = subst (P true) ((Decides-eqb w v).0 e) here
    at false e = there (eqb-false w v e)

-- what is seen of a worker's trail, if it has one
abbrev seen_now : Option TrailView → Val
seen_now o = value.Control (trail_now o)

abbrev seen_past : Option TrailView → List Val
seen_past o = map value.Control (trail_past o)

held_at : (ts : List TrailView) (w : ℕ) (t : TrailView) (s : State) → w < length ts
    → (q : Obj) → held_by (set ts w t) s q ≡ with_value (obj.Control w) (value.Control t.now) (held_by ts s) q
held_at ts w t s h (obj.Control v) =
    each (λ b v. seen_now (slice_get (set ts w t) v) ≡ cond b (value.Control t.now) (seen_now (slice_get ts v))) w v
    (ap seen_now (get_put ts w t h))
    (λ other. ap seen_now (get_other ts w v t (λ e. other (sym e))))
held_at ts w t s h (obj.Cell a b c d) = refl
held_at ts w t s h (obj.Global a b) = refl
held_at ts w t s h (obj.Task a) = refl
held_at ts w t s h (obj.Kids a) = refl
held_at ts w t s h (obj.Pending a b) = refl
held_at ts w t s h (obj.Arrived a b) = refl
held_at ts w t s h (obj.Work a b) = refl
held_at ts w t s h (obj.Lock a) = refl
held_at ts w t s h (obj.Group a) = refl
held_at ts w t s h obj.Output = refl
held_at ts w t s h (obj.Events a) = refl

pub held_put : (ts : List TrailView) (w : ℕ) (t : TrailView) (s : State) → w < length ts
    → held_by (set ts w t) s ≡ with_value (obj.Control w) (value.Control t.now) (held_by ts s)
held_put ts w t s h = fun_ext λ q. held_at ts w t s h q

noted_at_q : (ts : List TrailView) (w : ℕ) (t was : TrailView) (s : State) → w < length ts
    → slice_get ts w ≡ Some was → t.past ≡ was.now ∷ was.past
    → (q : Obj) → pasts_by (set ts w t) q ≡ noted_at (obj.Control w) (held_by ts s) (pasts_by ts) q
noted_at_q ts w t was s h is more (obj.Control v) =
    each (λ b v. seen_past (slice_get (set ts w t) v)
    ≡ cond b (seen_now (slice_get ts v) ∷ seen_past (slice_get ts v)) (seen_past (slice_get ts v))) w v
    (ap seen_past (get_put ts w t h) ∙ ap (map value.Control) more ∙ sym (ap (λ o. seen_now o ∷ seen_past o) is))
    (λ other. ap seen_past (get_other ts w v t (λ e. other (sym e))))
noted_at_q ts w t was s h is more (obj.Cell a b c d) = refl
noted_at_q ts w t was s h is more (obj.Global a b) = refl
noted_at_q ts w t was s h is more (obj.Task a) = refl
noted_at_q ts w t was s h is more (obj.Kids a) = refl
noted_at_q ts w t was s h is more (obj.Pending a b) = refl
noted_at_q ts w t was s h is more (obj.Arrived a b) = refl
noted_at_q ts w t was s h is more (obj.Work a b) = refl
noted_at_q ts w t was s h is more (obj.Lock a) = refl
noted_at_q ts w t was s h is more (obj.Group a) = refl
noted_at_q ts w t was s h is more obj.Output = refl
noted_at_q ts w t was s h is more (obj.Events a) = refl

pub noted_put : (ts : List TrailView) (w : ℕ) (t was : TrailView) (s : State) → w < length ts → slice_get ts w
    ≡ Some was
    → t.past ≡ was.now ∷ was.past → pasts_by (set ts w t) ≡ noted_at (obj.Control w) (held_by ts s) (pasts_by ts)
noted_put ts w t was s h is more = fun_ext λ q. noted_at_q ts w t was s h is more q

map_rest : (ps : List plain_controls.Control) → map value.Control (drop 1 ps) ≡ drop 1 (map value.Control ps)
map_rest [] = refl
map_rest (p ∷ ps) = refl

popped_at_q : (ts : List TrailView) (w : ℕ) (t was : TrailView) → w < length ts → slice_get ts w ≡ Some was
    → t.past ≡ drop 1 was.past
    → (q : Obj) → pasts_by (set ts w t) q ≡ popped_at (obj.Control w) (pasts_by ts) q
popped_at_q ts w t was h is less (obj.Control v) =
    each (λ b v. seen_past (slice_get (set ts w t) v)
    ≡ cond b (drop 1 (seen_past (slice_get ts v))) (seen_past (slice_get ts v))) w v
    (ap seen_past (get_put ts w t h) ∙ ap (map value.Control) less ∙ map_rest was.past
    ∙ sym (ap (λ o. drop 1 (seen_past o)) is))
    (λ other. ap seen_past (get_other ts w v t (λ e. other (sym e))))
popped_at_q ts w t was h is less (obj.Cell a b c d) = refl
popped_at_q ts w t was h is less (obj.Global a b) = refl
popped_at_q ts w t was h is less (obj.Task a) = refl
popped_at_q ts w t was h is less (obj.Kids a) = refl
popped_at_q ts w t was h is less (obj.Pending a b) = refl
popped_at_q ts w t was h is less (obj.Arrived a b) = refl
popped_at_q ts w t was h is less (obj.Work a b) = refl
popped_at_q ts w t was h is less (obj.Lock a) = refl
popped_at_q ts w t was h is less (obj.Group a) = refl
popped_at_q ts w t was h is less obj.Output = refl
popped_at_q ts w t was h is less (obj.Events a) = refl

pub popped_put : (ts : List TrailView) (w : ℕ) (t was : TrailView) → w < length ts → slice_get ts w ≡ Some was
    → t.past ≡ drop 1 was.past → pasts_by (set ts w t) ≡ popped_at (obj.Control w) (pasts_by ts)
popped_put ts w t was h is less = fun_ext λ q. popped_at_q ts w t was h is less q

undone_to-now : (ps : List plain_controls.Control) (t : TrailView) → 0 < length ps
    → value.Control (undone_to ps t).now ≡ first_or (value.Control t.now) (map value.Control ps)
undone_to-now [] t h = absurd (omega (arith, h))
undone_to-now (p ∷ ps) t h = refl

undone_to-past : (ps : List plain_controls.Control) (t : TrailView) → 0 < length ps → (undone_to ps t).past ≡ drop 1 ps
undone_to-past [] t h = absurd (omega (arith, h))
undone_to-past (p ∷ ps) t h = refl

pub undone-now : (t : TrailView) → 0 < length t.past
    → value.Control (undone t).now ≡ first_or (value.Control t.now) (map value.Control t.past)
undone-now t h = undone_to-now t.past t h

pub undone-past : (t : TrailView) → 0 < length t.past → (undone t).past ≡ drop 1 t.past
undone-past t h = undone_to-past t.past t h

-- what was changed, by what is seen of it
pub some_past : (o : Option TrailView) (t : TrailView) → o ≡ Some t → 0 < length (map value.Control (trail_past o))
    → 0 < length t.past
some_past o t is h = some_of t.past (subst (λ x. 0 < length (map value.Control (trail_past x))) is h)
  where
    some_of : (ps : List plain_controls.Control) → 0 < length (map value.Control ps) → 0 < length ps
    some_of [] h = h
    some_of (p ∷ ps) h = omega arith

-- a trail that begins anew
begun_at_q : (ts : List TrailView) (w : ℕ) (t : TrailView) → w < length ts → t.past ≡ []
    → (q : Obj) → pasts_by (set ts w t) q ≡ begun_at (obj.Control w) (pasts_by ts) q
begun_at_q ts w t h none (obj.Control v) =
    each (λ b v. seen_past (slice_get (set ts w t) v) ≡ cond b [] (seen_past (slice_get ts v))) w v
    (ap seen_past (get_put ts w t h) ∙ ap (map value.Control) none)
    (λ other. ap seen_past (get_other ts w v t (λ e. other (sym e))))
begun_at_q ts w t h none (obj.Cell a b c d) = refl
begun_at_q ts w t h none (obj.Global a b) = refl
begun_at_q ts w t h none (obj.Task a) = refl
begun_at_q ts w t h none (obj.Kids a) = refl
begun_at_q ts w t h none (obj.Pending a b) = refl
begun_at_q ts w t h none (obj.Arrived a b) = refl
begun_at_q ts w t h none (obj.Work a b) = refl
begun_at_q ts w t h none (obj.Lock a) = refl
begun_at_q ts w t h none (obj.Group a) = refl
begun_at_q ts w t h none obj.Output = refl
begun_at_q ts w t h none (obj.Events a) = refl

pub begun_put : (ts : List TrailView) (w : ℕ) (t : TrailView) → w < length ts → t.past ≡ []
    → pasts_by (set ts w t) ≡ begun_at (obj.Control w) (pasts_by ts)
begun_put ts w t h none = fun_ext λ q. begun_at_q ts w t h none q

-- which trails there are

pub within : {A : Type 0} (xs : List A) (i : ℕ) → is_some (slice_get xs i) ≡ true → i < length xs
within [] i e = cc
within (x ∷ xs) zero e = omega arith
within (x ∷ xs) (suc i) e = omega (arith, within xs i e)

pub there : {A : Type 0} (xs : List A) (i : ℕ) → i < length xs → is_some (slice_get xs i) ≡ true
there [] i h = absurd (omega (arith, h))
there (x ∷ xs) zero h = refl
there (x ∷ xs) (suc i) h = there xs i (omega (arith, h))

as_many : {A : Type 0} (xs : List A) (i j : ℕ) (v : A) → is_some (slice_get (set xs i v) j) ≡ is_some (slice_get xs j)
as_many [] i j v = refl
as_many (x ∷ xs) zero zero v = refl
as_many (x ∷ xs) zero (suc j) v = refl
as_many (x ∷ xs) (suc i) zero v = refl
as_many (x ∷ xs) (suc i) (suc j) v = as_many xs i j v

pub kept_put : (ts : List TrailView) (w : ℕ) (t : TrailView) (k : Obj → Bool) (q : Obj)
    → kept_by (set ts w t) k q ≡ kept_by ts k q
kept_put ts w t k (obj.Control v) = as_many ts w v t
kept_put ts w t k (obj.Cell a b c d) = refl
kept_put ts w t k (obj.Global a b) = refl
kept_put ts w t k (obj.Task a) = refl
kept_put ts w t k (obj.Kids a) = refl
kept_put ts w t k (obj.Pending a b) = refl
kept_put ts w t k (obj.Arrived a b) = refl
kept_put ts w t k (obj.Work a b) = refl
kept_put ts w t k (obj.Lock a) = refl
kept_put ts w t k (obj.Group a) = refl
kept_put ts w t k obj.Output = refl
kept_put ts w t k (obj.Events a) = refl

-- a past is that of a trail
pub with_past : (o : Option TrailView) → 0 < length (map value.Control (trail_past o)) → is_some o ≡ true
with_past None h = absurd (omega (arith, h))
with_past (Some t) h = refl
