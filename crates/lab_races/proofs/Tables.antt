-- What is kept at objects: what a look-up finds, and what one list more in a map changes.
use Rattle.std.proofs.Common.{◌≡◌, refl, sym, ◌∙◌, ap, ℕ, Bool, true, false, cond, ◌||◌, get_or, Option, None, Some, List, []}
use Rattle.std.specs.Prelude.{Vec, max}
use Rattle.std.proofs.Math.Nat.{le-max_right, max-eq_left}
use Rattle.std.specs.Map.{lookup}
use Rattle.std.specs.BTreeMap.{is_at}
use Rattle.std.specs.declared.alloc.Global.{Global}
use Rattle.om_foot.specs.declared.object.Obj.{Obj}
use Rattle.om_foot.specs.contracts.object.ObjOrd.TheImpl.{cmp-value}
use Rattle.om_foot.specs.Footprint.{obj_eq}
use Rattle.om_foot.specs.Objects.{lookup-is_at, cmp-is_eq, obj_eq-true}
use Rattle.lab_races.specs.declared.made.Side.{Side}
use Rattle.lab_races.specs.Sweeps.{items_in, items_at, Joins, AreJoined, with_side, IsPut}

module _ {A : Type 0} where
  -- what a look-up finds
  pub found_at : (es : List (Obj × Vec A Global)) (k : Obj) (v : Vec A Global)
      → Some v ≡ lookup (is_at (cmp-value.it k)) es → v.items ≡ items_at es k
  found_at es k v h = ap items_in (h ∙ lookup-is_at k es)

  pub none_at : (es : List (Obj × Vec A Global)) (k : Obj) → None ≡ lookup (is_at (cmp-value.it k)) es
      → [] ≡ items_at es k
  none_at es k h = ap items_in (h ∙ lookup-is_at k es)

  -- fs is es with v at k
  abbrev pub Sets : List (Obj × Vec A Global) → List (Obj × Vec A Global) → Obj → Vec A Global → Type 0
  Sets es fs k v = (q : Obj) → lookup (is_at (cmp-value.it q)) fs ≡ cond (is_at (cmp-value.it k) q) (Some v)
      (lookup (is_at (cmp-value.it q)) es)

  here_or : (b : Bool) (v : Vec A Global) (o : Option (Vec A Global))
      → items_in (cond b (Some v) o) ≡ cond b v.items (items_in o)
  here_or true v o = refl
  here_or false v o = refl

  pub set_at : (es fs : List (Obj × Vec A Global)) (k : Obj) (v : Vec A Global) → Sets es fs k v → (q : Obj)
      → items_at fs q ≡ cond (obj_eq k q) v.items (items_at es q)
  set_at es fs k v h q =
      ap items_in (sym (lookup-is_at q fs) ∙ h q
      ∙ ap (λ b. cond b (Some v) (lookup (is_at (cmp-value.it q)) es)) (cmp-is_eq k q)
      ∙ ap (λ o. cond (obj_eq k q) (Some v) o) (lookup-is_at q es))
      ∙ here_or (obj_eq k q) v (lookup (obj_eq q) es)

  -- what stands at one object stands at one that is the same
  pub same_at : {Y : Type 0} (F : List A → Y) (es : List (Obj × Vec A Global)) (k q : Obj) (z : Y)
      → cond (obj_eq k q) (F (items_at es k)) z ≡ cond (obj_eq k q) (F (items_at es q)) z
  same_at F es k q z = go (obj_eq k q) refl
    where
      go : (b : Bool) → obj_eq k q ≡ b → cond b (F (items_at es k)) z ≡ cond b (F (items_at es q)) z
      go true e = ap (λ o. F (items_at es o)) (obj_eq-true k q e)
      go false e = refl

pub is_put : (es fs : List (Obj × Vec Side Global)) (k : Obj) (v : Vec Side Global) (side : Side) → Sets es fs k v
    → v.items ≡ with_side (items_at es k) side → IsPut es fs k side
is_put es fs k v side h is q =
    set_at es fs k v h q ∙ ap (λ l. cond (obj_eq k q) l (items_at es q)) is
    ∙ same_at (λ l. with_side l side) es k q (items_at es q)

inside : (b : Bool) (xs ys : List ℕ) (w : ℕ)
    → get_or (cond b xs ys) w 0 ≡ cond b (get_or xs w 0) (get_or ys w 0)
inside true xs ys w = refl
inside false xs ys w = refl

pub are_joined : (es fs : List (Obj × Vec ℕ Global)) (k : Obj) (v : Vec ℕ Global) (clock : List ℕ) → Sets es fs k v
    → Joins (items_at es k) clock v.items → AreJoined es fs k clock
are_joined es fs k v clock h is q w =
    ap (λ l. get_or l w 0) (set_at es fs k v h q) ∙ inside (obj_eq k q) v.items (items_at es q) w
    ∙ ap (λ n. cond (obj_eq k q) n (get_or (items_at es q) w 0)) (is w)
    ∙ same_at (λ l. max (get_or l w 0) (get_or clock w 0)) es k q (get_or (items_at es q) w 0)

again : (s c : ℕ) → max (max s c) c ≡ max s c
again s c = max-eq_left (le-max_right s c)

-- a clock that is noted once more changes nothing
pub noted_on : (x rest : Bool) (s c : ℕ)
    → cond rest (max (cond x (max s c) s) c) (cond x (max s c) s) ≡ cond (x || rest) (max s c) s
noted_on true true s c = again s c
noted_on true false s c = refl
noted_on false true s c = refl
noted_on false false s c = refl
