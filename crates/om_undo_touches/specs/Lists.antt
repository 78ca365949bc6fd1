-- Matter of proofs: touch lists with and without the touches of an entry.
use Rattle.std.proofs.Common.{◌≡◌, refl, sym, ◌∙◌, ap, subst, Bool, true, false, cond, ◌&&◌, nat_eq, ℕ, zero, suc, ◌+◌, ◌<◌}
use Rattle.std.proofs.Common.{Option, None, Some, List, [], ◌∷◌, ◌++◌, take, get_or, length}
use Rattle.std.proofs.lemmas.List.{take_more}
use Rattle.std.proofs.lemmas.Bool.Decides.{Decides-eqb}
use Rattle.std.specs.Map.{lookup}
use Rattle.std.proofs.Common.{MutBor}
use Rattle.std.specs.Option.{option_copied_mut}
use Rattle.std.specs.Prelude.{IsSome, is_some, Result, Ok, Err, OnOk, OnErr}
use Rattle.std.specs.BTreeMap.{is_at}
use Rattle.om_foot.specs.declared.object.Obj.{Obj}
use Rattle.om_foot.specs.declared.footprint.Mode.{Mode}
use Rattle.om_foot.specs.declared.footprint.Access.{Access}
use Rattle.om_foot.specs.Footprint.{obj_eq}
use Rattle.om_foot.specs.contracts.object.ObjOrd.TheImpl.{cmp-value}
use Rattle.om_foot.specs.Objects.{lookup-is_at, cmp-is_eq, obj_eq-true, obj_eq-same}
use Rattle.om_undo_touches.specs.declared.by_mode.Touches.{Touches}
use Rattle.om_undo_touches.specs.declared.touches.TouchLists.{TouchLists}
use Rattle.om_undo_touches.specs.Touches.{mode_eq, names, list_of, has_in, has_touch, Touching, IsSet, AreSame, AreOnly}
use Rattle.om_foot.specs.Serials.{has}

-- lists with one entry's touches there, or not there
abbrev pub AreSet : Bool → List Access → ℕ → TouchLists → TouchLists → Type 0
AreSet b footprint serial old new = IsSet b footprint serial (has_touch old) (has_touch new)

-- fs is es with w at k
abbrev pub Sets : List (Obj × Touches) → List (Obj × Touches) → Obj → Touches → Type 0
Sets es fs k w = (q : Obj) → lookup (is_at (cmp-value.it q)) fs ≡ cond (is_at (cmp-value.it k) q) (Some w)
    (lookup (is_at (cmp-value.it q)) es)

lookup-sets : (es fs : List (Obj × Touches)) (k : Obj) (w : Touches) → Sets es fs k w → (q : Obj)
    → lookup (obj_eq q) fs ≡ cond (obj_eq k q) (Some w) (lookup (obj_eq q) es)
lookup-sets es fs k w h q =
    sym (lookup-is_at q fs) ∙ h q ∙ ap (λ b. cond b (Some w) (lookup (is_at (cmp-value.it q)) es)) (cmp-is_eq k q)
    ∙ ap (λ o. cond (obj_eq k q) (Some w) o) (lookup-is_at q es)

-- what a look-up found
pub known_at : (es : List (Obj × Touches)) (k : Obj) (t : Touches) → Some t ≡ lookup (is_at (cmp-value.it k)) es
    → lookup (obj_eq k) es ≡ Some t
known_at es k t h = sym (lookup-is_at k es) ∙ sym h

pub unknown_at : (es : List (Obj × Touches)) (k : Obj) → None ≡ lookup (is_at (cmp-value.it k)) es
    → lookup (obj_eq k) es ≡ None
unknown_at es k h = sym (lookup-is_at k es) ∙ sym h

pub is_known : (es : List (Obj × Touches)) (k : Obj) (t : Touches) → Some t ≡ lookup (is_at (cmp-value.it k)) es
    → IsSome (lookup (is_at (cmp-value.it k)) es)
is_known es k t h = subst IsSome h refl

pub not_known : (es : List (Obj × Touches)) (k : Obj) (r : Option (MutBor Touches)) → option_copied_mut r
    ≡ lookup (is_at (cmp-value.it k)) es → r ≡ None → is_some (lookup (obj_eq k) es) ≡ true → ⊥
not_known es k r h e kept = let none : lookup (obj_eq k) es ≡ None = sym (lookup-is_at k es) ∙ sym h
    ∙ ap option_copied_mut e in let no : is_some (lookup (obj_eq k) es) ≡ false = ap is_some none in cc

pub absent_at : (es : List (Obj × Touches)) (k : Obj) → is_some (lookup (is_at (cmp-value.it k)) es) ≡ false
    → lookup (obj_eq k) es ≡ None
absent_at es k h = sym (lookup-is_at k es) ∙ none (lookup (is_at (cmp-value.it k)) es) h
  where
    none : (o : Option Touches) → is_some o ≡ false → o ≡ None
    none None e = refl
    none (Some t) e = cc

some_here : (b : Bool) (w : Touches) (o : Option Touches) → b ≡ true → is_some (cond b (Some w) o) ≡ true
some_here b w o h = ap (λ x. is_some (cond x (Some w) o)) h

pub known_there : (es fs : List (Obj × Touches)) (k : Obj) (w : Touches) → Sets es fs k w
    → is_some (lookup (obj_eq k) fs) ≡ true
known_there es fs k w h = ap is_some (lookup-sets es fs k w h k) ∙ some_here (obj_eq k k) w (lookup (obj_eq k) es)
    (obj_eq-same k)

pub on_ok : {T E P Q : Type 0} (r : Result T E) → (P → Q) → OnOk r P → OnOk r Q
on_ok (Ok x) f h = f h
on_ok (Err x) f h = h

pub on_err : {T E P Q : Type 0} (r : Result T E) → (P → Q) → OnErr r P → OnErr r Q
on_err (Ok x) f h = h
on_err (Err x) f h = f h

here : (b p e x : Bool) → cond (p && e) b x ≡ cond (e && cond p true false) b x
here b true true x = refl
here b true false x = refl
here b false true x = refl
here b false false x = refl

elsewhere : (b e x : Bool) → x ≡ cond (e && false) b x
elsewhere b true x = refl
elsewhere b false x = refl

-- a change of an object's touches is one of the lists
pub set_touches : (b : Bool) (es fs : List (Obj × Touches)) (a : Access) (serial : ℕ) (old w : Touches)
    → lookup (obj_eq a.object) es ≡ Some old → Sets es fs a.object w
    → ((m : Mode) (s : ℕ)
    → has (list_of w m) s ≡ cond (mode_eq a.mode m && nat_eq serial s) b (has (list_of old m) s))
    → (q : Obj) (m : Mode) (s : ℕ) → has_in (lookup (obj_eq q) fs) m s
    ≡ cond (nat_eq serial s && names q m (a ∷ [])) b (has_in (lookup (obj_eq q) es) m s)
set_touches b es fs a serial old w there sets changed q m s =
    ap (λ o. has_in o m s) (lookup-sets es fs a.object w sets q) ∙ go (obj_eq a.object q) refl
  where
    go : (same : Bool) → obj_eq a.object q ≡ same → has_in (cond same (Some w) (lookup (obj_eq q) es)) m s
        ≡ cond (nat_eq serial s && cond (same && mode_eq a.mode m) true false) b (has_in (lookup (obj_eq q) es) m s)
    go false is = elsewhere b (nat_eq serial s) (has_in (lookup (obj_eq q) es) m s)
    go true is =
        changed m s ∙ here b (mode_eq a.mode m) (nat_eq serial s) (has (list_of old m) s)
        ∙ ap (λ o. cond (nat_eq serial s && cond (mode_eq a.mode m) true false) b (has_in o m s))
        (sym there ∙ ap (λ o. lookup (obj_eq o) es) (obj_eq-true a.object q is))

-- the same touches in the place of others change nothing
pub same_touches : (es fs : List (Obj × Touches)) (k : Obj) (old w : Touches) → lookup (obj_eq k) es ≡ Some old
    → Sets es fs k w → ((m : Mode) (s : ℕ) → has (list_of w m) s ≡ has (list_of old m) s)
    → (q : Obj) (m : Mode) (s : ℕ) → has_in (lookup (obj_eq q) fs) m s ≡ has_in (lookup (obj_eq q) es) m s
same_touches es fs k old w there sets same q m s =
    ap (λ o. has_in o m s) (lookup-sets es fs k w sets q) ∙ go (obj_eq k q) refl
  where
    go : (b : Bool) → obj_eq k q ≡ b
        → has_in (cond b (Some w) (lookup (obj_eq q) es)) m s ≡ has_in (lookup (obj_eq q) es) m s
    go false is = refl
    go true is = same m s
        ∙ sym (ap (λ o. has_in o m s) (ap (λ o. lookup (obj_eq o) es) (sym (obj_eq-true k q is)) ∙ there))

none_there : (b : Bool) → cond b false false ≡ false
none_there true = refl
none_there false = refl

-- an object that is not known has no touch to take out
pub unset_unknown : (es : List (Obj × Touches)) (a : Access) (serial : ℕ) → lookup (obj_eq a.object) es ≡ None
    → (q : Obj) (m : Mode) (s : ℕ) → has_in (lookup (obj_eq q) es) m s
    ≡ cond (nat_eq serial s && names q m (a ∷ [])) false (has_in (lookup (obj_eq q) es) m s)
unset_unknown es a serial none q m s = go (obj_eq a.object q) refl
  where
    go : (same : Bool) → obj_eq a.object q ≡ same → has_in (lookup (obj_eq q) es) m s
        ≡ cond (nat_eq serial s && cond (same && mode_eq a.mode m) true false) false (has_in (lookup (obj_eq q) es) m s)
    go false is = elsewhere false (nat_eq serial s) (has_in (lookup (obj_eq q) es) m s)
    go true is =
        let absent : has_in (lookup (obj_eq q) es) m s ≡ false =
        ap (λ o. has_in o m s) (ap (λ o. lookup (obj_eq o) es) (sym (obj_eq-true a.object q is)) ∙ none) in
        absent ∙ sym (none_there (nat_eq serial s && cond (mode_eq a.mode m) true false))
        ∙ ap (cond (nat_eq serial s && cond (mode_eq a.mode m) true false) false) (sym absent)

-- an object that gets to be known has no touch
pub known_same : (es fs : List (Obj × Touches)) (k : Obj) (w : Touches) → lookup (obj_eq k) es ≡ None → Sets es fs k w
    → ((m : Mode) (s : ℕ) → has (list_of w m) s ≡ false)
    → (q : Obj) (m : Mode) (s : ℕ) → has_in (lookup (obj_eq q) fs) m s ≡ has_in (lookup (obj_eq q) es) m s
known_same es fs k w none sets new q m s =
    ap (λ o. has_in o m s) (lookup-sets es fs k w sets q) ∙ go (obj_eq k q) refl
  where
    go : (same : Bool) → obj_eq k q ≡ same
        → has_in (cond same (Some w) (lookup (obj_eq q) es)) m s ≡ has_in (lookup (obj_eq q) es) m s
    go false is = refl
    go true is = new m s
        ∙ sym (ap (λ o. has_in o m s) (ap (λ o. lookup (obj_eq o) es) (sym (obj_eq-true k q is)) ∙ none))

-- a footprint and what is behind it
pub names-append : (o : Obj) (m : Mode) (xs ys : List Access)
    → names o m (xs ++ ys) ≡ cond (names o m xs) true (names o m ys)
names-append o m [] ys = refl
names-append o m (x ∷ xs) ys = more (obj_eq x.object o && mode_eq x.mode m) (names-append o m xs ys)
  where
    more : (b : Bool) → names o m (xs ++ ys) ≡ cond (names o m xs) true (names o m ys)
        → cond b true (names o m (xs ++ ys)) ≡ cond (cond b true (names o m xs)) true (names o m ys)
    more true h = refl
    more false h = h

set_more : (b e p q x : Bool) → cond (e && q) b (cond (e && p) b x) ≡ cond (e && cond p true q) b x
set_more b false p q x = refl
set_more b true true true x = refl
set_more b true true false x = refl
set_more b true false q x = refl

pub set-append : (b : Bool) (xs ys : List Access) (serial : ℕ) (old mid new : Touching)
    → IsSet b xs serial old mid → IsSet b ys serial mid new → IsSet b (xs ++ ys) serial old new
set-append b xs ys serial old mid new first second o m s =
    second o m s
    ∙ ap (cond (nat_eq serial s && names o m ys) b) (first o m s)
    ∙ set_more b (nat_eq serial s) (names o m xs) (names o m ys) (old o m s)
    ∙ ap (λ n. cond (nat_eq serial s && n) b (old o m s)) (sym (names-append o m xs ys))

-- one turn of a loop over a footprint
pub set_next : (b : Bool) (footprint : List Access) (i : ℕ) (a : Access) (serial : ℕ) (old mid new : Touching)
    → i < length footprint → a ≡ get_or footprint i a
    → IsSet b (take i footprint) serial old mid → IsSet b (a ∷ []) serial mid new
    → IsSet b (take (i + 1) footprint) serial old new
set_next b footprint i a serial old mid new within is first second =
    subst (λ xs. IsSet b xs serial old new)
    (ap (λ x. take i footprint ++ x ∷ []) is ∙ sym (take_more footprint i a within))
    (set-append b (take i footprint) (a ∷ []) serial old mid new first second)

-- before the first turn
pub set_none : (b : Bool) (serial : ℕ) (old : Touching) → IsSet b [] serial old old
set_none b serial old o m s = elsewhere b (nat_eq serial s) (old o m s)

front : (b p q : Bool) → (p ≡ false → q ≡ false) → cond b true p ≡ false → cond b true q ≡ false
front true p q f h = h
front false p q f h = f h

names-front : (n : ℕ) (o : Obj) (m : Mode) (xs : List Access) → names o m xs ≡ false → names o m (take n xs) ≡ false
names-front zero o m xs h = refl
names-front (suc n) o m [] h = refl
names-front (suc n) o m (x ∷ xs) h = front (obj_eq x.object o && mode_eq x.mode m) (names o m xs)
    (names o m (take n xs)) (λ e. names-front n o m xs e) h

names-in : (n : ℕ) (o : Obj) (m : Mode) (xs : List Access) → names o m (take n xs) ≡ true → names o m xs ≡ true
names-in n o m xs h = go (names o m xs) refl
  where
    go : (b : Bool) → names o m xs ≡ b → b ≡ true
    go true e = refl
    go false e = let none : names o m (take n xs) ≡ false = names-front n o m xs e in cc

-- where an entry had no touch, all of it are of the footprint that was added
pub only_added : (footprint : List Access) (serial : ℕ) (old new : TouchLists)
    → ((o : Obj) (m : Mode) → has_touch old o m serial ≡ false)
    → AreSet true footprint serial old new → AreOnly footprint serial new
only_added footprint serial old new fresh set o m h = go (names o m footprint) refl
  where
    none : (e x : Bool) → x ≡ false → cond (e && false) true x ≡ false
    none true x h = h
    none false x h = h

    go : (b : Bool) → names o m footprint ≡ b → b ≡ true
    go true e = refl
    go false e =
        let no : has_touch new o m serial ≡ false = set o m serial
        ∙ ap (λ n. cond (nat_eq serial serial && n) true (has_touch old o m serial)) e
        ∙ none (nat_eq serial serial) (has_touch old o m serial) (fresh o m) in cc

pub only_some_added : (footprint : List Access) (n serial : ℕ) (old new : TouchLists)
    → ((o : Obj) (m : Mode) → has_touch old o m serial ≡ false)
    → AreSet true (take n footprint) serial old new → AreOnly footprint serial new
only_some_added footprint n serial old new fresh set o m h =
    names-in n o m footprint (only_added (take n footprint) serial old new fresh set o m h)

-- what was added in part is taken out
pub taken_out : (footprint : List Access) (n serial : ℕ) (old mid new : TouchLists)
    → ((o : Obj) (m : Mode) → has_touch old o m serial ≡ false)
    → AreSet true (take n footprint) serial old mid → AreSet false footprint serial mid new → AreSame old new
taken_out footprint n serial old mid new fresh first second o m s =
    second o m s
    ∙ ap (cond (nat_eq serial s && names o m footprint) false) (first o m s)
    ∙ go (nat_eq serial s) (names o m footprint) refl refl
  where
    was : nat_eq serial s ≡ true → has_touch old o m s ≡ false
    was e = ap (has_touch old o m) (sym ((Decides-eqb serial s).0 e)) ∙ fresh o m

    go : (e n_all : Bool) → nat_eq serial s ≡ e → names o m footprint ≡ n_all
        → cond (e && n_all) false (cond (e && names o m (take n footprint)) true (has_touch old o m s))
        ≡ has_touch old o m s
    go false n_all is named = refl
    go true true is named = sym (was is)
    go true false is named = ap (λ b. cond b true (has_touch old o m s)) (names-front n o m footprint named)

-- what was added is taken out
pub added_out : (footprint : List Access) (serial : ℕ) (old mid new : TouchLists)
    → ((o : Obj) (m : Mode) → has_touch old o m serial ≡ false)
    → AreSet true footprint serial old mid → AreSet false footprint serial mid new → AreSame old new
added_out footprint serial old mid new fresh first second o m s =
    second o m s
    ∙ ap (cond (nat_eq serial s && names o m footprint) false) (first o m s)
    ∙ go (nat_eq serial s) (names o m footprint) refl
  where
    go : (e n : Bool) → nat_eq serial s ≡ e → cond (e && n) false (cond (e && n) true (has_touch old o m s))
        ≡ has_touch old o m s
    go false n is = refl
    go true false is = refl
    go true true is = sym (ap (has_touch old o m) (sym ((Decides-eqb serial s).0 is)) ∙ fresh o m)
