-- Touches by parts of a footprint: those of its single accesses in front, of its cells, and of its last accesses.
use Rattle.std.proofs.Common.{◌≡◌, refl, sym, ◌∙◌, ap, subst, Bool, true, false, cond, ◌&&◌, nat_eq, ℕ, zero, suc, ◌+◌, ◌<◌}
use Rattle.std.proofs.Common.{Option, List, [], ◌∷◌, ◌++◌, take, get_or, length, ◌⊎◌, inl, inr}
use Rattle.std.proofs.lemmas.List.{take_more, append_assoc, append-nil}
use Rattle.std.specs.Prelude.{Result, Ok, Err, OnErr}
use Rattle.std.proofs.lemmas.Bool.Decides.{Decides-eqb}
use Rattle.om_foot.specs.declared.object.Obj.{Obj}
use Rattle.om_foot.specs.declared.object.Obj.TheVariants as object
use Rattle.om_foot.specs.declared.footprint.Mode.{Mode}
use Rattle.om_foot.specs.declared.footprint.Mode.TheVariants as mode
use Rattle.om_foot.specs.declared.footprint.Access.{Access}
use Rattle.om_foot.specs.declared.object.Cells.{Cells}
use Rattle.om_foot.specs.Cells.{cells_of, cells_listed}
use Rattle.om_undo_touches.specs.declared.singles.SingleTouches.{SingleTouches}
use Rattle.om_undo_touches.specs.declared.slots.SlotTouches.{SlotTouches}
use Rattle.om_undo_touches.specs.declared.touches.TouchLists.{TouchLists}
use Rattle.om_undo_touches.specs.Accesses.{control_write}
use Rattle.om_undo_touches.specs.Touches.{names, has_touch, has_single_touch, has_slot_touch, Touching, IsSet, LosesOfEntry, AreOnly, AreWithout, meets, meets_at}
use Rattle.om_foot.specs.Firsts.{sooner, IsFirst}
use Rattle.om_undo_touches.specs.Lists.{names-append, set-append}
use Rattle.om_undo_touches.specs.Searches.{either_true, meets-append, meets-either, meets_at-either, sooner-first, IsFirst-same}

-- lists of cells

pub listed_append : (xs ys : List Cells) → cells_listed (xs ++ ys) ≡ cells_listed xs ++ cells_listed ys
listed_append [] ys = refl
listed_append (x ∷ xs) ys =
    ap (λ l. cells_of x ++ l) (listed_append xs ys) ∙ sym (append_assoc (cells_of x) (cells_listed xs) (cells_listed ys))

-- the cells of so many, and of one more
pub listed_next : (all : List Cells) (i : ℕ) (c : Cells) → i < length all → c ≡ get_or all i c
    → cells_listed (take (i + 1) all) ≡ cells_listed (take i all) ++ cells_of c
listed_next all i c within is =
    ap cells_listed (take_more all i c within ∙ ap (λ x. take i all ++ x ∷ []) (sym is))
    ∙ listed_append (take i all) (c ∷ [])
    ∙ ap (λ l. cells_listed (take i all) ++ l) (append-nil (cells_of c))

-- the cells of so many are so many of their accesses

-- so many of what stands in front are so many of all
pub front_part : (n : ℕ) (xs ys : List Access) → (m : ℕ) × (take m (xs ++ ys) ≡ take n xs)
front_part zero xs ys = (0, refl)
front_part (suc n) [] ys = (0, refl)
front_part (suc n) (x ∷ xs) ys = let more = front_part n xs ys in (suc more.0, ap (λ l. x ∷ l) more.1)

-- what stands in front, and so many behind it, are so many of all
pub behind_part : (n : ℕ) (xs ys : List Access) → (m : ℕ) × (take m (xs ++ ys) ≡ xs ++ take n ys)
behind_part n [] ys = (n, refl)
behind_part n (x ∷ xs) ys = let more = behind_part n xs ys in (suc more.0, ap (λ l. x ∷ l) more.1)

listed_part : (all : List Cells) (i : ℕ) → (n : ℕ) × (take n (cells_listed all) ≡ cells_listed (take i all))
listed_part all zero = (0, refl)
listed_part [] (suc i) = (0, refl)
listed_part (c ∷ all) (suc i) =
    let more = listed_part all i in
    let whole = behind_part more.0 (cells_of c) (cells_listed all) in
    (whole.0, whole.1 ∙ ap (λ l. cells_of c ++ l) more.1)

pub set_cells_next : (b : Bool) (all : List Cells) (i : ℕ) (c : Cells) (serial : ℕ) (old mid new : Touching)
    → i < length all → c ≡ get_or all i c
    → IsSet b (cells_listed (take i all)) serial old mid → IsSet b (cells_of c) serial mid new
    → IsSet b (cells_listed (take (i + 1) all)) serial old new
set_cells_next b all i c serial old mid new within is first second =
    subst (λ xs. IsSet b xs serial old new) (sym (listed_next all i c within is))
    (set-append b (cells_listed (take i all)) (cells_of c) serial old mid new first second)

pub set_cells_part : (all : List Cells) (i serial : ℕ) (old mid new : Touching)
    → IsSet true (cells_listed (take i all)) serial old mid → IsSet true [] serial mid new
    → (n : ℕ) × IsSet true (take n (cells_listed all)) serial old new
set_cells_part all i serial old mid new first second =
    let part = listed_part all i in (
      part.0,
      subst (λ xs. IsSet true xs serial old new) (append-nil (cells_listed (take i all)) ∙ sym part.1)
          (set-append true (cells_listed (take i all)) [] serial old mid new first second),
    )

-- fewer touches

both_none : (x y : Bool) → (y ≡ true → x ≡ true) → x ≡ false → y ≡ false
both_none x true f h = let is : x ≡ true = f refl in cc
both_none x false f h = refl

pub less-append : (xs ys : List Access) (serial : ℕ) (old mid new : Touching) → LosesOfEntry xs serial old mid
    → LosesOfEntry ys serial mid new → LosesOfEntry (xs ++ ys) serial old new
less-append xs ys serial old mid new h g = record {
  others = λ o m s e. g.others o m s e ∙ h.others o m s e;
  fewer = λ o m s e. h.fewer o m s (g.fewer o m s e);
  gone = gone;
}
  where
    at : (o : Obj) (m : Mode) → (names o m xs ≡ true) ⊎ (names o m ys ≡ true) → new o m serial ≡ false
    at o m (inl e) = both_none (mid o m serial) (new o m serial) (g.fewer o m serial) (h.gone o m e)
    at o m (inr e) = g.gone o m e

    gone : (o : Obj) (m : Mode) → names o m (xs ++ ys) ≡ true → new o m serial ≡ false
    gone o m e = at o m (either_true (names o m xs) (names o m ys) (sym (names-append o m xs ys) ∙ e))

pub less_none : (serial : ℕ) (old : Touching) → LosesOfEntry [] serial old old
less_none serial old = record { others = λ o m s e. refl; fewer = λ o m s e. e; gone = λ o m e. never e }
  where
    never : {A : Type 0} → false ≡ true → A
    never e = cc

pub less_next : (footprint : List Access) (i : ℕ) (a : Access) (serial : ℕ) (old mid new : Touching)
    → i < length footprint → a ≡ get_or footprint i a
    → LosesOfEntry (take i footprint) serial old mid → LosesOfEntry (a ∷ []) serial mid new
    → LosesOfEntry (take (i + 1) footprint) serial old new
less_next footprint i a serial old mid new within is first second =
    subst (λ xs. LosesOfEntry xs serial old new)
    (ap (λ x. take i footprint ++ x ∷ []) is ∙ sym (take_more footprint i a within))
    (less-append (take i footprint) (a ∷ []) serial old mid new first second)

pub less_cells_next : (all : List Cells) (i : ℕ) (c : Cells) (serial : ℕ) (old mid new : Touching)
    → i < length all → c ≡ get_or all i c
    → LosesOfEntry (cells_listed (take i all)) serial old mid → LosesOfEntry (cells_of c) serial mid new
    → LosesOfEntry (cells_listed (take (i + 1) all)) serial old new
less_cells_next all i c serial old mid new within is first second =
    subst (λ xs. LosesOfEntry xs serial old new) (sym (listed_next all i c within is))
    (less-append (cells_listed (take i all)) (cells_of c) serial old mid new first second)

-- touches of two kinds, of which one changes, or both

abbrev pub either : Touching → Touching → Touching
either f g o m s = cond (f o m s) true (g o m s)

set_left : (e x y : Bool) → cond (cond e true x) true y ≡ cond e true (cond x true y)
set_left true x y = refl
set_left false x y = refl

set_right : (e x y : Bool) → cond x true (cond e true y) ≡ cond e true (cond x true y)
set_right true true y = refl
set_right true false y = refl
set_right false x y = refl

pub set_first : (footprint : List Access) (serial : ℕ) (old new others : Touching) → IsSet true footprint serial old new
    → IsSet true footprint serial (either old others) (either new others)
set_first footprint serial old new others h o m s =
    ap (λ b. cond b true (others o m s)) (h o m s)
    ∙ set_left (nat_eq serial s && names o m footprint) (old o m s) (others o m s)

pub set_other : (footprint : List Access) (serial : ℕ) (old new first : Touching) → IsSet true footprint serial old new
    → IsSet true footprint serial (either first old) (either first new)
set_other footprint serial old new first h o m s =
    ap (cond (first o m s) true) (h o m s)
    ∙ set_right (nat_eq serial s && names o m footprint) (first o m s) (old o m s)

fewer_two : (x y a b : Bool) → (a ≡ true → x ≡ true) → (b ≡ true → y ≡ true) → cond a true b ≡ true
    → cond x true y ≡ true
fewer_two x y true b f g h = ap (λ z. cond z true y) (f refl)
fewer_two true y false b f g h = refl
fewer_two false y false b f g h = g h

gone_two : (a b : Bool) → a ≡ false → b ≡ false → cond a true b ≡ false
gone_two a b h g = ap (λ x. cond x true b) h ∙ g

pub less_either : (footprint : List Access) (serial : ℕ) (old new old_others new_others : Touching)
    → LosesOfEntry footprint serial old new → LosesOfEntry footprint serial old_others new_others
    → LosesOfEntry footprint serial (either old old_others) (either new new_others)
less_either footprint serial old new old_others new_others h g = record {
  others = λ o m s e i. cond (h.others o m s e i) true (g.others o m s e i);
  fewer = λ o m s e. fewer_two (old o m s) (old_others o m s) (new o m s) (new_others o m s)
      (h.fewer o m s) (g.fewer o m s) e;
  gone = λ o m e. gone_two (new o m serial) (new_others o m serial) (h.gone o m e) (g.gone o m e);
}

-- the touches of a footprint are taken out
pub set_less : (footprint : List Access) (serial : ℕ) (old new : Touching) → IsSet false footprint serial old new
    → LosesOfEntry footprint serial old new
set_less footprint serial old new h = record {
  others = λ o m s e. h o m s ∙ ap (λ b. cond (b && names o m footprint) false (old o m s)) e;
  fewer = λ o m s e. was (nat_eq serial s && names o m footprint) (old o m s) (sym (h o m s) ∙ e);
  gone = λ o m e. h o m serial
      ∙ (λ i. cond ((Decides-eqb serial serial).1 refl i && e i) false (old o m serial));
}
  where
    was : (b x : Bool) → cond b false x ≡ true → x ≡ true
    was true x e = cc
    was false x e = e

-- where no touch is left that has to stay, those of the footprint are out
pub less_out : (footprint : List Access) (serial : ℕ) (old new : TouchLists) → AreOnly footprint serial old
    → LosesOfEntry footprint serial (has_touch old) (has_touch new) → AreWithout footprint serial old new
less_out footprint serial old new only h o m s = go (nat_eq serial s) (names o m footprint) refl refl
  where
    was_none : (x : Bool) → (x ≡ true → names o m footprint ≡ true) → names o m footprint ≡ false → x ≡ false
    was_none true f e = let is : names o m footprint ≡ true = f refl in cc
    was_none false f e = refl

    go : (e n : Bool) → nat_eq serial s ≡ e → names o m footprint ≡ n
        → has_touch new o m s ≡ cond (e && n) false (has_touch old o m s)
    go false n is named = h.others o m s is
    go true true is named =
        ap (has_touch new o m) (sym ((Decides-eqb serial s).0 is)) ∙ h.gone o m named
    go true false is named =
        let none : has_touch old o m serial ≡ false = was_none (has_touch old o m serial) (only o m) named in
        let out : has_touch new o m serial ≡ false =
        both_none (has_touch old o m serial) (has_touch new o m serial) (h.fewer o m serial) none in
        subst (λ t. has_touch new o m t ≡ has_touch old o m t) ((Decides-eqb serial s).0 is) (out ∙ sym none)

-- the write of a worker's control is taken out of the touches of single objects: no slot has it
pub control_out : (w serial : ℕ) (singles new : SingleTouches) (slots : SlotTouches)
    → IsSet false (control_write w ∷ []) serial (has_single_touch singles) (has_single_touch new)
    → LosesOfEntry (control_write w ∷ []) serial (either (has_single_touch singles) (has_slot_touch slots))
    (either (has_single_touch new) (has_slot_touch slots))
control_out w serial singles new slots h =
    less_either (control_write w ∷ []) serial (has_single_touch singles) (has_single_touch new) (has_slot_touch slots)
    (has_slot_touch slots) (set_less (control_write w ∷ []) serial (has_single_touch singles) (has_single_touch new) h)
    (record { others = λ o m s e. refl; fewer = λ o m s e. e; gone = none })
  where
    none : (o : Obj) (m : Mode) → names o m (control_write w ∷ []) ≡ true → has_slot_touch slots o m serial ≡ false
    none (object.Cell t f n i) m e = cc
    none o mode.Read e = refl
    none o mode.Write e = refl
    none o mode.Add e = refl

bare : (b : Bool) → b ≡ cond b true false
bare true = refl
bare false = refl

-- nor does a search in slots find one
pub control_first : (lists : TouchLists) (w s : ℕ) (x : Option ℕ)
    → IsFirst (meets_at (has_single_touch lists.singles (object.Control w)) mode.Write) s x
    → IsFirst (meets_at (has_touch lists (object.Control w)) mode.Write) s x
control_first lists w s x h =
    let own = has_single_touch lists.singles (object.Control w) in
    IsFirst-same (meets_at own mode.Write) (meets_at (has_touch lists (object.Control w)) mode.Write) s x
    (λ t i. meets_at (λ m u. bare (own m u) i) mode.Write t) h

-- a footprint in three parts

module _ (xs ys zs : List Access) (serial : ℕ) (old mid new cells_old cells_new : Touching) where
  pub added_parts : IsSet true xs serial old mid → IsSet true ys serial cells_old cells_new
      → IsSet true zs serial mid new → IsSet true (xs ++ (ys ++ zs)) serial (either old cells_old) (either new cells_new)
  added_parts h g f =
      set-append true xs (ys ++ zs) serial (either old cells_old) (either mid cells_old) (either new cells_new)
      (set_first xs serial old mid cells_old h)
      (set-append true ys zs serial (either mid cells_old) (either mid cells_new) (either new cells_new)
      (set_other ys serial cells_old cells_new mid g) (set_first zs serial mid new cells_new f))

  pub added_front : (n : ℕ) × IsSet true (take n xs) serial old mid
      → (n : ℕ) × IsSet true (take n (xs ++ (ys ++ zs))) serial (either old cells_old) (either mid cells_old)
  added_front h =
      let part = front_part h.0 xs (ys ++ zs) in (
        part.0,
        subst (λ l. IsSet true l serial (either old cells_old) (either mid cells_old)) (sym part.1)
            (set_first (take h.0 xs) serial old mid cells_old h.1),
      )

  pub added_cells : IsSet true xs serial old mid → (n : ℕ) × IsSet true (take n ys) serial cells_old cells_new
      → (n : ℕ) × IsSet true (take n (xs ++ (ys ++ zs))) serial (either old cells_old) (either mid cells_new)
  added_cells h g =
      let part = front_part g.0 ys zs in
      let whole = behind_part part.0 xs (ys ++ zs) in (
        whole.0,
        subst (λ l. IsSet true l serial (either old cells_old) (either mid cells_new))
            (sym (whole.1 ∙ ap (λ l. xs ++ l) part.1))
            (set-append true xs (take g.0 ys) serial (either old cells_old) (either mid cells_old) (either mid cells_new)
            (set_first xs serial old mid cells_old h) (set_other (take g.0 ys) serial cells_old cells_new mid g.1)),
      )

  pub added_last : IsSet true xs serial old mid → IsSet true ys serial cells_old cells_new
      → (n : ℕ) × IsSet true (take n zs) serial mid new
      → (n : ℕ) × IsSet true (take n (xs ++ (ys ++ zs))) serial (either old cells_old) (either new cells_new)
  added_last h g f =
      let part = behind_part f.0 ys zs in
      let whole = behind_part part.0 xs (ys ++ zs) in (
        whole.0,
        subst (λ l. IsSet true l serial (either old cells_old) (either new cells_new))
            (sym (whole.1 ∙ ap (λ l. xs ++ l) part.1))
            (set-append true xs (ys ++ take f.0 zs) serial (either old cells_old) (either mid cells_old) (either new cells_new)
            (set_first xs serial old mid cells_old h)
            (set-append true ys (take f.0 zs) serial (either mid cells_old) (either mid cells_new) (either new cells_new)
            (set_other ys serial cells_old cells_new mid g) (set_first (take f.0 zs) serial mid new cells_new f.1))),
      )

pub first_parts : (touch : Touching) (xs ys zs : List Access) (s : ℕ) (x y z : Option ℕ) → IsFirst (meets touch xs) s x
    → IsFirst (meets touch ys) s y → IsFirst (meets touch zs) s z
    → IsFirst (meets touch (xs ++ (ys ++ zs))) s (sooner (sooner x y) z)
first_parts touch xs ys zs s x y z h g f =
    IsFirst-same _ (meets touch (xs ++ (ys ++ zs))) s (sooner (sooner x y) z)
    (λ t. group (meets touch xs t) (meets touch ys t) (meets touch zs t)
    ∙ ap (cond (meets touch xs t) true) (sym (meets-append touch ys zs t)) ∙ sym (meets-append touch xs (ys ++ zs) t))
    (sooner-first (λ t. cond (meets touch xs t) true (meets touch ys t)) (meets touch zs) s (sooner x y) z
    (sooner-first (meets touch xs) (meets touch ys) s x y h g) f)
  where
    group : (a b c : Bool) → cond (cond a true b) true c ≡ cond a true (cond b true c)
    group true b c = refl
    group false b c = refl

pub first_next : (touch : Touching) (all : List Cells) (i : ℕ) (c : Cells) (s : ℕ) (x y : Option ℕ)
    → i < length all → c ≡ get_or all i c
    → IsFirst (meets touch (cells_listed (take i all))) s x → IsFirst (meets touch (cells_of c)) s y
    → IsFirst (meets touch (cells_listed (take (i + 1) all))) s (sooner x y)
first_next touch all i c s x y within is h g =
    IsFirst-same _ (meets touch (cells_listed (take (i + 1) all))) s (sooner x y)
    (λ t. sym (ap (λ l. meets touch l t) (listed_next all i c within is)
    ∙ meets-append touch (cells_listed (take i all)) (cells_of c) t))
    (sooner-first (meets touch (cells_listed (take i all))) (meets touch (cells_of c)) s x y h g)

pub first_either : (f g : Touching) (footprint : List Access) (s : ℕ) (x y : Option ℕ) → IsFirst (meets f footprint) s x
    → IsFirst (meets g footprint) s y → IsFirst (meets (either f g) footprint) s (sooner x y)
first_either f g footprint s x y h k =
    IsFirst-same _ (meets (either f g) footprint) s (sooner x y) (λ t. sym (meets-either f g footprint t))
    (sooner-first (meets f footprint) (meets g footprint) s x y h k)

pub first_access : (f g : Touching) (write : ℕ → Bool) (o : Obj) (m : Mode) (s : ℕ) (x y : Option ℕ)
    → ((t : ℕ) → meets_at (g o) m t ≡ write t) → IsFirst (meets_at (f o) m) s x → IsFirst write s y
    → IsFirst (meets_at (either f g o) m) s (sooner x y)
first_access f g write o m s x y same h k =
    IsFirst-same _ (meets_at (either f g o) m) s (sooner x y)
    (λ t. ap (cond (meets_at (f o) m t) true) (sym (same t)) ∙ sym (meets_at-either (f o) (g o) m t))
    (sooner-first (meets_at (f o) m) write s x y h k)

-- what holds holds where a result is an error
pub on_any : {T E P : Type 0} (r : Result T E) → P → OnErr r P
on_any (Ok x) h = tt
on_any (Err x) h = h
