-- Matter of proofs: the first serial that passes one of two tests, and the first entry that conflicts with a footprint.
use Rattle.std.proofs.Common.{◌≡◌, refl, sym, ◌∙◌, ap, Bool, true, false, cond, ◌&&◌, nat_le, ℕ, ◌<◌, ◌≤◌, arith}
use Rattle.std.proofs.Common.{Option, None, Some, List, [], ◌∷◌, ◌++◌, ◌⊎◌, inl, inr, ⊎_elim, ◌+◌, take, get_or, length}
use Rattle.std.specs.Prelude.{is_some, min}
use Rattle.std.proofs.lemmas.List.{take_more}
use Rattle.om_foot.specs.declared.object.Obj.{Obj}
use Rattle.om_foot.specs.declared.footprint.Mode.{Mode}
use Rattle.om_foot.specs.declared.footprint.Mode.TheVariants.{Read, Write, Add}
use Rattle.om_foot.specs.declared.footprint.Access.{Access}
use Rattle.om_foot.specs.Footprint.{obj_eq, modes_conflict, conflicts_with_any, conflict_of}
use Rattle.om_foot.specs.Objects.{obj_eq-true, obj_eq-same}
use Rattle.om_foot.specs.Apart.{IsApart, AllApart, ApartFrom, AllApart-flip, all_apart}
use Rattle.om_undo_touches.specs.Touches.{mode_eq, names, meets_at, meets}
use Rattle.om_foot.specs.Firsts.{sooner, IsFirst}

pub either_true : (a b : Bool) → cond a true b ≡ true → (a ≡ true) ⊎ (b ≡ true)
either_true true b h = inl refl
either_true false b h = inr h

both_false : (a b : Bool) → a ≡ false → b ≡ false → cond a true b ≡ false
both_false a b h g = ap (λ x. cond x true b) h ∙ g

-- the lesser of two numbers
least : (m n : ℕ) → (min m n ≡ m) ⊎ (min m n ≡ n)
least m n = decide (nat_le m n) refl
  where
    decide : (v : Bool) → nat_le m n ≡ v → (min m n ≡ m) ⊎ (min m n ≡ n)
    decide true e = inl (grind (arith, e))
    decide false e = inr (grind (arith, e))

min_is : (m n : ℕ) → ((min m n ≡ m) ⊎ (min m n ≡ n)) × (min m n ≤ m) × (min m n ≤ n)
min_is m n = (least m n, omega arith, omega arith)

-- what one of two searches finds
pub sooner-first : (P Q : ℕ → Bool) (s : ℕ) (x y : Option ℕ) → IsFirst P s x → IsFirst Q s y
    → IsFirst (λ t. cond (P t) true (Q t)) s (sooner x y)
sooner-first P Q s None None h g = λ t above. both_false (P t) (Q t) (h t above) (g t above)
sooner-first P Q s None (Some b) h g = (
  g.0,
  ap (λ x. cond x true (Q b)) (h b g.0) ∙ g.1,
  λ t above below. both_false (P t) (Q t) (h t above) (g.2 t above below),
)
sooner-first P Q s (Some a) None h g = (
  h.0,
  ap (λ x. cond x true (Q a)) h.1,
  λ t above below. both_false (P t) (Q t) (h.2 t above below) (g t above),
)
sooner-first P Q s (Some a) (Some b) h g = at (min a b) (min_is a b)
  where
    or_true : (x y : Bool) → y ≡ true → cond x true y ≡ true
    or_true true y e = refl
    or_true false y e = e

    at : (n : ℕ) → ((n ≡ a) ⊎ (n ≡ b)) × (n ≤ a) × (n ≤ b) → IsFirst (λ t. cond (P t) true (Q t)) s (Some n)
    at n is = (
      ⊎_elim (λ e. omega (arith, e, h.0)) (λ e. omega (arith, e, g.0)) is.0,
      ⊎_elim (λ e. ap (λ x. cond x true (Q n)) (ap P e ∙ h.1))
          (λ e. or_true (P n) (Q n) (ap Q e ∙ g.1)) is.0,
      λ t above below. both_false (P t) (Q t) (h.2 t above (omega (arith, below, is.1))) (g.2 t above
          (omega (arith, below, is.2))),
    )

-- a test that is the same at each number
pub IsFirst-same : (P Q : ℕ → Bool) (s : ℕ) (x : Option ℕ) → ((t : ℕ) → P t ≡ Q t) → IsFirst P s x → IsFirst Q s x
IsFirst-same P Q s None same h = λ t above. sym (same t) ∙ h t above
IsFirst-same P Q s (Some a) same h =
    (h.0, sym (same a) ∙ h.1, λ t above below. sym (same t) ∙ h.2 t above below)

-- a search of a footprint goes on behind it
pub meets-append : (touch : Obj → Mode → ℕ → Bool) (xs ys : List Access) (s : ℕ)
    → meets touch (xs ++ ys) s ≡ cond (meets touch xs s) true (meets touch ys s)
meets-append touch [] ys s = refl
meets-append touch (x ∷ xs) ys s = more (meets_at (touch x.object) x.mode s) (meets-append touch xs ys s)
  where
    more : (b : Bool) → meets touch (xs ++ ys) s ≡ cond (meets touch xs s) true (meets touch ys s)
        → cond b true (meets touch (xs ++ ys) s) ≡ cond (cond b true (meets touch xs s)) true (meets touch ys s)
    more true h = refl
    more false h = h

last_one : (b : Bool) → cond b true false ≡ b
last_one true = refl
last_one false = refl

pub meets_next : (touch : Obj → Mode → ℕ → Bool) (footprint : List Access) (i : ℕ) (a : Access) (s : ℕ)
    → i < length footprint → a ≡ get_or footprint i a
    → meets touch (take (i + 1) footprint) s
    ≡ cond (meets touch (take i footprint) s) true (meets_at (touch a.object) a.mode s)
meets_next touch footprint i a s within is =
    ap (λ xs. meets touch xs s) (take_more footprint i a within ∙ ap (λ x. take i footprint ++ x ∷ []) (sym is))
    ∙ meets-append touch (take i footprint) (a ∷ []) s
    ∙ ap (cond (meets touch (take i footprint) s) true) (last_one (meets_at (touch a.object) a.mode s))

pub meets_at_none : (touch : Mode → ℕ → Bool) (m : Mode) (s : ℕ) → ((k : Mode) → touch k s ≡ false)
    → meets_at touch m s ≡ false
meets_at_none touch m s h =
    (λ i. cond (modes_conflict m Read && h Read i) true
    (cond (modes_conflict m Write && h Write i) true (modes_conflict m Add && h Add i)))
    ∙ none m
  where
    none : (n : Mode) → cond (modes_conflict n Read && false) true
        (cond (modes_conflict n Write && false) true (modes_conflict n Add && false)) ≡ false
    none Read = refl
    none Write = refl
    none Add = refl

-- touches of two kinds

or_four : (a b c d : Bool) → cond (cond a true b) true (cond c true d) ≡ cond (cond a true c) true (cond b true d)
or_four true b c d = refl
or_four false true true d = refl
or_four false true false d = refl
or_four false false c d = refl

and_or : (c a b : Bool) → c && cond a true b ≡ cond (c && a) true (c && b)
and_or true a b = refl
and_or false a b = refl

pub meets_at-either : (f g : Mode → ℕ → Bool) (m : Mode) (s : ℕ)
    → meets_at (λ k t. cond (f k t) true (g k t)) m s ≡ cond (meets_at f m s) true (meets_at g m s)
meets_at-either f g m s =
    (λ i. cond (and_or (modes_conflict m Read) (f Read s) (g Read s) i) true
    (cond (and_or (modes_conflict m Write) (f Write s) (g Write s) i) true
    (and_or (modes_conflict m Add) (f Add s) (g Add s) i)))
    ∙ ap (cond (cond (modes_conflict m Read && f Read s) true (modes_conflict m Read && g Read s)) true)
    (or_four (modes_conflict m Write && f Write s) (modes_conflict m Write && g Write s)
    (modes_conflict m Add && f Add s) (modes_conflict m Add && g Add s))
    ∙ or_four (modes_conflict m Read && f Read s) (modes_conflict m Read && g Read s)
    (cond (modes_conflict m Write && f Write s) true (modes_conflict m Add && f Add s))
    (cond (modes_conflict m Write && g Write s) true (modes_conflict m Add && g Add s))

pub meets-either : (f g : Obj → Mode → ℕ → Bool) (footprint : List Access) (s : ℕ)
    → meets (λ o k t. cond (f o k t) true (g o k t)) footprint s ≡ cond (meets f footprint s) true (meets g footprint s)
meets-either f g [] s = refl
meets-either f g (a ∷ rest) s =
    (λ i. cond (meets_at-either (f a.object) (g a.object) a.mode s i) true (meets-either f g rest s i))
    ∙ or_four (meets_at (f a.object) a.mode s) (meets_at (g a.object) a.mode s) (meets f rest s) (meets g rest s)

-- a search by what one footprint names is a search for a conflict with it

names_one : Access → List Access → Mode → Bool
names_one a bs m = names a.object m bs

-- one access more in the other footprint
spread : (m n : Mode) (e : Bool) (f : Mode → Bool)
    → meets_at (λ k s. cond (e && mode_eq n k) true (f k)) m 0
    ≡ cond (e && modes_conflict m n) true (meets_at (λ k s. f k) m 0)
spread Read Read true f = refl
spread Read Write true f = refl
spread Read Add true f = or_true (f Write)
  where
    or_true : (x : Bool) → cond x true true ≡ true
    or_true true = refl
    or_true false = refl
spread Write Read true f = refl
spread Write Write true f = or_true (f Read)
  where
    or_true : (x : Bool) → cond x true true ≡ true
    or_true true = refl
    or_true false = refl
spread Write Add true f = or_two (f Read) (f Write)
  where
    or_two : (x y : Bool) → cond x true (cond y true true) ≡ true
    or_two true y = refl
    or_two false true = refl
    or_two false false = refl
spread Add Read true f = refl
spread Add Write true f = or_true (f Read)
  where
    or_true : (x : Bool) → cond x true true ≡ true
    or_true true = refl
    or_true false = refl
spread Add Add true f = refl
spread m n false f = refl

obj_eq-flip : (a b : Obj) → obj_eq a b ≡ obj_eq b a
obj_eq-flip a b = go (obj_eq a b) (obj_eq b a) refl refl
  where
    go : (x y : Bool) → obj_eq a b ≡ x → obj_eq b a ≡ y → x ≡ y
    go true true e f = refl
    go false false e f = refl
    go true false e f = sym (sym f ∙ ap (λ o. obj_eq b o) (obj_eq-true a b e) ∙ obj_eq-same b)
    go false true e f = sym e ∙ ap (λ o. obj_eq a o) (obj_eq-true b a f) ∙ obj_eq-same a

meets_at-named : (a : Access) (bs : List Access) → meets_at (λ m s. names a.object m bs) a.mode 0
    ≡ conflicts_with_any a bs
meets_at-named a [] = none a.mode
  where
    none : (m : Mode) → meets_at (λ k s. false) m 0 ≡ false
    none Read = refl
    none Write = refl
    none Add = refl
meets_at-named a (b ∷ bs) =
    spread a.mode b.mode (obj_eq b.object a.object) (λ m. names a.object m bs)
    ∙ ap (λ e. cond (e && modes_conflict a.mode b.mode) true (meets_at (λ m s. names a.object m bs) a.mode 0))
    (obj_eq-flip b.object a.object)
    ∙ ap (cond (obj_eq a.object b.object && modes_conflict a.mode b.mode) true) (meets_at-named a bs)

-- whether a footprint conflicts with another one
pub meets-named : (footprint others : List Access) → meets (λ o m s. names o m others) footprint 0
    ≡ is_some (conflict_of footprint others)
meets-named [] others = refl
meets-named (a ∷ rest) others =
    ap (λ b. cond b true (meets (λ o m s. names o m others) rest 0)) (meets_at-named a others)
    ∙ either (conflicts_with_any a others) (meets-named rest others)
  where
    either : (b : Bool) → meets (λ o m s. names o m others) rest 0 ≡ is_some (conflict_of rest others)
        → cond b true (meets (λ o m s. names o m others) rest 0)
        ≡ is_some (cond b (Some a.object) (conflict_of rest others))
    either true h = refl
    either false h = h

-- only the touches at the serial count
pub meets-alike : (touch other : Obj → Mode → ℕ → Bool) (footprint : List Access) (s t : ℕ)
    → ((o : Obj) (m : Mode) → touch o m s ≡ other o m t) → meets touch footprint s ≡ meets other footprint t
meets-alike touch other [] s t h = refl
meets-alike touch other (a ∷ rest) s t h =
    (λ i. cond (meets_alike_at a.mode i) true (meets-alike touch other rest s t h i))
  where
    meets_alike_at : (m : Mode) → meets_at (touch a.object) m s ≡ meets_at (other a.object) m t
    meets_alike_at m = λ i. cond (modes_conflict m Read && h a.object Read i) true
        (cond (modes_conflict m Write && h a.object Write i) true (modes_conflict m Add && h a.object Add i))

-- nothing meets where there is no touch
pub meets-none : (touch : Obj → Mode → ℕ → Bool) (footprint : List Access) (s : ℕ)
    → ((o : Obj) (m : Mode) → touch o m s ≡ false) → meets touch footprint s ≡ false
meets-none touch footprint s h = meets-alike touch (λ o m t. false) footprint s 0 h ∙ all footprint
  where
    none : (m : Mode) → meets_at (λ k t. false) m 0 ≡ false
    none Read = refl
    none Write = refl
    none Add = refl

    all : (xs : List Access) → meets (λ o m t. false) xs 0 ≡ false
    all [] = refl
    all (x ∷ xs) = ap (λ b. cond b true (meets (λ o m t. false) xs 0)) (none x.mode) ∙ all xs

-- conflict is mutual

apart_one : (a b : Access) (rest : Bool) → IsApart a b → rest ≡ false
    → cond (obj_eq a.object b.object && modes_conflict a.mode b.mode) true rest ≡ false
apart_one a b rest h is = go (obj_eq a.object b.object) refl
  where
    go : (e : Bool) → obj_eq a.object b.object ≡ e → cond (e && modes_conflict a.mode b.mode) true rest ≡ false
    go false same = is
    go true same = ap (λ x. cond x true rest) (h (obj_eq-true a.object b.object same)) ∙ is

apart_any : (a : Access) (bs : List Access) → ApartFrom a bs → conflicts_with_any a bs ≡ false
apart_any a [] h = refl
apart_any a (b ∷ bs) h = apart_one a b (conflicts_with_any a bs) h.0 (apart_any a bs h.1)

apart_all : (first bs : List Access) → AllApart first bs → conflict_of first bs ≡ None
apart_all [] bs h = refl
apart_all (a ∷ rest) bs h = ap (λ b. cond b (Some a.object) (conflict_of rest bs)) (apart_any a bs h.0)
    ∙ apart_all rest bs h.1

conflict_none : (first others : List Access) → conflict_of first others ≡ None → conflict_of others first ≡ None
conflict_none first others h = apart_all others first (AllApart-flip first others (all_apart first others h))

pub conflict-mutual : (first others : List Access)
    → is_some (conflict_of first others) ≡ is_some (conflict_of others first)
conflict-mutual first others = go (conflict_of first others) (conflict_of others first) refl refl
  where
    go : (x y : Option Obj) → conflict_of first others ≡ x → conflict_of others first ≡ y → is_some x ≡ is_some y
    go None None e f = refl
    go (Some p) (Some q) e f = refl
    go None (Some q) e f = ap is_some (sym (conflict_none first others e) ∙ f)
    go (Some p) None e f = ap is_some (sym e ∙ conflict_none others first f)
