-- Footprints are apart where `conflict_of` finds nothing: matter of proofs, for whoever exchanges steps.
use Rattle.std.proofs.Common.{◌≡◌, refl, sym, ◌∙◌, ap, Bool, true, false, cond, ◌&&◌, Option, None, Some, List, [], ◌∷◌}
use Rattle.std.specs.List.{AllByRecursion}
use Rattle.om_foot.specs.declared.object.Obj.{Obj}
use Rattle.om_foot.specs.declared.footprint.Mode.{Mode}
use Rattle.om_foot.specs.declared.footprint.Mode.TheVariants.{Read, Write, Add}
use Rattle.om_foot.specs.declared.footprint.Access.{Access}
use Rattle.om_foot.specs.Footprint.{obj_eq, modes_conflict, conflicts_with_any, conflict_of}
use Rattle.om_foot.specs.Objects.{obj_eq-same}

-- two accesses don't conflict
abbrev pub IsApart : Access → Access → Type 0
IsApart a b = a.object ≡ b.object → modes_conflict a.mode b.mode ≡ false

abbrev pub ApartFrom : Access → List Access → Type 0
ApartFrom a bs = AllByRecursion (λ b. IsApart a b) bs

abbrev pub AllApart : List Access → List Access → Type 0
AllApart first bs = AllByRecursion (λ a. ApartFrom a bs) first

not_both : (p q rest : Bool) → cond (p && q) true rest ≡ false → (p ≡ true → q ≡ false) × (rest ≡ false)
not_both true true rest h = cc
not_both true false rest h = (λ _. refl, h)
not_both false q rest h = ((λ e. cc), h)

same_true : (a b : Obj) → a ≡ b → obj_eq a b ≡ true
same_true a b e = ap (λ x. obj_eq a x) (sym e) ∙ obj_eq-same a

apart_from : (a : Access) (bs : List Access) → conflicts_with_any a bs ≡ false → ApartFrom a bs
apart_from a [] h = tt
apart_from a (b ∷ bs) h =
    let both = not_both (obj_eq a.object b.object) (modes_conflict a.mode b.mode) (conflicts_with_any a bs) h in
    ((λ e. both.0 (same_true a.object b.object e)), apart_from a bs both.1)

none_met : (m : Bool) (o : Obj) (rest : Option Obj) → cond m (Some o) rest ≡ None → (m ≡ false) × (rest ≡ None)
none_met true o rest h = cc
none_met false o rest h = (refl, h)

pub all_apart : (first bs : List Access) → conflict_of first bs ≡ None → AllApart first bs
all_apart [] bs h = tt
all_apart (a ∷ rest) bs h =
    let none = none_met (conflicts_with_any a bs) a.object (conflict_of rest bs) h in
    (apart_from a bs none.0, all_apart rest bs none.1)

modes_conflict-flip : (m n : Mode) → modes_conflict m n ≡ modes_conflict n m
modes_conflict-flip Read Read = refl
modes_conflict-flip Read Write = refl
modes_conflict-flip Read Add = refl
modes_conflict-flip Write Read = refl
modes_conflict-flip Write Write = refl
modes_conflict-flip Write Add = refl
modes_conflict-flip Add Read = refl
modes_conflict-flip Add Write = refl
modes_conflict-flip Add Add = refl

pub IsApart-flip : (a b : Access) → IsApart a b → IsApart b a
IsApart-flip a b h e = modes_conflict-flip b.mode a.mode ∙ h (sym e)

-- each of the first is apart from b
pub heads : (first : List Access) (b : Access) (bs : List Access) → AllApart first (b ∷ bs)
    → AllByRecursion (λ a. IsApart a b) first
heads [] b bs h = tt
heads (a ∷ rest) b bs h = (h.0.0, heads rest b bs h.1)

pub tails : (first : List Access) (b : Access) (bs : List Access) → AllApart first (b ∷ bs) → AllApart first bs
tails [] b bs h = tt
tails (a ∷ rest) b bs h = (h.0.1, tails rest b bs h.1)

flip_each : (b : Access) (first : List Access) → AllByRecursion (λ a. IsApart a b) first → ApartFrom b first
flip_each b [] h = tt
flip_each b (a ∷ rest) h = (IsApart-flip a b h.0, flip_each b rest h.1)

pub AllApart-flip : (first bs : List Access) → AllApart first bs → AllApart bs first
AllApart-flip first [] h = tt
AllApart-flip first (b ∷ bs) h = (flip_each b first (heads first b bs h), AllApart-flip first bs (tails first b bs h))
