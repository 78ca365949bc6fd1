-- Each worker's own entries among the records, with one more and without one.
use Rattle.std.proofs.Common.{◌≡◌, refl, sym, ◌∙◌, ap, subst, Bool, true, false, cond, ◌&&◌, nat_eq, ℕ}
use Rattle.std.proofs.Common.{Some, List, [], ◌∷◌, ◌++◌}
use Rattle.std.specs.Prelude.{remove, slice_get}
use Rattle.om_foot.specs.declared.object.Obj.TheVariants as obj
use Rattle.om_foot.specs.declared.footprint.Mode.TheVariants.{Write}
use Rattle.om_undo_touches.specs.declared.own.OwnEntries.{OwnEntries}
use Rattle.om_undo_touches.specs.Touches.{names, is_own, SameOwn, WithOwn, WithoutOwn}
use Rattle.om_undo_touches.specs.Workers.{number_is}
use Rattle.om_undo_history.specs.declared.records.UndoRecord.{UndoRecord}
use Rattle.om_undo_history.specs.Records.{AreBelow}
use Rattle.om_undo_history.specs.Touches.{own_footprint, AreOwnOf}
use Rattle.om_undo_history.proofs.Touched.{Rising, touched-push, touched-below, touched-remove}

pub own_named : (k : UndoRecord) (w : ℕ) → names (obj.Control w) Write (own_footprint k) ≡ nat_eq k.entry.worker w
own_named k w = go (nat_eq k.entry.worker w)
  where
    go : (b : Bool) → cond (b && true) true false ≡ b
    go true = refl
    go false = refl

-- the own entries of records, with one more
pub own-push : (ks : List UndoRecord) (k : UndoRecord) (old new : OwnEntries) → AreOwnOf ks old
    → WithOwn k.entry.worker k.entry.serial old new → AreOwnOf (ks ++ k ∷ []) new
own-push ks k old new are more w s =
    more w s
    ∙ (λ i. cond (nat_eq k.entry.serial s && sym (own_named k w) i) true (are w s i))
    ∙ sym (touched-push own_footprint ks k (obj.Control w) Write s)

-- and without one
pub own-remove : (ks : List UndoRecord) (i : ℕ) (k : UndoRecord) (old new : OwnEntries) → Rising 0 ks
    → slice_get ks i ≡ Some k → AreOwnOf ks old
    → WithoutOwn k.entry.worker k.entry.serial old new → AreOwnOf (remove ks i) new
own-remove ks i k old new rises at are less w s =
    less w s
    ∙ (λ j. cond (nat_eq k.entry.serial s && sym (own_named k w) j) false (are w s j))
    ∙ sym (touched-remove own_footprint 0 ks i k (obj.Control w) Write s rises at)

-- what was added is taken out
pub own-added_out : (ks : List UndoRecord) (worker serial : ℕ) (old mid new : OwnEntries) → AreOwnOf ks old
    → AreBelow serial ks → WithOwn worker serial old mid → WithoutOwn worker serial mid new → SameOwn old new
own-added_out ks worker serial old mid new are below first second w s =
    second w s
    ∙ ap (cond (nat_eq serial s && nat_eq worker w) false) (first w s)
    ∙ go (nat_eq serial s) (nat_eq worker w) refl
  where
    go : (e n : Bool) → nat_eq serial s ≡ e → cond (e && n) false (cond (e && n) true (is_own old w s)) ≡ is_own old w s
    go false n is = refl
    go true false is = refl
    go true true is = sym (are w s ∙ touched-below own_footprint ks (obj.Control w) Write s
        (subst (λ n. AreBelow n ks) (number_is serial s is) below))
