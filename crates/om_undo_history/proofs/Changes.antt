-- A value put at an object, as a change of what every object holds.
use Rattle.std.proofs.Common.{◌≡◌, ℕ, refl, ◌∙◌, ap, Bool, true, false, cond, ℤ, to_z, of_z, neg_ℤ}
use Rattle.std.specs.Int.{w128}
use Rattle.std.specs.Prelude.{FitsSigned}
use Rattle.std.proofs.lemmas.Int.{to_z-of_z}
use Rattle.std.proofs.Math.Path.{fun_ext}
use Rattle.om_foot.specs.declared.object.Obj.{Obj}
use Rattle.om_foot.specs.declared.footprint.Mode.TheVariants as mode
use Rattle.om_foot.specs.Footprint.{obj_eq}
use Rattle.om_foot.specs.Objects.{obj_eq-true}
use Rattle.om_state.specs.declared.value.Val.{Val}
use Rattle.om_state.specs.declared.step.Update.{Update}
use Rattle.om_state.specs.declared.step.Update.TheVariants as update
use Rattle.om_state.specs.Values.{value_plus, value_cut}
use Rattle.om_state.specs.State.{State, with_value, state_after, state_before}

changed_value : (e : Bool) (f : Val → Val) (here there : Val) → (e ≡ true → here ≡ there)
    → cond e (f here) there ≡ cond e (f there) there
changed_value true f here there h = ap f (h refl)
changed_value false f here there h = refl

changed_at : (o : Obj) (f : Val → Val) (s : State)
    → with_value o (f (s o)) s ≡ (λ (q : Obj). cond (obj_eq o q) (f (s q)) (s q))
changed_at o f s = fun_ext λ q. changed_value (obj_eq o q) f (s o) (s q) (λ e. ap s (obj_eq-true o q e))

-- a number that is passed has 128 bits
pub added_at : (o : Obj) (d : ℤ) (s : State) → FitsSigned w128 d
    → with_value o (value_plus (to_z w128 (of_z w128 d)) (s o)) s ≡ state_after
    (record { object = o; mode = mode.Add }) (update.Add d) s
added_at o d s fits = ap (λ x. with_value o (value_plus x (s o)) s) (to_z-of_z w128 d fits)
    ∙ changed_at o (value_plus d) s

pub subtracted_at : (o : Obj) (d : ℤ) (s : State) → FitsSigned w128 d
    → with_value o (value_plus (neg_ℤ (to_z w128 (of_z w128 d))) (s o)) s ≡ state_before
    (record { object = o; mode = mode.Add }) (update.Add d) s
subtracted_at o d s fits = ap (λ x. with_value o (value_plus (neg_ℤ x) (s o)) s) (to_z-of_z w128 d fits)
    ∙ changed_at o (value_plus (neg_ℤ d)) s

-- a log that is cut back
pub cut_at : (o : Obj) (n : ℕ) (s : State)
    → with_value o (value_cut n (s o)) s ≡ state_before (record { object = o; mode = mode.Write }) (update.Cut n) s
cut_at o n s = changed_at o (value_cut n) s

same_either : (e : Bool) (v : Val) → v ≡ cond e v v
same_either true v = refl
same_either false v = refl

-- what is no number takes nothing off a count
pub not_subtracted : (o : Obj) (u : Update) (s : State) → ((d : ℤ) → u ≡ update.Add d → ⊥)
    → s ≡ state_before (record { object = o; mode = mode.Add }) u s
not_subtracted o (update.Add d) s h = absurd (h d refl)
not_subtracted o _ s h = fun_ext λ q. same_either (obj_eq o q) (s q)
