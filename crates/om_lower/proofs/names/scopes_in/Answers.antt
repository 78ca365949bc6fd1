use Rattle.std.proofs.Common.{◌≡◌, List, [], ◌∷◌, ◌++◌, map, ap, sym, subst, ◌∙◌}
use Rattle.std.proofs.lemmas.List.{append_assoc}
use Rattle.std.proofs.lemmas.List.Elements.{All-tail}
use Rattle.om_lower_rules.specs.Scopes.{scope_in}
use Rattle.om_lower_emit.specs.Scoped.{AreInside, IsInside}
use Rattle.om_lower.proofs.names.scopes_in.Goals as goal

-- one more is mapped
one_mapped : {A B : Type 0} (f : A → B) (rest left : List A) (done new all : List B) (x : A) (y : B)
    → rest ≡ x ∷ left → y ≡ f x → new ≡ done ++ y ∷ [] → done ++ map f rest ≡ all → new ++ map f left ≡ all
one_mapped f rest left done new all x y is same pushed h =
    ap (λ z. z ++ map f left) pushed ∙ append_assoc done (y ∷ []) (map f left)
    ∙ ap (λ z. done ++ z ∷ map f left) same ∙ ap (λ z. done ++ map f z) (sym is) ∙ h

pub loop-one-preserved : goal.loop-one-preserved
loop-one-preserved c = (
  one_mapped (scope_in c.args.variables.now) _ _ _ _ _ _ _ c.in-Some.ensures.steps.0 c.scope_in.ensures
      c.in_ok-push.ensures.items c.loop-one.invariant.0,
  All-tail (IsInside 65536) _ _ (subst (AreInside 65536) c.in-Some.ensures.steps.0 c.loop-one.invariant.1),
)
