-- Additions to counts.
use Rattle.std.proofs.Common.{◌≡◌, sym, ◌∙◌, ap, ℕ, ℤ, List, [], ◌∷◌, ◌++◌, Option, Some, append_assoc}
use Rattle.std.specs.Prelude.{Result, Ok, Err, OnOk}
use Rattle.om_state.specs.declared.step.Update.{Update}
use Rattle.om_state.specs.declared.step.Update.TheVariants.{Add}
use Rattle.om_task.specs.Tasks.{additions}

three : (us a b new : List Update) (u : Update) → a ≡ us ++ u ∷ [] → b ≡ a ++ u ∷ [] → new ≡ b ++ u ∷ [] → new ≡ us
    ++ u ∷ u ∷ u ∷ []
three us a b new u first second third =
    third ∙ ap (λ l. l ++ u ∷ []) (second ∙ ap (λ l. l ++ u ∷ []) first ∙ append_assoc us (u ∷ []) (u ∷ []))
    ∙ append_assoc us (u ∷ u ∷ []) (u ∷ [])

-- one after another, a number is added to all counts of a task in a group; code hands it over as k
pub all_added : {T E : Type 0} (r : Result T E) (us a b new : List Update) (d k : ℤ) (group : Option (List ℕ))
    (name : List ℕ) → k ≡ d → group ≡ Some name → a ≡ us ++ Add k ∷ [] → b ≡ a ++ Add k ∷ []
    → OnOk r (new ≡ b ++ Add k ∷ []) → OnOk r (new ≡ us ++ additions d group)
all_added (Ok x) us a b new d k group name same in_group first second third =
    three us a b new (Add k) first second third ∙ ap (λ n. us ++ Add n ∷ Add n ∷ Add n ∷ []) same
    ∙ ap (λ g. us ++ additions d g) (sym in_group)
all_added (Err x) us a b new d k group name same in_group first second third = tt
