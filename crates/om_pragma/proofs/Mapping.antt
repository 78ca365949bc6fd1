-- The expressions of a directive with others in place of its own.
use Rattle.std.proofs.Common.{◌≡◌, List, [], ◌∷◌, ◌++◌, map, refl, ap}
use Rattle.std.specs.List.{flat_map}
use Rattle.om_pragma.specs.declared.clause.Clause.{Clause}
use Rattle.om_pragma.specs.declared.clause.Clause.TheVariants as clauses
use Rattle.om_pragma.specs.declared.clause.ClauseItem.{ClauseItem}
use Rattle.om_pragma.specs.declared.tree.Directive.{Directive}
use Rattle.om_pragma.specs.Expressions.{clause_expressions, expressions, map_clause, map_item, map_directive}

module _ {E F : Type 0} (f : E → F) where
  items_expressions : (items : List (ClauseItem E)) → flat_map (λ (i : ClauseItem F). clause_expressions i.clause)
      (map (map_item f) items) ≡ map f (flat_map (λ (i : ClauseItem E). clause_expressions i.clause) items)
  items_expressions [] = refl
  items_expressions (i ∷ items) = go i.clause (items_expressions items)
    where
      go : (c : Clause E) → flat_map (λ (j : ClauseItem F). clause_expressions j.clause) (map (map_item f) items)
          ≡ map f (flat_map (λ (j : ClauseItem E). clause_expressions j.clause) items) → clause_expressions
          (map_clause f c) ++ flat_map (λ (j : ClauseItem F). clause_expressions j.clause) (map (map_item f) items)
          ≡ map f (clause_expressions c ++ flat_map (λ (j : ClauseItem E). clause_expressions j.clause) items)
      go (clauses.Value k s v) later = ap (λ (es : List F). f v.expression ∷ es) later
      go (clauses.Default s a) later = later
      go (clauses.Data k s l) later = later
      go (clauses.Reduction s r) later = later
      go (clauses.Schedule s a) later = later
      go (clauses.Plain k s) later = later

  pub mapped_expressions : (d : Directive E) → expressions (map_directive f d) ≡ map f (expressions d)
  unfolding expressions
  mapped_expressions d = items_expressions d.clauses
