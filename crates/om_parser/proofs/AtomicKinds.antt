-- The kind of an `atomic` is that of its tree.
use Rattle.std.proofs.Common.{◌≡◌, List, [], ◌∷◌, map, refl}
use Rattle.std.specs.List.{list_any}
use Rattle.om_pragma.specs.declared.clause.Clause.{Clause}
use Rattle.om_pragma.specs.declared.clause.Clause.TheVariants as clauses
use Rattle.om_pragma.specs.declared.clause.ClauseItem.{ClauseItem}
use Rattle.om_pragma.specs.declared.clause.ClauseKind.{ClauseKind}
use Rattle.om_pragma.specs.declared.clause.ClauseKind.TheVariants as clause_kinds
use Rattle.om_pragma.specs.declared.tree.Directive.{Directive}
use Rattle.om_pragma.specs.Expressions.{map_clause, map_item, map_directive}
use Rattle.om_pragma.specs.Questions.{atomic_kind}
use Rattle.om_pragma.specs.Spelling.{kind_of}
use Rattle.om_pragma.specs.Table.{same_clause}
use Rattle.om_parser_tree.specs.declared.tree.Expression.{Expression}
use Rattle.om_parser_tree.specs.View.{view_expression, view_directive}

kind_mapped : {E F : Type 0} (f : E → F) (c : Clause E) → kind_of (map_clause f c) ≡ kind_of c
kind_mapped f (clauses.Value k s v) = refl
kind_mapped f (clauses.Default s a) = refl
kind_mapped f (clauses.Data k s l) = refl
kind_mapped f (clauses.Reduction s r) = refl
kind_mapped f (clauses.Schedule s a) = refl
kind_mapped f (clauses.Plain k s) = refl

any_mapped : {E F : Type 0} (f : E → F) (k : ClauseKind) (items : List (ClauseItem E))
    → list_any (λ (i : ClauseItem F). same_clause (kind_of i.clause) k) (map (map_item f) items)
    ≡ list_any (λ (i : ClauseItem E). same_clause (kind_of i.clause) k) items
any_mapped f k [] = refl
any_mapped f k (i ∷ items) = rw (kind_mapped f i.clause, any_mapped f k items) refl

-- other expressions change no kind of clause
kind_kept : {E F : Type 0} (f : E → F) (d : Directive E) → atomic_kind (map_directive f d) ≡ atomic_kind d
kind_kept f d = rw (any_mapped f clause_kinds.Read d.clauses, any_mapped f clause_kinds.Write d.clauses) refl

pub atomic_viewed : (d : Directive Expression) → atomic_kind (view_directive d) ≡ atomic_kind d
atomic_viewed d = kind_kept view_expression d
