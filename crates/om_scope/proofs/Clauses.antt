-- The clauses of a directive, as its tree shows them.
use Rattle.std.proofs.Common.{◌≡◌, List, [], ◌∷◌, map, refl}
use Rattle.std.specs.List.{list_any}
use Rattle.om_parser_tree.specs.declared.tree.Expression.{Expression}
use Rattle.om_parser_tree.specs.View.{view_directive, view_expression}
use Rattle.om_pragma.specs.declared.clause.Clause.{Clause}
use Rattle.om_pragma.specs.declared.clause.Clause.TheVariants as clauses
use Rattle.om_pragma.specs.declared.clause.ClauseItem.{ClauseItem}
use Rattle.om_pragma.specs.declared.clause.ClauseKind.{ClauseKind}
use Rattle.om_pragma.specs.declared.tree.Directive.{Directive}
use Rattle.om_pragma.specs.Expressions.{map_clause, map_item}
use Rattle.om_pragma.specs.Questions.{has_clause}
use Rattle.om_pragma.specs.Spelling.{kind_of}
use Rattle.om_pragma.specs.Table.{same_clause}

same_kind : (c : Clause Expression) → kind_of (map_clause view_expression c) ≡ kind_of c
same_kind (clauses.Value k s v) = refl
same_kind (clauses.Default s a) = refl
same_kind (clauses.Data k s l) = refl
same_kind (clauses.Reduction s r) = refl
same_kind (clauses.Schedule s a) = refl
same_kind (clauses.Plain k s) = refl

same_kinds : (k : ClauseKind) (items : List (ClauseItem Expression))
    → list_any (λ i. same_clause (kind_of i.clause) k) (map (map_item view_expression) items)
    ≡ list_any (λ i. same_clause (kind_of i.clause) k) items
same_kinds k [] = refl
same_kinds k (i ∷ items) = rw (same_kind i.clause, same_kinds k items) refl

pub has_clause_viewed : (k : ClauseKind) (d : Directive Expression) → has_clause k (view_directive d) ≡ has_clause k d
has_clause_viewed k d = same_kinds k d.clauses
