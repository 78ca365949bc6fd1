-- Constructs that make no copies: no clause that the table has for them asks for one.
use Rattle.std.proofs.Common.{◌≡◌, Bool, true, false, List, [], ◌∷◌, ◌++◌, refl}
use Rattle.std.specs.Prelude.{IfSome, ◌&&◌, not}
use Rattle.std.specs.List.{list_any}
use Rattle.om_parser_tree.specs.Formed.{IsExpression}
use Rattle.om_parser_tree.specs.Tree.{ExpressionTree}
use Rattle.om_pragma.specs.declared.clause.Clause.{Clause}
use Rattle.om_pragma.specs.declared.clause.Clause.TheVariants as clauses
use Rattle.om_pragma.specs.declared.clause.ClauseItem.{ClauseItem}
use Rattle.om_pragma.specs.declared.clause.ClauseKind.{ClauseKind}
use Rattle.om_pragma.specs.declared.clause.ClauseKind.TheVariants as kinds
use Rattle.om_pragma.specs.declared.clause.DataSharing.TheVariants as lists
use Rattle.om_pragma.specs.declared.tree.DirectiveName.{DirectiveName}
use Rattle.om_pragma.specs.declared.tree.DirectiveName.TheVariants as directives
use Rattle.om_pragma.specs.Kinds.{directive_kind}
use Rattle.om_pragma.specs.Spelling.{kind_of}
use Rattle.om_pragma.specs.Table.{clauses_of, same_clause, may_stand, excludes, kinds_of, IsItem, EachBehind}
use Rattle.om_scope_rules.specs.Perhaps.{all_of}
use Rattle.om_scope_rules.specs.Resolution.{resolved_expression}
use Rattle.om_scope_rules.specs.Scopes.{Scopes}
use Rattle.om_scope_rules.specs.StatementResolution.{resolved_clause, resolved_item}
use Rattle.om_scope_tree.specs.ResolvedTree as resolved
use Rattle.om_scope_tree.specs.ResolvedTree.{ResolvedClauseTree}
use Rattle.om_name_laws.specs.Sees.{HaveNoCopies}
use Rattle.om_name_laws.proofs.Steps.{if_any, if_then}

abbrev pub makes_none : DirectiveName → Bool
makes_none (directives.Masked s) = true
makes_none (directives.Master s) = true
makes_none (directives.Critical s name) = true
makes_none (directives.Atomic s) = true
makes_none (directives.Taskgroup s) = true
makes_none _ = false

abbrev InTable : DirectiveName → ClauseKind → Type 0
InTable name kind = list_any (λ j. same_clause j kind) (clauses_of (directive_kind name)) ≡ true

private_never : (name : DirectiveName) → makes_none name ≡ true → InTable name kinds.Private → ⊥
unfolding same_clause
private_never (directives.Masked s) e t = cc
private_never (directives.Master s) e t = cc
private_never (directives.Critical s n) e t = cc
private_never (directives.Atomic s) e t = cc
private_never (directives.Taskgroup s) e t = cc
private_never _ e t = cc

firstprivate_never : (name : DirectiveName) → makes_none name ≡ true → InTable name kinds.Firstprivate → ⊥
unfolding same_clause
firstprivate_never (directives.Masked s) e t = cc
firstprivate_never (directives.Master s) e t = cc
firstprivate_never (directives.Critical s n) e t = cc
firstprivate_never (directives.Atomic s) e t = cc
firstprivate_never (directives.Taskgroup s) e t = cc
firstprivate_never _ e t = cc

shared_never : (name : DirectiveName) → makes_none name ≡ true → InTable name kinds.Shared → ⊥
unfolding same_clause
shared_never (directives.Masked s) e t = cc
shared_never (directives.Master s) e t = cc
shared_never (directives.Critical s n) e t = cc
shared_never (directives.Atomic s) e t = cc
shared_never (directives.Taskgroup s) e t = cc
shared_never _ e t = cc

reduction_never : (name : DirectiveName) → makes_none name ≡ true → InTable name kinds.Reduction → ⊥
unfolding same_clause
reduction_never (directives.Masked s) e t = cc
reduction_never (directives.Master s) e t = cc
reduction_never (directives.Critical s n) e t = cc
reduction_never (directives.Atomic s) e t = cc
reduction_never (directives.Taskgroup s) e t = cc
reduction_never _ e t = cc

none_clause : (scopes : Scopes) (name : DirectiveName) → makes_none name ≡ true → (clause : Clause ExpressionTree)
    → InTable name (kind_of clause) → IfSome (resolved_clause scopes clause) HaveNoCopies
unfolding resolved_clause
none_clause scopes name e (clauses.Value kind s v) t =
    if_then (λ x. Unit {0}) HaveNoCopies (resolved_expression scopes v.expression) _
    (if_any (resolved_expression scopes v.expression)) (λ x u. tt)
none_clause scopes name e (clauses.Default s argument) t = tt
none_clause scopes name e (clauses.Data lists.Shared s list) t = absurd (shared_never name e t)
none_clause scopes name e (clauses.Data lists.Private s list) t = absurd (private_never name e t)
none_clause scopes name e (clauses.Data lists.Firstprivate s list) t = absurd (firstprivate_never name e t)
none_clause scopes name e (clauses.Reduction s r) t = absurd (reduction_never name e t)
none_clause scopes name e (clauses.Schedule s argument) t = tt
none_clause scopes name e (clauses.Plain kind s) t = tt

both_none : (cs ds : List ResolvedClauseTree) → HaveNoCopies cs → HaveNoCopies ds → HaveNoCopies (cs ++ ds)
both_none [] ds h g = g
both_none (resolved.ClauseValue kind e ∷ cs) ds h g = both_none cs ds h g
both_none (resolved.Shared v ∷ cs) ds h g = both_none cs ds h g
both_none (resolved.Copied kind original copy ∷ cs) ds h g = absurd h

both_true : (a b : Bool) → (a && b) ≡ true → a ≡ true
both_true true b e = refl
both_true false b e = absurd cc

stands_in_table : (name : DirectiveName) (before : List ClauseKind) (kind : ClauseKind)
    → may_stand name before kind ≡ true → InTable name kind
unfolding may_stand
stands_in_table name before kind e =
    both_true (list_any (λ j. same_clause j kind) (clauses_of (directive_kind name)))
    (not (list_any (λ j. excludes j kind) before)) e

pub none_items : (scopes : Scopes) (name : DirectiveName) → makes_none name ≡ true
    → (items before : List (ClauseItem ExpressionTree)) → EachBehind (IsItem IsExpression name) before items
    → IfSome (all_of (resolved_item scopes) items) HaveNoCopies
unfolding EachBehind
none_items scopes name e [] before h = tt
none_items scopes name e (item ∷ items) before h =
    if_then HaveNoCopies HaveNoCopies (resolved_item scopes item) _
    (none_clause scopes name e item.clause
    (stands_in_table name (kinds_of before) (kind_of item.clause) h.0.can_stand)) (λ cs hcs.
    if_then HaveNoCopies HaveNoCopies (all_of (resolved_item scopes) items) _
    (none_items scopes name e items (before ++ item ∷ []) h.1) (λ ds hds. both_none cs ds hcs hds))
