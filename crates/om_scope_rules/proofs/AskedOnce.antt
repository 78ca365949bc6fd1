-- A directive gives one value at most: its `num_threads` or `filter` does not repeat.
use Rattle.std.proofs.Common.{◌≡◌, Bool, true, false, not, ◌||◌, ◌&&◌, List, [], ◌∷◌, ◌++◌, Option, None, Some}
use Rattle.std.proofs.Common.{refl, subst, sym}
use Rattle.std.specs.Prelude.{IfSome}
use Rattle.std.specs.List.{list_any}
use Rattle.om_pragma.specs.declared.clause.Clause.{Clause}
use Rattle.om_pragma.specs.declared.clause.Clause.TheVariants as clauses
use Rattle.om_pragma.specs.declared.clause.ClauseItem.{ClauseItem}
use Rattle.om_pragma.specs.declared.clause.ClauseKind.{ClauseKind}
use Rattle.om_pragma.specs.declared.clause.ValueClause.{ValueClause}
use Rattle.om_pragma.specs.declared.clause.ValueClause.TheVariants as values
use Rattle.om_pragma.specs.declared.clause.Name as names
use Rattle.om_pragma.specs.declared.tree.DirectiveName.{DirectiveName}
use Rattle.om_pragma.specs.Kinds.{directive_kind}
use Rattle.om_pragma.specs.Spelling.{kind_of, value_kind}
use Rattle.om_pragma.specs.Table.{clauses_of, same_clause, may_stand, excludes, kinds_of, IsItem, EachBehind}
use Rattle.om_scope_tree.specs.declared.resolved.CopyKind.{CopyKind}
use Rattle.om_scope_tree.specs.declared.resolved.CopyKind.TheVariants as copies
use Rattle.om_scope_tree.specs.declared.resolved.Variable.{Variable}
use Rattle.om_scope_tree.specs.ResolvedTree as resolved
use Rattle.om_scope_tree.specs.ResolvedTree.{ResolvedClauseTree, ResolvedExpressionTree}
use Rattle.om_scope_tree.specs.Whole.{Admitted, HaveNoValue, HaveOneValueAtMost}
use Rattle.om_scope_rules.specs.DirectiveRules.{names_in}
use Rattle.om_scope_rules.specs.Perhaps.{◌>>=◌, each, all_of}
use Rattle.om_scope_rules.specs.Resolution.{variable_named, resolved_expression}
use Rattle.om_scope_rules.specs.Scopes.{Scopes}
use Rattle.om_scope_rules.specs.StatementResolution as resolution
use Rattle.om_scope_rules.specs.StatementResolution.{clause_of, resolved_listed, resolved_clause, resolved_item}
use Rattle.om_scope_rules.proofs.ClausesWhole.{Admits, AdmitsAll}
use Rattle.om_scope_rules.proofs.Steps.{if_then, if_any}
use Rattle.om_parser_tree.specs.Formed.{IsExpression}
use Rattle.om_parser_tree.specs.Tree.{ExpressionTree}

-- ---- clauses in a row

none_joined : (xs ys : List ResolvedClauseTree) → HaveNoValue xs → HaveNoValue ys → HaveNoValue (xs ++ ys)
none_joined [] ys hx hy = hy
none_joined (resolved.ClauseValue kind e ∷ xs) ys hx hy = absurd hx
none_joined (resolved.Shared v ∷ xs) ys hx hy = none_joined xs ys hx hy
none_joined (resolved.Copied kind original copy ∷ xs) ys hx hy = none_joined xs ys hx hy

one_behind : (xs ys : List ResolvedClauseTree) → HaveNoValue xs → HaveOneValueAtMost ys → HaveOneValueAtMost (xs ++ ys)
one_behind [] ys hx hy = hy
one_behind (resolved.ClauseValue kind e ∷ xs) ys hx hy = absurd hx
one_behind (resolved.Shared v ∷ xs) ys hx hy = one_behind xs ys hx hy
one_behind (resolved.Copied kind original copy ∷ xs) ys hx hy = one_behind xs ys hx hy

-- ---- what a clause gives

none_made : (kind : Option CopyKind) (v : Variable) (name : names.Name) → HaveNoValue (clause_of kind v name ∷ [])
none_made None v name = tt
none_made (Some kind) v name = tt

none_listed : (kind : Option CopyKind) (scopes : Scopes) (ns : List names.Name)
    → IfSome (each (resolved_listed kind scopes) ns) HaveNoValue
none_listed kind scopes [] = tt
none_listed kind scopes (n ∷ ns) =
    let One : ResolvedClauseTree → Type 0 = λ c. HaveNoValue (c ∷ []) in
    if_then One HaveNoValue (resolved_listed kind scopes n) _
    (if_then (λ v. Unit {0}) One (variable_named scopes n) _ (if_any (variable_named scopes n))
    (λ v h. none_made kind v n)) (λ c hc.
    if_then HaveNoValue HaveNoValue (each (resolved_listed kind scopes) ns) _ (none_listed kind scopes ns)
    (λ cs hcs. none_joined (c ∷ []) cs hc hcs))

-- ---- a clause, and those behind it

joined_none : (front rest : Option (List ResolvedClauseTree)) → IfSome front HaveNoValue → IfSome rest HaveNoValue
    → IfSome (front >>= λ xs. rest >>= λ ys. Some (xs ++ ys)) HaveNoValue
joined_none None rest hx hy = tt
joined_none (Some xs) None hx hy = tt
joined_none (Some xs) (Some ys) hx hy = none_joined xs ys hx hy

joined_one : (front rest : Option (List ResolvedClauseTree)) → IfSome front HaveNoValue → IfSome rest HaveOneValueAtMost
    → IfSome (front >>= λ xs. rest >>= λ ys. Some (xs ++ ys)) HaveOneValueAtMost
joined_one None rest hx hy = tt
joined_one (Some xs) None hx hy = tt
joined_one (Some xs) (Some ys) hx hy = one_behind xs ys hx hy

value_one : (kind : ValueClause) (value : Option ResolvedExpressionTree) (rest : Option (List ResolvedClauseTree))
    → IfSome rest HaveNoValue
    → IfSome ((value >>= λ e. Some (resolved.ClauseValue kind e ∷ [])) >>= λ xs. rest >>= λ ys. Some (xs ++ ys))
    HaveOneValueAtMost
value_one kind None rest h = tt
value_one kind (Some e) None h = tt
value_one kind (Some e) (Some ys) h = h

-- where those behind a value give none, all give one at most
one_step : (admitted : Admitted) (scopes : Scopes) (clause : Clause ExpressionTree)
    (rest : Option (List ResolvedClauseTree)) → Admits admitted clause → IfSome rest HaveOneValueAtMost
    → ((k : ValueClause) → kind_of clause ≡ value_kind k → admitted.value ≡ Some k → IfSome rest HaveNoValue)
    → IfSome (resolved_clause scopes clause >>= λ xs. rest >>= λ ys. Some (xs ++ ys)) HaveOneValueAtMost
unfolding resolved_clause
one_step admitted scopes (clauses.Value kind s v) rest a one none =
    value_one kind (resolved_expression scopes v.expression) rest (none kind refl a)
one_step admitted scopes (clauses.Default s argument) rest a one none = joined_one (Some []) rest tt one
one_step admitted scopes (clauses.Data sharing s list) rest a one none =
    joined_one (each (resolved_listed (resolution.kind_of sharing) scopes) (names_in list.first list.rest)) rest
    (none_listed (resolution.kind_of sharing) scopes (names_in list.first list.rest)) one
one_step admitted scopes (clauses.Reduction s r) rest a one none =
    joined_one (each (resolved_listed (Some (copies.Reduction r.operator)) scopes) (names_in r.first r.rest)) rest
    (none_listed (Some (copies.Reduction r.operator)) scopes (names_in r.first r.rest)) one
one_step admitted scopes (clauses.Schedule s argument) rest a one none = joined_one (Some []) rest tt one
one_step admitted scopes (clauses.Plain kind s) rest a one none = joined_one (Some []) rest tt one

-- a clause that may stand behind a value gives none
none_step : (admitted : Admitted) (k : ValueClause) (scopes : Scopes) (name : DirectiveName) (before : List ClauseKind)
    (clause : Clause ExpressionTree) → admitted.value ≡ Some k
    → list_any (λ j. excludes j (value_kind k)) before ≡ true → may_stand name before (kind_of clause) ≡ true
    → Admits admitted clause → IfSome (resolved_clause scopes clause) HaveNoValue
unfolding resolved_clause may_stand
none_step admitted k scopes name before (clauses.Value kind s v) is there stands a =
    let same : k ≡ kind = cc (is, a) in
    absurd (never (list_any (λ j. same_clause j (value_kind kind)) (clauses_of (directive_kind name)))
    (list_any (λ j. excludes j (value_kind kind)) before)
    (subst (λ z. list_any (λ j. excludes j (value_kind z)) before ≡ true) same there) stands)
  where
    never : (a b : Bool) → b ≡ true → (a && not b) ≡ true → ⊥
    never true true e f = cc
    never true false e f = cc
    never false b e f = cc
none_step admitted k scopes name before (clauses.Default s argument) is there stands a = tt
none_step admitted k scopes name before (clauses.Data sharing s list) is there stands a =
    none_listed (resolution.kind_of sharing) scopes (names_in list.first list.rest)
none_step admitted k scopes name before (clauses.Reduction s r) is there stands a =
    none_listed (Some (copies.Reduction r.operator)) scopes (names_in r.first r.rest)
none_step admitted k scopes name before (clauses.Schedule s argument) is there stands a = tt
none_step admitted k scopes name before (clauses.Plain kind s) is there stands a = tt

-- ---- all clauses of a directive

or_first : (a b c : Bool) → (b ≡ true → c ≡ true) → (a || b) ≡ true → (a || c) ≡ true
or_first true b c f e = refl
or_first false b c f e = f e

or_left : (a b : Bool) → a ≡ true → (a || b) ≡ true
or_left true b e = refl
or_left false b e = cc

or_second : (a b : Bool) → b ≡ true → (a || b) ≡ true
or_second true b e = refl
or_second false b e = e

any_before : (f : ClauseKind → Bool) (before : List (ClauseItem ExpressionTree)) (item : ClauseItem ExpressionTree)
    → list_any f (kinds_of before) ≡ true → list_any f (kinds_of (before ++ item ∷ [])) ≡ true
any_before f [] item e = cc
any_before f (b ∷ bs) item e = or_first (f (kind_of b.clause)) (list_any f (kinds_of bs))
    (list_any f (kinds_of (bs ++ item ∷ []))) (any_before f bs item) e

any_last : (f : ClauseKind → Bool) (before : List (ClauseItem ExpressionTree)) (item : ClauseItem ExpressionTree)
    → f (kind_of item.clause) ≡ true → list_any f (kinds_of (before ++ item ∷ [])) ≡ true
any_last f [] item e = or_left (f (kind_of item.clause)) false e
any_last f (b ∷ bs) item e = or_second (f (kind_of b.clause)) (list_any f (kinds_of (bs ++ item ∷ [])))
    (any_last f bs item e)

-- a value leaves no room for another of its kind
excludes_itself : (k : ValueClause) → excludes (value_kind k) (value_kind k) ≡ true
unfolding same_clause
excludes_itself values.NumThreads = refl
excludes_itself values.Filter = refl

none_behind : (admitted : Admitted) (k : ValueClause) (scopes : Scopes) (name : DirectiveName)
    (items before : List (ClauseItem ExpressionTree)) → admitted.value ≡ Some k
    → list_any (λ j. excludes j (value_kind k)) (kinds_of before) ≡ true
    → EachBehind (IsItem IsExpression name) before items → AdmitsAll admitted items
    → IfSome (all_of (resolved_item scopes) items) HaveNoValue
unfolding EachBehind
none_behind admitted k scopes name [] before is there h a = tt
none_behind admitted k scopes name (item ∷ items) before is there h a =
    joined_none (resolved_item scopes item) (all_of (resolved_item scopes) items)
    (none_step admitted k scopes name (kinds_of before) item.clause is there h.0.can_stand a.0)
    (none_behind admitted k scopes name items (before ++ item ∷ []) is
    (any_before (λ j. excludes j (value_kind k)) before item there) h.1 a.1)

pub one_value : (admitted : Admitted) (scopes : Scopes) (name : DirectiveName)
    (items before : List (ClauseItem ExpressionTree))
    → EachBehind (IsItem IsExpression name) before items → AdmitsAll admitted items
    → IfSome (all_of (resolved_item scopes) items) HaveOneValueAtMost
unfolding EachBehind
one_value admitted scopes name [] before h a = tt
one_value admitted scopes name (item ∷ items) before h a =
    one_step admitted scopes item.clause (all_of (resolved_item scopes) items) a.0
    (one_value admitted scopes name items (before ++ item ∷ []) h.1 a.1) (λ k same is.
    none_behind admitted k scopes name items (before ++ item ∷ []) is
    (any_last (λ j. excludes j (value_kind k)) before item
    (subst (λ z. excludes z (value_kind k) ≡ true) (sym same) (excludes_itself k))) h.1 a.1)
