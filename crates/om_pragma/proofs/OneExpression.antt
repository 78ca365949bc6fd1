-- A directive has one expression at most.
use Rattle.std.proofs.Common.{◌≡◌, ◌≤◌, List, [], ◌∷◌, ◌++◌, length, Bool, true, false, refl, sym, ◌∙◌, arith}
use Rattle.std.specs.Prelude.{◌&&◌, ◌||◌, not, if◌then◌else◌}
use Rattle.std.specs.List.{flat_map, list_any}
use Rattle.om_pragma.specs.declared.clause.Clause.{Clause}
use Rattle.om_pragma.specs.declared.clause.Clause.TheVariants as clauses
use Rattle.om_pragma.specs.declared.clause.ClauseItem.{ClauseItem}
use Rattle.om_pragma.specs.declared.clause.ClauseKind.{ClauseKind}
use Rattle.om_pragma.specs.declared.clause.ClauseKind.TheVariants as clause_kinds
use Rattle.om_pragma.specs.declared.clause.ValueClause.{ValueClause}
use Rattle.om_pragma.specs.declared.clause.ValueClause.TheVariants as value_kinds
use Rattle.om_pragma.specs.declared.tree.Directive.{Directive}
use Rattle.om_pragma.specs.declared.tree.DirectiveName.{DirectiveName}
use Rattle.om_pragma.specs.declared.tree.DirectiveKind.{DirectiveKind}
use Rattle.om_pragma.specs.declared.tree.DirectiveKind.TheVariants as directives
use Rattle.om_pragma.specs.Expressions.{clause_expressions, expressions}
use Rattle.om_pragma.specs.Kinds.{directive_kind}
use Rattle.om_pragma.specs.Spelling.{kind_of, value_kind}
use Rattle.om_pragma.specs.Table.{clauses_of, same_clause, excludes, may_stand, kinds_of, EachBehind, IsItem}
use Rattle.om_pragma.specs.Table.{IsDirective}

any_more : {A : Type 0} (p : A → Bool) (xs : List A) (x : A) → list_any p xs ≡ true → list_any p (xs ++ x ∷ []) ≡ true
any_more p [] x e = absurd cc
any_more p (y ∷ ys) x e = go (p y) (any_more p ys x) e
  where
    go : (b : Bool) → (list_any p ys ≡ true → list_any p (ys ++ x ∷ []) ≡ true) → (b || list_any p ys) ≡ true
        → (b || list_any p (ys ++ x ∷ [])) ≡ true
    go true later e = refl
    go false later e = later e

any_last : {A : Type 0} (p : A → Bool) (xs : List A) (x : A) → p x ≡ true → list_any p (xs ++ x ∷ []) ≡ true
any_last p [] x e = rw e refl
any_last p (y ∷ ys) x e = go (p y) (any_last p ys x e)
  where
    go : (b : Bool) → list_any p (ys ++ x ∷ []) ≡ true → (b || list_any p (ys ++ x ∷ [])) ≡ true
    go true later = refl
    go false later = later

any_kind : {E : Type 0} (p : ClauseKind → Bool) (items : List (ClauseItem E)) → list_any p (kinds_of items)
    ≡ list_any (λ i. p (kind_of i.clause)) items
any_kind p [] = refl
any_kind p (i ∷ items) = rw (any_kind p items) refl

-- the clause with an expression that a directive can have, if it can have one
value_of_name : DirectiveName → ClauseKind
value_of_name n = if list_any (λ j. same_clause j clause_kinds.Filter) (clauses_of (directive_kind n)) then
    clause_kinds.Filter else clause_kinds.NumThreads

-- none can have both
no_filter : (k : DirectiveKind) → list_any (λ j. same_clause j clause_kinds.NumThreads) (clauses_of k) ≡ true
    → list_any (λ j. same_clause j clause_kinds.Filter) (clauses_of k) ≡ false
unfolding same_clause
no_filter directives.Masked e = absurd cc
no_filter _ e = refl

and_first : (a b : Bool) → (a && b) ≡ true → a ≡ true
and_first true b e = refl
and_first false b e = absurd cc

and_second : (a b : Bool) → (a && b) ≡ true → b ≡ true
and_second true b e = e
and_second false b e = absurd cc

only_value : (n : DirectiveName) (k : ValueClause) → list_any (λ j. same_clause j (value_kind k))
    (clauses_of (directive_kind n)) ≡ true → value_kind k ≡ value_of_name n
unfolding value_of_name
only_value n value_kinds.NumThreads e = rw (no_filter (directive_kind n) e) refl
only_value n value_kinds.Filter e = rw e refl

excludes_itself : (k : ValueClause) → excludes (value_kind k) (value_kind k) ≡ true
unfolding same_clause
excludes_itself value_kinds.NumThreads = refl
excludes_itself value_kinds.Filter = refl

-- a clause that leaves no room for one with an expression stands before
IsTaken : {E : Type 0} → DirectiveName → List (ClauseItem E) → Type 0
IsTaken n before = list_any (λ i. excludes (kind_of i.clause) (value_of_name n)) before ≡ true

not_both : (a b : Bool) → (a && not b) ≡ true → b ≡ true → ⊥
not_both true true e f = absurd cc
not_both true false e f = absurd cc
not_both false b e f = absurd cc

no_value : {E : Type 0} (n : DirectiveName) (before : List (ClauseItem E)) (k : ValueClause)
    → may_stand n (kinds_of before) (value_kind k) ≡ true → IsTaken n before → ⊥
unfolding may_stand IsTaken
no_value n before k can taken =
    let has = and_first (list_any (λ j. same_clause j (value_kind k)) (clauses_of (directive_kind n))) _ can in
    let same = only_value n k has in
    not_both (list_any (λ j. same_clause j (value_kind k)) (clauses_of (directive_kind n)))
    (list_any (λ j. excludes j (value_kind k)) (kinds_of before)) can
    (any_kind (λ j. excludes j (value_kind k)) before ∙ rw same taken)

none_left : {E : Type 0} (P : E → Type 0) (n : DirectiveName) (before items : List (ClauseItem E))
    → EachBehind (IsItem P n) before items → IsTaken n before
    → length (flat_map (λ (i : ClauseItem E). clause_expressions i.clause) items) ≡ 0
unfolding EachBehind IsTaken
none_left P n before [] each taken = refl
none_left {E} P n before (i ∷ items) each taken = go i.clause refl (none_left P n (before ++ i ∷ []) items each.1
    (any_more (λ (j : ClauseItem E). excludes (kind_of j.clause) (value_of_name n)) before i taken))
  where
    go : (c : Clause E) → i.clause ≡ c → length (flat_map (λ (j : ClauseItem E). clause_expressions j.clause) items)
        ≡ 0 → length (clause_expressions c ++ flat_map (λ (j : ClauseItem E). clause_expressions j.clause) items) ≡ 0
    go (clauses.Value k s v) is later = absurd (no_value n before k (rw is at each.0.can_stand) taken)
    go (clauses.Default s a) is later = later
    go (clauses.Data k s l) is later = later
    go (clauses.Reduction s r) is later = later
    go (clauses.Schedule s a) is later = later
    go (clauses.Plain k s) is later = later

at_most_one : {E : Type 0} (P : E → Type 0) (n : DirectiveName) (before items : List (ClauseItem E))
    → EachBehind (IsItem P n) before items → length (flat_map (λ (i : ClauseItem E). clause_expressions i.clause)
    items) ≤ 1
unfolding EachBehind IsTaken may_stand
at_most_one P n before [] each = omega arith
at_most_one {E} P n before (i ∷ items) each = go i.clause refl (at_most_one P n (before ++ i ∷ []) items each.1)
    (none_left P n (before ++ i ∷ []) items each.1)
  where
    go : (c : Clause E) → i.clause ≡ c → length (flat_map (λ (j : ClauseItem E). clause_expressions j.clause) items)
        ≤ 1 → (IsTaken n (before ++ i ∷ []) → length (flat_map (λ (j : ClauseItem E). clause_expressions j.clause)
        items) ≡ 0) → length (clause_expressions c ++ flat_map (λ (j : ClauseItem E). clause_expressions j.clause)
        items) ≤ 1
    go (clauses.Value k s v) is later none =
        let can : may_stand n (kinds_of before) (value_kind k) ≡ true = rw is at each.0.can_stand in
        let same = only_value n k
        (and_first (list_any (λ j. same_clause j (value_kind k)) (clauses_of (directive_kind n))) _ can) in
        let itself : excludes (kind_of i.clause) (value_of_name n) ≡ true = rw (is, sym same) (excludes_itself k) in
        omega (
          arith,
          none (any_last (λ (j : ClauseItem E). excludes (kind_of j.clause) (value_of_name n)) before i
              itself),
        )
    go (clauses.Default s a) is later none = later
    go (clauses.Data k s l) is later none = later
    go (clauses.Reduction s r) is later none = later
    go (clauses.Schedule s a) is later none = later
    go (clauses.Plain k s) is later none = later

pub one_expression : {E : Type 0} (P : E → Type 0) (d : Directive E) → IsDirective P d → length (expressions d) ≤ 1
unfolding IsDirective expressions
one_expression P d formed = at_most_one P d.name [] d.clauses formed
