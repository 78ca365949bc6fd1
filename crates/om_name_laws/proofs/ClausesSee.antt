-- Resolved declarations and clauses see their names, and what they declare is known behind them.
use Rattle.std.proofs.Common.{◌≡◌, List, [], ◌∷◌, ◌++◌, Option, None, Some, refl, sym}
use Rattle.std.proofs.Common.{bytes_eq, fold, subst}
use Rattle.std.specs.Prelude.{IfSome, ◌||◌}
use Rattle.std.specs.List.{list_any}
use Rattle.om_lexer.specs.declared.fault.FaultCode.TheVariants as faults
use Rattle.om_parser_tree.specs.Tree.{ExpressionTree, DeclaratorTree, ForStartTree, Nothing}
use Rattle.om_parser_tree.specs.Tree.{StartExpression, StartDeclaration}
use Rattle.om_pragma.specs.declared.clause.Clause.{Clause}
use Rattle.om_pragma.specs.declared.clause.Clause.TheVariants as clauses
use Rattle.om_pragma.specs.declared.clause.ClauseItem.{ClauseItem}
use Rattle.om_pragma.specs.declared.clause.DataSharing.{DataSharing}
use Rattle.om_pragma.specs.declared.clause.DataSharing.TheVariants as lists
use Rattle.om_pragma.specs.declared.clause.Name as names
use Rattle.om_scope_tree.specs.declared.resolved.CopyKind.{CopyKind}
use Rattle.om_scope_tree.specs.declared.resolved.CopyKind.TheVariants as copies
use Rattle.om_scope_tree.specs.declared.resolved.GlobalVariable.{GlobalVariable}
use Rattle.om_scope_tree.specs.declared.resolved.Shape.TheVariants as shapes
use Rattle.om_scope_tree.specs.declared.resolved.Variable.{Variable}
use Rattle.om_scope_tree.specs.ResolvedTree as resolved
use Rattle.om_scope_tree.specs.ResolvedTree.{ResolvedDeclaratorTree, ResolvedClauseTree}
use Rattle.om_scope_rules.specs.declared.region.SharingKind.{SharingKind}
use Rattle.om_scope_rules.specs.DirectiveRules.{Listed, after_clause, after_item, after_name, after_names}
use Rattle.om_scope_rules.specs.DirectiveRules.{clause_breaches}
use Rattle.om_scope_rules.specs.DirectiveRules.{in_kind, is_listed, is_mislisted, item_breaches, listed_breaches}
use Rattle.om_scope_rules.specs.DirectiveRules.{names_breaches, names_in}
use Rattle.om_scope_rules.specs.ExpressionRules.{undeclared_breaches}
use Rattle.om_scope_rules.specs.Faults.{breaches_along}
use Rattle.om_scope_rules.specs.Perhaps.{all_of, each, perhaps}
use Rattle.om_scope_rules.specs.Resolution.{resolved_expression, variable_named}
use Rattle.om_scope_rules.specs.Scopes.{Scopes, after_local, after_locals, declarators_of, is_declared, shape_of}
use Rattle.om_scope_rules.specs.Sharing.{declares}
use Rattle.om_scope_rules.specs.StatementResolution.{clause_of, length_of, resolved_clause, resolved_declarator}
use Rattle.om_scope_rules.specs.StatementResolution.{resolved_declarators, resolved_initial, resolved_item}
use Rattle.om_scope_rules.specs.StatementResolution.{resolved_listed}
use Rattle.om_scope_rules.specs.StatementResolution.{resolved_perhaps, resolved_start}
use Rattle.om_scope_rules.specs.StatementRules.{after_for_start, array_size_breaches, for_start_breaches}
use Rattle.om_scope_rules.specs.StatementRules.{initializer_breaches, local_breaches, locals_breaches}
use Rattle.om_scope_rules.specs.StatementRules.{redeclared_breaches}
use Rattle.om_name_laws.specs.Sees.{Known, ClauseSees, ClausesSee, DeclaratorsSee, EachUse, EachUseIfAny, IsSeen}
use Rattle.om_name_laws.specs.Sees.{IsSeenAs, StartSees, after_declarators, after_start, known_scalar, with_copies}
use Rattle.om_name_laws.proofs.ExpressionsSee.{expression_uses}
use Rattle.om_name_laws.proofs.Naming.{Knows, knows_local, seen_named}
use Rattle.om_name_laws.proofs.Steps.{back, front, if_then, not_broken, right_false}

module _ (globals : List GlobalVariable) where
  -- ---- expressions

  pub expression_sees : (ks : List Known) (scopes : Scopes) (e : ExpressionTree) → Knows globals ks scopes
      → IfSome (resolved_expression scopes e) (EachUse (IsSeen globals ks))
  expression_sees ks scopes e h =
      expression_uses (IsSeen globals ks) scopes e (λ name. seen_named globals ks scopes h name)

  perhaps_sees : (ks : List Known) {A : Type 0} (f : A → Option resolved.ResolvedExpressionTree)
      → ((x : A) → IfSome (f x) (EachUse (IsSeen globals ks))) → (o : Option A)
      → IfSome (perhaps f o) (EachUseIfAny (IsSeen globals ks))
  perhaps_sees ks f one None = tt
  perhaps_sees ks f one (Some x) =
      if_then (EachUse (IsSeen globals ks)) (EachUseIfAny (IsSeen globals ks)) (f x) _ (one x) (λ y hy. hy)

  pub any_sees : (ks : List Known) (scopes : Scopes) (e : Option ExpressionTree) → Knows globals ks scopes
      → IfSome (resolved_perhaps scopes e) (EachUseIfAny (IsSeen globals ks))
  any_sees ks scopes e h = perhaps_sees ks (resolved_expression scopes) (λ x. expression_sees ks scopes x h) e

  -- ---- declarations

  abbrev pub KnownDeclarators : List Known → Scopes → List (DeclaratorTree ExpressionTree)
      → List ResolvedDeclaratorTree → Type 0
  KnownDeclarators ks scopes ds rs =
      DeclaratorsSee globals ks rs × Knows globals (after_declarators ks rs) (after_locals scopes ds)

  abbrev declared_as : DeclaratorTree ExpressionTree → Known
  declared_as d = record { name = d.name.text; at = d.name.span.start; length = length_of d.array }

  pub declarators_see : (ds : List (DeclaratorTree ExpressionTree)) (ks : List Known) (scopes : Scopes)
      → Knows globals ks scopes → locals_breaches scopes ds ≡ []
      → IfSome (resolved_declarators scopes ds) (KnownDeclarators ks scopes ds)
  unfolding local_breaches resolved_declarator
  declarators_see [] ks scopes h w = (tt, h)
  declarators_see (d ∷ ds) ks scopes h w =
      let own = front (local_breaches scopes d) (locals_breaches (after_local scopes d) ds) w in
      let fresh = not_broken (is_declared scopes d.name.text) faults.Redeclared d.name.span.start
      (front (redeclared_breaches scopes d.name) (array_size_breaches d)
      (front (redeclared_breaches scopes d.name ++ array_size_breaches d)
      (initializer_breaches (after_local scopes d) d.initializer) own)) in
      let k = declared_as d in
      let inner = knows_local globals ks scopes d.name (shape_of d.array) (length_of d.array) fresh h in
      if_then (λ (r : ResolvedDeclaratorTree). (record { name = r.variable.name; at = r.variable.at; length = r.length }
      ≡ k) × EachUseIfAny (IsSeen globals (k ∷ ks)) r.initial)
      (KnownDeclarators ks scopes (d ∷ ds)) (resolved_declarator scopes d) _
      (if_then (EachUseIfAny (IsSeen globals (k ∷ ks))) _ (resolved_initial (after_local scopes d) d.initializer) _
      (perhaps_sees (k ∷ ks) (λ i. resolved_expression (after_local scopes d) i.value)
      (λ i. expression_sees (k ∷ ks) (after_local scopes d) i.value inner) d.initializer)
      (λ x hx. (refl, hx)))
      (λ r hr.
      if_then (KnownDeclarators (k ∷ ks) (after_local scopes d) ds) (KnownDeclarators ks scopes (d ∷ ds))
      (resolved_declarators (after_local scopes d) ds) _
      (declarators_see ds (k ∷ ks) (after_local scopes d) inner
      (back (local_breaches scopes d) (locals_breaches (after_local scopes d) ds) w))
      (λ rs hrs.
      subst (λ z. (EachUseIfAny (IsSeen globals (z ∷ ks)) r.initial × DeclaratorsSee globals (z ∷ ks) rs)
      × Knows globals (after_declarators (z ∷ ks) rs) (after_locals scopes (d ∷ ds))) (sym hr.0)
      ((hr.1, hrs.0), hrs.1)))

  abbrev pub KnownStart : List Known → Scopes → ForStartTree → resolved.ResolvedStartTree → Type 0
  KnownStart ks scopes start r =
      StartSees globals ks r × Knows globals (after_start ks r) (after_for_start scopes start)

  pub start_sees : (ks : List Known) (scopes : Scopes) (start : ForStartTree) → Knows globals ks scopes
      → for_start_breaches scopes start ≡ [] → IfSome (resolved_start scopes start) (KnownStart ks scopes start)
  unfolding resolved_start
  start_sees ks scopes (Nothing semicolon) h w = (tt, h)
  start_sees ks scopes (StartExpression e semicolon) h w =
      if_then (EachUse (IsSeen globals ks)) (KnownStart ks scopes (StartExpression e semicolon))
      (resolved_expression scopes e) _ (expression_sees ks scopes e h) (λ x hx. (hx, h))
  start_sees ks scopes (StartDeclaration d) h w =
      if_then (KnownDeclarators ks scopes (declarators_of d)) (KnownStart ks scopes (StartDeclaration d))
      (resolved_declarators scopes (declarators_of d)) _ (declarators_see (declarators_of d) ks scopes h w)
      (λ ds hds. hds)

  -- ---- clauses of a construct of this kind, outside of which these are known

  copies_both : (ks : List Known) (cs ds : List ResolvedClauseTree)
      → with_copies ks (cs ++ ds) ≡ with_copies (with_copies ks cs) ds
  copies_both ks [] ds = refl
  copies_both ks (resolved.ClauseValue kind e ∷ cs) ds = copies_both ks cs ds
  copies_both ks (resolved.Shared v ∷ cs) ds = copies_both ks cs ds
  copies_both ks (resolved.Copied kind original copy ∷ cs) ds = copies_both (known_scalar copy ∷ ks) cs ds

  see_both : (ks : List Known) (cs ds : List ResolvedClauseTree) → ClausesSee globals ks cs → ClausesSee globals ks ds
      → ClausesSee globals ks (cs ++ ds)
  see_both ks [] ds h g = g
  see_both ks (c ∷ cs) ds h g = (h.0, see_both ks cs ds h.1 g)

  module _ (outside : List Known) (scopes : Scopes) (known : Knows globals outside scopes) (kind : SharingKind) where
    -- the clauses see what is outside, and in the construct their copies are known
    abbrev pub KnownClauses : List Known → Listed → List ResolvedClauseTree → Type 0
    KnownClauses ks listed cs =
        ClausesSee globals outside cs × Knows globals (with_copies ks cs) (in_kind kind listed scopes)

    -- a copy of a name that no clause lists yet
    knows_copy : (ks : List Known) (listed : Listed) (sharing : DataSharing) (name : names.Name)
        → Knows globals ks (in_kind kind listed scopes) → listed_breaches scopes sharing listed name ≡ []
        → (sharing ≡ lists.Shared → ⊥)
        → Knows globals (record { name = name.text; at = name.span.start; length = None } ∷ ks)
        (in_kind kind (after_name sharing listed name) scopes)
    knows_copy ks listed lists.Shared name h w not_shared = absurd (not_shared refl)
    knows_copy ks listed lists.Private name h w not_shared =
        knows_local globals ks (in_kind kind listed scopes) name shapes.Scalar None
        (right_false (list_any (bytes_eq name.text) listed.shared) (declares listed.copies name.text)
        (right_false (is_mislisted lists.Private scopes name.text) (is_listed listed name.text)
        (not_broken (is_mislisted lists.Private scopes name.text || is_listed listed name.text) faults.Misuse
        name.span.start (back (undeclared_breaches scopes name) _ (front _ _ w))))) h
    knows_copy ks listed lists.Firstprivate name h w not_shared =
        knows_local globals ks (in_kind kind listed scopes) name shapes.Scalar None
        (right_false (list_any (bytes_eq name.text) listed.shared) (declares listed.copies name.text)
        (right_false (is_mislisted lists.Firstprivate scopes name.text) (is_listed listed name.text)
        (not_broken (is_mislisted lists.Firstprivate scopes name.text || is_listed listed name.text) faults.Misuse
        name.span.start (back (undeclared_breaches scopes name) _ (front _ _ w))))) h

    copy_sees : (copying : CopyKind) (name : names.Name) (v : Variable) → IsSeenAs globals outside name.text v
        → ClauseSees globals outside (clause_of (Some copying) v name)
    copy_sees copies.Private name v h = tt
    copy_sees copies.Firstprivate name v h = h
    copy_sees (copies.Reduction o) name v h = h

    copied : (sharing : DataSharing) (copying : CopyKind) → (sharing ≡ lists.Shared → ⊥) → (ns : List names.Name)
        (ks : List Known) (listed : Listed) → Knows globals ks (in_kind kind listed scopes)
        → names_breaches scopes sharing listed ns ≡ []
        → IfSome (each (resolved_listed (Some copying) scopes) ns) (KnownClauses ks (after_names sharing listed ns))
    copied sharing copying not_shared [] ks listed h w = (tt, h)
    copied sharing copying not_shared (n ∷ ns) ks listed h w =
        let own = front (listed_breaches scopes sharing listed n) (names_breaches scopes sharing
        (after_name sharing listed n) ns) w in
        let others = back (listed_breaches scopes sharing listed n) (names_breaches scopes sharing
        (after_name sharing listed n) ns) w in
        let k : Known = record { name = n.text; at = n.span.start; length = None } in
        if_then (λ c. ClauseSees globals outside c × ((cs : List ResolvedClauseTree) → with_copies ks (c ∷ cs)
        ≡ with_copies (k ∷ ks) cs)) (KnownClauses ks (after_names sharing listed (n ∷ ns)))
        (resolved_listed (Some copying) scopes n) _
        (if_then (IsSeenAs globals outside n.text) _ (variable_named scopes n) _ (known n.text)
        (λ v hv. (copy_sees copying n v hv, λ cs. refl)))
        (λ c hc.
        if_then (KnownClauses (k ∷ ks) (after_names sharing (after_name sharing listed n) ns))
        (KnownClauses ks (after_names sharing listed (n ∷ ns))) (each (resolved_listed (Some copying) scopes) ns) _
        (copied sharing copying not_shared ns (k ∷ ks) (after_name sharing listed n)
        (knows_copy ks listed sharing n h own not_shared) others)
        (λ cs hcs. (
          (hc.0, hcs.0),
          subst (λ z. Knows globals z
              (in_kind kind (after_names sharing listed (n ∷ ns)) scopes)) (sym (hc.1 cs)) hcs.1,
        )))

    shared : (ns : List names.Name) (ks : List Known) (listed : Listed)
        → Knows globals ks (in_kind kind listed scopes)
        → IfSome (each (resolved_listed None scopes) ns) (KnownClauses ks (after_names lists.Shared listed ns))
    shared [] ks listed h = (tt, h)
    shared (n ∷ ns) ks listed h =
        if_then (λ c. ClauseSees globals outside c × ((cs : List ResolvedClauseTree) → with_copies ks (c ∷ cs)
        ≡ with_copies ks cs)) (KnownClauses ks (after_names lists.Shared listed (n ∷ ns)))
        (resolved_listed None scopes n) _
        (if_then (IsSeenAs globals outside n.text) _ (variable_named scopes n) _ (known n.text)
        (λ v hv. ((n.text, hv), λ cs. refl)))
        (λ c hc.
        if_then (KnownClauses ks (after_names lists.Shared (after_name lists.Shared listed n) ns))
        (KnownClauses ks (after_names lists.Shared listed (n ∷ ns))) (each (resolved_listed None scopes) ns) _
        (shared ns ks (after_name lists.Shared listed n) h)
        (λ cs hcs. (
          (hc.0, hcs.0),
          subst (λ z. Knows globals z
              (in_kind kind (after_names lists.Shared listed (n ∷ ns)) scopes)) (sym (hc.1 cs)) hcs.1,
        )))

    clause_sees : (clause : Clause ExpressionTree) (ks : List Known) (listed : Listed)
        → Knows globals ks (in_kind kind listed scopes) → clause_breaches scopes listed clause ≡ []
        → IfSome (resolved_clause scopes clause) (KnownClauses ks (after_clause listed clause))
    unfolding resolved_clause clause_breaches after_clause
    clause_sees (clauses.Value what s v) ks listed h w =
        if_then (EachUse (IsSeen globals outside)) (KnownClauses ks listed) (resolved_expression scopes v.expression) _
        (expression_sees outside scopes v.expression known) (λ e he. ((he, tt), h))
    clause_sees (clauses.Default s argument) ks listed h w = (tt, h)
    clause_sees (clauses.Data lists.Shared s list) ks listed h w = shared (names_in list.first list.rest) ks listed h
    clause_sees (clauses.Data lists.Private s list) ks listed h w =
        copied lists.Private copies.Private (λ e. cc) (names_in list.first list.rest) ks listed h w
    clause_sees (clauses.Data lists.Firstprivate s list) ks listed h w =
        copied lists.Firstprivate copies.Firstprivate (λ e. cc) (names_in list.first list.rest) ks listed h w
    clause_sees (clauses.Reduction s r) ks listed h w =
        copied lists.Firstprivate (copies.Reduction r.operator) (λ e. cc) (names_in r.first r.rest) ks listed h w
    clause_sees (clauses.Schedule s argument) ks listed h w = (tt, h)
    clause_sees (clauses.Plain what s) ks listed h w = (tt, h)

    pub clauses_see : (items : List (ClauseItem ExpressionTree)) (ks : List Known) (listed : Listed)
        → Knows globals ks (in_kind kind listed scopes)
        → breaches_along (item_breaches scopes) after_item listed items ≡ []
        → IfSome (all_of (resolved_item scopes) items) (KnownClauses ks (fold after_item listed items))
    clauses_see [] ks listed h w = (tt, h)
    clauses_see (item ∷ items) ks listed h w =
        let own = item_breaches scopes listed item in
        let others = breaches_along (item_breaches scopes) after_item (after_item listed item) items in
        if_then (KnownClauses ks (after_item listed item)) (KnownClauses ks (fold after_item listed (item ∷ items)))
        (resolved_item scopes item) _ (clause_sees item.clause ks listed h (front own others w)) (λ cs hcs.
        if_then (KnownClauses (with_copies ks cs) (fold after_item (after_item listed item) items))
        (KnownClauses ks (fold after_item listed (item ∷ items))) (all_of (resolved_item scopes) items) _
        (clauses_see items (with_copies ks cs) (after_item listed item) hcs.1 (back own others w)) (λ ds hds. (
          see_both outside cs ds hcs.0 hds.0,
          subst (λ z. Knows globals z (in_kind kind (fold after_item listed (item ∷ items)) scopes))
              (sym (copies_both ks cs ds)) hds.1,
        )))
