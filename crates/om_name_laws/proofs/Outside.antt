-- A variable that a part uses, and that stands in front of it in the text, is seen outside of the part.
use Rattle.std.proofs.Common.{◌≡◌, ℕ, ◌<◌, ◌≤◌, ◌⊎◌, ◌∙◌, Bool, true, false, List, [], ◌∷◌, ◌++◌, Option, None, Some}
use Rattle.std.proofs.Common.{inl}
use Rattle.std.proofs.Common.{inr, ap, arith, bytes_eq, flat_map, map, nat_eq, refl, subst, sym, ⊎_elim}
use Rattle.std.specs.Prelude.{◌||◌, if◌then◌else◌}
use Rattle.std.specs.List.{list_any}
use Rattle.std.proofs.lemmas.Bool.{eqb-true}
use Rattle.std.proofs.lemmas.List.Folds.{list_any-append}
use Rattle.om_scope_rules.specs.TreePlaces.{Declared, clause_places, declarator_place, parts_places, start_places}
use Rattle.om_scope_rules.specs.TreePlaces.{statement_places, statements_places}
use Rattle.om_scope_tree.specs.declared.resolved.Capture.{Capture}
use Rattle.om_scope_tree.specs.declared.resolved.CopyKind.{CopyKind}
use Rattle.om_scope_tree.specs.declared.resolved.CopyKind.TheVariants as copies
use Rattle.om_scope_tree.specs.declared.resolved.GlobalVariable.{GlobalVariable}
use Rattle.om_scope_tree.specs.declared.resolved.LocalVariable.{LocalVariable}
use Rattle.om_scope_tree.specs.declared.resolved.StandAlone.TheVariants as alones
use Rattle.om_scope_tree.specs.declared.resolved.Variable as variables
use Rattle.om_scope_tree.specs.declared.resolved.Variable.TheVariants as named
use Rattle.om_scope_tree.specs.Captures.{captured_variable, clause_uses, copy_uses, declarator_uses, expression_uses}
use Rattle.om_scope_tree.specs.Captures.{parts_uses, perhaps_uses, start_uses, statement_uses}
use Rattle.om_scope_tree.specs.Captures.{statements_uses, values_uses, variable_uses}
use Rattle.om_scope_tree.specs.ResolvedTree.{ResolvedExpressionTree, Constant, Variable, Element, Call, ThreadNumber}
use Rattle.om_scope_tree.specs.ResolvedTree.{TeamSize, Print, Unary, Binary, Conditional, Assign, AssignElement}
use Rattle.om_scope_tree.specs.ResolvedTree.{Postfix}
use Rattle.om_scope_tree.specs.ResolvedTree.{PostfixElement, ValuesTree, NoValues, Value, ResolvedDeclaratorTree}
use Rattle.om_scope_tree.specs.ResolvedTree.{ResolvedClauseTree, ClauseValue, Shared, Copied, ResolvedStartTree}
use Rattle.om_scope_tree.specs.ResolvedTree.{StartNothing, StartExpression, StartDeclaration, ResolvedStatementTree}
use Rattle.om_scope_tree.specs.ResolvedTree.{Declaration, Block, Empty, Expression, If, IfElse, While, Do, For, Return}
use Rattle.om_scope_tree.specs.ResolvedTree.{Break, Continue, Region, Loop, Sections, Construct, Update, StandAlone}
use Rattle.om_scope_tree.specs.ResolvedTree.{ResolvedStatementsTree, NoStatements, Statement, ResolvedPartsTree}
use Rattle.om_scope_tree.specs.ResolvedTree.{NoParts}
use Rattle.om_scope_tree.specs.ResolvedTree.{Part}
use Rattle.om_name_laws.specs.Sees.{Known, AllSeen, CapturesSee, ClausesSee, CopySees, DeclaratorsSee, EachUse}
use Rattle.om_name_laws.specs.Sees.{EachUseIn}
use Rattle.om_name_laws.specs.Sees.{EachUseIfAny, IsSeen, ItemsSee, PartsSee, StartSees, StatementSees}
use Rattle.om_name_laws.specs.Sees.{after_declarators, after_item, after_start, known_as, known_of, known_scalar}
use Rattle.om_name_laws.specs.Sees.{with_copies}
use Rattle.om_name_laws.proofs.Known.{PlacesOf, places_back, places_front}

-- a variable is one of these
abbrev pub Has : ℕ → List ℕ → Type 0
Has x xs = list_any (nat_eq x) xs ≡ true

pub one_of_both : (x : ℕ) (xs ys : List ℕ) → Has x (xs ++ ys) → Has x xs ⊎ Has x ys
one_of_both x xs ys h = by (list_any (nat_eq x) xs) refl (sym (list_any-append (nat_eq x) xs ys) ∙ h)
  where
    by : (b : Bool) → list_any (nat_eq x) xs ≡ b → (b || list_any (nat_eq x) ys) ≡ true → Has x xs ⊎ Has x ys
    by true e g = inl e
    by false e g = inr g

pub first_or : (x y : ℕ) (ys : List ℕ) → Has x (y ∷ ys) → (x ≡ y) ⊎ Has x ys
first_or x y ys h = by (nat_eq x y) refl h
  where
    by : (b : Bool) → nat_eq x y ≡ b → (b || list_any (nat_eq x) ys) ≡ true → (x ≡ y) ⊎ Has x ys
    by true e g = inl (eqb-true x y e)
    by false e g = inr g

module _ (P : variables.Variable → Type 0) (x : ℕ) where
  pub variable_of : (v : variables.Variable) → P v → Has x (variable_uses v) → P (named.Local x)
  variable_of (named.Global n) h u = absurd cc
  variable_of (named.Local at) h u =
      ⊎_elim (λ (e : x ≡ at). subst (λ z. P (named.Local z)) (sym e) h) (λ (none : Has x []). absurd cc)
      (first_or x at [] u)

  -- the first part, or the second one
  pub of_two : (xs ys : List ℕ) → (Has x xs → P (named.Local x)) → (Has x ys → P (named.Local x)) → Has x (xs ++ ys)
      → P (named.Local x)
  of_two xs ys f g h = ⊎_elim f g (one_of_both x xs ys h)

  mutual
    unfolding expression_uses values_uses

    pub expression_of : (e : ResolvedExpressionTree) → EachUse P e → Has x (expression_uses e) → P (named.Local x)
    expression_of (Constant value) h u = absurd cc
    expression_of (Variable v) h u = variable_of v h u
    expression_of (Element v index) h u =
        of_two (variable_uses v) (expression_uses index) (variable_of v h.0) (expression_of index h.1) u
    expression_of (Call function es) h u = values_of es h u
    expression_of ThreadNumber h u = absurd cc
    expression_of TeamSize h u = absurd cc
    expression_of (Print format es) h u = values_of es h u
    expression_of (Unary o e) h u = expression_of e h u
    expression_of (Binary a o b) h u =
        of_two (expression_uses a) (expression_uses b) (expression_of a h.0) (expression_of b h.1) u
    expression_of (Conditional c a b) h u =
        of_two (expression_uses c) (expression_uses a ++ expression_uses b) (expression_of c h.0)
        (of_two (expression_uses a) (expression_uses b) (expression_of a h.1) (expression_of b h.2)) u
    expression_of (Assign v o e) h u =
        of_two (variable_uses v) (expression_uses e) (variable_of v h.0) (expression_of e h.1) u
    expression_of (AssignElement v index o e) h u =
        of_two (variable_uses v) (expression_uses index ++ expression_uses e) (variable_of v h.0)
        (of_two (expression_uses index) (expression_uses e) (expression_of index h.1) (expression_of e h.2)) u
    expression_of (Postfix v o) h u = variable_of v h u
    expression_of (PostfixElement v index o) h u =
        of_two (variable_uses v) (expression_uses index) (variable_of v h.0) (expression_of index h.1) u

    values_of : (es : ValuesTree) → EachUseIn P es → Has x (values_uses es) → P (named.Local x)
    values_of NoValues h u = absurd cc
    values_of (Value e rest) h u =
        of_two (expression_uses e) (values_uses rest) (expression_of e h.0) (values_of rest h.1) u

  pub perhaps_of : (e : Option ResolvedExpressionTree) → EachUseIfAny P e → Has x (perhaps_uses e) → P (named.Local x)
  perhaps_of None h u = absurd cc
  perhaps_of (Some e) h u = expression_of e h u

-- ---- in front of a place n of the text

module _ (globals : List GlobalVariable) (n x : ℕ) (before : x < n) where
  -- these stand no earlier
  abbrev pub Behind : List ℕ → ℕ → Type 0
  Behind name at = n ≤ at

  abbrev pub Sees : List Known → Type 0
  Sees ks = IsSeen globals ks (named.Local x)

  pub out_one : (k : Known) (ks : List Known) → n ≤ k.at → Sees (k ∷ ks) → Sees ks
  out_one k ks le s = by (bytes_eq s.0 k.name) s.1.3
    where
      by : (b : Bool) → (if b then Some k else known_as s.0 ks) ≡ Some s.1.0 → Sees ks
      by true e =
          let is : k ≡ s.1.0 = cc e in
          let there : k.at ≡ x = ap (λ (z : Known). z.at) is ∙ s.1.1 in
          absurd (omega (arith, le, there, before))
      by false e = (s.0, (s.1.0, s.1.1, s.1.2, e))

  out_declarators : (ds : List ResolvedDeclaratorTree) (ks : List Known) → PlacesOf Behind (map declarator_place ds)
      → Sees (after_declarators ks ds) → Sees ks
  out_declarators [] ks h s = s
  out_declarators (d ∷ ds) ks h s = out_one (known_of d) ks h.0 (out_declarators ds (known_of d ∷ ks) h.1 s)

  out_start : (start : ResolvedStartTree) (ks : List Known) → PlacesOf Behind (start_places start)
      → Sees (after_start ks start) → Sees ks
  out_start StartNothing ks h s = s
  out_start (StartExpression e) ks h s = s
  out_start (StartDeclaration ds) ks h s = out_declarators ds ks h s

  pub out_copies : (cs : List ResolvedClauseTree) (ks : List Known) → PlacesOf Behind (flat_map clause_places cs)
      → Sees (with_copies ks cs) → Sees ks
  out_copies [] ks h s = s
  out_copies (ClauseValue kind e ∷ cs) ks h s = out_copies cs ks h s
  out_copies (Shared v ∷ cs) ks h s = out_copies cs ks h s
  out_copies (Copied kind original copy ∷ cs) ks h s =
      out_one (known_scalar copy) ks h.0 (out_copies cs (known_scalar copy ∷ ks) h.1 s)

  out_item : (s : ResolvedStatementTree) (ks : List Known) → PlacesOf Behind (statement_places s)
      → Sees (after_item ks s) → Sees ks
  out_item (Declaration at ds) ks h s = out_declarators ds ks h s
  out_item _ ks h s = s

  declarators_use : (ds : List ResolvedDeclaratorTree) (ks : List Known) → DeclaratorsSee globals ks ds
      → PlacesOf Behind (map declarator_place ds) → Has x (flat_map declarator_uses ds) → Sees ks
  declarators_use [] ks h p u = absurd cc
  declarators_use (d ∷ ds) ks h p u =
      out_one (known_of d) ks p.0
      (of_two (IsSeen globals (known_of d ∷ ks)) x (perhaps_uses d.initial) (flat_map declarator_uses ds)
      (perhaps_of (IsSeen globals (known_of d ∷ ks)) x d.initial h.0)
      (declarators_use ds (known_of d ∷ ks) h.1 p.1) u)

  start_use : (start : ResolvedStartTree) (ks : List Known) → StartSees globals ks start
      → PlacesOf Behind (start_places start) → Has x (start_uses start) → Sees ks
  start_use StartNothing ks h p u = absurd cc
  start_use (StartExpression e) ks h p u = expression_of (IsSeen globals ks) x e h u
  start_use (StartDeclaration ds) ks h p u = declarators_use ds ks h p u

  copy_use : (kind : CopyKind) (original : variables.Variable) (copy : LocalVariable) (ks : List Known)
      → CopySees globals ks kind original copy → Has x (copy_uses kind original) → Sees ks
  copy_use copies.Private original copy ks h u = absurd cc
  copy_use copies.Firstprivate original copy ks h u = variable_of (IsSeen globals ks) x original (copy.name, h) u
  copy_use (copies.Reduction o) original copy ks h u = variable_of (IsSeen globals ks) x original (copy.name, h) u

  clauses_use : (cs : List ResolvedClauseTree) (ks : List Known) → ClausesSee globals ks cs
      → Has x (flat_map clause_uses cs) → Sees ks
  clauses_use [] ks h u = absurd cc
  clauses_use (ClauseValue kind e ∷ cs) ks h u =
      of_two (IsSeen globals ks) x (expression_uses e) (flat_map clause_uses cs)
      (expression_of (IsSeen globals ks) x e h.0) (clauses_use cs ks h.1) u
  clauses_use (Shared v ∷ cs) ks h u =
      of_two (IsSeen globals ks) x (variable_uses v) (flat_map clause_uses cs) (variable_of (IsSeen globals ks) x v h.0)
      (clauses_use cs ks h.1) u
  clauses_use (Copied kind original copy ∷ cs) ks h u =
      of_two (IsSeen globals ks) x (copy_uses kind original) (flat_map clause_uses cs)
      (copy_use kind original copy ks h.0) (clauses_use cs ks h.1) u

  captures_use : (ts : List Capture) (ks : List Known) → CapturesSee globals ks ts → Has x (map captured_variable ts)
      → Sees ks
  captures_use [] ks h u = absurd cc
  captures_use (t ∷ ts) ks h u =
      ⊎_elim (λ (e : x ≡ t.variable). subst (λ z. IsSeen globals ks (named.Local z)) (sym e) h.0)
      (captures_use ts ks h.1) (first_or x t.variable (map captured_variable ts) u)

  flushed_use : (vs : List variables.Variable) (ks : List Known) → AllSeen globals ks vs
      → Has x (flat_map variable_uses vs) → Sees ks
  flushed_use [] ks h u = absurd cc
  flushed_use (v ∷ vs) ks h u =
      of_two (IsSeen globals ks) x (variable_uses v) (flat_map variable_uses vs)
      (variable_of (IsSeen globals ks) x v h.0) (flushed_use vs ks h.1) u

  mutual
    unfolding statement_uses statements_uses parts_uses

    pub statement_use : (s : ResolvedStatementTree) (ks : List Known)
        → StatementSees (CapturesSee globals) globals ks s → PlacesOf Behind (statement_places s)
        → Has x (statement_uses s) → Sees ks
    statement_use (Declaration at ds) ks h p u = declarators_use ds ks h p u
    statement_use (Block at items) ks h p u = items_use items ks h p u
    statement_use (Empty at) ks h p u = absurd cc
    statement_use (Expression at e) ks h p u = expression_of (IsSeen globals ks) x e h u
    statement_use (If at c s) ks h p u =
        of_two (IsSeen globals ks) x (expression_uses c) (statement_uses s) (expression_of (IsSeen globals ks) x c h.0)
        (statement_use s ks h.1 p) u
    statement_use (IfElse at c s t) ks h p u =
        of_two (IsSeen globals ks) x (expression_uses c) (statement_uses s ++ statement_uses t)
        (expression_of (IsSeen globals ks) x c h.0)
        (of_two (IsSeen globals ks) x (statement_uses s) (statement_uses t)
        (statement_use s ks h.1 (places_front Behind (statement_places s) (statement_places t) p))
        (statement_use t ks h.2 (places_back Behind (statement_places s) (statement_places t) p))) u
    statement_use (While at c s) ks h p u =
        of_two (IsSeen globals ks) x (expression_uses c) (statement_uses s) (expression_of (IsSeen globals ks) x c h.0)
        (statement_use s ks h.1 p) u
    statement_use (Do at s c) ks h p u =
        of_two (IsSeen globals ks) x (statement_uses s) (expression_uses c) (statement_use s ks h.0 p)
        (expression_of (IsSeen globals ks) x c h.1) u
    statement_use (For at start c step s) ks h p u =
        let inner = after_start ks start in
        let own = places_front Behind (start_places start) (statement_places s) p in
        let rest = places_back Behind (start_places start) (statement_places s) p in
        of_two (IsSeen globals ks) x (start_uses start) (perhaps_uses c ++ (perhaps_uses step ++ statement_uses s))
        (start_use start ks h.0 own)
        (λ v. out_start start ks own
        (of_two (IsSeen globals inner) x (perhaps_uses c) (perhaps_uses step ++ statement_uses s)
        (perhaps_of (IsSeen globals inner) x c h.1)
        (of_two (IsSeen globals inner) x (perhaps_uses step) (statement_uses s)
        (perhaps_of (IsSeen globals inner) x step h.2) (statement_use s inner h.3 rest)) v)) u
    statement_use (Return at e) ks h p u = perhaps_of (IsSeen globals ks) x e h u
    statement_use (Break at) ks h p u = absurd cc
    statement_use (Continue at) ks h p u = absurd cc
    statement_use (Region at kind cs ts s) ks h p u =
        of_two (IsSeen globals ks) x (flat_map clause_uses cs) (map captured_variable ts) (clauses_use cs ks h.0)
        (captures_use ts ks h.1) u
    statement_use (Loop at cs nowait l s) ks h p u =
        let kv = known_scalar l.variable in
        let own = places_front Behind (flat_map clause_places cs) (Declared l.variable ∷ statement_places s) p in
        let rest = places_back Behind (flat_map clause_places cs) (Declared l.variable ∷ statement_places s) p in
        of_two (IsSeen globals ks) x (flat_map clause_uses cs)
        (expression_uses l.from ++ (expression_uses l.to ++ statement_uses s)) (clauses_use cs ks h.0)
        (of_two (IsSeen globals ks) x (expression_uses l.from) (expression_uses l.to ++ statement_uses s)
        (⊎_elim (λ b. expression_of (IsSeen globals ks) x l.from b.0)
        (λ b. λ v. out_one kv ks rest.0 (expression_of (IsSeen globals (kv ∷ ks)) x l.from b.0 v)) h.1)
        (of_two (IsSeen globals ks) x (expression_uses l.to) (statement_uses s)
        (⊎_elim (λ b. expression_of (IsSeen globals ks) x l.to b.1)
        (λ b. λ v. out_one kv ks rest.0 (expression_of (IsSeen globals (kv ∷ ks)) x l.to b.1 v)) h.1)
        (λ v. out_copies cs ks own (out_one kv (with_copies ks cs) rest.0
        (statement_use s (kv ∷ with_copies ks cs) h.2 rest.1 v))))) u
    statement_use (Sections at cs nowait parts) ks h p u =
        of_two (IsSeen globals ks) x (flat_map clause_uses cs) (parts_uses parts) (clauses_use cs ks h.0)
        (λ v. out_copies cs ks (places_front Behind (flat_map clause_places cs) (parts_places parts) p)
        (parts_use parts (with_copies ks cs) h.1 (places_back Behind (flat_map clause_places cs) (parts_places parts) p)
        v)) u
    statement_use (Construct at kind cs s) ks h p u =
        of_two (IsSeen globals ks) x (flat_map clause_uses cs) (statement_uses s) (clauses_use cs ks h.0)
        (λ v. out_copies cs ks (places_front Behind (flat_map clause_places cs) (statement_places s) p)
        (statement_use s (with_copies ks cs) h.2 (places_back Behind (flat_map clause_places cs) (statement_places s) p)
        v)) u
    statement_use (Update at w) ks h p u =
        of_two (IsSeen globals ks) x (variable_uses w.variable) (perhaps_uses w.index ++ expression_uses w.operand)
        (variable_of (IsSeen globals ks) x w.variable h.0)
        (of_two (IsSeen globals ks) x (perhaps_uses w.index) (expression_uses w.operand)
        (perhaps_of (IsSeen globals ks) x w.index h.1) (expression_of (IsSeen globals ks) x w.operand h.2)) u
    statement_use (StandAlone at alones.Barrier) ks h p u = absurd cc
    statement_use (StandAlone at alones.Taskwait) ks h p u = absurd cc
    statement_use (StandAlone at alones.Taskyield) ks h p u = absurd cc
    statement_use (StandAlone at (alones.Flush vs)) ks h p u = flushed_use vs ks h u

    items_use : (items : ResolvedStatementsTree) (ks : List Known)
        → ItemsSee (CapturesSee globals) globals ks items → PlacesOf Behind (statements_places items)
        → Has x (statements_uses items) → Sees ks
    items_use NoStatements ks h p u = absurd cc
    items_use (Statement s rest) ks h p u =
        let own = places_front Behind (statement_places s) (statements_places rest) p in
        of_two (IsSeen globals ks) x (statement_uses s) (statements_uses rest) (statement_use s ks h.0 own)
        (λ v. out_item s ks own (items_use rest (after_item ks s) h.1
        (places_back Behind (statement_places s) (statements_places rest) p) v)) u

    parts_use : (parts : ResolvedPartsTree) (ks : List Known) → PartsSee (CapturesSee globals) globals ks parts
        → PlacesOf Behind (parts_places parts) → Has x (parts_uses parts) → Sees ks
    parts_use NoParts ks h p u = absurd cc
    parts_use (Part items rest) ks h p u =
        of_two (IsSeen globals ks) x (statements_uses items) (parts_uses rest)
        (items_use items ks h.0 (places_front Behind (statements_places items) (parts_places rest) p))
        (parts_use rest ks h.1 (places_back Behind (statements_places items) (parts_places rest) p)) u
