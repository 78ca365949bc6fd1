-- Which variables the instructions of an expression name, and how many instructions it has.
use Rattle.std.proofs.Common.{◌≡◌, ℕ, suc, ◌+◌, ◌<◌, ◌≤◌, List, Option, None, Some, IfSome, ap, arith, refl, subst, sym}
use Rattle.std.proofs.Common.{⊎_elim, slice_get}
use Rattle.std.specs.Prelude.{ℤ, pos, Bool, true, false}
use Rattle.std.proofs.lemmas.Bool.{cases_lt}
use Rattle.om_code.specs.declared.instruction.BinaryOperator as machine
use Rattle.om_code.specs.declared.instruction.Instr.{Instr}
use Rattle.om_code.specs.declared.instruction.Place.{Place}
use Rattle.om_code.specs.declared.raw.Line.{Line}
use Rattle.om_scope_tree.specs.declared.resolved.UnaryOperator.{UnaryOperator}
use Rattle.om_scope_tree.specs.declared.resolved.UnaryOperator.TheVariants as unaries
use Rattle.om_scope_tree.specs.declared.resolved.Variable as variables
use Rattle.om_scope_tree.specs.ResolvedTree.{ResolvedExpressionTree, Constant, Variable, Element, Call, ThreadNumber}
use Rattle.om_scope_tree.specs.ResolvedTree.{TeamSize, Print, Unary, Binary, Conditional, Assign, AssignElement}
use Rattle.om_scope_tree.specs.ResolvedTree.{Postfix}
use Rattle.om_scope_tree.specs.ResolvedTree.{PostfixElement, ValuesTree, NoValues, Value}
use Rattle.om_lower_rules.specs.Expressions.{assigned, binary_row, called, conditional_row, constant, effect}
use Rattle.om_lower_rules.specs.Expressions.{element_assigned, unary_row, value, values}
use Rattle.om_lower_rules.specs.Operators.{BinaryForm, Both, Either, Plain, form_of, compound_of, step_of}
use Rattle.om_lower_rules.specs.Rows.{Site, Row, given, perhaps}
use Rattle.om_lower_rules.specs.Scopes.{tested}
use Rattle.om_lower_rules.specs.Slots.{place}
use Rattle.om_lower_rules.specs.Statements.{jump, last_instruction, returned, test}
use Rattle.om_name_laws.specs.NameLaws.{named_place}
use Rattle.om_name_laws.specs.Sees.{EachUse, EachUseIfAny, EachUseIn}

-- ---- along a row

-- so many instructions stand from p to q, and P of each place that one of them names
pub record Runs (code : List Line) (P : Place → Type 0) (p n q : ℕ) : Type 0 where
  pub long : q ≡ p + n
  pub by : (k : ℕ) → p ≤ k → k < q → (line : Line) → slice_get code k ≡ Some line →
      IfSome (named_place line.instruction) P

pub runs_end : {code : List Line} {P : Place → Type 0} {p q : ℕ} → p ≡ q → Runs code P p 0 q
runs_end {code} {P} {p} {q} r = record { long = omega (arith, r); by = λ k le lt. absurd (omega (arith, r, le, lt)) }

pub runs_ins : {code : List Line} {P : Place → Type 0} {R : Type 0} {p n q l : ℕ} {x : Instr}
    → (slice_get code p ≡ Some (record { instruction = x; line = l })) × R
    → IfSome (named_place x) P → (R → Runs code P (p + 1) n q) → Runs code P p (suc n) q
runs_ins {code} {P} {R} {p} {n} {q} {l} {x} r known k = record {
  long = let rest = (k r.1).long in omega (arith, rest);
  by = λ k' le lt line is.
      ⊎_elim
      (λ (below : k' < p + 1).
      let here : k' ≡ p = omega (arith, below, le) in
      let same : record { instruction = x; line = l } ≡ line = cc (r.0, ap (λ z. slice_get code z) here, is) in
      subst (λ (z : Line). IfSome (named_place z.instruction) P) same known)
      (λ (behind : p + 1 ≤ k'). (k r.1).by k' behind lt line is)
      (cases_lt k' (p + 1));
}

pub runs_part : {code : List Line} {P : Place → Type 0} {A R : ℕ → Type 0} {p n k q : ℕ}
    → (m : ℕ) × A m × R m → ((m : ℕ) → A m → Runs code P p n m) → ((m : ℕ) → R m → Runs code P m k q)
    → Runs code P p (n + k) q
runs_part {code} {P} {A} {R} {p} {n} {k} {q} r first rest = record {
  long =
      let one = (first r.0 r.1).long in
      let other = (rest r.0 r.2).long in
      omega (arith, one, other);
  by = λ i le lt line is.
      ⊎_elim (λ (below : i < r.0). (first r.0 r.1).by i le below line is) (λ (behind : r.0 ≤ i). (rest r.0 r.2).by i
      behind lt line is) (cases_lt i r.0);
}

-- one instruction
pub runs_one : {code : List Line} {P : Place → Type 0} {p l : ℕ} {x : Instr}
    → slice_get code p ≡ Some (record { instruction = x; line = l }) → IfSome (named_place x) P → Runs code P p 1
    (p + 1)
runs_one {code} {P} {p} {l} {x} e known = record {
  long = omega arith;
  by = λ k le lt line is.
      let here : k ≡ p = omega (arith, le, lt) in
      let same : record { instruction = x; line = l } ≡ line = cc (e, ap (λ z. slice_get code z) here, is) in
      subst (λ (z : Line). IfSome (named_place z.instruction) P) same known;
}

-- code behind other code
pub runs_both : {code : List Line} {P : Place → Type 0} {p n m k q : ℕ} → Runs code P p n m → Runs code P m k q
    → Runs code P p (n + k) q
runs_both {code} {P} {p} {n} {m} {k} {q} first rest = record {
  long = let one = first.long in let other = rest.long in omega (arith, one, other);
  by = λ i le lt line is.
      ⊎_elim (λ (below : i < m). first.by i le below line is) (λ (behind : m ≤ i). rest.by i behind lt line is)
      (cases_lt i m);
}

-- ---- how many instructions

abbrev pub assigned_size : Option machine.BinaryOperator → ℕ → ℕ
assigned_size None e = e + 1
assigned_size (Some o) e = suc (e + 2)

abbrev pub element_size : Option machine.BinaryOperator → (j e : ℕ) → ℕ
element_size None j e = j + (e + 1)
element_size (Some o) j e = j + suc (suc (e + 2))

abbrev pub unary_size : UnaryOperator → ℕ → ℕ
unary_size unaries.Plus a = a
unary_size unaries.Negate a = a + 1
unary_size unaries.Not a = a + 1

abbrev pub binary_size : BinaryForm → (a b : ℕ) → ℕ
binary_size Both a b = a + suc (b + 4)
binary_size Either a b = a + suc (suc (suc (b + 4)))
binary_size (Plain o) a b = a + (b + 1)

abbrev mutual
  pub value_size : ResolvedExpressionTree → ℕ
  value_size (Constant c) = 1
  value_size (Variable x) = 1
  value_size (Element a j) = value_size j + 1
  value_size (Call function es) = (values_size es + 1) + 1
  value_size ThreadNumber = 1
  value_size TeamSize = 1
  value_size (Print format es) = 0
  value_size (Unary o e) = unary_size o (value_size e)
  value_size (Binary a o b) = binary_size (form_of o) (value_size a) (value_size b)
  value_size (Conditional c a b) = value_size c + suc (value_size a + suc (value_size b + 0))
  value_size (Assign x o e) = assigned_size (compound_of o) (value_size e)
  value_size (AssignElement a j o e) = element_size (compound_of o) (value_size j) (value_size e)
  value_size (Postfix x o) = assigned_size (Some (step_of o)) 1 + 2
  value_size (PostfixElement a j o) = element_size (Some (step_of o)) (value_size j) 1 + 2

  pub values_size : ValuesTree → ℕ
  values_size NoValues = 0
  values_size (Value e rest) = value_size e + values_size rest

abbrev pub effect_size : ResolvedExpressionTree → ℕ
effect_size (Assign x o e) = assigned_size (compound_of o) (value_size e)
effect_size (AssignElement a j o e) = element_size (compound_of o) (value_size j) (value_size e)
effect_size (Postfix x o) = assigned_size (Some (step_of o)) 1
effect_size (PostfixElement a j o) = element_size (Some (step_of o)) (value_size j) 1
effect_size (Print format es) = values_size es + 1
effect_size (Call function es) = (values_size es + 1) + 1
effect_size e = value_size e + 1

-- ---- expressions

module _ (at : Site) (P : variables.Variable → Type 0) where
  -- a place is that of a variable of which P holds
  abbrev pub Named : Place → Type 0
  Named pl = (x : variables.Variable) × (pl ≡ place at x) × P x

  abbrev pub Row_ : ℕ → Row → Type 0
  Row_ n r = (p q : ℕ) → r p q → Runs at.code Named p n q

  pub this : (x : variables.Variable) → P x → Named (place at x)
  this x h = (x, refl, h)

  constant_runs : (l : ℕ) (n : ℤ) → Row_ 1 (constant at l n)
  constant_runs l n p q r = runs_ins r tt runs_end

  unary_runs : (l : ℕ) (o : UnaryOperator) (a : Row) (n : ℕ) → Row_ n a → Row_ (unary_size o n) (unary_row at l o a)
  unary_runs l unaries.Plus a n ha p q r = ha p q r
  unary_runs l unaries.Negate a n ha p q r = runs_part r (ha p) (λ m r. runs_ins r tt runs_end)
  unary_runs l unaries.Not a n ha p q r = runs_part r (ha p) (λ m r. runs_ins r tt runs_end)

  binary_runs : (l : ℕ) (form : BinaryForm) (a b : Row) (n k : ℕ) → Row_ n a → Row_ k b
      → Row_ (binary_size form n k) (binary_row at l form a b)
  binary_runs l Both a b n k ha hb p q r =
      runs_part r.2 (ha p) (λ m r. runs_ins r tt (λ r. runs_part r (hb (m + 1)) (λ m r.
      runs_ins r tt (λ r. runs_ins r tt (λ r. runs_ins r tt (λ r. runs_ins r.1 tt (λ r. runs_end r.1)))))))
  binary_runs l Either a b n k ha hb p q r =
      runs_part r.3 (ha p) (λ m r. runs_ins r tt (λ r. runs_ins r tt (λ r. runs_ins r tt (λ r.
      runs_part r.1 (hb (m + 1 + 1 + 1)) (λ m r.
      runs_ins r tt (λ r. runs_ins r tt (λ r. runs_ins r tt (λ r. runs_ins r.1 tt (λ r. runs_end r.1)))))))))
  binary_runs l (Plain o) a b n k ha hb p q r = runs_part r (ha p)
      (λ m r. runs_part r (hb m) (λ m r. runs_ins r tt runs_end))

  conditional_runs : (l : ℕ) (x a b : Row) (i j k : ℕ) → Row_ i x → Row_ j a → Row_ k b
      → Row_ (i + suc (j + suc (k + 0))) (conditional_row at l x a b)
  conditional_runs l x a b i j k hx ha hb p q r =
      runs_part r.2 (hx p) (λ m r. runs_ins r tt (λ r. runs_part r (ha (m + 1)) (λ m r. runs_ins r tt (λ r.
      runs_part r.1 (hb (m + 1)) (λ m r. runs_end r.1)))))

  assigned_runs : (l : ℕ) (keeps : Bool) (x : variables.Variable) (o : Option machine.BinaryOperator) (e : Row) (n : ℕ)
      → P x → Row_ n e → Row_ (assigned_size o n) (assigned at l keeps x o e)
  assigned_runs l keeps x None e n known he p q r = runs_part r (he p) (λ m r. runs_ins r (this x known) runs_end)
  assigned_runs l keeps x (Some o) e n known he p q r =
      runs_ins r (this x known)
      (λ r. runs_part r (he (p + 1)) (λ m r. runs_ins r tt (λ r. runs_ins r (this x known) runs_end)))

  element_runs : (l : ℕ) (keeps : Bool) (a : variables.Variable) (j : Row) (o : Option machine.BinaryOperator)
      (e : Row) (n k : ℕ) → P a → Row_ n j → Row_ k e → Row_ (element_size o n k) (element_assigned at l keeps a j o e)
  element_runs l keeps a j None e n k known hj he p q r =
      runs_part r (hj p) (λ m r. runs_part r (he m) (λ m r. runs_ins r (this a known) runs_end))
  element_runs l keeps a j (Some o) e n k known hj he p q r =
      runs_part r (hj p) (λ m r. runs_ins r tt (λ r. runs_ins r (this a known) (λ r.
      runs_part r (he (m + 1 + 1)) (λ m r. runs_ins r tt (λ r. runs_ins r (this a known) runs_end)))))

  called_runs : (l f : ℕ) (es : ValuesTree) (e : Row) (n : ℕ) → Row_ n e → Row_ (n + 1) (called at l f es e)
  called_runs l f es e n he p q r = runs_part r (he p) (λ m r. runs_ins r tt runs_end)

  mutual
    pub value_runs : (e : ResolvedExpressionTree) (l : ℕ) → EachUse P e → Row_ (value_size e) (value at l e)
    value_runs (Constant n) l u p q r = runs_ins r tt runs_end
    value_runs (Variable x) l u p q r = runs_ins r (this x u) runs_end
    value_runs (Element a j) l u p q r = runs_part r (value_runs j l u.1 p) (λ m r. runs_ins r (this a u.0) runs_end)
    value_runs (Call function es) l u p q r =
        runs_part r (called_runs l function es (values at l es) (values_size es) (values_runs es l u) p)
        (λ m r. runs_ins r tt runs_end)
    value_runs ThreadNumber l u p q r = runs_ins r tt runs_end
    value_runs TeamSize l u p q r = runs_ins r tt runs_end
    value_runs (Print format es) l u p q r = absurd r
    value_runs (Unary o a) l u p q r = unary_runs l o (value at l a) (value_size a) (value_runs a l u) p q r
    value_runs (Binary a o b) l u p q r =
        binary_runs l (form_of o) (value at l a) (value at l b) (value_size a) (value_size b) (value_runs a l u.0)
        (value_runs b l u.1) p q r
    value_runs (Conditional x a b) l u p q r =
        conditional_runs l (value at l x) (value at l a) (value at l b) (value_size x) (value_size a) (value_size b)
        (value_runs x l u.0) (value_runs a l u.1) (value_runs b l u.2) p q r
    value_runs (Assign x o e) l u p q r =
        assigned_runs l true x (compound_of o) (value at l e) (value_size e) u.0 (value_runs e l u.1) p q r
    value_runs (AssignElement a j o e) l u p q r =
        element_runs l true a (value at l j) (compound_of o) (value at l e) (value_size j) (value_size e) u.0
        (value_runs j l u.1) (value_runs e l u.2) p q r
    value_runs (Postfix x o) l u p q r =
        runs_part r (assigned_runs l true x (Some (step_of o)) (constant at l (pos 1)) 1 u (constant_runs l (pos 1)) p)
        (λ m r. runs_ins r tt (λ r. runs_ins r tt runs_end))
    value_runs (PostfixElement a j o) l u p q r =
        runs_part r
        (element_runs l true a (value at l j) (Some (step_of o)) (constant at l (pos 1)) (value_size j) 1 u.0
        (value_runs j l u.1) (constant_runs l (pos 1)) p)
        (λ m r. runs_ins r tt (λ r. runs_ins r tt runs_end))

    pub values_runs : (es : ValuesTree) (l : ℕ) → EachUseIn P es → Row_ (values_size es) (values at l es)
    values_runs NoValues l u p q r = runs_end r
    values_runs (Value e rest) l u p q r =
        runs_part r (value_runs e l u.0 p) (λ m r. values_runs rest l u.1 m q r)

  pub effect_runs : (e : ResolvedExpressionTree) (l : ℕ) → EachUse P e → Row_ (effect_size e) (effect at l e)
  effect_runs (Assign x o e) l u p q r =
      assigned_runs l false x (compound_of o) (value at l e) (value_size e) u.0 (value_runs e l u.1) p q r
  effect_runs (AssignElement a j o e) l u p q r =
      element_runs l false a (value at l j) (compound_of o) (value at l e) (value_size j) (value_size e) u.0
      (value_runs j l u.1) (value_runs e l u.2) p q r
  effect_runs (Postfix x o) l u p q r =
      assigned_runs l false x (Some (step_of o)) (constant at l (pos 1)) 1 u (constant_runs l (pos 1)) p q r
  effect_runs (PostfixElement a j o) l u p q r =
      element_runs l false a (value at l j) (Some (step_of o)) (constant at l (pos 1)) (value_size j) 1 u.0
      (value_runs j l u.1) (constant_runs l (pos 1)) p q r
  effect_runs (Print format es) l u p q r = runs_part r (values_runs es l u p) (λ m r. runs_ins r tt runs_end)
  effect_runs (Call function es) l u p q r =
      runs_part r (called_runs l function es (values at l es) (values_size es) (values_runs es l u) p)
      (λ m r. runs_ins r tt runs_end)
  effect_runs e l u p q r = runs_part r (value_runs e l u p) (λ m r. runs_ins r tt runs_end)

  -- ---- rows of code, by their lengths

  pub test_ran : (l f : ℕ) (c : ResolvedExpressionTree) → EachUse P c
      → Row_ (value_size c + 1) (test at l f c)
  test_ran l f c u p q r = runs_part r (value_runs c l u p) (λ m r. runs_ins r tt runs_end)

  pub value_ran : (l : ℕ) (c : ResolvedExpressionTree) → EachUse P c
      → Row_ (value_size c) (value at l c)
  value_ran l c u = value_runs c l u

  pub effect_ran : (l : ℕ) (c : ResolvedExpressionTree) → EachUse P c
      → Row_ (effect_size c) (effect at l c)
  effect_ran l c u = effect_runs c l u

  -- c, JZ in front of further code
  pub tested_ran : (l : ℕ) (c : ResolvedExpressionTree) → EachUse P c
      → Row_ (value_size c + 1) (tested at l c)
  tested_ran l c u p q r = test_ran l r.0 c u p q r.1

  abbrev pub value_count : Option ResolvedExpressionTree → ℕ
  value_count None = 0
  value_count (Some c) = value_size c

  abbrev pub test_count : Option ResolvedExpressionTree → ℕ
  test_count None = 0
  test_count (Some c) = value_size c + 1

  abbrev pub effect_count : Option ResolvedExpressionTree → ℕ
  effect_count None = 0
  effect_count (Some c) = effect_size c

  pub perhaps_value_ran : (l : ℕ) (c : Option ResolvedExpressionTree) → EachUseIfAny P c
      → Row_ (value_count c) (perhaps (value at l) c)
  perhaps_value_ran l None u p q r = runs_end r
  perhaps_value_ran l (Some c) u p q r = value_ran l c u p q r

  pub perhaps_test_ran : (l f : ℕ) (c : Option ResolvedExpressionTree) → EachUseIfAny P c
      → Row_ (test_count c) (perhaps (test at l f) c)
  perhaps_test_ran l f None u p q r = runs_end r
  perhaps_test_ran l f (Some c) u p q r = test_ran l f c u p q r

  pub perhaps_tested_ran : (l : ℕ) (c : Option ResolvedExpressionTree) → EachUseIfAny P c
      → Row_ (test_count c) (perhaps (tested at l) c)
  perhaps_tested_ran l None u p q r = runs_end r
  perhaps_tested_ran l (Some c) u p q r = tested_ran l c u p q r

  pub perhaps_effect_ran : (l : ℕ) (c : Option ResolvedExpressionTree)
      → EachUseIfAny P c → Row_ (effect_count c) (perhaps (effect at l) c)
  perhaps_effect_ran l None u p q r = runs_end r
  perhaps_effect_ran l (Some c) u p q r = effect_ran l c u p q r

  abbrev pub returned_size : Option ResolvedExpressionTree → ℕ
  returned_size None = 1
  returned_size (Some c) = value_size c + 1

  pub last_names : (is_main has : Bool) → named_place (last_instruction is_main has) ≡ None
  last_names true has = refl
  last_names false true = refl
  last_names false false = refl

  unnamed : (x : Instr) → named_place x ≡ None → IfSome (named_place x) (Named)
  unnamed x e = subst (λ z. IfSome z (Named)) (sym e) tt

  pub returned_ran : (l : ℕ) (is_main : Bool) (c : Option ResolvedExpressionTree)
      → EachUseIfAny P c → Row_ (returned_size c) (returned at l is_main c)
  returned_ran l is_main None u p q r = runs_ins r (unnamed _ (last_names is_main false)) runs_end
  returned_ran l is_main (Some c) u p q r =
      runs_part r (value_ran l c u p) (λ m r. runs_ins r (unnamed _ (last_names is_main true)) runs_end)

  pub jump_ran : (l : ℕ) (to : Option ℕ) → Row_ 1 (given to (jump at l))
  jump_ran l None p q r = absurd r
  jump_ran l (Some f) p q r = runs_ins r tt runs_end
