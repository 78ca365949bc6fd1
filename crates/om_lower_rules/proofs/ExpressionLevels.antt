-- The operand heights of an expression's code.
use Rattle.std.proofs.Common.{ℕ, ◌+◌, ℤ, pos, Bool, true, false, List, Option, Some, None, refl, arith}
use Rattle.om_code.specs.declared.instruction.BinaryOperator as machine
use Rattle.om_scope_tree.specs.declared.resolved.UnaryOperator.{UnaryOperator}
use Rattle.om_scope_tree.specs.declared.resolved.UnaryOperator.TheVariants as unaries
use Rattle.om_scope_tree.specs.declared.resolved.Variable as variables
use Rattle.om_scope_tree.specs.ResolvedTree.{ResolvedExpressionTree, Constant, Variable, Element, Call, ThreadNumber}
use Rattle.om_scope_tree.specs.ResolvedTree.{TeamSize, Print, Unary, Binary, Conditional, Assign, AssignElement, Postfix}
use Rattle.om_scope_tree.specs.ResolvedTree.{PostfixElement, ValuesTree, NoValues, Value}
use Rattle.om_lower_rules.specs.Expressions.{value_count, constant, unary_row, binary_row, conditional_row, assigned}
use Rattle.om_lower_rules.specs.Expressions.{element_assigned, called, printed, value, values, effect}
use Rattle.om_lower_rules.specs.Operators.{BinaryForm, Both, Either, Plain, form_of, compound_of, step_of}
use Rattle.om_lower_rules.specs.Rows.{Site, Row}
use Rattle.om_lower_rules.proofs.Levels.{Levels, IsAt, nothing, level_end, level_out, level_next, level_either, level_jump}
use Rattle.om_lower_rules.proofs.Levels.{level_part, level_here, level_closed}

module _ (at : Site) where
  -- from height h a row leads to height out h
  abbrev pub Lifts : (ℕ → ℕ) → Row → Type 0
  Lifts out r = (h p q : ℕ) → r p q → Levels at.picks at.code nothing nothing p q h (out h)

  abbrev pub Gives : Row → Type 0
  Gives r = Lifts (λ h. h + 1) r

  abbrev pub Keeps : Row → Type 0
  Keeps r = Lifts (λ h. h) r

  constant_levels : (l : ℕ) (n : ℤ) → Gives (constant at l n)
  constant_levels l n h p q r = level_next h r refl (omega arith) (omega arith) level_end

  unary_levels : (l : ℕ) (o : UnaryOperator) (a : Row) → Gives a → Gives (unary_row at l o a)
  unary_levels l unaries.Plus a ha h p q r = ha h p q r
  unary_levels l unaries.Negate a ha h p q r = level_part r (ha h p) (λ m r. level_next h r refl (omega arith)
      (omega arith) level_end)
  unary_levels l unaries.Not a ha h p q r = level_part r (ha h p) (λ m r. level_next h r refl (omega arith)
      (omega arith) level_end)

  binary_levels : (l : ℕ) (form : BinaryForm) (a b : Row) → Gives a → Gives b → Gives (binary_row at l form a b)
  binary_levels l Both a b ha hb h p q r =
      level_closed {L = λ hs. IsAt hs r.0 h × IsAt hs r.1 (h + 1)}
      (level_part r.2 (ha h p) (λ m r.
      level_either {next = h} h r refl (omega arith) (omega arith) (λ hs k. k.1.0) (λ r.
      level_part r (hb h (m + 1)) (λ m r.
      level_either {next = h} h r refl (omega arith) (omega arith) (λ hs k. k.1.0) (λ r.
      level_next {next = h + 1} h r refl (omega arith) (omega arith) (λ r.
      level_jump {next = h} r refl (omega arith) (omega arith) (λ hs k. k.1.1) (λ r.
      level_here r (λ r. level_next h r refl (omega arith) (omega arith) (λ r. level_here r level_end)))))))))
      (λ hs g. (g.0, g.1.0)) (λ hs g. tt)
  binary_levels l Either a b ha hb h p q r =
      level_closed {L = λ hs. IsAt hs r.0 h × IsAt hs r.1 h × IsAt hs r.2 (h + 1)}
      (level_part r.3 (ha h p) (λ m r.
      level_either {next = h} h r refl (omega arith) (omega arith) (λ hs k. k.1.0) (λ r.
      level_next {next = h + 1} h r refl (omega arith) (omega arith) (λ r.
      level_jump {next = h} r refl (omega arith) (omega arith) (λ hs k. k.1.2) (λ r.
      level_here r (λ r.
      level_part r (hb h (m + 1 + 1 + 1)) (λ m r.
      level_either {next = h} h r refl (omega arith) (omega arith) (λ hs k. k.1.1) (λ r.
      level_next {next = h + 1} h r refl (omega arith) (omega arith) (λ r.
      level_jump {next = h} r refl (omega arith) (omega arith) (λ hs k. k.1.2) (λ r.
      level_here r (λ r. level_next h r refl (omega arith) (omega arith) (λ r. level_here r level_end))))))))))))
      (λ hs g. (g.0, g.1.0, g.1.1.0)) (λ hs g. tt)
  binary_levels l (Plain o) a b ha hb h p q r =
      level_part r (ha h p) (λ m r. level_part r (hb (h + 1) m) (λ m r. level_next h r refl (omega arith)
      (omega arith) level_end))

  conditional_levels : (l : ℕ) (x a b : Row) → Gives x → Gives a → Gives b → Gives (conditional_row at l x a b)
  conditional_levels l x a b hx ha hb h p q r =
      level_closed {L = λ hs. IsAt hs r.0 h × IsAt hs r.1 (h + 1)}
      (level_part r.2 (hx h p) (λ m r.
      level_either {next = h} h r refl (omega arith) (omega arith) (λ hs k. k.1.0) (λ r.
      level_part r (ha h (m + 1)) (λ m r.
      level_jump {next = h} r refl (omega arith) (omega arith) (λ hs k. k.1.1) (λ r.
      level_here r (λ r. level_part r (hb h (m + 1)) (λ m r. level_here r level_end)))))))
      (λ hs g. (g.0, g.1.0)) (λ hs g. tt)

  -- an assignment keeps its value or not
  abbrev kept : Bool → ℕ → ℕ
  kept true h = h + 1
  kept false h = h

  assigned_levels : (l : ℕ) (keeps : Bool) (x : variables.Variable) (o : Option machine.BinaryOperator) (e : Row)
      → Gives e
      → Lifts (kept keeps) (assigned at l keeps x o e)
  assigned_levels l true x None e he h p q r = level_part r (he h p) (λ m r. level_next h r refl (omega arith)
      (omega arith) level_end)
  assigned_levels l false x None e he h p q r = level_part r (he h p) (λ m r. level_next h r refl (omega arith)
      (omega arith) level_end)
  assigned_levels l true x (Some o) e he h p q r =
      level_next h r refl (omega arith) (omega arith) (λ r. level_part r (he (h + 1) (p + 1)) (λ m r.
      level_next {next = h + 1} h r refl (omega arith) (omega arith) (λ r. level_next h r refl (omega arith)
      (omega arith) level_end)))
  assigned_levels l false x (Some o) e he h p q r =
      level_next h r refl (omega arith) (omega arith) (λ r. level_part r (he (h + 1) (p + 1)) (λ m r.
      level_next {next = h + 1} h r refl (omega arith) (omega arith) (λ r. level_next h r refl (omega arith)
      (omega arith) level_end)))

  element_assigned_levels : (l : ℕ) (keeps : Bool) (a : variables.Variable) (j : Row)
      (o : Option machine.BinaryOperator) (e : Row) → Gives j → Gives e
      → Lifts (kept keeps) (element_assigned at l keeps a j o e)
  element_assigned_levels l true a j None e hj he h p q r =
      level_part r (hj h p) (λ m r. level_part r (he (h + 1) m) (λ m r. level_next h r refl (omega arith)
      (omega arith) level_end))
  element_assigned_levels l false a j None e hj he h p q r =
      level_part r (hj h p) (λ m r. level_part r (he (h + 1) m) (λ m r. level_next h r refl (omega arith)
      (omega arith) level_end))
  element_assigned_levels l true a j (Some o) e hj he h p q r =
      level_part r (hj h p) (λ m r.
      level_next {next = h + 1 + 1} h r refl (omega arith) (omega arith) (λ r.
      level_next {next = h + 1 + 1} (h + 1) r refl (omega arith) (omega arith) (λ r.
      level_part r (he (h + 1 + 1) (m + 1 + 1)) (λ m r.
      level_next {next = h + 1 + 1} (h + 1) r refl (omega arith) (omega arith)
      (λ r. level_next h r refl (omega arith) (omega arith) level_end)))))
  element_assigned_levels l false a j (Some o) e hj he h p q r =
      level_part r (hj h p) (λ m r.
      level_next {next = h + 1 + 1} h r refl (omega arith) (omega arith) (λ r.
      level_next {next = h + 1 + 1} (h + 1) r refl (omega arith) (omega arith) (λ r.
      level_part r (he (h + 1 + 1) (m + 1 + 1)) (λ m r.
      level_next {next = h + 1 + 1} (h + 1) r refl (omega arith) (omega arith)
      (λ r. level_next h r refl (omega arith) (omega arith) level_end)))))

  called_levels : (l f : ℕ) (es : ValuesTree) (e : Row) → Lifts (λ h. h + value_count es) e → Gives (called at l f es e)
  called_levels l f es e he h p q r = level_part r (he h p) (λ m r. level_next h r refl (omega arith) (omega arith)
      level_end)

  printed_levels : (l : ℕ) (format : List ℕ) (es : ValuesTree) (e : Row) → Lifts (λ h. h + value_count es) e
      → Keeps (printed at l format es e)
  printed_levels l format es e he h p q r = level_part r (he h p) (λ m r. level_next h r refl (omega arith)
      (omega arith) level_end)

  mutual
    pub value_levels : (l : ℕ) (e : ResolvedExpressionTree) → Gives (value at l e)
    value_levels l (Constant n) h p q r = level_next h r refl (omega arith) (omega arith) level_end
    value_levels l (Variable x) h p q r = level_next h r refl (omega arith) (omega arith) level_end
    value_levels l (Element a j) h p q r = level_part r (value_levels l j h p)
        (λ m r. level_next h r refl (omega arith) (omega arith) level_end)
    value_levels l (Call f es) h p q r =
        level_part r (called_levels l f es (values at l es) (values_levels l es) h p)
        (λ m r. level_next h r refl (omega arith) (omega arith) level_end)
    value_levels l ThreadNumber h p q r = level_next h r refl (omega arith) (omega arith) level_end
    value_levels l TeamSize h p q r = level_next h r refl (omega arith) (omega arith) level_end
    value_levels l (Print format es) h p q r = absurd r
    value_levels l (Unary o a) h p q r = unary_levels l o (value at l a) (value_levels l a) h p q r
    value_levels l (Binary a o b) h p q r = binary_levels l (form_of o) (value at l a) (value at l b)
        (value_levels l a) (value_levels l b) h p q r
    value_levels l (Conditional x a b) h p q r =
        conditional_levels l (value at l x) (value at l a) (value at l b) (value_levels l x) (value_levels l a)
        (value_levels l b) h p q r
    value_levels l (Assign x o e) h p q r = assigned_levels l true x (compound_of o) (value at l e)
        (value_levels l e) h p q r
    value_levels l (AssignElement a j o e) h p q r =
        element_assigned_levels l true a (value at l j) (compound_of o) (value at l e) (value_levels l j)
        (value_levels l e) h p q r
    value_levels l (Postfix x o) h p q r =
        level_part r (assigned_levels l true x (Some (step_of o)) (constant at l (pos 1))
        (constant_levels l (pos 1)) h p)
        (λ m r. level_next {next = h + 1 + 1} (h + 1) r refl (omega arith) (omega arith)
        (λ r. level_next h r refl (omega arith) (omega arith) level_end))
    value_levels l (PostfixElement a j o) h p q r =
        level_part r
        (element_assigned_levels l true a (value at l j) (Some (step_of o)) (constant at l (pos 1))
        (value_levels l j) (constant_levels l (pos 1)) h p)
        (λ m r. level_next {next = h + 1 + 1} (h + 1) r refl (omega arith) (omega arith)
        (λ r. level_next h r refl (omega arith) (omega arith) level_end))

    pub values_levels : (l : ℕ) (es : ValuesTree) → Lifts (λ h. h + value_count es) (values at l es)
    values_levels l NoValues h p q r = level_out h (omega arith) (level_end r)
    values_levels l (Value e rest) h p q r =
        level_out (h + 1 + value_count rest) (omega arith) (level_part r (value_levels l e h p)
        (λ m r. values_levels l rest (h + 1) m q r))

  pub effect_levels : (l : ℕ) (e : ResolvedExpressionTree) → Keeps (effect at l e)
  effect_levels l (Assign x o e) h p q r = assigned_levels l false x (compound_of o) (value at l e)
      (value_levels l e) h p q r
  effect_levels l (AssignElement a j o e) h p q r =
      element_assigned_levels l false a (value at l j) (compound_of o) (value at l e) (value_levels l j)
      (value_levels l e) h p q r
  effect_levels l (Postfix x o) h p q r =
      assigned_levels l false x (Some (step_of o)) (constant at l (pos 1)) (constant_levels l (pos 1)) h p q r
  effect_levels l (PostfixElement a j o) h p q r =
      element_assigned_levels l false a (value at l j) (Some (step_of o)) (constant at l (pos 1)) (value_levels l j)
      (constant_levels l (pos 1)) h p q r
  effect_levels l (Print format es) h p q r = printed_levels l format es (values at l es) (values_levels l es) h p q r
  effect_levels l (Call f es) h p q r =
      level_part r (called_levels l f es (values at l es) (values_levels l es) h p)
      (λ m r. level_next h r refl (omega arith) (omega arith) level_end)
  effect_levels l e h p q r = level_part r (value_levels l e h p) (λ m r. level_next h r refl (omega arith)
      (omega arith) level_end)
