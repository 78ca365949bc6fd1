-- Two codes of one expression.
use Rattle.std.proofs.Common.{◌≡◌, ℕ, ◌+◌, ℤ, pos, Bool, true, false, List, Option, Some, None, ap}
use Rattle.om_code.specs.declared.instruction.BinaryOperator as machine
use Rattle.om_code.specs.declared.instruction.Instr.TheVariants as i
use Rattle.om_code.specs.declared.instruction.Serial.TheVariants as serials
use Rattle.om_code.specs.declared.raw.Line.{Line}
use Rattle.om_scope_tree.specs.declared.resolved.UnaryOperator.{UnaryOperator}
use Rattle.om_scope_tree.specs.declared.resolved.UnaryOperator.TheVariants as unaries
use Rattle.om_scope_tree.specs.declared.resolved.Variable as variables
use Rattle.om_scope_tree.specs.ResolvedTree.{ResolvedExpressionTree, Constant, Variable, Element, Call, ThreadNumber}
use Rattle.om_scope_tree.specs.ResolvedTree.{TeamSize, Print, Unary, Binary, Conditional, Assign, AssignElement, Postfix}
use Rattle.om_scope_tree.specs.ResolvedTree.{PostfixElement, ValuesTree, NoValues, Value}
use Rattle.om_lower_rules.specs.Expressions.{constant, unary_row, binary_row, conditional_row, assigned, element_assigned}
use Rattle.om_lower_rules.specs.Expressions.{called, printed, value, values, effect}
use Rattle.om_lower_rules.specs.Operators.{BinaryForm, Both, Either, Plain, form_of, compound_of, step_of}
use Rattle.om_lower_rules.specs.Rows.{Site, Row}
use Rattle.om_lower_rules.proofs.Twins.{Alike, twin_end, twin_jump, twin_next, twin_part, twin_here, twin_closed}

-- a site with this code
abbrev pub with_code : Site → List Line → List (List ℕ) → Site
with_code base code picks = record {
  code = code;
  slots = base.slots;
  functions = base.functions;
  formats = base.formats;
  locks = base.locks;
  picks = picks;
  is_main = base.is_main;
}

module _ (base : Site) (code code' : List Line) (picks picks' : List (List ℕ)) where
  abbrev c : Site
  c = with_code base code picks

  abbrev d : Site
  d = with_code base code' picks'

  -- two codes of one row that needs nothing of its place
  abbrev pub Twin : Row → Row → Type 0
  Twin r t = (p p' q q' : ℕ) → r p q → t p' q' → Alike code code' picks picks' (Unit {0}) (Unit {0}) p q p' q'

  pub constant_twin : (l : ℕ) (n : ℤ) → Twin (constant c l n) (constant d l n)
  constant_twin l n p p' q q' r t = twin_next r t tt twin_end

  unary_twin : (l : ℕ) (o : UnaryOperator) (a a' : Row) → Twin a a' → Twin (unary_row c l o a) (unary_row d l o a')
  unary_twin l unaries.Plus a a' ha p p' q q' r t = ha p p' q q' r t
  unary_twin l unaries.Negate a a' ha p p' q q' r t = twin_part r t (ha p p') (λ m m' r t. twin_next r t tt twin_end)
  unary_twin l unaries.Not a a' ha p p' q q' r t = twin_part r t (ha p p') (λ m m' r t. twin_next r t tt twin_end)

  binary_twin : (l : ℕ) (form : BinaryForm) (a b a' b' : Row) → Twin a a' → Twin b b'
      → Twin (binary_row c l form a b) (binary_row d l form a' b')
  binary_twin l Both a b a' b' ha hb p p' q q' r t =
      twin_closed {L = (r.0 ≡ t.0) × (r.1 ≡ t.1)}
      (twin_part r.2 t.2 (ha p p') (λ m m' r t.
      twin_jump r t tt (λ k. ap (λ x. i.Serial (serials.JumpIfZero x)) k.1.0) (λ r t.
      twin_part r t (hb (m + 1) (m' + 1)) (λ m m' r t.
      twin_jump r t tt (λ k. ap (λ x. i.Serial (serials.JumpIfZero x)) k.1.0) (λ r t.
      twin_next r t tt (λ r t.
      twin_jump r t tt (λ k. ap (λ x. i.Serial (serials.Jump x)) k.1.1) (λ r t.
      twin_here r t (λ r t. twin_next r t tt (λ r t. twin_here r t twin_end)))))))))
      (λ g. (g.0, g.1.0)) (λ g. tt)
  binary_twin l Either a b a' b' ha hb p p' q q' r t =
      twin_closed {L = (r.0 ≡ t.0) × (r.1 ≡ t.1) × (r.2 ≡ t.2)}
      (twin_part r.3 t.3 (ha p p') (λ m m' r t.
      twin_jump r t tt (λ k. ap (λ x. i.Serial (serials.JumpIfZero x)) k.1.0) (λ r t.
      twin_next r t tt (λ r t.
      twin_jump r t tt (λ k. ap (λ x. i.Serial (serials.Jump x)) k.1.2) (λ r t.
      twin_here r t (λ r t.
      twin_part r t (hb (m + 1 + 1 + 1) (m' + 1 + 1 + 1)) (λ m m' r t.
      twin_jump r t tt (λ k. ap (λ x. i.Serial (serials.JumpIfZero x)) k.1.1) (λ r t.
      twin_next r t tt (λ r t.
      twin_jump r t tt (λ k. ap (λ x. i.Serial (serials.Jump x)) k.1.2) (λ r t.
      twin_here r t (λ r t. twin_next r t tt (λ r t. twin_here r t twin_end))))))))))))
      (λ g. (g.0, g.1.0, g.1.1.0)) (λ g. tt)
  binary_twin l (Plain o) a b a' b' ha hb p p' q q' r t =
      twin_part r t (ha p p') (λ m m' r t. twin_part r t (hb m m') (λ m m' r t. twin_next r t tt twin_end))

  conditional_twin : (l : ℕ) (x a b x' a' b' : Row) → Twin x x' → Twin a a' → Twin b b'
      → Twin (conditional_row c l x a b) (conditional_row d l x' a' b')
  conditional_twin l x a b x' a' b' hx ha hb p p' q q' r t =
      twin_closed {L = (r.0 ≡ t.0) × (r.1 ≡ t.1)}
      (twin_part r.2 t.2 (hx p p') (λ m m' r t.
      twin_jump r t tt (λ k. ap (λ x. i.Serial (serials.JumpIfZero x)) k.1.0) (λ r t.
      twin_part r t (ha (m + 1) (m' + 1)) (λ m m' r t.
      twin_jump r t tt (λ k. ap (λ x. i.Serial (serials.Jump x)) k.1.1) (λ r t.
      twin_here r t (λ r t. twin_part r t (hb (m + 1) (m' + 1)) (λ m m' r t. twin_here r t twin_end)))))))
      (λ g. (g.0, g.1.0)) (λ g. tt)

  assigned_twin : (l : ℕ) (keeps : Bool) (x : variables.Variable) (o : Option machine.BinaryOperator) (e e' : Row)
      → Twin e e'
      → Twin (assigned c l keeps x o e) (assigned d l keeps x o e')
  assigned_twin l keeps x None e e' he p p' q q' r t = twin_part r t (he p p') (λ m m' r t. twin_next r t tt twin_end)
  assigned_twin l keeps x (Some o) e e' he p p' q q' r t =
      twin_next r t tt (λ r t. twin_part r t (he (p + 1) (p' + 1))
      (λ m m' r t. twin_next r t tt (λ r t. twin_next r t tt twin_end)))

  element_assigned_twin : (l : ℕ) (keeps : Bool) (a : variables.Variable) (j j' : Row)
      (o : Option machine.BinaryOperator) (e e' : Row)
      → Twin j j' → Twin e e' → Twin (element_assigned c l keeps a j o e) (element_assigned d l keeps a j' o e')
  element_assigned_twin l keeps a j j' None e e' hj he p p' q q' r t =
      twin_part r t (hj p p') (λ m m' r t. twin_part r t (he m m') (λ m m' r t. twin_next r t tt twin_end))
  element_assigned_twin l keeps a j j' (Some o) e e' hj he p p' q q' r t =
      twin_part r t (hj p p') (λ m m' r t. twin_next r t tt (λ r t. twin_next r t tt (λ r t.
      twin_part r t (he (m + 1 + 1) (m' + 1 + 1)) (λ m m' r t. twin_next r t tt (λ r t. twin_next r t tt twin_end)))))

  called_twin : (l f : ℕ) (es : ValuesTree) (e e' : Row) → Twin e e' → Twin (called c l f es e) (called d l f es e')
  called_twin l f es e e' he p p' q q' r t = twin_part r t (he p p') (λ m m' r t. twin_next r t tt twin_end)

  printed_twin : (l : ℕ) (format : List ℕ) (es : ValuesTree) (e e' : Row) → Twin e e'
      → Twin (printed c l format es e) (printed d l format es e')
  printed_twin l format es e e' he p p' q q' r t = twin_part r t (he p p') (λ m m' r t. twin_next r t tt twin_end)

  mutual
    pub value_twin : (l : ℕ) (e : ResolvedExpressionTree) → Twin (value c l e) (value d l e)
    value_twin l (Constant n) p p' q q' r t = twin_next r t tt twin_end
    value_twin l (Variable x) p p' q q' r t = twin_next r t tt twin_end
    value_twin l (Element a j) p p' q q' r t = twin_part r t (value_twin l j p p')
        (λ m m' r t. twin_next r t tt twin_end)
    value_twin l (Call f es) p p' q q' r t =
        twin_part r t (called_twin l f es (values c l es) (values d l es) (values_twin l es) p p')
        (λ m m' r t. twin_next r t tt twin_end)
    value_twin l ThreadNumber p p' q q' r t = twin_next r t tt twin_end
    value_twin l TeamSize p p' q q' r t = twin_next r t tt twin_end
    value_twin l (Print format es) p p' q q' r t = absurd r
    value_twin l (Unary o a) p p' q q' r t = unary_twin l o (value c l a) (value d l a) (value_twin l a) p p' q q' r t
    value_twin l (Binary a o b) p p' q q' r t =
        binary_twin l (form_of o) (value c l a) (value c l b) (value d l a) (value d l b) (value_twin l a)
        (value_twin l b) p p' q q' r t
    value_twin l (Conditional x a b) p p' q q' r t =
        conditional_twin l (value c l x) (value c l a) (value c l b) (value d l x) (value d l a) (value d l b)
        (value_twin l x) (value_twin l a) (value_twin l b) p p' q q' r t
    value_twin l (Assign x o e) p p' q q' r t = assigned_twin l true x (compound_of o) (value c l e) (value d l e)
        (value_twin l e) p p' q q' r t
    value_twin l (AssignElement a j o e) p p' q q' r t =
        element_assigned_twin l true a (value c l j) (value d l j) (compound_of o) (value c l e) (value d l e)
        (value_twin l j) (value_twin l e) p p' q q' r t
    value_twin l (Postfix x o) p p' q q' r t =
        twin_part r t (assigned_twin l true x (Some (step_of o)) (constant c l (pos 1)) (constant d l (pos 1))
        (constant_twin l (pos 1)) p p')
        (λ m m' r t. twin_next r t tt (λ r t. twin_next r t tt twin_end))
    value_twin l (PostfixElement a j o) p p' q q' r t =
        twin_part r t
        (element_assigned_twin l true a (value c l j) (value d l j) (Some (step_of o)) (constant c l (pos 1))
        (constant d l (pos 1))
        (value_twin l j) (constant_twin l (pos 1)) p p')
        (λ m m' r t. twin_next r t tt (λ r t. twin_next r t tt twin_end))

    pub values_twin : (l : ℕ) (es : ValuesTree) → Twin (values c l es) (values d l es)
    values_twin l NoValues p p' q q' r t = twin_end r t
    values_twin l (Value e rest) p p' q q' r t = twin_part r t (value_twin l e p p')
        (λ m m' r t. values_twin l rest m m' q q' r t)

  pub effect_twin : (l : ℕ) (e : ResolvedExpressionTree) → Twin (effect c l e) (effect d l e)
  effect_twin l (Assign x o e) p p' q q' r t = assigned_twin l false x (compound_of o) (value c l e) (value d l e)
      (value_twin l e) p p' q q' r t
  effect_twin l (AssignElement a j o e) p p' q q' r t =
      element_assigned_twin l false a (value c l j) (value d l j) (compound_of o) (value c l e) (value d l e)
      (value_twin l j) (value_twin l e) p p' q q' r t
  effect_twin l (Postfix x o) p p' q q' r t =
      assigned_twin l false x (Some (step_of o)) (constant c l (pos 1)) (constant d l (pos 1))
      (constant_twin l (pos 1)) p p' q q' r t
  effect_twin l (PostfixElement a j o) p p' q q' r t =
      element_assigned_twin l false a (value c l j) (value d l j) (Some (step_of o)) (constant c l (pos 1))
      (constant d l (pos 1))
      (value_twin l j) (constant_twin l (pos 1)) p p' q q' r t
  effect_twin l (Print format es) p p' q q' r t = printed_twin l format es (values c l es) (values d l es)
      (values_twin l es) p p' q q' r t
  effect_twin l (Call f es) p p' q q' r t =
      twin_part r t (called_twin l f es (values c l es) (values d l es) (values_twin l es) p p')
      (λ m m' r t. twin_next r t tt twin_end)
  effect_twin l e p p' q q' r t = twin_part r t (value_twin l e p p') (λ m m' r t. twin_next r t tt twin_end)
