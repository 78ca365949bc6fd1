-- The code of expressions, row by row as the table of lowering has it. Their instructions have one line, that
-- of the statement.
use Rattle.std.specs.Prelude.{ℕ, ◌+◌, ℤ, pos, List, Option, None, Some, Bool, true, false}
use Rattle.std.specs.Str.{bytes_eq}
use Rattle.om_code.specs.declared.instruction.BinaryOperator as machine
use Rattle.om_code.specs.declared.instruction.Instr.TheVariants as i
use Rattle.om_code.specs.declared.instruction.Serial.TheVariants as serials
use Rattle.om_code.specs.declared.instruction.Function.TheVariants as calls
use Rattle.om_code.specs.declared.instruction.Team.TheVariants as teams
use Rattle.om_code.specs.declared.instruction.UnaryOperator.TheVariants as unary
use Rattle.om_scope_tree.specs.declared.resolved.UnaryOperator.{UnaryOperator}
use Rattle.om_scope_tree.specs.declared.resolved.UnaryOperator.TheVariants as unaries
use Rattle.om_scope_tree.specs.declared.resolved.Variable as variables
use Rattle.om_scope_tree.specs.ResolvedTree.{ResolvedExpressionTree, Constant, Variable, Element, Call, ThreadNumber}
use Rattle.om_scope_tree.specs.ResolvedTree.{TeamSize, Print, Unary, Binary, Conditional, Assign, AssignElement, Postfix}
use Rattle.om_scope_tree.specs.ResolvedTree.{PostfixElement, ValuesTree, NoValues, Value}
use Rattle.om_lower_rules.specs.Bodies.{called_body}
use Rattle.om_lower_rules.specs.Operators.{BinaryForm, Both, Either, Plain, form_of, compound_of, step_of, inverse_step_of}
use Rattle.om_lower_rules.specs.Rows.{Site, Row, end, never, ins, part, here, fresh_two, fresh_three, ◌▸◌}
use Rattle.om_lower_rules.specs.Slots.{place}
use Rattle.om_lower_rules.specs.Tables.{number_in}

-- how many values there are
abbrev pub value_count : ValuesTree → ℕ
value_count NoValues = 0
value_count (Value e rest) = value_count rest + 1

abbrev pub constant : Site → ℕ → ℤ → Row
constant at l c = ins at l (i.Serial (serials.Constant c)) ▸ end

-- unary plus gives no instruction
abbrev pub unary_row : Site → ℕ → UnaryOperator → Row → Row
unary_row at l unaries.Plus e = e
unary_row at l unaries.Negate e = part e ▸ ins at l (i.Serial (serials.Unary unary.Negate)) ▸ end
unary_row at l unaries.Not e = part e ▸ ins at l (i.Serial (serials.Unary unary.Not)) ▸ end

-- `a && b`, `a || b`, and the operators that are an instruction
abbrev pub binary_row : Site → ℕ → BinaryForm → Row → Row → Row
binary_row at l Both a b = fresh_two (λ f e.
    part a ▸ ins at l (i.Serial (serials.JumpIfZero f)) ▸ part b ▸ ins at l (i.Serial (serials.JumpIfZero f))
    ▸ ins at l (i.Serial (serials.Constant (pos 1))) ▸ ins at l (i.Serial (serials.Jump e))
    ▸ here f ▸ ins at l (i.Serial (serials.Constant (pos 0))) ▸ here e ▸ end)
binary_row at l Either a b = fresh_three (λ n f e.
    part a ▸ ins at l (i.Serial (serials.JumpIfZero n)) ▸ ins at l (i.Serial (serials.Constant (pos 1))) ▸ ins at l (i.Serial (serials.Jump e))
    ▸ here n ▸ part b ▸ ins at l (i.Serial (serials.JumpIfZero f))
    ▸ ins at l (i.Serial (serials.Constant (pos 1))) ▸ ins at l (i.Serial (serials.Jump e))
    ▸ here f ▸ ins at l (i.Serial (serials.Constant (pos 0))) ▸ here e ▸ end)
binary_row at l (Plain operator) a b = part a ▸ part b ▸ ins at l (i.Serial (serials.Binary operator)) ▸ end

-- `c ? a : b`
abbrev pub conditional_row : Site → ℕ → Row → Row → Row → Row
conditional_row at l c a b = fresh_two (λ f e.
    part c ▸ ins at l (i.Serial (serials.JumpIfZero f)) ▸ part a ▸ ins at l (i.Serial (serials.Jump e)) ▸ here f ▸ part b ▸ here e ▸ end)

-- `x = e` and `x op= e`, which keep their value where it is used
abbrev pub assigned : Site → ℕ → Bool → variables.Variable → Option machine.BinaryOperator → Row → Row
assigned at l keeps x None e = part e ▸ ins at l (i.Serial (serials.Store (place at x) keeps)) ▸ end
assigned at l keeps x (Some operator) e =
    ins at l (i.Serial (serials.Load (place at x))) ▸ part e ▸ ins at l (i.Serial (serials.Binary operator)) ▸ ins at l (i.Serial (serials.Store (place at x) keeps)) ▸ end

-- `a[j] = e` and `a[j] op= e`
abbrev pub element_assigned : Site → ℕ → Bool → variables.Variable → Row → Option machine.BinaryOperator → Row → Row
element_assigned at l keeps a j None e = part j ▸ part e ▸ ins at l (i.Serial (serials.StoreElement (place at a) keeps)) ▸ end
element_assigned at l keeps a j (Some operator) e =
    part j ▸ ins at l (i.Serial serials.Duplicate) ▸ ins at l (i.Serial (serials.LoadElement (place at a))) ▸ part e
    ▸ ins at l (i.Serial (serials.Binary operator)) ▸ ins at l (i.Serial (serials.StoreElement (place at a) keeps)) ▸ end

-- the step of a postfix operator is taken back from its value, which is the old one
abbrev pub stepped_back : Site → ℕ → machine.BinaryOperator → Row
stepped_back at l operator = ins at l (i.Serial (serials.Constant (pos 1))) ▸ ins at l (i.Serial (serials.Binary operator)) ▸ end

-- values, then the call; and `printf`
abbrev pub called : Site → ℕ → ℕ → ValuesTree → Row → Row
called at l function values code =
    part code ▸ ins at l (i.Function (calls.Call (called_body at.functions function) (value_count values))) ▸ end

abbrev pub printed : Site → ℕ → List ℕ → ValuesTree → Row → Row
printed at l format values code =
    part code ▸ ins at l (i.Serial (serials.Print (number_in (bytes_eq format) at.formats) (value_count values))) ▸ end

abbrev mutual
  -- an expression, which leaves its value; `printf` has none
  pub value : Site → ℕ → ResolvedExpressionTree → Row
  value at l (Constant c) = constant at l c
  value at l (Variable x) = ins at l (i.Serial (serials.Load (place at x))) ▸ end
  value at l (Element a j) = part (value at l j) ▸ ins at l (i.Serial (serials.LoadElement (place at a))) ▸ end
  value at l (Call function es) = part (called at l function es (values at l es)) ▸ ins at l (i.Serial serials.Use) ▸ end
  value at l ThreadNumber = ins at l (i.Team teams.ThreadNumber) ▸ end
  value at l TeamSize = ins at l (i.Team teams.TeamSize) ▸ end
  value at l (Print format es) = never
  value at l (Unary operator e) = unary_row at l operator (value at l e)
  value at l (Binary a operator b) = binary_row at l (form_of operator) (value at l a) (value at l b)
  value at l (Conditional c a b) = conditional_row at l (value at l c) (value at l a) (value at l b)
  value at l (Assign x operator e) = assigned at l true x (compound_of operator) (value at l e)
  value at l (AssignElement a j operator e) =
      element_assigned at l true a (value at l j) (compound_of operator) (value at l e)
  value at l (Postfix x operator) =
      part (assigned at l true x (Some (step_of operator)) (constant at l (pos 1)))
      ▸ stepped_back at l (inverse_step_of operator)
  value at l (PostfixElement a j operator) =
      part (element_assigned at l true a (value at l j) (Some (step_of operator)) (constant at l (pos 1)))
      ▸ stepped_back at l (inverse_step_of operator)

  -- values, left to right
  pub values : Site → ℕ → ValuesTree → Row
  values at l NoValues = end
  values at l (Value e rest) = part (value at l e) ▸ values at l rest

-- an expression whose value nothing uses, which leaves nothing
abbrev pub effect : Site → ℕ → ResolvedExpressionTree → Row
effect at l (Assign x operator e) = assigned at l false x (compound_of operator) (value at l e)
effect at l (AssignElement a j operator e) =
    element_assigned at l false a (value at l j) (compound_of operator) (value at l e)
effect at l (Postfix x operator) = assigned at l false x (Some (step_of operator)) (constant at l (pos 1))
effect at l (PostfixElement a j operator) =
    element_assigned at l false a (value at l j) (Some (step_of operator)) (constant at l (pos 1))
effect at l (Print format es) = printed at l format es (values at l es)
effect at l (Call function es) = part (called at l function es (values at l es)) ▸ ins at l (i.Serial serials.Pop) ▸ end
effect at l e = part (value at l e) ▸ ins at l (i.Serial serials.Pop) ▸ end
