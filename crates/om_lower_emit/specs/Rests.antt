-- The rows of parts of an expression: of an assignment, of a step by one, and of what still comes once the left operand
-- or the index is written. The last section says that a function writes such a row.
use Rattle.std.specs.Prelude.{ℕ, pos, List, [], ◌∷◌, OnOk, Option, None, Result, Some, Bool, true}
use Rattle.om_code.specs.declared.instruction.BinaryOperator as machine
use Rattle.om_code.specs.declared.instruction.Instr.{Instr}
use Rattle.om_code.specs.declared.instruction.Instr.TheVariants as i
use Rattle.om_code.specs.declared.instruction.Serial.TheVariants as serials
use Rattle.om_code.specs.declared.instruction.UnaryOperator.TheVariants as unary
use Rattle.om_lower_emit.specs.declared.expression.Target.{Target}
use Rattle.om_lower_emit.specs.declared.spot.Here.{Here}
use Rattle.om_lower_emit.specs.Drafts.{Written}
use Rattle.om_lower_emit.specs.Emits.{Appends, AppendsBy, Goes, site}
use Rattle.om_scope_tree.specs.declared.resolved.ResolvedExpression.{ResolvedExpression}
use Rattle.om_scope_tree.specs.declared.resolved.UnaryOperator.{UnaryOperator}
use Rattle.om_scope_tree.specs.declared.resolved.UnaryOperator.TheVariants as unaries
use Rattle.om_scope_tree.specs.declared.resolved.Variable as variables
use Rattle.om_scope_tree.specs.ResolvedTree.{ResolvedExpressionTree, ValuesTree}
use Rattle.om_scope_tree.specs.ResolvedView as view
use Rattle.om_lower_rules.specs.Expressions.{assigned, called, constant, stepped_back, value, values}
use Rattle.om_lower_rules.specs.Numbered.{Numbered}
use Rattle.om_lower_rules.specs.Operators.{BinaryForm, Both, Either, Plain, compound_of, step_of, inverse_step_of}
use Rattle.om_lower_rules.specs.Rows.{Site, Row, end, ins, part, here, fresh_two, fresh_three, ◌▸◌}
use Rattle.om_lower_rules.specs.Slots.{place}
use Rattle.om_parser_tree.specs.declared.tree.AssignOperator.{AssignOperator}
use Rattle.om_parser_tree.specs.declared.tree.PostfixOperator.{PostfixOperator}

-- `x = e` and `x op= e`
abbrev pub assignment : Site → ℕ → Bool → variables.Variable → AssignOperator → ResolvedExpressionTree → Row
assignment at l keeps x operator e = assigned at l keeps x (compound_of operator) (value at l e)

-- `x++` and `x--`, which do with x and 1 what `x += 1` and `x -= 1` do
abbrev pub stepped : Site → ℕ → Bool → variables.Variable → PostfixOperator → Row
stepped at l keeps x operator = assigned at l keeps x (Some (step_of operator)) (constant at l (pos 1))

-- a call, with its values
abbrev pub call : Site → ℕ → ℕ → ValuesTree → Row
call at l function es = called at l function es (values at l es)

-- behind the operand of a unary operator
abbrev pub unary_rest : Site → ℕ → UnaryOperator → Row
unary_rest at l unaries.Plus = end
unary_rest at l unaries.Negate = ins at l (i.Serial (serials.Unary unary.Negate)) ▸ end
unary_rest at l unaries.Not = ins at l (i.Serial (serials.Unary unary.Not)) ▸ end

-- what jumps to `otherwise` where the value on top is 0, and pushes 1 and jumps to `over` where it is not
abbrev pub one_unless_zero : (otherwise over : ℕ) → List Instr
one_unless_zero otherwise over = i.Serial (serials.JumpIfZero otherwise) ∷ i.Serial (serials.Constant (pos 1)) ∷ i.Serial (serials.Jump over) ∷ []

-- 1 where the value on top is not 0, and 0 where it is; what jumped to the label f gets the 0, and what jumped to
-- the label e goes on behind it
abbrev pub truth_row : Site → ℕ → (f e : ℕ) → Row
truth_row at l f e =
    ins at l (i.Serial (serials.JumpIfZero f)) ▸ ins at l (i.Serial (serials.Constant (pos 1))) ▸ ins at l (i.Serial (serials.Jump e))
    ▸ here f ▸ ins at l (i.Serial (serials.Constant (pos 0))) ▸ here e ▸ end

-- behind the left operand of an operator between two
abbrev pub binary_rest : Site → ℕ → BinaryForm → ResolvedExpressionTree → Row
binary_rest at l Both b = fresh_two (λ f e.
    ins at l (i.Serial (serials.JumpIfZero f)) ▸ part (value at l b) ▸ truth_row at l f e)
binary_rest at l Either b = fresh_three (λ n f e.
    ins at l (i.Serial (serials.JumpIfZero n)) ▸ ins at l (i.Serial (serials.Constant (pos 1))) ▸ ins at l (i.Serial (serials.Jump e))
    ▸ here n ▸ part (value at l b) ▸ truth_row at l f e)
binary_rest at l (Plain operator) b = part (value at l b) ▸ ins at l (i.Serial (serials.Binary operator)) ▸ end

-- behind the index of an assignment to an element
abbrev pub element_rest : Site → ℕ → Bool → variables.Variable → Option machine.BinaryOperator → Row → Row
element_rest at l keeps a None e = part e ▸ ins at l (i.Serial (serials.StoreElement (place at a) keeps)) ▸ end
element_rest at l keeps a (Some operator) e =
    ins at l (i.Serial serials.Duplicate) ▸ ins at l (i.Serial (serials.LoadElement (place at a))) ▸ part e
    ▸ ins at l (i.Serial (serials.Binary operator)) ▸ ins at l (i.Serial (serials.StoreElement (place at a) keeps)) ▸ end

-- behind the index of `a[j] = e` and `a[j] op= e`
abbrev pub assignment_rest : Site → ℕ → Bool → variables.Variable → AssignOperator
    → ResolvedExpressionTree → Row
assignment_rest at l keeps a operator e = element_rest at l keeps a (compound_of operator) (value at l e)

-- behind the index of `a[j]++` and `a[j]--`, without and with their value
abbrev pub stepped_rest : Site → ℕ → Bool → variables.Variable → PostfixOperator → Row
stepped_rest at l keeps a operator =
    element_rest at l keeps a (Some (step_of operator)) (constant at l (pos 1))

abbrev pub postfix_rest : Site → ℕ → variables.Variable → PostfixOperator → Row
postfix_rest at l a operator = part (stepped_rest at l true a operator) ▸ stepped_back at l (inverse_step_of operator)

-- ---- what a function writes of an expression, unless memory runs out

-- it is the right operand, and what an operator of this form does with both
abbrev pub AppendsOperand : {T E : Type 0} → Result T E → Here → BinaryForm → ResolvedExpression → Written → Written
    → Type 0
AppendsOperand result here form right old new =
    AppendsBy result here binary_rest form (view.expression right) old new

-- it is assigned to a variable
abbrev pub AppendsAssignment : {T E : Type 0} → Result T E → Here → Target → ResolvedExpression → Written → Written
    → Type 0
AppendsAssignment result here to e old new =
    Appends result here (λ at l. assignment at l to.keeps to.variable to.operator) (view.expression e) old new

-- it is assigned to an element, whose index stands before it
abbrev pub AppendsElement : {T E : Type 0} → Result T E → Here → Target → ResolvedExpression → Written → Written
    → Type 0
AppendsElement result here to e old new =
    Appends result here (λ at l. assignment_rest at l to.keeps to.variable to.operator) (view.expression e) old new

-- a variable is stepped by one; `keeps` says whether the new value is left
abbrev pub AppendsStep : {T E : Type 0} → Result T E → Here → (keeps : Bool) → variables.Variable → PostfixOperator
    → Written → Written → Type 0
AppendsStep result here keeps x operator old new = Appends result here (λ at l. stepped at l keeps x) operator old new

-- an element, whose index stands before it, is stepped by one; `keeps` says whether the new value is left
abbrev pub AppendsElementStep : {T E : Type 0} → Result T E → Here → (keeps : Bool) → variables.Variable
    → PostfixOperator → Written → Written → Type 0
AppendsElementStep result here keeps a operator old new =
    Appends result here (λ at l. stepped_rest at l keeps a) operator old new

-- the row of the truth of the value on top is written in any body; both labels are placed, and the labels below the
-- first one keep their places
abbrev pub AppendsTruth : {T E : Type 0} → Result T E → (line otherwise over : ℕ) → Written → Written → Type 0
AppendsTruth result line otherwise over old new = (names : Numbered)
    → OnOk result (Goes otherwise (λ done at. truth_row (site names done) line (at otherwise) (at over)) old new)
