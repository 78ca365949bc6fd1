-- The operators, comparisons and schedules of the language as those of the instructions.
use Rattle.std.specs.Prelude.{ℕ, ℤ, pos, negsuc, Option, None, Some}
use Rattle.om_code.specs.declared.instruction.AtomicOperator.{AtomicOperator}
use Rattle.om_code.specs.declared.instruction.AtomicOperator.TheVariants as atomics
use Rattle.om_code.specs.declared.instruction.BinaryOperator as machine
use Rattle.om_code.specs.declared.instruction.BinaryOperator.TheVariants as operators
use Rattle.om_code.specs.declared.instruction.Comparison.{Comparison}
use Rattle.om_code.specs.declared.instruction.Comparison.TheVariants as comparisons
use Rattle.om_code.specs.declared.instruction.LoopForm.{LoopForm}
use Rattle.om_code.specs.declared.instruction.Reduction.{Reduction}
use Rattle.om_code.specs.declared.instruction.Reduction.TheVariants as reductions
use Rattle.om_code.specs.declared.instruction.Schedule.{Schedule}
use Rattle.om_code.specs.declared.instruction.Schedule.TheVariants as schedules
use Rattle.om_code.specs.declared.instruction.Side as machine_sides
use Rattle.om_code.specs.declared.instruction.Side.TheVariants as sides
use Rattle.om_parser_tree.specs.declared.tree.AssignOperator.{AssignOperator}
use Rattle.om_parser_tree.specs.declared.tree.AssignOperator.TheVariants as assigns
use Rattle.om_parser_tree.specs.declared.tree.BinaryOperator.{BinaryOperator}
use Rattle.om_parser_tree.specs.declared.tree.BinaryOperator.TheVariants as binaries
use Rattle.om_parser_tree.specs.declared.tree.PostfixOperator.{PostfixOperator}
use Rattle.om_parser_tree.specs.declared.tree.PostfixOperator.TheVariants as postfixes
use Rattle.om_pragma.specs.declared.clause.ReductionOperator.{ReductionOperator}
use Rattle.om_pragma.specs.declared.clause.ReductionOperator.TheVariants as sums
use Rattle.om_pragma.specs.declared.clause.ScheduleKind.{ScheduleKind}
use Rattle.om_pragma.specs.declared.clause.ScheduleKind.TheVariants as kinds
use Rattle.om_scope_tree.specs.declared.resolved.ResolvedSchedule.{ResolvedSchedule}
use Rattle.om_scope_tree.specs.declared.resolved.Side.{Side}
use Rattle.om_scope_tree.specs.declared.resolved.Side.TheVariants as tree_sides
use Rattle.om_scope_tree.specs.declared.resolved.UpdateOperator.{UpdateOperator}
use Rattle.om_scope_tree.specs.declared.resolved.UpdateOperator.TheVariants as updates
use Rattle.om_scope_tree.specs.ResolvedTree.{ResolvedLoopTree}

-- what an operator between two operands is: `&&` and `||` jump (C17 6.5.13p4, 6.5.14p4), the others are an instruction
pub data BinaryForm : Type 0 where
  Both : BinaryForm
  Either : BinaryForm
  Plain : machine.BinaryOperator → BinaryForm

abbrev pub form_of : BinaryOperator → BinaryForm
form_of binaries.And = Both
form_of binaries.Or = Either
form_of binaries.Equal = Plain operators.Equal
form_of binaries.NotEqual = Plain operators.NotEqual
form_of binaries.Less = Plain operators.Less
form_of binaries.Greater = Plain operators.Greater
form_of binaries.LessEqual = Plain operators.LessOrEqual
form_of binaries.GreaterEqual = Plain operators.GreaterOrEqual
form_of binaries.Add = Plain operators.Add
form_of binaries.Subtract = Plain operators.Subtract
form_of binaries.Multiply = Plain operators.Multiply
form_of binaries.Divide = Plain operators.Divide
form_of binaries.Remainder = Plain operators.Remainder

-- C17 6.5.16.2p3: the operator of a compound assignment; `=` has none
abbrev pub compound_of : AssignOperator → Option machine.BinaryOperator
compound_of assigns.Set = None
compound_of assigns.Add = Some operators.Add
compound_of assigns.Subtract = Some operators.Subtract
compound_of assigns.Multiply = Some operators.Multiply
compound_of assigns.Divide = Some operators.Divide
compound_of assigns.Remainder = Some operators.Remainder

-- C17 6.5.2.4p2: what `x++` and `x--` do with x and 1, and the inverse of that
abbrev pub step_of : PostfixOperator → machine.BinaryOperator
step_of postfixes.Increment = operators.Add
step_of postfixes.Decrement = operators.Subtract

abbrev pub inverse_step_of : PostfixOperator → machine.BinaryOperator
inverse_step_of postfixes.Increment = operators.Subtract
inverse_step_of postfixes.Decrement = operators.Add

-- OpenMP API 5.2, section 15.8.4: the operator of an update, and on which side of it the old value stands
abbrev pub update_of : UpdateOperator → AtomicOperator
update_of updates.Add = atomics.Add
update_of updates.Subtract = atomics.Subtract
update_of updates.Multiply = atomics.Multiply
update_of updates.Divide = atomics.Divide

abbrev pub side_of : Side → machine_sides.Side
side_of tree_sides.Left = sides.Left
side_of tree_sides.Right = sides.Right

-- OpenMP API 5.2, section 5.5.3: how a reduction combines, and what its copies begin with
abbrev pub reduction_of : ReductionOperator → Reduction
reduction_of sums.Add = reductions.Add
reduction_of sums.Multiply = reductions.Multiply
reduction_of sums.Max = reductions.Max
reduction_of sums.Min = reductions.Min

abbrev pub identity_of : ReductionOperator → ℤ
identity_of sums.Add = pos 0
identity_of sums.Multiply = pos 1
identity_of sums.Max = negsuc 2147483647
identity_of sums.Min = pos 2147483647

-- OpenMP API 5.2, section 4.4.1: the comparison of a canonical loop; `!=`, which it allows too, is unsupported
abbrev pub comparison_of : BinaryOperator → Option Comparison
comparison_of binaries.Less = Some comparisons.Less
comparison_of binaries.LessEqual = Some comparisons.LessOrEqual
comparison_of binaries.Greater = Some comparisons.Greater
comparison_of binaries.GreaterEqual = Some comparisons.GreaterOrEqual
comparison_of _ = None

-- OpenMP API 5.2, section 11.5.3: a chunk of a dynamic schedule has one iteration where no size is given
abbrev pub schedule_in : ScheduleKind → Option ℕ → Schedule
schedule_in kinds.Static None = schedules.Static
schedule_in kinds.Static (Some chunk) = schedules.StaticChunk chunk
schedule_in kinds.Dynamic None = schedules.Dynamic 1
schedule_in kinds.Dynamic (Some chunk) = schedules.Dynamic chunk

abbrev pub schedule_of : ResolvedSchedule → Schedule
schedule_of schedule = schedule_in schedule.kind schedule.chunk

abbrev pub form_with : ResolvedLoopTree → Comparison → LoopForm
form_with l comparison = record { comparison = comparison; step = l.step; schedule = schedule_of l.schedule }
