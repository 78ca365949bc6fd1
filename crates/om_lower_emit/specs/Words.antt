-- What contracts of this crate name, from here and from the crates below.
pub use Rattle.om_lower_rules.specs.Coded.{AssignmentHasCode, CallHasCode, DeclaratorHasCode, EffectHasCode}
pub use Rattle.om_lower_rules.specs.Coded.{StartHasCode, UpdateHasCode, ValueHasCode, ValuesHaveCode}
pub use Rattle.om_lower_rules.specs.Expressions.{effect, stepped_back, value, values}
pub use Rattle.om_lower_rules.specs.Operators.{Both, Either, form_of, identity_of, inverse_step_of, reduction_of}
pub use Rattle.om_lower_rules.specs.Operators.{side_of, update_of}
pub use Rattle.om_lower_rules.specs.Scopes.{clause_scope, closed_at, parameter_scope, task_scope, team_scope}
pub use Rattle.om_lower_rules.specs.Statements.{alone_row, assignment_row, barrier, clause_start, combine_clause}
pub use Rattle.om_lower_rules.specs.Statements.{reductions, starts, update_row, worksharing_end}
pub use Rattle.om_lower_emit.specs.BeginsAndEnds.{BeginsElse, BeginsFor, BeginsIf, BeginsWhile, EndsDo, EndsFor}
pub use Rattle.om_lower_emit.specs.BeginsAndEnds.{EndsLoop, ScopesFor}
pub use Rattle.om_lower_emit.specs.Declarations.{AppendsPerhapsEffect, AppendsReturn, AppendsStart, Initializes}
pub use Rattle.om_lower_emit.specs.Declarations.{InitializesAll, ScopesDeclarator, ScopesDeclarators, ScopesStart}
pub use Rattle.om_lower_emit.specs.Drafts.{HasNoTarget, PutsAll, nothing}
pub use Rattle.om_lower_emit.specs.Emits.{Adds, Appends, AppendsBy, listed, place_at}
pub use Rattle.om_lower_emit.specs.Rests.{AppendsAssignment, AppendsElement, AppendsElementStep, AppendsOperand}
pub use Rattle.om_lower_emit.specs.Rests.{AppendsStep, AppendsTruth, one_unless_zero}
pub use Rattle.om_lower_emit.specs.Scoped.{BeginsCopy, BeginsEach, BeginsOneScope, EndsAbove, EndsLast}
pub use Rattle.om_lower_emit.specs.Scoped.{ScopesClause, ScopesClauses, ScopesConstruct, team_from}
pub use Rattle.om_lower_emit.specs.Spots.{spot_with}
pub use Rattle.om_lower_emit.specs.Stretches.{AppendsAnywhere, AppendsClause, AppendsClauses, AppendsPerhapsTest}
pub use Rattle.om_lower_emit.specs.Stretches.{AppendsStatement, AppendsTest, BeginHasCode, BeginsConstruct}
pub use Rattle.om_lower_emit.specs.Stretches.{BeginsReduction, BeginsReductions, EmitsJump, EndsConstruct, IsNoAtomic}
pub use Rattle.om_lower_emit.specs.Stretches.{BeginsTurn, FreshTurn, do_begin, identity_start, original_start}
pub use Rattle.om_lower_emit.specs.Stretches.{value_in}
