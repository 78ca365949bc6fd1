-- Why a resolved tree has no program.
use Rattle.std.specs.Prelude.{◌≢◌}
use Rattle.om_lexer.specs.Faults.{no_memory}
use Rattle.om_lexer.specs.declared.fault.FaultCode.TheVariants.{TooMany}
use Rattle.om_lexer.specs.declared.fault.SourceFault.{SourceFault}
use Rattle.om_lower.specs.Limits.{IsTooMany}
use Rattle.om_scope_tree.specs.ResolvedTree.{ResolvedFunctionTree, ResolvedTree}

-- S11 at the function's name
abbrev pub too_many : ResolvedFunctionTree → SourceFault
too_many function = record { code = TooMany; at = function.name_at }

-- a fault other than out of memory names the first function that passes a limit
abbrev pub IsRefusal : ResolvedTree → SourceFault → Type 0
IsRefusal tree fault = fault ≢ no_memory → IsTooMany tree fault
