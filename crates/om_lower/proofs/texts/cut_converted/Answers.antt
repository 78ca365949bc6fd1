use Rattle.std.proofs.Common.{rules, arith}
use Rattle.std.proofs.lemmas.Grind.{common_steps}
use Rattle.om_scope_tree.specs.Formats.{converted}
use Rattle.om_lower.proofs.Cutting.{value_or}
use Rattle.om_lower.proofs.texts.cut_converted.Goals as goal

pub returns-then-byte-eq37-clause-same : goal.returns-then-byte-eq37-clause-same
unfolding converted
returns-then-byte-eq37-clause-same c = search rules

pub returns-clause-same : goal.returns-clause-same
unfolding converted
returns-clause-same c = search rules

pub returns-then-byte-eq100-clause-same : goal.returns-then-byte-eq100-clause-same
unfolding converted
returns-then-byte-eq100-clause-same c = search (rules, value_or)

pub returns-in_default-clause-same : goal.returns-in_default-clause-same
unfolding converted
returns-in_default-clause-same c = grind (arith, common_steps)
