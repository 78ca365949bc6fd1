use Rattle.std.proofs.Common.{rules}
use Rattle.om_scope_tree.specs.Formats.{pieces_of}
use Rattle.om_lower.proofs.texts.cut_next.Goals as goal

pub returns-then-byte-eq37-clause-same : goal.returns-then-byte-eq37-clause-same
unfolding pieces_of
returns-then-byte-eq37-clause-same c = search rules

pub returns-clause-same : goal.returns-clause-same
unfolding pieces_of
returns-clause-same c = search rules
