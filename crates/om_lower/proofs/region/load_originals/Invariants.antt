use Rattle.std.proofs.Common.{drop, length}
use Rattle.om_lower_rules.specs.Statements.{load_original}
use Rattle.om_lower_emit.specs.Emits.{names_at}
use Rattle.om_lower_rules.specs.Copies.{first_copy}
use Rattle.om_lower_emit.specs.Each.{GoesOn}
use Rattle.om_lower.proofs.region.load_originals.Given as goal

abbrev pub invariant-loop-copy : goal.invariant-loop-copy
invariant-loop-copy l =
    GoesOn (length l.fn.draft.places) (names_at l.here) (λ at. load_original at l.here.at.line) first_copy l.copies
    (drop l.copy-index l.copies) l.fn.draft l.draft
