use Rattle.om_lower_emit.specs.Drafts.{FreshLabels}
use Rattle.om_lower_emit.proofs.draft.Draft.fresh_labels.Given as goal

abbrev pub invariant-loop : goal.invariant-loop
invariant-loop l = FreshLabels l.labels.items l.counter l.fn.self l.self
