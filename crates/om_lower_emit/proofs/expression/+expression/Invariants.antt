use Rattle.std.proofs.Common.{◌≤◌, length, drop}
use Rattle.om_lower_emit.specs.Drafts.{Written}
use Rattle.om_lower_emit.specs.Emits.{Goes, listed, names_at, site}
use Rattle.om_lower_rules.specs.Expressions.{values}
use Rattle.om_lower_emit.proofs.expression.+expression.Given as goal

-- whoever writes what is left has written all
abbrev pub invariant-values-loop-e : goal.invariant-values-loop-e
invariant-values-loop-e l =
    (length l.fn.draft.places ≤ length l.draft.places)
    × ((c : Written) → Goes (length l.fn.draft.places) (λ done at. values (site (names_at l.here) done) l.here.at.line
    (listed (drop l.e-index l.es))) l.draft c
    → Goes (length l.fn.draft.places) (λ done at. values (site (names_at l.here) done) l.here.at.line
    (listed l.es)) l.fn.draft c)
