use Rattle.std.proofs.Common.{sym, subst}
use Rattle.om_lower_rules.specs.Mentions.{lock_name}
use Rattle.om_team_laws.specs.Criticals.{IsInside}
use Rattle.om_critical_laws.proofs.laws.names_exclude.Goals as goal

pub returns : goal.returns
returns c = λ tree program workers ls s name v w code e inside other.
    let same = c.locks_differ.ensures tree program inside.lock other.lock (lock_name name) code inside.has_name other.has_name in
    c.criticals_exclude.ensures program workers ls s inside.lock v w e inside.inside
    (subst (λ lock. IsInside s lock w) (sym same) other.inside)
