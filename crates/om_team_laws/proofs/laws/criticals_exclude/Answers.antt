use Rattle.std.proofs.Common.{◌≡◌, sym, ◌∙◌, Some}
use Rattle.om_team_laws.proofs.laws.criticals_exclude.Goals as goal

pub returns : goal.returns
returns c = λ program workers ls s lock v w e inside other.
    let h = c.runs_exclude.ensures program workers ls s e in
    let both : Some v ≡ Some w = sym (h.held lock v inside) ∙ h.held lock w other in
    cc
