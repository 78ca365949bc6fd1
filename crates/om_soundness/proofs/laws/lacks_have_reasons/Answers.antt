use Rattle.std.proofs.Common.{◌≡◌, ◌∙◌, sym, subst, ◌≤◌, Some, length}
use Rattle.om_code.specs.Ways.{pops}
use Rattle.om_soundness.proofs.Lacking.{ends_only}
use Rattle.om_soundness.proofs.laws.lacks_have_reasons.Goals as goal

pub returns : goal.returns
returns c = λ program workers ls s l stack instr valid some e runs is ends.
    let n = c.workers_have_needs.ensures program workers ls s l.worker stack valid some e runs in
    let found : Some n.instruction ≡ Some instr = sym n.there ∙ is in
    let same : n.instruction ≡ instr = cc in
    ends_only program workers s l stack instr runs is
    (subst (λ i. pops i ≤ length stack.top.frame.operands) same n.operands) ends
