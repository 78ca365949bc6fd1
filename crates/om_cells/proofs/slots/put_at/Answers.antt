use Rattle.std.proofs.Common.{◌∙◌, ap, set, arith}
use Rattle.om_cells.proofs.SlotLemmas.{leads_one}
use Rattle.om_cells.proofs.slots.put_at.Goals as goal

pub returns-then-index-count-clause-written : goal.returns-then-index-count-clause-written
returns-then-index-count-clause-written c = λ slot s mirrors.
    let vs = c.args.values.now.items in
    leads_one slot c.args.index c.args.count c.args.value (s vs) _ c.if-index-count.true
    (ap (λ v. s (set vs c.args.index v)) c.replace.ensures.after
    ∙ mirrors.puts c.args.index c.if-index-count.true vs (omega (arith, c.if-index-count.true, c.requires.enough))
    c.args.value)
