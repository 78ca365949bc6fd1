use Rattle.std.proofs.Common.{[], ap, ◌∙◌}
use Rattle.om_lower_tables.specs.Sites.{bodies_in}
use Rattle.om_lower.proofs.Ready.{next_ready}
use Rattle.om_lower.proofs.functions.add_function.Goals as goal

pub add_bodies-requires-clause-ready : goal.add_bodies-requires-clause-ready
add_bodies-requires-clause-ready c =
    next_ready c.args.input.now.tables.now c.args.slots.now.items c.as_slice-2.result.now c.args.next.now
    (bodies_in [] c.as_slice.result.now) c.requires.next
    (ap (λ all. bodies_in [] all) c.as_slice.ensures.value ∙ c.in_ok-sites.ensures)
    (c.as_slice-2.ensures.value ∙ c.in_ok-add_slots.ensures.added c.if-not-branch.false)
    (c.in_ok-add_slots.ensures.few c.if-not-branch.false)
