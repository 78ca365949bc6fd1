-- The contexts below are those of the plain pile, turned twice.
use Rattle.std.proofs.Common.{◌∙◌, sym, ap, map}
use Rattle.om_memory.specs.Plain.{plain_held, plain_context}
use Rattle.om_memory.proofs.Tapes.{map_reversed}
use Rattle.om_memory.proofs.copy.plain_stack_of.Goals as goal

pub returns : goal.returns
returns c =
    let below =
    c.in_ok-below.ensures
    ∙ sym (map_reversed plain_held c.as_slice.result.now)
    ∙ ap (map plain_held) c.as_slice.ensures in
    let top = c.in_ok-plain_context_of.ensures ∙ ap plain_context c.deref.ensures in
    λ i. record { top = top i; below = below i }
