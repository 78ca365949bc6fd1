-- The items of the pile are those of the plain one, turned twice.
use Rattle.std.proofs.Common.{◌∙◌, ap, reverse, map}
use Rattle.om_memory.specs.Plain.{plain_held}
use Rattle.om_memory.proofs.Tapes.{map_reversed}
use Rattle.om_memory.proofs.live.stack_of_plain.Goals as goal

pub returns : goal.returns
returns c =
    let below =
    ap (λ t. map plain_held t.items) c.of.ensures
    ∙ map_reversed plain_held c.in_ok-below.below.items
    ∙ ap reverse c.in_ok-below.ensures
    ∙ c.as_slice.ensures
    ∙ c.shares.ensures in
    λ i. record { top = c.in_ok-top.ensures i; below = below i }
