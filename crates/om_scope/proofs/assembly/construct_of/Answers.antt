use Rattle.std.proofs.Common.{refl, sym, ◌∙◌}
use Rattle.om_scope.proofs.assembly.construct_of.Goals as goal

pub returns : goal.returns
returns c =
    let around = rw (c.as_slice.ensures.value, c.deref.ensures) at c.in_ok-around.ensures in
    record { checked = refl; resolved = sym around ∙ c.in_ok-with_around.ensures }
