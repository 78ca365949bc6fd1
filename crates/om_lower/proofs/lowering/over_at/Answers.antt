use Rattle.std.proofs.Common.{All, sym, subst}
use Rattle.om_lower.specs.Inputs.{tree_of}
use Rattle.om_lower.specs.Heights.{AreLevel}
use Rattle.om_lower_rules.specs.Bodies.{first_numbers}
use Rattle.om_lower.proofs.Assembled.{level_functions}
use Rattle.om_lower.proofs.lowering.over_at.Goals as goal

pub first_high-requires : goal.first_high-requires
first_high-requires c =
    let tree = tree_of c.args.input.now in
    subst (λ picks. All (λ bodies. AreLevel picks bodies) c.as_slice-functions.result.now) (sym c.as_slice.ensures)
    (subst (λ lists. All (λ bodies. AreLevel c.args.placed.now.picks bodies) lists) (sym c.as_slice-functions.ensures)
    (level_functions c.body_is_level.ensures tree c.requires.lists c.args.placed.now.picks first_numbers tree.functions
    c.args.placed.now.functions c.requires.stand c.requires.made))
