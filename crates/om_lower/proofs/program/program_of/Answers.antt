use Rattle.om_lower.specs.Inputs.{tree_of}
use Rattle.om_lower.proofs.Assembled.{valid}
use Rattle.om_lower.proofs.program.program_of.Goals as goal

pub of-requires : goal.of-requires
of-requires c =
    valid c.code_is_valid.ensures.valid
    (tree_of c.args.input.now) c.in_ok-raw.raw c.args.placed.picks c.args.placed.functions
    c.requires.given.whole
    c.requires.given.copies
    c.requires.lowered c.requires.low c.in_ok-raw.ensures.code c.in_ok-raw.ensures.bodies
    c.in_ok-raw.ensures.picks
