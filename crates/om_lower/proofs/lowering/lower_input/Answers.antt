use Rattle.std.proofs.Common.{subst}
use Rattle.om_lower.specs.Inputs.{tree_of}
use Rattle.om_lower.specs.Made.{IsLowered}
use Rattle.om_lower.proofs.Assembled.{all_within, ok_anyway}
use Rattle.om_lower.proofs.lowering.lower_input.Goals as goal

pub program_of-requires-clause-lowered : goal.program_of-requires-clause-lowered
program_of-requires-clause-lowered c =
    let tree = tree_of c.args.input.now in
    subst (λ whole. IsLowered tree c.in_ok-placed.placed.picks c.in_ok-placed.placed.functions whole)
    c.in_ok-within_limits.ensures.low.0 c.in_ok-placed.ensures

pub program_of-requires-clause-low : goal.program_of-requires-clause-low
program_of-requires-clause-low c = c.in_ok-within_limits.ensures.low.1

pub returns-clause-within : goal.returns-clause-within
returns-clause-within c =
    let tree = tree_of c.args.input.now in
    let placed = c.in_ok-placed.placed in
    let low = c.in_ok-within_limits.ensures.low in
    ok_anyway c.program_of.result (all_within tree placed.picks placed.functions
    (subst (λ whole. IsLowered tree placed.picks placed.functions whole) low.0 c.in_ok-placed.ensures) low.1)
