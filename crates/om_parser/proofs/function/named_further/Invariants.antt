use Rattle.std.proofs.Common.{◌≡◌, ◌++◌, length, drop, Ok}
use Rattle.om_parser.specs.FunctionReading.{named_further}
use Rattle.om_parser_parts.specs.Reading.{◌>>=◌}
use Rattle.om_parser.proofs.function.named_further.Given as goal

abbrev pub invariant-loop-comma : goal.invariant-loop-comma
invariant-loop-comma l =
    (goal.iterator-loop-comma).can_next l.comma-iterator × (goal.iterator-loop-comma).is_finite l.comma-iterator
    × (named_further l.body l.fn.further.items
    ≡ (named_further l.body (drop (length l.yielded) l.fn.further.items) >>= λ more. Ok (l.named.items ++ more)))
