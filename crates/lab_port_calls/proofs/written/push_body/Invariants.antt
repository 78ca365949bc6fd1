use Rattle.std.proofs.Common.{◌≡◌, ◌++◌, drop}
use Rattle.std.specs.Prelude.{flat_map}
use Rattle.lab_port_calls.specs.Written.{body_part}
use Rattle.lab_port_calls.proofs.written.push_body.Given as goal

abbrev pub invariant-loop-piece : goal.invariant-loop-piece
invariant-loop-piece l = l.out.items ++ flat_map (body_part l.function l.list) (drop l.piece-index l.body)
    ≡ l.initial.out.items ++ flat_map (body_part l.function l.list) l.body
