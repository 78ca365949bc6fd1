use Rattle.std.proofs.Common.{◌≡◌, ◌≤◌, ◌+◌, drop}
use Rattle.lab_port_calls.specs.Functions.{calls_from}
use Rattle.lab_port_calls.proofs.function.calls_of.Given as goal

abbrev pub invariant-loop-i : goal.invariant-loop-i
invariant-loop-i l = record {
  rest : calls_from l.count l.name (drop l.i l.rest) ≡ calls_from 1 l.name l.rest;
  small : l.count ≤ l.i + 1;
}
