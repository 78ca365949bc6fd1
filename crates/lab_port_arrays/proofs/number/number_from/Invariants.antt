use Rattle.std.proofs.Common.{◌≡◌, ◌<◌, drop}
use Rattle.lab_port_arrays.specs.Numbers.{number_from}
use Rattle.lab_port_arrays.proofs.number.number_from.Given as goal

abbrev pub invariant-loop-digit : goal.invariant-loop-digit
invariant-loop-digit l = record {
  rest : number_from l.value (drop l.digit-index l.digits) ≡ number_from 0 l.digits;
  small : l.value < 65536;
}
