use Rattle.std.proofs.Common.{◌≡◌, drop}
use Rattle.lab_port_calls.specs.Written.{function_text}
use Rattle.lab_port_calls.proofs.written.function_text.Given as goal

abbrev pub invariant-loop-next : goal.invariant-loop-next
invariant-loop-next l = function_text l.name (drop l.next-index l.names) ≡ function_text l.name l.names
