use Rattle.std.proofs.Common.{rules}
use Rattle.lab_check_kinds.proofs.with_kinds.Goals as goal

pub returns : goal.returns
returns c = record {
  ported = c.in_ok-ported.ported;
  ports = c.in_ok-ported.ensures.ports;
  told = search rules;
}
