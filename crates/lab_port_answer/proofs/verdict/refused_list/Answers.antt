use Rattle.std.proofs.Common.{rules, subst}
use Rattle.lab_port.specs.Portings.{Ports}
use Rattle.lab_port_answer.proofs.verdict.refused_list.Goals as goal

pub returns : goal.returns
returns c = record {
  again = c.in_ok-again.again;
  ports = subst (λ text. Ports text c.in_ok-again.again) c.deref.ensures.value c.in_ok-again.ensures.ports;
  told = search rules;
}
