use Rattle.std.proofs.Common.{rules, subst}
use Rattle.lab_check.specs.Reports.{Reports}
use Rattle.lab_port_answer.proofs.verdict.changed.Goals as goal

pub returns : goal.returns
returns c = record {
  ported = c.in_ok-ported.ported;
  ports = c.in_ok-ported.ensures.ports;
  text = search rules;
  report = c.in_ok-after.after.text.items;
  checked = subst (
      λ text. Reports c.args.file.now text c.in_ok-after.after.text.items c.in_ok-after.after.status
      ) c.deref.ensures.value c.in_ok-after.ensures;
  listed = c.in_ok-list.ensures;
  warned = search rules;
}
