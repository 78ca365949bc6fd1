use Rattle.std.proofs.lemmas.Result.{IfOk-weaker}
use Rattle.om_scope_tree.specs.ResolvedView as view
use Rattle.om_lower.proofs.lowering.lower.Goals as goal

pub lower_input-requires : goal.lower_input-requires
lower_input-requires c = record {
  given = record {
    tables = c.in_ok-tables.ensures;
    whole = c.requires.whole;
    has_code = c.whole_has_code.ensures (view.resolved c.args.resolved.now) c.requires.whole c.requires.atomics;
    copies = c.requires.copies;
    small = c.requires.small;
  };
}

pub returns-clause-means : goal.returns-clause-means
returns-clause-means c =
    IfOk-weaker c.lower_input.result _ _
    (λ program code. c.serial_meaning.ensures (view.resolved c.args.resolved.now) program code)
    c.lower_input.ensures.code

pub returns-clause-layout : goal.returns-clause-layout
returns-clause-layout c =
    IfOk-weaker c.lower_input.result _ _
    (λ program code. c.true_layouts.ensures (view.resolved c.args.resolved.now) program c.requires.whole
    c.requires.copies code)
    c.lower_input.ensures.code
