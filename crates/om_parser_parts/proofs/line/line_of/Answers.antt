use Rattle.om_parser_tree.specs.Limits.{accepted}
use Rattle.om_parser_parts.proofs.LineViews.{refused_line}
use Rattle.om_parser_parts.proofs.line.line_of.Goals as goal

pub returns-in-Err : goal.returns-in-Err
returns-in-Err c = refused_line accepted c.args.run.now c.in-Err.fault c.sooner.result c.in-Err.ensures.reads
    c.sooner.ensures
