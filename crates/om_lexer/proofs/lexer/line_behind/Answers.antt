use Rattle.std.proofs.Common.{arith}
use Rattle.om_lexer.proofs.Progress.{line_more}
use Rattle.om_lexer.proofs.lexer.line_behind.Goals as goal

pub returns : goal.returns
returns c =
    let more = line_more c.args.source.now c.args.span.start c.args.span.end c.requires.order in
    omega (arith, more, c.line_feeds.ensures, c.requires.line)
