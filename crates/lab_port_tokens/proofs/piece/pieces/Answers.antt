use Rattle.std.proofs.Common.{arith}
use Rattle.lab_port_tokens.proofs.Cuts.{read_on, whole}
use Rattle.lab_port_tokens.proofs.piece.pieces.Goals as goal

pub loop-at-preserved : goal.loop-at-preserved
loop-at-preserved c = record {
  inside = omega (arith, c.len-at.ensures, c.in_ok-piece.ensures.inside);
  read = read_on c.args.source.now c.loop-at.at c.len-at.result c.in_ok-piece.piece c.loop-at.pieces.items
      c.push.new.self.items c.loop-at-test.true c.loop-at.invariant.read c.in_ok-piece.ensures.piece
      c.len-at.ensures c.in_ok-push.ensures.items;
}

pub returns-clause-whole : goal.returns-clause-whole
returns-clause-whole c =
    whole c.args.source.now c.loop-at.at c.loop-at.pieces.items (omega (arith, c.loop-at-test.false))
    c.loop-at.invariant.read
