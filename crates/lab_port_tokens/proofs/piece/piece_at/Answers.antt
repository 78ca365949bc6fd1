use Rattle.std.proofs.Common.{◌∙◌, ◌+◌}
use Rattle.lab_port_tokens.proofs.Cuts.{piece_there, slice_from}
use Rattle.lab_port_tokens.proofs.piece.piece_at.Goals as goal

pub returns-clause-piece : goal.returns-clause-piece
returns-clause-piece c =
    piece_there c.args.source.now c.args.at c.scan_after.result c.size_from-size.result c.first_of.result
    c.kind_of.result c.of.result _ _ c.requires (slice_from c.args.source.now (c.args.at + 1))
    (slice_from c.args.source.now c.args.at) c.scan_after.ensures c.size_from-size.ensures.size
    c.first_of.ensures c.kind_of.ensures (c.of.ensures ∙ c.in_ok-text.ensures.items)
