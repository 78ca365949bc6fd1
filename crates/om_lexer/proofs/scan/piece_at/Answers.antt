use Rattle.std.proofs.Common.{◌<◌, ◌≤◌, length}
use Rattle.std.proofs.lemmas.Result.{IfOk-weaker}
use Rattle.om_lexer.specs.Pieces.{IsPiece, context_of}
use Rattle.om_lexer.specs.Folding.{HasWordsInside}
use Rattle.om_lexer.proofs.Progress.{piece_moves, piece_inside, piece_words}
use Rattle.om_lexer.proofs.scan.piece_at.Goals as goal

pub returns-clause-moves : goal.returns-clause-moves
returns-clause-moves c =
    let context = context_of c.args.state.now c.args.macros.now in
    IfOk-weaker _ (IsPiece c.args.source.now context c.args.at) (λ p. c.args.at < p.end)
    (piece_moves c.args.source.now context c.args.at) c.read_piece.ensures.piece

pub returns-clause-inside : goal.returns-clause-inside
returns-clause-inside c =
    let context = context_of c.args.state.now c.args.macros.now in
    IfOk-weaker _ (IsPiece c.args.source.now context c.args.at) (λ p. p.end ≤ length c.args.source.now)
    (λ p. piece_inside c.args.source.now context c.args.at p c.requires.inside) c.read_piece.ensures.piece

pub returns-clause-words : goal.returns-clause-words
returns-clause-words c =
    let context = context_of c.args.state.now c.args.macros.now in
    IfOk-weaker _ (IsPiece c.args.source.now context c.args.at) (λ p. HasWordsInside p.kind c.args.at p.end)
    (piece_words c.args.source.now context c.args.at) c.read_piece.ensures.piece
