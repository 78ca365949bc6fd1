use Rattle.std.proofs.Common.{sym, ◌∙◌, inr}
use Rattle.std.proofs.lemmas.Bool.{both_ways}
use Rattle.std.proofs.lemmas.Result.{err_from_is_err_and}
use Rattle.om_lexer.specs.Pieces.{context_of}
use Rattle.om_lexer.proofs.Wrong.{endless_comment, no_token_at}
use Rattle.om_lexer.proofs.scan.read_piece.Goals as goal

pub returns-then-begins_comment-clause-fault : goal.returns-then-begins_comment-clause-fault
returns-then-begins_comment-clause-fault c =
    let context = context_of c.args.state.now c.args.macros.now in
    inr (
      c.bad_token.ensures.at,
      rw c.bad_token.ensures.code (endless_comment c.args.source.now context c.args.at c.requires.inside
          (c.begins_comment.ensures.0 c.if-begins_comment.true) c.in_default.ensures.none),
    )

pub returns-in_err-kind-clause-fault : goal.returns-in_err-kind-clause-fault
returns-in_err-kind-clause-fault c =
    let p = err_from_is_err_and c.from_residual-in_err-kind.result c.from_residual-in_err-kind.ensures.1 in
    let context = context_of c.args.state.now c.args.macros.now in
    rw (p.1, p.2) (no_token_at c.args.source.now context c.args.at c.requires.inside c.if-source-at-eq10.false
    c.in_default.ensures.none (sym c.is_ignored.ensures ∙ c.if-is_ignored.false)
    (λ begins. both_ways _ c.if-begins_hash_line.false (c.begins_hash_line.ensures.1 begins)) _
    c.in_err-kind.ensures.fault)
