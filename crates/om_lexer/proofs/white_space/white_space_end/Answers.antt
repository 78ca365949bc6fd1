use Rattle.std.proofs.Common.{sym, ◌∙◌, arith}
use Rattle.om_lexer.proofs.Gaps.{none_weaker, blank_positive, backslash_white, slash_white}
use Rattle.om_lexer.proofs.white_space.white_space_end.Goals as goal

pub returns-then-is_blank-clause-inside : goal.returns-then-is_blank-clause-inside
returns-then-is_blank-clause-inside c =
    let positive = blank_positive _ (sym c.is_blank.ensures ∙ c.if-is_blank.true) in
    let inside = c.byte_at-byte.ensures.inside positive in
    omega (arith, inside)

pub returns-then-byte-eq92-clause-none : goal.returns-then-byte-eq92-clause-none
returns-then-byte-eq92-clause-none c =
    none_weaker _ (backslash_white c.args.source.now c.args.from (sym c.byte_at-byte.ensures.byte
    ∙ c.if-byte-eq92.true)) c.line_end.ensures.none

pub returns-then-byte-eq47-clause-none : goal.returns-then-byte-eq47-clause-none
returns-then-byte-eq47-clause-none c =
    none_weaker _ (slash_white c.args.source.now c.args.from (sym c.byte_at-byte.ensures.byte
    ∙ c.if-byte-eq47.true)) c.comment_end.ensures.none
