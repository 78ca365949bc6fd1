use Rattle.std.proofs.Common.{sym, ◌∙◌}
use Rattle.om_lexer.proofs.Gaps.{none_weaker, star_comment}
use Rattle.om_lexer.proofs.white_space.comment_end.Goals as goal

pub returns-then-next-eq42-clause-none : goal.returns-then-next-eq42-clause-none
returns-then-next-eq42-clause-none c =
    none_weaker _ (star_comment _ _ (sym c.byte_at-next.ensures.byte ∙ c.if-next-eq42.true))
    c.block_comment_end.ensures.none
