use Rattle.om_frontend.proofs.Refusals.{parser_refuses}
use Rattle.om_frontend.proofs.program.tree_of.Goals as goal

pub returns-clause-refused : goal.returns-clause-refused
returns-clause-refused c =
    let parse = rw c.deref.ensures.value at c.parse.ensures in
    parser_refuses c.args.source.now c.in_ok-tokens.tokens.items c.parse.result c.in_ok-tokens.ensures.tokens
    parse.syntax_has_no_tree parse.too_deep_passes_a_limit parse.unknown_word parse.bad_clause
    parse.no_other_refusal parse.one_refusal
