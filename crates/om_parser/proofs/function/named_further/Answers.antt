use Rattle.std.proofs.Common.{length, inr, ◌∙◌, arith}
use Rattle.std.proofs.lemmas.Iterator.Adapters.{YieldsList-from_vec}
use Rattle.std.proofs.lemmas.Iterator.Consumers.{YieldsList-turn, YieldsList-end}
use Rattle.std.proofs.lemmas.List.{at_drop_all, length_push}
use Rattle.std.proofs.lemmas.Result.{err_from_is_err_and}
use Rattle.om_parser.specs.FunctionReading.{named_further}
use Rattle.om_parser.proofs.Asked.{joined, drop_item, one_lacks, one_more, all_named}
use Rattle.om_parser.proofs.function.named_further.Goals as goal

pub returns-in_err-named_parameter : goal.returns-in_err-named_parameter
returns-in_err-named_parameter c =
    let body = c.args.body.now in
    let all = c.args.further.items in
    let given = c.into_iter-comma-iterator.ensures.into_iter_gives in
    let at = YieldsList-turn (YieldsList-from_vec {s = c.into_iter-comma-iterator.result} all given.0
    (given.1 ∙ c.args.further.ok.0))
    c.loop-comma.yielded c.loop-comma.comma-iterator c.loop-comma.yielded_by c.next.result c.next.new.self
    (c.in-Some.comma, c.in-Some.parameter) c.in-Some.is
    c.next.ensures.steps in
    let next = drop_item all (length c.loop-comma.yielded) (c.in-Some.comma, c.in-Some.parameter) at.0 at.1 in
    let goes_on = rw next at c.loop-comma.invariant.2 in
    let p = err_from_is_err_and c.from_residual.result c.from_residual.ensures.1 in
    rw (p.1, p.2) (inr (one_lacks body _ c.loop-comma.named.items _ _ goes_on _ c.in_err-named_parameter.ensures))

pub loop-comma-preserved : goal.loop-comma-preserved
loop-comma-preserved c =
    let body = c.args.body.now in
    let all = c.args.further.items in
    let given = c.into_iter-comma-iterator.ensures.into_iter_gives in
    let at = YieldsList-turn (YieldsList-from_vec {s = c.into_iter-comma-iterator.result} all given.0
    (given.1 ∙ c.args.further.ok.0))
    c.loop-comma.yielded c.loop-comma.comma-iterator c.loop-comma.yielded_by c.next.result c.next.new.self
    (c.in-Some.comma, c.in-Some.parameter) c.in-Some.is
    c.next.ensures.steps in
    let next = drop_item all (length c.loop-comma.yielded) (c.in-Some.comma, c.in-Some.parameter) at.0 at.1 in
    let goes_on = rw next at c.loop-comma.invariant.2 in
    let more = one_more body _ c.loop-comma.named.items _ _ goes_on _ c.in_ok-named_parameter.ensures in
    let count = length_push c.loop-comma.yielded (c.in-Some.comma, c.in-Some.parameter) in
    (tt, tt, rw (count, c.in_ok-push.ensures.items) more)

pub returns : goal.returns
returns c =
    let body = c.args.body.now in
    let all = c.args.further.items in
    let given = c.into_iter-comma-iterator.ensures.into_iter_gives in
    let end = YieldsList-end (YieldsList-from_vec {s = c.into_iter-comma-iterator.result} all given.0
    (given.1 ∙ c.args.further.ok.0))
    c.loop-comma.yielded c.loop-comma.comma-iterator c.loop-comma.yielded_by c.next.result c.next.new.self
    c.in-None.is c.next.ensures.steps in
    let none = at_drop_all (λ left. joined c.loop-comma.named.items (named_further body left)) all
    (length c.loop-comma.yielded) (omega (arith, end.1)) in
    all_named body _ c.loop-comma.named.items (c.loop-comma.invariant.2 ∙ none)
