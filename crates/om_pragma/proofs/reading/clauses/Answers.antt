use Rattle.std.proofs.Common.{◌≡◌, [], ◌∷◌, ◌++◌, sym, map}
use Rattle.std.proofs.lemmas.Result.{err_from_is_err_and}
use Rattle.om_pragma.specs.Expressions.{map_item, tokens_in}
use Rattle.om_pragma.specs.Reading.{syntax_at, take_end, item_at, clauses_at}
use Rattle.om_pragma.proofs.Directives.{item_shorter}
use Rattle.om_pragma.proofs.Rows.{goes_begins, goes_ends, goes_refused, goes_on, map_more}
use Rattle.om_pragma.proofs.reading.clauses.Goals as goal

pub items-init : goal.items-init
unfolding clauses_at
items-init c = rw c.new-items.ensures (goes_begins syntax_at take_end (item_at c.args.name.now) c.args.tokens.now)

pub returns-in-Some : goal.returns-in-Some
returns-in-Some c = goes_ends syntax_at take_end (item_at c.args.name.now) (map (map_item tokens_in) c.items.items)
    c.items.rest.now (clauses_at c.args.name.now c.args.tokens.now) c.in-Some.end [] (sym c.in-Some.ensures)
    c.items.invariant

pub returns-in_err-next : goal.returns-in_err-next
returns-in_err-next c =
    let p = err_from_is_err_and c.from_residual.result c.from_residual.ensures.1 in
    rw (p.1, p.2) (goes_refused take_end (item_at c.args.name.now) (map (map_item tokens_in) c.items.items)
    c.items.rest.now (clauses_at c.args.name.now c.args.tokens.now) c.in_err-next.field-0.0
    (sym c.in_default.ensures) (rw c.as_slice.ensures at c.in_err-next.ensures) c.items.invariant)

pub items-smaller : goal.items-smaller
items-smaller c = item_shorter c.args.name.now (map (map_item tokens_in) c.as_slice.result.now) c.items.rest.now
    (map_item tokens_in c.in_ok-next.next) c.in_ok-next.behind.now c.in_ok-next.ensures

pub items-preserved : goal.items-preserved
items-preserved c =
    let pushed : c.push.new.self ≡ c.items.items ++ c.in_ok-next.next ∷ [] = c.in_ok-push.ensures.added in
    let shorter = item_shorter c.args.name.now (map (map_item tokens_in) c.as_slice.result.now) c.items.rest.now
    (map_item tokens_in c.in_ok-next.next) c.in_ok-next.behind.now c.in_ok-next.ensures in
    rw (pushed, map_more (map_item tokens_in) c.items.items c.in_ok-next.next)
    (goes_on syntax_at take_end (item_at c.args.name.now) (map (map_item tokens_in) c.items.items)
    c.items.rest.now (clauses_at c.args.name.now c.args.tokens.now) (map_item tokens_in c.in_ok-next.next)
    c.in_ok-next.behind.now (sym c.in_default.ensures) (rw c.as_slice.ensures at c.in_ok-next.ensures) shorter
    c.items.invariant)
