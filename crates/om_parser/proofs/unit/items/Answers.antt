use Rattle.std.proofs.Common.{◌≡◌, [], ◌∷◌, ◌++◌, length, map, sym, arith}
use Rattle.std.proofs.lemmas.Result.{err_from_is_err_and}
use Rattle.std.proofs.lemmas.List.{map_push}
use Rattle.om_parser_tree.specs.Limits.{accepted}
use Rattle.om_parser_parts.specs.Repetition.{until}
use Rattle.om_parser.specs.UnitReading.{take_end, item_at}
use Rattle.om_parser_tree.specs.View.{view_item}
use Rattle.om_parser_parts.specs.Loops.{until_begins, until_ends, until_fails, until_goes_on}
use Rattle.om_parser.proofs.UnitSound.{end_shorter, item_shorter}
use Rattle.om_parser.proofs.unit.items.Goals as goal

pub items-init : goal.items-init
items-init c = rw c.new-items.ensures.items (until_begins take_end (item_at accepted) c.args.tokens.now)

pub returns-in-Some : goal.returns-in-Some
returns-in-Some c = until_ends take_end (item_at accepted) (map view_item c.items.items.items) c.items.rest.now
    (until take_end (item_at accepted) (length c.args.tokens.now) c.args.tokens.now) c.in-Some.end []
    (sym c.in-Some.ensures) (end_shorter c.items.rest.now c.in-Some.end [] (sym c.in-Some.ensures)) c.items.invariant

pub returns-in_err-next : goal.returns-in_err-next
returns-in_err-next c =
    let p = err_from_is_err_and c.from_residual.result c.from_residual.ensures.1 in
    rw (p.1, p.2) (until_fails take_end (item_at accepted) (map view_item c.items.items.items) c.items.rest.now
    (until take_end (item_at accepted) (length c.args.tokens.now) c.args.tokens.now) c.in_err-next.field-0.0
    (sym c.in_default.ensures) c.in_err-next.ensures c.items.invariant)

pub items-smaller : goal.items-smaller
items-smaller c = item_shorter c.blocks_are_sound.ensures c.globals.ensures.sound accepted (omega arith)
    c.items.rest.now (view_item c.in_ok-next.next) c.in_ok-next.after.now c.in_ok-next.ensures

pub items-preserved : goal.items-preserved
items-preserved c =
    let pushed : map view_item c.push.new.self.items ≡ map view_item c.items.items.items
    ++ view_item c.in_ok-next.next ∷ [] = rw c.in_ok-push.ensures.items
    (map_push _ c.items.items.items c.in_ok-next.next) in
    rw pushed (until_goes_on take_end (item_at accepted) (map view_item c.items.items.items) c.items.rest.now
    (until take_end (item_at accepted) (length c.args.tokens.now) c.args.tokens.now)
    (view_item c.in_ok-next.next) c.in_ok-next.after.now (sym c.in_default.ensures) c.in_ok-next.ensures
    (item_shorter c.blocks_are_sound.ensures c.globals.ensures.sound accepted (omega arith) c.items.rest.now
    (view_item c.in_ok-next.next) c.in_ok-next.after.now c.in_ok-next.ensures) c.items.invariant)
