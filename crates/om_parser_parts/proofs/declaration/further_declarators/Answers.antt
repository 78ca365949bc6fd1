use Rattle.std.proofs.Common.{◌≡◌, [], ◌∷◌, ◌++◌, length, map, sym, rules}
use Rattle.std.proofs.lemmas.Result.{err_from_is_err_and}
use Rattle.std.proofs.lemmas.List.{map_push}
use Rattle.om_lexer.specs.declared.token.Punctuator.TheVariants.{Semicolon}
use Rattle.om_parser_parts.specs.DeclarationReading.{further_at}
use Rattle.om_parser_parts.specs.Reading.{take_mark}
use Rattle.om_parser_parts.specs.Repetition.{until}
use Rattle.om_parser_tree.specs.View.{view_declarator, view_further}
use Rattle.om_parser_parts.proofs.DeclarationSound.{further_shorter}
use Rattle.om_parser_parts.specs.Loops.{until_begins, until_ends, until_fails, until_goes_on}
use Rattle.om_parser_parts.specs.Taken.{mark_shorter}
use Rattle.om_parser_parts.proofs.declaration.further_declarators.Goals as goal

pub declarators-init : goal.declarators-init
declarators-init g c = rw c.new-declarators.ensures.items (until_begins (take_mark Semicolon)
    (further_at (g.I.Initial.reader c.args.room)) c.args.tokens.now)

pub returns-in-Some : goal.returns-in-Some
returns-in-Some g c = until_ends (take_mark Semicolon) (further_at (g.I.Initial.reader c.args.room))
    (map (view_further g.I.Initial.view) c.declarators.declarators.items) c.declarators.rest.now
    (until (take_mark Semicolon) (further_at (g.I.Initial.reader c.args.room)) (length c.args.tokens.now)
    c.args.tokens.now) c.in-Some.semicolon c.in-Some.after.now (sym c.in-Some.ensures)
    (mark_shorter Semicolon c.declarators.rest.now c.in-Some.semicolon c.in-Some.after.now (sym c.in-Some.ensures))
    c.declarators.invariant

pub returns-in_err-comma : goal.returns-in_err-comma
returns-in_err-comma g c =
    let p = err_from_is_err_and c.from_residual.result c.from_residual.ensures.1 in
    rw (p.1, p.2) (until_fails (take_mark Semicolon) (further_at (g.I.Initial.reader c.args.room))
    (map (view_further g.I.Initial.view) c.declarators.declarators.items) c.declarators.rest.now
    (until (take_mark Semicolon) (further_at (g.I.Initial.reader c.args.room)) (length c.args.tokens.now)
    c.args.tokens.now) c.in_err-comma.field-0.0 (sym c.in_default.ensures) c.in_err-comma.ensures
    c.declarators.invariant)

pub declarators-smaller : goal.declarators-smaller
declarators-smaller g c = further_shorter (g.I.Initial.reader c.args.room) c.requires c.declarators.rest.now
    (c.in_ok-comma.comma, view_declarator g.I.Initial.view c.in_ok-comma.next.value) c.in_ok-comma.after.now
    c.in_ok-comma.ensures

pub declarators-preserved : goal.declarators-preserved
declarators-preserved g c =
    let inner : c.into_inner.result ≡ c.in_ok-comma.next.value = search rules in
    let pushed : map (view_further g.I.Initial.view) c.push.new.self.items
    ≡ map (view_further g.I.Initial.view) c.declarators.declarators.items
    ++ (c.in_ok-comma.comma, view_declarator g.I.Initial.view c.in_ok-comma.next.value)
    ∷ [] = rw (c.in_ok-push.ensures.items, inner) (map_push (view_further g.I.Initial.view)
    c.declarators.declarators.items
    (c.in_ok-comma.comma, c.in_ok-comma.next.value)) in
    rw pushed (until_goes_on (take_mark Semicolon) (further_at (g.I.Initial.reader c.args.room))
    (map (view_further g.I.Initial.view) c.declarators.declarators.items) c.declarators.rest.now
    (until (take_mark Semicolon) (further_at (g.I.Initial.reader c.args.room)) (length c.args.tokens.now)
    c.args.tokens.now) (c.in_ok-comma.comma, view_declarator g.I.Initial.view c.in_ok-comma.next.value)
    c.in_ok-comma.after.now
    (sym c.in_default.ensures) c.in_ok-comma.ensures (further_shorter (g.I.Initial.reader c.args.room) c.requires
    c.declarators.rest.now (c.in_ok-comma.comma, view_declarator g.I.Initial.view c.in_ok-comma.next.value)
    c.in_ok-comma.after.now c.in_ok-comma.ensures) c.declarators.invariant)
