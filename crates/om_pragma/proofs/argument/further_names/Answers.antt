use Rattle.std.proofs.Common.{◌≡◌, [], ◌∷◌, ◌++◌, suc, length, sym}
use Rattle.std.proofs.lemmas.Result.{err_from_is_err_and}
use Rattle.om_lexer.specs.declared.token.Punctuator.TheVariants.{CloseParen}
use Rattle.om_lexer.specs.declared.token.TokenKind.TheVariants.{Punctuator}
use Rattle.om_pragma.specs.Reading.{place, take_kind, until, further_at}
use Rattle.om_pragma.proofs.Arguments.{further_shorter}
use Rattle.om_pragma.proofs.Rows.{goes_ends, goes_stops, goes_on}
use Rattle.om_pragma.proofs.argument.further_names.Goals as goal

pub returns-in-Some : goal.returns-in-Some
returns-in-Some c = goes_ends place (take_kind (Punctuator CloseParen)) further_at c.names.names c.names.rest.now
    (until place (take_kind (Punctuator CloseParen)) further_at (suc (length c.args.tokens.now)) []
    c.args.tokens.now) c.in-Some.close_paren c.in-Some.behind.now (sym c.in-Some.ensures) c.names.invariant

pub returns-in_err-comma : goal.returns-in_err-comma
unfolding further_at
returns-in_err-comma c =
    let p = err_from_is_err_and c.from_residual.result c.from_residual.ensures.1 in
    rw (p.1, p.2) (goes_stops (take_kind (Punctuator CloseParen)) further_at c.names.names c.names.rest.now
    (until place (take_kind (Punctuator CloseParen)) further_at (suc (length c.args.tokens.now)) []
    c.args.tokens.now) c.in_err-comma.field-0.0 (sym c.in_default.ensures) c.in_err-comma.ensures c.names.invariant)

pub names-smaller : goal.names-smaller
names-smaller c = further_shorter [] c.names.rest.now (c.in_ok-comma.comma, c.in_ok-comma.next)
    c.in_ok-comma.behind.now c.in_ok-comma.ensures

pub names-preserved : goal.names-preserved
unfolding further_at
names-preserved c =
    let pushed : c.push.new.self ≡ c.names.names ++ (c.in_ok-comma.comma, c.in_ok-comma.next)
    ∷ [] = c.in_ok-push.ensures.added in
    rw pushed (goes_on place (take_kind (Punctuator CloseParen)) further_at c.names.names c.names.rest.now
    (until place (take_kind (Punctuator CloseParen)) further_at (suc (length c.args.tokens.now)) []
    c.args.tokens.now) (c.in_ok-comma.comma, c.in_ok-comma.next) c.in_ok-comma.behind.now
    (sym c.in_default.ensures) c.in_ok-comma.ensures (further_shorter [] c.names.rest.now
    (c.in_ok-comma.comma, c.in_ok-comma.next) c.in_ok-comma.behind.now c.in_ok-comma.ensures) c.names.invariant)
