use Rattle.std.proofs.Common.{◌≡◌, [], ◌∷◌, ◌++◌, length, sym}
use Rattle.std.proofs.lemmas.Result.{err_from_is_err_and}
use Rattle.om_lexer.specs.declared.token.Punctuator.TheVariants.{CloseParen}
use Rattle.om_parser.specs.FunctionReading.{further_parameter_at}
use Rattle.om_parser_parts.specs.Reading.{take_mark}
use Rattle.om_parser_parts.specs.Repetition.{until}
use Rattle.om_parser.proofs.FunctionSound.{further_parameter_shorter}
use Rattle.om_parser_parts.specs.Loops.{until_begins, until_ends, until_fails, until_goes_on}
use Rattle.om_parser_parts.specs.Taken.{mark_shorter}
use Rattle.om_parser.proofs.function.further_parameters.Goals as goal

pub parameters-init : goal.parameters-init
parameters-init c = rw c.new-parameters.ensures.items (until_begins (take_mark CloseParen) further_parameter_at
    c.args.tokens.now)

pub returns-in-Some : goal.returns-in-Some
returns-in-Some c = until_ends (take_mark CloseParen) further_parameter_at c.parameters.parameters.items
    c.parameters.rest.now (until (take_mark CloseParen) further_parameter_at (length c.args.tokens.now)
    c.args.tokens.now) c.in-Some.close_paren c.in-Some.after.now (sym c.in-Some.ensures)
    (mark_shorter CloseParen c.parameters.rest.now c.in-Some.close_paren c.in-Some.after.now
    (sym c.in-Some.ensures)) c.parameters.invariant

pub returns-in_err-comma : goal.returns-in_err-comma
returns-in_err-comma c =
    let p = err_from_is_err_and c.from_residual.result c.from_residual.ensures.1 in
    rw (p.1, p.2) (until_fails (take_mark CloseParen) further_parameter_at c.parameters.parameters.items
    c.parameters.rest.now (until (take_mark CloseParen) further_parameter_at (length c.args.tokens.now)
    c.args.tokens.now) c.in_err-comma.field-0.0 (sym c.in_default.ensures) c.in_err-comma.ensures
    c.parameters.invariant)

pub parameters-smaller : goal.parameters-smaller
parameters-smaller c = further_parameter_shorter c.parameters.rest.now (c.in_ok-comma.comma, c.in_ok-comma.next)
    c.in_ok-comma.after.now c.in_ok-comma.ensures

pub parameters-preserved : goal.parameters-preserved
parameters-preserved c =
    let pushed : c.push.new.self.items ≡ c.parameters.parameters.items ++ (c.in_ok-comma.comma, c.in_ok-comma.next)
    ∷ [] = c.in_ok-push.ensures.items in
    rw pushed (until_goes_on (take_mark CloseParen) further_parameter_at c.parameters.parameters.items
    c.parameters.rest.now (until (take_mark CloseParen) further_parameter_at (length c.args.tokens.now)
    c.args.tokens.now) (c.in_ok-comma.comma, c.in_ok-comma.next) c.in_ok-comma.after.now
    (sym c.in_default.ensures) c.in_ok-comma.ensures (further_parameter_shorter c.parameters.rest.now
    (c.in_ok-comma.comma, c.in_ok-comma.next) c.in_ok-comma.after.now c.in_ok-comma.ensures) c.parameters.invariant)
