use Rattle.om_pragma.proofs.Promises.{is_found, has_one_expression, is_only, is_refused, is_first, is_first_or_out}
use Rattle.om_pragma.proofs.reading.directive.Goals as goal

pub returns-clause-found : goal.returns-clause-found
returns-clause-found c = is_found c.args.tokens.now c.read.result c.read.ensures

pub returns-clause-every_directive_is_found : goal.returns-clause-every_directive_is_found
returns-clause-every_directive_is_found c = is_only c.args.tokens.now c.read.result c.read.ensures

pub returns-clause-refused : goal.returns-clause-refused
returns-clause-refused c = is_refused c.args.tokens.now c.read.result c.read.ensures

pub returns-clause-one_expression_at_most : goal.returns-clause-one_expression_at_most
returns-clause-one_expression_at_most c = has_one_expression c.args.tokens.now c.read.result c.read.ensures

pub returns-clause-stops_at_the_first : goal.returns-clause-stops_at_the_first
returns-clause-stops_at_the_first c = is_first c.args.tokens.now c.read.result c.read.ensures

pub returns-clause-runs_out : goal.returns-clause-runs_out
returns-clause-runs_out c = is_first_or_out c.args.tokens.now c.read.result c.read.ensures
