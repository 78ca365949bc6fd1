mod Perhaps
mod TokenBreaches
mod ExpressionBreaches
mod DirectiveBreaches
mod LoopBreaches
mod StatementBreaches
mod UnitBreaches
mod FunctionNames
