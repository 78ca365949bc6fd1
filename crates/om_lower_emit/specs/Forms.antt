-- The form of an operator, as a value of the program.
use Rattle.om_lower_emit.specs.declared.operator.Form.{Form}
use Rattle.om_lower_emit.specs.declared.operator.Form.TheVariants as forms
use Rattle.om_lower_rules.specs.Operators.{BinaryForm, Both, Either, Plain}

abbrev pub form : Form → BinaryForm
form forms.Both = Both
form forms.Either = Either
form (forms.Plain operator) = Plain operator
