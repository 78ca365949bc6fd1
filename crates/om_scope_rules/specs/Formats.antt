-- The formats of `printf` (C17 7.21.6.1): `%d` takes a value, `%%` none, and there is no other conversion.
use Rattle.std.specs.Prelude.{ℕ, ◌-◌, ◌==◌, List, Bool, false, fold, if◌then◌else◌}
use Rattle.om_parser_tree.specs.Tree.{ExpressionTree, Name, Constant, Text, Paren, Index, Call, Prefix, Postfix, Binary}
use Rattle.om_parser_tree.specs.Tree.{Conditional, Assign}
use Rattle.om_scope_rules.specs.declared.print.Reading.{Reading}
use Rattle.om_scope_rules.specs.declared.print.Reading.TheVariants as readings

-- `%d`, where so many values are left
abbrev pub with_value : ℕ → Reading
with_value left = if left == 0 then readings.Wrong else readings.Text (left - 1)

-- a character of a format
abbrev pub after_character : Reading → ℕ → Reading
after_character (readings.Text left) c = if c == 37 then readings.Conversion left else readings.Text left
after_character (readings.Conversion left) c = if c == 100 then with_value left else if c == 37 then readings.Text
    left else readings.Wrong
after_character readings.Wrong c = readings.Wrong

abbrev pub is_whole : Reading → Bool
is_whole (readings.Text left) = left == 0
is_whole (readings.Conversion left) = false
is_whole readings.Wrong = false

-- a format takes so many values
abbrev pub takes_values : List ℕ → ℕ → Bool
takes_values format count = is_whole (fold after_character (readings.Text count) format)

-- an expression is a format that takes so many values
abbrev pub is_format : ExpressionTree → ℕ → Bool
is_format (Text t) count = takes_values t.value count
is_format (Name n) count = false
is_format (Constant n) count = false
is_format (Paren left e right) count = false
is_format (Index n left e right) count = false
is_format (Call n left values right) count = false
is_format (Prefix o at e) count = false
is_format (Postfix e o at) count = false
is_format (Binary a o at b) count = false
is_format (Conditional c question a colon b) count = false
is_format (Assign a o at b) count = false
