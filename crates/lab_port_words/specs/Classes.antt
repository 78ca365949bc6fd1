-- Groups of classes.
use Rattle.std.specs.Prelude.{Bool, true, false}
use Rattle.lab_port_words.specs.declared.class.Class.{Class}
use Rattle.lab_port_words.specs.declared.class.Class.TheVariants as classes

-- white space, a comment or a line feed
abbrev pub is_gap : Class → Bool
is_gap classes.Gap = true
is_gap classes.Join = true
is_gap classes.LineEnd = true
is_gap _ = false

abbrev pub is_word : Class → Bool
is_word (classes.Type word) = true
is_word (classes.Storage word) = true
is_word (classes.Library name) = true
is_word (classes.Clause word) = true
is_word (classes.Hash word) = true
is_word (classes.Word word) = true
is_word _ = false
