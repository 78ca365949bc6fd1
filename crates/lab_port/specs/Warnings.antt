-- Which changes may change what a program does, and how: a decision, rule by rule.
use Rattle.std.specs.Prelude.{Option, None, Some}
use Rattle.lab_port_words.specs.declared.class.TypeWord.{TypeWord}
use Rattle.lab_port_words.specs.declared.class.TypeWord.TheVariants as types
use Rattle.lab_port_rules.specs.declared.rule.Rule.{Rule}
use Rattle.lab_port_rules.specs.declared.rule.Rule.TheVariants as rules
use Rattle.lab_port.specs.declared.words.Kind.{Kind}
use Rattle.lab_port.specs.declared.words.Kind.TheVariants as kinds

-- a word of a type that becomes `int`
abbrev pub type_warning : TypeWord → Option Kind
type_warning types.Long = Some kinds.Fault
type_warning types.Char = Some kinds.WrongValue
type_warning types.Short = Some kinds.WrongValue
type_warning types.Truth = Some kinds.WrongValue
type_warning types.Unsigned = Some kinds.WrongValue
type_warning _ = None

abbrev pub warning_of : Rule → Option Kind
warning_of rules.EnumerationType = Some kinds.WrongValue
warning_of rules.EnumerationTypedef = Some kinds.WrongValue
warning_of (rules.FlatArray number) = Some kinds.WrongValue
warning_of rules.List = Some kinds.Differs
warning_of rules.Fill = Some kinds.Differs
warning_of rules.Attribute = Some kinds.Differs
warning_of rules.Suffix = Some kinds.Fault
warning_of rules.Volatile = Some kinds.HidesRaces
warning_of rules.Wait = Some kinds.HidesRaces
warning_of (rules.Type word) = type_warning word
warning_of (rules.TypeAgain word) = type_warning word
warning_of rules.UnsignedSuffix = Some kinds.WrongValue
warning_of rules.NarrowCast = Some kinds.WrongValue
warning_of rules.WideCast = Some kinds.Fault
warning_of rules.Zero = Some kinds.WrongValue
warning_of rules.InParallel = Some kinds.WrongValue
warning_of rules.Routine = Some kinds.Differs
warning_of rules.PrintError = Some kinds.Differs
warning_of rules.Format = Some kinds.Differs
warning_of rules.Main = Some kinds.Differs
warning_of rules.Dynamic = Some kinds.Differs
warning_of rules.Static = Some kinds.Differs
warning_of _ = None
