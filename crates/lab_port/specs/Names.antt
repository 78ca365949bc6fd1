-- The words of the list of changes.
use Rattle.std.specs.Prelude.{ℕ, List, [], codes}
use Rattle.lab_port_words.specs.declared.class.TypeWord.{TypeWord}
use Rattle.lab_port_words.specs.declared.class.TypeWord.TheVariants as types
use Rattle.lab_port_words.specs.declared.class.Lack.{Lack}
use Rattle.lab_port_words.specs.declared.class.Lack.TheVariants as lacks
use Rattle.lab_port_rules.specs.declared.rule.Rule.{Rule}
use Rattle.lab_port_rules.specs.declared.rule.Rule.TheVariants as rules
use Rattle.lab_port.specs.declared.words.Kind.{Kind}
use Rattle.lab_port.specs.declared.words.Kind.TheVariants as kinds

abbrev pub type_name : TypeWord → List ℕ
type_name types.Unsigned = codes "unsigned"
type_name types.Truth = codes "bool"
type_name _ = codes "narrow"

-- the name of a rule
abbrev pub name_of : Rule → List ℕ
name_of rules.Include = codes "include"
name_of rules.Macro = codes "macro"
name_of rules.Use = codes "name"
name_of rules.Enumeration = codes "enum"
name_of rules.EnumerationType = codes "enum"
name_of rules.EnumerationTypedef = codes "enum"
name_of rules.Typedef = codes "typedef"
name_of rules.List = codes "list"
name_of rules.FileList = codes "list"
name_of rules.Fill = codes "list"
name_of (rules.Length number) = codes "length"
name_of (rules.FlatArray number) = codes "flat"
name_of (rules.FlatIndex number) = codes "flat"
name_of rules.Text = codes "text"
name_of rules.Storage = codes "storage"
name_of rules.Attribute = codes "storage"
name_of rules.Volatile = codes "volatile"
name_of (rules.Type word) = type_name word
name_of (rules.TypeAgain word) = type_name word
name_of rules.Suffix = codes "suffix"
name_of rules.UnsignedSuffix = codes "unsigned"
name_of (rules.Character number) = codes "constant"
name_of rules.One = codes "constant"
name_of rules.Nought = codes "constant"
name_of rules.Largest = codes "constant"
name_of rules.Least = codes "constant"
name_of rules.DefineAbort = codes "abort"
name_of rules.DefineAssert = codes "assert"
name_of rules.Exit = codes "exit"
name_of rules.Routine = codes "routine"
name_of rules.Zero = codes "asks"
name_of rules.InParallel = codes "asks"
name_of rules.Wait = codes "wait"
name_of rules.PrintError = codes "stderr"
name_of rules.PrintOut = codes "stderr"
name_of rules.Puts = codes "puts"
name_of rules.Format = codes "format"
name_of rules.Cast = codes "cast"
name_of rules.WideCast = codes "cast"
name_of rules.NarrowCast = codes "cast"
name_of rules.Main = codes "main"
name_of rules.Dynamic = codes "kind"
name_of rules.Static = codes "kind"
name_of rules.DropClause = codes "drop-clause"
name_of rules.Plus = codes "reduction"

-- the name of a kind of warning
abbrev pub kind_name : Kind → List ℕ
kind_name kinds.WrongValue = codes "wrong value"
kind_name kinds.Fault = codes "fault"
kind_name kinds.HidesRaces = codes "hides races"
kind_name kinds.Differs = codes "differs"

abbrev pub type_words : TypeWord → List ℕ
type_words types.Long = codes "a result that does not fit is the fault F1"
type_words types.Char = codes "it does not wrap"
type_words types.Short = codes "it does not wrap"
type_words types.Truth = codes "a value other than 0 and 1 is kept as it is"
type_words types.Unsigned = codes "a value above 2147483647 or a negative one differs; a sum that wraps is the fault F1"
type_words _ = []

-- what the warning of a rule says
abbrev pub warning_words : Rule → List ℕ
warning_words rules.Volatile = codes "no read or write is kept or added by it here"
warning_words rules.Wait = codes "no time passes, and the schedule decides"
warning_words (rules.Type word) = type_words word
warning_words (rules.TypeAgain word) = type_words word
warning_words rules.UnsignedSuffix = codes "an operand that is negative or above 2147483647 differs"
warning_words rules.NarrowCast = codes "the value is not cut to the type"
warning_words rules.EnumerationType = codes "a negative value differs"
warning_words rules.EnumerationTypedef = codes "a negative value differs"
warning_words (rules.FlatArray number) = codes "an index past its row stays in the array, and is no fault F3"
warning_words rules.List = codes "the stores are steps"
warning_words rules.Fill = codes "the stores are steps"
warning_words rules.Attribute = codes "what it asks for is not done here"
warning_words rules.Suffix = codes "a result that does not fit is the fault F1"
warning_words rules.WideCast = codes "a result that does not fit is the fault F1"
warning_words rules.Zero = codes "the answer is 0 here"
warning_words rules.InParallel = codes "in a team of one in a larger team the answer is 0"
warning_words rules.Routine = codes "one level of teams is active, and its size is not adjusted"
warning_words rules.PrintError = codes "it is printed to the output"
warning_words rules.Format = codes "widths, flags and lengths are left out"
warning_words rules.Main = codes "there are no arguments"
warning_words rules.Dynamic = codes "other threads may make an iteration"
warning_words rules.Static = codes "other threads may make an iteration"
warning_words _ = []

-- why a token has no form
abbrev pub lack_words : Lack → List ℕ
lack_words lacks.Floating = codes "floating point has no form here"
lack_words lacks.Pointer = codes "a pointer has no form here"
lack_words lacks.Statement = codes "this word has no form here"
lack_words lacks.Struct = codes "a struct has no form here"
lack_words lacks.Union = codes "a union has no form here"
lack_words lacks.Exit = codes "an exit outside of main has no form here"
lack_words lacks.Lock = codes "a lock has no form here"
lack_words lacks.Threads = codes "the number of threads is not known here"
lack_words lacks.Conversion = codes "this conversion has no form here"
lack_words lacks.Directive = codes "this word has no form here"
lack_words lacks.Memory = codes "the length is not known here"
lack_words lacks.Input = codes "a program has no input here"
lack_words lacks.Random = codes "random numbers of the library have no form here"

-- what to write for it
abbrev pub lack_help : Lack → List ℕ
lack_help lacks.Floating = codes "write int in smaller units, or leave the measurement out"
lack_help lacks.Pointer = codes "pass an index of a global array"
lack_help lacks.Statement = codes "write it with if and while"
lack_help lacks.Struct = codes "write one variable or array for each member"
lack_help lacks.Union = codes "write one variable for each member"
lack_help lacks.Exit = codes "return to main, and end there"
lack_help lacks.Lock = codes "write #pragma omp critical (NAME) before what it guards"
lack_help lacks.Threads = codes "write num_threads(N) at each parallel, and N for the question"
lack_help lacks.Conversion = codes "print whole numbers by %d, and write one printf for each text"
lack_help lacks.Directive = codes "docs/PORTING.md says what to write for it"
lack_help lacks.Memory = codes "write a global array of a fixed length"
lack_help lacks.Input = codes "write a #define for each value"
lack_help lacks.Random = codes "write a function for them"
