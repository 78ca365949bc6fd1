-- Where the rules of `#` lines apply.
use Rattle.std.specs.Prelude.{ℕ, Bool, true, false, ◌+◌, ◌==◌, ◌||◌, ◌&&◌, not, if◌then◌else◌, Option, None, Some, List, [], ◌∷◌, drop}
use Rattle.lab_port_words.specs.declared.class.Class.{Class}
use Rattle.lab_port_words.specs.declared.class.Class.TheVariants as classes
use Rattle.lab_port_words.specs.declared.class.Form.TheVariants as forms
use Rattle.lab_port_words.specs.declared.class.Sign.TheVariants as signs
use Rattle.lab_port_words.specs.declared.class.Sign.{Sign}
use Rattle.lab_port_words.specs.declared.class.Hash.TheVariants as hashes
use Rattle.lab_port_words.specs.declared.class.Storage.TheVariants as storages
use Rattle.lab_port_words.specs.declared.class.Lack.TheVariants as lacks
use Rattle.lab_port_words.specs.declared.class.Clause.{Clause}
use Rattle.lab_port_words.specs.declared.class.Clause.TheVariants as words
use Rattle.lab_port_rules.specs.declared.rule.Rule.{Rule}
use Rattle.lab_port_rules.specs.declared.rule.Rule.TheVariants as rules
use Rattle.lab_port_rules.specs.declared.mark.Mark.{Mark}
use Rattle.lab_port_rules.specs.declared.mark.Mark.TheVariants as marks
use Rattle.lab_port_context.specs.declared.ahead.Call.TheVariants as calls
use Rattle.lab_port_context.specs.declared.context.Context.{Context}
use Rattle.lab_port_context.specs.declared.facts.Facts.{Facts}
use Rattle.lab_port_context.specs.Contexts.{is_stdlib}
use Rattle.lab_port_context.specs.Facts.{is_assert}
use Rattle.lab_port_context.specs.Ahead.{nth_class, size_to, is_open, is_close, is_comma, call_size}
use Rattle.lab_port_rules.specs.Libraries.{changed_if, changed_by}
use Rattle.lab_port_rules.specs.Codes.{lacking_if}

abbrev pub is_greater : Class → Bool
is_greater (classes.Sign signs.Greater) = true
is_greater _ = false

abbrev pub is_less : Class → Bool
is_less (classes.Sign signs.Less) = true
is_less _ = false

abbrev pub is_include : Class → Bool
is_include (classes.Hash hashes.Include) = true
is_include _ = false

-- the names of the headers that the subset has
abbrev pub is_header : Class → Bool
is_header (classes.Hash hashes.Stdio) = true
is_header (classes.Hash hashes.Omp) = true
is_header _ = false

-- how many pieces there are up to the `>` and with it, besides these
abbrev pub header_size : ℕ → List Class → Option ℕ
header_size passed [] = None
header_size passed (c ∷ rest) = if is_greater c then Some (passed + 1) else header_size (passed + 1) rest

-- C17 6.10.2: an include of a header that the subset has not
abbrev pub includes_header : List Class → Bool
includes_header rest =
    (is_include (nth_class 0 rest) && is_less (nth_class 1 rest)) && not (is_header (nth_class 2 rest))

-- the first header that declares `abort`, where the program calls that of the library
abbrev pub defines_abort : Facts → Context → List Class → Bool
defines_abort facts context rest =
    (is_stdlib (nth_class 2 rest) && facts.uses_abort) && not (facts.has_own || context.declared)

abbrev pub defines_assert : Facts → List Class → Bool
defines_assert facts rest = (is_assert (nth_class 2 rest) && facts.uses_assert) && not facts.has_own

-- the rule of an include
abbrev pub include_rule : Facts → Context → List Class → Rule
include_rule facts context rest =
    if defines_abort facts context rest then rules.DefineAbort
    else if defines_assert facts rest then rules.DefineAssert
    else rules.Include

-- while a condition stays, the headers stay that may decide it
abbrev pub include_mark : Facts → Context → List Class → Mark
include_mark facts context rest =
    if includes_header rest && not facts.has_conditions
    then changed_by (header_size 0 rest) (include_rule facts context rest)
    else marks.Kept

abbrev pub is_schedule : Class → Bool
is_schedule (classes.Clause words.Schedule) = true
is_schedule _ = false

abbrev pub is_reduction : Class → Bool
is_reduction (classes.Clause words.Reduction) = true
is_reduction _ = false

-- the first word in the parentheses of `schedule`
abbrev pub is_kind : Context → Bool
is_kind context = is_schedule context.before && is_open context.last

-- the first token in the parentheses of `reduction`
abbrev pub is_operator : Context → Bool
is_operator context = is_reduction context.before && is_open context.last

-- a clause of this size goes with the comma after it
abbrev pub with_comma : ℕ → List Class → ℕ
with_comma size rest = if is_comma (nth_class 0 (drop size rest)) then size + size_to 0 0 (drop size rest) else size

-- after a comma a clause is left out only with one of its own, since no comma ends a line
abbrev pub leaves_comma : Context → ℕ → List Class → Bool
leaves_comma context size rest = is_comma context.last && not (is_comma (nth_class 0 (drop size rest)))

abbrev pub clause_by : Context → Option ℕ → List Class → Mark
clause_by context None rest = marks.Kept
clause_by context (Some size) rest =
    if leaves_comma context size rest then marks.Kept
    else marks.Changed rules.DropClause (with_comma size rest)

-- a clause that is left out stands outside of the parentheses of others
abbrev pub dropped_clause : Context → Option ℕ → List Class → Mark
dropped_clause context size rest = if context.parens == 0 then clause_by context size rest else marks.Kept

abbrev pub is_one : Class → Bool
is_one (classes.Number forms.One) = true
is_one _ = false

-- `collapse(1)`
abbrev pub collapses_one : List Class → Bool
collapses_one rest = (is_open (nth_class 0 rest) && is_one (nth_class 1 rest)) && is_close (nth_class 2 rest)

abbrev pub collapse_mark : Context → List Class → Mark
collapse_mark context rest =
    if collapses_one rest then dropped_clause context (Some (size_to 2 0 rest)) rest else marks.Kept

abbrev pub clause_mark : Clause → Context → List Class → Mark
clause_mark words.Schedule context rest = marks.Kept
clause_mark words.Guided context rest = changed_if (is_kind context) rules.Dynamic
clause_mark words.Runtime context rest = changed_if (is_kind context) rules.Static
clause_mark words.Bare context rest = dropped_clause context (Some 0) rest
clause_mark words.Called context rest = dropped_clause context (call_size calls.Pure rest) rest
clause_mark words.Collapse context rest = collapse_mark context rest
clause_mark words.Reduction context rest = marks.Kept
clause_mark words.Lacking context rest = lacking_if (context.parens == 0) lacks.Directive

-- a token of a directive line
abbrev pub directive_mark : Context → Class → List Class → Mark
directive_mark context (classes.Clause word) rest = clause_mark word context rest
directive_mark context (classes.Storage storages.Auto) rest = changed_if (is_kind context) rules.Static
directive_mark context (classes.Sign signs.Minus) rest = changed_if (is_operator context) rules.Plus
directive_mark context _ rest = marks.Kept
