-- Where the rules of names of the library apply.
use Rattle.std.specs.Prelude.{ℕ, Bool, true, false, ◌==◌, ◌&&◌, if◌then◌else◌, Option, None, Some, is_some, List}
use Rattle.lab_port_words.specs.declared.class.Class.{Class}
use Rattle.lab_port_words.specs.declared.class.Class.TheVariants as classes
use Rattle.lab_port_words.specs.declared.class.Sign.{Sign}
use Rattle.lab_port_words.specs.declared.class.Sign.TheVariants as signs
use Rattle.lab_port_words.specs.declared.class.Lack.{Lack}
use Rattle.lab_port_words.specs.declared.class.Lack.TheVariants as lacks
use Rattle.lab_port_words.specs.declared.class.Word.TheVariants as words
use Rattle.lab_port_words.specs.declared.class.Library.{Library}
use Rattle.lab_port_words.specs.declared.class.Library.TheVariants as names
use Rattle.lab_port_rules.specs.declared.rule.Rule.{Rule}
use Rattle.lab_port_rules.specs.declared.rule.Rule.TheVariants as rules
use Rattle.lab_port_rules.specs.declared.mark.Mark.{Mark}
use Rattle.lab_port_rules.specs.declared.mark.Mark.TheVariants as marks
use Rattle.lab_port_context.specs.declared.ahead.Call.{Call}
use Rattle.lab_port_context.specs.declared.ahead.Call.TheVariants as calls
use Rattle.lab_port_context.specs.declared.context.Context.{Context}
use Rattle.lab_port_context.specs.Ahead.{nth_class, size_to, is_open, is_close, is_comma, call_size, statement_size}

-- the rule applies where this holds, and takes no further piece
abbrev pub changed_if : Bool → Rule → Mark
changed_if applies rule = if applies then marks.Changed rule 0 else marks.Kept

-- the rule applies where this size is found, and takes so many further pieces
abbrev pub changed_by : Option ℕ → Rule → Mark
changed_by None rule = marks.Kept
changed_by (Some size) rule = marks.Changed rule size

abbrev pub ends_statement : Sign → Bool
ends_statement signs.Semicolon = true
ends_statement signs.OpenBrace = true
ends_statement signs.CloseBrace = true
ends_statement signs.Close = true
ends_statement signs.Colon = true
ends_statement _ = false

-- a statement or a declaration may begin after it, where no parenthesis is open
abbrev pub begins_after : Class → Bool
begins_after classes.LineEnd = true
begins_after (classes.Sign sign) = ends_statement sign
begins_after (classes.Word words.Branch) = true
begins_after _ = false

abbrev pub begins_statement : Context → Bool
begins_statement context = context.parens == 0 && begins_after context.last

-- a call that is a statement here: its list is replaced with the name, or kept
abbrev pub whole_statement : Context → Call → List Class → Rule → Mark
whole_statement context call rest rule =
    if begins_statement context then changed_by (statement_size call rest) rule else marks.Kept

-- the name alone is replaced
abbrev pub name_of_statement : Context → List Class → Rule → Mark
name_of_statement context rest rule =
    changed_if (begins_statement context && is_some (statement_size calls.Any rest)) rule

abbrev pub is_text : Class → Bool
is_text (classes.Text _) = true
is_text _ = false

-- the rule of an `fprintf`, by its stream
abbrev pub print_rule : Class → Option Rule
print_rule (classes.Library names.ErrorStream) = Some rules.PrintError
print_rule (classes.Library names.OutputStream) = Some rules.PrintOut
print_rule _ = None

abbrev pub print_by : Option Rule → List Class → Mark
print_by None rest = marks.Kept
print_by (Some rule) rest = marks.Changed rule (size_to 2 0 rest)

-- C17 7.21.6.1: `fprintf` to a stream that is named; the stream and its comma go with it
abbrev pub print_mark : List Class → Mark
print_mark rest =
    if is_open (nth_class 0 rest) && is_comma (nth_class 2 rest) then print_by (print_rule (nth_class 1 rest)) rest
    else marks.Kept

-- C17 7.21.7.9: a `puts` of one text
abbrev pub puts_text : List Class → Bool
puts_text rest = (is_open (nth_class 0 rest) && is_text (nth_class 1 rest)) && is_close (nth_class 2 rest)

abbrev pub puts_mark : Context → List Class → Mark
puts_mark context rest = if puts_text rest then whole_statement context calls.Pure rest rules.Puts else marks.Kept

abbrev pub lacking_call : Lack → List Class → Mark
lacking_call lack rest = if is_open (nth_class 0 rest) then marks.Lacking lack else marks.Kept

-- `exit` in `main` is `return`; elsewhere it has no form
abbrev pub exit_mark : Context → List Class → Mark
exit_mark context rest =
    if context.in_main then name_of_statement context rest rules.Exit else lacking_call lacks.Exit rest

-- a name of the library
abbrev pub library_mark : Library → Context → List Class → Mark
library_mark names.Abort context rest = marks.Kept
library_mark names.Assert context rest = marks.Kept
library_mark names.Exit context rest = exit_mark context rest
library_mark names.Setting context rest = whole_statement context calls.Pure rest rules.Routine
library_mark names.Wait context rest = whole_statement context calls.Pure rest rules.Wait
library_mark names.Zero context rest = changed_by (call_size calls.Pure rest) rules.Zero
library_mark names.InParallel context rest = changed_by (call_size calls.Pure rest) rules.InParallel
library_mark names.PrintTo context rest = print_mark rest
library_mark names.ErrorStream context rest = marks.Kept
library_mark names.OutputStream context rest = marks.Kept
library_mark names.Puts context rest = puts_mark context rest
library_mark names.One context rest = marks.Changed rules.One 0
library_mark names.Nought context rest = marks.Changed rules.Nought 0
library_mark names.Largest context rest = marks.Changed rules.Largest 0
library_mark names.Least context rest = marks.Changed rules.Least 0
library_mark names.NoDebug context rest = marks.Kept
library_mark names.BroughtIn context rest = marks.Kept
library_mark (names.Lacking lack) context rest = lacking_call lack rest
