-- Where the rules of declarations, numbers, texts and casts apply.
use Rattle.std.specs.Prelude.{ℕ, Bool, true, false, ◌==◌, ◌||◌, ◌&&◌, not, if◌then◌else◌, Option, None, Some, List, drop}
use Rattle.lab_port_words.specs.declared.class.Class.{Class}
use Rattle.lab_port_words.specs.declared.class.Class.TheVariants as classes
use Rattle.lab_port_words.specs.declared.class.Form.{Form}
use Rattle.lab_port_words.specs.declared.class.Form.TheVariants as forms
use Rattle.lab_port_words.specs.declared.class.Sign.{Sign}
use Rattle.lab_port_words.specs.declared.class.Sign.TheVariants as signs
use Rattle.lab_port_words.specs.declared.class.Format.{Format}
use Rattle.lab_port_words.specs.declared.class.Format.TheVariants as formats
use Rattle.lab_port_words.specs.declared.class.Lack.{Lack}
use Rattle.lab_port_words.specs.declared.class.Lack.TheVariants as lacks
use Rattle.lab_port_words.specs.declared.class.Word.{Word}
use Rattle.lab_port_words.specs.declared.class.Word.TheVariants as words
use Rattle.lab_port_words.specs.declared.class.Storage.{Storage}
use Rattle.lab_port_words.specs.declared.class.Storage.TheVariants as storages
use Rattle.lab_port_words.specs.declared.class.TypeWord.{TypeWord}
use Rattle.lab_port_words.specs.declared.class.TypeWord.TheVariants as types
use Rattle.lab_port_words.specs.Classes.{is_word}
use Rattle.lab_port_rules.specs.declared.rule.Rule.{Rule}
use Rattle.lab_port_rules.specs.declared.rule.Rule.TheVariants as rules
use Rattle.lab_port_rules.specs.declared.mark.Mark.{Mark}
use Rattle.lab_port_rules.specs.declared.mark.Mark.TheVariants as marks
use Rattle.lab_port_context.specs.declared.ahead.Call.TheVariants as calls
use Rattle.lab_port_context.specs.declared.ahead.Cast.{Cast}
use Rattle.lab_port_context.specs.declared.ahead.Cast.TheVariants as casts
use Rattle.lab_port_context.specs.declared.ahead.CastEnd.{CastEnd}
use Rattle.lab_port_context.specs.declared.context.Context.{Context}
use Rattle.lab_port_context.specs.declared.facts.Facts.{Facts}
use Rattle.lab_port_context.specs.Contexts.{is_floating_type, is_abort}
use Rattle.lab_port_context.specs.Facts.{is_type}
use Rattle.lab_port_context.specs.Ahead.{nth_class, is_open, is_close, is_semicolon, is_comma, is_star, call_size, run_end, name_ahead, prototype_size, cast_ahead}
use Rattle.lab_port_rules.specs.Libraries.{changed_if, changed_by, begins_statement, library_mark}

-- the words here are of no pointer and of no floating type
abbrev pub has_form : Context → List Class → Bool
has_form context rest =
    not (context.floating || is_star context.last) && not (is_star (run_end rest) || is_floating_type (run_end rest))

-- at file scope, where a declaration may begin
abbrev pub begins_external : Context → Bool
begins_external context = context.braces == 0 && begins_statement context

-- the first declaration of `abort` becomes its definition, other prototypes of the library are left out
abbrev pub prototype_rule : Facts → Context → List Class → Rule
prototype_rule facts context rest =
    if (is_abort (name_ahead rest) && facts.uses_abort) && not context.declared then rules.DefineAbort else rules.Storage

-- a prototype of the library that begins here, or a word that has this mark
abbrev pub prototype_or : Option ℕ → Rule → Mark → Mark
prototype_or None rule mark = mark
prototype_or (Some size) rule mark = marks.Changed rule size

-- a word that is left out where the type has a form
abbrev pub word_mark : Context → List Class → Rule → Mark
word_mark context rest rule = changed_if (has_form context rest) rule

-- `extern` of a function at file scope
abbrev pub is_extern_place : Context → List Class → Bool
is_extern_place context rest = (context.braces == 0 && has_form context rest) && is_open (run_end rest)

-- what is left out of a declaration
abbrev pub storage_mark : Storage → Context → List Class → Mark
storage_mark storages.Plain context rest = word_mark context rest rules.Storage
storage_mark storages.Auto context rest = word_mark context rest rules.Storage
storage_mark storages.Volatile context rest = word_mark context rest rules.Volatile
storage_mark storages.Static context rest = changed_if (context.braces == 0 && has_form context rest) rules.Storage
storage_mark storages.Extern context rest = changed_if (is_extern_place context rest) rules.Storage
storage_mark storages.Attribute context rest = changed_by (call_size calls.Any rest) rules.Attribute

-- the first word of a type of whole numbers becomes `int`, and further ones are left out
abbrev pub whole_type_mark : TypeWord → Context → List Class → Mark
whole_type_mark word context rest =
    if not (has_form context rest) then marks.Kept
    else if context.typed then marks.Changed (rules.TypeAgain word) 0
    else marks.Changed (rules.Type word) 0

-- the type `int` is kept, where it is not a second word
abbrev pub type_mark : TypeWord → Context → List Class → Mark
type_mark types.Void context rest = marks.Kept
type_mark types.Floating context rest = marks.Lacking lacks.Floating
type_mark types.Int context rest = changed_if (context.typed && has_form context rest) (rules.TypeAgain types.Int)
type_mark word context rest = whole_type_mark word context rest

abbrev pub number_mark : Form → Mark
number_mark forms.Long = marks.Changed rules.Suffix 0
number_mark forms.Unsigned = marks.Changed rules.UnsignedSuffix 0
number_mark forms.Floating = marks.Lacking lacks.Floating
number_mark _ = marks.Kept

-- an operand may follow it, so that a `(` after it begins a list or a cast
abbrev pub precedes_operand : Class → Bool
precedes_operand (classes.Word words.Return) = true
precedes_operand (classes.Word words.Branch) = true
precedes_operand class = not (is_word class)

-- no operand begins with it: the end of an expression, or a bracket of a list
abbrev pub ends_operand : Class → Bool
ends_operand (classes.Sign signs.OpenBracket) = true
ends_operand (classes.Sign signs.OpenBrace) = true
ends_operand class = (is_semicolon class || is_close class) || is_comma class

abbrev pub cast_rule : Cast → Rule
cast_rule casts.Empty = rules.Cast
cast_rule casts.Same = rules.Cast
cast_rule casts.Wide = rules.WideCast
cast_rule casts.Narrow = rules.NarrowCast

abbrev pub cast_by : Option CastEnd → List Class → Mark
cast_by None rest = marks.Kept
cast_by (Some end) rest =
    if ends_operand (nth_class 0 (drop end.size rest)) then marks.Kept
    else marks.Changed (cast_rule end.cast) end.size

abbrev pub cast_mark : Context → List Class → Mark
cast_mark context rest = if precedes_operand context.last then cast_by (cast_ahead rest) rest else marks.Kept

abbrev pub is_int : Class → Bool
is_int (classes.Type types.Int) = true
is_int _ = false

abbrev pub is_argument : Class → Bool
is_argument (classes.Word words.Argument) = true
is_argument _ = false

-- C17 5.1.2.2.1: the second form of `main`, whose parameters no statement uses
abbrev pub has_parameters : List Class → Bool
has_parameters rest = (is_open (nth_class 0 rest) && is_int (nth_class 1 rest)) && is_argument (nth_class 2 rest)

abbrev pub main_mark : Facts → Context → List Class → Mark
main_mark facts context rest =
    if (context.braces == 0 && has_parameters rest) && not facts.uses_arguments
    then changed_by (call_size calls.Any rest) rules.Main
    else marks.Kept

abbrev pub plain_word_mark : Word → Facts → Context → List Class → Mark
plain_word_mark words.Main facts context rest = main_mark facts context rest
plain_word_mark (words.Lacking lack) facts context rest = marks.Lacking lack
plain_word_mark _ facts context rest = marks.Kept

abbrev pub lacking_if : Bool → Lack → Mark
lacking_if lacks lack = if lacks then marks.Lacking lack else marks.Kept

-- a star here declares a pointer
abbrev pub is_pointer : Context → Bool
is_pointer context = (context.typed || context.floating) || is_type context.last

-- an operator after it has one operand alone
abbrev pub precedes_prefix : Sign → Bool
precedes_prefix signs.Close = false
precedes_prefix signs.CloseBracket = false
precedes_prefix signs.Steps = false
precedes_prefix _ = true

-- an `&` after it takes an address
abbrev pub is_before_address : Class → Bool
is_before_address (classes.Sign sign) = precedes_prefix sign
is_before_address (classes.Word words.Return) = true
is_before_address _ = false

abbrev pub is_address : Context → Bool
is_address context = is_before_address context.last

abbrev pub text_mark : Format → Mark
text_mark formats.Same = marks.Kept
text_mark formats.Respelled = marks.Changed rules.Format 0
text_mark formats.Lacking = marks.Lacking lacks.Conversion

abbrev pub sign_mark : Sign → Context → List Class → Mark
sign_mark signs.Open context rest = cast_mark context rest
sign_mark signs.Star context rest = lacking_if (is_pointer context) lacks.Pointer
sign_mark signs.And context rest = lacking_if (is_address context) lacks.Pointer
sign_mark signs.Arrow context rest = marks.Lacking lacks.Pointer
sign_mark _ context rest = marks.Kept

abbrev pub character_by : Option ℕ → Mark
character_by None = marks.Kept
character_by (Some number) = marks.Changed (rules.Character number) 0

-- a character after no word, which may be a prefix (C17 6.4.4.4)
abbrev pub character_mark : Option ℕ → Context → Mark
character_mark number context = if precedes_operand context.last then character_by number else marks.Kept

-- the mark of a token of code that begins no prototype of the library
abbrev pub token_mark : Facts → Context → Class → List Class → Mark
token_mark facts context classes.Gap rest = marks.Kept
token_mark facts context classes.Join rest = marks.Kept
token_mark facts context classes.LineEnd rest = marks.Kept
token_mark facts context (classes.Sign sign) rest = sign_mark sign context rest
token_mark facts context (classes.Type word) rest = type_mark word context rest
token_mark facts context (classes.Storage word) rest = storage_mark word context rest
token_mark facts context (classes.Library name) rest = if facts.has_own then marks.Kept else library_mark name context rest
token_mark facts context (classes.Clause word) rest = marks.Kept
token_mark facts context (classes.Hash word) rest = marks.Kept
token_mark facts context (classes.Word word) rest = plain_word_mark word facts context rest
token_mark facts context (classes.Number form) rest = number_mark form
token_mark facts context (classes.Text format) rest = text_mark format
token_mark facts context (classes.Character number) rest = character_mark number context

-- the words with which a prototype may begin
abbrev pub may_begin_prototype : Class → Bool
may_begin_prototype (classes.Type word) = true
may_begin_prototype (classes.Storage word) = true
may_begin_prototype _ = false

-- a prototype of the library is left out at file scope, where the program has no such name itself
abbrev pub is_prototype_place : Facts → Context → Class → Bool
is_prototype_place facts context class =
    (may_begin_prototype class && begins_external context) && not facts.has_own

-- the mark of a token of code
abbrev pub code_mark : Facts → Context → Class → List Class → Mark
code_mark facts context class rest =
    if is_prototype_place facts context class
    then prototype_or (prototype_size rest) (prototype_rule facts context rest) (token_mark facts context class rest)
    else token_mark facts context class rest
