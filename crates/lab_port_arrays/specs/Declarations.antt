-- Where a declaration names what it declares (C17 6.7).
use Rattle.std.specs.Prelude.{ℕ, Bool, true, false, ◌-◌, ◌==◌, ◌||◌, ◌&&◌, not, if◌then◌else◌}
use Rattle.lab_port_words.specs.declared.class.Class.{Class}
use Rattle.lab_port_words.specs.declared.class.Class.TheVariants as classes
use Rattle.lab_port_words.specs.declared.class.Sign.TheVariants as signs
use Rattle.lab_port_words.specs.declared.class.Word.TheVariants as words
use Rattle.lab_port_words.specs.Classes.{is_gap}
use Rattle.lab_port_context.specs.declared.context.Context.{Context}
use Rattle.lab_port_context.specs.Contexts.{deeper, is_code}
use Rattle.lab_port_context.specs.Ahead.{is_comma, is_semicolon}
use Rattle.lab_port_rules.specs.Libraries.{begins_statement}
use Rattle.lab_port_arrays.specs.declared.declared.Declared.{Declared}

abbrev pub is_name : Class → Bool
is_name (classes.Word words.Other) = true
is_name _ = false

-- the words with which a declaration begins
abbrev pub is_specifier : Class → Bool
is_specifier (classes.Type word) = true
is_specifier (classes.Storage word) = true
is_specifier _ = false

abbrev pub is_equal : Class → Bool
is_equal (classes.Sign signs.Changes) = true
is_equal _ = false

abbrev pub is_open_brace : Class → Bool
is_open_brace (classes.Sign signs.OpenBrace) = true
is_open_brace _ = false

-- how many brackets of any kind are open behind a token
abbrev pub nested_behind : ℕ → Class → ℕ
nested_behind depth (classes.Sign signs.Open) = deeper depth
nested_behind depth (classes.Sign signs.OpenBracket) = deeper depth
nested_behind depth (classes.Sign signs.OpenBrace) = deeper depth
nested_behind depth (classes.Sign signs.Close) = depth - 1
nested_behind depth (classes.Sign signs.CloseBracket) = depth - 1
nested_behind depth (classes.Sign signs.CloseBrace) = depth - 1
nested_behind depth _ = depth

abbrev pub outside : Declared
outside = record { declares = false; gives = false; depth = 0 }

-- among the names of a declaration
abbrev pub among_names : Declared
among_names = record { declares = true; gives = false; depth = 0 }

-- in the value that is given to a name, where so many brackets are open
abbrev pub in_value : ℕ → Declared
in_value depth = record { declares = true; gives = true; depth = depth }

abbrev pub behind_value : Declared → Class → Declared
behind_value declared class =
    if declared.depth == 0 && is_comma class then among_names else in_value (nested_behind declared.depth class)

abbrev pub behind_name : Declared → Class → Declared
behind_name declared class =
    if is_equal class then in_value 0 else if is_open_brace class then outside else declared

-- behind a token of code
abbrev pub behind_token : Declared → Context → Class → Declared
behind_token declared context class =
    if is_semicolon class then outside
    else if declared.gives then behind_value declared class
    else if begins_statement context && is_specifier class then among_names
    else if declared.declares then behind_name declared class
    else declared

-- behind a piece, before which this stands
abbrev pub declared_behind : Declared → Context → Class → Declared
declared_behind declared context class =
    if is_gap class || not (is_code context.line) then declared else behind_token declared context class

-- a declaration names here what it declares
abbrev pub is_declarator : Declared → Context → Class → Bool
is_declarator declared context class =
    (declared.declares && not declared.gives) && (context.parens == 0 && is_name class)
