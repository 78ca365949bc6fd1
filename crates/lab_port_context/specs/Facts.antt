-- What the whole source has.
use Rattle.std.specs.Prelude.{Bool, true, false, ◌==◌, ◌||◌, ◌&&◌, not, nat_lt, is_none, List, [], ◌∷◌, take}
use Rattle.lab_port_words.specs.declared.class.Class.{Class}
use Rattle.lab_port_words.specs.declared.class.Class.TheVariants as classes
use Rattle.lab_port_words.specs.declared.class.Word.TheVariants as words
use Rattle.lab_port_words.specs.declared.class.Library.TheVariants as names
use Rattle.lab_port_context.specs.declared.ahead.Call.TheVariants as calls
use Rattle.lab_port_context.specs.declared.context.Line.{Line}
use Rattle.lab_port_context.specs.declared.context.Line.TheVariants as lines
use Rattle.lab_port_context.specs.declared.context.Context.{Context}
use Rattle.lab_port_context.specs.declared.facts.Facts.{Facts}
use Rattle.lab_port_context.specs.Contexts.{is_code, is_abort, context_behind, at_first}
use Rattle.lab_port_context.specs.Ahead.{is_library, is_open, is_star, nth_class, statement_size}

-- as many pieces as a rule looks at after its first one
abbrev pub in_sight : List Class → List Class
in_sight rest = take 1024 rest

-- a macro, or a condition of `cpp`
abbrev pub is_of_macros : Line → Bool
is_of_macros lines.Define = true
is_of_macros lines.Other = true
is_of_macros _ = false

abbrev pub is_type : Class → Bool
is_type (classes.Type word) = true
is_type _ = false

-- a name is declared after a word of a type, or after a star behind one
abbrev pub is_declared : Context → Bool
is_declared context = is_type context.last || (is_star context.last && is_type context.before)

-- at file scope, before a `(`: the head of a function, if no `;` follows
abbrev pub may_be_head : Context → List Class → Bool
may_be_head context rest = context.braces == 0 && is_open (nth_class 0 rest)

-- a name of the library that the program declares here, and by no prototype
abbrev pub is_own_declaration : Context → List Class → Bool
is_own_declaration context rest =
    (is_declared context || may_be_head context rest) && is_none (statement_size calls.Any rest)

-- a name of the library is one of the program's own here: a macro has it, or it is declared
abbrev pub is_own_name : Context → List Class → Bool
is_own_name context rest =
    is_of_macros context.line
    || (is_code context.line && is_own_declaration context rest)

-- a name that a rule brings in
abbrev pub is_brought_in : Class → Bool
is_brought_in (classes.Library names.BroughtIn) = true
is_brought_in _ = false

abbrev pub is_own_at : Context → Class → List Class → Bool
is_own_at context class rest = is_brought_in class || (is_library class && is_own_name context rest)

-- the program uses what `main` is given
abbrev pub uses_argument_at : Context → Class → Bool
uses_argument_at context (classes.Word words.Argument) = nat_lt 0 context.braces || not (is_code context.line)
uses_argument_at context _ = false

abbrev pub is_assert : Class → Bool
is_assert (classes.Library names.Assert) = true
is_assert _ = false

-- in the body of a function
abbrev pub is_in_body : Context → Bool
is_in_body context = nat_lt 0 context.braces && is_code context.line

-- a condition of `cpp`, or any other `#` line that is no include, define or pragma
abbrev pub is_condition : Line → Bool
is_condition lines.Other = true
is_condition _ = false

-- the facts with a further piece, before these
abbrev pub facts_with : Facts → Context → Class → List Class → Facts
facts_with facts context c rest = record {
  has_own = facts.has_own || is_own_at context c (in_sight rest);
  uses_arguments = facts.uses_arguments || uses_argument_at context c;
  uses_abort = facts.uses_abort || (is_abort c && is_in_body context);
  uses_assert = facts.uses_assert || (is_assert c && is_in_body context);
  has_conditions = facts.has_conditions || is_condition context.line;
}

abbrev pub facts_from : Facts → Context → List Class → Facts
facts_from facts context [] = facts
facts_from facts context (c ∷ rest) = facts_from (facts_with facts context c rest) (context_behind context c) rest

abbrev pub no_facts : Facts
no_facts = record {
  has_own = false;
  uses_arguments = false;
  uses_abort = false;
  uses_assert = false;
  has_conditions = false;
}

abbrev pub facts_of : List Class → Facts
facts_of all = facts_from no_facts at_first all
