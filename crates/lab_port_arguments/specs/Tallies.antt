-- What a source does with what `main` is given (C17 5.1.2.2.1).
use Rattle.std.specs.Prelude.{ℕ, Bool, true, false, ◌+◌, ◌-◌, ◌==◌, ◌||◌, ◌&&◌, not, if◌then◌else◌, nat_lt, codes, List, [], ◌∷◌}
use Rattle.std.specs.Str.{bytes_eq}
use Rattle.lab_port_tokens.specs.declared.piece.Piece.{Piece}
use Rattle.lab_port_words.specs.declared.class.Class.{Class}
use Rattle.lab_port_words.specs.declared.class.Class.TheVariants as classes
use Rattle.lab_port_words.specs.declared.class.Word.TheVariants as words
use Rattle.lab_port_words.specs.Classes.{is_gap}
use Rattle.lab_port_words.specs.Tables.{class_of, classes_of}
use Rattle.lab_port_context.specs.declared.context.Context.{Context}
use Rattle.lab_port_context.specs.Contexts.{context_behind, at_first, deeper, is_code, is_main}
use Rattle.lab_port_context.specs.Ahead.{nth_text}
use Rattle.lab_port_context.specs.Facts.{facts_of}
use Rattle.lab_port_arguments.specs.declared.tally.Tally.{Tally}

abbrev pub is_nth : ℕ → List ℕ → List Piece → Bool
is_nth n text rest = bytes_eq (nth_text n rest) text

-- how many pieces there are up to the n-th token and with it, besides these
abbrev pub size_to : ℕ → ℕ → List Piece → ℕ
size_to n passed [] = passed
size_to n passed (piece ∷ rest) =
    if is_gap (class_of piece) then size_to n (passed + 1) rest
    else if n == 0 then passed + 1
    else size_to (n - 1) (passed + 1) rest

-- in the body of `main`
abbrev pub in_body : Context → Bool
in_body context = (context.in_main && nat_lt 0 context.braces) && is_code context.line

-- the number of arguments, there
abbrev pub is_count : Context → Piece → Bool
is_count context piece = in_body context && bytes_eq piece.text (codes "argc")

-- `(argv[1])`
abbrev pub is_argument : List Piece → Bool
is_argument rest =
    (is_nth 0 (codes "(") rest && is_nth 1 (codes "argv") rest)
    && (is_nth 2 (codes "[") rest && (is_nth 4 (codes "]") rest && is_nth 5 (codes ")") rest))

-- the number that an argument stands for (C17 7.22.1.2), there
abbrev pub is_value : Context → Piece → List Piece → Bool
is_value context piece rest = in_body context && (bytes_eq piece.text (codes "atoi") && is_argument rest)

abbrev pub is_given : Class → Bool
is_given (classes.Word words.Argument) = true
is_given _ = false

-- the program uses what `main` is given
abbrev pub is_use : Context → Class → Bool
is_use context class = is_given class && (nat_lt 0 context.braces || not (is_code context.line))

-- `main`, at file scope, before the parameters of its second form
abbrev pub is_head : Context → Piece → List Piece → Bool
is_head context piece rest =
    (context.braces == 0 && is_main (class_of piece))
    && (is_nth 0 (codes "(") rest && (is_nth 1 (codes "int") rest && is_nth 2 (codes "argc") rest))

-- one more, where this holds
abbrev pub more_if : Bool → ℕ → ℕ
more_if holds count = if holds then deeper count else count

abbrev pub tally_with : Tally → Context → Piece → List Piece → Tally
tally_with tally context piece rest = record {
  mains = more_if (is_main (class_of piece)) tally.mains;
  heads = more_if (is_head context piece rest) tally.heads;
  uses = more_if (is_use context (class_of piece)) tally.uses;
  places = more_if (is_count context piece || is_value context piece rest) tally.places;
}

abbrev pub tally_from : Tally → Context → List Piece → Tally
tally_from tally context [] = tally
tally_from tally context (piece ∷ rest) =
    tally_from (tally_with tally context piece rest) (context_behind context (class_of piece)) rest

abbrev pub nothing : Tally
nothing = record { mains = 0; heads = 0; uses = 0; places = 0 }

abbrev pub tally_of : List Piece → Tally
tally_of all = tally_from nothing at_first all

-- `main` is named once, has the parameters of its second form, and each use of them has a form
abbrev pub has_form : Tally → Bool
has_form tally = (tally.mains == 1 && tally.heads == 1) && tally.uses == tally.places

-- what `main` is given has a form, and the names of the library are those of the library
abbrev pub is_replaced : List Piece → Bool
is_replaced all = has_form (tally_of all) && not (facts_of (classes_of all)).has_own
