-- Constant expressions in the brackets behind the name of an array (C17 6.6): a number, or two with a sign between them, in
-- parentheses or not. A name is the number of its macro.
use Rattle.std.specs.Prelude.{ℕ, ◌+◌, Bool, true, false, ◌==◌, ◌&&◌, not, if◌then◌else◌, codes, length, Option, None, Some, List, [], ◌∷◌}
use Rattle.std.specs.Str.{bytes_eq}
use Rattle.lab_port_tokens.specs.declared.piece.Piece.{Piece}
use Rattle.lab_port_words.specs.Tables.{class_of}
use Rattle.lab_port_context.specs.declared.context.Context.{Context}
use Rattle.lab_port_context.specs.declared.context.Line.{Line}
use Rattle.lab_port_context.specs.declared.context.Line.TheVariants as lines
use Rattle.lab_port_context.specs.Contexts.{context_behind, at_first, is_code}
use Rattle.lab_port_context.specs.Ahead.{nth_text}
use Rattle.lab_port_names.specs.Macros.{definition_in}
use Rattle.lab_port_arrays.specs.declared.constant.Constant.{Constant}
use Rattle.lab_port_arrays.specs.declared.constant.Macro.{Macro}
use Rattle.lab_port_arrays.specs.Numbers.{number_of, combined_by}

abbrev pub is_fresh : Line → Bool
is_fresh lines.Fresh = true
is_fresh _ = false

-- a macro with this name is defined behind this `#`
abbrev pub defines : List ℕ → Context → Piece → List Piece → Bool
defines name context piece rest =
    (is_fresh context.line && bytes_eq piece.text (codes "#")) && bytes_eq (nth_text 0 (definition_in rest)) name

-- the number that a macro with this name and body stands for
abbrev pub body_number : List Piece → Option ℕ
body_number definition = if length (nth_text 2 definition) == 0 then number_of (nth_text 1 definition) else None

-- with a definition more: what is defined twice stands for no number
abbrev pub macro_with : Macro → List Piece → Macro
macro_with found definition = record {
  is_defined = true;
  number = if found.is_defined then None else body_number definition;
}

-- the name stands here in code, and is no macro yet
abbrev pub is_used_before : List ℕ → Macro → Context → Piece → Bool
is_used_before name found context piece =
    not found.is_defined && (is_code context.line && bytes_eq piece.text name)

-- what is used before it is defined stands for no number
abbrev pub unknown : Macro
unknown = record { is_defined = true; number = None }

abbrev pub macro_at : List ℕ → Macro → Context → Piece → List Piece → Macro
macro_at name found context piece rest =
    if defines name context piece rest then macro_with found (definition_in rest)
    else if is_used_before name found context piece then unknown
    else found

-- the macro with this name among the pieces that follow
abbrev pub macro_from : List ℕ → Macro → Context → List Piece → Macro
macro_from name found context [] = found
macro_from name found context (piece ∷ rest) =
    macro_from name (macro_at name found context piece rest) (context_behind context (class_of piece)) rest

abbrev pub no_macro : Macro
no_macro = record { is_defined = false; number = None }

-- the macro with this name in a source
abbrev pub macro_of : List ℕ → List Piece → Macro
macro_of name all = macro_from name no_macro at_first all

abbrev pub or_macro : Option ℕ → List ℕ → List Piece → Option ℕ
or_macro None text all = (macro_of text all).number
or_macro (Some number) text all = Some number

-- the number that a token of a source stands for
abbrev pub value_of : List ℕ → List Piece → Option ℕ
value_of text all = or_macro (number_of text) text all

abbrev pub constant_of : Option ℕ → ℕ → Option Constant
constant_of None tokens = None
constant_of (Some number) tokens = Some (record { number = number; tokens = tokens })

abbrev pub is_nth : ℕ → List ℕ → List Piece → Bool
is_nth n text rest = bytes_eq (nth_text n rest) text

-- two numbers with a sign between them, from the n-th token on
abbrev pub pair_at : ℕ → List Piece → List Piece → Option ℕ
pair_at n rest all =
    combined_by (nth_text (n + 1) rest) (value_of (nth_text n rest) all) (value_of (nth_text (n + 2) rest) all)

-- the constant in brackets with more than one token
abbrev pub constant_of_two : List Piece → List Piece → Option Constant
constant_of_two rest all =
    if is_nth 4 (codes "]") rest then constant_of (pair_at 1 rest all) 5
    else if (is_nth 1 (codes "(") rest && is_nth 5 (codes ")") rest) && is_nth 6 (codes "]") rest
    then constant_of (pair_at 2 rest all) 7
    else None

-- the constant in brackets that begin directly here, and how many tokens they have
abbrev pub constant_at : List Piece → List Piece → Option Constant
constant_at rest all =
    if not (is_nth 0 (codes "[") rest) then None
    else if is_nth 2 (codes "]") rest then constant_of (value_of (nth_text 1 rest) all) 3
    else if (is_nth 1 (codes "(") rest && is_nth 3 (codes ")") rest) && is_nth 4 (codes "]") rest
    then constant_of (value_of (nth_text 2 rest) all) 5
    else constant_of_two rest all
