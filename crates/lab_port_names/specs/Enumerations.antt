-- The constants of an enumeration (C17 6.7.2.2).
use Rattle.std.specs.Prelude.{ℕ, Bool, true, false, List, [], ◌∷◌, ◌++◌, ◌+◌, ◌==◌, ◌||◌, ◌&&◌, not, if◌then◌else◌, codes, decimal, take, Option, None, Some}
use Rattle.std.specs.Str.{bytes_eq}
use Rattle.lab_port_tokens.specs.declared.piece.Piece.{Piece}
use Rattle.lab_port_words.specs.declared.class.Class.{Class}
use Rattle.lab_port_words.specs.declared.class.Class.TheVariants as classes
use Rattle.lab_port_words.specs.declared.class.Sign.{Sign}
use Rattle.lab_port_words.specs.declared.class.Sign.TheVariants as signs
use Rattle.lab_port_words.specs.Classes.{is_gap, is_word}
use Rattle.lab_port_words.specs.Tables.{class_of}
use Rattle.lab_port_context.specs.Contexts.{deeper}
use Rattle.lab_port_context.specs.Ahead.{is_comma, nth_text}
use Rattle.lab_port_rules.specs.declared.rule.Meaning.{Meaning}
use Rattle.lab_port_names.specs.declared.enumeration.Part.{Part}
use Rattle.lab_port_names.specs.declared.enumeration.Part.TheVariants as parts
use Rattle.lab_port_names.specs.declared.enumeration.Next.{Next}
use Rattle.lab_port_names.specs.declared.enumeration.Next.TheVariants.{Fails, Ends, Goes}
use Rattle.lab_port_names.specs.declared.constant.Constants.{Constants}
use Rattle.lab_port_names.specs.Names.{meaning_of}

abbrev pub word_or : Class → Part → Next → Next
word_or class next other = if is_word class then Goes next else other

abbrev pub next_at_brace : Class → Next
next_at_brace (classes.Sign signs.OpenBrace) = Goes parts.Brace
next_at_brace _ = Fails

abbrev pub next_in_list : Class → Next
next_in_list (classes.Sign signs.CloseBrace) = Goes parts.Closed
next_in_list _ = Fails

abbrev pub next_behind_value : Class → Next
next_behind_value (classes.Sign signs.Comma) = Goes parts.Brace
next_behind_value class = next_in_list class

abbrev pub next_behind_name : Class → Next
next_behind_name (classes.Sign signs.Changes) = Goes parts.Equal
next_behind_name class = next_behind_value class

-- the value of a constant is one token here, or a minus and a number
abbrev pub next_at_number : Class → Next
next_at_number (classes.Number form) = Goes parts.Value
next_at_number _ = Fails

abbrev pub next_at_value : Class → Next
next_at_value (classes.Sign signs.Minus) = Goes parts.Minus
next_at_value class = word_or class parts.Value (next_at_number class)

abbrev pub next_at_end : Class → Next
next_at_end (classes.Sign signs.Semicolon) = Ends
next_at_end _ = Fails

-- a `typedef` has a name behind its list
abbrev pub next_behind_list : Bool → Class → Next
next_behind_list named class = if named then word_or class parts.Named Fails else next_at_end class

-- what a token is behind these
abbrev pub next_by : Bool → Part → Class → Next
next_by named parts.Typedef class = word_or class parts.Enum Fails
next_by named parts.Enum class = word_or class parts.Tag (next_at_brace class)
next_by named parts.Tag class = next_at_brace class
next_by named parts.Brace class = word_or class parts.Name (next_in_list class)
next_by named parts.Name class = next_behind_name class
next_by named parts.Equal class = next_at_value class
next_by named parts.Minus class = next_at_number class
next_by named parts.Value class = next_behind_value class
next_by named parts.Closed class = next_behind_list named class
next_by named parts.Named class = next_at_end class

-- what a piece is behind these
abbrev pub next_at : Bool → Part → Class → Next
next_at named part class = if is_gap class then Goes part else next_by named part class

-- how many pieces there are up to the `;` of such a definition and with it, besides these
abbrev pub enumeration_end : Bool → ℕ → Part → List Piece → Option ℕ
enumeration_end named passed part [] = None
enumeration_end named passed part (piece ∷ rest) = elim (next_at named part (class_of piece)) [
  | Fails ↦ None
  | Ends ↦ Some (passed + 1)
  | Goes next ↦ enumeration_end named (passed + 1) next rest
]

-- the value that is given to the constant before these pieces; nothing where none is
abbrev pub given_value : List Meaning → List Piece → List ℕ
given_value names rest =
    if not (bytes_eq (nth_text 0 rest) (codes "=")) then []
    else if bytes_eq (nth_text 1 rest) (codes "-") then codes "(-" ++ nth_text 2 rest ++ codes ")"
    else meaning_of (nth_text 1 rest) names

-- C17 6.7.2.2p3: a constant is one more than the one before, and the first one is 0
abbrev pub value_text : List ℕ → ℕ → List ℕ
value_text [] offset = decimal offset
value_text (byte ∷ more) offset =
    if offset == 0 then byte ∷ more else codes "(" ++ (byte ∷ more) ++ codes " + " ++ decimal offset ++ codes ")"

-- a constant begins here
abbrev pub is_constant : Constants → Class → Bool
is_constant state class = state.is_fresh && is_word class

abbrev pub constant_in : Piece → List ℕ → ℕ → Meaning
constant_in piece base offset = record { name = piece.text; text = value_text base offset }

-- with one constant more, which is given this value, or is one more than the one before
abbrev pub with_constant : List ℕ → Constants → Piece → Constants
with_constant [] state piece = record {
  found = state.found ++ (constant_in piece state.base state.offset ∷ []);
  base = state.base;
  offset = deeper state.offset;
  is_fresh = false;
}
with_constant (byte ∷ more) state piece = record {
  found = state.found ++ (constant_in piece (byte ∷ more) 0 ∷ []);
  base = byte ∷ more;
  offset = 1;
  is_fresh = false;
}

-- behind a piece that begins no constant
abbrev pub past : Constants → Class → Constants
past state class = record {
  found = state.found;
  base = state.base;
  offset = state.offset;
  is_fresh = if is_gap class then state.is_fresh else is_comma class;
}

abbrev pub constants_with : List Meaning → Constants → Piece → List Piece → Constants
constants_with names state piece rest =
    if is_constant state (class_of piece) then with_constant (given_value names rest) state piece
    else past state (class_of piece)

abbrev pub constants_from : List Meaning → Constants → List Piece → Constants
constants_from names state [] = state
constants_from names state (piece ∷ rest) = constants_from names (constants_with names state piece rest) rest

abbrev pub no_constants : Constants
no_constants = record { found = []; base = []; offset = 0; is_fresh = true }

abbrev pub is_open_brace : Class → Bool
is_open_brace (classes.Sign signs.OpenBrace) = true
is_open_brace _ = false

-- the pieces behind the first `{`
abbrev pub behind_brace : List Piece → List Piece
behind_brace [] = []
behind_brace (piece ∷ rest) = if is_open_brace (class_of piece) then rest else behind_brace rest

-- the constants of an enumeration, where these names are known
abbrev pub constants_of : List Meaning → List Piece → List Meaning
constants_of names list = (constants_from names no_constants (behind_brace list)).found
