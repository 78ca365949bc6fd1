-- The list of values of an array (C17 6.7.9), behind its name.
use Rattle.std.specs.Prelude.{ℕ, ◌+◌, ◌-◌, ◌==◌, if◌then◌else◌, Option, None, Some, List, [], ◌∷◌}
use Rattle.lab_port_tokens.specs.declared.piece.Piece.{Piece}
use Rattle.lab_port_words.specs.declared.class.Class.{Class}
use Rattle.lab_port_words.specs.declared.class.Class.TheVariants as classes
use Rattle.lab_port_words.specs.declared.class.Sign.{Sign}
use Rattle.lab_port_words.specs.declared.class.Sign.TheVariants as signs
use Rattle.lab_port_words.specs.declared.class.Word.TheVariants as words
use Rattle.lab_port_words.specs.Tables.{class_of}
use Rattle.lab_port_context.specs.Contexts.{deeper}
use Rattle.lab_port_lists.specs.declared.shape.Part.{Part}
use Rattle.lab_port_lists.specs.declared.shape.Part.TheVariants as parts
use Rattle.lab_port_lists.specs.declared.shape.Next.{Next}
use Rattle.lab_port_lists.specs.declared.shape.Next.TheVariants.{Fails, Ends, Goes}

-- the length is left out, or one token
abbrev pub step_in_length : Class → Next
step_in_length (classes.Sign signs.CloseBracket) = Goes parts.Bracket
step_in_length (classes.Number form) = Goes parts.Length
step_in_length (classes.Word words.Other) = Goes parts.Length
step_in_length _ = Fails

abbrev pub step_behind_length : Class → Next
step_behind_length (classes.Sign signs.CloseBracket) = Goes parts.Bracket
step_behind_length _ = Fails

abbrev pub step_behind_name : Class → Next
step_behind_name (classes.Sign signs.OpenBracket) = Goes parts.Open
step_behind_name _ = Fails

abbrev pub step_behind_bracket : Class → Next
step_behind_bracket (classes.Sign signs.Changes) = Goes parts.Equal
step_behind_bracket _ = Fails

abbrev pub step_behind_equal : Class → Next
step_behind_equal (classes.Sign signs.OpenBrace) = Goes (parts.Values 0)
step_behind_equal _ = Fails

abbrev pub step_behind_list : Class → Next
step_behind_list (classes.Sign signs.Semicolon) = Ends
step_behind_list _ = Fails

-- one bracket fewer is open among the values
abbrev pub step_out : ℕ → Next
step_out depth = if depth == 0 then Fails else Goes (parts.Values (depth - 1))

abbrev pub step_to_end : ℕ → Next
step_to_end depth = if depth == 0 then Goes parts.List else Fails

-- a list in a list, an assignment and a designator are no values
abbrev pub step_at_sign : ℕ → Sign → Next
step_at_sign depth signs.Open = Goes (parts.Values (deeper depth))
step_at_sign depth signs.OpenBracket = Goes (parts.Values (deeper depth))
step_at_sign depth signs.Close = step_out depth
step_at_sign depth signs.CloseBracket = step_out depth
step_at_sign depth signs.CloseBrace = step_to_end depth
step_at_sign depth signs.OpenBrace = Fails
step_at_sign depth signs.Semicolon = Fails
step_at_sign depth signs.Changes = Fails
step_at_sign depth signs.Hash = Fails
step_at_sign depth sign = Goes (parts.Values depth)

abbrev pub step_in_values : ℕ → Class → Next
step_in_values depth (classes.Sign sign) = step_at_sign depth sign
step_in_values depth (classes.Text format) = Fails
step_in_values depth class = Goes (parts.Values depth)

-- what a token is behind these
abbrev pub step_by : Part → Class → Next
step_by parts.Name class = step_behind_name class
step_by parts.Open class = step_in_length class
step_by parts.Length class = step_behind_length class
step_by parts.Bracket class = step_behind_bracket class
step_by parts.Equal class = step_behind_equal class
step_by (parts.Values depth) class = step_in_values depth class
step_by parts.List class = step_behind_list class

-- what a piece is behind these
abbrev pub step : Part → Class → Next
step part classes.Gap = Goes part
step part classes.Join = Goes part
step part classes.LineEnd = Goes part
step part class = step_by part class

-- how many pieces there are up to the `;` of a declaration that ends with a list, besides these
abbrev pub list_end : ℕ → Part → List Piece → Option ℕ
list_end passed part [] = None
list_end passed part (piece ∷ rest) = elim (step part (class_of piece)) [
  | Fails ↦ None
  | Ends ↦ Some passed
  | Goes next ↦ list_end (passed + 1) next rest
]

-- how many pieces stand behind the name of an array and before the `;`, where its declaration has a list
abbrev pub list_size : List Piece → Option ℕ
list_size rest = list_end 0 parts.Name rest
