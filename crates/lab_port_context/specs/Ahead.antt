-- What follows a piece.
use Rattle.std.specs.Prelude.{ℕ, Bool, true, false, suc, take, ◌+◌, ◌-◌, ◌==◌, ◌||◌, ◌&&◌, not, if◌then◌else◌, Option, None, Some, List, [], ◌∷◌, drop}
use Rattle.lab_port_words.specs.declared.class.Class.{Class}
use Rattle.lab_port_words.specs.declared.class.Class.TheVariants as classes
use Rattle.lab_port_words.specs.declared.class.Sign.{Sign}
use Rattle.lab_port_words.specs.declared.class.Sign.TheVariants as signs
use Rattle.lab_port_words.specs.declared.class.Word.TheVariants as words
use Rattle.lab_port_words.specs.declared.class.TypeWord.{TypeWord}
use Rattle.lab_port_words.specs.declared.class.TypeWord.TheVariants as types
use Rattle.lab_port_words.specs.Classes.{is_gap, is_word}
use Rattle.lab_port_words.specs.Tables.{class_of}
use Rattle.lab_port_tokens.specs.declared.piece.Piece.{Piece}
use Rattle.lab_port_context.specs.declared.ahead.Call.{Call}
use Rattle.lab_port_context.specs.declared.ahead.Call.TheVariants as calls
use Rattle.lab_port_context.specs.declared.ahead.Paren.{Paren}
use Rattle.lab_port_context.specs.declared.ahead.Paren.TheVariants.{Fails, Ends, Goes}
use Rattle.lab_port_context.specs.declared.ahead.Cast.{Cast}
use Rattle.lab_port_context.specs.declared.ahead.Cast.TheVariants as casts
use Rattle.lab_port_context.specs.declared.ahead.CastStep.{CastStep}
use Rattle.lab_port_context.specs.declared.ahead.CastStep.TheVariants.{Breaks, Finds, Takes}
use Rattle.lab_port_context.specs.declared.ahead.CastEnd.{CastEnd}
use Rattle.lab_port_context.specs.Contexts.{deeper, is_floating_type}

-- white space or a comment with a line feed in it, or a line feed
abbrev pub ends_line : Class → Bool
ends_line classes.Join = true
ends_line classes.LineEnd = true
ends_line _ = false

-- how many pieces stand before the next line feed
abbrev pub line_size : List Class → ℕ
line_size [] = 0
line_size (c ∷ rest) = if ends_line c then 0 else suc (line_size rest)

-- the pieces before the next line feed
abbrev pub of_line : List Class → List Class
of_line rest = take (line_size rest) rest

-- the n-th token that follows, the next one for 0; `LineEnd` where there is none
abbrev pub nth_class : ℕ → List Class → Class
nth_class n [] = classes.LineEnd
nth_class n (c ∷ rest) =
    if is_gap c then nth_class n rest else if n == 0 then c else nth_class (n - 1) rest

-- the bytes of the n-th token that follows, the next one for 0; none where there is none
abbrev pub nth_text : ℕ → List Piece → List ℕ
nth_text n [] = []
nth_text n (piece ∷ rest) =
    if is_gap (class_of piece) then nth_text n rest else if n == 0 then piece.text else nth_text (n - 1) rest

-- how many pieces there are up to the n-th token and with it, besides these
abbrev pub size_to : ℕ → ℕ → List Class → ℕ
size_to n passed [] = passed
size_to n passed (c ∷ rest) =
    if is_gap c then size_to n (passed + 1) rest
    else if n == 0 then passed + 1
    else size_to (n - 1) (passed + 1) rest

abbrev pub is_open : Class → Bool
is_open (classes.Sign signs.Open) = true
is_open _ = false

abbrev pub is_close : Class → Bool
is_close (classes.Sign signs.Close) = true
is_close _ = false

abbrev pub is_semicolon : Class → Bool
is_semicolon (classes.Sign signs.Semicolon) = true
is_semicolon _ = false

abbrev pub is_comma : Class → Bool
is_comma (classes.Sign signs.Comma) = true
is_comma _ = false

abbrev pub is_star : Class → Bool
is_star (classes.Sign signs.Star) = true
is_star _ = false

abbrev pub is_any : Call → Bool
is_any calls.Any = true
is_any _ = false

-- where so many parentheses are open, this one more is
abbrev pub paren_opens : Call → ℕ → Paren
paren_opens call depth = if depth == 0 || is_any call then Goes (deeper depth) else Fails

abbrev pub paren_closes : ℕ → Paren
paren_closes depth = if depth == 0 then Fails else if depth == 1 then Ends else Goes (depth - 1)

-- a token that changes a value stands in no pure argument
abbrev pub paren_changes : Call → ℕ → Paren
paren_changes call depth = if depth == 0 || not (is_any call) then Fails else Goes depth

abbrev pub paren_passes : ℕ → Paren
paren_passes depth = if depth == 0 then Fails else Goes depth

abbrev pub paren_at_sign : Call → ℕ → Sign → Paren
paren_at_sign call depth signs.Open = paren_opens call depth
paren_at_sign call depth signs.Close = paren_closes depth
paren_at_sign call depth signs.Changes = paren_changes call depth
paren_at_sign call depth signs.Steps = paren_changes call depth
paren_at_sign call depth signs.Semicolon = Fails
paren_at_sign call depth signs.OpenBrace = Fails
paren_at_sign call depth signs.CloseBrace = Fails
paren_at_sign call depth signs.Hash = Fails
paren_at_sign call depth _ = paren_passes depth

-- what a piece is to a list in parentheses, of which so many are open
abbrev pub paren_step : Call → ℕ → Class → Paren
paren_step call depth classes.Gap = Goes depth
paren_step call depth classes.Join = Goes depth
paren_step call depth classes.LineEnd = Goes depth
paren_step call depth (classes.Sign sign) = paren_at_sign call depth sign
paren_step call depth _ = paren_passes depth

-- how many pieces there are up to the `)` that closes the list in parentheses, and with it, besides these
abbrev pub closes : Call → ℕ → ℕ → List Class → Option ℕ
closes call passed depth [] = None
closes call passed depth (c ∷ rest) = elim (paren_step call depth c) [
  | Fails ↦ None
  | Ends ↦ Some (passed + 1)
  | Goes more ↦ closes call (passed + 1) more rest
]

-- how many pieces the list in parentheses has that follows
abbrev pub call_size : Call → List Class → Option ℕ
call_size call rest = closes call 0 0 rest

-- a `;` follows after so many pieces
abbrev pub semicolon_behind : ℕ → List Class → Bool
semicolon_behind size rest = is_semicolon (nth_class 0 (drop size rest))

abbrev pub if_semicolon_behind : Option ℕ → List Class → Option ℕ
if_semicolon_behind None rest = None
if_semicolon_behind (Some size) rest = if semicolon_behind size rest then Some size else None

-- the size of the list in parentheses that follows, where a `;` stands after it
abbrev pub statement_size : Call → List Class → Option ℕ
statement_size call rest = if_semicolon_behind (call_size call rest) rest

-- the first token that follows the words here, or a word of a floating type among them
abbrev pub run_end : List Class → Class
run_end [] = classes.LineEnd
run_end (c ∷ rest) = if not (is_floating_type c) && (is_gap c || is_word c) then run_end rest else c

abbrev pub is_library : Class → Bool
is_library (classes.Library name) = true
is_library _ = false

-- what may stand before the name in a prototype
abbrev pub may_precede : Class → Bool
may_precede (classes.Type word) = true
may_precede (classes.Storage word) = true
may_precede (classes.Word words.Other) = true
may_precede (classes.Sign signs.Star) = true
may_precede c = is_gap c

-- how many pieces there are up to a name of the library and with it, besides these
abbrev pub name_size : ℕ → List Class → Option ℕ
name_size passed [] = None
name_size passed (c ∷ rest) =
    if is_library c then Some (passed + 1) else if may_precede c then name_size (passed + 1) rest else None

-- the first name of the library that follows
abbrev pub name_ahead : List Class → Class
name_ahead [] = classes.LineEnd
name_ahead (c ∷ rest) = if is_library c then c else name_ahead rest

-- up to the `;` after a list in parentheses that begins after so many pieces
abbrev pub end_behind : ℕ → Option ℕ → List Class → Option ℕ
end_behind size None rest = None
end_behind size (Some more) rest = Some ((size + more) + size_to 0 0 (drop (size + more) rest))

abbrev pub prototype_behind : Option ℕ → List Class → Option ℕ
prototype_behind None rest = None
prototype_behind (Some size) rest = end_behind size (statement_size calls.Any (drop size rest)) rest

-- how many pieces follow up to the `;` of a prototype of a function of the library, and with it
abbrev pub prototype_size : List Class → Option ℕ
prototype_size rest = prototype_behind (name_size 0 rest) rest

abbrev pub cast_wider : Cast → Cast
cast_wider casts.Narrow = casts.Narrow
cast_wider _ = casts.Wide

abbrev pub cast_same : Cast → Cast
cast_same casts.Empty = casts.Same
cast_same cast = cast

-- the cast with a further word of its type
abbrev pub cast_with : Cast → TypeWord → Cast
cast_with cast types.Char = casts.Narrow
cast_with cast types.Short = casts.Narrow
cast_with cast types.Unsigned = casts.Narrow
cast_with cast types.Truth = casts.Narrow
cast_with cast types.Long = cast_wider cast
cast_with cast _ = cast_same cast

-- a word of a type is a part of a cast, if it is of no floating type
abbrev pub cast_word : Cast → TypeWord → CastStep
cast_word cast types.Floating = Breaks
cast_word cast word = Takes (cast_with cast word)

-- a cast has a word at least
abbrev pub cast_close : Cast → CastStep
cast_close casts.Empty = Breaks
cast_close _ = Finds

-- what a piece is to a cast that is this so far
abbrev pub cast_step : Cast → Class → CastStep
cast_step cast classes.Gap = Takes cast
cast_step cast classes.Join = Takes cast
cast_step cast classes.LineEnd = Takes cast
cast_step cast (classes.Storage word) = Takes cast
cast_step cast (classes.Type word) = cast_word cast word
cast_step cast (classes.Sign signs.Close) = cast_close cast
cast_step cast _ = Breaks

-- a cast whose `(` stands before: its size up to its `)`, besides these, and what it may change
abbrev pub cast_end : ℕ → Cast → List Class → Option CastEnd
cast_end passed cast [] = None
cast_end passed cast (c ∷ rest) = elim (cast_step cast c) [
  | Breaks ↦ None
  | Finds ↦ Some (record { size = passed + 1; cast = cast })
  | Takes next ↦ cast_end (passed + 1) next rest
]

-- the end of a cast whose `(` stands before
abbrev pub cast_ahead : List Class → Option CastEnd
cast_ahead rest = cast_end 0 casts.Empty rest
