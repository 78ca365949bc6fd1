-- A statement that prints a text which it chooses: behind `printf`, up to its `;`.
use Rattle.std.specs.Prelude.{ℕ, Bool, true, false, ◌+◌, ◌-◌, ◌==◌, ◌||◌, ◌&&◌, not, if◌then◌else◌, nat_lt, codes, Option, None, Some, List, [], ◌∷◌}
use Rattle.std.specs.Str.{bytes_eq}
use Rattle.lab_port_tokens.specs.declared.piece.Piece.{Piece}
use Rattle.lab_port_words.specs.declared.class.Class.{Class}
use Rattle.lab_port_words.specs.declared.class.Class.TheVariants as classes
use Rattle.lab_port_words.specs.declared.class.Sign.TheVariants as signs
use Rattle.lab_port_words.specs.Classes.{is_gap, is_word}
use Rattle.lab_port_words.specs.Tables.{class_of}
use Rattle.lab_port_context.specs.Contexts.{deeper}
use Rattle.lab_port_context.specs.Ahead.{is_open, is_close, is_comma, is_semicolon}
use Rattle.lab_port_prints.specs.declared.statement.Part.{Part}
use Rattle.lab_port_prints.specs.declared.statement.Part.TheVariants as parts
use Rattle.lab_port_prints.specs.declared.statement.Link.{Link}
use Rattle.lab_port_prints.specs.declared.statement.Link.TheVariants as links
use Rattle.lab_port_prints.specs.declared.statement.Item.{Item}
use Rattle.lab_port_prints.specs.declared.statement.Item.TheVariants as items
use Rattle.lab_port_prints.specs.declared.statement.Statement.{Statement}
use Rattle.lab_port_prints.specs.declared.statement.Next.{Next}
use Rattle.lab_port_prints.specs.declared.statement.Next.TheVariants.{Fails, Ends, Goes}
use Rattle.lab_port_prints.specs.Formats.{has_number, is_odd}

abbrev pub is_text : Class → Bool
is_text (classes.Text _) = true
is_text _ = false

abbrev pub is_colon : Class → Bool
is_colon (classes.Sign signs.Colon) = true
is_colon _ = false

abbrev pub is_question : Piece → Bool
is_question piece = bytes_eq piece.text (codes "?")

-- C17 6.5.15: what a token is to a text that is chosen, where so many brackets are open
abbrev pub item_of : ℕ → Piece → Item
item_of depth piece =
    if is_text (class_of piece) then (if is_odd piece.text then items.Odd else items.Text)
    else if depth == 0 && is_question piece then items.Question
    else if depth == 0 && is_colon (class_of piece) then items.Colon
    else items.Other

abbrev pub link_behind_fresh : Item → Option Link
link_behind_fresh items.Text = Some links.Last
link_behind_fresh items.Other = Some links.Condition
link_behind_fresh _ = None

abbrev pub link_behind_condition : Item → Option Link
link_behind_condition items.Question = Some links.Question
link_behind_condition items.Other = Some links.Condition
link_behind_condition _ = None

abbrev pub link_behind_question : Item → Option Link
link_behind_question items.Text = Some links.Chosen
link_behind_question _ = None

abbrev pub link_behind_chosen : Item → Option Link
link_behind_chosen items.Colon = Some links.Fresh
link_behind_chosen _ = None

-- what stands behind a token of the argument that is a text; nothing where it is none
abbrev pub link_behind : Link → Item → Option Link
link_behind links.Fresh item = link_behind_fresh item
link_behind links.Condition item = link_behind_condition item
link_behind links.Question item = link_behind_question item
link_behind links.Chosen item = link_behind_chosen item
link_behind links.Last item = None

-- how many brackets are open behind a token
abbrev pub depth_behind : ℕ → Class → ℕ
depth_behind depth (classes.Sign signs.Open) = deeper depth
depth_behind depth (classes.Sign signs.OpenBracket) = deeper depth
depth_behind depth (classes.Sign signs.Close) = depth - 1
depth_behind depth (classes.Sign signs.CloseBracket) = depth - 1
depth_behind depth _ = depth

-- an assignment, a step, or behind a word the `(` of a call
abbrev pub is_effect : Bool → Class → Bool
is_effect word (classes.Sign signs.Changes) = true
is_effect word (classes.Sign signs.Steps) = true
is_effect word class = word && is_open class

-- what stands in no argument
abbrev pub is_foreign : Class → Bool
is_foreign (classes.Sign signs.OpenBrace) = true
is_foreign (classes.Sign signs.CloseBrace) = true
is_foreign (classes.Sign signs.Hash) = true
is_foreign class = is_semicolon class

abbrev pub choices_behind : ℕ → Class → ℕ
choices_behind choices class = if is_text class then deeper choices else choices

-- the statement behind a token of an argument that is no text
abbrev pub with_token : Statement → Class → Statement
with_token s class = record {
  part = s.part;
  number = s.number;
  depth = depth_behind s.depth class;
  link = s.link;
  choices = s.choices;
  word = is_word class;
  effects = s.effects || is_effect s.word class;
}

-- the same for the argument that is a text
abbrev pub with_item : Statement → Class → Link → Statement
with_item s class link = record {
  part = s.part;
  number = s.number;
  depth = depth_behind s.depth class;
  link = link;
  choices = choices_behind s.choices class;
  word = is_word class;
  effects = s.effects || is_effect s.word class;
}

abbrev pub at_part : Part → Statement → Statement
at_part part s = record {
  part = part;
  number = s.number;
  depth = s.depth;
  link = s.link;
  choices = s.choices;
  word = s.word;
  effects = s.effects;
}

-- behind the comma before another argument
abbrev pub next_argument : Statement → Statement
next_argument s = record {
  part = s.part;
  number = deeper s.number;
  depth = 0;
  link = s.link;
  choices = s.choices;
  word = false;
  effects = s.effects;
}

abbrev pub is_last : Link → Bool
is_last links.Last = true
is_last _ = false

-- the argument may end here: that with the wanted number, where it is a text
abbrev pub may_end : ℕ → Statement → Bool
may_end wanted s = not (s.number == wanted) || is_last s.link

-- C17 6.5.2.2p10: no order of the arguments is fixed, so one with an effect stands alone; and one to four texts are chosen from
abbrev pub may_close : ℕ → Statement → Bool
may_close wanted s =
    (may_end wanted s && (s.number == 0 || not s.effects)) && (nat_lt 0 s.choices && nat_lt s.choices 5)

abbrev pub goes_if : Bool → Statement → Next
goes_if goes s = if goes then Goes s else Fails

abbrev pub linked : Option Link → Statement → Class → Next
linked None s class = Fails
linked (Some link) s class = Goes (with_item s class link)

abbrev pub step_in_argument : ℕ → Statement → Piece → Next
step_in_argument wanted s piece =
    if is_foreign (class_of piece) then Fails
    else if s.number == wanted then linked (link_behind s.link (item_of s.depth piece)) s (class_of piece)
    else Goes (with_token s (class_of piece))

abbrev pub step_among_arguments : ℕ → Statement → Piece → Next
step_among_arguments wanted s piece =
    if s.depth == 0 && is_comma (class_of piece) then goes_if (may_end wanted s) (next_argument s)
    else if s.depth == 0 && is_close (class_of piece) then goes_if (may_close wanted s) (at_part parts.Closed s)
    else step_in_argument wanted s piece

abbrev pub is_format : Piece → Bool
is_format piece = is_text (class_of piece) && not (has_number piece.text)

-- what a token is behind these
abbrev pub step_by : Part → ℕ → Statement → Piece → Next
step_by parts.Name wanted s piece = goes_if (is_open (class_of piece)) (at_part parts.Open s)
step_by parts.Open wanted s piece = goes_if (is_format piece) (at_part parts.Format s)
step_by parts.Format wanted s piece = goes_if (is_comma (class_of piece)) (at_part parts.Arguments s)
step_by parts.Arguments wanted s piece = step_among_arguments wanted s piece
step_by parts.Closed wanted s piece = if is_semicolon (class_of piece) then Ends else Fails

-- what a piece is behind these, where the argument with the wanted number is a text
abbrev pub step : ℕ → Statement → Piece → Next
step wanted s piece = if is_gap (class_of piece) then Goes s else step_by s.part wanted s piece

-- behind `printf`
abbrev pub first_statement : Statement
first_statement = record {
  part = parts.Name;
  number = 0;
  depth = 0;
  link = links.Fresh;
  choices = 0;
  word = false;
  effects = false;
}

-- how many pieces there are up to the `;` of such a statement and with it, besides these
abbrev pub statement_end : ℕ → ℕ → Statement → List Piece → Option ℕ
statement_end passed wanted s [] = None
statement_end passed wanted s (piece ∷ rest) = elim (step wanted s piece) [
  | Fails ↦ None
  | Ends ↦ Some (passed + 1)
  | Goes next ↦ statement_end (passed + 1) wanted next rest
]

-- the statement behind a piece
abbrev pub statement_behind : ℕ → Statement → Piece → Statement
statement_behind wanted s piece = elim (step wanted s piece) [ Fails ↦ s | Ends ↦ s | Goes next ↦ next ]

abbrev pub statement_from : ℕ → Statement → List Piece → Statement
statement_from wanted s [] = s
statement_from wanted s (piece ∷ rest) = statement_from wanted (statement_behind wanted s piece) rest

-- from how many texts the statement chooses that has these pieces
abbrev pub choices_of : ℕ → List Piece → ℕ
choices_of wanted pieces = (statement_from wanted first_statement pieces).choices
