-- What a source defines in one place.
use Rattle.std.specs.Prelude.{ℕ, Bool, true, false, List, [], ◌∷◌, ◌++◌, ◌+◌, ◌==◌, ◌||◌, ◌&&◌, not, if◌then◌else◌, codes, take, Option, None, Some}
use Rattle.std.specs.Str.{bytes_eq}
use Rattle.lab_port_tokens.specs.declared.piece.Piece.{Piece}
use Rattle.lab_port_words.specs.Classes.{is_gap}
use Rattle.lab_port_words.specs.Tables.{class_of}
use Rattle.lab_port_context.specs.declared.context.Context.{Context}
use Rattle.lab_port_context.specs.Contexts.{is_code}
use Rattle.lab_port_context.specs.Ahead.{nth_text}
use Rattle.lab_port_rules.specs.declared.rule.Meaning.{Meaning}
use Rattle.lab_port_rules.specs.declared.rule.Rule.TheVariants as rules
use Rattle.lab_port_rules.specs.Libraries.{begins_statement}
use Rattle.lab_port_names.specs.declared.definition.Definition.{Definition}
use Rattle.lab_port_names.specs.declared.enumeration.Part.TheVariants as parts
use Rattle.lab_port_names.specs.declared.type_name.TypePart.TheVariants as types
use Rattle.lab_port_names.specs.Sights.{is_named}
use Rattle.lab_port_names.specs.Names.{is_known, meaning_of}
use Rattle.lab_port_names.specs.Macros.{macro_at}
use Rattle.lab_port_names.specs.Enumerations.{enumeration_end, constants_of}
use Rattle.lab_port_names.specs.Types.{type_end, type_text, last_name}

-- how many pieces there are up to the first token and with it, besides these
abbrev pub token_size : ℕ → List Piece → ℕ
token_size passed [] = passed
token_size passed (piece ∷ rest) = if is_gap (class_of piece) then token_size (passed + 1) rest else passed + 1

-- a token with these bytes is the n-th that follows
abbrev pub is_nth : ℕ → List ℕ → List Piece → Bool
is_nth n text rest = bytes_eq (nth_text n rest) text

-- an enumeration that is named and has no list here
abbrev pub is_type_use : List Piece → Bool
is_type_use rest = not (is_nth 0 (codes "{") rest || is_nth 1 (codes "{") rest)

abbrev pub type_use : List Piece → Definition
type_use rest = record { rule = rules.EnumerationType; size = token_size 0 rest; names = [] }

abbrev pub enumeration_by : Option ℕ → List Meaning → List Piece → Option Definition
enumeration_by None names rest = None
enumeration_by (Some size) names rest =
    Some (record { rule = rules.Enumeration; size = size; names = constants_of names (take size rest) })

-- behind the word `enum`
abbrev pub enumeration_at : List Meaning → Context → List Piece → Option Definition
enumeration_at names context rest =
    if is_type_use rest then Some (type_use rest)
    else if context.braces == 0 && begins_statement context
    then enumeration_by (enumeration_end false 0 parts.Enum rest) names rest
    else None

-- a name for a type that is written so
abbrev pub type_name : List ℕ → List Piece → Meaning
type_name text taken = record { name = last_name [] taken; text = text }

abbrev pub named_by : Option ℕ → List Meaning → List Piece → Option Definition
named_by None names rest = None
named_by (Some size) names rest = Some (record {
  rule = rules.EnumerationTypedef;
  size = size;
  names = constants_of names (take size rest) ++ (type_name (codes " int") (take size rest) ∷ []);
})

abbrev pub type_by : Option ℕ → List ℕ → List Piece → Option Definition
type_by None text rest = None
type_by (Some size) text rest =
    Some (record { rule = rules.Typedef; size = size; names = type_name text (take size rest) ∷ [] })

-- the pieces of a definition of this size; none where it is none
abbrev pub taken_by : Option ℕ → List Piece → List Piece
taken_by None rest = []
taken_by (Some size) rest = take size rest

abbrev pub plain_type : Option ℕ → List Piece → Option Definition
plain_type size rest = type_by size (type_text (taken_by size rest)) rest

-- behind the word `typedef`: an enumeration, a name that is known, or the words of a type
abbrev pub typedef_at : List Meaning → List Piece → Option Definition
typedef_at names rest =
    if is_nth 0 (codes "enum") rest then named_by (enumeration_end true 0 parts.Typedef rest) names rest
    else if is_known (nth_text 0 rest) names
    then type_by (type_end 0 types.Alias rest) (meaning_of (nth_text 0 rest) names) rest
    else plain_type (type_end 0 types.Typedef rest) rest

-- a `typedef` at file scope
abbrev pub begins_typedef : Context → Piece → Bool
begins_typedef context piece =
    is_named (codes "typedef") piece && (context.braces == 0 && begins_statement context)

-- what is defined here
abbrev pub definition_at : List Meaning → Context → Piece → List Piece → Option Definition
definition_at names context piece rest =
    if is_named (codes "enum") piece && is_code context.line then enumeration_at names context rest
    else if begins_typedef context piece && is_code context.line then typedef_at names rest
    else macro_at names context piece rest
