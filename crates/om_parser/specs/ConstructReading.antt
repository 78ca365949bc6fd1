-- For proofs: reading directives and their statements from the left.
use Rattle.std.specs.Prelude.{List, [], ◌∷◌, length, Option, Some, None, Ok, Err, Bool, true, false, ◌||◌, not, is_some}
use Rattle.std.specs.Prelude.{if◌then◌else◌}
use Rattle.om_lexer.specs.declared.fault.FaultCode.TheVariants as faults
use Rattle.om_lexer.specs.declared.fault.SourceFault.{SourceFault}
use Rattle.om_lexer.specs.declared.token.Punctuator.TheVariants as punctuators
use Rattle.om_lexer.specs.declared.token.Span.{Span}
use Rattle.om_lexer.specs.declared.token.Token.{Token}
use Rattle.om_lexer.specs.declared.token.TokenKind.{TokenKind}
use Rattle.om_lexer.specs.declared.token.TokenKind.TheVariants as kinds
use Rattle.om_pragma.specs.declared.tree.DirectiveKind.{DirectiveKind}
use Rattle.om_pragma.specs.declared.tree.Directive.{Directive}
use Rattle.om_pragma.specs.Kinds.{stands_alone, begins_part}
use Rattle.om_pragma.specs.Questions.{is_sections, is_atomic, word_span, atomic_kind}
use Rattle.om_pragma.specs.Words.{begun_by}
use Rattle.om_parser.specs.declared.construct.LineStart.{LineStart}
use Rattle.om_parser.specs.declared.construct.LineStart.TheVariants as lines
use Rattle.om_parser_tree.specs.AtomicForms.{has_atomic_form}
use Rattle.om_parser_parts.specs.PartReading.{LineReader}
use Rattle.om_parser_parts.specs.Reading.{◌>>=◌, choose, Outcome, Reader, syntax, take_mark}
use Rattle.om_parser.specs.OneOrMore.{one_or_more}
use Rattle.om_parser_tree.specs.Tree.{ExpressionTree, StatementTree, Construct, StandAlone, Sections, PartsTree, PartTree}
use Rattle.om_parser_tree.specs.Tree.{statements}

-- ---- which directive a line is, by its first word

abbrev pub start_of_kind : DirectiveKind → LineStart
start_of_kind kind = if stands_alone kind then lines.StandAlone else if begins_part kind then lines.Section else
    lines.Construct

-- what the word behind `omp` begins
abbrev pub start_of_line : TokenKind → LineStart
start_of_line kind = choose (begun_by kind) start_of_kind lines.Unknown

-- what the line begins of which the `#` is taken: its word stands behind `pragma` and `omp`
abbrev pub word_start : List Token → LineStart
word_start (pragma ∷ omp ∷ w ∷ ts) = start_of_line w.kind
word_start _ = lines.Unknown

-- what the line that stands first is, where one stands there
abbrev pub line_start : List Token → LineStart
line_start [] = lines.Nothing
line_start (t ∷ ts) = behind t.kind ts
  where
    behind : TokenKind → List Token → LineStart
    behind kinds.DirectiveBegin ts = word_start ts
    behind _ ts = lines.Nothing

-- the tokens of a line from its word on
abbrev pub from_word : List Token → List Token
from_word (hash ∷ pragma ∷ omp ∷ ts) = ts
from_word _ = []

-- ---- directives in blocks and in parts of `sections`

-- a line that may not stand here: no tree goes on with its word
unfoldable pub misplaced : {A : Type 0} → List Token → Outcome A
misplaced ts = Err (syntax (from_word ts))

-- a line whose word names no directive: it is refused in reading it
unfoldable pub unknown_line : LineReader → Reader StatementTree
unknown_line line ts = line ts >>= λ d. misplaced ts

-- a directive that stands alone
unfoldable pub stand_alone_at : LineReader → Reader StatementTree
stand_alone_at line ts = line ts >>= λ d. Ok (StandAlone d.0, d.1)

-- an item of this start where a directive may stand alone
unfoldable pub item_of : LineReader → Reader StatementTree → LineStart → Reader StatementTree
item_of line statement lines.StandAlone ts = stand_alone_at line ts
item_of line statement lines.Section ts = misplaced ts
item_of line statement lines.Unknown ts = unknown_line line ts
item_of line statement lines.Construct ts = statement ts
item_of line statement lines.Nothing ts = statement ts

-- a statement, or a directive that stands alone
unfoldable pub part_item_at : LineReader → Reader StatementTree → Reader StatementTree
part_item_at line statement ts = item_of line statement (line_start ts) ts

-- ---- parts of `sections`

abbrev pub is_section_line : LineStart → Bool
is_section_line lines.Section = true
is_section_line _ = false

-- whether a `section` stands first
abbrev pub at_section : List Token → Bool
at_section ts = is_section_line (line_start ts)

-- the items of a part end at a brace, or where another part begins
abbrev pub ends_part : List Token → Bool
ends_part ts = is_some (take_mark punctuators.CloseBrace ts) || at_section ts

-- the parts end where no other one begins
abbrev pub ends_parts : List Token → Bool
ends_parts ts = not (at_section ts)

-- a `section`, if the line that stands first is one
unfoldable pub section_of : LineReader → LineStart → Reader (Option (Directive ExpressionTree))
section_of line lines.Section ts = line ts >>= λ d. Ok (Some d.0, d.1)
section_of line _ ts = Ok (None, ts)

-- a `section`, if one stands first
abbrev pub section_at : LineReader → Reader (Option (Directive ExpressionTree))
section_at line ts = section_of line (line_start ts) ts

-- a part: its `section`, if it has one, and its items
unfoldable pub part_at : LineReader → Reader StatementTree → Reader PartTree
part_at line statement ts = do
  d ← section_at line ts
  x ← one_or_more ends_part (part_item_at line statement) (length d.1) d.1
  Ok (record { section = d.0; items = statements x.0 }, x.1)

-- ---- constructs

-- the fault of an `atomic` whose statement is none of its forms
abbrev pub bad_atomic : Directive ExpressionTree → SourceFault
bad_atomic d = record { code = faults.BadClause; at = (word_span d.name).start }

-- an `atomic` with its statement, which has one of the forms where that is asked
unfoldable pub atomic_of : (checked : Bool) → Directive ExpressionTree → StatementTree → Reader StatementTree
atomic_of checked d s ts = if not checked || has_atomic_form (atomic_kind d) s then Ok (Construct d s, ts) else Err
    (bad_atomic d)

-- an `atomic` behind its line; no other one in it is asked, so that the outermost is refused
unfoldable pub atomic_after : (checked : Bool) → (statement : Bool → Reader StatementTree)
    → Directive ExpressionTree → Reader StatementTree
atomic_after checked statement d ts = statement false ts >>= λ s. atomic_of checked d s.0 s.1

-- a construct with one statement behind its line
unfoldable pub constructed_after : Reader StatementTree → Directive ExpressionTree → Reader StatementTree
constructed_after statement d ts = statement ts >>= λ s. Ok (Construct d s.0, s.1)

-- what stands in the braces of `sections`: the left one, the parts, the right one
abbrev pub PartsReader : Type 0
PartsReader = Reader (Span × PartsTree × Span)

-- `sections` behind its line
unfoldable pub sections_after : PartsReader → Directive ExpressionTree → Reader StatementTree
sections_after parts d ts = parts ts >>= λ x. Ok (Sections d x.0.0 x.0.1 x.0.2, x.1)

-- a construct behind its line
unfoldable pub construct_after : (checked : Bool) → (statement : Bool → Reader StatementTree) → PartsReader
    → Directive ExpressionTree → Reader StatementTree
construct_after checked statement parts d ts =
    if is_sections d.name then sections_after parts d ts
    else if is_atomic d.name then atomic_after checked statement d ts
    else constructed_after (statement checked) d ts

-- a line that begins a construct
unfoldable pub construct_at : LineReader → (checked : Bool) → (statement : Bool → Reader StatementTree)
    → PartsReader → Reader StatementTree
construct_at line checked statement parts ts = line ts >>= λ d. construct_after checked statement parts d.0 d.1

-- a line of this start where a statement must stand
unfoldable pub line_of : LineReader → (checked : Bool) → (statement : Bool → Reader StatementTree) → PartsReader
    → LineStart → Reader StatementTree
line_of line checked statement parts lines.Construct ts = construct_at line checked statement parts ts
line_of line checked statement parts lines.Unknown ts = unknown_line line ts
line_of line checked statement parts _ ts = misplaced ts
