-- What a source becomes: stage by stage, each on the text that the one before it made.
use Rattle.std.specs.Prelude.{◌≡◌, ℕ, List, [], ◌∷◌, ◌++◌, take}
use Rattle.lab_port_tokens.specs.declared.piece.Piece.{Piece}
use Rattle.lab_port_tokens.specs.Pieces.{pieces_of, bytes_of}
use Rattle.lab_port_words.specs.Tables.{classes_of}
use Rattle.lab_port_rules.specs.declared.mark.Mark.{Mark}
use Rattle.lab_port_rules.specs.declared.mark.Mark.TheVariants as marks
use Rattle.lab_port_rules.specs.declared.rule.Meaning.{Meaning}
use Rattle.lab_port_rules.specs.Marks.{marks_of}
use Rattle.lab_port_arguments.specs.Places.{argument_marks}
use Rattle.lab_port_calls.specs.Places.{call_marks, functions_of}
use Rattle.lab_port_conditions.specs.Places.{condition_marks}
use Rattle.lab_port_names.specs.Uses.{name_marks, names_of}
use Rattle.lab_port_arrays.specs.Places.{array_marks}
use Rattle.lab_port_lists.specs.Places.{list_marks, lists_of}
use Rattle.lab_port_sizes.specs.Places.{size_marks, sizes_of}
use Rattle.lab_port_prints.specs.Places.{print_marks}
use Rattle.lab_port.specs.declared.ported.Change.{Change}
use Rattle.lab_port.specs.declared.ported.Refusal.{Refusal}
use Rattle.lab_port.specs.declared.stage.Stage.{Stage}
use Rattle.lab_port.specs.declared.stage.Stage.TheVariants as stages
use Rattle.lab_port.specs.declared.ported.Step.{Step}
use Rattle.lab_port.specs.declared.ported.Ported.{Ported}
use Rattle.lab_port.specs.Texts.{flat_text}
use Rattle.lab_port.specs.Written.{with_changes, line_feeds, Stand}

-- the changes of a piece, before these pieces, where these names stand for texts
abbrev pub changes_at : List Meaning → Mark → Piece → List Piece → List Change
changes_at names (marks.Changed rule taken) piece rest = record {
  at = piece.at;
  rule = rule;
  old = bytes_of (piece ∷ take taken rest);
  new = flat_text names rule piece.text (take taken rest);
} ∷ []
changes_at names _ piece rest = []

abbrev pub changes_from : List Meaning → List Piece → List Mark → List Change
changes_from names [] some = []
changes_from names (piece ∷ rest) [] = []
changes_from names (piece ∷ rest) (mark ∷ more) = changes_at names mark piece rest ++ changes_from names rest more

-- a piece, if it has no form
abbrev pub refusals_at : Mark → Piece → List Refusal
refusals_at (marks.Lacking lack) piece = record { at = piece.at; lack = lack } ∷ []
refusals_at _ piece = []

abbrev pub refusals_from : List Piece → List Mark → List Refusal
refusals_from [] some = []
refusals_from (piece ∷ rest) [] = []
refusals_from (piece ∷ rest) (mark ∷ more) = refusals_at mark piece ++ refusals_from rest more

-- the marks of the pieces of a text in a stage
abbrev pub stage_marks : Stage → List Piece → List Mark
stage_marks stages.Conditions pieces = condition_marks pieces
stage_marks stages.Calls pieces = call_marks pieces
stage_marks stages.Names pieces = name_marks pieces
stage_marks stages.Arguments pieces = argument_marks pieces
stage_marks stages.Arrays pieces = array_marks pieces
stage_marks stages.Lists pieces = list_marks pieces
stage_marks stages.Sizes pieces = size_marks pieces
stage_marks stages.Texts pieces = print_marks pieces
stage_marks stages.Rules pieces = marks_of (classes_of pieces)

-- the names that stand for texts in a stage
abbrev pub stage_names : Stage → List Piece → List Meaning
stage_names stages.Conditions pieces = []
stage_names stages.Calls pieces = functions_of pieces
stage_names stages.Names pieces = names_of pieces
stage_names stages.Arguments pieces = []
stage_names stages.Arrays pieces = []
stage_names stages.Lists pieces = lists_of pieces
stage_names stages.Sizes pieces = sizes_of pieces
stage_names stages.Texts pieces = []
stage_names stages.Rules pieces = []

-- the changes of some pieces in a stage, in order
abbrev pub stage_changes : Stage → List Piece → List Change
stage_changes stage pieces = changes_from (stage_names stage pieces) pieces (stage_marks stage pieces)

-- the changes of a text in a stage, in order
abbrev pub changes_in : Stage → List ℕ → List Change
changes_in stage text = stage_changes stage (pieces_of text)

-- a text with its changes in a stage: all else is kept
abbrev pub after : Stage → List ℕ → List ℕ
after stage text = with_changes text 0 (changes_in stage text)

-- a source with its conditions decided, then its calls of macros and its names written out, behind that without arguments of `main`, behind that
-- with other lengths and indices of its arrays, behind that with stores for its lists, behind that with numbers of
-- elements, and behind that with a statement for each of the texts that one chooses from
abbrev pub named_text : List ℕ → List ℕ
named_text source = after stages.Arguments (after stages.Names (after stages.Calls (after stages.Conditions source)))

abbrev pub listed_text : List ℕ → List ℕ
listed_text source = after stages.Sizes (after stages.Lists (after stages.Arrays (named_text source)))

abbrev pub printed_text : List ℕ → List ℕ
printed_text source = after stages.Texts (after stages.Texts (listed_text source))

-- the text that a source becomes
abbrev pub ported_text : List ℕ → List ℕ
ported_text source = after stages.Rules (printed_text source)

-- the tokens of a text that have no form, in order
abbrev pub refusals_of : List ℕ → List Refusal
refusals_of text = refusals_from (pieces_of text) (stage_marks stages.Rules (pieces_of text))

-- A stage of the port makes these changes of a text: they stand in it one behind another, all else is kept byte for byte,
-- and each line feed stays.
pub record IsStep (stage : Stage) (text : List ℕ) (step : Step) : Type 0 where
  pub changes : step.changes.items ≡ changes_in stage text
  pub apart : Stand text 0 step.changes.items
  pub made : step.text.items ≡ with_changes text 0 step.changes.items
  pub lines : line_feeds step.text.items ≡ line_feeds text

-- What a source becomes by its stages, of which that of texts works twice, and the tokens without a form in the text before
-- the last one.
pub record Ports (source : List ℕ) (ported : Ported) : Type 0 where
  pub conditions : IsStep stages.Conditions source ported.conditions
  pub calls : IsStep stages.Calls ported.conditions.text.items ported.calls
  pub names : IsStep stages.Names ported.calls.text.items ported.names
  pub arguments : IsStep stages.Arguments ported.names.text.items ported.arguments
  pub arrays : IsStep stages.Arrays ported.arguments.text.items ported.arrays
  pub lists : IsStep stages.Lists ported.arrays.text.items ported.lists
  pub sizes : IsStep stages.Sizes ported.lists.text.items ported.sizes
  pub texts : IsStep stages.Texts ported.sizes.text.items ported.texts
  pub again : IsStep stages.Texts ported.texts.text.items ported.again
  pub rules : IsStep stages.Rules ported.again.text.items ported.rules
  pub refusals : ported.refusals.items ≡ refusals_of ported.again.text.items
