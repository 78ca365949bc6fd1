-- Each piece has a mark.
use Rattle.std.proofs.Common.{◌≡◌, Bool, suc, List, [], ◌∷◌, length, refl, ap, ◌∙◌}
use Rattle.std.proofs.lemmas.List.{length-map}
use Rattle.lab_port_tokens.specs.declared.piece.Piece.{Piece}
use Rattle.lab_port_words.specs.declared.class.Class.{Class}
use Rattle.lab_port_words.specs.Tables.{class_of, classes_of}
use Rattle.lab_port_context.specs.declared.facts.Facts.{Facts}
use Rattle.lab_port_context.specs.Facts.{facts_of}
use Rattle.lab_port_rules.specs.declared.mark.Place.{Place}
use Rattle.lab_port_rules.specs.declared.rule.Meaning.{Meaning}
use Rattle.lab_port_rules.specs.Marks.{first_place, mark_here, place_behind, marks_from}
use Rattle.lab_port_conditions.specs.declared.place.Spot.{Spot as ConditionSpot}
use Rattle.lab_port_conditions.specs.Places.{is_decided, macros_behind, first_spot as first_condition, mark_here as condition_here, spot_behind as condition_behind, marks_from as conditions_from}
use Rattle.lab_port_calls.specs.declared.place.Spot.{Spot as CallSpot}
use Rattle.lab_port_calls.specs.Places.{names_here as functions_here, first_spot as first_call, mark_here as call_here, spot_behind as call_behind, marks_from as called_from}
use Rattle.lab_port_names.specs.declared.uses.Spot.{Spot as NameSpot}
use Rattle.lab_port_names.specs.Uses.{names_here, is_sure, first_spot as first_name, mark_here as name_here, spot_behind as name_behind, marks_from as named_from}
use Rattle.lab_port_lists.specs.declared.place.Spot.{Spot as ListSpot}
use Rattle.lab_port_lists.specs.Places.{names_with, first_spot as first_list, mark_here as list_here, spot_behind as list_behind, marks_from as listed_from}
use Rattle.lab_port_arguments.specs.declared.place.Spot.{Spot as ArgumentSpot}
use Rattle.lab_port_arguments.specs.Tallies.{is_replaced}
use Rattle.lab_port_arguments.specs.Places.{first_spot as first_argument, mark_here as argument_here, spot_behind as argument_behind, marks_from as arguments_from}
use Rattle.lab_port_arrays.specs.declared.place.Spot.{Spot as ArraySpot}
use Rattle.lab_port_arrays.specs.Places.{first_spot as first_array, mark_here as array_here, spot_behind as array_behind, marks_from as arrays_from}
use Rattle.lab_port_sizes.specs.declared.place.Spot.{Spot as SizeSpot}
use Rattle.lab_port_sizes.specs.Places.{first_spot as first_size, mark_here as size_here, spot_behind as size_behind, marks_from as sizes_from}
use Rattle.lab_port_prints.specs.declared.place.Spot.{Spot as PrintSpot}
use Rattle.lab_port_prints.specs.Places.{first_spot as first_print, mark_here as print_here, spot_behind as print_behind, marks_from as printed_from}
use Rattle.lab_port.specs.declared.stage.Stage.{Stage}
use Rattle.lab_port.specs.declared.stage.Stage.TheVariants as stages
use Rattle.lab_port.specs.Portings.{stage_marks}

marks_length : (facts : Facts) (place : Place) (all : List Class) → length (marks_from facts place all) ≡ length all
marks_length facts place [] = refl
marks_length facts place (c ∷ rest) =
    ap suc (marks_length facts (place_behind place (mark_here facts place c rest) c) rest)

conditions_length : (decided : Bool) (names : List Meaning) (spot : ConditionSpot) (pieces : List Piece)
    → length (conditions_from decided names spot pieces) ≡ length pieces
conditions_length decided names spot [] = refl
conditions_length decided names spot (piece ∷ rest) =
    ap suc (
    conditions_length decided (macros_behind names spot piece rest)
    (condition_behind names spot (condition_here decided names spot piece rest) piece rest) rest
    )

calls_length : (all : List Piece) (names : List Meaning) (spot : CallSpot) (pieces : List Piece)
    → length (called_from all names spot pieces) ≡ length pieces
calls_length all names spot [] = refl
calls_length all names spot (piece ∷ rest) =
    ap suc (
    calls_length all (functions_here names spot piece rest all)
    (call_behind spot (call_here names spot piece rest all) piece rest) rest
    )

names_length : (names : List Meaning) (spot : NameSpot) (pieces : List Piece)
    → length (named_from names spot pieces) ≡ length pieces
names_length names spot [] = refl
names_length names spot (piece ∷ rest) =
    ap suc (names_length (names_here names spot piece rest) (name_behind spot (name_here names spot piece rest) piece) rest)

lists_length : (names : List Meaning) (spot : ListSpot) (pieces : List Piece)
    → length (listed_from names spot pieces) ≡ length pieces
lists_length names spot [] = refl
lists_length names spot (piece ∷ rest) =
    ap suc (
    lists_length (names_with names (list_here names spot piece rest) piece rest)
    (list_behind spot (list_here names spot piece rest) piece) rest
    )

arguments_length : (replaced : Bool) (spot : ArgumentSpot) (pieces : List Piece)
    → length (arguments_from replaced spot pieces) ≡ length pieces
arguments_length replaced spot [] = refl
arguments_length replaced spot (piece ∷ rest) =
    ap suc (arguments_length replaced (argument_behind spot (argument_here replaced spot piece rest) piece) rest)

arrays_length : (all : List Piece) (spot : ArraySpot) (pieces : List Piece)
    → length (arrays_from all spot pieces) ≡ length pieces
arrays_length all spot [] = refl
arrays_length all spot (piece ∷ rest) =
    ap suc (arrays_length all (array_behind spot (array_here spot piece rest all) piece) rest)

sizes_length : (all : List Piece) (spot : SizeSpot) (pieces : List Piece)
    → length (sizes_from all spot pieces) ≡ length pieces
sizes_length all spot [] = refl
sizes_length all spot (piece ∷ rest) =
    ap suc (sizes_length all (size_behind spot (size_here spot piece rest all) piece) rest)

prints_length : (spot : PrintSpot) (pieces : List Piece) → length (printed_from spot pieces) ≡ length pieces
prints_length spot [] = refl
prints_length spot (piece ∷ rest) =
    ap suc (prints_length (print_behind spot (print_here spot piece rest) piece) rest)

pub stage_fit : (stage : Stage) (pieces : List Piece) → length (stage_marks stage pieces) ≡ length pieces
stage_fit stages.Conditions pieces = conditions_length (is_decided pieces) [] first_condition pieces
stage_fit stages.Calls pieces = calls_length pieces [] (first_call pieces) pieces
stage_fit stages.Names pieces = names_length [] (first_name (is_sure pieces)) pieces
stage_fit stages.Arguments pieces = arguments_length (is_replaced pieces) first_argument pieces
stage_fit stages.Arrays pieces = arrays_length pieces (first_array pieces) pieces
stage_fit stages.Lists pieces = lists_length [] (first_list pieces) pieces
stage_fit stages.Sizes pieces = sizes_length pieces (first_size pieces) pieces
stage_fit stages.Texts pieces = prints_length first_print pieces
stage_fit stages.Rules pieces =
    marks_length (facts_of (classes_of pieces)) first_place (classes_of pieces) ∙ length-map pieces class_of
