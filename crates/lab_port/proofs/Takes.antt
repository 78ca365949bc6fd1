-- Behind a rule that takes pieces, so many marks say that they are taken.
use Rattle.std.proofs.Common.{◌≡◌, ℕ, Bool, zero, suc, ◌==◌, ◌-◌, if◌then◌else◌, false, List, [], ◌∷◌, refl, ap, ◌∙◌, arith}
use Rattle.std.proofs.lemmas.Bool.{ne_eqb}
use Rattle.lab_port_words.specs.declared.class.Class.{Class}
use Rattle.lab_port_context.specs.declared.facts.Facts.{Facts}
use Rattle.lab_port_context.specs.Facts.{facts_of}
use Rattle.lab_port_rules.specs.declared.mark.Mark.{Mark}
use Rattle.lab_port_rules.specs.declared.mark.Mark.TheVariants as marks
use Rattle.lab_port_rules.specs.declared.mark.Place.{Place}
use Rattle.lab_port_rules.specs.declared.rule.Meaning.{Meaning}
use Rattle.lab_port_rules.specs.Marks.{first_place, mark_at, mark_here, taken_by, taken_after, place_behind, marks_from}
use Rattle.lab_port_tokens.specs.declared.piece.Piece.{Piece}
use Rattle.lab_port_words.specs.Tables.{classes_of}
use Rattle.lab_port_conditions.specs.declared.place.Spot.{Spot as ConditionSpot}
use Rattle.lab_port_conditions.specs.Places.{is_decided, line_mark, macros_behind, first_spot as first_condition, mark_here as condition_here, spot_behind as condition_behind, marks_from as conditions_from}
use Rattle.lab_port_calls.specs.declared.place.Spot.{Spot as CallSpot}
use Rattle.lab_port_calls.specs.Places.{names_here as functions_here, found_at as function_at, first_spot as first_call, mark_here as call_here, mark_by as call_by, spot_behind as call_behind, marks_from as called_from}
use Rattle.lab_port_names.specs.declared.uses.Spot.{Spot as NameSpot}
use Rattle.lab_port_names.specs.Uses.{names_here, found_at, is_sure, first_spot as first_name, mark_here as name_here, mark_by as name_by, spot_behind as name_behind, marks_from as named_from}
use Rattle.lab_port_lists.specs.declared.place.Spot.{Spot as ListSpot}
use Rattle.lab_port_lists.specs.Places.{names_with, given_size, first_spot as first_list, mark_here as list_here, mark_by as list_by, spot_behind as list_behind, marks_from as listed_from}
use Rattle.lab_port_arguments.specs.declared.place.Spot.{Spot as ArgumentSpot}
use Rattle.lab_port_arguments.specs.Tallies.{is_replaced}
use Rattle.lab_port_arguments.specs.Places.{place_mark as argument_mark, first_spot as first_argument, mark_here as argument_here, spot_behind as argument_behind, marks_from as arguments_from}
use Rattle.lab_port_arrays.specs.declared.place.Spot.{Spot as ArraySpot}
use Rattle.lab_port_arrays.specs.Places.{first_spot as first_array, mark_here as array_here, mark_at as array_at, spot_behind as array_behind, marks_from as arrays_from}
use Rattle.lab_port_sizes.specs.declared.place.Spot.{Spot as SizeSpot}
use Rattle.lab_port_sizes.specs.Places.{first_spot as first_size, mark_here as size_here, mark_at as size_at, spot_behind as size_behind, marks_from as sizes_from}
use Rattle.lab_port_prints.specs.declared.place.Spot.{Spot as PrintSpot}
use Rattle.lab_port_prints.specs.Places.{first_spot as first_print, mark_here as print_here, mark_at as print_at, spot_behind as print_behind, marks_from as printed_from}
use Rattle.lab_port.specs.declared.stage.Stage.{Stage}
use Rattle.lab_port.specs.declared.stage.Stage.TheVariants as stages
use Rattle.lab_port.specs.Portings.{stage_marks}

-- so many of these marks are taken by a rule before them
abbrev pub Fit : ℕ → List Mark → Type 0
Fit taken [] = Unit
Fit zero (mark ∷ more) = Fit (taken_by mark) more
Fit (suc taken) (mark ∷ more) = (mark ≡ marks.Taken) × Fit taken more

not_first : (taken : ℕ) → (suc taken == 0) ≡ false
not_first taken = ne_eqb (suc taken) 0 (λ same. omega (arith, same))

pub marks_take : (facts : Facts) (place : Place) (all : List Class) (taken : ℕ)
    → place.taken ≡ taken
    → Fit taken (marks_from facts place all)
marks_take facts place [] zero same = tt
marks_take facts place [] (suc taken) same = tt
marks_take facts place (c ∷ rest) zero same =
    let mark = mark_here facts place c rest in
    marks_take facts (place_behind place mark c) rest (taken_by mark) (ap (λ k. taken_after k mark) same)
marks_take facts place (c ∷ rest) (suc taken) same =
    let mark = mark_here facts place c rest in
    let later = not_first taken in
    let left : suc taken - 1 ≡ taken = omega arith in (
      ap (λ k. if k == 0 then mark_at facts place.context c rest else marks.Taken) same
          ∙ ap (λ t. if t then mark_at facts place.context c rest else marks.Taken) later,
      marks_take facts (place_behind place mark c) rest taken
          (ap (λ k. taken_after k mark) same ∙ ap (λ t. if t then taken_by mark else suc taken - 1) later ∙ left),
    )

conditions_take : (decided : Bool) (names : List Meaning) (spot : ConditionSpot) (pieces : List Piece) (taken : ℕ)
    → spot.taken ≡ taken
    → Fit taken (conditions_from decided names spot pieces)
conditions_take decided names spot [] zero same = tt
conditions_take decided names spot [] (suc taken) same = tt
conditions_take decided names spot (piece ∷ rest) zero same =
    let mark = condition_here decided names spot piece rest in
    conditions_take decided (macros_behind names spot piece rest) (condition_behind names spot mark piece rest) rest
    (taken_by mark) (ap (λ k. taken_after k mark) same)
conditions_take decided names spot (piece ∷ rest) (suc taken) same =
    let mark = condition_here decided names spot piece rest in
    let later = not_first taken in
    let left : suc taken - 1 ≡ taken = omega arith in
    let other = if decided then line_mark names spot piece rest else marks.Kept in (
      ap (λ k. if k == 0 then other else marks.Taken) same ∙ ap (λ t. if t then other else marks.Taken) later,
      conditions_take decided (macros_behind names spot piece rest) (condition_behind names spot mark piece rest) rest
          taken
          (ap (λ k. taken_after k mark) same ∙ ap (λ t. if t then taken_by mark else suc taken - 1) later ∙ left),
    )

calls_take : (all : List Piece) (names : List Meaning) (spot : CallSpot) (pieces : List Piece) (taken : ℕ)
    → spot.taken ≡ taken
    → Fit taken (called_from all names spot pieces)
calls_take all names spot [] zero same = tt
calls_take all names spot [] (suc taken) same = tt
calls_take all names spot (piece ∷ rest) zero same =
    let mark = call_here names spot piece rest all in
    calls_take all (functions_here names spot piece rest all) (call_behind spot mark piece rest) rest (taken_by mark)
    (ap (λ k. taken_after k mark) same)
calls_take all names spot (piece ∷ rest) (suc taken) same =
    let mark = call_here names spot piece rest all in
    let later = not_first taken in
    let left : suc taken - 1 ≡ taken = omega arith in
    let other = call_by (function_at spot piece rest all) names spot piece rest in (
      ap (λ k. if k == 0 then other else marks.Taken) same ∙ ap (λ t. if t then other else marks.Taken) later,
      calls_take all (functions_here names spot piece rest all) (call_behind spot mark piece rest) rest taken
          (ap (λ k. taken_after k mark) same ∙ ap (λ t. if t then taken_by mark else suc taken - 1) later ∙ left),
    )

names_take : (names : List Meaning) (spot : NameSpot) (pieces : List Piece) (taken : ℕ)
    → spot.taken ≡ taken
    → Fit taken (named_from names spot pieces)
names_take names spot [] zero same = tt
names_take names spot [] (suc taken) same = tt
names_take names spot (piece ∷ rest) zero same =
    let mark = name_here names spot piece rest in
    names_take (names_here names spot piece rest) (name_behind spot mark piece) rest (taken_by mark)
    (ap (λ k. taken_after k mark) same)
names_take names spot (piece ∷ rest) (suc taken) same =
    let mark = name_here names spot piece rest in
    let later = not_first taken in
    let left : suc taken - 1 ≡ taken = omega arith in
    let other = name_by (found_at names spot piece rest) names spot.context piece in (
      ap (λ k. if k == 0 then other else marks.Taken) same ∙ ap (λ t. if t then other else marks.Taken) later,
      names_take (names_here names spot piece rest) (name_behind spot mark piece) rest taken
          (ap (λ k. taken_after k mark) same ∙ ap (λ t. if t then taken_by mark else suc taken - 1) later ∙ left),
    )

lists_take : (names : List Meaning) (spot : ListSpot) (pieces : List Piece) (taken : ℕ)
    → spot.taken ≡ taken
    → Fit taken (listed_from names spot pieces)
lists_take names spot [] zero same = tt
lists_take names spot [] (suc taken) same = tt
lists_take names spot (piece ∷ rest) zero same =
    let mark = list_here names spot piece rest in
    lists_take (names_with names mark piece rest) (list_behind spot mark piece) rest (taken_by mark)
    (ap (λ k. taken_after k mark) same)
lists_take names spot (piece ∷ rest) (suc taken) same =
    let mark = list_here names spot piece rest in
    let later = not_first taken in
    let left : suc taken - 1 ≡ taken = omega arith in
    let other = list_by (given_size spot piece rest) names spot piece in (
      ap (λ k. if k == 0 then other else marks.Taken) same ∙ ap (λ t. if t then other else marks.Taken) later,
      lists_take (names_with names mark piece rest) (list_behind spot mark piece) rest taken
          (ap (λ k. taken_after k mark) same ∙ ap (λ t. if t then taken_by mark else suc taken - 1) later ∙ left),
    )

arguments_take : (replaced : Bool) (spot : ArgumentSpot) (pieces : List Piece) (taken : ℕ)
    → spot.taken ≡ taken
    → Fit taken (arguments_from replaced spot pieces)
arguments_take replaced spot [] zero same = tt
arguments_take replaced spot [] (suc taken) same = tt
arguments_take replaced spot (piece ∷ rest) zero same =
    let mark = argument_here replaced spot piece rest in
    arguments_take replaced (argument_behind spot mark piece) rest (taken_by mark) (ap (λ k. taken_after k mark) same)
arguments_take replaced spot (piece ∷ rest) (suc taken) same =
    let mark = argument_here replaced spot piece rest in
    let later = not_first taken in
    let left : suc taken - 1 ≡ taken = omega arith in
    let other = if replaced then argument_mark spot.context piece rest else marks.Kept in (
      ap (λ k. if k == 0 then other else marks.Taken) same ∙ ap (λ t. if t then other else marks.Taken) later,
      arguments_take replaced (argument_behind spot mark piece) rest taken
          (ap (λ k. taken_after k mark) same ∙ ap (λ t. if t then taken_by mark else suc taken - 1) later ∙ left),
    )

arrays_take : (all : List Piece) (spot : ArraySpot) (pieces : List Piece) (taken : ℕ)
    → spot.taken ≡ taken
    → Fit taken (arrays_from all spot pieces)
arrays_take all spot [] zero same = tt
arrays_take all spot [] (suc taken) same = tt
arrays_take all spot (piece ∷ rest) zero same =
    let mark = array_here spot piece rest all in
    arrays_take all (array_behind spot mark piece) rest (taken_by mark) (ap (λ k. taken_after k mark) same)
arrays_take all spot (piece ∷ rest) (suc taken) same =
    let mark = array_here spot piece rest all in
    let later = not_first taken in
    let left : suc taken - 1 ≡ taken = omega arith in
    let other = array_at spot piece rest all in (
      ap (λ k. if k == 0 then other else marks.Taken) same ∙ ap (λ t. if t then other else marks.Taken) later,
      arrays_take all (array_behind spot mark piece) rest taken
          (ap (λ k. taken_after k mark) same ∙ ap (λ t. if t then taken_by mark else suc taken - 1) later ∙ left),
    )

sizes_take : (all : List Piece) (spot : SizeSpot) (pieces : List Piece) (taken : ℕ)
    → spot.taken ≡ taken
    → Fit taken (sizes_from all spot pieces)
sizes_take all spot [] zero same = tt
sizes_take all spot [] (suc taken) same = tt
sizes_take all spot (piece ∷ rest) zero same =
    let mark = size_here spot piece rest all in
    sizes_take all (size_behind spot mark piece) rest (taken_by mark) (ap (λ k. taken_after k mark) same)
sizes_take all spot (piece ∷ rest) (suc taken) same =
    let mark = size_here spot piece rest all in
    let later = not_first taken in
    let left : suc taken - 1 ≡ taken = omega arith in
    let other = size_at spot piece rest all in (
      ap (λ k. if k == 0 then other else marks.Taken) same ∙ ap (λ t. if t then other else marks.Taken) later,
      sizes_take all (size_behind spot mark piece) rest taken
          (ap (λ k. taken_after k mark) same ∙ ap (λ t. if t then taken_by mark else suc taken - 1) later ∙ left),
    )

prints_take : (spot : PrintSpot) (pieces : List Piece) (taken : ℕ)
    → spot.taken ≡ taken
    → Fit taken (printed_from spot pieces)
prints_take spot [] zero same = tt
prints_take spot [] (suc taken) same = tt
prints_take spot (piece ∷ rest) zero same =
    let mark = print_here spot piece rest in
    prints_take (print_behind spot mark piece) rest (taken_by mark) (ap (λ k. taken_after k mark) same)
prints_take spot (piece ∷ rest) (suc taken) same =
    let mark = print_here spot piece rest in
    let later = not_first taken in
    let left : suc taken - 1 ≡ taken = omega arith in
    let other = print_at spot.context piece rest in (
      ap (λ k. if k == 0 then other else marks.Taken) same ∙ ap (λ t. if t then other else marks.Taken) later,
      prints_take (print_behind spot mark piece) rest taken
          (ap (λ k. taken_after k mark) same ∙ ap (λ t. if t then taken_by mark else suc taken - 1) later ∙ left),
    )

pub stage_takes : (stage : Stage) (pieces : List Piece) → Fit 0 (stage_marks stage pieces)
stage_takes stages.Conditions pieces = conditions_take (is_decided pieces) [] first_condition pieces 0 refl
stage_takes stages.Calls pieces = calls_take pieces [] (first_call pieces) pieces 0 refl
stage_takes stages.Names pieces = names_take [] (first_name (is_sure pieces)) pieces 0 refl
stage_takes stages.Arguments pieces = arguments_take (is_replaced pieces) first_argument pieces 0 refl
stage_takes stages.Arrays pieces = arrays_take pieces (first_array pieces) pieces 0 refl
stage_takes stages.Lists pieces = lists_take [] (first_list pieces) pieces 0 refl
stage_takes stages.Sizes pieces = sizes_take pieces (first_size pieces) pieces 0 refl
stage_takes stages.Texts pieces = prints_take first_print pieces 0 refl
stage_takes stages.Rules pieces = marks_take (facts_of (classes_of pieces)) first_place (classes_of pieces) 0 refl
