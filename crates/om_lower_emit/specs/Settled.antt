-- The lists of PICK of a body, once the place of each label is known.
use Rattle.std.specs.Prelude.{◌≡◌, ℕ, List, Contains, Some, map, slice_get}
use Rattle.om_lower_emit.specs.declared.draft.Pick.{Pick}
use Rattle.om_lower_emit.specs.declared.draft.PickList.{PickList}
use Rattle.om_lower_emit.specs.Drafts.{Labels, Written, place_in}

-- a list with places in place of labels
abbrev pub settled_list : Labels → Pick → PickList
settled_list at pick = record { number = pick.number; places = map at pick.labels }

abbrev pub settled_lists : Written → List PickList
settled_lists d = map (settled_list (place_in d.places)) d.picks

abbrev pub number_of : PickList → ℕ
number_of list = list.number

-- the lists of PICK of a program have these, each at its number
abbrev pub ListsStand : List PickList → (picks : List (List ℕ)) → Type 0
ListsStand lists picks = (list : PickList) → Contains lists list
    → slice_get picks list.number ≡ Some list.places
