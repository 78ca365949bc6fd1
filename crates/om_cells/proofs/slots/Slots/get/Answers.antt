use Rattle.std.proofs.Common.{◌≡◌, ◌∙◌, sym, ap, refl, ℕ, List, Option, None, Some, Bor}
use Rattle.std.proofs.lemmas.Option.{slice_get_past, slice_get_read}
use Rattle.std.specs.Prelude.{slice_get}
use Rattle.std.specs.Option.{option_copied}
use Rattle.std.specs.Slice.{IsItemAt}
use Rattle.om_state.specs.declared.value.Val.{Val}
use Rattle.om_cells.specs.Slots.{slot_value}
use Rattle.om_cells.proofs.SlotLemmas.{get_through}
use Rattle.om_cells.proofs.slots.Slots.get.Goals as goal

-- what stands at an index
lent : (vs : List Val) (index : ℕ) (found : Option (Bor Val)) → IsItemAt vs index found
    → option_copied found ≡ slice_get vs index
lent vs index None is = sym (slice_get_past vs index is.3)
lent vs index (Some v) is = sym (slice_get_read vs _ index v.now refl is.3.0 is.1)

pub returns : goal.returns
returns c = lent c.as_slice.result.now c.in_ok-slot.index c.get-2.result c.get-2.ensures.lookup
    ∙ ap (λ vs. slice_get vs c.in_ok-slot.index) (c.as_slice.ensures.value ∙ c.place.view_is)
    ∙ get_through c.self.inside.slots.entries c.args.object.now c.spot_of.result c.in_ok-slot.slot
    c.in_ok-slot.index c.get.result c.in_ok-place.place c.spot_of.ensures c.in_ok-slot.was c.get.ensures.value
    c.in_ok-place.was
    ∙ ap (λ es. slot_value es c.args.object.now) c.self.view_is
