use Rattle.std.proofs.Common.{◌≡◌, ◌∙◌, refl, sym, ap, subst, ℕ, Bool, true, false, cond, ◌&&◌, ◌∷◌, [], Some}
use Rattle.std.specs.Prelude.{All}
use Rattle.std.specs.Map.{lookup}
use Rattle.std.specs.Ordering.{is_gt}
use Rattle.std.specs.BTreeMap.Range.{entries_between, IsEntryInRange}
use Rattle.std.specs.declared.ops.Bound.TheVariants.{Included, Excluded}
use Rattle.std.proofs.lemmas.List.Elements.{All-weaker}
use Rattle.om_foot.specs.declared.object.Obj.{Obj}
use Rattle.om_undo_touches.specs.declared.by_mode.Touches.{Touches}
use Rattle.om_foot.specs.contracts.object.ObjOrd.TheImpl.{cmp-value}
use Rattle.om_foot.specs.Cells.{cells_of}
use Rattle.om_foot.specs.Serials.{has}
use Rattle.om_undo_touches.specs.Slots.{is_cell_in}
use Rattle.om_undo_touches.specs.Touches.{list_of, meets_at, meets, has_object_touch}
use Rattle.om_foot.specs.Firsts.{sooner, IsFirst}
use Rattle.om_undo_touches.specs.Searches.{sooner-first, IsFirst-same}
use Rattle.om_undo_touches.proofs.RangeLemmas.{met_here, any_in, between, is_forward, Found, range_is, turn}
use Rattle.om_undo_touches.proofs.objects.ObjectTouches.first_in.Goals as goal

pub range-object-items-requires : goal.range-object-items-requires
range-object-items-requires c =
    (λ k. is_gt (cmp-value.it (c.first.ensures k) (c.end.ensures k))) ∙ is_forward c.args.cells.now

pub loop-object-init : goal.loop-object-init
loop-object-init c =
    let cells = c.args.cells.now in
    let es = c.args.self.now.objects.entries in (
      λ s. false,
      λ s above. refl,
      λ s. ap (λ xs. any_in cells xs s) (c.into_iter-object-iterator.ensures.into_iter_gives
          ∙ c.range-object-items.ensures.between tt
          ∙ (λ k. entries_between cmp-value.it (Included (c.first.ensures k)) (Excluded (c.end.ensures k)) es)),
    )

pub loop-object-preserved : goal.loop-object-preserved
loop-object-preserved c =
    let cells = c.args.cells.now in
    let came = c.loop-object.invariant.0 in
    let e : Obj × Touches = (c.in-Some.object.now, c.in-Some.touches.now) in
    let here : IsFirst (met_here cells e) c.args.serial c.first_if_in.result =
    subst (λ x. IsFirst (met_here x e) c.args.serial c.first_if_in.result) c.cells-all.ensures
    (subst (λ o. IsFirst (met_here c.cells-all.result (o, c.in-Some.touches.now)) c.args.serial c.first_if_in.result)
    c.get.ensures c.first_if_in.ensures) in (
      λ s. cond (came s) true (met_here cells e s),
      subst (IsFirst (λ s. cond (came s) true (met_here cells e s)) c.args.serial) (sym c.sooner-first.ensures)
          (sooner-first came (met_here cells e) c.args.serial c.loop-object.first c.first_if_in.result
          c.loop-object.invariant.1 here),
      λ s. turn (came s) (met_here cells e s) (any_in cells c.next.new.self s)
          ∙ ap (λ xs. cond (came s) true (any_in cells xs s)) (sym c.in-Some.ensures.steps)
          ∙ c.loop-object.invariant.2 s,
    )

pub returns : goal.returns
returns c =
    let cells = c.args.cells.now in
    let touches = c.args.self.now in
    let es = touches.objects.entries in
    let came = c.loop-object.invariant.0 in
    let lies : c.range-object-items.result ≡ between cells es =
    c.range-object-items.ensures.between tt
    ∙ (λ k. entries_between cmp-value.it (Included (c.first.ensures k)) (Excluded (c.end.ensures k)) es) in
    let all : All (Found touches) (between cells es) =
    subst (All (Found touches)) lies
    (All-weaker (IsEntryInRange cmp-value.it (Included c.first.result.now) (Excluded c.end.result.now) touches.objects)
    (Found touches) (λ e h. h.1) c.range-object-items.result (c.range-object-items.ensures.in_range tt).0) in
    IsFirst-same came (meets (has_object_touch touches) (cells_of cells)) c.args.serial c.loop-object.first
    (λ s. sym (last (came s)) ∙ ap (λ xs. cond (came s) true (any_in cells xs s)) (sym c.in-None.ensures.steps.0)
    ∙ c.loop-object.invariant.2 s ∙ range_is cells touches s all)
    c.loop-object.invariant.1
  where
    last : (b : Bool) → cond b true false ≡ b
    last true = refl
    last false = refl
