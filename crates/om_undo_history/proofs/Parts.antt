-- Updates of a footprint part by part: what is true of two parts, where the first ones are as many, is true of both
-- behind one another. At accesses of which none is a control's, nothing is marked, and nothing is noted.
use Rattle.std.proofs.Common.{◌≡◌, refl, sym, ◌∙◌, ap, subst, Bool, true, false, List, [], ◌∷◌, ◌++◌, ◌<◌, length, arith, cond}
use Rattle.std.proofs.Common.{drop, suc}
use Rattle.std.proofs.Math.Path.{fun_ext}
use Rattle.std.specs.List.{AllByRecursion}
use Rattle.om_foot.specs.declared.footprint.Mode.{Mode}
use Rattle.om_foot.specs.declared.footprint.Mode.TheVariants as mode
use Rattle.om_foot.specs.declared.footprint.Access.{Access}
use Rattle.om_foot.specs.Footprint.{obj_eq}
use Rattle.om_state.specs.declared.step.Update.{Update}
use Rattle.om_state.specs.declared.step.Update.TheVariants as update
use Rattle.om_state.specs.declared.value.Val.{Val}
use Rattle.om_state.specs.State.{State, undo_of, state_after, state_before, updated, undo_record, taken_back}
use Rattle.om_memory.specs.Memories.{Pasts, is_trailed}
use Rattle.om_undo_history.specs.Bounds.{FitsAll, FitsAtBack, FitsBack}
use Rattle.om_undo_history.specs.Shapes.{AreShaped}
use Rattle.om_undo_history.specs.Fills.{is_mark, marks, popped, first_put, filled_at, popped_all, filled, is_put, small_at}
use Rattle.om_undo_history.specs.Fills.{noted, small_record, noted_all, IfControl, AreMarked, HavePasts, CanTakeBack}

-- forwards

pub updated-parts : (xs ys : List Access) (us vs : List Update) (s : State) → length xs ≡ length us
    → updated (xs ++ ys) (us ++ vs) s ≡ updated ys vs (updated xs us s)
updated-parts [] ys [] vs s h = refl
updated-parts [] ys (u ∷ us) vs s h = absurd (omega (arith, h))
updated-parts (a ∷ xs) ys [] vs s h = absurd (omega (arith, h))
updated-parts (a ∷ xs) ys (u ∷ us) vs s h = updated-parts xs ys us vs (state_after a u s) (omega (arith, h))

pub small_record-parts : (xs ys : List Access) (us vs : List Update) (s : State) → length xs ≡ length us
    → small_record (xs ++ ys) (us ++ vs) s ≡ small_record xs us s ++ small_record ys vs (updated xs us s)
small_record-parts [] ys [] vs s h = refl
small_record-parts [] ys (u ∷ us) vs s h = absurd (omega (arith, h))
small_record-parts (a ∷ xs) ys [] vs s h = absurd (omega (arith, h))
small_record-parts (a ∷ xs) ys (u ∷ us) vs s h =
    ap (λ ws. small_at a u s ∷ ws) (small_record-parts xs ys us vs (state_after a u s) (omega (arith, h)))

pub undo_record-parts : (xs ys : List Access) (us vs : List Update) (s : State) → length xs ≡ length us
    → undo_record (xs ++ ys) (us ++ vs) s ≡ undo_record xs us s ++ undo_record ys vs (updated xs us s)
undo_record-parts [] ys [] vs s h = refl
undo_record-parts [] ys (u ∷ us) vs s h = absurd (omega (arith, h))
undo_record-parts (a ∷ xs) ys [] vs s h = absurd (omega (arith, h))
undo_record-parts (a ∷ xs) ys (u ∷ us) vs s h =
    ap (λ ws. undo_of a.mode u (s a.object) ∷ ws)
    (undo_record-parts xs ys us vs (state_after a u s) (omega (arith, h)))

pub noted_all-parts : (xs ys : List Access) (us vs : List Update) (s : State) (ps : Pasts) → length xs ≡ length us
    → noted_all (xs ++ ys) (us ++ vs) s ps ≡ noted_all ys vs (updated xs us s) (noted_all xs us s ps)
noted_all-parts [] ys [] vs s ps h = refl
noted_all-parts [] ys (u ∷ us) vs s ps h = absurd (omega (arith, h))
noted_all-parts (a ∷ xs) ys [] vs s ps h = absurd (omega (arith, h))
noted_all-parts (a ∷ xs) ys (u ∷ us) vs s ps h =
    noted_all-parts xs ys us vs (state_after a u s) (noted a u s ps) (omega (arith, h))

pub FitsAll-parts : (xs ys : List Access) (us vs : List Update) (s : State) → length xs ≡ length us
    → FitsAll (xs ++ ys) (us ++ vs) s → FitsAll xs us s × FitsAll ys vs (updated xs us s)
FitsAll-parts [] ys [] vs s h f = (tt, f)
FitsAll-parts [] ys (u ∷ us) vs s h f = absurd (omega (arith, h))
FitsAll-parts (a ∷ xs) ys [] vs s h f = absurd (omega (arith, h))
FitsAll-parts (a ∷ xs) ys (u ∷ us) vs s h f =
    let both = FitsAll-parts xs ys us vs (state_after a u s) (omega (arith, h)) f.1 in
    ((f.0, both.0), both.1)

pub AreShaped-parts : (xs ys : List Access) (us vs : List Update) → length xs ≡ length us
    → AreShaped (xs ++ ys) (us ++ vs) → AreShaped xs us × AreShaped ys vs
AreShaped-parts [] ys [] vs h f = (tt, f)
AreShaped-parts [] ys (u ∷ us) vs h f = absurd (omega (arith, h))
AreShaped-parts (a ∷ xs) ys [] vs h f = absurd (omega (arith, h))
AreShaped-parts (a ∷ xs) ys (u ∷ us) vs h f =
    let both = AreShaped-parts xs ys us vs (omega (arith, h)) f.1 in
    ((f.0, both.0), both.1)

pub length-small_record : (xs : List Access) (us : List Update) (s : State)
    → length (small_record xs us s) ≡ length us
length-small_record [] us s = refl
length-small_record (a ∷ xs) [] s = refl
length-small_record (a ∷ xs) (u ∷ us) s = ap suc (length-small_record xs us (state_after a u s))

pub length-undo_record : (xs : List Access) (us : List Update) (s : State)
    → length (undo_record xs us s) ≡ length us
length-undo_record [] us s = refl
length-undo_record (a ∷ xs) [] s = refl
length-undo_record (a ∷ xs) (u ∷ us) s = ap suc (length-undo_record xs us (state_after a u s))

-- and back

pub taken_back-parts : (xs ys : List Access) (us vs : List Update) (s : State) → length xs ≡ length us
    → taken_back (xs ++ ys) (us ++ vs) s ≡ taken_back xs us (taken_back ys vs s)
taken_back-parts [] ys [] vs s h = refl
taken_back-parts [] ys (u ∷ us) vs s h = absurd (omega (arith, h))
taken_back-parts (a ∷ xs) ys [] vs s h = absurd (omega (arith, h))
taken_back-parts (a ∷ xs) ys (u ∷ us) vs s h =
    ap (state_before a u) (taken_back-parts xs ys us vs s (omega (arith, h)))

pub popped_all-parts : (xs ys : List Access) (us vs : List Update) (ps : Pasts) → length xs ≡ length us
    → popped_all (xs ++ ys) (us ++ vs) ps ≡ popped_all xs us (popped_all ys vs ps)
popped_all-parts [] ys [] vs ps h = refl
popped_all-parts [] ys (u ∷ us) vs ps h = absurd (omega (arith, h))
popped_all-parts (a ∷ xs) ys [] vs ps h = absurd (omega (arith, h))
popped_all-parts (a ∷ xs) ys (u ∷ us) vs ps h =
    ap (popped a u) (popped_all-parts xs ys us vs ps (omega (arith, h)))

pub filled-parts : (xs ys : List Access) (us vs : List Update) (ps : Pasts) → length xs ≡ length us
    → filled (xs ++ ys) (us ++ vs) ps ≡ filled xs us (popped_all ys vs ps) ++ filled ys vs ps
filled-parts [] ys [] vs ps h = refl
filled-parts [] ys (u ∷ us) vs ps h = absurd (omega (arith, h))
filled-parts (a ∷ xs) ys [] vs ps h = absurd (omega (arith, h))
filled-parts (a ∷ xs) ys (u ∷ us) vs ps h =
    λ i. filled_at a u (popped_all-parts xs ys us vs ps (omega (arith, h)) i)
    ∷ filled-parts xs ys us vs ps (omega (arith, h)) i

pub length-filled : (xs : List Access) (us : List Update) (ps : Pasts) → length (filled xs us ps) ≡ length us
length-filled [] us ps = refl
length-filled (a ∷ xs) [] ps = refl
length-filled (a ∷ xs) (u ∷ us) ps = ap suc (length-filled xs us ps)

pub back-parts : (xs ys : List Access) (us vs : List Update) (s : State) (ps : Pasts) → length xs ≡ length us
    → taken_back (xs ++ ys) (filled (xs ++ ys) (us ++ vs) ps) s
    ≡ taken_back xs (filled xs us (popped_all ys vs ps)) (taken_back ys (filled ys vs ps) s)
back-parts xs ys us vs s ps h =
    ap (λ ws. taken_back (xs ++ ys) ws s) (filled-parts xs ys us vs ps h)
    ∙ taken_back-parts xs ys (filled xs us (popped_all ys vs ps)) (filled ys vs ps) s
    (h ∙ sym (length-filled xs us (popped_all ys vs ps)))

AreMarked-parts : (xs ys : List Access) (us vs : List Update) → length xs ≡ length us
    → AreMarked (xs ++ ys) (us ++ vs) → AreMarked xs us × AreMarked ys vs
AreMarked-parts [] ys [] vs h f = (tt, f)
AreMarked-parts [] ys (u ∷ us) vs h f = absurd (omega (arith, h))
AreMarked-parts (a ∷ xs) ys [] vs h f = absurd (omega (arith, h))
AreMarked-parts (a ∷ xs) ys (u ∷ us) vs h f =
    let both = AreMarked-parts xs ys us vs (omega (arith, h)) f.1 in
    ((f.0, both.0), both.1)

HavePasts-parts : (xs ys : List Access) (us vs : List Update) (ps : Pasts) → length xs ≡ length us
    → HavePasts (xs ++ ys) (us ++ vs) ps → HavePasts xs us (popped_all ys vs ps) × HavePasts ys vs ps
HavePasts-parts [] ys [] vs ps h f = (tt, f)
HavePasts-parts [] ys (u ∷ us) vs ps h f = absurd (omega (arith, h))
HavePasts-parts (a ∷ xs) ys [] vs ps h f = absurd (omega (arith, h))
HavePasts-parts (a ∷ xs) ys (u ∷ us) vs ps h f =
    let both = HavePasts-parts xs ys us vs ps (omega (arith, h)) f.1 in
    let head = subst (λ (qs : Pasts). IfControl a (0 < length (qs a.object)))
    (popped_all-parts xs ys us vs ps (omega (arith, h))) f.0 in
    ((head, both.0), both.1)

FitsBack-parts : (xs ys : List Access) (us vs : List Update) (s : State) → length xs ≡ length us
    → FitsBack (xs ++ ys) (us ++ vs) s → FitsBack xs us (taken_back ys vs s) × FitsBack ys vs s
FitsBack-parts [] ys [] vs s h f = (tt, f)
FitsBack-parts [] ys (u ∷ us) vs s h f = absurd (omega (arith, h))
FitsBack-parts (a ∷ xs) ys [] vs s h f = absurd (omega (arith, h))
FitsBack-parts (a ∷ xs) ys (u ∷ us) vs s h f =
    let both = FitsBack-parts xs ys us vs s (omega (arith, h)) f.1 in
    let head = subst (λ (t : State). FitsAtBack a.mode u (t a.object))
    (taken_back-parts xs ys us vs s (omega (arith, h))) f.0 in
    ((head, both.0), both.1)

-- what takes two parts back takes the last one back, and then the first one
pub CanTakeBack-parts : (xs ys : List Access) (us vs : List Update) (s : State) (ps : Pasts) → length xs ≡ length us
    → CanTakeBack (xs ++ ys) (us ++ vs) s ps
    → CanTakeBack xs us (taken_back ys (filled ys vs ps) s) (popped_all ys vs ps) × CanTakeBack ys vs s ps
CanTakeBack-parts xs ys us vs s ps h f =
    let marked = AreMarked-parts xs ys us vs h f.marked in
    let pasts = HavePasts-parts xs ys us vs ps h f.pasts in
    let fits = FitsBack-parts xs ys (filled xs us (popped_all ys vs ps)) (filled ys vs ps) s
    (h ∙ sym (length-filled xs us (popped_all ys vs ps)))
    (subst (λ ws. FitsBack (xs ++ ys) ws s) (filled-parts xs ys us vs ps h) f.fits) in (
      record { marked = marked.0; pasts = pasts.0; fits = fits.0 },
      record { marked = marked.1; pasts = pasts.1; fits = fits.1 },
    )

-- where no access is a control's

abbrev pub NoneTrailed : List Access → Type 0
NoneTrailed xs = AllByRecursion (λ a. is_trailed a.object ≡ false) xs

pub NoneTrailed-append : (xs ys : List Access) → NoneTrailed xs → NoneTrailed ys → NoneTrailed (xs ++ ys)
NoneTrailed-append [] ys f g = g
NoneTrailed-append (a ∷ xs) ys f g = (f.0, NoneTrailed-append xs ys f.1 g)

no_put : (m : Mode) (u : Update) → is_put m u false ≡ false
no_put mode.Write (update.Put v) = refl
no_put mode.Write update.Keep = refl
no_put mode.Write (update.Add d) = refl
no_put mode.Write (update.Append t) = refl
no_put mode.Write (update.Cut n) = refl
no_put mode.Read u = refl
no_put mode.Add u = refl

no_mark : (m : Mode) (u : Update) → is_mark m u false ≡ false
no_mark mode.Write (update.Put v) = refl
no_mark mode.Write update.Keep = refl
no_mark mode.Write (update.Add d) = refl
no_mark mode.Write (update.Append t) = refl
no_mark mode.Write (update.Cut n) = refl
no_mark mode.Read u = refl
no_mark mode.Add u = refl

unmarked : (a : Access) (u : Update) → is_trailed a.object ≡ false → marks a u ≡ false
unmarked a u h = ap (is_mark a.mode u) h ∙ no_mark a.mode u

unnoted : (a : Access) (u : Update) → is_trailed a.object ≡ false → is_put a.mode u (is_trailed a.object) ≡ false
unnoted a u h = ap (is_put a.mode u) h ∙ no_put a.mode u

small_at-plain : (a : Access) (u : Update) (s : State) → is_trailed a.object ≡ false
    → small_at a u s ≡ undo_of a.mode u (s a.object)
small_at-plain a u s h = ap (λ b. cond b update.Keep (undo_of a.mode u (s a.object))) (unnoted a u h)

noted-plain : (a : Access) (u : Update) (s : State) (ps : Pasts) → is_trailed a.object ≡ false → noted a u s ps ≡ ps
noted-plain a u s ps h =
    fun_ext λ q. ap (λ b. cond b (cond (obj_eq a.object q) (s q ∷ ps q) (ps q)) (ps q)) (unnoted a u h)

popped-plain : (a : Access) (u : Update) (ps : Pasts) → is_trailed a.object ≡ false → popped a u ps ≡ ps
popped-plain a u ps h =
    fun_ext λ q. ap (λ b. cond b (cond (obj_eq a.object q) (drop 1 (ps q)) (ps q)) (ps q)) (unmarked a u h)

filled_at-plain : (a : Access) (u : Update) (ps : Pasts) → is_trailed a.object ≡ false → filled_at a u ps ≡ u
filled_at-plain a u ps h = ap (λ b. cond b (first_put u (ps a.object)) u) (unmarked a u h)

pub small_record-plain : (xs : List Access) (us : List Update) (s : State) → NoneTrailed xs
    → small_record xs us s ≡ undo_record xs us s
small_record-plain [] us s h = refl
small_record-plain (a ∷ xs) [] s h = refl
small_record-plain (a ∷ xs) (u ∷ us) s h =
    λ i. small_at-plain a u s h.0 i ∷ small_record-plain xs us (state_after a u s) h.1 i

pub noted_all-plain : (xs : List Access) (us : List Update) (s : State) (ps : Pasts) → NoneTrailed xs
    → noted_all xs us s ps ≡ ps
noted_all-plain [] us s ps h = refl
noted_all-plain (a ∷ xs) [] s ps h = refl
noted_all-plain (a ∷ xs) (u ∷ us) s ps h =
    noted_all-plain xs us (state_after a u s) (noted a u s ps) h.1 ∙ noted-plain a u s ps h.0

pub popped_all-plain : (xs : List Access) (us : List Update) (ps : Pasts) → NoneTrailed xs
    → popped_all xs us ps ≡ ps
popped_all-plain [] us ps h = refl
popped_all-plain (a ∷ xs) [] ps h = refl
popped_all-plain (a ∷ xs) (u ∷ us) ps h =
    popped-plain a u (popped_all xs us ps) h.0 ∙ popped_all-plain xs us ps h.1

pub filled-plain : (xs : List Access) (us : List Update) (ps : Pasts) → NoneTrailed xs → filled xs us ps ≡ us
filled-plain [] us ps h = refl
filled-plain (a ∷ xs) [] ps h = refl
filled-plain (a ∷ xs) (u ∷ us) ps h =
    λ i. filled_at-plain a u (popped_all xs us ps) h.0 i ∷ filled-plain xs us ps h.1 i

-- three parts, of which the middle one has no control's

pub record ThreeMade (xs ms ys : List Access) (us ws vs : List Update) (s : State) (ps : Pasts) : Type 0 where
  pub state : updated (xs ++ (ms ++ ys)) (us ++ (ws ++ vs)) s ≡ updated ys vs (updated ms ws (updated xs us s))
  pub small : small_record (xs ++ (ms ++ ys)) (us ++ (ws ++ vs)) s
      ≡ small_record xs us s ++ (undo_record ms ws (updated xs us s)
      ++ small_record ys vs (updated ms ws (updated xs us s)))
  pub pasts : noted_all (xs ++ (ms ++ ys)) (us ++ (ws ++ vs)) s ps
      ≡ noted_all ys vs (updated ms ws (updated xs us s)) (noted_all xs us s ps)

pub three_made : (xs ms ys : List Access) (us ws vs : List Update) (s : State) (ps : Pasts) → length xs ≡ length us
    → length ms ≡ length ws → NoneTrailed ms → ThreeMade xs ms ys us ws vs s ps
three_made xs ms ys us ws vs s ps h k plain = record {
  state = updated-parts xs (ms ++ ys) us (ws ++ vs) s h ∙ updated-parts ms ys ws vs (updated xs us s) k;
  small = small_record-parts xs (ms ++ ys) us (ws ++ vs) s h
      ∙ ap (λ x. small_record xs us s ++ x) (small_record-parts ms ys ws vs (updated xs us s) k
      ∙ ap (λ x. x ++ small_record ys vs (updated ms ws (updated xs us s)))
      (small_record-plain ms ws (updated xs us s) plain));
  pasts = noted_all-parts xs (ms ++ ys) us (ws ++ vs) s ps h
      ∙ noted_all-parts ms ys ws vs (updated xs us s) (noted_all xs us s ps) k
      ∙ ap (noted_all ys vs (updated ms ws (updated xs us s)))
      (noted_all-plain ms ws (updated xs us s) (noted_all xs us s ps) plain);
}

pub record ThreeCan (xs ms ys : List Access) (us ws vs : List Update) (s : State) (ps : Pasts) : Type 0 where
  pub first_fits : FitsAll xs us s
  pub first_shaped : AreShaped xs us
  pub last_fits : FitsAll ys vs (updated ms ws (updated xs us s))
  pub last_shaped : AreShaped ys vs

pub three_can : (xs ms ys : List Access) (us ws vs : List Update) (s : State) (ps : Pasts) → length xs ≡ length us
    → length ms ≡ length ws → FitsAll (xs ++ (ms ++ ys)) (us ++ (ws ++ vs)) s
    → AreShaped (xs ++ (ms ++ ys)) (us ++ (ws ++ vs)) → ThreeCan xs ms ys us ws vs s ps
three_can xs ms ys us ws vs s ps h k fits shaped =
    let one = FitsAll-parts xs (ms ++ ys) us (ws ++ vs) s h fits in
    let two = FitsAll-parts ms ys ws vs (updated xs us s) k one.1 in
    let front = AreShaped-parts xs (ms ++ ys) us (ws ++ vs) h shaped in
    let rest = AreShaped-parts ms ys ws vs k front.1 in
    record { first_fits = one.0; first_shaped = front.0; last_fits = two.1; last_shaped = rest.1 }

pub record ThreeBack (xs ms ys : List Access) (us ws vs : List Update) (s : State) (ps : Pasts) : Type 0 where
  pub last : CanTakeBack ys vs s ps
  pub first : CanTakeBack xs us (taken_back ms ws (taken_back ys (filled ys vs ps) s)) (popped_all ys vs ps)
  pub state : taken_back (xs ++ (ms ++ ys)) (filled (xs ++ (ms ++ ys)) (us ++ (ws ++ vs)) ps) s
      ≡ taken_back xs (filled xs us (popped_all ys vs ps)) (taken_back ms ws (taken_back ys (filled ys vs ps) s))
  pub pasts : popped_all (xs ++ (ms ++ ys)) (us ++ (ws ++ vs)) ps ≡ popped_all xs us (popped_all ys vs ps)

pub three_back : (xs ms ys : List Access) (us ws vs : List Update) (s : State) (ps : Pasts) → length xs ≡ length us
    → length ms ≡ length ws → NoneTrailed ms → CanTakeBack (xs ++ (ms ++ ys)) (us ++ (ws ++ vs)) s ps
    → ThreeBack xs ms ys us ws vs s ps
three_back xs ms ys us ws vs s ps h k plain can =
    let front = CanTakeBack-parts xs (ms ++ ys) us (ws ++ vs) s ps h can in
    let rest = CanTakeBack-parts ms ys ws vs s ps k front.1 in
    let back = taken_back ys (filled ys vs ps) s in
    let popped_rest : popped_all (ms ++ ys) (ws ++ vs) ps ≡ popped_all ys vs ps =
    popped_all-parts ms ys ws vs ps k ∙ popped_all-plain ms ws (popped_all ys vs ps) plain in
    let back_rest : taken_back (ms ++ ys) (filled (ms ++ ys) (ws ++ vs) ps) s ≡ taken_back ms ws back =
    back-parts ms ys ws vs s ps k
    ∙ ap (λ x. taken_back ms x back) (filled-plain ms ws (popped_all ys vs ps) plain) in
    record {
      last = rest.1;
      first = subst (λ (qs : Pasts). CanTakeBack xs us (taken_back ms ws back) qs) popped_rest
          (subst (λ (t : State). CanTakeBack xs us t (popped_all (ms ++ ys) (ws ++ vs) ps)) back_rest front.0);
      state = back-parts xs (ms ++ ys) us (ws ++ vs) s ps h
          ∙ (λ i. taken_back xs (filled xs us (popped_rest i)) (back_rest i));
      pasts = popped_all-parts xs (ms ++ ys) us (ws ++ vs) ps h ∙ ap (popped_all xs us) popped_rest;
    }
