-- The accesses of a step behind its worker's control, part by part, and what goes along with them.
use Rattle.std.proofs.Common.{◌≡◌, sym, ◌∙◌, ap, subst, true, List, [], ◌++◌, length, drop}
use Rattle.std.specs.Prelude.{All}
use Rattle.std.proofs.lemmas.List.{append-nil}
use Rattle.om_foot.specs.declared.footprint.Access.{Access}
use Rattle.om_foot.specs.declared.object.Cells.{Cells}
use Rattle.om_state.specs.declared.value.Run.{Run}
use Rattle.om_state.specs.declared.value.Was.{Was}
use Rattle.om_state.specs.declared.step.Update.{Update}
use Rattle.om_foot.specs.Cells.{cells_listed}
use Rattle.om_state.specs.Runs.{runs_listed}
use Rattle.om_state.specs.State.{State, updated, undo_record, taken_back}
use Rattle.om_memory.specs.Memories.{Pasts}
use Rattle.om_undo_touches.specs.Accesses.{Parts, accesses_of}
use Rattle.om_undo_history.specs.Bounds.{FitsAll}
use Rattle.om_undo_history.specs.Shapes.{AreShaped}
use Rattle.om_undo_history.specs.Fills.{filled, popped_all, small_record, noted_all, CanTakeBack}
use Rattle.om_undo_history.specs.Backs.{backs_listed, are_along, WereAlong}
use Rattle.om_undo_history.proofs.Back.{taken_back-updated}
use Rattle.om_undo_history.proofs.Fills.{popped_all-noted}
use Rattle.om_undo_history.proofs.Making.{AllMade}
use Rattle.om_undo_history.proofs.Parts.{ThreeMade, three_made, ThreeCan, three_can, ThreeBack, three_back}
use Rattle.om_undo_history.proofs.CellParts.{along_lengths, were_lengths, cells_plain, All-split}
use Rattle.om_undo_history.proofs.TakingBack.{made_back, taken_back-made}

-- all are in the first part, where the others have none
pub further_plain : (f : Parts) (xs : List Access) → xs ≡ f.first → f.cells ≡ [] → f.last ≡ []
    → drop 1 (accesses_of f) ≡ xs
further_plain f xs is none empty =
    (λ i. f.first ++ (cells_listed (none i) ++ empty i)) ∙ append-nil f.first ∙ sym is

-- so many in front that go along with so many others
pub still_many : (first : List Access) (us vs : List Update) → length first ≡ length us
    → length vs ≡ length us → length first ≡ length vs
still_many first us vs h k = h ∙ sym k

-- what was made of the first part is taken back
pub all_can : (X : List Access) (us : List Update) (s : State) (ps : Pasts) (bx : List Update) (now : State)
    (p : Pasts) → AllMade X us s ps bx now p → AreShaped X us → FitsAll X us s → CanTakeBack X bx now p
all_can X us s ps bx now p made shaped fits =
    subst (λ xs. CanTakeBack X xs now p) (sym made.small)
    (subst (λ t. CanTakeBack X (small_record X us s) t p) (sym made.state)
    (subst (λ qs. CanTakeBack X (small_record X us s) (updated X us s) qs) (sym made.pasts_are)
    (made_back X us s ps shaped fits)))

pub all_back : (X : List Access) (us : List Update) (s : State) (ps : Pasts) (bx : List Update) (now : State)
    (p : Pasts) → AllMade X us s ps bx now p → AreShaped X us → taken_back X (filled X bx p) now ≡ s
all_back X us s ps bx now p made shaped =
    (λ i. taken_back X (filled X (made.small i) (made.pasts_are i)) (made.state i)) ∙ taken_back-made X us s ps shaped

pub all_popped : (X : List Access) (us : List Update) (s : State) (ps : Pasts) (bx : List Update) (now : State)
    (p : Pasts) → AllMade X us s ps bx now p → AreShaped X us → popped_all X bx p ≡ ps
all_popped X us s ps bx now p made shaped =
    (λ i. popped_all X (made.small i) (made.pasts_are i)) ∙ popped_all-noted X us s ps shaped

pub cells_undone : (C : List Cells) (rs : List Run) (ws : List (List Was)) (s now : State)
    → backs_listed ws ≡ undo_record (cells_listed C) (runs_listed rs) s
    → now ≡ updated (cells_listed C) (runs_listed rs) s → taken_back (cells_listed C) (backs_listed ws) now ≡ s
cells_undone C rs ws s now e_w e_s = (λ i. taken_back (cells_listed C) (e_w i) (e_s i))
    ∙ taken_back-updated (cells_listed C) (runs_listed rs) s

pub were_after : (were now : List (List Was)) (us : List Update) → now ≡ were → backs_listed were ≡ us
    → backs_listed now ≡ us
were_after were now us e h = ap backs_listed e ∙ h

pub back_to : (C : List Cells) (rs : List Run) (were ws : List (List Was)) (s1 s2 s3 : State) → ws ≡ were
    → backs_listed were ≡ undo_record (cells_listed C) (runs_listed rs) s1
    → s2 ≡ updated (cells_listed C) (runs_listed rs) s1 → s3 ≡ s2
    → taken_back (cells_listed C) (backs_listed ws) s3 ≡ s1
back_to C rs were ws s1 s2 s3 e_w e_u e_s same =
    cells_undone C rs ws s1 s3 (were_after were ws _ e_w e_u) (same ∙ e_s)

pub last_fits_at : (X : List Access) (C : List Cells) (L : List Access) (us : List Update) (rs : List Run)
    (vs : List Update) (s s1 s2 : State) → s1 ≡ updated X us s
    → s2 ≡ updated (cells_listed C) (runs_listed rs) s1
    → FitsAll L vs (updated (cells_listed C) (runs_listed rs) (updated X us s)) → FitsAll L vs s2
last_fits_at X C L us rs vs s s1 s2 one two =
    subst (FitsAll L vs) (sym (two ∙ ap (updated (cells_listed C) (runs_listed rs)) one))

module _ (f : Parts) (X : List Access) (C : List Cells) (L : List Access) (us : List Update)
    (e_f : X ≡ f.first) (e_c : C ≡ f.cells) (e_l : L ≡ f.last) (h : length f.first ≡ length us) where
  split : drop 1 (accesses_of f) ≡ X ++ (cells_listed C ++ L)
  split = λ i. sym e_f i ++ (cells_listed (sym e_c i) ++ sym e_l i)

  many : length X ≡ length us
  many = ap length e_f ∙ h

  pub kept_parts : (P : Access → Type 0) → All P (drop 1 (accesses_of f))
      → All P X × (All P (cells_listed C) × All P L)
  kept_parts P all =
      let front = All-split P X (cells_listed C ++ L) (subst (All P) split all) in
      (front.0, All-split P (cells_listed C) L front.1)

  pub parts_can : (rs : List Run) (vs : List Update) (s : State) (ps : Pasts) → are_along f.cells rs ≡ true
      → FitsAll (drop 1 (accesses_of f)) (us ++ (runs_listed rs ++ vs)) s
      → AreShaped (drop 1 (accesses_of f)) (us ++ (runs_listed rs ++ vs))
      → ThreeCan X (cells_listed C) L us (runs_listed rs) vs s ps
  parts_can rs vs s ps along fits shaped =
      three_can X (cells_listed C) L us (runs_listed rs) vs s ps many
      (along_lengths C rs (subst (λ x. are_along x rs ≡ true) (sym e_c) along))
      (subst (λ x. FitsAll x (us ++ (runs_listed rs ++ vs)) s) split fits)
      (subst (λ x. AreShaped x (us ++ (runs_listed rs ++ vs))) split shaped)

  pub parts_made : (rs : List Run) (vs : List Update) (s : State) (ps : Pasts) → are_along f.cells rs ≡ true
      → (bx bl : List Update) (ws : List (List Was)) (s1 s2 s3 : State) (p1 p2 p3 : Pasts)
      → AllMade X us s ps bx s1 p1 → backs_listed ws ≡ undo_record (cells_listed C) (runs_listed rs) s1
      → s2 ≡ updated (cells_listed C) (runs_listed rs) s1 → p2 ≡ p1 → AllMade L vs s2 p2 bl s3 p3
      → AllMade (drop 1 (accesses_of f)) (us ++ (runs_listed rs ++ vs)) s ps (bx ++ (backs_listed ws ++ bl)) s3 p3
  parts_made rs vs s ps along bx bl ws s1 s2 s3 p1 p2 p3 one were two same last =
      let three : ThreeMade X (cells_listed C) L us (runs_listed rs) vs s ps =
      three_made X (cells_listed C) L us (runs_listed rs) vs s ps many
      (along_lengths C rs (subst (λ x. are_along x rs ≡ true) (sym e_c) along)) (cells_plain C) in
      let all = us ++ (runs_listed rs ++ vs) in
      let mid : s2 ≡ updated (cells_listed C) (runs_listed rs) (updated X us s) =
      two ∙ ap (updated (cells_listed C) (runs_listed rs)) one.state in
      record {
        state = last.state ∙ ap (updated L vs) mid ∙ sym three.state ∙ ap (λ x. updated x all s) (sym split);
        small = (λ i. one.small i
            ++ ((were ∙ ap (undo_record (cells_listed C) (runs_listed rs)) one.state) i
            ++ (last.small ∙ ap (small_record L vs) mid) i))
            ∙ sym three.small ∙ ap (λ x. small_record x all s) (sym split);
        pasts_are = last.pasts_are ∙ (λ i. noted_all L vs (mid i) ((same ∙ one.pasts_are) i))
            ∙ sym three.pasts ∙ ap (λ x. noted_all x all s ps) (sym split);
      }

  pub parts_back : (ws : List (List Was)) (vs : List Update) (s : State) (ps : Pasts) → WereAlong f.cells ws
      → CanTakeBack (drop 1 (accesses_of f)) (us ++ (backs_listed ws ++ vs)) s ps
      → ThreeBack X (cells_listed C) L us (backs_listed ws) vs s ps
  parts_back ws vs s ps along can =
      three_back X (cells_listed C) L us (backs_listed ws) vs s ps many
      (were_lengths C ws (subst (λ x. WereAlong x ws) (sym e_c) along)) (cells_plain C)
      (subst (λ x. CanTakeBack x (us ++ (backs_listed ws ++ vs)) s ps) split can)

  pub back_state : (ws : List (List Was)) (vs : List Update) (s : State) (ps : Pasts)
      → taken_back (X ++ (cells_listed C ++ L)) (filled (X ++ (cells_listed C ++ L))
      (us ++ (backs_listed ws ++ vs)) ps) s
      ≡ taken_back (drop 1 (accesses_of f)) (filled (drop 1 (accesses_of f)) (us ++ (backs_listed ws ++ vs)) ps) s
  back_state ws vs s ps =
      λ i. taken_back (sym split i) (filled (sym split i) (us ++ (backs_listed ws ++ vs)) ps) s

  pub back_pasts : (ws : List (List Was)) (vs : List Update) (ps : Pasts)
      → popped_all (X ++ (cells_listed C ++ L)) (us ++ (backs_listed ws ++ vs)) ps
      ≡ popped_all (drop 1 (accesses_of f)) (us ++ (backs_listed ws ++ vs)) ps
  back_pasts ws vs ps = λ i. popped_all (sym split i) (us ++ (backs_listed ws ++ vs)) ps
