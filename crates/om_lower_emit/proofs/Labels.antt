-- New labels, one behind the other.
use Rattle.std.proofs.Common.{◌≡◌, ℕ, zero, suc, ◌+◌, List, [], ◌∷◌, ◌++◌, None, length, refl, sym, ap, ◌∙◌, arith}
use Rattle.std.proofs.Common.{length-append}
use Rattle.std.proofs.lemmas.List.{append_assoc}
use Rattle.om_lower_emit.specs.Drafts.{Fresh, FreshLabels, Written, labels_from, unplaced}

-- one more at the end
labels_end : (first count : ℕ) → labels_from first (count + 1) ≡ labels_from first count ++ (first + count) ∷ []
labels_end first zero = ap (λ l. l ∷ []) (omega arith)
labels_end first (suc count) =
    let long : suc count + 1 ≡ suc (count + 1) = omega arith in
    let last : first + 1 + count ≡ first + suc count = omega arith in
    ap (labels_from first) long ∙ ap (λ rest. first ∷ rest) (labels_end (first + 1) count)
    ∙ ap (λ l. first ∷ (labels_from (first + 1) count ++ l ∷ [])) last

unplaced_end : (count : ℕ) → unplaced (count + 1) ≡ unplaced count ++ None ∷ []
unplaced_end zero = refl
unplaced_end (suc count) =
    let long : suc count + 1 ≡ suc (count + 1) = omega arith in
    ap unplaced long ∙ ap (λ rest. None ∷ rest) (unplaced_end count)

unplaced_length : (count : ℕ) → length (unplaced count) ≡ count
unplaced_length zero = refl
unplaced_length (suc count) = ap suc (unplaced_length count)

pub labels_next : (labels new : List ℕ) (count label : ℕ) (a b c : Written) → FreshLabels labels count a b
    → Fresh label b c → new ≡ labels ++ label ∷ [] → FreshLabels new (count + 1) a c
labels_next labels new count label a b c h f grown =
    let behind : label ≡ length a.places + count =
    omega (arith, f.is, ap length h.places, length-append a.places (unplaced count), unplaced_length count) in
    record {
      code = f.code ∙ h.code;
      are = grown ∙ ap (λ l. labels ++ l ∷ []) behind ∙ ap (λ all. all ++ (length a.places + count) ∷ []) h.are
          ∙ sym (labels_end (length a.places) count);
      fit = λ some. omega (arith, behind, f.fits);
      places = f.places ∙ ap (λ all. all ++ None ∷ []) h.places ∙ append_assoc a.places (unplaced count) (None ∷ [])
          ∙ ap (λ all. a.places ++ all) (sym (unplaced_end count));
      picks = f.picks ∙ h.picks;
    }
