-- Records in a map by serial.
use Rattle.std.proofs.Common.{◌≡◌, refl, sym, ◌∙◌, ap, subst, Bool, true, false, cond, nat_eq, ℕ, zero, suc, ◌<◌, ◌≤◌, arith}
use Rattle.std.proofs.Common.{Some, List, [], ◌∷◌, ◌++◌}
use Rattle.std.specs.Prelude.{slice_get, remove}
use Rattle.std.proofs.lemmas.Bool.{true≢false}
use Rattle.std.proofs.lemmas.Bool.Decides.{Decides-eqb}
use Rattle.std.specs.Ordering.{nat_cmp, is_eq}
use Rattle.std.specs.Cmp.{nat_cmp_is}
use Rattle.std.specs.declared.cmp.Ordering.TheVariants.{Equal, Greater}
use Rattle.std.specs.BTreeMap.{is_at}
use Rattle.std.specs.Map.{lookup, remove_entry, values_of}
use Rattle.om_undo_history.specs.declared.records.UndoRecord.{UndoRecord}
use Rattle.om_undo_history.specs.Records.{AreBelow, AreAbove}
use Rattle.om_undo_history.specs.Touches.{AreBySerial}
use Rattle.om_undo_history.proofs.Touched.{Rising, rising_at, nat_self}

pub at_same : (s q : ℕ) → q ≡ s → is_at (nat_cmp s) q ≡ true
at_same s q e = ap is_eq (sym (nat_cmp_is s q Equal (sym e)))

pub at_other : (s q : ℕ) → q < s → is_at (nat_cmp s) q ≡ false
at_other s q lt = ap is_eq (sym (nat_cmp_is s q Greater lt))

same_at : (s q : ℕ) → is_at (nat_cmp s) q ≡ true → q ≡ s
same_at s q h = grind (arith, h)

pub at_is : (s q : ℕ) → is_at (nat_cmp s) q ≡ nat_eq q s
at_is s q = go (is_at (nat_cmp s) q) (nat_eq q s) refl refl
  where
    go : (a b : Bool) → is_at (nat_cmp s) q ≡ a → nat_eq q s ≡ b → a ≡ b
    go true true e f = refl
    go false false e f = refl
    go true false e f = absurd (true≢false (sym (nat_self s) ∙ ap (λ n. nat_eq n s) (sym (same_at s q e)) ∙ f))
    go false true e f = absurd (true≢false (sym (at_same s q ((Decides-eqb q s).0 f)) ∙ e))

pub rising : (low : ℕ) (es : List (ℕ × UndoRecord)) → AreBySerial low es → Rising low (values_of es)
rising low [] h = tt
rising low (e ∷ es) h = (subst (λ n. low < n) h.1 h.0, subst (λ n. Rising n (values_of es)) h.1 (rising e.0 es h.2))

pub above_zero : (low : ℕ) (es : List (ℕ × UndoRecord)) → AreBySerial low es → AreAbove 0 (values_of es)
above_zero low [] h = tt
above_zero low (e ∷ es) h = (omega (arith, h.0, h.1), above_zero e.0 es h.2)

by_serial-lower : (low lower : ℕ) (es : List (ℕ × UndoRecord)) → lower ≤ low → AreBySerial low es → AreBySerial lower es
by_serial-lower low lower [] le h = tt
by_serial-lower low lower (e ∷ es) le h = (omega (arith, h.0, le), h.1, h.2)

-- the record at an index, and the map without it
pub record IsFound (low : ℕ) (es : List (ℕ × UndoRecord)) (i : ℕ) (k : UndoRecord) : Type 0 where
  pub found : lookup (is_at (nat_cmp k.entry.serial)) es ≡ Some k
  pub left : values_of (remove_entry (is_at (nat_cmp k.entry.serial)) es) ≡ remove (values_of es) i
  pub by_serial : AreBySerial low (remove_entry (is_at (nat_cmp k.entry.serial)) es)

pub is_found : (low : ℕ) (es : List (ℕ × UndoRecord)) (i : ℕ) (k : UndoRecord) → AreBySerial low es
    → slice_get (values_of es) i ≡ Some k → IsFound low es i k
is_found low [] i k h at = cc
is_found low (e ∷ es) zero k h at =
    let is : e.1 ≡ k = cc in
    let here : is_at (nat_cmp k.entry.serial) e.0 ≡ true = at_same k.entry.serial e.0
    (h.1 ∙ ap (λ (x : UndoRecord). x.entry.serial) is) in
    record {
      found = ap (λ b. cond b (Some e.1) (lookup (is_at (nat_cmp k.entry.serial)) es)) here ∙ ap Some is;
      left = ap (λ b. values_of (cond b es (e ∷ remove_entry (is_at (nat_cmp k.entry.serial)) es))) here;
      by_serial = subst (λ b. AreBySerial low (cond b es (e ∷ remove_entry (is_at (nat_cmp k.entry.serial)) es)))
          (sym here) (by_serial-lower e.0 low es (omega (arith, h.0)) h.2);
    }
is_found low (e ∷ es) (suc i) k h at =
    let rest : IsFound e.0 es i k = is_found e.0 es i k h.2 at in
    let less : e.0 < k.entry.serial = rising_at e.0 (values_of es) i k (rising e.0 es h.2) at in
    let here : is_at (nat_cmp k.entry.serial) e.0 ≡ false = at_other k.entry.serial e.0 less in
    record {
      found = ap (λ b. cond b (Some e.1) (lookup (is_at (nat_cmp k.entry.serial)) es)) here ∙ rest.found;
      left = ap (λ b. values_of (cond b es (e ∷ remove_entry (is_at (nat_cmp k.entry.serial)) es))) here
          ∙ ap (λ xs. e.1 ∷ xs) rest.left;
      by_serial = subst (λ b. AreBySerial low (cond b es (e ∷ remove_entry (is_at (nat_cmp k.entry.serial)) es)))
          (sym here) (h.0, h.1, rest.by_serial);
    }

-- what a look-up finds stands at an index
pub record Stands (es : List (ℕ × UndoRecord)) (s : ℕ) (k : UndoRecord) : Type 0 where
  pub i : ℕ
  pub at : slice_get (values_of es) i ≡ Some k
  pub serial_is : k.entry.serial ≡ s

pub stands : (low : ℕ) (es : List (ℕ × UndoRecord)) (s : ℕ) (k : UndoRecord) → AreBySerial low es
    → lookup (is_at (nat_cmp s)) es ≡ Some k → Stands es s k
stands low [] s k h found = cc
stands low (e ∷ es) s k h found = go (is_at (nat_cmp s) e.0) refl found (λ f. stands e.0 es s k h.2 f)
  where
    go : (b : Bool) → is_at (nat_cmp s) e.0 ≡ b → cond b (Some e.1) (lookup (is_at (nat_cmp s)) es) ≡ Some k
        → (lookup (is_at (nat_cmp s)) es ≡ Some k → Stands es s k) → Stands (e ∷ es) s k
    go true here f later =
        let is : e.1 ≡ k = cc in
        record {
          i = 0;
          at = ap Some is;
          serial_is = ap (λ (x : UndoRecord). x.entry.serial) (sym is) ∙ sym h.1 ∙ same_at s e.0 here;
        }
    go false here f later =
        let rest : Stands es s k = later f in
        record { i = suc rest.i; at = rest.at; serial_is = rest.serial_is }

-- a record whose serial is above the others goes behind them
pub values-push : (es : List (ℕ × UndoRecord)) (s : ℕ) (k : UndoRecord)
    → values_of (es ++ (s, k) ∷ []) ≡ values_of es ++ k ∷ []
values-push [] s k = refl
values-push (e ∷ es) s k = ap (λ xs. e.1 ∷ xs) (values-push es s k)

pub by_serial-push : (low : ℕ) (es : List (ℕ × UndoRecord)) (s : ℕ) (k : UndoRecord) → AreBySerial low es → low < s
    → s ≡ k.entry.serial → AreBelow s (values_of es) → AreBySerial low (es ++ (s, k) ∷ [])
by_serial-push low [] s k h above is below = (above, is, tt)
by_serial-push low (e ∷ es) s k h above is below =
    (h.0, h.1, by_serial-push e.0 es s k h.2 (subst (λ n. n < s) (sym h.1) below.0) is below.1)
