-- Serials rise.
use Rattle.std.proofs.Common.{◌≡◌, ◌≢◌, List, [], ◌∷◌, ◌++◌, ℕ, ◌+◌, ◌<◌, ◌≤◌, ⊎_elim, arith, sym, ap, ◌∙◌, subst}
use Rattle.std.specs.Prelude.{Contains}
use Rattle.std.proofs.lemmas.List.{map-append}
use Rattle.om_state.specs.declared.step.Entry.{Entry}
use Rattle.om_undo_history.specs.declared.records.UndoRecord.{UndoRecord}
use Rattle.om_undo_history.specs.Records.{entries_of, AreBelow}
use Rattle.om_undo_history.specs.Commands.{Rise}
use Rattle.om_undo_history.proofs.Membership.{Contains-cases, Contains-none, Contains-first, Contains-rest}

pub Rise-push : (low high : ℕ) (es : List Entry) (e : Entry) → Rise low es high → e.serial ≡ high + 1
    → Rise low (es ++ e ∷ []) (high + 1)
Rise-push low high [] e h is = (omega arith, omega arith)
Rise-push low high (x ∷ xs) e h is = (h.0, Rise-push x.serial high xs e h.1 is)

pub Rise-lower : (low lower high : ℕ) (es : List Entry) → lower ≤ low → Rise low es high → Rise lower es high
Rise-lower low lower high [] le h = omega arith
Rise-lower low lower high (e ∷ es) le h = (omega (arith, h.0), h.1)

-- serials rise when an entry is taken out
pub Rise-removed : (low high : ℕ) (before : List UndoRecord) (k : UndoRecord) (later : List UndoRecord)
    → Rise low (entries_of (before ++ k ∷ later)) high → Rise low (entries_of (before ++ later)) high
Rise-removed low high [] k later h = Rise-lower k.entry.serial low high (entries_of later) (omega (arith, h.0)) h.1
Rise-removed low high (x ∷ xs) k later h = (h.0, Rise-removed x.entry.serial high xs k later h.1)

pub Rise-pushed : (high : ℕ) (ks : List UndoRecord) (k : UndoRecord) → Rise 0 (entries_of ks) high
    → k.entry.serial ≡ high + 1 → Rise 0 (entries_of (ks ++ k ∷ [])) (high + 1)
Rise-pushed high ks k h is = subst (λ es. Rise 0 es (high + 1))
    (sym (map-append (λ (x : UndoRecord). x.entry) ks (k ∷ []))) (Rise-push 0 high (entries_of ks) k.entry h is)

rise_end : (low high : ℕ) (es : List Entry) → Rise low es high → low ≤ high
rise_end low high [] h = h
rise_end low high (e ∷ es) h = let more : e.serial ≤ high = rise_end e.serial high es h.1 in omega (arith, h.0)

-- so a serial above the greatest is above all
pub rise_below : (low high : ℕ) (ks : List UndoRecord) → Rise low (entries_of ks) high → AreBelow (high + 1) ks
rise_below low high [] h = tt
rise_below low high (k ∷ ks) h =
    let more : k.entry.serial ≤ high = rise_end k.entry.serial high (entries_of ks) h.1 in
    (omega (arith, more), rise_below k.entry.serial high ks h.1)

-- keys rise above a number
abbrev pub Ascends : {X : Type 0} → (X → ℕ) → ℕ → List X → Type 0
Ascends key low [] = Unit {0}
Ascends key low (x ∷ xs) = (low < key x) × Ascends key (key x) xs

pub ascends_each : {X : Type 0} → (key : X → ℕ) (low : ℕ) (xs : List X) (y : X) → Ascends key low xs → Contains xs y
    → low < key y
ascends_each key low [] y h g = absurd (Contains-none y g)
ascends_each key low (x ∷ xs) y h g =
    ⊎_elim (λ is. subst (λ z. low < key z) is h.0)
    (λ rest. let more : key x < key y = ascends_each key (key x) xs y h.1 rest in omega (arith, h.0))
    (Contains-cases x xs y g)

-- so each key is that of one element
pub ascends_identify : {X : Type 0} → (key : X → ℕ) (low : ℕ) (xs : List X) (a b : X) → Ascends key low xs
    → Contains xs a → Contains xs b → key a ≡ key b → a ≡ b
ascends_identify key low [] a b h at_a at_b is = absurd (Contains-none a at_a)
ascends_identify key low (x ∷ xs) a b h at_a at_b is =
    ⊎_elim
    (λ is_a. ⊎_elim (λ is_b. sym is_a ∙ is_b)
    (λ rest_b. let more : key x < key b = ascends_each key (key x) xs b h.1 rest_b in let same : key x ≡ key a =
    ap key is_a in absurd (omega arith))
    (Contains-cases x xs b at_b))
    (λ rest_a. ⊎_elim
    (λ is_b. let more : key x < key a = ascends_each key (key x) xs a h.1 rest_a in let same : key x ≡ key b =
    ap key is_b in absurd (omega arith))
    (λ rest_b. ascends_identify key (key x) xs a b h.1 rest_a rest_b is)
    (Contains-cases x xs b at_b))
    (Contains-cases x xs a at_a)

pub Rise-ascends : (low high : ℕ) (es : List Entry) → Rise low es high → Ascends (λ (e : Entry). e.serial) low es
Rise-ascends low high [] h = tt
Rise-ascends low high (e ∷ es) h = (h.0, Rise-ascends e.serial high es h.1)

rise_each : (low high : ℕ) (es : List Entry) (e : Entry) → Rise low es high → Contains es e → low < e.serial
rise_each low high es e h at = ascends_each (λ (x : Entry). x.serial) low es e (Rise-ascends low high es h) at

contains_between : (before : List UndoRecord) (k : UndoRecord) (later : List UndoRecord)
    → Contains (entries_of (before ++ k ∷ later)) k.entry
contains_between [] k later = Contains-first k.entry (entries_of later)
contains_between (x ∷ xs) k later = Contains-rest x.entry (entries_of (xs ++ k ∷ later)) k.entry
    (contains_between xs k later)

-- no other entry has the serial of one that is taken out
pub rise_gone : (low high : ℕ) (before : List UndoRecord) (k : UndoRecord) (later : List UndoRecord)
    → Rise low (entries_of (before ++ k ∷ later)) high → (e : Entry) → Contains (entries_of (before ++ later)) e
    → e.serial ≢ k.entry.serial
rise_gone low high [] k later h e at same = let more : k.entry.serial < e.serial =
    rise_each k.entry.serial high (entries_of later) e h.1 at in omega arith
rise_gone low high (x ∷ xs) k later h e at same =
    ⊎_elim
    (λ is. let more : x.entry.serial < k.entry.serial = rise_each x.entry.serial high (entries_of (xs ++ k ∷ later))
    k.entry h.1 (contains_between xs k later) in
    let here : x.entry.serial ≡ e.serial = ap (λ (y : Entry). y.serial) is in omega arith)
    (λ rest. rise_gone x.entry.serial high xs k later h.1 e rest same)
    (Contains-cases x.entry (entries_of (xs ++ later)) e at)
