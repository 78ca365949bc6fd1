-- Receipts, counted one after the other.
use Rattle.std.specs.Prelude.{◌≡◌, ◌≤◌, ◌<◌, ◌+◌, ℕ, List, [], ◌∷◌, length, refl}
use Rattle.std.proofs.Common.{sym, ◌∙◌, subst, inl, inr, arith, add-one, drop, get_or, drop-cons}
use Rattle.std.proofs.lemmas.Grind.{common_steps}
use Rattle.om_book.specs.Standing.{Stands, Counts}
use Rattle.om_book_journal.specs.Records.{JournalRecord}
use Rattle.om_book.specs.declared.receipt.Receipt.{Receipt}

pub drop_first : (xs : List Receipt) (i : ℕ) (x : Receipt) → i < length xs → x ≡ get_or xs i x → drop i xs ≡ x
    ∷ drop (i + 1) xs
drop_first xs i x within is = drop-cons xs i x within ∙ (λ k. sym is k ∷ drop (sym (add-one i) k) xs)

-- one more stands
pub stands_next : (journal : List JournalRecord) (seat opened low m : ℕ) (xs : List Receipt) (i : ℕ) (x : Receipt)
    → i < length xs → x ≡ get_or xs i x
    → Stands journal seat opened low x → Counts journal seat opened (x.place + 1) (drop (i + 1) xs) m
    → Counts journal seat opened low (drop i xs) (m + 1)
stands_next journal seat opened low m xs i x within is h c = rw (drop_first xs i x within is) (inl (h, (m, refl, c)))

-- one that doesn't stand
pub falls_next : (journal : List JournalRecord) (seat opened low m : ℕ) (xs : List Receipt) (i : ℕ) (x : Receipt)
    → i < length xs → x ≡ get_or xs i x
    → ¬ Stands journal seat opened low x → Counts journal seat opened (x.place + 1) (drop (i + 1) xs) m
    → Counts journal seat opened low (drop i xs) m
falls_next journal seat opened low m xs i x within is h c = rw (drop_first xs i x within is) (inr (h, c))

pub drop_past : (xs : List Receipt) (i : ℕ) → length xs ≤ i → drop i xs ≡ []
drop_past xs i past = grind (arith, common_steps)

-- at the end all are counted
pub counts_end : (journal : List JournalRecord) (seat opened low : ℕ) (xs : List Receipt) (i n : ℕ) → length xs ≤ i
    → ((m : ℕ) → Counts journal seat opened low (drop i xs) m → Counts journal seat opened opened xs (n + m))
    → Counts journal seat opened opened xs n
counts_end journal seat opened low xs i n past h =
    let P : List Receipt → Type 0 = λ ys. Counts journal seat opened low ys 0 in
    let Q : ℕ → Type 0 = λ k. Counts journal seat opened opened xs k in
    subst Q (omega arith) (h 0 (subst P (sym (drop_past xs i past)) refl))
