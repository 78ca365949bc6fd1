-- Where all receipts stand and there are as many as records, each record is one receipt.
use Rattle.std.specs.Prelude.{◌≡◌, ◌≢◌, ◌≤◌, ◌+◌, ℕ, zero, suc, Bool, true, false, cond, nat_eq, nat_lt, All, ◌⊎◌, List}
use Rattle.std.specs.Prelude.{[], ◌∷◌, length, drop, slice_get, Some, refl, sum_by}
use Rattle.std.proofs.Common.{sym, ◌∙◌, ap, subst, inl, inr, arith, drop-drop, length-drop}
use Rattle.std.proofs.lemmas.Bool.Decides.{nat_tests}
use Rattle.std.proofs.lemmas.Grind.{common_steps}
use Rattle.std.proofs.lemmas.Option.{slice_get_within}
use Rattle.std.proofs.lemmas.List.Sums.{sum_by-cons}
use Rattle.std.specs.List.{AllByRecursion}
use Rattle.om_book.specs.Seats.{SeatView}
use Rattle.om_book.specs.Standing.{Counts, CountsAll, calls_of, receipts_in, AllDiffer, IsSeat, Covers}
use Rattle.om_book_journal.specs.Records.{JournalRecord}
use Rattle.om_book.specs.declared.receipt.Receipt.{Receipt}

-- each receipt stands, from a place on
abbrev pub AllStand : List JournalRecord → ℕ → ℕ → List Receipt → Type 0
AllStand journal seat low [] = Unit {0}
AllStand journal seat low (r ∷ rs) = ((low ≤ r.place)
    × (slice_get journal r.place ≡ Some (record { seat = seat; command = r.command; reply = r.reply })))
    × AllStand journal seat (r.place + 1) rs

pub counts_most : (journal : List JournalRecord) (seat opened low : ℕ) (rs : List Receipt) (n : ℕ)
    → Counts journal seat opened low rs n → n ≤ length rs
counts_most journal seat opened low [] n h = omega (arith, h)
counts_most journal seat opened low (r ∷ rs) n (inl h) = omega (
  arith,
  h.1.1,
  counts_most journal seat opened
      (r.place + 1) rs h.1.0 h.1.2,
)
counts_most journal seat opened low (r ∷ rs) n (inr h) = omega (
  arith,
  counts_most journal seat opened (r.place + 1)
      rs n h.1,
)

pub counts_all : (journal : List JournalRecord) (seat opened low : ℕ) (rs : List Receipt) (n : ℕ)
    → Counts journal seat opened low rs n → n ≡ length rs → AllStand journal seat low rs
counts_all journal seat opened low [] n h e = tt
counts_all journal seat opened low (r ∷ rs) n (inl h) e = (
  (h.0.1, h.0.2),
  counts_all journal seat opened
      (r.place + 1) rs h.1.0 h.1.2 (omega (arith, h.1.1, e)),
)
counts_all journal seat opened low (r ∷ rs) n (inr h) e = absurd
    (omega (arith, e, counts_most journal seat opened (r.place + 1) rs n h.1))

pub some_same : (x y : JournalRecord) → Some x ≡ Some y → x ≡ y
some_same x y e = cc

pub no_nat_eq : (a b : ℕ) → a ≢ b → nat_eq a b ≡ false
no_nat_eq a b h = grind (arith, nat_tests)

-- the head and the rest of a dropped list
pub drop_head : (js : List JournalRecord) (at : ℕ) (y : JournalRecord) (more : List JournalRecord) → drop at js ≡ y
    ∷ more → slice_get js at ≡ Some y
drop_head [] at y more e = grind (arith, common_steps)
drop_head (x ∷ xs) zero y more e = cc
drop_head (x ∷ xs) (suc k) y more e = drop_head xs k y more e

pub drop_rest : (js : List JournalRecord) (at : ℕ) (y : JournalRecord) (more : List JournalRecord) → drop at js ≡ y
    ∷ more → drop (at + 1) js ≡ more
drop_rest js at y more e = sym (drop-drop 1 at js) ∙ ap (λ zs. drop 1 zs) e

pub get_none : (js : List JournalRecord) (at place : ℕ) (y : JournalRecord) → drop at js ≡ [] → at ≤ place
    → slice_get js place ≡ Some y → ⊥
get_none js at place y e h g = omega (arith, ap (λ zs. length zs) e, length-drop at js, slice_get_within js place y g)

pub nil_of : (rs : List Receipt) → 0 ≡ length rs → [] ≡ rs
nil_of [] e = refl
nil_of (r ∷ rs) e = absurd (omega (arith, e))

pub split_by : (a b : ℕ) (t : Bool) → nat_lt a b ≡ t → a ≤ b → (b ≡ a) ⊎ (a + 1 ≤ b)
split_by a b true is h = inr (grind (arith, nat_tests))
split_by a b false is h = inl (grind (arith, nat_tests))

pub calls_own : (seat place : ℕ) (y : JournalRecord) (more : List JournalRecord) → y.seat ≡ seat
    → calls_of seat place (y ∷ more) ≡ record { place = place; command = y.command; reply = y.reply }
    ∷ calls_of seat (place + 1) more
calls_own seat place y more is = let t : nat_eq y.seat seat ≡ true = grind (arith, nat_tests) in rw t refl

pub cond_shorter : (b : Bool) (x : Receipt) (l : List Receipt) → (length l ≤ length (cond b (x ∷ l) l))
    × (length l ≡ length (cond b (x ∷ l) l) → l ≡ cond b (x ∷ l) l)
cond_shorter true x l = (omega arith, λ e. absurd (omega (arith, e)))
cond_shorter false x l = (omega arith, λ e. refl)

-- receipts that stand are no more than the seat's calls, and where they are as many they are these
pub receipts_fit : (journal : List JournalRecord) (seat low : ℕ) (ys : List JournalRecord) (rs : List Receipt)
    → drop low journal ≡ ys → AllStand journal seat low rs
    → (length rs ≤ length (calls_of seat low ys)) × (length rs ≡ length (calls_of seat low ys) → rs
    ≡ calls_of seat low ys)
receipts_fit journal seat low [] [] e h = (omega arith, λ same. refl)
receipts_fit journal seat low [] (r ∷ rs) e h = absurd
    (get_none journal low r.place (record { seat = seat; command = r.command; reply = r.reply }) e h.0.0 h.0.1)
receipts_fit journal seat low (y ∷ more) [] e h = (omega arith, λ same. nil_of (calls_of seat low (y ∷ more)) same)
receipts_fit journal seat low (y ∷ more) (r ∷ rs) e h =
    elim (split_by low r.place (nat_lt low r.place) refl h.0.0) [
      | inl here ↦
          let made : JournalRecord = record { seat = seat; command = r.command; reply = r.reply } in
          let got : slice_get journal low ≡ Some made = ap (λ k. slice_get journal k) (sym here) ∙ h.0.1 in
          let own : y ≡ made = some_same y made (sym (drop_head journal low y more e) ∙ got) in
          let calls = calls_own seat low y more (ap (λ z. z.seat) own) in
          let P : ℕ → Type 0 = λ k. AllStand journal seat (k + 1) rs in
          let rest = receipts_fit journal seat (low + 1) more rs (drop_rest journal low y more e) (subst P here h.1) in
          let first : r ≡ record { place = low; command = y.command; reply = y.reply } =
          (λ k. record { place = here k; command = (sym own k).command; reply = (sym own k).reply }) in (
            rw calls (omega (arith, rest.0)),
            λ same. (let tail = rest.1 (omega (arith, same, ap (λ zs. length zs) calls)) in (λ k. first k ∷ tail k))
                ∙ sym calls,
          )
      | inr above ↦
          let rest = receipts_fit journal seat (low + 1) more (r ∷ rs) (drop_rest journal low y more e)
          ((above, h.0.1), h.1) in
          let shorter = cond_shorter (nat_eq y.seat seat)
          (record { place = low; command = y.command; reply = y.reply }) (calls_of seat (low + 1) more) in (
            omega (arith, rest.0, shorter.0),
            λ same. rest.1 (omega (arith, same, rest.0, shorter.0))
                ∙ shorter.1 (omega (arith, same, rest.0, shorter.0)),
          )
    ]

-- f of each, added up
abbrev pub sum_of : (SeatView → ℕ) → List SeatView → ℕ
sum_of f [] = 0
sum_of f (s ∷ ss) = f s + sum_of f ss

pub sum_of-is : (f : SeatView → ℕ) (ss : List SeatView) → sum_by f ss ≡ sum_of f ss
sum_of-is f [] = refl
sum_of-is f (s ∷ ss) = sum_by-cons f s ss ∙ ap (λ n. f s + n) (sum_of-is f ss)

abbrev pub called : ℕ → List JournalRecord → SeatView → ℕ
called place ys s = length (calls_of s.number place ys)

-- how many seats have the number
abbrev pub hits : ℕ → List SeatView → ℕ
hits n [] = 0
hits n (s ∷ ss) = cond (nat_eq n s.number) 1 0 + hits n ss

pub hits_none : (n : ℕ) (ss : List SeatView) → AllByRecursion (λ (t : SeatView). t.number ≢ n) ss → hits n ss ≡ 0
hits_none n [] h = refl
hits_none n (s ∷ ss) h =
    let differ = h.0 in
    let t : nat_eq n s.number ≡ false = no_nat_eq n s.number (λ e. differ (sym e)) in rw (t, hits_none n ss h.1)
    (omega arith)

pub hits_one_by : (n : ℕ) (s : SeatView) (ss : List SeatView) (b : Bool) → nat_eq n s.number ≡ b
    → AllByRecursion (λ (t : SeatView). t.number ≢ s.number) ss → hits n ss ≤ 1 → cond b 1 0 + hits n ss ≤ 1
hits_one_by n s ss true is apart h =
    let same : n ≡ s.number = grind (arith, nat_tests) in
    omega (arith, ap (λ k. hits k ss) same, hits_none s.number ss apart)
hits_one_by n s ss false is apart h = omega (arith, h)

pub hits_one : (n : ℕ) (ss : List SeatView) → AllDiffer ss → hits n ss ≤ 1
hits_one n [] h = omega arith
hits_one n (s ∷ ss) h = hits_one_by n s ss (nat_eq n s.number) refl h.0 (hits_one n ss h.1)

pub hits_seat_by : (n : ℕ) (s : SeatView) (ss : List SeatView) (b : Bool) → nat_eq n s.number ≡ b
    → (hits n ss ≡ 1 → IsSeat ss n) → cond b 1 0 + hits n ss ≡ 1 → IsSeat (s ∷ ss) n
hits_seat_by n s ss true is rest h = inl (grind (arith, nat_tests))
hits_seat_by n s ss false is rest h = inr (rest (omega (arith, h)))

pub hits_seat : (n : ℕ) (ss : List SeatView) → hits n ss ≡ 1 → IsSeat ss n
hits_seat n [] h = absurd (omega (arith, h))
hits_seat n (s ∷ ss) h = hits_seat_by n s ss (nat_eq n s.number) refl (hits_seat n ss) h

pub cond_length : (b : Bool) (x : Receipt) (l : List Receipt) → length (cond b (x ∷ l) l) ≡ cond b 1 0 + length l
cond_length true x l = omega arith
cond_length false x l = omega arith

pub called_step : (place : ℕ) (y : JournalRecord) (more : List JournalRecord) (ss : List SeatView)
    → sum_of (called place (y ∷ more)) ss ≡ hits y.seat ss + sum_of (called (place + 1) more) ss
called_step place y more [] = omega arith
called_step place y more (s ∷ ss) =
    omega (
      arith,
      called_step place y more ss,
      cond_length (nat_eq y.seat s.number)
          (record { place = place; command = y.command; reply = y.reply }) (calls_of s.number (place + 1) more),
    )

pub called_none : (place : ℕ) (ss : List SeatView) → sum_of (called place []) ss ≡ 0
called_none place [] = refl
called_none place (s ∷ ss) = omega (arith, called_none place ss)

pub called_most : (place : ℕ) (ys : List JournalRecord) (ss : List SeatView) → AllDiffer ss
    → sum_of (called place ys) ss ≤ length ys
called_most place [] ss h = omega (arith, called_none place ss)
called_most place (y ∷ more) ss h = omega (
  arith,
  called_step place y more ss,
  hits_one y.seat ss h,
  called_most
      (place + 1) more ss h,
)

pub called_all : (place : ℕ) (ys : List JournalRecord) (ss : List SeatView) → AllDiffer ss
    → sum_of (called place ys) ss ≡ length ys → AllByRecursion (λ (r : JournalRecord). IsSeat ss r.seat) ys
called_all place [] ss h e = tt
called_all place (y ∷ more) ss h e =
    let step = called_step place y more ss in
    let one = hits_one y.seat ss h in
    let most = called_most (place + 1) more ss h in (
      hits_seat y.seat ss (omega (arith, step, one, most, e)),
      called_all (place + 1) more ss h (omega (arith, step, one, most, e)),
    )

pub counts_all_most : (journal : List JournalRecord) (opened : ℕ) (ss : List SeatView) (n : ℕ) → CountsAll journal
    opened ss n → n ≤ sum_of receipts_in ss
counts_all_most journal opened [] n h = omega (arith, h)
counts_all_most journal opened (s ∷ ss) n h =
    omega (
      arith,
      h.2,
      counts_most journal s.number opened opened s.receipts h.0 h.3,
      counts_all_most journal opened
          ss h.1 h.4,
    )

pub seats_fit : (journal : List JournalRecord) (opened : ℕ) (ss : List SeatView) (n : ℕ) → CountsAll journal opened
    ss n → n ≡ sum_of receipts_in ss
    → (sum_of receipts_in ss ≤ sum_of (called opened (drop opened journal)) ss)
    × (sum_of receipts_in ss ≡ sum_of (called opened (drop opened journal)) ss
    → AllByRecursion (λ (s : SeatView). s.receipts ≡ calls_of s.number opened (drop opened journal)) ss)
seats_fit journal opened [] n h e = (omega arith, λ same. tt)
seats_fit journal opened (s ∷ ss) n h e =
    let mine = counts_most journal s.number opened opened s.receipts h.0 h.3 in
    let theirs = counts_all_most journal opened ss h.1 h.4 in
    let stand = counts_all journal s.number opened opened s.receipts h.0 h.3 (omega (arith, h.2, e, mine, theirs)) in
    let fit = receipts_fit journal s.number opened (drop opened journal) s.receipts refl stand in
    let rest = seats_fit journal opened ss h.1 h.4 (omega (arith, h.2, e, mine, theirs)) in (
      omega (arith, fit.0, rest.0),
      λ same. (fit.1 (omega (arith, fit.0, rest.0, same)), rest.1 (omega (arith, fit.0, rest.0, same))),
    )

pub to_all : {X : Type 0} (P : X → Type 0) (xs : List X) → AllByRecursion P xs → All P xs
to_all P [] h k d within = absurd (omega (arith, within))
to_all P (x ∷ xs) h zero d within = h.0
to_all P (x ∷ xs) h (suc k) d within = to_all P xs h.1 k d (omega (arith, within))

pub covers : (journal : List JournalRecord) (opened calls standing : ℕ) (ss : List SeatView) → AllDiffer ss
    → length journal ≡ opened + calls → calls ≡ sum_by receipts_in ss
    → CountsAll journal opened ss standing → standing ≡ calls → Covers journal opened ss
covers journal opened calls standing ss differ long counted stand same =
    let total = sum_of-is receipts_in ss in
    let left = length-drop opened journal in
    let fit = seats_fit journal opened ss standing stand (same ∙ counted ∙ total) in
    let most = called_most opened (drop opened journal) ss differ in record {
      receipts = to_all (λ (s : SeatView). s.receipts ≡ calls_of s.number opened (drop opened journal)) ss
          (fit.1 (omega (arith, total, left, fit.0, most, long, counted)));
      records = to_all (λ (r : JournalRecord). IsSeat ss r.seat) (drop opened journal)
          (called_all opened (drop opened journal) ss differ (omega (arith, total, left, fit.0, most, long, counted)));
    }
