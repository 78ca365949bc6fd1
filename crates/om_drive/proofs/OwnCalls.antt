-- A call more that is the worker's own, and the records of own calls.
use Rattle.std.specs.Prelude.{◌≡◌, ◌+◌, ℕ, zero, suc, Bool, true, false, cond, not, nat_eq, refl}
use Rattle.std.specs.Prelude.{List, [], ◌∷◌, ◌++◌, map, drop, length}
use Rattle.std.specs.List.{AllByRecursion}
use Rattle.std.proofs.Common.{◌∙◌, ap, subst, sym, arith, append-nil, inl, inr}
use Rattle.std.proofs.lemmas.Bool.Decides.{nat_tests}
use Rattle.std.proofs.lemmas.List.{length-map, map-append}
use Rattle.std.proofs.lemmas.List.Elements.{filter-append, recursion_from_All}
use Rattle.om_state.specs.declared.step.Choice.{Choice}
use Rattle.om_book_journal.specs.Records.{JournalRecord}
use Rattle.om_book_journal.specs.declared.command.Command.TheVariants as command
use Rattle.om_book_journal.specs.declared.command.Query.TheVariants as query
use Rattle.om_book_journal.specs.declared.reply.Reply.{Reply}
use Rattle.om_book.specs.Seats.{SeatView, seats_below}
use Rattle.om_book.specs.Standing.{calls_of, number_of, Covers, IsSeat}
use Rattle.om_book.specs.declared.receipt.Receipt.{Receipt}
use Rattle.om_drive.specs.DistinctSeats.{seats_many}
use Rattle.om_drive.specs.OwnCalls.{is_own_call, others_in, others_from, receipts_of, AreOwnCalls}

-- with an own call more the others are the same
own_behind : (worker : ℕ) (now before : List Receipt) (r : Receipt) → now ≡ before ++ r ∷ []
    → is_own_call worker r.command ≡ true → others_in worker now ≡ others_in worker before
own_behind worker now before r e own =
    ap (others_in worker) e ∙ filter-append (λ x. not (is_own_call worker x.command)) before (r ∷ [])
    ∙ rw own (append-nil (others_in worker before))

same_number : (n : ℕ) → nat_eq n n ≡ true
same_number n = grind (arith, nat_tests)

-- a step of its own
pub own_step : (worker at : ℕ) (choice : Choice) (x : Reply) (now before : List Receipt) → now
    ≡ before ++ record { place = at; command = command.Step worker choice; reply = x } ∷ []
    → others_in worker now ≡ others_in worker before
own_step worker at choice x now before e =
    own_behind worker now before (record { place = at; command = command.Step worker choice; reply = x }) e
    (same_number worker)

-- the question which task is the first that is ready
pub own_look : (worker at : ℕ) (x : Reply) (now before : List Receipt) → now
    ≡ before ++ record { place = at; command = command.Look query.FirstReady; reply = x } ∷ []
    → others_in worker now ≡ others_in worker before
own_look worker at x now before e =
    own_behind worker now before (record { place = at; command = command.Look query.FirstReady; reply = x }) e refl

others_last : (worker : ℕ) (xs : List (List Receipt)) (x : List Receipt) → others_from worker (xs ++ x ∷ [])
    ≡ others_from worker xs ++ others_in (worker + length xs) x ∷ []
others_last worker [] x =
    let same : worker ≡ worker + 0 = omega arith in ap (λ w. others_in w x ∷ []) same
others_last worker (y ∷ xs) x =
    let same : suc worker + length xs ≡ worker + suc (length xs) = omega arith in
    ap (λ more. others_in worker y ∷ more)
    (others_last (suc worker) xs x ∙ ap (λ w. others_from (suc worker) xs ++ others_in w x ∷ []) same)

length-others : (worker : ℕ) (xs : List (List Receipt)) → length (others_from worker xs) ≡ length xs
length-others worker [] = refl
length-others worker (x ∷ xs) = ap suc (length-others (suc worker) xs)

-- those of one more that the worker behind the others drives
last_one : {A : Type 0} (made : A → List Receipt) (all xs : List A) (x : A) → all ≡ xs ++ x ∷ []
    → others_from 0 (map made all) ≡ others_from 0 (map made xs) ++ others_in (length xs) (made x) ∷ []
last_one made all xs x e =
    let many : 0 + length (map made xs) ≡ length xs = omega (arith, length-map xs made) in
    ap (λ ys. others_from 0 (map made ys)) e ∙ ap (others_from 0) (map-append made xs (x ∷ []))
    ∙ others_last 0 (map made xs) (made x)
    ∙ ap (λ n. others_from 0 (map made xs) ++ others_in n (made x) ∷ []) many

-- one debuggee more is back, with own calls of its worker
pub own_back : {A : Type 0} (made : A → List Receipt) (now back all waiting : List A) (x y : A) (worker : ℕ)
    → now ≡ back ++ y ∷ [] → all ≡ waiting ++ x ∷ [] → others_from 0 (map made back) ≡ others_from 0 (map made waiting)
    → worker ≡ length waiting → others_in worker (made y) ≡ others_in worker (made x)
    → others_from 0 (map made now) ≡ others_from 0 (map made all)
own_back made now back all waiting x y worker is_now is_all same is_worker own =
    let long : length back ≡ length waiting =
    sym (length-map back made) ∙ sym (length-others 0 (map made back)) ∙ ap length same
    ∙ length-others 0 (map made waiting) ∙ length-map waiting made in
    let told : others_in (length back) (made y) ≡ others_in (length waiting) (made x) =
    ap (λ n. others_in n (made y)) (long ∙ sym is_worker) ∙ own ∙ ap (λ n. others_in n (made x)) is_worker in
    last_one made now back y is_now ∙ ap (λ o. others_from 0 (map made back) ++ o ∷ []) told
    ∙ ap (λ os. os ++ others_in (length waiting) (made x) ∷ []) same ∙ sym (last_one made all waiting x is_all)

-- the calls of those that sit are those of their seats
pub seated_calls : {S : Type 0} (seat : S → SeatView) (ss : List S) → map (λ s. (seat s).receipts) ss
    ≡ map receipts_of (map seat ss)
seated_calls seat [] = refl
seated_calls seat (s ∷ ss) = ap (λ more. (seat s).receipts ∷ more) (seated_calls seat ss)

-- each number is the place from this one on
abbrev pub AreNumbered : ℕ → List ℕ → Type 0
AreNumbered n [] = Unit {0}
AreNumbered n (k ∷ ks) = (k ≡ n) × AreNumbered (suc n) ks

numbered_last : (n : ℕ) (ks : List ℕ) (k : ℕ) → AreNumbered n ks → k ≡ n + length ks → AreNumbered n (ks ++ k ∷ [])
numbered_last n [] k h e = (omega (arith, e), tt)
numbered_last n (j ∷ ks) k h e = (h.0, numbered_last (suc n) ks k h.1 (omega (arith, e)))

pub numbered_below : (n : ℕ) → AreNumbered 0 (map number_of (seats_below n))
numbered_below zero = tt
numbered_below (suc n) =
    let s : SeatView = record { number = n; receipts = [] } in
    subst (AreNumbered 0) (sym (map-append number_of (seats_below n) (s ∷ [])))
    (numbered_last 0 (map number_of (seats_below n)) n (numbered_below n)
    (omega (arith, seats_many n, length-map (seats_below n) number_of)))

-- there is none in each of these
abbrev pub AreNone : List (List Receipt) → Type 0
AreNone rss = AllByRecursion (λ (rs : List Receipt). rs ≡ []) rss

pub none_last : (rss : List (List Receipt)) (rs : List Receipt) → AreNone rss → rs ≡ [] → AreNone (rss ++ rs ∷ [])
none_last [] rs h e = (e, tt)
none_last (xs ∷ rss) rs h e = (h.0, none_last rss rs h.1 e)

none_below : (n : ℕ) → AreNone (others_from 0 (map receipts_of (seats_below n)))
none_below zero = tt
none_below (suc n) =
    let s : SeatView = record { number = n; receipts = [] } in
    subst AreNone (sym (last_one receipts_of (seats_below (suc n)) (seats_below n) s refl))
    (none_last (others_from 0 (map receipts_of (seats_below n))) [] (none_below n) refl)

-- a seat made own calls of the worker of its number alone
abbrev IsOwn : SeatView → Type 0
IsOwn s = others_in s.number s.receipts ≡ []

own_seats : (n : ℕ) (ss : List SeatView) → AreNumbered n (map number_of ss) → AreNone
    (others_from n (map receipts_of ss)) → AllByRecursion IsOwn ss
own_seats n [] numbered none = tt
own_seats n (s ∷ ss) numbered none =
    (ap (λ k. others_in k s.receipts) numbered.0 ∙ none.0, own_seats (suc n) ss numbered.1 none.1)

-- the records of each seat from a place on are own calls
abbrev AreOwnFrom : ℕ → List JournalRecord → List SeatView → Type 0
AreOwnFrom at records ss = AllByRecursion (λ (s : SeatView). others_in s.number (calls_of s.number at records) ≡ []) ss

own_from : (at : ℕ) (records : List JournalRecord) (ss : List SeatView) → AllByRecursion IsOwn ss
    → AllByRecursion (λ (s : SeatView). s.receipts ≡ calls_of s.number at records) ss → AreOwnFrom at records ss
own_from at records [] own is = tt
own_from at records (s ∷ ss) own is =
    (sym (ap (others_in s.number) is.0) ∙ own.0, own_from at records ss own.1 is.1)

none_behind : (own : Bool) (r : Receipt) (rs : List Receipt) → cond (not own) (r ∷ rs) rs ≡ [] → (own ≡ true) × (rs ≡ [])
none_behind true r rs e = (refl, e)
none_behind false r rs e = absurd cc

-- what is known of a record and of those behind it, by whether it is the seat's
split : (seat at : ℕ) (r : JournalRecord) (rs : List JournalRecord) (mine : Bool) → nat_eq r.seat seat ≡ mine
    → others_in seat (cond mine (record { place = at; command = r.command; reply = r.reply } ∷ calls_of seat (at + 1) rs)
    (calls_of seat (at + 1) rs)) ≡ []
    → (r.seat ≡ seat → is_own_call seat r.command ≡ true) × (others_in seat (calls_of seat (at + 1) rs) ≡ [])
split seat at r rs true is e =
    let both = none_behind (is_own_call seat r.command) (record { place = at; command = r.command; reply = r.reply })
    (others_in seat (calls_of seat (at + 1) rs)) e in (λ same. both.0, both.1)
split seat at r rs false is e =
    (λ same. absurd (grind (arith, nat_tests)), e)

rest_own : (at : ℕ) (r : JournalRecord) (rs : List JournalRecord) (ss : List SeatView) → AreOwnFrom at (r ∷ rs) ss
    → AreOwnFrom (at + 1) rs ss
rest_own at r rs [] h = tt
rest_own at r rs (s ∷ ss) h = ((split s.number at r rs (nat_eq r.seat s.number) refl h.0).1, rest_own at r rs ss h.1)

first_own : (at : ℕ) (r : JournalRecord) (rs : List JournalRecord) (ss : List SeatView) → AreOwnFrom at (r ∷ rs) ss
    → IsSeat ss r.seat → is_own_call r.seat r.command ≡ true
first_own at r rs [] h is = absurd is
first_own at r rs (s ∷ ss) h (inl is) =
    ap (λ n. is_own_call n r.command) (sym is) ∙ (split s.number at r rs (nat_eq r.seat s.number) refl h.0).0 (sym is)
first_own at r rs (s ∷ ss) h (inr is) = first_own at r rs ss h.1 is

own_records : (at : ℕ) (records : List JournalRecord) (ss : List SeatView) → AreOwnFrom at records ss
    → AllByRecursion (λ (r : JournalRecord). IsSeat ss r.seat) records → AreOwnCalls records
own_records at [] ss h are = tt
own_records at (r ∷ rs) ss h are =
    (first_own at r rs ss h are.0, own_records (at + 1) rs ss (rest_own at r rs ss h) are.1)

-- where new seats came back with own calls alone, and their receipts are all records since the opening, these are own
-- calls
pub own_covered : (n at : ℕ) (journal : List JournalRecord) (seats ss : List SeatView) → seats ≡ seats_below n
    → map number_of ss ≡ map number_of seats
    → others_from 0 (map receipts_of ss) ≡ others_from 0 (map receipts_of seats) → Covers journal at ss
    → AreOwnCalls (drop at journal)
own_covered n at journal seats ss new numbers own covers =
    let records = drop at journal in
    let numbered : AreNumbered 0 (map number_of ss) =
    subst (AreNumbered 0) (sym (numbers ∙ ap (λ ts. map number_of ts) new)) (numbered_below n) in
    let none : AreNone (others_from 0 (map receipts_of ss)) =
    subst AreNone (sym (own ∙ ap (λ ts. others_from 0 (map receipts_of ts)) new)) (none_below n) in
    let is = recursion_from_All (λ (s : SeatView). s.receipts ≡ calls_of s.number at records) ss covers.receipts in
    let are = recursion_from_All (λ (r : JournalRecord). IsSeat ss r.seat) records covers.records in
    own_records at records ss (own_from at records ss (own_seats 0 ss numbered none) is) are
