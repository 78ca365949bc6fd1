-- Calls in turn, one after the other.
use Rattle.std.specs.Prelude.{◌≡◌, ◌+◌, ℕ, zero, suc, Bool, true, false, cond, nat_eq, refl}
use Rattle.std.specs.Prelude.{List, [], ◌∷◌, ◌++◌, map, drop, length, Result, OnOk, OnErr}
use Rattle.std.proofs.Common.{◌∙◌, ◌⊎◌, ap, subst, sym, arith, append-nil, append_assoc, inl, inr, true≢false, eqb-true}
use Rattle.std.proofs.Common.{eq-eqb}
use Rattle.std.specs.List.{AllByRecursion}
use Rattle.std.proofs.lemmas.List.Elements.{recursion_from_All}
use Rattle.std.proofs.lemmas.List.{map-append}
use Rattle.std.proofs.lemmas.Result.{on_ok_weaker, on_err_weaker}
use Rattle.om_book_journal.specs.declared.command.Command.{Command}
use Rattle.om_book_journal.specs.declared.reply.Reply.{Reply}
use Rattle.om_book_journal.specs.Records.{JournalRecord}
use Rattle.om_book.specs.Seats.{SeatView, seats_below}
use Rattle.om_book.specs.Standing.{calls_of, number_of, Covers, IsSeat}
use Rattle.om_book.specs.declared.receipt.Receipt.{Receipt}
use Rattle.om_drive.specs.Calls.{AddsReceipt}
use Rattle.om_drive.specs.OwnCalls.{receipts_of}
use Rattle.om_drive.proofs.OwnCalls.{AreNumbered, numbered_below, AreNone, none_last}
use Rattle.om_drive.specs.Turns.{waits, next_step, ready_question, call_after, AreInTurn}
use Rattle.om_drive.specs.Turns.{call_after_all, GoesInTurn, MakesRound, RunsInTurn, EachRunsInTurn}

turn_append : (worker : ℕ) (next : Command) (xs ys : List Receipt) → AreInTurn worker next xs
    → AreInTurn worker (call_after_all worker next xs) ys → AreInTurn worker next (xs ++ ys)
turn_append worker next [] ys h k = k
turn_append worker next (r ∷ xs) ys h k =
    (h.0, turn_append worker (call_after worker r.command r.reply) xs ys h.1 k)

after_append : (worker : ℕ) (next : Command) (xs ys : List Receipt) → call_after_all worker next (xs ++ ys)
    ≡ call_after_all worker (call_after_all worker next xs) ys
after_append worker next [] ys = refl
after_append worker next (r ∷ xs) ys = after_append worker (call_after worker r.command r.reply) xs ys

joined : (old mid new xs ys : List Receipt) → mid ≡ old ++ xs → new ≡ mid ++ ys → new ≡ old ++ (xs ++ ys)
joined old mid new xs ys e f = f ∙ ap (λ l. l ++ ys) e ∙ append_assoc old xs ys

-- no call
pub no_turn : (worker : ℕ) (next : Command) (old : List Receipt) → GoesInTurn worker next old old
no_turn worker next old = record { calls = []; more = sym (append-nil old); in_turn = tt }

pub round_in_turn : (worker : ℕ) (next : Command) (old new : List Receipt) → MakesRound worker next old new
    → GoesInTurn worker next old new
round_in_turn worker next old new p = record { calls = p.calls; more = p.more; in_turn = p.in_turn }

-- after whole rounds, further calls in turn
pub then_in_turn : (worker : ℕ) (next : Command) (old mid new : List Receipt) → MakesRound worker next old mid
    → RunsInTurn worker mid new → GoesInTurn worker next old new
then_in_turn worker next old mid new p q = record {
  calls = p.calls ++ q.calls;
  more = joined old mid new p.calls q.calls p.more q.more;
  in_turn = turn_append worker next p.calls q.calls p.in_turn
      (subst (λ c. AreInTurn worker c q.calls) (sym p.over) q.in_turn);
}

pub then_round : (worker : ℕ) (next : Command) (old mid new : List Receipt) → MakesRound worker next old mid
    → MakesRound worker (next_step worker) mid new → MakesRound worker next old new
then_round worker next old mid new p q = record {
  calls = p.calls ++ q.calls;
  more = joined old mid new p.calls q.calls p.more q.more;
  in_turn = turn_append worker next p.calls q.calls p.in_turn
      (subst (λ c. AreInTurn worker c q.calls) (sym p.over) q.in_turn);
  over = after_append worker next p.calls q.calls ∙ ap (λ c. call_after_all worker c q.calls) p.over ∙ q.over;
}

-- one call, and what comes after it
pub first_then : (worker : ℕ) (first next : Command) (x : Reply) (old mid new : List Receipt)
    → AddsReceipt old mid first x → call_after worker first x ≡ next → GoesInTurn worker next mid new
    → GoesInTurn worker first old new
first_then worker first next x old mid new p e q =
    let r : Receipt = record { place = p.0; command = first; reply = x } in record {
      calls = r ∷ q.calls;
      more = joined old mid new (r ∷ []) q.calls p.1 q.more;
      in_turn = (refl, subst (λ c. AreInTurn worker c q.calls) (sym e) q.in_turn);
    }

pub first_then_round : (worker : ℕ) (first next : Command) (x : Reply) (old mid new : List Receipt)
    → AddsReceipt old mid first x → call_after worker first x ≡ next → MakesRound worker next mid new
    → MakesRound worker first old new
first_then_round worker first next x old mid new p e q =
    let r : Receipt = record { place = p.0; command = first; reply = x } in record {
      calls = r ∷ q.calls;
      more = joined old mid new (r ∷ []) q.calls p.1 q.more;
      in_turn = (refl, subst (λ c. AreInTurn worker c q.calls) (sym e) q.in_turn);
      over = ap (λ c. call_after_all worker c q.calls) e ∙ q.over;
    }

-- what comes after the worker's next step
pub stepped : (worker : ℕ) (x : Reply) (b : Bool) → waits x ≡ b → call_after worker (next_step worker) x
    ≡ cond b ready_question (next_step worker)
stepped worker x b e = rw e refl

-- it waits for tasks, and the first that is ready is started
pub waits_round : {E : Type 0} (result : Result Bool E) (worker : ℕ) (old mid new : List Receipt) (x : Reply)
    (wait : Bool) → AddsReceipt old mid (next_step worker) x → wait ≡ waits x → wait ≡ true
    → OnOk result (MakesRound worker ready_question mid new)
    → OnOk result (MakesRound worker (next_step worker) old new)
waits_round result worker old mid new x wait p e is h =
    on_ok_weaker result (λ q. first_then_round worker (next_step worker) ready_question x old mid new p
    (stepped worker x true (sym e ∙ is)) q) h

pub waits_turn : {E : Type 0} (result : Result Bool E) (worker : ℕ) (old mid new : List Receipt) (x : Reply)
    (wait : Bool) → AddsReceipt old mid (next_step worker) x → wait ≡ waits x → wait ≡ true
    → OnErr result (GoesInTurn worker ready_question mid new)
    → OnErr result (GoesInTurn worker (next_step worker) old new)
waits_turn result worker old mid new x wait p e is h =
    on_err_weaker result (λ q. first_then worker (next_step worker) ready_question x old mid new p
    (stepped worker x true (sym e ∙ is)) q) h

each_last : (worker : ℕ) (olds news : List (List Receipt)) (old new : List Receipt)
    → EachRunsInTurn worker olds news → RunsInTurn (worker + length olds) old new
    → EachRunsInTurn worker (olds ++ old ∷ []) (news ++ new ∷ [])
each_last worker [] [] old new h k =
    let same : worker + 0 ≡ worker = omega arith in (subst (λ w. RunsInTurn w old new) same k, tt)
each_last worker [] (y ∷ news) old new h k = absurd h
each_last worker (x ∷ olds) [] old new h k = absurd h
each_last worker (x ∷ olds) (y ∷ news) old new h k =
    let same : worker + suc (length olds) ≡ suc worker + length olds = omega arith in
    (h.0, each_last (suc worker) olds news old new h.1 (subst (λ w. RunsInTurn w old new) same k))

-- where no worker called
pub each_same : (worker : ℕ) (all : List (List Receipt)) → EachRunsInTurn worker all all
each_same worker [] = tt
each_same worker (x ∷ all) = (no_turn worker (next_step worker) x, each_same (suc worker) all)

length_of_map : {A : Type 0} (made : A → List Receipt) (xs : List A) → length (map made xs) ≡ length xs
length_of_map made [] = refl
length_of_map made (x ∷ xs) = ap suc (length_of_map made xs)

-- one debuggee more is back, after calls in turn
pub turn_back : {A : Type 0} (made : A → List Receipt) (now back all waiting : List A) (x y : A) (worker : ℕ)
    → now ≡ back ++ y ∷ [] → all ≡ waiting ++ x ∷ [] → EachRunsInTurn 0 (map made waiting) (map made back)
    → worker ≡ length waiting → RunsInTurn worker (made x) (made y)
    → EachRunsInTurn 0 (map made all) (map made now)
turn_back made now back all waiting x y worker is_now is_all each is_worker turn =
    let at : worker ≡ 0 + length (map made waiting) = omega (arith, is_worker, length_of_map made waiting) in
    let both = each_last 0 (map made waiting) (map made back) (made x) (made y) each
    (subst (λ w. RunsInTurn w (made x) (made y)) at turn) in
    let olds : map made all ≡ map made waiting ++ made x ∷ [] =
    ap (map made) is_all ∙ map-append made waiting (x ∷ []) in
    let news : map made now ≡ map made back ++ made y ∷ [] = ap (map made) is_now ∙ map-append made back (y ∷ []) in
    subst (λ os. EachRunsInTurn 0 os (map made now)) (sym olds)
    (subst (λ ns. EachRunsInTurn 0 (map made waiting ++ made x ∷ []) ns) (sym news) both)

-- the calls of each of these lists are in turn, of the worker whose place it has
abbrev EachInTurn : ℕ → List (List Receipt) → Type 0
EachInTurn worker [] = Unit {0}
EachInTurn worker (rs ∷ more) = AreInTurn worker (next_step worker) rs × EachInTurn (suc worker) more

each_from_none : (worker : ℕ) (olds news : List (List Receipt)) → AreNone olds → EachRunsInTurn worker olds news
    → EachInTurn worker news
each_from_none worker [] [] none h = tt
each_from_none worker [] (new ∷ news) none h = absurd h
each_from_none worker (old ∷ olds) [] none h = absurd h
each_from_none worker (old ∷ olds) (new ∷ news) none h =
    let all : new ≡ h.0.calls = h.0.more ∙ ap (λ l. l ++ h.0.calls) none.0 in
    (subst (AreInTurn worker (next_step worker)) (sym all) h.0.in_turn, each_from_none (suc worker) olds news none.1 h.1)

empty_below : (n : ℕ) → AreNone (map receipts_of (seats_below n))
empty_below zero = tt
empty_below (suc n) =
    let s : SeatView = record { number = n; receipts = [] } in
    subst AreNone (sym (map-append receipts_of (seats_below n) (s ∷ [])))
    (none_last (map receipts_of (seats_below n)) [] (empty_below n) refl)

-- a seat's calls are in turn, of the worker of its number
abbrev IsInTurn : SeatView → Type 0
IsInTurn s = AreInTurn s.number (next_step s.number) s.receipts

seats_in_turn : (n : ℕ) (ss : List SeatView) → AreNumbered n (map number_of ss) → EachInTurn n (map receipts_of ss)
    → AllByRecursion IsInTurn ss
seats_in_turn n [] numbered turns = tt
seats_in_turn n (s ∷ ss) numbered turns = (
  subst (λ k. AreInTurn k (next_step k) s.receipts) (sym numbered.0) turns.0,
  seats_in_turn (suc n) ss numbered.1 turns.1,
)

of_seat : (worker at : ℕ) (records : List JournalRecord) (ss : List SeatView) → AllByRecursion IsInTurn ss
    → AllByRecursion (λ (s : SeatView). s.receipts ≡ calls_of s.number at records) ss → IsSeat ss worker
    → AreInTurn worker (next_step worker) (calls_of worker at records)
of_seat worker at records [] turns are is = absurd is
of_seat worker at records (s ∷ ss) turns are (inl e) =
    subst (λ k. AreInTurn k (next_step k) (calls_of k at records)) e
    (subst (AreInTurn s.number (next_step s.number)) are.0 turns.0)
of_seat worker at records (s ∷ ss) turns are (inr is) = of_seat worker at records ss turns.1 are.1 is

seat_or_not_at : (s : SeatView) (ss : List SeatView) (worker : ℕ) (b : Bool) → nat_eq s.number worker ≡ b
    → IsSeat ss worker ⊎ (IsSeat ss worker → ⊥) → IsSeat (s ∷ ss) worker ⊎ (IsSeat (s ∷ ss) worker → ⊥)
seat_or_not_at s ss worker true e rest = inl (inl (eqb-true s.number worker e))
seat_or_not_at s ss worker false e (inl is) = inl (inr is)
seat_or_not_at s ss worker false e (inr absent) = inr (λ is. elim is [
  | inl same ↦ true≢false (sym (eq-eqb s.number worker same) ∙ e)
  | inr more ↦ absent more
])

seat_or_not : (ss : List SeatView) (worker : ℕ) → IsSeat ss worker ⊎ (IsSeat ss worker → ⊥)
seat_or_not [] worker = inr (λ is. is)
seat_or_not (s ∷ ss) worker = seat_or_not_at s ss worker (nat_eq s.number worker) refl (seat_or_not ss worker)

other_seat : (seat worker : ℕ) (ss : List SeatView) (b : Bool) → nat_eq seat worker ≡ b → IsSeat ss seat
    → (IsSeat ss worker → ⊥) → nat_eq seat worker ≡ false
other_seat seat worker ss true e is absent = absurd (absent (subst (IsSeat ss) (eqb-true seat worker e) is))
other_seat seat worker ss false e is absent = e

no_calls : (worker at : ℕ) (records : List JournalRecord) (ss : List SeatView)
    → AllByRecursion (λ (r : JournalRecord). IsSeat ss r.seat) records → (IsSeat ss worker → ⊥)
    → calls_of worker at records ≡ []
no_calls worker at [] ss are absent = refl
no_calls worker at (r ∷ rs) ss are absent =
    ap (λ b. cond b (record { place = at; command = r.command; reply = r.reply } ∷ calls_of worker (at + 1) rs)
    (calls_of worker (at + 1) rs)) (other_seat r.seat worker ss (nat_eq r.seat worker) refl are.0 absent)
    ∙ no_calls worker (at + 1) rs ss are.1 absent

-- where new seats came back after calls in turn, and their receipts are all records since the opening, each worker's
-- records are in turn
pub turns_covered : (n at : ℕ) (journal : List JournalRecord) (seats ss : List SeatView) → seats ≡ seats_below n
    → map number_of ss ≡ map number_of seats → EachRunsInTurn 0 (map receipts_of seats) (map receipts_of ss)
    → Covers journal at ss → (worker : ℕ) → AreInTurn worker (next_step worker) (calls_of worker at (drop at journal))
turns_covered n at journal seats ss new numbers each covers worker =
    let records = drop at journal in
    let numbered : AreNumbered 0 (map number_of ss) =
    subst (AreNumbered 0) (sym (numbers ∙ ap (λ ts. map number_of ts) new)) (numbered_below n) in
    let none : AreNone (map receipts_of seats) = subst (λ ts. AreNone (map receipts_of ts)) (sym new) (empty_below n) in
    let turns = seats_in_turn 0 ss numbered (each_from_none 0 (map receipts_of seats) (map receipts_of ss) none each) in
    let is = recursion_from_All (λ (s : SeatView). s.receipts ≡ calls_of s.number at records) ss covers.receipts in
    let are = recursion_from_All (λ (r : JournalRecord). IsSeat ss r.seat) records covers.records in
    elim (seat_or_not ss worker) [
      | inl seat ↦ of_seat worker at records ss turns is seat
      | inr absent ↦ subst (AreInTurn worker (next_step worker)) (sym (no_calls worker at records ss are absent)) tt
    ]
