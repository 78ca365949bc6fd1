-- One more call, and one more debuggee.
use Rattle.std.specs.Prelude.{◌≡◌, ◌+◌, ℕ, suc, Bool, true, false, cond, List, [], ◌∷◌, ◌++◌, map, sum_by, refl}
use Rattle.std.proofs.Common.{◌∙◌, ap, append_assoc, arith, sym}
use Rattle.std.proofs.lemmas.List.{map-append}
use Rattle.std.proofs.lemmas.List.Sums.{sum_by-append, sum_by-cons}
use Rattle.om_book.specs.Seats.{SeatView}
use Rattle.om_book_journal.specs.declared.command.Command.TheVariants as command
use Rattle.om_book_journal.specs.declared.command.Query.{Query}
use Rattle.om_book.specs.declared.receipt.Receipt.{Receipt}
use Rattle.om_book_journal.specs.declared.reply.Reply.{Reply}
use Rattle.om_drive.specs.Steps.{makes_step, steps_in, steps_of}

one_more : (made : Bool) → cond made (suc 0) 0 ≡ 0 + cond made 1 0
one_more true = refl
one_more false = refl

added : (made : Bool) (n k m : ℕ) → n ≡ k + m → cond made (suc n) n ≡ cond made (suc k) k + m
added true n k m e = omega (arith, e)
added false n k m e = e

steps_next : (rs : List Receipt) (r : Receipt) → steps_in (rs ++ r ∷ []) ≡ steps_in rs + cond
    (makes_step r.command r.reply) 1 0
steps_next [] r = one_more (makes_step r.command r.reply)
steps_next (x ∷ rs) r = added (makes_step x.command x.reply) (steps_in (rs ++ r ∷ [])) (steps_in rs)
    (cond (makes_step r.command r.reply) 1 0) (steps_next rs r)

pub steps_behind : (now before : List Receipt) (r : Receipt) → now ≡ before ++ r ∷ [] → steps_in now
    ≡ steps_in before + cond (makes_step r.command r.reply) 1 0
steps_behind now before r e = ap steps_in e ∙ steps_next before r

-- a question makes no step
pub looks_behind : (now before : List Receipt) (at : ℕ) (q : Query) (x : Reply) → now ≡ before
    ++ record { place = at; command = command.Look q; reply = x } ∷ [] → steps_in now ≡ steps_in before
looks_behind now before at q x e = steps_behind now before
    (record { place = at; command = command.Look q; reply = x }) e ∙ omega arith

-- a sum with one more
pub sum_last : {A : Type 0} (f : A → ℕ) (all xs : List A) (x : A) → all ≡ xs ++ x ∷ [] → sum_by f all
    ≡ sum_by f xs + f x
sum_last f all xs x e = ap (sum_by f) e ∙ sum_by-append f xs (x ∷ []) ∙ omega arith

-- one debuggee more is back, with its steps
pub one_back : {A : Type 0} (f : A → ℕ) (now back back' old all waiting : List A) (x y : A)
    (before mid mid' told done : ℕ)
    → now ≡ back ++ y ∷ [] → all ≡ waiting ++ x ∷ [] → sum_by f back' + before ≡ sum_by f old + sum_by f waiting + mid
    → back ≡ back' → mid' ≡ mid → f y ≡ f x + told → done ≡ mid' + told
    → sum_by f now + before ≡ sum_by f old + sum_by f all + done
one_back f now back back' old all waiting x y before mid mid' told done is_now is_all sum same tally steps is_done =
    rw (sum_last f now back y is_now, sum_last f all waiting x is_all, same) (omega arith)

-- one debuggee more is back, at its place
pub place_back : {A B : Type 0} (f : A → B) (now back old all waiting : List A) (x y : A) → now ≡ back ++ y ∷ []
    → all ≡ waiting ++ x ∷ [] → map f back ≡ map f old ++ map f waiting → f y ≡ f x → map f now ≡ map f old ++ map f all
place_back f now back old all waiting x y is_now is_all same place =
    rw (is_now, is_all, map-append f back (y ∷ []), map-append f waiting (x ∷ []), same, place, append_assoc)

-- the steps of those that sit are those of their seats
pub seated_steps : {S : Type 0} (seat : S → SeatView) (ss : List S) → sum_by (λ s. steps_in (seat s).receipts) ss
    ≡ sum_by steps_of (map seat ss)
seated_steps seat [] = refl
seated_steps seat (s ∷ ss) =
    sum_by-cons (λ s. steps_in (seat s).receipts) s ss ∙ ap (λ n. steps_in (seat s).receipts + n) (seated_steps seat ss)
    ∙ sym (sum_by-cons steps_of (seat s) (map seat ss))
