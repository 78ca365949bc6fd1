-- A round, one seat after the other.
use Rattle.std.specs.Prelude.{◌≡◌, ◌<◌, ◌+◌, ℕ, List, [], ◌∷◌, ◌++◌, length, map, take, slice_get, refl}
use Rattle.std.specs.Prelude.{Result, Ok, Err, OnErr}
use Rattle.std.proofs.Common.{sym, ◌∙◌, ap, arith, add-one, drop, get_or, drop-cons, append_assoc, append-nil}
use Rattle.std.proofs.lemmas.List.{take-append-drop, take_all, map-append}
use Rattle.om_book.specs.declared.order.Answer.{Answer}
use Rattle.om_book.specs.Rounds.{answer_number, listed, round_at, IsBeginning, Begins}
use Rattle.om_book.specs.declared.order.Order.{Order}

pub round_next : {V : Type 0} (items : V → List Order) (k : ℕ) (vs : List V) (i : ℕ) (v : V) → i < length vs → v
    ≡ get_or vs i v
    → round_at items k (drop i vs) ≡ listed (slice_get (items v) k) ++ round_at items k (drop (i + 1) vs)
round_next items k vs i v within is =
    let e : drop i vs ≡ v ∷ drop (i + 1) vs = drop-cons vs i v within ∙ (λ j. sym is j ∷ drop (sym (add-one i) j) vs) in
    ap (λ ws. round_at items k ws) e

abbrev pub part_none : (old due : List ℕ) → IsBeginning old old due due
part_none old due = record { front = []; added = sym (append-nil old); left = refl }

abbrev pub part_more : (old new more due ns rest : List ℕ) → IsBeginning old new due (ns ++ rest) → more ≡ new ++ ns
    → IsBeginning old more due rest
part_more old new more due ns rest p e =
    record {
      front = p.front ++ ns;
      added = e ∙ ap (λ xs. xs ++ ns) p.added ∙ append_assoc old p.front ns;
      left = p.left ∙ sym (append_assoc p.front ns rest);
    }

-- a beginning of what was left is one of all
pub part_begins : (old new more due ns rest : List ℕ) → IsBeginning old new due (ns ++ rest) → Begins new more ns
    → Begins old more due
part_begins old new more due ns rest p b = (
  b.0 ++ rest,
  record {
    front = p.front ++ b.1.front;
    added = b.1.added ∙ ap (λ xs. xs ++ b.1.front) p.added ∙ append_assoc old p.front b.1.front;
    left = p.left ∙ ap (λ xs. p.front ++ (xs ++ rest)) b.1.left ∙ ap (λ xs. p.front ++ xs)
        (append_assoc b.1.front b.0 rest) ∙ sym (append_assoc p.front b.1.front (b.0 ++ rest));
  },
)

pub begins_same : (old new more due rest : List ℕ) → IsBeginning old new due rest → more ≡ new → Begins old more due
begins_same old new more due rest p e = (rest, record { front = p.front; added = e ∙ p.added; left = p.left })

pub on_err : {A B : Type 0} (r : Result A B) (P : Type 0) → P → OnErr r P
on_err (Ok a) P p = tt
on_err (Err e) P p = p

pub begins_none : (old due : List ℕ) → Begins old old due
begins_none old due = (due, part_none old due)

pub begins_all : (old new due : List ℕ) → new ≡ old ++ due → Begins old new due
begins_all old new due e = ([], record { front = due; added = e; left = sym (append-nil due) })

pub begins_same_yet : (old new due : List ℕ) → new ≡ old → Begins old new due
begins_same_yet old new due e = (due, record { front = []; added = e ∙ sym (append-nil old); left = refl })

-- what is left of the answers is a beginning too
pub begins_taken : (old new : List Answer) (due : List ℕ) (n : ℕ) → new ≡ take n old
    → Begins [] (map answer_number old) due → Begins [] (map answer_number new) due
begins_taken old new due n e b =
    let rest = map answer_number (drop n old) in
    let parted : map answer_number old ≡ map answer_number new ++ rest =
    ap (λ xs. map answer_number xs) (sym (take-append-drop n old)) ∙ map-append answer_number (take n old)
    (drop n old) ∙ ap (λ xs. map answer_number xs ++ rest) (sym e) in (
      rest ++ b.0,
      record {
        front = map answer_number new;
        added = refl;
        left = b.1.left ∙ ap (λ xs. xs ++ b.0) (sym b.1.added ∙ parted) ∙ append_assoc (map answer_number new) rest b.0;
      },
    )

-- what was gathered stands behind what was there
gathered : (old new taken : List Answer) (numbers : List ℕ) (n : ℕ) → new ≡ old ++ taken
    → map answer_number taken ≡ take n numbers → map answer_number new ≡ map answer_number old ++ take n numbers
gathered old new taken numbers n e is = ap (λ xs. map answer_number xs) e ∙ map-append answer_number old taken
    ∙ ap (λ xs. map answer_number old ++ xs) is

pub gathered_all : (old new taken : List Answer) (numbers : List ℕ) (n : ℕ) → new ≡ old ++ taken
    → map answer_number taken ≡ take n numbers → n ≡ length numbers
    → map answer_number new ≡ map answer_number old ++ numbers
gathered_all old new taken numbers n e is all = gathered old new taken numbers n e is
    ∙ ap (λ xs. map answer_number old ++ xs) (take_all n numbers (omega (arith, all)))

pub gathered_some : (old new taken : List Answer) (numbers : List ℕ) (n : ℕ) → new ≡ old ++ taken
    → map answer_number taken ≡ take n numbers → Begins (map answer_number old) (map answer_number new) numbers
gathered_some old new taken numbers n e is = (
  drop n numbers,
  record {
    front = take n numbers;
    added = gathered old new taken numbers n e is;
    left = sym (take-append-drop n numbers);
  },
)
