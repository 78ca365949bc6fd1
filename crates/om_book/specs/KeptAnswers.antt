-- Matter of proofs, for om_drive too: rounds one by one, and each answer that is kept is backed.
use Rattle.std.specs.Prelude.{◌≡◌, ◌<◌, ◌-◌, ◌+◌, ◌++◌, ℕ, suc, All, List, [], ◌∷◌, refl}
use Rattle.std.proofs.Common.{get_or, inl, inr, subst, sym, ap, arith}
use Rattle.std.proofs.lemmas.List.Elements.{All-nil, All-cons}
use Rattle.om_book.specs.declared.order.Answer.{Answer}
use Rattle.om_book.specs.declared.order.Order.{Order}
use Rattle.om_book.specs.Rounds.{round_at, rounds}
use Rattle.om_book.specs.Backing.{Turn, AreKept, Keeps, IsOfOne}

pub rounds_next : {V : Type 0} (items : V → List Order) (k n : ℕ) (vs : List V) → k < n → rounds items k (n - k) vs
    ≡ round_at items k vs ++ rounds items (k + 1) (n - (k + 1)) vs
rounds_next items k n vs h = let e : n - k ≡ suc (n - (k + 1)) = omega arith in ap (λ m. rounds items k m vs) e

one_of_more : (t : Turn) (ts : List Turn) (a : Answer) → IsOfOne ts a → IsOfOne (t ∷ ts) a
one_of_more t ts a h = (h.0, (suc h.1.0, h.1.1), h.2)

-- each answer that is kept is backed
pub kept_backed : (ts : List Turn) (came kept : List Answer) → Keeps ts came kept → All (IsOfOne ts) kept
kept_backed [] came kept k = subst (λ l. All (IsOfOne []) l) (sym k) (All-nil (IsOfOne []))
kept_backed (t ∷ ts) [] kept k = subst (λ l. All (IsOfOne (t ∷ ts)) l) (sym k) (All-nil (IsOfOne (t ∷ ts)))
kept_backed (t ∷ ts) (a ∷ later) kept (inl h) =
    let rest = kept_backed ts later h.1.0 h.1.2 in
    subst (λ l. All (IsOfOne (t ∷ ts)) l) (sym h.1.1)
    (All-cons (IsOfOne (t ∷ ts)) a h.1.0 (t, (0, refl), h.0) (λ k d lt. one_of_more t ts (get_or h.1.0 k d) (rest k d lt)))
kept_backed (t ∷ ts) (a ∷ later) kept (inr h) =
    let rest = kept_backed ts later kept h.1 in λ k d lt. one_of_more t ts (get_or kept k d) (rest k d lt)

keeps_nothing : (ts : List Turn) → Keeps ts [] []
keeps_nothing [] = refl
keeps_nothing (t ∷ ts) = refl

-- where none came, none is kept
pub none_kept : (due : List ℕ) (ts : List Turn) (kept : List Answer) → kept ≡ [] → AreKept due ts kept
none_kept due ts kept e = subst (λ l. AreKept due ts l) (sym e)
    ([], (due, record { front = []; added = refl; left = refl }), keeps_nothing ts)

pub none_backed : (ts : List Turn) (kept : List Answer) → kept ≡ [] → All (IsOfOne ts) kept
none_backed ts kept e = subst (λ l. All (IsOfOne ts) l) (sym e) (All-nil (IsOfOne ts))
