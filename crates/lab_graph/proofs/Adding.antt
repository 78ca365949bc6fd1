-- Arrows that are added behind others, worker by worker and step by step.
use Rattle.std.proofs.Common.{◌≡◌, sym, ◌∙◌, ap, true, false, cond, ◌==◌, ℕ, suc, ◌+◌, ◌<◌, arith}
use Rattle.std.proofs.Common.{None, Some, List, [], ◌∷◌, ◌++◌, append_assoc, length, take, drop, get_or, drop-cons}
use Rattle.std.proofs.lemmas.List.{append-nil, take_more}
use Rattle.lab_graph.specs.declared.traced.Traced.{Traced}
use Rattle.lab_graph.specs.declared.picture.Arrow.{Arrow}
use Rattle.lab_graph.specs.Pictures.{last_meeting, arrow_between, arrow_to, arrow_from, arrows_from, arrows_behind}

-- from the steps of its own worker no arrow leads into a step
pub own_lane : (w : ℕ) (before : List Traced) (b : Traced) (xs : List Arrow) → b.entry.worker == w ≡ true
    → xs ≡ xs ++ arrow_from w before b
own_lane w before b xs own =
    sym (append-nil xs) ∙ ap (λ p. xs ++ cond p [] (arrow_to b (last_meeting w before b))) (sym own)

-- nor from those of a worker without one that conflicts
pub free_lane : (w : ℕ) (before : List Traced) (b : Traced) (xs : List Arrow) → b.entry.worker == w ≡ false
    → None ≡ last_meeting w before b → xs ≡ xs ++ arrow_from w before b
free_lane w before b xs other none =
    sym (append-nil xs) ∙ (λ i. xs ++ cond (sym other i) [] (arrow_to b (none i)))

-- from the last one that conflicts one leads there
pub one_arrow : (w : ℕ) (before : List Traced) (a b : Traced) (xs ys : List Arrow) → b.entry.worker == w ≡ false
    → Some a ≡ last_meeting w before b → ys ≡ xs ++ arrow_between a b → ys ≡ xs ++ arrow_from w before b
one_arrow w before a b xs ys other found added =
    added ∙ (λ i. xs ++ cond (sym other i) [] (arrow_to b (found i)))

-- one worker more
pub next_lane : (w k m : ℕ) (before : List Traced) (b : Traced) (xs ys all : List Arrow) → k ≡ suc m
    → ys ≡ xs ++ arrow_from w before b → xs ++ arrows_from w k before b ≡ all
    → ys ++ arrows_from (w + 1) m before b ≡ all
next_lane w k m before b xs ys all is added so_far =
    ap (λ l. l ++ arrows_from (w + 1) m before b) added
    ∙ append_assoc xs (arrow_from w before b) (arrows_from (w + 1) m before b)
    ∙ ap (λ n. xs ++ arrows_from w n before b) (sym is) ∙ so_far

-- one step more
pub next_step : (n : ℕ) (ts : List Traced) (i : ℕ) (b : Traced) (xs ys all : List Arrow) → i < length ts
    → b ≡ get_or ts i b → ys ≡ xs ++ arrows_from 0 n (take i ts) b
    → xs ++ arrows_behind n (take i ts) (drop i ts) ≡ all
    → ys ++ arrows_behind n (take (i + 1) ts) (drop (i + 1) ts) ≡ all
next_step n ts i b xs ys all less is added so_far =
    (λ j. added j ++ arrows_behind n (taken j) (drop (next j) ts))
    ∙ append_assoc xs (arrows_from 0 n (take i ts) b) (arrows_behind n (take i ts ++ b ∷ []) (drop (suc i) ts))
    ∙ ap (λ l. xs ++ arrows_behind n (take i ts) l) (sym step) ∙ so_far
  where
    next : i + 1 ≡ suc i
    next = omega arith

    taken : take (i + 1) ts ≡ take i ts ++ b ∷ []
    taken = take_more ts i b less ∙ ap (λ x. take i ts ++ x ∷ []) (sym is)

    step : drop i ts ≡ b ∷ drop (suc i) ts
    step = drop-cons ts i b less ∙ ap (λ x. x ∷ drop (suc i) ts) (sym is)
