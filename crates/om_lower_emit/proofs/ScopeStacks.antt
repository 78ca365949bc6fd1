-- Scopes that end, the last one first.
use Rattle.std.proofs.Common.{◌≡◌, ℕ, suc, ◌+◌, ◌<◌, ◌≤◌, List, [], ◌∷◌, ◌++◌, length, map, drop, take, get_or, add-one}
use Rattle.std.proofs.Common.{sym, ◌∙◌, ap, arith, length-append}
use Rattle.std.specs.Prelude.{reverse}
use Rattle.std.proofs.lemmas.List.{append_assoc, append-nil, drop_all, drop-append-le, reverse-append, take-append-le}
use Rattle.std.proofs.Math.Seq.{drop-cons, take-length}
use Rattle.om_lower_rules.specs.Scopes.{closed_at}
use Rattle.om_lower_emit.specs.declared.writing.ScopeStack.{ScopeStack}
use Rattle.om_lower_emit.specs.Scoped.{EndsLast, EndsScopes}

pub ends_none : (x : ScopeStack) (height to : ℕ) → height ≡ length x.opened.items → EndsScopes height to x x
ends_none x height to e = record {
  opened = sym (ap (λ n. take n x.opened.items) e ∙ take-length x.opened.items);
  closed = sym (ap (λ xs. x.closed.items ++ map (closed_at to) (reverse xs))
      (ap (λ n. drop n x.opened.items) e ∙ drop_all (length x.opened.items) x.opened.items (omega arith))
      ∙ append-nil x.closed.items);
}

pub ends_more : (x y z : ScopeStack) (height to : ℕ) → height < length x.opened.items → EndsLast to x y
    → EndsScopes height to y z → EndsScopes height to x z
ends_more x y z height to lt one rest = record {
  opened = rest.opened ∙ sym (take-append-le height y.opened.items (one.last ∷ []) fits) ∙ ap (take height)
      (sym one.opened);
  closed = rest.closed
      ∙ ap (λ xs. xs ++ map (closed_at to) (reverse (drop height y.opened.items))) one.closed
      ∙ append_assoc x.closed.items (closed_at to one.last ∷ [])
      (map (closed_at to) (reverse (drop height y.opened.items)))
      ∙ ap (λ xs. x.closed.items ++ map (closed_at to) xs) (sym last_first);
}
  where
    fits : height ≤ length y.opened.items
    fits = omega (arith, lt, ap length one.opened ∙ length-append y.opened.items (one.last ∷ []))

    last_first : reverse (drop height x.opened.items) ≡ one.last ∷ reverse (drop height y.opened.items)
    last_first = ap (λ xs. reverse (drop height xs)) one.opened
        ∙ ap reverse (drop-append-le height y.opened.items (one.last ∷ []) fits)
        ∙ reverse-append (drop height y.opened.items) (one.last ∷ [])

-- what is left of a list begins with the item where a loop stands
pub left_one : {X : Type 0} (xs : List X) (i : ℕ) (x : X) → i < length xs → x ≡ get_or xs i x → drop i xs ≡ x
    ∷ drop (i + 1) xs
left_one xs i x lt is = drop-cons xs i x lt ∙ ap (λ item. item ∷ drop (suc i) xs) (sym is)
    ∙ ap (λ n. x ∷ drop n xs) (sym (add-one i))
