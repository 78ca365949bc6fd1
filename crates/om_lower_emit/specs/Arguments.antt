-- The values of a call, one behind the other.
use Rattle.std.proofs.Common.{◌≡◌, ◌≤◌, ◌<◌, ℕ, zero, suc, ◌+◌, ◌*◌, List, [], ◌∷◌, map, length, drop, get_or}
use Rattle.std.proofs.Common.{drop-cons, add-one, refl, sym, ap, ◌∙◌, subst, arith}
use denote.Param.Weighed.{at_most, most}
use Rattle.om_lower_emit.specs.Drafts.{Written}
use Rattle.om_lower_emit.specs.Emits.{site, Goes, EmitsValue, listed}
use Rattle.om_lower_emit.specs.Writing.{goes_part}
use Rattle.om_scope_tree.specs.declared.resolved.ResolvedExpression.{ResolvedExpression}
use Rattle.om_scope_tree.specs.ResolvedTree as trees
use Rattle.om_scope_tree.specs.ResolvedView as view
use Rattle.om_lower_rules.specs.Coded.{CallHasCode, ValueHasCode, ValuesHaveCode}
use Rattle.om_lower_rules.specs.Expressions.{value, values, value_count}
use Rattle.om_lower_rules.specs.Numbered.{Numbered}

pub counted : (es : List ResolvedExpression) → length es ≡ value_count (listed es)
counted [] = refl
counted (e ∷ es) = ap suc (counted es) ∙ sym (add-one (value_count (listed es)))

-- a call has 16 values at most
pub few : (es : List ResolvedExpression) → CallHasCode (listed es) → length es ≤ 16
few es code = let within : value_count (listed es) ≤ 16 = code.0 in omega (arith, counted es, within)

pub has_code : (es : List ResolvedExpression) (k : ℕ) (e : ResolvedExpression) → k < length es → e ≡ get_or es k e
    → ValuesHaveCode (listed es) → ValueHasCode (view.expression e)
has_code [] k e lt is h = absurd (omega arith)
has_code (x ∷ es) zero e lt is h = subst (λ z. ValueHasCode (view.expression z)) (sym is) h.0
has_code (x ∷ es) (suc k) e lt is h = has_code es k e (omega arith) is h.1

-- a value is no larger than the largest one; `size` is the one by which the call of `values` is measured
pub with_depth : {X : Type 0} (size : X → ℕ) (m a : ℕ) (es : List X) (k : ℕ) (e : X) {n : ℕ} {G : Type 0}
    → k < length es → e ≡ get_or es k e → m * most size es + a ≡ n → (size e ≤ most size es → G) → G
with_depth size m a es k e lt is measure goes_on =
    goes_on (subst (λ x. size x ≤ most size es) (sym is) (at_most size es k e lt))

-- one value more
pub emits_next : (names : Numbered) (l : ℕ) (es : List ResolvedExpression) (k n : ℕ) (e : ResolvedExpression)
    (a b c : Written)
    → k < length es → e ≡ get_or es k e → n ≤ length a.places
    → EmitsValue names l (view.expression e) a b
    → Goes n (λ done at. values (site names done) l (listed (drop (k + 1) es))) b c
    → Goes n (λ done at. values (site names done) l (listed (drop k es))) a c
emits_next names l es k n e a b c lt is le h g =
    let here : listed (drop k es) ≡ trees.Value (view.expression e) (listed (drop (k + 1) es)) =
    ap listed (drop-cons es k e lt)
    ∙ ap (λ x. trees.Value (view.expression x) (listed (drop (suc k) es))) (sym is)
    ∙ ap (λ j. trees.Value (view.expression e) (listed (drop j es))) (sym (add-one k)) in
    subst (λ z. Goes n (λ done at. values (site names done) l z) a c) (sym here)
    (goes_part n (λ done at. value (site names done) l (view.expression e)) (λ done at. values
    (site names done) l (listed (drop (k + 1) es)))
    a b c le h g)
