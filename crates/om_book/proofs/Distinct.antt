-- Numbers of which no two are the same: a set of them has as many.
use Rattle.std.specs.Prelude.{◌≡◌, ◌≢◌, ◌↔◌, ℕ, true, List, length}
use Rattle.std.specs.BTreeSet.{BTreeSet, IsFromIterResult, btree_set_len}
use Rattle.std.specs.Bool.{Decides}
use Rattle.std.specs.List.{AllPairs}
use Rattle.std.specs.Ordering.{eq_by_cmp, is_eq, nat_cmp}
use Rattle.std.proofs.Common.{◌∙◌, ap, subst, sym}
use Rattle.std.proofs.lemmas.Cmp.{eq_by_cmp_equiv, nat_cmp_total, tied_itself}
use Rattle.std.proofs.lemmas.Map.Lookups.{exact_unsigned}
use Rattle.std.proofs.lemmas.Map.Made.{AllPairs-from_IsDistinct, IsDistinct-from_AllPairs, IsDistinct-from_count, distinct_count-from_IsDistinct}
use Rattle.std.proofs.lemmas.Map.Views.{btree_set_len-from_list, tells_apart}

-- an order tells numbers apart
told_apart : (a b : ℕ) → Decides (eq_by_cmp nat_cmp a b) (a ≡ b)
told_apart a b = (
  tells_apart exact_unsigned a b,
  λ e. subst (λ c. eq_by_cmp nat_cmp a c ≡ true) e (ap is_eq (tied_itself nat_cmp_total a)),
)

pub as_many_differ : (xs : List ℕ) (s : BTreeSet ℕ) → IsFromIterResult nat_cmp xs s
    → (btree_set_len s ≡ length xs) ↔ AllPairs (λ n m. n ≢ m) xs
as_many_differ xs s h =
    let count = btree_set_len-from_list nat_cmp_total xs s h in
    let laws = eq_by_cmp_equiv nat_cmp_total in (
      λ many. AllPairs-from_IsDistinct told_apart xs (IsDistinct-from_count laws xs (sym count ∙ many)),
      λ differ. count ∙ distinct_count-from_IsDistinct laws xs (IsDistinct-from_AllPairs told_apart xs differ),
    )
