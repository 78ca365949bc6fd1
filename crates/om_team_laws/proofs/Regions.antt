-- What opening, closing and replacing a region changes of the critical regions and of the iterations in hand.
use Rattle.std.proofs.Common.{◌≡◌, refl, sym, ◌∙◌, ap, ℕ, ◌+◌, ◌≤◌, ◌<◌, arith, Bool, true, false, if◌then◌else◌}
use Rattle.std.proofs.Common.{Some, List, [], ◌∷◌, drop}
use Rattle.std.specs.Prelude.{nat_eq, nat_le}
use Rattle.std.proofs.lemmas.Bool.{leb-true, le-leb, ltb-true}
use Rattle.om_foot.specs.Below.{both_true, two_true}
use Rattle.om_state.specs.declared.control.Construct.{Construct}
use Rattle.om_state.specs.declared.control.Construct.TheVariants as construct
use Rattle.om_state.specs.declared.control.Share.{Share}
use Rattle.om_team_serial.specs.Objects.{innermost}
use Rattle.om_team_worksharing.specs.Rows.{share_within}
use Rattle.om_team_laws.specs.Criticals.{opening, openings}
use Rattle.om_team_laws.specs.Works.{hand, hands, has_iteration, is_dynamic}

-- how many of these regions are `single` ones that are run, or passed by
abbrev pub agree : Bool → Bool → ℕ
agree true true = 1
agree true false = 0
agree false true = 0
agree false false = 1

abbrev pub single : Bool → Construct → ℕ
single which (construct.Single runs) = agree which runs
single which (construct.Share share) = 0
single which construct.Masked = 0
single which (construct.Critical lock) = 0
single which (construct.Group name) = 0

abbrev pub singles : Bool → List Construct → ℕ
singles which [] = 0
singles which (x ∷ constructs) = single which x + singles which constructs

pub closed_singles : (constructs : List Construct) (which : Bool)
    → singles which (drop 1 constructs) ≤ singles which constructs
closed_singles [] which = omega arith
closed_singles (y ∷ constructs) which = omega arith

pub replaced_singles : (constructs : List Construct) (share : Share) (which : Bool)
    → singles which (construct.Share share ∷ drop 1 constructs) ≤ singles which constructs
replaced_singles constructs share which = let less = closed_singles constructs which in omega (arith, less)

-- a region that is no critical one
abbrev pub IsOther : Construct → Type 0
IsOther x = (lock : ℕ) → opening lock x ≡ 0

-- the innermost one closes
pub closed_openings : (constructs : List Construct) (x : Construct) → innermost constructs ≡ Some x → IsOther x
    → (lock : ℕ) → openings lock (drop 1 constructs) ≡ openings lock constructs
closed_openings [] x e h lock = cc
closed_openings (y ∷ constructs) x e h lock =
    let same : y ≡ x = cc e in
    let none : opening lock y ≡ 0 = ap (opening lock) same ∙ h lock in
    omega (arith, none)

pub closed_hands : (constructs : List Construct) (region iteration : ℕ)
    → hands region iteration (drop 1 constructs) ≤ hands region iteration constructs
closed_hands [] region iteration = omega arith
closed_hands (y ∷ constructs) region iteration = omega arith

-- the loop or the sections that are innermost are replaced
pub replaced_openings : (constructs : List Construct) (share other : Share)
    → share_within (innermost constructs) ≡ Some share → (lock : ℕ)
    → openings lock (construct.Share other ∷ drop 1 constructs) ≡ openings lock constructs
replaced_openings [] share other e lock = cc
replaced_openings (construct.Share x ∷ constructs) share other e lock = refl
replaced_openings (construct.Single runs ∷ constructs) share other e lock = cc
replaced_openings (construct.Masked ∷ constructs) share other e lock = cc
replaced_openings (construct.Critical held ∷ constructs) share other e lock = cc
replaced_openings (construct.Group name ∷ constructs) share other e lock = cc

-- the parts of the innermost share
pub share_first : (constructs : List Construct) (share : Share) → share_within (innermost constructs) ≡ Some share
    → constructs ≡ construct.Share share ∷ drop 1 constructs
share_first [] share e = cc
share_first (construct.Share x ∷ constructs) share e =
    let same : x ≡ share = cc e in ap (λ z. construct.Share z ∷ constructs) same
share_first (construct.Single runs ∷ constructs) share e = cc
share_first (construct.Masked ∷ constructs) share e = cc
share_first (construct.Critical held ∷ constructs) share e = cc
share_first (construct.Group name ∷ constructs) share e = cc

-- what has no iteration that the other one lacks is no more in hand
pub count_less : (a b : Bool) → (b ≡ true → a ≡ true) → (if b then 1 else 0) ≤ (if a then 1 else 0)
count_less true true h = omega arith
count_less true false h = omega arith
count_less false true h = let no : false ≡ true = h refl in cc
count_less false false h = omega arith

abbrev pub HasNoFurther : Share → Share → Type 0
HasNoFurther share other = (region iteration : ℕ) → has_iteration region iteration other ≡ true
    → has_iteration region iteration share ≡ true

pub replaced_hands : (constructs : List Construct) (share other : Share)
    → share_within (innermost constructs) ≡ Some share → HasNoFurther share other → (region iteration : ℕ)
    → hands region iteration (construct.Share other ∷ drop 1 constructs) ≤ hands region iteration constructs
replaced_hands constructs share other e h region iteration =
    let whole : hands region iteration constructs
    ≡ hands region iteration (construct.Share share ∷ drop 1 constructs) =
    ap (hands region iteration) (share_first constructs share e) in
    let less : (if has_iteration region iteration other then 1 else 0)
    ≤ (if has_iteration region iteration share then 1 else 0) =
    count_less (has_iteration region iteration share) (has_iteration region iteration other) (h region iteration) in
    omega (arith, whole, less)

-- a share of another schedule has none in hand
pub not_dynamic : (share other : Share) → is_dynamic other.schedule ≡ false → HasNoFurther share other
not_dynamic share other e region iteration h =
    let both = two_true (is_dynamic other.schedule) _ h in
    let no : true ≡ false = sym both.0 ∙ e in
    cc

-- one that has no chunk has none either
pub no_chunk : (other : Share) → other.end ≡ 0 → (region iteration : ℕ)
    → hand region iteration (construct.Share other) ≤ 0
no_chunk other e region iteration = by (has_iteration region iteration other) refl
  where
    by : (b : Bool) → has_iteration region iteration other ≡ b → (if b then 1 else 0) ≤ 0
    by true h =
        let two = two_true (is_dynamic other.schedule) _ h in
        let more = two_true (nat_eq other.region region) _ two.1 in
        let last = two_true (nat_le other.next iteration) _ more.1 in
        let lt : iteration < other.end = ltb-true iteration other.end last.1 in
        absurd (omega (arith, lt, e))
    by false h = omega arith

-- the next iteration of a chunk begins
pub begun_next : (share : Share) → HasNoFurther share (record share { next = share.next + 1 })
begun_next share region iteration h =
    let two = two_true (is_dynamic share.schedule) _ h in
    let more = two_true (nat_eq share.region region) _ two.1 in
    let last = two_true (nat_le (share.next + 1) iteration) _ more.1 in
    let le : share.next + 1 ≤ iteration = leb-true (share.next + 1) iteration last.0 in
    both_true _ _ two.0 (both_true _ _ more.0 (both_true _ _ (le-leb share.next iteration (omega (arith, le))) last.1))
