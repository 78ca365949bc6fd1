-- What opening, closing and replacing a region changes of the chances of a context, and that its chunks stay its own.
use Rattle.std.proofs.Common.{◌≡◌, refl, sym, ap, subst, ℕ, ◌+◌, ◌≤◌, ◌<◌, arith, Bool, true, false, if◌then◌else◌}
use Rattle.std.proofs.Common.{Some, List, [], ◌∷◌, drop}
use Rattle.std.specs.Prelude.{nat_eq, nat_le, nat_lt, ◌&&◌}
use Rattle.std.proofs.lemmas.Bool.{eqb-true, leb-true, le-leb, ltb-true}
use Rattle.om_foot.specs.Below.{both_true, two_true}
use Rattle.om_state.specs.declared.control.Construct.{Construct}
use Rattle.om_state.specs.declared.control.Construct.TheVariants as construct
use Rattle.om_state.specs.declared.control.Context.{Context}
use Rattle.om_state.specs.declared.control.Kind.{Kind}
use Rattle.om_state.specs.declared.control.Kind.TheVariants as kind
use Rattle.om_state.specs.declared.control.Share.{Share}
use Rattle.om_state.specs.declared.control.Team.{Team}
use Rattle.om_team_serial.specs.Objects.{innermost, is_misplaced_in}
use Rattle.om_team_worksharing.specs.Rows.{share_within}
use Rattle.om_team_laws.specs.Statics.{AreOwned, HasOwnChunk, IsOwned, chances, open_waits, to_meet, wait, waits}
use Rattle.om_team_laws.specs.Works.{is_dynamic}
use Rattle.om_team_laws.proofs.Regions.{count_less, share_first}

-- The chunks of the second context are its own where those of the first one are, and it may begin no iteration more
-- often.
abbrev pub KeepsOwn : Context → Context → Type 0
KeepsOwn a b = AreOwned a.team a.kind a.constructs
    → AreOwned b.team b.kind b.constructs
    × (a.team.number < a.team.size → (region iteration : ℕ) → chances region iteration b ≤ chances region iteration a)

-- the same of one share that takes the place of another one
abbrev pub Advances : Team → Kind → Share → Share → Type 0
Advances team k share other = IsOwned team k (construct.Share share)
    → IsOwned team k (construct.Share other)
    × (team.number < team.size → (region iteration : ℕ)
    → wait region iteration (construct.Share other) ≤ wait region iteration (construct.Share share))

-- ---- parts

closed_waits : (constructs : List Construct) (region iteration : ℕ)
    → open_waits region iteration (drop 1 constructs) ≤ open_waits region iteration constructs
closed_waits [] region iteration = omega arith
closed_waits (y ∷ constructs) region iteration = omega arith

closed_owned : (team : Team) (k : Kind) (constructs : List Construct) → AreOwned team k constructs
    → AreOwned team k (drop 1 constructs)
closed_owned team k [] h = tt
closed_owned team k (y ∷ constructs) h = h.1

met_next : (region regions : ℕ) → to_meet region (regions + 1) ≤ to_meet region regions
met_next region regions = count_less (nat_le regions region) (nat_le (regions + 1) region)
    (λ e. let le : regions + 1 ≤ region = leb-true (regions + 1) region e in
    le-leb regions region (omega (arith, le)))

-- a region that is met is none to be met
abbrev one_at : (region number : ℕ) → ℕ
one_at region number = if nat_eq number region then 1 else 0

met_open : (region regions : ℕ) → to_meet region (regions + 1) + one_at region regions ≤ to_meet region regions
met_open region regions = by (nat_eq regions region) refl
  where
    none : (b : Bool) → nat_le (regions + 1) region ≡ b → regions ≡ region → (if b then 1 else 0) ≤ 0
    none true e same =
        let le : regions + 1 ≤ region = leb-true (regions + 1) region e in absurd (omega (arith, le, same))
    none false e same = omega arith

    by : (b : Bool) → nat_eq regions region ≡ b
        → to_meet region (regions + 1) + (if b then 1 else 0) ≤ to_meet region regions
    by true e =
        let same : regions ≡ region = eqb-true regions region e in
        let now : to_meet region regions ≡ 1 =
        ap (λ b. if b then 1 else 0) (le-leb regions region (omega (arith, same))) in
        let next : to_meet region (regions + 1) ≤ 0 = none (nat_le (regions + 1) region) refl same in
        omega (arith, now, next)
    by false e = let less = met_next region regions in omega (arith, less)

wait_of : (region iteration : ℕ) (share : Share)
    → wait region iteration (construct.Share share) ≤ one_at region share.region
wait_of region iteration share = count_less (nat_eq share.region region) (waits region iteration share)
    (λ e. by (is_dynamic share.schedule) e)
  where
    by : (b : Bool) → (if b then false else (nat_eq share.region region && nat_le share.next iteration)) ≡ true
        → nat_eq share.region region ≡ true
    by true e = cc
    by false e = (two_true (nat_eq share.region region) (nat_le share.next iteration) e).0

-- the sooner the next one, the more wait
pub waits_less : (b same : Bool) (m n iteration : ℕ) → m ≤ n → (if b then false else (same && nat_le n iteration)) ≡ true
    → (if b then false else (same && nat_le m iteration)) ≡ true
waits_less true same m n iteration le e = cc
waits_less false same m n iteration le e =
    let two = two_true same (nat_le n iteration) e in
    let more : n ≤ iteration = leb-true n iteration two.1 in
    both_true same (nat_le m iteration) two.0 (le-leb m iteration (omega (arith, le, more)))

-- ---- contexts

carried : (a b : Context) → b.team ≡ a.team → b.kind ≡ a.kind → AreOwned a.team a.kind b.constructs
    → AreOwned b.team b.kind b.constructs
carried a b team k h =
    subst (λ x. AreOwned x b.kind b.constructs) (sym team) (subst (λ x. AreOwned a.team x b.constructs) (sym k) h)

-- the same regions are open
pub keeps_same : (a b : Context) → b.team ≡ a.team → b.kind ≡ a.kind → b.regions ≡ a.regions
    → b.constructs ≡ a.constructs → KeepsOwn a b
keeps_same a b team k r e h = (
  carried a b team k (subst (AreOwned a.team a.kind) (sym e) h),
  λ small region iteration.
      let met = ap (to_meet region) r in
      let same = ap (open_waits region iteration) e in
      omega (arith, met, same),
)

-- a region that is neither a loop nor sections opens
pub keeps_open : (a b : Context) (x : Construct) → b.team ≡ a.team → b.kind ≡ a.kind
    → ((region : ℕ) → to_meet region b.regions ≤ to_meet region a.regions) → b.constructs ≡ x ∷ a.constructs
    → ((region iteration : ℕ) → wait region iteration x ≡ 0) → IsOwned a.team a.kind x → KeepsOwn a b
keeps_open a b x team k r e n o h = (
  carried a b team k (subst (AreOwned a.team a.kind) (sym e) (o, h)),
  λ small region iteration.
      let met = r region in
      let same = ap (open_waits region iteration) e in
      let none = n region iteration in
      omega (arith, met, same, none),
)

-- a `single` region opens, which is counted
pub keeps_single : (a b : Context) (runs : Bool) → b.team ≡ a.team → b.kind ≡ a.kind → b.regions ≡ a.regions + 1
    → b.constructs ≡ construct.Single runs ∷ a.constructs → KeepsOwn a b
keeps_single a b runs team k r e =
    keeps_open a b (construct.Single runs) team k
    (λ region. let met = ap (to_meet region) r in
    let less = met_next region a.regions in
    omega (arith, met, less)) e (λ region iteration. refl) tt

-- the innermost one closes
pub keeps_close : (a b : Context) → b.team ≡ a.team → b.kind ≡ a.kind → b.regions ≡ a.regions
    → b.constructs ≡ drop 1 a.constructs → KeepsOwn a b
keeps_close a b team k r e h = (
  carried a b team k (subst (AreOwned a.team a.kind) (sym e) (closed_owned a.team a.kind a.constructs h)),
  λ small region iteration.
      let met = ap (to_meet region) r in
      let same = ap (open_waits region iteration) e in
      let less = closed_waits a.constructs region iteration in
      omega (arith, met, same, less),
)

-- the innermost share is replaced
pub keeps_replace : (a b : Context) (share other : Share) → b.team ≡ a.team → b.kind ≡ a.kind → b.regions ≡ a.regions
    → b.constructs ≡ construct.Share other ∷ drop 1 a.constructs → share_within (innermost a.constructs) ≡ Some share
    → Advances a.team a.kind share other → KeepsOwn a b
keeps_replace a b share other team k r e i go h =
    let first = share_first a.constructs share i in
    let whole : AreOwned a.team a.kind (construct.Share share ∷ drop 1 a.constructs) =
    subst (AreOwned a.team a.kind) first h in
    let on = go whole.0 in (
      carried a b team k (subst (AreOwned a.team a.kind) (sym e) (on.0, whole.1)),
      λ small region iteration.
          let met = ap (to_meet region) r in
          let now = ap (open_waits region iteration) e in
          let was = ap (open_waits region iteration) first in
          let less = on.1 small region iteration in
          omega (arith, met, now, was, less),
    )

-- a loop or sections open, which are counted, and have no chunk
pub record IsFresh (c : Context) (share : Share) : Type 0 where
  pub of_region : share.region ≡ c.regions
  pub no_next : share.next ≡ 0
  pub no_end : share.end ≡ 0

pub keeps_begun : (a b : Context) (share : Share) → b.team ≡ a.team → b.kind ≡ a.kind → b.regions ≡ a.regions + 1
    → b.constructs ≡ construct.Share share ∷ a.constructs → IsFresh a share → (a.kind ≡ kind.Explicit → ⊥) → KeepsOwn a b
keeps_begun a b share team k r e f implicit h = (
  carried a b team k (subst (AreOwned a.team a.kind) (sym e) ((implicit, λ static small. own), h)),
  λ small region iteration.
      let met = ap (to_meet region) r in
      let same = ap (open_waits region iteration) e in
      let one = wait_of region iteration share in
      let which = ap (one_at region) f.of_region in
      let less = met_open region a.regions in
      omega (arith, met, same, one, which, less),
)
  where
    own : HasOwnChunk a.team share
    own =
        let next = f.no_next in
        let end = f.no_end in
        record {
          in_order = omega (arith, next, end);
          own = λ iteration low high. absurd (omega (arith, high, end));
          behind = λ q chunk le g. omega (arith, end);
        }

-- ---- where a region of these may be opened

pub not_explicit : (k : Kind) (constructs : List Construct) → is_misplaced_in k constructs ≡ false → k ≡ kind.Explicit → ⊥
not_explicit kind.Explicit constructs e f = cc
not_explicit kind.Implicit constructs e f = cc
not_explicit kind.Initial constructs e f = cc

-- ---- shares

-- the next iteration begins
pub next_advances : (team : Team) (k : Kind) (share : Share) → nat_lt share.next share.end ≡ true
    → Advances team k share (record share { next = share.next + 1 })
next_advances team k share is o = (
  (
    o.0,
    λ static small.
        let c : HasOwnChunk team share = o.1 static small in
        let lt : share.next < share.end = ltb-true share.next share.end is in
        record {
          in_order = omega (arith, lt);
          own = λ iteration low high. c.own iteration (omega (arith, low)) high;
          behind = λ r chunk le e. c.behind r chunk le e;
        },
  ),
  λ small region iteration.
      count_less (waits region iteration share) (waits region iteration (record share { next = share.next + 1 }))
      (λ e. waits_less (is_dynamic share.schedule) (nat_eq share.region region) share.next (share.next + 1) iteration
      (omega arith) e),
)
