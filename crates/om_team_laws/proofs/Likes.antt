-- Contexts that are like one another: with the same regions open, or where one opens, closes or is replaced.
use Rattle.std.proofs.Common.{◌≡◌, ◌∙◌, ap, ℕ, ◌+◌, ◌≤◌, arith, Bool, Some}
use Rattle.std.proofs.Common.{◌∷◌, drop}
use Rattle.om_state.specs.declared.control.Construct.{Construct}
use Rattle.om_state.specs.declared.control.Construct.TheVariants as construct
use Rattle.om_state.specs.declared.control.Context.{Context}
use Rattle.om_state.specs.declared.control.Kind.TheVariants as kind
use Rattle.om_state.specs.declared.control.Share.{Share}
use Rattle.om_team_serial.specs.Objects.{innermost}
use Rattle.om_team_worksharing.specs.Rows.{share_within}
use Rattle.om_team_laws.specs.Criticals.{openings}
use Rattle.om_team_laws.specs.Statics.{IsOwned, to_meet, wait}
use Rattle.om_team_laws.proofs.Cases.{IsLike}
use Rattle.om_team_laws.proofs.Owned.{Advances, IsFresh, keeps_begun, keeps_close, keeps_open, keeps_replace, keeps_same}
use Rattle.om_team_laws.proofs.Regions.{IsOther, closed_openings, closed_singles, replaced_openings, replaced_singles}
use Rattle.om_team_laws.proofs.Regions.{single, singles}

-- the same task, no birth less, and as many worksharing regions
pub record IsOne (a b : Context) : Type 0 where
  pub task : b.task ≡ a.task
  pub kind : b.kind ≡ a.kind
  pub team : b.team ≡ a.team
  pub births : a.births ≤ b.births
  pub regions : b.regions ≡ a.regions

-- the same regions are open
pub like_same : (a b : Context) → IsOne a b → b.constructs ≡ a.constructs → IsLike a b
like_same a b h e = record {
  task = h.task;
  kind = h.kind;
  team = h.team;
  births = h.births;
  openings = λ lock. ap (openings lock) e;
  singles = λ which. let same = ap (singles which) e in omega (arith, same);
  own = keeps_same a b h.team h.kind h.regions e;
}

-- a masked region or a task group opens
pub like_open : (a b : Context) (x : Construct) → IsOne a b → b.constructs ≡ x ∷ a.constructs → IsOther x
    → ((which : Bool) → single which x ≡ 0) → ((region iteration : ℕ) → wait region iteration x ≡ 0)
    → IsOwned a.team a.kind x → IsLike a b
like_open a b x h e o n w own = record {
  task = h.task;
  kind = h.kind;
  team = h.team;
  births = h.births;
  openings = λ lock.
      let same = ap (openings lock) e in
      let none = o lock in
      omega (arith, same, none);
  singles = λ which.
      let same = ap (singles which) e in
      let none = n which in
      omega (arith, same, none);
  own = keeps_open a b x h.team h.kind (λ region. let met = ap (to_meet region) h.regions in omega (arith, met)) e w own;
}

-- a loop or sections open, which are counted
pub like_begun : (a b : Context) (share : Share) → b.task ≡ a.task → b.kind ≡ a.kind → b.team ≡ a.team
    → b.births ≡ a.births → b.regions ≡ a.regions + 1 → b.constructs ≡ construct.Share share ∷ a.constructs
    → IsFresh a share → (a.kind ≡ kind.Explicit → ⊥) → IsLike a b
like_begun a b share task k team births regions e fresh implicit = record {
  task = task;
  kind = k;
  team = team;
  births = omega (arith, births);
  openings = λ lock. let same = ap (openings lock) e in omega (arith, same);
  singles = λ which. let same = ap (singles which) e in omega (arith, same);
  own = keeps_begun a b share team k regions e fresh implicit;
}

-- the innermost one closes
pub like_close : (a b : Context) (x : Construct) → IsOne a b → b.constructs ≡ drop 1 a.constructs
    → innermost a.constructs ≡ Some x → IsOther x → IsLike a b
like_close a b x h e i o = record {
  task = h.task;
  kind = h.kind;
  team = h.team;
  births = h.births;
  openings = λ lock. ap (openings lock) e ∙ closed_openings a.constructs x i o lock;
  singles = λ which.
      let same = ap (singles which) e in
      let less = closed_singles a.constructs which in
      omega (arith, same, less);
  own = keeps_close a b h.team h.kind h.regions e;
}

-- the innermost share is replaced
pub like_replace : (a b : Context) (share other : Share) → IsOne a b
    → b.constructs ≡ construct.Share other ∷ drop 1 a.constructs → share_within (innermost a.constructs) ≡ Some share
    → Advances a.team a.kind share other → IsLike a b
like_replace a b share other h e i go = record {
  task = h.task;
  kind = h.kind;
  team = h.team;
  births = h.births;
  openings = λ lock. ap (openings lock) e ∙ replaced_openings a.constructs share other i lock;
  singles = λ which.
      let same = ap (singles which) e in
      let less = replaced_singles a.constructs other which in
      omega (arith, same, less);
  own = keeps_replace a b share other h.team h.kind h.regions e i go;
}
