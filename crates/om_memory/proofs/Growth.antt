-- An idle trail more, behind the others, changes nothing that is seen.
use Rattle.std.proofs.Common.{◌≡◌, refl, ◌∙◌, ℕ, zero, suc, List, [], ◌∷◌, ◌++◌, true}
use Rattle.std.specs.Prelude.{slice_get, is_some}
use Rattle.om_state.specs.declared.control.Control.TheVariants as plain
use Rattle.om_memory.specs.Trails.{TrailView}
use Rattle.om_memory.specs.Memories.{now_at, past_at, GrowTo}

abbrev pub idle : TrailView
idle = record { now = plain.Idle; past = [] }

now_one : (ts : List TrailView) (w : ℕ) → now_at (ts ++ idle ∷ []) w ≡ now_at ts w
now_one [] zero = refl
now_one [] (suc w) = refl
now_one (t ∷ ts) zero = refl
now_one (t ∷ ts) (suc w) = now_one ts w

past_one : (ts : List TrailView) (w : ℕ) → past_at (ts ++ idle ∷ []) w ≡ past_at ts w
past_one [] zero = refl
past_one [] (suc w) = refl
past_one (t ∷ ts) zero = refl
past_one (t ∷ ts) (suc w) = past_one ts w

kept_one : (ts : List TrailView) (w : ℕ) → is_some (slice_get ts w) ≡ true
    → is_some (slice_get (ts ++ idle ∷ []) w) ≡ true
kept_one [] w e = cc
kept_one (t ∷ ts) zero e = refl
kept_one (t ∷ ts) (suc w) e = kept_one ts w e

pub grow_none : (ts : List TrailView) → GrowTo ts ts
grow_none ts = record { now = λ w. refl; past = λ w. refl; kept = λ w h. h }

pub grow_one : (ts us : List TrailView) → GrowTo ts us → GrowTo ts (us ++ idle ∷ [])
grow_one ts us more = record {
  now = λ w. now_one us w ∙ more.now w;
  past = λ w. past_one us w ∙ more.past w;
  kept = λ w h. kept_one us w (more.kept w h);
}
