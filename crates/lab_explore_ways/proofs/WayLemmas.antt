-- Things that were found, with one of them told by another way.
use Rattle.std.proofs.Common.{◌≡◌, refl, sym, ◌∙◌, ap, subst, ℕ, List, [], ◌∷◌, ◌++◌, map, Some}
use Rattle.std.specs.Prelude.{All}
use Rattle.std.proofs.lemmas.List.Elements.{All-cons, All-head, All-pop, All-tail}
use Rattle.om_code.specs.declared.raw.Raw.{Raw}
use Rattle.lab_explore_closed.specs.declared.found.Ending.{Ending}
use Rattle.lab_explore_closed.specs.declared.found.Explored as answers
use Rattle.lab_explore_closed.specs.declared.found.Met.{Met}
use Rattle.lab_explore_closed.specs.declared.found.Pair.{Pair}
use Rattle.lab_explore_closed.specs.Explored.{IsExplored, IsPossibleEnd, IsPossibleRace, AreAllEnds, AreAllRaces, ending_of_found, pair_of_found}
use Rattle.lab_explore_closed.specs.Lists.{AllDifferent}
use Rattle.om_undo.specs.Machines.{MachineView}
use Rattle.lab_explore_ways.specs.Ways.{AreStill, IsOfSame, IsStill, IsByShortWays, IsStillExplored}

module _ {F K : Type 0} (told : F → K) (IsThere : F → Type 0) where
  pub still_same : (xs : List F) → AreStill told IsThere xs xs
  still_same xs = record { alike = refl; there = λ h. h }

  pub still_then : (xs ys zs : List F) → AreStill told IsThere xs ys → AreStill told IsThere ys zs
      → AreStill told IsThere xs zs
  still_then xs ys zs a b = record { alike = b.alike ∙ a.alike; there = λ h. b.there (a.there h) }

  -- the last of some, in front of others
  pub still_at : (xs ys : List F) (e f : F) → IsStill told IsThere e f
      → AreStill told IsThere ((xs ++ e ∷ []) ++ ys) (xs ++ f ∷ ys)
  still_at [] ys e f s = record {
    alike = ap (λ k. k ∷ map told ys) s.alike;
    there = λ all. All-cons IsThere f ys (s.there (All-head IsThere e ys all)) (All-tail IsThere e ys all);
  }
  still_at (x ∷ xs) ys e f s =
      let rest = still_at xs ys e f s in
      record {
        alike = ap (λ ks. told x ∷ ks) rest.alike;
        there = λ all. All-cons IsThere x (xs ++ f ∷ ys) (All-head IsThere x ((xs ++ e ∷ []) ++ ys) all)
            (rest.there (All-tail IsThere x ((xs ++ e ∷ []) ++ ys) all));
      }

module _ {F : Type 0} (P : F → Type 0) where
  pub last_of : (xs front : List F) (x : F) → xs ≡ front ++ x ∷ [] → All P xs → P x
  last_of xs front x is h = (All-pop P xs front (Some x) is h).1

  pub front_of : (xs front : List F) (x : F) → xs ≡ front ++ x ∷ [] → All P xs → All P front
  front_of xs front x is h = (All-pop P xs front (Some x) is h).0

module _ {F K : Type 0} (told : F → K) (IsThere : Raw → ℕ → F → Type 0) where
  -- what is there for a machine is there for one of the same program

  pub still_of : (m n : MachineView) (xs ys : List F) → IsOfSame m n
      → AreStill told (IsThere n.program n.workers) xs ys → AreStill told (IsThere m.program m.workers) xs ys
  still_of m n xs ys same h =
      subst (λ w. AreStill told (IsThere m.program w) xs ys) same.workers
      (subst (λ p. AreStill told (IsThere p n.workers) xs ys) same.program h)

  pub one_of : (m n : MachineView) (e f : F) → IsOfSame m n → IsStill told (IsThere n.program n.workers) e f
      → IsStill told (IsThere m.program m.workers) e f
  one_of m n e f same h =
      subst (λ w. IsStill told (IsThere m.program w) e f) same.workers
      (subst (λ p. IsStill told (IsThere p n.workers) e f) same.program h)

  -- the last of those that are left is taken, and told by another way

  pub goes_on : (m n : MachineView) (old rest front short longer : List F) (e f : F) → IsOfSame m n
      → AreStill told (IsThere m.program m.workers) old (rest ++ short) → rest ≡ front ++ e ∷ []
      → longer ≡ f ∷ short → IsStill told (IsThere n.program n.workers) e f
      → AreStill told (IsThere m.program m.workers) old (front ++ longer)
  goes_on m n old rest front short longer e f same h is more s =
      let there = IsThere m.program m.workers in
      still_then told there old (rest ++ short) (front ++ longer) h
      (subst (λ (xs : List F). AreStill told there (xs ++ short) (front ++ longer)) (sym is)
      (subst (λ (ys : List F). AreStill told there ((front ++ e ∷ []) ++ short) (front ++ ys)) (sym more)
      (still_at told there front short e f (one_of m n e f same s))))

pub same_then : (m n o : MachineView) → IsOfSame m n → IsOfSame n o → IsOfSame m o
same_then m n o a b = record { program = b.program ∙ a.program; workers = b.workers ∙ a.workers }

module _ (program : Raw) (workers : ℕ) where
  pub still_explored : (old new : answers.Explored) → IsByShortWays program workers old new
      → IsStillExplored program workers old new
  still_explored old new is limits h =
      subst (λ e. IsExplored program workers limits e) (sym is.rest) record {
        possible_ends = is.ends.there h.possible_ends;
        possible_faults = h.possible_faults;
        possible_races = is.races.there h.possible_races;
        no_end_twice = subst (λ (es : List Ending). AllDifferent es) (sym is.ends.alike) h.no_end_twice;
        no_fault_twice = h.no_fault_twice;
        no_race_twice = subst (λ (ps : List Pair). AllDifferent ps) (sym is.races.alike) h.no_race_twice;
        all_ends = λ all. subst (λ es. AreAllEnds program workers es) (sym is.ends.alike) (h.all_ends all);
        all_faults = h.all_faults;
        all_races = λ all. subst (λ ps. AreAllRaces program workers ps) (sym is.races.alike) (h.all_races all);
        counted = h.counted;
        begun = h.begun;
        stepped = h.stepped;
        gave_up = h.gave_up;
        asked = h.asked;
        round = h.round;
      }
