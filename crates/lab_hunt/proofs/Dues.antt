-- What is wanted of schedules that were tried.
use Rattle.std.proofs.Common.{◌≡◌, ◌<◌, ◌≤◌, ℕ, suc, List, Option, None, Some, IfSome, is_some, true}
use Rattle.std.proofs.Common.{refl, sym, ◌∙◌, subst, inl, inr, arith}
use Rattle.std.proofs.lemmas.Option.{IfSome_then}
use Rattle.lab_judge.specs.declared.judge.Standard.{Standard}
use Rattle.lab_judge.specs.declared.judge.Standard.TheVariants as standard
use Rattle.lab_judge.specs.Bad.{standard_by, wanted_by}
use Rattle.lab_judge.specs.Texts.{text_in}
use Rattle.lab_schedules.specs.declared.hunted.Aims.{Aims}
use Rattle.lab_schedules.specs.declared.hunted.Found.{Found}
use Rattle.lab_play.specs.declared.seeds.Ground.{Ground}
use Rattle.lab_hunt.specs.declared.hunting.Sought.{Sought}
use Rattle.lab_hunt.specs.Finds.{FindsBad, IsCompared, IsDue, IsFound, IsPrintedBetween, RunsAlone, told_in}
use Rattle.lab_hunt.specs.Tries.{IsComparedAfter, IsComparedOn, IsDueOn, IsFoundAfter, IsFoundOn}
use Rattle.lab_hunt.specs.Tries.{IsOfSeedBefore, IsSought}
use Rattle.om_book.specs.Books.{BookView, machine_of}
use Rattle.om_undo.specs.Machines.{MachineView}

-- a bad schedule, by what is wanted on the ground
pub found_on : (g : Ground) (source : List ℕ) (found : Found) → IsFoundAfter g source g.seeds.after found
    → IsFoundOn g source found
found_on g source found p = record {
  later = p.later;
  within = p.within;
  is = p.is;
  due = inl (p.standard, p.text);
}

known_text : (text : Option (List ℕ)) → is_some text ≡ true → (t : List ℕ) × (text ≡ Some t)
known_text (Some t) h = (t, refl)
known_text None h = cc

-- outputs were compared with what is wanted on the ground
compared_on : (g : Ground) (source : List ℕ) (by : Option Standard) → is_some (text_in g.wanted.now.text) ≡ true
    → by ≡ Some g.wanted.now.standard → IsComparedOn g source by
compared_on g source (Some by) known is =
    let text = known_text (text_in g.wanted.now.text) known in
    (text.0, inl ((cc), sym text.1))
compared_on g source None known is = cc

pub sought_on : (g : Ground) (source : List ℕ) (after : ℕ) (sought : Sought) → after ≡ g.seeds.after
    → is_some (text_in g.wanted.now.text) ≡ true → IsComparedAfter g source after sought → IsSought g source sought
sought_on g source after sought begun known p = record {
  found = IfSome_then sought.found (subst (λ n. IfSome sought.found (IsFoundAfter g source n)) begun p.found)
      (found_on g source);
  compared = compared_on g source sought.compared known p.compared;
}

-- what is told, or else printed by `run` alone
due_first : (aims : Aims) (source : List ℕ) (expected : Option (List ℕ)) (alone : MachineView) (before : ℕ)
    (by : Standard) (text : Option (List ℕ)) → told_in aims ≡ expected → by ≡ standard_by expected
    → text ≡ wanted_by expected alone → IsDue aims source alone before by text
due_first aims source (Some told) alone before by text is e f =
    subst (λ s. IsDue aims source alone before s text) (sym e) (rw is refl, rw is f)
due_first aims source None alone before by text is e f =
    subst (λ s. IsDue aims source alone before s text) (sym e) (rw is refl, rw is f)

-- what the schedule of a seed printed
due_later : (aims : Aims) (g : Ground) (source : List ℕ) (alone : MachineView) (before : ℕ) (by : Standard)
    (text : Option (List ℕ)) → g.workers ≡ aims.workers → g.seeds ≡ aims.seeds
    → wanted_by (told_in aims) alone ≡ None → IsOfSeedBefore g source before by text
    → IsDue aims source alone before by text
due_later aims g source alone before standard.Told text w s none p = absurd p
due_later aims g source alone before standard.Run text w s none p = absurd p
due_later aims g source alone before (standard.Seed seed) text w s none p = (
  none,
  subst (λ n. IsPrintedBetween aims.workers source n.after before seed text) s
      (subst (λ n. IsPrintedBetween n source g.seeds.after before seed text) w p),
)

-- what is wanted on the ground of a hunt
pub due_on : (aims : Aims) (g : Ground) (source : List ℕ) (alone : MachineView) (before : ℕ) (by : Standard)
    (text : Option (List ℕ)) → g.workers ≡ aims.workers → g.seeds ≡ aims.seeds
    → g.wanted.now.standard ≡ standard_by (told_in aims)
    → text_in g.wanted.now.text ≡ wanted_by (told_in aims) alone → IsDueOn g source before by text
    → IsDue aims source alone before by text
due_on aims g source alone before by text w s e f (inl p) =
    due_first aims source (told_in aims) alone before by text refl (p.0 ∙ e) (p.1 ∙ f)
due_on aims g source alone before by text w s e f (inr q) =
    due_later aims g source alone before by text w s (sym f ∙ q.0) q.1

compared_by : (aims : Aims) (g : Ground) (source : List ℕ) (alone : MachineView) (by : Option Standard)
    → g.workers ≡ aims.workers → g.seeds ≡ aims.seeds → g.wanted.now.standard ≡ standard_by (told_in aims)
    → text_in g.wanted.now.text ≡ wanted_by (told_in aims) alone → IsComparedOn g source by
    → IsCompared aims source alone by
compared_by aims g source alone (Some by) w s e f p = (
  p.0,
  due_on aims g source alone (suc aims.seeds.last) by (Some p.0) w s e f
      (subst (λ n. IsDueOn g source (suc n.last) by (Some p.0)) s p.1),
)
compared_by aims g source alone None w s e f p = sym f ∙ p

-- with what outputs were compared in a hunt
pub compared_in : (aims : Aims) (g : Ground) (source : List ℕ) (alone : MachineView) (sought : Sought)
    → g.workers ≡ aims.workers → g.seeds ≡ aims.seeds → g.wanted.now.standard ≡ standard_by (told_in aims)
    → text_in g.wanted.now.text ≡ wanted_by (told_in aims) alone → IsSought g source sought
    → IsCompared aims source alone sought.compared
compared_in aims g source alone sought w s e f p =
    compared_by aims g source alone sought.compared w s e f p.compared

not_zero : (after n : ℕ) → after < n → n ≡ 0 → ⊥
not_zero after n less z = omega (arith, less, z)

-- a bad schedule of a seed, in a hunt
pub found_in : (aims : Aims) (g : Ground) (source : List ℕ) (text : List ℕ) (alone : BookView) (found : Found)
    → RunsAlone aims.workers source text (Some alone) → g.workers ≡ aims.workers → g.seeds ≡ aims.seeds
    → g.wanted.now.standard ≡ standard_by (told_in aims)
    → text_in g.wanted.now.text ≡ wanted_by (told_in aims) (machine_of alone) → IsFoundOn g source found
    → FindsBad aims source found
found_in aims g source text alone found r w s e f p = record {
  text = text;
  alone = alone;
  runs = r;
  is = subst (λ n. IsFound n source found) w p.is;
  from = inr (subst (λ n. n.after < found.seed) s p.later);
  within = subst (λ n. found.seed ≤ n.last) s p.within;
  of_run = λ z. absurd (not_zero g.seeds.after found.seed p.later z);
  due = due_on aims g source (machine_of alone) found.seed found.wanted.standard (text_in found.wanted.text) w s e f
      p.due;
}
