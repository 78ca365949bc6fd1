-- The begin of a `sections`, with its list of PICK.
use Rattle.std.proofs.Common.{◌≡◌, ℕ, zero, suc, ◌+◌, ◌<◌, ◌≤◌, List, [], ◌∷◌, ◌++◌, Some, None, length, map}
use Rattle.std.proofs.Common.{refl, sym, ap, ◌∙◌, subst, arith, length-append}
use Rattle.std.specs.Prelude.{slice_get}
use Rattle.std.proofs.lemmas.List.{map-append}
use Rattle.std.proofs.lemmas.Option.{slice_get_within}
use Rattle.om_lower_emit.specs.declared.spot.LoopLabels.{LoopLabels}
use Rattle.om_lower_emit.specs.Stretches.{Begins, sections_begin}
use Rattle.om_lower_emit.specs.declared.draft.Pick.{Pick}
use Rattle.om_lower_emit.specs.Drafts.{Labels, Written, FreshList, labels_from, unplaced}
use Rattle.om_lower_emit.specs.Emits.{Finished, Grows}
use Rattle.om_lower_emit.specs.Writing.{fits_back, get_left, get_seam, grows_on}
use Rattle.om_lower_rules.specs.Bodies.{next_pick}
use Rattle.om_lower.specs.declared.worksharing.PartsSpot.{PartsSpot}
use Rattle.om_lower_emit.specs.Statements.{pick_number}
use Rattle.om_lower.specs.Parts.{AreFree, OpensParts, PartHead}
use Rattle.om_lower_emit.specs.Going.{free_within}
use Rattle.om_lower_rules.specs.Numbered.{Numbered}
use Rattle.om_lower_rules.specs.Numbering.{numbers_of}

-- ---- labels

unplaced_at : (count k : ℕ) → k < count → slice_get (unplaced count) k ≡ Some None
unplaced_at zero k lt = absurd (omega arith)
unplaced_at (suc count) zero lt = refl
unplaced_at (suc count) (suc k) lt = unplaced_at count k (omega arith)

get_behind : {A : Type 0} (xs ys : List A) (k : ℕ) → slice_get (xs ++ ys) (length xs + k) ≡ slice_get ys k
get_behind [] ys k = ap (λ j. slice_get ys j) (omega arith)
get_behind (x ∷ xs) ys k =
    let next : length (x ∷ xs) + k ≡ suc (length xs + k) = omega arith in
    ap (λ j. slice_get (x ∷ (xs ++ ys)) j) next ∙ get_behind xs ys k

-- ---- the begin

pub grows_listed : (number first count : ℕ) (a b : Written) → FreshList number first count a b → Grows a b
grows_listed number first count a b h = record {
  longer = omega (arith, ap length h.code);
  code = λ k lt. ap (λ s. slice_get s k) h.code;
  places = λ l x e. ap (λ s. slice_get s l) h.places
      ∙ get_left a.places (unplaced count) l (slice_get_within a.places l (Some x) e) ∙ e;
  picks = λ k x e. ap (λ s. slice_get s k) h.picks
      ∙ get_left a.picks (record { number = number; labels = labels_from first count } ∷ []) k
      (slice_get_within a.picks k x e) ∙ e;
}

listed_free : (number first count label : ℕ) (a b : Written) → FreshList number first count a b
    → slice_get a.places label ≡ Some None → slice_get b.places label ≡ Some None
listed_free number first count label a b h f =
    ap (λ s. slice_get s label) h.places ∙ get_left a.places (unplaced count) label (free_within label a f) ∙ f

part_free : (number first count : ℕ) (a b : Written) → FreshList number first count a b → AreFree first count b
part_free number first count a b h k lt =
    ap (λ s. slice_get s (first + k)) h.places
    ∙ ap (λ j. slice_get (a.places ++ unplaced count) (j + k)) h.is
    ∙ get_behind a.places (unplaced count) k
    ∙ unplaced_at count k lt

pub opens_parts : (names : Numbered) (head : PartHead) (labels : LoopLabels) (spot : PartsSpot) (a b c : Written)
    → spot.again ≡ labels.again → spot.over ≡ labels.over → spot.line ≡ head.line → numbers_of spot.numbers
    ≡ next_pick head.numbers
    → Begins labels.over (sections_begin names head.line head.clauses
    (record { number = head.numbers.picks; count = head.count }) labels) a b
    → FreshList head.numbers.picks spot.first head.count b c
    → OpensParts names head spot a c
opens_parts names head labels spot a b c again over line numbers g h = record {
  goes = record {
    writes = record {
      grows = grows_on a b c g.goes.writes.grows grows;
      stands = λ done at f. (
        f.picks (length b.picks) list (ap (λ s. slice_get s (length b.picks)) h.picks ∙ get_seam b.picks list []),
        subst (λ x. begin x done at (length a.code) (length c.code)) same_labels
            (subst (λ q. begin labels done at (length a.code) q) (ap length (sym h.code))
            (g.goes.writes.stands done at (fits_back done at _ b c grows f))),
      );
    };
    more = omega (arith, g.goes.keeps.more, more);
    same = λ l lt. ap (λ s. slice_get s l) h.places
        ∙ get_left b.places (unplaced head.count) l (omega (arith, g.goes.keeps.more, lt))
        ∙ g.goes.keeps.same l lt;
    adds = ap (map pick_number) h.picks ∙ map-append pick_number b.picks (list ∷ [])
        ∙ ap (λ z. map pick_number z ++ head.numbers.picks ∷ []) g.goes.keeps.picks;
  };
  line = line;
  numbers = numbers;
  above = omega (arith, over, g.above);
  below = omega (arith, over, h.is, free_within labels.over b g.free);
  over = ap (λ l. slice_get c.places l) over ∙ listed_free head.numbers.picks spot.first head.count labels.over b c
      h g.free;
  free = part_free head.numbers.picks spot.first head.count b c h;
  fit = h.fit;
}
  where
    list : Pick
    list = record { number = head.numbers.picks; labels = labels_from spot.first head.count }

    grows : Grows b c
    grows = grows_listed head.numbers.picks spot.first head.count b c h

    more : length b.places ≤ length c.places
    more = omega (arith, ap length h.places, length-append b.places (unplaced head.count))

    begin : LoopLabels → Finished → Labels → ℕ → ℕ → Type 0
    begin x = sections_begin names head.line head.clauses (record { number = head.numbers.picks; count = head.count }) x

    same_labels : labels ≡ record { again = spot.again; over = spot.over }
    same_labels = ap (λ l. record labels { again = l }) (sym again)
        ∙ ap (λ l. record labels { again = spot.again; over = l }) (sym over)
