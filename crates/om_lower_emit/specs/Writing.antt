-- How a row is written from the left, an item at a time: what is written first, and what whoever goes on
-- writes behind it.
use Rattle.std.proofs.Common.{◌≡◌, ℕ, zero, suc, ◌+◌, ◌<◌, ◌≤◌, List, [], ◌∷◌, ◌++◌, length, Some, None, refl, ap, ◌∙◌}
use Rattle.std.proofs.Common.{subst, arith, length-append, map, sym}
use Rattle.std.specs.Prelude.{slice_get, slice_set}
use Rattle.std.proofs.lemmas.List.{append_assoc, append-nil}
use Rattle.std.proofs.lemmas.Option.{slice_get_within}
use Rattle.om_code.specs.declared.instruction.Instr.{Instr}
use Rattle.om_lower_emit.specs.Drafts.{Labels, Written, line_of, moved, Puts, PutsAll, Fresh, Defines}
use Rattle.om_lower_emit.specs.declared.draft.Pick.{Pick}
use Rattle.om_lower_emit.specs.Emits.{Finished, Part, site, Fits, Grows, Keeps, Goes, Emits, EmitsRow}
use Rattle.om_lower_rules.specs.Numbered.{Numbered}
use Rattle.om_lower_rules.specs.Rows.{Site, Row, end, ins, part, here, ◌▸◌}

-- ---- lists

pub get_left : {A : Type 0} → (xs ys : List A) (k : ℕ) → k < length xs → slice_get (xs ++ ys) k ≡ slice_get xs k
get_left [] ys k h = absurd (omega arith)
get_left (x ∷ xs) ys zero h = refl
get_left (x ∷ xs) ys (suc k) h = get_left xs ys k (omega arith)

pub get_seam : {A : Type 0} → (xs : List A) (y : A) (ys : List A) → slice_get (xs ++ y ∷ ys) (length xs) ≡ Some y
get_seam [] y ys = refl
get_seam (x ∷ xs) y ys = get_seam xs y ys

set_same : {A : Type 0} → (xs : List A) (k : ℕ) (y x : A) → slice_get xs k ≡ Some x
    → slice_get (slice_set xs k y) k ≡ Some y
set_same [] k y x h = cc
set_same (z ∷ xs) zero y x h = refl
set_same (z ∷ xs) (suc k) y x h = set_same xs k y x h

set_other : {A : Type 0} → (xs : List A) (k l : ℕ) (y : A) → (k ≡ l → ⊥)
    → slice_get (slice_set xs k y) l ≡ slice_get xs l
set_other [] k l y h = refl
set_other (z ∷ xs) zero zero y h = absurd (h refl)
set_other (z ∷ xs) zero (suc l) y h = refl
set_other (z ∷ xs) (suc k) zero y h = refl
set_other (z ∷ xs) (suc k) (suc l) y h = set_other xs k l y (λ e. h (omega arith))

set_length : {A : Type 0} → (xs : List A) (k : ℕ) (y : A) → length (slice_set xs k y) ≡ length xs
set_length [] k y = refl
set_length (z ∷ xs) zero y = refl
set_length (z ∷ xs) (suc k) y = ap suc (set_length xs k y)

-- ---- one behind the other

pub grows_on : (a b c : Written) → Grows a b → Grows b c → Grows a c
grows_on a b c f g = record {
  longer = omega (arith, f.longer, g.longer);
  code = λ k h. g.code k (omega (arith, f.longer)) ∙ f.code k h;
  places = λ l x h. g.places l x (f.places l x h);
  picks = λ k x h. g.picks k x (f.picks k x h);
}

keeps_on : (n : ℕ) (a b c : Written) → Keeps n a b → Keeps n b c → Keeps n a c
keeps_on n a b c f g = record {
  picks = g.picks
      ∙ f.picks;
  more = omega (arith, f.more, g.more);
  same = λ l h. g.same l h ∙ f.same l h;
}

-- what fits the later draft fits the earlier one
pub fits_back : (done : Finished) (at : Labels) (p : ℕ) (b c : Written) → Grows b c → Fits done at p c
    → Fits done at p b
fits_back done at p b c g f = record {
  code = λ k x le e. f.code k x le (g.code k (slice_get_within b.code k x e) ∙ e);
  places = λ l x e. f.places l x (g.places l x e);
  picks = λ k x e. f.picks k x (g.picks k x e);
}

pub fits_from : (done : Finished) (at : Labels) (p q : ℕ) (c : Written) → p ≤ q → Fits done at p c
    → Fits done at q c
fits_from done at p q c le f = record {
  code = λ k x h e. f.code k x (omega arith) e;
  places = f.places;
  picks = f.picks;
}

-- ---- no instruction is added

-- the same code, more labels or lists
record Notes (n : ℕ) (a b : Written) : Type 0 where
  code : b.code ≡ a.code
  places : (l x : ℕ) → slice_get a.places l ≡ Some (Some x) → slice_get b.places l ≡ Some (Some x)
  picks : (k : ℕ) (x : Pick) → slice_get a.picks k ≡ Some x → slice_get b.picks k ≡ Some x
  keeps : Keeps n a b

grows_noted : (n : ℕ) (a b : Written) → Notes n a b → Grows a b
grows_noted n a b h = record {
  longer = omega (arith, ap length h.code);
  code = λ k lt. ap (λ s. slice_get s k) h.code;
  places = h.places;
  picks = h.picks;
}

goes_noted : (n : ℕ) (r : Part) (a b c : Written) → Notes n a b → Goes n r b c → Goes n r a c
goes_noted n r a b c h g = record {
  writes = record {
    grows = grows_on a b c (grows_noted n a b h) g.writes.grows;
    stands = λ done at f.
        subst (λ p. r done at p (length c.code)) (ap length h.code)
        (g.writes.stands done at (fits_from done at _ _ c (omega (arith, ap length h.code)) f));
  };
  keeps = keeps_on n a b c h.keeps g.keeps;
}

-- ---- the items

-- the row is at its end
pub goes_end : (n : ℕ) (a : Written) → Goes n (λ done at. end) a a
goes_end n a = record {
  writes = record {
    grows = record { longer = omega arith; code = λ k h. refl; places = λ l x e. e; picks = λ k x e. e };
    stands = λ done at f. refl;
  };
  keeps = record { picks = refl; more = omega arith; same = λ l h. refl };
}

grows_put : (l : ℕ) (x : Instr) (a b : Written) → Puts l x a b → Grows a b
grows_put l x a b h = record {
  longer = rw h.code (omega (arith, length-append a.code (record { instruction = x; line = l } ∷ [])));
  code = λ k lt. rw h.code (get_left a.code (record { instruction = x; line = l } ∷ []) k lt);
  places = λ m y e. rw h.places e;
  picks = λ m y e. rw h.picks e;
}

keeps_put : (n l : ℕ) (x : Instr) (a b : Written) → Puts l x a b → Keeps n a b
keeps_put n l x a b h = record {
  picks = h.picks;
  more = omega (arith, ap length h.places);
  same = λ m lt. ap (λ s. slice_get s m) h.places;
}

-- an instruction
pub goes_put : (names : Numbered) (n l : ℕ) (x : Instr) (r : Part) (a b c : Written) → Puts l x a b
    → Goes n r b c
    → Goes n (λ done at. ins (site names done) l (moved at x) (r done at)) a c
goes_put names n l x r a b c h g = record {
  writes = record { grows = grows_on a b c (grows_put l x a b h) g.writes.grows; stands = stands };
  keeps = keeps_on n a b c (keeps_put n l x a b h) g.keeps;
}
  where
    len : length b.code ≡ length a.code + 1
    len = ap length h.code ∙ length-append a.code (record { instruction = x; line = l } ∷ [])

    stands : (done : Finished) (at : Labels) → Fits done at (length a.code) c
        → ins (site names done) l (moved at x) (r done at) (length a.code) (length c.code)
    stands done at f =
        let mine : slice_get b.code (length a.code) ≡ Some (record { instruction = x; line = l }) =
        rw h.code (get_seam a.code (record { instruction = x; line = l }) []) in (
          f.code (length a.code) (record { instruction = x; line = l }) (omega arith)
              (g.writes.grows.code (length a.code) (omega (arith, len)) ∙ mine),
          subst (λ p. r done at p (length c.code)) len (g.writes.stands done at (fits_from done at _ _ c
              (omega (arith, len)) f)),
        )

-- instructions of one line, one behind the other, and then the rest
abbrev pub all_ins : Site → Labels → ℕ → List Instr → Row → Row
all_ins s at l [] rest = rest
all_ins s at l (x ∷ xs) rest = ins s l (moved at x) (all_ins s at l xs rest)

pub goes_put_all : (names : Numbered) (n l : ℕ) (xs : List Instr) (r : Part) (a b c : Written) → PutsAll l xs a b
    → Goes n r b c
    → Goes n (λ done at. all_ins (site names done) at l xs (r done at)) a c
goes_put_all names n l [] r a b c h g =
    goes_noted n r a b c (record {
      code = h.code ∙ append-nil a.code;
      places = λ m y e. rw h.places e;
      picks = λ m y e. rw h.picks e;
      keeps = record {
        picks = h.picks;
        more = omega (arith, ap length h.places);
        same = λ m lt. ap (λ s. slice_get s m) h.places;
      };
    }) g
goes_put_all names n l (x ∷ xs) r a b c h g =
    let first : Written = record a { code = a.code ++ line_of l x ∷ [] } in
    goes_put names n l x (λ done at. all_ins (site names done) at l xs (r done at)) a first c
    (record { code = refl; places = refl; picks = refl })
    (goes_put_all names n l xs r first b c (record {
      code = h.code ∙ sym (append_assoc a.code (line_of l x ∷ []) (map (line_of l) xs));
      places = h.places;
      picks = h.picks;
    }) g)

-- a whole part
pub goes_part : (n : ℕ) (r s : Part) (a b c : Written) → n ≤ length a.places → Emits r a b → Goes n s b c
    → Goes n (λ done at. part (r done at) (s done at)) a c
goes_part n r s a b c le e g = record {
  writes = record {
    grows = grows_on a b c e.writes.grows g.writes.grows;
    stands = λ done at f. (
      length b.code,
      e.writes.stands done at (fits_back done at _ b c g.writes.grows f),
      g.writes.stands done at (fits_from done at _ _ c e.writes.grows.longer f),
    );
  };
  keeps = keeps_on n a b c (record {
    picks = e.keeps.picks;
    more = e.keeps.more;
    same = λ l h. e.keeps.same l (omega arith);
  }) g.keeps;
}

-- a label gets its place
pub goes_here : (n label : ℕ) (r : Part) (a b c : Written) → n ≤ label → Defines label a b → Goes n r b c
    → Goes n (λ done at. here (at label) (r done at)) a c
goes_here n label r a b c le h g =
    let kept : Goes n r a c = goes_noted n r a b c noted g in
    record {
      writes = record {
        grows = kept.writes.grows;
        stands = λ done at f. (
          f.places label (length a.code) (g.writes.grows.places label
              (length a.code) mine),
          kept.writes.stands done at f,
        );
      };
      keeps = kept.keeps;
    }
  where
    mine : slice_get b.places label ≡ Some (Some (length a.code))
    mine = ap (λ s. slice_get s label) h.places ∙ set_same a.places label (Some (length a.code)) None h.free

    placed : (l x : ℕ) → slice_get a.places l ≡ Some (Some x) → slice_get b.places l ≡ Some (Some x)
    placed l x e =
        ap (λ s. slice_get s l) h.places
        ∙ set_other a.places label l (Some (length a.code)) (λ (q : label ≡ l).
        let f : slice_get a.places l ≡ Some None =
        subst (λ m. slice_get a.places m ≡ Some None) q h.free in cc)
        ∙ e

    noted : Notes n a b
    noted = record {
      code = h.code;
      places = placed;
      picks = λ k x e. ap (λ s. slice_get s k) h.picks ∙ e;
      keeps = record {
        picks = h.picks;
        more = omega (arith, ap length h.places, set_length a.places label (Some (length a.code)));
        same = λ l lt. ap (λ s. slice_get s l) h.places
            ∙ set_other a.places label l (Some (length a.code)) (λ e. omega arith);
      };
    }

-- a new label
pub goes_fresh : (n label : ℕ) (r : Part) (a b c : Written) → n ≤ length a.places → Fresh label a b
    → Goes n r b c → Goes n r a c
goes_fresh n label r a b c le h g = goes_noted n r a b c noted g
  where
    noted : Notes n a b
    noted = record {
      code = h.code;
      places = λ l x e. rw h.places (get_left a.places (None ∷ []) l (slice_get_within a.places l
          (Some x) e) ∙ e);
      picks = λ k x e. ap (λ s. slice_get s k) h.picks ∙ e;
      keeps = record {
        picks = h.picks;
        more = omega (arith, ap length h.places, length-append a.places (None ∷ []));
        same = λ l lt. rw h.places (get_left a.places (None ∷ []) l (omega arith));
      };
    }

-- fewer labels are kept
pub goes_less : (n m : ℕ) (r : Part) (a c : Written) → n ≤ m → Goes m r a c → Goes n r a c
goes_less n m r a c le g = record {
  writes = g.writes;
  keeps = record { picks = g.keeps.picks; more = g.keeps.more; same = λ l lt. g.keeps.same l (omega arith) };
}

-- another form of the row, as with names for its labels
pub goes_as : (n : ℕ) (r s : Part) (a c : Written) → ((done : Finished) (at : Labels) (p q : ℕ)
    → r done at p q → s done at p q)
    → Goes n r a c → Goes n s a c
goes_as n r s a c f g = record {
  writes = record { grows = g.writes.grows; stands = λ done at h. f done at _ _ (g.writes.stands done at h) };
  keeps = g.keeps;
}

-- ---- a label that has no place yet

pub free_new : (label : ℕ) (a b : Written) → Fresh label a b → slice_get b.places label ≡ Some None
free_new label a b h = rw (h.places, h.is) (get_seam a.places None [])

pub free_fresh : (label other : ℕ) (a b : Written) → Fresh other a b
    → slice_get a.places label ≡ Some None → slice_get b.places label ≡ Some None
free_fresh label other a b h f =
    rw h.places (get_left a.places (None ∷ []) label (slice_get_within a.places label None f) ∙ f)

pub free_put : (label l : ℕ) (x : Instr) (a b : Written) → Puts l x a b
    → slice_get a.places label ≡ Some None → slice_get b.places label ≡ Some None
free_put label l x a b h f = ap (λ s. slice_get s label) h.places ∙ f

pub free_put_all : (label l : ℕ) (xs : List Instr) (a b : Written) → PutsAll l xs a b
    → slice_get a.places label ≡ Some None → slice_get b.places label ≡ Some None
free_put_all label l xs a b h f = ap (λ s. slice_get s label) h.places ∙ f

pub free_part : (label : ℕ) (r : Part) (a b : Written) → Emits r a b
    → slice_get a.places label ≡ Some None → slice_get b.places label ≡ Some None
free_part label r a b e f = e.keeps.same label (slice_get_within a.places label None f) ∙ f

pub free_define : (label other : ℕ) (a b : Written) → (other ≡ label → ⊥) → Defines other a b
    → slice_get a.places label ≡ Some None → slice_get b.places label ≡ Some None
free_define label other a b differ h f =
    ap (λ s. slice_get s label) h.places ∙ set_other a.places other label (Some (length a.code)) differ ∙ f

-- ---- how many labels there are

pub fresh_length : (label : ℕ) (a b : Written) → Fresh label a b → length b.places ≡ length a.places + 1
fresh_length label a b h = ap length h.places ∙ length-append a.places (None ∷ [])

pub put_length : (l : ℕ) (x : Instr) (a b : Written) → Puts l x a b → length b.places ≡ length a.places
put_length l x a b h = ap length h.places

pub put_all_length : (l : ℕ) (xs : List Instr) (a b : Written) → PutsAll l xs a b
    → length b.places ≡ length a.places
put_all_length l xs a b h = ap length h.places

pub define_length : (label : ℕ) (a b : Written) → Defines label a b → length b.places ≡ length a.places
define_length label a b h = ap length h.places ∙ set_length a.places label (Some (length a.code))

-- ---- whole parts

-- one instruction
pub emits_one : (names : Numbered) (l : ℕ) (x : Instr) (a b : Written) → Puts l x a b
    → Emits (λ done at. ins (site names done) l (moved at x) ▸ end) a b
emits_one names l x a b h = goes_put names (length a.places) l x (λ done at. end) a b b h (goes_end
    (length a.places) b)

-- the same under another form of the row
pub emits_as : (r s : Part) (a c : Written) → ((done : Finished) (at : Labels) (p q : ℕ) → r done at p q
    → s done at p q)
    → Emits r a c → Emits s a c
emits_as r s a c f e = goes_as (length a.places) r s a c f e

-- one part behind the other
pub emits_then : (r s : Part) (a b c : Written) → Emits r a b → Emits s b c
    → Emits (λ done at. part (r done at) ▸ s done at) a c
emits_then r s a b c e f =
    goes_part (length a.places) r s a b c (omega arith) e
    (goes_less (length a.places) (length b.places) s b c e.keeps.more f)

-- a part, and one instruction
pub emits_put : (names : Numbered) (row : Site → Row) (l : ℕ) (x : Instr) (a b c : Written) → EmitsRow names row a b
    → Puts l x b c
    → Emits (λ done at. part (row (site names done)) ▸ ins (site names done) l (moved at x) ▸ end) a c
emits_put names row l x a b c e h =
    emits_then (λ done at. row (site names done)) (λ done at. ins (site names done) l (moved at x)
    ▸ end) a b c e (emits_one names l x b c h)
