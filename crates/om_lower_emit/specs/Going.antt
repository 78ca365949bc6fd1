-- Matter of proofs, for om_lower too: how stretches are written one behind the other, with the lists of PICK of both.
use Rattle.std.proofs.Common.{◌≡◌, ℕ, ◌<◌, ◌≤◌, List, [], ◌++◌, Some, None, length, map, sym, ap, subst, ◌∙◌, arith}
use Rattle.std.specs.Prelude.{slice_get}
use Rattle.std.proofs.lemmas.List.{append_assoc, append-nil}
use Rattle.std.proofs.lemmas.Option.{slice_get_within}
use Rattle.om_code.specs.declared.instruction.Instr.{Instr}
use Rattle.om_lower_emit.specs.Drafts.{Labels, Written, Defines, Fresh, Puts}
use Rattle.om_lower_emit.specs.Emits.{Finished, Part, Writes, Goes, Emits}
use Rattle.om_lower_emit.specs.Writing.{fits_back, fits_from, free_new, fresh_length, goes_end, goes_fresh, goes_here, goes_less}
use Rattle.om_lower_emit.specs.Writing.{grows_on}
use Rattle.om_lower_rules.specs.Rows.{end, part, here}
use Rattle.om_lower_emit.specs.Statements.{EmitsWith, GoesWith, pick_number}
use Rattle.om_lower_emit.specs.Stretches.{Begins}

-- the same instruction
pub puts_is : (l : ℕ) (x y : Instr) (a b : Written) → x ≡ y → Puts l x a b → Puts l y a b
puts_is l x y a b e h = subst (λ z. Puts l z a b) e h

pub writes_then : (r s : Part) (a b c : Written) → Writes r a b → Writes s b c
    → Writes (λ done at. part (r done at) (s done at)) a c
writes_then r s a b c e g = record {
  grows = grows_on a b c e.grows g.grows;
  stands = λ done at f. (
    length b.code,
    e.stands done at (fits_back done at _ b c g.grows f),
    g.stands done at (fits_from done at _ _ c e.grows.longer f),
  );
}

-- both keep the labels below n
pub goes_then : (n m j : ℕ) (r s : Part) (a b c : Written) → n ≤ m → n ≤ j → Goes m r a b → Goes j s b c
    → Goes n (λ done at. part (r done at) (s done at)) a c
goes_then n m j r s a b c le lj e g = record {
  writes = writes_then r s a b c e.writes g.writes;
  keeps = record {
    picks = g.keeps.picks ∙ e.keeps.picks;
    more = omega (arith, e.keeps.more, g.keeps.more);
    same = λ l lt. g.keeps.same l (omega arith) ∙ e.keeps.same l (omega arith);
  };
}

pub goes_place : (label : ℕ) (a b : Written) → Defines label a b → Goes label (λ done at. here (at label) end) a b
goes_place label a b h = goes_here label label (λ done at. end) a b b (omega arith) h (goes_end label b)

-- ---- with lists of PICK

-- what adds no list
pub with_none : (n : ℕ) (r : Part) (a b : Written) → Goes n r a b → GoesWith n [] r a b
with_none n r a b g = record {
  writes = g.writes;
  more = g.keeps.more;
  same = g.keeps.same;
  adds = ap (map pick_number) g.keeps.picks ∙ sym (append-nil (map pick_number a.picks));
}

-- the lists of both
pub then_with : (n m j : ℕ) (xs ys : List ℕ) (r s : Part) (a b c : Written) → n ≤ m → n ≤ j → GoesWith m xs r a b
    → GoesWith j ys s b c
    → GoesWith n (xs ++ ys) (λ done at. part (r done at) (s done at)) a c
then_with n m j xs ys r s a b c le lj e g = record {
  writes = writes_then r s a b c e.writes g.writes;
  more = omega (arith, e.more, g.more);
  same = λ l lt. g.same l (omega arith) ∙ e.same l (omega arith);
  adds = g.adds ∙ ap (λ z. z ++ ys) e.adds ∙ append_assoc (map pick_number a.picks) xs ys;
}

-- those of the second alone, and those of the first alone
pub before_with : (n m j : ℕ) (ys : List ℕ) (r s : Part) (a b c : Written) → n ≤ m → n ≤ j → Goes m r a b
    → GoesWith j ys s b c
    → GoesWith n ys (λ done at. part (r done at) (s done at)) a c
before_with n m j ys r s a b c le lj e g = then_with n m j [] ys r s a b c le lj (with_none m r a b e) g

pub with_behind : (n m j : ℕ) (xs : List ℕ) (r s : Part) (a b c : Written) → n ≤ m → n ≤ j → GoesWith m xs r a b
    → Goes j s b c
    → GoesWith n xs (λ done at. part (r done at) (s done at)) a c
with_behind n m j xs r s a b c le lj e g =
    subst (λ z. GoesWith n z (λ done at. part (r done at) (s done at)) a c) (append-nil xs)
    (then_with n m j xs [] r s a b c le lj e (with_none j s b c g))

-- another form of the row, as with names for its labels
pub with_as : (n : ℕ) (xs : List ℕ) (r s : Part) (a c : Written) → ((done : Finished) (at : Labels) (p q : ℕ)
    → r done at p q → s done at p q)
    → GoesWith n xs r a c → GoesWith n xs s a c
with_as n xs r s a c f g = record {
  writes = record { grows = g.writes.grows; stands = λ done at h. f done at _ _ (g.writes.stands done at h) };
  more = g.more;
  same = g.same;
  adds = g.adds;
}

-- ---- labels

-- a label that is free is one that there is
pub free_within : (label : ℕ) (a : Written) → slice_get a.places label ≡ Some None → label < length a.places
free_within label a h = slice_get_within a.places label None h

pub free_goes : (label n : ℕ) (xs : List ℕ) (r : Part) (a b : Written) → slice_get a.places label ≡ Some None
    → label < n → GoesWith n xs r a b → slice_get b.places label ≡ Some None
free_goes label n xs r a b f lt g = g.same label lt ∙ f

pub free_emits : (label : ℕ) (r : Part) (a b : Written) → slice_get a.places label ≡ Some None → Emits r a b
    → slice_get b.places label ≡ Some None
free_emits label r a b f e = e.keeps.same label (free_within label a f) ∙ f

pub free_with : (label : ℕ) (xs : List ℕ) (r : Part) (a b : Written) → slice_get a.places label ≡ Some None
    → EmitsWith xs r a b → slice_get b.places label ≡ Some None
free_with label xs r a b f e = free_goes label (length a.places) xs r a b f (free_within label a f) e

-- a new label, and then a part
pub begins : (label : ℕ) (r : Part) (a b c : Written) → Fresh label a b → Emits r b c → Begins label r a c
begins label r a b c h e =
    let l = fresh_length label a b h in
    record {
      goes = goes_fresh _ label r a b c (omega arith) h (goes_less _ _ r b c (omega (arith, l)) e);
      above = omega (arith, h.is);
      free = free_emits label r b c (free_new label a b h) e;
    }
