-- What stands before the statement of an `if` or a loop, and what stands after it: labels that are placed later.
use Rattle.std.proofs.Common.{◌≡◌, ℕ, ◌+◌, ◌<◌, ◌≤◌, Some, None, length, ◌∙◌, arith}
use Rattle.std.specs.Prelude.{slice_get}
use Rattle.om_code.specs.declared.instruction.Instr.TheVariants as i
use Rattle.om_code.specs.declared.instruction.Serial.TheVariants as serials
use Rattle.om_lower_emit.specs.declared.spot.LoopLabels.{LoopLabels}
use Rattle.om_lower_emit.specs.declared.spot.TurnLabels.{TurnLabels}
use Rattle.om_lower_emit.specs.Going.{free_emits, free_within}
use Rattle.om_lower_emit.specs.Stretches.{Opens, Begins, BeginsTurn, FreshTurn, do_begin, else_begin, loop_end}
use Rattle.om_lower_emit.specs.Drafts.{Written, Puts, Fresh, Defines}
use Rattle.om_lower_emit.specs.Emits.{Part, Goes, Emits}
use Rattle.om_lower_emit.specs.Writing.{define_length, free_define, free_fresh, free_new, free_put, fresh_length}
use Rattle.om_lower_emit.specs.Writing.{goes_end, goes_fresh, goes_here, goes_less, goes_part, goes_put}
use Rattle.om_lower_rules.specs.Rows.{end, part, here, ◌▸◌}
use Rattle.om_lower_rules.specs.Numbered.{Numbered}

abbrev IsFree : ℕ → Written → Type 0
IsFree label d = slice_get d.places label ≡ Some None

-- ---- one label, and two

pub begins_else : (names : Numbered) (l head label : ℕ) (a b c d : Written) → IsFree head a → Fresh label a b
    → Puts l (i.Serial (serials.Jump label)) b c → Defines head c d
    → Opens head label (else_begin names l head label) a d
begins_else names l head label a b c d f h p e =
    let w = free_within head a f in
    let len = h.is in
    record {
      goes = goes_fresh head label _ a b d (omega arith) h
          (goes_put names head l (i.Serial (serials.Jump label)) (λ done at. here (at head) ▸ end) b c d p
          (goes_here head head (λ done at. end) c d d (omega arith) e (goes_end head d)));
      above = omega (arith, len);
      free = free_define label head c d (λ q. omega (arith, len, w, q)) e
          (free_put label l (i.Serial (serials.Jump label)) b c p (free_new label a b h));
    }

pub ends_loop : (names : Numbered) (l : ℕ) (labels : LoopLabels) (a b c : Written) → Puts l (i.Serial (serials.Jump labels.again)) a b
    → Defines labels.over b c
    → Goes labels.over (loop_end names l labels) a c
ends_loop names l labels a b c p e =
    goes_put names labels.over l (i.Serial (serials.Jump labels.again)) (λ done at. here (at labels.over) ▸ end) a b c p
    (goes_here labels.over labels.over (λ done at. end) b c c (omega arith) e (goes_end labels.over c))

-- two labels, of which the first is placed at once
pub begins_loop : (r : Part) (again over : ℕ) (a b c d e : Written) → Fresh again a b → Fresh over b c
    → Defines again c d → Emits r d e
    → Begins over (λ done at. here (at again) (r done at)) a e
begins_loop r again over a b c d e s t h g =
    let n = length a.places in
    let l1 = fresh_length again a b s in
    let l2 = fresh_length over b c t in
    let l3 = define_length again c d h in
    record {
      goes = goes_fresh n again _ a b e (omega arith) s (goes_fresh n over _ b c e (omega (arith, l1)) t
          (goes_here n again r c d e (omega (arith, s.is)) h (goes_less n _ r d e (omega (arith, l1, l2, l3)) g)));
      above = omega (arith, t.is, l1);
      free = free_emits over r d e (free_define over again c d (λ q. omega (arith, q, s.is, t.is, l1)) h
          (free_new over b c t)) g;
    }

-- ---- three labels

turn_again : (labels : TurnLabels) (a b : Written) → FreshTurn labels a b → labels.again ≡ length a.places
turn_again labels a b h = h.again.is

turn_next : (labels : TurnLabels) (a b : Written) → FreshTurn labels a b → labels.next ≡ length a.places + 1
turn_next labels a b h = h.next.is ∙ fresh_length labels.again a h.second h.again

turn_over : (labels : TurnLabels) (a b : Written) → FreshTurn labels a b → labels.over ≡ length a.places + 2
turn_over labels a b h =
    let l1 = fresh_length labels.again a h.second h.again in
    let l2 = fresh_length labels.next h.second h.third h.next in
    omega (arith, h.over.is, l1, l2)

turn_length : (labels : TurnLabels) (a b : Written) → FreshTurn labels a b → length b.places ≡ length a.places + 3
turn_length labels a b h =
    let l1 = fresh_length labels.again a h.second h.again in
    let l2 = fresh_length labels.next h.second h.third h.next in
    let l3 = fresh_length labels.over h.third b h.over in
    omega (arith, l1, l2, l3)

goes_turn : (n : ℕ) (labels : TurnLabels) (r : Part) (a b c : Written) → n ≤ length a.places → FreshTurn labels a b
    → Goes n r b c → Goes n r a c
goes_turn n labels r a b c le h g =
    let l1 = fresh_length labels.again a h.second h.again in
    let l2 = fresh_length labels.next h.second h.third h.next in
    goes_fresh n labels.again r a h.second c le h.again
    (goes_fresh n labels.next r h.second h.third c (omega (arith, l1)) h.next
    (goes_fresh n labels.over r h.third b c (omega (arith, l1, l2)) h.over g))

next_free : (labels : TurnLabels) (a b : Written) → FreshTurn labels a b → IsFree labels.next b
next_free labels a b h =
    free_fresh labels.next labels.over h.third b h.over (free_new labels.next h.second h.third h.next)

over_free : (labels : TurnLabels) (a b : Written) → FreshTurn labels a b → IsFree labels.over b
over_free labels a b h = free_new labels.over h.third b h.over

pub begins_do : (labels : TurnLabels) (a b c : Written) → FreshTurn labels a b → Defines labels.again b c
    → BeginsTurn labels (do_begin labels) a c
begins_do labels a b c h e = record {
  next = record {
    goes = goes;
    above = omega (arith, l2);
    free = free_define labels.next labels.again b c (λ q. omega (arith, q, l1, l2)) e
        (next_free labels a b h);
  };
  over = record {
    goes = goes;
    above = omega (arith, l3);
    free = free_define labels.over labels.again b c (λ q. omega (arith, q, l1, l3)) e
        (over_free labels a b h);
  };
  apart = omega (arith, l2, l3);
}
  where
    l1 : labels.again ≡ length a.places
    l1 = turn_again labels a b h

    l2 : labels.next ≡ length a.places + 1
    l2 = turn_next labels a b h

    l3 : labels.over ≡ length a.places + 2
    l3 = turn_over labels a b h

    goes : Goes (length a.places) (do_begin labels) a c
    goes = goes_turn _ labels _ a b c (omega arith) h (goes_here _ labels.again (λ done at. end) b c c
        (omega (arith, l1)) e (goes_end _ c))

pub begins_turn : (labels : TurnLabels) (r s : Part) (a b c d e : Written) → FreshTurn labels a b → Emits r b c
    → Defines labels.again c d → Emits s d e
    → BeginsTurn labels (λ done at. part (r done at) (here (at labels.again) (s done at))) a e
begins_turn labels r s a b c d e h f g k = record {
  next = record {
    goes = goes;
    above = omega (arith, l2);
    free = free_emits labels.next s d e
        (free_define labels.next labels.again c d (λ q. omega (arith, q, l1, l2)) g
        (free_emits labels.next r b c (next_free labels a b h) f)) k;
  };
  over = record {
    goes = goes;
    above = omega (arith, l3);
    free = free_emits labels.over s d e
        (free_define labels.over labels.again c d (λ q. omega (arith, q, l1, l3)) g
        (free_emits labels.over r b c (over_free labels a b h) f)) k;
  };
  apart = omega (arith, l2, l3);
}
  where
    l1 : labels.again ≡ length a.places
    l1 = turn_again labels a b h

    l2 : labels.next ≡ length a.places + 1
    l2 = turn_next labels a b h

    l3 : labels.over ≡ length a.places + 2
    l3 = turn_over labels a b h

    l4 : length b.places ≡ length a.places + 3
    l4 = turn_length labels a b h

    l5 : length d.places ≡ length c.places
    l5 = define_length labels.again c d g

    goes : Goes (length a.places) (λ done at. part (r done at) (here (at labels.again) (s done at))) a e
    goes = goes_turn _ labels _ a b e (omega arith) h
        (goes_part _ r (λ done at. here (at labels.again) (s done at)) b c e (omega (arith, l4)) f
        (goes_here _ labels.again s c d e (omega (arith, l1)) g
        (goes_less _ _ s d e (omega (arith, l4, l5, f.keeps.more)) k)))

-- the end of a loop in which `continue` does not go to its begin
pub ends_turn : (next over : ℕ) (r s : Part) (a b c d : Written) → IsFree next a → next < over → Defines next a b
    → Emits r b c → Goes over s c d
    → Goes next (λ done at. here (at next) (part (r done at) (s done at))) a d
ends_turn next over r s a b c d f apart h e g =
    let w = free_within next a f in
    let l = define_length next a b h in
    goes_here next next (λ done at. part (r done at) (s done at)) a b d (omega arith) h
    (goes_part next r s b c d (omega (arith, l, w)) e (goes_less next over s c d (omega arith) g))
