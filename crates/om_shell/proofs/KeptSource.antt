-- What is kept of a source, step by step.
use Rattle.std.proofs.Common.{◌≡◌, ℕ, zero, suc, ◌+◌, ◌-◌, ◌≤◌, Bool, true, false, cond, List, [], ◌∷◌, ◌++◌, ◌==◌}
use Rattle.std.proofs.Common.{codes, length, take, drop, refl, sym, ap, subst, ◌∙◌, ◌⊎◌, inl, inr, arith, append_assoc}
use Rattle.std.proofs.Common.{append-nil, take-append-drop, take_all, length-append, length-take-le, eq-eqb}
use Rattle.std.proofs.Common.{true≢false, slice_index}
use Rattle.std.specs.List.{onto_first, position_or_len}
use Rattle.std.specs.Str.Lines.{strip_carriage_return}
use Rattle.std.proofs.lemmas.List.Splits.{slice_split-cons_no}
use Rattle.std.proofs.lemmas.Slice.Eq.{bytes_eq-Decides}
use Rattle.om_shell.specs.Lines.{HasNoLineEnd, parts_of, source_in, commands_in, has_mark, is_mark, kept}
use Rattle.om_shell.specs.Progress.{AreWholeLines}
use Rattle.om_shell.specs.Source.{Scanned, IsMarked, IsUnmarked, KeepsSource, EndsSource}
use Rattle.om_shell.proofs.LineLaws.{only_part, part_of_any}
use Rattle.om_shell.proofs.SourceLaws.{source_cons, commands_cons, mark_cons, source_last}

take_front : (n : ℕ) (a b : List ℕ) → take n (take n a ++ b) ≡ take n (a ++ b)
take_front zero a b = refl
take_front (suc n) [] b = refl
take_front (suc n) (x ∷ a) b = ap (λ l. x ∷ l) (take_front n a b)

take_room : (a b : List ℕ) (n room : ℕ) → n ≡ length a + room → take n (a ++ b) ≡ a ++ take room b
take_room [] b n room e =
    let same : n ≡ room = omega (arith, e) in ap (λ k. take k b) same
take_room (x ∷ a) b zero room e = absurd (omega (arith, e))
take_room (x ∷ a) b (suc n) room e = ap (λ l. x ∷ l) (take_room a b n room (omega (arith, e)))

-- what is kept of what is kept, and of more
pub kept_front : (a b : List ℕ) → kept (kept a ++ b) ≡ kept (a ++ b)
unfolding kept
kept_front a b = take_front 4194304 a b

-- what is kept of what is kept of all so far, and of more
pub kept_next : (all a b c : List ℕ) → b ≡ kept all → c ≡ kept (b ++ a) → c ≡ kept (all ++ a)
kept_next all a b c e f = f ∙ ap (λ l. kept (l ++ a)) e ∙ kept_front all a

pub kept_all : (a : List ℕ) → length a ≤ 4194304 → kept a ≡ a
unfolding kept
kept_all a h = take_all 4194304 a h

-- where there is room for so many bytes
pub kept_room : (a b c : List ℕ) (room : ℕ) → length a ≤ 4194304 → room ≡ 4194304 - length a → c ≡ a ++ take room b
    → c ≡ kept (a ++ b)
unfolding kept
kept_room a b c room h e f = f ∙ sym (take_room a b 4194304 room (omega (arith, h, e)))

pub kept_within : (a b c : List ℕ) (room : ℕ) → length a ≤ 4194304 → room ≡ 4194304 - length a → length b ≤ room
    → c ≡ a ++ b → c ≡ kept (a ++ b)
kept_within a b c room h e g f =
    let long : length (a ++ b) ≤ 4194304 = omega (arith, h, e, g, length-append a b) in f ∙ sym (kept_all (a ++ b) long)

pub few_room : (a b c : List ℕ) (room : ℕ) → length a ≤ 4194304 → room ≡ 4194304 - length a → room ≤ length b
    → c ≡ a ++ take room b → length c ≤ 4194304
few_room a b c room h e g f = omega (
  arith,
  h,
  e,
  g,
  ap length f,
  length-append a (take room b),
  length-take-le room b g,
)

pub few_within : (a b c : List ℕ) (room : ℕ) → length a ≤ 4194304 → room ≡ 4194304 - length a → length b ≤ room
    → c ≡ a ++ b → length c ≤ 4194304
few_within a b c room h e g f = omega (arith, h, e, g, ap length f, length-append a b)

-- what is kept with further bytes of a source
kept_more : (source a rest source' : List ℕ) → source' ≡ kept (source ++ a) → kept (source ++ (a ++ rest))
    ≡ kept (source' ++ rest)
kept_more source a rest source' e = ap kept (sym (append_assoc source a rest)) ∙ sym (kept_front (source ++ a) rest)
    ∙ ap (λ l. kept (l ++ rest)) (sym e)

-- a line that has no line end, by its first byte
no_end_at : (p : ℕ → Bool) (y : ℕ) (ys : List ℕ) (b : Bool) → p y ≡ b → position_or_len p (y ∷ ys) ≡ length (y ∷ ys)
    → (p y ≡ false) × (position_or_len p ys ≡ length ys)
no_end_at p y ys true e h = let none = rw e at h in absurd (omega arith)
no_end_at p y ys false e h =
    let counted = rw e at h in
    let rest : position_or_len p ys ≡ length ys = omega arith in (e, rest)

pub no_end_cons : (y : ℕ) (ys : List ℕ) → HasNoLineEnd (y ∷ ys) → ((y == 10) ≡ false) × HasNoLineEnd ys
no_end_cons y ys h = no_end_at (λ byte. byte == 10) y ys (y == 10) refl h

pub no_end_behind : (xs ys : List ℕ) → HasNoLineEnd (xs ++ ys) → HasNoLineEnd ys
no_end_behind [] ys h = h
no_end_behind (x ∷ xs) ys h = no_end_behind xs ys (no_end_cons x (xs ++ ys) h).1

-- a list that ends with a line end is not empty
not_empty : (front : List ℕ) → front ++ 10 ∷ [] ≡ [] → ⊥
not_empty front e =
    let long : length (front ++ 10 ∷ []) ≡ length front + 1 = length-append front (10 ∷ []) in
    let none : length (front ++ 10 ∷ []) ≡ 0 = ap length e in omega arith

past_first : (s : ℕ) (stub more front : List ℕ) (n : ℕ) → s ∷ take n (stub ++ more) ≡ front ++ 10 ∷ []
    → (s == 10) ≡ false → (AreWholeLines (take n (stub ++ more)) → (take n (stub ++ more) ≡ []) ⊎ ((x : List ℕ)
    × (take n (stub ++ more) ≡ stub ++ x))) → (s ∷ take n (stub ++ more) ≡ []) ⊎ ((x : List ℕ)
    × (s ∷ take n (stub ++ more) ≡ s ∷ (stub ++ x)))
past_first s stub more [] n e other rest =
    let same : s ≡ 10 = cc in absurd (true≢false (sym (eq-eqb s 10 same) ∙ other))
past_first s stub more (f ∷ front) n e other rest =
    let tail : take n (stub ++ more) ≡ front ++ 10 ∷ [] = cc in
    elim (rest (inr (front, tail))) [
      | inl none ↦ absurd (not_empty front (sym tail ∙ none))
      | inr x ↦ inr (x.0, ap (λ l. s ∷ l) x.1)
    ]

-- whole lines at the front of bytes that begin with no line end have all of that beginning, or nothing
pub whole_past : (stub more : List ℕ) (n : ℕ) → HasNoLineEnd stub → AreWholeLines (take n (stub ++ more))
    → (take n (stub ++ more) ≡ []) ⊎ ((x : List ℕ) × (take n (stub ++ more) ≡ stub ++ x))
whole_past [] more n h w = inr (take n more, refl)
whole_past (s ∷ stub) more zero h w = inl refl
whole_past (s ∷ stub) more (suc n) h (inl e) = inl e
whole_past (s ∷ stub) more (suc n) h (inr w) =
    let no = no_end_cons s stub h in
    past_first s stub more w.0 n w.1 no.0 (λ whole. whole_past stub more n no.1 whole)

-- the first part, where the bytes begin with no line end
pub part_past : (xs future part : List ℕ) (parts : List (List ℕ)) → HasNoLineEnd xs → parts_of future ≡ part ∷ parts
    → parts_of (xs ++ future) ≡ (xs ++ part) ∷ parts
part_past [] future part parts h e = e
part_past (x ∷ xs) future part parts h e =
    let no = no_end_cons x xs h in
    slice_split-cons_no (λ byte. byte == 10) x (xs ++ future) no.0
    ∙ ap (onto_first x) (part_past xs future part parts no.1 e)

not_mark_at : (line : List ℕ) (b : Bool) → is_mark line ≡ b → 3 ≤ length line → b ≡ false
not_mark_at line true e h =
    let same : line ≡ codes "%%" = (bytes_eq-Decides line (codes "%%")).0 e in
    let two : length line ≡ 2 = ap length same in absurd (omega (arith, h, two))
not_mark_at line false e h = refl

not_mark : (line : List ℕ) → 3 ≤ length line → is_mark line ≡ false
not_mark line h = not_mark_at line (is_mark line) refl h

strip_at : (line : List ℕ) (b : Bool) → 4 ≤ length line → 3 ≤ length (cond b (take (length line - 1) line) line)
strip_at line true h =
    let long : length (take (length line - 1) line) ≡ length line - 1 =
    length-take-le (length line - 1) line (omega arith) in
    omega (arith, h, long)
strip_at line false h = omega (arith, h)

strip_long : (line : List ℕ) → 4 ≤ length line → 3 ≤ length (strip_carriage_return line)
strip_long line h = strip_at line (slice_index line (length line - 1) == 13) h

long_part : (a b part : List ℕ) → 4 ≤ length b → 4 ≤ length ((a ++ b) ++ part)
long_part a b part h = omega (arith, h, length-append (a ++ b) part, length-append a b)

-- the parts of a source with a first line that is not the mark
source_one : (line : List ℕ) → is_mark line ≡ false → source_in (line ∷ []) ≡ line
source_one line is = source_last line false is

source_two : (line next : List ℕ) (parts : List (List ℕ)) → is_mark (strip_carriage_return line) ≡ false
    → source_in (line ∷ (next ∷ parts)) ≡ line ++ 10 ∷ source_in (next ∷ parts)
source_two line next parts is = source_cons line (next ∷ parts) next parts false refl is

commands_two : (line next : List ℕ) (parts : List (List ℕ)) → is_mark (strip_carriage_return line) ≡ false
    → commands_in (line ∷ (next ∷ parts)) ≡ commands_in (next ∷ parts)
commands_two line next parts is = commands_cons line (next ∷ parts) next parts false refl is

mark_two : (line next : List ℕ) (parts : List (List ℕ)) → is_mark (strip_carriage_return line) ≡ false
    → has_mark (line ∷ (next ∷ parts)) ≡ has_mark (next ∷ parts)
mark_two line next parts is = mark_cons line (next ∷ parts) next parts false refl is

-- a front of a first line that is long makes no difference to what is behind it
source_parts : (a b part : List ℕ) (parts : List (List ℕ)) → 4 ≤ length b
    → source_in (((a ++ b) ++ part) ∷ parts) ≡ a ++ source_in ((b ++ part) ∷ parts)
source_parts a b part [] h =
    let one = long_part a b part h in
    let two : 4 ≤ length (b ++ part) = omega (arith, h, length-append b part) in
    source_one ((a ++ b) ++ part) (not_mark ((a ++ b) ++ part) (omega (arith, one))) ∙ append_assoc a b part
    ∙ ap (λ l. a ++ l) (sym (source_one (b ++ part) (not_mark (b ++ part) (omega (arith, two)))))
source_parts a b part (next ∷ parts) h =
    let one = long_part a b part h in
    let two : 4 ≤ length (b ++ part) = omega (arith, h, length-append b part) in
    let rest = 10 ∷ source_in (next ∷ parts) in
    source_two ((a ++ b) ++ part) next parts (not_mark _ (strip_long ((a ++ b) ++ part) one))
    ∙ ap (λ l. l ++ rest) (append_assoc a b part) ∙ append_assoc a (b ++ part) rest
    ∙ ap (λ l. a ++ l) (sym (source_two (b ++ part) next parts (not_mark _ (strip_long (b ++ part) two))))

commands_parts : (a b part : List ℕ) (parts : List (List ℕ)) → 4 ≤ length b
    → commands_in (((a ++ b) ++ part) ∷ parts) ≡ commands_in ((b ++ part) ∷ parts)
commands_parts a b part [] h = refl
commands_parts a b part (next ∷ parts) h =
    let one = long_part a b part h in
    let two : 4 ≤ length (b ++ part) = omega (arith, h, length-append b part) in
    commands_two ((a ++ b) ++ part) next parts (not_mark _ (strip_long ((a ++ b) ++ part) one))
    ∙ sym (commands_two (b ++ part) next parts (not_mark _ (strip_long (b ++ part) two)))

mark_parts : (a b part : List ℕ) (parts : List (List ℕ)) → 4 ≤ length b
    → has_mark (((a ++ b) ++ part) ∷ parts) ≡ has_mark ((b ++ part) ∷ parts)
mark_parts a b part [] h = refl
mark_parts a b part (next ∷ parts) h =
    let one = long_part a b part h in
    let two : 4 ≤ length (b ++ part) = omega (arith, h, length-append b part) in
    mark_two ((a ++ b) ++ part) next parts (not_mark _ (strip_long ((a ++ b) ++ part) one))
    ∙ sym (mark_two (b ++ part) next parts (not_mark _ (strip_long (b ++ part) two)))

long_source : (a b future : List ℕ) → HasNoLineEnd (a ++ b) → 4 ≤ length b
    → source_in (parts_of ((a ++ b) ++ future)) ≡ a ++ source_in (parts_of (b ++ future))
long_source a b future none h =
    let next = part_of_any (λ byte. byte == 10) future in
    ap source_in (part_past (a ++ b) future next.0 next.1 none next.2) ∙ source_parts a b next.0 next.1 h
    ∙ ap (λ l. a ++ source_in l) (sym (part_past b future next.0 next.1 (no_end_behind a b none) next.2))

long_commands : (a b future : List ℕ) → HasNoLineEnd (a ++ b) → 4 ≤ length b
    → commands_in (parts_of ((a ++ b) ++ future)) ≡ commands_in (parts_of (b ++ future))
long_commands a b future none h =
    let next = part_of_any (λ byte. byte == 10) future in
    ap commands_in (part_past (a ++ b) future next.0 next.1 none next.2) ∙ commands_parts a b next.0 next.1 h
    ∙ ap commands_in (sym (part_past b future next.0 next.1 (no_end_behind a b none) next.2))

long_mark : (a b future : List ℕ) → HasNoLineEnd (a ++ b) → 4 ≤ length b
    → has_mark (parts_of ((a ++ b) ++ future)) ≡ has_mark (parts_of (b ++ future))
long_mark a b future none h =
    let next = part_of_any (λ byte. byte == 10) future in
    ap has_mark (part_past (a ++ b) future next.0 next.1 none next.2) ∙ mark_parts a b next.0 next.1 h
    ∙ ap has_mark (sym (part_past b future next.0 next.1 (no_end_behind a b none) next.2))

-- bytes that begin with a stub, behind those that are handled
reach : (handled stub x part future : List ℕ) → part ≡ stub ++ x → (handled ++ part) ++ future
    ≡ handled ++ (stub ++ (x ++ future))
reach handled stub x part future e = append_assoc handled part future ∙ ap (λ l. handled ++ (l ++ future)) e
    ∙ ap (λ l. handled ++ l) (append_assoc stub x future)

begin : (stub x part future : List ℕ) → part ≡ stub ++ x → stub ++ (x ++ future) ≡ part ++ future
begin stub x part future e = sym (append_assoc stub x future) ∙ ap (λ l. l ++ future) (sym e)

-- handled bytes, of which the last ones are those that were pending
handled_more : (taken handled pending part rest : List ℕ) → taken ≡ handled ++ pending → pending ≡ part ++ rest
    → taken ≡ (handled ++ part) ++ rest
handled_more taken handled pending part rest e f = e ∙ ap (λ l. handled ++ l) f ∙ sym (append_assoc handled part rest)

pub keep_none : (source pending : List ℕ) → source ≡ [] → pending ≡ [] → KeepsSource [] source pending
keep_none source pending none e =
    let empty : length source ≡ 0 = ap length none in record {
      handled = [];
      stub = [];
      more = [];
      bytes = sym e;
      begins = e;
      unended = refl;
      few = omega (arith, empty);
      source_is = λ future. ap (λ l. kept (l ++ source_in (parts_of future))) (sym none);
      commands_are = λ future. refl;
      unmarked = λ future. refl;
    }

-- nothing is handled
same_kept : (taken source pending source' pending' part : List ℕ) → KeepsSource taken source pending
    → source' ≡ kept (source ++ part) → part ≡ [] → pending' ≡ pending → KeepsSource taken source' pending'
same_kept taken source pending source' pending' part k e none f =
    let as_it_was : source' ≡ source = e ∙ ap (λ l. kept (source ++ l)) none ∙ ap kept (append-nil source)
    ∙ kept_all source k.few in
    subst (λ s. KeepsSource taken s pending') (sym as_it_was) (subst (λ p. KeepsSource taken source p) (sym f) k)

-- whole lines that have no mark
pub keep_lines : (taken source pending source' pending' : List ℕ) (at : ℕ) → Scanned pending at
    → length source' ≤ 4194304 → source' ≡ kept (source ++ take at pending) → pending' ≡ drop at pending
    → KeepsSource taken source pending → KeepsSource taken source' pending'
keep_lines taken source pending source' pending' at p few e f k =
    let part = take at pending in
    let split : pending ≡ part ++ drop at pending = sym (take-append-drop at pending) in
    let same : take at pending ≡ take at (k.stub ++ k.more) = ap (take at) k.begins in
    elim (whole_past k.stub k.more at k.unended (subst AreWholeLines same p.whole)) [
      | inl none ↦ let empty : part ≡ [] = same ∙ none in
          same_kept taken source pending source' pending' part k e empty
          (f ∙ sym (split ∙ ap (λ l. l ++ drop at pending) empty))
      | inr x ↦ let is : part ≡ k.stub ++ x.0 = same ∙ x.1 in record {
        handled = k.handled ++ part;
        stub = [];
        more = pending';
        bytes = handled_more taken k.handled pending part pending' k.bytes (split ∙ ap (λ l. part ++ l) (sym f));
        begins = refl;
        unended = refl;
        few = few;
        source_is = λ future. ap (λ l. kept (source_in (parts_of l))) (reach k.handled k.stub x.0 part future is)
            ∙ k.source_is (x.0 ++ future)
            ∙ ap (λ l. kept (source ++ source_in (parts_of l))) (begin k.stub x.0 part future is)
            ∙ ap (λ l. kept (source ++ l)) (p.source future)
            ∙ kept_more source part (source_in (parts_of future)) source' e;
        commands_are = λ future. ap (λ l. commands_in (parts_of l)) (reach k.handled k.stub x.0 part future is)
            ∙ k.commands_are (x.0 ++ future)
            ∙ ap (λ l. commands_in (parts_of l)) (begin k.stub x.0 part future is) ∙ p.commands future;
        unmarked = λ future. ap (λ l. has_mark (parts_of l)) (reach k.handled k.stub x.0 part future is)
            ∙ k.unmarked (x.0 ++ future)
            ∙ ap (λ l. has_mark (parts_of l)) (begin k.stub x.0 part future is) ∙ p.unmarked future;
      }
    ]

-- the mark's line
pub keep_mark : (taken source pending source' pending' : List ℕ) (at after : ℕ) → IsMarked pending at after
    → source' ≡ kept (source ++ take at pending) → pending' ≡ drop after pending
    → KeepsSource taken source pending → EndsSource taken source' pending'
keep_mark taken source pending source' pending' at after p e f k =
    let part = take after pending in
    let split : pending ≡ part ++ drop after pending = sym (take-append-drop after pending) in
    let same : take after pending ≡ take after (k.stub ++ k.more) = ap (take after) k.begins in
    let front = p.ended in
    elim (whole_past k.stub k.more after k.unended (subst AreWholeLines same (inr front))) [
      | inl none ↦ absurd (not_empty front.0 (sym front.1 ∙ same ∙ none))
      | inr x ↦ let is : part ≡ k.stub ++ x.0 = same ∙ x.1 in record {
        handled = k.handled ++ part;
        bytes = handled_more taken k.handled pending part pending' k.bytes (split ∙ ap (λ l. part ++ l) (sym f));
        whole = inr (
          k.handled ++ front.0,
          ap (λ l. k.handled ++ l) front.1 ∙ sym (append_assoc k.handled front.0 (10 ∷ [])),
        );
        source_is = λ future. ap (λ l. kept (source_in (parts_of l))) (reach k.handled k.stub x.0 part future is)
            ∙ k.source_is (x.0 ++ future)
            ∙ ap (λ l. kept (source ++ source_in (parts_of l))) (begin k.stub x.0 part future is)
            ∙ ap (λ l. kept (source ++ l)) (p.source future) ∙ sym e;
        commands_are = λ future. ap (λ l. commands_in (parts_of l)) (reach k.handled k.stub x.0 part future is)
            ∙ k.commands_are (x.0 ++ future)
            ∙ ap (λ l. commands_in (parts_of l)) (begin k.stub x.0 part future is) ∙ p.commands future;
      }
    ]

-- a line that is not yet ended, all but its last bytes
pub keep_long : (taken source pending source' pending' : List ℕ) (over : ℕ) → HasNoLineEnd pending
    → 4 ≤ length (drop over pending) → length source' ≤ 4194304 → source' ≡ kept (source ++ take over pending)
    → pending' ≡ drop over pending → KeepsSource taken source pending → KeepsSource taken source' pending'
keep_long taken source pending source' pending' over none long few e f k =
    let a = take over pending in
    let b = drop over pending in
    let split : pending ≡ a ++ b = sym (take-append-drop over pending) in
    let unended : HasNoLineEnd (a ++ b) = subst HasNoLineEnd split none in
    let is : a ++ b ≡ k.stub ++ k.more = sym split ∙ k.begins in
    let far : (future : List ℕ) → (k.handled ++ a) ++ (b ++ future) ≡ k.handled ++ (k.stub ++ (k.more ++ future)) =
    λ future. append_assoc k.handled a (b ++ future) ∙ ap (λ l. k.handled ++ l) (sym (append_assoc a b future))
    ∙ sym (append_assoc k.handled (a ++ b) future) ∙ reach k.handled k.stub k.more (a ++ b) future is in
    let kept_so : KeepsSource taken source' b = record {
      handled = k.handled ++ a;
      stub = b;
      more = [];
      bytes = handled_more taken k.handled pending a b k.bytes split;
      begins = sym (append-nil b);
      unended = no_end_behind a b unended;
      few = few;
      source_is = λ future. ap (λ l. kept (source_in (parts_of l))) (far future) ∙ k.source_is (k.more ++ future)
          ∙ ap (λ l. kept (source ++ source_in (parts_of l))) (begin k.stub k.more (a ++ b) future is)
          ∙ ap (λ l. kept (source ++ l)) (long_source a b future unended long)
          ∙ kept_more source a (source_in (parts_of (b ++ future))) source' e;
      commands_are = λ future. ap (λ l. commands_in (parts_of l)) (far future) ∙ k.commands_are (k.more ++ future)
          ∙ ap (λ l. commands_in (parts_of l)) (begin k.stub k.more (a ++ b) future is)
          ∙ long_commands a b future unended long;
      unmarked = λ future. ap (λ l. has_mark (parts_of l)) (far future) ∙ k.unmarked (k.more ++ future)
          ∙ ap (λ l. has_mark (parts_of l)) (begin k.stub k.more (a ++ b) future is)
          ∙ long_mark a b future unended long;
    } in
    subst (λ p. KeepsSource taken source' p) (sym f) kept_so

-- a read
pub keep_read : (taken source pending pending' bytes : List ℕ) → pending' ≡ pending ++ bytes
    → KeepsSource taken source pending → KeepsSource (taken ++ bytes) source pending'
keep_read taken source pending pending' bytes e k = record {
  handled = k.handled;
  stub = k.stub;
  more = k.more ++ bytes;
  bytes = ap (λ l. l ++ bytes) k.bytes ∙ append_assoc k.handled pending bytes ∙ ap (λ l. k.handled ++ l) (sym e);
  begins = e ∙ ap (λ l. l ++ bytes) k.begins ∙ append_assoc k.stub k.more bytes;
  unended = k.unended;
  few = k.few;
  source_is = k.source_is;
  commands_are = k.commands_are;
  unmarked = k.unmarked;
}

all_taken : (taken source pending : List ℕ) (k : KeepsSource taken source pending) → taken ≡ k.handled
    ++ (k.stub ++ k.more)
all_taken taken source pending k = k.bytes ∙ ap (λ l. k.handled ++ l) k.begins

-- at the end of the input
pub keep_end : (taken source pending source' : List ℕ) (end : ℕ) → IsUnmarked pending end
    → source' ≡ kept (source ++ take end pending) → KeepsSource taken source pending
    → (kept (source_in (parts_of taken)) ≡ source') × (commands_in (parts_of taken) ≡ [])
keep_end taken source pending source' end p e k = (
  ap (λ l. kept (source_in (parts_of l))) (all_taken taken source pending k) ∙ k.source_is k.more
      ∙ ap (λ l. kept (source ++ source_in (parts_of l))) (sym k.begins)
      ∙ ap (λ l. kept (source ++ l)) p.source ∙ sym e,
  ap (λ l. commands_in (parts_of l)) (all_taken taken source pending k) ∙ k.commands_are k.more
      ∙ ap (λ l. commands_in (parts_of l)) (sym k.begins) ∙ p.commands,
)

pub keep_unmarked : (taken source pending : List ℕ) → HasNoLineEnd pending → KeepsSource taken source pending
    → has_mark (parts_of taken) ≡ false
keep_unmarked taken source pending none k =
    ap (λ l. has_mark (parts_of l)) (all_taken taken source pending k) ∙ k.unmarked k.more
    ∙ ap (λ l. has_mark (parts_of l)) (sym k.begins)
    ∙ ap has_mark (only_part (λ byte. byte == 10) pending none)
