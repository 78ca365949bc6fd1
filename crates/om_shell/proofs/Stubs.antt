-- A line that is too long, of which a beginning is kept: it stands for the whole of it.
use Rattle.std.proofs.Common.{◌≡◌, ℕ, zero, suc, ◌+◌, ◌-◌, ◌<◌, ◌≤◌, Bool, true, false, cond, List, [], ◌∷◌, ◌++◌, ◌==◌}
use Rattle.std.proofs.Common.{length, take, drop, refl, sym, ap, subst, ◌∙◌, ◌⊎◌, inl, inr, Option, arith, append_assoc}
use Rattle.std.proofs.Common.{append-nil, take-append-drop, take_all, length-append, length-take-le}
use Rattle.std.proofs.Common.{eq-eqb, true≢false, nat_lt, nat_le, nat_eq, slice_index}
use Rattle.std.proofs.Math.Seq.{take-append_seam}
use Rattle.std.proofs.lemmas.Bool.Decides.{nat_tests}
use Rattle.std.specs.List.{position_or_len}
use Rattle.std.specs.Str.Lines.{lines, lines_of_parts, strip_carriage_return}
use Rattle.om_shell_commands.specs.Commands.{request_of}
use Rattle.om_shell_commands.specs.declared.command.CommandFault.TheVariants.{BadArgument}
use Rattle.om_shell_commands.specs.declared.command.Request.TheVariants as request
use Rattle.om_shell_debugger.specs.declared.debugger.Debugger.{Debugger}
use Rattle.om_shell_debugger.specs.Freed.{FreeRun}
use Rattle.om_shell_debugger.specs.Views.{Answer, answered, answer_by}
use Rattle.om_shell.specs.Lines.{HasNoLineEnd}
use Rattle.om_shell.specs.Progress.{AreWholeLines}
use Rattle.om_shell.specs.Sessions.{after_answer, session, due, AnswersBatch}
use Rattle.om_shell.specs.Stubs.{IsLong, StandsFor}
use Rattle.om_shell.proofs.KeptSource.{no_end_cons, no_end_behind, whole_past, part_past}
use Rattle.om_shell.proofs.LineEnds.{line_end_after}
use Rattle.om_shell.proofs.LineLaws.{part_of_any}

-- a line of more than 1,024 bytes is answered that it is a bad argument
long_request : (workers : ℕ) (line : List ℕ) → 1024 < length line → request_of workers line ≡ request.Fault BadArgument
unfolding request_of
long_request workers line h =
    let long : nat_lt 1024 (length line) ≡ true = grind (arith, nat_tests) in rw long refl

long_answer : (d : Debugger) (runs : List FreeRun) (line : List ℕ) → 1024 < length line
    → answered d runs line ≡ answer_by d runs (request.Fault BadArgument)
unfolding answered
long_answer d runs line h = ap (answer_by d runs) (long_request d.book.start.workers line h)

same_session : (d : Debugger) (runs : List FreeRun) (one other : List ℕ) (more : List (List ℕ)) → 1024 < length one
    → 1024 < length other → session d runs (one ∷ more) ≡ session d runs (other ∷ more)
same_session d runs one other more h k =
    ap (λ (a : Answer). after_answer a (session a.view a.runs more)) (long_answer d runs one h
    ∙ sym (long_answer d runs other k))

strip_at : (line : List ℕ) (b : Bool) → 1025 < length line
    → 1024 < length (cond b (take (length line - 1) line) line)
strip_at line true h =
    let long : length (take (length line - 1) line) ≡ length line - 1 =
    length-take-le (length line - 1) line (omega arith) in
    omega (arith, h, long)
strip_at line false h = omega (arith, h)

strip_long : (line : List ℕ) → 1025 < length line → 1024 < length (strip_carriage_return line)
strip_long line h = strip_at line (slice_index line (length line - 1) == 13) h

last_parts : (line : List ℕ) → 1025 < length line → lines_of_parts (line ∷ []) ≡ line ∷ []
last_parts line h =
    let some : nat_eq (length line) 0 ≡ false = grind (arith, nat_tests) in rw some refl

-- lines whose first part is too long
long_parts : (d : Debugger) (runs : List FreeRun) (one other : List ℕ) (parts : List (List ℕ)) → 1025 < length one
    → 1025 < length other
    → session d runs (lines_of_parts (one ∷ parts)) ≡ session d runs (lines_of_parts (other ∷ parts))
long_parts d runs one other [] h k =
    ap (session d runs) (last_parts one h) ∙ same_session d runs one other [] (omega (arith, h)) (omega (arith, k))
    ∙ ap (session d runs) (sym (last_parts other k))
long_parts d runs one other (next ∷ parts) h k =
    same_session d runs (strip_carriage_return one) (strip_carriage_return other) (lines_of_parts (next ∷ parts))
    (strip_long one h) (strip_long other k)

long_due : (d : Debugger) (runs : List FreeRun) (one other future : List ℕ) → IsLong one → IsLong other
    → due d runs (one ++ future) ≡ due d runs (other ++ future)
long_due d runs one other future h k =
    let next = part_of_any (λ byte. byte == 10) future in
    let first : 1025 < length (one ++ next.0) = omega (arith, h.1, length-append one next.0) in
    let second : 1025 < length (other ++ next.0) = omega (arith, k.1, length-append other next.0) in
    ap (λ parts. session d runs (lines_of_parts parts)) (part_past one future next.0 next.1 h.0 next.2)
    ∙ long_parts d runs (one ++ next.0) (other ++ next.0) next.1 first second
    ∙ ap (λ parts. session d runs (lines_of_parts parts)) (sym (part_past other future next.0 next.1 k.0 next.2))

-- what is due is the same for both
same_due : (d : Debugger) (runs : List FreeRun) (a b more future : List ℕ) → (a ≡ b) ⊎ (IsLong a × IsLong b)
    → due d runs ((a ++ more) ++ future) ≡ due d runs ((b ++ more) ++ future)
same_due d runs a b more future (inl e) = ap (λ l. due d runs ((l ++ more) ++ future)) e
same_due d runs a b more future (inr long) =
    ap (due d runs) (append_assoc a more future) ∙ long_due d runs a b (more ++ future) long.0 long.1
    ∙ ap (due d runs) (sym (append_assoc b more future))

pub stands_due : (d : Debugger) (runs : List FreeRun) (real kept future : List ℕ) → StandsFor real kept
    → due d runs (real ++ future) ≡ due d runs (kept ++ future)
stands_due d runs real kept future s =
    ap (λ l. due d runs (l ++ future)) s.real_is ∙ same_due d runs s.whole s.front s.more future s.same
    ∙ ap (λ l. due d runs (l ++ future)) (sym s.kept_is)

pub stands_due_all : (d : Debugger) (runs : List FreeRun) (real kept : List ℕ) → StandsFor real kept
    → due d runs real ≡ due d runs kept
stands_due_all d runs real kept s = ap (due d runs) (sym (append-nil real)) ∙ stands_due d runs real kept [] s
    ∙ ap (due d runs) (append-nil kept)

pub stands_same : (bytes : List ℕ) → StandsFor bytes bytes
stands_same bytes = record { whole = []; front = []; more = bytes; real_is = refl; kept_is = refl; same = inl refl }

pub stands_read : (real kept real' kept' bytes : List ℕ) → StandsFor real kept → real' ≡ real ++ bytes
    → kept' ≡ kept ++ bytes → StandsFor real' kept'
stands_read real kept real' kept' bytes s e f = record {
  whole = s.whole;
  front = s.front;
  more = s.more ++ bytes;
  real_is = e ∙ ap (λ l. l ++ bytes) s.real_is ∙ append_assoc s.whole s.more bytes;
  kept_is = f ∙ ap (λ l. l ++ bytes) s.kept_is ∙ append_assoc s.front s.more bytes;
  same = s.same;
}

no_end_append : (a b : List ℕ) → HasNoLineEnd a → HasNoLineEnd b → HasNoLineEnd (a ++ b)
no_end_append a b h k = line_end_after a b h ∙ ap (λ n. length a + n) k ∙ sym (length-append a b)

change_end : (a b more : List ℕ) → (a ≡ b) ⊎ (IsLong a × IsLong b) → HasNoLineEnd (b ++ more) → HasNoLineEnd (a ++ more)
change_end a b more (inl e) h = subst (λ l. HasNoLineEnd (l ++ more)) (sym e) h
change_end a b more (inr long) h = no_end_append a more long.0.0 (no_end_behind b more h)

pub stands_no_end : (real kept : List ℕ) → StandsFor real kept → HasNoLineEnd kept → HasNoLineEnd real
stands_no_end real kept s h =
    subst HasNoLineEnd (sym s.real_is) (change_end s.whole s.front s.more s.same (subst HasNoLineEnd s.kept_is h))

-- the front of bytes that have no line end has none
pub no_end_front : (n : ℕ) (bytes : List ℕ) → HasNoLineEnd bytes → HasNoLineEnd (take n bytes)
no_end_front zero bytes h = refl
no_end_front (suc n) [] h = refl
no_end_front (suc n) (x ∷ bytes) h =
    let no = no_end_cons x bytes h in
    let rest : position_or_len (λ byte. byte == 10) (take n bytes) ≡ length (take n bytes) =
    no_end_front n bytes no.1 in
    rw no.0 (omega (arith, rest))

long_real : (whole front more : List ℕ) → (whole ≡ front) ⊎ (IsLong whole × IsLong front)
    → 1025 < length (front ++ more) → 1025 < length (whole ++ more)
long_real whole front more (inl e) h = subst (λ l. 1025 < length (l ++ more)) (sym e) h
long_real whole front more (inr long) h = omega (arith, long.0.1, length-append whole more)

short_at : (real kept : List ℕ) (b : Bool) → nat_le (length kept) 1026 ≡ b → HasNoLineEnd kept → StandsFor real kept
    → StandsFor real (take 1026 kept)
short_at real kept true e h s =
    let few : length kept ≤ 1026 = grind (arith, nat_tests) in
    subst (StandsFor real) (sym (take_all 1026 kept few)) s
short_at real kept false e h s =
    let many : 1026 < length kept = grind (arith, nat_tests) in
    let long : 1025 < length (s.front ++ s.more) = subst (λ l. 1025 < length l) s.kept_is (omega (arith, many)) in
    let all : 1025 < length real =
    subst (λ l. 1025 < length l) (sym s.real_is) (long_real s.whole s.front s.more s.same long) in
    let cut : length (take 1026 kept) ≡ 1026 = length-take-le 1026 kept (omega (arith, many)) in
    record {
      whole = real;
      front = take 1026 kept;
      more = [];
      real_is = sym (append-nil real);
      kept_is = sym (append-nil (take 1026 kept));
      same = inr ((stands_no_end real kept s h, all), (no_end_front 1026 kept h, omega (arith, cut)));
    }

-- the beginning of a line that is too long stands for it
pub stands_short : (real kept short : List ℕ) → HasNoLineEnd kept → short ≡ take 1026 kept → StandsFor real kept
    → StandsFor real short
stands_short real kept short h e s =
    subst (StandsFor real) (sym e) (short_at real kept (nat_le (length kept) 1026) refl h s)

-- where whole lines of the kept bytes end, and where those of the bytes that they stand for
pub record Splits (real kept : List ℕ) (used : ℕ) : Type 0 where
  pub far : ℕ
  pub within : far ≤ length real
  pub whole : AreWholeLines (take far real)
  pub left : StandsFor (drop far real) (drop used kept)
  pub due_same : (d : Debugger) (runs : List FreeRun) (future : List ℕ) → due d runs (take far real ++ future)
      ≡ due d runs (take used kept ++ future)

cancel : (a b c : List ℕ) → a ++ b ≡ a ++ c → b ≡ c
cancel [] b c e = e
cancel (x ∷ a) b c e = let tail : a ++ b ≡ a ++ c = cc in cancel a b c tail

drop_seam : (a b : List ℕ) → drop (length a) (a ++ b) ≡ b
drop_seam [] b = refl
drop_seam (x ∷ a) b = drop_seam a b

-- what ends with a line end, behind bytes that have none
tail_whole : (a x front : List ℕ) → HasNoLineEnd a → 0 < length x → a ++ x ≡ front ++ 10 ∷ []
    → (y : List ℕ) × (x ≡ y ++ 10 ∷ [])
tail_whole [] x front h some e = (front, e)
tail_whole (s ∷ a) x [] h some e =
    let same : s ≡ 10 = cc in absurd (true≢false (sym (eq-eqb s 10 same) ∙ (no_end_cons s a h).0))
tail_whole (s ∷ a) x (f ∷ front) h some e =
    let tail : a ++ x ≡ front ++ 10 ∷ [] = cc in tail_whole a x front (no_end_cons s a h).1 some tail

no_tail : (a front : List ℕ) → HasNoLineEnd a → a ≡ front ++ 10 ∷ [] → ⊥
no_tail a [] h e = true≢false (sym (eq-eqb 10 10 refl) ∙ (no_end_cons 10 [] (subst HasNoLineEnd e h)).0)
no_tail [] (f ∷ front) h e = absurd cc
no_tail (s ∷ a) (f ∷ front) h e =
    let tail : a ≡ front ++ 10 ∷ [] = cc in no_tail a front (no_end_cons s a h).1 tail

-- whole lines whose beginning is long go on behind it
some_tail : (a x : List ℕ) → IsLong a → AreWholeLines (a ++ x) → 0 < length x
some_tail a [] long (inl e) =
    let none : length (a ++ []) ≡ 0 = ap length e in absurd (omega (arith, long.1, none, length-append a []))
some_tail a [] long (inr w) =
    let short : a ≡ w.0 ++ 10 ∷ [] = sym (append-nil a) ∙ w.1 in absurd (no_tail a w.0 long.0 short)
some_tail a (y ∷ x) long w = omega arith

whole_tail : (a b x : List ℕ) → IsLong b → AreWholeLines (b ++ x) → AreWholeLines (a ++ x)
whole_tail a b x long (inl e) =
    let none : length (b ++ x) ≡ 0 = ap length e in absurd (omega (arith, long.1, none, length-append b x))
whole_tail a b x long (inr w) =
    let tail = tail_whole b x w.0 long.0 (some_tail b x long (inr w)) w.1 in
    inr (a ++ tail.0, ap (λ l. a ++ l) tail.1 ∙ sym (append_assoc a tail.0 (10 ∷ [])))

split_same : (real kept : List ℕ) (used : ℕ) → real ≡ kept → used ≤ length kept → AreWholeLines (take used kept)
    → Splits real kept used
split_same real kept used e within whole = subst (λ l. Splits l kept used) (sym e) (record {
  far = used;
  within = within;
  whole = whole;
  left = stands_same (drop used kept);
  due_same = λ d runs future. refl;
})

split_none : (real kept : List ℕ) (used : ℕ) → StandsFor real kept → take used kept ≡ [] → Splits real kept used
split_none real kept used s none =
    let all : kept ≡ drop used kept = sym (take-append-drop used kept) ∙ ap (λ l. l ++ drop used kept) none in
    record {
      far = 0;
      within = omega arith;
      whole = inl refl;
      left = subst (StandsFor real) all s;
      due_same = λ d runs future. ap (λ l. due d runs (l ++ future)) (sym none);
    }

split_long : (real kept a b more x : List ℕ) (used : ℕ) → real ≡ a ++ more → kept ≡ b ++ more → IsLong a → IsLong b
    → take used kept ≡ b ++ x → AreWholeLines (take used kept) → Splits real kept used
split_long real kept a b more x used real_is kept_is long_a long_b e whole =
    let rest = drop used kept in
    let split : b ++ more ≡ b ++ (x ++ rest) = sym kept_is ∙ sym (take-append-drop used kept) ∙ ap (λ l. l ++ rest) e
    ∙ append_assoc b x rest in
    let further : more ≡ x ++ rest = cancel b more (x ++ rest) split in
    let is : real ≡ (a ++ x) ++ rest = real_is ∙ ap (λ l. a ++ l) further ∙ sym (append_assoc a x rest) in
    let front : take (length (a ++ x)) real ≡ a ++ x = ap (take (length (a ++ x))) is
    ∙ take-append_seam (a ++ x) rest in
    let behind : drop (length (a ++ x)) real ≡ rest = ap (drop (length (a ++ x))) is ∙ drop_seam (a ++ x) rest in
    record {
      far = length (a ++ x);
      within = omega (arith, ap length is, length-append (a ++ x) rest);
      whole = subst AreWholeLines (sym front) (whole_tail a b x long_b (subst AreWholeLines e whole));
      left = subst (λ l. StandsFor l rest) (sym behind) (stands_same rest);
      due_same = λ d runs future. ap (λ l. due d runs (l ++ future)) front
          ∙ same_due d runs a b x future (inr (long_a, long_b)) ∙ ap (λ l. due d runs (l ++ future)) (sym e);
    }

split_at : (real kept a b more : List ℕ) (used : ℕ) → real ≡ a ++ more → kept ≡ b ++ more
    → (a ≡ b) ⊎ (IsLong a × IsLong b) → used ≤ length kept → AreWholeLines (take used kept) → Splits real kept used
split_at real kept a b more used real_is kept_is (inl e) within whole =
    split_same real kept used (real_is ∙ ap (λ l. l ++ more) e ∙ sym kept_is) within whole
split_at real kept a b more used real_is kept_is (inr long) within whole =
    let same : take used kept ≡ take used (b ++ more) = ap (take used) kept_is in
    elim (whole_past b more used long.1.0 (subst AreWholeLines same whole)) [
      | inl none ↦ split_none real kept used
          (record { whole = a; front = b; more = more; real_is = real_is; kept_is = kept_is; same = inr long })
          (same ∙ none)
      | inr x ↦ split_long real kept a b more x.0 used real_is kept_is long.0 long.1 (same ∙ x.1) whole
    ]

pub splits : (real kept : List ℕ) (used : ℕ) → StandsFor real kept → used ≤ length kept
    → AreWholeLines (take used kept) → Splits real kept used
splits real kept used s within whole =
    split_at real kept s.whole s.front s.more used s.real_is s.kept_is s.same within whole

-- what answers the kept bytes answers those that they stand for
pub stands_batch : (old new : Option (List ℕ)) (real kept : List ℕ) (used : ℕ) (d after : Debugger) (quits : Bool)
    (s : Splits real kept used) → AnswersBatch old new kept used d quits after
    → AnswersBatch old new real s.far d quits after
stands_batch old new real kept used d after quits s batch = (
  batch.0,
  λ later. let p = batch.1 later in record {
    text = p.text;
    appends = p.appends;
    within = s.within;
    whole = s.whole;
    is = λ future. s.due_same d (batch.0 ++ later) future ∙ p.is future;
  },
)
