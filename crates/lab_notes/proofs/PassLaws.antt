-- Parts that are passed on, one behind another.
use Rattle.std.proofs.Common.{◌≡◌, ℕ, ◌+◌, ◌≤◌, List, [], ◌∷◌, ◌++◌, ◌==◌, Option, Some, length}
use Rattle.std.proofs.Common.{take, drop, refl, sym, ap, ◌∙◌, subst, arith, append_assoc, append-nil, length-append}
use Rattle.std.proofs.Common.{length-drop, take-append-drop, zero-add}
use Rattle.std.specs.List.{position}
use Rattle.std.specs.Io.KnownBytes.{Consumes, Appends, IsAtEnd}
use Rattle.std.proofs.KnownBytes.{Appends-nil, Appends-trans, Consumes-nil, Consumes-trans}
use Rattle.om_shell_commands.specs.Words.{words_of}
use Rattle.om_shell.specs.declared.ended.ShellFault.{ShellFault}
use Rattle.om_shell.specs.Lines.{HasNoLineEnd}
use Rattle.om_shell.specs.Progress.{AppendsPart, ReadFails}
use Rattle.lab_text.specs.Tails.{IsNoted}
use Rattle.lab_notes.specs.Parts.{IsPart, announced, as_they_are, a_line, no_part, one_more}
use Rattle.lab_notes.specs.Passing.{Passed, PassesPart, BreaksPart, PassesAll, PassesBeginning}
use Rattle.lab_notes.specs.Passing.{GoesOn, BreaksOff}
use Rattle.lab_notes.proofs.LineLaws.{cut_at_end}

-- ---- one part

-- the line that ends at n
line_front : (pending : List ℕ) (n : ℕ) → Some n ≡ position (λ byte. byte == 10) pending
    → pending ≡ (take n pending ++ 10 ∷ []) ++ drop (n + 1) pending
line_front pending n found =
    (cut_at_end pending n found).1 ∙ sym (append_assoc (take n pending) (10 ∷ []) (drop (n + 1) pending))

pub line_passed : (a b : Option (List ℕ)) (pending text after : List ℕ) (n due : ℕ)
    → Some n ≡ position (λ byte. byte == 10) pending → IsNoted (take n pending) text
    → due ≡ announced (words_of (take n pending)) → Appends a b text → after ≡ drop (n + 1) pending
    → PassesPart a b pending after 0 due
line_passed a b pending text after n due found noted counted wrote left =
    let line = take n pending in
    let written = line ++ noted.tail ++ 10 ∷ [] in
    record {
      part = line ++ 10 ∷ [];
      text = written;
      is_part = subst (IsPart 0 (line ++ 10 ∷ []) written) (sym counted)
          (a_line line noted.tail (cut_at_end pending n found).0 noted.is_tail);
      pending = line_front pending n found ∙ ap (λ l. (line ++ 10 ∷ []) ++ l) (sym left);
      appends = subst (Appends a b) noted.is wrote;
    }

pub line_broken : (a b : Option (List ℕ)) (pending text : List ℕ) (n : ℕ)
    → Some n ≡ position (λ byte. byte == 10) pending → IsNoted (take n pending) text → AppendsPart a b text
    → BreaksPart a b pending 0
line_broken a b pending text n found noted wrote = record {
  part = take n pending ++ 10 ∷ [];
  text = take n pending ++ noted.tail ++ 10 ∷ [];
  rest = drop (n + 1) pending;
  after = announced (words_of (take n pending));
  is_part = a_line (take n pending) noted.tail (cut_at_end pending n found).0 noted.is_tail;
  is = line_front pending n found;
  begins = subst (AppendsPart a b) noted.is wrote;
}

-- nothing was written of what is pending
pub nothing_broken : (a : Option (List ℕ)) (pending : List ℕ) (due : ℕ) → BreaksPart a a pending due
nothing_broken a pending due = record {
  part = [];
  text = [];
  rest = pending;
  after = due;
  is_part = as_they_are due due [] (sym (zero-add due));
  is = refl;
  begins = record { sent = []; begins = record { rest = []; is = refl }; appends = Appends-nil a };
}

-- the first n bytes
bytes_front : (pending : List ℕ) (n : ℕ) → n ≤ length pending → length (take n pending) ≡ n
bytes_front pending n within = omega (
  arith,
  length-drop n pending,
  length-append (take n pending) (drop n pending),
  ap length (take-append-drop n pending),
)

counted_front : (pending : List ℕ) (n before after : ℕ) → n ≤ length pending → before ≡ n + after
    → before ≡ length (take n pending) + after
counted_front pending n before after within counted =
    counted ∙ ap (λ k. k + after) (sym (bytes_front pending n within))

pub bytes_passed : (a b : Option (List ℕ)) (pending left : List ℕ) (n before after : ℕ) → n ≤ length pending
    → before ≡ n + after → Appends a b (take n pending) → left ≡ drop n pending
    → PassesPart a b pending left before after
bytes_passed a b pending left n before after within counted wrote rest = record {
  part = take n pending;
  text = take n pending;
  is_part = as_they_are before after (take n pending) (counted_front pending n before after within counted);
  pending = sym (take-append-drop n pending) ∙ ap (λ l. take n pending ++ l) (sym rest);
  appends = wrote;
}

pub bytes_broken : (a b : Option (List ℕ)) (pending : List ℕ) (n before after : ℕ) → n ≤ length pending
    → before ≡ n + after → AppendsPart a b (take n pending) → BreaksPart a b pending before
bytes_broken a b pending n before after within counted wrote = record {
  part = take n pending;
  text = take n pending;
  rest = drop n pending;
  after = after;
  is_part = as_they_are before after (take n pending) (counted_front pending n before after within counted);
  is = sym (take-append-drop n pending);
  begins = wrote;
}

-- ---- parts in a row

pub nothing_passed : (l h : Option (List ℕ)) → Passed l l h h [] 0
nothing_passed l h = record {
  taken = [];
  came = [];
  text = [];
  consumes = Consumes-nil l;
  appends = Appends-nil h;
  parts = no_part;
  is = refl;
}

pub one_passed : (la lb h a b : Option (List ℕ)) (p q : List ℕ) (before after : ℕ) → Passed la lb h a p before
    → PassesPart a b p q before after → Passed la lb h b q after
one_passed la lb h a b p q before after far part = record {
  taken = far.taken;
  came = far.came ++ part.part;
  text = far.text ++ part.text;
  consumes = far.consumes;
  appends = Appends-trans h a b far.text part.text far.appends part.appends;
  parts = one_more far.came far.text part.part part.text before after far.parts part.is_part;
  is = far.is ∙ ap (λ l. far.came ++ l) part.pending ∙ sym (append_assoc far.came part.part q);
}

pub read_on : (la lb lc h a : Option (List ℕ)) (p q bytes : List ℕ) (due : ℕ) → Passed la lb h a p due
    → Consumes lb lc bytes → q ≡ p ++ bytes → Passed la lc h a q due
read_on la lb lc h a p q bytes due far read longer = record {
  taken = far.taken ++ bytes;
  came = far.came;
  text = far.text;
  consumes = Consumes-trans la lb lc far.taken bytes far.consumes read;
  appends = far.appends;
  parts = far.parts;
  is = ap (λ l. l ++ bytes) far.is ∙ append_assoc far.came p bytes ∙ ap (λ l. far.came ++ l) (sym longer);
}

-- ---- the ends

pub all_passed : (la lb h a b : Option (List ℕ)) (p : List ℕ) (due : ℕ) → Passed la lb h a p due → HasNoLineEnd p
    → IsAtEnd lb → Appends a b p → PassesAll la lb h b
all_passed la lb h a b p due far unended at_end wrote = record {
  came = far.taken;
  written = far.text ++ p;
  consumes = far.consumes;
  at_end = at_end;
  annotated = record {
    front = far.came;
    text = far.text;
    last = p;
    due = due;
    parts = far.parts;
    unended = unended;
    came_is = far.is;
    written_is = refl;
  };
  appends = Appends-trans h a b far.text p far.appends wrote;
}

-- a beginning of the text behind what was written
part_behind : (h a b : Option (List ℕ)) (front text : List ℕ) → Appends h a front → AppendsPart a b text
    → AppendsPart h b (front ++ text)
part_behind h a b front text first part = record {
  sent = front ++ part.sent;
  begins = record {
    rest = part.begins.rest;
    is = ap (λ l. front ++ l) part.begins.is ∙ sym (append_assoc front part.sent part.begins.rest);
  };
  appends = Appends-trans h a b front part.sent first part.appends;
}

pub last_broken : (la lb h a b : Option (List ℕ)) (p : List ℕ) (due : ℕ) → Passed la lb h a p due → HasNoLineEnd p
    → AppendsPart a b p → PassesBeginning la lb h b
last_broken la lb h a b p due far unended wrote = record {
  taken = far.taken;
  came = far.taken;
  written = far.text ++ p;
  consumes = far.consumes;
  begins = record { rest = []; is = sym (append-nil far.taken) };
  annotated = record {
    front = far.came;
    text = far.text;
    last = p;
    due = due;
    parts = far.parts;
    unended = unended;
    came_is = far.is;
    written_is = refl;
  };
  appends = part_behind h a b far.text p far.appends wrote;
}

pub part_broken : (la lb h a b : Option (List ℕ)) (p : List ℕ) (due : ℕ) → Passed la lb h a p due
    → BreaksPart a b p due → PassesBeginning la lb h b
part_broken la lb h a b p due far broken = record {
  taken = far.taken;
  came = far.came ++ broken.part;
  written = far.text ++ broken.text;
  consumes = far.consumes;
  begins = record {
    rest = broken.rest;
    is = far.is ∙ ap (λ l. far.came ++ l) broken.is ∙ sym (append_assoc far.came broken.part broken.rest);
  };
  annotated = record {
    front = far.came ++ broken.part;
    text = far.text ++ broken.text;
    last = [];
    due = broken.after;
    parts = one_more far.came far.text broken.part broken.text due broken.after far.parts broken.is_part;
    unended = refl;
    came_is = sym (append-nil (far.came ++ broken.part));
    written_is = sym (append-nil (far.text ++ broken.text));
  };
  appends = part_behind h a b far.text broken.text far.appends broken.begins;
}

pub read_broken : (la lb lc h a : Option (List ℕ)) (p : List ℕ) (due : ℕ) (fault : ShellFault)
    → Passed la lb h a p due → ReadFails lb lc fault → PassesBeginning la lc h a
read_broken la lb lc h a p due fault far fails = record {
  taken = far.taken ++ fails.bytes;
  came = far.came;
  written = far.text;
  consumes = Consumes-trans la lb lc far.taken fails.bytes far.consumes fails.consumes;
  begins = record {
    rest = p ++ fails.bytes;
    is = ap (λ l. l ++ fails.bytes) far.is ∙ append_assoc far.came p fails.bytes;
  };
  annotated = record {
    front = far.came;
    text = far.text;
    last = [];
    due = due;
    parts = far.parts;
    unended = refl;
    came_is = sym (append-nil far.came);
    written_is = sym (append-nil far.text);
  };
  appends = record {
    sent = far.text;
    begins = record { rest = []; is = sym (append-nil far.text) };
    appends = far.appends;
  };
}

-- nothing was read or written
pub never_begun : (l h : Option (List ℕ)) → PassesBeginning l l h h
never_begun l h = part_broken l l h h h [] 0 (nothing_passed l h) (nothing_broken h [] 0)

-- ---- loops

pub goes_on_one : (a b c : Option (List ℕ)) (p q r : List ℕ) (m n k : ℕ) → GoesOn a b p q m n
    → PassesPart b c q r n k → GoesOn a c p r m k
goes_on_one a b c p q r m n k on part = λ la lb h far. one_passed la lb h b c q r n k (on la lb h far) part

pub breaks_behind : (a b c : Option (List ℕ)) (p q : List ℕ) (m n : ℕ) → GoesOn a b p q m n → BreaksPart b c q n
    → BreaksOff a c p m
breaks_behind a b c p q m n on broken = λ la lb h far. part_broken la lb h b c q n (on la lb h far) broken
