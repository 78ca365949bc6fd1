-- The source, a line at a time.
use Rattle.std.proofs.Common.{◌≡◌, ℕ, ◌+◌, ◌<◌, ◌≤◌, Bool, true, false, cond, List, [], ◌∷◌, ◌++◌, ◌==◌, length, take}
use Rattle.std.proofs.Common.{drop, refl, sym, subst, ap, ◌∙◌, arith, append_assoc, append-nil, inl, inr}
use Rattle.std.proofs.Common.{take-add, length-drop, length-append, take-append-drop, take_all, get_or, eqb-true}
use Rattle.std.specs.List.{position_or_len}
use Rattle.std.specs.Str.Lines.{lines, lines_of_parts, strip_carriage_return}
use Rattle.std.proofs.lemmas.List.{take-append-le, take_more}
use Rattle.std.proofs.lemmas.List.Sums.{passes_at_first}
use Rattle.om_shell.specs.Lines.{parts_of, source_in, commands_in, has_mark, is_mark}
use Rattle.om_shell.specs.Lines.{HasNoLineEnd}
use Rattle.om_shell.specs.Progress.{AreWholeLines}
use Rattle.om_shell.specs.Source.{Scanned, IsMarked, IsUnmarked}
use Rattle.om_shell.proofs.LineLaws.{first_part, part_of_any, only_part}

pub Scanned_none : (bytes : List ℕ) → Scanned bytes 0
Scanned_none bytes = record {
  within = omega arith;
  whole = inl refl;
  source = λ future. refl;
  commands = λ future. refl;
  unmarked = λ future. refl;
}

pub source_cons : (part : List ℕ) (parts : List (List ℕ)) (next : List ℕ) (more : List (List ℕ)) (b : Bool) → parts
    ≡ next ∷ more → is_mark (strip_carriage_return part) ≡ b
    → source_in (part ∷ parts) ≡ cond b [] (part ++ 10 ∷ source_in parts)
source_cons part parts next more b e is = rw (e, ← is) refl

pub commands_cons : (part : List ℕ) (parts : List (List ℕ)) (next : List ℕ) (more : List (List ℕ)) (b : Bool) → parts
    ≡ next ∷ more → is_mark (strip_carriage_return part) ≡ b
    → commands_in (part ∷ parts) ≡ cond b (lines_of_parts parts) (commands_in parts)
commands_cons part parts next more b e is = rw (e, ← is) refl

pub mark_cons : (part : List ℕ) (parts : List (List ℕ)) (next : List ℕ) (more : List (List ℕ)) (b : Bool) → parts ≡ next
    ∷ more → is_mark (strip_carriage_return part) ≡ b
    → has_mark (part ∷ parts) ≡ cond b true (has_mark parts)
mark_cons part parts next more b e is = rw (e, ← is) refl

first_part_n : (bytes future : List ℕ) (n : ℕ) → n ≡ position_or_len (λ byte. byte == 10) bytes → n < length bytes
    → parts_of (take (n + 1) bytes ++ future) ≡ take n bytes ∷ parts_of future
first_part_n bytes future n e h = rw e (first_part (λ byte. byte == 10) bytes future (omega arith))

-- the next whole line, at the front of bytes
source_first : (bytes future : List ℕ) (n : ℕ) (b : Bool) → n ≡ position_or_len (λ byte. byte == 10) bytes
    → n < length bytes
    → is_mark (strip_carriage_return (take n bytes)) ≡ b
    → source_in (parts_of (take (n + 1) bytes ++ future)) ≡ cond b [] (take n bytes ++ 10 ∷ source_in (parts_of future))
source_first bytes future n b e h is =
    let next = part_of_any (λ byte. byte == 10) future in
    ap source_in (first_part_n bytes future n e h) ∙ source_cons (take n bytes) (parts_of future) next.0 next.1 b
    next.2 is

commands_first : (bytes future : List ℕ) (n : ℕ) (b : Bool) → n ≡ position_or_len (λ byte. byte == 10) bytes
    → n < length bytes
    → is_mark (strip_carriage_return (take n bytes)) ≡ b
    → commands_in (parts_of (take (n + 1) bytes ++ future)) ≡ cond b (lines future) (commands_in (parts_of future))
commands_first bytes future n b e h is =
    let next = part_of_any (λ byte. byte == 10) future in
    ap commands_in (first_part_n bytes future n e h) ∙ commands_cons (take n bytes) (parts_of future) next.0 next.1
    b next.2 is

mark_first : (bytes future : List ℕ) (n : ℕ) (b : Bool) → n ≡ position_or_len (λ byte. byte == 10) bytes
    → n < length bytes
    → is_mark (strip_carriage_return (take n bytes)) ≡ b
    → has_mark (parts_of (take (n + 1) bytes ++ future)) ≡ cond b true (has_mark (parts_of future))
mark_first bytes future n b e h is =
    let next = part_of_any (λ byte. byte == 10) future in
    ap has_mark (first_part_n bytes future n e h) ∙ mark_cons (take n bytes) (parts_of future) next.0 next.1 b next.2 is

-- the line's end is a line feed
pub line_with_end : (xs : List ℕ) (n : ℕ) → n ≡ position_or_len (λ byte. byte == 10) xs → n < length xs
    → take (n + 1) xs ≡ take n xs ++ 10 ∷ []
line_with_end xs n e h =
    let bound : position_or_len (λ byte. byte == 10) xs < length xs = omega arith in
    let feed : get_or xs n 0 ≡ 10 = rw e (eqb-true _ _ (passes_at_first (λ byte. byte == 10) xs 0 bound)) in
    take_more xs n 0 h ∙ ap (λ byte. take n xs ++ byte ∷ []) feed

cut : (bytes future : List ℕ) (at n : ℕ) → take (at + (n + 1)) bytes ++ future ≡ take at bytes
    ++ (take (n + 1) (drop at bytes) ++ future)
cut bytes future at n = ap (λ l. l ++ future) (take-add at (n + 1) bytes) ∙ append_assoc (take at bytes)
    (take (n + 1) (drop at bytes)) future

-- whole lines up to `at`, and a next one
with_line : (bytes : List ℕ) (at n : ℕ) → n ≡ position_or_len (λ byte. byte == 10) (drop at bytes)
    → n < length (drop at bytes) → (front : List ℕ) × (take (at + (n + 1)) bytes ≡ front ++ 10 ∷ [])
with_line bytes at n e bound = (
  take at bytes ++ take n (drop at bytes),
  take-add at (n + 1) bytes ∙ ap (λ l. take at bytes ++ l) (line_with_end (drop at bytes) n e bound)
      ∙ sym (append_assoc (take at bytes) (take n (drop at bytes)) (10 ∷ [])),
)

pub Scanned_more : (bytes : List ℕ) (at n : ℕ) → Scanned bytes at → n ≡ position_or_len (λ byte. byte == 10)
    (drop at bytes) → n < length (drop at bytes)
    → is_mark (strip_carriage_return (take n (drop at bytes))) ≡ false → Scanned bytes (at + (n + 1))
Scanned_more bytes at n so_far e bound is = record {
  within = omega (arith, so_far.within, length-drop at bytes);
  whole = inr (with_line bytes at n e bound);
  source = λ future.
      ap (λ l. source_in (parts_of l)) (cut bytes future at n) ∙ so_far.source (take (n + 1) (drop at bytes) ++ future)
      ∙ ap (λ l. take at bytes ++ l) (source_first (drop at bytes) future n false e bound is)
      ∙ sym (cut bytes (source_in (parts_of future)) at n
      ∙ ap (λ l. take at bytes ++ (l ++ source_in (parts_of future))) (line_with_end (drop at bytes) n e bound)
      ∙ ap (λ l. take at bytes ++ l) (append_assoc (take n (drop at bytes)) (10 ∷ []) (source_in (parts_of future))));
  commands = λ future.
      ap (λ l. commands_in (parts_of l)) (cut bytes future at n) ∙ so_far.commands (take (n + 1) (drop at bytes)
      ++ future)
      ∙ commands_first (drop at bytes) future n false e bound is;
  unmarked = λ future.
      ap (λ l. has_mark (parts_of l)) (cut bytes future at n) ∙ so_far.unmarked (take (n + 1) (drop at bytes) ++ future)
      ∙ mark_first (drop at bytes) future n false e bound is;
}

pub Marked_here : (bytes : List ℕ) (at n : ℕ) → Scanned bytes at → n ≡ position_or_len (λ byte. byte == 10)
    (drop at bytes) → n < length (drop at bytes)
    → is_mark (strip_carriage_return (take n (drop at bytes))) ≡ true → IsMarked bytes at (at + (n + 1))
Marked_here bytes at n so_far e bound is = record {
  before = so_far.within;
  within = omega (arith, so_far.within, length-drop at bytes);
  ended = with_line bytes at n e bound;
  source = λ future.
      ap (λ l. source_in (parts_of l)) (cut bytes future at n) ∙ so_far.source (take (n + 1) (drop at bytes) ++ future)
      ∙ ap (λ l. take at bytes ++ l) (source_first (drop at bytes) future n true e bound is)
      ∙ append-nil (take at bytes);
  commands = λ future.
      ap (λ l. commands_in (parts_of l)) (cut bytes future at n) ∙ so_far.commands (take (n + 1) (drop at bytes)
      ++ future)
      ∙ commands_first (drop at bytes) future n true e bound is;
}

pub Scanned_longer : (bytes more : List ℕ) (at : ℕ) → Scanned bytes at → Scanned (bytes ++ more) at
Scanned_longer bytes more at p =
    let same : take at (bytes ++ more) ≡ take at bytes = take-append-le at bytes more p.within in
    record {
      within = omega (arith, p.within, length-append bytes more);
      whole = subst AreWholeLines (sym same) p.whole;
      source = λ future. rw same (p.source future);
      commands = λ future. rw same (p.commands future);
      unmarked = λ future. rw same (p.unmarked future);
    }

pub source_last : (part : List ℕ) (b : Bool) → is_mark part ≡ b → source_in (part ∷ []) ≡ cond b [] part
source_last part b is = rw (← is) refl

last_end : (bytes : List ℕ) (at end : ℕ) (b : Bool) → at ≤ length bytes → end ≡ cond b at (length bytes)
    → take at bytes ++ cond b [] (drop at bytes) ≡ take end bytes
last_end bytes at end true h e = append-nil (take at bytes) ∙ ap (λ n. take n bytes) (sym e)
last_end bytes at end false h e = take-append-drop at bytes ∙ sym (take_all end bytes (omega arith))

end_within : (bytes : List ℕ) (at end : ℕ) (b : Bool) → at ≤ length bytes → end ≡ cond b at (length bytes)
    → end ≤ length bytes
end_within bytes at end true h e = omega arith
end_within bytes at end false h e = omega arith

pub Unmarked_at_end : (bytes : List ℕ) (at end : ℕ) (b : Bool) → Scanned bytes at → HasNoLineEnd (drop at bytes)
    → is_mark (drop at bytes) ≡ b → end ≡ cond b at (length bytes) → IsUnmarked bytes end
Unmarked_at_end bytes at end b p h is e =
    let last = only_part (λ byte. byte == 10) (drop at bytes) h in
    let whole = sym (take-append-drop at bytes) in
    record {
      before = end_within bytes at end b p.within e;
      source = ap (λ l. source_in (parts_of l)) whole ∙ p.source (drop at bytes)
          ∙ ap (λ l. take at bytes ++ l) (ap source_in last ∙ source_last (drop at bytes) b is) ∙ last_end bytes at
          end b p.within e;
      commands = ap (λ l. commands_in (parts_of l)) whole ∙ p.commands (drop at bytes) ∙ ap commands_in last;
    }

-- whole lines of the source and the beginning of a next one have no mark
pub unmarked_yet : (bytes : List ℕ) (at : ℕ) → Scanned bytes at → HasNoLineEnd (drop at bytes)
    → has_mark (parts_of bytes) ≡ false
unmarked_yet bytes at p h =
    ap (λ l. has_mark (parts_of l)) (sym (take-append-drop at bytes)) ∙ p.unmarked (drop at bytes)
    ∙ ap has_mark (only_part (λ byte. byte == 10) (drop at bytes) h)
