-- The line feeds of a source all stay.
use Rattle.std.proofs.Common.{◌≡◌, ℕ, ◌+◌, ◌-◌, ◌≤◌, ◌==◌, ◌||◌, if◌then◌else◌, cond, Bool, true, false, List, [], ◌∷◌, ◌++◌, drop, length, refl, sym, ap, ◌∙◌, arith}
use Rattle.std.proofs.lemmas.List.{take-append-drop, drop-drop}
use Rattle.std.proofs.lemmas.List.Sums.{sum_by-append}
use Rattle.lab_port.specs.declared.ported.Change.{Change}
use Rattle.lab_port.specs.Written.{blank, blanks_behind, part, end_of, written_for, with_changes, line_feeds, Stand}

both_feeds : (xs ys : List ℕ) → line_feeds (xs ++ ys) ≡ line_feeds xs + line_feeds ys
both_feeds xs ys = sum_by-append (λ byte. cond (byte == 10) 1 0) xs ys

-- what one byte adds to the line feeds
abbrev feed_of : ℕ → ℕ
feed_of b = cond (b == 10) 1 0

one_more : (b : ℕ) (rest : List ℕ) → line_feeds (b ∷ rest) ≡ feed_of b + line_feeds rest
one_more b rest = let both = both_feeds (b ∷ []) rest in omega (arith, both)

-- a byte as white space is a line feed where it was one
blank_feed : (b : ℕ) → feed_of (blank b) ≡ feed_of b
blank_feed b = grind arith

taken_feed : (b owed : ℕ) → (b == 10 || owed == 0) ≡ false → feed_of b ≡ 0
taken_feed b owed is = grind (arith, is)

blank_on : (kept : Bool) (b owed : ℕ) (rest : List ℕ)
    → (b == 10 || owed == 0) ≡ kept
    → line_feeds (blanks_behind owed rest) ≡ line_feeds rest
    → line_feeds (blanks_behind (owed - 1) rest) ≡ line_feeds rest
    → line_feeds (if kept then blank b ∷ blanks_behind owed rest else blanks_behind (owed - 1) rest)
    ≡ line_feeds (b ∷ rest)
blank_on true b owed rest is more fewer =
    omega (arith, one_more (blank b) (blanks_behind owed rest), one_more b rest, blank_feed b, more)
blank_on false b owed rest is more fewer = omega (arith, one_more b rest, taken_feed b owed is, fewer)

blank_feeds : (owed : ℕ) (bytes : List ℕ) → line_feeds (blanks_behind owed bytes) ≡ line_feeds bytes
blank_feeds owed [] = refl
blank_feeds owed (b ∷ rest) =
    blank_on (b == 10 || owed == 0) b owed rest refl (blank_feeds owed rest) (blank_feeds (owed - 1) rest)

-- what follows a place, parted at a later one
parted_feeds : (source : List ℕ) (from to : ℕ) → from ≤ to
    → line_feeds (drop from source) ≡ line_feeds (part source from to) + line_feeds (drop to source)
parted_feeds source from to below =
    let same : from + (to - from) ≡ to = omega arith in
    ap line_feeds (sym (take-append-drop (to - from) (drop from source)))
    ∙ both_feeds (part source from to) (drop (to - from) (drop from source))
    ∙ ap (λ l. line_feeds (part source from to) + line_feeds l)
    (drop-drop (to - from) from source ∙ ap (λ k. drop k source) same)

pub lines_from : (source : List ℕ) (from : ℕ) (changes : List Change) → Stand source from changes
    → line_feeds (with_changes source from changes) ≡ line_feeds (drop from source)
lines_from source from [] stand = refl
lines_from source from (change ∷ more) ((after, inside, old, new), rest) =
    let tail = with_changes source (end_of change) more in
    let begun = part source from change.at in
    let blanks = blanks_behind (length change.new) change.old in
    let ends : change.at ≤ end_of change = omega arith in
    omega (
      arith,
      both_feeds begun (written_for change ++ tail),
      both_feeds (written_for change) tail,
      both_feeds change.new blanks,
      blank_feeds (length change.new) change.old,
      new,
      lines_from source (end_of change) more rest,
      parted_feeds source from change.at after,
      parted_feeds source change.at (end_of change) ends,
      ap line_feeds old,
    )
