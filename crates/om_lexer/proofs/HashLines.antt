-- `#` lines: one at most begins at a byte, as one piece.
use Rattle.std.proofs.Common.{◌≡◌, ℕ, ◌+◌, ◌<◌, ◌≤◌, true, List, None, Some, length, codes, get_or, arith, refl, sym}
use Rattle.std.proofs.Common.{ap, subst, ◌∙◌, ⊎_elim, slice_index, slice_range}
use Rattle.std.proofs.lemmas.Bool.{both_ways, cases_lt, ltb-true}
use Rattle.om_lexer.specs.declared.piece.HashLine.{HashLine}
use Rattle.om_lexer.specs.declared.piece.HashLine.TheVariants as lines
use Rattle.om_lexer.specs.Characters.{is_word_byte}
use Rattle.om_lexer.specs.Constants.{value_in}
use Rattle.om_lexer.specs.WhiteSpace.{IsGap}
use Rattle.om_lexer.specs.Tokens.{IsRun}
use Rattle.om_lexer.specs.Macros.{MacroList, number_of_macro, IsOther}
use Rattle.om_lexer.specs.HashLines.{IsWordAt, IsHashWord, EndsLine, HasText, IsHeader, IsInclude, IsMacroName}
use Rattle.om_lexer.specs.HashLines.{IsDecimal, IsDefinition, IsDefine, IsDirective, IsOtherPragma, IsHashLine}
use Rattle.om_lexer.specs.HashLines.{IsBadHashLine, IsMacroTooMany}
use Rattle.om_lexer.proofs.Gaps.{gap_one, gap_same, gap_rises}
use Rattle.om_lexer.proofs.Beginnings.{first_of_slice}
use Rattle.om_lexer.proofs.Longest.{longest_one, length_slice, at_slice, run_is_word, run_is_longest}

-- ---- words

-- a run with a byte is a word there
pub run_is_there : (source : List ℕ) (from to : ℕ) → IsRun source from to → 0 < length (slice_range source from to)
    → IsWordAt source from to (slice_range source from to)
run_is_there source from to run some =
    let long = length_slice source from to in
    let order : from < to = omega (arith, long, some) in
    record {
      longest = run_is_longest source from to order run;
      word = run_is_word source from to order run;
      text_is = refl;
    }

pub word_one : (source : List ℕ) (from t u : ℕ) (a b : List ℕ) → IsWordAt source from t a → IsWordAt source from u b
    → (t ≡ u) × (a ≡ b)
word_one source from t u a b x y =
    let same = longest_one source from t u x.longest y.longest in
    (same, x.text_is ∙ ap (slice_range source from) same ∙ sym y.text_is)

pub word_same : (source : List ℕ) (f g t u : ℕ) (a b : List ℕ) → f ≡ g → IsWordAt source f t a → IsWordAt source g u
    b → (t ≡ u) × (a ≡ b)
word_same source f g t u a b same x y = word_one source g t u a b (subst (λ n. IsWordAt source n t a) same x) y

word_byte_there : (source : List ℕ) (from to : ℕ) (text : List ℕ) → IsWordAt source from to text
    → (from < length source) × (is_word_byte (slice_index source from) ≡ true)
word_byte_there source from to text w =
    let lengths = ap length w.text_is in
    let long = length_slice source from to in
    let first = first_of_slice source from to (omega (arith, lengths, w.word.some)) in (
      omega (arith, lengths, long, w.word.some),
      ap is_word_byte (sym (ap (λ t. slice_index t 0) w.text_is ∙ first))
          ∙ w.word.word_bytes 0 0 w.word.some,
    )

-- a word that begins where a run does is that run
pub word_is_run : (source : List ℕ) (f from t to : ℕ) (text : List ℕ) → f ≡ from → IsRun source from to
    → IsWordAt source f t text → (t ≡ to) × (text ≡ slice_range source from to)
word_is_run source f from t to text same run w' =
    let w : IsWordAt source from t text = subst (λ n. IsWordAt source n t text) same w' in
    let there = word_byte_there source from t text w in
    let order : from < to =
    ⊎_elim (λ below. below) (λ above.
    let empty : to ≡ from = omega (arith, above, run.behind) in
    absurd (both_ways _ (run.ends (omega (arith, empty, there.0))) (ap (λ k. is_word_byte (slice_index source k))
    empty ∙ there.1)))
    (cases_lt from to) in
    let end = longest_one source from t to w.longest (run_is_longest source from to order run) in
    (end, w.text_is ∙ ap (slice_range source from) end)

-- ---- `#` and a word

pub hash_word_one : (source : List ℕ) (from w v t u : ℕ) (a b : List ℕ) → IsHashWord source from w t a
    → IsHashWord source from v u b → (w ≡ v) × (t ≡ u) × (a ≡ b)
hash_word_one source from w v t u a b x y =
    let place = gap_one source (from + 1) w v x.gap y.gap in
    let same = word_same source w v t u a b place x.is_word y.is_word in
    (place, same.0, same.1)

-- a run with this text is that word
pub word_there : (source : List ℕ) (from to : ℕ) (text : List ℕ) → IsRun source from to → 0 < length text
    → slice_range source from to ≡ text → IsWordAt source from to text
word_there source from to text run some same = subst (IsWordAt source from to) same
    (run_is_there source from to run (let lengths = ap length same in omega (arith, lengths, some)))

pub hash_word_there : (source : List ℕ) (from word to : ℕ) (text : List ℕ) → slice_index source from ≡ 35
    → IsGap source (from + 1) word → IsRun source word to → 0 < length text → slice_range source word to ≡ text
    → IsHashWord source from word to text
hash_word_there source from word to text hash gap run some same = record {
  hash = hash;
  gap = gap;
  is_word = word_there source word to text run some same;
}

pub hash_word_read : (source : List ℕ) (from word to w t : ℕ) (text : List ℕ) → IsGap source (from + 1) word
    → IsRun source word to → IsHashWord source from w t text → slice_range source word to ≡ text
hash_word_read source from word to w t text gap run h =
    sym (word_is_run source w word t to text (gap_one source (from + 1) w word h.gap gap) run h.is_word).1

include_define : codes "include" ≡ codes "define" → ⊥
include_define same = let e : 7 ≡ 6 = ap length same in omega (arith, e)

include_pragma : codes "include" ≡ codes "pragma" → ⊥
include_pragma same = let e : 7 ≡ 6 = ap length same in omega (arith, e)

define_pragma : codes "define" ≡ codes "pragma" → ⊥
define_pragma same = let e : 100 ≡ 112 = ap (λ t. get_or t 0 0) same in omega (arith, e)

hash_word_differs : (source : List ℕ) (from w v t u : ℕ) (a b : List ℕ) → (a ≡ b → ⊥) → IsHashWord source from w t a
    → IsHashWord source from v u b → ⊥
hash_word_differs source from w v t u a b differ x y = differ (hash_word_one source from w v t u a b x y).2

-- ---- includes

text_byte : (source : List ℕ) (from to k : ℕ) (text : List ℕ) → k < length text → HasText source from text to
    → slice_index source (from + k) ≡ get_or text k 0
text_byte source from to k text inside has =
    let lengths = ap length has.0 in
    sym (at_slice source from to k 0 (omega (arith, lengths, inside))) ∙ ap (λ t. get_or t k 0) has.0

headers_differ : (source : List ℕ) (from a b : ℕ) → HasText source from (codes "<stdio.h>") a → HasText source from
    (codes "<omp.h>") b → ⊥
headers_differ source from a b x y =
    let s : slice_index source (from + 1) ≡ 115 = text_byte source from a 1 (codes "<stdio.h>") (ltb-true 1 9 refl) x in
    let o : slice_index source (from + 1) ≡ 111 = text_byte source from b 1 (codes "<omp.h>") (ltb-true 1 7 refl) y in
    omega (arith, s, o)

header_one : (source : List ℕ) (from a b : ℕ) → IsHeader source from a → IsHeader source from b → a ≡ b
header_one source from a b x y =
    ⊎_elim
    (λ s. ⊎_elim (λ t. s.1 ∙ sym t.1) (λ o. absurd (headers_differ source from a b s o)) y)
    (λ o. ⊎_elim (λ s. absurd (headers_differ source from b a s o)) (λ p. o.1 ∙ sym p.1) y)
    x

include_one : (source : List ℕ) (from a b : ℕ) → IsInclude source from a → IsInclude source from b → a ≡ b
include_one source from a b x y =
    let word = hash_word_one source from x.word y.word x.word_end y.word_end _ _ x.begins y.begins in
    let place = gap_same source x.word_end y.word_end x.header y.header word.1 x.gap y.gap in
    header_one source y.header a b (subst (λ n. IsHeader source n a) place x.is_header) y.is_header

-- ---- defines

definition_one : (source : List ℕ) (from a b v w : ℕ) (n m : List ℕ) → IsDefinition source from a n v
    → IsDefinition source from b m w → (a ≡ b) × (n ≡ m) × (v ≡ w)
definition_one source from a b v w n m x y =
    let name_place = gap_one source from x.name_from y.name_from x.gap y.gap in
    let name = word_same source x.name_from y.name_from x.name_end y.name_end n m name_place x.word y.word in
    let place = gap_same source x.name_end y.name_end a b name.0 x.further_gap y.further_gap in
    let number = word_same source a b x.number_end y.number_end x.number y.number place x.number_word y.number_word in
    (place, name.1, x.value_is ∙ ap (value_in 10) number.1 ∙ sym y.value_is)

definition_same : (source : List ℕ) (f g a b v w : ℕ) (n m : List ℕ) → f ≡ g → IsDefinition source f a n v
    → IsDefinition source g b m w → (a ≡ b) × (n ≡ m) × (v ≡ w)
definition_same source f g a b v w n m same x y = definition_one source g a b v w n m
    (subst (λ k. IsDefinition source k a n v) same x) y

pub define_one : (source : List ℕ) (from a b v w : ℕ) (n m : List ℕ) → IsDefine source from a n v → IsDefine source
    from b m w → (a ≡ b) × (n ≡ m) × (v ≡ w)
define_one source from a b v w n m x y =
    let word = hash_word_one source from x.word y.word x.word_end y.word_end _ _ x.begins y.begins in
    definition_same source x.word_end y.word_end a b v w n m word.1 x.definition y.definition

-- ---- lines

pub line_hash : (source : List ℕ) (macros : MacroList) (from to : ℕ) (line : HashLine) → IsHashLine source macros
    from to line → slice_index source from ≡ 35
line_hash source macros from to lines.Include x = x.begins.hash
line_hash source macros from to (lines.Define name) x = x.1.begins.hash
line_hash source macros from to (lines.Directive pragma omp) x = x.begins.hash
line_hash source macros from to lines.Ignored x = x.begins.hash

directive_other : (source : List ℕ) (from pragma omp a b : ℕ) → IsDirective source from pragma omp a
    → IsOtherPragma source from b → ⊥
directive_other source from pragma omp a b x y =
    let word = hash_word_one source from pragma y.word x.pragma_end b _ _ x.begins y.begins in
    y.no_omp omp a (subst (λ n. IsGap source n omp) word.1 x.gap) x.is_omp

directive_one : (source : List ℕ) (from p q o r a b : ℕ) → IsDirective source from p o a → IsDirective source from q
    r b → (a ≡ b) × (lines.Directive p o ≡ lines.Directive q r)
directive_one source from p q o r a b x y =
    let word = hash_word_one source from p q x.pragma_end y.pragma_end _ _ x.begins y.begins in
    let place = gap_same source x.pragma_end y.pragma_end o r word.1 x.gap y.gap in
    let end = word_same source o r a b _ _ place x.is_omp y.is_omp in
    (end.0, λ i. lines.Directive (word.0 i) (place i))

pub line_one : (source : List ℕ) (macros : MacroList) (from a b : ℕ) (k l : HashLine) → IsHashLine source macros
    from a k → IsHashLine source macros from b l → (a ≡ b) × (k ≡ l)
line_one source macros from a b lines.Include lines.Include x y = (include_one source from a b x y, refl)
line_one source macros from a b lines.Include (lines.Define m) x y = absurd (hash_word_differs source from _ _ _ _ _
    _ include_define x.begins y.1.begins)
line_one source macros from a b lines.Include (lines.Directive q r) x y = absurd (hash_word_differs source from _ _
    _ _ _ _ include_pragma x.begins y.begins)
line_one source macros from a b lines.Include lines.Ignored x y = absurd (hash_word_differs source from _ _ _ _ _ _
    include_pragma x.begins y.begins)
line_one source macros from a b (lines.Define n) lines.Include x y = absurd (hash_word_differs source from _ _ _ _ _
    _ include_define y.begins x.1.begins)
line_one source macros from a b (lines.Define n) (lines.Define m) x y = let same = define_one source from a b x.0
    y.0 n m x.1 y.1 in (same.0, ap lines.Define same.1)
line_one source macros from a b (lines.Define n) (lines.Directive q r) x y = absurd
    (hash_word_differs source from _ _ _ _ _ _ define_pragma x.1.begins y.begins)
line_one source macros from a b (lines.Define n) lines.Ignored x y = absurd (hash_word_differs source from _ _ _ _ _
    _ define_pragma x.1.begins y.begins)
line_one source macros from a b (lines.Directive p o) lines.Include x y = absurd (hash_word_differs source from _ _
    _ _ _ _ include_pragma y.begins x.begins)
line_one source macros from a b (lines.Directive p o) (lines.Define m) x y = absurd
    (hash_word_differs source from _ _ _ _ _ _ define_pragma y.1.begins x.begins)
line_one source macros from a b (lines.Directive p o) (lines.Directive q r) x y = directive_one source from p q o r
    a b x y
line_one source macros from a b (lines.Directive p o) lines.Ignored x y = absurd (directive_other source from p o a
    b x y)
line_one source macros from a b lines.Ignored lines.Include x y = absurd (hash_word_differs source from _ _ _ _ _ _
    include_pragma y.begins x.begins)
line_one source macros from a b lines.Ignored (lines.Define m) x y = absurd (hash_word_differs source from _ _ _ _ _
    _ define_pragma y.1.begins x.begins)
line_one source macros from a b lines.Ignored (lines.Directive q r) x y = absurd (directive_other source from q r b
    a y x)
line_one source macros from a b lines.Ignored lines.Ignored x y =
    ((hash_word_one source from x.word y.word a b _ _ x.begins y.begins).1, refl)

-- ---- how far a line goes

word_bound : (source : List ℕ) (from to : ℕ) (text : List ℕ) → IsWordAt source from to text
    → (to ≡ from + length text) × (to ≤ length source)
word_bound source from to text w =
    let lengths = ap length w.text_is in
    let long = length_slice source from to in
    let inside = w.longest.inside in
    (omega (arith, lengths, long, inside, w.word.some), inside)

pub hash_word_bound : (source : List ℕ) (from word to : ℕ) (text : List ℕ) → IsHashWord source from word to text
    → (from < word) × (to ≡ word + length text) × (to ≤ length source)
hash_word_bound source from word to text h =
    let rises = gap_rises source (from + 1) word h.gap in
    let bound = word_bound source word to text h.is_word in
    (omega (arith, rises), bound.0, bound.1)

include_bound : (source : List ℕ) (from to : ℕ) → IsInclude source from to → (from < to) × (to ≤ length source)
include_bound source from to x =
    let head = hash_word_bound source from x.word x.word_end (codes "include") x.begins in
    let rises = gap_rises source x.word_end x.header x.gap in
    ⊎_elim (λ s. (omega (arith, head.0, head.1, rises, s.1), s.2))
    (λ o. (omega (arith, head.0, head.1, rises, o.1), o.2)) x.is_header

define_bound : (source : List ℕ) (from to v : ℕ) (name : List ℕ) → IsDefine source from to name v → (from < to)
    × (to ≤ length source)
define_bound source from to v name x =
    let head = hash_word_bound source from x.word x.word_end (codes "define") x.begins in
    let d = x.definition in
    let rises = gap_rises source x.word_end d.name_from d.gap in
    let bound = word_bound source d.name_from d.name_end name d.word in
    let further = gap_rises source d.name_end to d.further_gap in
    let number = word_bound source to d.number_end d.number d.number_word in
    (omega (arith, head.0, head.1, rises, bound.0, further), omega (arith, number.0, number.1))

pub directive_words : (source : List ℕ) (from pragma omp to : ℕ) → IsDirective source from pragma omp to
    → (from < pragma) × (pragma + 6 ≤ omp) × (to ≡ omp + 3)
directive_words source from pragma omp to x =
    let head = hash_word_bound source from pragma x.pragma_end (codes "pragma") x.begins in
    let six : x.pragma_end ≡ pragma + 6 = head.1 in
    let rises = gap_rises source x.pragma_end omp x.gap in
    let three : to ≡ omp + 3 = (word_bound source omp to (codes "omp") x.is_omp).0 in
    (head.0, omega (arith, six, rises), three)

pub line_bound : (source : List ℕ) (macros : MacroList) (from to : ℕ) (line : HashLine) → IsHashLine source macros
    from to line → (from < to) × (to ≤ length source)
line_bound source macros from to lines.Include x = include_bound source from to x
line_bound source macros from to (lines.Define name) x = define_bound source from to x.0 name x.1
line_bound source macros from to (lines.Directive pragma omp) x =
    let words = directive_words source from pragma omp to x in
    (omega (arith, words.0, words.1, words.2), (word_bound source omp to (codes "omp") x.is_omp).1)
line_bound source macros from to lines.Ignored x =
    let head = hash_word_bound source from x.word to (codes "pragma") x.begins in
    (omega (arith, head.0, head.1), head.2)

-- ---- what is wrong with a line

-- the first word is none of the three
pub other_word : (source : List ℕ) (macros : MacroList) (from word to : ℕ) → IsGap source (from + 1) word
    → IsRun source word to
    → (slice_range source word to ≡ codes "include" → ⊥) → (slice_range source word to ≡ codes "define" → ⊥)
    → (slice_range source word to ≡ codes "pragma" → ⊥) → IsBadHashLine source macros from
other_word source macros from word to gap run no_include no_define no_pragma = record {
  no_include = λ end x. no_include (hash_word_read source from word to x.word x.word_end _ gap run x.begins);
  no_pragma = λ w t h. no_pragma (hash_word_read source from word to w t _ gap run h);
  no_define = λ end name value x. absurd (no_define (hash_word_read source from word to x.word x.word_end _ gap run
      x.begins));
}

-- an include that names no header, or has more behind it
pub bad_include : (source : List ℕ) (macros : MacroList) (from word end header : ℕ) → IsHashWord source from word
    end (codes "include") → IsGap source end header
    → ((to : ℕ) → IsHeader source header to → EndsLine source to → ⊥) → IsBadHashLine source macros from
bad_include source macros from word end header begins gap no_header = record {
  no_include = λ to x.
      let same = hash_word_one source from x.word word x.word_end end _ _ x.begins begins in
      let place = gap_same source x.word_end end x.header header same.1 x.gap gap in
      no_header to (subst (λ n. IsHeader source n to) place x.is_header) x.tail;
  no_pragma = λ w t h. hash_word_differs source from _ _ _ _ _ _ include_pragma begins h;
  no_define = λ to name value x. absurd (hash_word_differs source from _ _ _ _ _ _ include_define begins x.begins);
}

-- a header without the line's end behind it
pub no_tail : (source : List ℕ) (header to : ℕ) → IsHeader source header to → (EndsLine source to → ⊥) → (other : ℕ)
    → IsHeader source header other → EndsLine source other → ⊥
no_tail source header to is_header no_end other is_other tail = no_end
    (subst (EndsLine source) (header_one source header other to is_other is_header) tail)

-- a define whose only name and number it may not define
pub bad_define : (source : List ℕ) (macros : MacroList) (from word end : ℕ) → IsHashWord source from word end
    (codes "define")
    → ((to : ℕ) (name : List ℕ) (value : ℕ) → IsDefinition source end to name value → IsOther macros name value)
    → IsBadHashLine source macros from
bad_define source macros from word end begins others = record {
  no_include = λ to x. hash_word_differs source from _ _ _ _ _ _ include_define x.begins begins;
  no_pragma = λ w t h. hash_word_differs source from _ _ _ _ _ _ define_pragma begins h;
  no_define = λ to name value x.
      let same = hash_word_one source from x.word word x.word_end end _ _ x.begins begins in
      others to name value (subst (λ n. IsDefinition source n to name value) same.1 x.definition);
}

pub other_number : (source : List ℕ) (macros : MacroList) (end to v : ℕ) (name : List ℕ) → IsDefinition source end
    to name v → IsOther macros name v
    → (other : ℕ) (m : List ℕ) (w : ℕ) → IsDefinition source end other m w → IsOther macros m w
other_number source macros end to v name is_definition is_other other m w also =
    let same = definition_one source end to other v w name m is_definition also in
    subst (λ n. IsOther macros n w) same.1 (subst (IsOther macros name) same.2 is_other)

-- what stands in a define, by its words
pub definition_there : (source : List ℕ) (from name name_end number number_end : ℕ) → IsGap source from name
    → IsRun source name name_end → IsGap source name_end number → IsRun source number number_end
    → IsMacroName (slice_range source name name_end) → IsDecimal (slice_range source number number_end)
    → EndsLine source number_end
    → IsDefinition source from number (slice_range source name name_end)
    (value_in 10 (slice_range source number number_end))
definition_there source from name name_end number number_end gap run further_gap number_run is_name is_decimal
    tail = record {
      name_from = name;
      name_end = name_end;
      gap = gap;
      word = run_is_there source name name_end run is_name.0;
      is_name = is_name;
      further_gap = further_gap;
      number = slice_range source number number_end;
      number_end = number_end;
      number_word = run_is_there source number number_end number_run is_decimal.0;
      is_decimal = is_decimal;
      value_is = refl;
      tail = tail;
    }

pub no_definition : (source : List ℕ) (from name name_end number number_end : ℕ) → IsGap source from name
    → IsRun source name name_end → IsGap source name_end number → IsRun source number number_end
    → (IsMacroName (slice_range source name name_end) × IsDecimal (slice_range source number number_end)
    × EndsLine source number_end → ⊥)
    → (to : ℕ) (text : List ℕ) (value : ℕ) → IsDefinition source from to text value → ⊥
no_definition source from name name_end number number_end gap run further_gap number_run no_parts to text value d =
    let name_place = gap_one source from d.name_from name d.gap gap in
    let word = word_is_run source d.name_from name d.name_end name_end text name_place run d.word in
    let place = gap_same source d.name_end name_end to number word.0 d.further_gap further_gap in
    let digits = word_is_run source to number d.number_end number_end d.number place number_run d.number_word in
    no_parts (
      subst IsMacroName word.1 d.is_name,
      subst IsDecimal digits.1 d.is_decimal,
      subst (EndsLine source)
          digits.0 d.tail,
    )

-- a pragma without `omp`
pub other_pragma : (source : List ℕ) (from word end omp omp_end : ℕ) → IsHashWord source from word end
    (codes "pragma") → IsGap source end omp → IsRun source omp omp_end
    → (slice_range source omp omp_end ≡ codes "omp" → ⊥) → IsOtherPragma source from end
other_pragma source from word end omp omp_end begins gap run no_omp = record {
  word = word;
  begins = begins;
  no_omp = λ o e is_gap is_word. no_omp
      (sym (word_is_run source o omp e omp_end (codes "omp") (gap_one source end o omp is_gap gap) run is_word).1);
}

-- ---- a wrong line is no piece

pub bad_line_no_piece : (source : List ℕ) (macros : MacroList) (from to : ℕ) (line : HashLine)
    → IsBadHashLine source macros from → IsHashLine source macros from to line → ⊥
bad_line_no_piece source macros from to lines.Include bad x = bad.no_include to x
bad_line_no_piece source macros from to (lines.Define name) bad x =
    let other = bad.no_define to name x.0 x.1 in
    ⊎_elim
    (λ known. let same : Some other.0 ≡ Some x.0 = sym other.1 ∙ known in other.2 cc)
    (λ unknown. let same : Some other.0 ≡ None = sym other.1 ∙ unknown.0 in cc)
    x.2
bad_line_no_piece source macros from to (lines.Directive pragma omp) bad x = bad.no_pragma pragma x.pragma_end x.begins
bad_line_no_piece source macros from to lines.Ignored bad x = bad.no_pragma x.word to x.begins

pub too_many_no_piece : (source : List ℕ) (macros : MacroList) (from to : ℕ) (line : HashLine)
    → IsMacroTooMany source macros from → IsHashLine source macros from to line → ⊥
too_many_no_piece source macros from to lines.Include bad x = hash_word_differs source from _ _ _ _ _ _
    include_define x.begins bad.define.begins
too_many_no_piece source macros from to (lines.Define name) bad x =
    let one = define_one source from to bad.to x.0 bad.value name bad.name x.1 bad.define in
    ⊎_elim
    (λ known. let same : Some x.0 ≡ None = sym known ∙ ap (number_of_macro macros) one.1 ∙ bad.unknown in cc)
    (λ room. omega (arith, room.1, bad.full))
    x.2
too_many_no_piece source macros from to (lines.Directive pragma omp) bad x = hash_word_differs source from _ _ _ _ _
    _ define_pragma bad.define.begins x.begins
too_many_no_piece source macros from to lines.Ignored bad x = hash_word_differs source from _ _ _ _ _ _
    define_pragma bad.define.begins x.begins

pub bad_not_too_many : (source : List ℕ) (macros : MacroList) (from : ℕ) → IsBadHashLine source macros from
    → IsMacroTooMany source macros from → ⊥
bad_not_too_many source macros from bad many =
    let other = bad.no_define many.to many.name many.value many.define in
    let same : Some other.0 ≡ None = sym other.1 ∙ many.unknown in
    cc
