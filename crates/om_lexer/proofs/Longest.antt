-- The longest text that could be a token.
use Rattle.std.proofs.Common.{◌≡◌, ℕ, ◌+◌, ◌-◌, ◌<◌, ◌≤◌, min, true, false, List, length, take, drop, get_or, nat_eq}
use Rattle.std.proofs.Common.{arith, sym, ap, ◌∙◌, ⊎_elim, inl, inr, length-take, length-drop, get_or-take, get_or-drop}
use Rattle.std.proofs.Common.{slice_index, slice_range}
use Rattle.std.proofs.lemmas.Bool.{both_ways, cases_order}
use Rattle.std.proofs.lemmas.List.{get_or_default}
use Rattle.std.proofs.lemmas.Slice.Eq.{bytes_eq-Decides}
use Rattle.std.specs.List.{starts_with}
use Rattle.om_lexer.specs.declared.token.Punctuator.{Punctuator}
use Rattle.om_lexer.specs.Characters.{is_word_byte}
use Rattle.om_lexer.specs.Spellings.{punctuator_text}
use Rattle.om_lexer.specs.WhiteSpace.{BeginsComment}
use Rattle.om_lexer.specs.Tokens.{IsRun, IsWord, IsLongest}
use Rattle.om_lexer.proofs.Beginnings.{could_be_some, first_of_slice, word_from_first, punctuator_from_first}
use Rattle.om_lexer.proofs.Beginnings.{punctuator_long, word_no_slash}

-- there is one longest
pub longest_one : (source : List ℕ) (from a b : ℕ) → IsLongest source from a → IsLongest source from b → a ≡ b
longest_one source from a b x y =
    ⊎_elim
    (λ same. same)
    (⊎_elim
    (λ below. absurd (x.longest b below y.inside y.could_be))
    (λ above. absurd (y.longest a above x.inside x.could_be)))
    (cases_order a b)

pub length_slice : (source : List ℕ) (from to : ℕ) → length (slice_range source from to) ≡ min (to - from)
    (length source - from)
length_slice source from to = length-take (to - from) (drop from source) ∙ ap (min (to - from))
    (length-drop from source)

-- a byte of a slice is the source's
pub at_slice : (source : List ℕ) (from to k d : ℕ) → k < length (slice_range source from to)
    → get_or (slice_range source from to) k d ≡ slice_index source (from + k)
at_slice source from to k d inside =
    let long = length_slice source from to in
    let in_slice : k < to - from = omega (arith, long, inside) in
    let in_source : from + k < length source = omega (arith, long, inside) in
    get_or-take (to - from) (drop from source) k d in_slice ∙ get_or-drop from source k d ∙ get_or_default source
    (from + k) d 0 in_source

pub run_is_word : (source : List ℕ) (from to : ℕ) → from < to → IsRun source from to
    → IsWord (slice_range source from to)
run_is_word source from to some r =
    let long = length_slice source from to in
    record {
      some = omega (arith, long, some, r.inside);
      word_bytes = λ k d inside. ap is_word_byte (at_slice source from to k d inside) ∙ r.run (from + k)
          (omega arith) (omega (arith, long, inside));
    }

pub run_is_longest : (source : List ℕ) (from to : ℕ) → from < to → IsRun source from to → IsLongest source from to
run_is_longest source from to begins r = record {
  inside = r.inside;
  could_be = inl (run_is_word source from to begins r);
  longest = λ more longer inside could_be.
      let long = length_slice source from more in
      let some = could_be_some _ could_be in
      let word = word_from_first _ could_be (ap is_word_byte (first_of_slice source from more some)
      ∙ r.run from (omega arith) begins) in
      let there : to - from < length (slice_range source from more) = omega (arith, long, begins, longer, inside) in
      let behind : from + (to - from) ≡ to = omega (arith, begins) in
      both_ways _ (r.ends (omega arith))
      (ap is_word_byte (sym (at_slice source from more (to - from) 0 there ∙ ap (slice_index source) behind))
      ∙ word.word_bytes (to - from) 0 there);
  no_comment = λ comment. word_no_slash _ (r.run from (omega arith) begins) comment.0;
}

-- what a front of the source from there on is
pub starts_from : (source text : List ℕ) (from : ℕ) → starts_with nat_eq (drop from source) text ≡ true
    → slice_range source from (from + length text) ≡ text
starts_from source text from starts =
    let width : from + length text - from ≡ length text = omega arith in
    ap (λ n. take n (drop from source)) width
    ∙ sym ((bytes_eq-Decides text (take (length text) (drop from source))).0 starts)

pub starts_to : (source text : List ℕ) (from to : ℕ) → to ≤ length source → slice_range source from to ≡ text
    → 0 < length text → (starts_with nat_eq (drop from source) text ≡ true) × (to ≡ from + length text)
starts_to source text from to inside same some =
    let long = length_slice source from to in
    let lengths = ap length same in
    let width : to - from ≡ length text = omega (arith, long, lengths, some, inside) in (
      (bytes_eq-Decides text (take (length text) (drop from source))).1
          (sym same ∙ ap (λ n. take n (drop from source)) width),
      omega (arith, width, some),
    )

-- the bytes of a front stand in the source
pub starts_inside : (source text : List ℕ) (from : ℕ) → from ≤ length source → starts_with nat_eq (drop from source)
    text ≡ true → from + length text ≤ length source
starts_inside source text from in_source starts =
    let lengths = ap length (starts_from source text from starts) in
    let long = length_slice source from (from + length text) in
    omega (arith, lengths, long, in_source)

pub starts_there : (source text : List ℕ) (from : ℕ) → slice_range source from (from + length text) ≡ text
    → starts_with nat_eq (drop from source) text ≡ true
starts_there source text from same =
    let width : from + length text - from ≡ length text = omega arith in
    (bytes_eq-Decides text (take (length text) (drop from source))).1
    (sym same ∙ ap (λ n. take n (drop from source)) width)

-- the longest punctuator, where no word begins
pub punctuator_is_longest : (source : List ℕ) (from : ℕ) (p : Punctuator) → from ≤ length source
    → is_word_byte (slice_index source from) ≡ false → (BeginsComment source from → ⊥)
    → starts_with nat_eq (drop from source) (punctuator_text p) ≡ true
    → ((q : Punctuator) → starts_with nat_eq (drop from source) (punctuator_text q) ≡ true
    → length (punctuator_text q) ≤ length (punctuator_text p))
    → IsLongest source from (from + length (punctuator_text p))
punctuator_is_longest source from p in_source no_word no_comment starts longest =
    let text = starts_from source (punctuator_text p) from starts in
    let lengths = ap length text in
    let long = length_slice source from (from + length (punctuator_text p)) in
    record {
      inside = omega (arith, lengths, long, in_source);
      could_be = inr (p, text);
      longest = λ more longer inside could_be.
          let first = first_of_slice source from more (could_be_some _ could_be) in
          let q = punctuator_from_first _ could_be (ap is_word_byte first ∙ no_word) in
          let begins = starts_to source (punctuator_text q.0) from more inside q.1 (punctuator_long q.0) in
          let bound = longest q.0 begins.0 in
          omega (arith, begins.1, bound, longer);
      no_comment = no_comment;
    }
