-- An argument with a default value, beside another argument: after a parse it has a text that passed its parser.
use Rattle.std.proofs.Common.{◌≡◌, ◌∙◌, ◌++◌, ◌||◌, ◌<◌, ◌≤◌, zero, suc, ap, ℕ, Bool, true, false, List, [], ◌∷◌, length}
use Rattle.std.proofs.Common.{Some, None, refl, sym, subst, inl, inr, arith}
use Rattle.std.specs.List.{All, slice_index_or}
use Rattle.std.specs.Str.{bytes_eq}
use Rattle.std.proofs.lemmas.Slice.Eq.{bytes_eq-Decides}
use Rattle.std.proofs.lemmas.List.Elements.{All-nil}
use Rattle.clap.specs.Facts.{args_of, groups_of, EntryPasses, PassesArg, HasReading, IsCountArg, AllowsNone, WantsDefault}
use Rattle.clap.specs.Facts.{least_values, parser_of_value}
use Rattle.clap.specs.Built.{AddsArg, IsAuto, IsParsedFrom, IsPlain, IsPlainArg}
use Rattle.clap.specs.Matches.{found_of, one_text}
use Rattle.clap.specs.Values.{Accepts, read_as, reading_of}
use Rattle.clap.specs.declared.builder.action.ArgAction.TheVariants.{Count, Set}
use Rattle.clap.specs.declared.builder.arg.Arg.{Arg}
use Rattle.clap.specs.declared.builder.command.Command.{Command}
use Rattle.clap.specs.declared.builder.command.Command.TheViews.{out-Command}
use Rattle.clap.specs.declared.builder.value_parser.Reading.{Reading}
use Rattle.clap.specs.declared.builder.value_parser.ValueParser.{ValueParser}
use Rattle.clap.specs.declared.parser.matches.ArgMatches.{ArgMatches}
use Rattle.clap.proofs.CallerLemmas.{added_plain, default_present, entry_by_id, same_rules_by_id}
use Rattle.om_shell_program.proofs.Entries.{entry_read, found_in}

-- an argument that takes one value at least, and has a default
pub record IsGiven (a : Arg) (q : ValueParser) : Type 0 where
  pub wants : WantsDefault a
  pub set : a.action ≡ Some Set
  pub delim : a.val_delim ≡ None
  pub least : 1 ≤ least_values a
  pub named : a.id.now ≡ [] → ⊥
  pub own : IsAuto a → ⊥
  pub parser : a.value_parser ≡ Some q

-- what such an argument reads, where no other argument of its command has its id
pub default_read : (old : Command) (m : ArgMatches) (p : IsParsedFrom old m) → IsPlain old
    → (out-Command old).has_globals ≡ false → (k : ℕ) (d : Arg) → k < length (args_of old)
    → (q : ValueParser) → IsGiven (slice_index_or (args_of old) k d) q
    → ((j : ℕ) (e : Arg) → j < length (args_of old)
    → bytes_eq (slice_index_or (args_of old) j e).id.now (slice_index_or (args_of old) k d).id.now ≡ true → j ≡ k)
    → (t : List ℕ) × (one_text (found_of m) (slice_index_or (args_of old) k d).id.now ≡ Some (read_as (reading_of q) t))
    × Accepts (slice_index_or (args_of old) k d).ignore_case q t
default_read old m p plain globals k d within q given only =
    let a = slice_index_or (args_of old) k d in
    let id = a.id.now in
    let parsed = p.parsed (p.from.globals ∙ globals) in
    let rules = same_rules_by_id old m p k d within only given.own in
    let counts : IsCountArg p.built id → ⊥ = λ h.
    let s = rules h.0 h.1 h.2 h.3 h.4.0 in
    let is_set : h.1.action ≡ Some Set = s.action Set given.set in
    let bad : Set ≡ Count = rw is_set at h.4.1 in
    cc in
    let empty : AllowsNone p.built id → ⊥ = λ h.
    let s = rules h.0 h.1 h.2 h.3 h.4.0 in
    elim h.4.1 [
      | inl none ↦
          let one = s.least given.set given.least in
          absurd (omega arith)
      | inr has ↦
          let bad : false ≡ true = rw (s.val_delim, given.delim) at has in
          cc
    ] in
    let reads : (r : Reading) → HasReading p.built id r → r ≡ reading_of q = λ r h.
    let s = rules h.0 h.1 h.2 h.3 h.4.0 in
    sym h.4.1 ∙ ap (λ w. reading_of (parser_of_value w)) (s.parser q given.parser) in
    let read : (v : _) → PassesArg p.built id v.now → Accepts a.ignore_case q v.now = λ v h.
    let s = rules h.0 h.1 h.2 h.3 h.4.0 in
    let as_q = subst (λ w. Accepts h.1.ignore_case (parser_of_value w) v.now) (s.parser q given.parser) h.4.1 in
    subst (λ (b : Bool). Accepts b q v.now) s.ignore_case as_q in
    let there = found_in (found_of m).entries.items id (default_present old m p globals k d within given.wants) in
    let entry = entry_by_id (EntryPasses p.built) (found_of m).entries.items id there.0 parsed.values there.1 in
    entry_read p.built (found_of m) id (λ (t : List ℕ). Accepts a.ignore_case q t) (reading_of q) there.0 entry.0
    (p.from.plain plain).1 given.named counts empty reads read there.1 entry.1
    ((bytes_eq-Decides entry.0.0.now id).0 entry.2) entry.3

-- the first of two has the id alone
first_alone : (x y : Arg) (j : ℕ) (d e : Arg) → j < 2
    → (bytes_eq y.id.now x.id.now ≡ true → ⊥)
    → bytes_eq (slice_index_or (x ∷ y ∷ []) j e).id.now (slice_index_or (x ∷ y ∷ []) 0 d).id.now ≡ true → j ≡ 0
first_alone x y zero d e within other same = refl
first_alone x y (suc zero) d e within other same = absurd (other same)
first_alone x y (suc (suc n)) d e within other same = absurd (omega (arith, within))

-- so of a command of two arguments, of which the first is such a one
pub first_of_two_read : (start one two : Command) (a b : Arg) (m : ArgMatches) → AddsArg start a one → AddsArg one b two
    → args_of start ≡ [] → groups_of start ≡ [] → (out-Command start).has_globals ≡ false
    → IsPlainArg a → IsPlainArg b → a.global ≡ false → b.global ≡ false
    → (q : ValueParser) → IsGiven a q → (b.id.now ≡ a.id.now → ⊥) → IsParsedFrom two m
    → (t : List ℕ) × (one_text (found_of m) a.id.now ≡ Some (read_as (reading_of q) t)) × Accepts a.ignore_case q t
first_of_two_read start one two a b m first second args groups globals plain_a plain_b local_a local_b q given other p =
    let x = first.arg in
    let y = second.arg in
    let list : args_of two ≡ x ∷ y ∷ [] =
    second.args ∙ ap (λ l. l ++ y ∷ []) (first.args ∙ ap (λ l. l ++ x ∷ []) args) in
    let start_plain : IsPlain start = (subst (All IsPlainArg) (sym args) (All-nil IsPlainArg), groups) in
    let plain = added_plain one two b second (added_plain start one a first start_plain plain_a) plain_b in
    let one_globals : (out-Command one).has_globals ≡ false =
    first.globals ∙ (ap (λ g. g || a.global) globals ∙ ap (λ g. false || g) local_a) in
    let two_globals : (out-Command two).has_globals ≡ false =
    second.globals ∙ (ap (λ g. g || b.global) one_globals ∙ ap (λ g. false || g) local_b) in
    let within : 0 < length (args_of two) = subst (λ l. 0 < length l) (sym list) (omega arith) in
    let is : slice_index_or (args_of two) 0 a ≡ x = ap (λ l. slice_index_or l 0 a) list in
    let s = first.rules in
    let id : x.id.now ≡ a.id.now = ap (λ w. w.now) s.id in
    let other_id : y.id.now ≡ b.id.now = ap (λ w. w.now) second.rules.id in
    let given_x : IsGiven x q = record {
      wants = (s.ifs ∙ given.wants.0, rw (s.defaults given.wants.1) given.wants.1);
      set = s.action Set given.set;
      delim = s.val_delim ∙ given.delim;
      least = s.least given.set given.least;
      named = λ e. given.named (sym id ∙ e);
      own = λ auto. given.own (elim auto [ inl h ↦ inl (sym id ∙ h) | inr h ↦ inr (sym id ∙ h) ]);
      parser = s.parser q given.parser;
    } in
    let apart : bytes_eq y.id.now x.id.now ≡ true → ⊥ =
    λ same. other (sym other_id ∙ (bytes_eq-Decides y.id.now x.id.now).0 same ∙ id) in
    let only : (j : ℕ) (e : Arg) → j < length (args_of two)
    → bytes_eq (slice_index_or (args_of two) j e).id.now (slice_index_or (args_of two) 0 a).id.now ≡ true → j ≡ 0 =
    subst (λ l. (j : ℕ) (e : Arg) → j < length l
    → bytes_eq (slice_index_or l j e).id.now (slice_index_or l 0 a).id.now ≡ true → j ≡ 0) (sym list)
    (λ j e low same. first_alone x y j a e low apart same) in
    let got = default_read two m p plain two_globals 0 a within q (subst (λ w. IsGiven w q) (sym is) given_x) only in (
      got.0,
      subst (λ (w : List ℕ). one_text (found_of m) w ≡ Some (read_as (reading_of q) got.0)) (ap (λ w. w.id.now) is ∙ id) got.1,
      subst (λ (c : Bool). Accepts c q got.0) (ap (λ w. w.ignore_case) is ∙ s.ignore_case) got.2,
    )
