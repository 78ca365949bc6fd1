use Rattle.std.proofs.Common.{◌∙◌, ◌≡◌, ℕ, false, List, [], rules, inl, inr, arith, refl, sym, subst, slice_index, codes}
use Rattle.std.specs.Prelude.{Some, pos}
use Rattle.std.proofs.lemmas.Result.{IfOk-weaker}
use Rattle.clap.specs.Facts.{args_of, groups_of}
use Rattle.clap.specs.Words.{found_of, one_text, without_minus}
use Rattle.clap.specs.declared.builder.command.Command.TheViews.{out-Command}
use Rattle.clap.specs.declared.builder.value_parser.ValueParser.TheVariants as vp
use Rattle.om_shell_program.specs.Arguments.{IsFile, IsThreads}
use Rattle.om_shell_program.specs.Workers.{GivesWorkers}
use Rattle.om_shell_program.proofs.Defaults.{IsGiven, first_of_two_read}
use Rattle.om_shell_program.proofs.words.matches_in.Goals as goal

pub returns : goal.returns
returns c =
    let threads = c.threads.result in
    let file = c.file.result in
    let start = c.after_help.result in
    let is : IsThreads threads = c.threads.ensures in
    let is_file : IsFile file = c.file.ensures in
    let first : (t : List ℕ) → threads.id.now ≡ t → slice_index t 0 ≡ 116 = λ t e. rw (← e, is.id) refl in
    let given : IsGiven threads (vp.Signed (pos 1) (pos 32)) = record {
      wants = is.wants;
      set = is.set;
      delim = is.delim;
      least = is.least;
      named = λ e. let bad : 0 ≡ 116 = first [] e in absurd (omega (arith, bad));
      own = λ auto. elim auto [
        | inl h ↦ let bad : 104 ≡ 116 = first _ h in absurd (omega (arith, bad))
        | inr h ↦ let bad : 118 ≡ 116 = first _ h in absurd (omega (arith, bad))
      ];
      parser = is.parser;
    } in
    let none : args_of start ≡ [] = search rules in
    let no_groups : groups_of start ≡ [] = search rules in
    let local : (out-Command start).has_globals ≡ false = search rules in
    let apart : file.id.now ≡ threads.id.now → ⊥ =
    λ same. let bad : 102 ≡ 116 = first (codes "file") (sym same ∙ is_file.id) in absurd (omega (arith, bad)) in
    IfOk-weaker c.try_get_matches_from.result _ GivesWorkers
    (λ m parsed. let read = first_of_two_read start c.in_ok-command.command c.in_ok-command-2.command threads file m
    c.in_ok-command.ensures c.in_ok-command-2.ensures none no_groups local is.plain is_file.plain is.local
    is_file.local (vp.Signed (pos 1) (pos 32)) given apart parsed in (
      read.0,
      subst (λ w. one_text (found_of m) w ≡ Some (without_minus read.0)) is.id read.1,
      read.2,
    ))
    c.try_get_matches_from.ensures.parsed
