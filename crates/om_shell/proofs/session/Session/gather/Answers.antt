use Rattle.std.proofs.Common.{arith, rules, ◌≡◌, ◌≢◌, ◌+◌, ◌-◌, [], Some, drop, take, false, true, refl, sym, ap, ◌∙◌}
use Rattle.std.specs.Str.Lines.{strip_carriage_return}
use Rattle.std.proofs.KnownBytes.{Appends-nil}
use Rattle.om_shell.specs.declared.ended.ShellFault.TheVariants.{Memory, Read}
use Rattle.om_shell.proofs.Bytes.{slice_to_end}
use Rattle.om_shell.proofs.LineEnds.{position_some, position_none}
use Rattle.om_shell.proofs.SessionLaws.{Batch_none, Batch_next, Batch_begins, within_next}
use Rattle.om_shell.proofs.session.Session.gather.Goals as goal

no_read : Memory ≢ Read
no_read = search rules

pub lines-init : goal.lines-init
lines-init g c = record {
  answered = rw c.clear.ensures.items (Batch_none (Some []) _ _ (Appends-nil (Some [])));
  at_most = omega arith;
  within = c.requires.within;
  known = c.requires.known;
  few = rw c.clear.ensures.items refl;
}

pub line_end-requires : goal.line_end-requires
line_end-requires g c = rw (slice_to_end c.args.bytes.now c.lines.at)
    (record { within = c.lines.invariant.within; known = c.lines.invariant.known })

pub lines-preserved : goal.lines-preserved
lines-preserved g c =
    let bytes = c.args.bytes.now in
    let at = c.lines.at in
    let n = c.in-Some.n in
    let found = position_some _ _ _ (rw (slice_to_end bytes at) at c.in-Some.ensures) in
    let cut : at + n - at ≡ n = omega arith in
    let line = c.without_carriage_return-line.ensures ∙ ap (λ k. strip_carriage_return (take k (drop at bytes))) cut in
    let said = rw c.if-quits.false at c.in_ok-quits.ensures.answered in
    record {
      answered = Batch_next _ _ _ bytes c.without_carriage_return-line.result.now at n _ c.lines.self.debugger _
          _ _ c.lines.invariant.answered found.0 found.1 line said.2 said.1;
      at_most = within_next bytes at n c.lines.invariant.at_most found.1;
      within = omega arith;
      known = refl;
      few = sym c.has_enough.ensures ∙ c.if-has_enough.false;
    }

pub returns-then-quits-clause-answered : goal.returns-then-quits-clause-answered
returns-then-quits-clause-answered g c =
    let bytes = c.args.bytes.now in
    let at = c.lines.at in
    let n = c.in-Some.n in
    let found = position_some _ _ _ (rw (slice_to_end bytes at) at c.in-Some.ensures) in
    let cut : at + n - at ≡ n = omega arith in
    let line = c.without_carriage_return-line.ensures ∙ ap (λ k. strip_carriage_return (take k (drop at bytes))) cut in
    let said = rw c.if-quits.true at c.in_ok-quits.ensures.answered in
    Batch_next _ _ _ bytes c.without_carriage_return-line.result.now at n _ c.lines.self.debugger _ _ _
    c.lines.invariant.answered found.0 found.1 line said.2 said.1

pub returns-then-quits-clause-begun : goal.returns-then-quits-clause-begun
returns-then-quits-clause-begun g c =
    Batch_begins _ _ _ _ _ _ true Memory (returns-then-quits-clause-answered g c) no_read

pub returns-then-has_enough-clause-answered : goal.returns-then-has_enough-clause-answered
returns-then-has_enough-clause-answered g c =
    let bytes = c.args.bytes.now in
    let at = c.lines.at in
    let n = c.in-Some.n in
    let found = position_some _ _ _ (rw (slice_to_end bytes at) at c.in-Some.ensures) in
    let cut : at + n - at ≡ n = omega arith in
    let line = c.without_carriage_return-line.ensures ∙ ap (λ k. strip_carriage_return (take k (drop at bytes))) cut in
    let said = rw c.if-quits.false at c.in_ok-quits.ensures.answered in
    Batch_next _ _ _ bytes c.without_carriage_return-line.result.now at n _ c.lines.self.debugger _ _ _
    c.lines.invariant.answered found.0 found.1 line said.2 said.1

pub returns-then-has_enough-clause-begun : goal.returns-then-has_enough-clause-begun
returns-then-has_enough-clause-begun g c =
    Batch_begins _ _ _ _ _ _ false Memory (returns-then-has_enough-clause-answered g c) no_read

pub returns-in_err-quits-clause-begun : goal.returns-in_err-quits-clause-begun
returns-in_err-quits-clause-begun g c =
    rw c.in_err-quits.ensures.kept (Batch_begins _ _ _ _ _ _ false Memory c.lines.invariant.answered no_read)

pub returns-clause-left : goal.returns-clause-left
returns-clause-left g c =
    λ _ _. position_none _ _ (rw (slice_to_end c.args.bytes.now c.lines.at) at c.in_default.ensures)

pub returns-clause-begun : goal.returns-clause-begun
returns-clause-begun g c = Batch_begins _ _ _ _ _ _ false Memory c.lines.invariant.answered no_read
