use Rattle.std.proofs.Common.{arith, ◌≡◌, ◌+◌, ◌-◌, drop, take, sym, ap, ◌∙◌, refl}
use Rattle.std.specs.Str.Lines.{strip_carriage_return}
use Rattle.om_shell.specs.Lines.{is_mark}
use Rattle.om_shell.proofs.Bytes.{slice_to_end}
use Rattle.om_shell.proofs.LineEnds.{position_some, position_none}
use Rattle.om_shell.proofs.SourceLaws.{Scanned_more, Marked_here}
use Rattle.om_shell.proofs.source.scan.Goals as goal

pub line_end-requires : goal.line_end-requires
line_end-requires c = rw (slice_to_end c.args.bytes.now c.lines.at)
    (record { within = c.lines.invariant.within; known = c.lines.invariant.known })

pub lines-preserved : goal.lines-preserved
lines-preserved c =
    let bytes = c.args.bytes.now in
    let at = c.lines.at in
    let n = c.in-Some.n in
    let found = position_some _ _ _ (rw (slice_to_end bytes at) at c.in-Some.ensures) in
    let cut : at + n - at ≡ n = omega arith in
    let line = c.without_carriage_return-line.ensures ∙ ap (λ k. strip_carriage_return (take k (drop at bytes))) cut in
    record {
      scanned = Scanned_more bytes at n c.lines.invariant.scanned found.0 found.1 (ap is_mark (sym line)
          ∙ sym c.eq.ensures ∙ c.if-eq.false);
      within = omega arith;
      known = refl;
    }

pub returns-then-eq-clause-marked : goal.returns-then-eq-clause-marked
returns-then-eq-clause-marked c =
    let bytes = c.args.bytes.now in
    let at = c.lines.at in
    let n = c.in-Some.n in
    let found = position_some _ _ _ (rw (slice_to_end bytes at) at c.in-Some.ensures) in
    let cut : at + n - at ≡ n = omega arith in
    let line = c.without_carriage_return-line.ensures ∙ ap (λ k. strip_carriage_return (take k (drop at bytes))) cut in
    Marked_here bytes at n c.lines.invariant.scanned found.0 found.1 (ap is_mark (sym line) ∙ sym c.eq.ensures
    ∙ c.if-eq.true)

pub returns-clause-unended : goal.returns-clause-unended
returns-clause-unended c = λ _. position_none _ _ (rw (slice_to_end c.args.bytes.now c.lines.at) at
    c.in_default.ensures)
