use Rattle.std.proofs.Common.{arith, [], ◌∙◌, sym, ap, length}
use Rattle.std.proofs.KnownBytes.{Consumes-nil, Consumes-trans, Consumes-kept}
use Rattle.om_shell.proofs.KeptSource.{kept_all, kept_next}
use Rattle.om_shell.proofs.file.read_kept.Goals.{in-Ok+in_ok-keep-in-Ok, in-Err}
use Rattle.om_shell.proofs.file.read_kept.Goals as goal

pub reads-init : goal.reads-init
reads-init g c = record {
  read = ([], Consumes-nil _, c.new-bytes.ensures.items ∙ sym (kept_all [] (omega arith)));
  few = omega (arith, ap (λ l. length l) c.new-bytes.ensures.items);
}

pub reads-preserved : goal.reads-preserved
reads-preserved g c =
    let held = c.reads.invariant.read in
    elim c.match-read.branch [
      | in-Ok+in_ok-keep-in-Ok w ↦ rw w.bytes-is (record {
        read = (
          _,
          Consumes-trans _ _ _ _ _ held.1 w.in-Ok.ensures.bytes.0,
          kept_next held.0 _ _ _ held.2 w.in_ok-keep-in-Ok.ensures.kept,
        );
        few = w.in_ok-keep-in-Ok.ensures.few;
      })
      | in-Err w ↦ rw w.bytes-is (record {
        read = (held.0, Consumes-kept _ _ _ _ held.1 w.in-Err.ensures.bytes, held.2);
        few = c.reads.invariant.few;
      })
    ]
