use Rattle.std.proofs.Common.{arith, [], ◌++◌, ap, ◌∙◌, append-nil, refl}
use Rattle.std.proofs.lemmas.Result.{err_from_is_err_and}
use Rattle.std.proofs.KnownBytes.{Consumes-nil, Consumes-trans}
use Rattle.om_shell.specs.Lines.{parts_of, has_mark}
use Rattle.om_shell.proofs.LineEnds.{known_whole}
use Rattle.om_shell.proofs.KeptSource.{keep_none, keep_read, keep_end, keep_unmarked}
use Rattle.om_shell.proofs.source.read_source.Goals as goal

pub reads-init : goal.reads-init
reads-init g c = record {
  read = record {
    taken = [];
    consumes = Consumes-nil _;
    keeps = keep_none _ _ c.requires.empty c.requires.unread;
  };
  within = omega arith;
  known = refl;
}

pub reads-preserved : goal.reads-preserved
reads-preserved g c =
    let k = c.reads.invariant.read in
    let after = c.in_ok-marked.ensures.kept c.if-marked.false k.taken k.keeps in
    let unended = c.in_ok-marked.ensures.unended c.if-marked.false in
    let read = c.in_ok-more.ensures.read in
    let known = known_whole _ read.0 _ c.len-searched.result read.2 (omega arith) unended in
    record {
      read = record {
        taken = k.taken ++ read.0;
        consumes = Consumes-trans _ _ _ _ _ k.consumes read.1;
        keeps = keep_read _ _ _ _ _ read.2 after;
      };
      within = known.0;
      known = known.1;
    }

pub returns-in_err-more-clause-failed : goal.returns-in_err-more-clause-failed
returns-in_err-more-clause-failed g c =
    let p = err_from_is_err_and c.from_residual-in_err-more.result c.from_residual-in_err-more.ensures.1 in
    let k = c.reads.invariant.read in
    let after = c.in_ok-marked.ensures.kept c.if-marked.false k.taken k.keeps in
    let unended = c.in_ok-marked.ensures.unended c.if-marked.false in
    let fails = c.in_err-more.ensures.failed in
    rw (p.1, p.2) (record {
      taken = k.taken ++ fails.bytes;
      consumes = Consumes-trans _ _ _ _ _ k.consumes fails.consumes;
      unmarked = λ read. ap (λ l. has_mark (parts_of (k.taken ++ l))) (fails.none read)
          ∙ ap (λ l. has_mark (parts_of l)) (append-nil k.taken) ∙ keep_unmarked _ _ _ unended after;
    })

pub keep-requires : goal.keep-requires
keep-requires g c =
    let k = c.reads.invariant.read in
    let after = c.in_ok-marked.ensures.kept c.if-marked.false k.taken k.keeps in after.few

pub returns-then-not-more-clause-unmarked : goal.returns-then-not-more-clause-unmarked
returns-then-not-more-clause-unmarked g c =
    let k = c.reads.invariant.read in
    let after = c.in_ok-marked.ensures.kept c.if-marked.false k.taken k.keeps in
    let read = c.in_ok-more.ensures.read in
    let ended = c.in_ok-more.ensures.ended c.if-not-more.true in
    let unmarked = rw c.deref.ensures.value at c.source_end-end.ensures in
    let kept = rw c.deref-then-not-more.ensures.value at c.in_ok-keep.ensures.kept in
    let last = keep_end _ _ _ _ _ unmarked kept (keep_read _ _ _ _ read.0 read.2 after) in
    λ _. record {
      taken = k.taken ++ read.0;
      consumes = Consumes-trans _ _ _ _ _ k.consumes read.1;
      at_end = ended.0;
      source_is = last.0;
      commands_are = last.1;
    }
