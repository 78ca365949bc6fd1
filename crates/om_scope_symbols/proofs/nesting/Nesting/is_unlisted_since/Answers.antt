use Rattle.std.specs.Prelude.{nat_lt}
use Rattle.std.proofs.Common.{subst, ap, ◌∙◌}
use Rattle.om_scope_symbols.specs.Nesting.{AreNested, end_of}
use Rattle.om_scope_symbols.proofs.Marks.{unlisted-mark}
use Rattle.om_scope_symbols.proofs.nesting.Nesting.is_unlisted_since.Goals as goal

pub returns : goal.returns
returns c =
    ap (λ marks. nat_lt c.args.depth marks.asking) c.marks_without.ensures
    ∙ unlisted-mark c.args.self.now (end_of c.args.self.now) c.args.depth c.args.name.now
    (subst (λ cs. AreNested cs (end_of cs)) c.self.view_is c.self.invariant.1)
