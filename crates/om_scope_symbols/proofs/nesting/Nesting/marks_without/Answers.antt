use Rattle.std.proofs.Common.{reverse, ap, ◌∙◌}
use Rattle.om_scope_symbols.specs.Landmarks.{marks_behind}
use Rattle.om_scope_symbols.specs.Nesting.{end_of, marks_of, marks_without}
use Rattle.om_scope_symbols.specs.Stacks.{innermost_of}
use Rattle.om_scope_symbols.proofs.Marks.{marks-without}
use Rattle.om_scope_symbols.proofs.nesting.Nesting.marks_without.Goals as goal

pub returns : goal.returns
returns c =
    let constructs = reverse c.self.inside.constructs.items in
    let name = c.args.name.now in
    c.marks_behind.ensures
    ∙ ap (λ found. marks_behind found c.marks_of-all.result) (c.innermost.ensures ∙ ap innermost_of
    (c.self.invariant.2 name))
    ∙ ap (marks_behind _) (c.marks_of-all.ensures ∙ ap (λ cs. marks_of (reverse cs)) c.as_slice.ensures.value)
    ∙ marks-without constructs (end_of constructs) name c.self.invariant.1
    ∙ ap (λ cs. marks_without cs name) c.self.view_is
