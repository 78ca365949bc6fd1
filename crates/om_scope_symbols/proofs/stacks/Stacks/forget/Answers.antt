use Rattle.std.proofs.Common.{is_some, sym, ap, ◌∙◌, if◌then◌else◌, arith}
use Rattle.std.specs.Option.{option_copied_mut}
use Rattle.std.specs.Str.{bytes_eq}
use Rattle.om_scope_symbols.specs.Stacks.{seen_in, table_of, without_innermost}
use Rattle.om_scope_symbols.proofs.Stacked.{popped, seen-absent, seen-write}
use Rattle.om_scope_symbols.proofs.stacks.Stacks.forget.Goals as goal
use Rattle.om_scope_symbols.proofs.stacks.Stacks.forget.Goals.{in-Some, in_default}

pub returns : goal.returns
returns over c other =
    let es = c.self.inside.names.entries in
    let name = c.args.name.now in
    elim c.match-get_mut.branch [
      | in-Some w ↦
          let seen = w.in-Some.seen.now in
          let left = w.pop-innermost.new.self in
          let found = sym c.get_mut.ensures.value ∙ ap option_copied_mut w.in-Some.is in
          let written = (c.get_mut.follows.holds left).3 (ap is_some found) in
          ap (λ inside. seen_in (table_of inside.names.entries) other) w.self-inside-is
          ∙ seen-write without_innermost es _ name seen left other found
          (sym (popped seen.items left.items w.pop-innermost.result w.pop-innermost.ensures.items
          (λ some. w.pop-innermost.ensures.variant.1 (omega (arith, seen.ok.0, some)))))
          written.1 written.3
          ∙ ap (λ table. if bytes_eq other name then without_innermost (seen_in table other) else seen_in table
          other) c.self.view_is
      | in_default w ↦
          ap (λ inside. seen_in (table_of inside.names.entries) other) w.self-inside-is
          ∙ ap (λ now. seen_in (table_of now.entries) other) c.get_mut.follows.holds-at-none
          ∙ seen-absent es name other (sym c.get_mut.ensures.value ∙ ap option_copied_mut w.in_default.is)
          ∙ ap (λ table. if bytes_eq other name then without_innermost (seen_in table other) else seen_in table
          other) c.self.view_is
    ]
