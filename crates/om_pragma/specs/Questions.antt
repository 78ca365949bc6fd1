-- What a parser asks of a directive.
use Rattle.std.specs.Prelude.{Bool, if◌then◌else◌}
use Rattle.std.specs.List.{list_any}
use Rattle.om_lexer.specs.declared.token.Span.{Span}
use Rattle.om_pragma.specs.declared.clause.ClauseKind.{ClauseKind}
use Rattle.om_pragma.specs.declared.clause.ClauseKind.TheVariants as clauses
use Rattle.om_pragma.specs.declared.tree.AtomicKind.{AtomicKind}
use Rattle.om_pragma.specs.declared.tree.AtomicKind.TheVariants as atomics
use Rattle.om_pragma.specs.declared.tree.Directive.{Directive}
use Rattle.om_pragma.specs.declared.tree.DirectiveName.{DirectiveName}
use Rattle.om_pragma.specs.declared.tree.DirectiveName.TheVariants as directives
use Rattle.om_pragma.specs.Kinds.{directive_kind, stands_alone, begins_part, has_parts, is_of_atomic}
use Rattle.om_pragma.specs.Spelling.{kind_of}
use Rattle.om_pragma.specs.Table.{same_clause}

-- a directive with no statement behind it, and none before which it must stand
abbrev pub is_stand_alone : DirectiveName → Bool
is_stand_alone name = stands_alone (directive_kind name)

-- the beginning of a part of `sections`
abbrev pub is_section : DirectiveName → Bool
is_section name = begins_part (directive_kind name)

-- a directive whose block consists of parts
abbrev pub is_sections : DirectiveName → Bool
is_sections name = has_parts (directive_kind name)

abbrev pub is_atomic : DirectiveName → Bool
is_atomic name = is_of_atomic (directive_kind name)

-- where the first word stands
abbrev pub word_span : DirectiveName → Span
word_span (directives.Parallel s) = s
word_span (directives.For s) = s
word_span (directives.Sections s) = s
word_span (directives.Section s) = s
word_span (directives.Single s) = s
word_span (directives.ParallelFor s t) = s
word_span (directives.ParallelSections s t) = s
word_span (directives.Masked s) = s
word_span (directives.Master s) = s
word_span (directives.Critical s n) = s
word_span (directives.Atomic s) = s
word_span (directives.Task s) = s
word_span (directives.Taskgroup s) = s
word_span (directives.Barrier s) = s
word_span (directives.Taskwait s) = s
word_span (directives.Taskyield s) = s
word_span (directives.Flush s l) = s

-- a clause of this kind stands there
abbrev pub has_clause : {E : Type 0} → ClauseKind → Directive E → Bool
has_clause k d = list_any (λ i. same_clause (kind_of i.clause) k) d.clauses

-- OpenMP API 5.2, 15.8.4: `atomic` without one of the three is an update
abbrev pub atomic_kind : {E : Type 0} → Directive E → AtomicKind
atomic_kind d = if has_clause clauses.Read d then atomics.Read else if has_clause clauses.Write d then atomics.Write
    else atomics.Update
