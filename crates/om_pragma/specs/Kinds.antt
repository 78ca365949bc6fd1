-- Which directive, and what OpenMP says of it.
use Rattle.std.specs.Prelude.{Bool, true, false}
use Rattle.om_pragma.specs.declared.tree.DirectiveKind.{DirectiveKind}
use Rattle.om_pragma.specs.declared.tree.DirectiveKind.TheVariants as kinds
use Rattle.om_pragma.specs.declared.tree.DirectiveName.{DirectiveName}
use Rattle.om_pragma.specs.declared.tree.DirectiveName.TheVariants as directives

-- no statement belongs to it, and it stands before none
abbrev pub stands_alone : DirectiveKind → Bool
stands_alone kinds.Barrier = true
stands_alone kinds.Taskwait = true
stands_alone kinds.Taskyield = true
stands_alone kinds.Flush = true
stands_alone _ = false

-- it begins a part of `sections`
abbrev pub begins_part : DirectiveKind → Bool
begins_part kinds.Section = true
begins_part _ = false

-- its block has parts
abbrev pub has_parts : DirectiveKind → Bool
has_parts kinds.Sections = true
has_parts kinds.ParallelSections = true
has_parts _ = false

-- OpenMP API 5.2, 4.3.1.3: its statement has one of certain forms
abbrev pub is_of_atomic : DirectiveKind → Bool
is_of_atomic kinds.Atomic = true
is_of_atomic _ = false

-- which directive a name is
abbrev pub directive_kind : DirectiveName → DirectiveKind
directive_kind (directives.Parallel s) = kinds.Parallel
directive_kind (directives.For s) = kinds.For
directive_kind (directives.Sections s) = kinds.Sections
directive_kind (directives.Section s) = kinds.Section
directive_kind (directives.Single s) = kinds.Single
directive_kind (directives.ParallelFor s t) = kinds.ParallelFor
directive_kind (directives.ParallelSections s t) = kinds.ParallelSections
directive_kind (directives.Masked s) = kinds.Masked
directive_kind (directives.Master s) = kinds.Master
directive_kind (directives.Critical s n) = kinds.Critical
directive_kind (directives.Atomic s) = kinds.Atomic
directive_kind (directives.Task s) = kinds.Task
directive_kind (directives.Taskgroup s) = kinds.Taskgroup
directive_kind (directives.Barrier s) = kinds.Barrier
directive_kind (directives.Taskwait s) = kinds.Taskwait
directive_kind (directives.Taskyield s) = kinds.Taskyield
directive_kind (directives.Flush s l) = kinds.Flush
