-- Which lines of a source its conditions leave (C17 6.10.1p6).
use Rattle.std.specs.Prelude.{ℕ, Bool, true, false, ◌-◌, ◌==◌, ◌&&◌, if◌then◌else◌, List, [], ◌∷◌, ◌++◌}
use Rattle.lab_port_context.specs.Contexts.{deeper}
use Rattle.lab_port_context.specs.Ahead.{nth_text}
use Rattle.lab_port_tokens.specs.declared.piece.Piece.{Piece}
use Rattle.lab_port_rules.specs.declared.rule.Meaning.{Meaning}
use Rattle.lab_port_conditions.specs.declared.kind.Kind.{Kind}
use Rattle.lab_port_conditions.specs.declared.kind.Kind.TheVariants as kinds
use Rattle.lab_port_conditions.specs.declared.state.State.{State}
use Rattle.lab_port_conditions.specs.Kinds.{ends_at}

-- so many conditions leave lines out, and so many do not
abbrev pub of_counts : State → ℕ → ℕ → State
of_counts state skipped opened = record {
  skipped = skipped;
  opened = opened;
  is_sure = state.is_sure;
  has_unknown = state.has_unknown;
}

-- behind a line that is not understood
abbrev pub lost : State → State
lost state = record {
  skipped = state.skipped;
  opened = state.opened;
  is_sure = false;
  has_unknown = state.has_unknown;
}

-- behind a header whose macros are not known
abbrev pub behind_header : State → State
behind_header state = record {
  skipped = state.skipped;
  opened = state.opened;
  is_sure = state.is_sure;
  has_unknown = true;
}

-- behind the `#else` or the `#endif` of a condition whose lines stay
abbrev pub behind_opened : State → ℕ → State
behind_opened state skipped =
    if state.opened == 0 then lost state else of_counts state skipped (state.opened - 1)

-- behind a line that stays
abbrev pub behind_written : State → Kind → State
behind_written state kinds.Chosen = of_counts state 0 (deeper state.opened)
behind_written state kinds.Denied = of_counts state 1 state.opened
behind_written state kinds.Otherwise = behind_opened state 1
behind_written state kinds.Ended = behind_opened state 0
behind_written state kinds.Defined = state
behind_written state kinds.Plain = state
behind_written state kinds.Included = behind_header state
behind_written state _ = lost state

-- behind a line that is left out
abbrev pub behind_skipped : State → Kind → State
behind_skipped state kinds.Chosen = of_counts state (deeper state.skipped) state.opened
behind_skipped state kinds.Denied = of_counts state (deeper state.skipped) state.opened
behind_skipped state kinds.Unknown = of_counts state (deeper state.skipped) state.opened
behind_skipped state kinds.Otherwise =
    if state.skipped == 1 then of_counts state 0 (deeper state.opened) else state
behind_skipped state kinds.Turned = if state.skipped == 1 then lost state else state
behind_skipped state kinds.Ended = of_counts state (state.skipped - 1) state.opened
behind_skipped state _ = state

abbrev pub behind_kind : State → Kind → State
behind_kind state kind = if state.skipped == 0 then behind_written state kind else behind_skipped state kind

abbrev pub is_definition : Kind → Bool
is_definition kinds.Defined = true
is_definition _ = false

abbrev pub definition_of : List Piece → Meaning
definition_of line = record { name = nth_text 1 line; text = if ends_at 3 line then nth_text 2 line else [] }

-- a macro is defined by the line
abbrev pub defines : State → Kind → Bool
defines state kind = state.skipped == 0 && is_definition kind

-- the macros that are defined behind a line, each with its body of one token
abbrev pub names_behind : List Meaning → State → Kind → List Piece → List Meaning
names_behind names state kind line =
    if defines state kind then names ++ (definition_of line ∷ []) else names

-- the line goes with its condition
abbrev pub is_turn : Kind → Bool
is_turn kinds.Chosen = true
is_turn kinds.Denied = true
is_turn kinds.Otherwise = true
is_turn kinds.Ended = true
is_turn _ = false
