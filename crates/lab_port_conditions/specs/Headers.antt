-- What headers define, as gcc has them.
use Rattle.std.specs.Prelude.{ℕ, Bool, List}
use Rattle.std.specs.Str.{bytes_eq}
use Rattle.std.specs.List.{list_any}
use Rattle.lab_port_conditions.specs.declared.header.TheConstants.{HEADERS, NAMES}

-- the macros of the header with this name before its `.h` are known
abbrev pub is_header : List ℕ → Bool
is_header name = list_any (λ next. bytes_eq next.now name) HEADERS

-- one of these headers may define it, or the compiler does
abbrev pub is_of_header : List ℕ → Bool
is_of_header name = list_any (λ next. bytes_eq next.now name) NAMES
