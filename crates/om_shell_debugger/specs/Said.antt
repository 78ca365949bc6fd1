-- What a command says, and what it leaves of the book.
use Rattle.std.specs.Prelude.{ℕ, List, cond}
use Rattle.om_book.specs.Books.{BookView, is_full}
use Rattle.om_shell_commands.specs.Steps.{full_text}

pub record Said : Type 0 where
  pub text : List ℕ
  pub book : BookView

-- `full` alone where there is no room for a record
abbrev pub unless_full : BookView → Said → Said
unless_full b said = cond (is_full b) (record { text = full_text; book = b }) said
