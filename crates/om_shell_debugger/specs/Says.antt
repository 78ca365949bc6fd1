-- What is written behind a text, and what is left of a book.
use Rattle.std.specs.Prelude.{◌≡◌, ℕ, Vec}
use Rattle.std.specs.declared.alloc.Global.{Global}
use Rattle.om_book.specs.Books.{BookView}
use Rattle.om_shell_commands.specs.Texts.{Writes}
use Rattle.om_shell_debugger.specs.Said.{Said}

-- what a command says is written behind a text, and the book that it leaves is this one
abbrev pub Says : Said → (old new : Vec ℕ Global) → BookView → Type 0
Says said old new book = Writes said.text old new × (book ≡ said.book)
