-- What is read of a file.
use Rattle.std.specs.Prelude.{◌≡◌, List, ℕ, Option}
use Rattle.std.specs.Io.KnownBytes.{Consumes, IsAtEnd}
use Rattle.om_shell.specs.Lines.{kept}

-- these are all the bytes that a reader had
pub record ReadsAll (old new : Option (List ℕ)) (bytes : List ℕ) : Type 0 where
  pub consumes : Consumes old new bytes
  pub at_end : IsAtEnd new

-- all bytes that a reader had were read, and this is what is kept of them as of a source
pub record ReadsSource (old new : Option (List ℕ)) (bytes : List ℕ) : Type 0 where
  pub all : List ℕ
  pub consumes : Consumes old new all
  pub at_end : IsAtEnd new
  pub is : bytes ≡ kept all
