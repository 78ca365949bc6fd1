-- What a session writes, and the view that it leaves.
use Rattle.std.specs.Prelude.{ℕ, List, ◌++◌, Option}

pub record Transcript (M : Type 0) : Type 0 where
  pub text : List ℕ
  -- none for a source that is refused
  pub view : Option M

-- a text, and then a transcript
abbrev pub after_text : {M : Type 0} → List ℕ → Transcript M → Transcript M
after_text text rest = record { text = text ++ rest.text; view = rest.view }
