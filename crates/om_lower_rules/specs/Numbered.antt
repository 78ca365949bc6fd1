-- What the instructions of a body name by numbers: a site without its code and its lists of PICK.
use Rattle.std.specs.Prelude.{ℕ, List, Bool}
use Rattle.om_code.specs.declared.raw.Line.{Line}
use Rattle.om_scope_tree.specs.ResolvedTree.{ResolvedFunctionTree, ResolvedTree}
use Rattle.om_lower_rules.specs.Mentions.{formats_of, locks_of}
use Rattle.om_lower_rules.specs.Rows.{Site}

pub record Numbered : Type 0 where
  -- the variables of its function that the body has, by their slots
  pub slots : List ℕ
  -- the functions of the program, by their numbers
  pub functions : List ResolvedFunctionTree
  -- the formats of the program, and the names of its critical regions, by their numbers
  pub formats : List (List ℕ)
  pub locks : List (List ℕ)
  -- whether the function in which it stands is `main`
  pub is_main : Bool

-- with its code, and the lists of PICK of the program
abbrev pub site_with : Numbered → List Line → (picks : List (List ℕ)) → Site
site_with names code picks = record {
  code = code;
  slots = names.slots;
  functions = names.functions;
  formats = names.formats;
  locks = names.locks;
  picks = picks;
  is_main = names.is_main;
}

-- those of a body of a tree that has these variables
abbrev pub numbered_in : ResolvedTree → (slots : List ℕ) → (is_main : Bool) → Numbered
numbered_in tree slots is_main = record {
  slots = slots;
  functions = tree.functions;
  formats = formats_of tree;
  locks = locks_of tree;
  is_main = is_main;
}
