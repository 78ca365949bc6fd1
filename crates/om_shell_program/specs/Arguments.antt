-- The arguments of the command line: how many workers there are, 2 by default, and the file of the source.
use Rattle.std.specs.Prelude.{◌≡◌, ◌≤◌, false, Some, None, pos, codes}
use Rattle.clap.specs.Facts.{WantsDefault, least_values}
use Rattle.clap.specs.Built.{IsPlainArg}
use Rattle.clap.specs.declared.builder.action.ArgAction.TheVariants.{Set}
use Rattle.clap.specs.declared.builder.arg.Arg.{Arg}
use Rattle.clap.specs.declared.builder.value_parser.ValueParser.TheVariants as vp

-- `--threads N`, with a default, where N is a number from 1 to 32
pub record IsThreads (a : Arg) : Type 0 where
  pub id : a.id.now ≡ codes "threads"
  pub plain : IsPlainArg a
  pub local : a.global ≡ false
  pub wants : WantsDefault a
  pub set : a.action ≡ Some Set
  pub delim : a.val_delim ≡ None
  pub least : 1 ≤ least_values a
  pub parser : a.value_parser ≡ Some (vp.Signed (pos 1) (pos 32))

pub record IsFile (a : Arg) : Type 0 where
  pub id : a.id.now ≡ codes "file"
  pub plain : IsPlainArg a
  pub local : a.global ≡ false
