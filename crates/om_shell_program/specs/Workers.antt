-- A parse with a number of workers.
use Rattle.std.specs.Prelude.{◌≡◌, ℕ, List, Some, pos, codes}
use Rattle.clap.specs.Words.{found_of, one_text, without_minus}
use Rattle.clap.specs.Values.{IsSignedIn}
use Rattle.clap.specs.declared.parser.matches.ArgMatches.{ArgMatches}

-- the text behind `--threads`, or its default, is that of a number from 1 to 32
abbrev pub GivesWorkers : ArgMatches → Type 0
GivesWorkers m = (text : List ℕ) × (one_text (found_of m) (codes "threads") ≡ Some (without_minus text))
    × IsSignedIn (pos 1) (pos 32) text
