use Rattle.lab_explore_words.proofs.ValuesApart.{value_apart}
use Rattle.lab_explore_words.proofs.laws.distinct_values.Goals as goal

pub returns : goal.returns
returns c = value_apart
