use Rattle.lab_explore_words.proofs.ObjectsApart.{object_apart}
use Rattle.lab_explore_words.proofs.laws.distinct_objects.Goals as goal

pub returns : goal.returns
returns c = object_apart
