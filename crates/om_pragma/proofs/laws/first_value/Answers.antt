use Rattle.om_pragma.proofs.Values.{is_first, is_found, is_absent}
use Rattle.om_pragma.proofs.laws.first_value.Goals as goal

pub returns : goal.returns
returns c = record {
  only = λ tokens inside place e. is_first place tokens inside e;
  found = λ tokens inside place first. is_found place tokens inside first;
  absent = λ tokens inside place e. is_absent place tokens e inside;
}
