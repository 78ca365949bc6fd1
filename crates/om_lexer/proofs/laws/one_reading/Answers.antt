use Rattle.om_lexer.proofs.OneReading.{one_token_list, tokens_no_fault, one_fault}
use Rattle.om_lexer.proofs.laws.one_reading.Goals as goal

pub returns : goal.returns
returns c = record { one_token_list = one_token_list; tokens_no_fault = tokens_no_fault; one_fault = one_fault }
