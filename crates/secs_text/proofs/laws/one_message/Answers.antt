use Rattle.secs_text.proofs.Results.{one_message_law, one_list_law}
use Rattle.secs_text.proofs.laws.one_message.Goals as goal

pub returns : goal.returns
returns c = record { message = one_message_law; list = one_list_law }
