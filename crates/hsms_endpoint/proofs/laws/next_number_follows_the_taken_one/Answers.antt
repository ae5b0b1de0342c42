use Rattle.hsms_endpoint.proofs.Single.{next_number_follows_the_taken_one}
use Rattle.hsms_endpoint.proofs.laws.next_number_follows_the_taken_one.Goals as goal

pub returns : goal.returns
returns c = next_number_follows_the_taken_one
