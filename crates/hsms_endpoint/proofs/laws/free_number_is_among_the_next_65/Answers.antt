use Rattle.hsms_endpoint.proofs.Numbers.{a_free_number_is_among_the_next_65, first_free_is_one}
use Rattle.hsms_endpoint.proofs.laws.free_number_is_among_the_next_65.Goals as goal

pub returns-clause-some : goal.returns-clause-some
returns-clause-some c = a_free_number_is_among_the_next_65

pub returns-clause-one : goal.returns-clause-one
returns-clause-one c = first_free_is_one
