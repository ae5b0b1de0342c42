use Rattle.capture_midstream.proofs.Staying.{looks_on, ends_on}
use Rattle.capture_midstream.proofs.laws.places_are_passed_once.Goals as goal

pub returns-clause-more : goal.returns-clause-more
returns-clause-more c = looks_on

pub returns-clause-end : goal.returns-clause-end
returns-clause-end c = ends_on
