use Rattle.capture_tcp.proofs.StreamPrefixes.{front}
use Rattle.capture_tcp.proofs.Sizes.{is_size}
use Rattle.capture_tcp.proofs.laws.front_of_capture.Goals as goal

pub returns-clause-front : goal.returns-clause-front
returns-clause-front c = front

pub returns-clause-sizes : goal.returns-clause-sizes
returns-clause-sizes c = is_size
