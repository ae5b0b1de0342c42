use Rattle.secs_text.proofs.Reasons.{never_memory_of}
use Rattle.secs_text.proofs.laws.no_fault_is_memory.Goals as goal

pub returns : goal.returns
returns c = never_memory_of
