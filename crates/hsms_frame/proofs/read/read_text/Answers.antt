use Rattle.std.proofs.Common.{rules, ◌≡◌}
use Rattle.std.specs.Vec.{vec_len}
use Rattle.hsms_frame.proofs.Buffers.{refilled_front}
use Rattle.hsms_frame.proofs.read.read_text.Goals as goal

pub returns-clause-answer : goal.returns-clause-answer
returns-clause-answer g c = λ input known_input.
    let grown : vec_len c.resize.new.self ≡ c.args.size = search rules in
    refilled_front _ _ _ _ _ _ _ c.in_ok-read_all.ensures.len c.deref_mut.ensures.len grown
    (c.in_ok-read_all.ensures.answer input known_input)
