use Rattle.std.proofs.Common.{ℕ, List, Err, subst}
use Rattle.std.proofs.lemmas.Result.{err_from_is_err_and}
use Rattle.capture_pcap.specs.declared.block_reader.Format.{Format}
use Rattle.hsms_frame.specs.ReadAhead.{ReadsMore}
use Rattle.capture_pcap.specs.InnerBlockReader.{OpensFor}
use Rattle.capture_pcap.specs.contracts.packet_reader.Packets.{the_view}
use Rattle.capture_pcap.proofs.ReaderSteps.{opening_is_there}
use Rattle.capture_pcap.proofs.BlockSteps.{not_opened, opened, takes_header}
use Rattle.capture_pcap.proofs.packet_reader.Packets.open.Goals as goal

pub returns-in_err-format-clause-opened : goal.returns-in_err-format-clause-opened
returns-in_err-format-clause-opened g c = λ input known_input.
    let p = err_from_is_err_and c.from_residual-in_err-format.result c.from_residual-in_err-format.ensures.1 in
    let left = (g.R.Source.state c.opening.new.source).left in
    rw (p.1, p.2) (not_opened input c.opening.new.ahead c.in_err-format.field-0.0 left
    (subst (λ (l : List ℕ). OpensFor {T = Format × ℕ} (Err c.in_err-format.field-0.0) l input c.opening.new.ahead left) c.in_ok-ahead.ensures (c.in_err-format.ensures.read input known_input))
    c.in_err-format.ensures.found)

pub pass-requires : goal.pass-requires
pass-requires g c = opening_is_there c.opening.new.ahead c.in_ok-format.format c.in_ok-format.size c.in_ok-format.ensures.found

pub returns-clause-opened : goal.returns-clause-opened
returns-clause-opened g c = λ input known_input.
    let left = (g.R.Source.state c.opening.new.source).left in
    opened (the_view (record { reader = c.new-2.result; ahead = c.pass.new.self; last = 0 })) input c.opening.new.ahead c.in_ok-format.format c.in_ok-format.size left
    (subst (λ (l : List ℕ). ReadsMore l input c.opening.new.ahead left) c.in_ok-ahead.ensures (c.in_ok-format.ensures.read input known_input))
    c.in_ok-format.ensures.found c.new-2.ensures c.pass.ensures

pub returns-clause-takes : goal.returns-clause-takes
returns-clause-takes g c = λ input known_input.
    let left = (g.R.Source.state c.opening.new.source).left in
    takes_header (the_view (record { reader = c.new-2.result; ahead = c.pass.new.self; last = 0 })) c.opening.new.ahead input c.in_ok-format.size left
    (subst (λ (l : List ℕ). ReadsMore l input c.opening.new.ahead left) c.in_ok-ahead.ensures (c.in_ok-format.ensures.read input known_input))
    c.pass.ensures
