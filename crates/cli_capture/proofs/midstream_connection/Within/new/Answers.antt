use Rattle.std.proofs.Common.{rules, subst}
use Rattle.capture_midstream.specs.declared.synthetic_handshake.Handshake.{Handshake}
use Rattle.cli_capture.specs.InnerMidstreamConnection.{Opens}
use Rattle.cli_capture.proofs.Opening.{begins_within}
use Rattle.cli_capture.proofs.midstream_connection.Within.new.Goals as goal

pub returns-clause-begins : goal.returns-clause-begins
returns-clause-begins c =
    let first = c.new-connection.result in
    let one = c.in_ok-connection.connection in
    let two = c.in_ok-connection-2.connection in
    let three = c.in_ok-opened.field-0 in
    begins_within c.args.beginnings.active.number c.args.beginnings.passive.number c.args.start first one two three c.new.result c.new-2.result (search rules) (search rules)
    c.new-connection.ensures.emitted c.new-connection.ensures.times
    (subst (λ (h : Handshake). Opens first h.syn one) c.opening.ensures c.in_ok-connection.ensures.opens)
    (subst (λ (h : Handshake). Opens one h.answer two) c.opening.ensures c.in_ok-connection-2.ensures.opens)
    (subst (λ (h : Handshake). Opens two h.acknowledgement three) c.opening.ensures c.in_ok-opened.ensures.opens) c.new.ensures.items c.new-2.ensures
