use Rattle.std.proofs.Common.{◌∙◌, ap, rules}
use Rattle.std.specs.Prelude.{option_map}
use Rattle.cli_filters.proofs.FramedMessages.{stays_refused, one_framed}
use Rattle.cli_filters.proofs.frames.FramesReceiver.take.Goals as goal

pub returns-then-is_some : goal.returns-then-is_some
returns-then-is_some c = λ kept item given encoded_bytes old.
    let s = c.args.self.now in
    let f = s.encoding in
    (old.0, stays_refused f.device f.max f.system s.next s.output.items given s.refusal _ (search rules) old.1)

pub returns : goal.returns
returns c = λ kept item given encoded_bytes old.
    let s = c.args.self.now in
    let f = s.encoding in (
      old.0,
      one_framed f.device f.max f.system s.next s.output.items given s.refusal c.args.head item c.in-Some.text.now c.push_octets.new.output.items c.data_header-header.result _ (search rules)
          (encoded_bytes ∙ ap (option_map (λ t. t.now)) c.in-Some.is) (search rules) c.data_header-header.ensures c.in_ok-push_octets.ensures (search rules) old.1,
    )
