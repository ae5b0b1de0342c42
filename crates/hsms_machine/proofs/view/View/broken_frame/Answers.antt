use Rattle.std.proofs.Common.{◌≡◌, false, is_some}
use Rattle.hsms_machine.specs.EventParts.{frame_of}
use Rattle.hsms_machine.specs.Rule.{FrameBreaks, format_rules, transaction_rules}
use Rattle.hsms_machine.specs.ViewRules.{facts_of}
use Rattle.hsms_machine.proofs.First.{first_after}
use Rattle.hsms_machine.proofs.view.View.broken_frame.Goals as goal

pub returns : goal.returns
returns c =
    let none : is_some c.broken_format-format.result ≡ false = cc in
    first_after (FrameBreaks (facts_of c.args.self.now) c.args.self.now.settings c.args.flow (frame_of c.args.message c.args.text.now)) format_rules
    transaction_rules c.broken_format-format.result c.broken_transaction.result none
    c.broken_format-format.ensures c.broken_transaction.ensures
