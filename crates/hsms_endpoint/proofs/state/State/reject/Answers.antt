use Rattle.std.proofs.Common.{ap, ◌∙◌}
use Rattle.hsms_endpoint.specs.Frame.{bare}
use Rattle.hsms_endpoint.proofs.Acts.{then_ok}
use Rattle.hsms_endpoint.proofs.Controls.{reject_valid, reject_settles}
use Rattle.hsms_endpoint.proofs.state.State.reject.Goals as goal

pub log-requires : goal.log-requires
log-requires c = reject_valid c.args.self.now c.requires c.args.header c.args.reason c.bare-frame.result (c.bare-frame.ensures ∙ ap bare c.reject_of.ensures)

pub returns : goal.returns
returns c =
    then_ok c.log.result c.log.ensures
    (λ sent. reject_settles c.args.self.now c.requires c.args.header c.args.reason c.log.new.self c.bare-frame.result c.args.entries.now.items c.log.new.entries.items (c.bare-frame.ensures ∙ ap bare c.reject_of.ensures) sent)
