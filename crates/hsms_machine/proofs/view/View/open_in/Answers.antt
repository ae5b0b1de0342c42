use Rattle.std.proofs.Common.{◌≡◌, sym, false, true}
use Rattle.std.proofs.lemmas.List.{append-nil}
use Rattle.hsms_machine.specs.Message.{is_data_request, is_control_request}
use Rattle.hsms_machine.proofs.Steps.{data_not_control}
use Rattle.hsms_machine.proofs.view.View.open_in.Goals as goal

pub returns-in_ok-push-clause-control : goal.returns-in_ok-push-clause-control
returns-in_ok-push-clause-control c =
    let opens : is_data_request c.args.message ≡ true = cc in
    let other : is_control_request c.args.message ≡ false = data_not_control c.args.message opens in
    rw other (sym (append-nil _))
