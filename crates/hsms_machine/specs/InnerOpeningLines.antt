-- What only contracts of private functions use, besides the definitions of `OpeningLines`.
use Rattle.std.specs.Prelude.{Bool, true, ◌&&◌, ◌||◌, not}
use Rattle.hsms_machine.specs.declared.entry.Act.{Act}
use Rattle.hsms_machine.specs.declared.entry.Act.TheVariants.{Sent as ActSent, Taken as ActTaken}
use Rattle.hsms_machine.specs.declared.view.View.{View}
use Rattle.hsms_machine.specs.Message.{is_request}
use Rattle.hsms_machine.specs.InnerOpeningOrder.{uses}

-- True unless a request has the system bytes of an open transaction of its direction.
abbrev pub is_fresh : View → Act → Bool
is_fresh view (ActSent header) =
    not (is_request header) || (not (uses header.system view.sent_data) && not (uses header.system view.sent_control))
is_fresh view (ActTaken header) =
    not (is_request header) || (not (uses header.system view.taken_data) && not (uses header.system view.taken_control))
is_fresh view act = true
