-- The errors that prevent a message from being sent, and its text. Only private functions use this.
use Rattle.std.specs.Prelude.{◌≡◌, ℕ, ◌%◌, ◌==◌, Bool, ◌&&◌, not, nat_le, List, [], Option, Some, None, if◌then◌else◌}
use Rattle.secs_item.specs.Item.{Value}
use Rattle.secs_item.specs.Encoding.{EncodesTo}
use Rattle.secs_text.specs.Content.{Content}
use Rattle.hsms_machine.specs.ViewRules.{is_selected}
use Rattle.hsms_machine.specs.View.{own_open_of}
use Rattle.hsms_endpoint.specs.declared.state.State.{State}
use Rattle.hsms_endpoint.specs.declared.fault.EndFault.{EndFault}
use Rattle.hsms_endpoint.specs.declared.fault.EndFault.TheVariants.{NotSelected, NotPrimary, Nine, Full, TooDeep}
use Rattle.hsms_endpoint.specs.Frame.{is_within_depth}

-- The first of the message's errors, by whether it has each of them.
abbrev pub hindrance_by : Bool → Bool → Bool → Bool → Bool → Option EndFault
hindrance_by unselected even nine full deep =
    if unselected then Some NotSelected
    else if even then Some NotPrimary
    else if nine then Some Nine
    else if full then Some Full
    else if deep then Some TooDeep
    else None

-- The first error on an established connection, except for a text that is too long.
abbrev pub hindrance_of : State → Content → Option EndFault
hindrance_of end message =
    hindrance_by (not (is_selected end.tracker.phase)) (message.function % 2 == 0) (message.stream == 9)
    (message.wait && nat_le 64 (own_open_of end.tracker)) (not (is_within_depth end.settings.depth message.item))

-- Holds if the bytes encode the item, or there is no item.
abbrev pub IsSpelt : Option Value → List ℕ → Type 0
IsSpelt None octets = octets ≡ []
IsSpelt (Some item) octets = EncodesTo item octets
