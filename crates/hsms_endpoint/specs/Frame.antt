-- The frames that an endpoint sends (SEMI E37, section 8; SEMI E5 for replies, the abort and stream 9).
use Rattle.std.specs.Prelude.{ℕ, ◌+◌, ◌==◌, Bool, true, false, List, [], ◌∷◌, length, nat_le, Option, Some, None, if◌then◌else◌}
use Rattle.secs_item.specs.Item.{Value, nest}
use Rattle.secs_item.specs.ShortestEncoding.{short}
use Rattle.secs_text.specs.Content.{Content}
use Rattle.hsms_frame.specs.declared.header.Header.{Header}
use Rattle.hsms_frame.specs.Frame.{Frame}
use Rattle.hsms_frame.specs.Header.{header_octets, stream_of, wait_of}
use Rattle.hsms_frame.specs.Build.{data_header_of, control_header_of, reject_header_of}
use Rattle.hsms_machine.specs.Settings.{Parameters}

-- ---- control

abbrev pub bare : Header → Frame
bare header = record { header = header; text = [] }

abbrev pub select_req : ℕ → Frame
select_req system = bare (control_header_of 1 0 system)

abbrev pub select_rsp : Header → ℕ → Frame
select_rsp request status = bare (control_header_of 2 status request.system)

abbrev pub linktest_req : ℕ → Frame
linktest_req system = bare (control_header_of 5 0 system)

abbrev pub linktest_rsp : Header → Frame
linktest_rsp request = bare (control_header_of 6 0 request.system)

abbrev pub separate_req : ℕ → Frame
separate_req system = bare (control_header_of 9 0 system)

abbrev pub reject_req : Header → ℕ → Frame
reject_req header reason = bare (reject_header_of header reason)

-- ---- data

-- The text of an item is its shortest encoding; no text is longer than a length field can count.
abbrev pub text_of : Option Value → Option (List ℕ)
text_of None = Some []
text_of (Some item) = short item

abbrev pub is_within_depth : ℕ → Option Value → Bool
is_within_depth depth None = true
is_within_depth depth (Some item) = nat_le (nest item) depth

abbrev pub is_within_max : ℕ → List ℕ → Bool
is_within_max max text = nat_le (10 + length text) max

-- The text of an item that is within the depth, the limit for an item and the maximum frame size.
abbrev pub fitting : ℕ → Option (List ℕ) → Option (List ℕ)
fitting max None = None
fitting max (Some text) = if is_within_max max text then Some text else None

abbrev pub fitting_text : Parameters → Option Value → Option (List ℕ)
fitting_text settings item =
    if is_within_depth settings.depth item then fitting settings.max (text_of item) else None

-- The message with this text.
abbrev pub message_frame : Parameters → Content → List ℕ → ℕ → Frame
message_frame settings message text system = record {
  header = data_header_of settings.device message.stream message.function message.wait system;
  text = text;
}

-- SxF0, which aborts the primary's transaction.
abbrev pub abort_of : Parameters → Header → Frame
abort_of settings primary = bare (data_header_of settings.device (stream_of primary) 0 false primary.system)

abbrev pub reply_with : Parameters → Header → Option (List ℕ) → Frame
reply_with settings primary None = abort_of settings primary
reply_with settings primary (Some text) = record {
  header = data_header_of settings.device (stream_of primary) (primary.byte3 + 1) false primary.system;
  text = text;
}

-- The primary's stream and its function plus one with the item. SxF0 if there is no such function, or if the item
-- exceeds a limit.
abbrev pub reply_of : Parameters → Header → Option Value → Frame
reply_of settings primary item =
    if primary.byte3 == 255 then abort_of settings primary
    else reply_with settings primary (fitting_text settings item)

-- The item of stream 9: a B item of the ten bytes of the header in error.
abbrev pub header_item : Header → List ℕ
header_item header = 33 ∷ 10 ∷ header_octets header

abbrev pub warning : Parameters → ℕ → Header → ℕ → Frame
warning settings function header system = record {
  header = data_header_of settings.device 9 function false system;
  text = header_item header;
}

-- The message that a data frame with this item as its text encodes.
abbrev pub message_of : Header → Option Value → Content
message_of header item =
    record { stream = stream_of header; function = header.byte3; wait = wait_of header; item = item }
