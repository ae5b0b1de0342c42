-- What only contracts of private functions use, besides the definitions of `Message`.
use Rattle.std.specs.Prelude.{Bool, ◌||◌}
use Rattle.hsms_frame.specs.Header.{kind_of}
use Rattle.hsms_frame.specs.declared.header.Header.{Header}
use Rattle.hsms_machine.specs.Message.{is_response_kind, is_reject_kind}

-- ---- of a header

-- True for a response or a Reject: no other message ends a transaction.
unfoldable pub may_conclude : Header → Bool
may_conclude header = is_response_kind (kind_of header) || is_reject_kind (kind_of header)
