-- Whether a log receives data messages.
use Rattle.std.specs.Prelude.{Bool, count_by, nat_lt}
use Rattle.hsms_machine.specs.Message.{is_data}
use Rattle.hsms_compare_repair.specs.declared.numbered_frame.NumberedFrame.{NumberedFrame}
use Rattle.hsms_compare_repair.specs.declared.pair.LogFrames.{LogFrames}

abbrev pub is_data_frame : NumberedFrame → Bool
is_data_frame one = is_data one.frame.header

-- True if a log receives a data message.
abbrev pub has_data : LogFrames → Bool
has_data log = nat_lt 0 (count_by is_data_frame log.received.items)
