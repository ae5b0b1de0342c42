-- The headers of the messages that this profile sends (SEMI E37, section 8.3).
use Rattle.std.specs.Prelude.{ℕ, Bool, ◌+◌, ◌==◌, if◌then◌else◌}
use Rattle.hsms_frame.specs.declared.header.Header.{Header}

-- The header of a data message: the device ID, the W bit and the stream, the function.
abbrev pub data_header_of : ℕ → ℕ → ℕ → Bool → ℕ → Header
data_header_of device stream function wait system = record {
  session = device;
  byte2 = if wait then stream + 128 else stream;
  byte3 = function;
  ptype = 0;
  stype = 0;
  system = system;
}

-- The header of a control message except Reject: session ID ffff, and byte 3 if it is used.
abbrev pub control_header_of : ℕ → ℕ → ℕ → Header
control_header_of stype byte3 system = record {
  session = 65535;
  byte2 = 0;
  byte3 = byte3;
  ptype = 0;
  stype = stype;
  system = system;
}

-- The header of a Reject: session ID and system bytes of the rejected message, its PType if that is the reason (2) and
-- otherwise its SType, and the reason.
abbrev pub reject_header_of : Header → ℕ → Header
reject_header_of h reason = record {
  session = h.session;
  byte2 = if reason == 2 then h.ptype else h.stype;
  byte3 = reason;
  ptype = 0;
  stype = 7;
  system = h.system;
}
