-- What both ends of a session that was running before the capture have sent since it began.
use Rattle.std.specs.Prelude.{◌++◌, ◌∷◌, List, []}
use Rattle.capture_tcp.specs.declared.packet.Side.{Side}
use Rattle.capture_tcp.specs.declared.packet.Side.TheVariants.{Active, Passive}
use Rattle.hsms_frame.specs.declared.header.Header.{Header}
use Rattle.capture_midstream.specs.Requests.{KnowsOf}
use Rattle.cli_capture.specs.declared.pending_requests.Said.{Said}

-- the messages of each end
pub record Spoken : Type 0 where
  pub active : List Header
  pub passive : List Header

abbrev pub nothing_spoken : Spoken
nothing_spoken = record { active = []; passive = [] }

-- those that were sent to an end, by the other one
abbrev pub spoken_to : Side → Spoken → List Header
spoken_to Active spoken = spoken.passive
spoken_to Passive spoken = spoken.active

-- an end sent a further message
abbrev pub with_message : Side → Header → Spoken → Spoken
with_message Active message spoken = record { active = spoken.active ++ message ∷ []; passive = spoken.passive }
with_message Passive message spoken = record { active = spoken.active; passive = spoken.passive ++ message ∷ [] }

-- what is known of each end's requests are those among its messages
abbrev pub KnowsBoth : Spoken → Said → Type 0
KnowsBoth spoken said = KnowsOf spoken.active said.active × KnowsOf spoken.passive said.passive
