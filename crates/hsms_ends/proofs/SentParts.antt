-- Bytes that are sent in parts.
use Rattle.std.proofs.Common.{◌≡◌, ◌++◌, ℕ, List, Ok, Err, ap, ◌∙◌, subst}
use Rattle.std.specs.Prelude.{Result}
use Rattle.hsms_frame.specs.CallCounts.{next_count}
use Rattle.hsms_ends.specs.declared.fault.LinkFault.{LinkFault}
use Rattle.hsms_ends.specs.Link.{LinkState, ProcessesInput, processed_nothing}
use Rattle.hsms_ends.specs.InnerOutput.{SendsAll}
use Rattle.hsms_ends.proofs.ReceivedBytes.{grows_then, front_of_first, front_of_second, processes_then}

pub processes_none_then : (old mid new : LinkState) → ProcessesInput old mid processed_nothing → ProcessesInput mid new processed_nothing → ProcessesInput old new processed_nothing
processes_none_then old mid new h k = processes_then old mid new processed_nothing processed_nothing h k

pub sends_then : (r : Result (Unit {0}) LinkFault) (old mid new : LinkState) (a b : List ℕ) → SendsAll old mid a (Ok tt) → SendsAll mid new b r → SendsAll old new (a ++ b) r
sends_then (Ok _) old mid new a b h k = (processes_none_then old mid new h.0 k.0, grows_then old.taken mid.taken new.taken a b h.1 k.1, k.2 ∙ h.2)
sends_then (Err _) old mid new a b h k = (processes_none_then old mid new h.0 k.0, front_of_second old.taken mid.taken new.taken a b h.1 k.1, k.2 ∙ ap next_count h.2)

pub sends_first : (fault : LinkFault) (old new : LinkState) (a b : List ℕ) → SendsAll old new a (Err fault) → SendsAll old new (a ++ b) (Err fault)
sends_first fault old new a b h = (h.0, front_of_first old.taken new.taken a b h.1, h.2)

pub sends_along : (r : Result (Unit {0}) LinkFault) (old new : LinkState) (a b : List ℕ) → a ≡ b → SendsAll old new a r → SendsAll old new b r
sends_along r old new a b e h = let P : List ℕ → Type 0 = λ l. SendsAll old new l r in subst P e h
