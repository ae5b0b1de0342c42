use Rattle.std.proofs.Common.{length, ◌-◌, ◌≡◌, ◌≤◌, None, get_or, Vec, Global, ℕ, List}
use Rattle.hsms_ends.specs.ScriptedLink.{pass_over}
use Rattle.hsms_ends.specs.InnerScriptedLink.{given_of, left_of, wait_octets}
use Rattle.hsms_ends.proofs.peer.next_wait.Given as goal

-- The bytes already returned and the remaining waits are unchanged. The index is at most the number of waits.
abbrev pub invariant-loop-place : goal.invariant-loop-place
invariant-loop-place l =
    let items : Vec ℕ Global → List ℕ = λ v. v.items in
    (l.place ≤ length l.waits)
    × (l.within ≤ length (wait_octets items (get_or l.waits l.place None)))
    × (given_of items l.waits l.place l.within ≡ given_of items l.waits l.fn.place l.fn.within)
    × (pass_over (left_of items l.waits l.place l.within) ≡ pass_over (left_of items l.waits l.fn.place l.fn.within))

abbrev pub decreases-loop-place : goal.decreases-loop-place
decreases-loop-place l = length l.waits - l.place
