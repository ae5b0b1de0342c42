-- What contracts see of the link in memory.
use Rattle.std.specs.Prelude.{◌≡◌, ◌-◌, ◌^◌, ◌++◌, zero, suc, ℕ, Bool, List, [], ◌∷◌, Option, Some, None, length, take, drop, get_or, min, nat_lt, if◌then◌else◌}
use Rattle.hsms_ends.specs.declared.link.Got.{Got}
use Rattle.hsms_ends.specs.declared.link.Got.TheVariants.{Octets, Quiet, Closed}
use Rattle.hsms_ends.specs.Link.{LinkState}

-- Empty waits at the start are skipped.
abbrev pub pass_over : List (Option (List ℕ)) → List (Option (List ℕ))
pass_over [] = []
pass_over (None ∷ waits) = None ∷ waits
pass_over (Some [] ∷ waits) = pass_over waits
pass_over (Some (octet ∷ octets) ∷ waits) = Some (octet ∷ octets) ∷ waits

-- The result of a wait by the first entry that is not skipped, and the waits that then remain. At most `piece` of its
-- bytes are written to the start of a buffer.
abbrev pub Answers : List (Option (List ℕ)) → ℕ → List ℕ → Got → List (Option (List ℕ)) → Type 0
Answers [] piece into got after = (got ≡ Closed) × (after ≡ [])
Answers (None ∷ waits) piece into got after = (got ≡ Quiet) × (after ≡ waits)
Answers (Some octets ∷ waits) piece into got after =
    (n : ℕ) × (n ≡ min (min (length octets) (length into)) piece) × (got ≡ Octets n)
    × (take n into ≡ take n octets) × (after ≡ Some (drop n octets) ∷ waits)

-- A link in memory: the times of its clock, and how often the clock was read; what its peer sends; the bytes that it
-- sent, and the remaining capacity; the maximum number of bytes per call. It also counts its calls to wait or to
-- send, and has the number of such calls after which each fails. Then come the number of waits that returned, how
-- many of them returned `Closed`, and whether the last one did; the number of failures; and the time until which the
-- last wait was to wait.
pub record ScriptState : Type 0 where
  pub moments : List ℕ
  pub asked : ℕ
  pub given : List ℕ
  pub left : List (Option (List ℕ))
  pub taken : List ℕ
  pub room : List ℕ
  pub piece : ℕ
  pub fuse : ℕ
  pub calls : ℕ
  pub waits : ℕ
  pub closes : ℕ
  pub closed : Bool
  pub failures : ℕ
  pub until : Option ℕ

-- The time that call k of `now` returns, counted from 0. The last time repeats if there are no more; without times it
-- is 0.
abbrev pub moment_at : List ℕ → ℕ → ℕ
moment_at moments k = get_or moments (min k (length moments - 1)) 0

-- The first k times that `now` returns.
abbrev pub moments_of : List ℕ → ℕ → List ℕ
moments_of moments zero = []
moments_of moments (suc k) = moments_of moments k ++ moment_at moments k ∷ []

-- The same as for any link. It records its times while `now` was called fewer than 2^64 - 1 times.
abbrev pub recorded_of : ScriptState → LinkState
recorded_of s = record {
  moments = if nat_lt s.asked (2 ^ 64 - 1) then Some (moments_of s.moments s.asked) else None;
  given = Some s.given;
  taken = Some s.taken;
  waits = s.waits;
  closes = s.closes;
  closed = s.closed;
  failures = s.failures;
}
