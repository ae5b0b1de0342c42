-- What only contracts of private functions use, besides the definitions of `Writing`.
use Rattle.std.specs.Prelude.{◌≡◌, ◌++◌, ℕ, List, [], ◌∷◌, Result, Ok, Err, codes, decimal}
use Rattle.hsms_frame.specs.CallCounts.{next_count}
use Rattle.hsms_frame.specs.Io.{Grows, GrowsByFront, SinkState}
use Rattle.hsms_machine.specs.Settings.{Parameters}
use Rattle.hsms_log.specs.LineFormat.{role_word, link_word}

-- Holds if all of the bytes were written, and nothing failed.
abbrev pub HasWritten : SinkState → SinkState → List ℕ → Type 0
HasWritten old new octets = Grows old.written new.written octets × (new.failures ≡ old.failures)

-- Holds if a prefix of the bytes was written, and then the sink failed.
abbrev pub HasFailed : SinkState → SinkState → List ℕ → Type 0
HasFailed old new octets = GrowsByFront old.written new.written octets × (new.failures ≡ next_count old.failures)

-- For private contracts: holds if all bytes were written or the sink failed, by the result.
abbrev pub Writes : {F : Type 0} → Result (Unit {0}) F → SinkState → SinkState → List ℕ → Type 0
Writes (Ok _) old new octets = HasWritten old new octets
Writes (Err _) old new octets = HasFailed old new octets

-- A decimal number after a space.
abbrev pub spaced : ℕ → List ℕ
spaced n = 32 ∷ decimal n

-- The first word of a first line, and its version.
abbrev pub version_text : ℕ → List ℕ
version_text version = codes "hsms-log" ++ spaced version

-- The two words after the version, each after a space.
abbrev pub words_of : Parameters → List ℕ
words_of s = 32 ∷ (role_word s.role ++ 32 ∷ link_word s.link)

-- A first line before its numbers.
abbrev pub opening_of : Parameters → List ℕ
opening_of s = version_text s.version ++ words_of s

-- The numbers of a first line.
abbrev pub numbers_of : Parameters → List ℕ
numbers_of s = s.device ∷ s.t3 ∷ s.t6 ∷ s.t7 ∷ s.t8 ∷ s.max ∷ s.depth ∷ []
