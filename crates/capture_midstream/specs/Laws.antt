-- What holds of the place at which a direction begins, whatever the code does.
use Rattle.std.specs.Prelude.{◌≡◌, ◌+◌, ◌++◌, ℕ, true, List, [], ◌∷◌, length, drop, flat_map, Some}
use Rattle.secs_item.specs.Encoding.{IsText}
use Rattle.hsms_frame.specs.Frame.{Frame, frame_octets, IsFrame, IsOctets}
use Rattle.capture_midstream.specs.declared.sync_point.Beginning.{Beginning}
use Rattle.capture_midstream.specs.declared.sync_point.Beginning.TheVariants.{Sure, Open}
use Rattle.capture_midstream.specs.declared.message_check.Found.TheVariants.{Whole}
use Rattle.capture_midstream.specs.declared.session_filter.Session.{Session}
use Rattle.capture_midstream.specs.MessageCheck.{FrontAs, is_of}
use Rattle.capture_midstream.specs.SyncPoint.{BeginsAs, BeginsAtEnd, CountsAs, most}

-- ---- what stands whole is a message

-- a message whose header is one of the session, and whose text is readable
pub record IsMessageOf (s : Session) (f : Frame) : Type 0 where
  pub fits : IsFrame f
  pub header : is_of s f.header (10 + length f.text) ≡ true
  pub text : IsText s.depth f.text

-- Where a message of the session stands it is found,
abbrev pub MessagesAreFound : Type 0
MessagesAreFound =
    (s : Session) (f : Frame) (more : List ℕ) → IsMessageOf s f → FrontAs s (frame_octets f ++ more) (Whole (14 + length f.text))

-- and what is found to stand whole is one.
abbrev pub FoundAreMessages : Type 0
FoundAreMessages =
    (s : Session) (octets : List ℕ) (size : ℕ) → IsOctets octets → FrontAs s octets (Whole size)
    → (f : Frame) × (more : List ℕ) × IsMessageOf s f × (octets ≡ frame_octets f ++ more) × (size ≡ 14 + length f.text)

-- messages of the session
abbrev pub AreMessagesOf : Session → List Frame → Type 0
AreMessagesOf s [] = Unit {0}
AreMessagesOf s (f ∷ fs) = IsMessageOf s f × AreMessagesOf s fs

-- so many messages of the session stand one behind another at the front
abbrev pub HasMessages : Session → ℕ → List ℕ → Type 0
HasMessages s count octets =
    (fs : List Frame) × (more : List ℕ) × (length fs ≡ count) × AreMessagesOf s fs × (octets ≡ flat_map frame_octets fs ++ more)

-- A direction surely begins where three messages of the session stand,
abbrev pub SureIsThree : Type 0
SureIsThree =
    (s : Session) (octets : List ℕ) (from place : ℕ) → IsOctets octets → BeginsAs s octets from (Sure place) → HasMessages s 3 (drop place octets)

-- and where they stand no place is refused.
abbrev pub ThreeAreSure : Type 0
ThreeAreSure = (s : Session) (octets : List ℕ) (place : ℕ) → HasMessages s 3 (drop place octets) → CountsAs s most (drop place octets) (Some 3)

-- ---- one answer

abbrev pub OneBeginning : Type 0
OneBeginning =
    (s : Session) (octets : List ℕ) (from : ℕ) (a b : Beginning) → BeginsAs s octets from a → BeginsAs s octets from b → a ≡ b

abbrev pub OneBeginningAtEnd : Type 0
OneBeginningAtEnd =
    (s : Session) (octets : List ℕ) (from a b : ℕ) → BeginsAtEnd s octets from a → BeginsAtEnd s octets from b → a ≡ b

-- ---- octets that come one after another

-- What was sure stays so, whatever follows.
abbrev pub SureStays : Type 0
SureStays =
    (s : Session) (octets more : List ℕ) (from place : ℕ) → BeginsAs s octets from (Sure place)
    → BeginsAs s (octets ++ more) from (Sure place)

-- Where more octets come, who looks from the place on that was open finds what one finds who looks at all of them,
abbrev pub LooksOn : Type 0
LooksOn =
    (s : Session) (octets more : List ℕ) (from place : ℕ) (beginning : Beginning) → BeginsAs s octets from (Open place)
    → BeginsAs s (octets ++ more) place beginning → BeginsAs s (octets ++ more) from beginning

-- and so where they end.
abbrev pub EndsOn : Type 0
EndsOn =
    (s : Session) (octets : List ℕ) (from place last : ℕ) → BeginsAs s octets from (Open place)
    → BeginsAtEnd s octets place last → BeginsAtEnd s octets from last

-- A direction that surely begins does so at the same place where no octet follows.
abbrev pub SureAtEnd : Type 0
SureAtEnd =
    (s : Session) (octets : List ℕ) (from place last : ℕ) → BeginsAs s octets from (Sure place)
    → BeginsAtEnd s octets from last → last ≡ place
