-- What stood before a capture, what is left out of it, and what that makes of its messages, one behind another.
use Rattle.std.proofs.Common.{◌≡◌, ◌≤◌, ◌<◌, ◌||◌, ◌++◌, ◌∷◌, max, ℕ, Bool, true, false, cond, List, [], flat_map, length, map, take, drop, Option, Some, None, is_some, Vec, Global, refl, sym, ap, ◌∙◌}
use Rattle.std.proofs.lemmas.Bool.{lt-leb}
use Rattle.std.proofs.lemmas.List.{take_all}
use Rattle.hsms_frame.specs.declared.header.Header.{Header}
use Rattle.capture_tcp.specs.declared.packet.Side.{Side}
use Rattle.capture_tcp.specs.declared.events.Event.{Event}
use Rattle.capture_tcp.specs.declared.events.Event.TheVariants as happens
use Rattle.capture_tcp.specs.declared.events.TimedEvent.{TimedEvent}
use Rattle.capture_log.specs.BothLogs.{reception_of, is_no_message}
use Rattle.capture_log.specs.declared.both_logs.LogResult.{LogResult}
use Rattle.capture_log.specs.declared.both_logs.LogResult.TheVariants as reception
use Rattle.capture_midstream.specs.MessageCheck.{header_of}
use Rattle.capture_midstream.specs.Requests.{is_left_out}
use Rattle.capture_midstream.specs.Assumption.{assumed_by}
use Rattle.capture_midstream.specs.declared.assumption.Assumption.{Assumption}
use Rattle.cli_capture.specs.declared.progress.Progress.TheVariants as progress
use Rattle.cli_capture.specs.ConnectionLog.{and_course, and_logged}
use Rattle.cli_capture.specs.TrackedConnection.{came_up_by, course_by_events, hears_event, is_up_event, logged_by}
use Rattle.cli_capture.specs.MidstreamItems.{Item, leaves_out}
use Rattle.cli_capture.specs.MidstreamLog.{latest_after, packet_left, spoken_behind}
use Rattle.cli_capture.specs.PendingRequests.{Spoken, nothing_spoken, spoken_to, with_message}
use Rattle.cli_capture.specs.Assumptions.{Before, Terms, asked, before_by, before_of, before_or, before_with, decided_by, decided_with, is_decided, is_message_told, is_said, item_by, item_with, items_by, items_of, looked_at, said_by, spoken_with, tells_some, was_selected}
use Rattle.cli_capture.proofs.Logging.{all_logged, can_continue, or_assoc}

-- ---- what both ends have said, and when

pub spoken_more : (most : ℕ) (spoken : Spoken) (xs ys : List TimedEvent)
    → spoken_behind most spoken (xs ++ ys) ≡ spoken_behind most (spoken_behind most spoken xs) ys
spoken_more most spoken [] ys = refl
spoken_more most spoken (h ∷ xs) ys = spoken_more most (spoken_with (said_by most h.event) spoken) xs ys

pub latest_more : (latest : ℕ) (xs ys : List TimedEvent) → latest_after latest (xs ++ ys) ≡ latest_after (latest_after latest xs) ys
latest_more latest [] ys = refl
latest_more latest (h ∷ xs) ys = latest_more (max latest h.time) xs ys

-- ---- items

pub items_more : (t : Terms) (spoken : Spoken) (latest : ℕ) (xs ys : List TimedEvent)
    → items_by t spoken latest (xs ++ ys) ≡ items_by t spoken latest xs ++ items_by t (spoken_behind t.most spoken xs) (latest_after latest xs) ys
unfolding items_by
items_more t spoken latest [] ys = refl
items_more t spoken latest (h ∷ xs) ys =
    ap (λ (zs : List Item). item_with (said_by t.most h.event) t spoken (max latest h.time) h ∷ zs)
    (items_more t (spoken_with (said_by t.most h.event) spoken) (max latest h.time) xs ys)

pub items_one : (t : Terms) (spoken : Spoken) (latest : ℕ) (h : TimedEvent)
    → items_by t spoken latest (h ∷ []) ≡ item_with (said_by t.most h.event) t spoken (max latest h.time) h ∷ []
unfolding items_by
items_one t spoken latest h = refl

pub items_none : (t : Terms) (spoken : Spoken) (latest : ℕ) → items_by t spoken latest [] ≡ []
unfolding items_by
items_none t spoken latest = refl

pub some_more : (xs ys : List Item) → tells_some (xs ++ ys) ≡ (tells_some xs || tells_some ys)
some_more [] ys = refl
some_more (x ∷ xs) ys = ap (λ (b : Bool). is_message_told x || b) (some_more xs ys) ∙ sym (or_assoc (is_message_told x) (tells_some xs) (tells_some ys))

pub or_none : (b : Bool) → (b || false) ≡ b
or_none true = refl
or_none false = refl

pub or_some : (b : Bool) → (b || true) ≡ true
or_some true = refl
or_some false = refl

-- ---- what a message is

-- of some header
pub record IsSaid (most : ℕ) (h : TimedEvent) : Type 0 where
  pub proceeds : reception_of most h.event ≡ reception.Proceeds
  pub said : is_said h.event ≡ true
  pub no_up : is_up_event h.event ≡ false

pub said_goes : (most : ℕ) (h : TimedEvent) (m : Side × Header) → said_by most h.event ≡ Some m → IsSaid most h
said_goes most h m is = by_event h.event refl is
  where
    by_test : (b : Bool) (from : Side) (octets : Vec ℕ Global) → h.event ≡ happens.Message from octets → is_no_message most (length octets.items) ≡ b
        → cond {A = Option (Side × Header)} b None (Some (from, header_of (take 10 (drop 4 octets.items)))) ≡ Some m → IsSaid most h
    by_test true from octets at test e = absurd cc
    by_test false from octets at test e = record {
      proceeds = ap (reception_of most) at ∙ ap (λ (b : Bool). cond b reception.Length reception.Proceeds) test;
      said = ap is_said at;
      no_up = ap is_up_event at;
    }

    by_event : (e : Event) → h.event ≡ e → said_by most e ≡ Some m → IsSaid most h
    by_event happens.Up at e = absurd cc
    by_event (happens.Message from octets) at e = by_test (is_no_message most (length octets.items)) from octets at refl e
    by_event happens.Down at e = absurd cc

-- of none it is an end
pub none_ends : (most : ℕ) (e : Event) → said_by most e ≡ None → is_up_event e ≡ false → (reception_of most e ≡ reception.Proceeds → ⊥)
none_ends most happens.Up is no_up proceeds = absurd cc
none_ends most (happens.Message from octets) is no_up proceeds = by_test (is_no_message most (length octets.items)) is proceeds
  where
    by_test : (b : Bool) → cond {A = Option (Side × Header)} b None (Some (from, header_of (take 10 (drop 4 octets.items)))) ≡ None → cond b reception.Length reception.Proceeds ≡ reception.Proceeds → ⊥
    by_test true e f = absurd cc
    by_test false e f = absurd cc
none_ends most happens.Down is no_up proceeds = absurd cc

-- ---- what stood before

pub parts_of_or : (a b : Bool) → (a || b) ≡ false → (a ≡ false) × (b ≡ false)
parts_of_or true b e = absurd cc
parts_of_or false b e = (refl, e)

pub undecided_before : (most : ℕ) (spoken : Spoken) (hs : List TimedEvent) → decided_by most spoken hs ≡ false → before_by most spoken hs ≡ was_selected
unfolding decided_by before_by
undecided_before most spoken [] e = refl
undecided_before most spoken (h ∷ hs) e = by_said (said_by most h.event) (λ s. undecided_before most s hs) e
  where
    by_found : (found : Option Assumption) (m : Side × Header) → (decided_by most (with_message m.0 m.1 spoken) hs ≡ false → before_by most (with_message m.0 m.1 spoken) hs ≡ was_selected)
        → (is_some found || decided_by most (with_message m.0 m.1 spoken) hs) ≡ false → before_or found m.0 (before_by most (with_message m.0 m.1 spoken) hs) ≡ was_selected
    by_found None m rest e = rest e
    by_found (Some s) m rest e = absurd cc

    by_said : (m : Option (Side × Header)) → ((s : Spoken) → decided_by most s hs ≡ false → before_by most s hs ≡ was_selected)
        → decided_with m spoken (λ later. decided_by most later hs) ≡ false → before_with m spoken (λ later. before_by most later hs) ≡ was_selected
    by_said None rest e = refl
    by_said (Some m) rest e = by_found (assumed_by m.1 (spoken_to m.0 spoken)) m (rest (with_message m.0 m.1 spoken)) e

-- undecided, it is decided by what follows
pub undecided_more : (most : ℕ) (spoken : Spoken) (hs ys : List TimedEvent) → decided_by most spoken hs ≡ false
    → (decided_by most spoken (hs ++ ys) ≡ decided_by most (spoken_behind most spoken hs) ys)
    × (before_by most spoken (hs ++ ys) ≡ before_by most (spoken_behind most spoken hs) ys)
unfolding decided_by before_by
undecided_more most spoken [] ys e = (refl, refl)
undecided_more most spoken (h ∷ hs) ys e = by_said (said_by most h.event) (λ s. undecided_more most s hs ys) e
  where
    by_found : (found : Option Assumption) (m : Side × Header)
        → (decided_by most (with_message m.0 m.1 spoken) hs ≡ false
        → (decided_by most (with_message m.0 m.1 spoken) (hs ++ ys) ≡ decided_by most (spoken_behind most (with_message m.0 m.1 spoken) hs) ys)
        × (before_by most (with_message m.0 m.1 spoken) (hs ++ ys) ≡ before_by most (spoken_behind most (with_message m.0 m.1 spoken) hs) ys))
        → (is_some found || decided_by most (with_message m.0 m.1 spoken) hs) ≡ false
        → ((is_some found || decided_by most (with_message m.0 m.1 spoken) (hs ++ ys)) ≡ decided_by most (spoken_behind most (with_message m.0 m.1 spoken) hs) ys)
        × (before_or found m.0 (before_by most (with_message m.0 m.1 spoken) (hs ++ ys)) ≡ before_by most (spoken_behind most (with_message m.0 m.1 spoken) hs) ys)
    by_found None m rest e = rest e
    by_found (Some s) m rest e = absurd cc

    by_said : (m : Option (Side × Header))
        → ((s : Spoken) → decided_by most s hs ≡ false → (decided_by most s (hs ++ ys) ≡ decided_by most (spoken_behind most s hs) ys)
        × (before_by most s (hs ++ ys) ≡ before_by most (spoken_behind most s hs) ys))
        → decided_with m spoken (λ later. decided_by most later hs) ≡ false
        → (decided_with m spoken (λ later. decided_by most later (hs ++ ys)) ≡ decided_by most (spoken_behind most (spoken_with m spoken) hs) ys)
        × (before_with m spoken (λ later. before_by most later (hs ++ ys)) ≡ before_by most (spoken_behind most (spoken_with m spoken) hs) ys)
    by_said None rest e = absurd cc
    by_said (Some m) rest e = by_found (assumed_by m.1 (spoken_to m.0 spoken)) m (rest (with_message m.0 m.1 spoken)) e

-- decided, it stays so
pub decided_stays : (most : ℕ) (spoken : Spoken) (hs ys : List TimedEvent) → decided_by most spoken hs ≡ true
    → (decided_by most spoken (hs ++ ys) ≡ true) × (before_by most spoken (hs ++ ys) ≡ before_by most spoken hs)
unfolding decided_by before_by
decided_stays most spoken [] ys e = absurd cc
decided_stays most spoken (h ∷ hs) ys e = by_said (said_by most h.event) (λ s. decided_stays most s hs ys) e
  where
    by_found : (found : Option Assumption) (m : Side × Header)
        → (decided_by most (with_message m.0 m.1 spoken) hs ≡ true
        → (decided_by most (with_message m.0 m.1 spoken) (hs ++ ys) ≡ true)
        × (before_by most (with_message m.0 m.1 spoken) (hs ++ ys) ≡ before_by most (with_message m.0 m.1 spoken) hs))
        → (is_some found || decided_by most (with_message m.0 m.1 spoken) hs) ≡ true
        → ((is_some found || decided_by most (with_message m.0 m.1 spoken) (hs ++ ys)) ≡ true)
        × (before_or found m.0 (before_by most (with_message m.0 m.1 spoken) (hs ++ ys)) ≡ before_or found m.0 (before_by most (with_message m.0 m.1 spoken) hs))
    by_found None m rest e = rest e
    by_found (Some s) m rest e = (refl, refl)

    by_said : (m : Option (Side × Header))
        → ((s : Spoken) → decided_by most s hs ≡ true → (decided_by most s (hs ++ ys) ≡ true) × (before_by most s (hs ++ ys) ≡ before_by most s hs))
        → decided_with m spoken (λ later. decided_by most later hs) ≡ true
        → (decided_with m spoken (λ later. decided_by most later (hs ++ ys)) ≡ true)
        × (before_with m spoken (λ later. before_by most later (hs ++ ys)) ≡ before_with m spoken (λ later. before_by most later hs))
    by_said None rest e = (refl, refl)
    by_said (Some m) rest e = by_found (assumed_by m.1 (spoken_to m.0 spoken)) m (rest (with_message m.0 m.1 spoken)) e

-- one message
pub decided_one : (most : ℕ) (spoken : Spoken) (h : TimedEvent) → decided_by most spoken (h ∷ []) ≡ decided_with (said_by most h.event) spoken (λ later. false)
unfolding decided_by
decided_one most spoken h = refl

pub before_one : (most : ℕ) (spoken : Spoken) (h : TimedEvent) → before_by most spoken (h ∷ []) ≡ before_with (said_by most h.event) spoken (λ later. was_selected)
unfolding before_by
before_one most spoken h = refl

pub undecided_none : (most : ℕ) (spoken : Spoken) → decided_by most spoken [] ≡ false
unfolding decided_by
undecided_none most spoken = refl

-- up to so many
pub before_few : (most : ℕ) (hs : List TimedEvent) → length hs ≤ looked_at → before_of most hs ≡ before_by most nothing_spoken hs
before_few most hs few = ap (before_by most nothing_spoken) (take_all looked_at hs few)

pub undecided_yet : (most : ℕ) (hs : List TimedEvent) → length hs < looked_at → decided_by most nothing_spoken hs ≡ false → is_decided most hs ≡ false
undecided_yet most hs few e = ap (λ (b : Bool). b || decided_by most nothing_spoken hs) (lt-leb looked_at (length hs) few) ∙ e

-- ---- messages that decide nothing

and_left : (most : ℕ) (h : TimedEvent) (hs : List TimedEvent) → reception_of most h.event ≡ reception.Proceeds → course_by_events most hs ≡ progress.Proceeds
    → course_by_events most (h ∷ hs) ≡ progress.Proceeds
and_left most h hs proceeds rest = ap (λ (x : LogResult). and_course x h.packet (course_by_events most hs)) proceeds ∙ rest

pub undecided_goes : (most : ℕ) (spoken : Spoken) (hs : List TimedEvent) → decided_by most spoken hs ≡ false
    → (course_by_events most hs ≡ progress.Proceeds) × (came_up_by hs ≡ false)
unfolding decided_by
undecided_goes most spoken [] e = (refl, refl)
undecided_goes most spoken (h ∷ hs) e = by_said (said_by most h.event) refl (λ s. undecided_goes most s hs) e
  where
    by_said : (m : Option (Side × Header)) → said_by most h.event ≡ m
        → ((s : Spoken) → decided_by most s hs ≡ false → (course_by_events most hs ≡ progress.Proceeds) × (came_up_by hs ≡ false))
        → decided_with m spoken (λ later. decided_by most later hs) ≡ false
        → (course_by_events most (h ∷ hs) ≡ progress.Proceeds) × (came_up_by (h ∷ hs) ≡ false)
    by_said None is rest e = absurd cc
    by_said (Some m) is rest e =
        let s = said_goes most h m is in
        let r = rest (with_message m.0 m.1 spoken) (parts_of_or (is_some (assumed_by m.1 (spoken_to m.0 spoken))) (decided_by most (with_message m.0 m.1 spoken) hs) e).1 in
        (and_left most h hs s.proceeds r.0, ap (λ (b : Bool). b || came_up_by hs) s.no_up ∙ r.1)

-- where no message is told all are left out
pub all_left : (t : Terms) (spoken : Spoken) (latest : ℕ) (hs : List TimedEvent) → course_by_events t.most hs ≡ progress.Proceeds → came_up_by hs ≡ false
    → tells_some (items_by t spoken latest hs) ≡ false
    → map leaves_out (flat_map packet_left (items_by t spoken latest hs)) ≡ items_by t spoken latest hs
unfolding items_by
all_left t spoken latest [] proceeds no_up none = refl
all_left t spoken latest (h ∷ hs) proceeds no_up none =
    by_said (said_by t.most h.event) refl (λ s n. all_left t s n hs) proceeds (parts_of_or (is_up_event h.event) (came_up_by hs) no_up) none
  where
    rest_goes : (x : LogResult) → reception_of t.most h.event ≡ x → and_course (reception_of t.most h.event) h.packet (course_by_events t.most hs) ≡ progress.Proceeds
        → (reception_of t.most h.event ≡ reception.Proceeds) × (course_by_events t.most hs ≡ progress.Proceeds)
    rest_goes reception.Proceeds is e = (is, ap (λ (x : LogResult). and_course x h.packet (course_by_events t.most hs)) (sym is) ∙ e)
    rest_goes reception.Down is e =
        let no : and_course reception.Down h.packet (course_by_events t.most hs) ≡ progress.Proceeds = ap (λ (x : LogResult). and_course x h.packet (course_by_events t.most hs)) (sym is) ∙ e in absurd cc
    rest_goes reception.Length is e =
        let no : and_course reception.Length h.packet (course_by_events t.most hs) ≡ progress.Proceeds = ap (λ (x : LogResult). and_course x h.packet (course_by_events t.most hs)) (sym is) ∙ e in absurd cc

    by_left : (b : Bool) (zs : List Item) → is_said h.event ≡ true → (tells_some zs ≡ false → map leaves_out (flat_map packet_left zs) ≡ zs)
        → tells_some (item_by b h ∷ zs) ≡ false → map leaves_out (flat_map packet_left (item_by b h ∷ zs)) ≡ item_by b h ∷ zs
    by_left true zs said rest e = ap (λ (ys : List Item). leaves_out h.packet ∷ ys) (rest e)
    by_left false zs said rest e = let no = parts_of_or (is_said h.event) (tells_some zs) e in absurd (let bad : true ≡ false = sym said ∙ no.0 in cc)

    by_said : (m : Option (Side × Header)) → said_by t.most h.event ≡ m
        → ((s : Spoken) (n : ℕ) → course_by_events t.most hs ≡ progress.Proceeds → came_up_by hs ≡ false → tells_some (items_by t s n hs) ≡ false
        → map leaves_out (flat_map packet_left (items_by t s n hs)) ≡ items_by t s n hs)
        → course_by_events t.most (h ∷ hs) ≡ progress.Proceeds → (is_up_event h.event ≡ false) × (came_up_by hs ≡ false)
        → tells_some (item_with m t spoken (max latest h.time) h ∷ items_by t (spoken_with m spoken) (max latest h.time) hs) ≡ false
        → map leaves_out (flat_map packet_left (item_with m t spoken (max latest h.time) h ∷ items_by t (spoken_with m spoken) (max latest h.time) hs))
        ≡ item_with m t spoken (max latest h.time) h ∷ items_by t (spoken_with m spoken) (max latest h.time) hs
    by_said None is rest proceeds no_up e = absurd (none_ends t.most h.event is no_up.0 (rest_goes (reception_of t.most h.event) refl proceeds).0)
    by_said (Some m) is rest proceeds no_up e =
        by_left (is_left_out m.1 (spoken_to m.0 spoken) t.begun t.t3 (max latest h.time)) (items_by t (with_message m.0 m.1 spoken) (max latest h.time) hs)
        (said_goes t.most h m is).said
        (λ none. rest (with_message m.0 m.1 spoken) (max latest h.time) (rest_goes (reception_of t.most h.event) refl proceeds).1 no_up.1 none) e

-- ---- the log, one thing more

pub items_all : (t : Terms) (b : Before) (hs : List TimedEvent) → course_by_events t.most hs ≡ progress.Proceeds → items_of t b hs ≡ items_by t (asked b) 0 hs
items_all t b hs proceeds = ap (items_by t (asked b) 0) (all_logged (hears_event t.most) (λ h. h.packet) hs proceeds)

-- behind what goes on
pub items_behind : (t : Terms) (b : Before) (hs ys : List TimedEvent) → course_by_events t.most hs ≡ progress.Proceeds
    → items_of t b (hs ++ ys) ≡ items_by t (asked b) 0 hs ++ items_by t (spoken_behind t.most (asked b) hs) (latest_after 0 hs) (logged_by t.most ys)
items_behind t b hs ys proceeds =
    ap (items_by t (asked b) 0) (can_continue (hears_event t.most) (λ h. h.packet) hs ys proceeds).0 ∙ items_more t (asked b) 0 hs (logged_by t.most ys)

pub logged_one : (most : ℕ) (h : TimedEvent) → reception_of most h.event ≡ reception.Proceeds → logged_by most (h ∷ []) ≡ h ∷ []
logged_one most h proceeds = ap (λ (x : LogResult). and_logged x h []) proceeds

pub course_one : (most : ℕ) (h : TimedEvent) → reception_of most h.event ≡ reception.Proceeds → course_by_events most (h ∷ []) ≡ progress.Proceeds
course_one most h proceeds = ap (λ (x : LogResult). and_course x h.packet progress.Proceeds) proceeds
