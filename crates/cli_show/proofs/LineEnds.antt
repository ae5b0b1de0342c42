-- Where the lines of an input end.
use Rattle.std.proofs.Common.{◌≡◌, ◌≤◌, ◌<◌, ◌+◌, ◌-◌, ◌++◌, ℕ, Bool, true, false, List, [], length, take, drop, None, Some, Ok, Err, refl, sym, ◌∙◌, ap, subst, inl, inr, arith}
use Rattle.std.specs.Prelude.{Option, ◌==◌}
use Rattle.std.proofs.lemmas.List.{append_cancel_left, get_or-take, get_or_default, length-drop, length-take-le, take-append-drop, take-append-le, take_all}
use Rattle.std.proofs.lemmas.List.Elements.{All-append}
use Rattle.std.proofs.Math.Seq.{take-add, take-append_seam}
use Rattle.memchr.specs.Find.{IsFirstByte, Nowhere, Passes, is_byte}
use Rattle.hsms_frame.specs.ReadAhead.{ReadsMore}
use Rattle.hsms_frame.specs.Io.{IfRecorded, Grows, IsAtEnd, Stays}
use Rattle.hsms_log.specs.Lines.{HasNone}
use Rattle.hsms_frame.specs.declared.fault.ReadFault.{ReadFault}
use Rattle.hsms_frame.specs.declared.fault.ReadFault.TheVariants as read
use Rattle.cli_show.specs.InnerReadAhead.{IsUnread}
use Rattle.cli_show.specs.ShowHex.{IsLine, IsTooFar, line_limit}
use Rattle.cli_show.specs.InnerShowHex.{EndsAt, FindsEnd, FindsEndHolding, IsPlaced, is_open}
use Rattle.cli_show.specs.declared.hex_lines.LineEnd.{LineEnd}
use Rattle.cli_show.specs.declared.hex_lines.LineEnd.TheVariants.{Feed, Open, TooFar}
use Rattle.cli_show.proofs.NextFrames.{reads_on}
use Rattle.cli_show.proofs.Runs.{holds_none}

-- ---- the first line feed

never : (b : Bool) → (b ≡ true → ⊥) → b ≡ false
never true refuted = absurd (refuted refl)
never false refuted = refl

none_before : (octets : List ℕ) (n : ℕ) → n ≤ length octets → Nowhere (Passes (is_byte 10) octets) 0 n → HasNone 10 (take n octets)
none_before octets n within none k d less =
    let inside : k < n = omega (arith, less, length-take-le n octets within) in
    rw (get_or-take n octets k d inside ∙ get_or_default octets k d 0 (omega (arith, inside, within))) (never _ (none k (omega arith) inside))

none_on : (octets : List ℕ) (seen n : ℕ) → HasNone 10 (take seen octets) → HasNone 10 (take n (drop seen octets)) → HasNone 10 (take (seen + n) octets)
none_on octets seen n before here =
    let P : List ℕ → Type 0 = λ xs. HasNone 10 xs in
    subst P (sym (take-add seen n octets)) (All-append (λ (x : ℕ). (x == 10) ≡ false) (take seen octets) (take n (drop seen octets)) before here)

-- The first line feed is at an index.
none_here : (octets : List ℕ) (seen place : ℕ) → IsFirstByte (is_byte 10) (drop seen octets) (Some place) → HasNone 10 (take seen octets)
    → HasNone 10 (take (seen + place) octets)
none_here octets seen place (first, is) before =
    none_on octets seen place before (none_before (drop seen octets) place (omega (arith, first.high)) first.before)

after_seen : (octets : List ℕ) (seen : ℕ) → take (length octets - seen) (drop seen octets) ≡ drop seen octets
after_seen octets seen = take_all (length octets - seen) (drop seen octets) (omega (arith, length-drop seen octets))

pub none_up_to : (octets : List ℕ) (seen place : ℕ) → IsFirstByte (is_byte 10) (take (length octets - seen) (drop seen octets)) (Some place)
    → HasNone 10 (take seen octets) → HasNone 10 (take (seen + place) octets)
none_up_to octets seen place found before =
    let P : List ℕ → Type 0 = λ xs. IsFirstByte (is_byte 10) xs (Some place) in none_here octets seen place (subst P (after_seen octets seen) found) before

-- There is no line feed.
pub none_at_all : (octets : List ℕ) (seen : ℕ) → IsFirstByte (is_byte 10) (take (length octets - seen) (drop seen octets)) None
    → HasNone 10 (take seen octets) → HasNone 10 (take (length octets) octets)
none_at_all octets seen missing before =
    let Q : List ℕ → Type 0 = λ xs. IsFirstByte (is_byte 10) xs None in
    let none = subst Q (after_seen octets seen) missing in
    let P : List ℕ → Type 0 = λ xs. HasNone 10 xs in
    let n = length (drop seen octets) in
    let all : take (seen + n) octets ≡ take (length octets) octets =
    take_all (seen + n) octets (omega (arith, length-drop seen octets)) ∙ sym (take_all (length octets) octets (omega arith)) in
    subst P all (none_on octets seen n before (none_before (drop seen octets) n (omega arith) none))

pub too_far : (max place : ℕ) (octets : List ℕ) → line_limit max < place → place ≤ length octets → HasNone 10 (take place octets) → IsTooFar max octets
too_far max place octets far within none =
    (take place octets, drop place octets, sym (take-append-drop place octets), none, omega (arith, far, length-take-le place octets within))

pub is_line : (max place : ℕ) (octets : List ℕ) → place ≤ line_limit max → place ≤ length octets → length octets ≤ place → HasNone 10 (take place octets)
    → IsLine max octets
is_line max place octets fits within whole none =
    let P : List ℕ → Type 0 = λ xs. HasNone 10 xs in
    (subst P (take_all place octets whole) none, omega arith)

pub none_of_none : (octets : List ℕ) → HasNone 10 (take 0 octets)
none_of_none octets k d less = absurd (omega (arith, less))

-- ---- reading more

-- What was read of an input so far, and where its line ends in that.
abbrev pub EndsSoFar : ℕ → List ℕ → List ℕ → List ℕ → Option (List ℕ) → LineEnd → Type 0
EndsSoFar max before input ahead left end = ReadsMore before input ahead left × EndsAt max ahead end

pub starts : (max : ℕ) (ahead slice input : List ℕ) (left : Option (List ℕ)) (end : LineEnd) → left ≡ Some input → slice ≡ ahead → EndsAt max slice end
    → EndsSoFar max ahead input ahead left end
starts max ahead slice input left end known_input same ends =
    let P : List ℕ → Type 0 = λ xs. EndsAt max xs end in ((input, known_input, refl), subst P same ends)

pub placed_so : (max : ℕ) (slice ahead : List ℕ) (end : LineEnd) → slice ≡ ahead → IsPlaced max slice end → IsPlaced max ahead end
placed_so max slice ahead end same placed = let P : List ℕ → Type 0 = λ xs. IsPlaced max xs end in subst P same placed

line_of_open : (max : ℕ) (ahead : List ℕ) (end : LineEnd) → is_open end ≡ true → EndsAt max ahead end → IsLine max ahead
line_of_open max ahead (Feed n) can_continue ends = cc
line_of_open max ahead Open can_continue ends = ends
line_of_open max ahead TooFar can_continue ends = cc

same_front : (mid rest now other : List ℕ) → mid ++ rest ≡ now ++ other → length mid ≤ length now → take (length mid) now ≡ mid
same_front mid rest now other same short =
    sym (take-append-le (length mid) now other short) ∙ ap (λ xs. take (length mid) xs) (sym same) ∙ take-append_seam mid rest

further : (max : ℕ) (before input mid now : List ℕ) (left new : Option (List ℕ)) (end next : LineEnd) → EndsSoFar max before input mid left end
    → is_open end ≡ true → IfRecorded left (λ rest. ReadsMore mid rest now new) → length mid < length now
    → (HasNone 10 (take (length mid) now) → EndsAt max now next) → EndsSoFar max before input now new next
further max before input mid now left new end next ((rest, known_input, same), ends) can_continue more longer there =
    let m = more rest known_input in
    let P : List ℕ → Type 0 = λ xs. HasNone 10 xs in
    let front = same_front mid rest now m.0 m.2 (omega (arith, longer)) in
    (reads_on before mid now input left new (rest, known_input, same) more, there (subst P (sym front) (line_of_open max mid end can_continue ends).0))

pub reads_further : (max : ℕ) (before input mid now seen slice : List ℕ) (left new : Option (List ℕ)) (end next : LineEnd) → EndsSoFar max before input mid left end
    → is_open end ≡ true → IfRecorded left (λ rest. ReadsMore mid rest now new) → length mid < length now → seen ≡ mid → slice ≡ now
    → (HasNone 10 (take (length seen) slice) → EndsAt max slice next) → EndsSoFar max before input now new next
reads_further max before input mid now seen slice left new end next so_far can_continue more longer seen_is slice_is there =
    let Q : List ℕ → List ℕ → Type 0 = λ xs ys. HasNone 10 (take (length xs) ys) → EndsAt max ys next in
    further max before input mid now left new end next so_far can_continue more longer
    (subst (λ xs. Q xs now) seen_is (subst (λ ys. Q seen ys) slice_is there))

pub reading_stops : (max : ℕ) (before input mid now : List ℕ) (left new : Option (List ℕ)) (end : LineEnd) (fault : ReadFault) → EndsSoFar max before input mid left end
    → is_open end ≡ true → Stays left new → IsUnread fault → FindsEnd max (before ++ input) (Err fault) now new
reading_stops max before input mid now left new end read.Read ((rest, known_input, same), ends) can_continue stays unread =
    (mid, rest, same, stays rest known_input, line_of_open max mid end can_continue ends)
reading_stops max before input mid now left new end read.Memory ((rest, known_input, same), ends) can_continue stays unread = (mid, rest, same, stays rest known_input)
reading_stops max before input mid now left new end read.CutOff so_far can_continue stays (inl ne) = cc
reading_stops max before input mid now left new end read.CutOff so_far can_continue stays (inr ne) = cc
reading_stops max before input mid now left new end (read.TooShort n) so_far can_continue stays (inl ne) = cc
reading_stops max before input mid now left new end (read.TooShort n) so_far can_continue stays (inr ne) = cc
reading_stops max before input mid now left new end (read.TooLong n h) so_far can_continue stays (inl ne) = cc
reading_stops max before input mid now left new end (read.TooLong n h) so_far can_continue stays (inr ne) = cc

pub input_ends : (max : ℕ) (before input mid now : List ℕ) (left new : Option (List ℕ)) (end : LineEnd) → EndsSoFar max before input mid left end → is_open end ≡ true
    → IfRecorded left (λ rest. ReadsMore mid rest now new) → now ≡ mid → IsAtEnd left → FindsEnd max (before ++ input) (Ok Open) now new
input_ends max before input mid now left new end ((rest, known_input, same), ends) can_continue more as_before none =
    let m = more rest known_input in
    let P : List ℕ → Type 0 = λ xs. IsLine max xs in
    let all : now ++ rest ≡ now ++ m.0 = ap (λ xs. xs ++ rest) as_before ∙ m.2 in
    let nothing : m.0 ≡ [] = sym (append_cancel_left now rest m.0 all) ∙ none rest known_input in
    (m.0, m.1, same ∙ m.2, subst P (sym as_before) (line_of_open max mid end can_continue ends), (λ _. nothing))

pub line_found : (max : ℕ) (before input ahead : List ℕ) (left : Option (List ℕ)) (end : LineEnd) → EndsSoFar max before input ahead left end → is_open end ≡ false
    → FindsEnd max (before ++ input) (Ok end) ahead left
line_found max before input ahead left (Feed n) ((rest, known_input, same), ends) shut = (rest, known_input, same, ends, (λ is. absurd cc))
line_found max before input ahead left Open found shut = absurd cc
line_found max before input ahead left TooFar ((rest, known_input, same), ends) shut = (rest, known_input, same, ends, (λ is. absurd cc))

pub short_of_limit : (max : ℕ) (ahead : List ℕ) (end : LineEnd) → is_open end ≡ true → IsPlaced max ahead end → length ahead ≤ line_limit max
short_of_limit max ahead (Feed n) can_continue placed = cc
short_of_limit max ahead Open can_continue placed = placed
short_of_limit max ahead TooFar can_continue placed = cc

-- ---- while bytes are buffered

pub holding_found : (max : ℕ) (input ahead : List ℕ) (left old : Option (List ℕ)) (held : List ℕ) (new : Option (List ℕ)) (now : List ℕ) (end : LineEnd)
    → now ≡ [] → Grows old new held → FindsEnd max input (Ok end) ahead left → FindsEndHolding max input (Ok end) ahead left old held new now
holding_found max input ahead left old held new now end none grows finds = (finds, holds_none old held new now none grows)
