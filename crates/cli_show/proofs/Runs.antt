-- Runs of `hsms show`, one message after another.
use Rattle.std.proofs.Common.{◌≡◌, ◌≤◌, ◌<◌, ◌+◌, ◌-◌, ◌++◌, ℕ, suc, List, [], ◌∷◌, length, take, drop, None, Some, Ok, Err, true, false, Bool, refl, sym, ◌∙◌, ap, subst, inl, inr, arith}
use Rattle.std.specs.Prelude.{Option, Result, All}
use Rattle.std.proofs.lemmas.List.{append-nil, append_assoc, length-append, length-drop, length-take-le, take-append-le}
use Rattle.std.proofs.lemmas.Grind.{flat_map-append}
use Rattle.std.proofs.lemmas.List.Elements.{All-append, All-push}
use Rattle.std.proofs.lemmas.List.Concat.{flat_map-cons}
use Rattle.std.proofs.lemmas.Bool.{cases_lt}
use Rattle.cli_output.proofs.LineBuffers.{take_after}
use Rattle.cli_output.specs.LineBuffer.{GrowsHolding, AppendsLine}
use Rattle.hsms_frame.specs.declared.header.Header.{Header}
use Rattle.hsms_frame.specs.declared.io.Failed.{Failed}
use Rattle.hsms_frame.specs.Io.{IfRecorded, Grows, GrowsByFront}
use Rattle.hsms_frame.specs.Frame.{Frame, frame_octets}
use Rattle.hsms_frame.specs.Framing.{IsFrontOf}
use Rattle.hsms_frame.proofs.Prefixes.{whole_at_front}
use Rattle.hsms_frame.specs.declared.fault.ReadFault.{ReadFault}
use Rattle.hsms_frame.specs.declared.fault.ReadFault.TheVariants as read
use Rattle.cli_show.specs.InnerReadAhead.{subsequent}
use Rattle.cli_output.specs.Line.{LineOf}
use Rattle.cli_output.specs.IoErrors.{LeavesPart}
use Rattle.cli_show.specs.Show.{Begins, IsWithin, octets_of, LinesOf, Shows, Stops}
use Rattle.cli_show.specs.InnerShow.{ShowsNext, IsEnded}
use Rattle.cli_show.specs.declared.show_error.ShowError.{ShowError}
use Rattle.cli_show.specs.declared.show_error.ShowError.TheVariants.{Read, NoHex, NoMessage, Write, Endless}

-- A complete message is the next.
pub begins_with : (max : ℕ) (input ahead rest text : List ℕ) (h : Header) (size : ℕ) → input ≡ ahead ++ rest → IsFrontOf max ahead h size
    → text ≡ take size (drop 14 ahead) → Begins max input (record { header = h; text = text }) (drop (14 + size) ahead ++ rest)
begins_with max input ahead rest text h size parts front same =
    let f : Frame = record { header = h; text = text } in
    let room : size ≤ length (drop 14 ahead) = omega (arith, length-drop 14 ahead, front.there) in
    let count : length text ≡ size = ap length same ∙ length-take-le size (drop 14 ahead) room in
    let whole = whole_at_front max ahead text h size front same in (
      parts ∙ ap (λ (xs : List ℕ). xs ++ rest) (whole.0 ∙ ap (λ (n : ℕ). frame_octets f ++ drop (14 + n) ahead) count)
          ∙ append_assoc (frame_octets f) (drop (14 + size) ahead) rest,
      (whole.1, whole.2),
    )

all_left : (after : List ℕ) (left : Option (List ℕ)) → left ≡ Some after → LeavesPart after left
all_left after left is = ([], after, refl, is)

-- ---- what is buffered

-- A text is buffered after another.
pub holding_then : (old : Option (List ℕ)) (held : List ℕ) (mid : Option (List ℕ)) (then : List ℕ) (new : Option (List ℕ)) (now xs ys : List ℕ)
    → GrowsHolding old held mid then xs → GrowsHolding mid then new now ys → GrowsHolding old held new now (xs ++ ys)
holding_then old held mid then new now xs ys (first, one, grows) (second, two, more) = (
  first ++ second,
  append_assoc first second now ∙ ap (λ o. first ++ o) two ∙ sym (append_assoc first then ys) ∙ ap (λ o. o ++ ys) one ∙ append_assoc held xs ys,
  (λ octets known_input. more (octets ++ first) (grows octets known_input) ∙ ap Some (append_assoc octets first second)),
)

-- All that is buffered was written.
pub holding_out : (old : Option (List ℕ)) (held : List ℕ) (mid : Option (List ℕ)) (then : List ℕ) (new : Option (List ℕ)) (xs : List ℕ)
    → GrowsHolding old held mid then xs → Grows mid new then → Grows old new (held ++ xs)
holding_out old held mid then new xs (first, one, grows) more = λ octets known_input.
    more (octets ++ first) (grows octets known_input) ∙ ap Some (append_assoc octets first then ∙ ap (λ o. octets ++ o) one)

-- A write failed within what is buffered and a text after it.
pub holding_front : (old : Option (List ℕ)) (held : List ℕ) (mid : Option (List ℕ)) (then : List ℕ) (new : Option (List ℕ)) (xs ys : List ℕ)
    → GrowsHolding old held mid then xs → GrowsByFront mid new (then ++ ys) → GrowsByFront old new (held ++ xs ++ ys)
holding_front old held mid then new xs ys (first, one, grows) front = λ octets known_input.
    let f = front (octets ++ first) (grows octets known_input) in
    let n = f.0 in
    let whole : first ++ (then ++ ys) ≡ held ++ xs ++ ys = sym (append_assoc first then ys) ∙ ap (λ o. o ++ ys) one in
    let size : length first + length (then ++ ys) ≡ length (held ++ xs ++ ys) = sym (length-append first (then ++ ys)) ∙ ap length whole in (
      length first + n,
      omega (arith, f.1, size),
      f.2 ∙ ap Some (append_assoc octets first (take n (then ++ ys)) ∙ ap (λ o. octets ++ o) (sym (take_after first (then ++ ys) n) ∙ ap (take (length first + n)) whole)),
    )

pub holds_same : (old : Option (List ℕ)) (held : List ℕ) → GrowsHolding old held old held []
holds_same old held = ([], sym (append-nil held), (λ octets known_input. known_input ∙ ap Some (sym (append-nil octets))))

pub holds_none : (old : Option (List ℕ)) (held : List ℕ) (new : Option (List ℕ)) (now : List ℕ) → now ≡ [] → Grows old new held → GrowsHolding old held new now []
holds_none old held new now none grows = (held, ap (λ o. held ++ o) none, grows)

-- A write stopped the call at the message that is at the start.
pub append_stops : (max depth : ℕ) (input ahead rest : List ℕ) (h : Header) (size : ℕ) (left old : Option (List ℕ)) (held : List ℕ) (mid : Option (List ℕ)) (then : List ℕ)
    (written : Option (List ℕ)) (now : List ℕ) (fault : Failed) → input ≡ ahead ++ rest → left ≡ Some rest → IsFrontOf max ahead h size → GrowsHolding old held mid then []
    → AppendsLine depth (record { header = h; text = take size (drop 14 ahead) }) (Err fault) mid then written now → ShowsNext max depth input (Err Write) left old held written now
append_stops max depth input ahead rest h size left old held mid then written now fault parts is front holds (line, shown, by_front) =
    let f : Frame = record { header = h; text = take size (drop 14 ahead) } in
    let after = drop (14 + size) ahead in
    let begun = begins_with max input ahead rest (take size (drop 14 ahead)) h size parts front refl in
    let P : List ℕ → Type 0 = λ o. GrowsByFront old written (o ++ line) in
    inr (f, after ++ rest, line, begun, shown, (after, rest, refl, is), subst P (append-nil held) (holding_front old held mid then written [] line holds by_front))

-- The message that is at the start was shown.
pub append_shows : (max depth : ℕ) (input ahead rest : List ℕ) (h : Header) (size : ℕ) (u : Unit {0}) (passed : List ℕ) (left old : Option (List ℕ)) (held : List ℕ) (mid : Option (List ℕ))
    (then : List ℕ) (written : Option (List ℕ)) (now : List ℕ) → input ≡ ahead ++ rest → left ≡ Some rest → IsFrontOf max ahead h size → passed ≡ drop (14 + size) ahead
    → GrowsHolding old held mid then [] → AppendsLine depth (record { header = h; text = take size (drop 14 ahead) }) (Ok u) mid then written now
    → ShowsNext max depth input (Ok true) (subsequent passed left) old held written now
append_shows max depth input ahead rest h size u passed left old held mid then written now parts is front is_passed holds (line, shown, grows) =
    let f : Frame = record { header = h; text = take size (drop 14 ahead) } in
    let after = drop (14 + size) ahead in
    let begun = begins_with max input ahead rest (take size (drop 14 ahead)) h size parts front refl in
    let subsequent_octets = ap (λ (xs : List ℕ). subsequent xs left) is_passed ∙ ap (subsequent after) is in
    (f, after ++ rest, line, begun, shown, subsequent_octets, holding_then old held mid then written now [] line holds grows)

-- There is one more message.
pub one_more : (max : ℕ) (input ahead : List ℕ) (m : Header × ℕ) (left : Option (List ℕ)) → (rest : List ℕ) × (left ≡ Some rest) × (input ≡ ahead ++ rest)
    → IsFrontOf max ahead m.0 m.1 → IsEnded max input (Ok false) left
one_more max input ahead m left (rest, is, parts) front =
    let begins_so = begins_with max input ahead rest (take m.1 (drop 14 ahead)) m.0 m.1 parts front refl in
    let f : Frame = record { header = m.0; text = take m.1 (drop 14 ahead) } in
    (f, drop (14 + m.1) ahead ++ rest, begins_so, (drop (14 + m.1) ahead, rest, refl, is))

-- One more line.
LinesOf-push : (depth : ℕ) (messages : List Frame) (lines line : List ℕ) (f : Frame) → LinesOf depth messages lines → LineOf depth f line
    → LinesOf depth (messages ++ f ∷ []) (lines ++ line)
LinesOf-push depth [] lines line f none is =
    (line, [], is, refl, ap (λ xs. xs ++ line) none ∙ sym (append-nil line))
LinesOf-push depth (m ∷ ms) lines line f (first, rest, one, others, parts) is =
    (first, rest ++ line, one, LinesOf-push depth ms rest line f others is, ap (λ xs. xs ++ line) parts ∙ append_assoc first rest line)

-- ---- a write that failed within some lines

-- The line in which a part of them ends.
abbrev Split : ℕ → ℕ → List Frame → List ℕ → ℕ → Type 0
Split max depth messages lines n =
    (before : List Frame) × (f : Frame) × (after : List Frame) × (first line : List ℕ) × (k : ℕ) × (messages ≡ before ++ f ∷ after) × LinesOf depth before first
    × LineOf depth f line × (k < length line) × (take n lines ≡ first ++ take k line) × All (IsWithin max) before × IsWithin max f

split_on : (max depth : ℕ) (m : Frame) (ms : List Frame) (one rest : List ℕ) (j : ℕ) → LineOf depth m one → IsWithin max m → Split max depth ms rest j
    → Split max depth (m ∷ ms) (one ++ rest) (length one + j)
split_on max depth m ms one rest j shown fits (before, f, after, first, line, k, parts, lines, last, less, taken, within, fits_too) = (
  m ∷ before,
  f,
  after,
  one ++ first,
  line,
  k,
  ap (λ o. m ∷ o) parts,
  (one, first, shown, lines, refl),
  last,
  less,
  take_after one rest j ∙ ap (λ o. one ++ o) taken ∙ sym (append_assoc one first (take k line)),
  All-append (IsWithin max) (m ∷ []) before (All-push (IsWithin max) [] m (λ i d below. absurd (omega arith)) fits) within,
  fits_too,
)

split : (max depth : ℕ) (messages : List Frame) (lines : List ℕ) (n : ℕ) → n < length lines → LinesOf depth messages lines → All (IsWithin max) messages
    → Split max depth messages lines n
split max depth [] lines n less is within = let none : length lines ≡ 0 = ap length is in absurd (omega (arith, none))
split max depth (m ∷ ms) lines n less (one, rest, shown, others, parts) within =
    let fits : IsWithin max m = within 0 m (omega arith) in
    let subsequent_octets : All (IsWithin max) ms = λ k d below. within (suc k) d (omega (arith, below)) in
    let size : length lines ≡ length one + length rest = ap length parts ∙ length-append one rest in
    let P : List ℕ → Type 0 = λ o. Split max depth (m ∷ ms) o n in
    subst P (sym parts) (elim (cases_lt n (length one)) [
      | inl lt ↦ ([], m, ms, [], one, n, refl, refl, shown, lt, take-append-le n one rest (omega (arith, lt)), (λ k d below. absurd (omega arith)), fits)
      | inr ge ↦
          let j = n - length one in
          let sum : length one + j ≡ n = omega (arith, ge) in
          let Q : ℕ → Type 0 = λ k. Split max depth (m ∷ ms) (one ++ rest) k in
          subst Q sum (split_on max depth m ms one rest j shown fits (split max depth ms rest j (omega (arith, ge, size, less)) others subsequent_octets))
    ])

-- What follows a message.
leaves_more : (rest more : List ℕ) (left : Option (List ℕ)) → LeavesPart rest left → LeavesPart (more ++ rest) left
leaves_more rest more left (taken, after, parts, is) = (more ++ taken, after, ap (λ o. more ++ o) parts ∙ sym (append_assoc more taken after), is)

-- The messages whose lines were written, and the one in whose line the write failed.
split_shows : (max depth : ℕ) (input : List ℕ) (messages : List Frame) (lines rest : List ℕ) (n : ℕ) (left old new : Option (List ℕ))
    → input ≡ octets_of messages ++ rest → length messages ≤ 4294967295 → LeavesPart rest left → IfRecorded old (λ octets. new ≡ Some (octets ++ take n lines))
    → Split max depth messages lines n
    → (before : List Frame) × (first subsequent : List ℕ) × (input ≡ octets_of before ++ subsequent) × All (IsWithin max) before × LinesOf depth before first × (length before ≤ 4294967295)
    × Stops {T = Unit {0}} max depth (length before) subsequent first (Err Write) left old new
split_shows max depth input messages lines rest n left old new reads few leaves grows (before, f, after, first, line, k, parts, shown, last, less, taken, within, fits) =
    let subsequent : List ℕ = frame_octets f ++ (octets_of after ++ rest) in
    let octets : octets_of messages ≡ octets_of before ++ (frame_octets f ++ octets_of after) =
    ap octets_of parts ∙ flat_map-append frame_octets before (f ∷ after) ∙ ap (λ o. octets_of before ++ o) (flat_map-cons frame_octets f after) in (
      before,
      first,
      subsequent,
      reads ∙ ap (λ o. o ++ rest) octets ∙ append_assoc (octets_of before) (frame_octets f ++ octets_of after) rest
          ∙ ap (λ o. octets_of before ++ o) (append_assoc (frame_octets f) (octets_of after) rest),
      within,
      shown,
      omega (arith, few, ap length parts, length-append before (f ∷ after)),
      (
        f,
        octets_of after ++ rest,
        line,
        (refl, fits),
        last,
        leaves_more rest (octets_of after) left leaves,
        (λ octets known_input. (k, less, grows octets known_input ∙ ap Some (ap (λ o. octets ++ o) taken ∙ sym (append_assoc octets first (take k line))))),
      ),
    )

abbrev ShownSoFar : ℕ → ℕ → List ℕ → List Frame → List ℕ → List ℕ → Type 0
ShownSoFar max depth input messages lines rest =
    (length messages ≤ 4294967295) × All (IsWithin max) messages × LinesOf depth messages lines × (input ≡ octets_of messages ++ rest)

fails_in : (w : Option (List ℕ)) (max depth : ℕ) (input : List ℕ) (messages : List Frame) (lines rest : List ℕ) (left old new : Option (List ℕ)) → old ≡ w
    → ShownSoFar max depth input messages lines rest → LeavesPart rest left → 0 < length lines → GrowsByFront old new lines
    → (before : List Frame) × (first subsequent : List ℕ) × (input ≡ octets_of before ++ subsequent) × All (IsWithin max) before × LinesOf depth before first × (length before ≤ 4294967295)
    × Stops {T = Unit {0}} max depth (length before) subsequent first (Err Write) left old new
fails_in None max depth input messages lines rest left old new none (few, within, shown, reads) leaves some front =
    split_shows max depth input messages lines rest 0 left old new reads few leaves (λ octets known_input. let no : ◌≡◌ {A = Option (List ℕ)} None (Some octets) = sym none ∙ known_input in cc)
    (split max depth messages lines 0 some shown within)
fails_in (Some m) max depth input messages lines rest left old new known_so (few, within, shown, reads) leaves some front =
    let f = front m known_so in
    split_shows max depth input messages lines rest f.0 left old new reads few leaves
    (λ octets known_input. let same : m ≡ octets = (let both : ◌≡◌ {A = Option (List ℕ)} (Some m) (Some octets) = sym known_so ∙ known_input in cc) in f.2 ∙ ap (λ o. Some (o ++ take f.0 lines)) same)
    (split max depth messages lines f.0 f.1 shown within)

-- ---- the run

-- A claim on what is left, of which a part was read ahead.
pub along : (ahead : List ℕ) (left : Option (List ℕ)) (P : List ℕ → Type 0) → IfRecorded left (λ rest. P (ahead ++ rest)) → IfRecorded (subsequent ahead left) P
along ahead None P claim input is = cc
along ahead (Some rest) P claim input is = let same : ahead ++ rest ≡ input = cc in subst P same (claim rest refl)

-- After some messages.
abbrev pub Begun : ℕ → ℕ → List ℕ → ℕ → Option (List ℕ) → Option (List ℕ) → Option (List ℕ) → List ℕ → Type 0
Begun max depth input count left old new held =
    (messages : List Frame) × (lines rest : List ℕ) × (length messages ≡ count) × All (IsWithin max) messages
    × LinesOf depth messages lines × (input ≡ octets_of messages ++ rest) × (left ≡ Some rest) × GrowsHolding old [] new held lines

-- The next message, of what is left.
abbrev pub Next : ℕ → ℕ → Option (List ℕ) → Result Bool ShowError → Option (List ℕ) → Option (List ℕ) → List ℕ → Option (List ℕ) → List ℕ → Type 0
Next max depth before result left old held new now = IfRecorded before (λ input. ShowsNext max depth input result left old held new now)

pub begins : (max depth : ℕ) (input : List ℕ) (left written : Option (List ℕ)) (held : List ℕ) → held ≡ [] → left ≡ Some input → Begun max depth input 0 left written written held
begins max depth input left written held none known_input =
    ([], [], input, refl, (λ k d below. absurd (omega arith)), refl, refl, known_input, ([], none, (λ octets is. is ∙ ap Some (sym (append-nil octets)))))

pub begins_unread : (max depth : ℕ) (input ahead : List ℕ) (left written : Option (List ℕ)) (held : List ℕ) → held ≡ [] → ahead ≡ [] → left ≡ Some input
    → Begun max depth input 0 (subsequent ahead left) written written held
begins_unread max depth input ahead left written held nothing none known_input =
    begins max depth input (subsequent ahead left) written held nothing (ap (λ (xs : List ℕ). subsequent xs left) none ∙ ap (subsequent []) known_input)

pub can_continue : (max depth : ℕ) (input : List ℕ) (count : ℕ) (before left old mid : Option (List ℕ)) (held : List ℕ) (new : Option (List ℕ)) (now : List ℕ) → Begun max depth input count before old mid held
    → Next max depth before (Ok true) left mid held new now → Begun max depth input (count + 1) left old new now
can_continue max depth input count before left old mid held new now (messages, lines, rest, size, within, shown, reads, known_input, grows) next =
    let n = next rest known_input in
    let f : Frame = n.0 in
    let after : List ℕ = n.1 in
    let line : List ℕ = n.2 in
    let octets : octets_of (messages ++ f ∷ []) ≡ octets_of messages ++ frame_octets f =
    flat_map-append frame_octets messages (f ∷ []) ∙ ap (λ x. octets_of messages ++ x) (append-nil (frame_octets f)) in (
      messages ++ f ∷ [],
      lines ++ line,
      after,
      omega (arith, length-append messages (f ∷ []), size),
      All-push (IsWithin max) messages f within n.3.1,
      LinesOf-push depth messages lines line f shown n.4,
      reads ∙ ap (λ x. octets_of messages ++ x) n.3.0 ∙ sym (append_assoc (octets_of messages) (frame_octets f) after)
          ∙ ap (λ x. x ++ after) (sym octets),
      n.5,
      holding_then old [] mid held new now lines line grows n.6,
    )

pub ends : (max depth : ℕ) (input : List ℕ) (count : ℕ) (before left old mid : Option (List ℕ)) (held : List ℕ) (new : Option (List ℕ)) (now : List ℕ) → count ≤ 4294967295
    → Begun max depth input count before old mid held → Next max depth before (Ok false) left mid held new now
    → Shows {T = Unit {0}} max depth input (Ok tt) left old new
ends max depth input count before left old mid held new now few (messages, lines, rest, size, within, shown, reads, known_input, grows) next =
    let n = next rest known_input in
    (messages, lines, rest, reads, within, shown, omega arith, (n.0, n.1, holding_out old [] mid held new lines grows n.2))

-- A write failed in the line that is appended.
fails_as : (w : Option (List ℕ)) (max depth : ℕ) (input : List ℕ) (messages : List Frame) (lines rest after line : List ℕ) (f : Frame) (left old new : Option (List ℕ)) → old ≡ w → length messages < 4294967295
    → All (IsWithin max) messages → LinesOf depth messages lines → input ≡ octets_of messages ++ rest → Begins max rest f after → LineOf depth f line → LeavesPart after left
    → GrowsByFront old new (lines ++ line)
    → (before : List Frame) × (first subsequent : List ℕ) × (input ≡ octets_of before ++ subsequent) × All (IsWithin max) before × LinesOf depth before first × (length before ≤ 4294967295)
    × Stops {T = Unit {0}} max depth (length before) subsequent first (Err Write) left old new
fails_as None max depth input messages lines rest after line f left old new none few within shown reads begun last leaves front = (
  messages,
  lines,
  rest,
  reads,
  within,
  shown,
  omega (arith, few),
  (
    f,
    after,
    line,
    begun,
    last,
    leaves,
    (λ octets known_input. let no : ◌≡◌ {A = Option (List ℕ)} None (Some octets) = sym none ∙ known_input in cc),
  ),
)
fails_as (Some m) max depth input messages lines rest after line f left old new known_input few within shown reads (parts, fits) last leaves front =
    let octets : octets_of (messages ++ f ∷ []) ≡ octets_of messages ++ frame_octets f =
    flat_map-append frame_octets messages (f ∷ []) ∙ ap (λ x. octets_of messages ++ x) (append-nil (frame_octets f)) in
    fails_in (Some m) max depth input (messages ++ f ∷ []) (lines ++ line) after left old new known_input (
      omega (arith, length-append messages (f ∷ []), few),
      All-push (IsWithin max) messages f within fits,
      LinesOf-push depth messages lines line f shown last,
      reads ∙ ap (λ x. octets_of messages ++ x) parts ∙ sym (append_assoc (octets_of messages) (frame_octets f) after) ∙ ap (λ x. x ++ after) (sym octets),
    )
    leaves (let front_at = front m known_input in omega (arith, front_at.1)) front

-- A write failed within what is buffered.
put_fails : (max depth : ℕ) (input : List ℕ) (messages : List Frame) (lines rest : List ℕ) (left old mid : Option (List ℕ)) (held : List ℕ) (new : Option (List ℕ))
    → length messages ≤ 4294967295 → All (IsWithin max) messages → LinesOf depth messages lines → input ≡ octets_of messages ++ rest → LeavesPart rest left → 0 < length held
    → GrowsHolding old [] mid held lines → GrowsByFront mid new held
    → (before : List Frame) × (first subsequent : List ℕ) × (input ≡ octets_of before ++ subsequent) × All (IsWithin max) before × LinesOf depth before first × (length before ≤ 4294967295)
    × Stops {T = Unit {0}} max depth (length before) subsequent first (Err Write) left old new
put_fails max depth input messages lines rest left old mid held new few within shown reads leaves some grows front =
    let P : List ℕ → Type 0 = λ o. GrowsByFront mid new o in
    let Q : List ℕ → Type 0 = λ o. GrowsByFront old new o in
    let size : length grows.0 + length held ≡ length lines = sym (length-append grows.0 held) ∙ ap length grows.1 in
    fails_in old max depth input messages lines rest left old new refl (few, within, shown, reads) leaves (omega (arith, size, some))
    (subst Q (append-nil lines) (holding_front old [] mid held new lines [] grows (subst P (sym (append-nil held)) front)))

pub stops : (max depth : ℕ) (input : List ℕ) (count : ℕ) (error : ShowError) (before left old mid : Option (List ℕ)) (held : List ℕ) (new : Option (List ℕ)) (now : List ℕ) → count < 4294967295
    → Begun max depth input count before old mid held → Next max depth before (Err error) left mid held new now
    → Shows {T = Unit {0}} max depth input (Err error) left old new
stops max depth input count (Read fault) before left old mid held new now few (messages, lines, rest, size, within, shown, reads, known_input, grows) next =
    let n = next rest known_input in
    (messages, lines, rest, reads, within, shown, omega arith, (n.0, holding_out old [] mid held new lines grows n.1))
stops max depth input count Write before left old mid held new now few (messages, lines, rest, size, within, shown, reads, known_input, grows) next =
    elim (next rest known_input) [
      | inl n ↦ put_fails max depth input messages lines rest left old mid held new (omega (arith, few, size)) within shown reads n.0 n.1 grows n.2
      | inr n ↦
          fails_as old max depth input messages lines rest n.1 n.2 n.0 left old new refl (omega (arith, few, size)) within shown reads n.3 n.4 n.5
          (holding_front old [] mid held new lines n.2 grows n.6)
    ]
stops max depth input count (NoHex line) before left old mid held new now few (messages, lines, rest, size, within, shown, reads, known_input, grows) next = absurd (next rest known_input)
stops max depth input count (NoMessage line) before left old mid held new now few (messages, lines, rest, size, within, shown, reads, known_input, grows) next = absurd (next rest known_input)
stops max depth input count Endless before left old mid held new now few (messages, lines, rest, size, within, shown, reads, known_input, grows) next = absurd (next rest known_input)

-- An allocation fails before the first message.
pub none_begun : (max depth : ℕ) (input : List ℕ) (left written : Option (List ℕ)) → left ≡ Some input → Shows {T = Unit {0}} max depth input (Err (Read read.Memory)) left written written
none_begun max depth input left written known_input =
    stops max depth input 0 (Read read.Memory) left left written written [] written [] (omega arith) (begins max depth input left written [] refl known_input) (λ rest is. (all_left rest left is, (λ octets same. same ∙ ap Some (sym (append-nil octets)))))

-- What was read ahead is consumed.
leaves_after : (ahead rest : List ℕ) (left : Option (List ℕ)) → subsequent ahead left ≡ Some rest → LeavesPart rest left
leaves_after ahead rest None is = cc
leaves_after ahead rest (Some others) is = let same : ahead ++ others ≡ rest = cc in (ahead, others, sym same, refl)

-- The maximum number of messages was shown, and the run ends.
stops_full : (max depth : ℕ) (input : List ℕ) (count : ℕ) (result : Result (Unit {0}) ShowError) (before left old mid : Option (List ℕ)) (held : List ℕ) (new : Option (List ℕ)) → count ≡ 4294967295
    → Begun max depth input count before old mid held → Grows mid new held
    → ((rest lines : List ℕ) → before ≡ Some rest → Grows old new lines → Stops max depth 4294967295 rest lines result left old new)
    → Shows max depth input result left old new
stops_full max depth input count result before left old mid held new full (messages, lines, rest, size, within, shown, reads, known_input, holds) out end =
    let P : ℕ → Type 0 = λ n. Stops max depth n rest lines result left old new in
    (messages, lines, rest, reads, within, shown, omega (arith, full, size), subst P (sym (size ∙ full)) (end rest lines known_input (holding_out old [] mid held new lines holds out)))

pub full_end : (max depth : ℕ) (input : List ℕ) (count : ℕ) (before left old mid : Option (List ℕ)) (held : List ℕ) (new : Option (List ℕ)) → count ≡ 4294967295
    → Begun max depth input count before old mid held → Grows mid new held → IfRecorded before (λ rest. IsEnded max rest (Ok true) left)
    → Shows {T = Unit {0}} max depth input (Ok tt) left old new
full_end max depth input count before left old mid held new full begun out end =
    stops_full max depth input count (Ok tt) before left old mid held new full begun out (λ rest lines is grows. let e = end rest is in (e.0, e.1, grows))

pub full_stop : (max depth : ℕ) (input : List ℕ) (count : ℕ) (fault : ReadFault) (before left old mid : Option (List ℕ)) (held : List ℕ) (new : Option (List ℕ)) → count ≡ 4294967295
    → Begun max depth input count before old mid held → Grows mid new held → IfRecorded before (λ rest. IsEnded max rest (Err fault) left)
    → Shows {T = Unit {0}} max depth input (Err (Read fault)) left old new
full_stop max depth input count fault before left old mid held new full begun out end =
    stops_full max depth input count (Err (Read fault)) before left old mid held new full begun out (λ rest lines is grows. (end rest is, grows))

pub full_more : (max depth : ℕ) (input : List ℕ) (count : ℕ) (before left old mid : Option (List ℕ)) (held : List ℕ) (new : Option (List ℕ)) → count ≡ 4294967295
    → Begun max depth input count before old mid held → Grows mid new held → IfRecorded before (λ rest. IsEnded max rest (Ok false) left)
    → Shows {T = Unit {0}} max depth input (Err Endless) left old new
full_more max depth input count before left old mid held new full begun out end =
    stops_full max depth input count (Err Endless) before left old mid held new full begun out
    (λ rest lines is grows. let e = end rest is in (refl, e.0, e.1, e.2, e.3, grows))

-- A write failed after the maximum number of messages was shown.
pub stops_full_unwritten : (max depth : ℕ) (input : List ℕ) (count : ℕ) (left old mid : Option (List ℕ)) (held : List ℕ) (new : Option (List ℕ)) (ahead : List ℕ)
    → count ≡ 4294967295 → Begun max depth input count (subsequent ahead left) old mid held → 0 < length held → GrowsByFront mid new held
    → Shows {T = Unit {0}} max depth input (Err Write) left old new
stops_full_unwritten max depth input count left old mid held new ahead full (messages, lines, rest, size, within, shown, reads, known_input, grows) some front =
    put_fails max depth input messages lines rest left old mid held new (omega (arith, full, size)) within shown reads (leaves_after ahead rest left known_input) some grows front
