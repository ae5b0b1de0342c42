-- The steps of `hsms show --hex`: one line each.
use Rattle.std.proofs.Common.{◌≡◌, ◌≢◌, ◌<◌, ◌+◌, ◌++◌, ℕ, suc, Bool, false, List, [], ◌∷◌, length, take, drop, Some, Ok, Err, refl, sym, ◌∙◌, ap, subst, inl, inr, arith}
use Rattle.std.specs.Prelude.{Option, Result}
use Rattle.std.proofs.lemmas.List.{append-nil, append_assoc, length-append, nil_from_length}
use Rattle.std.proofs.Math.Seq.{split_at}
use Rattle.hsms_frame.specs.declared.fault.ReadFault.{ReadFault}
use Rattle.hsms_frame.specs.declared.fault.ReadFault.TheVariants as read
use Rattle.hsms_frame.specs.declared.io.Failed.{Failed}
use Rattle.hsms_frame.specs.Io.{Grows, GrowsByFront}
use Rattle.hsms_frame.specs.Frame.{Frame}
use Rattle.cli_output.specs.LineBuffer.{GrowsHolding, AppendsLine}
use Rattle.cli_output.specs.IoErrors.{LeavesPart}
use Rattle.cli_show.specs.InnerReadAhead.{IsUnread}
use Rattle.cli_show.specs.ShowHex.{BeginsWithLine, IsLine, IsMessageOf, IsNotMessage, IsRefusedAt, IsRefusedLine, IsTooFar, ShowsLine, ShowsOctets, octets_of_line}
use Rattle.cli_show.specs.InnerShowHex.{IsAllRead, EndsAt, FindsEndHolding, AppendsShown, ShowsNextLine}
use Rattle.cli_show.specs.declared.hex_lines.LineEnd.TheVariants.{Feed}
use Rattle.cli_show.specs.declared.show_error.ShowError.{ShowError}
use Rattle.cli_show.specs.declared.show_error.ShowError.TheVariants.{Read, NoHex, NoMessage, Write, Endless}
use Rattle.cli_show.proofs.Runs.{holding_front, holding_out, holding_then}

-- ---- what is appended

-- A write of the buffer failed.
pub stopped_write : (Shown : List ℕ → Type 0) (IsWhy : ShowError → Type 0) (old : Option (List ℕ)) (held : List ℕ) (new : Option (List ℕ)) (now : List ℕ)
    → GrowsByFront old new held → AppendsShown Shown IsWhy (Err Write) old held new now
stopped_write Shown IsWhy old held new now front =
    let P : List ℕ → Type 0 = λ o. GrowsByFront old new o in ([], inl refl, subst P (sym (append-nil held)) front)

pub appended_message : (bare : Bool) (max depth : ℕ) (IsWhy : ShowError → Type 0) (octets : List ℕ) (f : Frame) (old : Option (List ℕ)) (held : List ℕ)
    (new : Option (List ℕ)) (now : List ℕ) → IsMessageOf bare max octets f → AppendsLine depth f (Ok tt) old held new now
    → AppendsShown (ShowsOctets bare max depth octets) IsWhy (Ok tt) old held new now
appended_message bare max depth IsWhy octets f old held new now is (line, shown, grows) = (line, inr (f, is, shown), grows)

pub part_of_message : (bare : Bool) (max depth : ℕ) (IsWhy : ShowError → Type 0) (octets : List ℕ) (f : Frame) (fault : Failed) (old : Option (List ℕ)) (held : List ℕ)
    (new : Option (List ℕ)) (now : List ℕ) → IsMessageOf bare max octets f → AppendsLine depth f (Err fault) old held new now
    → AppendsShown (ShowsOctets bare max depth octets) IsWhy (Err Write) old held new now
part_of_message bare max depth IsWhy octets f fault old held new now is (line, shown, front) = (line, inr (inr (f, is, shown)), front)

-- What is appended of a line whose bytes are these.
pub appended_line : (bare : Bool) (max depth number : ℕ) (line octets : List ℕ) (r : Result (Unit {0}) ShowError) (old : Option (List ℕ)) (held : List ℕ)
    (new : Option (List ℕ)) (now : List ℕ) → octets_of_line line ≡ Some octets
    → AppendsShown (ShowsOctets bare max depth octets) (IsNotMessage bare max number octets) r old held new now
    → AppendsShown (ShowsLine bare max depth line) (IsRefusedLine bare max number line) r old held new now
appended_line bare max depth number line octets (Ok _) old held new now is (shown, shows, grows) = (shown, (octets, is, shows), grows)
appended_line bare max depth number line octets (Err Write) old held new now is (more, inl none, front) = (more, inl none, front)
appended_line bare max depth number line octets (Err Write) old held new now is (more, inr shows, front) = (more, inr (octets, is, shows), front)
appended_line bare max depth number line octets (Err (Read read.Memory)) old held new now is grows = grows
appended_line bare max depth number line octets (Err (Read read.Read)) old held new now is (why, grows) = (inr (octets, is, why), grows)
appended_line bare max depth number line octets (Err (Read read.CutOff)) old held new now is (why, grows) = (inr (octets, is, why), grows)
appended_line bare max depth number line octets (Err (Read (read.TooShort n))) old held new now is (why, grows) = (inr (octets, is, why), grows)
appended_line bare max depth number line octets (Err (Read (read.TooLong n h))) old held new now is (why, grows) = (inr (octets, is, why), grows)
appended_line bare max depth number line octets (Err Endless) old held new now is (why, grows) = (inr (octets, is, why), grows)
appended_line bare max depth number line octets (Err (NoHex n)) old held new now is (why, grows) = (inr (octets, is, why), grows)
appended_line bare max depth number line octets (Err (NoMessage n)) old held new now is (why, grows) = (inr (octets, is, why), grows)

-- ---- the next line

-- No line's end was found.
pub no_end : (bare : Bool) (max depth number : ℕ) (input ahead : List ℕ) (error : ShowError) (left old : Option (List ℕ)) (held : List ℕ) (new : Option (List ℕ)) (now : List ℕ)
    → FindsEndHolding max input (Err error) ahead left old held new now → ShowsNextLine bare max depth number input (Err error) left old held new now
no_end bare max depth number input ahead (Read read.Read) left old held new now why = why
no_end bare max depth number input ahead (Read read.Memory) left old held new now why = why
no_end bare max depth number input ahead (Read read.CutOff) left old held new now why = absurd why.0
no_end bare max depth number input ahead (Read (read.TooShort n)) left old held new now why = absurd why.0
no_end bare max depth number input ahead (Read (read.TooLong n h)) left old held new now why = absurd why.0
no_end bare max depth number input ahead Write left old held new now (leaves, front) =
    let P : List ℕ → Type 0 = λ o. GrowsByFront old new o in
    (leaves, [], inl refl, subst P (sym (append-nil held)) front)
no_end bare max depth number input ahead Endless left old held new now why = absurd why
no_end bare max depth number input ahead (NoHex n) left old held new now why = absurd why
no_end bare max depth number input ahead (NoMessage n) left old held new now why = absurd why

-- The line that ends at an index.
pub line_at : (max n : ℕ) (input ahead rest : List ℕ) → input ≡ ahead ++ rest → EndsAt max ahead (Feed n)
    → input ≡ take n ahead ++ 10 ∷ (drop (n + 1) ahead ++ rest)
line_at max n input ahead rest parts (there, line, feed) =
    let next : suc n ≡ n + 1 = omega arith in
    let whole : ahead ≡ take n ahead ++ 10 ∷ drop (n + 1) ahead =
    split_at ahead n 0 there ∙ ap (λ (c : ℕ). take n ahead ++ c ∷ drop (suc n) ahead) feed ∙ ap (λ (k : ℕ). take n ahead ++ 10 ∷ drop k ahead) next in
    parts ∙ ap (λ (xs : List ℕ). xs ++ rest) whole ∙ append_assoc (take n ahead) (10 ∷ drop (n + 1) ahead) rest

written_out : (old mid : Option (List ℕ)) (held then : List ℕ) (new : Option (List ℕ)) → GrowsHolding old held mid then [] → Grows mid new then → Grows old new held
written_out old mid held then new holds out =
    let P : List ℕ → Type 0 = λ o. Grows old new o in subst P (append-nil held) (holding_out old held mid then new [] holds out)

written_part : (old mid : Option (List ℕ)) (held then more : List ℕ) (new : Option (List ℕ)) → GrowsHolding old held mid then [] → GrowsByFront mid new (then ++ more)
    → GrowsByFront old new (held ++ more)
written_part old mid held then more new holds front =
    let P : List ℕ → Type 0 = λ o. GrowsByFront old new (o ++ more) in subst P (append-nil held) (holding_front old held mid then new [] more holds front)

-- The first line, which is invalid, stops the command.
line_refused : (bare : Bool) (max number : ℕ) (input line : List ℕ) (error : ShowError) (left old mid : Option (List ℕ)) (held then : List ℕ) (new : Option (List ℕ))
    → BeginsWithLine max input line → LeavesPart input left → GrowsHolding old held mid then [] → IsRefusedLine bare max number line error × Grows mid new then
    → IsRefusedAt bare max number input error × LeavesPart input left × Grows old new held
line_refused bare max number input line error left old mid held then new begins leaves holds (why, out) =
    (inl (line, begins, why), leaves, written_out old mid held then new holds out)

never_read : {P : Type 0} (bare : Bool) (max number : ℕ) (line : List ℕ) (fault : ReadFault) → IsRefusedLine bare max number line (Read fault) → P
never_read bare max number line fault (inl (none, ne)) = absurd cc
never_read bare max number line fault (inr (octets, is, (none, ne))) = absurd cc

line_stopped : (bare : Bool) (max depth number : ℕ) (input line : List ℕ) (error : ShowError) (left old mid : Option (List ℕ)) (held then : List ℕ) (new : Option (List ℕ)) (now : List ℕ)
    → BeginsWithLine max input line → LeavesPart input left → GrowsHolding old held mid then []
    → AppendsShown (ShowsLine bare max depth line) (IsRefusedLine bare max number line) (Err error) mid then new now
    → ShowsNextLine bare max depth number input (Err error) left old held new now
line_stopped bare max depth number input line Write left old mid held then new now begins leaves holds (more, inl nothing, front) =
    (leaves, more, inl nothing, written_part old mid held then more new holds front)
line_stopped bare max depth number input line Write left old mid held then new now begins leaves holds (more, inr shows, front) =
    (leaves, more, inr (line, begins, shows), written_part old mid held then more new holds front)
line_stopped bare max depth number input line (Read read.Memory) left old mid held then new now begins leaves holds out = (leaves, written_out old mid held then new holds out)
line_stopped bare max depth number input line (Read read.Read) left old mid held then new now begins leaves holds (why, out) = never_read bare max number line read.Read why
line_stopped bare max depth number input line (Read read.CutOff) left old mid held then new now begins leaves holds (why, out) = never_read bare max number line read.CutOff why
line_stopped bare max depth number input line (Read (read.TooShort n)) left old mid held then new now begins leaves holds (why, out) = never_read bare max number line (read.TooShort n) why
line_stopped bare max depth number input line (Read (read.TooLong n h)) left old mid held then new now begins leaves holds (why, out) = never_read bare max number line (read.TooLong n h) why
line_stopped bare max depth number input line Endless left old mid held then new now begins leaves holds (inl (none, ne), out) = absurd cc
line_stopped bare max depth number input line Endless left old mid held then new now begins leaves holds (inr (octets, is, (none, ne)), out) = absurd cc
line_stopped bare max depth number input line (NoHex n) left old mid held then new now begins leaves holds why =
    line_refused bare max number input line (NoHex n) left old mid held then new begins leaves holds why
line_stopped bare max depth number input line (NoMessage n) left old mid held then new now begins leaves holds why =
    line_refused bare max number input line (NoMessage n) left old mid held then new begins leaves holds why

-- The first line, of which this is the slice, stops the command.
pub line_stops : (bare : Bool) (max depth number : ℕ) (input slice line : List ℕ) (error : ShowError) (left old mid : Option (List ℕ)) (held then : List ℕ) (new : Option (List ℕ)) (now : List ℕ)
    → BeginsWithLine max input line → LeavesPart input left → GrowsHolding old held mid then [] → slice ≡ line
    → AppendsShown (ShowsLine bare max depth slice) (IsRefusedLine bare max number slice) (Err error) mid then new now
    → ShowsNextLine bare max depth number input (Err error) left old held new now
line_stops bare max depth number input slice line error left old mid held then new now begins leaves holds same appended_text =
    let P : List ℕ → Type 0 = λ xs. AppendsShown (ShowsLine bare max depth xs) (IsRefusedLine bare max number xs) (Err error) mid then new now in
    line_stopped bare max depth number input line error left old mid held then new now begins leaves holds (subst P same appended_text)

-- The line is too long, and the buffer was written.
pub far_stops : (bare : Bool) (max depth number : ℕ) (input ahead rest : List ℕ) (left old mid : Option (List ℕ)) (held then : List ℕ) (new : Option (List ℕ)) (now : List ℕ)
    → input ≡ ahead ++ rest → IsTooFar max ahead → left ≡ Some rest → GrowsHolding old held mid then [] → Grows mid new then
    → ShowsNextLine bare max depth number input (Err (NoMessage number)) left old held new now
far_stops bare max depth number input ahead rest left old mid held then new now parts (front, after, halves, none, long) known_input holds out =
    let far : IsTooFar max input = (front, after ++ rest, parts ∙ ap (λ (xs : List ℕ). xs ++ rest) halves ∙ append_assoc front after rest, none, long) in
    (inr (far, refl), (ahead, rest, parts, known_input), written_out old mid held then new holds out)

-- A write of the buffer failed before anything of the next line was shown.
pub unwritten : (bare : Bool) (max depth number : ℕ) (input ahead rest : List ℕ) (left old mid : Option (List ℕ)) (held then : List ℕ) (new : Option (List ℕ)) (now : List ℕ)
    → input ≡ ahead ++ rest → left ≡ Some rest → GrowsHolding old held mid then [] → GrowsByFront mid new then
    → ShowsNextLine bare max depth number input (Err Write) left old held new now
unwritten bare max depth number input ahead rest left old mid held then new now parts known_input holds front =
    let P : List ℕ → Type 0 = λ o. GrowsByFront mid new o in
    ((ahead, rest, parts, known_input), [], inl refl, written_part old mid held then [] new holds (subst P (sym (append-nil then)) front))

-- The last line was shown, and everything is written.
pub last_shown : (bare : Bool) (max depth number : ℕ) (input ahead rest last : List ℕ) (left old mid next : Option (List ℕ)) (held then held_now : List ℕ) (new : Option (List ℕ)) (now : List ℕ)
    → input ≡ ahead ++ rest → rest ≡ [] → IsLine max ahead → left ≡ Some rest → GrowsHolding old held mid then [] → ShowsLine bare max depth ahead last
    → GrowsHolding mid then next held_now last → Grows next new held_now → ShowsNextLine bare max depth number input (Ok false) left old held new now
last_shown bare max depth number input ahead rest last left old mid next held then held_now new now parts none line known_input holds shows appends_bytes out =
    let all : ahead ≡ input = sym (parts ∙ ap (λ (xs : List ℕ). ahead ++ xs) none ∙ append-nil ahead) in
    let P : List ℕ → Type 0 = λ xs. IsLine max xs × ShowsLine bare max depth xs last in
    let here : IsLine max input × ShowsLine bare max depth input last = subst P all (line, shows) in
    (last, here.0, here.1, known_input ∙ ap Some none, holding_out old held next held_now new last (holding_then old held mid then next held_now [] last holds appends_bytes) out)

-- The last line was shown, and a write failed.
pub last_unwritten : (bare : Bool) (max depth number : ℕ) (input line last : List ℕ) (left old mid next : Option (List ℕ)) (held then held_now : List ℕ) (new : Option (List ℕ)) (now : List ℕ)
    → BeginsWithLine max input line → LeavesPart input left → GrowsHolding old held mid then [] → ShowsLine bare max depth line last → GrowsHolding mid then next held_now last
    → GrowsByFront next new held_now → ShowsNextLine bare max depth number input (Err Write) left old held new now
last_unwritten bare max depth number input line last left old mid next held then held_now new now begins leaves holds shows appends_bytes front =
    let P : List ℕ → Type 0 = λ o. GrowsByFront next new o in
    let Q : List ℕ → Type 0 = λ o. GrowsByFront old new o in
    let both = holding_then old held mid then next held_now [] last holds appends_bytes in (
      leaves,
      last,
      inr (line, begins, shows),
      subst Q (append-nil (held ++ last)) (holding_front old held next held_now new last [] both (subst P (sym (append-nil held_now)) front)),
    )

-- The input is its only line.
pub only_line : (max : ℕ) (input ahead rest : List ℕ) → input ≡ ahead ++ rest → rest ≡ [] → IsLine max ahead → BeginsWithLine max input ahead
only_line max input ahead rest parts none line = (line, inl (parts ∙ ap (λ (xs : List ℕ). ahead ++ xs) none ∙ append-nil ahead))

-- What is appended for a slice.
pub appended_of : (bare : Bool) (max depth : ℕ) (slice line : List ℕ) (old : Option (List ℕ)) (held : List ℕ) (new : Option (List ℕ)) (now : List ℕ) → slice ≡ line
    → (shown : List ℕ) × ShowsLine bare max depth slice shown × GrowsHolding old held new now shown
    → (shown : List ℕ) × ShowsLine bare max depth line shown × GrowsHolding old held new now shown
appended_of bare max depth slice line old held new now same appended_text =
    let P : List ℕ → Type 0 = λ xs. (shown : List ℕ) × ShowsLine bare max depth xs shown × GrowsHolding old held new now shown in subst P same appended_text

-- ---- the end of the input

pub more_ahead : (ahead octets slice : List ℕ) → slice ≡ ahead → 0 < length slice → ahead ++ octets ≢ []
more_ahead ahead octets slice same some none =
    let size : length ahead + length octets ≡ 0 = sym (length-append ahead octets) ∙ ap length none in omega (arith, size, some, ap length same)

pub none_ahead : (ahead slice : List ℕ) → slice ≡ ahead → length slice ≡ 0 → ahead ≡ []
none_ahead ahead slice same none = nil_from_length ahead (sym (ap length same) ∙ none)

pub all_unread : (ahead input : List ℕ) (fault : ReadFault) (left : Option (List ℕ)) → ahead ≡ [] → left ≡ Some input → IsUnread fault
    → IsAllRead (ahead ++ input) (Err fault) left
all_unread ahead input read.Read left none known_input unread = known_input ∙ ap (λ (xs : List ℕ). Some (xs ++ input)) (sym none)
all_unread ahead input read.Memory left none known_input unread = (ahead, input, refl, known_input)
all_unread ahead input read.CutOff left none known_input (inl ne) = cc
all_unread ahead input read.CutOff left none known_input (inr ne) = cc
all_unread ahead input (read.TooShort n) left none known_input (inl ne) = cc
all_unread ahead input (read.TooShort n) left none known_input (inr ne) = cc
all_unread ahead input (read.TooLong n h) left none known_input (inl ne) = cc
all_unread ahead input (read.TooLong n h) left none known_input (inr ne) = cc
