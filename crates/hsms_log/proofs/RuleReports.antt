-- Entries and comments that an audit processes without their lines.
use Rattle.std.proofs.Common.{◌≡◌, ◌≤◌, ◌<◌, ◌+◌, ◌*◌, ◌^◌, ◌++◌, ℕ, List, [], ◌∷◌, length, refl, sym, ap, ◌∙◌, Some, None, subst, arith, length-append}
use Rattle.std.specs.Prelude.{Option, MatchOption, codes, decimal}
use Rattle.std.specs.Str.Lines.{strip_carriage_return}
use Rattle.std.proofs.lemmas.Fmt.{length-decimal-le}
use Rattle.hex.specs.Hex.{encode_lower}
use Rattle.hsms_frame.specs.Frame.{Frame}
use Rattle.hsms_frame.specs.Header.{header_octets}
use Rattle.hsms_machine.specs.declared.entry.Entry.{Entry}
use Rattle.hsms_machine.specs.declared.entry.Event.{Event}
use Rattle.hsms_machine.specs.declared.entry.Event.TheVariants.{Up, Sent, Taken, Discarded, T3, Cut, Down}
use Rattle.hsms_machine.specs.declared.entry.Cause.TheVariants.{T6, T7, T8, Length}
use Rattle.hsms_log.specs.declared.audit_state.Session.{Session}
use Rattle.hsms_log.specs.declared.audit_state.LineChecker.{LineChecker}
use Rattle.hsms_log.specs.declared.verdict.Verdict.{Verdict}
use Rattle.hsms_log.specs.declared.verdict.Verdict.TheVariants.{Fail}
use Rattle.hsms_log.specs.declared.verdict.Why.{Why}
use Rattle.hsms_log.specs.Counters.{Counters}
use Rattle.hsms_log.specs.LineFormat.{Carries, IsComment, IsEntry, entry_line, event_text, line_limit, message_octets, system_octets}
use Rattle.hsms_log.specs.AuditState.{Counts, Follows, Tracks, message_size}
use Rattle.hsms_log.specs.LineReader.{FailsAs, Reading, StateInvariant}
use Rattle.hsms_log.specs.Lines.{HasNone}
use Rattle.hsms_log.specs.Verdict.{FailsAfter}
use Rattle.hsms_log.proofs.RuleCheckLaws.{tracks_nothing}
use Rattle.hsms_log.proofs.SixteenDigits.{length-encode}
use Rattle.hsms_log.proofs.AuditInvariants.{fails_at, line_fails, line_invariant}
use Rattle.hsms_log.proofs.Written.{entry_written}

-- ---- the line of an entry whose message is allowed is within its limit

message_length : (frame : Frame) → length (message_octets frame) ≡ 10 + length frame.text
unfolding message_octets
message_length frame = length-append (header_octets frame.header) frame.text

system_length : (system : ℕ) → length (system_octets system) ≡ 4
unfolding system_octets
system_length system = refl

marked : (mark : List ℕ) (max : ℕ) (frame : Frame) → length mark ≡ 2 → 10 + length frame.text ≤ max
    → length (mark ++ encode_lower (message_octets frame)) ≤ 2 * max + 20
marked mark max frame two sized =
    omega (arith, length-append mark (encode_lower (message_octets frame)), two, length-encode (message_octets frame), message_length frame, sized)

expired : (max system : ℕ) (mark : List ℕ) → length mark ≡ 3 → length (mark ++ encode_lower (system_octets system)) ≤ 2 * max + 20
expired max system mark three =
    omega (arith, length-append mark (encode_lower (system_octets system)), three, length-encode (system_octets system), system_length system)

short : (max size : ℕ) (text : List ℕ) → length text ≡ size → size ≤ 20 → length text ≤ 2 * max + 20
short max size text is small = omega (arith, is, small)

event_short : (max : ℕ) (event : Event) → message_size event ≤ max → length (event_text event) ≤ 2 * max + 20
event_short max Up sized = short max 2 (codes "up") refl (omega arith)
event_short max (Sent frame) sized = marked (codes "> ") max frame refl sized
event_short max (Taken frame) sized = marked (codes "< ") max frame refl sized
event_short max (Discarded frame) sized = marked (codes "! ") max frame refl sized
event_short max (T3 system) sized = expired max system (codes "t3 ") refl
event_short max (Cut T6) sized = short max 6 (codes "cut " ++ codes "t6") refl (omega arith)
event_short max (Cut T7) sized = short max 6 (codes "cut " ++ codes "t7") refl (omega arith)
event_short max (Cut T8) sized = short max 6 (codes "cut " ++ codes "t8") refl (omega arith)
event_short max (Cut Length) sized = short max 10 (codes "cut " ++ codes "length") refl (omega arith)
event_short max Down sized = short max 4 (codes "down") refl (omega arith)

pub entry_short : (max : ℕ) (entry : Entry) → entry.time < 2 ^ 64 → message_size entry.event ≤ max → length (entry_line entry) ≤ line_limit max
unfolding entry_line
entry_short max entry time sized =
    let number : length (decimal entry.time) ≤ 20 = length-decimal-le 20 entry.time (omega arith) (omega (arith, time)) time in
    let event = event_short max entry.event sized in
    omega (arith, number, event, length-append (decimal entry.time) (32 ∷ event_text entry.event))

-- Such a line contains the entry.
pub entry_carried : (max : ℕ) (entry : Entry) → IsEntry entry → message_size entry.event ≤ max → Carries max (entry_line entry) (Some entry)
entry_carried max entry fits sized = (entry_short max entry fits.time sized, entry_written entry fits)

-- A comment contains no entry.
pub comment_carried : (max : ℕ) (line : List ℕ) → 256 ≤ max → IsComment line → Carries max line None
comment_carried max line large comment = let fits = comment.fits in (omega (arith, fits, large), comment.blank)

-- A comment after the settings.
pub comment_follows : (old new : LineChecker) (session : Session) → old.session ≡ Some session → new.session ≡ old.session → 256 ≤ session.settings.max
    → new.tally ≡ record old.tally { lines = old.tally.lines + 1 } → (before : List (List ℕ)) (line : List ℕ) → IsComment line → Follows old before
    → Follows new (before ++ line ∷ [])
comment_follows old new session some same large tally before line comment follows =
    let P : Option Session → Type 0 = λ o. MatchOption o ((before ≡ []) × Counts old.tally []) (λ s. Tracks s old.tally before) in
    let Q : Option Session → Type 0 = λ o. MatchOption o ((before ++ line ∷ [] ≡ []) × Counts new.tally []) (λ s. Tracks s new.tally (before ++ line ∷ [])) in
    let size : length (before ++ line ∷ []) ≡ length before + 1 = length-append before (line ∷ []) in
    let lines : new.tally.lines ≡ old.tally.lines + 1 = ap (λ (t : Counters). t.lines) tally in
    record {
      number = omega (arith, size, lines, follows.number);
      state = subst Q (sym (same ∙ some))
          (tracks_nothing session old.tally new.tally before line (comment_carried session.settings.max line large comment) tally (subst P some follows.state));
    }

-- ---- a processed entry has the effect of its line

pub entry_invariant : (old new : Reading) (start : LineChecker) (text line : List ℕ) → old.held ≡ [] → new.held ≡ [] → HasNone 10 line
    → strip_carriage_return line ≡ line → start ≡ old.line_checker → ((before : List (List ℕ)) → Follows start before → Follows new.line_checker (before ++ line ∷ []))
    → StateInvariant old text → StateInvariant new (text ++ (line ++ 10 ∷ []))
entry_invariant old new start text line held held' one whole start_is follows consistent =
    line_invariant old new start text line line one held' start_is (sym whole ∙ ap (λ h. strip_carriage_return (h ++ line)) (sym held)) follows consistent

pub entry_fails : (old : Reading) (start : LineChecker) (line : List ℕ) (m : ℕ) (why : Why) (verdict : Verdict) → old.held ≡ [] → HasNone 10 line
    → strip_carriage_return line ≡ line → start ≡ old.line_checker → verdict ≡ Fail m why → m ≡ old.line_checker.tally.lines + 1
    → ((before : List (List ℕ)) → Follows start before → FailsAfter before line why)
    → (text : List ℕ) → StateInvariant old text → FailsAs (text ++ (line ++ 10 ∷ [])) verdict
entry_fails old start line m why verdict held one whole start_is verdict_is number fails text consistent =
    fails_at (text ++ (line ++ 10 ∷ [])) verdict m (old.line_checker.tally.lines + 1) why verdict_is number
    (line_fails old start text line line why one start_is (sym whole ∙ ap (λ h. strip_carriage_return (h ++ line)) (sym held)) fails consistent)
