-- The text of a log that goes on.
use Rattle.std.proofs.Common.{◌≡◌, ◌≤◌, ◌<◌, ◌^◌, ◌++◌, ℕ, Bool, List, [], ◌∷◌, Option, None, Some, true, false, refl, sym, ◌∙◌, ap, subst, take, drop, length, arith, append_assoc, length-append, take-append-drop}
use Rattle.std.specs.Prelude.{Result, Ok, Err, OnOk, IfSome, MatchOption, codes, decimal, flat_map, is_some}
use Rattle.std.proofs.lemmas.Fmt.{length-decimal-le}
use Rattle.std.proofs.lemmas.List.{append-nil, drop-drop}
use Rattle.std.proofs.lemmas.List.Elements.{All-nil}
use Rattle.std.proofs.lemmas.Grind.{flat_map-append}
use Rattle.hsms_machine.specs.Laws.{EmptyLogIsRun, NextOfRunIsValid, NoEntryHasTwoAnswers}
use Rattle.hsms_machine.specs.Settings.{IsWithinLimits, Parameters}
use Rattle.hsms_log.specs.Auditing.{HoldsNoFailure}
use Rattle.hsms_log.specs.Auditor.{HasProcessed}
use Rattle.hsms_log.specs.Laws.{NoTextHasTwoVerdicts, WrittenLogIsItsText}
use Rattle.hsms_log.specs.LineReader.{FailsAs, StateInvariant}
use Rattle.hsms_log.specs.LineFormat.{IsComment, IsEntry, entry_line, line_limit, settings_line}
use Rattle.hsms_log.specs.Verdict.{FailsOnward, HasAuditVerdict, summary_of}
use Rattle.hsms_log.specs.declared.auditor.Auditor.{Auditor}
use Rattle.hsms_log.specs.declared.verdict.Verdict.{Verdict}
use Rattle.hsms_log.specs.declared.verdict.Verdict.TheVariants.{Fail, Pass}
use Rattle.hsms_log.specs.declared.verdict.Why.{Why}
use Rattle.hsms_log.proofs.Audits.{invariant_holds}
use Rattle.hsms_log.proofs.AuditInvariants.{onward_more}
use Rattle.hsms_log.proofs.WrittenLog.{comment_from, decimal_on_line, joined, on_line}
use Rattle.capture_log.specs.declared.audited_log.LogComment.{LogComment}
use Rattle.capture_log.specs.declared.audited_log.LogComment.TheVariants as remark
use Rattle.capture_log.specs.declared.audited_log.LogVerdict.{LogVerdict}
use Rattle.capture_log.specs.AuditedLog.{FailsAt, FailsSo, ContinuesAfter, HasAudited, HasAuditedBy, HasLogged, Note, SaysOf, CurrentState, entry_text, log_text, note_text, packet_after, packet_named, remark_text}
use Rattle.capture_log.specs.InnerAuditedLog.{ProcessesInput, failed_by, has_failed}
use Rattle.capture_log.specs.BothLogs.{Adds, remark_alone}

pub log_text_more : (settings : Parameters) (notes : List Note) (note : Note)
    → log_text settings notes ++ note_text note ≡ log_text settings (notes ++ note ∷ [])
log_text_more settings notes note =
    append_assoc (settings_line settings ++ 10 ∷ []) (flat_map note_text notes) (note_text note)
    ∙ ap (λ rest. (settings_line settings ++ 10 ∷ []) ++ rest)
    (ap (λ rest. flat_map note_text notes ++ rest) (sym (append-nil (note_text note)))
    ∙ sym (flat_map-append note_text notes (note ∷ [])))

-- ---- the packet of the line that fails

packet_more : (before : ℕ) (notes : List Note) (note : Note) → packet_after before (notes ++ note ∷ []) ≡ packet_named (packet_after before notes) note.remark
packet_more before [] note = refl
packet_more before (first ∷ notes) note = packet_more (packet_named before first.remark) notes note

-- what the audit knows of a text that it has heard
processed_by : (auditor : Option Auditor) (text : List ℕ) → HasAuditedBy auditor text → (has_failed auditor ≡ false → ContinuesAfter text)
    × (has_failed auditor ≡ true → (line : ℕ) × (why : Why) × FailsOnward text line why)
processed_by None text reception = absurd reception
processed_by (Some auditor) text reception = by_found auditor.found refl reception
  where
    by_found : (found : Option Verdict) → auditor.found ≡ found → MatchOption found (StateInvariant auditor.reader text) (λ verdict. FailsAs text verdict)
        → (is_some found ≡ false → ContinuesAfter text) × (is_some found ≡ true → (line : ℕ) × (why : Why) × FailsOnward text line why)
    by_found None is consistent = ((λ none. (auditor, is, reception)), λ some. absurd cc)
    by_found (Some (Pass summary)) is fails = absurd fails
    by_found (Some (Fail line why)) is fails = ((λ none. absurd cc), λ some. (line, why, fails))

-- one note more, of which a comment and then an entry is heard
fails_more : (settings : Parameters) (notes : List Note) (note : Note) (old : Option ℕ) (first second : Bool) (packet : ℕ)
    → packet ≡ packet_after 0 (notes ++ note ∷ []) → FailsSo settings notes old
    → (first ≡ true → (line : ℕ) × (why : Why) × FailsOnward (log_text settings (notes ++ note ∷ [])) line why)
    → (second ≡ true → (line : ℕ) × (why : Why) × FailsOnward (log_text settings (notes ++ note ∷ [])) line why)
    → (second ≡ false → ContinuesAfter (log_text settings (notes ++ note ∷ [])))
    → FailsSo settings (notes ++ note ∷ []) (failed_by (failed_by old first packet) second packet)
fails_more settings notes note (Some failed) first second packet is (front, other, rest, line, why, parts, proceeds, fails, last) early late on =
    (front, other, rest ++ note ∷ [], line, why, ap (λ (ns : List Note). ns ++ note ∷ []) parts ∙ append_assoc front (other ∷ rest) (note ∷ []), proceeds, fails, last)
fails_more settings notes note None true second packet is proceeds early late on =
    let fails = early refl in (notes, note, [], fails.0, fails.1, refl, proceeds, fails.2, is)
fails_more settings notes note None false true packet is proceeds early late on =
    let fails = late refl in (notes, note, [], fails.0, fails.1, refl, proceeds, fails.2, is)
fails_more settings notes note None false false packet is proceeds early late on = on refl

pub adds : (old start mid new : CurrentState) (note : Note) → start ≡ record old { packet = packet_named old.packet note.remark }
    → ProcessesInput (remark_text note.remark) start mid → ProcessesInput (entry_text note.entry) mid new → Adds note old new
adds old start mid new note start_is first second settings notes logged =
    let text = log_text settings notes in
    let begun = first.audited text (subst (λ (s : CurrentState). HasAudited text s) (sym start_is) logged.audited) in
    let whole : (text ++ remark_text note.remark) ++ entry_text note.entry ≡ log_text settings (notes ++ note ∷ []) =
    append_assoc text (remark_text note.remark) (entry_text note.entry) ∙ log_text_more settings notes note in
    let ended = subst (λ t. HasAudited t new) whole (second.audited (text ++ remark_text note.remark) begun) in
    let packet : mid.packet ≡ packet_after 0 (notes ++ note ∷ []) =
    first.packet ∙ ap (λ (s : CurrentState). s.packet) start_is ∙ ap (λ n. packet_named n note.remark) logged.packet ∙ sym (packet_more 0 notes note) in
    let before : start.failed ≡ old.failed = ap (λ (s : CurrentState). s.failed) start_is in
    let at_first : mid.failed ≡ failed_by old.failed (has_failed mid.auditor) mid.packet =
    first.failed ∙ ap (λ (f : Option ℕ). failed_by f (has_failed mid.auditor) start.packet) before ∙ ap (λ n. failed_by old.failed (has_failed mid.auditor) n) (sym first.packet) in
    let at_last : new.failed ≡ failed_by (failed_by old.failed (has_failed mid.auditor) mid.packet) (has_failed new.auditor) mid.packet =
    second.failed ∙ ap (λ (f : Option ℕ). failed_by f (has_failed new.auditor) mid.packet) at_first in
    let early = processed_by mid.auditor (text ++ remark_text note.remark) begun in
    let late = processed_by new.auditor (log_text settings (notes ++ note ∷ [])) ended in record {
      audited = ended;
      packet = second.packet ∙ packet;
      failed = subst (λ (f : Option ℕ). FailsSo settings (notes ++ note ∷ []) f) (sym at_last)
          (fails_more settings notes note old.failed (has_failed mid.auditor) (has_failed new.auditor) mid.packet packet logged.failed
          (λ fails. let it = early.1 fails in
          (it.0, it.1, subst (λ t. FailsOnward t it.0 it.1) whole (onward_more (text ++ remark_text note.remark) (entry_text note.entry) it.0 it.1 it.2)))
          late.1 late.0);
    }

-- a comment, and then an entry
pub noted : {E : Type 0} (result : Result (Unit {0}) E) (old start mid new : CurrentState) (note : Note)
    → start ≡ record old { packet = packet_named old.packet note.remark } → ProcessesInput (remark_text note.remark) start mid
    → OnOk result (ProcessesInput (entry_text note.entry) mid new) → OnOk result (Adds note old new)
noted (Ok done) old start mid new note start_is first second = adds old start mid new note start_is first second
noted (Err fault) old start mid new note start_is first second = second

-- nothing more is heard
nothing : (at : CurrentState) → at.failed ≡ failed_by at.failed (has_failed at.auditor) at.packet → ProcessesInput [] at at
nothing at same = record {
  audited = λ text reception. subst (λ t. HasAudited t at) (sym (append-nil text)) reception;
  packet = refl;
  failed = same;
}

failed_twice : (failed : Option ℕ) (fails : Bool) (packet : ℕ) → failed_by failed fails packet ≡ failed_by (failed_by failed fails packet) fails packet
failed_twice (Some first) fails packet = refl
failed_twice None true packet = refl
failed_twice None false packet = refl

pub remarked : {E : Type 0} (result : Result (Unit {0}) E) (old start new : CurrentState) (remark : LogComment)
    → start ≡ record old { packet = packet_named old.packet remark } → OnOk result (ProcessesInput (remark_text remark) start new)
    → OnOk result (Adds (remark_alone remark) old new)
remarked (Ok done) old start new remark start_is processes_input =
    adds old start new new (remark_alone remark) start_is processes_input
    (nothing new (processes_input.failed ∙ failed_twice start.failed (has_failed new.auditor) start.packet
    ∙ subst (λ (f : Option ℕ). failed_by (failed_by start.failed (has_failed new.auditor) start.packet) (has_failed new.auditor) start.packet
    ≡ failed_by f (has_failed new.auditor) new.packet) (sym processes_input.failed)
    (ap (λ n. failed_by (failed_by start.failed (has_failed new.auditor) start.packet) (has_failed new.auditor) n) (sym processes_input.packet))))
remarked (Err fault) old start new remark start_is processes_input = processes_input

-- ---- the settings

-- their line doesn't fail
pub settings_go : (settings : Parameters) → NoTextHasTwoVerdicts → EmptyLogIsRun → WrittenLogIsItsText → IsWithinLimits settings → (line : ℕ) (why : Why)
    → FailsOnward (settings_line settings ++ 10 ∷ []) line why → ⊥
settings_go settings one empty written within line why fails =
    let text = settings_line settings ++ 10 ∷ [] in
    let passes : HasAuditVerdict text (Pass (summary_of [])) = (settings, [], record { encoded_bytes = written settings [] within (All-nil (λ entry. IsEntry entry × (length (entry_line entry) ≤ line_limit settings.max))); run = empty settings }, refl) in
    let falls : HasAuditVerdict text (Fail line why) = subst (λ t. HasAuditVerdict t (Fail line why)) (append-nil text) (fails []) in
    differ (one text (Pass (summary_of [])) (Fail line why) passes falls)
  where
    differ : Pass (summary_of []) ≡ Fail line why → ⊥
    differ is = cc

pub begins : (mid new : CurrentState) (settings : Parameters) (octets : List ℕ) → NoTextHasTwoVerdicts → EmptyLogIsRun → WrittenLogIsItsText → IsWithinLimits settings
    → HasAudited [] mid → mid.packet ≡ 0 → mid.failed ≡ None → octets ≡ settings_line settings ++ 10 ∷ [] → ProcessesInput octets mid new → HasLogged settings [] new
begins mid new settings octets one empty written within blank at_none none is processes_input =
    let whole : octets ≡ log_text settings [] = is ∙ sym (append-nil (settings_line settings ++ 10 ∷ [])) in
    let reception = processes_input.audited [] blank in
    let knows = processed_by new.auditor octets reception in record {
      audited = subst (λ t. HasAudited t new) whole reception;
      packet = processes_input.packet ∙ at_none;
      failed = subst (λ (f : Option ℕ). FailsSo settings [] f) (sym processes_input.failed)
          (subst (λ (f : Option ℕ). FailsSo settings [] (failed_by f (has_failed new.auditor) mid.packet)) (sym none)
          (by_bool (has_failed new.auditor) (λ proceeds. subst ContinuesAfter whole (knows.0 proceeds)) (λ fails. let it = knows.1 fails in
          settings_go settings one empty written within it.0 it.1 (subst (λ t. FailsOnward t it.0 it.1) is it.2))));
    }
  where
    by_bool : (b : Bool) → (b ≡ false → ContinuesAfter (log_text settings [])) → (b ≡ true → ⊥) → FailsSo settings [] (failed_by None b mid.packet)
    by_bool true proceeds fails = absurd (fails refl)
    by_bool false proceeds fails = proceeds refl

-- ---- what is said of a log

holds_by : (auditor : Auditor) (text : List ℕ) → NextOfRunIsValid → NoEntryHasTwoAnswers → auditor.found ≡ None → HasProcessed auditor text → HoldsNoFailure text
holds_by auditor text next one none reception =
    invariant_holds (record { next = next; one = one }) auditor.reader text
    (subst (λ (f : Option Verdict). MatchOption f (StateInvariant auditor.reader text) (λ verdict. FailsAs text verdict)) none reception)

fails_at : (settings : Parameters) (notes : List Note) (failed : Option ℕ) → NextOfRunIsValid → NoEntryHasTwoAnswers → FailsSo settings notes failed → FailsAt settings notes failed
fails_at settings notes None next one proceeds = holds_by proceeds.0 (log_text settings notes) next one proceeds.1 proceeds.2
fails_at settings notes (Some packet) next one (front, note, rest, line, why, parts, proceeds, fails, last) =
    (front, note, rest, parts, record { line = line; why = why; before = holds_by proceeds.0 (log_text settings front) next one proceeds.1 proceeds.2; fails = fails }, last)

pub says : (account : CurrentState) (auditor : Auditor) (emitted : LogVerdict) → NextOfRunIsValid → NoEntryHasTwoAnswers → account.auditor ≡ Some auditor → emitted.packet ≡ account.failed
    → ((text : List ℕ) → HasProcessed auditor text → HasAuditVerdict text emitted.verdict)
    → (settings : Parameters) (notes : List Note) → HasLogged settings notes account → SaysOf settings notes emitted
says account auditor emitted next one there packet gives_verdict settings notes logged = (
  gives_verdict (log_text settings notes) (subst (λ (a : Option Auditor). HasAuditedBy a (log_text settings notes)) there logged.audited),
  subst (λ (f : Option ℕ). FailsAt settings notes f) (sym packet) (fails_at settings notes account.failed next one logged.failed),
)

pub encoded_bytes : (octets header text : List ℕ) → header ≡ take 10 (drop 4 octets) → text ≡ drop 14 octets
    → drop 4 octets ≡ header ++ text
encoded_bytes octets header text front rest =
    sym (ap (λ x. x ++ text) front ∙ ap (λ x. take 10 (drop 4 octets) ++ x) (rest ∙ sym (drop-drop 10 4 octets)) ∙ take-append-drop 10 (drop 4 octets))

pub some_has : {A : Type 0} (found : Option A) (x : A) (P : A → Type 0) → found ≡ Some x → IfSome found P → P x
some_has found x P is holds = subst (λ f. IfSome f P) is holds

-- ---- a comment that is told by itself

numbered : ℕ → List ℕ → List ℕ
numbered packet subsequent = codes "# packet " ++ (decimal packet ++ subsequent)

-- its line, without the end
comment_of : LogComment → List ℕ
comment_of (remark.Packet packet) = numbered packet []
comment_of remark.Replaced = codes "# assumed: replaced by a new connection"
comment_of remark.Assumption = codes "# assumed: before the capture"
comment_of (remark.LeftOut packet) = numbered packet (codes " skipped: its request is not in the capture")

numbered_ends : (packet : ℕ) (subsequent : List ℕ) → codes "# packet " ++ (decimal packet ++ (subsequent ++ 10 ∷ [])) ≡ numbered packet subsequent ++ 10 ∷ []
unfolding numbered
numbered_ends packet subsequent = ap (λ l. codes "# packet " ++ l) (sym (append_assoc (decimal packet) subsequent (10 ∷ [])))

comment_ends : (remark : LogComment) → remark_text remark ≡ comment_of remark ++ 10 ∷ []
unfolding comment_of
comment_ends (remark.Packet packet) = numbered_ends packet []
comment_ends remark.Replaced = refl
comment_ends remark.Assumption = refl
comment_ends (remark.LeftOut packet) = numbered_ends packet (codes " skipped: its request is not in the capture")

numbered_is : (packet : ℕ) (subsequent : List ℕ) → packet < 2 ^ 64 → on_line subsequent ≡ true → length subsequent ≤ 100 → IsComment (numbered packet subsequent)
unfolding numbered
numbered_is packet subsequent small on short =
    let number : length (decimal packet) ≤ 20 = length-decimal-le 20 packet (omega arith) (omega (arith, small)) small in
    let digits = length-append (decimal packet) subsequent in
    let front = length-append (codes "# packet ") (decimal packet ++ subsequent) in
    let nine : length (codes "# packet ") ≡ 9 = refl in
    comment_from (codes "# packet " ++ (decimal packet ++ subsequent)) refl
    (joined (codes "# packet ") (decimal packet ++ subsequent) refl (joined (decimal packet) subsequent (decimal_on_line packet small) on))
    (omega (arith, number, short, digits, front, nine))

-- the number that a comment has
abbrev pub number_in : LogComment → ℕ
number_in (remark.Packet packet) = packet
number_in remark.Replaced = 0
number_in remark.Assumption = 0
number_in (remark.LeftOut packet) = packet

comment_is : (remark : LogComment) → number_in remark < 2 ^ 64 → IsComment (comment_of remark)
unfolding comment_of
comment_is (remark.Packet packet) small = numbered_is packet [] small refl (omega arith)
comment_is remark.Replaced small = comment_from (codes "# assumed: replaced by a new connection") refl refl (omega arith)
comment_is remark.Assumption small = comment_from (codes "# assumed: before the capture") refl refl (omega arith)
comment_is (remark.LeftOut packet) small = numbered_is packet (codes " skipped: its request is not in the capture") small refl (omega arith)

pub passed : {E : Type 0} (result : Result (Unit {0}) E) (old new : CurrentState) (remark : LogComment) → number_in remark < 2 ^ 64
    → OnOk result ((comment : List ℕ) → IsComment comment → ProcessesInput (comment ++ 10 ∷ []) old new) → OnOk result (ProcessesInput (remark_text remark) old new)
passed (Ok done) old new remark small processes_input =
    subst (λ t. ProcessesInput t old new) (sym (comment_ends remark)) (processes_input (comment_of remark) (comment_is remark small))
passed (Err fault) old new remark small processes_input = processes_input
