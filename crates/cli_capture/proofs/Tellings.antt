-- Connections that are told, one after another.
use Rattle.std.proofs.Common.{◌≡◌, ◌++◌, ℕ, Bool, true, List, [], ◌∷◌, Option, None, Some, refl, sym, ◌∙◌, ap, subst, append_assoc}
use Rattle.std.specs.Prelude.{Result, Ok, Err, IfErr, IfOk, OnOk}
use Rattle.std.proofs.lemmas.List.{append-nil}
use Rattle.std.proofs.lemmas.Grind.{flat_map-append}
use Rattle.hsms_frame.specs.Io.{Grows}
use Rattle.hsms_machine.specs.Settings.{Parameters}
use Rattle.hsms_machine.specs.declared.settings.Role.{Role}
use Rattle.capture_errors.specs.declared.capture_error.CaptureError.{CaptureError}
use Rattle.capture_log.specs.declared.both_logs.BothLogs.{BothLogs}
use Rattle.capture_log.specs.declared.written_log.WrittenLog.{WrittenLog}
use Rattle.capture_log.specs.declared.socket_pair.Pair.{Pair}
use Rattle.capture_log.specs.declared.byte_buffer.Text.{Text}
use Rattle.cli_capture.specs.declared.report.OutputMode.TheVariants.{Verdicts, Log}
use Rattle.cli_capture.specs.declared.report.Report.{Report}
use Rattle.capture_errors.specs.declared.incomplete.Shortfall.{Shortfall}
use Rattle.capture_log.specs.declared.stop.Stop.{Stop}
use Rattle.cli_capture.specs.Command.{CapturesTo}
use Rattle.cli_capture.specs.SkippedPackets.{line_of}
use Rattle.capture_errors.specs.Errors.{IsRefusal}
use Rattle.cli_capture.specs.InnerStopError.{IsRefused}
use Rattle.cli_capture.specs.Report.{Answers, Found, HasEmitted, LogOutputState, failed_after, found_after, found_behind, found_of, found_with, lines_of, missing_after, nothing_found, telling_lines}
use Rattle.cli_capture.specs.InnerReport.{Concludes, EndsWith, Finishes, IsReported, Emits, TellsBehind, TellsBy, TellsVerdicts, Writes}

-- ---- what is told

pub tells_nothing : (old : Report) → Emits old old
unfolding Emits
tells_nothing old = (
  λ verdicts. ([], record { page = sym (append-nil old.page.octets); found = refl; active = refl; passive = refl; manner = verdicts; left_out = refl }),
  λ j log. (j, log, refl, refl, refl, refl),
)

pub tells_behind : {T E : Type 0} (result : Result T E) (old new : Report) → OnOk result (Emits old new) → OnOk result (TellsBehind old new)
tells_behind (Ok done) old new emits = (old.left_out, emits)
tells_behind (Err fault) old new emits = tt

pub same_tells : {T E : Type 0} (result : Result T E) (old new : Report) → new ≡ old → OnOk result (Emits old new)
same_tells (Ok done) old new is = subst (λ (r : Report). Emits old r) (sym is) (tells_nothing old)
same_tells (Err fault) old new is = tt

pub found_more : (found : Found) (one two : List LogOutputState) → found_behind found (one ++ two) ≡ found_behind (found_behind found one) two
found_more found [] two = refl
found_more found (output_state ∷ one) two = found_more (found_after found output_state) one two

-- lines behind lines
pub joined : (pa pb pc : List ℕ) (ra rp rb rq : Role) (one two : List LogOutputState) → rb ≡ ra → rq ≡ rp → pb ≡ pa ++ lines_of ra rp one
    → pc ≡ pb ++ lines_of rb rq two → pc ≡ pa ++ lines_of ra rp (one ++ two)
joined pa pb pc ra rp rb rq one two same_a same_p first second =
    subst (λ r. pc ≡ pb ++ lines_of r rp two) same_a (subst (λ r. pc ≡ pb ++ lines_of rb r two) same_p second)
    ∙ ap (λ p. p ++ lines_of ra rp two) first
    ∙ append_assoc pa (lines_of ra rp one) (lines_of ra rp two)
    ∙ ap (λ l. pa ++ l) (sym (flat_map-append (telling_lines ra rp) one two))

verdicts_then : (a b c : Report) → (a.manner ≡ Verdicts → (tellings : List LogOutputState) × HasEmitted tellings a b)
    → (b.manner ≡ Verdicts → (tellings : List LogOutputState) × HasEmitted tellings b c) → a.manner ≡ Verdicts → (tellings : List LogOutputState) × HasEmitted tellings a c
verdicts_then a b c first second verdicts =
    let one = first verdicts in
    let two = second one.1.manner in (
      one.0 ++ two.0,
      record {
        page = joined a.page.octets b.page.octets c.page.octets a.active.role a.passive.role b.active.role b.passive.role one.0 two.0
            (ap (λ p. p.role) one.1.active) (ap (λ p. p.role) one.1.passive) one.1.page two.1.page;
        found = two.1.found ∙ ap (λ f. found_behind f two.0) one.1.found ∙ sym (found_more (found_of a) one.0 two.0);
        active = two.1.active ∙ one.1.active;
        passive = two.1.passive ∙ one.1.passive;
        manner = two.1.manner;
        left_out = two.1.left_out ∙ one.1.left_out;
      },
    )

pub tells_then : (a b c : Report) → Emits a b → Emits b c → Emits a c
unfolding Emits
tells_then a b c first second = (
  λ verdicts. verdicts_then a b c first.0 second.0 verdicts,
  λ j log.
      let one = first.1 j log in
      let two = second.1 one.0 one.1 in
      (two.0, two.1, two.2 ∙ one.2, two.3 ∙ one.3, two.4 ∙ one.4, two.5 ∙ one.5),
)

pub ok_then : {T E : Type 0} (result : Result T E) (a b c : Report) → Emits a b → OnOk result (Emits b c) → OnOk result (Emits a c)
ok_then (Ok done) a b c first second = tells_then a b c first second
ok_then (Err fault) a b c first second = second

-- where the log of an end is told
pub log_tells : {T E : Type 0} (result : Result T E) (old new : Report) (journal next : WrittenLog) (page : Text) → old.manner ≡ Log journal
    → new ≡ record old { manner = Log next; page = page } → (next.settings ≡ journal.settings) × (next.side ≡ journal.side) → OnOk result (Emits old new)
unfolding Emits
log_tells (Ok done) old new journal next page of is same = (
  λ verdicts. absurd (let none : Log journal ≡ Verdicts = sym of ∙ verdicts in cc),
  λ j log.
      let one : Log journal ≡ Log j = sym of ∙ log in
      let journal_is : journal ≡ j = cc in (
        next,
        ap (λ (r : Report). r.manner) is,
        same.0 ∙ ap (λ (x : WrittenLog). x.settings) journal_is,
        same.1 ∙ ap (λ (x : WrittenLog). x.side) journal_is,
        ap (λ (r : Report). r.active) is,
        ap (λ (r : Report). r.passive) is,
      ),
)
log_tells (Err fault) old new journal next page of is same = tt

-- ---- a connection is over

abbrev found : Bool → Option Shortfall → Bool → Found
found failed shortfall emitted = record { failed = failed; shortfall = shortfall; emitted = emitted }

same_found : (f g : Bool) (s u : Option Shortfall) (t v : Bool) → f ≡ g → s ≡ u → t ≡ v → found f s t ≡ found g u v
same_found f g s u t v is_f is_s is_t =
    ap (λ x. found x s t) is_f ∙ ap (λ x. found g x t) is_s ∙ ap (λ x. found g u x) is_t

-- noted, and then told
abbrev NotedAs : Option Shortfall → Report → Report → Type 0
NotedAs shortfall old mid = mid ≡ record old { has_told = true; shortfall = missing_after old.shortfall shortfall }

abbrev ToldAs : Report → Report → Type 0
ToldAs mid new = new ≡ record mid { has_failed = new.has_failed; page = new.page }

has_one : (output_state : LogOutputState) (old mid new : Report) → NotedAs output_state.shortfall old mid → ToldAs mid new → old.manner ≡ Verdicts
    → IsReported output_state mid new → HasEmitted (output_state ∷ []) old new
has_one output_state old mid new noted same verdicts emitted = record {
  page =
      subst (λ (r : Report). new.page.octets ≡ r.page.octets ++ telling_lines r.active.role r.passive.role output_state) noted emitted.page
      ∙ ap (λ l. old.page.octets ++ l) (sym (append-nil (telling_lines old.active.role old.passive.role output_state)));
  found = same_found new.has_failed (failed_after (failed_after old.has_failed output_state.active) output_state.passive)
      new.shortfall (missing_after old.shortfall output_state.shortfall) new.has_told true
      (subst (λ (r : Report). new.has_failed ≡ failed_after (failed_after r.has_failed output_state.active) output_state.passive) noted emitted.failed)
      (ap (λ (r : Report). r.shortfall) same ∙ ap (λ (r : Report). r.shortfall) noted)
      (ap (λ (r : Report). r.has_told) same ∙ ap (λ (r : Report). r.has_told) noted);
  active = ap (λ (r : Report). r.active) same ∙ ap (λ (r : Report). r.active) noted;
  passive = ap (λ (r : Report). r.passive) same ∙ ap (λ (r : Report). r.passive) noted;
  manner = ap (λ (r : Report). r.manner) same ∙ ap (λ (r : Report). r.manner) noted ∙ verdicts;
  left_out = ap (λ (r : Report). r.left_out) same ∙ ap (λ (r : Report). r.left_out) noted;
}

one_emitted : (pair : Pair) (shortfall : Option Shortfall) (ends : Option BothLogs) (old mid new : Report) → NotedAs shortfall old mid
    → ToldAs mid new → old.manner ≡ Verdicts → TellsVerdicts pair shortfall ends mid new
    → (tellings : List LogOutputState) × HasEmitted tellings old new
one_emitted pair shortfall None old mid new noted same verdicts emitted =
    let output_state : LogOutputState = record { pair = pair; shortfall = shortfall; active = None; passive = None } in
    (output_state ∷ [], has_one output_state old mid new noted same verdicts emitted)
one_emitted pair shortfall (Some ends) old mid new noted same verdicts emitted =
    let output_state : LogOutputState = record { pair = pair; shortfall = shortfall; active = Some emitted.0; passive = Some emitted.1 } in
    (output_state ∷ [], has_one output_state old mid new noted same verdicts emitted.4)

pub concluded : (pair : Pair) (shortfall : Option Shortfall) (ends : Option BothLogs) (old mid new : Report) → NotedAs shortfall old mid
    → TellsBy mid.manner pair shortfall ends mid new → ToldAs mid new → Emits old new
unfolding Emits
concluded pair shortfall ends old mid new noted emits same = (
  λ verdicts.
      let at_mid : mid.manner ≡ Verdicts = ap (λ (r : Report). r.manner) noted ∙ verdicts in
      one_emitted pair shortfall ends old mid new noted same verdicts (subst (λ m. TellsBy m pair shortfall ends mid new) at_mid emits),
  λ j log. (
    j,
    ap (λ (r : Report). r.manner) same ∙ ap (λ (r : Report). r.manner) noted ∙ log,
    refl,
    refl,
    ap (λ (r : Report). r.active) same ∙ ap (λ (r : Report). r.active) noted,
    ap (λ (r : Report). r.passive) same ∙ ap (λ (r : Report). r.passive) noted,
  ),
)

-- ---- what is written

pub writes_nothing : (old : Report) (before : Option (List ℕ)) → Writes old before old before
unfolding Writes
writes_nothing old before verdicts empty = (
  [],
  record {
    lines = λ octets is. is ∙ ap Some (sym (append-nil octets));
    found = refl;
    active = refl;
    passive = refl;
    manner = verdicts;
    page = empty;
  },
)

pub writes_then : (a b c : Report) (before mid after : Option (List ℕ)) → Writes a before b mid → Writes b mid c after
    → Writes a before c after
unfolding Writes
writes_then a b c before mid after first second verdicts empty =
    let one = first verdicts empty in
    let two = second one.1.manner one.1.page in
    let lines = lines_of a.active.role a.passive.role one.0 in
    let more = lines_of b.active.role b.passive.role two.0 in (
      one.0 ++ two.0,
      record {
        lines = λ octets is. two.1.lines (octets ++ lines) (one.1.lines octets is)
            ∙ ap Some (joined octets (octets ++ lines) ((octets ++ lines) ++ more) a.active.role a.passive.role b.active.role
            b.passive.role one.0 two.0 (ap (λ p. p.role) one.1.active) (ap (λ p. p.role) one.1.passive) refl refl);
        found = two.1.found ∙ ap (λ f. found_behind f two.0) one.1.found ∙ sym (found_more (found_of a) one.0 two.0);
        active = two.1.active ∙ one.1.active;
        passive = two.1.passive ∙ one.1.passive;
        manner = two.1.manner;
        page = two.1.page;
      },
    )

-- what is told is put out
pub writes_told : (old mid new : Report) (before after : Option (List ℕ)) → TellsBehind old mid → Grows before after mid.page.octets
    → new ≡ record mid { page = new.page } → new.page.octets ≡ [] → Writes old before new after
unfolding Emits Writes
writes_told old mid new before after emits grows same none verdicts empty =
    let emitted = emits.1.0 verdicts in
    let lines = lines_of old.active.role old.passive.role emitted.0 in (
      emitted.0,
      record {
        lines = λ octets is. grows octets is
            ∙ ap (λ l. Some (octets ++ l)) (emitted.1.page ∙ ap (λ p. p ++ lines) empty);
        found = ap found_of same ∙ emitted.1.found;
        active = ap (λ (r : Report). r.active) same ∙ emitted.1.active;
        passive = ap (λ (r : Report). r.passive) same ∙ emitted.1.passive;
        manner = ap (λ (r : Report). r.manner) same ∙ emitted.1.manner;
        page = none;
      },
    )

-- the connections that were left are told, and how all ends
concludes_so : (missing : Option Shortfall) (old noted mid new : Report) (result : Result Bool Stop)
    → noted ≡ record old { shortfall = missing_after old.shortfall missing } → Emits noted mid → Finishes (found_of mid) result
    → new.page.octets ≡ mid.page.octets ++ line_of mid.left_out → Concludes missing old new result
unfolding Emits
concludes_so missing old noted mid new result is emits answers page = λ verdicts.
    let emitted = emits.0 (ap (λ (r : Report). r.manner) is ∙ verdicts) in
    let lines = lines_of old.active.role old.passive.role emitted.0 in
    let left_out = line_of mid.left_out in
    let there : mid.page.octets ≡ old.page.octets ++ lines =
    subst (λ (r : Report). mid.page.octets ≡ r.page.octets ++ lines_of r.active.role r.passive.role emitted.0) is emitted.1.page in (
      emitted.0,
      mid.left_out,
      page ∙ ap (λ p. p ++ left_out) there ∙ append_assoc old.page.octets lines left_out,
      subst (λ f. Finishes f result) (emitted.1.found ∙ ap (λ f. found_behind f emitted.0) (ap found_of is)) answers,
    )

pub concludes : (missing : Option Shortfall) (old noted mid new : Report) (result : Result Bool Stop)
    → noted ≡ record old { shortfall = missing_after old.shortfall missing } → Emits noted mid → Finishes (found_of mid) result
    → OnOk result (new.page.octets ≡ mid.page.octets ++ line_of mid.left_out)
    → IfOk result (λ well. Concludes missing old new (Ok well))
concludes missing old noted mid new (Ok well) is emits answers page = concludes_so missing old noted mid new (Ok well) is emits answers page
concludes missing old noted mid new (Err stop) is emits answers page = tt

-- the same where that is refused
pub concludes_told : (missing : Option Shortfall) (old noted mid new : Report) (result : Result Bool Stop)
    → noted ≡ record old { shortfall = missing_after old.shortfall missing } → Emits noted mid → Finishes (found_of mid) result
    → IfErr result (λ stop. IsRefused stop → new.page.octets ≡ mid.page.octets ++ line_of mid.left_out)
    → IfErr result (λ stop. IsRefused stop → Concludes missing old new (Err stop))
concludes_told missing old noted mid new (Ok well) is emits answers page = tt
concludes_told missing old noted mid new (Err stop) is emits answers page = λ refused.
    concludes_so missing old noted mid new (Err stop) is emits answers (page refused)

pub ends_with : (missing : Option Shortfall) (old mid : Report) (before after : Option (List ℕ)) (ended : Result Bool Stop) (result : Result Bool CaptureError)
    → Concludes missing old mid ended → ((found : Found) → Finishes found ended → Answers found result) → Grows before after mid.page.octets
    → EndsWith missing old before after result
ends_with missing old mid before after ended result concludes answers grows = λ verdicts empty.
    let end = concludes verdicts in
    let lines = lines_of old.active.role old.passive.role end.0 ++ line_of end.1 in (
      end.0,
      end.1,
      (λ octets is. grows octets is ∙ ap (λ l. Some (octets ++ l)) (end.2 ∙ ap (λ p. p ++ lines) empty)),
      answers (found_behind (found_with (found_of old) missing) end.0) end.3,
    )

-- the lines of both parts, and the answer
captures_so : (active passive : Parameters) (is_reported : Type 0) (missing : Option Shortfall) (first mid : Report)
    → (before between after : Option (List ℕ)) (result : Result Bool CaptureError) → (is_reported → first.manner ≡ Verdicts)
    → first.active ≡ active → first.passive ≡ passive → found_of first ≡ nothing_found → first.page.octets ≡ []
    → Writes first before mid between → EndsWith missing mid between after result
    → is_reported → CapturesTo active.role passive.role before after result
unfolding Writes
captures_so active passive is_reported missing first mid before between after result manner is_a is_p none empty writes ends emitted =
    let one = writes (manner emitted) empty in
    let two = ends one.1.manner one.1.page in
    let lines = lines_of first.active.role first.passive.role one.0 in
    let more = lines_of mid.active.role mid.passive.role two.0 in
    let all = lines_of first.active.role first.passive.role (one.0 ++ two.0) in
    let left_out = line_of two.1 in
    let grown : Grows before after (all ++ left_out) = λ octets is.
    two.2 (octets ++ lines) (one.1.lines octets is)
    ∙ ap Some (sym (append_assoc (octets ++ lines) more left_out)
    ∙ ap (λ x. x ++ left_out) (joined octets (octets ++ lines) ((octets ++ lines) ++ more) first.active.role first.passive.role
    mid.active.role mid.passive.role one.0 two.0 (ap (λ (p : Parameters). p.role) one.1.active)
    (ap (λ (p : Parameters). p.role) one.1.passive) refl refl)
    ∙ append_assoc octets all left_out) in (
      one.0,
      two.0,
      missing,
      two.1,
      subst (λ (p : Parameters). Grows before after (lines_of active.role p.role (one.0 ++ two.0) ++ left_out)) is_p
          (subst (λ (p : Parameters). Grows before after (lines_of p.role first.passive.role (one.0 ++ two.0) ++ left_out)) is_a grown),
      subst (λ f. Answers (found_behind (found_with f missing) two.0) result)
          (one.1.found ∙ ap (λ f. found_behind f one.0) none) two.3,
    )

pub captures : (active passive : Parameters) (is_reported : Type 0) (missing : Option Shortfall) (first mid : Report)
    → (before between after : Option (List ℕ)) (result : Result Bool CaptureError) → (is_reported → first.manner ≡ Verdicts)
    → first.active ≡ active → first.passive ≡ passive → found_of first ≡ nothing_found → first.page.octets ≡ []
    → Writes first before mid between → IfOk result (λ well. EndsWith missing mid between after (Ok well))
    → IfOk result (λ well. is_reported → CapturesTo active.role passive.role before after (Ok well))
captures active passive is_reported missing first mid before between after (Ok well) manner is_a is_p none empty writes ends =
    captures_so active passive is_reported missing first mid before between after (Ok well) manner is_a is_p none empty writes ends
captures active passive is_reported missing first mid before between after (Err fault) manner is_a is_p none empty writes ends = tt

-- the same where that is refused
pub captures_told : (active passive : Parameters) (is_reported : Type 0) (missing : Option Shortfall) (first mid : Report)
    → (before between after : Option (List ℕ)) (result : Result Bool CaptureError) → (is_reported → first.manner ≡ Verdicts)
    → first.active ≡ active → first.passive ≡ passive → found_of first ≡ nothing_found → first.page.octets ≡ []
    → Writes first before mid between → IfErr result (λ fault. IsRefusal fault → EndsWith missing mid between after (Err fault))
    → IfErr result (λ fault. IsRefusal fault → is_reported → CapturesTo active.role passive.role before after (Err fault))
captures_told active passive is_reported missing first mid before between after (Ok well) manner is_a is_p none empty writes ends = tt
captures_told active passive is_reported missing first mid before between after (Err fault) manner is_a is_p none empty writes ends = λ refusal.
    captures_so active passive is_reported missing first mid before between after (Err fault) manner is_a is_p none empty writes (ends refusal)
