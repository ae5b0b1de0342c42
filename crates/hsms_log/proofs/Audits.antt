-- The result of an audit, by what it read.
use Rattle.std.proofs.Common.{◌≡◌, ◌≢◌, ◌<◌, ◌≤◌, ◌++◌, inl, inr, ℕ, List, [], ◌∷◌, length, take, drop, eqb, true, false, Some, None, Ok, refl, sym, ap, ◌∙◌, subst, arith, append_assoc, length-append, take-append-drop, rules}
use Rattle.std.specs.Prelude.{Option, MatchOption, nat_lt}
use Rattle.std.proofs.lemmas.List.{append-nil}
use Rattle.std.proofs.lemmas.Bool.{ne_eqb, lt-ltb}
use Rattle.hsms_frame.specs.CallCounts.{next_count}
use Rattle.hsms_frame.specs.Io.{SourceState, IfRecorded, Takes, Stays, IsAtEnd, ends_after}
use Rattle.hsms_machine.specs.declared.entry.Entry.{Entry}
use Rattle.hsms_machine.specs.Settings.{Parameters}
use Rattle.hsms_log.specs.declared.audit_state.Session.{Session}
use Rattle.hsms_log.specs.declared.verdict.Why.{Why}
use Rattle.hsms_log.specs.declared.verdict.Verdict.{Verdict}
use Rattle.hsms_log.specs.declared.verdict.Verdict.TheVariants.{Pass, Fail}
use Rattle.hsms_log.specs.Counters.{Counters}
use Rattle.hsms_log.specs.Lines.{IsOverlong}
use Rattle.hsms_log.specs.LineFormat.{line_limit}
use Rattle.hsms_log.specs.Log.{EncodesLog}
use Rattle.hsms_log.specs.Verdict.{LineFails, Fails, HasAuditVerdict, OverlongAfter, FailsOnward}
use Rattle.hsms_log.specs.AuditState.{Counts, Tracks, limit_after}
use Rattle.hsms_log.specs.LineReader.{Reading, StateInvariant, FailsAs}
use Rattle.hsms_log.specs.InnerLineReader.{IsFailure}
use Rattle.hsms_log.specs.Auditing.{AuditsAs, HoldsNoFailure, FrontHolds, UsesReads}
use Rattle.hsms_log.specs.InnerAuditing.{HasRead}
use Rattle.hsms_log.proofs.Uniqueness.{RunLaws, run_invariant, EncodesLog-unique}

-- ---- a text in whose state a reader is holds no failure

no_session : (lines : List (List ℕ)) (part : List ℕ) → lines ≡ [] → (IsOverlong 256 part → ⊥) → OverlongAfter lines part → ⊥
no_session [] part none short long = short long
no_session (first ∷ others) part none short long = cc none

some_session : (lines : List (List ℕ)) (part : List ℕ) (s : Parameters) (log : List Entry) → EncodesLog lines s log
    → (IsOverlong (line_limit s.max) part → ⊥) → OverlongAfter lines part → ⊥
some_session [] part s log encoded_bytes short long = encoded_bytes
some_session (first ∷ others) part s log encoded_bytes short (t, front, again, long) =
    let same = EncodesLog-unique (first ∷ others) s t log front encoded_bytes again.encoded_bytes in
    let P : ℕ → Type 0 = λ k. IsOverlong k part in
    short (subst P (sym (ap (λ (p : Parameters). line_limit p.max) same.0)) long)

holds_go : (laws : RunLaws) (session : Option Session) (tally : Counters) (lines : List (List ℕ)) (part : List ℕ)
    → MatchOption session ((lines ≡ []) × Counts tally []) (λ t. Tracks t tally lines)
    → (IsOverlong (limit_after session) part → ⊥) → ((n : ℕ) (why : Why) → LineFails lines n why → ⊥) × (OverlongAfter lines part → ⊥)
holds_go laws None tally lines part state short =
    (λ n why h. let size = ap length (sym state.0 ∙ h.3) ∙ length-append h.0 (h.1 ∷ h.2) in omega (arith, size), no_session lines part state.0 short)
holds_go laws (Some session) tally lines part (log, encoded_bytes, has, counts) short =
    (run_invariant laws lines session.settings log (record { encoded_bytes = encoded_bytes; run = has.run }), some_session lines part session.settings log encoded_bytes short)

pub invariant_holds : (laws : RunLaws) (reader : Reading) (text : List ℕ) → StateInvariant reader text → HoldsNoFailure text
invariant_holds laws reader text consistent n why fails =
    let P : List ℕ → Type 0 = λ l. IsOverlong (limit_after reader.line_checker.session) l → ⊥ in
    let both = holds_go laws reader.line_checker.session reader.line_checker.tally _ _ consistent.lines.state (subst P consistent.held consistent.can_continue) in
    elim fails [ inl line ↦ both.0 n why line | inr long ↦ both.1 long.2 ]

-- ---- reads

pub nothing_read : (old : Option (List ℕ)) (reader : Reading) → StateInvariant reader [] → HasRead old reader old
nothing_read old reader consistent input found_fact = ([], input, refl, found_fact, consistent)

-- One more read.
pub reads_more : (old mid new : Option (List ℕ)) (n : ℕ) (buffer : List ℕ) (reader next : Reading) → HasRead old reader mid
    → Takes mid new n buffer → ((text : List ℕ) → StateInvariant reader text → StateInvariant next (text ++ take n buffer)) → HasRead old next new
reads_more old mid new n buffer reader next so_far takes on input found_fact =
    let before = so_far input found_fact in
    let text = before.0 in
    let rest = before.1 in
    let step = takes rest before.3 in (
      text ++ take n buffer,
      drop n rest,
      before.2 ∙ ap (λ l. text ++ l) (sym (take-append-drop n rest)) ∙ ap (λ l. text ++ (l ++ drop n rest)) (sym step.1)
          ∙ sym (append_assoc text (take n buffer) (drop n rest)),
      step.2,
      on text before.4,
    )

-- A read that failed, or that is no longer made.
pub stops : (laws : RunLaws) (old mid new : Option (List ℕ)) (reader : Reading) → HasRead old reader mid → Stays mid new
    → IfRecorded old (λ input. FrontHolds input new)
stops laws old mid new reader so_far same input found_fact =
    let before = so_far input found_fact in
    (before.0, before.1, before.2, same before.1 before.3, invariant_holds laws reader before.0 before.4)

ended_go : (input : List ℕ) (verdict : Verdict) (left : Option (List ℕ)) (ended : Type 0) → left ≡ Some [] → ended
    → HasAuditVerdict input verdict × HoldsNoFailure input → AuditsAs input (Ok verdict) left ended
ended_go input (Pass summary) left ended left_is found both = (both.0, left_is)
ended_go input (Fail n why) left ended left_is found both = (both.0, inl (left_is, found, both.1))

-- The read that found the end.
pub ends : (laws : RunLaws) (old mid new : Option (List ℕ)) (n : ℕ) (buffer : List ℕ) (reader : Reading) (verdict : Verdict) (ended : Type 0)
    → HasRead old reader mid → Takes mid new n buffer → n ≡ 0 → IsAtEnd mid
    → ((text : List ℕ) → StateInvariant reader text → HasAuditVerdict text verdict) → ended → IfRecorded old (λ input. AuditsAs input (Ok verdict) new ended)
ends laws old mid new n buffer reader verdict ended so_far takes none at_end check_result found input found_fact =
    let before = so_far input found_fact in
    let text = before.0 in
    let rest = before.1 in
    let rest_is : rest ≡ [] = at_end rest before.3 in
    let step = takes rest before.3 in
    let left_is : new ≡ Some [] = step.2 ∙ ap (λ k. Some (drop k rest)) none ∙ ap (λ l. Some l) rest_is in
    let whole : text ≡ input = sym (before.2 ∙ ap (λ l. text ++ l) rest_is ∙ append-nil text) in
    let P : List ℕ → Type 0 = λ l. HasAuditVerdict l verdict × HoldsNoFailure l in
    ended_go input verdict new ended left_is found (subst P whole (check_result text before.4, invariant_holds laws reader text before.4))

-- The read whose bytes have a failing line.
pub fails : (laws : RunLaws) (old mid new : Option (List ℕ)) (n : ℕ) (buffer : List ℕ) (reader : Reading) (verdict : Verdict) (ended : Type 0)
    → HasRead old reader mid → Takes mid new n buffer → length (take n buffer) ≤ 4096
    → ((text : List ℕ) → StateInvariant reader text → FailsAs (text ++ take n buffer) verdict) → IfRecorded old (λ input. AuditsAs input (Ok verdict) new ended)
fails laws old mid new n buffer reader (Pass summary) ended so_far takes small failing input found_fact =
    let before = so_far input found_fact in absurd (failing before.0 before.4)
fails laws old mid new n buffer reader (Fail line why) ended so_far takes small failing input found_fact =
    let before = so_far input found_fact in
    let text = before.0 in
    let rest = before.1 in
    let block = take n buffer in
    let step = takes rest before.3 in
    let split : input ≡ text ++ (block ++ drop n rest) =
    before.2 ∙ ap (λ l. text ++ l) (sym (take-append-drop n rest)) ∙ ap (λ l. text ++ (l ++ drop n rest)) (sym step.1) in
    let onward : FailsOnward (text ++ block) line why = failing text before.4 in
    let P : List ℕ → Type 0 = λ l. Fails l line why in (
      subst P (append_assoc text block (drop n rest) ∙ sym split) (onward (drop n rest)),
      inr (text, block, drop n rest, split, step.2, small, invariant_holds laws reader text before.4, onward),
    )

-- A read that returned bytes did not find the end.
pub ends_same : (room n ends : ℕ) → n ≢ 0 → ends_after room (Ok n) ends ≡ ends
ends_same room n ends some = let is : eqb n 0 ≡ false = ne_eqb n 0 some in search rules

-- A read into a block that returned nothing found the end.
pub ends_found : (new room ends n : ℕ) → 0 < room → n ≡ 0 → new ≡ ends_after room (Ok n) ends → new ≡ next_count ends
ends_found new room ends n some none is =
    let P : ℕ → Type 0 = λ k. new ≡ ends_after room (Ok k) ends in
    let here : new ≡ ends_after room (Ok 0) ends = subst P none is in
    let big : nat_lt 0 room ≡ true = lt-ltb 0 room some in
    rw big at here

-- A failure needs no reads.
pub uses_failing : (reads : ℕ) (verdict : Verdict) (old new : SourceState) → IsFailure verdict → UsesReads reads (Ok verdict) old new
uses_failing reads (Pass summary) old new failing = absurd failing
uses_failing reads (Fail n why) old new failing = tt
