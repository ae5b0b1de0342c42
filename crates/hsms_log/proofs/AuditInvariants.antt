-- The invariant of the reader of a text in chunks.
use Rattle.std.proofs.Common.{◌≡◌, ◌+◌, ◌++◌, ◌==◌, Bool, inl, inr, ℕ, List, [], ◌∷◌, length, eqb, false, Some, None, Ok, Err, refl, sym, ap, ◌∙◌, subst, arith, append_assoc}
use Rattle.std.specs.Prelude.{Option, Result, MatchOption, IfOk}
use Rattle.std.specs.Str.Lines.{strip_carriage_return}
use Rattle.std.proofs.lemmas.List.{append-nil}
use Rattle.std.proofs.lemmas.List.Elements.{All-nil, All-append}
use Rattle.hsms_log.specs.declared.audit_state.Session.{Session}
use Rattle.hsms_log.specs.declared.audit_state.LineChecker.{LineChecker}
use Rattle.hsms_log.specs.declared.verdict.Why.{Why}
use Rattle.hsms_log.specs.declared.verdict.Why.TheVariants.{Unreadable}
use Rattle.hsms_log.specs.declared.verdict.Verdict.{Verdict}
use Rattle.hsms_log.specs.declared.verdict.Verdict.TheVariants.{Pass, Fail}
use Rattle.hsms_log.specs.Counters.{Counters}
use Rattle.hsms_log.specs.Lines.{HasNone, IsOverlong, ended_lines, open_line, last_lines}
use Rattle.hsms_log.specs.Verdict.{FailsAfter, LinesAudited, HasAuditVerdict, OverlongAfter, FailsOnward, Fails}
use Rattle.hsms_log.specs.AuditState.{Follows, Counts, Tracks, limit_after}
use Rattle.hsms_log.specs.InnerAuditState.{IsChecked}
use Rattle.hsms_log.specs.LineReader.{Reading, StateInvariant, FailsAs}
use Rattle.hsms_log.specs.InnerLineReader.{EndsLine}
use Rattle.hsms_log.proofs.LineLemmas.{ended_lines-first, ended_lines-none, open_line-first, open_line-none}
use Rattle.hsms_log.proofs.GrowingTexts.{ended_lines-append, open_line-append, HasNone-open_line, FailsSoFar-onward}

none_of : HasNone 10 []
none_of = All-nil (λ x. eqb x 10 ≡ false)

nothing_continues : (limit : ℕ) → IsOverlong limit [] → ⊥
nothing_continues limit (inl long) = omega (arith, long)
nothing_continues limit (inr long) = let size = long.0 in omega (arith, size)

-- Before anything was read.
pub begins : (line_checker : LineChecker) (held : List ℕ) → held ≡ [] → Follows line_checker [] → StateInvariant (record { line_checker = line_checker; held = held }) []
begins line_checker held none follows =
    let P : List (List ℕ) → Type 0 = λ l. Follows line_checker l in
    let Q : List ℕ → Type 0 = λ l. IsOverlong (limit_after line_checker.session) l → ⊥ in
    record {
      lines = subst P (sym (ended_lines-none [] none_of)) follows;
      held = none ∙ sym (open_line-none [] none_of);
      can_continue = subst Q (sym none) (nothing_continues (limit_after line_checker.session));
    }

-- The buffered line has no line feed, also not with a part that has none.
held_none : (text held part : List ℕ) → held ≡ open_line text → HasNone 10 part → HasNone 10 (open_line text ++ part)
held_none text held part held_is none = All-append (λ x. eqb x 10 ≡ false) (open_line text) part (HasNone-open_line text) none

-- The lines of a text whose buffered line continues with a part.
part_lines : (text held part : List ℕ) → held ≡ open_line text → HasNone 10 part
    → (ended_lines (text ++ part) ≡ ended_lines text) × (open_line (text ++ part) ≡ held ++ part)
part_lines text held part held_is none =
    let both = held_none text held part held_is none in (
      ended_lines-append text part ∙ ap (λ l. ended_lines text ++ l) (ended_lines-none (open_line text ++ part) both) ∙ append-nil (ended_lines text),
      open_line-append text part ∙ open_line-none (open_line text ++ part) both ∙ ap (λ l. l ++ part) (sym held_is),
    )

-- The lines of a text whose buffered line ends after a part.
end_lines : (text held part : List ℕ) → held ≡ open_line text → HasNone 10 part
    → (ended_lines (text ++ (part ++ 10 ∷ [])) ≡ ended_lines text ++ strip_carriage_return (held ++ part) ∷ []) × (open_line (text ++ (part ++ 10 ∷ [])) ≡ [])
end_lines text held part held_is none =
    let both = held_none text held part held_is none in
    let joined : open_line text ++ (part ++ 10 ∷ []) ≡ (open_line text ++ part) ++ 10 ∷ [] = sym (append_assoc (open_line text) part (10 ∷ [])) in
    let line : ended_lines ((open_line text ++ part) ++ 10 ∷ []) ≡ strip_carriage_return (open_line text ++ part) ∷ [] =
    ended_lines-first (open_line text ++ part) [] both ∙ ap (λ l. strip_carriage_return (open_line text ++ part) ∷ l) (ended_lines-none [] none_of) in (
      ended_lines-append text (part ++ 10 ∷ []) ∙ ap (λ l. ended_lines text ++ ended_lines l) joined ∙ ap (λ l. ended_lines text ++ l) line
          ∙ ap (λ h. ended_lines text ++ strip_carriage_return (h ++ part) ∷ []) (sym held_is),
      open_line-append text (part ++ 10 ∷ []) ∙ ap open_line joined ∙ open_line-first (open_line text ++ part) [] both ∙ open_line-none [] none_of,
    )

-- The buffered line continues.
pub part_invariant : (old new : Reading) (text part : List ℕ) → HasNone 10 part → new.line_checker ≡ old.line_checker → new.held ≡ old.held ++ part
    → (IsOverlong (limit_after old.line_checker.session) new.held → ⊥) → StateInvariant old text → StateInvariant new (text ++ part)
part_invariant old new text part none checker_is held_is short consistent =
    let lines = part_lines text old.held part consistent.held none in
    let P : List (List ℕ) → Type 0 = λ l. Follows old.line_checker l in
    let Q : LineChecker → Type 0 = λ j. Follows j (ended_lines (text ++ part)) in
    let S : LineChecker → Type 0 = λ j. IsOverlong (limit_after j.session) new.held → ⊥ in
    record {
      lines = subst Q (sym checker_is) (subst P (sym lines.0) consistent.lines);
      held = held_is ∙ sym lines.1;
      can_continue = subst S (sym checker_is) short;
    }

-- The buffered line has ended, and was checked.
pub line_invariant : (old new : Reading) (start : LineChecker) (text part line : List ℕ) → HasNone 10 part → new.held ≡ [] → start ≡ old.line_checker
    → line ≡ strip_carriage_return (old.held ++ part)
    → ((before : List (List ℕ)) → Follows start before → Follows new.line_checker (before ++ line ∷ []))
    → StateInvariant old text → StateInvariant new (text ++ (part ++ 10 ∷ []))
line_invariant old new start text part line none held_is start_is line_is follows consistent =
    let lines = end_lines text old.held part consistent.held none in
    let P : List (List ℕ) → Type 0 = λ l. Follows new.line_checker l in
    let Q : List ℕ → Type 0 = λ l. IsOverlong (limit_after new.line_checker.session) l → ⊥ in
    let S : LineChecker → Type 0 = λ j. Follows j (ended_lines text) in
    let all : ended_lines text ++ line ∷ [] ≡ ended_lines (text ++ (part ++ 10 ∷ [])) =
    ap (λ x. ended_lines text ++ x ∷ []) line_is ∙ sym lines.0 in
    record {
      lines = subst P all (follows (ended_lines text) (subst S (sym start_is) consistent.lines));
      held = held_is ∙ sym lines.1;
      can_continue = subst Q (sym held_is) (nothing_continues (limit_after new.line_checker.session));
    }

-- A failure remains if the text continues.
pub onward_more : (text more : List ℕ) (n : ℕ) (why : Why) → FailsOnward text n why → FailsOnward (text ++ more) n why
onward_more text more n why fails rest =
    let P : List ℕ → Type 0 = λ l. Fails l n why in subst P (sym (append_assoc text more rest)) (fails (more ++ rest))

-- The line that has ended fails.
pub line_fails : (old : Reading) (start : LineChecker) (text part line : List ℕ) (why : Why) → HasNone 10 part → start ≡ old.line_checker
    → line ≡ strip_carriage_return (old.held ++ part)
    → ((before : List (List ℕ)) → Follows start before → FailsAfter before line why)
    → StateInvariant old text → FailsOnward (text ++ (part ++ 10 ∷ [])) (old.line_checker.tally.lines + 1) why
line_fails old start text part line why none start_is line_is fails consistent =
    let lines = end_lines text old.held part consistent.held none in
    let S : LineChecker → Type 0 = λ j. Follows j (ended_lines text) in
    let all : ended_lines (text ++ (part ++ 10 ∷ [])) ≡ ended_lines text ++ line ∷ [] =
    lines.0 ∙ ap (λ x. ended_lines text ++ x ∷ []) (sym line_is) in
    FailsSoFar-onward (text ++ (part ++ 10 ∷ [])) (old.line_checker.tally.lines + 1) why
    (inl (ended_lines text, line, [], all, ap (λ k. k + 1) consistent.lines.number, fails (ended_lines text) (subst S (sym start_is) consistent.lines)))

-- The line that ends was checked.
pub line_ended : {E : Type 0} (r : Result (Option Why) E) (old new : Reading) (start : LineChecker) (part line : List ℕ) → HasNone 10 part → new.held ≡ []
    → start ≡ old.line_checker → line ≡ strip_carriage_return (old.held ++ part)
    → IfOk r (IsChecked start.tally.lines new.line_checker.tally.lines (Follows start) (Follows new.line_checker) line)
    → IfOk r (EndsLine old new part)
line_ended (Ok None) old new start part line none held_is start_is line_is check_result = (
  check_result.0 ∙ ap (λ (j : LineChecker). j.tally.lines + 1) start_is,
  λ text. line_invariant old new start text part line none held_is start_is line_is check_result.1,
)
line_ended (Ok (Some why)) old new start part line none held_is start_is line_is check_result = (
  check_result.0 ∙ ap (λ (j : LineChecker). j.tally.lines) start_is,
  λ text. line_fails old start text part line why none start_is line_is check_result.1,
)
line_ended (Err e) old new start part line none held_is start_is line_is check_result = tt

overlong_after : (session : Option Session) (tally : Counters) (lines : List (List ℕ)) (part : List ℕ)
    → MatchOption session ((lines ≡ []) × Counts tally []) (λ s. Tracks s tally lines) → IsOverlong (limit_after session) part → OverlongAfter lines part
overlong_after None tally lines part state long =
    let P : List (List ℕ) → Type 0 = λ l. OverlongAfter l part in subst P (sym state.0) long
overlong_after (Some session) tally [] part (log, encoded_bytes, has, counts) long = absurd encoded_bytes
overlong_after (Some session) tally (first ∷ others) part (log, encoded_bytes, has, counts) long =
    (session.settings, log, record { encoded_bytes = encoded_bytes; run = has.run }, long)

-- The buffered line is too long, however it continues.
pub overlong_onward : (reader : Reading) (text part : List ℕ) (why : Why) → HasNone 10 part → why ≡ Unreadable
    → IsOverlong (limit_after reader.line_checker.session) (reader.held ++ part) → StateInvariant reader text
    → FailsOnward (text ++ part) (reader.line_checker.tally.lines + 1) why
overlong_onward reader text part why none why_is long consistent =
    let lines = part_lines text reader.held part consistent.held none in
    let after = overlong_after reader.line_checker.session reader.line_checker.tally (ended_lines text) (reader.held ++ part) consistent.lines.state long in
    let P : List ℕ → Type 0 = λ l. OverlongAfter (ended_lines text) l in
    let Q : List (List ℕ) → Type 0 = λ l. (reader.line_checker.tally.lines + 1 ≡ length l + 1) × (why ≡ Unreadable) × OverlongAfter l (open_line (text ++ part)) in
    let number : reader.line_checker.tally.lines + 1 ≡ length (ended_lines text) + 1 = ap (λ k. k + 1) consistent.lines.number in
    FailsSoFar-onward (text ++ part) (reader.line_checker.tally.lines + 1) why
    (inr (subst Q (sym lines.0) (number, why_is, subst P (sym lines.1) after)))

-- The buffered line is too long, and has ended.
pub overlong_line : (reader : Reading) (text part : List ℕ) (why : Why) → HasNone 10 part → why ≡ Unreadable
    → IsOverlong (limit_after reader.line_checker.session) (reader.held ++ part) → StateInvariant reader text
    → FailsOnward (text ++ (part ++ 10 ∷ [])) (reader.line_checker.tally.lines + 1) why
overlong_line reader text part why none why_is long consistent =
    let P : List ℕ → Type 0 = λ l. FailsOnward l (reader.line_checker.tally.lines + 1) why in
    subst P (append_assoc text part (10 ∷ []))
    (onward_more (text ++ part) (10 ∷ []) (reader.line_checker.tally.lines + 1) why (overlong_onward reader text part why none why_is long consistent))

-- The text ends.
pub last_audited : (reader : Reading) (text : List ℕ) (verdict : Verdict)
    → ((before : List (List ℕ)) → Follows reader.line_checker before → LinesAudited (before ++ last_lines reader.held) verdict)
    → StateInvariant reader text → HasAuditVerdict text verdict
last_audited reader text verdict check_result consistent =
    let P : List ℕ → Type 0 = λ o. LinesAudited (ended_lines text ++ last_lines o) verdict in
    subst P consistent.held (check_result (ended_lines text) consistent.lines)

-- Nothing follows the last line feed.
pub last_none : (reader : Reading) (start : LineChecker) (verdict : Verdict) → start ≡ reader.line_checker → reader.held ≡ []
    → ((lines : List (List ℕ)) → Follows start lines → LinesAudited lines verdict)
    → (text : List ℕ) → StateInvariant reader text → HasAuditVerdict text verdict
last_none reader start verdict start_is none check_result text =
    last_audited reader text verdict (λ before follows.
    let P : List ℕ → Type 0 = λ o. LinesAudited (before ++ last_lines o) verdict in
    let Q : List (List ℕ) → Type 0 = λ l. LinesAudited l verdict in
    let S : LineChecker → Type 0 = λ j. Follows j before in
    subst P (sym none) (subst Q (sym (append-nil before)) (check_result before (subst S (sym start_is) follows))))

-- A vector that is not empty has bytes.
pub some_held : (xs : List ℕ) (n : ℕ) (b : Bool) → n ≡ length xs → b ≡ (n == 0) → b ≡ false → xs ≡ [] → ⊥
some_held xs n b is test none empty =
    let zero_is : n ≡ 0 = is ∙ ap length empty in
    let bad : false ≡ (0 == 0) = sym none ∙ test ∙ ap (λ (k : ℕ). k == 0) zero_is in cc

last_some : (held : List ℕ) → (held ≡ [] → ⊥) → strip_carriage_return held ∷ [] ≡ last_lines held
last_some [] some = absurd (some refl)
last_some (octet ∷ octets) some = refl

-- A line that does not fail follows the last line feed.
pub last_follows : (reader : Reading) (start later : LineChecker) (line : List ℕ) (verdict : Verdict) → start ≡ reader.line_checker → (reader.held ≡ [] → ⊥)
    → line ≡ strip_carriage_return reader.held → ((before : List (List ℕ)) → Follows start before → Follows later (before ++ line ∷ []))
    → ((lines : List (List ℕ)) → Follows later lines → LinesAudited lines verdict)
    → (text : List ℕ) → StateInvariant reader text → HasAuditVerdict text verdict
last_follows reader start later line verdict start_is some line_is follows check_result text =
    last_audited reader text verdict (λ before consistent.
    let P : List (List ℕ) → Type 0 = λ l. LinesAudited (before ++ l) verdict in
    let S : LineChecker → Type 0 = λ j. Follows j before in
    let last : line ∷ [] ≡ last_lines reader.held = ap (λ l. l ∷ []) line_is ∙ last_some reader.held some in
    subst P last (check_result (before ++ line ∷ []) (follows before (subst S (sym start_is) consistent))))

-- A failure of each text that begins with this one is a failure of this text.
pub audited_onward : (text : List ℕ) (verdict : Verdict) → FailsAs text verdict → HasAuditVerdict text verdict
audited_onward text (Pass summary) fails = absurd fails
audited_onward text (Fail n why) fails =
    let P : List ℕ → Type 0 = λ l. HasAuditVerdict l (Fail n why) in subst P (append-nil text) (fails [])

-- ---- the bytes of one call

pub fails_at : (text : List ℕ) (verdict : Verdict) (m n : ℕ) (why : Why) → verdict ≡ Fail m why → m ≡ n → FailsOnward text n why → FailsAs text verdict
fails_at text verdict m n why verdict_is same fails =
    let P : Verdict → Type 0 = λ v. FailsAs text v in
    let Q : ℕ → Type 0 = λ k. FailsOnward text k why in subst P (sym verdict_is) (subst Q (sym same) fails)

-- One more line of them has ended.
pub parts_on : (octets done rest part more : List ℕ) → octets ≡ done ++ rest → rest ≡ part ++ 10 ∷ more → octets ≡ (done ++ (part ++ 10 ∷ [])) ++ more
parts_on octets done rest part more split found =
    split ∙ ap (λ l. done ++ l) (found ∙ sym (append_assoc part (10 ∷ []) more)) ∙ sym (append_assoc done (part ++ 10 ∷ []) more)

-- That line fails.
pub line_failed : (octets done rest part more text : List ℕ) (m n : ℕ) (why : Why) (verdict : Verdict) → octets ≡ done ++ rest → rest ≡ part ++ 10 ∷ more
    → verdict ≡ Fail m why → m ≡ n → FailsOnward ((text ++ done) ++ (part ++ 10 ∷ [])) n why → FailsAs (text ++ octets) verdict
line_failed octets done rest part more text m n why verdict split found verdict_is same fails =
    let line = part ++ 10 ∷ [] in
    let whole : ((text ++ done) ++ line) ++ more ≡ text ++ octets =
    ap (λ l. l ++ more) (append_assoc text done line) ∙ append_assoc text (done ++ line) more
    ∙ ap (λ l. text ++ l) (sym (parts_on octets done rest part more split found)) in
    let P : List ℕ → Type 0 = λ l. FailsOnward l n why in
    fails_at (text ++ octets) verdict m n why verdict_is same (subst P whole (onward_more ((text ++ done) ++ line) more n why fails))

-- What follows the last line of them that has ended.
pub rest_whole : (octets done rest text : List ℕ) → octets ≡ done ++ rest → (text ++ done) ++ rest ≡ text ++ octets
rest_whole octets done rest text split = append_assoc text done rest ∙ ap (λ l. text ++ l) (sym split)

pub rest_failed : (octets done rest text : List ℕ) (m n : ℕ) (why : Why) (verdict : Verdict) → octets ≡ done ++ rest
    → verdict ≡ Fail m why → m ≡ n → FailsOnward ((text ++ done) ++ rest) n why → FailsAs (text ++ octets) verdict
rest_failed octets done rest text m n why verdict split verdict_is same fails =
    let P : List ℕ → Type 0 = λ l. FailsOnward l n why in
    fails_at (text ++ octets) verdict m n why verdict_is same (subst P (rest_whole octets done rest text split) fails)
