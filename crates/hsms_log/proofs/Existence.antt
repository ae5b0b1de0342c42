-- Each text has a verdict.
use Rattle.std.proofs.Common.{◌≡◌, ◌<◌, ◌≤◌, ◌+◌, ◌^◌, ◌++◌, ◌⊎◌, inl, inr, ℕ, List, [], ◌∷◌, length, take, drop, Ok, Err, Some, None, refl, sym, ap, ◌∙◌, subst, arith, append_assoc}
use Rattle.std.specs.Prelude.{Option, Result, codes}
use Rattle.std.specs.Int.{w32, to_be_bytes, from_be_bytes}
use Rattle.std.proofs.lemmas.Nat.{be_bytes_4}
use Rattle.std.proofs.lemmas.List.{append-nil, length-take-le}
use Rattle.std.proofs.lemmas.Bool.{cases_eq, cases_lt}
use Rattle.hex.specs.declared.error.FromHexError.{FromHexError}
use Rattle.hex.specs.Hex.{decode_of}
use Rattle.hex.proofs.HexLemmas.{decode_of-ok}
use Rattle.hsms_frame.specs.Frame.{Frame}
use Rattle.hsms_frame.proofs.Octets.{IsOctets-take}
use Rattle.hsms_frame.proofs.FramedMessages.{header_of, header_octets-header_of, IsHeader-header_of}
use Rattle.hsms_machine.specs.declared.entry.Entry.{Entry}
use Rattle.hsms_machine.specs.declared.entry.Event.{Event}
use Rattle.hsms_machine.specs.declared.entry.Event.TheVariants.{Up, Sent, Taken, Discarded, T3, Cut, Down}
use Rattle.hsms_machine.specs.declared.entry.Cause.{Cause}
use Rattle.hsms_machine.specs.declared.entry.Cause.TheVariants.{T6, T7, T8, Length}
use Rattle.hsms_machine.specs.declared.rule.Rule.{Rule}
use Rattle.hsms_machine.specs.Settings.{Parameters, IsTimeLimit, IsWithinLimits}
use Rattle.hsms_machine.specs.Run.{Broken as IsFirstBroken, IsRun}
use Rattle.hsms_machine.specs.Laws.{ValidEntryExtendsRun, EachEntryHasAnAnswer, EmptyLogIsRun, HasOctets}
use Rattle.hsms_log.specs.declared.verdict.Why.TheVariants.{Unreadable, Broken}
use Rattle.hsms_log.specs.declared.verdict.Verdict.{Verdict}
use Rattle.hsms_log.specs.declared.verdict.Verdict.TheVariants.{Pass, Fail}
use Rattle.hsms_log.specs.LineFormat.{EncodesSettings, EncodesEntry, EncodesEvent, EncodesOctets, IsEvent, IsMessage, IsHexOf, message_octets, system_octets, cause_word, Carries, line_limit}
use Rattle.hsms_log.specs.InnerReading.{settings_at, number_at}
use Rattle.hsms_log.specs.Log.{EncodesLog}
use Rattle.hsms_log.specs.Verdict.{LinesAudited, summary_of}
use Rattle.hsms_log.proofs.LineBindings.{some_inj}
use Rattle.hsms_log.proofs.SettingsLaws.{encoded_is_read, read_is_encoded, settings_unread}
use Rattle.hsms_log.proofs.HexLaws.{message_found, message_none, message_short}
use Rattle.hsms_log.proofs.EntryLaws.{entry_unread, event_unread, entry_found, line_unread}
use Rattle.hsms_log.proofs.RuleCheckLaws.{encode_more}

-- ---- what can be decided

abbrev Decided : Type 0 → Type 0
Decided A = A ⊎ (A → ⊥)

both : {A B : Type 0} → Decided A → Decided B → Decided (A × B)
both (inl a) (inl b) = inl (a, b)
both (inr fails) b = inr (λ p. fails p.0)
both (inl a) (inr fails) = inr (λ p. fails p.1)

at_most : (m n : ℕ) → Decided (m ≤ n)
at_most m n = elim (cases_lt n m) [ inl above ↦ inr (λ h. omega (arith, above, h)) | inr below ↦ inl below ]

time_decided : (t : ℕ) → Decided (IsTimeLimit t)
time_decided t = both (at_most 1 t) (at_most t 3600000)

within_decided : (s : Parameters) → Decided (IsWithinLimits s)
within_decided s =
    elim (both (both (at_most 1 s.version) (at_most s.version 2)) (both (at_most s.device 32767) (both (time_decided s.t3) (both (time_decided s.t6) (both (time_decided s.t7) (both (time_decided s.t8)
    (both (at_most 256 s.max) (both (at_most s.max 33554432) (both (at_most 1 s.depth) (at_most s.depth 100)))))))))) [
      | inl h ↦
          let v = h.0 in
          let w = h.1 in
          inl (record { least_version = v.0; greatest_version = v.1; device = w.0; t3 = w.1.0; t6 = w.1.1.0; t7 = w.1.1.1.0; t8 = w.1.1.1.1.0; least_max = w.1.1.1.1.1.0; greatest_max = w.1.1.1.1.1.1.0; least_depth = w.1.1.1.1.1.1.1.0; greatest_depth = w.1.1.1.1.1.1.1.1 })
      | inr fails ↦ inr (λ w. fails ((w.least_version, w.greatest_version), (w.device, (w.t3, (w.t6, (w.t7, (w.t8, (w.least_max, (w.greatest_max, (w.least_depth, (w.greatest_depth)))))))))))
    ]

settings_go : (line : List ℕ) (o : Option Parameters) → settings_at line ≡ o → Decided ((s : Parameters) × EncodesSettings line s)
settings_go line None is = inr (λ h. settings_unread line is h.0 h.1)
settings_go line (Some s) is =
    elim (within_decided s) [
      | inl w ↦ inl (s, read_is_encoded line s is w)
      | inr fails ↦ inr (λ h.
          let same = some_inj h.0 s (sym (encoded_is_read line h.0 h.1) ∙ is) in
          let P : Parameters → Type 0 = λ p. IsWithinLimits p in
          fails (subst P same h.1.within))
    ]

settings_decided : (line : List ℕ) → Decided ((s : Parameters) × EncodesSettings line s)
settings_decided line = settings_go line (settings_at line) refl

-- ---- events

front_decided : (mark text : List ℕ) → Decided ((rest : List ℕ) × (text ≡ mark ++ rest))
front_decided [] text = inl (text, refl)
front_decided (m ∷ mark) [] = inr (λ h. let e = h.1 in cc e)
front_decided (m ∷ mark) (x ∷ text) =
    elim (cases_eq x m) [
      | inl same ↦
          elim (front_decided mark text) [
            | inl found ↦ inl (found.0, ap (λ y. y ∷ text) same ∙ ap (λ l. m ∷ l) found.1)
            | inr fails ↦ inr (λ h. let e = h.1 in let tail : text ≡ mark ++ h.0 = cc e in fails (h.0, tail))
          ]
      | inr other ↦ inr (λ h. let e = h.1 in let head : x ≡ m = cc e in other head)
    ]

word_decided : (word text : List ℕ) → Decided (text ≡ word)
word_decided [] [] = inl refl
word_decided [] (x ∷ text) = inr (λ h. cc h)
word_decided (w ∷ word) [] = inr (λ h. cc h)
word_decided (w ∷ word) (x ∷ text) =
    elim (cases_eq x w) [
      | inl same ↦
          elim (word_decided word text) [
            | inl rest ↦ inl (ap (λ y. y ∷ text) same ∙ ap (λ l. w ∷ l) rest)
            | inr fails ↦ inr (λ h. let tail : text ≡ word = cc h in fails tail)
          ]
      | inr other ↦ inr (λ h. let head : x ≡ w = cc h in other head)
    ]

message_go : (digits : List ℕ) (r : Result (List ℕ) FromHexError) → decode_of digits ≡ r → Decided ((f : Frame) × IsMessage f × IsHexOf digits (message_octets f))
message_go digits (Err e) is = inr (λ h. message_none digits e is h.0 h.2)
message_go digits (Ok octets) is =
    elim (cases_lt (length octets) 10) [
      | inl short ↦ inr (λ h. message_short digits octets is short h.0 h.2)
      | inr enough ↦
          let parts = decode_of-ok digits octets is in
          let front = take 10 octets in
          let fits = IsOctets-take 10 octets parts.3 in
          let size : length front ≡ 10 = length-take-le 10 octets enough in
          let found = message_found digits octets front (drop 10 octets) (header_of front) is refl refl (IsHeader-header_of front fits) (header_octets-header_of front size fits) in
          inl (record { header = header_of front; text = drop 10 octets }, found.0, found.1)
    ]

message_decided : (digits : List ℕ) → Decided ((f : Frame) × IsMessage f × IsHexOf digits (message_octets f))
message_decided digits = message_go digits (decode_of digits) refl

octets_inj : {A E : Type 0} (x y : A) → ◌≡◌ {A = Result A E} (Ok x) (Ok y) → x ≡ y
octets_inj x y h = cc

system_go : (digits : List ℕ) (r : Result (List ℕ) FromHexError) → decode_of digits ≡ r → Decided ((n : ℕ) × (n < 2 ^ 32) × IsHexOf digits (system_octets n))
unfolding system_octets
system_go digits (Err e) is = inr (λ h. let other = sym is ∙ h.2 in cc other)
system_go digits (Ok octets) is =
    elim (cases_eq (length octets) 4) [
      | inl four ↦
          let parts = decode_of-ok digits octets is in
          let n = from_be_bytes w32 octets in
          let bytes = parts.3 in
          inl (n, omega (arith, bytes 0, bytes 1, bytes 2, bytes 3), is ∙ ap (λ x. Ok x) (sym (be_bytes_4 octets n four bytes refl)))
      | inr other ↦ inr (λ h.
          let same : octets ≡ to_be_bytes w32 h.0 = octets_inj octets (to_be_bytes w32 h.0) (sym is ∙ h.2) in
          let size : length octets ≡ 4 = ap length same in
          other size)
    ]

system_decided : (digits : List ℕ) → Decided ((n : ℕ) × (n < 2 ^ 32) × IsHexOf digits (system_octets n))
system_decided digits = system_go digits (decode_of digits) refl

-- A mark, a space and a message.
abbrev Marked : List ℕ → List ℕ → Type 0
Marked mark text = (f : Frame) × IsMessage f × EncodesOctets text mark (message_octets f)

marked_decided : (m : ℕ) (text : List ℕ) → Decided (Marked (m ∷ []) text)
marked_decided m text =
    elim (front_decided (m ∷ 32 ∷ []) text) [
      | inl found ↦
          elim (message_decided found.0) [
            | inl f ↦ inl (f.0, f.1, (found.0, f.2, found.1))
            | inr fails ↦ inr (λ h.
                let same : h.2.0 ≡ found.0 = ap (drop 2) (sym h.2.2 ∙ found.1) in
                let P : List ℕ → Type 0 = λ digits. IsHexOf digits (message_octets h.0) in
                fails (h.0, h.1, subst P same h.2.1))
          ]
      | inr fails ↦ inr (λ h. fails (h.2.0, h.2.2))
    ]

abbrev Expired : List ℕ → Type 0
Expired text = (n : ℕ) × (n < 2 ^ 32) × EncodesOctets text (codes "t3") (system_octets n)

expired_decided : (text : List ℕ) → Decided (Expired text)
expired_decided text =
    elim (front_decided (codes "t3 ") text) [
      | inl found ↦
          elim (system_decided found.0) [
            | inl n ↦ inl (n.0, n.1, (found.0, n.2, found.1))
            | inr fails ↦ inr (λ h.
                let same : h.2.0 ≡ found.0 = ap (drop 3) (sym h.2.2 ∙ found.1) in
                let P : List ℕ → Type 0 = λ digits. IsHexOf digits (system_octets h.0) in
                fails (h.0, h.1, subst P same h.2.1))
          ]
      | inr fails ↦ inr (λ h. fails (h.2.0, h.2.2))
    ]

abbrev IsCut : List ℕ → Cause → Type 0
IsCut text cause = text ≡ codes "cut " ++ cause_word cause

no_cut : (text : List ℕ) → (IsCut text T6 → ⊥) → (IsCut text T7 → ⊥) → (IsCut text T8 → ⊥) → (IsCut text Length → ⊥) → (cause : Cause) → IsCut text cause → ⊥
no_cut text a b c d T6 h = a h
no_cut text a b c d T7 h = b h
no_cut text a b c d T8 h = c h
no_cut text a b c d Length h = d h

cut_decided : (text : List ℕ) → Decided ((cause : Cause) × IsCut text cause)
cut_decided text =
    elim (word_decided (codes "cut t6") text) [
      | inl h ↦ inl (T6, h)
      | inr a ↦
          elim (word_decided (codes "cut t7") text) [
            | inl h ↦ inl (T7, h)
            | inr b ↦
                elim (word_decided (codes "cut t8") text) [
                  | inl h ↦ inl (T8, h)
                  | inr c ↦
                      elim (word_decided (codes "cut length") text) [ inl h ↦ inl (Length, h) | inr d ↦ inr (λ h. no_cut text a b c d h.0 h.1) ]
                ]
          ]
    ]

no_event : (text : List ℕ) → (text ≡ codes "up" → ⊥) → (text ≡ codes "down" → ⊥) → (((cause : Cause) × IsCut text cause) → ⊥) → (Expired text → ⊥)
    → (Marked (codes ">") text → ⊥) → (Marked (codes "<") text → ⊥) → (Marked (codes "!") text → ⊥) → (event : Event) → IsEvent event → EncodesEvent text event → ⊥
no_event text up down cut expired sent taken discarded Up fits h = up h
no_event text up down cut expired sent taken discarded (Sent frame) fits h = sent (frame, fits, h)
no_event text up down cut expired sent taken discarded (Taken frame) fits h = taken (frame, fits, h)
no_event text up down cut expired sent taken discarded (Discarded frame) fits h = discarded (frame, fits, h)
no_event text up down cut expired sent taken discarded (T3 system) fits h = expired (system, fits, h)
no_event text up down cut expired sent taken discarded (Cut cause) fits h = cut (cause, h)
no_event text up down cut expired sent taken discarded Down fits h = down h

event_decided : (text : List ℕ) → Decided ((event : Event) × IsEvent event × EncodesEvent text event)
event_decided text =
    elim (word_decided (codes "up") text) [
      | inl h ↦ inl (Up, tt, h)
      | inr up ↦
          elim (word_decided (codes "down") text) [
            | inl h ↦ inl (Down, tt, h)
            | inr down ↦
                elim (cut_decided text) [
                  | inl h ↦ inl (Cut h.0, tt, h.1)
                  | inr cut ↦
                      elim (expired_decided text) [
                        | inl h ↦ inl (T3 h.0, h.1, h.2)
                        | inr expired ↦
                            elim (marked_decided 62 text) [
                              | inl h ↦ inl (Sent h.0, h.1, h.2)
                              | inr sent ↦
                                  elim (marked_decided 60 text) [
                                    | inl h ↦ inl (Taken h.0, h.1, h.2)
                                    | inr taken ↦
                                        elim (marked_decided 33 text) [
                                          | inl h ↦ inl (Discarded h.0, h.1, h.2)
                                          | inr discarded ↦
                                              inr (λ h. no_event text up down cut expired sent taken discarded h.0 h.1 h.2)
                                        ]
                                  ]
                            ]
                      ]
                ]
          ]
    ]

-- ---- lines

entry_go : (line : List ℕ) (o : Option (ℕ × List ℕ)) → number_at line ≡ o → Decided ((entry : Entry) × EncodesEntry line entry)
entry_go line None is = inr (λ h. entry_unread line is h.0 h.1)
entry_go line (Some (time, text)) is =
    elim (event_decided text) [
      | inl e ↦ inl (record { time = time; event = e.0 }, entry_found line text time e.0 is e.1 e.2)
      | inr fails ↦ inr (λ h. event_unread line text time is (λ event fits encoded_bytes. fails (event, fits, encoded_bytes)) h.0 h.1)
    ]

entry_decided : (line : List ℕ) → Decided ((entry : Entry) × EncodesEntry line entry)
entry_decided line = entry_go line (number_at line) refl

line_go : (max : ℕ) (line : List ℕ) → length line ≤ line_limit max → Decided ((carried : Option Entry) × Carries max line carried)
line_go max [] fits = inl (None, (fits, tt))
line_go max (octet ∷ line) fits =
    elim (cases_eq octet 35) [
      | inl mark ↦ inl (None, (fits, mark))
      | inr other ↦
          elim (entry_decided (octet ∷ line)) [
            | inl entry ↦ inl (Some entry.0, (fits, entry.1))
            | inr fails ↦ inr (λ h. line_unread max (octet ∷ line) other (λ entry encoded_bytes. fails (entry, encoded_bytes)) h.0 h.1)
          ]
    ]

carried_fits : (max : ℕ) (line : List ℕ) (carried : Option Entry) → Carries max line carried → length line ≤ line_limit max
carried_fits max line None h = h.0
carried_fits max line (Some entry) h = h.0

line_decided : (max : ℕ) (line : List ℕ) → Decided ((carried : Option Entry) × Carries max line carried)
line_decided max line =
    elim (at_most (length line) (line_limit max)) [
      | inl fits ↦ line_go max line fits
      | inr long ↦ inr (λ h. long (carried_fits max line h.0 h.1))
    ]

-- ---- verdicts

has_octets : (event : Event) → IsEvent event → HasOctets event
has_octets Up fits = tt
has_octets (Sent frame) fits = fits.text
has_octets (Taken frame) fits = fits.text
has_octets (Discarded frame) fits = fits.text
has_octets (T3 system) fits = tt
has_octets (Cut cause) fits = tt
has_octets Down fits = tt

-- The verdict on the lines, for all lines before the last ones.
abbrev HasVerdict : List ℕ → List (List ℕ) → Type 0
HasVerdict first others = (v : Verdict) × LinesAudited (first ∷ others) v

abbrev Onwards : Parameters → List ℕ → List (List ℕ) → Type 0
Onwards s first others = (done : List (List ℕ)) (log : List Entry) → EncodesLog (first ∷ done) s log → IsRun s log → HasVerdict first (done ++ others)

answered : (extends : ValidEntryExtendsRun) (s : Parameters) (first : List ℕ) (done : List (List ℕ)) (line : List ℕ) (others : List (List ℕ)) (log : List Entry) (entry : Entry)
    → EncodesLog (first ∷ done) s log → IsRun s log → Carries s.max line (Some entry) → Onwards s first others
    → (answer : Option Rule) → IsFirstBroken s log entry answer → HasVerdict first (done ++ line ∷ others)
answered extends s first done line others log entry encoded_bytes run carries onwards (Some rule) broken =
    (Fail (length (first ∷ done) + 1) (Broken rule), inl (first ∷ done, line, others, refl, refl, (s, log, record { encoded_bytes = encoded_bytes; run = run }, (entry, carries, broken))))
answered extends s first done line others log entry encoded_bytes run carries onwards None is_valid =
    let more = encode_more (first ∷ done) s log line (Some entry) encoded_bytes carries in
    let v = onwards (done ++ line ∷ []) (log ++ entry ∷ []) more (extends s log entry run is_valid) in
    let P : List (List ℕ) → Type 0 = λ l. LinesAudited (first ∷ l) v.0 in
    (v.0, subst P (append_assoc done (line ∷ []) others) v.1)

carried_audited : (extends : ValidEntryExtendsRun) (some_answer : EachEntryHasAnAnswer) (s : Parameters) (first : List ℕ) (done : List (List ℕ)) (line : List ℕ) (others : List (List ℕ))
    (log : List Entry) → EncodesLog (first ∷ done) s log → IsRun s log → Onwards s first others
    → (carried : Option Entry) → Carries s.max line carried → HasVerdict first (done ++ line ∷ others)
carried_audited extends some_answer s first done line others log encoded_bytes run onwards None carries =
    let Q : List Entry → Type 0 = λ l. EncodesLog (first ∷ (done ++ line ∷ [])) s l in
    let more = subst Q (append-nil log) (encode_more (first ∷ done) s log line None encoded_bytes carries) in
    let v = onwards (done ++ line ∷ []) log more run in
    let P : List (List ℕ) → Type 0 = λ l. LinesAudited (first ∷ l) v.0 in
    (v.0, subst P (append_assoc done (line ∷ []) others) v.1)
carried_audited extends some_answer s first done line others log encoded_bytes run onwards (Some entry) carries =
    let answer = some_answer s log entry run (has_octets entry.event carries.1.fits.event) in
    answered extends s first done line others log entry encoded_bytes run carries onwards answer.0 answer.1

audited_onwards : (extends : ValidEntryExtendsRun) (some_answer : EachEntryHasAnAnswer) (s : Parameters) (first : List ℕ) (others : List (List ℕ)) → Onwards s first others
audited_onwards extends some_answer s first [] done log encoded_bytes run =
    let P : List (List ℕ) → Type 0 = λ l. LinesAudited (first ∷ l) (Pass (summary_of log)) in
    (Pass (summary_of log), subst P (sym (append-nil done)) (s, log, record { encoded_bytes = encoded_bytes; run = run }, refl))
audited_onwards extends some_answer s first (line ∷ others) done log encoded_bytes run =
    elim (line_decided s.max line) [
      | inl found ↦ carried_audited extends some_answer s first done line others log encoded_bytes run (audited_onwards extends some_answer s first others) found.0 found.1
      | inr fails ↦ (
        Fail (length (first ∷ done) + 1) Unreadable,
        inl (first ∷ done, line, others, refl, refl, (s, log, record { encoded_bytes = encoded_bytes; run = run }, λ carried h. fails (carried, h))),
      )
    ]

pub lines_audited : (extends : ValidEntryExtendsRun) (some_answer : EachEntryHasAnAnswer) (empty : EmptyLogIsRun) (lines : List (List ℕ)) → (v : Verdict) × LinesAudited lines v
lines_audited extends some_answer empty [] = (Fail 1 Unreadable, inr (refl, refl, refl))
lines_audited extends some_answer empty (first ∷ others) =
    elim (settings_decided first) [
      | inl found ↦ audited_onwards extends some_answer found.0 first others [] [] (found.1, refl) (empty found.0)
      | inr fails ↦ (Fail 1 Unreadable, inl ([], first, others, refl, refl, ((λ s h. fails (s, h)), refl)))
    ]
