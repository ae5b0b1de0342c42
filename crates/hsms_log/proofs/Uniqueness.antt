-- A text encodes at most one log, and fails at no more than one line.
use Rattle.std.proofs.Common.{◌≡◌, ◌<◌, ◌≢◌, ◌+◌, ◌^◌, ◌++◌, ◌⊎◌, inl, inr, ℕ, List, [], ◌∷◌, length, take, drop, get_or, Some, None, refl, sym, ap, ◌∙◌, subst, arith, append_assoc, length-append}
use Rattle.std.specs.Prelude.{Option, option_to_list, decimal, codes}
use Rattle.std.specs.Int.{w16, w32, from_be_bytes}
use Rattle.std.proofs.lemmas.Nat.{from_be_bytes-to_be_bytes_2, from_be_bytes-to_be_bytes_4}
use Rattle.std.proofs.lemmas.List.{get_or_append_left}
use Rattle.std.proofs.lemmas.Str.Parse.{not_in_digits}
use Rattle.hsms_log.proofs.Numbers.{own}
use Rattle.std.proofs.lemmas.Fmt.{decimal_nonempty, digits_decimal}
use Rattle.hex.specs.Hex.{decode_of}
use Rattle.hsms_frame.specs.Frame.{Frame}
use Rattle.hsms_machine.specs.declared.entry.Entry.{Entry}
use Rattle.hsms_machine.specs.declared.entry.Event.{Event}
use Rattle.hsms_machine.specs.declared.entry.Event.TheVariants.{Up, Sent, Taken, Discarded, T3, Cut, Down}
use Rattle.hsms_machine.specs.declared.entry.Cause.{Cause}
use Rattle.hsms_machine.specs.declared.entry.Cause.TheVariants.{T6, T7, T8, Length}
use Rattle.hsms_machine.specs.Settings.{Parameters}
use Rattle.hsms_machine.specs.Run.{Broken as IsFirstBroken, IsRun}
use Rattle.hsms_machine.specs.Laws.{NextOfRunIsValid, NoEntryHasTwoAnswers}
use Rattle.hsms_log.specs.declared.verdict.Why.{Why}
use Rattle.hsms_log.specs.declared.verdict.Why.TheVariants.{Unreadable, Broken}
use Rattle.hsms_log.specs.LineContent.{HasFrame}
use Rattle.hsms_log.specs.LineFormat.{EncodesEntry, EncodesEvent, EncodesOctets, IsEvent, IsMessage, message_octets, system_octets, cause_word, Carries, IsBlank}
use Rattle.hsms_log.specs.Log.{CarryLog, EncodesLog}
use Rattle.hsms_log.specs.declared.verdict.Verdict.{Verdict}
use Rattle.hsms_log.specs.declared.verdict.Verdict.TheVariants.{Pass, Fail}
use Rattle.hsms_log.specs.Verdict.{EncodesRun, FailsRun, FailsAfter, LineFails, LinesAudited, summary_of}
use Rattle.hsms_log.proofs.LineBindings.{some_inj, ok_inj}
use Rattle.hsms_log.proofs.SettingsLaws.{EncodesSettings-unique}
use Rattle.hsms_log.proofs.EntryLaws.{entry_parts}

-- ---- entries

frame_same : (f g : Frame) → f.header.session ≡ g.header.session → f.header.byte2 ≡ g.header.byte2 → f.header.byte3 ≡ g.header.byte3
    → f.header.ptype ≡ g.header.ptype → f.header.stype ≡ g.header.stype → f.header.system ≡ g.header.system → f.text ≡ g.text → f ≡ g
frame_same f g a b c d e s t =
    let F : ℕ → ℕ → ℕ → ℕ → ℕ → ℕ → List ℕ → Frame = λ x0 x1 x2 x3 x4 x5 x6. record {
      header = record { session = x0; byte2 = x1; byte3 = x2; ptype = x3; stype = x4; system = x5 };
      text = x6;
    } in
    let h = f.header in
    let k = g.header in
    ap (λ x. F x h.byte2 h.byte3 h.ptype h.stype h.system f.text) a
    ∙ ap (λ x. F k.session x h.byte3 h.ptype h.stype h.system f.text) b
    ∙ ap (λ x. F k.session k.byte2 x h.ptype h.stype h.system f.text) c
    ∙ ap (λ x. F k.session k.byte2 k.byte3 x h.stype h.system f.text) d
    ∙ ap (λ x. F k.session k.byte2 k.byte3 k.ptype x h.system f.text) e
    ∙ ap (λ x. F k.session k.byte2 k.byte3 k.ptype k.stype x f.text) s
    ∙ ap (λ x. F k.session k.byte2 k.byte3 k.ptype k.stype k.system x) t

message_octets-unique : (f g : Frame) → IsMessage f → IsMessage g → message_octets f ≡ message_octets g → f ≡ g
unfolding message_octets
message_octets-unique f g hf hg h =
    let session : f.header.session ≡ g.header.session =
    sym (from_be_bytes-to_be_bytes_2 f.header.session (omega arith)) ∙ ap (λ l. from_be_bytes w16 (take 2 l)) h ∙ from_be_bytes-to_be_bytes_2 g.header.session (omega arith) in
    let system : f.header.system ≡ g.header.system =
    sym (from_be_bytes-to_be_bytes_4 f.header.system (omega arith)) ∙ ap (λ l. from_be_bytes w32 (take 4 (drop 6 l))) h ∙ from_be_bytes-to_be_bytes_4 g.header.system (omega arith) in
    frame_same f g session (ap (λ l. get_or l 2 0) h) (ap (λ l. get_or l 3 0) h) (ap (λ l. get_or l 4 0) h) (ap (λ l. get_or l 5 0) h) system (ap (drop 10) h)

system_octets-unique : (m n : ℕ) → m < 2 ^ 32 → n < 2 ^ 32 → system_octets m ≡ system_octets n → m ≡ n
unfolding system_octets
system_octets-unique m n hm hn h =
    sym (from_be_bytes-to_be_bytes_4 m hm) ∙ ap (from_be_bytes w32) h ∙ from_be_bytes-to_be_bytes_4 n hn

-- The bytes after a mark.
octets_same : (mark text a b : List ℕ) → ((x y : List ℕ) → mark ++ 32 ∷ x ≡ mark ++ 32 ∷ y → x ≡ y) → EncodesOctets text mark a → EncodesOctets text mark b → a ≡ b
octets_same mark text a b inj h k =
    let digits : h.0 ≡ k.0 = inj h.0 k.0 (sym h.2 ∙ k.2) in
    ok_inj a b (sym h.1 ∙ ap decode_of digits ∙ k.1)

-- The first byte of an event.
first_of : Event → ℕ
first_of Up = 117
first_of (Sent frame) = 62
first_of (Taken frame) = 60
first_of (Discarded frame) = 33
first_of (T3 system) = 116
first_of (Cut cause) = 99
first_of Down = 100

first_is : (text : List ℕ) (event : Event) → EncodesEvent text event → get_or text 0 0 ≡ first_of event
unfolding first_of
first_is text Up h = ap (λ t. get_or t 0 0) h
first_is text (Sent frame) h = ap (λ t. get_or t 0 0) h.2
first_is text (Taken frame) h = ap (λ t. get_or t 0 0) h.2
first_is text (Discarded frame) h = ap (λ t. get_or t 0 0) h.2
first_is text (T3 system) h = ap (λ t. get_or t 0 0) h.2
first_is text (Cut cause) h = ap (λ t. get_or t 0 0) h
first_is text Down h = ap (λ t. get_or t 0 0) h

-- A text that begins with the mark of a frame encodes no other event.
pub marked : (text : List ℕ) (event : Event) → get_or text 0 0 < 64 → EncodesEvent text event → HasFrame event
unfolding first_of
marked text Up mark h = omega (arith, mark, first_is text Up h)
marked text (Sent frame) mark h = tt
marked text (Taken frame) mark h = tt
marked text (Discarded frame) mark h = tt
marked text (T3 system) mark h = omega (arith, mark, first_is text (T3 system) h)
marked text (Cut cause) mark h = omega (arith, mark, first_is text (Cut cause) h)
marked text Down mark h = omega (arith, mark, first_is text Down h)

pub marked_after : (text rest : List ℕ) (mark : ℕ) (event : Event) → text ≡ mark ∷ 32 ∷ rest → mark < 64 → EncodesEvent text event → HasFrame event
marked_after text rest mark event is small h =
    let first : get_or text 0 0 ≡ mark = ap (λ t. get_or t 0 0) is in marked text event (omega (arith, first, small)) h

-- The index of a cause among the causes, by the bytes of its word.
cause_number : Cause → ℕ
cause_number T6 = 54
cause_number T7 = 55
cause_number T8 = 56
cause_number Length = 101

cause_is : (text : List ℕ) (cause : Cause) → text ≡ codes "cut " ++ cause_word cause → get_or text 5 0 ≡ cause_number cause
unfolding cause_number
cause_is text T6 h = ap (λ t. get_or t 5 0) h
cause_is text T7 h = ap (λ t. get_or t 5 0) h
cause_is text T8 h = ap (λ t. get_or t 5 0) h
cause_is text Length h = ap (λ t. get_or t 5 0) h

cause_unique : (a b : Cause) → cause_number a ≡ cause_number b → a ≡ b
unfolding cause_number
cause_unique T6 T6 h = refl
cause_unique T7 T7 h = refl
cause_unique T8 T8 h = refl
cause_unique Length Length h = refl
cause_unique a b h = absurd (omega arith)

drop_two : (a b : ℕ) (x y : List ℕ) → a ∷ b ∷ x ≡ a ∷ b ∷ y → x ≡ y
drop_two a b x y h = ap (drop 2) h

drop_three : (a b c : ℕ) (x y : List ℕ) → a ∷ b ∷ c ∷ x ≡ a ∷ b ∷ c ∷ y → x ≡ y
drop_three a b c x y h = ap (drop 3) h

pub EncodesEvent-unique : (text : List ℕ) (a b : Event) → IsEvent a → IsEvent b → EncodesEvent text a → EncodesEvent text b → a ≡ b
unfolding first_of
EncodesEvent-unique text Up Up fa fb h k = refl
EncodesEvent-unique text (Sent f) (Sent g) fa fb h k =
    ap Sent (message_octets-unique f g fa fb (octets_same (codes ">") text (message_octets f) (message_octets g) (drop_two 62 32) h k))
EncodesEvent-unique text (Taken f) (Taken g) fa fb h k =
    ap Taken (message_octets-unique f g fa fb (octets_same (codes "<") text (message_octets f) (message_octets g) (drop_two 60 32) h k))
EncodesEvent-unique text (Discarded f) (Discarded g) fa fb h k =
    ap Discarded (message_octets-unique f g fa fb (octets_same (codes "!") text (message_octets f) (message_octets g) (drop_two 33 32) h k))
EncodesEvent-unique text (T3 m) (T3 n) fa fb h k =
    ap T3 (system_octets-unique m n fa fb (octets_same (codes "t3") text (system_octets m) (system_octets n) (drop_three 116 51 32) h k))
EncodesEvent-unique text (Cut c) (Cut d) fa fb h k = ap Cut (cause_unique c d (sym (cause_is text c h) ∙ cause_is text d k))
EncodesEvent-unique text Down Down fa fb h k = refl
EncodesEvent-unique text a b fa fb h k = absurd (omega (arith, first_is text a h, first_is text b k))

entry_same : (a b : Entry) → a.time ≡ b.time → a.event ≡ b.event → a ≡ b
entry_same a b p q =
    let F : ℕ → Event → Entry = λ t e. record { time = t; event = e } in
    ap (λ t. F t a.event) p ∙ ap (λ e. F b.time e) q

pub EncodesEntry-unique : (line : List ℕ) (a b : Entry) → EncodesEntry line a → EncodesEntry line b → a ≡ b
EncodesEntry-unique line a b h k =
    let both = entry_parts line a b h k in
    let P : List ℕ → Type 0 = λ t. EncodesEvent t b.event in
    entry_same a b both.0 (EncodesEvent-unique h.encoded_bytes.0 a.event b.event h.fits.event k.fits.event h.encoded_bytes.1 (subst P (sym both.1) k.encoded_bytes.1))

blank_first : (line : List ℕ) → IsBlank line → 0 < length line → get_or line 0 0 ≡ 35
blank_first [] h some = omega (arith, some)
blank_first (octet ∷ octets) h some = h

-- A line that encodes an entry begins with a digit.
not_blank : (line : List ℕ) (entry : Entry) → EncodesEntry line entry → IsBlank line → ⊥
not_blank line entry h blank =
    let small : entry.time < 2 ^ 64 = h.fits.time in
    let some : 0 < length (decimal entry.time) = decimal_nonempty entry.time small in
    let digit : get_or (decimal entry.time) 0 0 ≢ 35 = not_in_digits own (decimal entry.time) 35 (digits_decimal own entry.time small) (λ r. omega (arith, r)) 0 some in
    let size : length line ≡ length (decimal entry.time) + length (32 ∷ h.encoded_bytes.0) = ap length h.encoded_bytes.2 ∙ length-append (decimal entry.time) (32 ∷ h.encoded_bytes.0) in
    let first : get_or line 0 0 ≡ get_or (decimal entry.time) 0 0 =
    ap (λ l. get_or l 0 0) h.encoded_bytes.2 ∙ get_or_append_left (decimal entry.time) (32 ∷ h.encoded_bytes.0) 0 0 some in
    digit (sym first ∙ blank_first line blank (omega (arith, size, some)))

pub Carries-unique : (max : ℕ) (line : List ℕ) (a b : Option Entry) → Carries max line a → Carries max line b → a ≡ b
Carries-unique max line None None h k = refl
Carries-unique max line (Some a) (Some b) h k = ap Some (EncodesEntry-unique line a b h.1 k.1)
Carries-unique max line None (Some b) h k = absurd (not_blank line b k.1 h.1)
Carries-unique max line (Some a) None h k = absurd (not_blank line a h.1 k.1)

-- ---- logs

CarryLog-unique : (max : ℕ) (lines : List (List ℕ)) (a b : List Entry) → CarryLog max lines a → CarryLog max lines b → a ≡ b
CarryLog-unique max [] a b h k = h ∙ sym k
CarryLog-unique max (line ∷ lines) a b h k =
    let carried = Carries-unique max line h.0 k.0 h.2 k.2 in
    let later = CarryLog-unique max lines h.1 k.1 h.3 k.3 in
    h.4 ∙ ap (λ c. option_to_list c ++ h.1) carried ∙ ap (λ l. option_to_list k.0 ++ l) later ∙ sym k.4

pub EncodesLog-unique : (lines : List (List ℕ)) (s t : Parameters) (a b : List Entry) → EncodesLog lines s a → EncodesLog lines t b → (s ≡ t) × (a ≡ b)
EncodesLog-unique [] s t a b h k = absurd h
EncodesLog-unique (first ∷ others) s t a b h k =
    let same = EncodesSettings-unique first s t h.0 k.0 in
    let P : Parameters → Type 0 = λ p. CarryLog p.max others b in
    (same, CarryLog-unique s.max others a b h.1 (subst P (sym same) k.1))

-- The parts of a log before, at and after a line.
carry_parts : (max : ℕ) (before : List (List ℕ)) (line : List ℕ) (after : List (List ℕ)) (log : List Entry) → CarryLog max (before ++ line ∷ after) log
    → (front : List Entry) × (carried : Option Entry) × (later : List Entry) × CarryLog max before front × Carries max line carried
    × (log ≡ front ++ (option_to_list carried ++ later))
carry_parts max [] line after log h = ([], h.0, h.1, refl, h.2, h.4)
carry_parts max (first ∷ before) line after log h =
    let parts = carry_parts max before line after h.1 h.3 in (
      option_to_list h.0 ++ parts.0,
      parts.1,
      parts.2,
      (h.0, parts.0, h.2, parts.3, refl),
      parts.4,
      h.4 ∙ ap (λ l. option_to_list h.0 ++ l) parts.5 ∙ sym (append_assoc (option_to_list h.0) parts.0 (option_to_list parts.1 ++ parts.2)),
    )

-- ---- verdicts

-- What the laws of the session machine state about runs.
pub record RunLaws : Type 0 where
  pub next : NextOfRunIsValid
  pub one : NoEntryHasTwoAnswers

-- A line does not fail if its content is valid after a run.
carried_valid : (laws : RunLaws) (s : Parameters) (log : List Entry) (line : List ℕ) (carried : Option Entry) (later : List Entry) (why : Why) → Carries s.max line carried
    → IsRun s (log ++ (option_to_list carried ++ later)) → FailsRun s log line why → ⊥
carried_valid laws s log line carried later Unreadable h run fails = fails carried h
carried_valid laws s log line None later (Broken rule) h run fails = let no = Carries-unique s.max line None (Some fails.0) h fails.1 in cc no
carried_valid laws s log line (Some entry) later (Broken rule) h run fails =
    let same = Carries-unique s.max line (Some entry) (Some fails.0) h fails.1 in
    let is_valid = laws.next s log entry later run in
    let P : Option Entry → Type 0 = λ o. o ≡ Some fails.0 in
    let is : entry ≡ fails.0 = cc same in
    let Q : Entry → Type 0 = λ e. IsFirstBroken s log e None in
    let no = laws.one s log fails.0 None (Some rule) (subst Q is is_valid) fails.2 in
    cc no

-- No line of a run fails.
pub run_holds : (laws : RunLaws) (before : List (List ℕ)) (line : List ℕ) (after : List (List ℕ)) (s : Parameters) (log : List Entry) (why : Why)
    → EncodesLog (before ++ line ∷ after) s log → IsRun s log → FailsAfter before line why → ⊥
run_holds laws [] line after s log why h run fails = fails.0 s h.0
run_holds laws (first ∷ others) line after s log why h run (t, front, encoded_bytes, fails) =
    let same = EncodesSettings-unique first s t h.0 encoded_bytes.encoded_bytes.0 in
    let P : Parameters → Type 0 = λ p. CarryLog p.max (others ++ line ∷ after) log × IsRun p log in
    let moved = subst P same (h.1, run) in
    let parts = carry_parts t.max others line after log moved.0 in
    let front_is : parts.0 ≡ front = CarryLog-unique t.max others parts.0 front parts.3 encoded_bytes.encoded_bytes.1 in
    let whole : log ≡ front ++ (option_to_list parts.1 ++ parts.2) = parts.5 ∙ ap (λ l. l ++ (option_to_list parts.1 ++ parts.2)) front_is in
    let Q : List Entry → Type 0 = λ l. IsRun t l in
    carried_valid laws t front line parts.1 parts.2 why parts.4 (subst Q whole moved.1) fails

-- ---- one verdict

-- Two ways to split one list.
fronts : {X : Type 0} (b c : List X) (x y : X) (a d : List X) → b ++ x ∷ a ≡ c ++ y ∷ d
    → ((b ≡ c) × (x ≡ y)) ⊎ (((m : List X) × (c ≡ b ++ x ∷ m)) ⊎ ((m : List X) × (b ≡ c ++ y ∷ m)))
fronts [] [] x y a d h = inl (refl, cc h)
fronts [] (z ∷ c) x y a d h = inr (inl (c, let e : z ≡ x = cc h in ap (λ w. w ∷ c) e))
fronts (z ∷ b) [] x y a d h = inr (inr (b, let e : z ≡ y = cc h in ap (λ w. w ∷ b) e))
fronts (z ∷ b) (w ∷ c) x y a d h =
    let head : z ≡ w = cc h in
    let tail : b ++ x ∷ a ≡ c ++ y ∷ d = cc h in
    elim (fronts b c x y a d tail) [
      | inl same ↦ inl (ap (λ l. z ∷ l) same.0 ∙ ap (λ v. v ∷ c) head, same.1)
      | inr other ↦ inr (elim other [
        | inl more ↦ inl (more.0, ap (λ l. w ∷ l) more.1 ∙ ap (λ v. v ∷ (b ++ x ∷ more.0)) (sym head))
        | inr more ↦ inr (more.0, ap (λ l. z ∷ l) more.1 ∙ ap (λ v. v ∷ (c ++ y ∷ more.0)) head)
      ])
    ]

-- A line fails for one reason only.
FailsRun-unique : (laws : RunLaws) (s : Parameters) (log : List Entry) (line : List ℕ) (a b : Why) → FailsRun s log line a → FailsRun s log line b → a ≡ b
FailsRun-unique laws s log line Unreadable Unreadable h k = refl
FailsRun-unique laws s log line Unreadable (Broken r) h k = absurd (h (Some k.0) k.1)
FailsRun-unique laws s log line (Broken r) Unreadable h k = absurd (k (Some h.0) h.1)
FailsRun-unique laws s log line (Broken r) (Broken q) h k =
    let same : h.0 ≡ k.0 = some_inj h.0 k.0 (Carries-unique s.max line (Some h.0) (Some k.0) h.1 k.1) in
    let P : Entry → Type 0 = λ e. IsFirstBroken s log e (Some r) in
    ap Broken (some_inj r q (laws.one s log k.0 (Some r) (Some q) (subst P same h.2) k.2))

FailsAfter-unique : (laws : RunLaws) (before : List (List ℕ)) (line : List ℕ) (a b : Why) → FailsAfter before line a → FailsAfter before line b → a ≡ b
FailsAfter-unique laws [] line a b h k = h.1 ∙ sym k.1
FailsAfter-unique laws (first ∷ others) line a b (s, log, encoded_bytes, fails) (t, front, again, fails_too) =
    let same = EncodesLog-unique (first ∷ others) s t log front encoded_bytes.encoded_bytes again.encoded_bytes in
    let P : Parameters → Type 0 = λ p. FailsRun p log line a in
    let Q : List Entry → Type 0 = λ l. FailsRun t l line a in
    FailsRun-unique laws t front line a b (subst Q same.1 (subst P same.0 fails)) fails_too

-- No line before one that fails does.
fails_first : (laws : RunLaws) (before : List (List ℕ)) (line : List ℕ) (m : List (List ℕ)) (a : Why) (c : List (List ℕ)) (other : List ℕ) (b : Why)
    → c ≡ before ++ line ∷ m → FailsAfter before line a → FailsAfter c other b → ⊥
fails_first laws before line m a [] other b is h k = let size = ap length is ∙ length-append before (line ∷ m) in omega (arith, size)
fails_first laws before line m a (first ∷ others) other b is h (t, front, again, fails_too) =
    let P : List (List ℕ) → Type 0 = λ l. EncodesLog l t front in
    run_holds laws before line m t front a (subst P is again.encoded_bytes) again.run h

pub LineFails-unique : (laws : RunLaws) (lines : List (List ℕ)) (m n : ℕ) (a b : Why) → LineFails lines m a → LineFails lines n b → (m ≡ n) × (a ≡ b)
LineFails-unique laws lines m n a b (before, line, after, split, number, fails) (c, other, d, split_too, number_too, fails_too) =
    elim (fronts before c line other after d (sym split ∙ split_too)) [
      | inl same ↦
          let P : List (List ℕ) → Type 0 = λ l. FailsAfter l line a in
          let Q : List ℕ → Type 0 = λ l. FailsAfter c l a in (
            number ∙ ap (λ l. length l + 1) same.0 ∙ sym number_too,
            FailsAfter-unique laws c other a b (subst Q same.1 (subst P same.0 fails)) fails_too,
          )
      | inr differ ↦ absurd (elim differ [
        | inl more ↦ fails_first laws before line more.0 a c other b more.1 fails fails_too
        | inr more ↦ fails_first laws c other more.0 b before line a more.1 fails_too fails
      ])
    ]

no_line_fails : (lines : List (List ℕ)) (n : ℕ) (why : Why) → lines ≡ [] → LineFails lines n why → ⊥
no_line_fails lines n why none (before, line, after, split, number, fails) =
    let size = ap length (sym none ∙ split) ∙ length-append before (line ∷ after) in omega (arith, size)

-- No line of a run fails.
pub run_invariant : (laws : RunLaws) (lines : List (List ℕ)) (s : Parameters) (log : List Entry) → EncodesRun lines s log → (n : ℕ) (why : Why) → LineFails lines n why → ⊥
run_invariant laws lines s log h n why (before, line, after, split, number, fails) =
    let P : List (List ℕ) → Type 0 = λ l. EncodesLog l s log in
    run_holds laws before line after s log why (subst P split h.encoded_bytes) h.run fails

pub LinesAudited-unique : (laws : RunLaws) (lines : List (List ℕ)) (v w : Verdict) → LinesAudited lines v → LinesAudited lines w → v ≡ w
LinesAudited-unique laws lines (Pass a) (Pass b) (s, log, h, is) (t, front, k, is_too) =
    ap Pass (is ∙ ap summary_of (EncodesLog-unique lines s t log front h.encoded_bytes k.encoded_bytes).1 ∙ sym is_too)
LinesAudited-unique laws lines (Pass a) (Fail n why) (s, log, h, is) (inl k) = absurd (run_invariant laws lines s log h n why k)
LinesAudited-unique laws lines (Pass a) (Fail n why) (s, log, h, is) (inr k) =
    let P : List (List ℕ) → Type 0 = λ l. EncodesLog l s log in absurd (subst P k.0 h.encoded_bytes)
LinesAudited-unique laws lines (Fail n why) (Pass a) (inl k) (s, log, h, is) = absurd (run_invariant laws lines s log h n why k)
LinesAudited-unique laws lines (Fail n why) (Pass a) (inr k) (s, log, h, is) =
    let P : List (List ℕ) → Type 0 = λ l. EncodesLog l s log in absurd (subst P k.0 h.encoded_bytes)
LinesAudited-unique laws lines (Fail m a) (Fail n b) (inl h) (inl k) =
    let same = LineFails-unique laws lines m n a b h k in ap (λ x. Fail x a) same.0 ∙ ap (λ x. Fail n x) same.1
LinesAudited-unique laws lines (Fail m a) (Fail n b) (inl h) (inr k) = absurd (no_line_fails lines m a k.0 h)
LinesAudited-unique laws lines (Fail m a) (Fail n b) (inr h) (inl k) = absurd (no_line_fails lines n b h.0 k)
LinesAudited-unique laws lines (Fail m a) (Fail n b) (inr h) (inr k) =
    ap (λ x. Fail x a) (h.1 ∙ sym k.1) ∙ ap (λ x. Fail n x) (h.2 ∙ sym k.2)
