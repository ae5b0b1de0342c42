-- A log as it is written: its lines, and what they encode.
use Rattle.std.proofs.Common.{◌≡◌, ◌≢◌, ◌<◌, ◌≤◌, ◌-◌, ◌/◌, ◌%◌, ◌^◌, ◌++◌, ℕ, suc, List, [], ◌∷◌, length, get_or, true, false, eqb, ltb, refl, sym, ap, ◌∙◌, subst, arith, inl, inr, append_assoc}
use Rattle.std.specs.Prelude.{All, Bool, Some, codes, decimal, slice_index, nat_lt}
use Rattle.std.specs.List.{flat_map, list_all}
use Rattle.std.specs.Str.{all_ascii_digits}
use Rattle.std.specs.Str.Lines.{strip_carriage_return}
use Rattle.std.proofs.lemmas.Bool.{and_parts, and_from, ltb-true, lt-ltb, leb-true, ne_eqb, cases_Bool}
use Rattle.std.proofs.lemmas.Fmt.{digits_decimal}
use Rattle.std.proofs.lemmas.List.Elements.{All-cons, All-nil, All-head, All-tail}
use Rattle.std.proofs.lemmas.List.Folds.{list_all-append, list_all_at}
use Rattle.hex.specs.Hex.{encode_lower, encode_with, lower_digits}
use Rattle.hsms_frame.specs.Frame.{IsOctets}
use Rattle.hsms_machine.specs.declared.entry.Entry.{Entry}
use Rattle.hsms_machine.specs.declared.entry.Event.{Event}
use Rattle.hsms_machine.specs.declared.entry.Event.TheVariants.{Up, Sent, Taken, Discarded, T3, Cut, Down}
use Rattle.hsms_machine.specs.declared.entry.Cause.TheVariants.{T6, T7, T8, Length}
use Rattle.hsms_machine.specs.declared.settings.Role.{Role}
use Rattle.hsms_machine.specs.declared.settings.Role.TheVariants.{Host, Equipment}
use Rattle.hsms_machine.specs.declared.settings.Side.{Side}
use Rattle.hsms_machine.specs.declared.settings.Side.TheVariants.{Active, Passive}
use Rattle.hsms_machine.specs.Settings.{Parameters, IsWithinLimits}
use Rattle.hsms_log.specs.Lines.{HasNone, lines_of, ended_lines, open_line}
use Rattle.hsms_log.specs.LineFormat.{IsBlank, IsComment, IsEntry, IsEvent, entry_line, event_text, settings_line, settings_limit, line_limit, message_octets, system_octets, role_word, link_word}
use Rattle.hsms_log.specs.Log.{CarryLog, LogText, EncodesLog, written_log}
use Rattle.hsms_log.specs.InnerWriting.{version_text, words_of, opening_of, numbers_of, spaced}
use Rattle.hsms_log.proofs.Numbers.{own}
use Rattle.hsms_log.proofs.GrowingTexts.{lines_of-first, strip_kept}
use Rattle.hsms_log.proofs.Parts.{line_text}
use Rattle.hsms_log.proofs.Written.{message_fits, system_fits, entry_written, settings_written}

-- ---- bytes of a line, which are above line feed and carriage return

abbrev pub on_line : List ℕ → Bool
on_line octets = list_all (nat_lt 13) octets

none_of : (octet : ℕ) (octets : List ℕ) → octet ≤ 13 → on_line octets ≡ true → HasNone octet octets
none_of octet [] low h = All-nil (λ x. eqb x octet ≡ false)
none_of octet (x ∷ octets) low h =
    let parts = and_parts _ _ h in
    let high : 13 < x = ltb-true 13 x parts.0 in
    All-cons (λ y. eqb y octet ≡ false) x octets (ne_eqb x octet (λ e. omega (arith, e, high, low))) (none_of octet octets low parts.1)

last_of : (octets : List ℕ) → on_line octets ≡ true → slice_index octets (length octets - 1) ≢ 13
last_of [] h e = cc e
last_of (x ∷ octets) h e =
    let high : ltb 13 (get_or (x ∷ octets) (length (x ∷ octets) - 1) 0) ≡ true = at (x ∷ octets) (length (x ∷ octets) - 1) h (omega arith) in
    omega (arith, e, ltb-true _ _ high)
  where
    at : (xs : List ℕ) (i : ℕ) → on_line xs ≡ true → i < length xs → ltb 13 (get_or xs i 0) ≡ true
    at xs i all within =
        elim (cases_Bool (ltb 13 (get_or xs i 0))) [ inl yes_it ↦ yes_it | inr no_it ↦ absurd (cc (all, list_all_at (nat_lt 13) xs i 0 within no_it)) ]

pub joined : (xs ys : List ℕ) → on_line xs ≡ true → on_line ys ≡ true → on_line (xs ++ ys) ≡ true
joined xs ys h k = list_all-append (nat_lt 13) xs ys ∙ and_from _ _ h k

-- ---- what is written consists of bytes of a line

digits_on_line : (ds : List ℕ) → all_ascii_digits ds ≡ true → on_line ds ≡ true
digits_on_line [] h = refl
digits_on_line (d ∷ ds) h =
    let parts = and_parts _ _ h in
    let low : 48 ≤ d = leb-true 48 d (and_parts _ _ parts.0).0 in
    and_from _ _ (lt-ltb 13 d (omega (arith, low))) (digits_on_line ds parts.1)

pub decimal_on_line : (n : ℕ) → n < 2 ^ 64 → on_line (decimal n) ≡ true
decimal_on_line n h = digits_on_line (decimal n) (digits_decimal own n h)

digit_on_line : (i : ℕ) → i < 16 → ltb 13 (slice_index lower_digits i) ≡ true
digit_on_line i h =
    elim (cases_Bool (ltb 13 (slice_index lower_digits i))) [
      | inl high ↦ high
      | inr low ↦ let all : on_line lower_digits ≡ true = refl in absurd (cc (all, list_all_at (nat_lt 13) lower_digits i 0 h low))
    ]

hex_on_line : (octets : List ℕ) → IsOctets octets → on_line (encode_lower octets) ≡ true
unfolding encode_with
hex_on_line [] h = refl
hex_on_line (b ∷ rest) h =
    let small : b < 256 = h 0 in
    and_from _ _ (digit_on_line (b / 16) (omega (arith, small))) (and_from _ _ (digit_on_line (b % 16) (omega arith)) (hex_on_line rest (λ i. h (suc i))))

event_on_line : (event : Event) → IsEvent event → on_line (event_text event) ≡ true
event_on_line Up f = refl
event_on_line (Sent frame) f = hex_on_line (message_octets frame) (message_fits frame f)
event_on_line (Taken frame) f = hex_on_line (message_octets frame) (message_fits frame f)
event_on_line (Discarded frame) f = hex_on_line (message_octets frame) (message_fits frame f)
event_on_line (T3 system) f = hex_on_line (system_octets system) (system_fits system)
event_on_line (Cut T6) f = refl
event_on_line (Cut T7) f = refl
event_on_line (Cut T8) f = refl
event_on_line (Cut Length) f = refl
event_on_line Down f = refl

entry_on_line : (entry : Entry) → IsEntry entry → on_line (entry_line entry) ≡ true
unfolding entry_line
entry_on_line entry fits =
    joined (decimal entry.time) (32 ∷ event_text entry.event) (decimal_on_line entry.time fits.time) (event_on_line entry.event fits.event)

-- The line of an entry is one line, and all of it counts.
pub entry_one : (entry : Entry) → IsEntry entry → HasNone 10 (entry_line entry)
entry_one entry fits = none_of 10 (entry_line entry) (omega arith) (entry_on_line entry fits)

pub entry_whole : (entry : Entry) → IsEntry entry → strip_carriage_return (entry_line entry) ≡ entry_line entry
entry_whole entry fits = strip_kept (entry_line entry) (last_of (entry_line entry) (entry_on_line entry fits))

-- A short line that begins as a comment and consists of bytes of a line is a comment.
pub comment_from : (line : List ℕ) → IsBlank line → on_line line ≡ true → length line ≤ settings_limit → IsComment line
comment_from line blank on fits =
    record { blank = blank; one = none_of 10 line (omega arith) on; whole = strip_kept line (last_of line on); fits = fits }

numbers_on_line : (ns : List ℕ) → list_all (λ n. nat_lt n (2 ^ 64)) ns ≡ true → on_line (flat_map spaced ns) ≡ true
numbers_on_line [] h = refl
numbers_on_line (n ∷ ns) h =
    let parts = and_parts _ _ h in
    joined (spaced n) (flat_map spaced ns) (decimal_on_line n (ltb-true n (2 ^ 64) parts.0)) (numbers_on_line ns parts.1)

words_on_line : (role : Role) (link : Side) → on_line (32 ∷ (role_word role ++ 32 ∷ link_word link)) ≡ true
words_on_line Host Active = refl
words_on_line Host Passive = refl
words_on_line Equipment Active = refl
words_on_line Equipment Passive = refl

opening_on_line : (s : Parameters) → s.version < 2 ^ 64 → on_line (opening_of s) ≡ true
opening_on_line s fit =
    joined (version_text s.version) (words_of s) (joined (codes "hsms-log") (spaced s.version) refl (decimal_on_line s.version fit)) (words_on_line s.role s.link)

small : (n : ℕ) → n ≤ 33554432 → ltb n (2 ^ 64) ≡ true
small n h = lt-ltb n (2 ^ 64) (omega (arith, h))

settings_on_line : (s : Parameters) → IsWithinLimits s → on_line (settings_line s) ≡ true
settings_on_line s w =
    let t3 = w.t3.1 in
    let t6 = w.t6.1 in
    let t7 = w.t7.1 in
    let t8 = w.t8.1 in
    let fit : list_all (λ n. nat_lt n (2 ^ 64)) (numbers_of s) ≡ true =
    and_from _ _ (small s.device (omega (arith, w.device))) (and_from _ _ (small s.t3 (omega (arith, t3))) (and_from _ _ (small s.t6 (omega (arith, t6)))
    (and_from _ _ (small s.t7 (omega (arith, t7))) (and_from _ _ (small s.t8 (omega (arith, t8))) (and_from _ _ (small s.max w.greatest_max)
    (and_from _ _ (small s.depth (omega (arith, w.greatest_depth))) refl)))))) in
    ap on_line (line_text s.version s.role s.link s.device s.t3 s.t6 s.t7 s.t8 s.max s.depth)
    ∙ joined (opening_of s) (flat_map spaced (numbers_of s)) (opening_on_line s (omega (arith, w.greatest_version))) (numbers_on_line (numbers_of s) fit)

-- ---- the lines of what is written

line_first : (line rest : List ℕ) → on_line line ≡ true → lines_of (line ++ 10 ∷ rest) ≡ line ∷ lines_of rest
line_first line rest h =
    lines_of-first line rest (none_of 10 line (omega arith) h) ∙ ap (λ l. l ∷ lines_of rest) (strip_kept line (last_of line h))

no_lines : lines_of [] ≡ []
unfolding ended_lines open_line
no_lines = refl

entries_carried : (max : ℕ) (log : List Entry) → All (λ entry. IsEntry entry × (length (entry_line entry) ≤ line_limit max)) log
    → CarryLog max (lines_of (flat_map (λ entry. entry_line entry ++ 10 ∷ []) log)) log
entries_carried max [] h = let P : List (List ℕ) → Type 0 = λ l. CarryLog max l [] in subst P (sym no_lines) refl
entries_carried max (entry ∷ log) h =
    let Q : Entry → Type 0 = λ e. IsEntry e × (length (entry_line e) ≤ line_limit max) in
    let first = All-head Q entry log h in
    let rest = flat_map (λ e. entry_line e ++ 10 ∷ []) log in
    let lines : lines_of ((entry_line entry ++ 10 ∷ []) ++ rest) ≡ entry_line entry ∷ lines_of rest =
    ap lines_of (append_assoc (entry_line entry) (10 ∷ []) rest) ∙ line_first (entry_line entry) rest (entry_on_line entry first.0) in
    let P : List (List ℕ) → Type 0 = λ l. CarryLog max l (entry ∷ log) in
    subst P (sym lines) (Some entry, log, (first.1, entry_written entry first.0), entries_carried max log (All-tail Q entry log h), refl)

pub log_written : (s : Parameters) (log : List Entry) → IsWithinLimits s → All (λ entry. IsEntry entry × (length (entry_line entry) ≤ line_limit s.max)) log
    → LogText (written_log s log) s log
log_written s log w h =
    let P : List (List ℕ) → Type 0 = λ l. EncodesLog l s log in
    subst P (sym (line_first (settings_line s) _ (settings_on_line s w))) (settings_written s w, entries_carried s.max log h)
