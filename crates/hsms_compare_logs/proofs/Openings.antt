-- The first line of a log, and the entries after it.
use Rattle.std.proofs.Common.{◌≡◌, ◌≢◌, ◌++◌, ◌+◌, ◌<◌, inl, inr, ℕ, List, [], ◌∷◌, length, Some, None, Bool, true, false, refl, sym, ◌∙◌, ap, subst, arith, append_assoc, length-append}
use Rattle.std.specs.Prelude.{Option, Result, Ok, Err, IfOk, IfSome}
use Rattle.std.specs.Str.Lines.{strip_carriage_return}
use Rattle.std.specs.Prelude.{◌==◌}
use Rattle.std.proofs.lemmas.List.Elements.{All-append}
use Rattle.hsms_machine.specs.declared.settings.Role.{Role}
use Rattle.hsms_machine.specs.declared.settings.Role.TheVariants.{Host, Equipment}
use Rattle.hsms_machine.specs.Settings.{Parameters}
use Rattle.hsms_log.specs.Lines.{HasNone, ended_lines, open_line}
use Rattle.hsms_log.specs.LineFormat.{EncodesSettings}
use Rattle.hsms_log.proofs.SettingsLaws.{EncodesSettings-unique}
use Rattle.hsms_log.proofs.LineLemmas.{ended_lines-first, ended_lines-none, open_line-first, open_line-none}
use Rattle.hsms_compare.specs.Conversation.{Line}
use Rattle.hsms_compare_logs.specs.declared.input.InputLine.{InputLine}
use Rattle.hsms_compare_logs.specs.declared.input.InputLine.TheVariants.{Last, TooLong}
use Rattle.hsms_compare_logs.specs.InnerConnection.{IsFirstLine}
use Rattle.hsms_compare_logs.specs.Entries.{AreLeft, AreOfText}
use Rattle.hsms_compare_logs.specs.LogEntries.{HasEntries, HasSettings, HaveEntries, HaveSettings}
use Rattle.hsms_compare_logs.specs.InnerReader.{IsLine}
use Rattle.hsms_compare_logs.proofs.LineEntries.{first_feed, strip-length}

pub starts : (block octets text line : List ℕ) (left : Option (List ℕ)) (ended : Bool) (s : Parameters) (max : ℕ) (found : List Line) → max ≡ s.max → left ≡ Some octets → IsFirstLine text line (block ++ octets) ended → HasEntries text s found → AreLeft block left max 1 ended found
starts block octets text line left true s max found e known at h =
    let P : List ℕ → Type 0 = λ x. HasEntries x s found in
    let Q : List (List ℕ) → Type 0 = λ x. HaveEntries x (open_line line) s found in
    let a : HaveEntries [] (open_line line) s found = subst Q (ended_lines-none line at.1) (subst P at.0 h) in
    a.1
starts block octets text line left false s max found e known at h =
    let P : List ℕ → Type 0 = λ x. HasEntries x s found in
    let Q : List (List ℕ) → Type 0 = λ x. HaveEntries x (open_line (line ++ 10 ∷ (block ++ octets))) s found in
    let R : List ℕ → Type 0 = λ x. HaveEntries (strip_carriage_return line ∷ ended_lines (block ++ octets)) x s found in
    let S : ℕ → Type 0 = λ x. AreOfText x 2 (block ++ octets) found in
    let a : HaveEntries (strip_carriage_return line ∷ ended_lines (block ++ octets)) (open_line (block ++ octets)) s found =
    subst R (open_line-first line (block ++ octets) at.1) (subst Q (ended_lines-first line (block ++ octets) at.1) (subst P at.0 h)) in
    (octets, known, subst S (sym e) a.1)

pub settings_of : (text line left : List ℕ) (ended : Bool) (s : Parameters) → EncodesSettings (strip_carriage_return line) s → IsFirstLine text line left ended → HasSettings text s
settings_of text line left true s e at =
    let P : List ℕ → Type 0 = λ x. HasSettings x s in
    let Q : List (List ℕ) → Type 0 = λ x. HaveSettings x (open_line line) s in
    let R : List ℕ → Type 0 = λ x. EncodesSettings (strip_carriage_return x) s in
    subst P (sym at.0) (subst Q (sym (ended_lines-none line at.1)) (subst R (sym (open_line-none line at.1)) e))
settings_of text line left false s e at =
    let P : List ℕ → Type 0 = λ x. HasSettings x s in
    let Q : List (List ℕ) → Type 0 = λ x. HaveSettings x (open_line (line ++ 10 ∷ left)) s in
    subst P (sym at.0) (subst Q (sym (ended_lines-first line left at.1)) e)

-- ---- one text has one list of settings

same_go : (lines : List (List ℕ)) (last : List ℕ) (s t : Parameters) → HaveSettings lines last s → HaveSettings lines last t → s ≡ t
same_go [] last s t a b = EncodesSettings-unique (strip_carriage_return last) s t a b
same_go (first ∷ lines) last s t a b = EncodesSettings-unique first s t a b

pub same_settings : (text : List ℕ) (s t : Parameters) → HasSettings text s → HasSettings text t → s ≡ t
same_settings text s t a b = same_go (ended_lines text) (open_line text) s t a b

begins_go : (lines : List (List ℕ)) (last : List ℕ) (s : Parameters) (found : List Line) → HaveEntries lines last s found → HaveSettings lines last s
begins_go [] last s found h = h.0
begins_go (first ∷ lines) last s found h = h.0

pub begins_with : (text : List ℕ) (s : Parameters) (found : List Line) → HasEntries text s found → HasSettings text s
begins_with text s found h = begins_go (ended_lines text) (open_line text) s found h

pub settings_in : (text line left : List ℕ) (ended : Bool) (s : Parameters) → HasSettings text s → IsFirstLine text line left ended → EncodesSettings (strip_carriage_return line) s
settings_in text line left true s h at =
    let P : List ℕ → Type 0 = λ x. HasSettings x s in
    let Q : List (List ℕ) → Type 0 = λ x. HaveSettings x (open_line line) s in
    let R : List ℕ → Type 0 = λ x. EncodesSettings (strip_carriage_return x) s in
    subst R (open_line-none line at.1) (subst Q (ended_lines-none line at.1) (subst P at.0 h))
settings_in text line left false s h at =
    let P : List ℕ → Type 0 = λ x. HasSettings x s in
    let Q : List (List ℕ) → Type 0 = λ x. HaveSettings x (open_line (line ++ 10 ∷ left)) s in
    subst Q (ended_lines-first line left at.1) (subst P at.0 h)

long_line : (line : List ℕ) (s : Parameters) → 257 < length line → EncodesSettings (strip_carriage_return line) s → ⊥
long_line line s long h =
    let a = h.fits in
    let b = strip-length line in
    omega arith

pub no_settings : (text part more : List ℕ) (s : Parameters) → text ≡ part ++ more → HasNone 10 part → 257 < length part → HasSettings text s → ⊥
no_settings text part more s e none long h =
    elim (first_feed more) [
      | inl rest ↦
          let all : HasNone 10 (part ++ more) = All-append (λ (x : ℕ). (x == 10) ≡ false) part more none rest in
          let c = length-append part more in
          long_line (part ++ more) s (omega arith) (settings_in text (part ++ more) [] true s h (e, all))
      | inr feed ↦
          let all : HasNone 10 (part ++ feed.0) = All-append (λ (x : ℕ). (x == 10) ≡ false) part feed.0 none feed.3 in
          let split : text ≡ (part ++ feed.0) ++ 10 ∷ feed.1 = e ∙ ap (λ x. part ++ x) feed.2 ∙ sym (append_assoc part feed.0 (10 ∷ feed.1)) in
          let c = length-append part feed.0 in
          long_line (part ++ feed.0) s (omega arith) (settings_in text (part ++ feed.0) feed.1 false s h (split, all))
    ]

pub opened_as : {T F : Type 0} (result : Result (Option T) F) (P Q : T → Type 0) → ((x : T) → P x → Q x) → IfOk result (λ o. IfSome o P) → IfOk result (λ o. IfSome o Q)
opened_as (Err e) P Q f h = tt
opened_as (Ok None) P Q f h = tt
opened_as (Ok (Some x)) P Q f h = f x h

pub last_is : (limit : ℕ) (items text line left : List ℕ) (a : InputLine) (last : _) → items ≡ [] → a ≡ Last last → line ≡ last.items → IsLine limit (items ++ text) a left → (text ≡ line) × HasNone 10 line
last_is limit items text line left a last none is same h =
    let P : InputLine → Type 0 = λ x. IsLine limit (items ++ text) x left in
    let Q : List ℕ → Type 0 = λ x. HasNone 10 x in
    let b = subst P is h in
    (sym (ap (λ x. x ++ text) none) ∙ b.0 ∙ sym same, subst Q (sym same) b.1)

pub too_long_first : (items text left : List ℕ) (a : InputLine) (s : Parameters) → items ≡ [] → a ≡ TooLong → IsLine 256 (items ++ text) a left → HasSettings text s → ⊥
too_long_first items text left a s none is h has =
    let P : InputLine → Type 0 = λ x. IsLine 256 (items ++ text) x left in
    let b = subst P is h in
    no_settings text b.0 b.1 s (sym (ap (λ x. x ++ text) none) ∙ b.2) b.3 b.4 has

-- ---- roles

pub other_role : (a b : Role) → a ≢ b → a ≡ Equipment → b ≡ Host
other_role a Host apart is = refl
other_role a Equipment apart is = absurd (apart is)
