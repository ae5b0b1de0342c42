-- The lines of an input.
use Rattle.std.proofs.Common.{◌≡◌, ◌++◌, ◌+◌, ◌<◌, ◌≤◌, ◌^◌, ℕ, List, [], ◌∷◌, length, take, drop, Some, false, refl, sym, ◌∙◌, ap, subst, arith, append_assoc, length-append}
use Rattle.std.specs.Prelude.{Option, IfSome, Result, Ok, Err, IfOk, ◌==◌}
use Rattle.std.proofs.lemmas.List.{take-append-drop, append-nil, length-take-le}
use Rattle.std.proofs.lemmas.List.Elements.{All-append}
use Rattle.hsms_frame.specs.Io.{Takes}
use Rattle.hsms_log.specs.Auditor.{HasAtMost}
use Rattle.hsms_log.specs.declared.auditor.Auditor.{Auditor}
use Rattle.hsms_log.specs.Lines.{HasNone}
use Rattle.hsms_log.specs.Verdict.{HasAuditVerdict}
use Rattle.hsms_log.specs.declared.verdict.Verdict.{Verdict}
use Rattle.hsms_compare_logs.specs.Audited.{AuditState, HasAudited, ReadsText}
use Rattle.hsms_compare_logs.specs.Reader.{room}

-- ---- an audit

pub at_most_of : (held : Option Auditor) (auditor : Auditor) (n : ℕ) → held ≡ Some auditor → IfSome held (HasAtMost n) → HasAtMost n auditor
at_most_of held auditor n e h =
    let P : Option Auditor → Type 0 = λ x. IfSome x (HasAtMost n) in
    subst P e h

-- ---- a block

pub block_of : (old new : Option (List ℕ)) (n : ℕ) (buffer items octets : List ℕ) → Takes old new n buffer → items ≡ take n buffer → old ≡ Some octets
    → (rest : List ℕ) × (new ≡ Some rest) × (octets ≡ items ++ rest)
block_of old new n buffer items octets takes is known =
    let step = takes octets known in
    (drop n octets, step.2, sym (take-append-drop n octets) ∙ ap (λ x. x ++ drop n octets) (sym step.1 ∙ sym is))

pub text_of : (old new : Option (List ℕ)) (n : ℕ) (buffer text : List ℕ) (before after : AuditState) → Takes old new n buffer
    → ((text : List ℕ) → HasAudited before text → HasAudited after (text ++ take n buffer)) → ReadsText text before old → ReadsText text after new
text_of old new n buffer text before after takes on (done, rest, e, known, audited) =
    let step = takes rest known in (
      done ++ take n buffer,
      drop n rest,
      e ∙ ap (λ l. done ++ l) (sym (take-append-drop n rest)) ∙ ap (λ l. done ++ (l ++ drop n rest)) (sym step.1)
          ∙ sym (append_assoc done (take n buffer) (drop n rest)),
      step.2,
      on done audited,
    )

pub room_after : (items part : List ℕ) (before after : AuditState) → items ≡ part → after.taken ≡ before.taken + length part → after.taken ≤ 2 ^ 62 → room items after ≤ room [] before
room_after items part before after is taken small = let l = ap length is in omega arith

pub room_less : (n : ℕ) (buffer : List ℕ) (before after : AuditState) → 0 < n → n ≤ length buffer → after.taken ≡ before.taken + length (take n buffer) → after.taken ≤ 2 ^ 62 → room [] after < room [] before
room_less n buffer before after some bound taken small = let l = length-take-le n buffer bound in omega arith

-- ---- a line

pub none_more : (held part : List ℕ) → HasNone 10 held → HasNone 10 part → HasNone 10 (held ++ part)
none_more held part a b = All-append (λ (x : ℕ). (x == 10) ≡ false) held part a b

pub ended_text : (text held part block block' rest : List ℕ) → text ≡ held ++ (block ++ rest) → block ≡ part ++ 10 ∷ block' → text ≡ (held ++ part) ++ 10 ∷ (block' ++ rest)
ended_text text held part block block' rest e f =
    e ∙ ap (λ x. held ++ (x ++ rest)) f ∙ ap (λ x. held ++ x) (append_assoc part (10 ∷ block') rest) ∙ sym (append_assoc held part (10 ∷ (block' ++ rest)))

pub ended_room : (part block block' : List ℕ) (audit : AuditState) → block ≡ part ++ 10 ∷ block' → room block' audit < room block audit
ended_room part block block' audit e = let l = ap length e in let m = length-append part (10 ∷ block') in omega arith

pub moved_text : (text held block held' rest : List ℕ) → text ≡ held ++ (block ++ rest) → held' ≡ held ++ block → text ≡ held' ++ rest
moved_text text held block held' rest e f = e ∙ sym (append_assoc held block rest) ∙ ap (λ x. x ++ rest) (sym f)

pub room_of_block : (block : List ℕ) (audit : AuditState) → room [] audit ≤ room block audit
room_of_block block audit = omega arith

pub last_text : (text held block held' rest : List ℕ) → text ≡ held ++ (block ++ rest) → held' ≡ held ++ block → rest ≡ [] → HasNone 10 held → HasNone 10 block → (text ≡ held') × HasNone 10 held'
last_text text held block held' rest e f ended a b =
    let P : List ℕ → Type 0 = λ x. HasNone 10 x in
    (moved_text text held block held' rest e f ∙ ap (λ x. held' ++ x) ended ∙ append-nil held', subst P (sym f) (none_more held block a b))

-- ---- the end of the input

some_inj : (x y : List ℕ) → ◌≡◌ {A = Option (List ℕ)} (Some x) (Some y) → x ≡ y
some_inj x y h = cc

nothing_left : (rest items last : List ℕ) → rest ≡ [] → rest ≡ items ++ last → last ≡ []
nothing_left rest items [] none e = refl
nothing_left rest items (x ∷ last) none e =
    absurd (let l = ap length (sym none ∙ e) in let m = length-append items (x ∷ last) in omega arith)

pub finished : {E : Type 0} (result : Result Verdict E) (left mid new : Option (List ℕ)) (first state after : AuditState) (items : List ℕ)
    → IfOk result (λ verdict. (text : List ℕ) → HasAudited after text → HasAuditVerdict text verdict)
    → ((text : List ℕ) → ReadsText text first left → ReadsText text state mid)
    → ((text : List ℕ) → ReadsText text state mid → ReadsText text after new)
    → ((octets : List ℕ) → mid ≡ Some octets → octets ≡ [])
    → ((octets : List ℕ) → mid ≡ Some octets → (rest : List ℕ) × (new ≡ Some rest) × (octets ≡ items ++ rest))
    → IfOk result (λ verdict. (text : List ℕ) → ReadsText text first left → HasAuditVerdict text verdict)
finished (Err e) left mid new first state after items on so_far pulls end block = tt
finished (Ok verdict) left mid new first state after items on so_far pulls end block =
    λ text reads.
    let before = so_far text reads in
    let now = pulls text before in
    let none = end before.1 before.3 in
    let b = block before.1 before.3 in
    let same : now.1 ≡ b.0 = some_inj now.1 b.0 (sym now.3 ∙ b.1) in
    let empty : now.1 ≡ [] = same ∙ nothing_left before.1 items b.0 none b.2 in
    let P : List ℕ → Type 0 = λ x. HasAuditVerdict x verdict in
    subst P (sym (now.2 ∙ ap (λ x. now.0 ++ x) empty ∙ append-nil now.0)) (on now.0 now.4)
