-- Two logs agree up to a furthest point, if one of them is stuck.
use Rattle.std.proofs.Common.{◌≡◌, ◌++◌, ◌+◌, ◌≤◌, ◌⊎◌, ℕ, zero, suc, List, [], ◌∷◌, length, take, drop, refl, sym, ◌∙◌, ap, subst, inl, inr, arith}
use Rattle.std.proofs.lemmas.List.{take_more, take-append-drop, length-take-le}
use Rattle.std.proofs.lemmas.Bool.{cases_eq}
use Rattle.hsms_frame.specs.Frame.{Frame}
use Rattle.hsms_frame.specs.declared.header.Header.{Header}
use Rattle.hsms_machine.specs.declared.entry.Entry.{Entry}
use Rattle.hsms_machine.specs.declared.entry.Event.TheVariants.{Up}
use Rattle.hsms_machine.specs.Entry.{entry_at}
use Rattle.hsms_compare.specs.declared.stop.Stop.TheVariants.{OtherSent}
use Rattle.hsms_compare.specs.Conversation.{Agree, IsDelivered, IsPrefix, sent, received}
use Rattle.hsms_compare.specs.Agreement.{AgreeUpTo, IsDifferent}
use Rattle.hsms_compare.proofs.Agreements.{IsStuck, encounters, stuck}
use Rattle.hsms_compare.proofs.Histories.{agree-host, agree-swap, delivered-as, delivered-more}

-- ---- what can be decided

abbrev Decided : Type 0 → Type 0
Decided A = A ⊎ (A → ⊥)

both : {A B : Type 0} → Decided A → Decided B → Decided (A × B)
both (inl a) (inl b) = inl (a, b)
both (inr fails) b = inr (λ p. fails p.0)
both (inl a) (inr fails) = inr (λ p. fails p.1)

bytes_decided : (a b : List ℕ) → Decided (a ≡ b)
bytes_decided [] [] = inl refl
bytes_decided [] (y ∷ b) = inr (λ h. cc h)
bytes_decided (x ∷ a) [] = inr (λ h. cc h)
bytes_decided (x ∷ a) (y ∷ b) =
    elim (cases_eq x y) [
      | inl same ↦
          elim (bytes_decided a b) [
            | inl rest ↦ inl (ap (λ z. z ∷ a) same ∙ ap (λ l. y ∷ l) rest)
            | inr fails ↦ inr (λ h. let tail : a ≡ b = cc h in fails tail)
          ]
      | inr other ↦ inr (λ h. let head : x ≡ y = cc h in other head)
    ]

same_header : (a b : Header) → a.session ≡ b.session → a.byte2 ≡ b.byte2 → a.byte3 ≡ b.byte3 → a.ptype ≡ b.ptype → a.stype ≡ b.stype → a.system ≡ b.system → a ≡ b
same_header a b session byte2 byte3 ptype stype system =
    ap (λ x. record a { session = x }) session
    ∙ ap (λ x. record a { session = b.session; byte2 = x }) byte2
    ∙ ap (λ x. record a { session = b.session; byte2 = b.byte2; byte3 = x }) byte3
    ∙ ap (λ x. record a { session = b.session; byte2 = b.byte2; byte3 = b.byte3; ptype = x }) ptype
    ∙ ap (λ x. record a { session = b.session; byte2 = b.byte2; byte3 = b.byte3; ptype = b.ptype; stype = x }) stype
    ∙ ap (λ x. record b { system = x }) system

header_decided : (a b : Header) → Decided (a ≡ b)
header_decided a b =
    elim (both (cases_eq a.session b.session) (both (cases_eq a.byte2 b.byte2) (both (cases_eq a.byte3 b.byte3) (both (cases_eq a.ptype b.ptype) (both (cases_eq a.stype b.stype) (cases_eq a.system b.system)))))) [
      | inl h ↦ inl (same_header a b h.0 h.1.0 h.1.1.0 h.1.1.1.0 h.1.1.1.1.0 h.1.1.1.1.1)
      | inr fails ↦ inr (λ e. fails (ap (λ (x : Header). x.session) e, (ap (λ (x : Header). x.byte2) e, (ap (λ (x : Header). x.byte3) e, (ap (λ (x : Header). x.ptype) e, (ap (λ (x : Header). x.stype) e, ap (λ (x : Header). x.system) e))))))
    ]

frame_decided : (a b : Frame) → Decided (a ≡ b)
frame_decided a b =
    elim (both (header_decided a.header b.header) (bytes_decided a.text b.text)) [
      | inl h ↦ inl (ap (λ x. record a { header = x }) h.0 ∙ ap (λ x. record b { text = x }) h.1)
      | inr fails ↦ inr (λ e. fails (ap (λ (x : Frame). x.header) e, ap (λ (x : Frame). x.text) e))
    ]

prefix_decided : (prefix list : List Frame) → Decided (IsPrefix prefix list)
prefix_decided [] list = inl (list, refl)
prefix_decided (x ∷ prefix) [] = inr (λ h. let e = h.1 in cc e)
prefix_decided (x ∷ prefix) (y ∷ list) =
    elim (frame_decided y x) [
      | inl same ↦
          elim (prefix_decided prefix list) [
            | inl found ↦ inl (found.0, ap (λ z. z ∷ list) same ∙ ap (λ l. x ∷ l) found.1)
            | inr fails ↦ inr (λ h. let e = h.1 in let tail : list ≡ prefix ++ h.0 = cc e in fails (h.0, tail))
          ]
      | inr other ↦ inr (λ h. let e = h.1 in let head : y ≡ x = cc e in other head)
    ]

-- ---- one log is stuck, and the other one goes on

stuck_anywhere : (host equipment : List Entry) (i k j : ℕ) → IsDifferent equipment host k i → IsStuck host i (take j equipment)
stuck_anywhere host equipment i k j h d =
    stuck host i equipment (OtherSent k) h
    (delivered-as (take j equipment ++ drop j equipment) equipment (take (i + 1) host) (take (i + 1) host) (sym (take-append-drop j equipment)) refl
    (delivered-more (take j equipment) (drop j equipment) (take (i + 1) host) d))

next_agrees : (host equipment : List Entry) (i j : ℕ) → j + 1 ≤ length equipment → Agree (take i host) (take j equipment) → IsDelivered (take i host) (take (j + 1) equipment) → Agree (take i host) (take (j + 1) equipment)
next_agrees host equipment i j there a d =
    let e : take (j + 1) equipment ≡ take j equipment ++ entry_at equipment j ∷ [] = take_more equipment j (record { time = 0; event = Up }) (omega arith) in
    agree-swap (take (j + 1) equipment) (take i host) (
    let P : List Entry → Type 0 = λ x. Agree x (take i host) in
    subst P (sym e) (agree-host (take j equipment) (take i host) (entry_at equipment j) (agree-swap (take i host) (take j equipment) a)
    (delivered-as (take i host) (take i host) (take (j + 1) equipment) (take j equipment ++ entry_at equipment j ∷ []) refl (sym e) d)))

pub completed : (host equipment : List Entry) (i k : ℕ) → i ≤ length host → IsDifferent equipment host k i → (m j : ℕ) → j + m ≡ length equipment → Agree (take i host) (take j equipment) → (n : ℕ) × AgreeUpTo host equipment i n
completed host equipment i k within h zero j e a =
    (j, encounters host equipment i j within (omega arith) a (stuck_anywhere host equipment i k j h) (λ d. omega arith))
completed host equipment i k within h (suc m) j e a =
    elim (prefix_decided (received (take (j + 1) equipment)) (sent (take i host))) [
      | inl d ↦ completed host equipment i k within h m (j + 1) (omega arith) (next_agrees host equipment i j (omega arith) a d)
      | inr fails ↦ (j, encounters host equipment i j within (omega arith) a (stuck_anywhere host equipment i k j h) (λ d. absurd (fails d)))
    ]

pub up_to-swap : (host equipment : List Entry) (i j : ℕ) → AgreeUpTo host equipment i j → AgreeUpTo equipment host j i
up_to-swap host equipment i j u = record {
  within_host = u.within_equipment;
  within_equipment = u.within_host;
  agree = agree-swap (take i host) (take j equipment) u.agree;
  furthest = λ m n le le' g. (let f = u.furthest n m le' le (agree-swap (take m equipment) (take n host) g) in (f.1, f.0));
}
