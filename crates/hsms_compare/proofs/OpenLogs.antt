-- Logs that may have more entries than they show.
use Rattle.std.proofs.Common.{◌≡◌, ◌++◌, ◌+◌, ◌<◌, ◌≤◌, ℕ, List, [], ◌∷◌, length, take, drop, refl, sym, ◌∙◌, ap, subst, inl, inr, arith}
use Rattle.std.specs.Prelude.{◌↔◌, Bool, true, false, IsTrue, Option, Some, None}
use Rattle.std.proofs.lemmas.List.{append-nil, length-append, take-append-le, take-append-drop, take_all, take_more, nil_from_length}
use Rattle.std.proofs.lemmas.Bool.{cases_lt}
use Rattle.hsms_frame.specs.Frame.{Frame}
use Rattle.hsms_machine.specs.declared.entry.Entry.{Entry}
use Rattle.hsms_machine.specs.declared.entry.Event.TheVariants.{Up, Sent}
use Rattle.hsms_machine.specs.declared.settings.Role.TheVariants.{Host, Equipment}
use Rattle.hsms_machine.specs.Entry.{entry_at}
use Rattle.hsms_compare.specs.declared.stop.Stop.{Stop}
use Rattle.hsms_compare.specs.declared.stop.Stop.TheVariants.{Waits, OtherSent}
use Rattle.hsms_compare.specs.declared.contradiction.Contradiction.{Contradiction}
use Rattle.hsms_compare.specs.declared.contradiction.Contradiction.TheVariants.{Differs, Unsent, Order}
use Rattle.hsms_compare.specs.Conversation.{Agree, IsDelivered, IsPrefix, sent, received}
use Rattle.hsms_compare.specs.Agreement.{AgreeUpTo, CanAgree, Contradicts, FirstContradiction, IsDifferent, IsUnsent, MayHave, ReceivesAs, StopsAt}
use Rattle.hsms_compare.proofs.Agreements.{IsStuck, encounters, stuck}
use Rattle.hsms_compare.proofs.Finals.{receives-more, sends-more}
use Rattle.hsms_compare.proofs.Histories.{agree-delivered, agree-host, agree-many, agree-swap, delivered-as, delivered-prefix, received-append, sent-append}

-- ---- logs that cannot be merged further

agree_up_to-swap : (host equipment : List Entry) (i j : ℕ) → AgreeUpTo host equipment i j → AgreeUpTo equipment host j i
agree_up_to-swap host equipment i j u = record {
  within_host = u.within_equipment;
  within_equipment = u.within_host;
  agree = agree-swap (take i host) (take j equipment) u.agree;
  furthest = λ m n le le' g.
      (let f : (n ≤ i) × (m ≤ j) = u.furthest n m le' le (agree-swap (take m equipment) (take n host) g) in
      (f.1, f.0));
}

stuck_host : (host equipment : List Entry) (i j : ℕ) → AgreeUpTo host equipment i j → IsStuck host i (take j equipment)
stuck_host host equipment i j u d =
    elim (cases_lt i (length host)) [
      | inl lt ↦ absurd (
          let e : take (i + 1) host ≡ take i host ++ entry_at host i ∷ [] = take_more host i (record { time = 0; event = Up }) lt in
          let P : List Entry → Type 0 = λ x. Agree x (take j equipment) in
          let g : Agree (take i host ++ entry_at host i ∷ []) (take j equipment) =
          agree-host (take i host) (take j equipment) (entry_at host i) u.agree
          (delivered-as (take j equipment) (take j equipment) (take (i + 1) host) (take i host ++ entry_at host i ∷ []) refl (sym e) d) in
          let f : (i + 1 ≤ i) × (j ≤ j) = u.furthest (i + 1) j (omega arith) u.within_equipment (subst P (sym e) g) in
          omega (arith, f.0))
      | inr ge ↦ omega arith
    ]

stuck-more : (log more : List Entry) (i : ℕ) (other : List Entry) → i < length log → IsStuck log i other → IsStuck (log ++ more) i other
stuck-more log more i other lt s d =
    absurd (
    let over : length log ≤ i = s (delivered-as other other (take (i + 1) (log ++ more)) (take (i + 1) log) refl (sym (take-append-le (i + 1) log more (omega arith))) d) in
    omega arith)

agree_as : (a a' b b' : List Entry) → a ≡ a' → b ≡ b' → Agree a b → Agree a' b'
agree_as a a' b b' e f g =
    let P : List Entry → Type 0 = λ x. Agree x b in
    let Q : List Entry → Type 0 = λ x. Agree a' x in
    subst Q f (subst P e g)

-- If each log has an entry after the prefixes that agree, more entries do not make the logs agree.
both_stuck : (host equipment more rest : List Entry) (i j : ℕ) → AgreeUpTo host equipment i j → i < length host → j < length equipment → Agree (host ++ more) (equipment ++ rest) → ⊥
both_stuck host equipment more rest i j u lt lt' g =
    let te : take i (host ++ more) ≡ take i host = take-append-le i host more (omega arith) in
    let tf : take j (equipment ++ rest) ≡ take j equipment = take-append-le j equipment rest (omega arith) in
    let l = length-append host more in
    let m = length-append equipment rest in
    let P : List Entry → Type 0 = λ x. IsStuck (host ++ more) i x in
    let Q : List Entry → Type 0 = λ x. IsStuck (equipment ++ rest) j x in
    let s : IsStuck (host ++ more) i (take j (equipment ++ rest)) = subst P (sym tf) (stuck-more host more i (take j equipment) lt (stuck_host host equipment i j u)) in
    let t : IsStuck (equipment ++ rest) j (take i (host ++ more)) =
    subst Q (sym te) (stuck-more equipment rest j (take i host) lt' (stuck_host equipment host j i (agree_up_to-swap host equipment i j u))) in
    let up : AgreeUpTo (host ++ more) (equipment ++ rest) i j =
    encounters (host ++ more) (equipment ++ rest) i j (omega arith) (omega arith)
    (agree_as (take i host) (take i (host ++ more)) (take j equipment) (take j (equipment ++ rest)) (sym te) (sym tf) u.agree) s t in
    let all = agree_as (host ++ more) (take (length (host ++ more)) (host ++ more)) (equipment ++ rest) (take (length (equipment ++ rest)) (equipment ++ rest))
    (sym (take_all (length (host ++ more)) (host ++ more) (omega arith))) (sym (take_all (length (equipment ++ rest)) (equipment ++ rest) (omega arith))) g in
    let f : (length (host ++ more) ≤ i) × (length (equipment ++ rest) ≤ j) =
    up.furthest (length (host ++ more)) (length (equipment ++ rest)) (omega arith) (omega arith) all in
    omega (arith, f.0)

-- ---- a received frame that was not sent

over_by : (log other : List Entry) (i : ℕ) (stop : Stop) → i < length log → StopsAt log i other stop → IsDelivered other log → ⊥
over_by log other i stop lt h d =
    let s : length log ≤ i = stuck log i other stop h
    (delivered-prefix other (take (i + 1) log) (drop (i + 1) log)
    (delivered-as other other log (take (i + 1) log ++ drop (i + 1) log) refl (take-append-drop (i + 1) log) d)) in
    omega arith

different_over : (log other more rest : List Entry) (k i : ℕ) → IsDifferent other log k i → IsDelivered (other ++ rest) (log ++ more) → ⊥
different_over log other more rest k i (frame, another, n, r, s, apart) d =
    let t : ReceivesAs (log ++ more) i frame n = receives-more log more i frame n r in
    over_by (log ++ more) (other ++ rest) i (OtherSent k) t.there (frame, another, n, t, sends-more other rest k another n s, apart) d

unsent_over : (log other more rest : List Entry) (i : ℕ) → IsUnsent other log i → rest ≡ [] → IsDelivered (other ++ rest) (log ++ more) → ⊥
unsent_over log other more rest i (frame, n, r, few) none d =
    let t : ReceivesAs (log ++ more) i frame n = receives-more log more i frame n r in
    over_by (log ++ more) other i Waits t.there (frame, n, t, few)
    (delivered-as (other ++ rest) other (log ++ more) (log ++ more) (sym (ap (λ x. other ++ x) none ∙ append-nil other)) refl d)

-- ---- a contradiction remains one, whatever follows in an open log

unsent_host : (ho eo : Bool) (host equipment : List Entry) (i j : ℕ) → AgreeUpTo host equipment i j → IsUnsent equipment host i → (IsTrue eo → j < length equipment) → CanAgree ho eo host equipment → ⊥
unsent_host ho true host equipment i j u f after g =
    both_stuck host equipment g.host_more g.equipment_more i j u f.2.there (after refl) g.agree
unsent_host ho false host equipment i j u f after g =
    unsent_over host equipment g.host_more g.equipment_more i f g.equipment_may
    (agree-delivered (host ++ g.host_more) (equipment ++ g.equipment_more) g.agree).1

can_agree-swap : (ho eo : Bool) (host equipment : List Entry) → CanAgree ho eo host equipment → CanAgree eo ho equipment host
can_agree-swap ho eo host equipment g = record {
  host_more = g.equipment_more;
  equipment_more = g.host_more;
  host_may = g.equipment_may;
  equipment_may = g.host_may;
  agree = agree-swap (host ++ g.host_more) (equipment ++ g.equipment_more) g.agree;
}

cannot_agree : (ho eo : Bool) (host equipment : List Entry) (i j : ℕ) (c : Contradiction) → AgreeUpTo host equipment i j → Contradicts ho eo host equipment i j c → CanAgree ho eo host equipment → ⊥
cannot_agree ho eo host equipment i j (Differs Host sender receiver) u (at, f) g =
    different_over host equipment g.host_more g.equipment_more sender receiver f (agree-delivered (host ++ g.host_more) (equipment ++ g.equipment_more) g.agree).1
cannot_agree ho eo host equipment i j (Differs Equipment sender receiver) u (at, f) g =
    different_over equipment host g.equipment_more g.host_more sender receiver f (agree-delivered (host ++ g.host_more) (equipment ++ g.equipment_more) g.agree).0
cannot_agree ho eo host equipment i j (Unsent Host receiver) u (at, f, after) g =
    let P : ℕ → Type 0 = λ x. IsUnsent equipment host x in
    unsent_host ho eo host equipment i j u (subst P at f) after g
cannot_agree ho eo host equipment i j (Unsent Equipment receiver) u (at, f, after) g =
    let P : ℕ → Type 0 = λ x. IsUnsent host equipment x in
    unsent_host eo ho equipment host j i (agree_up_to-swap host equipment i j u) (subst P at f) after (can_agree-swap ho eo host equipment g)
cannot_agree ho eo host equipment i j (Order at_host at_equipment) u (at, at', f, f') g =
    both_stuck host equipment g.host_more g.equipment_more i j u f.4.there f'.4.there g.agree

pub agree_iff : (ho eo : Bool) (host equipment : List Entry) (found : Option Contradiction) → FirstContradiction ho eo host equipment found → (found ≡ None) ↔ CanAgree ho eo host equipment
agree_iff ho eo host equipment None h = ((λ e. h), (λ g. refl))
agree_iff ho eo host equipment (Some c) (i, j, u, f) = ((λ e. absurd (cc)), (λ g. absurd (cannot_agree ho eo host equipment i j c u f g)))

-- ---- logs that agree, or may agree

may_none : (b : Bool) → MayHave b []
may_none true = tt
may_none false = refl

pub can_agree_now : (ho eo : Bool) (host equipment : List Entry) (i j : ℕ) → AgreeUpTo host equipment i j → i ≡ length host → j ≡ length equipment → CanAgree ho eo host equipment
can_agree_now ho eo host equipment i j u end end' = record {
  host_more = [];
  equipment_more = [];
  host_may = may_none ho;
  equipment_may = may_none eo;
  agree = agree_as (take i host) (host ++ []) (take j equipment) (equipment ++ [])
      (take_all i host (omega arith) ∙ sym (append-nil host)) (take_all j equipment (omega arith) ∙ sym (append-nil equipment)) u.agree;
}

-- Entries that send these frames.
sending : List Frame → List Entry
sending [] = []
sending (frame ∷ frames) = record { time = 0; event = Sent frame } ∷ sending frames

sent-sending : (frames : List Frame) → sent (sending frames) ≡ frames
unfolding sending
sent-sending [] = refl
sent-sending (frame ∷ frames) = ap (λ x. frame ∷ x) (sent-sending frames)

received-sending : (frames : List Frame) → received (sending frames) ≡ []
unfolding sending
received-sending [] = refl
received-sending (frame ∷ frames) = received-sending frames

-- A log that waits has received all that the other one sent.
all_received : (log : List Entry) (j : ℕ) (other : List Entry) → StopsAt log j other Waits → IsDelivered other (take j log) → sent other ≡ received (take j log)
all_received log j other (frame, n, r, few) (rest, e) =
    let l = ap length e in
    let m = length-append (received (take j log)) rest in
    let k = r.number in
    let none : rest ≡ [] = nil_from_length rest (omega arith) in
    e ∙ ap (λ x. received (take j log) ++ x) none ∙ append-nil (received (take j log))

-- The host's log is open and merged in full: it may still send what the equipment's log receives.
pub can_agree_later : (ho eo : Bool) (host equipment : List Entry) (i j : ℕ) → AgreeUpTo host equipment i j → i ≡ length host → ho ≡ true → StopsAt equipment j (take i host) Waits → CanAgree ho eo host equipment
can_agree_later ho eo host equipment i j u end is_open h =
    let all : take i host ≡ host = take_all i host (omega arith) in
    let near : List Entry = take j equipment in
    let far : List Entry = drop j equipment in
    let more : List Entry = sending (received far) in
    let a0 : Agree host near = agree_as (take i host) host near near all refl u.agree in
    let both = agree-delivered host near a0 in
    let S : List Entry → Type 0 = λ x. StopsAt equipment j x Waits in
    let silent : received (host ++ more) ≡ received host =
    received-append host more ∙ ap (λ x. received host ++ x) (received-sending (received far)) ∙ append-nil (received host) in
    let P : List Frame → Type 0 = λ x. IsPrefix x (sent near) in
    let a1 : Agree (host ++ more) near = agree-many host near more a0 (subst P (sym silent) both.1) in
    let d : sent (host ++ more) ≡ received (near ++ far) ++ [] =
    sent-append host more ∙ ap (λ x. sent host ++ x) (sent-sending (received far))
    ∙ ap (λ x. x ++ received far) (all_received equipment j host (subst S all h) both.0)
    ∙ sym (received-append near far) ∙ sym (append-nil (received (near ++ far))) in
    let a2 : Agree (near ++ far) (host ++ more) = agree-many near (host ++ more) far (agree-swap (host ++ more) near a1) ([], d) in
    let M : Bool → Type 0 = λ b. MayHave b more in
    record {
      host_more = more;
      equipment_more = [];
      host_may = subst M (sym is_open) tt;
      equipment_may = may_none eo;
      agree = agree_as (host ++ more) (host ++ more) (near ++ far) (equipment ++ []) refl
          (take-append-drop j equipment ∙ sym (append-nil equipment)) (agree-swap (near ++ far) (host ++ more) a2);
    }

pub can_agree_later_too : (ho eo : Bool) (host equipment : List Entry) (i j : ℕ) → AgreeUpTo host equipment i j → j ≡ length equipment → eo ≡ true → StopsAt host i (take j equipment) Waits → CanAgree ho eo host equipment
can_agree_later_too ho eo host equipment i j u end is_open h =
    can_agree-swap eo ho equipment host (can_agree_later eo ho equipment host j i (agree_up_to-swap host equipment i j u) end is_open h)
