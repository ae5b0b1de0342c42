-- Channels, order and causes.
use Rattle.std.proofs.Common.{◌≡◌, ◌++◌, ◌+◌, ◌<◌, ◌≤◌, ℕ, suc, List, [], ◌∷◌, length, take, drop, refl, sym, ◌∙◌, ap, subst, inl, inr, arith}
use Rattle.std.specs.Prelude.{◌⊎◌}
use Rattle.std.proofs.lemmas.List.{append-nil, append_assoc, length-append, take_at, take-append-le, take-append-drop, take_more, take-take, get_or-take, length-take-le}
use Rattle.std.proofs.lemmas.List.Concat.{flat_map-append}
use Rattle.hsms_frame.specs.Frame.{Frame}
use Rattle.hsms_machine.specs.declared.entry.Entry.{Entry}
use Rattle.hsms_machine.specs.declared.entry.Event.TheVariants.{Up}
use Rattle.hsms_machine.specs.declared.settings.Role.{Role}
use Rattle.hsms_machine.specs.declared.settings.Role.TheVariants.{Host, Equipment}
use Rattle.hsms_compare.specs.Conversation.{Step, IsPrefix, IsDelivered, IsPossible, peer, entry_of, log_of, sent, received, sent_by}
use Rattle.hsms_compare.specs.Laws.{AgreeIsChannelsAndOrder, CausesComeFirst, IsSending, IsInOrder, OneAgreement, step_at}
use Rattle.hsms_compare.proofs.Histories.{agree-delivered, prefix-trans, log_more, received-more, received-append, sent-append}
use Rattle.hsms_compare.proofs.Merges.{sends_cases}

-- ---- channels and order

-- Of two prefixes of a list, the shorter one is a prefix of the longer one.
prefix_of_prefix : (a b c : List Frame) → IsPrefix a c → IsPrefix b c → length a ≤ length b → IsPrefix a b
prefix_of_prefix a b c (r, e) (s, f) le = (
  drop (length a) b,
  sym (take-append-drop (length a) b)
      ∙ ap (λ x. x ++ drop (length a) b)
      (sym (take-append-le (length a) b s le) ∙ ap (λ x. take (length a) x) (sym f ∙ e) ∙ take_at a r (length a) refl),
)

log_of-append : (end : Role) (a b : List Step) → log_of end (a ++ b) ≡ log_of end a ++ log_of end b
log_of-append end a b = flat_map-append (λ (step : Step). entry_of end step.end step.entry) a b

log_parts : (end : Role) (h : List Step) (m : ℕ) → log_of end h ≡ log_of end (take m h) ++ log_of end (drop m h)
log_parts end h m = ap (λ x. log_of end x) (sym (take-append-drop m h)) ∙ log_of-append end (take m h) (drop m h)

received_prefix : (end : Role) (h : List Step) (m : ℕ) → IsPrefix (received (log_of end (take m h))) (received (log_of end h))
received_prefix end h m =
    (received (log_of end (drop m h)), ap received (log_parts end h m) ∙ received-append (log_of end (take m h)) (log_of end (drop m h)))

sent_prefix : (end : Role) (h : List Step) (m : ℕ) → IsPrefix (sent (log_of end (take m h))) (sent (log_of end h))
sent_prefix end h m =
    (sent (log_of end (drop m h)), ap sent (log_parts end h m) ∙ sent-append (log_of end (take m h)) (log_of end (drop m h)))

possible_from : (h : List Step) → IsInOrder h → ((end : Role) → IsDelivered (log_of (peer end) h) (log_of end h)) → IsPossible h
possible_from h ordered all end m =
    prefix_of_prefix (received (log_of end (take m h))) (sent (log_of (peer end) (take m h))) (sent (log_of (peer end) h))
    (prefix-trans (received (log_of end (take m h))) (received (log_of end h)) (sent (log_of (peer end) h)) (received_prefix end h m) (all end))
    (sent_prefix (peer end) h m) (ordered end m)

prefix_length : (a b : List Frame) → IsPrefix a b → length a ≤ length b
prefix_length a b (r, e) = let l = ap length e in let m = length-append a r in omega arith

pub channels_and_order : AgreeIsChannelsAndOrder
channels_and_order host equipment = (
  (λ g.
      (let both = agree-delivered host equipment g in
      (both.0, both.1, (g.history, g.of_host, g.of_equipment, λ end m. prefix_length (received (log_of end (take m g.history))) (sent (log_of (peer end) (take m g.history))) (g.possible end m))))),
  (λ (forth, rest, (h, of_host, of_equipment, ordered)).
      (record {
        history = h;
        of_host = of_host;
        of_equipment = of_equipment;
        possible = possible_from h ordered (delivered h of_host of_equipment forth rest);
      })),
)
  where
    delivered : (h : List Step) → log_of Host h ≡ host → log_of Equipment h ≡ equipment → IsDelivered host equipment → IsDelivered equipment host → (end : Role) → IsDelivered (log_of (peer end) h) (log_of end h)
    delivered h e f forth rest Host =
        let P : List Entry → Type 0 = λ x. IsDelivered x host in
        let Q : List Entry → Type 0 = λ x. IsDelivered (log_of Equipment h) x in
        subst Q (sym e) (subst P (sym f) rest)
    delivered h e f forth rest Equipment =
        let P : List Entry → Type 0 = λ x. IsDelivered x equipment in
        let Q : List Entry → Type 0 = λ x. IsDelivered (log_of Host h) x in
        subst Q (sym f) (subst P (sym e) forth)

-- ---- causes

-- A step is of this endpoint or of the other one.
its_log : (end own : Role) (e : Entry) → (own ≡ end) × (entry_of end own e ≡ e ∷ []) ⊎ (entry_of end own e ≡ [])
its_log Host Host e = inl (refl, refl)
its_log Host Equipment e = inr refl
its_log Equipment Host e = inr refl
its_log Equipment Equipment e = inl (refl, refl)

not_of_peer : (end : Role) (e : Entry) → entry_of (peer end) end e ≡ []
not_of_peer Host e = refl
not_of_peer Equipment e = refl

of_end : (end : Role) (e : Entry) → entry_of end end e ≡ e ∷ []
of_end Host e = refl
of_end Equipment e = refl

no_frame : (prefix : List Frame) (frame : Frame) (later : List Frame) → [] ≡ prefix ++ frame ∷ later → ⊥
no_frame [] frame later e = absurd (cc)
no_frame (x ∷ prefix) frame later e = absurd (cc)

record WasSent (h : List Step) (end : Role) (frame : Frame) (n : ℕ) : Type 0 where
  at : ℕ
  there : at < length h
  sending : IsSending h at end frame n

module _ (end : Role) where
  later_step : (first : Step) (h : List Step) (frame : Frame) (n m : ℕ) → WasSent h end frame n → length (sent (entry_of end first.end first.entry)) + n ≡ m → WasSent (first ∷ h) end frame m
  later_step first h frame n m w e = record {
    at = suc w.at;
    there = (let t = w.there in omega arith);
    sending = record {
      its_end = w.sending.its_end;
      sends = w.sending.sends;
      number =
          (let l = ap length (sent-append (entry_of end first.end first.entry) (log_of end (take w.at h))) in
          let k = length-append (sent (entry_of end first.end first.entry)) (sent (log_of end (take w.at h))) in
          let n = w.sending.number in
          omega arith);
    };
  }

  at_step : (first : Step) (h : List Step) (prefix : List Frame) (frame : Frame) (later : List Frame) → ((prefix : List Frame) → sent (log_of end h) ≡ prefix ++ frame ∷ later → WasSent h end frame (length prefix)) → (first.end ≡ end) × (entry_of end first.end first.entry ≡ first.entry ∷ []) ⊎ (entry_of end first.end first.entry ≡ []) → (sent_by first.entry.event ≡ []) ⊎ ((frame : Frame) × (sent_by first.entry.event ≡ frame ∷ [])) → sent (entry_of end first.end first.entry) ++ sent (log_of end h) ≡ prefix ++ frame ∷ later → WasSent (first ∷ h) end frame (length prefix)
  at_step first h prefix frame later in_rest (inr other) c e =
      later_step first h frame (length prefix) (length prefix) (in_rest prefix (ap (λ x. sent x ++ sent (log_of end h)) (sym other) ∙ e))
      (let n = ap (λ x. length (sent x)) other in omega arith)
  at_step first h prefix frame later in_rest (inl (own, one)) (inl none) e =
      let silent : sent (entry_of end first.end first.entry) ≡ [] = ap sent one ∙ append-nil (sent_by first.entry.event) ∙ none in
      later_step first h frame (length prefix) (length prefix) (in_rest prefix (ap (λ x. x ++ sent (log_of end h)) (sym silent) ∙ e))
      (let n = ap length silent in omega arith)
  at_step first h [] frame later in_rest (inl (own, one)) (inr (sends, some)) e =
      let same : sends ∷ sent (log_of end h) ≡ frame ∷ later = ap (λ x. x ++ sent (log_of end h)) (sym (ap sent one ∙ append-nil (sent_by first.entry.event) ∙ some)) ∙ e in
      let frames : sends ≡ frame = cc in
      record { at = 0; there = omega arith; sending = record { its_end = own; sends = some ∙ ap (λ x. x ∷ []) frames; number = refl } }
  at_step first h (x ∷ prefix) frame later in_rest (inl (own, one)) (inr (sends, some)) e =
      let all : sent (entry_of end first.end first.entry) ≡ sends ∷ [] = ap sent one ∙ append-nil (sent_by first.entry.event) ∙ some in
      let same : sends ∷ sent (log_of end h) ≡ x ∷ (prefix ++ frame ∷ later) = ap (λ y. y ++ sent (log_of end h)) (sym all) ∙ e in
      let rest : sent (log_of end h) ≡ prefix ++ frame ∷ later = cc in
      later_step first h frame (length prefix) (suc (length prefix)) (in_rest prefix rest) (let n = ap length all in omega arith)

  was_sent : (h : List Step) (prefix : List Frame) (frame : Frame) (later : List Frame) → sent (log_of end h) ≡ prefix ++ frame ∷ later → WasSent h end frame (length prefix)
  was_sent [] prefix frame later e = absurd (no_frame prefix frame later e)
  was_sent (first ∷ h) prefix frame later e =
      at_step first h prefix frame later (λ prefix e. was_sent h prefix frame later e) (its_log end first.end first.entry) (sends_cases first.entry.event)
      (sym (sent-append (entry_of end first.end first.entry) (log_of end h)) ∙ e)

before_in : (h : List Step) (i : ℕ) (end : Role) (frame : Frame) (n : ℕ) → i < length h → (w : WasSent (take i h) end frame n) → (w.at < i) × IsSending h w.at end frame n
before_in h i end frame n within w =
    let l = length-take-le i h (omega arith) in
    let t = w.there in
    let lt : w.at < i = omega arith in
    let e : step_at (take i h) w.at ≡ step_at h w.at = get_or-take i h w.at (record { end = Host; entry = record { time = 0; event = Up } }) lt in (
      lt,
      record {
        its_end = ap (λ (s : Step). s.end) (sym e) ∙ w.sending.its_end;
        sends = ap (λ (s : Step). sent_by s.entry.event) (sym e) ∙ w.sending.sends;
        number = ap (λ x. length (sent (log_of end x))) (sym (take-take w.at i h (omega arith))) ∙ w.sending.number;
      },
    )

pub causes_first : CausesComeFirst
causes_first h possible i end frame within own receives =
    let s : Step = step_at h i in
    let t : take (i + 1) h ≡ take i h ++ s ∷ [] = take_more h i (record { end = Host; entry = record { time = 0; event = Up } }) within in
    let ours : log_of end (take (i + 1) h) ≡ log_of end (take i h) ++ s.entry ∷ [] =
    ap (λ x. log_of end x) t ∙ log_more end (take i h) s ∙ ap (λ x. log_of end (take i h) ++ entry_of end x s.entry) own
    ∙ ap (λ x. log_of end (take i h) ++ x) (of_end end s.entry) in
    let theirs : log_of (peer end) (take (i + 1) h) ≡ log_of (peer end) (take i h) =
    ap (λ x. log_of (peer end) x) t ∙ log_more (peer end) (take i h) s ∙ ap (λ x. log_of (peer end) (take i h) ++ entry_of (peer end) x s.entry) own
    ∙ ap (λ x. log_of (peer end) (take i h) ++ x) (not_of_peer end s.entry) ∙ append-nil (log_of (peer end) (take i h)) in
    let d = possible end (i + 1) in
    let all : sent (log_of (peer end) (take i h)) ≡ received (log_of end (take i h)) ++ frame ∷ d.0 =
    ap sent (sym theirs) ∙ d.1 ∙ ap (λ x. received x ++ d.0) ours
    ∙ ap (λ x. x ++ d.0) (received-more (log_of end (take i h)) s.entry)
    ∙ ap (λ x. (received (log_of end (take i h)) ++ x) ++ d.0) receives
    ∙ append_assoc (received (log_of end (take i h))) (frame ∷ []) d.0 in
    let w = was_sent (peer end) (take i h) (received (log_of end (take i h))) frame d.0 all in
    let b = before_in h i (peer end) frame (length (received (log_of end (take i h)))) within w in
    (w.at, b.0, b.1)

-- ---- how far

pub one_agreement : OneAgreement
one_agreement host equipment i j m n a b =
    let x : (m ≤ i) × (n ≤ j) = a.furthest m n b.within_host b.within_equipment b.agree in
    let y : (i ≤ m) × (j ≤ n) = b.furthest i j a.within_host a.within_equipment a.agree in
    let x0 = x.0 in
    let x1 = x.1 in
    let y0 = y.0 in
    let y1 = y.1 in
    (omega arith, omega arith)
