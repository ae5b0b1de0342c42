-- Two endpoints that are connected by byte streams.
use Rattle.std.proofs.Common.{◌≡◌, ◌++◌, ℕ, List, [], ◌∷◌, length, refl, sym, ◌∙◌, ap, subst, arith}
use Rattle.std.proofs.lemmas.List.{append-nil, append_assoc, length-append}
use Rattle.hsms_frame.specs.Frame.{Frame, frame_octets}
use Rattle.hsms_frame.proofs.Determined.{same_front}
use Rattle.hsms_machine.specs.declared.entry.Entry.{Entry}
use Rattle.hsms_compare.specs.Conversation.{Agree, IsPrefix, IsDelivered, sent, received}
use Rattle.hsms_compare.specs.ByteStreams.{AreMessages, CarriesMessages, AreStreamed, StreamedLogsAgree, IsStreamed, Turn, AtHost, AtEquipment, host_log, equipment_log, octets_of}
use Rattle.hsms_compare.proofs.Histories.{agree-empty, agree-many, agree-swap, received-append, sent-append}

-- ---- messages and their bytes

some_octets : (f : Frame) (z : List ℕ) → [] ≡ frame_octets f ++ z → ⊥
some_octets f z e = let l = ap length e in let m = length-append (frame_octets f) z in omega arith

-- If the bytes of messages are a prefix of those of others, the messages are a prefix of the others.
prefix_of_octets : (xs ys : List Frame) (more : List ℕ) → AreMessages xs → AreMessages ys → octets_of ys ≡ octets_of xs ++ more → IsPrefix xs ys
prefix_of_octets [] ys more fit fit_too e = (ys, refl)
prefix_of_octets (x ∷ xs) [] more fit fit_too e = absurd (some_octets x (octets_of xs ++ more) (e ∙ append_assoc (frame_octets x) (octets_of xs) more))
prefix_of_octets (x ∷ xs) (y ∷ ys) more fit fit_too e =
    let same = same_front y x (octets_of ys) (octets_of xs ++ more) fit_too.0 fit.0 (e ∙ append_assoc (frame_octets x) (octets_of xs) more) in
    let rest = prefix_of_octets xs ys more fit.1 fit_too.1 same.1 in
    (rest.0, ap (λ z. z ∷ ys) same.0 ∙ ap (λ z. x ∷ z) rest.1)

messages-prefix : (a b : List Frame) → AreMessages (a ++ b) → AreMessages a
messages-prefix [] b h = tt
messages-prefix (x ∷ a) b h = (h.0, messages-prefix a b h.1)

carries-prefix : (a b : List Entry) → CarriesMessages (a ++ b) → CarriesMessages a
carries-prefix a b h =
    let P : List Frame → Type 0 = λ x. AreMessages x in
    (messages-prefix (sent a) (sent b) (subst P (sent-append a b) h.0), messages-prefix (received a) (received b) (subst P (received-append a b) h.1))

delivered : (sender receiver : List Entry) (bytes : List ℕ) → CarriesMessages sender → CarriesMessages receiver → IsStreamed sender receiver bytes → IsDelivered sender receiver
delivered sender receiver bytes fit fit_too h =
    prefix_of_octets (received receiver) (sent sender) (h.0 ++ h.1) fit_too.1 fit.0
    (h.2 ∙ ap (λ x. x ++ h.1) h.3 ∙ append_assoc (octets_of (received receiver)) h.0 h.1)

-- ---- turns

agree_as : (a a' b b' : List Entry) → a ≡ a' → b ≡ b' → Agree a b → Agree a' b'
agree_as a a' b b' e f g =
    let P : List Entry → Type 0 = λ x. Agree x b in
    let Q : List Entry → Type 0 = λ x. Agree a' x in
    subst Q f (subst P e g)

carries_as : (a a' : List Entry) → a ≡ a' → CarriesMessages a → CarriesMessages a'
carries_as a a' e h =
    let P : List Entry → Type 0 = λ x. CarriesMessages x in
    subst P e h

pub agree_on : (turns : List Turn) (host equipment : List Entry) (to_host to_equipment : List ℕ) → Agree host equipment → AreStreamed host equipment to_host to_equipment turns → CarriesMessages (host ++ host_log turns) → CarriesMessages (equipment ++ equipment_log turns) → Agree (host ++ host_log turns) (equipment ++ equipment_log turns)
agree_on [] host equipment to_host to_equipment g h fit fit_too =
    agree_as host (host ++ []) equipment (equipment ++ []) (sym (append-nil host)) (sym (append-nil equipment)) g
agree_on (AtHost octets new ∷ turns) host equipment to_host to_equipment g h fit fit_too =
    let e : (host ++ new) ++ host_log turns ≡ host ++ (new ++ host_log turns) = append_assoc host new (host_log turns) in
    let fits : CarriesMessages ((host ++ new) ++ host_log turns) = carries_as (host ++ (new ++ host_log turns)) ((host ++ new) ++ host_log turns) (sym e) fit in
    let d : IsDelivered equipment (host ++ new) =
    delivered equipment (host ++ new) (to_host ++ octets) (carries-prefix equipment (equipment_log turns) fit_too) (carries-prefix (host ++ new) (host_log turns) fits) h.0 in
    agree_as ((host ++ new) ++ host_log turns) (host ++ (new ++ host_log turns)) (equipment ++ equipment_log turns) (equipment ++ equipment_log turns) e refl
    (agree_on turns (host ++ new) equipment (to_host ++ octets) to_equipment (agree-many host equipment new g d) h.1 fits fit_too)
agree_on (AtEquipment octets new ∷ turns) host equipment to_host to_equipment g h fit fit_too =
    let e : (equipment ++ new) ++ equipment_log turns ≡ equipment ++ (new ++ equipment_log turns) = append_assoc equipment new (equipment_log turns) in
    let fits : CarriesMessages ((equipment ++ new) ++ equipment_log turns) = carries_as (equipment ++ (new ++ equipment_log turns)) ((equipment ++ new) ++ equipment_log turns) (sym e) fit_too in
    let d : IsDelivered host (equipment ++ new) =
    delivered host (equipment ++ new) (to_equipment ++ octets) (carries-prefix host (host_log turns) fit) (carries-prefix (equipment ++ new) (equipment_log turns) fits) h.0 in
    agree_as (host ++ host_log turns) (host ++ host_log turns) ((equipment ++ new) ++ equipment_log turns) (equipment ++ (new ++ equipment_log turns)) refl e
    (agree_on turns host (equipment ++ new) to_host (to_equipment ++ octets)
    (agree-swap (equipment ++ new) host (agree-many equipment host new (agree-swap host equipment g) d)) h.1 fit fits)

pub streamed : StreamedLogsAgree
streamed turns h fit fit_too = agree_on turns [] [] [] [] agree-empty h fit fit_too
