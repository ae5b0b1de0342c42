-- Histories, and the logs that agree.
use Rattle.std.proofs.Common.{◌≡◌, ◌++◌, ◌≤◌, ℕ, zero, suc, List, [], ◌∷◌, length, take, get_or, map, refl, sym, ◌∙◌, ap, subst, inl, inr, arith}
use Rattle.std.proofs.lemmas.List.{append-nil, append_assoc, take-append-le, take_all, take-map, length_push}
use Rattle.std.proofs.lemmas.List.Concat.{flat_map-append}
use Rattle.std.proofs.lemmas.Bool.{cases_lt}
use Rattle.std.proofs.Math.Seq.{take-suc}
use Rattle.hsms_frame.specs.Frame.{Frame}
use Rattle.hsms_machine.specs.declared.entry.Entry.{Entry}
use Rattle.hsms_machine.specs.declared.entry.Event.TheVariants.{Up}
use Rattle.hsms_machine.specs.declared.settings.Role.{Role}
use Rattle.hsms_machine.specs.declared.settings.Role.TheVariants.{Host, Equipment}
use Rattle.hsms_compare.specs.Conversation.{Step, Agree, IsPrefix, IsDelivered, IsPossible, sent, received, sent_by, received_by, peer, entry_of, log_of}
use Rattle.hsms_compare.specs.Laws.{NothingIsMadeUp}

-- ---- prefixes

pub prefix-trans : (a b c : List Frame) → IsPrefix a b → IsPrefix b c → IsPrefix a c
prefix-trans a b c (r, e) (s, f) = (r ++ s, f ∙ ap (λ x. x ++ s) e ∙ append_assoc a r s)

pub sent-append : (a b : List Entry) → sent (a ++ b) ≡ sent a ++ sent b
sent-append a b = flat_map-append (λ (entry : Entry). sent_by entry.event) a b

pub received-append : (a b : List Entry) → received (a ++ b) ≡ received a ++ received b
received-append a b = flat_map-append (λ (entry : Entry). received_by entry.event) a b

pub received-more : (log : List Entry) (entry : Entry) → received (log ++ entry ∷ []) ≡ received log ++ received_by entry.event
received-more log entry = received-append log (entry ∷ []) ∙ ap (λ x. received log ++ x) (append-nil (received_by entry.event))

pub delivered-more : (sender more receiver : List Entry) → IsDelivered sender receiver → IsDelivered (sender ++ more) receiver
delivered-more sender more receiver d =
    prefix-trans (received receiver) (sent sender) (sent (sender ++ more)) d (sent more, sent-append sender more)

pub delivered-as : (s s' r r' : List Entry) → s' ≡ s → r' ≡ r → IsDelivered s r → IsDelivered s' r'
delivered-as s s' r r' e f d =
    let P : List Entry → Type 0 = λ x. IsDelivered x r in
    let Q : List Entry → Type 0 = λ x. IsDelivered s' x in
    subst Q (sym f) (subst P (sym e) d)

-- ---- logs of a history

pub log_more : (end : Role) (h : List Step) (s : Step) → log_of end (h ++ s ∷ []) ≡ log_of end h ++ entry_of end s.end s.entry
log_more end h s =
    flat_map-append (λ (step : Step). entry_of end step.end step.entry) h (s ∷ [])
    ∙ ap (λ x. log_of end h ++ x) (append-nil (entry_of end s.end s.entry))

whole : (h : List Step) → IsPossible h → (end : Role) → IsDelivered (log_of (peer end) h) (log_of end h)
whole h possible end =
    let P : List Step → Type 0 = λ t. IsDelivered (log_of (peer end) t) (log_of end t) in
    subst P (take_all (length h) h (omega arith)) (possible end (length h))

possible_more : (h : List Step) (s : Step) → IsPossible h → ((end : Role) → IsDelivered (log_of (peer end) (h ++ s ∷ [])) (log_of end (h ++ s ∷ []))) → IsPossible (h ++ s ∷ [])
possible_more h s before after end moment =
    let P : List Step → Type 0 = λ t. IsDelivered (log_of (peer end) t) (log_of end t) in
    elim (cases_lt (length h) moment) [
      | inl lt ↦ subst P (sym (take_all moment (h ++ s ∷ []) (let n = length_push h s in omega arith))) (after end)
      | inr le ↦ subst P (sym (take-append-le moment h (s ∷ []) le)) (before end moment)
    ]

-- ---- logs that agree

pub agree-empty : Agree [] []
agree-empty = record { history = []; of_host = refl; of_equipment = refl; possible = nothing }
  where
    nothing : IsPossible []
    nothing Host zero = ([], refl)
    nothing Host (suc m) = ([], refl)
    nothing Equipment zero = ([], refl)
    nothing Equipment (suc m) = ([], refl)

pub agree-delivered : NothingIsMadeUp
agree-delivered host equipment g = (
  delivered-as (log_of Host g.history) host (log_of Equipment g.history) equipment (sym g.of_host) (sym g.of_equipment) (whole g.history g.possible Equipment),
  delivered-as (log_of Equipment g.history) equipment (log_of Host g.history) host (sym g.of_equipment) (sym g.of_host) (whole g.history g.possible Host),
)

-- The host's next entry may follow if it is delivered.
pub agree-host : (a b : List Entry) (e : Entry) → Agree a b → IsDelivered b (a ++ e ∷ []) → Agree (a ++ e ∷ []) b
agree-host a b e g d =
    let s : Step = record { end = Host; entry = e } in
    let h : log_of Host (g.history ++ s ∷ []) ≡ a ++ e ∷ [] = log_more Host g.history s ∙ ap (λ x. x ++ e ∷ []) g.of_host in
    let q : log_of Equipment (g.history ++ s ∷ []) ≡ b = log_more Equipment g.history s ∙ append-nil (log_of Equipment g.history) ∙ g.of_equipment in
    let forth : IsDelivered (a ++ e ∷ []) b = delivered-more a (e ∷ []) b (agree-delivered a b g).0 in
    record {
      history = g.history ++ s ∷ [];
      of_host = h;
      of_equipment = q;
      possible = possible_more g.history s g.possible (at_both (g.history ++ s ∷ [])
          (delivered-as b (log_of Equipment (g.history ++ s ∷ [])) (a ++ e ∷ []) (log_of Host (g.history ++ s ∷ [])) q h d)
          (delivered-as (a ++ e ∷ []) (log_of Host (g.history ++ s ∷ [])) b (log_of Equipment (g.history ++ s ∷ [])) h q forth));
    }
  where
    at_both : (h : List Step) → IsDelivered (log_of Equipment h) (log_of Host h) → IsDelivered (log_of Host h) (log_of Equipment h) → (end : Role) → IsDelivered (log_of (peer end) h) (log_of end h)
    at_both h x y Host = x
    at_both h x y Equipment = y

-- ---- several entries

pub delivered-prefix : (sender a b : List Entry) → IsDelivered sender (a ++ b) → IsDelivered sender a
delivered-prefix sender a b d = prefix-trans (received a) (received (a ++ b)) (sent sender) (received b, received-append a b) d

pub agree-many : (a b new : List Entry) → Agree a b → IsDelivered b (a ++ new) → Agree (a ++ new) b
agree-many a b [] g d =
    let P : List Entry → Type 0 = λ x. Agree x b in
    subst P (sym (append-nil a)) g
agree-many a b (e ∷ new) g d =
    let P : List Entry → Type 0 = λ x. Agree x b in
    let along : (a ++ e ∷ []) ++ new ≡ a ++ (e ∷ new) = append_assoc a (e ∷ []) new in
    let d' : IsDelivered b ((a ++ e ∷ []) ++ new) = delivered-as b b (a ++ (e ∷ new)) ((a ++ e ∷ []) ++ new) refl along d in
    subst P along (agree-many (a ++ e ∷ []) b new (agree-host a b e g (delivered-prefix b (a ++ e ∷ []) new d')) d')

-- ---- either endpoint may be taken as the host

mirrored : Step → Step
mirrored s = record { end = peer s.end; entry = s.entry }

entry_of-mirrored : (end own : Role) (e : Entry) → entry_of (peer end) (peer own) e ≡ entry_of end own e
entry_of-mirrored Host Host e = refl
entry_of-mirrored Host Equipment e = refl
entry_of-mirrored Equipment Host e = refl
entry_of-mirrored Equipment Equipment e = refl

log_of-mirrored : (end : Role) (h : List Step) → log_of (peer end) (map mirrored h) ≡ log_of end h
unfolding mirrored
log_of-mirrored end [] = refl
log_of-mirrored end (s ∷ h) =
    ap (λ x. x ++ log_of (peer end) (map mirrored h)) (entry_of-mirrored end s.end s.entry)
    ∙ ap (λ x. entry_of end s.end s.entry ++ x) (log_of-mirrored end h)

possible-mirrored : (h : List Step) → IsPossible h → IsPossible (map mirrored h)
possible-mirrored h possible Host moment =
    let e = take-map mirrored moment h in
    delivered-as (log_of Host (take moment h)) (log_of Equipment (take moment (map mirrored h))) (log_of Equipment (take moment h)) (log_of Host (take moment (map mirrored h)))
    (ap (λ t. log_of Equipment t) e ∙ log_of-mirrored Host (take moment h))
    (ap (λ t. log_of Host t) e ∙ log_of-mirrored Equipment (take moment h))
    (possible Equipment moment)
possible-mirrored h possible Equipment moment =
    let e = take-map mirrored moment h in
    delivered-as (log_of Equipment (take moment h)) (log_of Host (take moment (map mirrored h))) (log_of Host (take moment h)) (log_of Equipment (take moment (map mirrored h)))
    (ap (λ t. log_of Host t) e ∙ log_of-mirrored Equipment (take moment h))
    (ap (λ t. log_of Equipment t) e ∙ log_of-mirrored Host (take moment h))
    (possible Host moment)

pub agree-swap : (a b : List Entry) → Agree a b → Agree b a
agree-swap a b g = record {
  history = map mirrored g.history;
  of_host = log_of-mirrored Equipment g.history ∙ g.of_equipment;
  of_equipment = log_of-mirrored Host g.history ∙ g.of_host;
  possible = possible-mirrored g.history g.possible;
}

-- ---- a fact of all logs that agree, entry by entry

module _ (P : List Entry → List Entry → Type 0) (none : P [] []) (host : (a b : List Entry) (e : Entry) → P a b → IsDelivered b (a ++ e ∷ []) → P (a ++ e ∷ []) b) (equipment : (a b : List Entry) (e : Entry) → P a b → IsDelivered a (b ++ e ∷ []) → P a (b ++ e ∷ [])) where
  along : (a a' b b' : List Entry) → a' ≡ a → b' ≡ b → P a b → P a' b'
  along a a' b b' e f p =
      let Q : List Entry → Type 0 = λ x. P x b in
      let R : List Entry → Type 0 = λ x. P a' x in
      subst R (sym f) (subst Q (sym e) p)

  one_more : (a b : List Entry) (end : Role) (e : Entry) → P a b → IsDelivered (b ++ entry_of Equipment end e) (a ++ entry_of Host end e) → IsDelivered (a ++ entry_of Host end e) (b ++ entry_of Equipment end e) → P (a ++ entry_of Host end e) (b ++ entry_of Equipment end e)
  one_more a b Host e p rest forth =
      along (a ++ e ∷ []) (a ++ e ∷ []) b (b ++ []) refl (append-nil b)
      (host a b e p (delivered-as (b ++ []) b (a ++ e ∷ []) (a ++ e ∷ []) (sym (append-nil b)) refl rest))
  one_more a b Equipment e p rest forth =
      along a (a ++ []) (b ++ e ∷ []) (b ++ e ∷ []) (append-nil a) refl
      (equipment a b e p (delivered-as (a ++ []) a (b ++ e ∷ []) (b ++ e ∷ []) (sym (append-nil a)) refl forth))

  at_moment : (h : List Step) → IsPossible h → (m : ℕ) → m ≤ length h → P (log_of Host (take m h)) (log_of Equipment (take m h))
  at_moment h possible zero le = none
  at_moment h possible (suc m) le =
      let d : Step = record { end = Host; entry = record { time = 0; event = Up } } in
      let s : Step = get_or h m d in
      let t : take (suc m) h ≡ take m h ++ s ∷ [] = take-suc h m d (omega arith) in
      let a : log_of Host (take (suc m) h) ≡ log_of Host (take m h) ++ entry_of Host s.end s.entry = ap (λ x. log_of Host x) t ∙ log_more Host (take m h) s in
      let b : log_of Equipment (take (suc m) h) ≡ log_of Equipment (take m h) ++ entry_of Equipment s.end s.entry = ap (λ x. log_of Equipment x) t ∙ log_more Equipment (take m h) s in
      along (log_of Host (take m h) ++ entry_of Host s.end s.entry) (log_of Host (take (suc m) h)) (log_of Equipment (take m h) ++ entry_of Equipment s.end s.entry) (log_of Equipment (take (suc m) h)) a b
      (one_more (log_of Host (take m h)) (log_of Equipment (take m h)) s.end s.entry (at_moment h possible m (omega arith))
      (delivered-as (log_of Equipment (take (suc m) h)) (log_of Equipment (take m h) ++ entry_of Equipment s.end s.entry) (log_of Host (take (suc m) h)) (log_of Host (take m h) ++ entry_of Host s.end s.entry) (sym b) (sym a) (possible Host (suc m)))
      (delivered-as (log_of Host (take (suc m) h)) (log_of Host (take m h) ++ entry_of Host s.end s.entry) (log_of Equipment (take (suc m) h)) (log_of Equipment (take m h) ++ entry_of Equipment s.end s.entry) (sym a) (sym b) (possible Equipment (suc m))))

  pub agree_along : (a b : List Entry) → Agree a b → P a b
  agree_along a b g =
      let t = take_all (length g.history) g.history (omega arith) in
      along (log_of Host (take (length g.history) g.history)) a (log_of Equipment (take (length g.history) g.history)) b
      (sym g.of_host ∙ ap (λ x. log_of Host x) (sym t)) (sym g.of_equipment ∙ ap (λ x. log_of Equipment x) (sym t))
      (at_moment g.history g.possible (length g.history) (omega arith))
