-- The state of a request, entry by entry of both logs.
use Rattle.std.proofs.Common.{◌≡◌, ◌++◌, ◌+◌, ◌-◌, ◌<◌, ◌≤◌, ℕ, List, [], ◌∷◌, length, refl, sym, ◌∙◌, ap, subst, inl, inr, arith}
use Rattle.std.specs.Prelude.{◌⊎◌, true, false, IsTrue, Some}
use Rattle.std.proofs.lemmas.List.{append-nil, length-append, length_push, get_or_push, take_at}
use Rattle.std.proofs.lemmas.Bool.{cases_lt}
use Rattle.hsms_frame.specs.Frame.{Frame}
use Rattle.hsms_frame.specs.declared.header.Header.{Header}
use Rattle.hsms_machine.specs.declared.entry.Entry.{Entry}
use Rattle.hsms_machine.specs.declared.entry.Event.TheVariants.{Up}
use Rattle.hsms_machine.specs.Entry.{entry_at}
use Rattle.hsms_machine.specs.Transaction.{closes, closes_taken}
use Rattle.hsms_compare.specs.declared.outcome.Outcome.{Outcome}
use Rattle.hsms_compare.specs.declared.outcome.Outcome.TheVariants.{Replied}
use Rattle.hsms_compare.specs.declared.request_state.RequestState.{RequestState}
use Rattle.hsms_compare.specs.declared.request_state.RequestState.TheVariants.{Taken, Answered, Done}
use Rattle.hsms_compare.specs.Conversation.{sent, received, sent_by, received_by}
use Rattle.hsms_compare.specs.Outcome.{IsOutcome, IsDeliveredAt, IsClosedAt, IsNeverClosed, IsAnsweredAt, taken_by, time_between}
use Rattle.hsms_compare.specs.RequestState.{IsState, IsRequestAt, IsTimeOf}
use Rattle.hsms_compare.proofs.Histories.{received-more}
use Rattle.hsms_compare.proofs.Merges.{sends_cases}
use Rattle.hsms_compare.proofs.Outcomes.{closes_as, closing_sends, receives_cases}
use Rattle.hsms_compare.proofs.Finals.{sends-more, receives-more, at-more, answered-more, final_stays}

-- ---- after another entry of one log

delivered-other : (own other rest : List Entry) (j at : ℕ) → IsDeliveredAt own j other at → IsDeliveredAt own j (other ++ rest) at
delivered-other own other rest j at (f, g, n, s, r) = (f, g, n, s, receives-more other rest at g n r)

delivered-own : (own other more : List Entry) (j at : ℕ) → IsDeliveredAt own j other at → IsDeliveredAt (own ++ more) j other at
delivered-own own other more j at (f, g, n, s, r) = (f, g, n, sends-more own more j f n s, r)

pub request-more : (own more : List Entry) (j number : ℕ) → IsRequestAt own j number → IsRequestAt (own ++ more) j number
request-more own more j number (f, s) = (f, sends-more own more j f number s)

last : (log : List Entry) (x : Entry) → entry_at (log ++ x ∷ []) (length log) ≡ x
last log x = get_or_push log x (record { time = 0; event = Up }) (length log) refl

-- ---- an answer

module _ (other : List Entry) (m : ℕ) (x : Entry) (request : Header) (taken : taken_by (entry_at other m).event ≡ Some request) (within : m < length other) (never : IsNeverClosed other m) where
  earlier : (p : ℕ) → p < length other → closes (entry_at (other ++ x ∷ []) m).event (entry_at (other ++ x ∷ []) p).event ≡ closes (entry_at other m).event (entry_at other p).event
  earlier p l =
      ap (λ (y : Entry). closes y.event (entry_at (other ++ x ∷ []) p).event) (at-more other (x ∷ []) m within)
      ∙ ap (λ (y : Entry). closes (entry_at other m).event y.event) (at-more other (x ∷ []) p l)

  at_last : closes (entry_at (other ++ x ∷ []) m).event (entry_at (other ++ x ∷ []) (length other)).event ≡ closes_taken request x.event
  at_last =
      ap (λ (y : Entry). closes y.event (entry_at (other ++ x ∷ []) (length other)).event) (at-more other (x ∷ []) m within)
      ∙ ap (λ (y : Entry). closes (entry_at other m).event y.event) (last other x)
      ∙ closes_as (entry_at other m).event x.event request taken

  closed_now : closes_taken request x.event ≡ true → IsClosedAt (other ++ x ∷ []) m (length other)
  closed_now e = record {
    later = within;
    there = (let l = length_push other x in omega arith);
    closing = at_last ∙ e;
    first = λ p after before closing. never p after before (sym (earlier p before) ∙ closing);
  }

  never-more : closes_taken request x.event ≡ false → IsNeverClosed (other ++ x ∷ []) m
  never-more e p after before closing =
      elim (cases_lt p (length other)) [
        | inl lt ↦ never p after lt (sym (earlier p lt) ∙ closing)
        | inr ge ↦
            let l = length_push other x in
            let at : p ≡ length other = omega arith in
            let P : ℕ → Type 0 = λ k. IsTrue (closes (entry_at (other ++ x ∷ []) m).event (entry_at (other ++ x ∷ []) k).event) in
            let t : true ≡ false = sym (subst P at closing) ∙ at_last ∙ e in
            absurd (cc)
      ]

pub answered_now : (own other : List Entry) (j at time entries after : ℕ) (x : Entry) (request : Header) → IsDeliveredAt own j other at → taken_by (entry_at other at).event ≡ Some request → IsTimeOf other at time → IsNeverClosed other at → closes_taken request x.event ≡ true → entries ≡ length other → after ≡ x.time - time → IsAnsweredAt own j (other ++ x ∷ []) at entries after
answered_now own other j at time entries after x request d taken at_time never closing so later =
    let within : at < length other = d.4.there in
    let P : ℕ → Type 0 = λ k. IsAnsweredAt own j (other ++ x ∷ []) at k after in
    subst P (sym so) (record {
      delivered = delivered-other own other (x ∷ []) j at d;
      taken = (request, ap (λ (y : Entry). taken_by y.event) (at-more other (x ∷ []) at within) ∙ taken);
      closed = closed_now other at x request taken within never closing;
      time = later ∙ ap (λ t. x.time - t) at_time ∙ ap (λ (y : Entry). y.time - (entry_at other at).time) (sym (last other x))
          ∙ ap (λ (y : Entry). (entry_at (other ++ x ∷ []) (length other)).time - y.time) (sym (at-more other (x ∷ []) at within));
    })

-- An entry that answers sends a frame.
pub reply_now : (other : List Entry) (at entries sendings : ℕ) (x : Entry) (request : Header) → taken_by (entry_at other at).event ≡ Some request → closes_taken request x.event ≡ true → entries ≡ length other → sendings ≡ length (sent other) → IsRequestAt (other ++ x ∷ []) entries sendings
reply_now other at entries sendings x request taken closing so sent_so =
    let some : 0 < length (sent_by x.event) = closing_sends (entry_at other at).event x.event request taken (closes_as (entry_at other at).event x.event request taken ∙ closing) in
    let P : ℕ → Type 0 = λ k. IsRequestAt (other ++ x ∷ []) k sendings in
    elim (sends_cases x.event) [
      | inl none ↦ absurd (let n = ap length none in omega arith)
      | inr one ↦
          subst P (sym so) (
            one.0,
            record {
              there = (let l = length_push other x in omega arith);
              frame_is = ap (λ (y : Entry). sent_by y.event) (last other x) ∙ one.1;
              number = sent_so ∙ ap (λ y. length (sent y)) (sym (take_at other (x ∷ []) (length other) refl));
            },
          )
    ]

pub taken_on : (own other : List Entry) (j limit number at time : ℕ) (request : Header) (x : Entry) → IsState own other j limit number (Taken at time request) → closes_taken request x.event ≡ false → IsState own (other ++ x ∷ []) j limit number (Taken at time request)
taken_on own other j limit number at time request x (d, taken, at_time, never) none =
    let within : at < length other = d.4.there in (
      delivered-other own other (x ∷ []) j at d,
      ap (λ (y : Entry). taken_by y.event) (at-more other (x ∷ []) at within) ∙ taken,
      at_time ∙ ap (λ (y : Entry). y.time) (sym (at-more other (x ∷ []) at within)),
      never-more other at x request taken within never none,
    )

-- ---- what does not change after an entry of the other log

pub state_as : (own other : List Entry) (j limit number : ℕ) (a b : RequestState) → a ≡ b → IsState own other j limit number a → IsState own other j limit number b
state_as own other j limit number a b e h =
    let P : RequestState → Type 0 = λ s. IsState own other j limit number s in
    subst P e h

along_own : (own own' other : List Entry) (j at k t : ℕ) → own ≡ own' → IsAnsweredAt own j other at k t → IsAnsweredAt own' j other at k t
along_own own own' other j at k t e h =
    let P : List Entry → Type 0 = λ y. IsAnsweredAt y j other at k t in
    subst P e h

pub answered_stays : (own other : List Entry) (j limit number at answer after reply : ℕ) (x : Entry) → IsState own other j limit number (Answered at answer after reply) → IsState own (other ++ x ∷ []) j limit number (Answered at answer after reply)
answered_stays own other j limit number at answer after reply x (a, le, r, few) =
    (along_own (own ++ []) own (other ++ x ∷ []) j at answer after (append-nil own) (answered-more own other [] (x ∷ []) j at answer after a), le, request-more other (x ∷ []) answer reply r, few)

pub done_stays : (own other : List Entry) (j limit number : ℕ) (o : Outcome) (x : Entry) → IsState own other j limit number (Done o) → IsState own (other ++ x ∷ []) j limit number (Done o)
done_stays own other j limit number o x (final, h) =
    let P : List Entry → Type 0 = λ y. IsOutcome y (other ++ x ∷ []) j limit o in
    (final, subst P (append-nil own) (final_stays own other [] (x ∷ []) j limit o final h))

-- ---- after an entry of the own log

pub taken_stays : (own other : List Entry) (j limit number at time : ℕ) (request : Header) (x : Entry) → IsState own other j limit number (Taken at time request) → IsState (own ++ x ∷ []) other j limit number (Taken at time request)
taken_stays own other j limit number at time request x (d, taken, at_time, never) =
    (delivered-own own other (x ∷ []) j at d, taken, at_time, never)

pub done_stays_own : (own other : List Entry) (j limit number : ℕ) (o : Outcome) (x : Entry) → IsState own other j limit number (Done o) → IsState (own ++ x ∷ []) other j limit number (Done o)
done_stays_own own other j limit number o x (final, h) =
    let P : List Entry → Type 0 = λ y. IsOutcome (own ++ x ∷ []) y j limit o in
    (final, subst P (append-nil other) (final_stays own other (x ∷ []) [] j limit o final h))

answered-own : (own other : List Entry) (j at answer after : ℕ) (x : Entry) → IsAnsweredAt own j other at answer after → IsAnsweredAt (own ++ x ∷ []) j other at answer after
answered-own own other j at answer after x a =
    let P : List Entry → Type 0 = λ y. IsAnsweredAt (own ++ x ∷ []) j y at answer after in
    subst P (append-nil other) (answered-more own other (x ∷ []) [] j at answer after a)

-- This entry does not receive the reply.
pub answered_on : (own other : List Entry) (j limit number at answer after reply receipts : ℕ) (x : Entry) → IsState own other j limit number (Answered at answer after reply) → receipts ≡ length (received own) → (receipts ≡ reply → 0 < length (received_by x.event) → ⊥) → IsState (own ++ x ∷ []) other j limit number (Answered at answer after reply)
answered_on own other j limit number at answer after reply receipts x (a, le, r, few) so none =
    (answered-own own other j at answer after x a, le, r, still (receives_cases x.event))
  where
    more : length (received (own ++ x ∷ [])) ≡ length (received own) + length (received_by x.event)
    more = ap length (received-more own x) ∙ length-append (received own) (received_by x.event)

    still : (received_by x.event ≡ []) ⊎ ((frame : Frame) × (received_by x.event ≡ frame ∷ [])) → length (received (own ++ x ∷ [])) ≤ reply
    still (inl e) = let n = ap length e in omega (arith, more)
    still (inr (frame, e)) =
        let n = ap length e in
        elim (cases_lt (length (received own)) reply) [
          | inl lt ↦ omega (arith, more)
          | inr ge ↦ absurd (none (omega arith) (omega arith))
        ]

-- This entry receives the reply.
pub replied_now : (own other : List Entry) (j limit number at answer after reply time entries receipts total : ℕ) (x : Entry) → IsRequestAt own j number → IsState own other j limit number (Answered at answer after reply) → entries ≡ length own → receipts ≡ length (received own) → receipts ≡ reply → 0 < length (received_by x.event) → IsTimeOf own j time → total ≡ x.time - time → IsState (own ++ x ∷ []) other j limit number (Done (Replied at answer after entries total))
replied_now own other j limit number at answer after reply time entries receipts total x (f, s) (a, le, (g, r), few) so receipts_so is some at_time later =
    (refl, (answered-own own other j at answer after x a, le, later_receipt (receives_cases x.event), time_so))
  where
    later_receipt : (received_by x.event ≡ []) ⊎ ((frame : Frame) × (received_by x.event ≡ frame ∷ [])) → IsDeliveredAt other answer (own ++ x ∷ []) entries
    later_receipt (inl e) = absurd (let n = ap length e in omega arith)
    later_receipt (inr (frame, e)) =
        let P : ℕ → Type 0 = λ k. IsDeliveredAt other answer (own ++ x ∷ []) k in
        subst P (sym so) (
          g,
          frame,
          reply,
          r,
          record {
            there = (let l = length_push own x in omega arith);
            frame_is = ap (λ (y : Entry). received_by y.event) (last own x) ∙ e;
            number = sym is ∙ receipts_so ∙ ap (λ y. length (received y)) (sym (take_at own (x ∷ []) (length own) refl));
          },
        )

    time_so : total ≡ time_between (own ++ x ∷ []) j entries
    time_so =
        later ∙ ap (λ t. x.time - t) at_time ∙ ap (λ (y : Entry). y.time - (entry_at own j).time) (sym (last own x))
        ∙ ap (λ (y : Entry). (entry_at (own ++ x ∷ []) (length own)).time - y.time) (sym (at-more own (x ∷ []) j s.there))
        ∙ ap (λ k. (entry_at (own ++ x ∷ []) k).time - (entry_at (own ++ x ∷ []) j).time) (sym so)
