-- The order in which a tick logs.
use Rattle.std.proofs.Common.{◌≡◌, ℕ, Bool, true, false, List, [], ◌∷◌, ◌++◌, map, max, Option, Some, None, refl, ap, subst, ◌∙◌, if◌then◌else◌}
use Rattle.std.specs.List.{list_any}
use Rattle.secs_text.specs.Content.{Content}
use Rattle.hsms_machine.specs.declared.entry.Entry.{Entry}
use Rattle.hsms_machine.specs.declared.entry.Event.TheVariants.{T3, Cut, Down, Sent}
use Rattle.hsms_machine.specs.declared.entry.Cause.{Cause}
use Rattle.hsms_machine.specs.declared.open_transactions.Transaction.{Transaction}
use Rattle.hsms_machine.specs.Entry.{is_t3}
use Rattle.hsms_machine.specs.Settings.{Parameters}
use Rattle.hsms_endpoint.specs.Answer.{Answered}
use Rattle.hsms_endpoint.specs.EndState.{EndState}
use Rattle.hsms_endpoint.specs.Action.{Act, logs, asks, Acts, entry_now, with_event, with_number}
use Rattle.hsms_endpoint.specs.Reaction.{is_equipment}
use Rattle.hsms_endpoint.specs.Turn.{expired_at, expiry, expiry_warning, cut_by, after_expiries, overdue_cause, Turn, tick}
use Rattle.hsms_endpoint.specs.Laws.{expiry_at, expiries_at}

-- Acts, and the acts after them.
record Splits (acts more : List Act) (end : EndState) (entries : List Entry) (end' : EndState) : Type 0 where
  middle : EndState
  first : List Entry
  later : List Entry
  front : Acts end acts first middle
  subsequent : Acts middle more later end'
  joined : entries ≡ first ++ later

acts_split : (acts more : List Act) (end : EndState) (entries : List Entry) (end' : EndState) → Acts end (acts ++ more) entries end' → Splits acts more end entries end'
acts_split [] more end entries end' h =
    record { middle = end; first = []; later = entries; front = (refl, refl); subsequent = h; joined = refl }
acts_split (logs event ∷ acts) more end entries end' h =
    let rest = acts_split acts more (with_event end event) h.0 end' h.2 in
    record {
      middle = rest.middle;
      first = entry_now end event ∷ rest.first;
      later = rest.later;
      front = (rest.first, refl, rest.front);
      subsequent = rest.subsequent;
      joined = h.1 ∙ ap (λ es. entry_now end event ∷ es) rest.joined;
    }
acts_split (asks frame ∷ acts) more end entries end' h =
    let rest = acts_split acts more (with_number end (frame h.0) h.0) h.1 end' h.4 in
    record {
      middle = rest.middle;
      first = entry_now end (Sent (frame h.0)) ∷ rest.first;
      later = rest.later;
      front = (h.0, rest.first, h.2, refl, rest.front);
      subsequent = rest.subsequent;
      joined = h.3 ∙ ap (λ es. entry_now end (Sent (frame h.0)) ∷ es) rest.joined;
    }

expired_entries : (xs : List Transaction) (end : EndState) (entries : List Entry) (end' : EndState) → Acts end (map expiry xs) entries end' → (entries ≡ map (expiry_at end.moment) xs) × (end'.moment ≡ end.moment)
expired_entries [] end entries end' h = (h.0, ap (λ (k : EndState). k.moment) h.1)
expired_entries (x ∷ xs) end entries end' h =
    let rest = expired_entries xs (with_event end (T3 x.header.system)) h.0 end' h.2 in
    (h.1 ∙ ap (λ es. expiry_at end.moment x ∷ es) rest.0, rest.1)

cut_entries : (cause : Cause) (end : EndState) (entries : List Entry) (end' : EndState) → Acts end (cut_by cause) entries end' → entries ≡ record { time = end.moment; event = Cut cause } ∷ record { time = end.moment; event = Down } ∷ []
cut_entries cause end entries end' h =
    h.1 ∙ ap (λ es. entry_now end (Cut cause) ∷ es) (h.2.1 ∙ ap (λ es. entry_now (with_event end (Cut cause)) Down ∷ es) h.2.2.0)

abbrev has_t3 : List Entry → Bool
has_t3 entries = list_any (λ entry. is_t3 entry.event) entries

warned_no_t3 : (settings : Parameters) (xs : List Transaction) (end : EndState) (entries : List Entry) (end' : EndState) → Acts end (map (expiry_warning settings) xs) entries end' → has_t3 entries ≡ false
warned_no_t3 settings [] end entries end' h = ap has_t3 h.0
warned_no_t3 settings (x ∷ xs) end entries end' h = ap has_t3 h.3 ∙ warned_no_t3 settings xs _ h.1 end' h.4

warned_if : (b : Bool) (settings : Parameters) (xs : List Transaction) (end : EndState) (entries : List Entry) (end' : EndState) → Acts end (if b then map (expiry_warning settings) xs else []) entries end' → has_t3 entries ≡ false
warned_if true settings xs end entries end' h = warned_no_t3 settings xs end entries end' h
warned_if false settings xs end entries end' h = ap has_t3 h.0

after_no_t3 : (settings : Parameters) (xs : List Transaction) (cause : Option Cause) (end : EndState) (entries : List Entry) (end' : EndState) → Acts end (after_expiries settings xs cause) entries end' → has_t3 entries ≡ false
after_no_t3 settings xs (Some cause) end entries end' h = ap has_t3 (cut_entries cause end entries end' h)
after_no_t3 settings xs None end entries end' h = warned_if (is_equipment settings.role) settings xs end entries end' h

module _ (desk : ℕ → Content → Answered) (end : EndState) (now : ℕ) (entries : List Entry) (end' : EndState) (h : Turn desk end (tick now) entries end') where
  abbrev ticked : EndState
  ticked = record end { moment = max end.moment now }

  abbrev expired : List Transaction
  expired = expired_at end.view (max end.moment now)

  parts : Splits (map expiry expired) (after_expiries end.settings expired (overdue_cause ticked)) ticked entries end'
  parts = acts_split (map expiry expired) (after_expiries end.settings expired (overdue_cause ticked)) ticked entries end' h

  first_is : (parts.first ≡ expiries_at end (max end.moment now)) × (parts.middle.moment ≡ max end.moment now)
  first_is = expired_entries expired ticked parts.first parts.middle parts.front

  pub all_expiries_are_logged_before_any_s9f9 : (later : List Entry) × (entries ≡ expiries_at end (max end.moment now) ++ later) × (list_any (λ entry. is_t3 entry.event) later ≡ false)
  all_expiries_are_logged_before_any_s9f9 = (
    parts.later,
    parts.joined ∙ ap (λ es. es ++ parts.later) first_is.0,
    after_no_t3 end.settings expired (overdue_cause ticked) parts.middle parts.later end' parts.subsequent,
  )

  pub an_overdue_link_timer_leaves_s9f9_out : (cause : Cause) → overdue_cause (record end { moment = max end.moment now }) ≡ Some cause → entries ≡ expiries_at end (max end.moment now) ++ record { time = max end.moment now; event = Cut cause } ∷ record { time = max end.moment now; event = Down } ∷ []
  an_overdue_link_timer_leaves_s9f9_out cause e =
      let subsequent : Acts parts.middle (cut_by cause) parts.later end' =
      subst (λ (c : Option Cause). Acts parts.middle (after_expiries end.settings expired c) parts.later end') e parts.subsequent in
      parts.joined
      ∙ ap (λ es. es ++ parts.later) first_is.0
      ∙ ap (λ es. expiries_at end (max end.moment now) ++ es) (cut_entries cause parts.middle parts.later end' subsequent)
      ∙ ap (λ moment. expiries_at end (max end.moment now) ++ record { time = moment; event = Cut cause } ∷ record { time = moment; event = Down } ∷ []) first_is.1
