-- Times that never decrease.
use Rattle.std.proofs.Common.{◌≡◌, ◌≤◌, ◌++◌, ◌∷◌, ℕ, Bool, true, false, cond, max, nat_le, List, [], map, Option, Some, None, refl, arith, inl, inr}
use Rattle.std.proofs.lemmas.Bool.{le-leb, lt-leb, leb-true, cases_lt}
use Rattle.capture_tcp.specs.TcpStreams.{End, Placed, earlier, emitted_turns, shows_of}
use Rattle.capture_tcp.specs.Message.{message_size}
use Rattle.capture_tcp.specs.ConnectionEvents.{ConnectionEvent, up, message, down, Entry, and_later, answered_at, after_up, first_message, is_left_out, is_separate, reset_entries, separated_by, shown_entries, emits, up_to_down}
use Rattle.capture_tcp.specs.Timestamps.{AreInOrder, TimesNeverGoBack, time_at}
use Rattle.capture_tcp.proofs.EmittedEvents.{Rise, entries_rise, from, rise_lower}

-- ---- the packets of what is emitted increase

rise_front : (m k : ℕ) (es : List Entry) → Rise m es → Rise m (from k es)
rise_front m k [] h = tt
rise_front m k (e ∷ es) h = by_test (nat_le k e.packet) (rise_front e.packet k es h.1)
  where
    by_test : (b : Bool) → Rise e.packet (from k es) → Rise m (cond b (e ∷ from k es) (from k es))
    by_test true later = (h.0, later)
    by_test false later = rise_lower m e.packet (from k es) h.0 later

rise_from : (m k : ℕ) (es : List Entry) → Rise m es → Rise k (from k es)
rise_from m k [] h = tt
rise_from m k (e ∷ es) h = by_test (nat_le k e.packet) refl (rise_from e.packet k es h.1)
  where
    by_test : (b : Bool) → nat_le k e.packet ≡ b → Rise k (from k es) → Rise k (cond b (e ∷ from k es) (from k es))
    by_test true is later = (leb-true k e.packet is, rise_front e.packet k es h.1)
    by_test false is later = later

rise_down : (m : ℕ) (es : List Entry) (separated : Option End) → Rise m es → Rise m (up_to_down es separated)
rise_down m [] separated h = tt
rise_down m (e ∷ es) separated h = by_emitted e.emitted (λ s. rise_down e.packet es s h.1)
  where
    by_side : (d : End) (octets : List ℕ) (b : Bool) → ((s : Option End) → Rise e.packet (up_to_down es s))
        → Rise m (cond b (up_to_down es separated) (e ∷ up_to_down es (separated_by separated d (is_separate octets))))
    by_side d octets true later = rise_lower m e.packet (up_to_down es separated) h.0 (later separated)
    by_side d octets false later = (h.0, later (separated_by separated d (is_separate octets)))

    by_emitted : (t : ConnectionEvent) → ((s : Option End) → Rise e.packet (up_to_down es s)) → Rise m (and_later e (up_to_down es) separated t)
    by_emitted up later = rise_lower m e.packet (up_to_down es separated) h.0 (later separated)
    by_emitted (message d octets) later = by_side d octets (is_left_out separated d) later
    by_emitted down later = (h.0, tt)

rise_after : (m : ℕ) (k : Option ℕ) (es : List Entry) → Rise m es → Rise 0 (after_up k es)
rise_after m None es h = tt
rise_after m (Some k) es h = (omega arith, rise_down k (from k es) None (rise_from m k es h))

-- ---- and so do their times

no_later : (ps : List Placed) (m n : ℕ) → m ≤ n → time_at ps m ≤ time_at ps n
unfolding time_at
no_later [] m n le = omega arith
no_later (p ∷ ps) m n le =
    elim (cases_lt n p.packet) [
      | inl lt ↦ rw (lt-leb p.packet n lt, lt-leb p.packet m (omega (arith, lt, le))) (no_later ps m n le)
      | inr ge ↦ rw (le-leb p.packet n ge) (by_test (nat_le p.packet m) (no_later ps m n le))
    ]
  where
    by_test : (b : Bool) → time_at ps m ≤ time_at ps n → cond b (max p.time (time_at ps m)) (time_at ps m) ≤ max p.time (time_at ps n)
    by_test true h = omega (arith, h)
    by_test false h = omega (arith, h)

times_rise : (ps : List Placed) (m : ℕ) (es : List Entry) → Rise m es → AreInOrder (time_at ps m) (map (λ (e : Entry). time_at ps e.packet) es)
times_rise ps m [] h = tt
times_rise ps m (e ∷ es) h = (no_later ps m e.packet h.0, times_rise ps e.packet es h.1)

order_lower : (m n : ℕ) (ts : List ℕ) → m ≤ n → AreInOrder n ts → AreInOrder m ts
order_lower m n [] le h = tt
order_lower m n (t ∷ ts) le h = let a = h.0 in (omega (arith, le, a), h.1)

pub times_never_go_back : TimesNeverGoBack
times_never_go_back ps h =
    let es = shown_entries (shows_of message_size ps) in
    let ts = emitted_turns ps in
    order_lower 0 (time_at ps 0) (map (λ (e : Entry). time_at ps e.packet) (emits ps)) (omega arith)
    (times_rise ps 0 (emits ps) (rise_after 0 (earlier (answered_at ts) (first_message es)) (es ++ reset_entries false ts) (entries_rise ps h)))
