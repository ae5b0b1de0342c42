-- The emitted messages of an end are the first ones that the packets show, and nothing is emitted after a loss.
use Rattle.std.proofs.Common.{◌≡◌, ◌≤◌, ◌<◌, ◌++◌, ◌∷◌, ◌&&◌, ◌||◌, ℕ, Bool, true, false, cond, min, nat_le, List, [], Option, Some, None, refl, sym, ap, ◌∙◌, arith}
use Rattle.std.proofs.lemmas.Bool.{le-leb}
use Rattle.capture_tcp.specs.TcpStreams.{End, active, passive, other, same_end, Turn, earlier, is_open, shows_of, emitted_turns}
use Rattle.capture_tcp.specs.Message.{message_size}
use Rattle.capture_tcp.specs.ConnectionEvents.{ConnectionEvent, up, message, down, Entry, entry, and_later, answered_at, after_up, first_message, is_left_out, is_message, is_separate, reset_entries, separated_by, shown_entries, emits, up_to_down}
use Rattle.capture_tcp.specs.Entries.{MessagesAreKept, NothingEmittedAfterALoss, and_message, messages_emitted}
use Rattle.capture_tcp.proofs.KeptCells.{turns_before}
use Rattle.capture_tcp.proofs.LastingFacts.{each_entry, emitted_all_at}
use Rattle.capture_tcp.proofs.EmittedEvents.{Rise, append_message, entries_rise, from, no_message}

-- Holds if these are the first ones of those.
abbrev AreFirst : End → List Entry → List Entry → Type 0
AreFirst d xs ys = (rest : List (List ℕ)) × (messages_emitted d ys ≡ messages_emitted d xs ++ rest)

-- ---- what crosses a Separate

-- Nothing is emitted of an end whose messages are skipped.
left_as : (s d c : End) → same_end d (other s) ≡ true → same_end c (other s) ≡ false → same_end c d ≡ false
left_as active active c h k = absurd cc
left_as active passive active h k = refl
left_as active passive passive h k = absurd cc
left_as passive active active h k = absurd cc
left_as passive active passive h k = refl
left_as passive passive c h k = absurd cc

none_left : (d : End) (es : List Entry) (s : End) → same_end d (other s) ≡ true → messages_emitted d (up_to_down es (Some s)) ≡ []
none_left d [] s h = refl
none_left d (e ∷ es) s h = by_emitted e.emitted refl (none_left d es s h)
  where
    by_end : (c : End) (octets : List ℕ) (b : Bool) → e.emitted ≡ message c octets → same_end c (other s) ≡ b → messages_emitted d (up_to_down es (Some s)) ≡ []
        → messages_emitted d (cond b (up_to_down es (Some s)) (e ∷ up_to_down es (Some s))) ≡ []
    by_end c octets true at is later = later
    by_end c octets false at is later =
        ap (λ (t : ConnectionEvent). and_message d t (messages_emitted d (up_to_down es (Some s)))) at
        ∙ ap (λ (b : Bool). cond b (octets ∷ messages_emitted d (up_to_down es (Some s))) (messages_emitted d (up_to_down es (Some s)))) (left_as s d c h is) ∙ later

    by_emitted : (t : ConnectionEvent) → e.emitted ≡ t → messages_emitted d (up_to_down es (Some s)) ≡ [] → messages_emitted d (and_later e (up_to_down es) (Some s) t) ≡ []
    by_emitted up at later = later
    by_emitted (message c octets) at later = by_end c octets (same_end c (other s)) at refl later
    by_emitted down at later = ap (λ (t : ConnectionEvent). and_message d t []) at

-- A skipped message does not come from an end whose messages are not skipped.
apart : (o : Option End) (d c : End) → is_left_out o d ≡ false → is_left_out o c ≡ true → same_end c d ≡ false
apart None d c h k = absurd cc
apart (Some active) active active h k = absurd cc
apart (Some active) active passive h k = refl
apart (Some active) passive c h k = absurd cc
apart (Some passive) active c h k = absurd cc
apart (Some passive) passive active h k = refl
apart (Some passive) passive passive h k = absurd cc

left_out_is : (d : End) (es : List Entry) (o : Option End) → is_left_out o d ≡ true → messages_emitted d (up_to_down es o) ≡ []
left_out_is d es None h = absurd cc
left_out_is d es (Some s) h = none_left d es s h

first_down : (d : End) (es : List Entry) (o : Option End) → AreFirst d (up_to_down es o) es
first_down d [] o = ([], refl)
first_down d (e ∷ es) o = by_left (is_left_out o d) refl (first_down d es)
  where
    more : List (List ℕ)
    more = messages_emitted d es

    by_same : (b : Bool) (octets : List ℕ) (later rest : List (List ℕ)) → more ≡ later ++ rest → messages_emitted d (e ∷ es) ≡ cond b (octets ∷ more) more
        → and_message d e.emitted later ≡ cond b (octets ∷ later) later → messages_emitted d (e ∷ es) ≡ and_message d e.emitted later ++ rest
    by_same true octets later rest all one other =
        one ∙ ap (λ (ms : List (List ℕ)). octets ∷ ms) all ∙ ap (λ (ms : List (List ℕ)). ms ++ rest) (sym other)
    by_same false octets later rest all one other = one ∙ all ∙ ap (λ (ms : List (List ℕ)). ms ++ rest) (sym other)

    by_end : (c : End) (octets : List ℕ) (b : Bool) → e.emitted ≡ message c octets → is_left_out o d ≡ false → is_left_out o c ≡ b
        → ((p : Option End) → AreFirst d (up_to_down es p) es)
        → AreFirst d (cond b (up_to_down es o) (e ∷ up_to_down es (separated_by o c (is_separate octets)))) (e ∷ es)
    by_end c octets true at h is first =
        let on = first o in
        let same : messages_emitted d (e ∷ es) ≡ more = ap (λ (t : ConnectionEvent). and_message d t more) at ∙ ap (λ (b : Bool). cond b (octets ∷ more) more) (apart o d c h is) in
        (on.0, same ∙ on.1)
    by_end c octets false at h is first =
        let on = first (separated_by o c (is_separate octets)) in
        let later = messages_emitted d (up_to_down es (separated_by o c (is_separate octets))) in (
          on.0,
          by_same (same_end c d) octets later on.0 on.1 (ap (λ (t : ConnectionEvent). and_message d t more) at) (ap (λ (t : ConnectionEvent). and_message d t later) at),
        )

    by_emitted : (t : ConnectionEvent) → e.emitted ≡ t → is_left_out o d ≡ false → ((p : Option End) → AreFirst d (up_to_down es p) es) → AreFirst d (and_later e (up_to_down es) o t) (e ∷ es)
    by_emitted up at h first = let on = first o in (on.0, ap (λ (t : ConnectionEvent). and_message d t more) at ∙ on.1)
    by_emitted (message c octets) at h first = by_end c octets (is_left_out o c) at h refl first
    by_emitted down at h first =
        (messages_emitted d (e ∷ es), ap (λ (ms : List (List ℕ)). ms ++ messages_emitted d (e ∷ es)) (sym (ap (λ (t : ConnectionEvent). and_message d t []) at)))

    by_left : (b : Bool) → is_left_out o d ≡ b → ((p : Option End) → AreFirst d (up_to_down es p) es) → AreFirst d (up_to_down (e ∷ es) o) (e ∷ es)
    by_left true h first =
        (messages_emitted d (e ∷ es), ap (λ (ms : List (List ℕ)). ms ++ messages_emitted d (e ∷ es)) (sym (left_out_is d (e ∷ es) o h)))
    by_left false h first = by_emitted e.emitted refl h first

-- ---- what comes before it was established

keep_all : (k n : ℕ) (es : List Entry) → k ≤ n → Rise n es → from k es ≡ es
keep_all k n [] le rise = refl
keep_all k n (e ∷ es) le rise =
    let low : k ≤ e.packet = let up_to = rise.0 in omega (arith, le, up_to) in
    rw (le-leb k e.packet low) (ap (λ (xs : List Entry). e ∷ xs) (keep_all k e.packet es low rise.1))

no_less : (d : End) (k n : ℕ) (es : List Entry) → Rise n es → ((m : ℕ) → first_message es ≡ Some m → k ≤ m) → messages_emitted d (from k es) ≡ messages_emitted d es
no_less d k n [] rise first = refl
no_less d k n (e ∷ es) rise first = by_emitted e.emitted refl (no_less d k e.packet es rise.1)
  where
    by_kept : (t : ConnectionEvent) (b : Bool) → e.emitted ≡ t → ((ms : List (List ℕ)) → and_message d t ms ≡ ms) → messages_emitted d (from k es) ≡ messages_emitted d es
        → messages_emitted d (cond b (e ∷ from k es) (from k es)) ≡ messages_emitted d (e ∷ es)
    by_kept t true at none same = ap (λ (ms : List (List ℕ)). and_message d e.emitted ms) same
    by_kept t false at none same =
        same ∙ sym (ap (λ (x : ConnectionEvent). and_message d x (messages_emitted d es)) at ∙ none (messages_emitted d es))

    by_emitted : (t : ConnectionEvent) → e.emitted ≡ t → (((m : ℕ) → first_message es ≡ Some m → k ≤ m) → messages_emitted d (from k es) ≡ messages_emitted d es)
        → messages_emitted d (from k (e ∷ es)) ≡ messages_emitted d (e ∷ es)
    by_emitted up at later =
        by_kept up (nat_le k e.packet) at (λ ms. refl) (later (λ m f. first m (ap (λ (t : ConnectionEvent). cond (is_message t) (Some e.packet) (first_message es)) at ∙ f)))
    by_emitted down at later =
        by_kept down (nat_le k e.packet) at (λ ms. refl) (later (λ m f. first m (ap (λ (t : ConnectionEvent). cond (is_message t) (Some e.packet) (first_message es)) at ∙ f)))
    by_emitted (message c octets) at later =
        let low : k ≤ e.packet = first e.packet (ap (λ (t : ConnectionEvent). cond (is_message t) (Some e.packet) (first_message es)) at) in
        rw (le-leb k e.packet low) (ap (λ (xs : List Entry). messages_emitted d (e ∷ xs)) (keep_all k e.packet es low rise.1))

-- ---- a reset is no message

none_reset : (d : End) (o : Bool) (ts : List Turn) → messages_emitted d (reset_entries o ts) ≡ []
none_reset d o [] = refl
none_reset d o (t ∷ ts) = by_reset (t.own.reset && (o || is_open t)) (none_reset d (o || is_open t) ts)
  where
    by_reset : (r : Bool) → messages_emitted d (reset_entries (o || is_open t) ts) ≡ []
        → messages_emitted d (cond r (entry t.at.packet down ∷ []) (reset_entries (o || is_open t) ts)) ≡ []
    by_reset true later = refl
    by_reset false later = later

emitted_append : (d : End) (xs ys : List Entry) → messages_emitted d ys ≡ [] → messages_emitted d (xs ++ ys) ≡ messages_emitted d xs
emitted_append d [] ys h = h
emitted_append d (x ∷ xs) ys h = ap (λ (ms : List (List ℕ)). and_message d x.emitted ms) (emitted_append d xs ys h)

-- ---- all of it

earlier_le : (a b : Option ℕ) (k m : ℕ) → earlier a b ≡ Some k → b ≡ Some m → k ≤ m
earlier_le None b k m e f = let same : k ≡ m = cc in omega (arith, same)
earlier_le (Some i) None k m e f = absurd cc
earlier_le (Some i) (Some j) k m e f =
    let one : min i j ≡ k = cc in
    let two : j ≡ m = cc in
    omega (arith, one, two)

pub messages_kept : MessagesAreKept
messages_kept ps d rises = by_up (earlier (answered_at ts) (first_message es)) refl
  where
    ts : List Turn
    ts = emitted_turns ps

    es : List Entry
    es = shown_entries (shows_of message_size ps)

    all : List Entry
    all = es ++ reset_entries false ts

    by_up : (o : Option ℕ) → earlier (answered_at ts) (first_message es) ≡ o → AreFirst d (after_up o all) es
    by_up None at = (messages_emitted d es, refl)
    by_up (Some k) at =
        let on = first_down d (from k all) None in
        let first : (m : ℕ) → first_message all ≡ Some m → k ≤ m =
        λ m f. earlier_le (answered_at ts) (first_message es) k m at (sym (append_message es (reset_entries false ts) (no_message false ts)) ∙ f) in
        (on.0, sym (emitted_append d es (reset_entries false ts) (none_reset d false ts)) ∙ sym (no_less d k 0 all (entries_rise ps rises) first) ∙ on.1)

pub nothing_emitted : NothingEmittedAfterALoss
nothing_emitted ps k e = each_entry (λ n. n < k) (emits ps) (emitted_all_at (λ n. n < k) ps (turns_before ps k e))
