-- What has happened on a session that was running before its capture stays as it was when more packets of it come.
use Rattle.std.proofs.Common.{◌≡◌, ◌-◌, ◌&&◌, ◌||◌, ◌++◌, ◌∷◌, ℕ, Bool, true, false, cond, nat_eq, List, [], map, is_none, refl, sym, ap, subst, ◌∙◌, append_assoc, arith, inl, inr}
use Rattle.std.specs.List.{list_any}
use Rattle.std.proofs.lemmas.Bool.{ne_eqb}
use Rattle.std.proofs.lemmas.List.{map-append}
use Rattle.std.proofs.lemmas.List.Elements.{filter-append}
use Rattle.std.proofs.lemmas.Grind.{flat_map-append}
use Rattle.hsms_machine.specs.Settings.{Parameters}
use Rattle.capture_tcp.specs.declared.connection.Connection.{Connection}
use Rattle.capture_tcp.specs.declared.events.TimedEvent.{TimedEvent}
use Rattle.capture_tcp.specs.TcpStreams.{Seen}
use Rattle.capture_tcp.specs.Laws.{AreNumbered, EachEntry}
use Rattle.capture_tcp.specs.ReaderInvariant.{StateInvariant}
use Rattle.capture_tcp.specs.EventSteps.{entry_as}
use Rattle.capture_tcp.proofs.Connecting.{emitted_at_once}
use Rattle.capture_tcp.proofs.LastingFacts.{emitted_at_packets}
use Rattle.capture_midstream.specs.declared.sync_packet.Start.{Start}
use Rattle.cli_capture.specs.declared.progress.Progress.TheVariants as progress
use Rattle.cli_capture.specs.declared.midstream_log.Joined.{Joined}
use Rattle.cli_capture.specs.OutputMode.{Way}
use Rattle.cli_capture.specs.TrackedConnection.{course_by_events, time_by, timed_by}
use Rattle.cli_capture.specs.MidstreamLog.{JoinedStands, most_by}
use Rattle.cli_capture.specs.ConnectionLog.{bare_if, is_among}
use Rattle.cli_capture.specs.MidstreamOutput.{in_capture}
use Rattle.cli_capture.specs.MidstreamConnection.{Brought, counting, cut, opening_seen, resets_of, session_base, session_seen}
use Rattle.cli_capture.specs.Assumptions.{counts_by, since}
use Rattle.cli_capture.proofs.Lasting.{numbered_at, numbered_behind, numbered_lower, weaken}
use Rattle.cli_capture.proofs.Logging.{course_timed, times_stay}
use Rattle.cli_capture.proofs.Supposing.{undecided_goes}

-- ---- what counts, at its packet of the capture

abbrev shifted : TimedEvent → TimedEvent
shifted h = record h { packet = h.packet - 3 }

counting_timed : (start : Start) (bare : List ℕ) (hs : List TimedEvent) → counting start bare hs ≡ map (timed_by bare) (since start (map shifted hs))
counting_timed start bare [] = refl
counting_timed start bare (h ∷ hs) = by_counts (counts_by start.packet (h.packet - 3) h.event) (counting_timed start bare hs)
  where
    by_counts : (b : Bool) → counting start bare hs ≡ map (timed_by bare) (since start (map shifted hs))
        → cond b (in_capture bare h ∷ counting start bare hs) (counting start bare hs)
        ≡ map (timed_by bare) (cond b (shifted h ∷ since start (map shifted hs)) (since start (map shifted hs)))
    by_counts true rest = ap (λ (xs : List TimedEvent). in_capture bare h ∷ xs) rest
    by_counts false rest = rest

-- what goes on hasn't ended: no reset changes its times
counting_same : (most : ℕ) (start : Start) (bare other : List ℕ) (hs : List TimedEvent) → course_by_events most (counting start bare hs) ≡ progress.Proceeds
    → counting start bare hs ≡ counting start other hs
counting_same most start bare other hs proceeds =
    let xs = since start (map shifted hs) in
    let on : course_by_events most xs ≡ progress.Proceeds = course_timed most bare xs ∙ ap (course_by_events most) (sym (counting_timed start bare hs)) ∙ proceeds in
    counting_timed start bare hs ∙ times_stay most bare xs on ∙ sym (times_stay most other xs on) ∙ sym (counting_timed start other hs)

pub counting_more : (start : Start) (bare : List ℕ) (xs ys : List TimedEvent) → counting start bare (xs ++ ys) ≡ counting start bare xs ++ counting start bare ys
counting_more start bare xs ys =
    ap (since start) (map-append (in_capture bare) xs ys)
    ∙ filter-append (λ (x : TimedEvent). counts_by start.packet x.packet x.event) (map (in_capture bare) xs) (map (in_capture bare) ys)

-- what is heard behind what was heard before
pub counting_then : (most : ℕ) (start : Start) (bare other : List ℕ) (xs ys : List TimedEvent) → course_by_events most (counting start bare xs) ≡ progress.Proceeds
    → since start (map (in_capture bare) xs ++ map (in_capture other) ys) ≡ counting start other (xs ++ ys)
counting_then most start bare other xs ys proceeds =
    filter-append (λ (x : TimedEvent). counts_by start.packet x.packet x.event) (map (in_capture bare) xs) (map (in_capture other) ys)
    ∙ ap (λ (hs : List TimedEvent). hs ++ counting start other ys) (counting_same most start bare other xs proceeds) ∙ sym (counting_more start other xs ys)

pub stands_goes : (how : Way) (a p : Parameters) (start : Start) (hs : List TimedEvent) (j : Joined) → JoinedStands how a p start hs j
    → course_by_events (most_by how a) hs ≡ progress.Proceeds
stands_goes how a p start hs j (of, inl (few, waits)) = (undecided_goes (most_by how a) _ hs waits.undecided).0
stands_goes how a p start hs j (of, inr it) = it.2.0.proceeds

-- ---- resets behind what happened change no time of it

among_more : (xs ys : List ℕ) (n : ℕ) → is_among ys n ≡ false → is_among (xs ++ ys) n ≡ is_among xs n
among_more [] ys n none = none
among_more (x ∷ xs) ys n none = ap (λ (b : Bool). nat_eq x n || b) (among_more xs ys n none)

none_resets : (active passive n : ℕ) (later : List Brought) → AreNumbered n (map (cut active passive) later) → AreNumbered 3 (map (cut active passive) later)
    → is_among (resets_of later) (n - 3) ≡ false
none_resets active passive n [] above subsequent = refl
none_resets active passive n (g ∷ gs) above subsequent =
    by_bare (g.segment.reset && is_none g.segment.acknowledged)
    (none_resets active passive n gs (numbered_lower n _ (map (cut active passive) gs) above.0 above.1)
    (numbered_lower 3 _ (map (cut active passive) gs) subsequent.0 subsequent.1))
  where
    by_bare : (b : Bool) → is_among (resets_of gs) (n - 3) ≡ false → is_among (bare_if b g.segment.packet ++ resets_of gs) (n - 3) ≡ false
    by_bare true rest = let one = above.0 in let two = subsequent.0 in rw (ne_eqb g.segment.packet (n - 3) (λ e. omega (arith, e, one, two))) rest
    by_bare false rest = rest

times_more : (bare more : List ℕ) (hs : List TimedEvent) → EachEntry (λ n. is_among more (n - 3) ≡ false) (map entry_as hs)
    → map (in_capture (bare ++ more)) hs ≡ map (in_capture bare) hs
times_more bare more [] h = refl
times_more bare more (x ∷ hs) h =
    ap (λ (b : Bool). timed_as x b ∷ map (in_capture (bare ++ more)) hs) (among_more bare more (x.packet - 3) h.0)
    ∙ ap (λ (ys : List TimedEvent). in_capture bare x ∷ ys) (times_more bare more hs h.1)
  where
    timed_as : TimedEvent → Bool → TimedEvent
    timed_as x b = record (shifted x) { time = time_by x.event b x.time }

-- ---- packets

pub seen_more : (active passive : ℕ) (gs later : List Brought) → session_seen active passive (gs ++ later) ≡ session_seen active passive gs ++ map (cut active passive) later
seen_more active passive gs later =
    ap (λ (ss : List Seen). opening_seen active passive ++ ss) (map-append (cut active passive) gs later)
    ∙ sym (append_assoc (opening_seen active passive) (map (cut active passive) gs) (map (cut active passive) later))

-- whichever packets follow, what has happened stays as it was
pub counting_later : (active passive : ℕ) (start : Start) (gs later : List Brought) (hs : List TimedEvent) (c : Connection)
    → AreNumbered 0 (session_seen active passive (gs ++ later)) → AreNumbered 0 (session_seen active passive gs)
    → StateInvariant c hs (session_base active passive) (session_seen active passive gs)
    → counting start (resets_of (gs ++ later)) hs ≡ counting start (resets_of gs) hs
counting_later active passive start gs later hs c whole numbered consistent =
    let seen = session_seen active passive gs in
    let base = session_base active passive in
    let split : AreNumbered 0 (seen ++ map (cut active passive) later) = subst (AreNumbered 0) (seen_more active passive gs later) whole in
    let P : ℕ → Type 0 = λ n. list_any (λ s. nat_eq s.packet n) seen ≡ true in
    let Q : ℕ → Type 0 = λ n. is_among (resets_of later) (n - 3) ≡ false in
    let subsequent : AreNumbered 3 (map (cut active passive) later) = numbered_behind 3 (map (cut active passive) gs) (map (cut active passive) later) split.1.1.1 in
    let front : EachEntry P (map entry_as hs) = subst (EachEntry P) (sym (emitted_at_once c hs base seen consistent numbered).0) (emitted_at_packets base seen) in
    let none : EachEntry Q (map entry_as hs) =
    weaken P Q (map entry_as hs) (λ n e. none_resets active passive n later (numbered_at 0 n seen (map (cut active passive) later) split e) subsequent) front in
    ap (λ (ns : List ℕ). counting start ns hs) (flat_map-append (λ (g : Brought). bare_if (g.segment.reset && is_none g.segment.acknowledged) g.segment.packet) gs later)
    ∙ ap (since start) (times_more (resets_of gs) (resets_of later) hs none)
