-- A session that was running before its capture begins as a connection that has just come up.
use Rattle.std.proofs.Common.{◌≡◌, ◌<◌, ◌+◌, ◌-◌, ◌%◌, ◌^◌, ◌++◌, ◌∷◌, ℕ, zero, suc, false, List, [], map, Option, Some, None, is_some, Vec, Global, refl, sym, ap, subst, ◌∙◌, arith, inl}
use Rattle.std.proofs.lemmas.List.{append-nil}
use Rattle.hsms_machine.specs.Settings.{Parameters}
use Rattle.capture_tcp.specs.declared.connection.Connection.{Connection}
use Rattle.capture_tcp.specs.declared.ending.Ending.{Ending}
use Rattle.capture_tcp.specs.declared.events.Event.{Event}
use Rattle.capture_tcp.specs.declared.events.Event.TheVariants as happens
use Rattle.capture_tcp.specs.declared.events.TimedEvent.{TimedEvent}
use Rattle.capture_tcp.specs.TcpStreams.{active, passive, syn, Placed, bound, cell_at, cells_up_to, cut_off, difference, loss, place_of, placed_at, places, run, show, turns}
use Rattle.capture_tcp.specs.EndOfStream.{is_known}
use Rattle.capture_tcp.specs.KnownStreams.{bases, seen_of}
use Rattle.capture_tcp.specs.Laws.{AreNumbered}
use Rattle.capture_tcp.specs.Message.{size_by}
use Rattle.capture_tcp.specs.ReaderInvariant.{StateInvariant}
use Rattle.capture_tcp.specs.EventSteps.{entry_as, processes_input, reported_as}
use Rattle.capture_tcp.specs.Timestamps.{IsInTime}
use Rattle.capture_tcp.specs.ConnectionEvents.{Entry, up, entry, emits}
use Rattle.capture_tcp.specs.DeliverySteps.{remains_after, emit_turns}
use Rattle.capture_tcp.proofs.Connecting.{emitted_at_once}
use Rattle.capture_midstream.specs.SyntheticHandshake.{number_before, opening_by}
use Rattle.capture_midstream.specs.declared.sync_packet.Start.{Start}
use Rattle.cli_capture.specs.declared.midstream_log.Joined.{Joined}
use Rattle.cli_capture.specs.OutputMode.{Way}
use Rattle.cli_capture.specs.MidstreamLog.{JoinedStands, most_by}
use Rattle.cli_capture.specs.InnerMidstreamLog.{IsNew}
use Rattle.cli_capture.specs.MidstreamConnection.{counting, opening_seen, session_base}
use Rattle.cli_capture.specs.InnerMidstreamConnection.{BeginsWithin, Opens}

-- ---- numbers around that of a SYN

ahead_none : (n : ℕ) → (n + 2 ^ 32 - n) % 2 ^ 32 ≡ 0
ahead_none n =
    let all : n + 2 ^ 32 - n ≡ 2 ^ 32 = omega arith in
    ap (λ (m : ℕ). m % 2 ^ 32) all

ahead_one : (n : ℕ) → n < 2 ^ 32 → (n + 2 ^ 32 - number_before n) % 2 ^ 32 ≡ 1
ahead_one zero few = refl
ahead_one (suc m) few =
    let before : number_before (suc m) ≡ m = omega (arith, few) in
    let one : suc m + 2 ^ 32 - m ≡ 2 ^ 32 + 1 = omega arith in
    ap (λ (k : ℕ). (suc m + 2 ^ 32 - k) % 2 ^ 32) before ∙ ap (λ (k : ℕ). k % 2 ^ 32) one

syn_place : (n : ℕ) → place_of 0 (number_before n) (number_before n) ≡ Some 0
syn_place n = rw (ahead_none (number_before n)) refl

next_place : (n : ℕ) → n < 2 ^ 32 → place_of 1 (number_before n) n ≡ Some 1
next_place n few = rw (ahead_one n few) refl

-- ---- the packets by which it came up, at their places

abbrev first_syn : Placed
first_syn = record { from = active; packet = 1; time = 0; place = 0; cells = syn ∷ []; acknowledged = None; reset = false }

abbrev second_syn : Placed
second_syn = record { from = passive; packet = 2; time = 0; place = 0; cells = syn ∷ []; acknowledged = Some 1; reset = false }

abbrev last_ack : Placed
last_ack = record { from = active; packet = 3; time = 0; place = 1; cells = []; acknowledged = Some 1; reset = false }

abbrev opening_places : List Placed
opening_places = first_syn ∷ second_syn ∷ last_ack ∷ []

opening_placed : (a p : ℕ) → a < 2 ^ 32 → p < 2 ^ 32 → places (session_base a p) [] (opening_seen a p) ≡ opening_places
unfolding bound cell_at places run turns
opening_placed a p few fewer =
    let base = session_base a p in
    let o = opening_by a p in
    let one = seen_of o.syn [] in
    let two = seen_of o.answer [] in
    let three = seen_of o.acknowledgement [] in
    ap (λ (at : Option ℕ). places base (placed_at 0 0 one at None) (two ∷ three ∷ [])) (syn_place a)
    ∙ ap (λ (at : Option ℕ). places base (first_syn ∷ placed_at 0 0 two at (place_of 1 (number_before a) a)) (three ∷ [])) (syn_place p)
    ∙ ap (λ (ack : Option ℕ). places base (first_syn ∷ placed_at 0 0 two (Some 0) ack) (three ∷ [])) (next_place a few)
    ∙ ap (λ (at : Option ℕ). first_syn ∷ second_syn ∷ placed_at 1 1 three at (place_of 1 (number_before p) p)) (next_place a few)
    ∙ ap (λ (ack : Option ℕ). first_syn ∷ second_syn ∷ placed_at 1 1 three (Some 1) ack) (next_place p fewer)

-- they tell that it came up, and no more
opening_tells : emits opening_places ≡ entry 3 up ∷ []
unfolding bound cell_at cells_up_to cut_off difference loss run show size_by turns
opening_tells = refl

opening_goes : is_known opening_places ≡ false
unfolding bound cell_at cells_up_to cut_off difference processes_input remains_after loss run show size_by emit_turns turns
opening_goes = refl

-- ---- nothing of that counts

none_counts : (start : Start) (bare : List ℕ) (n : ℕ) (hs : List TimedEvent) → map entry_as hs ≡ entry n up ∷ [] → counting start bare hs ≡ []
none_counts start bare n [] e = absurd cc
none_counts start bare n (h ∷ []) e =
    let same : entry_as h ≡ entry n up = cc in
    by_event h.event refl (ap (λ (x : Entry). x.emitted) same)
  where
    by_event : (x : Event) → h.event ≡ x → reported_as h.event ≡ up → counting start bare (h ∷ []) ≡ []
    by_event happens.Up is emitted = rw is refl
    by_event (happens.Message from octets) is emitted = absurd (let bad : reported_as (happens.Message from octets) ≡ up = ap reported_as (sym is) ∙ emitted in cc)
    by_event happens.Down is emitted = absurd (let bad : reported_as happens.Down ≡ up = ap reported_as (sym is) ∙ emitted in cc)
none_counts start bare n (h ∷ (g ∷ hs)) e = absurd cc

-- ---- the connection takes them

record Opened (a p : ℕ) (c : Connection) (hs : List TimedEvent) : Type 0 where
  consistent : StateInvariant c hs (session_base a p) (opening_seen a p)
  timed : IsInTime c hs (session_base a p) (opening_seen a p)

opened_by : (a p : ℕ) (first one two three : Connection) → StateInvariant first [] (session_base a p) [] → IsInTime first [] (session_base a p) [] → Opens first (opening_by a p).syn one
    → Opens one (opening_by a p).answer two → Opens two (opening_by a p).acknowledgement three → (hs : List TimedEvent) × Opened a p three hs
opened_by a p first one two three consistent timed opens answers acknowledges =
    let base = session_base a p in
    let o = opening_by a p in
    let s1 = seen_of o.syn [] in
    let s2 = seen_of o.answer [] in
    let s3 = seen_of o.acknowledgement [] in
    let n1 : AreNumbered 0 (s1 ∷ []) = (omega arith, tt) in
    let n2 : AreNumbered 0 (s1 ∷ s2 ∷ []) = (omega arith, (omega arith, tt)) in
    let n3 : AreNumbered 0 (s1 ∷ s2 ∷ s3 ∷ []) = (omega arith, (omega arith, (omega arith, tt))) in
    let t1 = opens.0 in
    let t2 = t1 ++ answers.0 in
    let still1 : t1 ++ [] ≡ t1 = append-nil t1 in
    let still2 : t2 ++ [] ≡ t2 = append-nil t2 in
    let a1 = opens.1 base [] [] n1 consistent in
    let b1 = opens.2 base [] [] consistent timed in
    let h1 = subst (λ (hs : List TimedEvent). StateInvariant one hs base (s1 ∷ [])) (sym still1) a1 in
    let k1 = subst (λ (hs : List TimedEvent). IsInTime one hs base (s1 ∷ [])) (sym still1) b1 in
    let a2 = answers.1 base (s1 ∷ []) t1 n2 h1 in
    let b2 = answers.2 base (s1 ∷ []) t1 h1 k1 in
    let h2 = subst (λ (hs : List TimedEvent). StateInvariant two hs base (s1 ∷ s2 ∷ [])) (sym still2) a2 in
    let k2 = subst (λ (hs : List TimedEvent). IsInTime two hs base (s1 ∷ s2 ∷ [])) (sym still2) b2 in
    (t2 ++ acknowledges.0, record { consistent = acknowledges.1 base (s1 ∷ s2 ∷ []) t2 n3 h2; timed = acknowledges.2 base (s1 ∷ s2 ∷ []) t2 h2 k2 })

not_some : (o : Option Ending) → is_some o ≡ false → o ≡ None
not_some None e = refl
not_some (Some x) e = absurd cc

-- and what is heard of it begins
new_stands : (how : Way) (a p : Parameters) (start : Start) (hs : List TimedEvent) (j : Joined) → IsNew start j → hs ≡ [] → JoinedStands how a p start hs j
unfolding IsNew
new_stands how a p start hs j new none =
    subst (λ (gs : List TimedEvent). JoinedStands how a p start gs j) (sym none) ((new (most_by how a)).0, inl (omega arith, (new (most_by how a)).1))

-- the number before, as it is computed
abbrev before_as : ℕ → ℕ
before_as n = (n + 4294967295) % 2 ^ 32

before_same : (n : ℕ) → before_as n ≡ number_before n
before_same n =
    let same : n + 4294967295 ≡ n + 2 ^ 32 - 1 = omega arith in
    ap (λ (m : ℕ). m % 2 ^ 32) same

pub begins_within : (a p : ℕ) (start : Start) (first one two three : Connection) (bare : Vec ℕ Global) (j : Joined) → a < 2 ^ 32 → p < 2 ^ 32
    → StateInvariant first [] (bases (before_as a) (before_as p)) [] → IsInTime first [] (bases (before_as a) (before_as p)) [] → Opens first (opening_by a p).syn one
    → Opens one (opening_by a p).answer two → Opens two (opening_by a p).acknowledgement three → bare.items ≡ [] → IsNew start j
    → BeginsWithin a p start (record { connection = three; active = a; passive = p; bare_resets = bare; joined = j })
begins_within a p start first one two three bare j few fewer consistent timed opens answers acknowledges empty new =
    let base = session_base a p in
    let s = subst (λ (m : ℕ). StateInvariant first [] (bases m (number_before p)) []) (before_same a) (subst (λ (m : ℕ). StateInvariant first [] (bases (before_as a) m) []) (before_same p) consistent) in
    let i = subst (λ (m : ℕ). IsInTime first [] (bases m (number_before p)) []) (before_same a)
    (subst (λ (m : ℕ). IsInTime first [] (bases (before_as a) m) []) (before_same p) timed) in
    let seen = opening_seen a p in
    let it = opened_by a p first one two three s i opens answers acknowledges in
    let n : AreNumbered 0 seen = (omega arith, (omega arith, (omega arith, tt))) in
    let emitted = emitted_at_once three it.0 base seen it.1.consistent n in
    let placed = opening_placed a p few fewer in
    let none : counting start [] it.0 ≡ [] = none_counts start [] 3 it.0 (emitted.0 ∙ ap emits placed ∙ opening_tells) in
    record {
      active_is = refl;
      passive_is = refl;
      happened = it.0;
      none = none;
      is = λ how x y. record {
        unended = not_some three.ending (emitted.1 ∙ ap is_known placed ∙ opening_goes);
        consistent = it.1.consistent;
        timed = it.1.timed;
        bare = empty;
        reception = new_stands how x y start (counting start [] it.0) j new none;
        fit = tt;
      };
    }
