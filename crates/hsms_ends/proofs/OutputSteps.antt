-- Output in consecutive sequences of calls.
use Rattle.std.proofs.Common.{◌≡◌, ◌<◌, ◌≤◌, ◌+◌, ◌++◌, ℕ, suc, List, [], get_or, take-append-drop, ◌∷◌, length, take, drop, Some, Ok, Err, inl, inr, refl, sym, ap, ◌∙◌, subst, arith, append_assoc, length-append}
use Rattle.std.specs.Prelude.{Option, Result}
use Rattle.std.proofs.lemmas.List.{take-append-le, append-nil, take_all}
use Rattle.std.proofs.Math.Seq.{take-append-add, take-suc}
use Rattle.std.proofs.lemmas.Grind.{flat_map-append}
use Rattle.hsms_frame.specs.CallCounts.{next_count}
use Rattle.hsms_frame.specs.Io.{SinkState, Grows, GrowsByFront, Stays}
use Rattle.hsms_machine.specs.declared.entry.Entry.{Entry}
use Rattle.hsms_log.specs.declared.fault.LogFault.{LogFault}
use Rattle.hsms_log.specs.LineFormat.{entry_line}
use Rattle.hsms_ends.specs.declared.output.Stop.{Stop}
use Rattle.hsms_ends.specs.declared.output.Stop.TheVariants.{Link, Log, Memory}
use Rattle.hsms_ends.specs.Link.{LinkState, LinkInput, ProcessesInput, Asks, both, processed_nothing, processed_time}
use Rattle.hsms_ends.specs.Output.{GrowsByPart, GrowsInto, LogGrows, LogFails, LogStops, sent_octets, sent_of}
use Rattle.hsms_ends.specs.InnerOutput.{LogFailsIn, LogsAll, RestLogged, Logged, TakesAll, TakesPart, Delivered, SendsAll, PutsOut, log_lines}
use Rattle.hsms_ends.proofs.ReceivedBytes.{grows_then, grows_none, grows_stays, processes_then, processes_nothing}

pub part_of_front : (old new : Option (List ℕ)) (a : List ℕ) → GrowsByFront old new a → GrowsByPart old new a
part_of_front old new a h octets link_state =
    let x = h octets link_state in
    let below : x.0 < length a = x.1 in
    (x.0, omega arith, x.2)

pub part_of_all : (old new : Option (List ℕ)) (a : List ℕ) → Grows old new a → GrowsByPart old new a
part_of_all old new a h octets link_state = (length a, omega arith, h octets link_state ∙ ap (λ l. Some (octets ++ l)) (sym (take_all (length a) a (omega arith))))

pub part_of_first : (old mid : Option (List ℕ)) (a b : List ℕ) → GrowsByPart old mid a → GrowsByPart old mid (a ++ b)
part_of_first old mid a b h octets link_state =
    let x = h octets link_state in
    let below : x.0 ≤ length a = x.1 in
    (x.0, omega (arith, length-append a b), x.2 ∙ ap (λ l. Some (octets ++ l)) (sym (take-append-le x.0 a b below)))

pub part_of_second : (old mid new : Option (List ℕ)) (a b : List ℕ) → Grows old mid a → GrowsByPart mid new b → GrowsByPart old new (a ++ b)
part_of_second old mid new a b h k octets link_state =
    let x = k (octets ++ a) (h octets link_state) in
    let below : x.0 ≤ length b = x.1 in (
      length a + x.0,
      omega (arith, length-append a b),
      x.2 ∙ ap Some (append_assoc octets a (take x.0 b)) ∙ ap (λ l. Some (octets ++ l)) (sym (take-append-add a b x.0)),
    )

pub lines-append : (a b : List Entry) → log_lines (a ++ b) ≡ log_lines a ++ log_lines b
lines-append a b = flat_map-append (λ entry. entry_line entry ++ 10 ∷ []) a b

pub sent-append : (a b : List Entry) → sent_octets (a ++ b) ≡ sent_octets a ++ sent_octets b
sent-append a b = flat_map-append (λ entry. sent_of entry.event) a b

-- ---- the log

pub log_then : (log mid log' : SinkState) (a b : List ℕ) → LogGrows log mid a → LogGrows mid log' b → LogGrows log log' (a ++ b)
log_then log mid log' a b h k = (grows_then log.written mid.written log'.written a b h.0 k.0, k.1 ∙ h.1)

grows_into : (old mid new : Option (List ℕ)) (a b line : List ℕ) → Grows old mid a → GrowsInto mid new b line → GrowsInto old new (a ++ b) line
grows_into old mid new a b line h k octets link_state =
    let x = k (octets ++ a) (h octets link_state) in
    (x.0, x.1, x.2 ∙ ap Some (append_assoc octets a (b ++ take x.0 line)) ∙ ap (λ l. Some (octets ++ l)) (sym (append_assoc a b (take x.0 line))))

pub stops_then : (log mid log' : SinkState) (a b : List ℕ) (rest : List Entry) → LogGrows log mid a → LogStops mid log' b rest → LogStops log log' (a ++ b) rest
stops_then log mid log' a b [] h k = k
stops_then log mid log' a b (entry ∷ rest) h k = (grows_into log.written mid.written log'.written a b (entry_line entry ++ 10 ∷ []) h.0 k.0, k.1 ∙ ap next_count h.1)

pub stops_more : (log log' : SinkState) (a : List ℕ) (rest more : List Entry) → LogStops log log' a rest → LogStops log log' a (rest ++ more)
stops_more log log' a [] more h = absurd h
stops_more log log' a (entry ∷ rest) more h = h

pub stops_along : (log log' : SinkState) (a b : List ℕ) (rest : List Entry) → a ≡ b → LogStops log log' a rest → LogStops log log' b rest
stops_along log log' a b rest e h = let P : List ℕ → Type 0 = λ l. LogStops log log' l rest in subst P e h

pub grows_along : (log log' : SinkState) (a b : List ℕ) → a ≡ b → LogGrows log log' a → LogGrows log log' b
grows_along log log' a b e h = let P : List ℕ → Type 0 = λ l. LogGrows log log' l in subst P e h

-- The lines of all entries in `a` were logged, and then the log failed in an entry of `b`.
pub fails_in_then : (log mid log' : SinkState) (a b : List Entry) → LogGrows log mid (log_lines a) → LogFailsIn mid log' b → LogFailsIn log log' (a ++ b)
fails_in_then log mid log' a b h k = record {
  whole = a ++ k.whole;
  rest = k.rest;
  parted = ap (λ l. a ++ l) k.parted ∙ sym (append_assoc a k.whole k.rest);
  stops = stops_along log log' (log_lines a ++ log_lines k.whole) (log_lines (a ++ k.whole)) k.rest (sym (lines-append a k.whole))
      (stops_then log mid log' (log_lines a) (log_lines k.whole) k.rest h k.stops);
}

pub fails_in_more : (log log' : SinkState) (a b : List Entry) → LogFailsIn log log' a → LogFailsIn log log' (a ++ b)
fails_in_more log log' a b h = record {
  whole = h.whole;
  rest = h.rest ++ b;
  parted = ap (λ l. l ++ b) h.parted ∙ append_assoc h.whole h.rest b;
  stops = stops_more log log' (log_lines h.whole) h.rest b h.stops;
}

-- The log failed in the line of an entry.
pub fails_in_one : (log log' : SinkState) (entry : Entry) → LogFails log log' (entry_line entry ++ 10 ∷ []) → LogFailsIn log log' (entry ∷ [])
fails_in_one log log' entry h = record { whole = []; rest = entry ∷ []; parted = refl; stops = h }

pub logged_then : (r : Result (Unit {0}) Stop) (log mid log' : SinkState) (a b : List ℕ) (rest : List Entry) → LogGrows log mid a → Logged r mid log' b rest → Logged r log log' (a ++ b) rest
logged_then (Ok _) log mid log' a b rest h k = (k.0, log_then log mid log' a b h k.1)
logged_then (Err Link) log mid log' a b rest h k = (k.0, log_then log mid log' a b h k.1)
logged_then (Err Log) log mid log' a b rest h k = stops_then log mid log' a b rest h k
logged_then (Err Memory) log mid log' a b rest h k = (k.0, log_then log mid log' a b h k.1)

-- ---- the link

takes_part_then : (link mid link' : LinkState) (a b : List ℕ) → TakesAll link mid a → TakesPart mid link' b → TakesPart link link' (a ++ b)
takes_part_then link mid link' a b h k = (part_of_second link.taken mid.taken link'.taken a b h.0 k.0, k.1 ∙ ap next_count h.1)

takes_all_then : (link mid link' : LinkState) (a b : List ℕ) → TakesAll link mid a → TakesAll mid link' b → TakesAll link link' (a ++ b)
takes_all_then link mid link' a b h k = (grows_then link.taken mid.taken link'.taken a b h.0 k.0, k.1 ∙ h.1)

takes_part_more : (link link' : LinkState) (a b : List ℕ) → TakesPart link link' a → TakesPart link link' (a ++ b)
takes_part_more link link' a b h = (part_of_first link.taken link'.taken a b h.0, h.1)

pub delivered_then : (r : Result (Unit {0}) Stop) (link mid link' : LinkState) (a b : List ℕ) → TakesAll link mid a → Delivered r mid link' b → Delivered r link link' (a ++ b)
delivered_then (Ok _) link mid link' a b h k = takes_all_then link mid link' a b h k
delivered_then (Err Link) link mid link' a b h k = takes_part_then link mid link' a b h k
delivered_then (Err Log) link mid link' a b h k =
    elim k [ inl all ↦ inl (takes_all_then link mid link' a b h all) | inr part ↦ inr (takes_part_then link mid link' a b h part) ]
delivered_then (Err Memory) link mid link' a b h k = takes_all_then link mid link' a b h k

-- ---- the log and the link

-- No entry remains of those that were written.
pub whole_is : (entries whole rest : List Entry) → entries ≡ whole ++ rest → rest ≡ [] → whole ≡ entries
whole_is entries whole rest parted none = sym (append-nil whole) ∙ ap (λ l. whole ++ l) (sym none) ∙ sym parted

unfoldable pub puts_then : (r : Result (Unit {0}) Stop) (log mid log' : SinkState) (link between link' : LinkState) (a b : List Entry) (h k : LinkInput)
    → PutsOut (Ok tt) log mid link between a h → PutsOut r mid log' between link' b k → PutsOut r log log' link link' (a ++ b) (both h k)
puts_then r log mid log' link between link' a b h k first second =
    let whole = whole_is a first.whole first.rest first.parted first.logged.0 in
    let P : List ℕ → Type 0 = λ l. Logged r log log' l second.rest in
    let Q : List ℕ → Type 0 = λ l. Delivered r link link' l in
    let R : List Entry → Type 0 = λ l. TakesAll link between (sent_octets l) in
    record {
      whole = a ++ second.whole;
      rest = second.rest;
      parted = ap (λ l. a ++ l) second.parted ∙ sym (append_assoc a second.whole second.rest);
      logged = subst P (sym (lines-append a second.whole))
          (logged_then r log mid log' (log_lines a) (log_lines second.whole) second.rest (grows_along log mid (log_lines first.whole) (log_lines a) (ap log_lines whole) first.logged.1) second.logged);
      sent = subst Q (sym (sent-append a second.whole)) (delivered_then r link between link' (sent_octets a) (sent_octets second.whole) (subst R whole first.sent) second.sent);
      processes_input = processes_then link between link' h k first.processes_input second.processes_input;
    }

-- Nothing was written.
unfoldable pub puts_nothing : (log : SinkState) (link : LinkState) → PutsOut (Ok tt) log log link link [] processed_nothing
puts_nothing log link = record {
  whole = [];
  rest = [];
  parted = refl;
  logged = (refl, (grows_none log.written, refl));
  sent = (grows_none link.taken, refl);
  processes_input = processes_nothing link;
}

-- The link gave input, and nothing was written.
unfoldable pub puts_processed : (log : SinkState) (link link' : LinkState) (h : LinkInput) → ProcessesInput link link' h → Stays link.taken link'.taken → link'.failures ≡ link.failures
    → PutsOut (Ok tt) log log link link' [] h
puts_processed log link link' h reception stays same = record {
  whole = [];
  rest = [];
  parted = refl;
  logged = (refl, (grows_none log.written, refl));
  sent = (grows_stays link.taken link'.taken link'.taken [] stays (grows_none link'.taken), same);
  processes_input = reception;
}

-- Nothing was written, and the link failed.
unfoldable pub puts_fault : (log : SinkState) (link link' : LinkState) → ProcessesInput link link' processed_nothing → Stays link.taken link'.taken → link'.failures ≡ next_count link.failures
    → PutsOut (Err Link) log log link link' [] processed_nothing
puts_fault log link link' reception stays failed = record {
  whole = [];
  rest = [];
  parted = refl;
  logged = (refl, (grows_none log.written, refl));
  sent = (part_of_all link.taken link'.taken [] (grows_stays link.taken link'.taken link'.taken [] stays (grows_none link'.taken)), failed);
  processes_input = reception;
}

-- An allocation failed.
unfoldable pub puts_memory : (log log' : SinkState) (link link' : LinkState) (a : List Entry) (h : LinkInput) → PutsOut (Ok tt) log log' link link' a h → PutsOut (Err Memory) log log' link link' a h
puts_memory log log' link link' a h puts =
    record { whole = puts.whole; rest = puts.rest; parted = puts.parted; logged = puts.logged; sent = puts.sent; processes_input = puts.processes_input }

-- The log failed, and nothing of the further entries was written.
pub puts_log_more : (log log' : SinkState) (link link' : LinkState) (a b : List Entry) (h : LinkInput) → PutsOut (Err Log) log log' link link' a h → PutsOut (Err Log) log log' link link' (a ++ b) h
puts_log_more log log' link link' a b h puts = record {
  whole = puts.whole;
  rest = puts.rest ++ b;
  parted = ap (λ l. l ++ b) puts.parted ∙ append_assoc puts.whole puts.rest b;
  logged = stops_more log log' (log_lines puts.whole) puts.rest b puts.logged;
  sent = puts.sent;
  processes_input = puts.processes_input;
}

-- An entry was logged, and its bytes were sent.
pub puts_whole : (entry : Entry) (log log' : SinkState) (link link' : LinkState) → LogGrows log log' (entry_line entry ++ 10 ∷ []) → SendsAll link link' (sent_of entry.event) (Ok tt)
    → PutsOut (Ok tt) log log' link link' (entry ∷ []) processed_nothing
puts_whole entry log log' link link' grows sends =
    let P : List ℕ → Type 0 = λ l. TakesAll link link' l in
    record {
      whole = entry ∷ [];
      rest = [];
      parted = refl;
      logged = (refl, grows_along log log' (entry_line entry ++ 10 ∷ []) (log_lines (entry ∷ [])) (sym (append-nil (entry_line entry ++ 10 ∷ []))) grows);
      sent = subst P (sym (append-nil (sent_of entry.event))) (sends.1, sends.2);
      processes_input = sends.0;
    }

-- An entry was logged, and the link failed.
pub puts_no_link : (entry : Entry) (log log' : SinkState) (link link' : LinkState) → LogGrows log log' (entry_line entry ++ 10 ∷ []) → ProcessesInput link link' processed_nothing × GrowsByFront link.taken link'.taken (sent_of entry.event) × (link'.failures ≡ next_count link.failures)
    → PutsOut (Err Link) log log' link link' (entry ∷ []) processed_nothing
puts_no_link entry log log' link link' grows sends =
    let P : List ℕ → Type 0 = λ l. TakesPart link link' l in
    record {
      whole = entry ∷ [];
      rest = [];
      parted = refl;
      logged = (refl, grows_along log log' (entry_line entry ++ 10 ∷ []) (log_lines (entry ∷ [])) (sym (append-nil (entry_line entry ++ 10 ∷ []))) grows);
      sent = subst P (sym (append-nil (sent_of entry.event))) (part_of_front link.taken link'.taken (sent_of entry.event) sends.1, sends.2);
      processes_input = sends.0;
    }

-- The log failed in an entry's line, and nothing was sent.
pub puts_no_log : (entry : Entry) (log log' : SinkState) (link : LinkState) → LogFails log log' (entry_line entry ++ 10 ∷ []) → PutsOut (Err Log) log log' link link (entry ∷ []) processed_nothing
puts_no_log entry log log' link fails = record {
  whole = [];
  rest = entry ∷ [];
  parted = refl;
  logged = fails;
  sent = inl (grows_none link.taken, refl);
  processes_input = processes_nothing link;
}

-- The link failed, and the rest was logged, up to an error of the log.
pub puts_rest : (r : Result (Unit {0}) Stop) (log mid log' : SinkState) (link link' : LinkState) (a b : List Entry) (h : LinkInput) → PutsOut (Err Link) log mid link link' a h → RestLogged r mid log' b
    → PutsOut r log log' link link' (a ++ b) h
unfolding fails_in_then
puts_rest (Ok _) log mid log' link link' a b h puts more = absurd more
puts_rest (Err Memory) log mid log' link link' a b h puts more = absurd more
puts_rest (Err Link) log mid log' link link' a b h puts more =
    let whole = whole_is a puts.whole puts.rest puts.parted puts.logged.0 in
    let Q : List ℕ → Type 0 = λ l. TakesPart link link' l in
    let R : List Entry → Type 0 = λ l. TakesPart link link' (sent_octets l) in
    record {
      whole = a ++ b;
      rest = [];
      parted = sym (append-nil (a ++ b));
      logged = (
        refl,
        grows_along log log' (log_lines a ++ log_lines b) (log_lines (a ++ b)) (sym (lines-append a b))
            (log_then log mid log' (log_lines a) (log_lines b) (grows_along log mid (log_lines puts.whole) (log_lines a) (ap log_lines whole) puts.logged.1) more),
      );
      sent = subst Q (sym (sent-append a b)) (takes_part_more link link' (sent_octets a) (sent_octets b) (subst R whole puts.sent));
      processes_input = puts.processes_input;
    }
puts_rest (Err Log) log mid log' link link' a b h puts more =
    let whole = whole_is a puts.whole puts.rest puts.parted puts.logged.0 in
    let all = fails_in_then log mid log' a b (grows_along log mid (log_lines puts.whole) (log_lines a) (ap log_lines whole) puts.logged.1) more in
    let Q : List ℕ → Type 0 = λ l. TakesPart link link' l in
    let R : List Entry → Type 0 = λ l. TakesPart link link' (sent_octets l) in
    record {
      whole = all.whole;
      rest = all.rest;
      parted = all.parted;
      logged = all.stops;
      sent = inr (subst Q (sym (sent-append a more.whole)) (takes_part_more link link' (sent_octets a) (sent_octets more.whole) (subst R whole puts.sent)));
      processes_input = puts.processes_input;
    }

pub puts_along : (r : Result (Unit {0}) Stop) (log log' : SinkState) (link link' : LinkState) (a b : List Entry) (h : LinkInput) → a ≡ b → PutsOut r log log' link link' a h → PutsOut r log log' link link' b h
puts_along r log log' link link' a b h e puts =
    record { whole = puts.whole; rest = puts.rest; parted = sym e ∙ puts.parted; logged = puts.logged; sent = puts.sent; processes_input = puts.processes_input }

pub taken_next : (xs : List Entry) (i : ℕ) (x : Entry) → i < length xs → x ≡ get_or xs i x → take (i + 1) xs ≡ take i xs ++ x ∷ []
taken_next xs i x below is =
    let next : suc i ≡ i + 1 = omega arith in
    let P : ℕ → Type 0 = λ k. take k xs ≡ take i xs ++ get_or xs i x ∷ [] in
    subst P next (take-suc xs i x below) ∙ ap (λ y. take i xs ++ y ∷ []) (sym is)

pub parted_at : (xs : List Entry) (i : ℕ) (x : Entry) → i < length xs → x ≡ get_or xs i x → (take i xs ++ x ∷ []) ++ drop (i + 1) xs ≡ xs
parted_at xs i x below is = ap (λ l. l ++ drop (i + 1) xs) (sym (taken_next xs i x below is)) ∙ take-append-drop (i + 1) xs

pub logs_then : (r : Result (Unit {0}) LogFault) (log mid log' : SinkState) (a b : List Entry) → LogsAll (Ok tt) log mid a → LogsAll r mid log' b → LogsAll r log log' (a ++ b)
logs_then (Ok _) log mid log' a b h k =
    grows_along log log' (log_lines a ++ log_lines b) (log_lines (a ++ b)) (sym (lines-append a b)) (log_then log mid log' (log_lines a) (log_lines b) h k)
logs_then (Err _) log mid log' a b h k = fails_in_then log mid log' a b h k

pub logs_first : (fault : LogFault) (log log' : SinkState) (a b : List Entry) → LogsAll (Err fault) log log' a → LogsAll (Err fault) log log' (a ++ b)
logs_first fault log log' a b h = fails_in_more log log' a b h

pub logs_along : (r : Result (Unit {0}) LogFault) (log log' : SinkState) (a b : List Entry) → a ≡ b → LogsAll r log log' a → LogsAll r log log' b
logs_along r log log' a b e h = let P : List Entry → Type 0 = λ l. LogsAll r log log' l in subst P e h

pub logs_none : (log : SinkState) → LogsAll (Ok tt) log log []
logs_none log = (grows_none log.written, refl)

-- An entry was logged, or the log failed in its line.
pub logs_one : (entry : Entry) (log log' : SinkState) → LogGrows log log' (entry_line entry ++ 10 ∷ []) → LogsAll (Ok tt) log log' (entry ∷ [])
logs_one entry log log' grows = grows_along log log' (entry_line entry ++ 10 ∷ []) (log_lines (entry ∷ [])) (sym (append-nil (entry_line entry ++ 10 ∷ []))) grows

-- The clock was read, and then entries were written.
unfoldable pub asked_then : (r : Result (Unit {0}) Stop) (log log' : SinkState) (link mid link' : LinkState) (now : ℕ) (a : List Entry) → Asks link mid now → PutsOut r log log' mid link' a processed_nothing → PutsOut r log log' link link' a (processed_time now)
asked_then r log log' link mid link' now a asks puts =
    puts_then r log log log' link mid link' [] a (processed_time now) processed_nothing (puts_processed log link mid (processed_time now) asks.reception asks.taken asks.failures) puts
