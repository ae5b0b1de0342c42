-- A log is what is emitted delivery by delivery.
use Rattle.std.proofs.Common.{◌≡◌, ◌<◌, ◌≤◌, ◌==◌, ◌++◌, ◌∷◌, ◌&&◌, ◌||◌, ◌+◌, ℕ, Bool, true, false, cond, nat_le, min, List, [], length, map, filter, flat_map, Option, Some, None, refl, sym, ap, subst, ◌∙◌, arith, inl, inr}
use Rattle.std.proofs.lemmas.Bool.{le-leb, lt-leb, cases_lt, eqb-false, eqb-true}
use Rattle.std.proofs.lemmas.List.{append-nil, append_assoc}
use Rattle.std.specs.Option.{option_map}
use Rattle.capture_tcp.specs.declared.packet.Side.{Side}
use Rattle.capture_tcp.specs.declared.streams.Due.{Due}
use Rattle.capture_tcp.specs.declared.events.EmitterState.{EmitterState}
use Rattle.capture_tcp.specs.declared.events.EmitterState.TheVariants as emitter_state
use Rattle.capture_tcp.specs.TcpStreams.{End, active, passive, other, Cell, syn, octet, fin, Placed, Turn, Both, left_of, with_left, Delivery, deliveries, acknowledges, is_open, is_before, breaks_off, turns, up_to_reset, emitted_turns, earlier, Shown, show, shows_of, both_streams}
use Rattle.capture_tcp.specs.Message.{message_size}
use Rattle.capture_tcp.specs.ConnectionEvents.{ConnectionEvent, up, message, down, Entry, entry, entry_of, shown_entries, reset_entries, is_separate, is_left_out, separated_by, up_to_down, answered_at, first_message, is_message, is_up, after_up, emits}
use Rattle.capture_tcp.specs.KnownStreams.{end_at}
use Rattle.capture_tcp.specs.Losses.{side_of}
use Rattle.capture_tcp.specs.EventSteps.{Processed, processes_input, comes_up, says, separated_side, cut_entries, cut_to}
use Rattle.capture_tcp.specs.DeliverySteps.{Log, answer_entries, answers, brought, by_ack, delivers, due_of, entries_at, opens, other_side, resets, emit_turns}
use Rattle.capture_tcp.specs.ReaderState.{AreRising, log_of}
use Rattle.capture_tcp.proofs.Awaited.{over_processes}
use Rattle.capture_tcp.proofs.Lists.{Each, each_append}
use Rattle.capture_tcp.proofs.LaterEvents.{submit_first, emitted_then}
use Rattle.capture_tcp.proofs.Slicing.{processes_append}
use Rattle.capture_tcp.proofs.DeliveredPackets.{Ordered, turns_ordered}

-- ---- all that is processed in sequence: that the connection is established, entries, and a reset

unfoldable pub signs : Bool → Both → List Turn → List Entry
signs o b [] = []
signs o b (t ∷ ts) =
    answer_entries (due_of t) ++ ((delivers (due_of t) b).entries
    ++ cond (resets o (due_of t)) (entry t.at.packet down ∷ []) (signs (o || opens (due_of t)) (delivers (due_of t) b).both ts))

pub processed_emitted : (s : EmitterState) (xs ys : List Entry) → (processes_input s (xs ++ ys)).emitted ≡ (processes_input s xs).emitted ++ (processes_input (processes_input s xs).state ys).emitted
processed_emitted s xs ys = ap (λ (h : Processed). h.emitted) (processes_append s xs ys)

pub emitted_signs : (s : EmitterState) (o : Bool) (b : Both) (ts : List Turn) → (emit_turns s o b (map due_of ts)).emitted ≡ (processes_input s (signs o b ts)).emitted
unfolding emit_turns processes_input signs
emitted_signs s o b [] = refl
emitted_signs s o b (t ∷ ts) =
    ap (λ (l : Log). l.emitted) (submit_first s o b (due_of t) (map due_of ts))
    ∙ by_reset (resets o (due_of t)) refl (λ u. emitted_signs u (o || opens (due_of t)) (delivers (due_of t) b).both ts)
  where
    a : List Entry
    a = answer_entries (due_of t)

    d : List Entry
    d = (delivers (due_of t) b).entries

    more : Bool
    more = o || opens (due_of t)

    both : Both
    both = (delivers (due_of t) b).both

    by_reset : (r : Bool) → resets o (due_of t) ≡ r → ((u : EmitterState) → (emit_turns u more both (map due_of ts)).emitted ≡ (processes_input u (signs more both ts)).emitted)
        → (emitted_then r (processes_input s (entries_at o (due_of t) b)).emitted (emit_turns (processes_input s (entries_at o (due_of t) b)).state more both (map due_of ts))).emitted
        ≡ (processes_input s (a ++ (d ++ cond r (entry t.at.packet down ∷ []) (signs more both ts)))).emitted
    by_reset true e later = rw e refl
    by_reset false e later =
        let here : entries_at o (due_of t) b ≡ a ++ d = rw e (ap (λ (z : List Entry). a ++ z) (append-nil d)) in
        ap (λ (z : List Entry). (processes_input s z).emitted ++ (emit_turns (processes_input s z).state more both (map due_of ts)).emitted) here
        ∙ ap (λ (z : List Entry). (processes_input s (a ++ d)).emitted ++ z) (later (processes_input s (a ++ d)).state)
        ∙ sym (processed_emitted s (a ++ d) (signs more both ts)) ∙ ap (λ (z : List Entry). (processes_input s z).emitted) (append_assoc a d (signs more both ts))

-- ---- those that do not say that it is established

no_ups : List Entry → List Entry
no_ups [] = []
no_ups (e ∷ es) = cond (is_up e.emitted) (no_ups es) (e ∷ no_ups es)

first_up : List Entry → Option ℕ
first_up [] = None
first_up (e ∷ es) = cond (is_up e.emitted) (Some e.packet) (first_up es)

abbrev Plain : List Entry → Type 0
Plain es = Each (λ (e : Entry). is_up e.emitted ≡ false) es

plain_ups : (es fs : List Entry) → Plain es → no_ups (es ++ fs) ≡ es ++ no_ups fs
unfolding no_ups
plain_ups [] fs h = refl
plain_ups (e ∷ es) fs h = rw h.0 (ap (λ (z : List Entry). e ∷ z) (plain_ups es fs h.1))

plain_first : (es fs : List Entry) → Plain es → first_up (es ++ fs) ≡ first_up fs
unfolding first_up
plain_first [] fs h = refl
plain_first (e ∷ es) fs h = rw h.0 (plain_first es fs h.1)

plain_cells : (d : End) (n : ℕ) (octets : List ℕ) (cs : List Cell) → Plain (entry_of d n octets cs)
plain_cells d n octets [] = (refl, tt)
plain_cells d n octets (syn ∷ cs) = tt
plain_cells d n octets (fin ∷ cs) = (refl, tt)
plain_cells d n octets (octet k ∷ cs) = plain_cells d n (octets ++ (k ∷ [])) cs

plain_cut : (d : End) (n : ℕ) (ms : List (List Cell)) → Plain (flat_map (λ m. entry_of d n [] m) ms)
plain_cut d n [] = tt
plain_cut d n (m ∷ ms) =
    each_append (λ (e : Entry). is_up e.emitted ≡ false) (entry_of d n [] m) (flat_map (λ m. entry_of d n [] m) ms) (plain_cells d n [] m) (plain_cut d n ms)

plain_ack : (t : Due) (o : Option ℕ) (b : Both) → Plain (by_ack t o b).entries
plain_ack t None b = tt
plain_ack t (Some n) b = plain_cut (end_at (other_side t.from)) t.at (cut_to n (left_of b (end_at (other_side t.from)))).messages

plain_turn : (t : Due) (b : Both) → Plain (delivers t b).entries
plain_turn t b =
    let c = (by_ack t t.packet.acknowledged b).both in
    each_append (λ (e : Entry). is_up e.emitted ≡ false) (by_ack t t.packet.acknowledged b).entries (brought t c).entries (plain_ack t t.packet.acknowledged b)
    (plain_cut (end_at t.from) t.at (cut_to t.packet.to (left_of c (end_at t.from))).messages)

-- ---- what is shown at a delivery

shown_map : (d : End) (at : Placed) (ms : List (List Cell)) (ss : List Shown)
    → shown_entries (map (λ m. record { of = d; cells = m; at = at }) ms ++ ss) ≡ flat_map (λ m. entry_of d at.packet [] m) ms ++ shown_entries ss
shown_map d at [] ss = refl
shown_map d at (m ∷ ms) ss =
    ap (λ (z : List Entry). entry_of d at.packet [] m ++ z) (shown_map d at ms ss)
    ∙ sym (append_assoc (entry_of d at.packet [] m) (flat_map (λ m. entry_of d at.packet [] m) ms) (shown_entries ss))

shown_one : (b : Both) (d : Delivery) (ds : List Delivery)
    → shown_entries (show message_size b (d ∷ ds))
    ≡ cut_entries d.of d.at.packet (cut_to d.upto (left_of b d.of)) ++ shown_entries (show message_size (with_left b d.of (cut_to d.upto (left_of b d.of)).left) ds)
unfolding show
shown_one b d ds = shown_map d.of d.at (cut_to d.upto (left_of b d.of)).messages (show message_size (with_left b d.of (cut_to d.upto (left_of b d.of)).left) ds)

abbrev Shows : Both → Turn → List Delivery → Type 0
Shows b t ds =
    shown_entries (show message_size b (deliveries t ++ ds)) ≡ (delivers (due_of t) b).entries ++ shown_entries (show message_size (delivers (due_of t) b).both ds)

abbrev pub turn_by : Placed → Placed → End → Option ℕ → Turn
turn_by at own e a = record { at = at; own = record own { from = e; acknowledged = a } }

abbrev delivery : End → ℕ → Placed → Delivery
delivery d n at = record { of = d; upto = n; at = at }

shown_two : (b : Both) (d e : End) (m n : ℕ) (at : Placed) (ds : List Delivery)
    → shown_entries (show message_size b (delivery d m at ∷ delivery e n at ∷ ds))
    ≡ (cut_entries d at.packet (cut_to m (left_of b d))
    ++ cut_entries e at.packet (cut_to n (left_of (with_left b d (cut_to m (left_of b d)).left) e)))
    ++ shown_entries (show message_size (with_left (with_left b d (cut_to m (left_of b d)).left) e (cut_to n (left_of (with_left b d (cut_to m (left_of b d)).left) e)).left) ds)
shown_two b d e m n at ds =
    let c = with_left b d (cut_to m (left_of b d)).left in
    let x = cut_entries d at.packet (cut_to m (left_of b d)) in
    let y = cut_entries e at.packet (cut_to n (left_of c e)) in
    let z = shown_entries (show message_size (with_left c e (cut_to n (left_of c e)).left) ds) in
    shown_one b (delivery d m at) (delivery e n at ∷ ds) ∙ ap (λ (es : List Entry). x ++ es) (shown_one c (delivery e n at) ds) ∙ sym (append_assoc x y z)

shown_turn : (b : Both) (at own : Placed) (e : End) (a : Option ℕ) (ds : List Delivery) → Shows b (turn_by at own e a) ds
shown_turn b at own active None ds = shown_one b (delivery active (own.place + length own.cells) at) ds
shown_turn b at own passive None ds = shown_one b (delivery passive (own.place + length own.cells) at) ds
shown_turn b at own active (Some n) ds = shown_two b passive active n (own.place + length own.cells) at ds
shown_turn b at own passive (Some n) ds = shown_two b active passive n (own.place + length own.cells) at ds

shown_is : (b : Both) (t : Turn) (ds : List Delivery) → Shows b t ds
shown_is b t ds = shown_turn b t.at t.own t.own.from t.own.acknowledged ds

-- ---- whether it answers, opens and resets

answers_by : (at own : Placed) (e : End) (a : Option ℕ) → answers (due_of (turn_by at own e a)) ≡ nat_le 1 (acknowledges passive (turn_by at own e a))
answers_by at own active None = refl
answers_by at own active (Some n) = refl
answers_by at own passive None = refl
answers_by at own passive (Some n) = refl

answers_is : (t : Turn) → answers (due_of t) ≡ nat_le 1 (acknowledges passive t)
answers_is t = answers_by t.at t.own t.own.from t.own.acknowledged

opens_by : (at own : Placed) (e : End) (a : Option ℕ) → opens (due_of (turn_by at own e a)) ≡ is_open (turn_by at own e a)
opens_by at own active None = refl
opens_by at own active (Some n) = refl
opens_by at own passive None = refl
opens_by at own passive (Some n) = refl

opens_is : (t : Turn) → opens (due_of t) ≡ is_open t
opens_is t = opens_by t.at t.own t.own.from t.own.acknowledged

resets_is : (o : Bool) (t : Turn) → resets o (due_of t) ≡ (t.own.reset && (o || is_open t))
resets_is o t = ap (λ (x : Bool). t.own.reset && (o || x)) (opens_is t)

no_answer_ups : (x : Bool) (n : ℕ) (ys : List Entry) → no_ups (cond x (entry n up ∷ []) [] ++ ys) ≡ no_ups ys
unfolding no_ups
no_answer_ups true n ys = refl
no_answer_ups false n ys = refl

signs_rest : (o : Bool) (b : Both) (ts : List Turn)
    → no_ups (signs o b ts) ≡ shown_entries (show message_size b (flat_map deliveries (up_to_reset o ts))) ++ reset_entries o (up_to_reset o ts)
unfolding signs no_ups show
signs_rest o b [] = refl
signs_rest o b (t ∷ ts) =
    no_answer_ups (answers (due_of t)) t.at.packet (d ++ cond (resets o (due_of t)) (entry t.at.packet down ∷ []) (signs more both ts))
    ∙ plain_ups d (cond (resets o (due_of t)) (entry t.at.packet down ∷ []) (signs more both ts)) (plain_turn (due_of t) b)
    ∙ by_reset (resets o (due_of t)) (t.own.reset && (o || is_open t)) (resets_is o t) refl (signs_rest more both ts)
  where
    d : List Entry
    d = (delivers (due_of t) b).entries

    more : Bool
    more = o || opens (due_of t)

    both : Both
    both = (delivers (due_of t) b).both

    opened : more ≡ (o || is_open t)
    opened = ap (λ (x : Bool). o || x) (opens_is t)

    by_reset : (r s : Bool) → r ≡ s → (t.own.reset && (o || is_open t)) ≡ s
        → no_ups (signs more both ts) ≡ shown_entries (show message_size both (flat_map deliveries (up_to_reset more ts))) ++ reset_entries more (up_to_reset more ts)
        → d ++ no_ups (cond r (entry t.at.packet down ∷ []) (signs more both ts))
        ≡ shown_entries (show message_size b (flat_map deliveries (cond s (t ∷ []) (t ∷ up_to_reset (o || is_open t) ts)))) ++ reset_entries o (cond s (t ∷ []) (t ∷ up_to_reset (o || is_open t) ts))
    by_reset true true e f later = rw f (ap (λ (es : List Entry). es ++ (entry t.at.packet down ∷ [])) (sym (shown_is b t [] ∙ append-nil d)))
    by_reset false false e f later =
        let us = up_to_reset (o || is_open t) ts in
        rw f (ap (λ (es : List Entry). d ++ es) (later ∙ ap (λ (x : Bool). shown_entries (show message_size both (flat_map deliveries (up_to_reset x ts))) ++ reset_entries x (up_to_reset x ts)) opened)
        ∙ sym (append_assoc d (shown_entries (show message_size both (flat_map deliveries us))) (reset_entries (o || is_open t) us))
        ∙ ap (λ (es : List Entry). es ++ reset_entries (o || is_open t) us) (sym (shown_is b t (flat_map deliveries us))))
    by_reset true false e f later = absurd cc
    by_reset false true e f later = absurd cc

answered_here : (t : Turn) (us : List Turn) → nat_le 1 (acknowledges passive t) ≡ true → answered_at (t ∷ us) ≡ Some t.at.packet
answered_here t us e = rw e refl

answered_skip : (t : Turn) (us : List Turn) → nat_le 1 (acknowledges passive t) ≡ false → answered_at (t ∷ us) ≡ answered_at us
answered_skip t us e = rw e refl

signs_up : (o : Bool) (b : Both) (ts : List Turn) → first_up (signs o b ts) ≡ answered_at (up_to_reset o ts)
unfolding signs first_up
signs_up o b [] = refl
signs_up o b (t ∷ ts) =
    by_answer (answers (due_of t)) (resets o (due_of t)) (answers_is t) (sym (resets_is o t))
    (signs_up more both ts ∙ ap (λ (x : Bool). answered_at (up_to_reset x ts)) (ap (λ (x : Bool). o || x) (opens_is t)))
  where
    d : List Entry
    d = (delivers (due_of t) b).entries

    more : Bool
    more = o || opens (due_of t)

    both : Both
    both = (delivers (due_of t) b).both

    by_answer : (x r : Bool) → x ≡ nat_le 1 (acknowledges passive t) → (t.own.reset && (o || is_open t)) ≡ r
        → first_up (signs more both ts) ≡ answered_at (up_to_reset (o || is_open t) ts)
        → first_up (cond x (entry t.at.packet up ∷ []) [] ++ (d ++ cond r (entry t.at.packet down ∷ []) (signs more both ts)))
        ≡ answered_at (cond (t.own.reset && (o || is_open t)) (t ∷ []) (t ∷ up_to_reset (o || is_open t) ts))
    by_answer true true e f later = rw f (sym (answered_here t [] (sym e)))
    by_answer true false e f later = rw f (sym (answered_here t (up_to_reset (o || is_open t) ts) (sym e)))
    by_answer false true e f later = rw f (plain_first d (entry t.at.packet down ∷ []) (plain_turn (due_of t) b) ∙ sym (answered_skip t [] (sym e)))
    by_answer false false e f later =
        rw f (plain_first d (signs more both ts) (plain_turn (due_of t) b) ∙ later ∙ sym (answered_skip t (up_to_reset (o || is_open t) ts) (sym e)))

-- ---- a reset is no message

pub append_message : (xs ys : List Entry) → first_message ys ≡ None → first_message (xs ++ ys) ≡ first_message xs
append_message [] ys e = e
append_message (x ∷ xs) ys e = ap (λ (o : Option ℕ). cond (is_message x.emitted) (Some x.packet) o) (append_message xs ys e)

pub no_message : (o : Bool) (ts : List Turn) → first_message (reset_entries o ts) ≡ None
no_message o [] = refl
no_message o (t ∷ ts) = by_reset (t.own.reset && (o || is_open t)) (no_message (o || is_open t) ts)
  where
    by_reset : (r : Bool) → first_message (reset_entries (o || is_open t) ts) ≡ None
        → first_message (cond r (entry t.at.packet down ∷ []) (reset_entries (o || is_open t) ts)) ≡ None
    by_reset true later = refl
    by_reset false later = later

-- ---- their packets increase

abbrev pub Rise : ℕ → List Entry → Type 0
Rise m [] = Unit {0}
Rise m (e ∷ es) = (m ≤ e.packet) × Rise e.packet es

pub rise_lower : (m n : ℕ) (es : List Entry) → m ≤ n → Rise n es → Rise m es
rise_lower m n [] le h = tt
rise_lower m n (e ∷ es) le h = (omega (arith, le, h.0), h.1)

abbrev AllAt : ℕ → List Entry → Type 0
AllAt n es = Each (λ (e : Entry). e.packet ≡ n) es

rise_at : (n : ℕ) (xs ys : List Entry) → AllAt n xs → Rise n ys → Rise n (xs ++ ys)
rise_at n [] ys h r = r
rise_at n (x ∷ xs) ys h r = let e = h.0 in (omega (arith, e), subst (λ (k : ℕ). Rise k (xs ++ ys)) (sym e) (rise_at n xs ys h.1 r))

pub at_cells : (d : End) (n : ℕ) (octets : List ℕ) (cs : List Cell) → AllAt n (entry_of d n octets cs)
at_cells d n octets [] = (refl, tt)
at_cells d n octets (syn ∷ cs) = tt
at_cells d n octets (fin ∷ cs) = (refl, tt)
at_cells d n octets (octet k ∷ cs) = at_cells d n (octets ++ (k ∷ [])) cs

at_cut : (d : End) (n : ℕ) (ms : List (List Cell)) → AllAt n (flat_map (λ m. entry_of d n [] m) ms)
at_cut d n [] = tt
at_cut d n (m ∷ ms) = each_append (λ (e : Entry). e.packet ≡ n) (entry_of d n [] m) (flat_map (λ m. entry_of d n [] m) ms) (at_cells d n [] m) (at_cut d n ms)

at_ack : (t : Due) (o : Option ℕ) (b : Both) → AllAt t.at (by_ack t o b).entries
at_ack t None b = tt
at_ack t (Some n) b = at_cut (end_at (other_side t.from)) t.at (cut_to n (left_of b (end_at (other_side t.from)))).messages

at_turn : (t : Due) (b : Both) → AllAt t.at (delivers t b).entries
at_turn t b =
    let c = (by_ack t t.packet.acknowledged b).both in
    each_append (λ (e : Entry). e.packet ≡ t.at) (by_ack t t.packet.acknowledged b).entries (brought t c).entries (at_ack t t.packet.acknowledged b)
    (at_cut (end_at t.from) t.at (cut_to t.packet.to (left_of c (end_at t.from))).messages)

at_answer : (x : Bool) (n : ℕ) → AllAt n (cond x (entry n up ∷ []) [])
at_answer true n = (refl, tt)
at_answer false n = tt

signs_rise : (m : ℕ) (o : Bool) (b : Both) (ts : List Turn) → Ordered ts → Each (λ (t : Turn). m ≤ t.at.packet) ts → Rise m (signs o b ts)
unfolding signs
signs_rise m o b [] h e = tt
signs_rise m o b (t ∷ ts) h e =
    let n = t.at.packet in
    let d = (delivers (due_of t) b).entries in
    let later = signs_rise n (o || opens (due_of t)) (delivers (due_of t) b).both ts h.1 h.0 in
    rise_lower m n (answer_entries (due_of t) ++ (d ++ cond (resets o (due_of t)) (entry n down ∷ []) (signs (o || opens (due_of t)) (delivers (due_of t) b).both ts))) e.0
    (rise_at n (answer_entries (due_of t)) (d ++ cond (resets o (due_of t)) (entry n down ∷ []) (signs (o || opens (due_of t)) (delivers (due_of t) b).both ts)) (at_answer (answers (due_of t)) n)
    (rise_at n d (cond (resets o (due_of t)) (entry n down ∷ []) (signs (o || opens (due_of t)) (delivers (due_of t) b).both ts)) (at_turn (due_of t) b) (by_reset (resets o (due_of t)) later)))
  where
    by_reset : (r : Bool) → Rise t.at.packet (signs (o || opens (due_of t)) (delivers (due_of t) b).both ts)
        → Rise t.at.packet (cond r (entry t.at.packet down ∷ []) (signs (o || opens (due_of t)) (delivers (due_of t) b).both ts))
    by_reset true later = (omega arith, tt)
    by_reset false later = later

-- ---- once it is established

side_same : (d : End) → end_at (side_of d) ≡ d
side_same active = refl
side_same passive = refl

separated_same : (s : Option Side) (d : End) (b : Bool) → option_map end_at (separated_side s (side_of d) b) ≡ separated_by (option_map end_at s) d b
separated_same None d true = ap (λ (e : End). Some e) (side_same d)
separated_same None d false = refl
separated_same (Some s) d b = refl

running : (es : List Entry) (s : Option Side) → (processes_input (emitter_state.Running s) es).emitted ≡ up_to_down (no_ups es) (option_map end_at s)
unfolding processes_input no_ups
running [] s = refl
running (e ∷ es) s = by_emitted e.packet e.emitted (λ u. running es u)
  where
    by_message : (n : ℕ) (d : End) (octets : List ℕ) (b : Bool) → is_left_out (option_map end_at s) d ≡ b
        → ((u : Option Side) → (processes_input (emitter_state.Running u) es).emitted ≡ up_to_down (no_ups es) (option_map end_at u))
        → (processes_input (emitter_state.Running s) (entry n (message d octets) ∷ es)).emitted
        ≡ cond b (up_to_down (no_ups es) (option_map end_at s)) (entry n (message d octets) ∷ up_to_down (no_ups es) (separated_by (option_map end_at s) d (is_separate octets)))
    by_message n d octets true f later = rw (side_same d, f) (later s)
    by_message n d octets false f later =
        rw (side_same d, f) (ap (λ (z : List Entry). entry n (message d octets) ∷ z)
        (later (separated_side s (side_of d) (is_separate octets)) ∙ ap (up_to_down (no_ups es)) (separated_same s d (is_separate octets))))

    by_emitted : (n : ℕ) (t : ConnectionEvent) → ((u : Option Side) → (processes_input (emitter_state.Running u) es).emitted ≡ up_to_down (no_ups es) (option_map end_at u))
        → (processes_input (emitter_state.Running s) (entry n t ∷ es)).emitted ≡ up_to_down (no_ups (entry n t ∷ es)) (option_map end_at s)
    by_emitted n up later = later s
    by_emitted n (message d octets) later = by_message n d octets (is_left_out (option_map end_at s) d) refl later
    by_emitted n down later = ap (λ (h : Processed). entry n down ∷ h.emitted) (over_processes es)

-- ---- before it is established

later_up : (n : ℕ) (es : List Entry) (j : ℕ) → Rise n es → first_up es ≡ Some j → n ≤ j
unfolding first_up
later_up n [] j r e = absurd cc
later_up n (x ∷ es) j r e = by_up (is_up x.emitted) e (later_up n es j (rise_lower n x.packet es r.0 r.1))
  where
    by_up : (b : Bool) → cond b (Some x.packet) (first_up es) ≡ Some j → (first_up es ≡ Some j → n ≤ j) → n ≤ j
    by_up true f later = let same : x.packet ≡ j = cc in let le = r.0 in omega (arith, same, le)
    by_up false f later = later f

later_message : (n : ℕ) (es : List Entry) (j : ℕ) → Rise n es → first_message (no_ups es) ≡ Some j → n ≤ j
unfolding no_ups
later_message n [] j r e = absurd cc
later_message n (x ∷ es) j r e = by_emitted x.emitted e (later_message n es j (rise_lower n x.packet es r.0 r.1))
  where
    le : n ≤ x.packet
    le = r.0

    by_emitted : (t : ConnectionEvent) → first_message (cond (is_up t) (no_ups es) (entry x.packet t ∷ no_ups es)) ≡ Some j → (first_message (no_ups es) ≡ Some j → n ≤ j) → n ≤ j
    by_emitted up f later = later f
    by_emitted (message d octets) f later = let same : x.packet ≡ j = cc in omega (arith, same, le)
    by_emitted down f later = later f

earlier_least : (n : ℕ) (a b : Option ℕ) (j : ℕ) → ((k : ℕ) → a ≡ Some k → n ≤ k) → ((k : ℕ) → b ≡ Some k → n ≤ k) → earlier a b ≡ Some j → n ≤ j
earlier_least n None b j f g e = g j e
earlier_least n (Some a) None j f g e = f j e
earlier_least n (Some a) (Some b) j f g e =
    let x = f a refl in
    let y = g b refl in
    let same : min a b ≡ j = cc in
    omega (arith, x, y, same)

first_at : (n : ℕ) (b : Option ℕ) → ((k : ℕ) → b ≡ Some k → n ≤ k) → earlier (Some n) b ≡ Some n
first_at n None g = refl
first_at n (Some k) g = let le = g k refl in let same : min n k ≡ n = omega (arith, le) in rw same refl

last_at : (n : ℕ) (a : Option ℕ) → ((k : ℕ) → a ≡ Some k → n ≤ k) → earlier a (Some n) ≡ Some n
last_at n None g = refl
last_at n (Some k) g = let le = g k refl in let same : min k n ≡ n = omega (arith, le) in rw same refl

abbrev pub from : ℕ → List Entry → List Entry
from k es = filter (λ (e : Entry). nat_le k e.packet) es

all_from : (n : ℕ) (es : List Entry) → Rise n es → from n (no_ups es) ≡ no_ups es
unfolding no_ups
all_from n [] r = refl
all_from n (x ∷ es) r = by_up (is_up x.emitted) (all_from n es (rise_lower n x.packet es r.0 r.1))
  where
    by_up : (b : Bool) → from n (no_ups es) ≡ no_ups es → from n (cond b (no_ups es) (x ∷ no_ups es)) ≡ cond b (no_ups es) (x ∷ no_ups es)
    by_up true later = later
    by_up false later = rw (le-leb n x.packet r.0) (ap (λ (z : List Entry). x ∷ z) later)

from_first : (n : ℕ) (t : ConnectionEvent) (es : List Entry) → from n es ≡ es → from n (entry n t ∷ es) ≡ entry n t ∷ es
from_first n t es e = rw (le-leb n n (omega arith)) (ap (λ (z : List Entry). entry n t ∷ z) e)

abbrev early_list : Option ℕ → List Entry
early_list None = []
early_list (Some n) = entry n down ∷ []

abbrev IsEarly : Option ℕ → ℕ → Type 0
IsEarly None n = Unit {0}
IsEarly (Some m) n = m ≤ n

-- An end at or before the packet of another end is treated as that one.
early_skipped : (early : Option ℕ) (n : ℕ) (k : Option ℕ) (es : List Entry) → IsEarly early n → ((j : ℕ) → k ≡ Some j → n ≤ j)
    → after_up k (entry n down ∷ es) ≡ after_up k (early_list early ++ (entry n down ∷ es))
early_skipped None n k es h low = refl
early_skipped (Some m) n None es h low = refl
early_skipped (Some m) n (Some j) es h low =
    elim (cases_lt m j) [
      | inl lt ↦ rw (lt-leb j m lt) refl
      | inr ge ↦
          let le = low j refl in
          let same : m ≡ n = omega (arith, ge, le, h) in
          rw (same, le-leb j n (omega (arith, ge, h))) refl
    ]

-- What establishes the connection by a message or an ACK. Everything then continues as once it is established.
comes : (early : Option ℕ) (n : ℕ) (es : List Entry) (proceeds : EmitterState → List Entry) → IsEarly early n → proceeds emitter_state.Over ≡ [] → proceeds (emitter_state.Running None) ≡ up_to_down (from n es) None
    → (comes_up (emitter_state.Waiting early) n).emitted ++ proceeds (comes_up (emitter_state.Waiting early) n).state ≡ entry n up ∷ up_to_down (from n (early_list early ++ es)) None
comes None n es proceeds h over runs = ap (λ (z : List Entry). entry n up ∷ z) runs
comes (Some m) n es proceeds h over runs = by_test (m == n) refl
  where
    lesser : (m ≡ n → ⊥) → m < n
    lesser other = elim (cases_lt m n) [
      | inl lt ↦ lt
      | inr ge ↦ absurd (other (omega (arith, ge, h)))
    ]

    by_test : (b : Bool) → (m == n) ≡ b
        → (cond {A = Processed} b (record { state = emitter_state.Over; emitted = entry n up ∷ entry n down ∷ [] }) (record { state = emitter_state.Running None; emitted = entry n up ∷ [] })).emitted
        ++ proceeds (cond {A = Processed} b (record { state = emitter_state.Over; emitted = entry n up ∷ entry n down ∷ [] }) (record { state = emitter_state.Running None; emitted = entry n up ∷ [] })).state
        ≡ entry n up ∷ up_to_down (from n (entry m down ∷ es)) None
    by_test true e =
        let same : m ≡ n = eqb-true m n e in
        rw (over, same, le-leb n n (omega arith)) refl
    by_test false e =
        let lt : m < n = lesser (eqb-false m n e) in
        rw (lt-leb n m lt) (ap (λ (z : List Entry). entry n up ∷ z) runs)

emitted_log : (es : List Entry) (early : Option ℕ) (m : ℕ) → Rise m es → IsEarly early m
    → (processes_input (emitter_state.Waiting early) es).emitted ≡ after_up (earlier (first_up es) (first_message (no_ups es))) (early_list early ++ no_ups es)
unfolding processes_input no_ups first_up
emitted_log [] early m r h = refl
emitted_log (e ∷ es) early m r h = by_emitted e.packet e.emitted r.1 (raise early r.0 h) (λ o k f g. emitted_log es o k f g)
  where
    raise : (o : Option ℕ) → m ≤ e.packet → IsEarly o m → IsEarly o e.packet
    raise None le h = tt
    raise (Some k) le h = omega (arith, le, h)

    by_emitted : (n : ℕ) (t : ConnectionEvent) → Rise n es → IsEarly early n
        → ((o : Option ℕ) (k : ℕ) → Rise k es → IsEarly o k
        → (processes_input (emitter_state.Waiting o) es).emitted ≡ after_up (earlier (first_up es) (first_message (no_ups es))) (early_list o ++ no_ups es))
        → (processes_input (emitter_state.Waiting early) (entry n t ∷ es)).emitted
        ≡ after_up (earlier (first_up (entry n t ∷ es)) (first_message (no_ups (entry n t ∷ es)))) (early_list early ++ no_ups (entry n t ∷ es))
    by_emitted n up r h later =
        comes early n (no_ups es) (λ s. (processes_input s es).emitted) h (ap (λ (z : Processed). z.emitted) (over_processes es))
        (running es None ∙ ap (λ (z : List Entry). up_to_down z None) (sym (all_from n es r)))
        ∙ ap (λ (k : Option ℕ). after_up k (early_list early ++ no_ups es)) (sym (first_at n (first_message (no_ups es)) (λ k f. later_message n es k r f)))
    by_emitted n (message d octets) r h later =
        append_assoc (comes_up (emitter_state.Waiting early) n).emitted (says (comes_up (emitter_state.Waiting early) n).state n (side_of d) octets).emitted
        (processes_input (says (comes_up (emitter_state.Waiting early) n).state n (side_of d) octets).state es).emitted
        ∙ comes early n (entry n (message d octets) ∷ no_ups es)
        (λ s. (says s n (side_of d) octets).emitted ++ (processes_input (says s n (side_of d) octets).state es).emitted) h (ap (λ (z : Processed). z.emitted) (over_processes es))
        (running (entry n (message d octets) ∷ es) None
        ∙ ap (λ (z : List Entry). up_to_down z None) (sym (from_first n (message d octets) (no_ups es) (all_from n es r))))
        ∙ ap (λ (k : Option ℕ). after_up k (early_list early ++ (entry n (message d octets) ∷ no_ups es))) (sym (last_at n (first_up es) (λ k f. later_up n es k r f)))
    by_emitted n down r h later =
        later (Some n) n r (omega arith)
        ∙ early_skipped early n (earlier (first_up es) (first_message (no_ups es))) (no_ups es) h
        (λ j f. earlier_least n (first_up es) (first_message (no_ups es)) j (λ k g. later_up n es k r g) (λ k g. later_message n es k r g) f)

-- ---- all of it

kept_ordered : (o : Option ℕ) (ts : List Turn) → Ordered ts → Ordered (filter (is_before o) ts)
kept_ordered o [] h = tt
kept_ordered o (t ∷ ts) h = by_test (is_before o t) (kept_ordered o ts h.1) (kept_each ts h.0)
  where
    kept_each : (us : List Turn) → Each (λ (u : Turn). t.at.packet ≤ u.at.packet) us → Each (λ (u : Turn). t.at.packet ≤ u.at.packet) (filter (is_before o) us)
    kept_each [] g = tt
    kept_each (u ∷ us) g = by_one (is_before o u) (kept_each us g.1)
      where
        by_one : (b : Bool) → Each (λ (u : Turn). t.at.packet ≤ u.at.packet) (filter (is_before o) us)
            → Each (λ (u : Turn). t.at.packet ≤ u.at.packet) (cond b (u ∷ filter (is_before o) us) (filter (is_before o) us))
        by_one true later = (g.0, later)
        by_one false later = later

    by_test : (b : Bool) → Ordered (filter (is_before o) ts) → Each (λ (u : Turn). t.at.packet ≤ u.at.packet) (filter (is_before o) ts)
        → Ordered (cond b (t ∷ filter (is_before o) ts) (filter (is_before o) ts))
    by_test true later each = (each, later)
    by_test false later each = later

each_zero : (ts : List Turn) → Each (λ (t : Turn). 0 ≤ t.at.packet) ts
each_zero [] = tt
each_zero (t ∷ ts) = (omega arith, each_zero ts)

pub emits_all : (ps : List Placed) → AreRising 0 ps → (log_of ps).emitted ≡ emits ps
emits_all ps h =
    let kept = filter (is_before (breaks_off ps)) (turns [] ps) in
    let b = both_streams ps in
    let s = signs false b kept in
    let ts = emitted_turns ps in
    let es = shown_entries (shows_of message_size ps) in
    let rest : no_ups s ≡ es ++ reset_entries false ts = signs_rest false b kept in
    let rise = signs_rise 0 false b kept (kept_ordered (breaks_off ps) (turns [] ps) (turns_ordered 0 [] ps h)) (each_zero kept) in
    emitted_signs (emitter_state.Waiting None) false b kept ∙ emitted_log s None 0 rise tt
    ∙ ap (λ (o : Option ℕ). after_up (earlier o (first_message (no_ups s))) (no_ups s)) (signs_up false b kept)
    ∙ ap (λ (z : List Entry). after_up (earlier (answered_at ts) (first_message z)) z) rest
    ∙ ap (λ (o : Option ℕ). after_up (earlier (answered_at ts) o) (es ++ reset_entries false ts)) (append_message es (reset_entries false ts) (no_message false ts))

-- ---- and its packets increase

rise_no_ups : (m : ℕ) (es : List Entry) → Rise m es → Rise m (no_ups es)
unfolding no_ups
rise_no_ups m [] h = tt
rise_no_ups m (e ∷ es) h = by_up (is_up e.emitted) (rise_no_ups e.packet es h.1)
  where
    by_up : (b : Bool) → Rise e.packet (no_ups es) → Rise m (cond b (no_ups es) (e ∷ no_ups es))
    by_up true later = rise_lower m e.packet (no_ups es) h.0 later
    by_up false later = (h.0, later)

pub entries_rise : (ps : List Placed) → AreRising 0 ps → Rise 0 (shown_entries (shows_of message_size ps) ++ reset_entries false (emitted_turns ps))
entries_rise ps h =
    let kept = filter (is_before (breaks_off ps)) (turns [] ps) in
    let b = both_streams ps in
    let s = signs false b kept in
    let rise = signs_rise 0 false b kept (kept_ordered (breaks_off ps) (turns [] ps) (turns_ordered 0 [] ps h)) (each_zero kept) in
    subst (Rise 0) (signs_rest false b kept) (rise_no_ups 0 s rise)
