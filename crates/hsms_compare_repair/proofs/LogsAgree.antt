-- Two logs that agree with what may follow them.
use Rattle.std.proofs.Common.{◌≡◌, ◌∙◌, ◌<◌, ◌≤◌, ◌+◌, ◌-◌, ◌⊎◌, ℕ, zero, suc, List, [], ◌∷◌, ◌++◌, length, map, take, drop, replicate, Bool, true, false, refl, sym, ap, subst, inl, inr, append_assoc, arith}
use Rattle.std.specs.Prelude.{IsTrue, if◌then◌else◌, ◌==◌, Option, None}
use Rattle.std.proofs.lemmas.List.{length-append, length-map, length-replicate, take-append-drop, take_at, take_all, take-append-le, take-map, map-append, get_or_append_left, get_or_push, get_or-map, get_or-take, length-take, take-take}
use Rattle.std.proofs.lemmas.Bool.{cases_lt, ne_eqb}
use Rattle.hsms_frame.specs.Frame.{Frame}
use Rattle.hsms_machine.specs.declared.entry.Entry.{Entry}
use Rattle.hsms_machine.specs.declared.entry.Event.TheVariants.{Up}
use Rattle.hsms_machine.specs.Entry.{entry_at}
use Rattle.hsms_compare.specs.Conversation.{Agree, IsDelivered, IsPrefix, Line, entries, received, received_by, sent, sent_by}
use Rattle.hsms_compare.specs.declared.contradiction.Contradiction.{Contradiction}
use Rattle.hsms_compare.specs.Agreement.{CanAgree, FirstContradiction, MayHave}
use Rattle.hsms_compare.specs.LineContradiction.{number_at}
use Rattle.hsms_compare.specs.Merge.{line_at as entry_line}
use Rattle.hsms_compare.proofs.Histories.{agree_along, agree-delivered, agree-swap, received-append, sent-append}
use Rattle.hsms_compare.proofs.Merges.{sends_cases}
use Rattle.hsms_compare.proofs.OpenLogs.{agree_iff}
use Rattle.hsms_compare.proofs.Outcomes.{receives_cases}
use Rattle.hsms_compare_repair.specs.declared.numbered_frame.NumberedFrame.{NumberedFrame}
use Rattle.hsms_compare_repair.specs.declared.fact.Fact.{Fact}
use Rattle.hsms_compare_repair.specs.Findings.{frame_at, no_frame}
use Rattle.hsms_compare_repair.specs.Facts.{AreFacts, IsShown, line_at}
use Rattle.hsms_compare_repair.specs.Laws.{AreLater, MayAgree, frames}
use Rattle.hsms_compare_repair.specs.Logs.{HasLineNumbers, numbered_frame, received_of, sent_of}
use Rattle.hsms_compare_repair.proofs.OneFinding.{one_list}
use Rattle.hsms_compare_repair.proofs.OnlyLater.{only_later}
use Rattle.hsms_compare_repair.proofs.Straight.{all_found, straight}

-- ---- the entries of a log, in a history

-- Each entry of the second log that receives a frame comes after as many sent ones of the first log, and those have
-- received no more than was sent before it.
abbrev pub IsAfter : List Entry → List Entry → ℕ → Type 0
IsAfter a b j =
    (i : ℕ) × (i ≤ length a) × (length (received (take j b)) < length (sent (take i a))) × (length (received (take i a)) ≤ length (sent (take j b)))

abbrev pub AreAfter : List Entry → List Entry → Type 0
AreAfter a b =
    (length (received a) ≤ length (sent b))
    × ((j : ℕ) (frame : Frame) → j < length b → received_by (entry_at b j).event ≡ frame ∷ [] → IsAfter a b j)

after-none : AreAfter [] []
after-none = (omega arith, λ j frame lt is. absurd (omega arith))

delivered-length : (sender receiver : List Entry) → IsDelivered sender receiver → length (received receiver) ≤ length (sent sender)
delivered-length sender receiver (rest, e) =
    let n = ap length e in omega (arith, n, length-append (received receiver) rest)

after-host : (a b : List Entry) (e : Entry) → AreAfter a b → IsDelivered b (a ++ e ∷ []) → AreAfter (a ++ e ∷ []) b
after-host a b e h d = (
  delivered-length b (a ++ e ∷ []) d,
  λ j frame lt is.
      (let x = h.1 j frame lt is in
      let t : take x.0 (a ++ e ∷ []) ≡ take x.0 a = take-append-le x.0 a (e ∷ []) x.1 in
      let s = ap (λ (l : List Entry). length (sent l)) t in
      let r = ap (λ (l : List Entry). length (received l)) t in
      let n = length-append a (e ∷ []) in
      (x.0, omega (arith, n, x.1), omega (arith, s, x.2), omega (arith, r, x.3))),
)

after-equipment : (a b : List Entry) (e : Entry) → AreAfter a b → IsDelivered a (b ++ e ∷ []) → AreAfter a (b ++ e ∷ [])
after-equipment a b e h d =
    let sent_so : length (sent (b ++ e ∷ [])) ≡ length (sent b) + length (sent (e ∷ [])) = ap length (sent-append b (e ∷ [])) ∙ length-append (sent b) (sent (e ∷ [])) in (
      omega (arith, sent_so, h.0),
      λ j frame lt is.
          elim (cases_lt j (length b)) [
            | inl within ↦
                (let t : take j (b ++ e ∷ []) ≡ take j b = take-append-le j b (e ∷ []) (omega arith) in
                let at : entry_at (b ++ e ∷ []) j ≡ entry_at b j = get_or_append_left b (e ∷ []) (record { time = 0; event = Up }) j within in
                let x = h.1 j frame within (ap (λ (y : Entry). received_by y.event) (sym at) ∙ is) in
                let s = ap (λ (l : List Entry). length (sent l)) t in
                let r = ap (λ (l : List Entry). length (received l)) t in
                (x.0, x.1, omega (arith, r, x.2), omega (arith, s, x.3)))
            | inr beyond ↦
                (let n = length-append b (e ∷ []) in
                let j_is : length b ≡ j = omega (arith, n, lt, beyond) in
                let t : take j (b ++ e ∷ []) ≡ b = take_at b (e ∷ []) j j_is in
                let at : entry_at (b ++ e ∷ []) j ≡ e = get_or_push b e (record { time = 0; event = Up }) j j_is in
                let one : received_by e.event ≡ frame ∷ [] = ap (λ (y : Entry). received_by y.event) (sym at) ∙ is in
                let all : length (received (b ++ e ∷ [])) ≡ length (received b) + length (received (e ∷ [])) = ap length (received-append b (e ∷ [])) ∙ length-append (received b) (received (e ∷ [])) in
                let last : length (received (e ∷ [])) ≡ 1 = ap (λ (x : List Frame). length (x ++ [])) one in
                let few = delivered-length a (b ++ e ∷ []) d in
                let s = ap (λ (l : List Entry). length (sent l)) t in
                let r = ap (λ (l : List Entry). length (received l)) t in
                let w = take_all (length a) a (omega arith) in
                let ws = ap (λ (l : List Entry). length (sent l)) w in
                let wr = ap (λ (l : List Entry). length (received l)) w in
                (length a, omega arith, omega (arith, r, ws, all, last, few), omega (arith, s, wr, h.0)))
          ],
    )

pub all_after : (a b : List Entry) → Agree a b → AreAfter a b
all_after a b g = agree_along AreAfter after-none after-host after-equipment a b g

-- ---- frames with their lines

frames-numbered : (line : ℕ) (xs : List Frame) → frames (map (numbered_frame line) xs) ≡ xs
frames-numbered line [] = refl
frames-numbered line (x ∷ xs) = ap (λ y. x ∷ y) (frames-numbered line xs)

pub frames-sent : (lines : List Line) → frames (sent_of lines) ≡ sent (entries lines)
frames-sent [] = refl
frames-sent (line ∷ lines) =
    map-append (λ (one : NumberedFrame). one.frame) (map (numbered_frame line.position) (sent_by line.entry.event)) (sent_of lines)
    ∙ ap (λ x. x ++ frames (sent_of lines)) (frames-numbered line.position (sent_by line.entry.event))
    ∙ ap (λ x. sent_by line.entry.event ++ x) (frames-sent lines)

pub frames-received : (lines : List Line) → frames (received_of lines) ≡ received (entries lines)
frames-received [] = refl
frames-received (line ∷ lines) =
    map-append (λ (one : NumberedFrame). one.frame) (map (numbered_frame line.position) (received_by line.entry.event)) (received_of lines)
    ∙ ap (λ x. x ++ frames (received_of lines)) (frames-numbered line.position (received_by line.entry.event))
    ∙ ap (λ x. received_by line.entry.event ++ x) (frames-received lines)

length-sent : (lines : List Line) → length (sent_of lines) ≡ length (sent (entries lines))
length-sent lines = sym (length-map (sent_of lines) (λ (one : NumberedFrame). one.frame)) ∙ ap length (frames-sent lines)

length-received : (lines : List Line) → length (received_of lines) ≡ length (received (entries lines))
length-received lines = sym (length-map (received_of lines) (λ (one : NumberedFrame). one.frame)) ∙ ap length (frames-received lines)

sent_of-append : (a b : List Line) → sent_of (a ++ b) ≡ sent_of a ++ sent_of b
sent_of-append [] b = refl
sent_of-append (line ∷ a) b =
    ap (λ x. map (numbered_frame line.position) (sent_by line.entry.event) ++ x) (sent_of-append a b)
    ∙ sym (append_assoc (map (numbered_frame line.position) (sent_by line.entry.event)) (sent_of a) (sent_of b))

sent_below : (lines : List Line) (p : ℕ) → ((i : ℕ) → i < length lines → number_at lines i < p) → (m : ℕ) → m < length (sent_of lines) → line_at (sent_of lines) m < p
sent_below [] p h m lt = absurd (omega arith)
sent_below (line ∷ lines) p h m lt =
    let P : List NumberedFrame → Type 0 = λ x. m < length x → line_at x m < p in
    elim (sends_cases line.entry.event) [
      | inl none ↦
          (let e : sent_of lines ≡ sent_of (line ∷ lines) = ap (λ x. map (numbered_frame line.position) x ++ sent_of lines) (sym none) in
          subst P e (sent_below lines p (λ i l. h (suc i) (omega arith)) m) lt)
      | inr one ↦
          (let e : numbered_frame line.position one.0 ∷ sent_of lines ≡ sent_of (line ∷ lines) = ap (λ x. map (numbered_frame line.position) x ++ sent_of lines) (sym one.1) in
          subst P e (first_or_later line lines p one.0 h (sent_below lines p (λ i l. h (suc i) (omega arith))) m) lt)
    ]
  where
    first_or_later : (line : Line) (lines : List Line) (p : ℕ) (frame : Frame) → ((i : ℕ) → i < length (line ∷ lines) → number_at (line ∷ lines) i < p) → ((m : ℕ) → m < length (sent_of lines) → line_at (sent_of lines) m < p) → (m : ℕ) → m < length (numbered_frame line.position frame ∷ sent_of lines) → line_at (numbered_frame line.position frame ∷ sent_of lines) m < p
    first_or_later line lines p frame h later zero lt = h 0 (omega arith)
    first_or_later line lines p frame h later (suc m) lt = later m (omega arith)

-- The entry that receives the k-th frame of a log.
record IsReceivedAt (lines : List Line) (k j : ℕ) (frame : Frame) : Type 0 where
  pub there : j < length lines
  pub receives : received_by (entry_line lines j).entry.event ≡ frame ∷ []
  pub number : length (received (entries (take j lines))) ≡ k
  pub its_line : line_at (received_of lines) k ≡ number_at lines j

received_where : (lines : List Line) (k : ℕ) → k < length (received_of lines) → (j : ℕ) × (frame : Frame) × IsReceivedAt lines k j frame
received_where [] k lt = absurd (omega arith)
received_where (line ∷ lines) k lt =
    elim (receives_cases line.entry.event) [
      | inl none ↦
          (let e : received_of (line ∷ lines) ≡ received_of lines = ap (λ x. map (numbered_frame line.position) x ++ received_of lines) none in
          let n = ap length e in
          let r = received_where lines k (omega (arith, n, lt)) in (
            suc r.0,
            r.1,
            record {
              there = (let t = r.2.there in omega arith);
              receives = r.2.receives;
              number = ap (λ x. length (x ++ received (entries (take r.0 lines)))) none ∙ r.2.number;
              its_line = ap (λ x. line_at x k) e ∙ r.2.its_line;
            },
          ))
      | inr one ↦ received_first line lines one.0 one.1 k lt (received_where lines)
    ]
  where
    received_first : (line : Line) (lines : List Line) (frame : Frame) → received_by line.entry.event ≡ frame ∷ [] → (k : ℕ) → k < length (received_of (line ∷ lines)) → ((m : ℕ) → m < length (received_of lines) → (j : ℕ) × (other : Frame) × IsReceivedAt lines m j other) → (j : ℕ) × (other : Frame) × IsReceivedAt (line ∷ lines) k j other
    received_first line lines frame is zero lt later =
        let e : received_of (line ∷ lines) ≡ numbered_frame line.position frame ∷ received_of lines = ap (λ x. map (numbered_frame line.position) x ++ received_of lines) is in
        (0, frame, record { there = omega arith; receives = is; number = refl; its_line = ap (λ x. line_at x 0) e })
    received_first line lines frame is (suc k) lt later =
        let e : received_of (line ∷ lines) ≡ numbered_frame line.position frame ∷ received_of lines = ap (λ x. map (numbered_frame line.position) x ++ received_of lines) is in
        let n = ap length e in
        let r = later k (omega (arith, n, lt)) in (
          suc r.0,
          r.1,
          record {
            there = (let t = r.2.there in omega arith);
            receives = r.2.receives;
            number = ap (λ x. length (x ++ received (entries (take r.0 lines)))) is ∙ ap suc r.2.number;
            its_line = ap (λ x. line_at x (suc k)) e ∙ r.2.its_line;
          },
        )

-- ---- what is received beyond the sender's log comes after what that log shows as received

sent-less : (log : List Entry) (n : ℕ) → length (sent (take n log)) ≤ length (sent log)
sent-less log n =
    let e = ap (λ (x : List Entry). length (sent x)) (take-append-drop n log) in
    let f = ap length (sent-append (take n log) (drop n log)) in
    omega (arith, e, f, length-append (sent (take n log)) (sent (drop n log)))

received-less : (log : List Entry) (n : ℕ) → length (received (take n log)) ≤ length (received log)
received-less log n =
    let e = ap (λ (x : List Entry). length (received x)) (take-append-drop n log) in
    let f = ap length (received-append (take n log) (drop n log)) in
    omega (arith, e, f, length-append (received (take n log)) (received (drop n log)))

front_within : (a b c d : List Frame) → a ++ b ≡ c ++ d → length c ≤ length a → IsPrefix c a
front_within a b c d e le =
    let t : take (length c) a ≡ c =
    sym (take-append-le (length c) a b le) ∙ ap (take (length c)) e ∙ take_at c d (length c) refl in
    (drop (length c) a, sym (take-append-drop (length c) a) ∙ ap (λ x. x ++ drop (length c) a) t)

line_below : (n : ℕ) (line p : ℕ) (list : List NumberedFrame) → line ≡ (if n == 0 then 0 else line_at list (n - 1)) → 0 < p → (0 < n → line_at list (n - 1) < p) → line < p
line_below zero line p list is some below =
    let e : line ≡ 0 = is in
    omega (arith, e, some)
line_below (suc n) line p list is some below =
    let e : line ≡ line_at list (suc n - 1) = is ∙ ap (λ b. if b then 0 else line_at list (suc n - 1)) (ne_eqb (suc n) 0 (λ h. absurd (omega (arith, h)))) in
    omega (arith, e, below (omega arith))

module _ (sender receiver : List Line) (more_s more_r : List Entry) (g : Agree (entries sender ++ more_s) (entries receiver ++ more_r)) where
  received_after : (j : ℕ) (frame : Frame) → j < length receiver → received_by (entry_line receiver j).entry.event ≡ frame ∷ [] → length (sent (entries sender)) ≤ length (received (entries (take j receiver))) → length (received (entries sender)) ≤ length (sent (entries (take j receiver)))
  received_after j frame lt is few =
      let s = entries sender in
      let r = entries receiver in
      let size : length r ≡ length receiver = length-map receiver (λ (line : Line). line.entry) in
      let up : Entry = record { time = 0; event = Up } in
      let at : entry_at (r ++ more_r) j ≡ (entry_line receiver j).entry =
      get_or_append_left r more_r up j (omega (arith, size, lt))
      ∙ get_or-map (λ (line : Line). line.entry) receiver j (record { position = 0; entry = up }) up lt in
      let x = (all_after (s ++ more_s) (r ++ more_r) g).1 j frame (omega (arith, length-append r more_r, size, lt)) (ap (λ (y : Entry). received_by y.event) at ∙ is) in
      let t : take j (r ++ more_r) ≡ entries (take j receiver) =
      take-append-le j r more_r (omega (arith, size, lt)) ∙ take-map (λ (line : Line). line.entry) j receiver in
      let tr = ap (λ (l : List Entry). length (received l)) t in
      let ts = ap (λ (l : List Entry). length (sent l)) t in
      elim (cases_lt x.0 (length s)) [
        | inl early ↦
            (let u = ap (λ (l : List Entry). length (sent l)) (take-append-le x.0 s more_s (omega (arith, early))) in
            absurd (omega (arith, u, sent-less s x.0, x.2, tr, few)))
        | inr late ↦
            (let v : take (length s) (take x.0 (s ++ more_s)) ≡ s = take-take (length s) x.0 (s ++ more_s) late ∙ take_at s more_s (length s) refl in
            let w = ap (λ (l : List Entry). length (received l)) v in
            omega (arith, w, received-less (take x.0 (s ++ more_s)) (length s), x.3, ts))
      ]

  shown_before : (receiver_open : Bool) (shown j : ℕ) → HasLineNumbers receiver → IsShown (sent_of receiver) (received_of sender) receiver_open shown → j < length receiver → length (received (entries sender)) ≤ length (sent (entries (take j receiver))) → shown < number_at receiver j
  shown_before receiver_open shown j numbers h lt few =
      let s = entries sender in
      let r = entries receiver in
      let d = (agree-delivered (s ++ more_s) (r ++ more_r) g).1 in
      let t : entries (take j receiver) ≡ take j r = sym (take-map (λ (line : Line). line.entry) j receiver) in
      let enough = ap (λ (l : List Entry). length (sent l)) t in
      let e : sent r ++ sent more_r ≡ received s ++ (received more_s ++ d.0) =
      sym (sent-append r more_r) ∙ d.1 ∙ ap (λ x. x ++ d.0) (received-append s more_s) ∙ append_assoc (received s) (received more_s) d.0 in
      let f = front_within (sent r) (sent more_r) (received s) (received more_s ++ d.0) e (omega (arith, few, enough, sent-less r j)) in
      let agrees : frames (sent_of receiver) ≡ frames (received_of sender) ++ f.0 =
      frames-sent receiver ∙ f.1 ∙ ap (λ x. x ++ f.0) (sym (frames-received sender)) in
      let found = all_found (sent_of receiver) receiver_open (received_of sender) f.0 agrees in
      let same = one_list (sent_of receiver) receiver_open h.last (replicate (0 + length (received_of sender)) false) h.left 0 [] 0 (received_of sender) h.findings (straight 0 (length (received_of sender))) h.found found in
      let size : length h.last ≡ length (received s) =
      ap length same.last_so ∙ length-replicate (0 + length (received_of sender)) false ∙ (let z : 0 + length (received_of sender) ≡ length (received_of sender) = omega arith in z) ∙ length-received sender in
      let front = sent_of (take j receiver) in
      let front_size = length-sent (take j receiver) in
      let split : sent_of receiver ≡ front ++ sent_of (drop j receiver) =
      ap sent_of (sym (take-append-drop j receiver)) ∙ sent_of-append (take j receiver) (drop j receiver) in
      line_below (length h.last) shown (number_at receiver j) (sent_of receiver) h.line_is (numbers.positive j lt) (λ some.
      (let m = length h.last - 1 in
      let within : m < length front = omega (arith, size, front_size, few, some) in
      let P : NumberedFrame → Type 0 = λ x. x.line < number_at receiver j in
      let at : frame_at (sent_of receiver) m ≡ frame_at front m =
      ap (λ x. frame_at x m) split ∙ get_or_append_left front (sent_of (drop j receiver)) no_frame m within in
      subst P (sym at) (sent_below (take j receiver) (number_at receiver j) (λ i l.
      (let n = length-take j receiver in
      let Q : Line → Type 0 = λ x. x.position < number_at receiver j in
      subst Q (sym (get_or-take j receiver i (record { position = 0; entry = record { time = 0; event = Up } }) (omega (arith, n, l)))) (numbers.rising i j (omega (arith, n, l)) lt))) m within)))

open_or_done : (is_open : Bool) (more : List Entry) → MayHave is_open more → IsTrue is_open ⊎ (more ≡ [])
open_or_done true more h = inl refl
open_or_done false more h = inr h

pub can_agree_directions : (sender receiver : List Line) (sender_open receiver_open : Bool) (shown : ℕ) → HasLineNumbers receiver → CanAgree sender_open receiver_open (entries sender) (entries receiver) → IsShown (sent_of receiver) (received_of sender) receiver_open shown → MayAgree (sent_of sender) (received_of receiver) sender_open shown
can_agree_directions sender receiver sender_open receiver_open shown numbers c h =
    let s = entries sender in
    let r = entries receiver in
    let d = (agree-delivered (s ++ c.host_more) (r ++ c.equipment_more) c.agree).0 in
    let e : sent s ++ sent c.host_more ≡ received r ++ (received c.equipment_more ++ d.0) =
    sym (sent-append s c.host_more) ∙ d.1 ∙ ap (λ x. x ++ d.0) (received-append r c.equipment_more) ∙ append_assoc (received r) (received c.equipment_more) d.0 in
    elim (cases_lt (length (sent s)) (length (received r))) [
      | inr ge ↦
          (let f = front_within (sent s) (sent c.host_more) (received r) (received c.equipment_more ++ d.0) e ge in
          inl (f.0, frames-sent sender ∙ f.1 ∙ ap (λ x. x ++ f.0) (sym (frames-received receiver))))
      | inl lt ↦
          elim (open_or_done sender_open c.host_more c.host_may) [
            | inr none ↦
                (let n = ap length e in
                let z = ap (λ (x : List Entry). length (sent x)) none in
                absurd (omega (arith, n, z, lt, length-append (sent s) (sent c.host_more), length-append (received r) (received c.equipment_more ++ d.0))))
            | inl open_so ↦
                (let f = front_within (received r) (received c.equipment_more ++ d.0) (sent s) (sent c.host_more) (sym e) (omega (arith, lt)) in
                let n = length-sent sender in
                let front : frames (take (length (sent_of sender)) (received_of receiver)) ≡ frames (sent_of sender) =
                sym (take-map (λ (one : NumberedFrame). one.frame) (length (sent_of sender)) (received_of receiver))
                ∙ ap (take (length (sent_of sender))) (frames-received receiver ∙ f.1)
                ∙ take_at (sent s) f.0 (length (sent_of sender)) (sym n)
                ∙ sym (frames-sent sender) in
                inr (
                  open_so,
                  front,
                  λ k beyond within.
                      (let w = received_where receiver k within in
                      let a = received_after sender receiver c.host_more c.equipment_more c.agree w.0 w.1 w.2.there w.2.receives (omega (arith, n, beyond, w.2.number)) in
                      let P : ℕ → Type 0 = λ x. shown < x in
                      subst P (sym w.2.its_line) (shown_before sender receiver c.host_more c.equipment_more c.agree receiver_open shown w.0 numbers h w.2.there a)),
                ))
          ]
    ]

pub no_facts : (sender receiver : List Line) (sender_open receiver_open : Bool) (shown : ℕ) (facts : List Fact) → HasLineNumbers receiver → CanAgree sender_open receiver_open (entries sender) (entries receiver) → IsShown (sent_of receiver) (received_of sender) receiver_open shown → AreFacts (sent_of sender) (received_of receiver) sender_open shown facts → AreLater facts
no_facts sender receiver sender_open receiver_open shown facts numbers c h f =
    only_later (sent_of sender) (received_of receiver) sender_open shown facts (can_agree_directions sender receiver sender_open receiver_open shown numbers c h) f

-- ---- either log first, and prefixes

pub can_agree-swap : (host_open equipment_open : Bool) (host equipment : List Entry) → CanAgree host_open equipment_open host equipment → CanAgree equipment_open host_open equipment host
can_agree-swap host_open equipment_open host equipment c = record {
  host_more = c.equipment_more;
  equipment_more = c.host_more;
  host_may = c.equipment_may;
  equipment_may = c.host_may;
  agree = agree-swap (host ++ c.host_more) (equipment ++ c.equipment_more) c.agree;
}

pub early_ends : (host equipment : List Entry) (i j : ℕ) (host_open equipment_open : Bool) → Agree host equipment → MayHave host_open (drop i host) → MayHave equipment_open (drop j equipment) → CanAgree host_open equipment_open (take i host) (take j equipment)
early_ends host equipment i j host_open equipment_open g ours theirs =
    let P : List Entry → Type 0 = λ x. Agree x (take j equipment ++ drop j equipment) in
    let Q : List Entry → Type 0 = λ x. Agree host x in
    record {
      host_more = drop i host;
      equipment_more = drop j equipment;
      host_may = ours;
      equipment_may = theirs;
      agree = subst P (sym (take-append-drop i host)) (subst Q (sym (take-append-drop j equipment)) g);
    }

pub no_contradiction : (host equipment : List Entry) (i j : ℕ) (host_open equipment_open : Bool) (found : Option Contradiction) → Agree host equipment → MayHave host_open (drop i host) → MayHave equipment_open (drop j equipment) → FirstContradiction host_open equipment_open (take i host) (take j equipment) found → found ≡ None
no_contradiction host equipment i j host_open equipment_open found g ours theirs f =
    (agree_iff host_open equipment_open (take i host) (take j equipment) found f).1 (early_ends host equipment i j host_open equipment_open g ours theirs)
