-- What was read from a prefix of a file stays valid if more bytes follow.
use Rattle.std.proofs.Common.{◌≡◌, ◌⊎◌, inl, inr, ◌≤◌, ◌<◌, ◌+◌, ◌-◌, ◌%◌, ◌==◌, ◌++◌, ◌∙◌, ℕ, zero, suc, Bool, true, false, not, cond, nat_lt, Option, None, Some, List, [], ◌∷◌, length, take, drop, slice_get, slice_index, Result, Ok, Err, refl, sym, ap, subst, arith}
use Rattle.std.proofs.lemmas.Bool.{le-ltb, ltb-false}
use Rattle.std.proofs.lemmas.List.{append_assoc, drop-append-le, get_or_append_left, length-append, length-drop, take-append-le}
use Rattle.byteorder.specs.Endian.{big_from, little_from}
use Rattle.capture_pcap.specs.declared.byte_order.Order.{Order}
use Rattle.capture_pcap.specs.declared.byte_order.Order.TheVariants as order
use Rattle.capture_pcap.specs.declared.next_block.Front.{Front}
use Rattle.capture_pcap.specs.declared.next_block.Front.TheVariants as front
use Rattle.capture_pcap.specs.declared.next_block.Interface.{Interface}
use Rattle.capture_pcap.specs.declared.fault.CaptureFault.{CaptureFault}
use Rattle.capture_pcap.specs.declared.fault.CaptureFault.TheVariants as fault
use Rattle.capture_pcap.specs.declared.block_reader.Format.{Format}
use Rattle.capture_pcap.specs.declared.block_reader.Format.TheVariants as format
use Rattle.capture_pcap.specs.declared.block_reader.Opening.{Opening}
use Rattle.capture_pcap.specs.declared.block_reader.Opening.TheVariants as opening
use Rattle.capture_pcap.specs.ByteOrder.{number_in}
use Rattle.capture_pcap.specs.NextBlock.{greatest, pcap_at, pcapng_at, packet_at, timed_at, ticks_at, untimed_at, interface_at, block_of, size_at, in_block, in_section, order_of, section_at}
use Rattle.capture_pcap.specs.File.{State, Packet, Ending, complete, cut, faulty, EndsAs, Reads, ReadsAfter, ReadsFile, front_at, front_by, size_of, after, packets_in, new_state, opening_at, pcap_opening_at}
use Rattle.capture_pcap.specs.Laws.{StaysReported}
use Rattle.capture_pcap.proofs.UniqueReading.{continues_no_further, ends_or_continues, ends_once, same_front}
use Rattle.capture_pcap.proofs.ReaderSteps.{IsSound, front_is_sound, opening_is_there, size_is_there, size_is_within}

-- ---- numbers

index_stays : (i : ℕ) (xs ys : List ℕ) → i < length xs → slice_index (xs ++ ys) i ≡ slice_index xs i
index_stays i xs ys within = get_or_append_left xs ys 0 i within

big_stays : (i n : ℕ) (xs ys : List ℕ) → i + n ≤ length xs → big_from i n (xs ++ ys) ≡ big_from i n xs
big_stays i zero xs ys within = refl
big_stays i (suc n) xs ys within =
    rw (index_stays i xs ys (omega (arith, within)), big_stays (suc i) n xs ys (omega (arith, within))) refl

little_stays : (i n : ℕ) (xs ys : List ℕ) → i + n ≤ length xs → little_from i n (xs ++ ys) ≡ little_from i n xs
little_stays i zero xs ys within = refl
little_stays i (suc n) xs ys within =
    rw (index_stays i xs ys (omega (arith, within)), little_stays (suc i) n xs ys (omega (arith, within))) refl

first_stays : (o : Order) (n : ℕ) (xs ys : List ℕ) → n ≤ length xs → number_in o n (xs ++ ys) ≡ number_in o n xs
first_stays order.Big n xs ys within = big_stays 0 n xs ys (omega (arith, within))
first_stays order.Little n xs ys within = little_stays 0 n xs ys (omega (arith, within))

number_stays : (o : Order) (n k : ℕ) (xs ys : List ℕ) → k + n ≤ length xs → number_in o n (drop k (xs ++ ys)) ≡ number_in o n (drop k xs)
number_stays o n k xs ys within =
    let there : k ≤ length xs = omega (arith, within) in
    let subsequent : n ≤ length (drop k xs) = omega (arith, within, length-drop k xs) in
    ap (λ (l : List ℕ). number_in o n l) (drop-append-le k xs ys there) ∙ first_stays o n (drop k xs) ys subsequent

-- ---- open results, and what stays

-- Holds if more bytes change a result only if it is open.
abbrev pub Keeps : {T : Type 0} → T → Result T CaptureFault → Result T CaptureFault → Type 0
Keeps hole short long = (short ≡ Ok hole) ⊎ (long ≡ short)

-- A result that is open if there are too few bytes.
few_keeps : {T : Type 0} (hole : T) (few still : Bool) (x y long : Result T CaptureFault) → x ≡ Ok hole → (few ≡ false → still ≡ false)
    → (few ≡ false → Keeps hole y long) → Keeps hole (cond few x y) (cond still x long)
few_keeps hole true still x y long is can_continue keeps = inl is
few_keeps hole false still x y long is can_continue keeps = rw (can_continue refl) (keeps refl)

cond_keeps : {T : Type 0} (hole : T) (b : Bool) (x y long : Result T CaptureFault) → (b ≡ false → Keeps hole y long)
    → Keeps hole (cond b x y) (cond b x long)
cond_keeps hole true x y long keeps = inr refl
cond_keeps hole false x y long keeps = keeps refl

both_keep : {T : Type 0} (hole : T) (b : Bool) (x y other long : Result T CaptureFault) → Keeps hole x other → Keeps hole y long
    → Keeps hole (cond b x y) (cond b other long)
both_keep hole true x y other long k l = k
both_keep hole false x y other long k l = l

enough : (n m k : ℕ) → n ≤ m → nat_lt n k ≡ false → nat_lt m k ≡ false
enough n m k more e = let le = ltb-false n k e in le-ltb m k (omega (arith, le, more))

longer : (xs ys : List ℕ) → length xs ≤ length (xs ++ ys)
longer xs ys = omega (arith, length-append xs ys)

longer_after : (k : ℕ) (xs ys : List ℕ) → length xs - k ≤ length (xs ++ ys) - k
longer_after k xs ys = omega (arith, length-append xs ys)

-- ---- pcap

pcap_keeps : (o : Order) (parts link : ℕ) (xs ys : List ℕ) → Keeps front.More (pcap_at o parts link xs) (pcap_at o parts link (xs ++ ys))
unfolding pcap_at
pcap_keeps o parts link xs ys =
    few_keeps front.More (nat_lt (length xs) 16) (nat_lt (length (xs ++ ys)) 16) (Ok front.More) _ _ refl (enough (length xs) (length (xs ++ ys)) 16 (longer xs ys)) (λ e.
    let there = ltb-false (length xs) 16 e in
    rw (
      number_stays o 4 8 xs ys (omega (arith, there)),
      first_stays o 4 xs ys (omega (arith, there)),
      number_stays o 4 4 xs ys (omega (arith, there)),
      number_stays o 4 12 xs ys (omega (arith, there)),
    )
    (cond_keeps front.More (nat_lt greatest (number_in o 4 (drop 8 xs))) (Err fault.Length) _ _ (λ _.
    few_keeps front.More (nat_lt (length xs - 16) (number_in o 4 (drop 8 xs))) (nat_lt (length (xs ++ ys) - 16) (number_in o 4 (drop 8 xs))) (Ok front.More) _ _ refl
    (enough (length xs - 16) (length (xs ++ ys) - 16) (number_in o 4 (drop 8 xs)) (longer_after 16 xs ys)) (λ _. inr refl))))

-- ---- pcapng

size_keeps : (o : Order) (xs ys : List ℕ) → Keeps None (size_at o xs) (size_at o (xs ++ ys))
size_keeps o xs ys =
    few_keeps None (nat_lt (length xs) 12) (nat_lt (length (xs ++ ys)) 12) (Ok None) _ _ refl (enough (length xs) (length (xs ++ ys)) 12 (longer xs ys)) (λ e.
    let there = ltb-false (length xs) 12 e in
    let n : ℕ = number_in o 4 (drop 4 xs) in
    rw (number_stays o 4 4 xs ys (omega (arith, there)))
    (cond_keeps None (nat_lt n 12) (Err fault.Length) _ _ (λ long. cond_keeps None (nat_lt greatest n) (Err fault.Length) _ _ (λ _.
    cond_keeps None (not (n % 4 == 0)) (Err fault.Length) _ _ (λ _.
    few_keeps None (nat_lt (length xs) n) (nat_lt (length (xs ++ ys)) n) (Ok None) _ _ refl (enough (length xs) (length (xs ++ ys)) n (longer xs ys)) (λ all.
    trailer_keeps n (ltb-false n 12 long) (ltb-false (length xs) n all)))))))
  where
    trailer_keeps : (n : ℕ) → 12 ≤ n → n ≤ length xs
        → Keeps None (cond (number_in o 4 (drop (n - 4) xs) == n) (Ok (Some n)) (Err fault.Trailer)) (cond (number_in o 4 (drop (n - 4) (xs ++ ys)) == n) (Ok (Some n)) (Err fault.Trailer))
    trailer_keeps n long all =
        let within : n - 4 + 4 ≤ length xs = omega (arith, long, all) in
        rw (number_stays o 4 (n - 4) xs ys within) (inr refl)

interface_stays : (o : Order) (size : ℕ) (xs ys : List ℕ) → size ≤ length xs → interface_at o size (xs ++ ys) ≡ interface_at o size xs
interface_stays o size xs ys all = by_size (nat_lt size 20) refl
  where
    by_size : (b : Bool) → nat_lt size 20 ≡ b → interface_at o size (xs ++ ys) ≡ interface_at o size xs
    by_size true e = rw e refl
    by_size false e =
        let long = ltb-false size 20 e in
        let there : 16 ≤ length xs = omega (arith, long, all) in
        let subsequent : size - 20 ≤ length (drop 16 xs) = omega (arith, long, all, length-drop 16 xs) in
        rw (
          number_stays o 2 8 xs ys (omega (arith, there)),
          number_stays o 4 12 xs ys (omega (arith, there)),
          drop-append-le 16 xs ys there,
          take-append-le (size - 20) (drop 16 xs) ys subsequent,
        ) refl

packet_stays : (o : Order) (which : Option Interface) (ticks : Option ℕ) (size : ℕ) (xs ys : List ℕ) → 32 ≤ length xs
    → packet_at o which ticks size (xs ++ ys) ≡ packet_at o which ticks size xs
packet_stays o None ticks size xs ys there = refl
packet_stays o (Some i) None size xs ys there = refl
packet_stays o (Some i) (Some per_second) size xs ys there =
    rw (
      number_stays o 4 20 xs ys (omega (arith, there)),
      number_stays o 4 12 xs ys (omega (arith, there)),
      number_stays o 4 16 xs ys (omega (arith, there)),
      number_stays o 4 24 xs ys (omega (arith, there)),
    ) refl

timed_stays : (o : Order) (interfaces : List Interface) (which size : ℕ) (xs ys : List ℕ) → size ≤ length xs
    → timed_at o interfaces which size (xs ++ ys) ≡ timed_at o interfaces which size xs
timed_stays o interfaces which size xs ys all = by_size (nat_lt size 32) refl
  where
    by_size : (b : Bool) → nat_lt size 32 ≡ b → timed_at o interfaces which size (xs ++ ys) ≡ timed_at o interfaces which size xs
    by_size true e = rw e refl
    by_size false e =
        let long = ltb-false size 32 e in
        rw e (packet_stays o (slice_get interfaces which) (ticks_at (slice_get interfaces which)) size xs ys (omega (arith, long, all)))

untimed_stays : (o : Order) (which : Option Interface) (size : ℕ) (xs ys : List ℕ) → 12 ≤ length xs
    → untimed_at o which size (xs ++ ys) ≡ untimed_at o which size xs
untimed_stays o None size xs ys there = refl
untimed_stays o (Some i) size xs ys there = rw (number_stays o 4 8 xs ys there) refl

block_stays : (o : Order) (interfaces : List Interface) (kind size : ℕ) (xs ys : List ℕ) → 12 ≤ size → size ≤ length xs
    → block_of o interfaces kind size (xs ++ ys) ≡ block_of o interfaces kind size xs
block_stays o interfaces kind size xs ys long all =
    let there : 12 ≤ length xs = omega (arith, long, all) in
    rw (
      interface_stays o size xs ys all,
      number_stays o 4 8 xs ys there,
      number_stays o 2 8 xs ys (omega (arith, there)),
      timed_stays o interfaces (number_in o 4 (drop 8 xs)) size xs ys all,
      timed_stays o interfaces (number_in o 2 (drop 8 xs)) size xs ys all,
      untimed_stays o (slice_get interfaces 0) size xs ys there,
    ) refl

section_keeps : (which : Option Order) (xs ys : List ℕ) → Keeps front.More (section_at which xs) (section_at which (xs ++ ys))
section_keeps None xs ys = inr refl
section_keeps (Some o) xs ys = by_size (size_keeps o xs ys)
  where
    by_size : Keeps None (size_at o xs) (size_at o (xs ++ ys)) → Keeps front.More (in_section o (size_at o xs)) (in_section o (size_at o (xs ++ ys)))
    by_size (inl e) = inl (ap (in_section o) e)
    by_size (inr e) = inr (ap (in_section o) e)

block_keeps : (o : Order) (interfaces : List Interface) (xs ys : List ℕ)
    → Keeps front.More (in_block o interfaces xs (size_at o xs)) (in_block o interfaces (xs ++ ys) (size_at o (xs ++ ys)))
block_keeps o interfaces xs ys = by_size (size_keeps o xs ys)
  where
    same : (r : Result (Option ℕ) CaptureFault) → size_at o xs ≡ r → in_block o interfaces (xs ++ ys) r ≡ in_block o interfaces xs r
    same (Ok None) e = refl
    same (Ok (Some size)) e =
        let there = size_is_there o xs size e in
        let some : 4 ≤ length xs = omega (arith, there.0, there.1) in
        ap (λ (kind : ℕ). block_of o interfaces kind size (xs ++ ys)) (first_stays o 4 xs ys some) ∙ block_stays o interfaces (number_in o 4 xs) size xs ys there.0 there.1
    same (Err f) e = refl

    by_size : Keeps None (size_at o xs) (size_at o (xs ++ ys)) → Keeps front.More (in_block o interfaces xs (size_at o xs)) (in_block o interfaces (xs ++ ys) (size_at o (xs ++ ys)))
    by_size (inl e) = inl (ap (in_block o interfaces xs) e)
    by_size (inr e) = inr (ap (in_block o interfaces (xs ++ ys)) e ∙ same (size_at o xs) refl)

pcapng_keeps : (o : Order) (interfaces : List Interface) (xs ys : List ℕ) → Keeps front.More (pcapng_at o interfaces xs) (pcapng_at o interfaces (xs ++ ys))
unfolding pcapng_at
pcapng_keeps o interfaces xs ys =
    few_keeps front.More (nat_lt (length xs) 12) (nat_lt (length (xs ++ ys)) 12) (Ok front.More) _ _ refl (enough (length xs) (length (xs ++ ys)) 12 (longer xs ys)) (λ e.
    let there = ltb-false (length xs) 12 e in
    rw (first_stays order.Big 4 xs ys (omega (arith, there)), number_stays order.Big 4 8 xs ys (omega (arith, there)))
    (both_keep front.More (number_in order.Big 4 xs == 0x0a0d0d0a) _ _ _ _ (section_keeps (order_of (number_in order.Big 4 (drop 8 xs))) xs ys) (block_keeps o interfaces xs ys)))

pub front_keeps : (f : Format) (interfaces : List Interface) (xs ys : List ℕ) → Keeps front.More (front_by f interfaces xs) (front_by f interfaces (xs ++ ys))
front_keeps (format.Pcap o parts link) interfaces xs ys = pcap_keeps o parts link xs ys
front_keeps (format.Pcapng o) interfaces xs ys = pcapng_keeps o interfaces xs ys

-- ---- the first bytes

opening_of_keeps : (o : Order) (parts : ℕ) (xs ys : List ℕ) → Keeps opening.More (Ok (pcap_opening_at o parts xs)) (Ok (pcap_opening_at o parts (xs ++ ys)))
opening_of_keeps o parts xs ys = by_size (nat_lt (length xs) 24) refl
  where
    by_size : (b : Bool) → nat_lt (length xs) 24 ≡ b → Keeps opening.More (Ok (pcap_opening_at o parts xs)) (Ok (pcap_opening_at o parts (xs ++ ys)))
    by_size true e = rw e (inl refl)
    by_size false e =
        let there = ltb-false (length xs) 24 e in
        rw (e, enough (length xs) (length (xs ++ ys)) 24 (longer xs ys) e, number_stays o 4 20 xs ys there) (inr refl)

pub opening_keeps : (xs ys : List ℕ) → Keeps opening.More (opening_at xs) (opening_at (xs ++ ys))
unfolding opening_at
opening_keeps xs ys =
    few_keeps opening.More (nat_lt (length xs) 4) (nat_lt (length (xs ++ ys)) 4) (Ok opening.More) _ _ refl (enough (length xs) (length (xs ++ ys)) 4 (longer xs ys)) (λ e.
    let there = ltb-false (length xs) 4 e in
    let n : ℕ = number_in order.Big 4 xs in
    rw (first_stays order.Big 4 xs ys there)
    (both_keep opening.More (n == 0xa1b2c3d4) _ _ _ _ (opening_of_keeps order.Big 1000 xs ys) (both_keep opening.More (n == 0xd4c3b2a1) _ _ _ _ (opening_of_keeps order.Little 1000 xs ys)
    (both_keep opening.More (n == 0xa1b23c4d) _ _ _ _ (opening_of_keeps order.Big 1000000 xs ys)
    (both_keep opening.More (n == 0x4d3cb2a1) _ _ _ _ (opening_of_keeps order.Little 1000000 xs ys) (inr refl))))))

-- ---- the packets of a file

-- What was found at the start, or an error, stays.
pub found_stays : (s : State) (xs ys : List ℕ) (f : Front) → front_at s xs ≡ Ok f → 0 < size_of f → front_at s (xs ++ ys) ≡ Ok f
found_stays s xs ys f is some = by_keeps (front_keeps s.format s.interfaces xs ys)
  where
    by_keeps : Keeps front.More (front_at s xs) (front_at s (xs ++ ys)) → front_at s (xs ++ ys) ≡ Ok f
    by_keeps (inl unfinished) = absurd (continues_no_further (front_at s xs) f unfinished is some)
    by_keeps (inr same) = same ∙ is

pub fault_stays : (s : State) (xs ys : List ℕ) (e : CaptureFault) → front_at s xs ≡ Err e → front_at s (xs ++ ys) ≡ Err e
fault_stays s xs ys e is = by_keeps (front_keeps s.format s.interfaces xs ys)
  where
    by_keeps : Keeps front.More (front_at s xs) (front_at s (xs ++ ys)) → front_at s (xs ++ ys) ≡ Err e
    by_keeps (inl unfinished) = absurd cc
    by_keeps (inr same) = same ∙ is

body_stays : (held body : ℕ) (xs ys : List ℕ) → body + held ≤ length xs → take held (drop body (xs ++ ys)) ≡ take held (drop body xs)
body_stays held body xs ys within =
    let there : body ≤ length xs = omega (arith, within) in
    let subsequent : held ≤ length (drop body xs) = omega (arith, within, length-drop body xs) in
    ap (λ (l : List ℕ). take held l) (drop-append-le body xs ys there) ∙ take-append-le held (drop body xs) ys subsequent

pub packets_stay : (s : State) (xs ys : List ℕ) (f : Front) → IsSound (length xs) f → packets_in s (xs ++ ys) f ≡ packets_in s xs f
packets_stay s xs ys front.More sound = refl
packets_stay s xs ys (front.Packet r) sound = rw (body_stays r.held r.body xs ys (omega (arith, sound.0, sound.1))) refl
packets_stay s xs ys (front.Begun o size) sound = refl
packets_stay s xs ys (front.Described i size) sound = refl
packets_stay s xs ys (front.Passed counts size) sound = refl

stays_after : (first packets others : List Packet) (e other : Ending) → StaysReported packets e others other → StaysReported (first ++ packets) e (first ++ others) other
stays_after first packets others complete other (rest, is) = (rest, ap (λ (l : List Packet). first ++ l) is ∙ sym (append_assoc first packets rest))
stays_after first packets others (cut count) other (rest, is) = (rest, ap (λ (l : List Packet). first ++ l) is ∙ sym (append_assoc first packets rest))
stays_after first packets others (faulty count place f) other (is, same) = (ap (λ (l : List Packet). first ++ l) is, same)

-- Nothing was emitted yet.
ends_stays : (gs : List Front) (s : State) (xs ys : List ℕ) (others : List Packet) (e other : Ending) → EndsAs s xs e → Reads gs s (xs ++ ys) others other
    → StaysReported [] e others other
unfolding Reads
ends_stays gs s xs ys others complete other h k = (others, refl)
ends_stays gs s xs ys others (cut count) other h k = (others, refl)
ends_stays [] s xs ys others (faulty count place f) other h k =
    (k.0, sym (ends_once s (xs ++ ys) (faulty count place f) other (fault_stays s xs ys f h.0, h.1, h.2) k.1))
ends_stays (g ∷ gs) s xs ys others (faulty count place f) other h k =
    absurd (ends_or_continues s (xs ++ ys) (faulty count place f) g (fault_stays s xs ys f h.0, h.1, h.2) k.1 k.0)

reads_stays : (fs gs : List Front) (s : State) (xs ys : List ℕ) (packets others : List Packet) (e other : Ending) → Reads fs s xs packets e
    → Reads gs s (xs ++ ys) others other → StaysReported packets e others other
unfolding Reads
reads_stays [] gs s xs ys packets others e other h k =
    subst (λ (l : List Packet). StaysReported l e others other) (sym h.0) (ends_stays gs s xs ys others e other h.1 k)
reads_stays (f ∷ fs) [] s xs ys packets others e other h k =
    absurd (ends_or_continues s (xs ++ ys) other f k.1 (found_stays s xs ys f h.1 h.0) h.0)
reads_stays (f ∷ fs) (g ∷ gs) s xs ys packets others e other h k =
    let same = same_front (front_at s (xs ++ ys)) f g (found_stays s xs ys f h.1 h.0) k.1 in
    let sound = front_is_sound s xs f h.1 in
    let tail = h.2 in
    let there = k.2 in
    let subsequent : drop (size_of f) (xs ++ ys) ≡ drop (size_of f) xs ++ ys = drop-append-le (size_of f) xs ys (size_is_within (length xs) f sound) in
    let k1 : Reads gs (after s f) (drop (size_of f) (xs ++ ys)) there.0 other =
    subst (λ (x : Front). Reads gs (after s x) (drop (size_of x) (xs ++ ys)) there.0 other) (sym same) there.2 in
    let k2 : Reads gs (after s f) (drop (size_of f) xs ++ ys) there.0 other = subst (λ (l : List ℕ). Reads gs (after s f) l there.0 other) subsequent k1 in
    let rest = reads_stays fs gs (after s f) (drop (size_of f) xs) ys tail.0 there.0 e other tail.2 k2 in
    let first : packets_in s (xs ++ ys) g ≡ packets_in s xs f =
    ap (λ (x : Front). packets_in s (xs ++ ys) x) (sym same) ∙ packets_stay s xs ys f sound in
    let others_are : others ≡ packets_in s xs f ++ there.0 = there.1 ∙ ap (λ (l : List Packet). l ++ there.0) first in
    subst (λ (l : List Packet). StaysReported l e others other) (sym tail.1)
    (subst (λ (l : List Packet). StaysReported (packets_in s xs f ++ tail.0) e l other) (sym others_are)
    (stays_after (packets_in s xs f) tail.0 there.0 e other rest))

after_stays : (r : Result Opening CaptureFault) (xs ys : List ℕ) (packets others : List Packet) (e other : Ending) → opening_at xs ≡ r
    → ReadsAfter r xs packets e → ReadsAfter r (xs ++ ys) others other → StaysReported packets e others other
after_stays (Ok opening.More) xs ys packets others e other is h k =
    subst (λ (l : List Packet). StaysReported l e others other) (sym h.0) (subst (λ (x : Ending). StaysReported [] x others other) (sym h.1) (others, refl))
after_stays (Ok (opening.Opened f size)) xs ys packets others e other is h k =
    let subsequent : drop size (xs ++ ys) ≡ drop size xs ++ ys = drop-append-le size xs ys (opening_is_there xs f size is) in
    reads_stays h.0 k.0 (new_state f size) (drop size xs) ys packets others e other h.1
    (subst (λ (l : List ℕ). Reads k.0 (new_state f size) l others other) subsequent k.1)
after_stays (Err f) xs ys packets others e other is h k =
    subst (λ (l : List Packet). StaysReported l e others other) (sym h.0)
    (subst (λ (x : Ending). StaysReported [] x others other) (sym h.1) (k.0, k.1))

pub reported_stays : (octets more : List ℕ) (packets others : List Packet) (e other : Ending) → ReadsFile octets packets e → ReadsFile (octets ++ more) others other
    → StaysReported packets e others other
reported_stays octets more packets others e other h k = by_keeps (opening_keeps octets more)
  where
    by_keeps : Keeps opening.More (opening_at octets) (opening_at (octets ++ more)) → StaysReported packets e others other
    by_keeps (inl unfinished) =
        let nothing : ReadsAfter (Ok opening.More) octets packets e = subst (λ r. ReadsAfter r octets packets e) unfinished h in
        subst (λ (l : List Packet). StaysReported l e others other) (sym nothing.0) (subst (λ (x : Ending). StaysReported [] x others other) (sym nothing.1) (others, refl))
    by_keeps (inr same) =
        after_stays (opening_at octets) octets more packets others e other refl h (subst (λ r. ReadsAfter r (octets ++ more) others other) same k)
