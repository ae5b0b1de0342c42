-- The record or block that is found is within the bytes and not empty; so each file has a reading.
use Rattle.std.proofs.Common.{◌≡◌, ◌≤◌, ◌<◌, ◌+◌, ◌-◌, ◌%◌, ◌==◌, ◌++◌, ℕ, zero, suc, Bool, true, false, not, cond, nat_lt, min, Option, None, Some, List, [], ◌∷◌, length, drop, slice_get, Result, Ok, Err, refl, subst, arith}
use Rattle.std.proofs.lemmas.Bool.{ltb-true, ltb-false}
use Rattle.std.proofs.lemmas.List.{length-drop}
use Rattle.capture_pcap.specs.declared.byte_order.Order.{Order}
use Rattle.capture_pcap.specs.declared.byte_order.Order.TheVariants as order
use Rattle.capture_pcap.specs.declared.next_block.Front.{Front}
use Rattle.capture_pcap.specs.declared.next_block.Front.TheVariants as front
use Rattle.capture_pcap.specs.declared.next_block.Interface.{Interface}
use Rattle.capture_pcap.specs.declared.fault.CaptureFault.{CaptureFault}
use Rattle.capture_pcap.specs.declared.block_reader.Format.{Format}
use Rattle.capture_pcap.specs.declared.block_reader.Format.TheVariants as format
use Rattle.capture_pcap.specs.declared.block_reader.Opening.{Opening}
use Rattle.capture_pcap.specs.declared.block_reader.Opening.TheVariants as opening
use Rattle.capture_pcap.specs.ByteOrder.{number_in}
use Rattle.capture_pcap.specs.NextBlock.{greatest, pcap_at, pcapng_at, packet_at, timed_at, ticks_at, untimed_at, held_of, interface_at, block_of, size_at, in_block, in_section, order_of, section_at}
use Rattle.capture_pcap.specs.BlockReader.{Reading, ReadsOn}
use Rattle.capture_pcap.specs.File.{State, Packet, Ending, complete, cut, faulty, Reads, ReadsAfter, ReadsFile, front_at, front_by, size_of, after, packets_in, new_state, opening_at, pcap_opening_at}

-- Holds if it is within the first n bytes, and is not empty.
abbrev pub IsSound : ℕ → Front → Type 0
IsSound n front.More = Unit {0}
IsSound n (front.Packet r) = (r.body + r.held ≤ r.size) × (r.size ≤ n) × (0 < r.size)
IsSound n (front.Begun o size) = (size ≤ n) × (0 < size)
IsSound n (front.Described i size) = (size ≤ n) × (0 < size)
IsSound n (front.Passed counts size) = (size ≤ n) × (0 < size)

pub size_is_within : (n : ℕ) (f : Front) → IsSound n f → size_of f ≤ n
size_is_within n front.More sound = omega arith
size_is_within n (front.Packet r) sound = sound.1
size_is_within n (front.Begun o size) sound = sound.0
size_is_within n (front.Described i size) sound = sound.0
size_is_within n (front.Passed counts size) sound = sound.0

-- What holds of each result for a record or block: if more bytes are needed, there are fewer than in any record or
-- block.
abbrev pub IsFair : ℕ → Result Front CaptureFault → Type 0
IsFair n (Ok front.More) = n < 16 + greatest
IsFair n (Ok (front.Packet r)) = IsSound n (front.Packet r)
IsFair n (Ok (front.Begun o size)) = IsSound n (front.Begun o size)
IsFair n (Ok (front.Described i size)) = IsSound n (front.Described i size)
IsFair n (Ok (front.Passed counts size)) = IsSound n (front.Passed counts size)
IsFair n (Err f) = Unit {0}

cond_fair : (n : ℕ) (b : Bool) (x y : Result Front CaptureFault) → (b ≡ true → IsFair n x) → (b ≡ false → IsFair n y) → IsFair n (cond b x y)
cond_fair n true x y h k = h refl
cond_fair n false x y h k = k refl

pcap_fair : (o : Order) (parts link : ℕ) (xs : List ℕ) → IsFair (length xs) (pcap_at o parts link xs)
unfolding pcap_at
pcap_fair o parts link xs =
    let n : ℕ = number_in o 4 (drop 8 xs) in
    cond_fair (length xs) (nat_lt (length xs) 16) _ _ (λ few. let lt = ltb-true (length xs) 16 few in omega (arith, lt)) (λ there.
    cond_fair (length xs) (nat_lt greatest n) _ _ (λ _. tt) (λ fits.
    cond_fair (length xs) (nat_lt (length xs - 16) n) _ _ (λ few.
    let lt = ltb-true (length xs - 16) n few in
    let le = ltb-false greatest n fits in
    omega (arith, lt, le)) (λ there_all.
    let le = ltb-false (length xs - 16) n there_all in
    let some = ltb-false (length xs) 16 there in
    (omega arith, omega (arith, le, some), omega arith))))

-- A block's length, if the block is complete.
abbrev pub IsSize : ℕ → Result (Option ℕ) CaptureFault → Type 0
IsSize n (Ok None) = n < 16 + greatest
IsSize n (Ok (Some size)) = (12 ≤ size) × (size ≤ n)
IsSize n (Err f) = Unit {0}

cond_size : (n : ℕ) (b : Bool) (x y : Result (Option ℕ) CaptureFault) → (b ≡ true → IsSize n x) → (b ≡ false → IsSize n y) → IsSize n (cond b x y)
cond_size n true x y h k = h refl
cond_size n false x y h k = k refl

size_fair : (o : Order) (xs : List ℕ) → IsSize (length xs) (size_at o xs)
size_fair o xs =
    let n : ℕ = number_in o 4 (drop 4 xs) in
    cond_size (length xs) (nat_lt (length xs) 12) _ _ (λ few. let lt = ltb-true (length xs) 12 few in omega (arith, lt)) (λ _.
    cond_size (length xs) (nat_lt n 12) _ _ (λ _. tt) (λ long. cond_size (length xs) (nat_lt greatest n) _ _ (λ _. tt) (λ fits.
    cond_size (length xs) (not (n % 4 == 0)) _ _ (λ _. tt) (λ _. cond_size (length xs) (nat_lt (length xs) n) _ _ (λ few.
    let lt = ltb-true (length xs) n few in
    let le = ltb-false greatest n fits in
    omega (arith, lt, le)) (λ there_all.
    cond_size (length xs) (number_in o 4 (drop (n - 4) xs) == n) _ _ (λ _. (ltb-false n 12 long, ltb-false (length xs) n there_all)) (λ _. tt))))))

pub size_is_there : (o : Order) (xs : List ℕ) (size : ℕ) → size_at o xs ≡ Ok (Some size) → (12 ≤ size) × (size ≤ length xs)
size_is_there o xs size e = subst (λ r. IsSize (length xs) r) e (size_fair o xs)

interface_fair : (o : Order) (n size : ℕ) (xs : List ℕ) → size ≤ n → IsFair n (interface_at o size xs)
interface_fair o n size xs within =
    cond_fair n (nat_lt size 20) _ _ (λ _. tt) (λ long. let le = ltb-false size 20 long in (within, omega (arith, le)))

packet_fair : (o : Order) (which : Option Interface) (ticks : Option ℕ) (n size : ℕ) (xs : List ℕ) → 32 ≤ size → size ≤ n
    → IsFair n (packet_at o which ticks size xs)
packet_fair o None ticks n size xs long within = tt
packet_fair o (Some i) None n size xs long within = tt
packet_fair o (Some i) (Some per_second) n size xs long within =
    let held : ℕ = number_in o 4 (drop 20 xs) in
    cond_fair n (nat_lt (size - 32) held) _ _ (λ _. tt) (λ fits.
    let le = ltb-false (size - 32) held fits in
    (omega (arith, le, long), within, omega (arith, long)))

timed_fair : (o : Order) (interfaces : List Interface) (which n size : ℕ) (xs : List ℕ) → size ≤ n → IsFair n (timed_at o interfaces which size xs)
timed_fair o interfaces which n size xs within =
    cond_fair n (nat_lt size 32) _ _ (λ _. tt) (λ long.
    packet_fair o (slice_get interfaces which) (ticks_at (slice_get interfaces which)) n size xs (ltb-false size 32 long) within)

held_fair : (had snap there : ℕ) → held_of had snap there ≤ there
held_fair had snap there = by_snap (snap == 0)
  where
    by_snap : (b : Bool) → cond b (min had there) (min (min had snap) there) ≤ there
    by_snap true = omega arith
    by_snap false = omega arith

untimed_fair : (o : Order) (which : Option Interface) (n size : ℕ) (xs : List ℕ) → size ≤ n → IsFair n (untimed_at o which size xs)
untimed_fair o None n size xs within = tt
untimed_fair o (Some i) n size xs within =
    let held = held_fair (number_in o 4 (drop 8 xs)) i.snap (size - 16) in
    cond_fair n (nat_lt size 16) _ _ (λ _. tt) (λ long.
    let le = ltb-false size 16 long in
    (omega (arith, held, le), within, omega (arith, le)))

block_fair : (o : Order) (interfaces : List Interface) (kind n size : ℕ) (xs : List ℕ) → 12 ≤ size → size ≤ n → IsFair n (block_of o interfaces kind size xs)
block_fair o interfaces kind n size xs long within =
    cond_fair n (kind == 1) _ _ (λ _. interface_fair o n size xs within) (λ _.
    cond_fair n (kind == 6) _ _ (λ _. timed_fair o interfaces (number_in o 4 (drop 8 xs)) n size xs within) (λ _.
    cond_fair n (kind == 2) _ _ (λ _. timed_fair o interfaces (number_in o 2 (drop 8 xs)) n size xs within) (λ _.
    cond_fair n (kind == 3) _ _ (λ _. untimed_fair o (slice_get interfaces 0) n size xs within) (λ _. (within, omega (arith, long))))))

in_block_fair : (o : Order) (interfaces : List Interface) (xs : List ℕ) (r : Result (Option ℕ) CaptureFault) → IsSize (length xs) r
    → IsFair (length xs) (in_block o interfaces xs r)
in_block_fair o interfaces xs (Ok None) fair = fair
in_block_fair o interfaces xs (Ok (Some size)) fair = block_fair o interfaces (number_in o 4 xs) (length xs) size xs fair.0 fair.1
in_block_fair o interfaces xs (Err f) fair = tt

in_section_fair : (o : Order) (n : ℕ) (r : Result (Option ℕ) CaptureFault) → IsSize n r → IsFair n (in_section o r)
in_section_fair o n (Ok None) fair = fair
in_section_fair o n (Ok (Some size)) fair = let long = fair.0 in (fair.1, omega (arith, long))
in_section_fair o n (Err f) fair = tt

section_fair : (which : Option Order) (xs : List ℕ) → IsFair (length xs) (section_at which xs)
section_fair None xs = tt
section_fair (Some o) xs = in_section_fair o (length xs) (size_at o xs) (size_fair o xs)

pcapng_fair : (o : Order) (interfaces : List Interface) (xs : List ℕ) → IsFair (length xs) (pcapng_at o interfaces xs)
unfolding pcapng_at
pcapng_fair o interfaces xs =
    cond_fair (length xs) (nat_lt (length xs) 12) _ _ (λ few. let lt = ltb-true (length xs) 12 few in omega (arith, lt)) (λ _.
    cond_fair (length xs) (number_in order.Big 4 xs == 0x0a0d0d0a) _ _ (λ _. section_fair (order_of (number_in order.Big 4 (drop 8 xs))) xs)
    (λ _. in_block_fair o interfaces xs (size_at o xs) (size_fair o xs)))

front_fair : (f : Format) (interfaces : List Interface) (xs : List ℕ) → IsFair (length xs) (front_by f interfaces xs)
front_fair (format.Pcap o parts link) interfaces xs = pcap_fair o parts link xs
front_fair (format.Pcapng o) interfaces xs = pcapng_fair o interfaces xs

fair_sound : (n : ℕ) (f : Front) → IsFair n (Ok f) → IsSound n f
fair_sound n front.More fair = tt
fair_sound n (front.Packet r) fair = fair
fair_sound n (front.Begun o size) fair = fair
fair_sound n (front.Described i size) fair = fair
fair_sound n (front.Passed counts size) fair = fair

pub front_is_sound : (s : State) (xs : List ℕ) (f : Front) → front_at s xs ≡ Ok f → IsSound (length xs) f
front_is_sound s xs f e = fair_sound (length xs) f (subst (λ r. IsFair (length xs) r) e (front_fair s.format s.interfaces xs))

pub open_is_short : (s : State) (xs : List ℕ) → front_at s xs ≡ Ok front.More → length xs < 16 + greatest
open_is_short s xs e = subst (λ r. IsFair (length xs) r) e (front_fair s.format s.interfaces xs)

-- ---- the first bytes

-- Holds if the header is complete.
abbrev pub IsThere : ℕ → Result Opening CaptureFault → Type 0
IsThere n (Ok opening.More) = n < 24
IsThere n (Ok (opening.Opened f size)) = size ≤ n
IsThere n (Err f) = Unit {0}

cond_there : (n : ℕ) (b : Bool) (x y : Result Opening CaptureFault) → (b ≡ true → IsThere n x) → (b ≡ false → IsThere n y) → IsThere n (cond b x y)
cond_there n true x y h k = h refl
cond_there n false x y h k = k refl

opening_of_there : (o : Order) (parts : ℕ) (xs : List ℕ) → IsThere (length xs) (Ok (pcap_opening_at o parts xs))
opening_of_there o parts xs = by_size (nat_lt (length xs) 24) refl
  where
    by_size : (b : Bool) → nat_lt (length xs) 24 ≡ b → IsThere (length xs) (Ok (pcap_opening_at o parts xs))
    by_size true e = rw e (ltb-true (length xs) 24 e)
    by_size false e = rw e (ltb-false (length xs) 24 e)

opening_there : (xs : List ℕ) → IsThere (length xs) (opening_at xs)
unfolding opening_at
opening_there xs =
    let n : ℕ = number_in order.Big 4 xs in
    cond_there (length xs) (nat_lt (length xs) 4) _ _ (λ few. let lt = ltb-true (length xs) 4 few in omega (arith, lt)) (λ _.
    cond_there (length xs) (n == 0xa1b2c3d4) _ _ (λ _. opening_of_there order.Big 1000 xs) (λ _.
    cond_there (length xs) (n == 0xd4c3b2a1) _ _ (λ _. opening_of_there order.Little 1000 xs) (λ _.
    cond_there (length xs) (n == 0xa1b23c4d) _ _ (λ _. opening_of_there order.Big 1000000 xs) (λ _.
    cond_there (length xs) (n == 0x4d3cb2a1) _ _ (λ _. opening_of_there order.Little 1000000 xs) (λ _.
    cond_there (length xs) (n == 0x0a0d0d0a) _ _ (λ _. omega arith) (λ _. tt))))))

pub opening_is_there : (xs : List ℕ) (f : Format) (size : ℕ) → opening_at xs ≡ Ok (opening.Opened f size) → size ≤ length xs
opening_is_there xs f size e = subst (λ r. IsThere (length xs) r) e (opening_there xs)

pub opening_is_short : (xs : List ℕ) → opening_at xs ≡ Ok opening.More → length xs < 24
opening_is_short xs e = subst (λ r. IsThere (length xs) r) e (opening_there xs)

-- ---- each file has a reading

abbrev pub IsRead : State → List ℕ → Type 0
IsRead s octets = (fs : List Front) × (packets : List Packet) × (ending : Ending) × Reads fs s octets packets ending

open_read : (s : State) (octets : List ℕ) → front_at s octets ≡ Ok front.More → IsRead s octets
unfolding Reads
open_read s [] e = ([], [], complete, (refl, refl))
open_read s (octet ∷ octets) e = ([], [], cut s.packets, (refl, (omega arith, e, refl)))

can_continue : (s : State) (octets : List ℕ) (f : Front) → front_at s octets ≡ Ok f → 0 < size_of f → IsRead (after s f) (drop (size_of f) octets) → IsRead s octets
unfolding Reads
can_continue s octets f e some (fs, packets, ending, reads) =
    (f ∷ fs, packets_in s octets f ++ packets, ending, (some, e, (packets, refl, reads)))

fault_read : (s : State) (octets : List ℕ) (f : CaptureFault) → front_at s octets ≡ Err f → IsRead s octets
unfolding Reads
fault_read s octets f e = ([], [], faulty s.packets s.place f, (refl, (e, refl, refl)))

by_front : (s : State) (octets : List ℕ) (r : Result Front CaptureFault) → front_at s octets ≡ r
    → ((f : Front) → front_at s octets ≡ Ok f → 0 < size_of f → IsRead s octets) → IsRead s octets
by_front s octets (Err f) e more = fault_read s octets f e
by_front s octets (Ok front.More) e more = open_read s octets e
by_front s octets (Ok (front.Packet r)) e more = more (front.Packet r) e (front_is_sound s octets (front.Packet r) e).2
by_front s octets (Ok (front.Begun o size)) e more = more (front.Begun o size) e (front_is_sound s octets (front.Begun o size) e).1
by_front s octets (Ok (front.Described i size)) e more = more (front.Described i size) e (front_is_sound s octets (front.Described i size) e).1
by_front s octets (Ok (front.Passed counts size)) e more = more (front.Passed counts size) e (front_is_sound s octets (front.Passed counts size) e).1

no_octets : (s : State) (octets : List ℕ) (f : Front) → length octets ≤ 0 → front_at s octets ≡ Ok f → 0 < size_of f → ⊥
no_octets s octets f few e some =
    let le = size_is_within (length octets) f (front_is_sound s octets f e) in omega (arith, le, few, some)

fewer : (s : State) (octets : List ℕ) (f : Front) (n : ℕ) → length octets ≤ suc n → 0 < size_of f → length (drop (size_of f) octets) ≤ n
fewer s octets f n few some = omega (arith, length-drop (size_of f) octets, few, some)

pub state_is_read : (n : ℕ) (s : State) (octets : List ℕ) → length octets ≤ n → IsRead s octets
state_is_read zero s octets few = by_front s octets (front_at s octets) refl (λ f e some. absurd (no_octets s octets f few e some))
state_is_read (suc n) s octets few =
    by_front s octets (front_at s octets) refl (λ f e some.
    can_continue s octets f e some (state_is_read n (after s f) (drop (size_of f) octets) (fewer s octets f n few some)))

after_is_read : (r : Result Opening CaptureFault) (octets : List ℕ) → (packets : List Packet) × (ending : Ending) × ReadsAfter r octets packets ending
after_is_read (Ok opening.More) octets = ([], cut 0, (refl, refl))
after_is_read (Ok (opening.Opened f size)) octets =
    let read = state_is_read (length (drop size octets)) (new_state f size) (drop size octets) (omega arith) in
    (read.1, read.2, (read.0, read.3))
after_is_read (Err f) octets = ([], faulty 0 0 f, (refl, refl))

pub each_is_read : (octets : List ℕ) → (packets : List Packet) × (ending : Ending) × ReadsFile octets packets ending
each_is_read octets = after_is_read (opening_at octets) octets

pub each_rest : (r : Reading) (rest : List ℕ) → (packets : List Packet) × (ending : Ending) × ReadsOn r rest packets ending
each_rest r rest =
    let whole = state_is_read (length (r.ahead ++ rest)) r.state (r.ahead ++ rest) (omega arith) in (whole.1, whole.2, (whole.0, whole.3))
