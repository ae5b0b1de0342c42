-- A file that is read in blocks: a step emits what was to be emitted.
use Rattle.std.proofs.Common.{◌≡◌, inl, inr, min, ◌≤◌, ◌<◌, ◌+◌, ◌-◌, ◌++◌, ◌∙◌, ℕ, Bool, true, false, List, [], ◌∷◌, length, take, drop, Option, None, Some, Result, Ok, Err, refl, sym, ap, subst, arith}
use Rattle.std.proofs.lemmas.List.{append_assoc, take-append-drop, append-nil, append_cancel_left, drop-append-le, drop-take, length-take-le, take-take}
use Rattle.hsms_frame.specs.Io.{IfRecorded, IsAtEnd, Stays}
use Rattle.capture_pcap.specs.declared.next_block.Front.{Front}
use Rattle.capture_pcap.specs.declared.next_block.Front.TheVariants as front
use Rattle.capture_pcap.specs.declared.fault.CaptureFault.{CaptureFault}
use Rattle.capture_pcap.specs.declared.fault.FileFault.{FileFault}
use Rattle.capture_pcap.specs.declared.fault.FileFault.TheVariants as stop
use Rattle.capture_pcap.specs.declared.next_block.Record.{Record}
use Rattle.capture_pcap.specs.declared.packet_reader.Step.{Step}
use Rattle.capture_pcap.specs.declared.packet_reader.Step.TheVariants as step
use Rattle.capture_pcap.specs.declared.block_reader.Format.{Format}
use Rattle.capture_pcap.specs.declared.block_reader.Opening.{Opening}
use Rattle.capture_pcap.specs.declared.block_reader.Opening.TheVariants as opening
use Rattle.capture_pcap.specs.File.{State, Packet, Ending, complete, cut, faulty, EndsAs, Reads, ReadsAfter, ReadsFile, front_at, size_of, after, packets_in, greatest_count, new_state, opening_at}
use Rattle.hsms_frame.specs.ReadAhead.{ReadsMore}
use Rattle.capture_pcap.specs.BlockReader.{CountsOn, ends_after_open, Reading, ReadsOn, OpensAs, StepIsWithin, StepsAs, TakesFront, TakesHeader, TakesOn, Emits, packet_of}
use Rattle.capture_pcap.specs.InnerBlockReader.{IsOfDevice, ends_after_find, ReadsAll, ReadsFor, OpensFor, FindsFront, FindsOpening, EndsWith, front_reported, is_more, is_unopened, opening_reported, step_of}
use Rattle.capture_pcap.proofs.ReaderSteps.{IsSound, front_is_sound, size_is_within, open_is_short, opening_is_short, opening_is_there}
use Rattle.capture_pcap.proofs.UnchangedBlocks.{found_stays, fault_stays, packets_stay, opening_keeps, Keeps}

-- ---- reading more

-- More bytes were read after those that were read before.
pub more_on : (before mid now input : List ℕ) (left new : Option (List ℕ)) → ReadsMore before input mid left
    → IfRecorded left (λ rest. ReadsMore mid rest now new) → ReadsMore before input now new
more_on before mid now input left new (rest, known_input, same) more =
    let m = more rest known_input in (m.0, m.1, same ∙ m.2)

-- Nothing more was read.
pub more_stays : (before mid now input : List ℕ) (left new : Option (List ℕ)) → ReadsMore before input mid left → now ≡ mid → Stays left new
    → ReadsMore before input now new
more_stays before mid now input left new (rest, known_input, same) is stays =
    (rest, stays rest known_input, same ∙ ap (λ (l : List ℕ). l ++ rest) (sym is))

-- The input ends.
pub all_read : (before mid now input : List ℕ) (left new : Option (List ℕ)) → ReadsMore before input mid left → now ≡ mid → IsAtEnd left
    → IfRecorded left (λ rest. ReadsMore mid rest now new) → ReadsAll before input now new
all_read before mid now input left new (rest, known_input, same) is ended more =
    let m = more rest known_input in
    let none : rest ≡ [] = ended rest known_input in
    let left_is : mid ++ [] ≡ mid ++ m.0 = ap (λ (l : List ℕ). mid ++ l) (sym none) ∙ m.2 ∙ ap (λ (l : List ℕ). l ++ m.0) is in
    let nothing : [] ≡ m.0 = append_cancel_left mid [] m.0 left_is in
    (m.1 ∙ ap Some (sym nothing), same ∙ ap (λ (l : List ℕ). mid ++ l) none ∙ append-nil mid ∙ sym is)

-- ---- what stopped a read

pub device_reads : (T : Type 0) (f : FileFault) (before now input : List ℕ) (left : Option (List ℕ)) → IsOfDevice f → ReadsMore before input now left
    → ReadsFor {T = T} (Err f) before input now left
device_reads T (stop.Capture place f) before now input left is read = absurd is
device_reads T stop.CutOff before now input left is read = absurd is
device_reads T stop.Read before now input left is read = read
device_reads T stop.Memory before now input left is read = read

pub device_opens : (T : Type 0) (f : FileFault) (before now input : List ℕ) (left : Option (List ℕ)) → IsOfDevice f → ReadsMore before input now left
    → OpensFor {T = T} (Err f) before input now left
device_opens T (stop.Capture place f) before now input left is read = absurd is
device_opens T stop.CutOff before now input left is read = absurd is
device_opens T stop.Read before now input left is read = read
device_opens T stop.Memory before now input left is read = read

pub device_finds : (s : State) (octets : List ℕ) (f : FileFault) → IsOfDevice f → FindsFront s octets (Err f)
device_finds s octets (stop.Capture place f) is = absurd is
device_finds s octets stop.CutOff is = absurd is
device_finds s octets stop.Read is = tt
device_finds s octets stop.Memory is = tt

pub device_finds_opening : (octets : List ℕ) (f : FileFault) → IsOfDevice f → FindsOpening octets (Err f)
device_finds_opening octets (stop.Capture place f) is = absurd is
device_finds_opening octets stop.CutOff is = absurd is
device_finds_opening octets stop.Read is = tt
device_finds_opening octets stop.Memory is = tt

pub device_ends : (T : Type 0) (f : FileFault) (n : ℕ) → IsOfDevice f → n ≡ ends_after_find {T = T} (Err f) n
device_ends T (stop.Capture place f) n is = absurd is
device_ends T stop.CutOff n is = absurd is
device_ends T stop.Read n is = refl
device_ends T stop.Memory n is = refl

pub device_ends_open : (T : Type 0) (f : FileFault) (n : ℕ) → IsOfDevice f → n ≡ ends_after_open {T = T} (Err f) n
device_ends_open T (stop.Capture place f) n is = absurd is
device_ends_open T stop.CutOff n is = absurd is
device_ends_open T stop.Read n is = refl
device_ends_open T stop.Memory n is = refl

-- ---- what is found

pub is_open : (r : Result Front CaptureFault) → is_more r ≡ true → r ≡ Ok front.More
is_open (Ok front.More) e = refl
is_open (Ok (front.Packet r)) e = absurd cc
is_open (Ok (front.Begun o size)) e = absurd cc
is_open (Ok (front.Described i size)) e = absurd cc
is_open (Ok (front.Passed counts size)) e = absurd cc
is_open (Err f) e = absurd cc

-- More bytes are needed only if there are few.
pub open_short : (s : State) (octets : List ℕ) (found : Result Front CaptureFault) (b : Bool) → found ≡ front_at s octets → b ≡ is_more found → b ≡ true
    → length octets < 16777232
open_short s octets found b found_is b_is is =
    let short = open_is_short s octets (sym found_is ∙ is_open found (sym b_is ∙ is)) in omega (arith, short)

size_is_some : (n : ℕ) (f : Front) → IsSound n f → is_more (Ok f) ≡ false → 0 < size_of f
size_is_some n front.More sound e = absurd cc
size_is_some n (front.Packet r) sound e = sound.2
size_is_some n (front.Begun o size) sound e = sound.1
size_is_some n (front.Described i size) sound e = sound.1
size_is_some n (front.Passed counts size) sound e = sound.1

pub reported_finds : (s : State) (octets : List ℕ) (place : ℕ) (found : Result Front CaptureFault) (known_input : Result (Option Front) FileFault) (b : Bool)
    → found ≡ front_at s octets → b ≡ is_more found → b ≡ false → place ≡ s.place → known_input ≡ front_reported place found → FindsFront s octets known_input
reported_finds s octets place (Ok f) known_input b found_is b_is is place_is reported_is =
    subst (λ (r : Result (Option Front) FileFault). FindsFront s octets r) (sym reported_is)
    (sym found_is, size_is_some (length octets) f (front_is_sound s octets f (sym found_is)) (sym b_is ∙ is))
reported_finds s octets place (Err f) known_input b found_is b_is is place_is reported_is =
    subst (λ (r : Result (Option Front) FileFault). FindsFront s octets r) (sym reported_is) (sym found_is, place_is)

pub ends_read : (octets before now input : List ℕ) (r : Result (Option Front) FileFault) (left : Option (List ℕ)) → EndsWith octets r
    → ReadsAll before input now left → ReadsFor r before input now left
ends_read octets before now input (Ok (Some f)) left ends read = let none = ends.0 in absurd cc
ends_read octets before now input (Ok None) left ends read = read
ends_read octets before now input (Err (stop.Capture place f)) left ends read = let is = ends.0 in absurd cc
ends_read octets before now input (Err stop.CutOff) left ends read = read
ends_read octets before now input (Err stop.Read) left ends read = let is = ends.0 in absurd cc
ends_read octets before now input (Err stop.Memory) left ends read = let is = ends.0 in absurd cc

pub is_open_opening : (r : Result Opening CaptureFault) → is_unopened r ≡ true → r ≡ Ok opening.More
is_open_opening (Ok opening.More) e = refl
is_open_opening (Ok (opening.Opened f size)) e = absurd cc
is_open_opening (Err f) e = absurd cc

pub opening_more : (octets : List ℕ) (found : Result Opening CaptureFault) (b : Bool) → found ≡ opening_at octets → b ≡ is_unopened found → b ≡ true
    → opening_at octets ≡ Ok opening.More
opening_more octets found b found_is b_is is = sym found_is ∙ is_open_opening found (sym b_is ∙ is)

pub opening_short : (octets : List ℕ) (found : Result Opening CaptureFault) (b : Bool) → found ≡ opening_at octets → b ≡ is_unopened found → b ≡ true
    → length octets < 24
opening_short octets found b found_is b_is is = opening_is_short octets (opening_more octets found b found_is b_is is)

pub reported_opens : (octets : List ℕ) (found : Result Opening CaptureFault) (known_input : Result (Format × ℕ) FileFault) → found ≡ opening_at octets
    → known_input ≡ opening_reported found → FindsOpening octets known_input
reported_opens octets (Ok opening.More) known_input found_is reported_is =
    subst (λ (r : Result (Format × ℕ) FileFault). FindsOpening octets r) (sym reported_is) (sym found_is)
reported_opens octets (Ok (opening.Opened f size)) known_input found_is reported_is =
    subst (λ (r : Result (Format × ℕ) FileFault). FindsOpening octets r) (sym reported_is) (sym found_is)
reported_opens octets (Err f) known_input found_is reported_is =
    subst (λ (r : Result (Format × ℕ) FileFault). FindsOpening octets r) (sym reported_is) (sym found_is, refl)

-- ---- one step

pub step_reads : (s : State) (ahead rest : List ℕ) (f : Front) (fs : List Front) (others : List Packet) (ending : Ending) → front_at s ahead ≡ Ok f
    → 0 < size_of f → Reads fs (after s f) (drop (size_of f) ahead ++ rest) others ending → Reads (f ∷ fs) s (ahead ++ rest) (packets_in s ahead f ++ others) ending
unfolding Reads
step_reads s ahead rest f fs others ending is some reads =
    let sound = front_is_sound s ahead f is in
    let subsequent = drop-append-le (size_of f) ahead rest (size_is_within (length ahead) f sound) in (
      some,
      found_stays s ahead rest f is some,
      (
        others,
        ap (λ (l : List Packet). l ++ others) (sym (packets_stay s ahead rest f sound)),
        subst (λ (l : List ℕ). Reads fs (after s f) l others ending) (sym subsequent) reads,
      ),
    )

-- A record or block was passed.
pub passed_reported : (was now : Reading) (ahead input rest : List ℕ) (f : Front) (left : Option (List ℕ)) → was.ahead ++ input ≡ ahead ++ rest
    → left ≡ Some rest → front_at was.state ahead ≡ Ok f → 0 < size_of f → now.state ≡ after was.state f → now.ahead ≡ drop (size_of f) ahead
    → Emits (ReadsOn was input) (packets_in was.state ahead f) now left
passed_reported was now ahead input rest f left parts left_is is some state_is ahead_is = (
  rest,
  left_is,
  λ others ending reads.
      let r1 : Reads reads.0 (after was.state f) (now.ahead ++ rest) others ending =
      subst (λ (s : State). Reads reads.0 s (now.ahead ++ rest) others ending) state_is reads.1 in
      let r2 : Reads reads.0 (after was.state f) (drop (size_of f) ahead ++ rest) others ending =
      subst (λ (l : List ℕ). Reads reads.0 (after was.state f) (l ++ rest) others ending) ahead_is r1 in (
        f ∷ reads.0,
        subst (λ (l : List ℕ). Reads (f ∷ reads.0) was.state l (packets_in was.state ahead f ++ others) ending) (sym parts)
            (step_reads was.state ahead rest f reads.0 others ending is some r2),
      ),
)

-- Nothing was passed.
pub nothing_reported : (was now : Reading) (input rest : List ℕ) (left : Option (List ℕ)) → was.ahead ++ input ≡ now.ahead ++ rest → left ≡ Some rest
    → now.state ≡ was.state → Emits (ReadsOn was input) [] now left
nothing_reported was now input rest left parts left_is state_is = (
  rest,
  left_is,
  λ others ending reads. (
    reads.0,
    subst (λ (l : List ℕ). Reads reads.0 was.state l others ending) (sym parts)
        (subst (λ (s : State). Reads reads.0 s (now.ahead ++ rest) others ending) state_is reads.1),
  ),
)

ends_here : (s : State) (octets : List ℕ) (e : Ending) → EndsAs s octets e → Reads [] s octets [] e
unfolding Reads
ends_here s octets e ends = (refl, ends)

-- The file ends, and these are all its bytes.
pub ended_on : (was : Reading) (input ahead : List ℕ) (e : Ending) → was.ahead ++ input ≡ ahead → EndsAs was.state ahead e → ReadsOn was input [] e
ended_on was input ahead e parts ends =
    ([], subst (λ (l : List ℕ). Reads [] was.state l [] e) (sym parts) (ends_here was.state ahead e ends))

-- There is an error, whatever follows.
pub fault_on : (was : Reading) (input ahead rest : List ℕ) (f : CaptureFault) (place : ℕ) → was.ahead ++ input ≡ ahead ++ rest
    → front_at was.state ahead ≡ Err f → place ≡ was.state.place → ReadsOn was input [] (faulty was.state.packets place f)
fault_on was input ahead rest f place parts is place_is =
    ended_on was input (ahead ++ rest) (faulty was.state.packets place f) parts (fault_stays was.state ahead rest f is, place_is, refl)

-- A step that passes nothing.
pub stopped_steps : (was now : Reading) (input ahead : List ℕ) (f : FileFault) (left : Option (List ℕ))
    → ReadsFor {T = Front} (Err f) was.ahead input ahead left → FindsFront was.state ahead (Err f) → now.state ≡ was.state → now.ahead ≡ ahead
    → StepsAs was input (Err f) now left
stopped_steps was now input ahead (stop.Capture place f) left read found state_is ahead_is =
    let parts : was.ahead ++ input ≡ now.ahead ++ read.0 = read.2 ∙ ap (λ (l : List ℕ). l ++ read.0) (sym ahead_is) in
    let counted = ap (λ (s : State). s.packets) (sym state_is) in (
      nothing_reported was now input read.0 left parts read.1 state_is,
      subst (λ (n : ℕ). ReadsOn was input [] (faulty n place f)) counted (fault_on was input ahead read.0 f place read.2 found.0 found.1),
    )
stopped_steps was now input ahead stop.CutOff left read found state_is ahead_is =
    let parts : was.ahead ++ input ≡ now.ahead ++ [] = read.1 ∙ sym ahead_is ∙ sym (append-nil now.ahead) in
    let counted = ap (λ (s : State). s.packets) state_is in
    (nothing_reported was now input [] left parts read.0 state_is, ended_on was input ahead (cut now.state.packets) read.1 (found.0, found.1, counted), read.0)
stopped_steps was now input ahead stop.Read left read found state_is ahead_is =
    nothing_reported was now input read.0 left (read.2 ∙ ap (λ (l : List ℕ). l ++ read.0) (sym ahead_is)) read.1 state_is
stopped_steps was now input ahead stop.Memory left read found state_is ahead_is =
    nothing_reported was now input read.0 left (read.2 ∙ ap (λ (l : List ℕ). l ++ read.0) (sym ahead_is)) read.1 state_is

-- The last step.
pub ended_steps : (was now : Reading) (input ahead : List ℕ) (left : Option (List ℕ)) → ReadsAll was.ahead input ahead left → ahead ≡ []
    → now.state ≡ was.state → now.ahead ≡ ahead → StepsAs was input (Ok step.End) now left
ended_steps was now input ahead left read none state_is ahead_is =
    let parts : was.ahead ++ input ≡ now.ahead ++ [] = read.1 ∙ sym ahead_is ∙ sym (append-nil now.ahead) in
    (nothing_reported was now input [] left parts read.0 state_is, ended_on was input ahead complete read.1 none, read.0)

-- A part of the bytes of a record or block is that part of all bytes.
within_front : (body held size : ℕ) (xs : List ℕ) → body + held ≤ size → take held (drop body (take size xs)) ≡ take held (drop body xs)
within_front body held size xs fits =
    let parts : size ≡ body + (size - body) = omega (arith, fits) in
    let short : held ≤ size - body = omega (arith, fits) in
    ap (λ (n : ℕ). take held (drop body (take n xs))) parts ∙ ap (λ (l : List ℕ). take held l) (drop-take body (size - body) xs)
    ∙ take-take held (size - body) (drop body xs) short

packet_is : (s now : State) (ahead last : List ℕ) (r : Record) (n : ℕ) → now ≡ after s (front.Packet r) → n ≡ now.packets → last ≡ take r.size ahead
    → r.body + r.held ≤ r.size → packets_in s ahead (front.Packet r) ≡ packet_of n r last ∷ []
packet_is s now ahead last r n now_is n_is last_is fits =
    let number : n ≡ min (s.packets + 1) greatest_count = n_is ∙ ap (λ (t : State). t.packets) now_is in
    let octets : take r.held (drop r.body last) ≡ take r.held (drop r.body ahead) =
    ap (λ (l : List ℕ). take r.held (drop r.body l)) last_is ∙ within_front r.body r.held r.size ahead fits in
    rw (number, octets) refl

-- A step that passes a record or block.
pub passed_steps : (was now : Reading) (input ahead : List ℕ) (f : Front) (n : ℕ) (known_input : Step) (left : Option (List ℕ)) → ReadsMore was.ahead input ahead left
    → front_at was.state ahead ≡ Ok f → 0 < size_of f → now.state ≡ after was.state f → now.ahead ≡ drop (size_of f) ahead → now.last ≡ take (size_of f) ahead
    → n ≡ now.state.packets → known_input ≡ step_of n f → StepsAs was input (Ok known_input) now left
passed_steps was now input ahead f n known_input left read is some state_is ahead_is last_is n_is reported_is =
    let emits = passed_reported was now ahead input read.0 f left read.2 read.1 is some state_is ahead_is in
    subst (λ (t : Step). StepsAs was input (Ok t) now left) (sym reported_is) (by_front f is some state_is last_is emits)
  where
    by_front : (f : Front) → front_at was.state ahead ≡ Ok f → 0 < size_of f → now.state ≡ after was.state f → now.last ≡ take (size_of f) ahead
        → Emits (ReadsOn was input) (packets_in was.state ahead f) now left → StepsAs was input (Ok (step_of n f)) now left
    by_front front.More is some state_is last_is emits = absurd (omega (arith, some))
    by_front (front.Packet r) is some state_is last_is emits =
        let sound = front_is_sound was.state ahead (front.Packet r) is in
        subst (λ (l : List Packet). Emits (ReadsOn was input) l now left) (packet_is was.state now.state ahead now.last r n state_is n_is last_is sound.0) emits
    by_front (front.Begun o size) is some state_is last_is emits = emits
    by_front (front.Described i size) is some state_is last_is emits = emits
    by_front (front.Passed counts size) is some state_is last_is emits = emits

-- ---- the first bytes

opening_stays : (ahead rest : List ℕ) (f : Format) (size : ℕ) → opening_at ahead ≡ Ok (opening.Opened f size) → opening_at (ahead ++ rest) ≡ Ok (opening.Opened f size)
opening_stays ahead rest f size is = by_keeps (opening_keeps ahead rest)
  where
    by_keeps : Keeps opening.More (opening_at ahead) (opening_at (ahead ++ rest)) → opening_at (ahead ++ rest) ≡ Ok (opening.Opened f size)
    by_keeps (inl unfinished) = absurd cc
    by_keeps (inr same) = same ∙ is

refusal_stays : (ahead rest : List ℕ) (e : CaptureFault) → opening_at ahead ≡ Err e → opening_at (ahead ++ rest) ≡ Err e
refusal_stays ahead rest e is = by_keeps (opening_keeps ahead rest)
  where
    by_keeps : Keeps opening.More (opening_at ahead) (opening_at (ahead ++ rest)) → opening_at (ahead ++ rest) ≡ Err e
    by_keeps (inl unfinished) = absurd cc
    by_keeps (inr same) = same ∙ is

pub opened : (now : Reading) (input ahead : List ℕ) (f : Format) (size : ℕ) (left : Option (List ℕ)) → ReadsMore [] input ahead left
    → opening_at ahead ≡ Ok (opening.Opened f size) → now.state ≡ new_state f size → now.ahead ≡ drop size ahead → OpensAs input (Ok now) left
opened now input ahead f size left (rest, left_is, parts) is state_is ahead_is =
    let subsequent = drop-append-le size ahead rest (opening_is_there ahead f size is) in (
      rest,
      left_is,
      λ others ending reads.
          let r1 : Reads reads.0 (new_state f size) (now.ahead ++ rest) others ending =
          subst (λ (s : State). Reads reads.0 s (now.ahead ++ rest) others ending) state_is reads.1 in
          let r2 : Reads reads.0 (new_state f size) (drop size ahead ++ rest) others ending =
          subst (λ (l : List ℕ). Reads reads.0 (new_state f size) (l ++ rest) others ending) ahead_is r1 in
          let r3 : Reads reads.0 (new_state f size) (drop size (ahead ++ rest)) others ending =
          subst (λ (l : List ℕ). Reads reads.0 (new_state f size) l others ending) (sym subsequent) r2 in
          let r4 : ReadsFile (ahead ++ rest) others ending =
          subst (λ r. ReadsAfter r (ahead ++ rest) others ending) (sym (opening_stays ahead rest f size is)) (reads.0, r3) in
          subst (λ (l : List ℕ). ReadsFile l others ending) (sym parts) r4,
    )

pub not_opened : (input ahead : List ℕ) (f : FileFault) (left : Option (List ℕ)) → OpensFor {T = Format × ℕ} (Err f) [] input ahead left
    → FindsOpening ahead (Err f) → OpensAs input (Err f) left
not_opened input ahead (stop.Capture place f) left (rest, left_is, parts) found =
    let reads : ReadsFile (ahead ++ rest) [] (faulty 0 place f) =
    subst (λ r. ReadsAfter r (ahead ++ rest) [] (faulty 0 place f)) (sym (refusal_stays ahead rest f found.0)) (refl, ap (λ (n : ℕ). faulty 0 n f) found.1) in
    (subst (λ (l : List ℕ). ReadsFile l [] (faulty 0 place f)) (sym parts) reads, (ahead, rest, parts, left_is))
not_opened input ahead stop.CutOff left read found =
    let reads : ReadsFile ahead [] (cut 0) = subst (λ r. ReadsAfter r ahead [] (cut 0)) (sym found) (refl, refl) in
    (subst (λ (l : List ℕ). ReadsFile l [] (cut 0)) (sym read.1) reads, read.0)
not_opened input ahead stop.Read left (rest, left_is, parts) found = (ahead, rest, parts, left_is)
not_opened input ahead stop.Memory left (rest, left_is, parts) found = (ahead, rest, parts, left_is)

-- ---- a step, by what is known when it returns

pub err_step : (was now : Reading) (s : State) (before ahead input : List ℕ) (f : FileFault) (left : Option (List ℕ)) → s ≡ was.state → before ≡ was.ahead
    → ReadsFor {T = Front} (Err f) before input ahead left → FindsFront s ahead (Err f) → now.state ≡ s → now.ahead ≡ ahead → StepsAs was input (Err f) now left
err_step was now s before ahead input f left s_is before_is read found state_is ahead_is =
    stopped_steps was now input ahead f left (subst (λ (l : List ℕ). ReadsFor {T = Front} (Err f) l input ahead left) before_is read)
    (subst (λ (t : State). FindsFront t ahead (Err f)) s_is found) (state_is ∙ s_is) ahead_is

pub end_step : (was now : Reading) (s : State) (before ahead input : List ℕ) (left : Option (List ℕ)) → s ≡ was.state → before ≡ was.ahead
    → ReadsAll before input ahead left → ahead ≡ [] → now.state ≡ s → now.ahead ≡ ahead → StepsAs was input (Ok step.End) now left
end_step was now s before ahead input left s_is before_is read none state_is ahead_is =
    ended_steps was now input ahead left (subst (λ (l : List ℕ). ReadsAll l input ahead left) before_is read) none (state_is ∙ s_is) ahead_is

pub pass_step : (was now : Reading) (s : State) (before ahead input : List ℕ) (f : Front) (n size : ℕ) (known_input : Step) (left : Option (List ℕ)) → s ≡ was.state
    → before ≡ was.ahead → ReadsMore before input ahead left → (front_at s ahead ≡ Ok f) × (0 < size_of f) → size ≡ size_of f → now.state ≡ after s f
    → now.ahead ≡ drop size ahead → now.last ≡ take size ahead → n ≡ now.state.packets → known_input ≡ step_of n f → StepsAs was input (Ok known_input) now left
pass_step was now s before ahead input f n size known_input left s_is before_is read found size_is state_is ahead_is last_is n_is reported_is =
    passed_steps was now input ahead f n known_input left (subst (λ (l : List ℕ). ReadsMore l input ahead left) before_is read)
    (subst (λ (t : State). front_at t ahead ≡ Ok f) s_is found.0) found.1 (state_is ∙ ap (λ (t : State). after t f) s_is)
    (ahead_is ∙ ap (λ (k : ℕ). drop k ahead) size_is) (last_is ∙ ap (λ (k : ℕ). take k ahead) size_is) n_is reported_is

pub size_fits : (s : State) (ahead : List ℕ) (f : Front) (size : ℕ) → (front_at s ahead ≡ Ok f) × (0 < size_of f) → size ≡ size_of f → size ≤ length ahead
size_fits s ahead f size found size_is =
    let within = size_is_within (length ahead) f (front_is_sound s ahead f found.0) in omega (arith, within, size_is)

pub step_is_within : (s : State) (ahead : List ℕ) (f : Front) (n size : ℕ) (known_input : Step) → (front_at s ahead ≡ Ok f) × (0 < size_of f) → size ≡ size_of f
    → known_input ≡ step_of n f → StepIsWithin (length (take size ahead)) known_input
step_is_within s ahead f n size known_input found size_is reported_is =
    let len : length (take size ahead) ≡ size = length-take-le size ahead (size_fits s ahead f size found size_is) in
    subst (λ (t : Step). StepIsWithin (length (take size ahead)) t) (sym reported_is) (by_front f found.0 (len ∙ size_is))
  where
    by_front : (f : Front) → front_at s ahead ≡ Ok f → length (take size ahead) ≡ size_of f → StepIsWithin (length (take size ahead)) (step_of n f)
    by_front front.More is len = tt
    by_front (front.Packet r) is len = let fits = (front_is_sound s ahead (front.Packet r) is).0 in omega (arith, fits, len)
    by_front (front.Begun o size) is len = tt
    by_front (front.Described i size) is len = tt
    by_front (front.Passed counts size) is len = tt

-- The number of packets that were passed.
pub counts_on : (s now : State) (f : Front) (n : ℕ) (known_input : Step) → now ≡ after s f → n ≡ now.packets → known_input ≡ step_of n f → CountsOn known_input s.packets now.packets
counts_on s now f n known_input now_is n_is reported_is =
    subst (λ (t : Step). CountsOn t s.packets now.packets) (sym reported_is) (by_front f (ap (λ (t : State). t.packets) now_is))
  where
    by_front : (f : Front) → now.packets ≡ (after s f).packets → CountsOn (step_of n f) s.packets now.packets
    by_front front.More is = inl is
    by_front (front.Packet r) is = (n_is ∙ is, sym n_is)
    by_front (front.Begun o size) is = inl is
    by_front (front.Described i size) is = inl is
    by_front (front.Passed true size) is = inr is
    by_front (front.Passed false size) is = inl is

-- ---- what is passed

pub takes_front : (was now : Reading) (before octets input : List ℕ) (n : ℕ) (left : Option (List ℕ)) → before ≡ was.ahead
    → ReadsMore before input octets left → now.last ≡ take n octets → now.ahead ≡ drop n octets → 0 < n → n ≤ length octets
    → TakesFront was input now left
takes_front was now before octets input n left before_is (rest, known_input, same) last_is ahead_is some fits =
    let cut = take-append-drop n octets in
    let parts : octets ≡ now.last ++ now.ahead = sym cut ∙ ap (λ (l : List ℕ). l ++ drop n octets) (sym last_is) ∙ ap (λ (l : List ℕ). now.last ++ l) (sym ahead_is) in
    let long : length now.last ≡ n = ap length last_is ∙ length-take-le n octets fits in (
      rest,
      known_input,
      ap (λ (l : List ℕ). l ++ input) (sym before_is) ∙ same ∙ ap (λ (l : List ℕ). l ++ rest) parts ∙ append_assoc now.last now.ahead rest,
      omega (arith, long, some),
    )

pub takes_on : (was now : Reading) (input : List ℕ) (left : Option (List ℕ)) (st : Step) → TakesFront was input now left → TakesOn was input now left st
takes_on was now input left (step.Packet n r) takes = takes
takes_on was now input left step.Passed takes = takes
takes_on was now input left step.End takes = tt

pub takes_header : (now : Reading) (octets input : List ℕ) (n : ℕ) (left : Option (List ℕ)) → ReadsMore [] input octets left → now.ahead ≡ drop n octets
    → TakesHeader input left now
takes_header now octets input n left (rest, known_input, same) ahead_is =
    let cut = take-append-drop n octets in (
      take n octets,
      rest,
      known_input,
      same ∙ ap (λ (l : List ℕ). l ++ rest) (sym cut) ∙ append_assoc (take n octets) (drop n octets) rest
          ∙ ap (λ (l : List ℕ). take n octets ++ (l ++ rest)) (sym ahead_is),
    )
