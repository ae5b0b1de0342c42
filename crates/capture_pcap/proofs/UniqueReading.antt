-- A file has exactly one reading.
use Rattle.std.proofs.Common.{◌≡◌, ◌<◌, ◌++◌, ◌∙◌, ℕ, List, [], ◌∷◌, length, drop, Result, Ok, Err, refl, sym, ap, subst, arith}
use Rattle.capture_pcap.specs.declared.next_block.Front.{Front}
use Rattle.capture_pcap.specs.declared.next_block.Front.TheVariants as front
use Rattle.capture_pcap.specs.declared.next_block.Interface.{Interface}
use Rattle.capture_pcap.specs.declared.fault.CaptureFault.{CaptureFault}
use Rattle.capture_pcap.specs.declared.block_reader.Format.{Format}
use Rattle.capture_pcap.specs.declared.block_reader.Format.TheVariants as format
use Rattle.capture_pcap.specs.declared.block_reader.Opening.{Opening}
use Rattle.capture_pcap.specs.declared.block_reader.Opening.TheVariants as opening
use Rattle.capture_pcap.specs.NextBlock.{pcap_at, pcapng_at}
use Rattle.capture_pcap.specs.File.{State, Packet, Ending, complete, cut, faulty, EndsAs, Reads, ReadsAfter, ReadsFile, front_at, front_by, size_of, after, packets_in, new_state, opening_at}

-- No bytes give no record or block.
nothing_by : (f : Format) (is : List Interface) → front_by f is [] ≡ Ok front.More
unfolding pcap_at pcapng_at
nothing_by (format.Pcap o parts link) is = refl
nothing_by (format.Pcapng o) is = refl

nothing_there : (s : State) (octets : List ℕ) → octets ≡ [] → front_at s octets ≡ Ok front.More
nothing_there s octets e = ap (λ (l : List ℕ). front_at s l) e ∙ nothing_by s.format s.interfaces

-- If more bytes are needed, there is no record or block.
has_no_size : (f : Front) → front.More ≡ f → 0 < size_of f → ⊥
has_no_size f e p = let q : 0 < 0 = subst (λ (x : Front). 0 < size_of x) (sym e) p in omega (arith, q)

pub continues_no_further : (r : Result Front CaptureFault) (f : Front) → r ≡ Ok front.More → r ≡ Ok f → 0 < size_of f → ⊥
continues_no_further r f is_more is_front p = has_no_size f (let e : front.More ≡ f = cc in e) p

pub ends_or_continues : (s : State) (octets : List ℕ) (e : Ending) (f : Front) → EndsAs s octets e → front_at s octets ≡ Ok f → 0 < size_of f → ⊥
ends_or_continues s octets complete f h is_front p = continues_no_further (front_at s octets) f (nothing_there s octets h) is_front p
ends_or_continues s octets (cut count) f h is_front p = continues_no_further (front_at s octets) f h.1 is_front p
ends_or_continues s octets (faulty count place g) f h is_front p = let is_fault = h.0 in absurd cc

pub ends_once : (s : State) (octets : List ℕ) (e other : Ending) → EndsAs s octets e → EndsAs s octets other → e ≡ other
ends_once s octets complete complete h k = refl
ends_once s octets complete (cut count) h k = let p = k.0 in let q : 0 < 0 = subst (λ (l : List ℕ). 0 < length l) h p in absurd (omega (arith, q))
ends_once s octets complete (faulty count place g) h k = let a = nothing_there s octets h in let b = k.0 in absurd cc
ends_once s octets (cut count) complete h k = let p = h.0 in let q : 0 < 0 = subst (λ (l : List ℕ). 0 < length l) k p in absurd (omega (arith, q))
ends_once s octets (cut count) (cut counted) h k = ap cut (h.2 ∙ sym k.2)
ends_once s octets (cut count) (faulty counted place g) h k = let a = h.1 in let b = k.0 in absurd cc
ends_once s octets (faulty count place g) complete h k = let a = nothing_there s octets k in let b = h.0 in absurd cc
ends_once s octets (faulty count place g) (cut counted) h k = let a = k.1 in let b = h.0 in absurd cc
ends_once s octets (faulty count place g) (faulty counted there f) h k =
    let a = h.0 in let b = k.0 in let c = h.1 in let d = k.1 in let n = h.2 in let m = k.2 in cc

pub same_front : (r : Result Front CaptureFault) (f g : Front) → r ≡ Ok f → r ≡ Ok g → f ≡ g
same_front r f g a b = cc

reads_once : (fs gs : List Front) (s : State) (octets : List ℕ) (packets others : List Packet) (e other : Ending) → Reads fs s octets packets e
    → Reads gs s octets others other → (packets ≡ others) × (e ≡ other)
unfolding Reads
reads_once [] [] s octets packets others e other h k = (h.0 ∙ sym k.0, ends_once s octets e other h.1 k.1)
reads_once [] (g ∷ gs) s octets packets others e other h k = absurd (ends_or_continues s octets e g h.1 k.1 k.0)
reads_once (f ∷ fs) [] s octets packets others e other h k = absurd (ends_or_continues s octets other f k.1 h.1 h.0)
reads_once (f ∷ fs) (g ∷ gs) s octets packets others e other h k =
    let same = same_front (front_at s octets) f g h.1 k.1 in
    let tail = h.2 in
    let there = k.2 in
    let k2 : Reads gs (after s f) (drop (size_of f) octets) there.0 other =
    subst (λ (x : Front). Reads gs (after s x) (drop (size_of x) octets) there.0 other) (sym same) there.2 in
    let rest = reads_once fs gs (after s f) (drop (size_of f) octets) tail.0 there.0 e other tail.2 k2 in
    let is_rest : packets_in s octets f ++ tail.0 ≡ packets_in s octets g ++ there.0 =
    ap (λ (x : Front). packets_in s octets x ++ tail.0) same ∙ ap (λ (l : List Packet). packets_in s octets g ++ l) rest.0 in
    (tail.1 ∙ is_rest ∙ sym there.1, rest.1)

after_once : (r : Result Opening CaptureFault) (octets : List ℕ) (packets others : List Packet) (e other : Ending) → ReadsAfter r octets packets e
    → ReadsAfter r octets others other → (packets ≡ others) × (e ≡ other)
after_once (Ok opening.More) octets packets others e other h k = (h.0 ∙ sym k.0, h.1 ∙ sym k.1)
after_once (Ok (opening.Opened f size)) octets packets others e other h k =
    reads_once h.0 k.0 (new_state f size) (drop size octets) packets others e other h.1 k.1
after_once (Err f) octets packets others e other h k = (h.0 ∙ sym k.0, h.1 ∙ sym k.1)

pub one_reading : (octets : List ℕ) (packets others : List Packet) (e other : Ending) → ReadsFile octets packets e
    → ReadsFile octets others other → (packets ≡ others) × (e ≡ other)
one_reading octets packets others e other h k = after_once (opening_at octets) octets packets others e other h k
