-- The bytes that calls of a framer took, and the messages that they returned.
use Rattle.std.proofs.Common.{◌≡◌, ◌≤◌, ◌+◌, ◌++◌, ℕ, List, [], ◌∷◌, length, Some, None, Ok, Err, refl, sym, ◌∙◌, ap, subst}
use Rattle.std.specs.Prelude.{flat_map}
use Rattle.std.proofs.lemmas.List.{append-nil, append_assoc}
use Rattle.hsms_frame.specs.declared.fault.FrameFault.{FrameFault}
use Rattle.hsms_frame.specs.declared.fault.FrameFault.TheVariants.{TooShort, TooLong, Memory}
use Rattle.hsms_frame.specs.Frame.{Frame, frame_octets, IsFrame}
use Rattle.hsms_frame.specs.Framing.{FramerState, FramesAs}
use Rattle.hsms_frame.specs.Calls.{Call, Push, Next, Performs, PerformsAll, octets_of, message_of, IsDrained}
use Rattle.hsms_frame.proofs.Determined.{same_front}

-- An error leaves the pending bytes unchanged.
fault_keeps : (max : ℕ) (pending rest : List ℕ) (fault : FrameFault) → FramesAs max pending (Err fault) rest → rest ≡ pending
fault_keeps max pending rest (TooShort n) h = h.1
fault_keeps max pending rest (TooLong n g) h = h.1
fault_keeps max pending rest Memory h = h.6

pub gives_what_was_pushed : (old new : FramerState) (calls : List Call) → PerformsAll old calls new
    → old.pending ++ flat_map octets_of calls ≡ flat_map frame_octets (flat_map message_of calls) ++ new.pending
gives_what_was_pushed old new [] h = append-nil old.pending ∙ ap (λ (s : FramerState). s.pending) (sym h)
gives_what_was_pushed old new (Push octets (Ok u) ∷ calls) (mid, does, more) =
    sym (append_assoc old.pending octets (flat_map octets_of calls))
    ∙ ap (λ (s : FramerState). s.pending ++ flat_map octets_of calls) (sym does)
    ∙ gives_what_was_pushed mid new calls more
gives_what_was_pushed old new (Push octets (Err e) ∷ calls) (mid, does, more) =
    ap (λ (s : FramerState). s.pending ++ flat_map octets_of calls) (sym does) ∙ gives_what_was_pushed mid new calls more
gives_what_was_pushed old new (Next (Ok (Some f)) ∷ calls) (mid, does, more) =
    ap (λ xs. xs ++ flat_map octets_of calls) does.0.0
    ∙ append_assoc (frame_octets f) mid.pending (flat_map octets_of calls)
    ∙ ap (λ xs. frame_octets f ++ xs) (gives_what_was_pushed mid new calls more)
    ∙ sym (append_assoc (frame_octets f) (flat_map frame_octets (flat_map message_of calls)) new.pending)
gives_what_was_pushed old new (Next (Ok None) ∷ calls) (mid, does, more) =
    ap (λ xs. xs ++ flat_map octets_of calls) (sym does.0.2) ∙ gives_what_was_pushed mid new calls more
gives_what_was_pushed old new (Next (Err e) ∷ calls) (mid, does, more) =
    ap (λ xs. xs ++ flat_map octets_of calls) (sym (fault_keeps old.max old.pending mid.pending e does.0)) ∙ gives_what_was_pushed mid new calls more

-- Each is a message within the limit.
AreMessages : ℕ → List Frame → Type 0
AreMessages max [] = Unit {0}
AreMessages max (f ∷ fs) = IsFrame f × (10 + length f.text ≤ max) × AreMessages max fs

-- A call preserves the limit.
keeps_limit : (old mid : FramerState) (call : Call) → Performs old call mid → mid.max ≡ old.max
keeps_limit old mid (Push octets (Ok u)) does = ap (λ (s : FramerState). s.max) does
keeps_limit old mid (Push octets (Err e)) does = ap (λ (s : FramerState). s.max) does
keeps_limit old mid (Next answer) does = does.1

keep_limit : (old new : FramerState) (calls : List Call) → PerformsAll old calls new → new.max ≡ old.max
keep_limit old new [] h = ap (λ (s : FramerState). s.max) h
keep_limit old new (call ∷ calls) (mid, does, more) = keep_limit mid new calls more ∙ keeps_limit old mid call does

are_messages : (old new : FramerState) (calls : List Call) → PerformsAll old calls new → AreMessages old.max (flat_map message_of calls)
unfolding AreMessages
are_messages old new [] h = tt
are_messages old new (Push octets result ∷ calls) (mid, does, more) =
    let P : ℕ → Type 0 = λ n. AreMessages n (flat_map message_of calls) in
    subst P (keeps_limit old mid (Push octets result) does) (are_messages mid new calls more)
are_messages old new (Next (Ok (Some f)) ∷ calls) (mid, does, more) =
    let P : ℕ → Type 0 = λ n. AreMessages n (flat_map message_of calls) in
    (does.0.1, does.0.2, subst P does.1 (are_messages mid new calls more))
are_messages old new (Next (Ok None) ∷ calls) (mid, does, more) =
    let P : ℕ → Type 0 = λ n. AreMessages n (flat_map message_of calls) in
    subst P does.1 (are_messages mid new calls more)
are_messages old new (Next (Err e) ∷ calls) (mid, does, more) =
    let P : ℕ → Type 0 = λ n. AreMessages n (flat_map message_of calls) in
    subst P does.1 (are_messages mid new calls more)

-- The bytes begin with no message within the limit.
abbrev HasNone : ℕ → List ℕ → Type 0
HasNone max octets = (f : Frame) (rest : List ℕ) → FramesAs max octets (Ok (Some f)) rest → ⊥

-- The same bytes are the same messages, followed by the same bytes.
same_messages : (max : ℕ) (ms ns : List Frame) (x y : List ℕ) → AreMessages max ms → AreMessages max ns → HasNone max x → HasNone max y
    → flat_map frame_octets ms ++ x ≡ flat_map frame_octets ns ++ y → (ms ≡ ns) × (x ≡ y)
unfolding AreMessages
same_messages max [] [] x y a b none none_too same = (refl, same)
same_messages max [] (n ∷ ns) x y a b none none_too same =
    absurd (none n (flat_map frame_octets ns ++ y) (same ∙ append_assoc (frame_octets n) (flat_map frame_octets ns) y, b.0, b.1))
same_messages max (m ∷ ms) [] x y a b none none_too same =
    absurd (none_too m (flat_map frame_octets ms ++ x) (sym same ∙ append_assoc (frame_octets m) (flat_map frame_octets ms) x, a.0, a.1))
same_messages max (m ∷ ms) (n ∷ ns) x y a b none none_too same =
    let first = same_front m n (flat_map frame_octets ms ++ x) (flat_map frame_octets ns ++ y) a.0 b.0
    (sym (append_assoc (frame_octets m) (flat_map frame_octets ms) x) ∙ same ∙ append_assoc (frame_octets n) (flat_map frame_octets ns) y) in
    let rest = same_messages max ms ns x y a.2 b.2 none none_too first.1 in
    (ap (λ f. f ∷ ms) first.0 ∙ ap (λ fs. n ∷ fs) rest.0, rest.1)

pub any_pieces : (old new end : FramerState) (calls others : List Call) → PerformsAll old calls new → PerformsAll old others end
    → flat_map octets_of calls ≡ flat_map octets_of others → IsDrained new → IsDrained end
    → (flat_map message_of calls ≡ flat_map message_of others) × (new ≡ end)
any_pieces old new end calls others h k same drained drained_too =
    let limit : new.max ≡ old.max = keep_limit old new calls h in
    let limit_too : end.max ≡ old.max = keep_limit old end others k in
    let P : ℕ → Type 0 = λ n. HasNone n new.pending in
    let Q : ℕ → Type 0 = λ n. HasNone n end.pending in
    let octets : flat_map frame_octets (flat_map message_of calls) ++ new.pending ≡ flat_map frame_octets (flat_map message_of others) ++ end.pending =
    sym (gives_what_was_pushed old new calls h) ∙ ap (λ xs. old.pending ++ xs) same ∙ gives_what_was_pushed old end others k in
    let both = same_messages old.max (flat_map message_of calls) (flat_map message_of others) new.pending end.pending
    (are_messages old new calls h) (are_messages old end others k) (subst P limit drained) (subst Q limit_too drained_too) octets in (
      both.0,
      ap (λ (n : ℕ). record { max = n; pending = new.pending }) (limit ∙ sym limit_too) ∙ ap (λ (xs : List ℕ). record { max = end.max; pending = xs }) both.1,
    )
