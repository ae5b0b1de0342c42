-- A direction that may agree has no facts but of frames that may be sent later.
use Rattle.std.proofs.Common.{◌≡◌, ◌∙◌, ◌<◌, ◌≤◌, ◌+◌, ◌-◌, ℕ, zero, suc, List, [], ◌∷◌, ◌++◌, length, map, take, drop, replicate, cond, ◌&&◌, ◌||◌, Bool, true, false, refl, sym, ap, subst, inl, inr, append-nil, arith}
use Rattle.std.specs.Prelude.{nat_le, nat_lt, ◌==◌, if◌then◌else◌}
use Rattle.std.specs.List.{filter}
use Rattle.std.proofs.lemmas.List.{length-append, length-map, length-replicate, length-take, length-drop, take-append-drop, take_at, take_all, get_or-take, get_or-drop}
use Rattle.std.proofs.lemmas.Bool.{lt-leb, eq-eqb}
use Rattle.hsms_frame.specs.Frame.{Frame}
use Rattle.hsms_compare_repair.specs.declared.numbered_frame.NumberedFrame.{NumberedFrame}
use Rattle.hsms_compare_repair.specs.declared.finding.Finding.{Finding}
use Rattle.hsms_compare_repair.specs.declared.finding.Finding.TheVariants.{Unknown}
use Rattle.hsms_compare_repair.specs.declared.fact.Fact.{Fact}
use Rattle.hsms_compare_repair.specs.Findings.{AreFindings, frame_at, no_frame}
use Rattle.hsms_compare_repair.specs.Facts.{AreFacts, facts_from, facts_of_findings, facts_of_unknown, laters, line_at, skipped_facts, unfounds, unsents}
use Rattle.hsms_compare_repair.specs.Laws.{AreLater, MayAgree, frames}
use Rattle.hsms_compare_repair.proofs.OneFinding.{one_list_of_facts}
use Rattle.hsms_compare_repair.proofs.Straight.{all_found, beyond_found, length-straight, straight, straight_found, unmarked}

module _ (sent : List NumberedFrame) (last : List Bool) (received : List NumberedFrame) where
  pub nothing_told : (m n i : ℕ) → facts_from sent last received i (straight n m) ≡ []
  nothing_told zero n i = refl
  nothing_told (suc m) n i =
      ap (λ (k : ℕ). skipped_facts sent last (line_at received i) n k ++ facts_from sent last received (i + 1) (straight (n + 1) m)) (let e : n - n ≡ 0 = omega arith in e)
      ∙ nothing_told m (n + 1) (i + 1)

nothing_either : (b c : Bool) → ◌≡◌ {A = List Fact} (if b then ([] ++ []) else if c then [] else []) []
nothing_either true c = refl
nothing_either false true = refl
nothing_either false false = refl

nothing_unknown : (count : ℕ) (more : Bool) (shown next : ℕ) → facts_of_unknown count more shown next [] ≡ []
nothing_unknown count more shown next = nothing_either (more && (next == count)) (nat_le (next + 256) count || (0 == 256))

-- ---- frames that may be sent later

abbrev AllAfter : ℕ → List ℕ → Type 0
AllAfter shown [] = Unit {0}
AllAfter shown (line ∷ lines) = (shown < line) × AllAfter shown lines

all_after : (shown : ℕ) (received : List NumberedFrame) → ((k : ℕ) → k < length received → shown < line_at received k) → AllAfter shown (map (λ (frame : NumberedFrame). frame.line) received)
all_after shown [] h = tt
all_after shown (frame ∷ received) h = (h 0 (omega arith), all_after shown received (λ k lt. h (suc k) (omega arith)))

none_up_to : (shown : ℕ) (lines : List ℕ) → AllAfter shown lines → filter (λ line. nat_le line shown) lines ≡ []
none_up_to shown [] h = refl
none_up_to shown (line ∷ lines) h =
    ap (λ b. cond b (line ∷ filter (λ l. nat_le l shown) lines) (filter (λ l. nat_le l shown) lines)) (lt-leb line shown h.0)
    ∙ none_up_to shown lines h.1

laters_are : (lines : List ℕ) → AreLater (laters lines)
laters_are [] = tt
laters_are (line ∷ lines) = tt

unknown_are : (count shown : ℕ) (lines : List ℕ) → AllAfter shown lines → AreLater (facts_of_unknown count true shown count lines)
unknown_are count shown lines h =
    let kept = filter (λ line. nat_lt shown line) lines in
    let P : Bool → Type 0 = λ b. AreLater (if b then unsents (filter (λ line. nat_le line shown) lines) ++ laters kept else if nat_le (count + 256) count || (length lines == 256) then unfounds lines else unsents lines) in
    let Q : List ℕ → Type 0 = λ x. AreLater (unsents x ++ laters kept) in
    subst P (sym (eq-eqb count count refl)) (subst Q (sym (none_up_to shown lines h)) (laters_are kept))

-- ---- both cases

pub told_agrees : (sent received : List NumberedFrame) (more : Bool) (shown : ℕ) (rest : List Frame) → frames sent ≡ frames received ++ rest → AreFacts sent received more shown []
told_agrees sent received more shown rest e =
    let m = length received in
    let last = replicate (0 + m) false in
    record {
      findings = straight 0 m;
      last = last;
      left = 0;
      found = all_found sent more received rest e;
      told = sym (
          ap (λ x. facts_from sent last received 0 x ++ facts_of_unknown (length sent) more shown (length last) []) (take_all (length (straight 0 m) - 0) (straight 0 m) (omega arith))
          ∙ ap (λ x. x ++ facts_of_unknown (length sent) more shown (length last) []) (nothing_told sent last received m 0 0)
          ∙ nothing_unknown (length sent) more shown (length last));
    }

known_front : (xs ys : List Finding) (k : ℕ) → length ys ≡ k → take (length (xs ++ ys) - k) (xs ++ ys) ≡ xs
known_front xs ys k e =
    let n : length xs ≡ length (xs ++ ys) - k = omega (arith, length-append xs ys, e) in
    take_at xs ys (length (xs ++ ys) - k) n

told_beyond : (sent received : List NumberedFrame) (shown : ℕ) → frames (take (length sent) received) ≡ frames sent → ((k : ℕ) → length sent ≤ k → k < length received → shown < line_at received k) → (facts : List Fact) × AreFacts sent received true shown facts × AreLater facts
told_beyond sent received shown e after =
    let m = length sent in
    let first = take m received in
    let beyond = drop m received in
    let b = beyond_found sent beyond 0 in
    let n : length first ≡ m =
    sym (length-map first (λ (one : NumberedFrame). one.frame)) ∙ ap length e ∙ length-map sent (λ (one : NumberedFrame). one.frame) in
    let tail = replicate b.0 Unknown in
    let last = unmarked sent in
    let left = 0 + b.0 in
    let R : ℕ → Type 0 = λ x. AreFindings sent true (replicate x false) 0 beyond tail last left in
    let found = straight_found sent true first beyond 0 [] tail last left (sym (append-nil (frames first) ∙ e)) (subst R (let z : m ≡ 0 + length first = omega arith in z) b.2) in
    let P : List NumberedFrame → Type 0 = λ x. AreFindings sent true [] 0 x (straight 0 (length first) ++ tail) last left in
    let findings = straight 0 (length first) ++ tail in
    let lines = map (λ (frame : NumberedFrame). frame.line) (take left (drop (length findings - left) received)) in
    let front : take (length findings - left) findings ≡ straight 0 (length first) = known_front (straight 0 (length first)) tail left (length-replicate b.0 Unknown ∙ (let z : b.0 ≡ 0 + b.0 = omega arith in z)) in
    let known_is : length findings - left ≡ m = omega (arith, length-append (straight 0 (length first)) tail, length-straight 0 (length first), length-replicate b.0 Unknown, n) in
    let told : facts_of_findings sent true shown received findings last left ≡ facts_of_unknown m true shown (length last) lines =
    ap (λ x. facts_from sent last received 0 x ++ facts_of_unknown m true shown (length last) lines) front
    ∙ ap (λ x. x ++ facts_of_unknown m true shown (length last) lines) (nothing_told sent last received (length first) 0 0) in
    let L : ℕ → Type 0 = λ x. AreLater (facts_of_unknown m true shown x lines) in
    let these = all_after shown (take left (drop (length findings - left) received)) (λ k lt.
    (let few = length-take left (drop (length findings - left) received) in
    let many = length-drop (length findings - left) received in
    let at : frame_at (take left (drop (length findings - left) received)) k ≡ frame_at received (length findings - left + k) =
    get_or-take left (drop (length findings - left) received) k no_frame (omega (arith, few, lt))
    ∙ get_or-drop (length findings - left) received k no_frame in
    let F : NumberedFrame → Type 0 = λ x. shown < x.line in
    subst F (sym at) (after (length findings - left + k) (omega (arith, known_is)) (omega (arith, few, many, lt))))) in
    let T : List Fact → Type 0 = λ x. AreLater x in (
      facts_of_findings sent true shown received findings last left,
      record { findings = findings; last = last; left = left; found = subst P (take-append-drop m received) found; told = refl },
      subst T (sym told) (subst L (sym (length-replicate m false)) (unknown_are m shown lines these)),
    )

pub only_later : (sent received : List NumberedFrame) (more : Bool) (shown : ℕ) (facts : List Fact) → MayAgree sent received more shown → AreFacts sent received more shown facts → AreLater facts
only_later sent received more shown facts (inl (rest, e)) h =
    let P : List Fact → Type 0 = λ x. AreLater x in
    subst P (one_list_of_facts sent received more shown [] facts (told_agrees sent received more shown rest e) h) tt
only_later sent received more shown facts (inr (open_so, e, after)) h =
    let P : List Fact → Type 0 = λ x. AreLater x in
    let Q : Bool → Type 0 = λ x. AreFacts sent received x shown facts in
    let w = told_beyond sent received shown e after in
    subst P (one_list_of_facts sent received true shown w.0 facts w.1 (subst Q open_so h)) w.2
