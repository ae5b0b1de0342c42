-- Where nothing is told, what is received is what is sent.
use Rattle.std.proofs.Common.{◌≡◌, ◌∙◌, ◌+◌, ◌-◌, ℕ, zero, suc, List, [], ◌∷◌, ◌++◌, length, map, take, drop, replicate, get_or, cond, ◌&&◌, ◌||◌, Bool, true, false, refl, sym, ap, inl, inr, arith}
use Rattle.std.specs.Prelude.{nat_le, nat_lt, ◌==◌, if◌then◌else◌}
use Rattle.std.specs.List.{filter}
use Rattle.std.proofs.lemmas.List.{length-map, length-take-le, length-drop, take_all, get_or_append_left, get_or_past, get_or_at}
use Rattle.std.proofs.lemmas.Bool.{cases_lt, lt-leb, le-leb, lt-ltb}
use Rattle.hsms_compare.specs.Conversation.{IsPrefix}
use Rattle.hsms_compare_repair.specs.declared.numbered_frame.NumberedFrame.{NumberedFrame}
use Rattle.hsms_compare_repair.specs.declared.finding.Finding.{Finding}
use Rattle.hsms_compare_repair.specs.declared.finding.Finding.TheVariants.{Next, Late, Altered, Repeated, Unknown}
use Rattle.hsms_compare_repair.specs.declared.fact.Fact.{Fact}
use Rattle.hsms_compare_repair.specs.declared.fact.Fact.TheVariants.{Skipped}
use Rattle.hsms_compare_repair.specs.Findings.{AreFindings}
use Rattle.hsms_compare_repair.specs.Facts.{AreFacts, facts_from, facts_of_unknown, laters, line_at, skipped_fact, skipped_facts, unfounds, unsents}
use Rattle.hsms_compare_repair.specs.Laws.{frames, repaired}
use Rattle.hsms_compare_repair.proofs.Progress.{bounded}
use Rattle.hsms_compare_repair.proofs.Repairs.{repaired_prefix}

nothing-left : (xs ys : List Fact) → xs ++ ys ≡ [] → xs ≡ []
nothing-left [] ys e = refl
nothing-left (x ∷ xs) ys e = absurd (cc e)

nothing-right : (xs ys : List Fact) → xs ++ ys ≡ [] → ys ≡ []
nothing-right [] ys e = e
nothing-right (x ∷ xs) ys e = absurd (cc e)

-- ---- nothing is unknown

kept_or_not : (line : ℕ) (shown : ℕ) (lines : List ℕ) → unsents (filter (λ l. nat_le l shown) (line ∷ lines)) ++ laters (filter (λ l. nat_lt shown l) (line ∷ lines)) ≡ [] → ⊥
kept_or_not line shown lines e =
    let kept = filter (λ l. nat_le l shown) lines in
    let others = filter (λ l. nat_lt shown l) lines in
    elim (cases_lt shown line) [
      | inl later ↦
          (let a : cond (nat_le line shown) (line ∷ kept) kept ≡ kept = ap (λ b. cond b (line ∷ kept) kept) (lt-leb line shown later) in
          let b : cond (nat_lt shown line) (line ∷ others) others ≡ line ∷ others = ap (λ b. cond b (line ∷ others) others) (lt-ltb shown line later) in
          let c = nothing-right (unsents (cond (nat_le line shown) (line ∷ kept) kept)) (laters (cond (nat_lt shown line) (line ∷ others) others)) e in
          let d : laters (line ∷ others) ≡ [] = ap laters (sym b) ∙ c in
          absurd (cc d))
      | inr before ↦
          (let a : cond (nat_le line shown) (line ∷ kept) kept ≡ line ∷ kept = ap (λ b. cond b (line ∷ kept) kept) (le-leb line shown before) in
          let c = nothing-left (unsents (cond (nat_le line shown) (line ∷ kept) kept)) (laters (cond (nat_lt shown line) (line ∷ others) others)) e in
          let d : unsents (line ∷ kept) ≡ [] = ap unsents (sym a) ∙ c in
          absurd (cc d))
    ]

one_of_three : (a b : Bool) (line : ℕ) (lines : List ℕ) (first : List Fact) → (first ≡ [] → ⊥) → (if a then first else if b then unfounds (line ∷ lines) else unsents (line ∷ lines)) ≡ [] → ⊥
one_of_three true b line lines first some e = some e
one_of_three false true line lines first some e = cc e
one_of_three false false line lines first some e = cc e

none_unknown : (count : ℕ) (more : Bool) (shown next : ℕ) (lines : List ℕ) → facts_of_unknown count more shown next lines ≡ [] → lines ≡ []
none_unknown count more shown next [] e = refl
none_unknown count more shown next (line ∷ lines) e =
    absurd (one_of_three (more && (next == count)) (nat_le (next + 256) count || (length (line ∷ lines) == 256)) line lines
    (unsents (filter (λ l. nat_le l shown) (line ∷ lines)) ++ laters (filter (λ l. nat_lt shown l) (line ∷ lines)))
    (kept_or_not line shown lines) e)

-- ---- nothing is skipped

module _ (sent : List NumberedFrame) (more : Bool) (last : List Bool) (left : ℕ) (all : List NumberedFrame) where
  -- a mark stays, unless the frame is received later
  mark_stays : (marks : List Bool) (unknown i j : ℕ) (received : List NumberedFrame) (findings : List Finding) → AreFindings sent more marks unknown received findings last left → facts_from sent last all i findings ≡ [] → get_or marks j false ≡ true → get_or last j false ≡ true
  mark_stays marks unknown i j [] [] h e is = ap (λ x. get_or x j false) h.0 ∙ is
  mark_stays marks unknown i j [] (found ∷ findings) h e is = absurd h
  mark_stays marks unknown i j (frame ∷ received) [] h e is = ap (λ x. get_or x j false) h.1 ∙ is
  mark_stays marks unknown i j (frame ∷ received) (Next n k ∷ findings) h e is =
      mark_stays (marks ++ (replicate (k - n) true ++ false ∷ [])) 0 (i + 1) j received findings h.2
      (nothing-right (skipped_facts sent last (line_at all i) n (k - n)) (facts_from sent last all (i + 1) findings) e)
      (elim (cases_lt j (length marks)) [
        | inl lt ↦ get_or_append_left marks (replicate (k - n) true ++ false ∷ []) false j lt ∙ is
        | inr ge ↦ (let z : false ≡ true = sym (get_or_past marks j false ge) ∙ is in absurd (cc z))
      ])
  mark_stays marks unknown i j (frame ∷ received) (Late k ∷ findings) h e is = absurd (cc e)
  mark_stays marks unknown i j (frame ∷ received) (Altered n ∷ findings) h e is = absurd (cc e)
  mark_stays marks unknown i j (frame ∷ received) (Repeated ∷ findings) h e is = absurd (cc e)
  mark_stays marks unknown i j (frame ∷ received) (Unknown ∷ findings) h e is = absurd (cc e)

  first_marked : (marks : List Bool) (n : ℕ) → get_or (marks ++ (replicate (suc n) true ++ false ∷ [])) (length marks) false ≡ true
  first_marked marks n = get_or_at marks true (replicate n true ++ false ∷ []) false (length marks) refl

  none_skipped : (marks : List Bool) (i n d : ℕ) (received : List NumberedFrame) (findings : List Finding) → n ≡ length marks → AreFindings sent more (marks ++ (replicate d true ++ false ∷ [])) 0 received findings last left → skipped_facts sent last (line_at all i) n d ++ facts_from sent last all (i + 1) findings ≡ [] → d ≡ 0
  none_skipped marks i n zero received findings is h e = refl
  none_skipped marks i n (suc d) received findings is h e =
      let rest = nothing-right (skipped_facts sent last (line_at all i) n (suc d)) (facts_from sent last all (i + 1) findings) e in
      let told = nothing-left (skipped_facts sent last (line_at all i) n (suc d)) (facts_from sent last all (i + 1) findings) e in
      let one = nothing-left (skipped_fact sent last (line_at all i) n) (skipped_facts sent last (line_at all i) (n + 1) d) told in
      let marked = mark_stays (marks ++ (replicate (suc d) true ++ false ∷ [])) 0 (i + 1) (length marks) received findings h rest (first_marked marks d) in
      let at : get_or last n false ≡ true = ap (λ (x : ℕ). get_or last x false) is ∙ marked in
      let fact : Skipped (line_at sent n) (line_at all i) ∷ [] ≡ [] =
      ap (λ b. if b then Skipped (line_at sent n) (line_at all i) ∷ [] else []) (sym at) ∙ one in
      absurd (cc fact)

  -- so all frames are the next ones
  all_next : (marks : List Bool) (i : ℕ) (received : List NumberedFrame) (findings : List Finding) → AreFindings sent more marks 0 received findings last left → facts_from sent last all i findings ≡ [] → repaired sent received findings ≡ frames received
  all_next marks i [] findings h e = refl
  all_next marks i (frame ∷ received) [] h e = absurd (omega (arith, h.0))
  all_next marks i (frame ∷ received) (Next n k ∷ findings) h e =
      let rest = nothing-right (skipped_facts sent last (line_at all i) n (k - n)) (facts_from sent last all (i + 1) findings) e in
      let none = none_skipped marks i n (k - n) received findings h.1.applies.0 h.2 e in
      ap (λ (d : ℕ). frames (take d (drop n sent)) ++ frame.frame ∷ repaired sent received findings) none
      ∙ ap (λ x. frame.frame ∷ x) (all_next (marks ++ (replicate (k - n) true ++ false ∷ [])) (i + 1) received findings h.2 rest)
  all_next marks i (frame ∷ received) (Late k ∷ findings) h e = absurd (cc e)
  all_next marks i (frame ∷ received) (Altered n ∷ findings) h e = absurd (cc e)
  all_next marks i (frame ∷ received) (Repeated ∷ findings) h e = absurd (cc e)
  all_next marks i (frame ∷ received) (Unknown ∷ findings) h e = absurd (cc e)

pub nothing_told_agrees : (sent received : List NumberedFrame) (more : Bool) (shown : ℕ) → AreFacts sent received more shown [] → IsPrefix (frames received) (frames sent)
nothing_told_agrees sent received more shown h =
    let known = length h.findings - h.left in
    let first = facts_from sent h.last received 0 (take known h.findings) in
    let lines = map (λ (frame : NumberedFrame). frame.line) (take h.left (drop known received)) in
    let unknown = facts_of_unknown (length sent) more shown (length h.last) lines in
    let b = bounded sent more [] 0 received h.findings h.last h.left h.found in
    let none = ap length (none_unknown (length sent) more shown (length h.last) lines (nothing-right first unknown (sym h.told))) in
    let size : length lines ≡ h.left =
    length-map (take h.left (drop known received)) (λ (frame : NumberedFrame). frame.line)
    ∙ length-take-le h.left (drop known received) (omega (arith, b.0, b.1, length-drop known received)) in
    let whole : take known h.findings ≡ h.findings = take_all known h.findings (omega (arith, size, none)) in
    let e : facts_from sent h.last received 0 h.findings ≡ [] =
    ap (facts_from sent h.last received 0) (sym whole) ∙ nothing-left first unknown (sym h.told) in
    let same = all_next sent more h.last h.left received [] 0 received h.findings h.found e in
    let p = repaired_prefix sent received more h.findings h.last h.left h.found in
    (p.0, p.1 ∙ ap (λ x. x ++ p.0) same)
