-- Steps of the peer of a link in memory.
use Rattle.std.proofs.Common.{◌≡◌, ◌≢◌, ◌≤◌, ◌<◌, ◌+◌, ◌++◌, ℕ, zero, suc, List, [], ◌∷◌, length, take, drop, map, min, get_or, Some, None, refl, sym, ap, ◌∙◌, subst, arith, append_assoc}
use Rattle.std.specs.Prelude.{Option, option_map}
use Rattle.std.specs.List.{flat_map}
use Rattle.std.proofs.lemmas.Grind.{flat_map-append}
use Rattle.std.proofs.lemmas.List.{append-nil, take_all, drop_all, drop_more, drop-drop, length-drop}
use Rattle.std.proofs.Math.Seq.{take-suc, take-add}
use Rattle.hsms_ends.specs.declared.link.Got.TheVariants.{Octets, Quiet, Closed}
use Rattle.hsms_ends.specs.ScriptedLink.{pass_over, Answers}
use Rattle.hsms_ends.specs.InnerScriptedLink.{wait_octets, given_of, left_of, without_front}

same_at : {A : Type 0} (xs : List A) (i : ℕ) (d e : A) → i < length xs → get_or xs i d ≡ get_or xs i e
same_at [] i d e h = absurd (omega arith)
same_at (x ∷ xs) zero d e h = refl
same_at (x ∷ xs) (suc i) d e h = same_at xs i d e (omega arith)

-- The bytes returned once a wait is used up.
pub given_next : {V : Type 0} (items : V → List ℕ) (waits : List (Option V)) (place within : ℕ) (wait : Option V)
    → place < length waits → wait ≡ get_or waits place wait → within ≡ length (wait_octets items wait)
    → given_of items waits (place + 1) 0 ≡ given_of items waits place within
given_next {V} items waits place within wait below is used =
    let f = λ (o : Option V). wait_octets items o in
    let next : suc place ≡ place + 1 = omega arith in
    let P : ℕ → Type 0 = λ k. take k waits ≡ take place waits ++ get_or waits place wait ∷ [] in
    let more : take (place + 1) waits ≡ take place waits ++ wait ∷ [] = subst P next (take-suc waits place wait below) ∙ ap (λ o. take place waits ++ o ∷ []) (sym is) in
    let here : get_or waits place None ≡ wait = same_at waits place None wait below ∙ sym is in
    append-nil (flat_map f (take (place + 1) waits))
    ∙ ap (flat_map f) more ∙ flat_map-append f (take place waits) (wait ∷ [])
    ∙ ap (λ l. flat_map f (take place waits) ++ l) (append-nil (f wait) ∙ sym (take_all within (f wait) (omega arith)) ∙ ap (λ o. take within (f o)) (sym here))

-- The bytes returned after n more.
pub given_more : {V : Type 0} (items : V → List ℕ) (waits : List (Option V)) (place within n : ℕ)
    → given_of items waits place (within + n) ≡ given_of items waits place within ++ take n (drop within (wait_octets items (get_or waits place None)))
given_more items waits place within n =
    let os = wait_octets items (get_or waits place None) in
    let front = flat_map (wait_octets items) (take place waits) in
    ap (λ l. front ++ l) (take-add within n os) ∙ sym (append_assoc front (take within os) (take n (drop within os)))

-- Nothing is received in a wait.
pub none_at : {V : Type 0} (waits : List (Option V)) (place : ℕ) (wait : Option V) → place < length waits → wait ≡ get_or waits place wait → wait ≡ None → None ≡ get_or waits place None
none_at waits place wait below is none = sym none ∙ is ∙ same_at waits place wait None below

pub given_none : {V : Type 0} (items : V → List ℕ) (waits : List (Option V)) (place within : ℕ) (wait : Option V)
    → place < length waits → wait ≡ get_or waits place wait → wait ≡ None → within ≤ length (wait_octets items (get_or waits place None))
    → given_of items waits (place + 1) 0 ≡ given_of items waits place within
given_none items waits place within wait below is none fits =
    let there = none_at waits place wait below is none in
    let few : within ≤ 0 = rw (sym there) at fits in
    given_next items waits place within None below there (omega (arith, few))

without_none : (waits : List (Option (List ℕ))) → without_front 0 waits ≡ waits
without_none [] = refl
without_none (None ∷ waits) = refl
without_none (Some octets ∷ waits) = refl

pass_over_some : (octets : List ℕ) (waits : List (Option (List ℕ))) → 0 < length octets → pass_over (Some octets ∷ waits) ≡ Some octets ∷ waits
pass_over_some [] waits some = absurd (omega arith)
pass_over_some (octet ∷ octets) waits some = refl

left_here : {V : Type 0} (items : V → List ℕ) (waits : List (Option V)) (place within : ℕ) (wait : Option V)
    → place < length waits → wait ≡ get_or waits place wait
    → left_of items waits place within ≡ without_front within (option_map items wait ∷ map (option_map items) (drop (place + 1) waits))
left_here {V} items waits place within wait below is =
    let here : drop place waits ≡ wait ∷ drop (place + 1) waits = drop_more waits place wait below ∙ ap (λ o. o ∷ drop (place + 1) waits) (sym is) in
    ap (λ l. without_front within (map (option_map items) l)) here

-- A wait whose bytes are used up is skipped.
pub left_next : {V : Type 0} (items : V → List ℕ) (waits : List (Option V)) (place within : ℕ) (wait : Option V)
    → place < length waits → wait ≡ get_or waits place wait → wait ≢ None → within ≡ length (wait_octets items wait)
    → pass_over (left_of items waits (place + 1) 0) ≡ pass_over (left_of items waits place within)
left_next {V} items waits place within None below is some used = absurd (some refl)
left_next {V} items waits place within (Some octets) below is some used =
    let rest = map (option_map items) (drop (place + 1) waits) in
    ap pass_over (without_none rest)
    ∙ ap (λ l. pass_over (Some l ∷ rest)) (sym (drop_all within (items octets) (omega (arith, used))))
    ∙ ap pass_over (sym (left_here items waits place within (Some octets) below is))

-- No wait remains.
pub answers_closed : {V : Type 0} (items : V → List ℕ) (waits : List (Option V)) (place within piece : ℕ) (into : List ℕ) (left : List (Option (List ℕ)))
    → length waits ≤ place → pass_over (left_of items waits place within) ≡ left
    → Answers left piece into Closed (left_of items waits place within)
answers_closed items waits place within piece into left over is =
    let none : left_of items waits place within ≡ [] = ap (λ l. without_front within (map (option_map items) l)) (drop_all place waits over) in
    let P : List (Option (List ℕ)) → Type 0 = λ l. Answers l piece into Closed (left_of items waits place within) in
    subst P (ap pass_over (sym none) ∙ is) (refl, none)

-- Nothing is received in the next wait.
pub answers_quiet : {V : Type 0} (items : V → List ℕ) (waits : List (Option V)) (place within piece : ℕ) (into : List ℕ) (left : List (Option (List ℕ)))
    → place < length waits → None ≡ get_or waits place None → pass_over (left_of items waits place within) ≡ left
    → Answers left piece into Quiet (left_of items waits (place + 1) 0)
answers_quiet items waits place within piece into left below none is =
    let rest = map (option_map items) (drop (place + 1) waits) in
    let P : List (Option (List ℕ)) → Type 0 = λ l. Answers l piece into Quiet (left_of items waits (place + 1) 0) in
    subst P (ap pass_over (sym (left_here items waits place within None below none)) ∙ is) (refl, without_none rest)

gives_some : {V : Type 0} (items : V → List ℕ) (waits : List (Option V)) (place within n piece : ℕ) (into : List ℕ) (left : List (Option (List ℕ))) (wait : Option V)
    → place < length waits → wait ≡ get_or waits place wait → wait ≢ None → within < length (wait_octets items wait)
    → n ≡ min (min (length (drop within (wait_octets items wait))) (length into)) piece
    → take n into ≡ take n (drop within (wait_octets items wait))
    → pass_over (left_of items waits place within) ≡ left
    → Answers left piece into (Octets n) (left_of items waits place (within + n))
gives_some items waits place within n piece into left None below here some more count same is = absurd (some refl)
gives_some {V} items waits place within n piece into left (Some octets) below here some more count same is =
    let rest = map (option_map items) (drop (place + 1) waits) in
    let os = drop within (items octets) in
    let there : Some os ∷ rest ≡ left =
    sym (pass_over_some os rest (omega (arith, more, length-drop within (items octets))))
    ∙ ap pass_over (sym (left_here items waits place within (Some octets) below here)) ∙ is in
    let after : left_of items waits place (within + n) ≡ Some (drop n os) ∷ rest =
    left_here items waits place (within + n) (Some octets) below here ∙ ap (λ l. Some l ∷ rest) (sym (drop-drop n within (items octets))) in
    let P : List (Option (List ℕ)) → Type 0 = λ l. Answers l piece into (Octets n) (left_of items waits place (within + n)) in
    subst P there (n, count, refl, same, after)

-- The bytes there are those of the wait that was read.
pub octets_at : {V : Type 0} (items : V → List ℕ) (waits : List (Option V)) (place : ℕ) (wait : Option V) (octets : V)
    → place < length waits → wait ≡ get_or waits place wait → wait ≡ Some octets → items octets ≡ wait_octets items (get_or waits place None)
octets_at {V} items waits place wait octets below here is = ap (λ (w : Option V). wait_octets items w) (sym is ∙ here ∙ same_at waits place wait None below)

pub gives_octets : {V : Type 0} (items : V → List ℕ) (waits : List (Option V)) (place within n piece : ℕ) (into : List ℕ) (left : List (Option (List ℕ))) (wait : Option V) (octets : V)
    → place < length waits → wait ≡ get_or waits place wait → wait ≡ Some octets
    → (get_or waits place None ≢ None → within < length (wait_octets items (get_or waits place None)))
    → n ≡ min (min (length (drop within (items octets))) (length into)) piece
    → take n into ≡ take n (drop within (items octets))
    → pass_over (left_of items waits place within) ≡ left
    → Answers left piece into (Octets n) (left_of items waits place (within + n))
gives_octets {V} items waits place within n piece into left wait octets below here is more count same was =
    let there : ◌≡◌ {A = Option V} (Some octets) (get_or waits place None) = sym is ∙ here ∙ same_at waits place wait None below in
    let P : Option V → Type 0 = λ w. within < length (wait_octets items w) in
    gives_some items waits place within n piece into left (Some octets) below (there ∙ same_at waits place None (Some octets) below)
    (λ e. let d : ◌≡◌ {A = Option V} (Some octets) None = e in cc)
    (subst P (sym there) (more (λ e. let d : ◌≡◌ {A = Option V} (Some octets) None = there ∙ e in cc))) count same was
