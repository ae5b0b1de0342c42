-- Steps of the link in memory.
use Rattle.std.proofs.Common.{◌≡◌, ◌-◌, ◌++◌, ◌^◌, ℕ, suc, List, [], ◌∷◌, take, nat_lt, Bool, true, false, Some, None, Ok, Err, refl, sym, ap, ◌∙◌, subst, arith}
use Rattle.std.specs.Prelude.{Option, if◌then◌else◌}
use Rattle.std.proofs.lemmas.Bool.Decides.{nat_tests}
use Rattle.hsms_frame.specs.CallCounts.{next_count}
use Rattle.hsms_frame.specs.Io.{Grows, Stays}
use Rattle.hsms_ends.specs.declared.link.Got.{Got}
use Rattle.hsms_ends.specs.declared.link.Got.TheVariants.{Octets, Quiet, Closed}
use Rattle.hsms_ends.specs.Link.{LinkState, Recalls, Asks, Sends, Waits, RisesBy, IsGot}
use Rattle.hsms_ends.specs.ScriptedLink.{moment_at, moments_of}
use Rattle.hsms_ends.specs.InnerScriptedLink.{got_octets, closes_after, is_closed}
use Rattle.hsms_ends.proofs.ReceivedBytes.{grows_none, recalls_none, rises_none}

-- The record of a link in memory.
abbrev link_output : Option (List ℕ) → List ℕ → List ℕ → ℕ → ℕ → Bool → ℕ → LinkState
link_output m g t w n c f = record { moments = m; given = Some g; taken = Some t; waits = w; closes = n; closed = c; failures = f }

-- The times that its clock records.
abbrev clock : List ℕ → ℕ → Bool → Option (List ℕ)
clock moments k emits = if emits then Some (moments_of moments k) else None

one_more : (w w' : ℕ) → w' ≡ next_count w → RisesBy w w' 1
one_more w w' counted below = omega (arith, counted)

no_more : (w w' : ℕ) → w' ≡ w → RisesBy w w' 0
no_more w w' same below = omega (arith, same)

recalls_next : (moments : List ℕ) (k k' : ℕ) (emits emits' : Bool) → (emits' ≡ true → emits ≡ true) → (emits' ≡ true → k' ≡ suc k)
    → Recalls (clock moments k emits) (clock moments k' emits') (moment_at moments k ∷ [])
recalls_next moments k k' emits false before next after link_state = absurd cc
recalls_next moments k k' false true before next after link_state = let no : false ≡ true = before refl in absurd cc
recalls_next moments k k' true true before next after link_state =
    let same : moments_of moments k' ≡ after = cc in
    (moments_of moments k, refl, sym same ∙ ap (λ n. moments_of moments n) (next refl))

-- The clock was read.
pub asked : (moments : List ℕ) (k k' : ℕ) (g t : List ℕ) (w n : ℕ) (c : Bool) (f now : ℕ) (link_state : LinkState)
    → link_output (clock moments k (nat_lt k (2 ^ 64 - 1))) g t w n c f ≡ link_state → k' ≡ next_count k → now ≡ moment_at moments k
    → Asks link_state (link_output (clock moments k' (nat_lt k' (2 ^ 64 - 1))) g t w n c f) now
asked moments k k' g t w n c f now link_state is counted answer =
    let m = clock moments k (nat_lt k (2 ^ 64 - 1)) in
    let m' = clock moments k' (nat_lt k' (2 ^ 64 - 1)) in
    let moves : Recalls m m' (moment_at moments k ∷ []) =
    recalls_next moments k k' (nat_lt k (2 ^ 64 - 1)) (nat_lt k' (2 ^ 64 - 1)) (λ h. grind (arith, nat_tests, counted, h)) (λ h. grind (arith, nat_tests, counted, h)) in
    let P : LinkState → Type 0 = λ x. Asks x (link_output m' g t w n c f) now in
    let Q : ℕ → Type 0 = λ x. Recalls m m' (x ∷ []) in
    subst P is (record {
      reception = record { moments = subst Q (sym answer) moves; given = grows_none (Some g); waits = rises_none w; closes = rises_none n; closed = refl };
      taken = λ l h. h;
      failures = refl;
    })

-- A call that failed.
pub failed : (m : Option (List ℕ)) (g t t' : List ℕ) (w n : ℕ) (c : Bool) (f f' : ℕ) (octets : List ℕ) (link_state : LinkState)
    → link_output m g t w n c f ≡ link_state → Stays (Some t) (Some t') → f' ≡ next_count f
    → Sends link_state (link_output m g t' w n c f') octets (Err (record {}))
failed m g t t' w n c f f' octets link_state is stays counted =
    let P : LinkState → Type 0 = λ x. Sends x (link_output m g t' w n c f') octets (Err (record {})) in
    subst P is (record { moments = recalls_none m; given = grows_none (Some g); waits = rises_none w; closes = rises_none n; closed = refl }, stays, counted)

-- A send that wrote some bytes.
pub took : (m : Option (List ℕ)) (g t t' : List ℕ) (w n : ℕ) (c : Bool) (f count : ℕ) (octets : List ℕ) (link_state : LinkState)
    → link_output m g t w n c f ≡ link_state → Grows (Some t) (Some t') (take count octets)
    → Sends link_state (link_output m g t' w n c f) octets (Ok count)
took m g t t' w n c f count octets link_state is grown =
    let P : LinkState → Type 0 = λ x. Sends x (link_output m g t' w n c f) octets (Ok count) in
    subst P is (record { moments = recalls_none m; given = grows_none (Some g); waits = rises_none w; closes = rises_none n; closed = refl }, grown, refl)

gives : (g g' more : List ℕ) → g' ≡ g ++ more → Grows (Some g) (Some g') more
gives g g' more grown octets link_state = let same : g ≡ octets = cc in ap Some (grown ∙ ap (λ l. l ++ more) same)

-- A wait that returned.
pub waited : (m : Option (List ℕ)) (g g' t : List ℕ) (w w' n n' : ℕ) (c c' : Bool) (f : ℕ) (into : List ℕ) (got : Got) (link_state : LinkState)
    → link_output m g t w n c f ≡ link_state → IsGot into got → g' ≡ g ++ got_octets into got → w' ≡ next_count w → n' ≡ closes_after got n → c' ≡ is_closed got
    → Waits link_state (link_output m g' t w' n' c' f) into (Ok got)
waited m g g' t w w' n n' c c' f into (Octets k) link_state is fits grown counted closes closed =
    let P : LinkState → Type 0 = λ x. Waits x (link_output m g' t w' n' c' f) into (Ok (Octets k)) in
    subst P is (fits, record { moments = recalls_none m; given = gives g g' (take k into) grown; waits = one_more w w' counted; closes = no_more n n' closes; closed = closed }, (λ l h. h), refl)
waited m g g' t w w' n n' c c' f into Quiet link_state is fits grown counted closes closed =
    let P : LinkState → Type 0 = λ x. Waits x (link_output m g' t w' n' c' f) into (Ok Quiet) in
    subst P is (tt, record { moments = recalls_none m; given = gives g g' [] grown; waits = one_more w w' counted; closes = no_more n n' closes; closed = closed }, (λ l h. h), refl)
waited m g g' t w w' n n' c c' f into Closed link_state is fits grown counted closes closed =
    let P : LinkState → Type 0 = λ x. Waits x (link_output m g' t w' n' c' f) into (Ok Closed) in
    subst P is (tt, record { moments = recalls_none m; given = gives g g' [] grown; waits = one_more w w' counted; closes = one_more n n' closes; closed = closed }, (λ l h. h), refl)
