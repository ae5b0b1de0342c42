-- Tokens that lead from one parser state to another, at any position.
use Rattle.std.proofs.Common.{◌≡◌, ℕ, List, [], ◌∷◌, ◌++◌, map, refl, ap, ◌∙◌}
use Rattle.std.specs.Prelude.{Ok, Err}
use Rattle.secs_text.specs.Token.{Token, Placed}
use Rattle.secs_text.specs.ParserStates.{Rules, Place, walk, step, ◌>>=◌}

abbrev pub token_of : Placed → Token
token_of p = p.token

-- A list of placed tokens splits where the list of their tokens splits.
pub cut : (ps : List Placed) (xs ys : List Token) → map token_of ps ≡ xs ++ ys → (qs rs : List Placed) × (ps ≡ qs ++ rs) × (map token_of qs ≡ xs) × (map token_of rs ≡ ys)
cut ps [] ys e = ([], ps, refl, refl, e)
cut [] (x ∷ xs) ys e = cc
cut (p ∷ ps) (x ∷ xs) ys e =
    let rest : map token_of ps ≡ xs ++ ys = cc in
    let first : p.token ≡ x = cc in
    let c = cut ps xs ys rest in
    (p ∷ c.0, c.1, ap (λ o. p ∷ o) c.2, (λ i. first i ∷ c.3 i), c.4)

-- Walking over consecutive tokens.
pub walk_append : (rules : Rules) (place : Place) (qs rs : List Placed) → walk rules place (qs ++ rs) ≡ walk rules place qs >>= (λ next. walk rules next rs)
walk_append rules place [] rs = refl
walk_append rules place (q ∷ qs) rs = elim (step rules place q.at q.token) as (λ r. (r >>= (λ next. walk rules next (qs ++ rs))) ≡ ((r >>= (λ next. walk rules next qs)) >>= (λ next. walk rules next rs))) [ Ok next ↦ walk_append rules next qs rs | Err f ↦ refl ]

-- Holds if these tokens lead from one parser state to another.
pub record Leads (rules : Rules) (from : Place) (ts : List Token) (to : Place) : Type 0 where
  pub walks : (ps : List Placed) → map token_of ps ≡ ts → walk rules from ps ≡ Ok to

walk_none : (rules : Rules) (p : Place) (ps : List Placed) → map token_of ps ≡ [] → walk rules p ps ≡ Ok p
walk_none rules p [] e = refl
walk_none rules p (q ∷ ps) e = cc

-- No tokens leave the state unchanged.
pub leads_nowhere : (rules : Rules) (p : Place) → Leads rules p [] p
leads_nowhere rules p = record { walks = walk_none rules p }

walk_one : (rules : Rules) (p q : Place) (t : Token) → ((at : ℕ) → step rules p at t ≡ Ok q) → (ps : List Placed) → map token_of ps ≡ t ∷ [] → walk rules p ps ≡ Ok q
walk_one rules p q t steps [] e = cc
walk_one rules p q t steps (x ∷ []) e =
    let is : x.token ≡ t = cc in
    ap (λ k. step rules p x.at k >>= (λ next. walk rules next [])) is ∙ ap (λ r. r >>= (λ next. walk rules next [])) (steps x.at)
walk_one rules p q t steps (x ∷ y ∷ ps) e = cc

-- One token that leads to the state at every position in the text.
pub leads_by_one : (rules : Rules) (p q : Place) (t : Token) → ((at : ℕ) → step rules p at t ≡ Ok q) → Leads rules p (t ∷ []) q
leads_by_one rules p q t steps = record { walks = walk_one rules p q t steps }

walk_both : (rules : Rules) (p q r : Place) (xs ys : List Token) → Leads rules p xs q → Leads rules q ys r → (ps : List Placed) → map token_of ps ≡ xs ++ ys → walk rules p ps ≡ Ok r
walk_both rules p q r xs ys first second ps e =
    let c = cut ps xs ys e in
    ap (λ o. walk rules p o) c.2 ∙ walk_append rules p c.0 c.1
    ∙ ap (λ k. k >>= (λ next. walk rules next c.1)) (first.walks c.0 c.3) ∙ second.walks c.1 c.4

-- Consecutive lists of tokens.
pub leads_by_both : {rules : Rules} {p q r : Place} {xs ys : List Token} → Leads rules p xs q → Leads rules q ys r → Leads rules p (xs ++ ys) r
leads_by_both {rules} {p} {q} {r} {xs} {ys} first second = record { walks = walk_both rules p q r xs ys first second }

pub leads_to : {rules : Rules} {p q r : Place} {ts : List Token} → q ≡ r → Leads rules p ts q → Leads rules p ts r
leads_to {rules} {p} {q} {r} {ts} e leads = record { walks = λ ps is. leads.walks ps is ∙ ap (λ o. Ok o) e }

pub leads_along : {rules : Rules} {p q : Place} {ts us : List Token} → us ≡ ts → Leads rules p ts q → Leads rules p us q
leads_along {rules} {p} {q} {ts} {us} e leads = record { walks = λ ps is. leads.walks ps (is ∙ e) }
