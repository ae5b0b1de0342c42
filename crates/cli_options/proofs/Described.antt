-- Commands with options and subcommands, one after another.
use Rattle.std.proofs.Common.{◌≡◌, ◌<◌, ◌+◌, ℕ, suc, Bool, true, false, List, [], ◌∷◌, ◌++◌, get_or, length, map, take, refl, sym, ap, ap₂, subst, ◌∙◌, arith, take-suc}
use Rattle.std.specs.Prelude.{◌&&◌, not}
use Rattle.std.proofs.lemmas.List.{append_assoc, map-append}
use Rattle.clap.specs.Words.{App, Rule, Shape, with_rule, with_subcommand}
use Rattle.cli_options.specs.InnerClapCommand.{with_rules, with_subcommands}

-- The third of the tests for a plain command requires that it has none.
pub third_fails : (a b c d : Bool) → (a && (b && (not c && d))) ≡ true → c ≡ false
third_fails a b false d is = refl
third_fails true true true d is = absurd cc
third_fails true false true d is = absurd cc
third_fails false b true d is = absurd cc

with_one_rule : (app : App) (rules : List Rule) (rule : Rule) → with_rule (with_rules app rules) rule ≡ with_rules app (rules ++ rule ∷ [])
with_one_rule app rules rule =
    ap (λ (all : List Rule). record app { top = record app.top { rules = all } }) (append_assoc app.top.rules rules (rule ∷ []))

with_one_subcommand : (app : App) (shapes : List Shape) (shape : Shape)
    → with_subcommand (with_subcommands app shapes) shape ≡ with_subcommands app (shapes ++ shape ∷ [])
with_one_subcommand app [] shape = refl
with_one_subcommand app (first ∷ shapes) shape = with_one_subcommand (with_subcommand app first) shapes shape

map_next : {A B : Type 0} (f : A → B) (xs : List A) (i : ℕ) (d : A) → i < length xs
    → map f (take (i + 1) xs) ≡ map f (take i xs) ++ f (get_or xs i d) ∷ []
map_next {A = A} f xs i d below =
    let next : suc i ≡ i + 1 = omega arith in
    let P : ℕ → Type 0 = λ k. take k xs ≡ take i xs ++ get_or xs i d ∷ [] in
    ap (map f) (subst P next (take-suc xs i d below)) ∙ map-append f (take i xs) (get_or xs i d ∷ [])

-- What is described for a list is a command with one more entry.
pub with_next_rule : {T : Type 0} (f : T → Rule) (xs : List T) (i : ℕ) (d : T) (first old new : App) (rule : Rule) → i < length xs
    → old ≡ with_rules first (map f (take i xs)) → new ≡ with_rule old rule → rule ≡ f (get_or xs i d)
    → new ≡ with_rules first (map f (take (i + 1) xs))
with_next_rule f xs i d first old new rule below so_far adds is =
    adds ∙ ap₂ with_rule so_far is ∙ with_one_rule first (map f (take i xs)) (f (get_or xs i d))
    ∙ ap (with_rules first) (sym (map_next f xs i d below))

pub with_next_subcommand : {T : Type 0} (f : T → Shape) (xs : List T) (i : ℕ) (d : T) (first old new : App) (shape : Shape)
    → i < length xs → old ≡ with_subcommands first (map f (take i xs)) → new ≡ with_subcommand old shape → shape ≡ f (get_or xs i d)
    → new ≡ with_subcommands first (map f (take (i + 1) xs))
with_next_subcommand f xs i d first old new shape below so_far adds is =
    adds ∙ ap₂ with_subcommand so_far is ∙ with_one_subcommand first (map f (take i xs)) (f (get_or xs i d))
    ∙ ap (with_subcommands first) (sym (map_next f xs i d below))
