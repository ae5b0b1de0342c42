use Rattle.std.proofs.Common.{◌≡◌, ℕ, suc, ◌+◌, ◌≤◌, List, [], ◌∷◌, ◌++◌, length, take, drop, refl, ◌∙◌, append_assoc, arith}
use Rattle.std.proofs.Math.ListN.{set}
use Rattle.std.proofs.lemmas.List.{length-set, set_split, take_more_set, drop-set-lt}
use Rattle.secs_item.proofs.header_patch.set_two.Goals as goal

two_set : (xs : List ℕ) (at a b : ℕ) → at + 2 ≤ length xs → set (set xs at a) (at + 1) b ≡ take at xs ++ a ∷ b ∷ drop (at + 2) xs
two_set xs at a b le =
    let front : take (at + 1) (set xs at a) ≡ take at xs ++ a ∷ [] = take_more_set xs at a (omega arith) in
    let two : suc (at + 1) ≡ at + 2 = omega arith in
    let rest : drop (at + 2) (set xs at a) ≡ drop (at + 2) xs = drop-set-lt (at + 2) xs at a (omega arith) in
    set_split (set xs at a) (at + 1) b (omega (arith, length-set xs at a)) ∙ rw (front, two, rest, append_assoc) refl

pub returns : goal.returns
returns c = two_set c.args.out.now.items c.args.at c.args.first c.args.second c.requires
