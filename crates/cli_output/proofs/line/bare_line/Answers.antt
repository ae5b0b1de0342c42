use Rattle.std.proofs.Common.{◌≡◌, ◌+◌, ◌++◌, ◌∷◌, [], ℕ, List, length, take, drop, sym, ap, ap₂, ◌∙◌}
use Rattle.hex.specs.Hex.{encode_with}
use Rattle.cli_output.specs.Line.{address_of}
use Rattle.std.proofs.lemmas.List.{append_assoc, length-append, take_at}
use Rattle.cli_output.proofs.line.bare_line.Goals as goal

pub returns : goal.returns
unfolding encode_with
returns c =
    let name = c.args.name.now in
    let end = c.address_and_end.result in
    let rest : List ℕ = drop 15 c.split_at_mut-front.result.1.now in
    let count : ℕ = length name + 15 in
    let fifteen : length end ≡ 15 = ap length c.address_and_end.ensures in
    let long : length (name ++ end) ≡ count = length-append name end ∙ ap (λ n. length name + n) fifteen in
    ap₂ (λ (xs ys : List ℕ). take count (xs ++ (ys ++ rest))) c.copy_from_slice.ensures.after c.copy_from_slice-2.ensures.after
    ∙ ap (take count) (sym (append_assoc name end rest)) ∙ take_at (name ++ end) rest count long ∙ ap (λ (xs : List ℕ). name ++ xs) c.address_and_end.ensures
    ∙ sym (append_assoc name (address_of c.args.header) (10 ∷ []))
