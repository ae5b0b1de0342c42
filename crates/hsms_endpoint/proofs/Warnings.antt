-- Stream 9 of equipment breaks no rule of frames.
use Rattle.std.proofs.Common.{◌≡◌, ℕ, ◌<◌, ◌≤◌, ◌%◌, ◌==◌, Bool, true, false, List, [], ◌∷◌, length, Some, refl, ap, arith, if◌then◌else◌}
use Rattle.std.specs.List.{AllByRecursion}
use Rattle.std.proofs.lemmas.Bool.Decides.{nat_tests}
use Rattle.secs_item.specs.Item.{values, binary}
use Rattle.secs_item.specs.Encoding.{IsText, InOrder, Octet}
use Rattle.hsms_frame.specs.declared.header.Header.{Header}
use Rattle.hsms_frame.specs.declared.kinds.Kind.TheVariants.{Primary, Reply}
use Rattle.hsms_frame.specs.Header.{header_octets}
use Rattle.hsms_machine.specs.declared.phase.Phase.TheVariants.{Selected}
use Rattle.hsms_machine.specs.declared.settings.Role.{Role}
use Rattle.hsms_machine.specs.declared.settings.Role.TheVariants.{Equipment}
use Rattle.hsms_machine.specs.declared.direction.Flow.TheVariants.{Outgoing}
use Rattle.hsms_machine.specs.declared.view.View.{View}
use Rattle.hsms_machine.specs.Settings.{IsWithinLimits}
use Rattle.hsms_machine.specs.Message.{is_from_equipment}
use Rattle.hsms_endpoint.specs.Frame.{header_item, warning}
use Rattle.hsms_endpoint.proofs.OwnFrames.{IsFine}
use Rattle.hsms_endpoint.proofs.DataFrames.{data_fine}

in_order : (xs : List ℕ) → AllByRecursion (λ n. n < 256) xs → InOrder Octet xs xs
in_order [] all = refl
in_order (x ∷ xs) all = (x ∷ [], xs, (all.0, refl), in_order xs all.1, refl)

ten : (h : Header) → length (header_octets h) ≡ 10
ten h = refl

item_text : (depth : ℕ) (h : Header) → AllByRecursion (λ n. n < 256) (header_octets h) → IsText depth (header_item h)
item_text depth h all =
    let e : length (header_octets h) ≡ 10 = ten h in (
      Some (values (binary (header_octets h))),
      ((header_octets h, in_order (header_octets h) all, record { field = 1; one_at_least = omega arith; three_at_most = omega arith; fits = omega arith; parts = refl }), omega arith),
    )

same_number : (n : ℕ) → (n == n) ≡ true
same_number n = grind (arith, nat_tests)

pub warning_fine : (view : View) (function : ℕ) (header : Header) (number : ℕ) → (function % 2 == 1) ≡ true → IsWithinLimits view.settings → view.settings.role ≡ Equipment → view.phase ≡ Selected → AllByRecursion (λ n. n < 256) (header_octets header) → IsFine view (warning view.settings function header number)
warning_fine view function header number odd within equipment selected octets =
    let e : length (header_octets header) ≡ 10 = ten header in
    let most : 256 ≤ view.settings.max = within.least_max in
    data_fine view (warning view.settings function header number) Primary
    (record {
      kind_is = ap (λ (b : Bool). if b then Primary else Reply) odd;
      carries = refl;
      size = omega arith;
      session = same_number view.settings.device;
      direction = ap (λ (r : Role). is_from_equipment r Outgoing) equipment;
      wait = refl;
      selected = selected;
      text = item_text view.settings.depth header octets;
      free = λ h. absurd (let d : false ≡ true = h in cc);
      answer = λ h. absurd (let d : false ≡ true = h in cc);
    })
