-- A session that hasn't come up, of which nothing is told.
use Rattle.std.proofs.Common.{◌≡◌, ◌⊎◌, Bool, true, refl, sym, ◌∙◌, inl, inr}
use Rattle.std.specs.Prelude.{Result, Ok, Err, OnOk}
use Rattle.cli_capture.specs.declared.report.Report.{Report}
use Rattle.cli_capture.specs.InnerMidstreamLog.{IsQuiet}
use Rattle.cli_capture.proofs.Tellings.{ok_then, tells_nothing, tells_then}
use Rattle.cli_capture.proofs.Unrefused.{err_memory, err_then, is_memory_stops, memory_stops, stops_then}

pub quiet_nothing : (up : Bool) (r : Report) → IsQuiet up up r r
unfolding IsQuiet
quiet_nothing up r = λ off. (off, refl)

-- what isn't told keeps it as it was
pub quiet_kept : (a b : Bool) (r : Report) → b ≡ a → IsQuiet a b r r
unfolding IsQuiet
quiet_kept a b r same = λ off. (sym same ∙ off, refl)

pub quiet_then : (a b c : Bool) (x y z : Report) → IsQuiet a b x y → IsQuiet b c y z → IsQuiet a c x z
unfolding IsQuiet
quiet_then a b c x y z first second = λ off.
    let two = second off in
    let one = first two.0 in
    (one.0, two.1 ∙ one.1)

pub ok_quiet_then : {T E : Type 0} (result : Result T E) (a b c : Bool) (x y z : Report) → IsQuiet a b x y
    → OnOk result (IsQuiet b c y z) → OnOk result (IsQuiet a c x z)
ok_quiet_then (Ok done) a b c x y z first second = quiet_then a b c x y z first second
ok_quiet_then (Err fault) a b c x y z first second = second

pub ok_kept_then : {T E : Type 0} (result : Result T E) (a b c : Bool) (x z : Report) → b ≡ a
    → OnOk result (IsQuiet b c x z) → OnOk result (IsQuiet a c x z)
ok_kept_then result a b c x z same second = ok_quiet_then result a b c x x z (quiet_kept a b x same) second

-- one that came up isn't quiet
pub ok_up : {T E : Type 0} (result : Result T E) (a b c : Bool) (x z : Report) → b ≡ true → c ≡ b
    → OnOk result (IsQuiet a c x z)
unfolding IsQuiet
ok_up (Ok done) a b c x z up same = λ off. let none : ⊥ = cc in absurd none
ok_up (Err fault) a b c x z up same = tt

-- it comes up by one thing alone
pub up_kept : {T E : Type 0} (result : Result T E) (a c : Bool) (P : Type 0) → c ≡ a → OnOk result (c ≡ true → (a ≡ true) ⊎ P)
up_kept (Ok done) a c P same = λ up. inl (sym same ∙ up)
up_kept (Err fault) a c P same = tt

pub up_by : {T E : Type 0} (result : Result T E) (a c : Bool) (P : Type 0) → P → OnOk result (c ≡ true → (a ≡ true) ⊎ P)
up_by (Ok done) a c P holds = λ up. inr holds
up_by (Err fault) a c P holds = tt

pub ruleset quiet_steps = (tells_nothing, tells_then, ok_then, quiet_nothing, quiet_kept, ok_quiet_then, ok_kept_then, ok_up, up_kept, up_by, memory_stops, is_memory_stops, stops_then, err_memory, err_then)
