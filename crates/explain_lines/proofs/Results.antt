-- Facts of a result.
use Rattle.std.proofs.Common.{◌≡◌, ℕ, List, Ok, Err}
use Rattle.std.specs.Prelude.{Result, IfOk, OnOk, is_ok, if◌then◌else◌}

-- A fact that holds in any case holds if a value is returned.
pub on_ok : {T E : Type 0} (X : Type 0) (r : Result T E) → X → OnOk r X
on_ok X (Ok _) fact = fact
on_ok X (Err _) fact = tt

pub on_ok_more : {T E : Type 0} (X Y : Type 0) (r : Result T E) → (X → Y) → OnOk r X → OnOk r Y
on_ok_more X Y (Ok _) more fact = more fact
on_ok_more X Y (Err _) more fact = tt

pub on_ok_three : {T E : Type 0} (A B C D : Type 0) (r : Result T E) → (A → B → C → D) → OnOk r A → OnOk r B → OnOk r C → OnOk r D
on_ok_three A B C D (Ok _) more a b c = more a b c
on_ok_three A B C D (Err _) more a b c = tt

-- Bytes that grow if a value is returned.
pub on_ok_grown : {T E : Type 0} (r : Result T E) (new more old : List ℕ) → new ≡ (if is_ok r then more else old) → OnOk r (new ≡ more)
on_ok_grown (Ok _) new more old is = is
on_ok_grown (Err _) new more old is = tt

pub if_ok_more : {T E : Type 0} (P Q : T → Type 0) (r : Result T E) → ((x : T) → P x → Q x) → IfOk r P → IfOk r Q
if_ok_more P Q (Ok x) more fact = more x fact
if_ok_more P Q (Err _) more fact = tt
