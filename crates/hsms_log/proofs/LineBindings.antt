-- Consequences of a chain of steps that may return nothing.
use Rattle.std.proofs.Common.{◌≡◌, ◌<◌, ℕ, Ok, Some, None, refl, arith}
use Rattle.std.specs.Prelude.{Option, Result, nat_lt}
use Rattle.std.proofs.lemmas.Option.{cond_some}
use Rattle.std.proofs.lemmas.Bool.{ltb-true, lt-ltb}
use Rattle.hsms_log.specs.InnerReading.{◌>>=◌, below}

pub bind_some : {A B : Type 0} (o : Option A) (f : A → Option B) (y : B) → (o >>= f) ≡ Some y → (x : A) × (o ≡ Some x) × (f x ≡ Some y)
bind_some None f y h = cc h
bind_some (Some x) f y h = (x, refl, h)

pub below_some : (bound n m : ℕ) → below bound n ≡ Some m → (m < bound) × (n ≡ m)
below_some bound n m h =
    let parts = cond_some (nat_lt n bound) n m h in
    let lt : n < bound = ltb-true n bound parts.0 in
    let same : n ≡ m = parts.1 in
    (omega arith, same)

pub below_fits : (bound n : ℕ) → n < bound → below bound n ≡ Some n
below_fits bound n lt = rw (lt-ltb n bound lt) refl

pub some_inj : {A : Type 0} (x y : A) → Some x ≡ Some y → x ≡ y
some_inj x y h = cc

-- A step of a chain that returned a value, followed by the others.
pub bind_step : {A B C : Type 0} (o : Option A) (f : A → Option B) (y : B) → (o >>= f) ≡ Some y
    → ((x : A) → o ≡ Some x → f x ≡ Some y → C) → C
bind_step o f y h next = let parts = bind_some o f y h in next parts.0 parts.1 parts.2

pub ok_inj : {A E : Type 0} (x y : A) → ◌≡◌ {A = Result A E} (Ok x) (Ok y) → x ≡ y
ok_inj x y h = cc
