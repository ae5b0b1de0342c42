-- How much of a capture is passed by steps: `Endless` is answered only of one that has as many octets.
use Rattle.std.proofs.Common.{◌≡◌, ◌≤◌, ◌+◌, ◌-◌, ◌^◌, ◌++◌, ◌∙◌, ℕ, List, length, Option, Result, Ok, Err, ap, arith, length-append}
use Rattle.std.specs.Prelude.{IfErr}
use Rattle.hsms_frame.specs.Io.{IfRecorded}
use Rattle.capture_errors.specs.declared.capture_error.CaptureError.{CaptureError}
use Rattle.capture_errors.specs.declared.capture_error.CaptureError.TheVariants as error
use Rattle.capture_pcap.specs.declared.fault.FileFault.{FileFault}
use Rattle.capture_pcap.specs.BlockReader.{Reading, TakesFront, TakesHeader}
use Rattle.cli_capture.specs.Command.{HasMany, IsEndless}
use Rattle.cli_capture.specs.InnerCommand.{HasPassed, IsMissingBy, IsNoRead}

pub none_passed : (ahead : List ℕ) (from : Option (List ℕ)) → HasPassed 0 ahead from ahead from
none_passed ahead from input emitted = (input, emitted, omega arith)

pub one_passed : (n : ℕ) (ahead : List ℕ) (from : Option (List ℕ)) (was now : Reading) (left new : Option (List ℕ)) → HasPassed n ahead from was.ahead left
    → IfRecorded left (λ input. TakesFront was input now new) → HasPassed (n + 1) ahead from now.ahead new
one_passed n ahead from was now left new so takes = λ input emitted.
    let one = so input emitted in
    let front = takes one.0 one.1 in
    let rest = front.0 in
    let some = front.3 in
    let passed = one.2 in
    let whole : length (was.ahead ++ one.0) ≡ length (now.last ++ (now.ahead ++ rest)) = ap length front.2 in
    let before = length-append was.ahead one.0 in
    let subsequent = length-append now.last (now.ahead ++ rest) in
    let left = length-append now.ahead rest in
    (rest, front.1, omega (arith, whole, before, subsequent, left, some, passed))

pub many_passed : (n : ℕ) (ahead : List ℕ) (from : Option (List ℕ)) (now : List ℕ) (left : Option (List ℕ)) → HasPassed n ahead from now left → 2 ^ 64 - 4 ≤ n
    → IfRecorded from (λ input. HasMany (ahead ++ input))
many_passed n ahead from now left so le = λ input emitted.
    let one = so input emitted in
    let passed = one.2 in
    let whole = length-append ahead input in
    omega (arith, whole, passed, le)

pub many_in : (now : Reading) (from left : Option (List ℕ)) → IfRecorded from (λ input. TakesHeader input left now)
    → IfRecorded left (λ input. HasMany (now.ahead ++ input)) → IfRecorded from HasMany
many_in now from left opens many = λ input emitted.
    let one = opens input emitted in
    let most = many one.1 one.2 in
    let whole : length input ≡ length (one.0 ++ (now.ahead ++ one.1)) = ap length one.3 in
    let header = length-append one.0 (now.ahead ++ one.1) in
    omega (arith, whole, header, most)

-- ---- what isn't told so

pub write_ends : (fault : CaptureError) (P : Type 0) → IsNoRead fault → IsEndless fault → P
write_ends (error.Refused rejection) P is endless = absurd endless
write_ends error.Read P is endless = absurd endless
write_ends error.Write P is endless = absurd endless
write_ends error.Endless P is endless = absurd is
write_ends error.Memory P is endless = absurd endless

pub never_endless : {T : Type 0} (result : Result T CaptureError) (P : Type 0) → IfErr result IsNoRead → IfErr result (λ fault. IsEndless fault → P)
never_endless (Ok done) P word = tt
never_endless (Err fault) P word = write_ends fault P word

pub missing_ends : (fault : FileFault) (packets : ℕ) (P : Type 0) (emitted : CaptureError) → IsMissingBy fault packets (Err emitted) → IsEndless emitted → P
missing_ends fault packets P (error.Refused rejection) is endless = absurd endless
missing_ends fault packets P error.Read is endless = absurd endless
missing_ends fault packets P error.Write is endless = absurd endless
missing_ends fault packets P error.Endless is endless = absurd is
missing_ends fault packets P error.Memory is endless = absurd endless
