-- The line on what is not audited.
use Rattle.std.specs.Prelude.{◌++◌, ◌==◌, ◌∷◌, ℕ, zero, suc, Bool, true, false, if◌then◌else◌, List, [], length, codes, decimal}
use Rattle.capture_unjudged.specs.declared.pairs.Pairs.{Pairs}
use Rattle.capture_unjudged.specs.declared.unjudged.Unjudged.{Unjudged}

-- At most `left` further numbers, each after a comma, and two dots for those after them.
unfoldable pub rest_text : ℕ → List ℕ → List ℕ
rest_text left [] = []
rest_text zero (n ∷ ns) = codes " .."
rest_text (suc left) (n ∷ ns) = codes ", " ++ decimal n ++ rest_text left ns

-- The first eight numbers, and two dots for further ones.
abbrev pub numbers_text : List ℕ → List ℕ
numbers_text [] = []
numbers_text (n ∷ ns) = decimal n ++ rest_text 7 ns

-- The number of sessions, and whether there are more.
abbrev pub sessions_text : ℕ → Bool → List ℕ
sessions_text count true = decimal count ++ codes " or more sessions"
sessions_text count false = if count == 1 then codes "1 session" else decimal count ++ codes " sessions"

-- ---- the parts; each is empty if there is nothing of it

abbrev pub running_part : Pairs → List ℕ
running_part pairs =
    let count = length pairs.pairs.keys in
    if count == 0 then [] else
    (if count == 1 then codes "1 session that was running before the capture (--midstream)"
    else sessions_text count pairs.has_more ++ codes " that were running before the capture (--midstream)")

abbrev pub elsewhere_part : Pairs → List ℕ
elsewhere_part pairs =
    let count = length pairs.pairs.keys in
    if count == 0 then [] else sessions_text count pairs.has_more ++ codes " of other addresses (--peer)"

abbrev pub devices_part : ℕ → List ℕ → List ℕ
devices_part sessions devices =
    if sessions == 0 then [] else
    sessions_text sessions false ++ (if length devices == 1 then codes " of another device: " else codes " of other devices: ")
    ++ numbers_text devices

abbrev pub ports_part : List ℕ → List ℕ
ports_part ports =
    if length ports == 0 then [] else
    (if length ports == 1 then codes "HSMS at another port: " else codes "HSMS at other ports: ") ++ numbers_text ports

-- ---- the line

-- The parts with one more. A semicolon separates it from those before.
abbrev pub with_part : List ℕ → List ℕ → List ℕ
with_part parts part =
    if length part == 0 then parts else parts ++ (if length parts == 0 then [] else codes "; ") ++ part

abbrev pub parts_of : Unjudged → List ℕ
parts_of u =
    let running = with_part [] (running_part u.running) in
    let elsewhere = with_part running (elsewhere_part u.elsewhere) in
    let devices = with_part elsewhere (devices_part u.strange u.devices.lowest.items) in
    with_part devices (ports_part u.ports.lowest.items)

-- The line with its line feed. It is empty if there is nothing.
abbrev pub line_of : Unjudged → List ℕ
line_of u = if length (parts_of u) == 0 then [] else codes "# not judged: " ++ parts_of u ++ 10 ∷ []
