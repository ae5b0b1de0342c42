-- The answers of the two message handlers of this project (SEMI E5: S1F1 and S1F13, are you there and establish
-- communications, and S2F25, loopback diagnostic). Only S2F25's item is read.
use Rattle.std.specs.Prelude.{ℕ, ◌==◌, Bool, ◌&&◌, ◌||◌, List, [], ◌∷◌, Option, Some, None, if◌then◌else◌}
use Rattle.secs_item.specs.Item.{Value, list, values, binary, ascii, element, no_elements}
use Rattle.secs_text.specs.Content.{Content}
use Rattle.hsms_endpoint.specs.Answer.{Answered, replies, quiet, no_stream, no_function, illegal}

-- The item of S1F2: equipment's model and software revision; an empty list for a host.
abbrev pub equipment_identity : List ℕ → List ℕ → Value
equipment_identity mdln softrev =
    list (element (values (ascii mdln)) (element (values (ascii softrev)) no_elements))

abbrev pub host_identity : Value
host_identity = list no_elements

-- S1F14: COMMACK 0 (communications are accepted), and the item of S1F2.
abbrev pub acknowledged : Value → Value
acknowledged identity = list (element (values (binary (0 ∷ []))) (element identity no_elements))

-- S2F26 returns a B item unchanged.
abbrev pub looped_back : Option Value → Answered
looped_back (Some (values (binary octets))) = replies (Some (values (binary octets)))
looped_back (Some other) = illegal
looped_back None = illegal

abbrev pub is_named : ℕ → ℕ → Content → Bool
is_named stream function message = (message.stream == stream) && (message.function == function)

-- The table of a handler that has this identity and this answer to stream 9.
abbrev pub desk_answer : Value → Answered → Content → Answered
desk_answer identity nine message =
    if is_named 1 1 message then replies (Some identity)
    else if is_named 1 13 message then replies (Some (acknowledged identity))
    else if is_named 2 25 message then looped_back message.item
    else if (message.stream == 1) || (message.stream == 2) then no_function
    else if message.stream == 9 then nine
    else no_stream

abbrev pub equipment_answer : List ℕ → List ℕ → Content → Answered
equipment_answer mdln softrev message = desk_answer (equipment_identity mdln softrev) no_stream message

abbrev pub host_answer : Content → Answered
host_answer message = desk_answer host_identity quiet message
