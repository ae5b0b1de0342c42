-- What was written.
use Rattle.std.proofs.Common.{◌++◌, ℕ, List, [], Option, Some, sym, ◌∙◌, ap, take, append_assoc}
use Rattle.std.proofs.lemmas.List.{append-nil}
use Rattle.hsms_frame.specs.Io.{Grows, GrowsByFront}
use Rattle.cli_capture.specs.Command.{GrowsBySome}

pub none_more : (old : Option (List ℕ)) → GrowsBySome old old
unfolding GrowsBySome
none_more old octets is = ([], is ∙ ap Some (sym (append-nil octets)))

pub some_more : (old mid new : Option (List ℕ)) → GrowsBySome old mid → GrowsBySome mid new → GrowsBySome old new
unfolding GrowsBySome
some_more old mid new before subsequent octets is =
    let one = before octets is in
    let two = subsequent (octets ++ one.0) one.1 in
    (one.0 ++ two.0, two.1 ∙ ap Some (append_assoc octets one.0 two.0))

pub all_more : (old new : Option (List ℕ)) (text : List ℕ) → Grows old new text → GrowsBySome old new
unfolding GrowsBySome
all_more old new text grows octets is = (text, grows octets is)

pub front_more : (old new : Option (List ℕ)) (text : List ℕ) → GrowsByFront old new text → GrowsBySome old new
unfolding GrowsBySome
front_more old new text grows octets is = let n = grows octets is in (take n.0 text, n.2)
