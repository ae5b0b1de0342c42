use Rattle.std.proofs.Common.{List, ℕ, [], ◌∙◌, Vec, Global, ap, string_bytes, subst, sym}
use Rattle.std.proofs.lemmas.Str.{IsUtf8-from_ascii}
use Rattle.std.specs.Str.{IsUtf8}
use Rattle.secs_text.specs.Printed.{printed}
use Rattle.secs_text.specs.View.{content}
use Rattle.secs_text.proofs.PrintedNotation.{notation_of, printed_is_ascii}
use Rattle.secs_text.proofs.printing.print.Goals as goal

pub unreachable-requires : goal.unreachable-requires
unreachable-requires c =
    let put = c.in_ok-end.ensures.puts.octets [] (λ e. c.new.ensures.items) in
    let given = c.give.ensures put.0 put.1 c.if-not-out.false in
    let m = content c.args.message.now in
    let utf8 = subst (λ (o : List ℕ). IsUtf8 o) (sym (given ∙ put.2)) (IsUtf8-from_ascii (printed m) (printed_is_ascii m c.in_ok-end.ensures.held)) in
    let read = c.from_utf8.ensures.succeeds utf8 in
    let none = rw c.in_default.is at read in
    cc

pub returns-clause-text : goal.returns-clause-text
returns-clause-text c =
    let put = c.in_ok-end.ensures.puts.octets [] (λ e. c.new.ensures.items) in
    let given = c.give.ensures put.0 put.1 c.if-not-out.false in
    ap (λ (v : Vec ℕ Global). v.items) c.in-Ok.ensures.ok ∙ given ∙ put.2

pub returns-clause-notation : goal.returns-clause-notation
returns-clause-notation c =
    let put = c.in_ok-end.ensures.puts.octets [] (λ e. c.new.ensures.items) in
    let given = c.give.ensures put.0 put.1 c.if-not-out.false in
    notation_of (content c.args.message.now) (string_bytes c.in-Ok.text) (ap (λ (v : Vec ℕ Global). v.items) c.in-Ok.ensures.ok ∙ given ∙ put.2) c.in_ok-end.ensures.held

pub returns-clause-held : goal.returns-clause-held
returns-clause-held c = c.in_ok-end.ensures.held
