use Rattle.std.proofs.Common.{ap, ◌∙◌}
use Rattle.secs_item.specs.Item.{values, ascii}
use Rattle.secs_item.specs.declared.item.Item.{Ascii}
use Rattle.secs_item.proofs.Views.{view-Ascii}
use Rattle.hsms_endpoint.proofs.Building.{list_of_two}
use Rattle.hsms_endpoint.proofs.desk.EquipmentDesk.identity.Goals as goal

pub returns : goal.returns
returns c =
    let mdln = c.in_ok-mdln.mdln in
    let softrev = c.in_ok-softrev.softrev in
    list_of_two c.in_ok-vec.field-0 (Ascii mdln) (Ascii softrev) (values (ascii c.args.self.now.mdln.items)) (values (ascii c.args.self.now.softrev.items)) c.in_ok-vec.ensures.items
    (view-Ascii mdln ∙ ap (λ octets. values (ascii octets)) (c.in_ok-mdln.ensures.items ∙ c.deref.ensures.value))
    (view-Ascii softrev ∙ ap (λ octets. values (ascii octets)) (c.in_ok-softrev.ensures.items ∙ c.deref-2.ensures.value))
