use Rattle.std.proofs.Common.{[], ◌∷◌, refl, ap, ◌∙◌}
use Rattle.secs_item.specs.Item.{values, binary, view}
use Rattle.secs_item.specs.declared.item.Item.{Binary}
use Rattle.secs_item.proofs.Views.{view-Binary}
use Rattle.hsms_endpoint.proofs.Building.{list_of_two}
use Rattle.hsms_endpoint.proofs.desk.acknowledged.Goals as goal

pub returns : goal.returns
returns c =
    list_of_two c.in_ok-vec.field-0 (Binary c.in_ok-accepted.accepted) c.args.identity (values (binary (0 ∷ []))) (view c.args.identity) c.in_ok-vec.ensures.items
    (view-Binary c.in_ok-accepted.accepted ∙ ap (λ octets. values (binary octets)) c.in_ok-accepted.ensures.items) refl
