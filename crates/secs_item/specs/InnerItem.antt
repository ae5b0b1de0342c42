-- What only contracts of private functions use, besides the definitions of `Item`.
use Rattle.std.specs.Prelude.{List, map}
use Rattle.secs_item.specs.declared.item.Item.{Item}
use Rattle.secs_item.specs.Item.{Elements, elements_of, view}

-- ---- the value that an `Item` represents

abbrev pub views : List Item → Elements
views items = elements_of (map view items)
