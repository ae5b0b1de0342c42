-- The value that a message represents (SEMI E5, section 6).
use Rattle.std.specs.Prelude.{List, map, option_map}
use Rattle.secs_item.specs.Item.{view}
use Rattle.secs_text.specs.Content.{Content}
use Rattle.secs_text.specs.declared.message.Message.{Message}

abbrev pub content : Message → Content
content m = record { stream = m.stream; function = m.function; wait = m.wait; item = option_map view m.item }

abbrev pub contents : List Message → List Content
contents ms = map content ms
