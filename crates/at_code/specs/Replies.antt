-- What eight read slots and the 72 of a scratchpad give, as the code hands it on.
--     byte_read_of b      the byte that the line shows, and the bench after it
--     replied b         the nine bytes, and the bench after them
use Rattle.bench.specs.declared.Bench.{Bench}
use Rattle.at_code.specs.declared.ByteRead.{ByteRead}
use Rattle.at_code.specs.declared.Reply.{Reply}
use Rattle.master_rules.specs.Access.{byte_shown, after_slots, bytes_shown}

unfoldable pub byte_read_of : Bench → ByteRead
byte_read_of b = record { byte = byte_shown b; bench = after_slots 8 b }

-- the nine bytes of a scratchpad: 72 read slots
unfoldable pub replied : Bench → Reply
replied b = record { pad = bytes_shown 9 b; bench = after_slots 72 b }
