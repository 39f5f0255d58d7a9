-- What a line of head office's words says.
use Rattle.std.specs.Prelude.{ℕ, List, Option, option_map, string_bytes}
use Rattle.shop_types.specs.declared.line.LineAct.{LineAct}
use Rattle.shop_types.specs.declared.line.Line.{Line}

-- the bytes of the file's name, where there is one, and what is asked for
pub record LineValue : Type 0 where
  pub db : Option (List ℕ)
  pub act : LineAct

abbrev pub seen_line : Line → LineValue
seen_line line = record { db = option_map string_bytes line.db; act = line.act }
