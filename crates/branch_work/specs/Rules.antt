-- Defines the rules of a chain with the given limits.
use Rattle.shop_types.specs.LimitValues.{Limits}
use Rattle.shop_model.specs.Values.{Rules}
use Rattle.stock_csv.specs.Stock.{stock_of}

-- the rules: the limits, and the definition by which stock files are read
abbrev pub rules_of : Limits → Rules
rules_of limits = record { commands = limits.commands; copies = limits.copies; stock_of = stock_of }
