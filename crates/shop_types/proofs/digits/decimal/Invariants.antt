use Rattle.shop_model.proofs.Common.{◌≡◌, ◌<◌, ◌^◌, take, true, list_all, is_ascii_digit}
use Rattle.std.specs.Str.Parse.{digits_value}
use Rattle.shop_types.proofs.digits.decimal.Given as goal

abbrev pub invariant-loop-b : goal.invariant-loop-b
invariant-loop-b l = record {
  value : l.number ≡ digits_value 10 (take l.b-index l.bytes);
  small : l.number < 10 ^ l.b-index;
  digits : list_all is_ascii_digit (take l.b-index l.bytes) ≡ true;
}
