use Rattle.shop_model.proofs.Common.{◌≡◌, ◌<◌, ◌^◌, ◌+◌, ◌*◌, arith, get_or, true, refl, is_ascii_digit, list_all_more}
use Rattle.std.proofs.lemmas.Int.Digits.{digits_value_more}
use Rattle.shop_types.proofs.NumberLemmas.{next_digit, fits_64, digit_is}
use Rattle.shop_types.proofs.digits.decimal.Goals as goal

pub overflow_mul-number : goal.overflow_mul-number
overflow_mul-number c =
    let small : c.loop-b.number * 10 + 0 < 10 ^ (c.loop-b.b-index + 1) = next_digit _ _ 0 c.loop-b.invariant.small (omega arith) (omega arith) in
    let fits = fits_64 (c.loop-b.number * 10 + 0) (c.loop-b.b-index + 1) small (omega arith) in
    omega arith

pub overflow_add-number : goal.overflow_add-number
overflow_add-number c =
    let small = rw c.if-not-is_ascii_digit.false at c.is_ascii_digit.ensures.bound in
    let digit = digit_is (get_or c.args.bytes.now c.loop-b.b-index 0) small in
    let next : c.loop-b.number * 10 + c.from.result < 10 ^ (c.loop-b.b-index + 1) =
    next_digit _ _ c.from.result c.loop-b.invariant.small (omega arith) (omega arith) in
    let fits = fits_64 (c.loop-b.number * 10 + c.from.result) (c.loop-b.b-index + 1) next (omega arith) in
    omega arith

pub loop-b-preserved : goal.loop-b-preserved
loop-b-preserved c =
    let small = rw c.if-not-is_ascii_digit.false at c.is_ascii_digit.ensures.bound in
    let digit = digit_is (get_or c.args.bytes.now c.loop-b.b-index 0) small in
    record {
      value = rw (digits_value_more 10 c.args.bytes.now c.loop-b.b-index c.loop-b-test.true, ← c.loop-b.invariant.value) (omega arith);
      small = next_digit _ _ c.from.result c.loop-b.invariant.small (omega arith) (omega arith);
      digits =
          let e : is_ascii_digit (get_or c.args.bytes.now c.loop-b.b-index 0) ≡ true = cc (c.is_ascii_digit.ensures.value) in
          rw (list_all_more is_ascii_digit c.args.bytes.now c.loop-b.b-index 0 c.loop-b-test.true, c.loop-b.invariant.digits, e) refl;
    }
