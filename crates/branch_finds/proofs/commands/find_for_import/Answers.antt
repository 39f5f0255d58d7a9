use Rattle.shop_schema.proofs.Common.{◌∙◌, sym, ap, and_then, done, some_calls, of, Text, Stock, unmarked, length_map}
use Rattle.sql_rows.proofs.Chaining.{one_call}
use Rattle.branch_finds.proofs.commands.find_for_import.Goals as goal

pub returns : goal.returns
returns g c =
    done (and_then (one_call c.in_ok-copies.ensures.does) (and_then (one_call c.in_ok-has_lot.ensures) (some_calls c.in_ok-stock.ensures.does)))
    (λ said at books holds held.
    let count = said.0 books holds held in
    let lot = said.1.0 books count.0 held in
    let stock = said.1.1 books lot.0 held in (
      stock.0,
      λ known. let it = stock.1 known in (
        (
          λ rules reads. record {
            count = count.1 ∙ sym (length_map unmarked (of c.args.branch books.copies));
            lot_in = lot.1;
            reading = c.in_ok-stock.ensures.value ∙ ap (λ (read : Text → Stock). read c.args.file.now) (sym reads);
            rows = it.0;
          },
          tt,
        ),
        it.1,
      ),
    ))
