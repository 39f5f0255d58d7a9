use Rattle.shop_schema.proofs.Common.{◌∙◌, sym, ap, List, Option, option_map, option_to_list, and_then, done, BookCopy, shop_of}
use Rattle.sql_rows.proofs.Chaining.{one_call}
use Rattle.shop_store.specs.Seen.{seen_copy_row}
use Rattle.shop_store.specs.declared.copies.CopyRow.{CopyRow}
use Rattle.consign_finds.proofs.Outs.{out_shown}
use Rattle.consign_finds.proofs.find_one.Goals as goal

pub returns : goal.returns
returns g c = done (and_then (one_call c.in_ok-row.ensures) (one_call c.in_ok-out.ensures.does)) (λ said books holds held.
    let row = said.0 books holds held in
    let out = said.1 books row.0 held in
    let listed : Option CopyRow → List BookCopy = λ o. option_to_list (option_map (λ (it : CopyRow). (seen_copy_row it).it) o) in
    (out.0, (sym (ap listed c.in-Some.is) ∙ row.1, c.is_some.ensures ∙ out_shown c.args.copy (shop_of c.args.branch books).rentals c.in_ok-out.out out.1)))
