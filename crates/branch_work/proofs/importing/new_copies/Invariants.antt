use Rattle.std.proofs.Common.{◌≡◌, take, map, vec_len}
use Rattle.branch_core.specs.StockLists.{copies_of, films_of}
use Rattle.shop_store.specs.Seen.{seen_copy_row}
use Rattle.branch_work.specs.Added.{copies_from}
use Rattle.branch_work.proofs.importing.new_copies.Given as goal

abbrev pub invariant-loop-row : goal.invariant-loop-row
invariant-loop-row l =
    (vec_len l.copies ≡ copies_of (take l.row-index l.stock))
    × (map seen_copy_row l.copies.items ≡ copies_from l.branch l.first (films_of (take l.row-index l.stock)))
