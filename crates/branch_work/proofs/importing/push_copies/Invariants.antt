use Rattle.std.proofs.Common.{◌≡◌, ◌+◌, ◌≤◌, ◌++◌, map, replicate, vec_len, vec_capacity}
use Rattle.shop_store.specs.Seen.{seen_copy_row}
use Rattle.branch_work.specs.Added.{copies_from}
use Rattle.branch_work.proofs.importing.push_copies.Given as goal

abbrev pub invariant-loop : goal.invariant-loop
invariant-loop l =
    (vec_len l.copies ≡ vec_len l.fn.copies + l.counter) × (vec_len l.fn.copies + l.count ≤ vec_capacity l.copies)
    × (map seen_copy_row l.copies.items
    ≡ map seen_copy_row l.fn.copies.items ++ copies_from l.branch (l.first + vec_len l.fn.copies) (replicate l.counter l.film))
