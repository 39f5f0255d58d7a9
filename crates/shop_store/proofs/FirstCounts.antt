-- Of the first counts of a chain: they are the books' own.
use Rattle.shop_schema.proofs.Common.{ℕ, List, [], refl, IsPermutation-refl, State, opening_books, token_of, add_count, new_count, no_counts, with_branch}
use Rattle.shop_schema.proofs.Common.{counts_of, Holds, HoldsWith, first_books}
use Rattle.shop_ledger.proofs.CountsOf.{agreed}

pub first_agreed : (s : State) (token : List ℕ) → HoldsWith (add_count (new_count 0 4) no_counts) s (first_books token) → Holds s (first_books token)
first_agreed s token h = agreed s (first_books token) (add_count (new_count 0 4) no_counts) refl (IsPermutation-refl []) h

pub opening_agreed : (s : State)
    → HoldsWith (with_branch 3 (with_branch 2 (with_branch 1 (counts_of (first_books (token_of 0)))))) s opening_books → Holds s opening_books
opening_agreed s h =
    agreed s opening_books (with_branch 3 (with_branch 2 (with_branch 1 (counts_of (first_books (token_of 0)))))) refl (IsPermutation-refl []) h
