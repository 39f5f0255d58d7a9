-- Readings outside any transaction, and the replies that show them.
use Rattle.std.specs.Prelude.{◌≡◌, ℕ, map, flat_map}
use Rattle.sqlite.specs.State.{State}
use Rattle.shop_model.specs.Rows.{numbered}
use Rattle.shop_model.specs.Values.{Branch}
use Rattle.shop_model.specs.Views.{listed_store, sales_by_store}
use Rattle.shop_model.specs.Machine.{Shown, Shows, RowsAre, TransitIs}
use Rattle.shop_model.specs.Answers.{Answer, answer_of}
use Rattle.shop_model.specs.Books.{Books, shop_of}
use Rattle.shop_schema.specs.Held.{IsHeld}
use Rattle.branch_finds.specs.Looks.{listed}
use Rattle.branch_finds.specs.declared.work.Listing.{Listing}
use Rattle.branch_finds.specs.declared.work.Work.{Work}
use Rattle.branch_finds.specs.declared.work.Work.TheVariants as work
use Rattle.consign_store.specs.Listed.{under_way}
use Rattle.chain_requests.specs.declared.reports.Report.{Report}
use Rattle.chain_requests.specs.declared.reports.Report.TheVariants.{OfBranch, Sales, Transit}
use Rattle.chain_requests.specs.Chains.{Rests}

abbrev pub shown_by : Report → Books → Shown
shown_by (OfBranch b list) books = listed b list books
shown_by Sales books =
    RowsAre (map listed_store (flat_map (λ (it : ℕ × Branch). sales_by_store it.0 books.catalogue (shop_of it.0 books)) (numbered books.catalogue.branches)))
shown_by Transit books = TransitIs (under_way books)

-- the branch's work, with its list as a report
abbrev pub for_branch : ℕ → Work Listing → Work Report
for_branch b (work.Answered it) = work.Answered it
for_branch b (work.Shows list) = work.Shows (OfBranch b list)

-- the answer shows the reading of the books that the chain has
abbrev pub ShowsReport : Report → Answer → State → Type 0
ShowsReport report answer old = (books : Books) → Rests old books → IsHeld books → answer ≡ answer_of (Shows (shown_by report books))
