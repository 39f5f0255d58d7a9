-- What a branch is sent over its connections, and that it depends on nothing but what concerns the branch.
use Rattle.std.specs.Prelude.{◌≡◌, ℕ, List}
use Rattle.std.specs.List.{flat_map}
use Rattle.shop_model.specs.Values.{Rules}
use Rattle.shop_model.specs.Machine.{Input}
use Rattle.shop_model.specs.Books.{Books, state_of}
use Rattle.shop_model.specs.Sound.{HasNumbers}
use Rattle.shop_model.specs.SameStates.{SameState}
use Rattle.branch_work.specs.Rules.{rules_of}
use Rattle.counter_routes.specs.Words.{Meaning}
use Rattle.chain_requests.specs.Holding.{Holding}
use Rattle.chain_requests.specs.Branches.{answered_to, seen_by}
use Rattle.chain_requests.specs.Chains.{Runs}
use Rattle.counter_http.specs.Exchanges.{Exchange, events_of, answers_of, text_of}

-- The bytes sent to the branch: the replies to its own messages, one after another. The replies that say that the store couldn't do its part are left out.
abbrev pub sent_to : Meaning → Rules → ℕ → List Exchange → Books → List ℕ
sent_to meaning rules b exchanges books = flat_map text_of (answered_to rules b (events_of meaning exchanges) (answers_of exchanges) books)

-- What the branch saw of the answered messages: its own requests, head office's accepted commands, and the consignments sent to the branch, in their order.
abbrev pub seen_of : Meaning → Rules → ℕ → List Exchange → Books → List Input
seen_of meaning rules b exchanges books = seen_by rules b (events_of meaning exchanges) (answers_of exchanges) books

-- Two chains agree on what concerns the branch: the limits, the catalogue and the branch's shop. Each may have kept commands, received lots and cast actors in
-- an order of its own. The rows of both are numbered, as the rows of sound books are.
pub record AgreeOn (b : ℕ) (one other : Holding) : Type 0 where
  pub limits : one.limits ≡ other.limits
  pub shop : SameState (state_of b one.books) (state_of b other.books)
  pub numbers : HasNumbers one.books
  pub numbers_too : HasNumbers other.books

-- In any two histories that agree on what concerns a branch, that branch is sent the same bytes, whatever head office's words mean in each.
abbrev pub BranchesAreSentTheSame : Type 0
BranchesAreSentTheSame =
    (b : ℕ) (meaning second : Meaning) (exchanges others : List Exchange) (old new other another : Holding)
    → Runs (events_of meaning exchanges) (answers_of exchanges) old new → Runs (events_of second others) (answers_of others) other another
    → AgreeOn b old other → seen_of meaning (rules_of old.limits) b exchanges old.books ≡ seen_of second (rules_of other.limits) b others other.books
    → sent_to meaning (rules_of old.limits) b exchanges old.books ≡ sent_to second (rules_of other.limits) b others other.books
