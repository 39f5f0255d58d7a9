-- Defines what a branch's reading shows.
use Rattle.std.specs.Prelude.{◌≡◌, ℕ}
use Rattle.sqlite.specs.State.{State}
use Rattle.shop_model.specs.Values.{Ask}
use Rattle.shop_model.specs.Machine.{look}
use Rattle.shop_model.specs.Answers.{Answer, answer_of}
use Rattle.shop_model.specs.Books.{Books, shop_of}
use Rattle.shop_types.specs.declared.reply.Reply.{Reply}
use Rattle.shop_types.specs.Replies.{seen_reply}
use Rattle.shop_ledger.specs.Calls.{Finds}

-- the answer to a branch's reading, by the catalogue and the branch's own shop
abbrev pub looked : ℕ → Ask → Books → Answer
looked b ask books = answer_of (look b books.catalogue (shop_of b books) ask)

-- the reply is that answer
abbrev pub Tells : ℕ → Ask → Reply → State → State → Type 0
Tells b ask reply = Finds (λ books. seen_reply reply ≡ looked b ask books)
