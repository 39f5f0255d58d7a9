use Rattle.shop_schema.proofs.Common.{◌≡◌, Ok, take, map, ⊤, DoesWithin, StoreFault}
use Rattle.till_book.specs.Seen.{seen_reply}
use Rattle.till_files.specs.Playing.{MarksReplies}
use Rattle.till_files.proofs.migrating.mark_replies.Given as goal

abbrev pub invariant-loop-reply : goal.invariant-loop-reply
invariant-loop-reply g l =
    (l.at ≡ l.reply-index)
    × DoesWithin {X = ⊤} {E = StoreFault} g.S.Store l.fn.tx.conn l.tx.conn (Ok tt)
    (λ _. MarksReplies (map (λ row. row.request) l.entries) (take l.reply-index (map seen_reply l.replies)))
