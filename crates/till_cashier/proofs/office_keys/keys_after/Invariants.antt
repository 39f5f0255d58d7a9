use Rattle.std.proofs.Common.{◌≡◌, ◌+◌, drop, map}
use Rattle.till_book.specs.Seen.{seen_reply}
use Rattle.till_cashier.specs.Office.{key_after}
use Rattle.till_cashier.proofs.office_keys.keys_after.Given as goal

abbrev pub invariant-loop-reply : goal.invariant-loop-reply
invariant-loop-reply l =
    key_after l.open l.next (map seen_reply (drop l.reply-index l.replies)) ≡ key_after (l.last + 1) (l.last + 1) (map seen_reply l.replies)
