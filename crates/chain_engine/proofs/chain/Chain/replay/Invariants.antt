use Rattle.shop_schema.proofs.Common.{◌≡◌, ◌≤◌, true, length, take, map, vec_len, vec_capacity, has_failed, problem_answer, StoreFailed, seen_reply}
use Rattle.std.specs.Prelude.{◌||◌, All}
use Rattle.chain_requests.specs.Chains.{Takes, Runs, event_of}
use Rattle.branch_reports.specs.Told.{IsTold}
use Rattle.chain_engine.proofs.chain.Chain.replay.Given as goal

abbrev pub invariant-loop-token : goal.invariant-loop-token
invariant-loop-token g l =
    (vec_len l.replies ≡ l.token-index) × (length l.requests ≤ vec_capacity l.replies)
    × Takes g.S.Store l.fn.self l.self (Runs (map event_of (take l.token-index l.requests)) (map seen_reply l.replies.items))
    × All IsTold (map seen_reply l.replies.items) × (l.self.is_failed ≡ (l.fn.self.is_failed || has_failed (map seen_reply l.replies.items)))
    × (l.fn.self.is_failed ≡ true
    → (l.self ≡ l.fn.self) × (map seen_reply l.replies.items ≡ map (λ _. problem_answer StoreFailed) (take l.token-index l.requests)))
