use Rattle.shop_schema.proofs.Common.{◌≡◌, ◌∙◌, ℕ, ◌+◌, ◌++◌, ◌∷◌, [], List, take, map, refl, true, sym, ap, arith, or-false, take_more, take_all, map-append}
use Rattle.shop_schema.proofs.Common.{All-nil, Answer, problem_answer, StoreFailed, has_failed, is_store_failure, failed_failure, failed_more, seen_reply}
use Rattle.std.proofs.lemmas.List.Elements.{All-push}
use Rattle.shop_types.specs.declared.request.Request.{Request}
use Rattle.chain_requests.specs.Holding.{Chained}
use Rattle.chain_requests.specs.Chains.{event_of}
use Rattle.branch_reports.specs.Told.{IsTold}
use Rattle.chain_requests.proofs.Running.{has_failed_then, runs_none, runs_more}
use Rattle.chain_requests.proofs.Taking.{takes_same, takes_then}
use Rattle.chain_engine.proofs.chain.Chain.replay.Goals as goal

pub push_reserved-requires : goal.push_reserved-requires
push_reserved-requires g c = omega (arith, c.loop-token.invariant.0, c.loop-token.invariant.1)

pub loop-token-init : goal.loop-token-init
loop-token-init g c =
    let none = c.in_ok-replies.ensures.items in (
      c.in_ok-replies.ensures.len,
      c.in_ok-replies.ensures.capacity,
      rw none (takes_same runs_none),
      rw none (All-nil IsTold),
      rw none (sym (or-false c.args.self.now.is_failed)),
      λ was. (refl, rw none refl),
    )

pub loop-token-preserved : goal.loop-token-preserved
loop-token-preserved g c =
    let inv = c.loop-token.invariant in
    let i = c.loop-token.token-index in
    let it = c.loop-token-item.result in
    let requests = c.args.requests.now in
    let events = map event_of (take i requests) in
    let done = map seen_reply c.loop-token.replies.items in
    let answer = seen_reply c.answer_with-reply.result in
    let each : Answer = problem_answer StoreFailed in
    let all : List ℕ × Request → Answer = λ _. each in
    let longer : map all (take (i + 1) requests) ≡ map all (take i requests) ++ each ∷ [] =
    ap (map all) (take_more requests i it c.loop-token-test.true ∙ ap (λ (x : List ℕ × Request). take i requests ++ x ∷ []) (sym c.loop-token-item.is))
    ∙ map-append all (take i requests) (it ∷ []) in
    let asked : map event_of (take (i + 1) requests) ≡ events ++ event_of it ∷ [] =
    ap (map event_of) (take_more requests i it c.loop-token-test.true ∙ ap (λ (x : List ℕ × Request). take i requests ++ x ∷ []) (sym c.loop-token-item.is))
    ∙ map-append event_of (take i requests) (it ∷ []) in
    let told : map seen_reply c.push_reserved.new.self.items ≡ done ++ answer ∷ [] =
    ap (map seen_reply) c.push_reserved.ensures.items ∙ map-append seen_reply c.loop-token.replies.items (c.answer_with-reply.result ∷ []) in (
      omega (arith, c.push_reserved.ensures.len, inv.0),
      omega (arith, c.push_reserved.ensures.capacity, inv.1),
      takes_then inv.2 c.answer_with-reply.ensures.taken (λ old mid new x y. rw (asked, told) (runs_more old mid new events done (event_of it) answer x y)),
      rw told (All-push IsTold done answer inv.3 c.answer_with-reply.ensures.told),
      rw (told, failed_more done answer)
          (has_failed_then c.args.self.now.is_failed
          (has_failed done) c.loop-token.self.is_failed c.answer_with-reply.new.self.is_failed (is_store_failure answer)
          inv.4 c.answer_with-reply.ensures.fails (λ still. ap is_store_failure (c.answer_with-reply.ensures.failed still).1 ∙ failed_failure)),
      λ was.
          let before = inv.5 was in
          let still : c.loop-token.self.is_failed ≡ true = ap (λ (x : Chained _). x.is_failed) before.0 ∙ was in
          let one = c.answer_with-reply.ensures.failed still in
          (one.0 ∙ before.0, rw (longer, told, before.1, one.1) refl),
    )

pub returns-clause-ran : goal.returns-clause-ran
returns-clause-ran g c =
    let requests = c.args.requests.now in
    let all : take c.loop-token.token-index requests ≡ requests = take_all c.loop-token.token-index requests c.loop-token-test.false in
    rw all at c.loop-token.invariant.2

pub returns-clause-failed : goal.returns-clause-failed
returns-clause-failed g c was =
    let requests = c.args.requests.now in
    let all : take c.loop-token.token-index requests ≡ requests = take_all c.loop-token.token-index requests c.loop-token-test.false in
    rw all at (c.loop-token.invariant.5 was)

pub returns-clause-told : goal.returns-clause-told
returns-clause-told g c = c.loop-token.invariant.3

pub returns-clause-fails : goal.returns-clause-fails
returns-clause-fails g c = c.loop-token.invariant.4
