use Rattle.shop_types.proofs.Common.{◌∙◌, inr, sym, ap, is_store_failure, seen_caller, seen_refusal}
use Rattle.http_messages.specs.Message.{Message}
use Rattle.http_messages.specs.Shown.{message_of}
use Rattle.counter_routes.specs.Words.{Meaning}
use Rattle.counter_routes.specs.Readings.{reading_of}
use Rattle.chain_requests.specs.Holding.{Chained, holding}
use Rattle.counter_http.specs.Events.{sender_of}
use Rattle.counter_http.proofs.AnswerLemmas.{nobody_answers, reads_decided, sent_by, store_answers, read_answers}
use Rattle.chain_requests.proofs.Taking.{takes_still, takes_then}
use Rattle.chain_requests.proofs.Requests.{refused_takes}
use Rattle.counter_http.proofs.answer.answer.Goals as goal

pub returns-in_default-clause-taken : goal.returns-in_default-clause-taken
returns-in_default-clause-taken g c =
    let meaning : Meaning = g.O.OfficeWords.meaning c.args.words.now in
    let message : Message = message_of c.args.message.now in
    takes_still (λ books besides.
    let held = holding c.args.chain.now books besides in
    nobody_answers meaning message _ held held (sym c.token_of.ensures ∙ c.in_default.is) (c.answer_nobody.ensures.answered books besides))

pub returns-in-Err-clause-taken : goal.returns-in-Err-clause-taken
returns-in-Err-clause-taken g c =
    let meaning : Meaning = g.O.OfficeWords.meaning c.args.words.now in
    let message : Message = message_of c.args.message.now in
    refused_takes c.in-Err.refusal (sender_of message) (λ old. reading_of meaning message (sender_of message old)) c.in-Err.ensures.taken
    (λ old new x. store_answers meaning message c.in-Err.refusal _ old new x c.refused.ensures)

pub returns-in-Ok-clause-taken : goal.returns-in-Ok-clause-taken
returns-in-Ok-clause-taken g c =
    let meaning : Meaning = g.O.OfficeWords.meaning c.args.words.now in
    let message : Message = message_of c.args.message.now in
    takes_then c.in-Ok.ensures.taken c.answer_read-reply.ensures.taken (λ old mid new x y.
    read_answers meaning message (seen_caller c.in-Ok.caller) c.read-read.result _ old mid new c.read-read.ensures.reading
    (sent_by message _ _ old (sym c.in-Some.ensures) x.0) x.1 x.2 y)

pub returns-in-Err-clause-told : goal.returns-in-Err-clause-told
returns-in-Err-clause-told g c = inr (seen_refusal c.in-Err.refusal, c.refused.ensures)

pub returns-in-Err-clause-fails : goal.returns-in-Err-clause-fails
returns-in-Err-clause-fails g c = c.in-Err.ensures.fails ∙ sym (ap is_store_failure c.refused.ensures)

pub returns-in-Err-clause-failed : goal.returns-in-Err-clause-failed
returns-in-Err-clause-failed g c was = (c.in-Err.ensures.failed was).0

pub returns-in-Ok-clause-failed : goal.returns-in-Ok-clause-failed
returns-in-Ok-clause-failed g c was = let no = (c.in-Ok.ensures.failed was).1 in cc

pub answer_read-reply-requires-clause-decided : goal.answer_read-reply-requires-clause-decided
answer_read-reply-requires-clause-decided g c = reads_decided c.read-read.result _ c.read-read.ensures.reading
