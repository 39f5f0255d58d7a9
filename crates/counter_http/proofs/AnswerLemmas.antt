-- What may be answered to a message.
use Rattle.std.proofs.Common.{Result}
use Rattle.shop_types.proofs.Common.{◌≡◌, inl, refl, sym, subst, ap, ◌∙◌, List, ℕ, true, false, None, Some, Option, Ok, Err, IfOk, Rules, NoCounter, Decision}
use Rattle.shop_types.proofs.Common.{StoreFailed, Request, Unread, Sorry, Answer, answer_of, problem_answer, Books, Caller, Counter, HeadOffice, Nobody}
use Rattle.shop_types.proofs.Common.{caller_of, reply_for, after_for, known_same, seen_refusal}
use Rattle.http_messages.specs.Message.{Message}
use Rattle.shop_model.specs.Refusals.{Refusal, Memory}
use Rattle.shop_model.specs.Office.{office_look}
use Rattle.shop_types.specs.declared.refusal.Refusal.{Refusal as Told}
use Rattle.counter_routes.specs.Words.{Meaning}
use Rattle.counter_routes.specs.Readings.{Reads, reading_of}
use Rattle.shop_types.specs.declared.refusal.Refusal.TheVariants as told
use Rattle.counter_routes.specs.declared.asked.Reading.{Reading}
use Rattle.counter_routes.specs.declared.asked.Reading.TheVariants.{Asked, Refused}
use Rattle.chain_requests.specs.Holding.{Holding}
use Rattle.branch_work.specs.Rules.{rules_of}
use Rattle.chain_requests.specs.Chains.{Answers}
use Rattle.chain_requests.specs.Decisions.{IsStoreRefusalAt}
use Rattle.chain_requests.proofs.Failures.{decided_fine}
use Rattle.chain_requests.proofs.Requests.{never, store_refuses, fails, failed_same}
use Rattle.counter_http.specs.Events.{known_token, sender_of, AnswersMessage, AnswersNobody}
use Rattle.counter_http.specs.Reads.{IsDecided, AnswersRead}

-- a text that is no request is refused, whoever sent it
unread_reply : (rules : Rules) (meaning : Meaning) (message : Message) (caller : Caller) (d : Refusal) (books : Books)
    → reading_of meaning message caller ≡ Unread d
    → reply_for rules office_look caller (reading_of meaning message caller) books ≡ Sorry d
unread_reply rules meaning message (Counter b) d books e = ap (λ (r : Request). reply_for rules office_look (Counter b) r books) e
unread_reply rules meaning message HeadOffice d books e = ap (λ (r : Request). reply_for rules office_look HeadOffice r books) e
unread_reply rules meaning message Nobody d books e = let same : NoCounter ≡ d = cc in ap (λ (r : Refusal). Sorry r) same

-- a text that is no request changes nothing
unread_after : (rules : Rules) (meaning : Meaning) (message : Message) (caller : Caller) (d : Refusal) (books : Books)
    → reading_of meaning message caller ≡ Unread d
    → after_for rules caller (reading_of meaning message caller) books ≡ books
unread_after rules meaning message (Counter b) d books e = ap (λ (r : Request). after_for rules (Counter b) r books) e
unread_after rules meaning message HeadOffice d books e = ap (λ (r : Request). after_for rules HeadOffice r books) e
unread_after rules meaning message Nobody d books e = refl

pub refused_answers : (meaning : Meaning) (message : Message) (d : Refusal) (old new : Holding)
    → reading_of meaning message (sender_of message old) ≡ Unread d → new ≡ old → old.is_failed ≡ false
    → AnswersMessage meaning message (problem_answer (Decision d)) old new
refused_answers meaning message d old new e same fine =
    let sender = sender_of message old in
    let known = known_same (known_token message.token) old.books.catalogue in record {
      limits = ap (λ (h : Holding). h.limits) same;
      failed = ap (λ (h : Holding). h.is_failed) same ∙ fine ∙ sym (decided_fine (Sorry d));
      stays = never old.is_failed fine;
      at_failure = never _ (decided_fine (Sorry d));
      step = inl (record {
        reply = ap answer_of (sym (unread_reply (rules_of old.limits) meaning message sender d old.books e))
            ∙ ap (λ (c : Caller). answer_of (reply_for (rules_of old.limits) office_look c (reading_of meaning message sender) old.books)) (sym known);
        books = ap (λ (h : Holding). h.books) same ∙ sym (unread_after (rules_of old.limits) meaning message sender d old.books e)
            ∙ ap (λ (c : Caller). after_for (rules_of old.limits) c (reading_of meaning message sender) old.books) (sym known);
      });
    }

-- the store can't do its part
pub memory_answers : (meaning : Meaning) (message : Message) (answer : Answer) (old new : Holding)
    → answer ≡ problem_answer Memory → new ≡ old → old.is_failed ≡ false → AnswersMessage meaning message answer old new
memory_answers meaning message answer old new is same fine =
    rw is (store_refuses (sender_of message old) (reading_of meaning message (sender_of message old)) told.Memory old new (inl (inl refl, same, fine)))

pub store_answers : (meaning : Meaning) (message : Message) (refusal : Told) (answer : Answer) (old new : Holding)
    → IsStoreRefusalAt (sender_of message old) (reading_of meaning message (sender_of message old)) refusal old new
    → answer ≡ problem_answer (seen_refusal refusal) → AnswersMessage meaning message answer old new
store_answers meaning message refusal answer old new refused is =
    rw is (store_refuses (sender_of message old) (reading_of meaning message (sender_of message old)) refusal old new refused)

-- nobody sent the message
pub nobody_answers : (meaning : Meaning) (message : Message) (answer : Answer) (old new : Holding)
    → known_token message.token ≡ None → AnswersNobody answer old new → AnswersMessage meaning message answer old new
nobody_answers meaning message answer old new none answers =
    let P : Caller → Type 0 = λ c. Answers c (reading_of meaning message c) answer old new in
    let who : Nobody ≡ sender_of message old = ap (λ (token : Option (List ℕ)). caller_of token old.books.catalogue) (sym none) in
    subst P who (answers (reading_of meaning message Nobody))

-- whatever nobody asks
pub nobody_refused : (held : Holding) → held.is_failed ≡ false → AnswersNobody (problem_answer (Decision NoCounter)) held held
nobody_refused held fine request = record {
  limits = refl;
  failed = fine ∙ sym (decided_fine (Sorry NoCounter));
  stays = never held.is_failed fine;
  at_failure = never _ (decided_fine (Sorry NoCounter));
  step = inl (record { reply = refl; books = refl });
}

pub nobody_failed : (held : Holding) → held.is_failed ≡ true → AnswersNobody (problem_answer StoreFailed) held held
nobody_failed held failed request = fails Nobody request held held (failed_same Nobody request held failed)

-- the message's sender is who has the token
pub sent_by : (message : Message) (token : List ℕ) (caller : Caller) (held : Holding) → known_token message.token ≡ Some token
    → caller ≡ caller_of (Some token) held.books.catalogue → caller ≡ sender_of message held
sent_by message token caller held known found = found ∙ ap (λ (it : Option (List ℕ)). caller_of it held.books.catalogue) (sym known)

-- the chain answered this caller's request, and both are the message's
pub asked_answers : (meaning : Meaning) (message : Message) (caller : Caller) (request : Request) (answer : Answer) (old mid new : Holding) → mid ≡ old
    → caller ≡ sender_of message old → request ≡ reading_of meaning message caller → Answers caller request answer mid new
    → AnswersMessage meaning message answer old new
asked_answers meaning message caller request answer old mid new same who what answers =
    let P : Holding → Caller → Request → Type 0 = λ h c r. Answers c r answer h new in
    let first : P old caller request = subst (λ (h : Holding). P h caller request) same answers in
    let second : P old caller (reading_of meaning message caller) = subst (λ (r : Request). P old caller r) what first in
    subst (λ (c : Caller). P old c (reading_of meaning message c)) who second

-- a refusal that is read from a message is a decision
pub reads_decided : {E : Type 0} (read : Result Reading E) (request : Request) → IfOk read (λ it. Reads it request) → IsDecided read
reads_decided (Ok (Asked asked)) request reads = tt
reads_decided (Ok (Refused refusal)) request reads = (reads.0, reads.1)
reads_decided (Err e) request reads = tt

-- the answer to what was read is the answer to the message, if the chain that found the caller hadn't failed
pub read_answers : {E : Type 0} (meaning : Meaning) (message : Message) (caller : Caller) (read : Result Reading E) (answer : Answer) (old mid new : Holding)
    → IfOk read (λ it. Reads it (reading_of meaning message caller)) → caller ≡ sender_of message old → mid ≡ old → old.is_failed ≡ false
    → AnswersRead caller read answer mid new → AnswersMessage meaning message answer old new
read_answers meaning message caller (Ok (Asked asked)) answer old mid new reads who same fine answers =
    asked_answers meaning message caller _ answer old mid new same who reads answers
read_answers meaning message caller (Ok (Refused refusal)) answer old mid new reads who same fine answers =
    let what : reading_of meaning message (sender_of message old) ≡ Unread reads.0 = ap (reading_of meaning message) (sym who) ∙ reads.2 in
    let is : answer ≡ problem_answer (Decision reads.0) = answers.0 ∙ ap problem_answer reads.1 in
    subst (λ (a : Answer). AnswersMessage meaning message a old new) (sym is) (refused_answers meaning message reads.0 old new what (answers.1 ∙ same) fine)
read_answers meaning message caller (Err e) answer old mid new reads who same fine answers =
    memory_answers meaning message answer old new answers.0 (answers.1 ∙ same) fine
