-- The effect of one request on a chain.
use Rattle.shop_schema.proofs.Common.{◌⊎◌, false≢true, ◌≡◌, ◌≢◌, ◌∙◌, ◌≤◌, ℕ, List, Bool, true, false, inl, inr, refl, sym, ap, subst, Ok, Some, cases_Bool}
use Rattle.shop_schema.proofs.Common.{Ghosts, state, HasCleanDisk, Film, Catalogue, Request, Sorry, Answer, answer_of, problem_answer, Books, Caller}
use Rattle.shop_schema.proofs.Common.{known_caller, caller_of, reply_for, after_for, IsSound, office_look, is_store_failure, memory_failure, size_failure}
use Rattle.shop_schema.proofs.Common.{failed_failure, IsHeld, StandsFor, Audit, Refusal, seen_caller, seen_refusal, seen_request, StoreFault}
use Rattle.shop_model.specs.Refusals as named
use Rattle.chain_caches.specs.Films.{AreRows}
use Rattle.chain_caches.specs.Callers.{AreCallers, KnownCallers}
use Rattle.chain_caches.proofs.CallerSteps.{callers_after}
use Rattle.shop_types.specs.declared.request.Request.{Request as Asked}
use Rattle.shop_types.specs.declared.request.Caller.{Caller as Known}
use Rattle.shop_types.specs.declared.refusal.Refusal.TheVariants.{StoreFailed}
use Rattle.sql_rows.specs.declared.fault.StoreFault.TheVariants as fault
use Rattle.branch_work.specs.Rules.{rules_of}
use Rattle.chain_requests.specs.Holding.{Chained, Holding, holding}
use Rattle.chain_requests.specs.Chains.{Rests, IsAt, Takes, failed_at, Answers, AnswersEvent, event_of, widest_rules}
use Rattle.chain_requests.specs.Steps.{IsAsker, IsAsked, IsMade, IsUndone, LeavesEitherOf, HasCaller}
use Rattle.branch_work.specs.Works.{told_to, left_by}
use Rattle.chain_requests.specs.Audits.{AuditsState}
use Rattle.chain_requests.specs.Decisions.{FindsCaller, FindsAudit, IsStoreRefusal, IsStoreRefusalAt, refusal_for, is_final}
use Rattle.chain_requests.proofs.Failures.{decided_fine}
use Rattle.chain_requests.proofs.Audits.{audit_of_books}
use Rattle.chain_requests.proofs.Standing.{are_held, values_after, sound_after}

pub never : {P : Type 0} (b : Bool) → b ≡ false → b ≡ true → P
never b isnt is = absurd (false≢true (sym isnt ∙ is))

-- ---- the answers to refusals of the store

lacks : (caller : Caller) (request : Request) (answer : Answer) (old new : Holding)
    → (answer ≡ problem_answer named.Memory) ⊎ (answer ≡ problem_answer named.Size) → is_store_failure answer ≡ false
    → new ≡ old → old.is_failed ≡ false → Answers caller request answer old new
lacks caller request answer old new which sends same fine = record {
  limits = ap (λ (h : Holding). h.limits) same;
  failed = ap (λ (h : Holding). h.is_failed) same ∙ fine ∙ sym sends;
  stays = never old.is_failed fine;
  step = inr (inl (record { reply = which; books = ap (λ (h : Holding). h.books) same }));
  at_failure = never _ sends;
}

failed_limits : (caller : Caller) (request : Request) (old : Holding) → (failed_at caller request old).limits ≡ old.limits
failed_limits caller request old = elim (cases_Bool old.is_failed) [ inl was ↦ rw was refl | inr fine ↦ rw fine refl ]

failed_books : (caller : Caller) (request : Request) (old : Holding) → (failed_at caller request old).books ≡ old.books
failed_books caller request old = elim (cases_Bool old.is_failed) [ inl was ↦ rw was refl | inr fine ↦ rw fine refl ]

failed_now : (caller : Caller) (request : Request) (old : Holding) → (failed_at caller request old).is_failed ≡ true
failed_now caller request old = elim (cases_Bool old.is_failed) [ inl was ↦ rw was refl | inr fine ↦ rw fine refl ]

-- a chain that had failed doesn't change
stays_failed : (held : Holding) → held.is_failed ≡ true → held ≡ record held { is_failed = true }
stays_failed held failed = subst (λ (b : Bool). held ≡ record held { is_failed = b }) failed refl

pub failed_same : (caller : Caller) (request : Request) (held : Holding) → held.is_failed ≡ true → held ≡ failed_at caller request held
failed_same caller request held was = rw was refl

pub fails : (caller : Caller) (request : Request) (old new : Holding) → new ≡ failed_at caller request old
    → Answers caller request (problem_answer named.StoreFailed) old new
fails caller request old new same = record {
  limits = ap (λ (h : Holding). h.limits) same ∙ failed_limits caller request old;
  failed = ap (λ (h : Holding). h.is_failed) same ∙ failed_now caller request old ∙ sym failed_failure;
  stays = λ was. failed_failure;
  step = inr (inr (record { reply = refl; books = ap (λ (h : Holding). h.books) same ∙ failed_books caller request old }));
  at_failure = λ _. same;
}

pub store_refuses : (caller : Caller) (request : Request) (it : Refusal) (old new : Holding) → IsStoreRefusalAt caller request it old new
    → Answers caller request (problem_answer (seen_refusal it)) old new
store_refuses caller request it old new (inl (inl memory, same, fine)) = rw memory (lacks caller request _ old new (inl refl) memory_failure same fine)
store_refuses caller request it old new (inl (inr size, same, fine)) = rw size (lacks caller request _ old new (inr refl) size_failure same fine)
store_refuses caller request it old new (inr (failed, same)) = rw failed (fails caller request old new same)

-- the store refuses before the request is known; a crash may leave the books after the request, too
pub refused_takes :
    {S : Type 0} {g : Ghosts S} {old new : Chained S} {Q : Holding → Holding → Type 0} (it : Refusal) (who : Holding → Caller) (what : Holding → Request)
    → Takes g old new (IsStoreRefusal it)
    → ((before after : Holding) → IsStoreRefusalAt (who before) (what before) it before after → Q before after) → Takes g old new Q
refused_takes {S} {g} {old} {new} {Q} it who what taken tell = record {
  clean = taken.clean;
  goes = λ now books besides at. told books besides at (taken.goes now books besides at);
}
  where
    told : (books besides : Books) → IsAt g old books besides
        → (after : Books) × (beside : Books) × IsStoreRefusal it (holding old books besides) (holding new after beside) × IsAt g new after beside
        → (after : Books) × (beside : Books) × Q (holding old books besides) (holding new after beside) × IsAt g new after beside
    told books besides at (after, beside, inl (lacks, same, fine), then) =
        (after, beside, tell (holding old books besides) (holding new after beside) (inl (lacks, same, fine)), then)
    told books besides at (after, beside, inr (failed, same), then) = elim (cases_Bool old.is_failed) [
      | inl was ↦
          let before = holding old books besides in
          let still : holding new after beside ≡ before = same ∙ sym (stays_failed before was) in
          (after, beside, tell before (holding new after beside) (inr (failed, still ∙ failed_same (who before) (what before) before was)), then)
      | inr fine ↦
          let before = holding old books besides in
          let next : Books = after_for (rules_of old.limits) (known_caller books.catalogue (who before)) (what before) books in
          let fails_at : failed_at (who before) (what before) before ≡ record before { is_failed = true; besides = next } = rw fine refl in
          let now : holding new after next ≡ record before { is_failed = true; besides = next } =
          ap (λ (h : Holding). let r : Holding = record h { besides = next } in r) same in
          let is : new.is_failed ≡ true = ap (λ (h : Holding). h.is_failed) same in
          let one : beside ≡ after = ap (λ (h : Holding). h.besides) same ∙ at.alone fine ∙ sym (ap (λ (h : Holding). h.books) same) in (
            after,
            next,
            tell before (holding new after next) (inr (failed, now ∙ sym fails_at)),
            record {
              sound = then.sound;
              values = then.values;
              films = then.films;
              callers = then.callers;
              rests = λ isnt. never new.is_failed isnt is;
              alone = λ isnt. never new.is_failed isnt is;
              left = λ _ db may. elim (then.left is db may) [ inl first ↦ inl first | inr other ↦ inl (subst (λ (l : Books). StandsFor db l) one other.2) ];
            },
          )
    ]

-- a request that is decided without the tables
pub decided : (caller : Caller) (request : Request) (d : named.Refusal) (held : Holding) → held.is_failed ≡ false
    → reply_for (rules_of held.limits) office_look (known_caller held.books.catalogue caller) request held.books ≡ Sorry d
    → held.books ≡ after_for (rules_of held.limits) (known_caller held.books.catalogue caller) request held.books
    → Answers caller request (problem_answer (named.Decision d)) held held
decided caller request d held fine reply same = record {
  limits = refl;
  failed = fine ∙ sym (decided_fine (Sorry d));
  stays = never held.is_failed fine;
  step = inl (record { reply = ap answer_of (sym reply); books = same });
  at_failure = never _ (decided_fine (Sorry d));
}

-- out of memory or room, at a request
pub room_at : (caller : Caller) (request : Request) (it : Refusal) (before after : Holding)
    → (it ≡ StoreFailed → ⊥) → IsStoreRefusal it before after → IsStoreRefusalAt caller request it before after
room_at caller request it before after other (inl lacks) = inl lacks
room_at caller request it before after other (inr (failed, same)) = absurd (other failed)

-- ---- a request

module _ {S : Type 0} (g : Ghosts S) (old new : Chained S) (limits : new.limits ≡ old.limits)
    (same_callers : new.callers ≡ old.callers) (fine : old.is_failed ≡ false) where
  -- the chain knows the same films as before, or fewer
  abbrev KnowsNoMore : Type 0
  KnowsNoMore = (films : List Film) → AreRows old.films films → AreRows new.films films

  -- the chain knows the same callers as before
  callers_stay : (catalogue : Catalogue) → AreCallers old.callers catalogue → AreCallers new.callers catalogue
  callers_stay catalogue known = subst (λ (es : KnownCallers). AreCallers es catalogue) (sym same_callers) known

  -- a look has answered, and changed nothing
  pub looked : (P : Holding → Holding → Type 0) → KnowsNoMore → new.is_failed ≡ false → (HasCleanDisk (state g new.conn) → HasCleanDisk (state g old.conn))
      → (HasCleanDisk (state g new.conn) → IsUndone (state g old.conn) (state g new.conn))
      → (HasCleanDisk (state g new.conn) → (books besides : Books) → IsAt g old books besides
      → (after : Holding) → after ≡ holding old books besides → P (holding old books besides) after)
      → Takes g old new P
  looked P rows still clean undone tell = record {
    clean = clean;
    goes = λ now books besides at.
        let rests = undone now books (at.rests fine) (are_held books at.sound at.values) in
        let same : holding new books besides ≡ holding old books besides = rw (limits, still, fine) refl in (
          books,
          besides,
          tell now books besides at (holding new books besides) same,
          record {
            sound = at.sound;
            values = at.values;
            films = rows books.catalogue.films at.films;
            callers = callers_stay books.catalogue at.callers;
            rests = λ _. rests;
            alone = λ _. at.alone fine;
            left = λ was. never new.is_failed still was;
          },
        );
  }

  -- with the same books, by what the store answered
  pub kept : (it : StoreFault) (P : Holding → Holding → Type 0) → KnowsNoMore → new.is_failed ≡ is_final it
      → (HasCleanDisk (state g new.conn) → HasCleanDisk (state g old.conn)) → (HasCleanDisk (state g new.conn) → IsUndone (state g old.conn) (state g new.conn))
      → ((before after : Holding) → IsStoreRefusal (refusal_for it) before after → P before after) → Takes g old new P
  kept fault.Memory P rows failed clean undone tell =
      looked P rows failed clean undone (λ now books besides at after same. tell _ after (inl (inl refl, same, fine)))
  kept fault.Size P rows failed clean undone tell =
      looked P rows failed clean undone (λ now books besides at after same. tell _ after (inl (inr refl, same, fine)))
  kept fault.Failed P rows failed clean undone tell = record {
    clean = clean;
    goes = λ now books besides at.
        let rests = undone now books (at.rests fine) (are_held books at.sound at.values) in
        let same : holding new books besides ≡ record (holding old books besides) { is_failed = true } = rw (limits, failed) refl in (
          books,
          besides,
          tell (holding old books besides) (holding new books besides) (inr (refl, same)),
          record {
            sound = at.sound;
            values = at.values;
            films = rows books.catalogue.films at.films;
            callers = callers_stay books.catalogue at.callers;
            rests = λ isnt. never new.is_failed isnt failed;
            alone = λ isnt. never new.is_failed isnt failed;
            left = λ _ db may. inl (rests.left db may);
          },
        );
  }

  module _ (caller : Caller) (request : Request) (Given : Books → Type 0)
      (gives : (books : Books) → IsHeld books → AreRows old.films books.catalogue.films → AreCallers old.callers books.catalogue → Given books)
      (who : IsAsker caller) (asked : IsAsked request) (most : old.limits.commands ≤ 1_000_000) (fit : old.limits.copies ≤ 1_000_000) where
    -- the outcome, for sound books
    abbrev CameTo : Answer → Type 0
    CameTo answer = (books : Books) → Rests (state g old.conn) books → Given books → IsSound widest_rules books
        → (answer ≡ told_to old.limits caller request books) × Rests (state g new.conn) (left_by old.limits caller request books)
        × AreRows new.films (left_by old.limits caller request books).catalogue.films

    -- the request was answered
    pub came : (answer : Answer) → new.is_failed ≡ false → (HasCleanDisk (state g new.conn) → HasCleanDisk (state g old.conn))
        → (HasCleanDisk (state g new.conn) → CameTo answer) → Takes g old new (Answers caller request answer)
    came answer still clean is = record {
      clean = clean;
      goes = λ now books besides at.
          let held = are_held books at.sound at.values in
          let it = is now books (at.rests fine) (gives books held at.films at.callers) at.sound in
          let told = it.0 in
          let rests = it.1 in
          let after = left_by old.limits caller request books in
          let sends : is_store_failure answer ≡ false =
          ap is_store_failure told ∙ decided_fine (reply_for (rules_of old.limits) office_look (known_caller books.catalogue caller) request books) in
          let P : Answers caller request answer (holding old books besides) (holding new after after) = record {
            limits = limits;
            failed = still ∙ sym sends;
            stays = never old.is_failed fine;
            step = inl (record { reply = told; books = refl });
            at_failure = never _ sends;
          } in (
            after,
            after,
            P,
            record {
              sound = sound_after old.limits caller request books most fit at.sound;
              values = values_after old.limits books held at.sound caller who request asked most fit;
              films = it.2;
              callers =
                  callers_stay after.catalogue (callers_after old.callers (rules_of old.limits) (known_caller books.catalogue caller) request books at.callers);
              rests = λ _. rests;
              alone = λ _. refl;
              left = λ was. never new.is_failed still was;
            },
          );
    }

    pub made : (answer : Answer) → new.is_failed ≡ false → (HasCleanDisk (state g new.conn) → HasCleanDisk (state g old.conn))
        → (HasCleanDisk (state g new.conn) → IsMade old.limits caller request answer Given new.films (state g old.conn) (state g new.conn))
        → Takes g old new (Answers caller request answer)
    made answer still clean is =
        came answer still clean
        (λ now books rests held sound. ((is now).reply books rests held, (is now).books books rests held, (is now).films books rests held))

    -- the request was not answered
    pub unmade : (it : StoreFault) → KnowsNoMore → new.is_failed ≡ is_final it → (HasCleanDisk (state g new.conn) → HasCleanDisk (state g old.conn))
        → (HasCleanDisk (state g new.conn)
        → (it ≢ fault.Failed → IsUndone (state g old.conn) (state g new.conn))
        × LeavesEitherOf old.limits caller request Given (state g old.conn) (state g new.conn))
        → Takes g old new (Answers caller request (problem_answer (seen_refusal (refusal_for it))))
    unmade fault.Memory rows failed clean is =
        kept fault.Memory _ rows failed clean (λ now. (is now).0 (λ e. cc))
        (λ before after refused. store_refuses caller request _ before after (room_at caller request _ before after (λ e. let no : _ = e in cc) refused))
    unmade fault.Size rows failed clean is =
        kept fault.Size _ rows failed clean (λ now. (is now).0 (λ e. cc))
        (λ before after refused. store_refuses caller request _ before after (room_at caller request _ before after (λ e. let no : _ = e in cc) refused))
    unmade fault.Failed rows failed clean is = record {
      clean = clean;
      goes = λ now books besides at.
          let held = are_held books at.sound at.values in
          let either = (is now).1 books (at.rests fine) (gives books held at.films at.callers) in
          let after = left_by old.limits caller request books in
          let same : holding new books after ≡ failed_at caller request (holding old books besides) = rw (limits, failed, fine) refl in (
            books,
            after,
            fails caller request (holding old books besides) (holding new books after) same,
            record {
              sound = at.sound;
              values = at.values;
              films = rows books.catalogue.films at.films;
              callers = callers_stay books.catalogue at.callers;
              rests = λ isnt. never new.is_failed isnt failed;
              alone = λ isnt. never new.is_failed isnt failed;
              left = λ _ db may. elim (either db may) [
                | inl before ↦ inl before
                | inr done ↦
                    inr (
                      sound_after old.limits caller request books most fit at.sound,
                      values_after old.limits books held at.sound caller who request asked most fit,
                      done,
                    )
              ];
            },
          );
    }

  -- the caller was found
  pub found : (token : List ℕ) (caller : Known) → KnowsNoMore → new.is_failed ≡ false → (HasCleanDisk (state g new.conn) → HasCleanDisk (state g old.conn))
      → (HasCleanDisk (state g new.conn) → HasCaller token (seen_caller caller) (state g old.conn))
      → (HasCleanDisk (state g new.conn) → IsUndone (state g old.conn) (state g new.conn))
      → Takes g old new (FindsCaller token (Ok caller))
  found token caller rows still clean has undone = looked (FindsCaller token (Ok caller)) rows still clean undone
      (λ now books besides at after same. (has now books (at.rests fine) (are_held books at.sound at.values), same, fine))

  -- the audit was read
  pub audited : (audit : Audit) → KnowsNoMore → new.is_failed ≡ false → (HasCleanDisk (state g new.conn) → HasCleanDisk (state g old.conn))
      → (HasCleanDisk (state g new.conn) → AuditsState (state g old.conn) audit)
      → (HasCleanDisk (state g new.conn) → IsUndone (state g old.conn) (state g new.conn))
      → Takes g old new (FindsAudit (Ok audit))
  audited audit rows still clean told undone = looked (FindsAudit (Ok audit)) rows still clean undone
      (λ now books besides at after same. (audit_of_books (state g old.conn) audit (told now) books (at.rests fine) at.values at.sound, same, fine))

-- ---- a caller whom the chain knows

-- of a chain that hasn't failed
pub known_already : {S : Type 0} (g : Ghosts S) (chain : Chained S) (token : List ℕ) (caller : Known) → chain.is_failed ≡ false
    → ((catalogue : Catalogue) → AreCallers chain.callers catalogue → seen_caller caller ≡ caller_of (Some token) catalogue)
    → Takes g chain chain (FindsCaller token (Ok caller))
known_already g chain token caller fine known = record {
  clean = λ now. now;
  goes = λ now books besides at. (books, besides, (known books.catalogue at.callers, refl, fine), at);
}

-- once the caller was found
pub found_and_kept : {S : Type 0} (g : Ghosts S) (old new : Chained S) (callers : KnownCallers) (token : List ℕ) (caller : Known)
    → ((catalogue : Catalogue) → AreCallers new.callers catalogue → seen_caller caller ≡ caller_of (Some token) catalogue → AreCallers callers catalogue)
    → Takes g old new (FindsCaller token (Ok caller)) → Takes g old (record new { callers = callers }) (FindsCaller token (Ok caller))
found_and_kept g old new callers token caller keeps taken = record {
  clean = taken.clean;
  goes = λ now books besides at.
      let it = taken.goes now books besides at in
      let then = it.3 in
      let same : it.0 ≡ books = ap (λ (h : Holding). h.books) it.2.1 in
      let who : seen_caller caller ≡ caller_of (Some token) it.0.catalogue =
      subst (λ (b : Books). seen_caller caller ≡ caller_of (Some token) b.catalogue) (sym same) it.2.0 in (
        it.0,
        it.1,
        it.2,
        record {
          sound = then.sound;
          values = then.values;
          films = then.films;
          callers = keeps it.0.catalogue then.callers who;
          rests = then.rests;
          alone = then.alone;
          left = then.left;
        },
      );
}

-- ---- an event

pub event_answered : (token : List ℕ) (asked : Asked) (caller : Known) (answer : Answer) (old mid new : Holding) → FindsCaller token (Ok caller) old mid
    → Answers (seen_caller caller) (seen_request asked) answer mid new → AnswersEvent (event_of (token, asked)) answer old new
event_answered token asked caller answer old mid new found answered =
    let who : seen_caller caller ≡ caller_of (Some token) old.books.catalogue = found.0 in
    let first : Answers (seen_caller caller) (seen_request asked) answer old new =
    subst (λ (h : Holding). Answers (seen_caller caller) (seen_request asked) answer h new) found.1 answered in
    subst (λ (c : Caller). Answers c (seen_request asked) answer old new) who first
