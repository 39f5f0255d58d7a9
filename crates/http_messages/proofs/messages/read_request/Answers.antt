use Rattle.std.proofs.Common.{take, drop, inl, arith, ℕ, List, subst}
use Rattle.httparse.specs.Grammar.{HasNoRequest, MayBecomeRequest, ReadsRequest}
use Rattle.httparse.specs.Spans.{RequestOverflows, IsRequestOf, IsRequestWithin}
use Rattle.http_messages.proofs.HeadLemmas.{window_is, head_found, cannot_begin, headless, fields_fit}
use Rattle.http_messages.proofs.messages.read_request.Goals as goal

pub read_body-requires-clause-parsed : goal.read_body-requires-clause-parsed
read_body-requires-clause-parsed c =
    let same = window_is c.min.result 8192 c.args.input.now c.min.ensures in
    let found : IsRequestOf (take c.min.result c.args.input.now) c.parse_request.new.headers c.in-Ok-Complete.head
    = rw c.in-Ok-Complete.field-0-is at c.in-Ok-Complete.ensures.complete in
    let within : IsRequestWithin (take c.min.result c.args.input.now) c.parse_request.new.headers c.in-Ok-Complete.head
    = rw c.in-Ok-Complete.field-0-is at c.in-Ok-Complete.ensures.within in
    let at = found.1 in
    let Reads : List ℕ → Type 0 = λ w. ReadsRequest w found.0 (drop c.in-Ok-Complete.head.len (take c.min.result c.args.input.now)) in
    let reads = subst Reads same at.reads in
    let few = fields_fit (take c.min.result c.args.input.now) c.parse_request.new.headers found.0 c.in-Ok-Complete.head.headers 32 at.fields (omega arith) in
    let head = head_found c.args.input.now found.0 _ c.in-Ok-Complete.head.len reads at.len few in
    (found.0, record { head = head.0; len = head.1; short = head.2; method = at.method; target = at.path; minor = at.version; pairs = at.fields })

pub returns-in-Ok-Partial : goal.returns-in-Ok-Partial
returns-in-Ok-Partial c =
    let same = window_is c.min.result 8192 c.args.input.now c.min.ensures in
    let none : HasNoRequest (take c.min.result c.args.input.now) = rw c.in-Ok-Partial.field-0-is at c.in-Ok-Partial.ensures.partial in
    let may : MayBecomeRequest (take c.min.result c.args.input.now) = rw c.in-Ok-Partial.field-0-is at c.in-Ok-Partial.ensures.unfinished in
    (omega arith, inl (c.if-input-lt-HEAD_LIMIT.true, headless _ (rw same at none) (rw same at may)))

pub returns-in-Ok-Partial-2 : goal.returns-in-Ok-Partial-2
returns-in-Ok-Partial-2 c =
    let same = window_is c.min.result 8192 c.args.input.now c.min.ensures in
    let none : HasNoRequest (take c.min.result c.args.input.now) = rw c.in-Ok-Partial.field-0-is at c.in-Ok-Partial.ensures.partial in
    let may : MayBecomeRequest (take c.min.result c.args.input.now) = rw c.in-Ok-Partial.field-0-is at c.in-Ok-Partial.ensures.unfinished in
    inl (c.if-input-lt-HEAD_LIMIT.false, headless _ (rw same at none) (rw same at may))

pub returns-in-Err : goal.returns-in-Err
returns-in-Err c =
    let same = window_is c.min.result 8192 c.args.input.now c.min.ensures in
    let over : RequestOverflows 32 (take c.min.result c.args.input.now) = c.in-Err.ensures.no_room in
    inl (cannot_begin _ (rw same at over))
