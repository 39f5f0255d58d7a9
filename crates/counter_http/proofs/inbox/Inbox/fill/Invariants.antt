use Rattle.shop_types.proofs.Common.{◌≡◌, Keeps}
use Rattle.counter_http.proofs.inbox.Inbox.fill.Given as goal

abbrev pub invariant-tries : goal.invariant-tries
invariant-tries g l = record {
  same : l.self ≡ l.fn.self;
  kept : Keeps (g.R.Read.remaining l.fn.reader) (g.R.Read.remaining l.reader);
}
