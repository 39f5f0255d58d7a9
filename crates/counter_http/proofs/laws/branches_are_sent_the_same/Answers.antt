use Rattle.counter_http.proofs.Sent.{sent_the_same}
use Rattle.counter_http.proofs.laws.branches_are_sent_the_same.Goals as goal

pub returns : goal.returns
returns c = sent_the_same
