use Rattle.shop_types.proofs.Common.{◌≡◌, ◌∙◌, ℕ, List, sym, ap, subst, Consumes, Consumes-nil, Consumes-trans}
use Rattle.http_messages.specs.Text.{reply_text}
use Rattle.till_client.proofs.exchange.read_answer.Goals as goal

pub reads-init : goal.reads-init
reads-init g c =
    subst (λ (l : List ℕ). Consumes (g.R.Read.remaining c.args.reader.now) (g.R.Read.remaining c.args.reader.now) l)
    (sym c.new-inbox.ensures.items) (Consumes-nil (g.R.Read.remaining c.args.reader.now))

pub returns-in-Whole-clause-told : goal.returns-in-Whole-clause-told
returns-in-Whole-clause-told g c =
    let whole : c.reads.inbox.items ≡ reply_text c.in-Whole.reply.status c.in-Ok.body.items =
    sym c.deref.ensures.value ∙ c.in-Whole.ensures ∙ ap (λ (l : List ℕ). reply_text c.in-Whole.reply.status l) (sym c.in-Ok.ensures.items) in
    subst (λ (l : List ℕ). Consumes (g.R.Read.remaining c.args.reader.now) (g.R.Read.remaining c.reads.reader) l) whole c.reads.invariant

pub reads-preserved : goal.reads-preserved
reads-preserved g c =
    let more = c.in_ok-read_more.ensures.ok in
    subst (λ (l : List ℕ). Consumes (g.R.Read.remaining c.args.reader.now) (g.R.Read.remaining c.read_more.new.reader) l) (sym {A = List ℕ} more.2)
    (Consumes-trans (g.R.Read.remaining c.args.reader.now) (g.R.Read.remaining c.reads.reader)
    (g.R.Read.remaining c.read_more.new.reader) c.reads.inbox.items more.0 c.reads.invariant more.1)
