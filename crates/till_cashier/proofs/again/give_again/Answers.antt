use Rattle.sqlite.specs.Held.{state}
use Rattle.shop_types.specs.Seen.{seen_act}
use Rattle.till_client.specs.Replies.{seen_answer}
use Rattle.till_requests.specs.declared.settings.Settings.{Settings}
use Rattle.till_work.specs.Exchanged.{IsExchanged}
use Rattle.till_work.specs.Desk.{GoesOn, HasPlace}
use Rattle.till_cashier.specs.Clock.{local_clock}
use Rattle.till_cashier.specs.Faults.{giver_of}
use Rattle.till_cashier.specs.Giving.{GivesAct}
use Rattle.till_cashier.proofs.GoingOn.{kept_ok, kept_as}
use Rattle.till_cashier.proofs.Repeating.{by_same}
use Rattle.till_work.specs.Entering.{IsTillsBook}
use Rattle.till_work.specs.Stops.{IsLater, Leaves}
use Rattle.till_cashier.proofs.Stops.{tried_at_till}
use Rattle.till_cashier.specs.Adding.{AddsTries}
use Rattle.till_cashier.proofs.again.give_again.Goals as goal

pub returns-in-Ok-clause-given : goal.returns-in-Ok-clause-given
returns-in-Ok-clause-given g c clean =
    by_same
    (λ clock server (settings : Settings) staff. GivesAct (IsExchanged (g.V.Server.opens server) g.V.Reader.Read.remaining g.V.Writer.Write.contents)
    (local_clock (g.K.WallClock.shows clock) settings.zone) settings.mark settings.token (giver_of settings.staff staff) (seen_act c.args.it.now.act)
    c.args.book.now.place (state g.S.Store c.args.conn.now) c.give-given.new.book.place (state g.S.Store c.give-given.new.conn))
    c.by-theirs.ensures.clock c.by-theirs.ensures.server c.by-theirs.ensures.settings c.by-theirs.ensures.staff
    (seen_answer c.in-Ok.told.answer, c.in-Ok.ensures.given clean)

pub returns-in-Ok-clause-keeps : goal.returns-in-Ok-clause-keeps
returns-in-Ok-clause-keeps g c clean kept =
    by_same
    (λ clock server (settings : Settings) staff. GoesOn (IsExchanged (g.V.Server.opens server) g.V.Reader.Read.remaining g.V.Writer.Write.contents)
    settings.mark c.args.book.now.place (state g.S.Store c.args.conn.now) c.give-given.new.book.place (state g.S.Store c.give-given.new.conn))
    c.by-theirs.ensures.clock c.by-theirs.ensures.server c.by-theirs.ensures.settings c.by-theirs.ensures.staff (c.in-Ok.ensures.keeps clean (kept_ok _))

pub returns-in-Err-clause-keeps : goal.returns-in-Err-clause-keeps
returns-in-Err-clause-keeps g c clean kept =
    by_same
    (λ clock server (settings : Settings) staff. GoesOn (IsExchanged (g.V.Server.opens server) g.V.Reader.Read.remaining g.V.Writer.Write.contents)
    settings.mark c.args.book.now.place (state g.S.Store c.args.conn.now) c.give-given.new.book.place (state g.S.Store c.give-given.new.conn))
    c.by-theirs.ensures.clock c.by-theirs.ensures.server c.by-theirs.ensures.settings c.by-theirs.ensures.staff
    (c.in-Err.ensures.keeps clean (kept_as c.in-Err.fault kept))

pub returns-in-Ok-clause-crash : goal.returns-in-Ok-clause-crash
returns-in-Ok-clause-crash g c clean =
    by_same
    (λ clock server (settings : Settings) staff. Leaves (HasPlace c.args.book.now.place (state g.S.Store c.args.conn.now)) (IsTillsBook settings.mark)
    (IsLater (IsExchanged (g.V.Server.opens server) g.V.Reader.Read.remaining g.V.Writer.Write.contents)) (state g.S.Store c.give-given.new.conn))
    c.by-theirs.ensures.clock c.by-theirs.ensures.server c.by-theirs.ensures.settings c.by-theirs.ensures.staff
    (tried_at_till _ _ _ _ _ _ (HasPlace c.args.book.now.place (state g.S.Store c.args.conn.now)) (state g.S.Store c.give-given.new.conn)
    (c.give-given.ensures.crash clean))

pub returns-in-Err-clause-crash : goal.returns-in-Err-clause-crash
returns-in-Err-clause-crash g c clean =
    by_same
    (λ clock server (settings : Settings) staff. Leaves (HasPlace c.args.book.now.place (state g.S.Store c.args.conn.now)) (IsTillsBook settings.mark)
    (IsLater (IsExchanged (g.V.Server.opens server) g.V.Reader.Read.remaining g.V.Writer.Write.contents)) (state g.S.Store c.give-given.new.conn))
    c.by-theirs.ensures.clock c.by-theirs.ensures.server c.by-theirs.ensures.settings c.by-theirs.ensures.staff
    (tried_at_till _ _ _ _ _ _ (HasPlace c.args.book.now.place (state g.S.Store c.args.conn.now)) (state g.S.Store c.give-given.new.conn)
    (c.give-given.ensures.crash clean))

pub returns-in-Ok-clause-adds : goal.returns-in-Ok-clause-adds
returns-in-Ok-clause-adds g c clean kept =
    by_same
    (λ clock server (settings : Settings) staff. AddsTries (local_clock (g.K.WallClock.shows clock) settings.zone) settings.mark settings.token
    (giver_of settings.staff staff) (seen_act c.args.it.now.act)
    c.args.book.now.place (state g.S.Store c.args.conn.now) c.give-given.new.book.place (state g.S.Store c.give-given.new.conn))
    c.by-theirs.ensures.clock c.by-theirs.ensures.server c.by-theirs.ensures.settings c.by-theirs.ensures.staff (c.in-Ok.ensures.adds clean (kept_ok _))

pub returns-in-Err-clause-adds : goal.returns-in-Err-clause-adds
returns-in-Err-clause-adds g c clean kept =
    by_same
    (λ clock server (settings : Settings) staff. AddsTries (local_clock (g.K.WallClock.shows clock) settings.zone) settings.mark settings.token
    (giver_of settings.staff staff) (seen_act c.args.it.now.act)
    c.args.book.now.place (state g.S.Store c.args.conn.now) c.give-given.new.book.place (state g.S.Store c.give-given.new.conn))
    c.by-theirs.ensures.clock c.by-theirs.ensures.server c.by-theirs.ensures.settings c.by-theirs.ensures.staff
    (c.in-Err.ensures.adds clean (kept_as c.in-Err.fault kept))
