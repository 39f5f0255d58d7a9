use Rattle.std.proofs.Common.{Some, None, string_bytes}
use Rattle.sqlite.specs.Held.{state}
use Rattle.shop_model.specs.Values.{HeldBy}
use Rattle.shop_types.specs.Seen.{seen_ask}
use Rattle.till_client.specs.Replies.{seen_answer}
use Rattle.till_requests.specs.Zones.{offset_of}
use Rattle.till_cashier.specs.Asking.{IsAnswered, IsLookedUp}
use Rattle.till_cashier.specs.Looking.{ShowsHolder}
use Rattle.till_cashier.specs.Today.{IsOnWall}
use Rattle.till_cashier.proofs.Doing.{ok_then}
use Rattle.till_cashier.proofs.Looking.{adds_shown, held_as, place_added, where_held, where_nobody}
use Rattle.till_cashier.proofs.stock.where_is.Goals as goal

pub returns-in-Some-clause-says : goal.returns-in-Some-clause-says
returns-in-Some-clause-says g c clean =
    let asks = IsLookedUp (IsAnswered (g.V.Server.opens c.args.desk.now.server.now) g.V.Reader.Read.remaining g.V.Writer.Write.contents)
    c.args.desk.now.settings.now.token in
    let answer = c.in_ok-answer.answer in
    let held = held_as c.as_slice.result.now answer.body.items c.in_ok-who.field-0 (Some c.in-Some.who) c.as_slice.ensures.value c.in-Some.is
    c.in_ok-who.ensures.shown in
    let old = string_bytes c.args.said.now.text in
    let mid = string_bytes c.says_all.new.said.text in
    let new = string_bytes c.says_who.new.said.text in
    ok_then c.says_who.result c.says_who.ensures.said
    (λ line. where_held asks (IsOnWall c.args.desk.now.wall (offset_of c.args.desk.now.settings.now.zone)) (state g.S.Store c.args.conn.now)
    c.args.desk.now.is_json c.args.desk.now.sheet.now (seen_ask c.args.ask.now) c.args.copy old mid new
    c.args.said.now.status c.says_all.new.said.status c.says_who.new.said.status c.if-desk.false
    (adds_shown (asks (HeldBy c.args.copy)) c.args.desk.now.is_json (ShowsHolder c.args.copy) (seen_answer answer) c.in_ok-says_all.field-0 old mid new
    c.args.said.now.status c.says_all.new.said.status c.says_who.new.said.status c.if-branch.false c.in_ok-answer.ensures
    c.in_ok-says_all.ensures.said c.in_ok-says_all.ensures.status (line.0, (c.in-Some.who, held, line.1), line.2) c.says_who.ensures.status))

pub returns-clause-says : goal.returns-clause-says
returns-clause-says g c clean =
    let asks = IsLookedUp (IsAnswered (g.V.Server.opens c.args.desk.now.server.now) g.V.Reader.Read.remaining g.V.Writer.Write.contents)
    c.args.desk.now.settings.now.token in
    let answer = c.in_ok-answer.answer in
    let nobody = held_as c.as_slice.result.now answer.body.items c.in_ok-who.field-0 None c.as_slice.ensures.value c.in-None.is
    c.in_ok-who.ensures.shown in
    let on_wall = IsOnWall c.args.desk.now.wall (offset_of c.args.desk.now.settings.now.zone) in
    let book = state g.S.Store c.args.conn.now in
    let mid = string_bytes c.says_all.new.said.text in
    let new = string_bytes c.says_whereabouts.new.said.text in
    ok_then c.says_whereabouts.result (c.says_whereabouts.ensures c.if-desk.false)
    (λ says. where_nobody asks on_wall book c.args.desk.now.is_json c.args.desk.now.sheet.now (seen_ask c.args.ask.now) c.args.copy
    (string_bytes c.args.said.now.text) mid new c.args.said.now.status c.says_all.new.said.status c.says_whereabouts.new.said.status
    (seen_answer answer) c.in_ok-says_all.field-0
    c.if-desk.false c.if-branch.false c.in_ok-answer.ensures c.in_ok-says_all.ensures.said c.in_ok-says_all.ensures.status nobody
    (place_added asks on_wall book c.args.desk.now.sheet.now (seen_ask c.args.ask.now) c.args.copy c.in_ok-it-in-None.it mid
    c.says_all.new.said.status new c.says_whereabouts.new.said.status (c.in_ok-it-in-None.ensures.known clean) says))
