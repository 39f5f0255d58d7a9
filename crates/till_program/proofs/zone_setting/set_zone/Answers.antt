use Rattle.std.proofs.Common.{inr, Some}
use Rattle.till_program.specs.Lines.{SetsZoneIn, HasZone}
use Rattle.till_program.proofs.DoneLaws.{if_ok, if_err}
use Rattle.till_program.proofs.LookLaws.{zone_set, zone_said}
use Rattle.till_program.proofs.zone_setting.set_zone.Goals as goal

pub returns-in_err-done-clause-fails : goal.returns-in_err-done-clause-fails
returns-in_err-done-clause-fails c =
    let sets : SetsZoneIn c.args.book.now c.args.held.now (Some c.changed-done.new.book) =
    zone_set _ c.args.held.now c.in_ok-book.book c.changed-done.new.book c.in_ok-book.ensures.found c.changed-done.ensures.sets in
    if_err _ (inr sets)

pub returns-clause-sets : goal.returns-clause-sets
returns-clause-sets c =
    let sets : SetsZoneIn c.args.book.now c.args.held.now (Some c.changed-done.new.book) =
    zone_set _ c.args.held.now c.in_ok-book.book c.changed-done.new.book c.in_ok-book.ensures.found c.changed-done.ensures.sets in
    if_ok _ sets

pub returns-clause-fails : goal.returns-clause-fails
returns-clause-fails c =
    let sets : SetsZoneIn c.args.book.now c.args.held.now (Some c.changed-done.new.book) =
    zone_set _ c.args.held.now c.in_ok-book.book c.changed-done.new.book c.in_ok-book.ensures.found c.changed-done.ensures.sets in
    if_err _ (inr sets)

pub returns-clause-set : goal.returns-clause-set
returns-clause-set c =
    let set : HasZone c.args.name.now (Some c.changed-done.new.book) = (c.in_ok-zone.zone, c.in_ok-done.ensures.set, c.in_ok-zone.ensures) in
    if_ok _ set

pub returns-clause-said : goal.returns-clause-said
returns-clause-said c =
    zone_said c.zone_said-said.result _ c.in_ok-zone.zone c.args.name.now c.in_ok-done.ensures.set c.in_ok-zone.ensures c.zone_said-said.ensures.text
    c.zone_said-said.ensures.done
