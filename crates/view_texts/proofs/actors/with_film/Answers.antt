use Rattle.std.proofs.Common.{◌∙◌, sym, ap, map, option_map}
use Rattle.view_texts.specs.Actors.{seen_group, seen_open, seen_told}
use Rattle.view_texts.proofs.ActorLines.{first_group, same_group, next_group}
use Rattle.view_texts.proofs.actors.with_film.Goals as goal

pub returns-in_default : goal.returns-in_default
returns-in_default c =
    first_group (map seen_group c.args.groups.complete.items) (seen_told c.args.film) _ _ c.in_ok-opened.ensures (ap (option_map seen_open) c.in_default.is)

pub returns-then-eq : goal.returns-then-eq
returns-then-eq c =
    same_group (map seen_group c.args.groups.complete.items) (seen_told c.args.film) (seen_open c.in-Some.group) _ _
    (sym c.eq.ensures ∙ c.if-eq.true) c.in_ok-with_title.ensures (ap (option_map seen_open) c.in-Some.is)

pub returns : goal.returns
returns c =
    next_group c.args.groups.complete.items _ (seen_told c.args.film) c.in-Some.group _ _
    (sym c.eq.ensures ∙ c.if-eq.false) c.in_ok-push.ensures.items c.in_ok-opened-2.ensures (ap (option_map seen_open) c.in-Some.is)
