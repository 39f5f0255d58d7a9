use Rattle.std.proofs.Common.{List, ap, sym, subst, refl, string_bytes}
use Rattle.std.specs.List.{All}
use Rattle.std.proofs.lemmas.List.Elements.{All-push}
use Rattle.shop_types.specs.Seen.{seen_command}
use Rattle.till_cashier.specs.Again.{IsRefused}
use Rattle.till_cashier.specs.declared.refused.Repeat.{Repeat}
use Rattle.till_cashier.proofs.Doing.{ok_then}
use Rattle.till_cashier.proofs.Left.{given_more, repeated}
use Rattle.till_cashier.proofs.refused.add_entry.Goals as goal

pub returns-clause-refused : goal.returns-clause-refused
returns-clause-refused g c all =
    let P = IsRefused c.args.entries.now.rows.entries c.args.entries.now.rows.replies in
    ok_then c.add_repeat.result c.add_repeat.ensures.acts
    (λ same.
    subst (λ (items : List Repeat). All P items) (sym {A = List Repeat} same)
    (All-push P c.args.repeats.now.acts.items _ all (record {
      at = c.args.at;
      command = seen_command c.in_ok-command.command;
      back = c.requires;
      says = c.in_ok-command.ensures.says;
      staff = refl;
      act = refl;
    })))

pub returns-then-branch-clause-left : goal.returns-then-branch-clause-left
returns-then-branch-clause-left g c =
    repeated c.args.entries.now.rows.entries c.args.entries.now.rows.replies c.args.at (string_bytes c.args.repeats.now.left) c.args.repeats.now.acts.items
    (seen_command c.in_ok-command.command) c.in_ok-command.ensures.says (c.in_ok-is_repeated.ensures c.if-branch.true)

pub returns-clause-left : goal.returns-clause-left
returns-clause-left g c =
    ok_then c.add_repeat.result c.add_repeat.ensures.acts
    (λ same. given_more c.args.entries.now.rows.entries c.args.entries.now.rows.replies c.args.at (string_bytes c.args.repeats.now.left)
    (string_bytes c.add_repeat.new.repeats.left) c.args.repeats.now.acts.items c.add_repeat.new.repeats.acts.items _
    (ap string_bytes (sym c.add_repeat.ensures.left)) same
    (seen_command c.in_ok-command.command, c.requires, c.in_ok-command.ensures.says, refl, refl))
