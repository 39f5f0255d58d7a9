-- What a row means.
use Rattle.std.specs.Prelude.{◌≡◌, ◌≤◌, ℕ, ⊤, Bool, List, [], ◌∷◌, ◌++◌, map, filter}
use Rattle.std.specs.Str.{bytes_eq}
use Rattle.sqlite.specs.State.{State}
use Rattle.shop_model.specs.Rows.{owned_by}
use Rattle.shop_model.specs.Values.{Text, Command, OfficeCommand}
use Rattle.shop_model.specs.Shop.{Kept, OfficeKept}
use Rattle.shop_model.specs.Books.{Books}
use Rattle.shop_schema.specs.Forms.{command_form, office_command_form}
use Rattle.shop_schema.specs.Shop.{Writes}
use Rattle.shop_ledger.specs.declared.kept.KeptRow.{KeptRow}
use Rattle.shop_ledger.specs.declared.kept.Owner.{Owner}
use Rattle.shop_ledger.specs.declared.kept.Owner.TheVariants as owner

-- the stored form of a kept command, and its reply
abbrev pub seen_kept : KeptRow → List ℕ × List ℕ
seen_kept row = (row.form, row.reply)

abbrev pub stored_kept : Kept → List ℕ × List ℕ
stored_kept kept = (command_form kept.command, kept.reply)

abbrev pub stored_office_kept : OfficeKept → List ℕ × List ℕ
stored_office_kept kept = (office_command_form kept.command, kept.reply)

-- the number in the table of a kept command's owner: a branch's number, or 0 for head office
abbrev pub owner_number : Owner → ℕ
owner_number owner.Office = 0
owner_number (owner.Branch b) = b

abbrev pub IsOwner : Owner → Type 0
IsOwner owner.Office = ⊤
IsOwner (owner.Branch b) = 1 ≤ b

-- what is kept under its owner's key
abbrev pub kept_under : Owner → List ℕ → Books → List (List ℕ × List ℕ)
kept_under owner.Office key books = map stored_office_kept (filter (λ it. bytes_eq it.command.key key) books.catalogue.kept)
kept_under (owner.Branch b) key books = map stored_kept (filter (λ it. bytes_eq it.command.key key) (owned_by b books.kept))

-- the call keeps the command that has the key and the stored form, with the reply
abbrev pub Keeps : Owner → List ℕ → List ℕ → List ℕ → State → State → Type 0
Keeps owner.Office key form reply old new =
    (command : OfficeCommand) → command.key ≡ key → office_command_form command ≡ form → Writes old new (λ _. ⊤) (λ books. record books {
      catalogue = record books.catalogue { kept = books.catalogue.kept ++ record { command = command; reply = reply } ∷ [] };
    })
Keeps (owner.Branch b) key form reply old new =
    (command : Command) → command.key ≡ key → command_form command ≡ form
    → Writes old new (λ _. ⊤) (λ books. record books { kept = books.kept ++ record { owner = b; it = record { command = command; reply = reply } } ∷ [] })

-- whether the stored form is this one, and the reply
abbrev pub by_form : List ℕ → List ℕ × List ℕ → Bool × Text
by_form form kept = (bytes_eq kept.0 form, kept.1)
