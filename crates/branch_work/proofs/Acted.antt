-- Lemmas about the books after an accepted act, by what was found of the rows that it names, and after its command is kept.
use Rattle.shop_schema.proofs.Common.{◌≡◌, ◌∙◌, refl, sym, ap, subst, ℕ, Bool, [], ◌∷◌, ◌++◌, map, filter, Ok, Some, Result, MutBor, Global, is_some}
use Rattle.shop_schema.proofs.Common.{string_bytes, Held, state, within_as, Row, of, is_row, Text, Rules, Command, Act, Rental, reply_text, Books, book_acted}
use Rattle.shop_schema.proofs.Common.{book_done, set_last, shop_of, map_at, row_at, found_some, IsHeld, Rentals}
use Rattle.std.specs.Prelude.{String}
use Rattle.sqlite.specs.Store.{Ghosts}
use Rattle.sql_rows.proofs.Chaining.{Calls}
use Rattle.shop_model.specs.Values as model
use Rattle.branch_core.specs.declared.found.RentalFound.{RentalFound}
use Rattle.branch_core.specs.declared.found.RowsFound.{RowsFound}
use Rattle.branch_core.specs.Agreed.{seen_rental, rental_at}
use Rattle.branch_work.specs.Added.{IsActed, with_kept}
use Rattle.branch_work.specs.Acts.{CarriesOut}

module _ {S E : Type 0} {g : Ghosts S} {old new : MutBor (Held S)} {b : ℕ} {command : Command} {act : Act} {found : RowsFound} {text : String Global} where
  -- calls that succeeded, by which the act is carried out
  pub carried_out : (calls : Calls g old new)
      → (calls.Said → (rules : Rules) → IsActed rules b command act found (string_bytes text) (state g old.now) (state g new.now))
      → CarriesOut {E = E} g old new b command act found (Ok text)
  carried_out calls more = record { inside = within_as calls.inside; says = λ clean. more (calls.said clean) }

  -- the calls of an act that was carried out, with what they say of the act
  abbrev pub out_calls : CarriesOut {E = E} g old new b command act found (Ok text) → Calls g old new
  out_calls one = record {
    Said = (rules : Rules) → IsActed rules b command act found (string_bytes text) (state g old.now) (state g new.now);
    inside = within_as one.inside;
    said = one.says;
  }

-- what a call says of an act holds of an equal act
pub by_name :
    {S E : Type 0} {g : Ghosts S} {old new : MutBor (Held S)} {b : ℕ} {command : Command} {act was : Act} {found : RowsFound} {r : Result (String Global) E}
    → was ≡ act
    → CarriesOut g old new b command act found r → CarriesOut g old new b command was found r
by_name {g = g} {old = old} {new = new} {b = b} {command = command} {found = found} {r = r} is one =
    subst (λ (it : Act). CarriesOut g old new b command it found r) (sym is) one

-- the copy of a rental that was found
pub copy_found : (b r : ℕ) (found : RentalFound) (books : Books) → IsHeld books → Some (seen_rental found) ≡ rental_at (shop_of b books) r
    → map (λ (row : Row Rental). row.it.copy) (filter (is_row b r) books.rentals) ≡ found.copy ∷ []
copy_found b r found books held is =
    let one =
    found_some (λ (it : Rental). let p : ℕ × ℕ × Bool = (it.customer, it.copy, is_some it.returned) in p) r (of b books.rentals) (seen_rental found) is in
    let copy : one.0.copy ≡ found.copy = ap (λ (p : ℕ × ℕ × Bool). p.1) one.2 in
    row_at (λ (it : Rental). it.copy) b r books.rentals (held.numbers.rows Rentals b)
    ∙ sym (map_at (λ (it : Rental). it.copy) r (of b books.rentals))
    ∙ ap (map (λ (it : Rental). it.copy)) one.1
    ∙ ap (λ (m : ℕ). m ∷ []) copy

-- an act leaves the kept commands and the last moments as they were
pub acted_kept : (rules : Rules) (b : ℕ) (command : Command) (act : Act) (books : Books)
    → ((book_acted rules b command act books).kept ≡ books.kept) × ((book_acted rules b command act books).lasts ≡ books.lasts)
acted_kept rules b command (model.AddCustomer person) books = (refl, refl)
acted_kept rules b command act books = (refl, refl)

-- the books in which the act was carried out, with the command kept, are the books after the command
pub acted_done : (rules : Rules) (b : ℕ) (command : Command) (reply : Text) (books : Books) → reply ≡ reply_text rules command (shop_of b books)
    → with_kept b command reply (book_acted rules b command command.act books) ≡ book_done rules b command books
acted_done rules b command reply books is =
    let acted = book_acted rules b command command.act books in
    let same = acted_kept rules b command command.act books in
    λ i.
    record acted {
      kept = same.0 i ++ record { owner = b; it = record { command = command; reply = is i } } ∷ [];
      lasts = set_last b command.moment (same.1 i);
    }
