-- Rows of kept commands: what their cells are, and that the bytes are of the form of a command.
use Rattle.shop_schema.proofs.Common.{◌≡◌, ◌^◌, ℕ, zero, suc, List, [], ◌∷◌, refl, sym, subst, arith, Blob, number_value, command_form, office_command_form}
use Rattle.shop_schema.proofs.Common.{Kind, FitEach}
use Rattle.sqlite.specs.declared.types.Value.TheVariants.{Text}
use Rattle.sqlite_value.specs.Order as sql
use Rattle.shop_schema.specs.Kinds as kind
use Rattle.shop_schema.specs.Kinds.{Values, columns_of}
use Rattle.books_audit.specs.Forms.{IsCommandForm, IsOfficeForm}
use Rattle.books_audit.specs.Listed.{FullOf}
use Rattle.books_audit.specs.Kept.{AnyKept, OfBranch, OfOffice, any_columns, AnyFits, caller_row, IsCallerRow, HasForm}
use Rattle.books_audit.specs.declared.kept_rows.CallerRow.{CallerRow}
use Rattle.books_audit.proofs.Ranges.{in_range, ranged}

abbrev pub kept_kinds : List Kind
kept_kinds = kind.Below (2 ^ 32) ∷ kind.Key ∷ kind.Bytes ∷ kind.Words ∷ []

-- if the bytes in the cells are the form of a command of the caller, the cells are a kept command's
pub kept_full : (v : Values kept_kinds) → FitEach kept_kinds v → HasForm v.0 v.1.1.0
    → FullOf any_columns AnyFits caller_row (record { caller = v.0; key = v.1.0 }) (columns_of kept_kinds v)
kept_full v fits form = go v.0 v.1.0 v.1.1.0 v.1.1.1.0 fits form
  where
    go : (n : ℕ) (t b u : List ℕ) → FitEach kept_kinds (n, (t, (b, (u, tt)))) → HasForm n b
        → FullOf any_columns AnyFits caller_row (record { caller = n; key = t }) (number_value n ∷ Text t ∷ Blob b ∷ Text u ∷ [])
    go zero t b u fits form =
        let act = form.office refl in record {
          it = OfOffice (record { command = record { key = t; act = act.0 }; reply = u });
          has = λ i. number_value 0 ∷ Text t ∷ Blob (sym act.2 i) ∷ Text u ∷ [];
          fits = (fits.1.0, act.1, fits.1.1.1.0);
          keeps = refl;
        }
    go (suc n) t b u fits form =
        let low = fits.0 in
        let found = form.branch (λ e. absurd (omega (arith, e))) in record {
          it =
              OfBranch (record {
                owner = suc n;
                it = record { command = record { key = t; staff = found.0.staff; moment = found.0.moment; act = found.0.act }; reply = u };
              });
          has = λ i. number_value (suc n) ∷ Text t ∷ Blob (sym found.4 i) ∷ Text u ∷ [];
          fits = (ranged (suc n) (omega arith, omega (arith, low)), record { key = fits.1.0; staff = found.1; moment = found.2; act = found.3 }, fits.1.1.1.0);
          keeps = refl;
        }

-- each row of the table has such cells
pub kept_only : (x : CallerRow) (r : sql.Row) → IsCallerRow x r → (v : Values kept_kinds) × FitEach kept_kinds v × (columns_of kept_kinds v ≡ r)
kept_only x r full = go full.it full.fits full.has
  where
    go : (it : AnyKept) → AnyFits it → any_columns it ≡ r → (v : Values kept_kinds) × FitEach kept_kinds v × (columns_of kept_kinds v ≡ r)
    go (OfBranch row) fits has =
        let high = (in_range row.owner fits.0).1 in
        ((row.owner, (row.it.command.key, (command_form row.it.command, (row.it.reply, tt)))), (omega (arith, high), (fits.1.key, (tt, (fits.2, tt)))), has)
    go (OfOffice it) fits has = ((0, (it.command.key, (office_command_form it.command, (it.reply, tt)))), (omega arith, (fits.0, (tt, (fits.2, tt)))), has)

-- and its bytes are of such a form
pub kept_form : (x : CallerRow) (v : Values kept_kinds) → IsCallerRow x (columns_of kept_kinds v) → HasForm v.0 v.1.1.0
kept_form x v full = go v.0 v.1.0 v.1.1.0 v.1.1.1.0 full.it full.fits full.has
  where
    go : (n : ℕ) (t b u : List ℕ) (it : AnyKept) → AnyFits it → any_columns it ≡ number_value n ∷ Text t ∷ Blob b ∷ Text u ∷ [] → HasForm n b
    go n t b u (OfBranch row) fits has =
        let owner : row.owner ≡ n = cc in
        let form : command_form row.it.command ≡ b = cc in
        let low = (in_range row.owner fits.0).0 in record {
          office = λ e. absurd (omega (arith, low, owner, e));
          branch = λ e. subst IsCommandForm form (row.it.command, fits.1.staff, fits.1.moment, fits.1.act, refl);
        }
    go n t b u (OfOffice it) fits has =
        let owner : 0 ≡ n = cc in
        let form : office_command_form it.command ≡ b = cc in record {
          office = λ e. subst IsOfficeForm form (it.command.act, fits.1, refl);
          branch = λ e. absurd (e (sym owner));
        }
