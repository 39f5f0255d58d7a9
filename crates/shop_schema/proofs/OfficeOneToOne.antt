-- Under one key, two commands of head office have one form exactly where they are one command.
use Rattle.shop_schema.proofs.Common.{◌≡◌, ℕ, ◌&&◌, List, [], ◌∷◌, map, filter, cond, Bool, true, false, Option, Some, option_map, refl, ap, ◌∙◌, sym}
use Rattle.shop_schema.proofs.Common.{bytes_eq-Decides, bytes_eq, and_parts, OfficeCommand, OfficeKept, same_office_act, same_office, head, office_command_form}
use Rattle.shop_schema.proofs.Common.{OfficeFormsAreOneToOne}
use Rattle.shop_schema.proofs.OfficeActs.{one_act}

pub office_forms_are_one_to_one : OfficeFormsAreOneToOne
office_forms_are_one_to_one a b key = (
  λ h. λ i. (bytes_eq-Decides a.key b.key).1 key i && (one_act a.act b.act).0 h i,
  λ h. (one_act a.act b.act).1 (and_parts (bytes_eq a.key b.key) (same_office_act a.act b.act) h).1,
)

-- ---- kept commands by their stored forms

pub same_truth : (s t : Bool) → (s ≡ true → t ≡ true) → (t ≡ true → s ≡ true) → s ≡ t
same_truth true true f h = refl
same_truth true false f h = sym (f refl)
same_truth false true f h = h refl
same_truth false false f h = refl

-- under one key, the stored forms have the same bytes exactly where the commands are one
pub office_form_same : (kept command : OfficeCommand) → bytes_eq kept.key command.key ≡ true
    → bytes_eq (office_command_form kept) (office_command_form command) ≡ same_office kept command
office_form_same kept command key =
    let one = office_forms_are_one_to_one kept command ((bytes_eq-Decides kept.key command.key).0 key) in
    let bytes = bytes_eq-Decides (office_command_form kept) (office_command_form command) in
    same_truth _ _ (λ h. one.0 (bytes.0 h)) (λ h. bytes.1 (one.1 h))

abbrev is_under : OfficeCommand → OfficeKept → Bool
is_under command kept = bytes_eq kept.command.key command.key

abbrev stored : OfficeKept → List ℕ × List ℕ
stored kept = (office_command_form kept.command, kept.reply)

abbrev by_form : List ℕ → List ℕ × List ℕ → Bool × List ℕ
by_form form it = (bytes_eq it.0 form, it.1)

abbrev by_command : OfficeCommand → OfficeKept → Bool × List ℕ
by_command command kept = (same_office kept.command command, kept.reply)

first_told : (command : OfficeCommand) (form : List ℕ) → form ≡ office_command_form command → (kept : List OfficeKept)
    → option_map (by_form form) (head (map stored (filter (is_under command) kept))) ≡ head (map (by_command command) (filter (is_under command) kept))
first_told command form is [] = refl
first_told command form is (k ∷ kept) = go (is_under command k) refl (first_told command form is kept)
  where
    under : List OfficeKept
    under = filter (is_under command) kept

    go : (t : Bool) → is_under command k ≡ t → option_map (by_form form) (head (map stored under)) ≡ head (map (by_command command) under)
        → option_map (by_form form) (head (map stored (cond t (k ∷ under) under))) ≡ head (map (by_command command) (cond t (k ∷ under) under))
    go true key more = (λ i. Some (bytes_eq (office_command_form k.command) (is i), k.reply)) ∙ (λ i. Some (office_form_same k.command command key i, k.reply))
    go false key more = more

-- so the stored form and the reply that are found under the command's key show whether the kept command is the same
pub office_told : (command : OfficeCommand) (form : List ℕ) (found : Option (List ℕ × List ℕ)) (kept : List OfficeKept) → form ≡ office_command_form command
    → found ≡ head (map stored (filter (is_under command) kept))
    → option_map (by_form form) found ≡ head (map (by_command command) (filter (is_under command) kept))
office_told command form found kept is has = ap (λ (o : Option (List ℕ × List ℕ)). option_map (by_form form) o) has ∙ first_told command form is kept
