-- What clap reads of a number is the number that its text writes.
use Rattle.shop_types.proofs.Common.{◌≡◌, ◌^◌, ◌&&◌, refl, sym, ap, ℕ, Bool, true, false, List, [], ◌∷◌, length, Option, Some, None, Ok, Err, nat_lt, lt-ltb}
use Rattle.shop_types.proofs.Common.{option_and_then, list_all, result_ok, digit_value, AllDigits, ParsesUnsigned, ExplainsUnsignedError, HasUnsignedDigitsIfOk}
use Rattle.shop_types.proofs.Common.{digits_value, without_leading_plus}
use Rattle.std.proofs.Common.{◌∙◌, Result, ltb-true}
use Rattle.std.specs.declared.num.ParseIntError.{ParseIntError}
use Rattle.clap.specs.Matches.{ReadsOne}
use Rattle.clap.specs.ValueTests.{is_numeral}
use Rattle.clap.specs.Words.{Text, found_of, one_text}
use Rattle.clap.specs.declared.parser.matches.ArgMatches.{ArgMatches}
use Rattle.clap.proofs.WalkLemmas.{both, one_text-rows}
use Rattle.office_words.specs.Given.{number_of, number_given}
use Rattle.word_tables.specs.Given.{values_of}

digits_pass : (ds : List ℕ) → AllDigits 10 ds → list_all (λ d. nat_lt (digit_value d) 10) ds ≡ true
digits_pass [] h = refl
digits_pass (d ∷ ds) h = rw (lt-ltb (digit_value d) 10 h.0) (digits_pass ds h.1)

digits_from : (ds : List ℕ) → list_all (λ d. nat_lt (digit_value d) 10) ds ≡ true → AllDigits 10 ds
digits_from [] e = tt
digits_from (d ∷ ds) e =
    let parts = both _ _ e in
    (ltb-true _ _ parts.0, digits_from ds parts.1)

abbrev is_number : ℕ → List ℕ → Bool
is_number bits ds = is_numeral ds && nat_lt (digits_value 10 ds) (2 ^ bits)

-- what a parse gives is the number that the text writes
pub parsed : {E : Type 0} (bits : ℕ) (text : Text) (r : Result ℕ E) → ParsesUnsigned bits 10 text r → number_of bits text ≡ result_ok r
parsed bits text (Ok n) h =
    let ds = without_leading_plus text in
    rw (lt-ltb 0 (length ds) h.0.0.0, digits_pass ds h.0.0.1, lt-ltb (digits_value 10 ds) (2 ^ bits) h.0.1) (ap Some (sym h.1))
parsed bits text (Err e) h = go (is_number bits (without_leading_plus text)) refl
  where
    go : (b : Bool) → is_number bits (without_leading_plus text) ≡ b → number_of bits text ≡ None
    go false t = rw t refl
    go true t =
        let outer = both _ _ t in
        let inner = both _ _ outer.0 in
        absurd (h ((ltb-true _ _ inner.0, digits_from (without_leading_plus text) inner.1), ltb-true _ _ outer.1))

-- what a getter of numbers gives
abbrev Gives : ℕ → Text → Result ℕ ParseIntError → Type 0
Gives bits text r = ParsesUnsigned bits 10 text r × ExplainsUnsignedError 10 text r × HasUnsignedDigitsIfOk text r

pub got_number : (bits : ℕ) (given : ArgMatches) (id : Text) (r : Option ℕ) → (one_text (found_of given) id ≡ None → r ≡ None)
    → ((t : Text) → one_text (found_of given) id ≡ Some t → ReadsOne (Gives bits) t r) → r ≡ number_given bits id (values_of given)
got_number bits given id r none value =
    got (one_text (found_of given) id) r none value ∙ ap (option_and_then (number_of bits)) (one_text-rows (found_of given) id)
  where
    got : (o : Option Text) (r : Option ℕ) → (o ≡ None → r ≡ None)
        → ((t : Text) → o ≡ Some t → ReadsOne (Gives bits) t r) → r ≡ option_and_then (number_of bits) o
    got None r none value = none refl
    got (Some t) (Some n) none value = sym (parsed {E = ParseIntError} bits t (Ok n) (value t refl).0)
    got (Some t) None none value = let failed = value t refl in sym (parsed {E = ParseIntError} bits t (Err failed.0) failed.1.0)
