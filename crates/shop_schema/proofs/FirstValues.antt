-- The rows with which a chain begins are such as the program can hold.
use Rattle.std.proofs.Common.{IfSome}
use Rattle.shop_schema.proofs.Common.{◌≡◌, ℕ, [], true, false, Option, Some, None, refl, arith, codes, nat_lt, list_all, IsUtf8-from_ascii, is_text, Text}
use Rattle.shop_schema.proofs.Common.{token_of, river_dawn, north_light, opening_branch, opening_staff, opening_books, first_books, IsNumber, IsText, IsName}
use Rattle.shop_schema.proofs.Common.{IsToken, IsFilm, IsBranch, IsStaff, AreValues, by_none, AreRowValues}
use Rattle.shop_schema.proofs.Replies.{ascii_bytes}

pub first_values : (token : Text) → IsToken token → AreValues (first_books token)
first_values token is = record {
  catalogue = record {
    office_token = is;
    kept = tt;
    casts = tt;
    countries = (omega arith, tt);
    cities = (omega arith, tt);
    languages = (omega arith, tt);
    categories = (omega arith, tt);
    actors = (omega arith, tt);
    films = (omega arith, tt);
    branches = (omega arith, tt);
    staff = (omega arith, tt);
  };
  rows = by_none AreRowValues (first_books token).catalogue (λ t. tt);
  lots = tt;
  consignments = tt;
  kept = tt;
  lasts = tt;
}

ascii_text : (low high : ℕ) (text : Text) → is_text low high text ≡ true → list_all (λ b. nat_lt b 128) text ≡ true → IsText low high text
ascii_text low high text is ascii = (is, IsUtf8-from_ascii text (ascii_bytes text ascii))

opening_branch_values : (number : ℕ) (address : Text) (manager : Option ℕ) → IsNumber number
    → IsToken (token_of number) → IsText 1 128 address → IfSome manager IsNumber
    → IsBranch (opening_branch number address manager)
opening_branch_values number address manager numbered token text managed = record {
  token = token;
  address = text;
  postal = ascii_text 0 45 [] refl refl;
  phone = ascii_text 0 45 [] refl refl;
  city = numbered;
  manager = managed;
}

opening_staff_values : (number : ℕ) (first last : Text) → IsNumber number → IsName first → IsName last → IsStaff (opening_staff number first last)
opening_staff_values number first last numbered f l = (
  numbered,
  record {
    first = f;
    last = l;
    address = ascii_text 1 128 (codes "2 Side") refl refl;
    postal = ascii_text 0 45 [] refl refl;
    phone = ascii_text 0 45 [] refl refl;
    city = numbered;
  },
)

river_dawn_values : IsFilm river_dawn
river_dawn_values = record {
  title = ascii_text 1 128 (codes "RIVER DAWN") refl refl;
  description = ascii_text 0 500 [] refl refl;
  language = refl;
  category = refl;
  period = (omega arith, omega arith);
  rate = omega arith;
  replacement = omega arith;
  minutes = (omega arith, omega arith);
  rating = refl;
  features = (record { trailers = false; commentaries = false; deleted_scenes = false; behind_the_scenes = false }, refl);
}

north_light_values : IsFilm north_light
north_light_values = record {
  title = ascii_text 1 128 (codes "NORTH LIGHT") refl refl;
  description = ascii_text 0 500 [] refl refl;
  language = refl;
  category = refl;
  period = (omega arith, omega arith);
  rate = omega arith;
  replacement = omega arith;
  minutes = tt;
  rating = refl;
  features = (record { trailers = false; commentaries = false; deleted_scenes = false; behind_the_scenes = false }, refl);
}

pub opening_values : AreValues opening_books
opening_values = record {
  catalogue = record {
    office_token = refl;
    kept = tt;
    casts = ((refl, refl), ((refl, refl), ((refl, refl), tt)));
    countries = (omega arith, (ascii_text 1 45 (codes "Canada") refl refl, (ascii_text 1 45 (codes "Australia") refl refl, tt)));
    cities = (
      omega arith,
      (
        (ascii_text 1 45 (codes "Lethbridge") refl refl, refl),
        ((ascii_text 1 45 (codes "Woodridge") refl refl, refl), ((ascii_text 1 45 (codes "Brisbane") refl refl, refl), tt)),
      ),
    );
    languages = (omega arith, (ascii_text 1 45 (codes "English") refl refl, tt));
    categories = (omega arith, (ascii_text 1 45 (codes "Action") refl refl, (ascii_text 1 45 (codes "Comedy") refl refl, tt)));
    actors = (
      omega arith,
      (
        (ascii_text 1 45 (codes "ANN") refl refl, ascii_text 1 45 (codes "HILL") refl refl),
        ((ascii_text 1 45 (codes "BO") refl refl, ascii_text 1 45 (codes "KERR") refl refl), tt),
      ),
    );
    films = (omega arith, (river_dawn_values, (north_light_values, tt)));
    branches = (
      omega arith,
      (
        opening_branch_values 1 (codes "10 High") (Some 1) refl refl (ascii_text 1 128 (codes "10 High") refl refl) refl,
        (
          opening_branch_values 2 (codes "20 High") (Some 2) refl refl (ascii_text 1 128 (codes "20 High") refl refl) refl,
          (opening_branch_values 3 (codes "30 High") None refl refl (ascii_text 1 128 (codes "30 High") refl refl) tt, tt),
        ),
      ),
    );
    staff = (
      omega arith,
      (
        opening_staff_values 1 (codes "IDA") (codes "LUND") refl (ascii_text 1 45 (codes "IDA") refl refl) (ascii_text 1 45 (codes "LUND") refl refl),
        (
          opening_staff_values 2 (codes "JON") (codes "VEGA") refl (ascii_text 1 45 (codes "JON") refl refl) (ascii_text 1 45 (codes "VEGA") refl refl),
          (opening_staff_values 3 (codes "KIM") (codes "ROSS") refl (ascii_text 1 45 (codes "KIM") refl refl) (ascii_text 1 45 (codes "ROSS") refl refl), tt),
        ),
      ),
    );
  };
  rows = by_none AreRowValues opening_books.catalogue (λ t. tt);
  lots = tt;
  consignments = tt;
  kept = tt;
  lasts = tt;
}
