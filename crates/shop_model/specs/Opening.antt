-- The rows with which a chain begins: no row, or the rows of the chain that is shown and tested. That chain has three branches in two countries and two
-- films, and nothing has been asked of it yet. The rows are our own.
use Rattle.std.specs.Prelude.{ℕ, ◌+◌, false, [], ◌∷◌, codes, replicate, Option, Some, None}
use Rattle.shop_model.specs.Values.{Text, Film, Branch, Staff, ByCode}
use Rattle.shop_model.specs.Shop.{Catalogue}
use Rattle.shop_model.specs.Books.{Books, opening}

-- 32 times the digit
abbrev pub token_of : ℕ → Text
token_of digit = replicate 32 (48 + digit)

abbrev pub river_dawn : Film
river_dawn = record {
  title = codes "RIVER DAWN";
  description = [];
  language = 1;
  category = 1;
  period = 3;
  rate = 499;
  replacement = 1999;
  minutes = Some 86;
  rating = codes "PG";
  features = [];
  withdrawn = false;
}

abbrev pub north_light : Film
north_light = record {
  title = codes "NORTH LIGHT";
  description = [];
  language = 1;
  category = 2;
  period = 5;
  rate = 299;
  replacement = 999;
  minutes = None;
  rating = codes "G";
  features = [];
  withdrawn = false;
}

abbrev pub opening_branch : ℕ → Text → Option ℕ → Branch
opening_branch number address manager = record { token = token_of number; address = address; postal = []; phone = []; city = number; manager = manager }

abbrev pub opening_staff : ℕ → Text → Text → Staff
opening_staff number first last = record {
  branch = number;
  person = record { first = first; last = last; address = codes "2 Side"; postal = []; phone = []; city = number };
  gone = false;
}

abbrev pub opening_catalogue : Catalogue
opening_catalogue = record {
  office_token = token_of 0;
  kept = [];
  rule = ByCode;
  casts = record { film = 1; actor = 1 } ∷ record { film = 1; actor = 2 } ∷ record { film = 2; actor = 2 } ∷ [];
  countries = codes "Canada" ∷ codes "Australia" ∷ [];
  cities =
      record { name = codes "Lethbridge"; country = 1 } ∷ record { name = codes "Woodridge"; country = 2 }
      ∷ record { name = codes "Brisbane"; country = 2 } ∷ [];
  languages = codes "English" ∷ [];
  categories = codes "Action" ∷ codes "Comedy" ∷ [];
  actors = record { first = codes "ANN"; last = codes "HILL" } ∷ record { first = codes "BO"; last = codes "KERR" } ∷ [];
  films = river_dawn ∷ north_light ∷ [];
  branches = opening_branch 1 (codes "10 High") (Some 1) ∷ opening_branch 2 (codes "20 High") (Some 2) ∷ opening_branch 3 (codes "30 High") None ∷ [];
  staff = opening_staff 1 (codes "IDA") (codes "LUND") ∷ opening_staff 2 (codes "JON") (codes "VEGA") ∷ opening_staff 3 (codes "KIM") (codes "ROSS") ∷ [];
}

-- that of a new chain: head office's token, the manual's rule, and no shared row
abbrev pub empty_catalogue : Text → Catalogue
empty_catalogue token = record {
  office_token = token;
  kept = [];
  rule = ByCode;
  casts = [];
  countries = [];
  cities = [];
  languages = [];
  categories = [];
  actors = [];
  films = [];
  branches = [];
  staff = [];
}

abbrev pub opening_books : Books
opening_books = opening opening_catalogue
