-- Worked rows: what head office adds, changes and withdraws.
use Rattle.shop_model.proofs.Common.{ℕ, [], ◌∷◌, false, None, refl, codes, Film, Branch, ByCode, ByComment, AddCustomer, Import, AddCountry, AddCity}
use Rattle.shop_model.proofs.Common.{AddLanguage, AddCategory, AddActor, AddFilm, PriceFilm, WithdrawFilm, AddCast, AddBranch, AddStaff, StaffLeaves}
use Rattle.shop_model.proofs.Common.{SetManager, ChooseRule, OneFilm, Sales, Usage, Unread, token_of, Catalogue, opening}
use Rattle.shop_model.proofs.RowScripts.{computing, ten, one_comedy, limited, rules, sends, does, asks, orders, wants, mary, ok, no, Plays, PlaysOn}

abbrev stone : Film
stone = record {
  title = codes "STONE";
  description = [];
  language = 1;
  category = 2;
  period = 3;
  rate = 499;
  replacement = 1999;
  minutes = None;
  rating = codes "G";
  features = [];
  withdrawn = false;
}

abbrev high_street : ℕ → Branch
high_street digit = record { token = token_of digit; address = codes "40 High"; postal = codes "P4"; phone = codes "4"; city = 1; manager = None }

abbrev nowhere : Catalogue
nowhere = record {
  office_token = token_of 0;
  kept = [];
  rule = ByCode;
  casts = [];
  countries = [];
  cities = [];
  languages = [];
  categories = [];
  actors = [];
  films = [];
  branches = [];
  staff = [];
}

film_added : Plays rules [] (
    (orders (codes "f1") (AddFilm stone), ok (codes "{\"film\":3}"))
    ∷ (
      asks 3 (OneFilm 3),
      ok (codes "{\"category\":2,\"description\":\"\",\"features\":\"\",\"film\":3,\"language\":1,\"length\":null,\"period\":3,\"rate\":499,\"rating\":\"G\",\"replacement\":1999,\"title\":\"STONE\",\"withdrawn\":false}"),
    )
    ∷ [])
unfolding computing
film_added = refl

film_withdrawn : Plays rules [] (
    (orders (codes "w1") (WithdrawFilm 2), ok (codes "{\"film\":2}"))
    ∷ (orders (codes "w2") (WithdrawFilm 2), no (codes "{\"refused\":\"already\"}"))
    ∷ (does 1 (codes "a") ten (Import (codes "L1") one_comedy), no (codes "{\"refused\":\"film_withdrawn\"}"))
    ∷ [])
unfolding computing
film_withdrawn = refl

-- the token of a branch, that of head office, and a free one
token_taken : Plays rules [] (
    (orders (codes "a") (AddBranch (high_street 1)), no (codes "{\"refused\":\"token_taken\"}"))
    ∷ (orders (codes "b") (AddBranch (high_street 0)), no (codes "{\"refused\":\"token_taken\"}"))
    ∷ (orders (codes "c") (AddBranch (high_street 4)), ok (codes "{\"branch\":4}"))
    ∷ (orders (codes "d") (AddStaff (record { branch = 4; person = mary.person; gone = false })), ok (codes "{\"staff\":4}"))
    ∷ [])
unfolding computing
token_taken = refl

-- staff of another branch, staff that isn't there, and then the branch's own
managers : Plays rules [] (
    (orders (codes "a") (SetManager 3 2), no (codes "{\"refused\":\"no_branch\"}"))
    ∷ (orders (codes "b") (SetManager 3 9), no (codes "{\"refused\":\"no_staff\"}"))
    ∷ (orders (codes "c") (SetManager 3 3), ok (codes "{\"branch\":3,\"staff\":3}"))
    ∷ (orders (codes "d") (SetManager 3 3), no (codes "{\"refused\":\"already\"}"))
    ∷ [])
unfolding computing
managers = refl

-- head office begins with no shared row at all
file_from_nothing : PlaysOn rules (opening nowhere) (
    (orders (codes "c1") (AddCountry (codes "Canada")), ok (codes "{\"country\":1}"))
    ∷ (orders (codes "c2") (AddCity (record { name = codes "Lethbridge"; country = 2 })), no (codes "{\"refused\":\"no_shared_row\"}"))
    ∷ (orders (codes "c3") (AddCity (record { name = codes "Lethbridge"; country = 1 })), ok (codes "{\"city\":1}"))
    ∷ [])
unfolding computing
file_from_nothing = refl

shared_rows : Plays rules [] (
    (orders (codes "a") (AddLanguage (codes "French")), ok (codes "{\"language\":2}"))
    ∷ (orders (codes "b") (AddLanguage (codes "French")), no (codes "{\"refused\":\"already\"}"))
    ∷ (orders (codes "c") (AddCategory (codes "Drama")), ok (codes "{\"category\":3}"))
    ∷ (orders (codes "d") (AddActor (record { first = codes "CY"; last = codes "DOE" })), ok (codes "{\"actor\":3}"))
    ∷ (orders (codes "e") (AddCast (record { film = 2; actor = 3 })), ok (codes "{\"actor\":3,\"film\":2}"))
    ∷ (orders (codes "f") (AddCast (record { film = 2; actor = 3 })), no (codes "{\"refused\":\"already\"}"))
    ∷ (orders (codes "g") (StaffLeaves 3), ok (codes "{\"staff\":3}"))
    ∷ (orders (codes "h") (StaffLeaves 3), no (codes "{\"refused\":\"already\"}"))
    ∷ [])
unfolding computing
shared_rows = refl

-- the rule that is chosen already
already_by_code : Plays rules [] (
    (orders (codes "r1") (ChooseRule ByCode), no (codes "{\"refused\":\"already\"}"))
    ∷ (orders (codes "r1") (ChooseRule ByComment), ok (codes "{\"rule\":\"comment\"}"))
    ∷ (orders (codes "r1") (ChooseRule ByComment), ok (codes "{\"rule\":\"comment\"}"))
    ∷ (orders (codes "r1") (ChooseRule ByCode), no (codes "{\"refused\":\"key_used\"}"))
    ∷ (orders (codes "r2") (ChooseRule ByComment), no (codes "{\"refused\":\"already\"}"))
    ∷ [])
unfolding computing
already_by_code = refl

-- with one kept key allowed the second command finds no room, and a reading is answered
office_limit : Plays (limited 1 1000000) [] (
    (orders (codes "a") (AddCountry (codes "Chile")), ok (codes "{\"country\":3}"))
    ∷ (orders (codes "b") (AddCountry (codes "Peru")), no (codes "{\"refused\":\"full\"}"))
    ∷ (wants Sales, ok (codes "[]"))
    ∷ [])
unfolding computing
office_limit = refl

-- head office's keys are kept as a branch's are; words that are no command
used_key_and_usage : Plays rules ((orders (codes "p1") (PriceFilm 1 299), ok (codes "{\"film\":1,\"rate\":299}")) ∷ []) (
    (orders (codes "p1") (PriceFilm 1 250), no (codes "{\"refused\":\"key_used\"}"))
    ∷ (orders (codes "p1") (PriceFilm 1 299), ok (codes "{\"film\":1,\"rate\":299}"))
    ∷ (sends 0 (Unread Usage), record { status = 400; body = codes "{\"refused\":\"usage\"}" })
    ∷ [])
unfolding computing
used_key_and_usage = refl

-- who left works no more
manager_leaves : Plays rules [] (
    (orders (codes "a") (StaffLeaves 1), ok (codes "{\"staff\":1}"))
    ∷ (orders (codes "b") (SetManager 1 1), no (codes "{\"refused\":\"no_staff\"}"))
    ∷ (does 1 (codes "a") ten (AddCustomer mary), no (codes "{\"refused\":\"no_staff\"}"))
    ∷ (orders (codes "c") (PriceFilm 9 1), no (codes "{\"refused\":\"no_film\"}"))
    ∷ [])
unfolding computing
manager_leaves = refl
