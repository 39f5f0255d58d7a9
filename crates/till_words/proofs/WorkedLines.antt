-- Lines that are known: the definition computes on words that are written out.
use Rattle.std.proofs.Common.{◌≡◌, refl, ℕ, List, [], ◌∷◌, Some, None, true, false, codes}
use Rattle.clap.proofs.OnLiterals.{clap_on_literals}
use Rattle.shop_types.specs.declared.command.Act.TheVariants as act
use Rattle.till_words.specs.declared.words.TillAct.{TillAct}
use Rattle.till_words.specs.declared.words.TillAct.TheVariants as till
use Rattle.till_words.specs.declared.words.TillLine.{TillLine}
use Rattle.till_words.specs.declared.words.TillLook.TheVariants as look
use Rattle.till_words.specs.declared.words.Drawer.TheVariants as drawer
use Rattle.till_words.specs.Line.{read_of, till_line_of}
use Rattle.till_words.specs.PromptLine.{words_of}

-- a line with nothing before its word
abbrev line : TillAct → TillLine
line act = record { book = None; is_json = false; is_sure = false; staff = None; drawer = None; act = act }

-- ---- places and names

pub rent_by_places : till_line_of (codes "rent" ∷ codes "17" ∷ codes "4" ∷ []) ≡ Some (line (till.Do (act.Rent 17 4)))
unfolding clap_on_literals read_of till_line_of
rent_by_places = refl

pub rent_by_names : till_line_of (codes "rent" ∷ codes "--copy" ∷ codes "4" ∷ codes "--customer=17" ∷ []) ≡ Some (line (till.Do (act.Rent 17 4)))
unfolding clap_on_literals read_of till_line_of
rent_by_names = refl

-- an option that is given by its name leaves its place to the next option
pub rent_by_both : till_line_of (codes "rent" ∷ codes "4" ∷ codes "--customer" ∷ codes "17" ∷ []) ≡ Some (line (till.Do (act.Rent 17 4)))
unfolding clap_on_literals read_of till_line_of
rent_by_both = refl

pub rent_of_one_too_many : till_line_of (codes "rent" ∷ codes "17" ∷ codes "4" ∷ codes "5" ∷ []) ≡ None
unfolding clap_on_literals read_of till_line_of
rent_of_one_too_many = refl

pub rent_without_copy : till_line_of (codes "rent" ∷ codes "17" ∷ []) ≡ None
unfolding clap_on_literals read_of till_line_of
rent_without_copy = refl

-- ---- returns, amounts and lists

pub return_of_a_copy : till_line_of (codes "return" ∷ codes "4" ∷ []) ≡ Some (line (till.ReturnCopy 4))
unfolding clap_on_literals read_of till_line_of
return_of_a_copy = refl

pub return_of_both : till_line_of (codes "return" ∷ codes "4" ∷ codes "--rental" ∷ codes "9" ∷ []) ≡ None
unfolding clap_on_literals read_of till_line_of
return_of_both = refl

pub pay_in_dollars : till_line_of (codes "pay" ∷ codes "17" ∷ codes "$4.99" ∷ codes "--rental" ∷ codes "9" ∷ [])
    ≡ Some (line (till.Do (act.Pay 17 (Some 9) 499)))
unfolding clap_on_literals read_of till_line_of
pay_in_dollars = refl

pub pay_of_one_digit : till_line_of (codes "pay" ∷ codes "17" ∷ codes "4.9" ∷ []) ≡ None
unfolding clap_on_literals read_of till_line_of
pay_of_one_digit = refl

pub receive_but_two : till_line_of (codes "receive" ∷ codes "2" ∷ codes "7" ∷ codes "--missing" ∷ codes "1,3" ∷ [])
    ≡ Some (line (till.Do (act.Receive 2 7 (1 ∷ 3 ∷ []))))
unfolding clap_on_literals read_of till_line_of
receive_but_two = refl

pub receive_all : till_line_of (codes "receive" ∷ codes "2" ∷ codes "7" ∷ []) ≡ Some (line (till.Do (act.Receive 2 7 [])))
unfolding clap_on_literals read_of till_line_of
receive_all = refl

-- ---- looks

pub customer_by_number : till_line_of (codes "customer" ∷ codes "17" ∷ []) ≡ Some (line (till.Look (look.Customer 17)))
unfolding clap_on_literals read_of till_line_of
customer_by_number = refl

pub customer_by_name : till_line_of (codes "customer" ∷ codes "MARY" ∷ []) ≡ Some (line (till.Look (look.Customers (codes "MARY"))))
unfolding clap_on_literals read_of till_line_of
customer_by_name = refl

pub film_by_words : till_line_of (codes "film" ∷ codes "river" ∷ codes "dawn" ∷ []) ≡ Some (line (till.Look (look.Films (codes "river dawn"))))
unfolding clap_on_literals read_of till_line_of
film_by_words = refl

-- ---- labels

pub rent_by_labels : till_line_of (codes "rent" ∷ codes "K17" ∷ codes "C12" ∷ []) ≡ Some (line (till.Do (act.Rent 17 12)))
unfolding clap_on_literals read_of till_line_of
rent_by_labels = refl

pub label_of_the_other : till_line_of (codes "rent" ∷ codes "C17" ∷ codes "C12" ∷ []) ≡ None
unfolding clap_on_literals read_of till_line_of
label_of_the_other = refl

pub copy_alone : till_line_of (codes "C12" ∷ []) ≡ Some (line (till.Look (look.InStock 12)))
unfolding clap_on_literals read_of till_line_of
copy_alone = refl

pub customer_alone : till_line_of (codes "K17" ∷ []) ≡ Some (line (till.Look (look.Customer 17)))
unfolding clap_on_literals read_of till_line_of
customer_alone = refl

-- ---- the book's zone

pub zone_by_place : till_line_of (codes "zone" ∷ codes "UTC-07:00" ∷ []) ≡ Some (line (till.Zone (codes "UTC-07:00")))
unfolding clap_on_literals read_of till_line_of
zone_by_place = refl

pub zone_west_by_name : till_line_of (codes "zone" ∷ codes "--name=-07:00" ∷ []) ≡ Some (line (till.Zone (codes "-07:00")))
unfolding clap_on_literals read_of till_line_of
zone_west_by_name = refl

abbrev token : List ℕ
token = codes "11111111111111111111111111111111"

pub init_in_a_zone : till_line_of (codes "init" ∷ codes "a:1" ∷ token ∷ codes "--staff" ∷ codes "1" ∷ codes "--zone" ∷ codes "UTC" ∷ [])
    ≡ Some (line (till.Init (record { address = codes "a:1"; token = token; staff = Some 1; zone = Some (codes "UTC") })))
unfolding clap_on_literals read_of till_line_of
init_in_a_zone = refl

pub init_without_a_zone : till_line_of (codes "init" ∷ codes "a:1" ∷ token ∷ codes "--staff" ∷ codes "1" ∷ []) ≡ None
unfolding clap_on_literals read_of till_line_of
init_without_a_zone = refl

pub init_of_an_office : till_line_of (codes "init" ∷ codes "a:1" ∷ token ∷ codes "--office" ∷ [])
    ≡ Some (line (till.Init (record { address = codes "a:1"; token = token; staff = None; zone = None })))
unfolding clap_on_literals read_of till_line_of
init_of_an_office = refl

-- ---- options before the word, and words after `office`

pub yes_before : till_line_of (codes "--yes" ∷ codes "scrap" ∷ codes "4" ∷ [])
    ≡ Some (record { book = None; is_json = false; is_sure = true; staff = None; drawer = None; act = till.Do (act.Scrap 4) })
unfolding clap_on_literals read_of till_line_of
yes_before = refl

pub drawer_before : till_line_of (codes "--drawer" ∷ codes "2" ∷ codes "day" ∷ [])
    ≡ Some (record { book = None; is_json = false; is_sure = false; staff = None; drawer = Some 2; act = till.Day drawer.Since })
unfolding clap_on_literals read_of till_line_of
drawer_before = refl

pub drawer_of_no_number : till_line_of (codes "--drawer" ∷ codes "0" ∷ codes "day" ∷ []) ≡ None
unfolding clap_on_literals read_of till_line_of
drawer_of_no_number = refl

pub no_words : till_line_of [] ≡ Some (line till.Prompt)
unfolding clap_on_literals read_of till_line_of
no_words = refl

pub office_of_a_book : till_line_of (codes "--book" ∷ codes "b" ∷ codes "--json" ∷ codes "office" ∷ codes "audit" ∷ codes "--db" ∷ [])
    ≡ Some (record {
      book = Some (codes "b");
      is_json = true;
      is_sure = false;
      staff = None;
      drawer = None;
      act = till.Office (codes "audit" ∷ codes "--db" ∷ []);
    })
unfolding clap_on_literals read_of till_line_of
office_of_a_book = refl

-- ---- the drawer

pub day_alone : till_line_of (codes "day" ∷ []) ≡ Some (line (till.Day drawer.Since))
unfolding clap_on_literals read_of till_line_of
day_alone = refl

pub day_counted : till_line_of (codes "day" ∷ codes "--count" ∷ codes "1412.50" ∷ []) ≡ Some (line (till.Day (drawer.Close 141250)))
unfolding clap_on_literals read_of till_line_of
day_counted = refl

pub day_of_a_date : till_line_of (codes "day" ∷ codes "2026-03-09" ∷ []) ≡ Some (line (till.Day (drawer.Closings (codes "2026-03-09"))))
unfolding clap_on_literals read_of till_line_of
day_of_a_date = refl

pub day_of_both : till_line_of (codes "day" ∷ codes "2026-03-09" ∷ codes "--count" ∷ codes "5" ∷ []) ≡ None
unfolding clap_on_literals read_of till_line_of
day_of_both = refl

-- ---- the day, what is entered once more, and the slip

pub today_is_said : till_line_of (codes "today" ∷ codes "2026-03-09" ∷ []) ≡ Some (line (till.Today (codes "2026-03-09")))
unfolding clap_on_literals read_of till_line_of
today_is_said = refl

pub today_of_no_day : till_line_of (codes "today" ∷ []) ≡ None
unfolding clap_on_literals read_of till_line_of
today_of_no_day = refl

pub again_alone : till_line_of (codes "again" ∷ []) ≡ Some (line (till.Again false))
unfolding clap_on_literals read_of till_line_of
again_alone = refl

pub again_of_another_day : till_line_of (codes "again" ∷ codes "--late" ∷ []) ≡ Some (line (till.Again true))
unfolding clap_on_literals read_of till_line_of
again_of_another_day = refl

pub last_slip : till_line_of (codes "slip" ∷ []) ≡ Some (line till.Slip)
unfolding clap_on_literals read_of till_line_of
last_slip = refl

-- ---- lines of a prompt

pub quoted_blanks : words_of (codes "join IDA \"10 High St\"") ≡ Some (codes "join" ∷ codes "IDA" ∷ codes "10 High St" ∷ [])
unfolding clap_on_literals read_of till_line_of
quoted_blanks = refl

pub open_quote : words_of (codes "join \"IDA") ≡ None
unfolding clap_on_literals read_of till_line_of
open_quote = refl
