-- Under one key, two commands have one form exactly where they are one command.
use Rattle.shop_schema.proofs.Common.{◌≡◌, ◌≤◌, ◌/◌, ℕ, ◌==◌, ◌&&◌, ◌||◌, List, [], ◌∷◌, ◌++◌, Bool, true, false, sym, ap, subst, ◌∙◌, arith, bytes_eq}
use Rattle.shop_schema.proofs.Common.{and_parts, if◌then◌else◌, Moment, IsMoment, moment_text, same_moment, digit, days_in_month, is_leap_year, Command}
use Rattle.shop_schema.proofs.Common.{same_act, same_command, same_if, command_same, act_form, command_form, FormsAreOneToOne}
use Rattle.std.proofs.lemmas.List.{append-nil}
use Rattle.shop_schema.proofs.FormLemmas.{number_ends, moment_ends}
use Rattle.shop_schema.proofs.FormValues.{Kind, Number, Values, text_equal, by_test}
use Rattle.shop_schema.proofs.Acts.{act_one}

-- ---- moments and commands that are the same

abbrev moment_kinds : List Kind
moment_kinds = Number ∷ Number ∷ Number ∷ Number ∷ Number ∷ Number ∷ []

abbrev of_moment : Moment → Values moment_kinds
of_moment m = (m.year, (m.month, (m.day, (m.hour, (m.minute, (m.second, tt))))))

abbrev to_moment : Values moment_kinds → Moment
to_moment (year, (month, (day, (hour, (minute, (second, end)))))) =
    record { year = year; month = month; day = day; hour = hour; minute = minute; second = second }

pub moment_equal : (a b : Moment) → same_moment a b ≡ true → a ≡ b
moment_equal a b h = by_test moment_kinds to_moment (of_moment a) (of_moment b) h

pub command_equal : (a b : Command) → same_command a b ≡ true → a ≡ b
command_equal a b h =
    let act = and_parts (bytes_eq a.key b.key && a.staff == b.staff && same_moment a.moment b.moment) (same_act a.act b.act) h in
    let moment = and_parts (bytes_eq a.key b.key && a.staff == b.staff) (same_moment a.moment b.moment) act.0 in
    let staff = and_parts (bytes_eq a.key b.key) (a.staff == b.staff) moment.0 in
    λ i. record {
      key = text_equal a.key b.key staff.0 i;
      staff = same_if a.staff b.staff staff.1 i;
      moment = moment_equal a.moment b.moment moment.1 i;
      act = (act_one a.act b.act).1 act.1 i;
    }

pub alone : (xs ys : List ℕ) → xs ++ [] ≡ ys ++ [] → xs ≡ ys
alone xs ys h = sym (append-nil xs) ∙ h ∙ append-nil ys

-- ---- a moment's text shows its parts

four_digits : (a b : ℕ) → a ≤ 9999 → b ≤ 9999 → digit (a / 1000) ≡ digit (b / 1000)
    → digit (a / 100) ≡ digit (b / 100) → digit (a / 10) ≡ digit (b / 10) → digit a ≡ digit b → a ≡ b
four_digits a b p q thousands hundreds tens ones = omega (arith, p, q, thousands, hundreds, tens, ones)

two_digits : (a b : ℕ) → a ≤ 99 → b ≤ 99 → digit (a / 10) ≡ digit (b / 10) → digit a ≡ digit b → a ≡ b
two_digits a b p q tens ones = omega (arith, p, q, tens, ones)

month_short : (year month day : ℕ) → day ≤ days_in_month year month → day ≤ 99
month_short year month day h = go (month == 2) (is_leap_year year) ((month == 4) || (month == 6) || (month == 9) || (month == 11)) h
  where
    go : (second leap short : Bool) → day ≤ (if second then (if leap then 29 else 28) else (if short then 30 else 31)) → day ≤ 99
    go true true short d = omega (arith, d)
    go true false short d = omega (arith, d)
    go false leap true d = omega (arith, d)
    go false leap false d = omega (arith, d)

pub one_moment : (a b : Moment) → IsMoment a → IsMoment b → moment_text a ≡ moment_text b → a ≡ b
one_moment a b p q h =
    let year : a.year ≡ b.year = four_digits a.year b.year p.year_high q.year_high (cc) (cc) (cc) (cc) in
    let month : a.month ≡ b.month = two_digits a.month b.month (omega (arith, p.month_high)) (omega (arith, q.month_high)) (cc) (cc) in
    let day : a.day ≡ b.day = two_digits a.day b.day (month_short a.year a.month a.day p.day_high) (month_short b.year b.month b.day q.day_high) (cc) (cc) in
    let hour : a.hour ≡ b.hour = two_digits a.hour b.hour (omega (arith, p.hour)) (omega (arith, q.hour)) (cc) (cc) in
    let minute : a.minute ≡ b.minute = two_digits a.minute b.minute (omega (arith, p.minute)) (omega (arith, q.minute)) (cc) (cc) in
    let second : a.second ≡ b.second = two_digits a.second b.second (omega (arith, p.second)) (omega (arith, q.second)) (cc) (cc) in
    (λ i. record { year = year i; month = month i; day = day i; hour = hour i; minute = minute i; second = second i })

pub forms_are_one_to_one : FormsAreOneToOne
forms_are_one_to_one a b p q key = (
  λ h.
      let staff = number_ends a.staff b.staff _ _ h in
      let moment = moment_ends a.moment b.moment _ _ staff.1 in
      let act = (act_one a.act b.act).0 (alone (act_form a.act) (act_form b.act) moment.1) in
      let same : a ≡ b = λ i. record { key = key i; staff = staff.0 i; moment = one_moment a.moment b.moment p q moment.0 i; act = act i } in
      subst (λ (c : Command). same_command a c ≡ true) same (command_same a),
  λ h. ap command_form (command_equal a b h),
)
