use Rattle.std.proofs.Common.{refl}
use Rattle.till_words.proofs.ReadingLemmas.{handed_on}
use Rattle.till_words.proofs.clap_words.line.Goals as goal

pub returns-in_err-staff : goal.returns-in_err-staff
returns-in_err-staff c = handed_on _ _ _ c.from_residual.ensures.1 (λ e. rw (← c.optional_row.ensures, c.in_err-staff.ensures e) refl)

pub returns-in_err-drawer : goal.returns-in_err-drawer
returns-in_err-drawer c =
    handed_on _ _ _ c.from_residual-in_err-drawer.ensures.1
    (λ e. rw (← c.optional_row.ensures, c.in_ok-staff.ensures, ← c.optional_row-2.ensures, c.in_err-drawer.ensures e) refl)

pub returns-in_err-book : goal.returns-in_err-book
returns-in_err-book c =
    handed_on _ _ _ c.from_residual-in_err-book.ensures.1
    (λ e. rw (← c.optional_row.ensures, c.in_ok-staff.ensures, ← c.optional_row-2.ensures, c.in_ok-drawer.ensures, c.in_err-book.ensures e) refl)

pub returns-in_err-act : goal.returns-in_err-act
returns-in_err-act c =
    handed_on _ _ _ c.from_residual-in_err-act.ensures.1
    (λ e.
    rw (
      ← c.optional_row.ensures,
      c.in_ok-staff.ensures,
      ← c.optional_row-2.ensures,
      c.in_ok-drawer.ensures,
      c.in_ok-book.ensures,
      c.in_err-act.ensures e,
    ) refl)

pub returns : goal.returns
returns c =
    rw (
      ← c.optional_row.ensures,
      c.in_ok-staff.ensures,
      ← c.optional_row-2.ensures,
      c.in_ok-drawer.ensures,
      c.in_ok-book.ensures,
      c.in_ok-act.ensures,
      ← c.flag.ensures,
      ← c.flag-2.ensures,
    ) refl
