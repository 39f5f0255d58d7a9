-- What is asked of the drawer: what came since it was closed, to close it, or how it was closed on a day.
use Rattle.std.specs.Prelude.{ℕ, List, Option, Some, None, option_map, codes}
use Rattle.clap.specs.Words.{Row, Text, first_of}
use Rattle.till_words.specs.declared.words.Drawer.{Drawer}
use Rattle.till_words.specs.declared.words.Drawer.TheVariants as drawer
use Rattle.till_words.specs.Texts.{cents_of}
use Rattle.word_tables.specs.Given.{with_value}
use Rattle.till_words.specs.Given.{optional_text_given}

abbrev pub counted_from : Option Text → Option (Option ℕ)
counted_from None = Some None
counted_from (Some text) = option_map Some (cents_of text)

-- the counted cents, which may be left out
abbrev pub counted_given : List Row → Option (Option ℕ)
counted_given rows = counted_from (first_of (codes "count") rows)

-- a date and a sum aren't given both
abbrev pub asked_of : Option Text → Option ℕ → Option Drawer
asked_of None None = Some drawer.Since
asked_of None (Some cents) = Some (drawer.Close cents)
asked_of (Some date) None = Some (drawer.Closings date)
asked_of (Some date) (Some cents) = None

abbrev pub drawer_of : List Row → Option Drawer
drawer_of rows =
    with_value (optional_text_given 10 10 (codes "date") rows) (λ date.
    with_value (counted_given rows) (λ counted.
    asked_of date counted))
