-- The end of a line.
use Rattle.shop_types.proofs.Common.{◌≡◌, refl, List, Option, Some, None, true, false, if◌then◌else◌}
use Rattle.clap.specs.Words.{Text}
use Rattle.till_words.specs.PromptLine.{LineSplit, ended}

abbrev finished : LineSplit → Option (List Text)
finished r = if r.quoted then None else Some (ended r).words

pub ends_open : (r s : LineSplit) → r ≡ s → r.quoted ≡ true → None ≡ finished s
ends_open r s is opened = rw (← is, opened) refl

pub ends_closed : (r s : LineSplit) (words : List Text) → r ≡ s → r.quoted ≡ false → words ≡ (ended r).words → Some words ≡ finished s
ends_closed r s words is closed all = rw (← is, closed, all) refl
