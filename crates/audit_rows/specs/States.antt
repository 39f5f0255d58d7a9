-- The states of copies and of lines as they are kept, one for one.
use Rattle.std.specs.Prelude.{◌≡◌, refl}
use Rattle.shop_model.specs.Values as model
use Rattle.shop_model.specs.Books as books
use Rattle.shop_types.specs.Seen.{seen_state, seen_line_state}
use Rattle.shop_types.specs.declared.custody.CopyState.{CopyState}
use Rattle.shop_types.specs.declared.custody.CopyState.TheVariants as state
use Rattle.shop_types.specs.declared.custody.LineState.{LineState}
use Rattle.shop_types.specs.declared.custody.LineState.TheVariants as line

abbrev pub kept_state : model.CopyState → CopyState
kept_state model.Here = state.Here
kept_state model.Sent = state.Sent
kept_state model.Scrapped = state.Scrapped

pub state_again : (it : model.CopyState) → seen_state (kept_state it) ≡ it
state_again model.Here = refl
state_again model.Sent = refl
state_again model.Scrapped = refl

pub state_kept : (it : CopyState) → kept_state (seen_state it) ≡ it
state_kept state.Here = refl
state_kept state.Sent = refl
state_kept state.Scrapped = refl

abbrev pub kept_line_state : books.LineState → LineState
kept_line_state books.UnderWay = line.UnderWay
kept_line_state books.Arrived = line.Arrived
kept_line_state books.Missing = line.Missing

pub line_state_again : (it : books.LineState) → seen_line_state (kept_line_state it) ≡ it
line_state_again books.UnderWay = refl
line_state_again books.Arrived = refl
line_state_again books.Missing = refl

pub line_state_kept : (it : LineState) → kept_line_state (seen_line_state it) ≡ it
line_state_kept line.UnderWay = refl
line_state_kept line.Arrived = refl
line_state_kept line.Missing = refl
