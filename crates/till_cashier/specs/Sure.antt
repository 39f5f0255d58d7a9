-- Words that want an answer before they are entered.
use Rattle.std.specs.Prelude.{◌&&◌, Bool, false, not}
use Rattle.till_words.specs.declared.words.TillAct.{TillAct}
use Rattle.till_words.specs.declared.words.TillAct.TheVariants as act
use Rattle.till_shows.specs.Questions.{is_grave}

-- the word wants an answer before it is entered
abbrev pub wants_yes : TillAct → Bool
wants_yes (act.Do what) = is_grave what
wants_yes (act.ReturnCopy copy) = false
wants_yes (act.Office words) = false
wants_yes act.Send = false
wants_yes (act.Init beginning) = false
wants_yes (act.Import file lot) = false
wants_yes (act.JoinIn who) = false
wants_yes (act.Look look) = false
wants_yes act.Waiting = false
wants_yes (act.Last count) = false
wants_yes act.Help = false
wants_yes (act.Zone name) = false
wants_yes (act.Day asked) = false
wants_yes (act.Today date) = false
wants_yes (act.Again late) = false
wants_yes act.Slip = false
wants_yes act.Prompt = false

-- a word that wants an answer has one
abbrev pub is_answered : Bool → Bool → Bool
is_answered wants is_sure = not (wants && not is_sure)
