-- What was printed, one after another.
use Rattle.std.proofs.Common.{◌≡◌, ◌≢◌, ◌<◌, ◌⊎◌, ◌∙◌, ℕ, zero, suc, List, [], ◌++◌, length, Option, Some, None, Result, Ok, Err, refl, sym}
use Rattle.std.proofs.Common.{inl, inr, subst, append-nil, string_bytes, arith}
use Rattle.std.specs.Prelude.{OnOk, OnErr, IfOk}
use Rattle.std.proofs.KnownBytes.{Appends-nil, Appends-trans, Keeps-refl}
use Rattle.std.specs.Io.KnownBytes.{Appends, Keeps}
use Rattle.shop_model.specs.Values.{Text}
use Rattle.till_cashier.specs.declared.fault.TillFault.{TillFault}
use Rattle.till_cashier.specs.declared.said.Said.{Said}
use Rattle.till_cashier.specs.Asked.{Grows}
use Rattle.till_cashier.specs.Faults.{fault_status}
use Rattle.till_cashier.specs.Telling.{IsCutOff, IsFaultLine}
use Rattle.till_program.specs.Lines.{IsGreeting, IsHelp, SaysDone, SaysUsage}
use Rattle.till_program.specs.Performing.{Prints}
use Rattle.till_program.specs.Screens.{Screen, screen, PrintsMore, IsFront, IsPrinted, IsShown, Shows, ShowsSaid, PrintsFault, SaysFaultLine}
use Rattle.till_program.specs.Screens.{SaysNotDone, SaysSomeFault, nothing_text}

pub grows_none : (output : Option (List ℕ)) → Grows output output
grows_none output = ([], Appends-nil output)

pub grows_then : (output between written : Option (List ℕ)) → Grows output between → Grows between written → Grows output written
grows_then output between written one two = (one.0 ++ two.0, Appends-trans output between written one.0 two.0 one.1 two.1)

pub prints_then : (text : Text) (output between written : Option (List ℕ)) → Appends output between text → Grows between written → Prints text output written
prints_then text output between written one two = (two.0, Appends-trans output between written text two.0 one two.1)

-- the bytes were written whole, or a front of them
pub whole_grows : {A E : Type 0} (r : Result A E) (bytes : List ℕ) (output written : Option (List ℕ)) → OnOk r (Appends output written bytes)
    → OnErr r ((front : List ℕ) × (rest : List ℕ) × (bytes ≡ front ++ rest) × (0 < length rest) × Appends output written front) → Grows output written
whole_grows (Ok x) bytes output written ok err = (bytes, ok)
whole_grows (Err e) bytes output written ok err = (err.0, err.4)

-- ---- a text with its status

pub keeps_appends : (a b : Option (List ℕ)) → Keeps a b → Appends a b []
keeps_appends None b keeps = tt
keeps_appends (Some x) None keeps = absurd keeps
keeps_appends (Some x) (Some y) keeps = keeps ∙ sym (append-nil x)

pub keeps_grows : (a b : Option (List ℕ)) → Keeps a b → Grows a b
keeps_grows a b keeps = ([], keeps_appends a b keeps)

front_grows : (bytes : List ℕ) (a b : Option (List ℕ)) → IsFront bytes a b → Grows a b
front_grows bytes a b front = (front.0, front.3)

printed_grows : (text : Text) (wanted status : ℕ) (a b : Option (List ℕ)) → IsPrinted text wanted status a b → Grows a b
printed_grows text wanted status a b (inl whole) = (text, whole.1)
printed_grows text wanted status a b (inr front) = front_grows text a b front.1

suc_not_zero : (n : ℕ) → suc n ≢ 0
suc_not_zero n is = cc

pub shown_more : (text : Text) (wanted status : ℕ) (before after : Screen) → IsShown text wanted status before after → PrintsMore before after
shown_more text zero status before after shown =
    let done = shown.done refl in (printed_grows text 0 status _ _ done.0, keeps_grows _ _ done.1)
shown_more text (suc n) status before after shown =
    let refused = shown.refused (suc_not_zero n) in (keeps_grows _ _ refused.1, printed_grows text (suc n) status _ _ refused.0)

pub shows_more : (Says : Text → ℕ → Type 0) (status : ℕ) (before after : Screen) → Shows Says status before after → PrintsMore before after
shows_more Says status before after shown = shown_more shown.0 shown.1 status before after shown.3

pub more_none : (screen : Screen) → PrintsMore screen screen
more_none it = (grows_none it.output, grows_none it.errors)

pub more_then : (before between after : Screen) → PrintsMore before between → PrintsMore between after → PrintsMore before after
more_then before between after one two = (grows_then _ between.output _ one.0 two.0, grows_then _ between.errors _ one.1 two.1)

-- only standard output, or only standard error, was written
pub output_more : (output written errors : Option (List ℕ)) → Grows output written → PrintsMore (screen output errors) (screen written errors)
output_more output written errors grows = (grows, grows_none errors)

pub errors_more : (output errors written : Option (List ℕ)) → Grows errors written → PrintsMore (screen output errors) (screen output written)
errors_more output errors written grows = (grows_none output, grows)

pub said_more : (r : Result Said TillFault) (status : ℕ) (before after : Screen) → ShowsSaid r status before after → PrintsMore before after
said_more (Ok said) status before after shown = shown_more (string_bytes said.text) said.status status before after shown
said_more (Err fault) status before after shown = shows_more (SaysFaultLine fault) status before after shown

pub shows_weaker : (Says Also : Text → ℕ → Type 0) (status : ℕ) (before after : Screen) → ((text : Text) (wanted : ℕ) → Says text wanted → Also text wanted)
    → Shows Says status before after → Shows Also status before after
shows_weaker Says Also status before after weaker shown = (shown.0, shown.1, weaker shown.0 shown.1 shown.2, shown.3)

three_not_zero : (status : ℕ) → status ≡ 3 → status ≢ 0
three_not_zero status three none = suc_not_zero 2 (sym three ∙ none)

-- with status 0 it was printed whole
printed_zero : (text : Text) (wanted status : ℕ) (a b : Option (List ℕ)) → status ≡ 0 → IsPrinted text wanted status a b
    → (wanted ≡ 0) × Appends a b text
printed_zero text wanted status a b zero_is (inl whole) = (sym whole.0 ∙ zero_is, whole.1)
printed_zero text wanted status a b zero_is (inr front) = absurd (three_not_zero status front.0 zero_is)

-- With status 0 a text is on standard output, and its own status is 0.
pub shown_zero : (text : Text) (wanted status : ℕ) (before after : Screen) → status ≡ 0 → IsShown text wanted status before after
    → (wanted ≡ 0) × Appends before.output after.output text × Keeps before.errors after.errors
shown_zero text zero status before after zero_is shown =
    let done = shown.done refl in (refl, (printed_zero text 0 status _ _ zero_is done.0).1, done.1)
shown_zero text (suc n) status before after zero_is shown =
    absurd (suc_not_zero n (printed_zero text (suc n) status _ _ zero_is (shown.refused (suc_not_zero n)).0).0)

-- a text whose own status isn't 0 is printed with another status than 0
pub shown_not_zero : (text : Text) (wanted status : ℕ) (before after : Screen) → wanted ≢ 0 → IsShown text wanted status before after → status ≢ 0
shown_not_zero text wanted status before after not shown zero_is = not (shown_zero text wanted status before after zero_is shown).0

pub five_not_zero : (status : ℕ) → status ≡ 5 → status ≢ 0
five_not_zero status five none = suc_not_zero 4 (sym five ∙ none)

-- ---- what a word says

-- a fault's line, by a stream that took it or failed
pub fault_whole : (fault : TillFault) (status : ℕ) (line : Text) (before after : Option (List ℕ)) → 0 < status → status ≡ fault_status fault
    → IsFaultLine fault line → Appends before after line → PrintsFault fault status before after
fault_whole fault status line before after fails is says whole = ((λ none. omega (arith, fails, is, none)), (line, says, inl (is, whole)))

pub fault_cut : (fault : TillFault) (status : ℕ) (line : Text) (before after : Option (List ℕ)) → 0 < status → status ≡ fault_status fault
    → IsFaultLine fault line → IsCutOff line before after → PrintsFault fault 3 before after
fault_cut fault status line before after fails is says cut =
    ((λ none. omega (arith, fails, is, none)), (line, says, inr (refl, (cut.0, cut.1, cut.2, cut.4))))

-- a fault that is printed on standard error
pub shows_fault : (fault : TillFault) (status : ℕ) (output before after : Option (List ℕ)) → PrintsFault fault status before after
    → Shows (SaysFaultLine fault) status (screen output before) (screen output after)
shows_fault fault status output before after (fails, (line, is, printed)) =
    (line, fault_status fault, (is, refl), record { done = λ none. absurd (fails none); refused = λ not. (printed, Keeps-refl output) })

pub said_fault : (said : Result Said TillFault) (fault : TillFault) (status : ℕ) (output before after : Option (List ℕ)) → said ≡ Err fault
    → PrintsFault fault status before after → ShowsSaid said status (screen output before) (screen output after)
said_fault said fault status output before after is prints =
    subst (λ (it : Result Said TillFault). ShowsSaid it status (screen output before) (screen output after)) (sym is)
    (shows_fault fault status output before after prints)

pub some_fault : (fault : TillFault) (status : ℕ) (output before after : Option (List ℕ)) → PrintsFault fault status before after
    → Shows SaysSomeFault status (screen output before) (screen output after)
some_fault fault status output before after prints =
    let shown = shows_fault fault status output before after prints in (shown.0, shown.1, (fault, shown.2), shown.3)

pub not_done_fault : (fault : TillFault) (status : ℕ) (output before after : Option (List ℕ)) → PrintsFault fault status before after
    → Shows SaysNotDone status (screen output before) (screen output after)
not_done_fault fault status output before after prints =
    let shown = shows_fault fault status output before after prints in (shown.0, shown.1, inr (fault, shown.2), shown.3)

pub fault_grows : (fault : TillFault) (status : ℕ) (before after : Option (List ℕ)) → PrintsFault fault status before after → Grows before after
fault_grows fault status before after (fails, (line, is, printed)) = printed_grows line (fault_status fault) status before after printed

pub nothing_shown : (status : ℕ) (before after : Screen) → IsShown nothing_text 1 status before after → Shows SaysNotDone status before after
nothing_shown status before after shown = (nothing_text, 1, inl (refl, refl), shown)

-- a word said its line with status 0, or it failed
pub said_done : (r : Result Said TillFault) (Says : Text → Type 0) (status : ℕ) (before after : Screen)
    → IfOk r (λ said. Says (string_bytes said.text) × (said.status ≡ 0)) → ShowsSaid r status before after → Shows (SaysDone Says) status before after
said_done (Ok said) Says status before after says shown = (string_bytes said.text, said.status, inl says, shown)
said_done (Err fault) Says status before after says shown = (shown.0, shown.1, inr (fault, shown.2), shown.3)

-- who is at a window was said, or that failed
pub said_greeting : (r : Result Said TillFault) (status : ℕ) (before after : Screen)
    → IfOk r (λ said. IsGreeting (string_bytes said.text) × (said.status ≡ 0)) → ShowsSaid r status before after
    → Shows (SaysDone (λ it. IsHelp it ⊎ IsGreeting it)) status before after
said_greeting (Ok said) status before after says shown = (string_bytes said.text, said.status, inl (inr says.0, says.1), shown)
said_greeting (Err fault) status before after says shown = (shown.0, shown.1, inr (fault, shown.2), shown.3)

-- how words are given was said, or that failed
pub said_usage : (r : Result Said TillFault) (status : ℕ) (before after : Screen) → IfOk r (λ said. (said.status ≡ 0) ⊎ (said.status ≡ 2))
    → ShowsSaid r status before after → Shows SaysUsage status before after
said_usage (Ok said) status before after says shown = (string_bytes said.text, said.status, inl says, shown)
said_usage (Err fault) status before after says shown = (shown.0, shown.1, inr (fault, shown.2), shown.3)
