-- What a window prints of what a desk replies.
use Rattle.std.specs.Prelude.{◌≡◌, ◌≢◌, ◌⊎◌, ℕ, List, [], ◌∷◌, ◌++◌, codes, Option}
use Rattle.std.specs.Io.KnownBytes.{Appends, Keeps}
use Rattle.shop_model.specs.Values.{Text}
use Rattle.till_cashier.specs.Asked.{Grows}
use Rattle.till_cashier.specs.Faults.{fault_status}
use Rattle.till_cashier.specs.Telling.{IsFaultLine}
use Rattle.till_program.specs.declared.faults.ShopFault.{ShopFault}
use Rattle.till_program.specs.declared.faults.ShopFault.TheVariants as shop
use Rattle.till_program.specs.Frames.{frame, line, reply}
use Rattle.till_program.specs.Prompting.{RunsTill}
use Rattle.till_program.specs.Screens.{IsFront, IsPrinted, IsShown, Screen, nothing_text, screen}

-- The two texts are printed whole, each on its own stream, and the status is that one. If a stream fails, a front of its text is printed, and the status is 3.
pub record IsRelayed (own : ℕ) (out err : List ℕ) (status : ℕ) (first final : Screen) : Type 0 where
  pub output : IsFront out first.output final.output
  pub errors : IsFront err first.errors final.errors
  pub whole : (status ≡ 3) ⊎ ((status ≡ own) × Appends first.output final.output out × Appends first.errors final.errors err)

-- the bytes are a reply, and its texts are printed, with its status
abbrev pub ShowsReply : List ℕ → ℕ → Screen → Screen → Type 0
ShowsReply text status first final = (own : ℕ) × (out err : List ℕ) × (text ≡ reply own out err) × IsRelayed own out err status first final

-- The desk replied to a frame of some words with the file.
abbrev pub IsReplyTo : (List ℕ → List ℕ → Type 0) → List ℕ → List ℕ → List ℕ → Type 0
IsReplyTo Replies secret file text = (words : List Text) × Replies (frame secret (line words) file) text

-- A desk's reply is printed. Or its reply was a question, and the answer wasn't yes: that is printed with status 1. A question may have been printed before.
abbrev pub RelaysReply : (List ℕ → List ℕ → Type 0) → List ℕ → List ℕ → ℕ → Screen → Screen → Type 0
RelaysReply Replies secret file status first final =
    (text : List ℕ) × IsReplyTo Replies secret file text × ((asked : Option (List ℕ)) × Grows first.output asked
    × (ShowsReply text status (screen asked first.errors) final
    ⊎ (((out err : List ℕ) × (text ≡ reply 5 out err)) × IsShown nothing_text 1 status (screen asked first.errors) final)))

-- The words are done by the till itself: those words, or `help`. Or a desk's reply is printed.
abbrev pub IsDoneAtWindow : (List ℕ → List ℕ → Type 0) → List ℕ → List Text → ℕ → Screen → Screen → Type 0
IsDoneAtWindow Replies secret words status first final =
    (RunsTill words status first final ⊎ RunsTill (codes "help" ∷ []) status first final)
    ⊎ ((file : List ℕ) × RelaysReply Replies secret file status first final)

-- ---- what keeps a window from it

abbrev pub usage_text : Text
usage_text =
    codes "Hold the book for windows: desk --port PORT, at another address with --listen ADDRESS\n"
    ++ codes "Set up a window of a desk: window ADDRESS --staff N, with a drawer of its own by --drawer N, and its secret in a file by --secret-file FILE"

-- what it is, and what to do
abbrev pub shop_text : ShopFault → Text
shop_text (shop.Till fault) = []
shop_text shop.Words = usage_text
shop_text shop.Secret = codes "That is no secret of a desk. It is 32 digits, which the desk says when it begins for the first time."
shop_text shop.Listen = codes "The desk can't listen there. See that the address is this machine's, and that no other program has the port."
shop_text shop.Settings =
    codes "The window's settings are spoilt. Move them away, and set the window up again: window ADDRESS --staff N, with --drawer N if it had a drawer."
shop_text shop.NoDesk = codes "The desk doesn't answer. Nothing was entered: see that it runs, and say the word again."
shop_text shop.NoReply = codes "The desk's answer didn't come. Look with last whether it was entered, before you say it again."
shop_text shop.Long = codes "That is too long to be sent. Say it in fewer words."

abbrev pub IsShopLine : ShopFault → Text → Type 0
IsShopLine (shop.Till fault) text = IsFaultLine fault text
IsShopLine shop.Words text = text ≡ usage_text ++ codes "\n"
IsShopLine shop.Secret text = text ≡ shop_text shop.Secret ++ codes "\n"
IsShopLine shop.Listen text = text ≡ shop_text shop.Listen ++ codes "\n"
IsShopLine shop.Settings text = text ≡ shop_text shop.Settings ++ codes "\n"
IsShopLine shop.NoDesk text = text ≡ shop_text shop.NoDesk ++ codes "\n"
IsShopLine shop.NoReply text = text ≡ shop_text shop.NoReply ++ codes "\n"
IsShopLine shop.Long text = text ≡ shop_text shop.Long ++ codes "\n"

-- 3 for a fault of the desk's or the window's own, and 4 if it isn't known whether the word was done
abbrev pub shop_status : ShopFault → ℕ
shop_status (shop.Till fault) = fault_status fault
shop_status shop.Words = 2
shop_status shop.Secret = 3
shop_status shop.Listen = 3
shop_status shop.Settings = 3
shop_status shop.NoDesk = 3
shop_status shop.NoReply = 4
shop_status shop.Long = 1

-- The fault is printed on standard error, and the status isn't 0.
abbrev pub ShowsShopFault : ShopFault → ℕ → Option (List ℕ) → Option (List ℕ) → Type 0
ShowsShopFault fault status before after = (status ≢ 0) × ((text : Text) × IsShopLine fault text × IsPrinted text (shop_status fault) status before after)

-- The words are done at a window. Or it is printed what keeps the window from it, and a question may have been printed before.
abbrev pub PrintsAtWindow : (List ℕ → List ℕ → Type 0) → List ℕ → List Text → ℕ → Screen → Screen → Type 0
PrintsAtWindow Replies secret words status first final =
    IsDoneAtWindow Replies secret words status first final
    ⊎ ((fault : ShopFault) × Grows first.output final.output × ShowsShopFault fault status first.errors final.errors)
