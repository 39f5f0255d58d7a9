-- What a window prints of a desk's reply.
use Rattle.std.proofs.Common.{◌≡◌, ◌≢◌, ◌<◌, ◌∙◌, ℕ, List, [], ◌∷◌, ◌++◌, Vec, Global, Option, Some, None, refl, inl, inr, subst, sym, arith}
use Rattle.std.specs.Prelude.{Result, Ok, Err, IfOk, IfErr, IfSome, codes}
use Rattle.std.specs.Io.KnownBytes.{Appends}
use Rattle.shop_model.specs.Values.{Text}
use Rattle.till_cashier.specs.declared.fault.TillFault.{TillFault}
use Rattle.till_cashier.specs.Asked.{Grows}
use Rattle.till_cashier.specs.Telling.{IsCutOff, IsFaultLine}
use Rattle.till_program.specs.declared.faults.ShopFault.{ShopFault}
use Rattle.till_program.specs.declared.faults.ShopFault.TheVariants as shop
use Rattle.till_program.specs.Frames.{frame, line, reply}
use Rattle.till_program.specs.Prompting.{RunsTill}
use Rattle.till_program.specs.Screens.{IsShown, Screen, nothing_text, screen}
use Rattle.till_program.specs.Relaying.{IsDoneAtWindow, IsReplyTo, IsShopLine, PrintsAtWindow, RelaysReply, ShowsReply, ShowsShopFault, shop_status, shop_text}

-- what is true of any value is true if there is one
pub some_so : {A P : Type 0} (r : Option A) (x : A) → r ≡ Some x → IfSome r (λ it. P) → P
some_so (Some y) x is p = p
some_so None x is p = absurd cc

module _ (Replies : List ℕ → List ℕ → Type 0) (secret file : List ℕ) where
  -- the desk replied to the frame
  pub replied_to : {E : Type 0} (r : Result (Vec ℕ Global) E) (sent : List ℕ) (words : List Text) → sent ≡ frame secret (line words) file
      → IfOk r (λ text. Replies sent text.items) → IfOk r (λ text. IsReplyTo Replies secret file text.items)
  replied_to (Ok text) sent words is replies = (words, subst (λ (bytes : List ℕ). Replies bytes text.items) is replies)
  replied_to (Err e) sent words is replies = tt

  -- its reply was printed
  pub relays : {E : Type 0} (r : Result ℕ E) (items text : List ℕ) (output asked errors : Option (List ℕ)) (final : Screen) → text ≡ items
      → IsReplyTo Replies secret file items → Grows output asked → IfOk r (λ status. ShowsReply text status (screen asked errors) final)
      → IfOk r (λ status. RelaysReply Replies secret file status (screen output errors) final)
  relays (Ok status) items text output asked errors final same is grows shown =
      (items, is, (asked, grows, inl (subst (λ (t : List ℕ). ShowsReply t status (screen asked errors) final) same shown)))
  relays (Err e) items text output asked errors final same is grows shown = tt

  -- its reply was a question, and the answer to that wasn't yes
  pub leaves : (status : ℕ) (items text : List ℕ) (output asked errors : Option (List ℕ)) (final : Screen) → text ≡ items → IsReplyTo Replies secret file items
      → ((out err : List ℕ) × (text ≡ reply 5 out err)) → Grows output asked → IsShown nothing_text 1 status (screen asked errors) final
      → RelaysReply Replies secret file status (screen output errors) final
  leaves status items text output asked errors final same is question grows shown =
      (items, is, (asked, grows, inr ((question.0, question.1, sym same ∙ question.2), shown)))

module _ (Replies : List ℕ → List ℕ → Type 0) (secret : List ℕ) (words : List Text) where
  -- the words were done by the desk, or by the till itself
  pub at_desk : {E : Type 0} (r : Result ℕ E) (file : List ℕ) (first final : Screen) → IfOk r (λ status. RelaysReply Replies secret file status first final)
      → IfOk r (λ status. IsDoneAtWindow Replies secret words status first final)
  at_desk (Ok status) file first final done = inr (file, done)
  at_desk (Err e) file first final done = tt

  pub by_help : {E : Type 0} (r : Result ℕ E) (first final : Screen) → IfOk r (λ status. RunsTill (codes "help" ∷ []) status first final)
      → IfOk r (λ status. IsDoneAtWindow Replies secret words status first final)
  by_help (Ok status) first final done = inl (inr done)
  by_help (Err e) first final done = tt

  -- what keeps the window from the words was printed
  pub kept_from : (fault : ShopFault) (status : ℕ) (output written errors between after : Option (List ℕ)) → Grows output written → between ≡ errors
      → ShowsShopFault fault status between after → PrintsAtWindow Replies secret words status (screen output errors) (screen written after)
  kept_from fault status output written errors between after grows same shown =
      inr (fault, grows, subst (λ (it : Option (List ℕ)). ShowsShopFault fault status it after) same shown)

-- what failed printed a question at most
pub asked_only : {A E : Type 0} (r : Result A E) (output asked errors : Option (List ℕ)) → Grows output asked
    → IfErr r (λ e. Grows output asked × (errors ≡ errors))
asked_only (Ok x) output asked errors grows = tt
asked_only (Err e) output asked errors grows = (grows, refl)

-- what failed printed nothing
pub silent_asked : {A E : Type 0} (r : Result A E) (output asked errors : Option (List ℕ)) (final : Screen) → Grows output asked
    → IfErr r (λ e. final ≡ screen asked errors) → IfErr r (λ e. Grows output final.output × (final.errors ≡ errors))
silent_asked (Ok x) output asked errors final grows silent = tt
silent_asked (Err e) output asked errors final grows silent =
    subst (λ (it : Screen). Grows output it.output × (it.errors ≡ errors)) (sym silent) (grows, refl)

-- ---- what keeps a window from it

pub till_line : (fault : ShopFault) (it : TillFault) (text : Text) → fault ≡ shop.Till it → IsFaultLine it text → IsShopLine fault text
till_line fault it text is line = subst (λ (f : ShopFault). IsShopLine f text) (sym is) line

pub shop_line : (fault : ShopFault) → ((it : TillFault) → fault ≢ shop.Till it) → IsShopLine fault (shop_text fault ++ codes "\n")
shop_line (shop.Till it) not = absurd (not it refl)
shop_line shop.Words not = refl
shop_line shop.Secret not = refl
shop_line shop.Listen not = refl
shop_line shop.Settings not = refl
shop_line shop.NoDesk not = refl
shop_line shop.NoReply not = refl
shop_line shop.Long not = refl

pub shop_whole : (fault : ShopFault) (status : ℕ) (line : Text) (before after : Option (List ℕ)) → 0 < status → status ≡ shop_status fault
    → IsShopLine fault line → Appends before after line → ShowsShopFault fault status before after
shop_whole fault status line before after fails is says whole = ((λ none. omega (arith, fails, none)), (line, says, inl (is, whole)))

pub shop_cut : (fault : ShopFault) (line : Text) (before after : Option (List ℕ)) → IsShopLine fault line → IsCutOff line before after
    → ShowsShopFault fault 3 before after
shop_cut fault line before after says cut = ((λ none. cc), (line, says, inr (refl, (cut.0, cut.1, cut.2, cut.4))))
