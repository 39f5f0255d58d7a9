-- What a desk's reply says of the words of a frame.
use Rattle.std.proofs.Common.{◌≡◌, ◌⊎◌, ℕ, List, Vec, Global, Option, inl, inr}
use Rattle.std.specs.Prelude.{Result, Ok, Err, IfOk}
use Rattle.shop_model.specs.Values.{Text}
use Rattle.till_program.specs.declared.opening.OpenBook.{OpenBook}
use Rattle.till_program.specs.Frames.{frame, reply}
use Rattle.till_program.specs.Serving.{DoesFrame, Handles, IsDeskRefusal, IsReplyOf, RepliesTo}

-- the text of a reply is one
pub reply_of : {E : Type 0} (r : Result (Vec ℕ Global) E) (status : ℕ) (out err : List ℕ) (Has : ℕ → List ℕ → List ℕ → Type 0)
    → IfOk r (λ text. text.items ≡ reply status out err) → Has status out err → IfOk r (λ text. IsReplyOf text.items Has)
reply_of (Ok text) status out err Has is has = (status, out, err, is, has)
reply_of (Err e) status out err Has is has = tt

module _ (name : Text) (secret bytes : List ℕ) (held now : Option OpenBook) where
  pub frame_handled : (line file : List ℕ) → bytes ≡ frame secret line file
      → (now ≡ held) ⊎ ((status : ℕ) × (out err : List ℕ) × DoesFrame name line file status out err held now) → Handles name secret bytes held now
  frame_handled line file found (inl same) = inl same
  frame_handled line file found (inr done) = inr (line, file, found, done)

  pub frame_replied : (line file text : List ℕ) → bytes ≡ frame secret line file
      → IsReplyOf text (λ status out err. DoesFrame name line file status out err held now) → IsReplyOf text (RepliesTo name secret bytes held now)
  frame_replied line file text found is = (is.0, is.1, is.2, is.3, inl (line, file, found, is.4))

  pub refusal_replied : (text : List ℕ) → IsReplyOf text IsDeskRefusal → IsReplyOf text (RepliesTo name secret bytes held now)
  refusal_replied text is = (is.0, is.1, is.2, is.3, inr is.4)
