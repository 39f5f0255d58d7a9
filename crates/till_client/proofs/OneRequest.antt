-- A connection that is to carry one message carries this message or none.
use Rattle.std.proofs.Common.{◌≡◌, ◌∙◌, inl, inr, ℕ, List, [], ◌∷◌, ◌++◌, length, refl, sym, ap, subst, arith, append-nil}
use Rattle.http_messages.specs.Message.{Message}
use Rattle.http_messages.specs.Input.{HasMessage}
use Rattle.http_messages.proofs.StreamLemmas.{HasMessage-append, HasMessage-unique}
use Rattle.till_client.specs.Laws.{OneMessage}

both_none : (xs ys : List ℕ) → xs ++ ys ≡ [] → (xs ≡ []) × (ys ≡ [])
both_none [] ys e = (refl, e)
both_none (x ∷ xs) ys e = absurd (clash e)
  where
    clash : x ∷ (xs ++ ys) ≡ [] → ⊥
    clash e = cc

pub one_message : OneMessage
one_message request front more rest m [] some has parts reads = inl refl
one_message request front more rest m (n ∷ []) some has parts (after, first, later) =
    let whole : HasMessage request n (after ++ more) =
    subst (λ (l : List ℕ). HasMessage l n (after ++ more)) (sym parts) (HasMessage-append front more n after first) in
    let same = HasMessage-unique request m n [] (after ++ more) has whole in
    let none = both_none after more (sym same.1) in
    inr (ap (λ (it : Message). it ∷ []) (sym same.0), sym (parts ∙ ap (λ (l : List ℕ). front ++ l) none.1 ∙ append-nil front))
one_message request front more rest m (n ∷ (l ∷ ls)) some has parts (after, first, (behind, second, others)) =
    let whole : HasMessage request n (after ++ more) =
    subst (λ (it : List ℕ). HasMessage it n (after ++ more)) (sym parts) (HasMessage-append front more n after first) in
    let same = HasMessage-unique request m n [] (after ++ more) has whole in
    let none = both_none after more (sym same.1) in
    let empty : HasMessage [] l behind = subst (λ (it : List ℕ). HasMessage it l behind) none.0 second in
    let again : HasMessage request l (behind ++ request) = HasMessage-append [] request l behind empty in
    let two = HasMessage-unique request m l [] (behind ++ request) has again in
    let gone = both_none behind request (sym two.1) in
    let short : length request ≡ 0 = ap length gone.1 in
    absurd (omega arith)
