-- What a prompt did, and what it does next.
use Rattle.std.proofs.Common.{◌≡◌, ◌∙◌, ℕ, Bool, false, List, [], ◌∷◌, ◌++◌, map, Option, Some, None, refl, inl, inr, subst, append-nil}
use Rattle.std.specs.Prelude.{Result, Ok, Err, is_ok, IsErr}
use Rattle.std.proofs.iter.Next.{Yields-more}
use Rattle.std.proofs.lemmas.List.{map-append}
use Rattle.shop_model.specs.Values.{Text}
use Rattle.till_program.specs.declared.opening.OpenBook.{OpenBook}
use Rattle.till_program.specs.Screens.{PrintsMore, Screen}
use Rattle.till_program.specs.Lines.{IsNotBegun}
use Rattle.till_program.specs.Prompting.{DoesRead, DoesLines, IsLastLine, text_read, HasDone, PerformsLines, PerformsSome}
use Rattle.till_program.proofs.OutputLaws.{more_none, more_then}

pub not_begun_same : (held : Option OpenBook) → IsNotBegun held held
not_begun_same held = inl refl

pub not_begun_then : (held between now : Option OpenBook) → IsNotBegun held between → IsNotBegun between now → IsNotBegun held now
not_begun_then held between now (inl same) (inl again) = inl (again ∙ same)
not_begun_then held between now (inr none) (inl again) = inr (again ∙ none)
not_begun_then held between now first (inr none) = inr none

pub err_not_ok : {A E : Type 0} (r : Result A E) → IsErr r → is_ok r ≡ false
err_not_ok (Ok x) err = cc
err_not_ok (Err e) err = refl

module _ (before : List Text) where
  -- the lines are the same whatever is printed before them, and if the book is closed before them
  lines_after : (lines : List (Option Text)) (stands next : Option ℕ) (first between final : Screen) (held found now : Option OpenBook)
      → IsNotBegun held found → PrintsMore first between → DoesLines before lines stands next between final found now
      → DoesLines before lines stands next first final held now
  lines_after [] stands next first between final held found now waits prints done =
      (done.0, not_begun_then held found now waits done.1, more_then first between final prints done.2)
  lines_after (line ∷ lines) stands next first between final held found now waits prints done = (
    done.0,
    done.1,
    done.2,
    done.3,
    done.4,
    not_begun_then held found done.1 waits done.5,
    more_then first between done.3 prints done.6,
    done.7,
    done.8,
    done.9,
  )

  -- lines, and more lines after them
  lines_join : (lines more : List (Option Text)) (stands middle next : Option ℕ) (first between final : Screen) (held found now : Option OpenBook)
      → DoesLines before lines stands middle first between held found → DoesLines before more middle next between final found now
      → DoesLines before (lines ++ more) stands next first final held now
  lines_join [] more stands middle next first between final held found now one two =
      lines_after more stands next first between final held found now one.1 one.2
      (subst (λ (who : Option ℕ). DoesLines before more who next between final found now) one.0 two)
  lines_join (line ∷ lines) more stands middle next first between final held found now one two = (
    one.0,
    one.1,
    one.2,
    one.3,
    one.4,
    one.5,
    one.6,
    one.7,
    one.8,
    lines_join lines more one.0 middle next one.4 between final one.2 found now one.9 two,
  )

  -- one line more
  lines_more : (lines : List (Option Text)) (line : Option Text) (stands middle next : Option ℕ)
      (first invited printed final : Screen) (held found after now : Option OpenBook)
      → DoesLines before lines stands middle first invited held found → DoesRead before line middle next invited printed found after
      → PrintsMore invited printed → PrintsMore printed final → IsNotBegun after now
      → DoesLines before (lines ++ line ∷ []) stands next first final held now
  lines_more lines line stands middle next first invited printed final held found after now done read prints invites waits =
      lines_join lines (line ∷ []) stands middle next first invited final held found now done
      (next, found, after, invited, printed, inl refl, more_none invited, read, prints, (refl, waits, invites))

  -- the lines are the same whatever is printed after them
  lines_then : (lines : List (Option Text)) (stands next : Option ℕ) (first between final : Screen) (held now : Option OpenBook)
      → DoesLines before lines stands next first between held now → PrintsMore between final → DoesLines before lines stands next first final held now
  lines_then lines stands next first between final held now done grows =
      subst (λ (all : List (Option Text)). DoesLines before all stands next first final held now) (append-nil lines)
      (lines_join lines [] stands next next first between final held now now done (refl, inl refl, grows))

  pub some_then : (first between final : Screen) → PerformsSome before first between → PrintsMore between final → PerformsSome before first final
  some_then first between final done more = (done.0, done.1, done.2, lines_then done.0 None done.1 first between final None done.2 done.3 more)

  module _ {I A E : Type 0} (gives : I → Option (Result A E) → I → Type 0) (view : A → Text) where
    pub none_done : (lines : I) (first final : Screen) (held now : Option OpenBook) → PrintsMore first final → IsNotBegun held now
        → HasDone gives view before lines lines None first final held now
    none_done lines first final held now grows waits = record { items = []; reads = refl; does = (refl, waits, grows) }

    pub done_then : (lines last : I) (next : Option ℕ) (first between final : Screen) (held now : Option OpenBook)
        → HasDone gives view before lines last next first between held now → PrintsMore between final
        → HasDone gives view before lines last next first final held now
    done_then lines last next first between final held now done grows = record {
      items = done.items;
      reads = done.reads;
      does = lines_then (map (text_read view) done.items) None next first between final held now done.does grows;
    }

    pub one_more : (lines last rest : I) (item : Result A E) (middle next : Option ℕ) (first invited printed final : Screen)
        (held found after now : Option OpenBook)
        → HasDone gives view before lines last middle first invited held found → gives last (Some item) rest
        → DoesRead before (text_read view item) middle next invited printed found after → PrintsMore invited printed → PrintsMore printed final
        → IsNotBegun after now → HasDone gives view before lines rest next first final held now
    one_more lines last rest item middle next first invited printed final held found after now done read does prints invites waits = record {
      items = done.items ++ item ∷ [];
      reads = Yields-more gives lines done.items last item rest done.reads read;
      does = rw (map-append (text_read view) done.items (item ∷ []))
          (lines_more (map (text_read view) done.items) (text_read view item) None middle next first invited printed final held found after now
          done.does does prints invites waits);
    }

    pub last_done : (is_ok : Bool) (lines last rest : I) (item : Result A E) (middle next : Option ℕ) (first invited final : Screen)
        (held found now : Option OpenBook)
        → HasDone gives view before lines last middle first invited held found → gives last (Some item) rest
        → DoesRead before (text_read view item) middle next invited final found now → PrintsMore invited final → IsLastLine (text_read view item)
        → PerformsLines gives view before is_ok lines rest first final held now
    unfolding one_more
    last_done is_ok lines last rest item middle next first invited final held found now done read does prints ends = record {
      last = rest;
      next = next;
      done = one_more lines last rest item middle next first invited final final held found now now done read does prints (more_none final) (inl refl);
      ends = inr (inl (done.items, item, refl, ends, refl));
    }

    pub some_done : (is_ok : Bool) (lines rest : I) (first final : Screen) (now : Option OpenBook)
        → PerformsLines gives view before is_ok lines rest first final None now → PerformsSome before first final
    some_done is_ok lines rest first final now it = (map (text_read view) it.done.items, it.next, now, it.done.does)
