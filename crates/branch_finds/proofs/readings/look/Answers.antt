use Rattle.shop_schema.proofs.Common.{refl, within_none, false≢true, sym}
use Rattle.branch_finds.proofs.Telling.{told_fails, told_look}
use Rattle.branch_finds.proofs.readings.look.Goals as goal

pub returns-in-Customer-clause-looks : goal.returns-in-Customer-clause-looks
returns-in-Customer-clause-looks g c =
    rw c.in-Customer.is (told_look c.look_customer.result c.told.ensures c.look_customer.ensures.does c.look_customer.ensures.decided)

pub returns-in-Film-clause-looks : goal.returns-in-Film-clause-looks
returns-in-Film-clause-looks g c = rw c.in-Film.is (told_look c.look_film.result c.told-in-Film.ensures c.look_film.ensures.does c.look_film.ensures.decided)

pub returns-in-InStock-clause-looks : goal.returns-in-InStock-clause-looks
returns-in-InStock-clause-looks g c =
    rw c.in-InStock.is (told_look c.look_in_stock.result c.told-in-InStock.ensures c.look_in_stock.ensures.does c.look_in_stock.ensures.decided)

pub returns-in-HeldBy-clause-looks : goal.returns-in-HeldBy-clause-looks
returns-in-HeldBy-clause-looks g c =
    rw c.in-HeldBy.is (told_look c.look_holder.result c.told-in-HeldBy.ensures c.look_holder.ensures.does c.look_holder.ensures.decided)

pub returns-in-FilmInStock-clause-looks : goal.returns-in-FilmInStock-clause-looks
returns-in-FilmInStock-clause-looks g c =
    rw c.in-FilmInStock.is
    (told_look c.look_film_copies.result c.told-in-FilmInStock.ensures c.look_film_copies.ensures.does c.look_film_copies.ensures.decided)

pub returns-in-FilmNotInStock-clause-looks : goal.returns-in-FilmNotInStock-clause-looks
returns-in-FilmNotInStock-clause-looks g c =
    rw c.in-FilmNotInStock.is
    (told_look c.look_film_copies-in-FilmNotInStock.result c.told-in-FilmNotInStock.ensures
    c.look_film_copies-in-FilmNotInStock.ensures.does c.look_film_copies-in-FilmNotInStock.ensures.decided)

pub returns-in-Balance-clause-looks : goal.returns-in-Balance-clause-looks
returns-in-Balance-clause-looks g c =
    rw c.in-Balance.is (told_look c.look_balance.result c.told-in-Balance.ensures c.look_balance.ensures.does c.look_balance.ensures.decided)

pub returns-in-Rewards-clause-looks : goal.returns-in-Rewards-clause-looks
returns-in-Rewards-clause-looks g c =
    rw c.in-Rewards.is (told_look c.look_rewards.result c.told-in-Rewards.ensures c.look_rewards.ensures.does c.look_rewards.ensures.decided)

pub returns-in-Overdue-clause-looks : goal.returns-in-Overdue-clause-looks
returns-in-Overdue-clause-looks g c =
    rw c.in-Overdue.is (record {
      does = record { inside = within_none; says = λ clean books holds held. (holds, refl) };
      decided = tt;
      still = λ row. absurd (false≢true (sym row));
    })

pub returns-in-Arrivals-clause-looks : goal.returns-in-Arrivals-clause-looks
returns-in-Arrivals-clause-looks g c =
    rw c.in-Arrivals.is (record {
      does = record { inside = within_none; says = λ clean books holds held. (holds, refl) };
      decided = tt;
      still = λ row. absurd (false≢true (sym row));
    })

pub returns-in-Sent-clause-looks : goal.returns-in-Sent-clause-looks
returns-in-Sent-clause-looks g c =
    rw c.in-Sent.is (record {
      does = record { inside = within_none; says = λ clean books holds held. (holds, refl) };
      decided = tt;
      still = λ row. absurd (false≢true (sym row));
    })

pub returns-in-Customer-clause-fails : goal.returns-in-Customer-clause-fails
returns-in-Customer-clause-fails g c =
    rw c.in-Customer.is (λ clean ready holds. told_fails c.look_customer.result _ c.told.ensures (c.look_customer.ensures.fails clean ready holds))

pub returns-in-Film-clause-fails : goal.returns-in-Film-clause-fails
returns-in-Film-clause-fails g c =
    rw c.in-Film.is (λ clean ready holds. told_fails c.look_film.result _ c.told-in-Film.ensures (c.look_film.ensures.fails clean ready holds))

pub returns-in-InStock-clause-fails : goal.returns-in-InStock-clause-fails
returns-in-InStock-clause-fails g c =
    rw c.in-InStock.is (λ clean ready holds. told_fails c.look_in_stock.result _ c.told-in-InStock.ensures (c.look_in_stock.ensures.fails clean ready holds))

pub returns-in-HeldBy-clause-fails : goal.returns-in-HeldBy-clause-fails
returns-in-HeldBy-clause-fails g c =
    rw c.in-HeldBy.is (λ clean ready holds. told_fails c.look_holder.result _ c.told-in-HeldBy.ensures (c.look_holder.ensures.fails clean ready holds))

pub returns-in-FilmInStock-clause-fails : goal.returns-in-FilmInStock-clause-fails
returns-in-FilmInStock-clause-fails g c =
    rw c.in-FilmInStock.is
    (λ clean ready holds. told_fails c.look_film_copies.result _ c.told-in-FilmInStock.ensures (c.look_film_copies.ensures.fails clean ready holds))

pub returns-in-FilmNotInStock-clause-fails : goal.returns-in-FilmNotInStock-clause-fails
returns-in-FilmNotInStock-clause-fails g c =
    rw c.in-FilmNotInStock.is
    (λ clean ready holds. told_fails c.look_film_copies-in-FilmNotInStock.result _ c.told-in-FilmNotInStock.ensures
    (c.look_film_copies-in-FilmNotInStock.ensures.fails clean ready holds))

pub returns-in-Balance-clause-fails : goal.returns-in-Balance-clause-fails
returns-in-Balance-clause-fails g c =
    rw c.in-Balance.is (λ clean ready holds. told_fails c.look_balance.result _ c.told-in-Balance.ensures (c.look_balance.ensures.fails clean ready holds))

pub returns-in-Rewards-clause-fails : goal.returns-in-Rewards-clause-fails
returns-in-Rewards-clause-fails g c =
    rw c.in-Rewards.is (λ clean ready holds. told_fails c.look_rewards.result _ c.told-in-Rewards.ensures (c.look_rewards.ensures.fails clean ready holds))
