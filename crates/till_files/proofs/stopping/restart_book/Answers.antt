use Rattle.till_book.specs.Journal.{StandsFor}
use Rattle.till_files.specs.Files.{StandsForEither}
use Rattle.sql_files.proofs.Keeping.{crashed_one}
use Rattle.till_files.proofs.Results.{ok_then}
use Rattle.till_files.proofs.stopping.restart_book.Goals as goal

pub returns-clause-ended : goal.returns-clause-ended
returns-clause-ended g c = ok_then c.open_book.result c.open_book.ensures.opened (λ again it. it.ended)

pub returns-clause-honest : goal.returns-clause-honest
returns-clause-honest g c =
    ok_then c.open_book.result c.open_book.ensures.opened (λ again it clean. c.close_book.ensures.clean (c.crashed.ensures.clean (it.honest clean)))

pub returns-clause-same : goal.returns-clause-same
returns-clause-same g c = ok_then c.open_book.result c.open_book.ensures.opened (λ again it clean journal rests.
    it.again clean journal
    (crashed_one g.D.Disk c.close_book.result c.crashed.result
    (λ db. StandsFor db journal) c.crashed.ensures.left c.crashed.ensures.clean (c.close_book.ensures.keeps journal rests)))

pub returns-clause-either : goal.returns-clause-either
returns-clause-either g c = ok_then c.open_book.result c.open_book.ensures.opened (λ again it clean journal besides leaves.
    it.either clean journal besides
    (crashed_one g.D.Disk c.close_book.result c.crashed.result
    (StandsForEither journal besides) c.crashed.ensures.left c.crashed.ensures.clean (c.close_book.ensures.either journal besides leaves)))
