use Rattle.shop_schema.proofs.Common.{◌≡◌, Ok, List, map, drop, ⊤, Table, DoesWithin, StoreFault, IsShop}
use Rattle.books_audit.specs.Tables.{SelectEach}
use Rattle.books_audit.proofs.Told.{SoFar}
use Rattle.books_audit.proofs.tables.read_each.Given as goal

abbrev pub invariant-loop-text : goal.invariant-loop-text
invariant-loop-text g l =
    DoesWithin {X = ⊤} {E = StoreFault} g.S.Store l.fn.tx.conn l.tx.conn (Ok tt)
    (λ _ old now. IsShop old → (ts : List Table) → SelectEach ts (map (λ t. t.now) l.texts)
    → SoFar old.now.trees (map (λ t. t.now) (drop l.text-index l.texts)) (map (λ rows. rows.items) l.all.items) ts × (now.now ≡ old.now))
