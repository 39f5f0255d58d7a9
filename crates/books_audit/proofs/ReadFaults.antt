-- Why an audit's read of a whole table fails: only as the disk meets a fault.
use Rattle.shop_schema.proofs.Common.{◌≡◌, ◌<◌, ℕ, zero, suc, List, [], ◌∷◌, length, map, get_or, arith, Bor, Result, Ok, Err, IfErr, IsErrAnd, sym, ◌∙◌}
use Rattle.shop_schema.proofs.Common.{State, Table, StoreFault, Memory, Failed, IsShop, shop_schema, cols, plain_query}
use Rattle.sql_rows.specs.Fault.{IsToldOf, QueryGave}
use Rattle.sql_rows.specs.Causes.{IsReadyInside, MetFaults}
use Rattle.sql_rows.proofs.QueryFaults.{fine_plain, told_met}
use Rattle.books_audit.specs.Tables.{SelectEach, ReadsWhole, ReadEach}

-- a query of a whole table
pub whole_met : (t : Table) (text : List ℕ) → ReadsWhole t text → (old new : State) → IsShop old → IsReadyInside old
    → (fault : StoreFault) → IsToldOf (QueryGave text [] old new) fault → fault ≡ Failed → MetFaults old new
whole_met t text reads old new has =
    told_met shop_schema text (plain_query t.tree [] (cols 1 1 (length t.columns)) []) []
    (fine_plain t.tree [] (cols 1 1 (length t.columns)) [] reads.means reads.one reads.typed) old new has

-- ---- the texts of some tables

pub select_each : (ts : List Table) (texts : List (List ℕ)) → ReadEach ts texts → SelectEach ts texts
select_each [] [] reads = tt
select_each [] (text ∷ texts) reads = reads
select_each (t ∷ ts) [] reads = reads
select_each (t ∷ ts) (text ∷ texts) reads = (reads.0.means, select_each ts texts reads.1)

pub read_at : (ts : List Table) (texts : List (Bor (List ℕ))) → ReadEach ts (map (λ t. t.now) texts)
    → (i : ℕ) (d : Bor (List ℕ)) → i < length texts → (t : Table) × ReadsWhole t (get_or texts i d).now
read_at [] [] reads i d low = absurd (omega (arith, low))
read_at [] (text ∷ texts) reads i d low = absurd reads
read_at (t ∷ ts) [] reads i d low = absurd reads
read_at (t ∷ ts) (text ∷ texts) reads zero d low = (t, reads.0)
read_at (t ∷ ts) (text ∷ texts) reads (suc i) d low = read_at ts texts reads.1 i d (omega (arith, low))

-- ---- a fault that is passed on

-- as it is
pub passed_on : {Y : Type 0} {P : Type 0} (r : Result Y StoreFault) (e : StoreFault) → (e ≡ Failed → P) → IsErrAnd r (λ y. y ≡ e)
    → IfErr r (λ y. y ≡ Failed → P)
passed_on (Ok y) e met is = absurd is
passed_on (Err y) e met is = λ failed. met (sym is ∙ failed)

-- out of memory is no failure
pub memory_fine : {Y : Type 0} (r : Result Y StoreFault) (P : Type 0) → IsErrAnd r (λ y. y ≡ Memory) → IfErr r (λ y. y ≡ Failed → P)
memory_fine r P is = passed_on r Memory (λ failed. absurd (let other : Memory ≡ Failed = failed in cc)) is
