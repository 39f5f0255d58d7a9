-- What an audit says of the tables of a chain.
use Rattle.std.specs.Prelude.{◌≡◌, ◌↔◌, Bool, IsTrue}
use Rattle.sqlite.specs.State.{State}
use Rattle.shop_model.specs.Values.{Audit as AuditAsked}
use Rattle.shop_model.specs.Machine.{Shows}
use Rattle.shop_model.specs.Books.{Books}
use Rattle.shop_model.specs.Office.{office_look}
use Rattle.shop_types.specs.declared.audit.Audit.{Audit}
use Rattle.shop_types.specs.Seen.{seen_audit}
use Rattle.shop_schema.specs.Shop.{IsShop, shop_schema}
use Rattle.books_audit.specs.Shops.{AuditsTables}
use Rattle.chain_requests.specs.Chains.{StandsSoundly}

-- the store was open; if its tables are a chain's, the audit is the audit of the tables
pub record AuditsState (s : State) (audit : Audit) : Type 0 where
  pub is_open : IsTrue s.is_open
  pub audits : IsShop s → AuditsTables s.now.trees audit

-- the audit equals head office's reading of the books
abbrev pub IsAuditOfBooks : Audit → Books → Type 0
IsAuditOfBooks audit books = Shows (seen_audit audit) ≡ office_look AuditAsked books

-- the store was open; if its tables are a chain's, `told` says whether they stand for sound books
abbrev pub TellsSoundness : Bool → State → Type 0
TellsSoundness told s = IsTrue s.is_open × (s.now.schema ≡ shop_schema → (IsTrue told ↔ StandsSoundly s.now.trees))
