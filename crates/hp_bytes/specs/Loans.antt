-- What a store ends as that is lent on. No public clause cites this module.
use Rattle.std.specs.Prelude.{ℕ, List, length, Result}
use Rattle.std.specs.List.{refill}
use Rattle.std.specs.Borrow.{Fml, MutBor, Array, follows, follows_if, name_if_ok, u8 as byte}
use Rattle.hp_bytes.specs.StoreView.{StoreView}
use Rattle.hp_bytes.specs.Written.{written_over}
use Rattle.hp_bytes.specs.declared.fault.ByteFault.{ByteFault}
use Rattle.hp_bytes.specs.declared.loan.Loan.{Loan}
use Rattle.hp_bytes.specs.declared.loan.TwoLoans.{TwoLoans}
use Rattle.hp_bytes.specs.declared.part.Part.{Part}
use Rattle.hp_bytes.specs.contracts.store.Store.{the_row}

-- a store with bytes written over those from an index on
abbrev pub with_part : Part → StoreView → List ℕ → StoreView
with_part part store written = record { base = store.base; bytes = written_over part.from written store.bytes }

-- a store with other bytes, as many as it has
abbrev pub with_all : StoreView → List ℕ → StoreView
with_all store written = record { base = store.base; bytes = refill (length store.bytes) store.bytes written }

-- the store ends as the loan's, and after a refusal as it was
abbrev pub lends_store : MutBor StoreView → Result Loan ByteFault → Fml
lends_store store loan = follows_if the_row the_row store.ghost_name (name_if_ok (λ x. x.store.ghost_name) loan) (λ now. now) store.now

-- the loan's store has what was written through its bytes over them, and all else is as before
abbrev pub lends_bytes : Loan → MutBor (List ℕ) → Fml
lends_bytes loan bytes = follows the_row (Array byte 0) loan.store.ghost_name bytes.ghost_name (with_part loan.part loan.store.now)

-- the store ends as that of the loan of two parts, and after a refusal as it was
abbrev pub lends_stores : MutBor StoreView → Result TwoLoans ByteFault → Fml
lends_stores store loans = follows_if the_row the_row store.ghost_name (name_if_ok (λ x. x.store.ghost_name) loans) (λ now. now) store.now

-- the loans' store has what was written through its bytes, as many as it had
abbrev pub lends_whole : TwoLoans → MutBor (List ℕ) → Fml
lends_whole loans bytes = follows the_row (Array byte 0) loans.store.ghost_name bytes.ghost_name (with_all loans.store.now)
