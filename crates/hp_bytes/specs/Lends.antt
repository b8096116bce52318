-- What a store ends as, once a loan of it has ended.
use Rattle.std.specs.Prelude.{ℕ, List, length, Result}
use Rattle.std.specs.List.{refill}
use Rattle.std.specs.Borrow.{Fml, MutBor, Array, Lends, LendsIfOk, u8 as byte}
use Rattle.hp_bytes.specs.StoreView.{StoreView}
use Rattle.hp_bytes.specs.Stores.{with_bytes}
use Rattle.hp_bytes.specs.Written.{written_over}
use Rattle.hp_bytes.specs.declared.fault.ByteFault.{ByteFault}
use Rattle.hp_bytes.specs.declared.part.Part.{Part}
use Rattle.hp_bytes.specs.contracts.store.Store.{the_row}

-- it has what was written through the loan over a part of it, and all else is as before
abbrev pub lends_part : Part → MutBor StoreView → MutBor (List ℕ) → Fml
lends_part part store loan = Lends the_row (Array byte 0) store loan
    (λ written. record { base = store.now.base; bytes = written_over part.from written store.now.bytes })

-- it has what was written through the loan over the bytes from an address on, and all else is as before; after a refusal all of it is
abbrev pub lends_data : ℕ → MutBor StoreView → Result (MutBor (List ℕ)) ByteFault → Fml
lends_data addr store loan = LendsIfOk the_row (Array byte 0) store loan (λ written. with_bytes addr written store.now) store.now

-- all of its bytes are what was written through the loan; there are as many as before, and what does not fit is left out
abbrev pub lends_all : MutBor StoreView → MutBor (List ℕ) → Fml
lends_all store loan = Lends the_row (Array byte 0) store loan (λ written. record { base = store.now.base; bytes = refill (length store.now.bytes) store.now.bytes written })
