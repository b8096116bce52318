-- Each message is an ask, or is none for one of five reasons.
use Rattle.std.proofs.Common.{refl, sym}
use Rattle.hp_serve.specs.Coordinating.{IsAskIn, IsNoAsk}
use Rattle.hp_serve.proofs.asking.ask_in.Goals as goal

pub returns-then-from-count-clause-ask : goal.returns-then-from-count-clause-ask
returns-then-from-count-clause-ask c =
    let it = c.in-Alloc in
    IsNoAsk.undeclared_asker it.from it.number it.heap it.socket it.page it.size it.align it.bound it.flags it.is c.if-from-count.true

pub returns-in_default-clause-ask : goal.returns-in_default-clause-ask
returns-in_default-clause-ask c =
    let it = c.in-Alloc in
    IsNoAsk.no_request it.from it.number it.heap it.socket it.page it.size it.align it.bound it.flags c.in_default.field-0 it.is
    (sym c.in_default.ensures.refused)

pub returns-in-Ok-clause-ask : goal.returns-in-Ok-clause-ask
returns-in-Ok-clause-ask c =
    let it = c.in-Alloc in
    IsAskIn.asks
    (record { from = it.from; number = it.number; heap = it.heap; socket = it.socket; page = it.page; request = c.in-Ok.request })
    it.size it.align it.bound it.flags it.is c.if-from-count.false
    (record {
      accepted = sym c.in-Ok.ensures.refused;
      size_is = c.in-Ok.ensures.size;
      align_is = c.in-Ok.ensures.align;
      bound_is = c.in-Ok.ensures.bound;
      flags_are = c.in-Ok.ensures.flags;
    }) refl

pub returns-then-from-count-2-clause-ask : goal.returns-then-from-count-2-clause-ask
returns-then-from-count-2-clause-ask c =
    let it = c.in-Free in
    IsNoAsk.undeclared_giver it.from it.number it.heap it.address it.length it.is c.if-from-count-2.true

pub returns-else-from-count-2-clause-ask : goal.returns-else-from-count-2-clause-ask
returns-else-from-count-2-clause-ask c =
    let it = c.in-Free in
    IsAskIn.frees it.from it.number it.heap it.address it.length it.is c.if-from-count-2.false refl

pub returns-in-Sync-clause-ask : goal.returns-in-Sync-clause-ask
returns-in-Sync-clause-ask c = IsNoAsk.syncs c.in-Sync.generation c.in-Sync.round c.in-Sync.is

pub returns-in-Answer-clause-ask : goal.returns-in-Answer-clause-ask
returns-in-Answer-clause-ask c =
    let it = c.in-Answer in
    IsNoAsk.answers it.from it.number it.what it.code it.is
