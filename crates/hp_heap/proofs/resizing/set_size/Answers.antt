use Rattle.std.proofs.Common.{sym, ap, refl, ◌∙◌}
use Rattle.std.proofs.lemmas.Bool.{false≢true}
use Rattle.hp_heap.specs.PlainHeap.{is_free_state}
use Rattle.hp_heap.specs.Headers.{IsBusy}
use Rattle.hp_heap.proofs.AllocFacts.SplitLemmas.{holds_of}
use Rattle.hp_heap.proofs.FreeFacts.JoiningLemmas.{own_of}
use Rattle.hp_heap.proofs.ResizeFacts.InPlaceLemmas.{set_is}
use Rattle.hp_heap.proofs.resizing.set_size.Goals as goal

pub returns-in-Busy-clause-items : goal.returns-in-Busy-clause-items
returns-in-Busy-clause-items c =
    c.set_busy.ensures.items ∙ set_is c.args.key c.args.size c.in-Busy.pad c.in-Busy.size c.in-Busy.tag c.args.headers.now.items c.get.result.now c.requires.apart c.get.ensures.stands c.in-Busy.is

pub returns-in_default-clause-items : goal.returns-in_default-clause-items
returns-in_default-clause-items c =
    let stands = c.get.ensures.stands in
    absurd (false≢true (sym (holds_of IsBusy c.args.key c.args.headers.now.items stands.front (own_of c.args.key c.get.result.now) stands.back c.requires.apart stands.is refl c.requires.busy) ∙ ap is_free_state c.in_default.is))
