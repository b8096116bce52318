use Rattle.std.proofs.Common.{◌≡◌, ◌++◌, List, get_or, sym, ap, ◌∙◌}
use Rattle.std.proofs.lemmas.List.Elements.{Contains-get_or}
use Rattle.crossbeam_queue.specs.Passes.{view}
use Rattle.hp_ring.specs.Bulks.{BulkView, bulks_of}
use Rattle.hp_ring.specs.PassViews.{RingView, SendView, TakeView}
use Rattle.hp_ring.specs.Views.{sender}
use Rattle.hp_ring.proofs.PassLemmas.{rings_are}
use Rattle.hp_ring.proofs.ring.Ring.close.Goals as goal

pub gather-requires-clause-senders : goal.gather-requires-clause-senders
gather-requires-clause-senders g c = rings_are c.args.self c.args.senders.items _ c.requires.senders (sym (ap (λ (r : RingView). r.id) c.self.view_is))

pub returns : goal.returns
returns g c = λ k d below.
    let pass : SendView = get_or c.args.senders.items k d in
    let taken : (view c.gather.new.token).taken ≡ c.args.taker.taken = c.gather.ensures.taken.1 ∙ ap (λ (p : TakeView). p.taken) c.taker.view_is in
    ap (λ (l : List BulkView). bulks_of pass.who (l ++ c.take_all.new.left.items)) (sym taken)
    ∙ c.take_all.ensures (sender pass.who pass.sent) (c.gather.ensures.has pass (Contains-get_or c.args.senders.items k d below))
