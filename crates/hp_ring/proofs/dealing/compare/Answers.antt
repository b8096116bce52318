use Rattle.std.proofs.Common.{◌∷◌, [], ◌++◌, List, ap, ◌∙◌, arith}
use Rattle.std.specs.List.{Contains}
use Rattle.crossbeam_queue.specs.Passes.{view}
use Rattle.hp_ring.specs.declared.view.Sender.{Sender}
use Rattle.hp_ring.specs.declared.view.View.{View}
use Rattle.hp_ring.specs.Views.{sender_of}
use Rattle.hp_ring.proofs.RingSteps.{may_lend, may_join, may_learn}
use Rattle.hp_ring.proofs.dealing.compare.Goals as goal

none_in : (k : Sender) → Contains [] k → ⊥
none_in k has = let inside = has.1 in omega arith

pub another-lent-requires-clause-rule : goal.another-lent-requires-clause-rule
another-lent-requires-clause-rule c = may_lend _ _ (sender_of (view c.args.sender.now)) [] c.requires.sender.1 (λ k has. absurd (none_in k has))

pub absorb-requires-clause-rule : goal.absorb-requires-clause-rule
absorb-requires-clause-rule c = may_join _ _ _ _

pub learn_as-requires-clause-rule : goal.learn_as-requires-clause-rule
learn_as-requires-clause-rule c = may_learn _ _

pub another-back-requires-clause-rule : goal.another-back-requires-clause-rule
another-back-requires-clause-rule c =
    let s : Sender = sender_of (view c.args.sender.now) in
    may_lend _ _ s []
    (ap (λ (v : View). v.senders) (c.learn_as.ensures.queue.1 ∙ c.absorb.ensures.rule) ∙ (ap (λ (v : View). v.senders ++ (view c.args.taker.now).senders) c.another-lent.ensures.rule.1 ∙ ap (λ (hs : List Sender). s ∷ hs) c.requires.taker.1))
    (λ k has. absurd (none_in k has))

pub absorb-requires-2-clause-rule : goal.absorb-requires-2-clause-rule
absorb-requires-2-clause-rule c = may_join _ _ _ _
