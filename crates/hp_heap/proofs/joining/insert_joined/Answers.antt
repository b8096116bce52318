use Rattle.std.proofs.Common.{ℕ, ◌+◌, ap, ◌∙◌}
use Rattle.hp_base.specs.declared.span.SpanState.TheVariants.{Free}
use Rattle.hp_elem.specs.Items.{after_set}
use Rattle.hp_heap.proofs.FreeFacts.JoiningLemmas.{can_insert_joined, lowest_at, top_at, inserted_joined}
use Rattle.hp_heap.proofs.joining.insert_joined.Goals as goal

pub join_down-lowest-requires : goal.join_down-lowest-requires
join_down-lowest-requires c = record { can = can_insert_joined c.args.key c.args.headers.now.items c.requires.busy c.requires.apart c.requires.joinable }

pub join_up-requires : goal.join_up-requires
join_up-requires c = record {
  apart = c.join_down-lowest.ensures.apart;
  at = lowest_at c.args.key c.args.headers.now.items c.join_down-lowest.result c.join_down-lowest.new.headers.items
      (can_insert_joined c.args.key c.args.headers.now.items c.requires.busy c.requires.apart c.requires.joinable) c.join_down-lowest.ensures.lowered c.join_down-lowest.ensures.apart;
}

pub insert-requires-clause-busy : goal.insert-requires-clause-busy
insert-requires-clause-busy c =
    top_at c.args.key c.args.headers.now.items c.join_down-lowest.result c.join_down-lowest.new.headers.items
    (can_insert_joined c.args.key c.args.headers.now.items c.requires.busy c.requires.apart c.requires.joinable) c.join_down-lowest.ensures.lowered c.join_down-lowest.ensures.apart
    c.join_up.new.headers.items c.join_up.ensures.items

pub returns-clause-ranges : goal.returns-clause-ranges
returns-clause-ranges c = λ front back e is same.
    inserted_joined c.args.key c.args.headers.now.items c.join_down-lowest.result c.join_down-lowest.new.headers.items
    (can_insert_joined c.args.key c.args.headers.now.items c.requires.busy c.requires.apart c.requires.joinable) c.join_down-lowest.ensures.lowered c.join_down-lowest.ensures.apart
    c.join_up.new.headers.items c.join_up.ensures.items (c.args.headers.now.insertions + 1) c.insert.new.self.items c.join_up.ensures.apart
    (c.insert.ensures.items ∙ ap (λ (n : ℕ). after_set c.join_down-lowest.result (Free (n + 1)) c.join_up.new.headers.items) (c.join_up.ensures.insertions ∙ c.join_down-lowest.ensures.insertions)) front back e is same
