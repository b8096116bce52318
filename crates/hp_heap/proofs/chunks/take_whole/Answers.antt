use Rattle.std.proofs.Common.{false, sym, ◌∙◌}
use Rattle.hp_heap.specs.Tiling.{in_range}
use Rattle.hp_heap.proofs.QuestionLemmas.{value_none}
use Rattle.std.specs.List.{find}
use Rattle.hp_heap.specs.Headers.{spans_of}
use Rattle.hp_heap.proofs.WholeElement.{none_there, whole_free, held_busy, whole_left}
use Rattle.hp_heap.proofs.chunks.take_whole.Goals as goal

pub take-requires : goal.take-requires
take-requires c = record { free = whole_free c.args.addr c.in-Some.key c.args.headers.now.items (sym c.at.ensures ∙ c.in-Some.is) c.requires.free }

pub hide-requires : goal.hide-requires
hide-requires c = record {
  busy = held_busy c.args.addr c.in-Some.key c.args.headers.now.items (sym c.at.ensures ∙ c.in-Some.is) c.requires.free 0 0 (record { who = 0; zone = false; number = 0 })
      c.take.new.self.items c.requires.of_heap.apart c.take.ensures.items;
}

pub returns-clause-ranges : goal.returns-clause-ranges
returns-clause-ranges c =
    whole_left c.args.addr c.in-Some.key c.args.headers.now.items (sym c.at.ensures ∙ c.in-Some.is) c.requires.free 0 0 (record { who = 0; zone = false; number = 0 })
    c.take.new.self.items c.requires.of_heap.apart c.take.ensures.items c.hide.new.self.items c.take.ensures.apart c.hide.ensures.items c.requires.of_heap.joinable

pub unreachable-requires : goal.unreachable-requires
unreachable-requires c =
    none_there c.args.addr (find (in_range c.args.addr) (spans_of c.args.headers.now.items)) (value_none (in_range c.args.addr) c.args.headers.now.items (sym c.at.ensures ∙ c.in_default.is)) c.requires.free
