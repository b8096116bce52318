use Rattle.std.proofs.Common.{◌≡◌, ℕ, true, Option, is_some, refl, sym, subst, arith}
use Rattle.std.proofs.lemmas.Bool.{false≢true}
use Rattle.hp_heap.proofs.SpanLemmas.{space_at}
use Rattle.hp_heap.proofs.AllocFacts.ChosenLemmas.{found_of, found_node}
use Rattle.hp_heap.proofs.alloc.allocate.Goals as goal

pub overflow_add-range : goal.overflow_add-range
overflow_add-range c = omega (arith, (space_at c.args.headers.now.items c.in_ok-key.key c.get.result.now c.get.ensures.stands c.requires.room).end)

pub place-requires : goal.place-requires
place-requires c = omega (arith, (space_at c.args.headers.now.items c.in_ok-key.key c.get.result.now c.get.ensures.stands c.requires.room).some)

pub returns-in_err-address-clause-allocated : goal.returns-in_err-address-clause-allocated
returns-in_err-address-clause-allocated c =
    let found = found_of c.args.chunks.now c.args.need c.args.headers.now.items c.in_ok-key.key c.in_ok-key.ensures in
    let node = found_node c.args.need.request c.args.headers.now.items c.in_ok-key.key c.get.result.now c.requires.apart found c.get.ensures.stands in
    absurd (false≢true (subst (λ (o : Option ℕ). is_some o ≡ true) (sym c.in_err-address.ensures.number) node.place))

pub carve-requires-clause-free : goal.carve-requires-clause-free
carve-requires-clause-free c =
    let found = found_of c.args.chunks.now c.args.need c.args.headers.now.items c.in_ok-key.key c.in_ok-key.ensures in
    let node = found_node c.args.need.request c.args.headers.now.items c.in_ok-key.key c.get.result.now c.requires.apart found c.get.ensures.stands in
    record {
      front = c.get.ensures.stands.front;
      found = record { key = c.in_ok-key.key; value = c.get.result.now.span };
      back = c.get.ensures.stands.back;
      is = c.get.ensures.stands.is;
      same = refl;
      holds = record {
        free = node.free;
        some = c.args.need.request.accepted.some;
        within = record {
          before = c.in_ok-address.ensures.place.room.behind;
          behind = c.in_ok-address.ensures.place.room.before;
          end = (space_at c.args.headers.now.items c.in_ok-key.key c.get.result.now c.get.ensures.stands c.requires.room).end;
        };
      };
    }

pub returns-clause-allocated : goal.returns-clause-allocated
returns-clause-allocated c = record {
  key = c.in_ok-key.key;
  choice = c.in_ok-key.ensures;
  cut = record {
    front = c.get.ensures.stands.front;
    found = record { key = c.in_ok-key.key; value = c.get.result.now.span };
    back = c.get.ensures.stands.back;
    is = c.get.ensures.stands.is;
    same = refl;
    spans = c.carve.ensures.items c.get.ensures.stands.front c.get.ensures.stands.back (record { key = c.in_ok-key.key; value = c.get.result.now.span }) c.get.ensures.stands.is refl;
    insertions = c.carve.ensures.insertions c.get.ensures.stands.front c.get.ensures.stands.back (record { key = c.in_ok-key.key; value = c.get.result.now.span }) c.get.ensures.stands.is refl;
  };
  place = sym c.in_ok-address.ensures.number;
}
