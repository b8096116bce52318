use Rattle.std.proofs.Common.{◌≡◌, ℕ, ◌+◌, ◌++◌, false, refl, sym, ap, ◌∙◌, arith, nat_lt}
use Rattle.hp_base.specs.declared.span.Span.{Span}
use Rattle.hp_base.specs.declared.span.SpanState.{SpanState}
use Rattle.hp_base.specs.declared.span.SpanState.TheVariants.{Busy}
use Rattle.hp_chain.specs.Chain.{AreApart}
use Rattle.hp_chain.specs.Edits.{edited}
use Rattle.hp_elem.specs.Items.{Items, IsAt, Stands}
use Rattle.hp_elem.specs.declared.node.Node.{Node}
use Rattle.hp_heap.specs.Placing.{count_if}
use Rattle.hp_heap.specs.Cut.{rests_of}
use Rattle.hp_heap.specs.Headers.{spans_of}
use Rattle.hp_heap.specs.Cutting.{behind_if, before_if}
use Rattle.hp_heap.specs.PageCutting.{CanTakeOut, bare_cut, insertions_cut}
use Rattle.hp_heap.proofs.AllocFacts.SplitLemmas.{holds_of}
use Rattle.hp_heap.proofs.CutFacts.CutLemmas.{node_at}
use Rattle.hp_heap.proofs.ResizeFacts.TakingLemmas.{held_items, behind_items, before_items, hidden_items, left_spans, may_cut_behind, may_cut_before, may_hide}
use Rattle.hp_heap.proofs.cutting.take_out.Goals as goal

abbrev state : SpanState
state = Busy 0 0 (record { who = 0; zone = false; number = 0 })

can_of : (from to key : ℕ) (items : Items) (node : Node) → AreApart items → IsAt (CanTakeOut from to) key items → Stands items key node → CanTakeOut from to node.span
can_of from to key items node apart at stands =
    holds_of (CanTakeOut from to) key items stands.front (record { key = key; value = node.span }) stands.back apart stands.is refl at

pub overflow_add-range : goal.overflow_add-range
overflow_add-range c =
    omega (arith, (can_of c.args.from c.args.to c.args.key c.args.headers.now.items c.get.result.now c.requires.apart c.requires.free c.get.ensures.stands).end)

pub take-requires : goal.take-requires
take-requires c = record {
  free = record {
    front = c.requires.free.front;
    found = c.requires.free.found;
    back = c.requires.free.back;
    is = c.requires.free.is;
    same = c.requires.free.same;
    holds = c.requires.free.holds.free;
  };
}

pub cut_behind-requires-clause-busy : goal.cut_behind-requires-clause-busy
cut_behind-requires-clause-busy c =
    let r = c.get.result.now.span in
    let stands = c.get.ensures.stands in
    let B = nat_lt c.args.to (r.addr + r.whole) in
    let F = nat_lt r.addr c.args.from in
    let can = can_of c.args.from c.args.to c.args.key c.args.headers.now.items c.get.result.now c.requires.apart c.requires.free stands in
    may_cut_behind r state c.args.from c.args.to c.args.headers.now.insertions c.args.key 0 0 refl can stands.front stands.back B c.take.new.self.items
    (held_items r state c.args.from c.args.to c.args.headers.now.insertions c.args.key 0 0 F B stands.front stands.back
    c.args.headers.now.items c.take.new.self.items (record { key = c.args.key; value = r }) c.requires.apart stands.is refl refl c.take.ensures.items)
    refl

pub cut_before-middle-requires-clause-busy : goal.cut_before-middle-requires-clause-busy
cut_before-middle-requires-clause-busy c =
    let r = c.get.result.now.span in
    let stands = c.get.ensures.stands in
    let n = c.args.headers.now.insertions in
    let B = nat_lt c.args.to (r.addr + r.whole) in
    let F = nat_lt r.addr c.args.from in
    let can = can_of c.args.from c.args.to c.args.key c.args.headers.now.items c.get.result.now c.requires.apart c.requires.free stands in
    may_cut_before r state c.args.from c.args.to n c.args.key c.cut_behind.result 0 refl can stands.front stands.back F B c.cut_behind.new.headers.items
    (behind_items r state c.args.from c.args.to n c.args.key c.cut_behind.result 0 F B stands.front stands.back c.take.new.self.items c.cut_behind.new.headers.items c.take.ensures.apart
    (held_items r state c.args.from c.args.to n c.args.key c.cut_behind.result 0 F B stands.front stands.back
    c.args.headers.now.items c.take.new.self.items (record { key = c.args.key; value = r }) c.requires.apart stands.is refl refl c.take.ensures.items)
    (c.cut_behind.ensures.items ∙ ap (λ (k : ℕ). edited c.args.key (behind_if B c.args.to c.cut_behind.result (k + 1)) c.take.new.self.items) c.take.ensures.insertions))
    refl

pub hide-requires : goal.hide-requires
hide-requires c =
    let r = c.get.result.now.span in
    let stands = c.get.ensures.stands in
    let n = c.args.headers.now.insertions in
    let middle = c.cut_before-middle.result in
    let B = nat_lt c.args.to (r.addr + r.whole) in
    let F = nat_lt r.addr c.args.from in
    let can = can_of c.args.from c.args.to c.args.key c.args.headers.now.items c.get.result.now c.requires.apart c.requires.free stands in
    record {
      busy = may_hide r state c.args.from c.args.to n c.args.key c.cut_behind.result middle refl can stands.front stands.back F B c.cut_before-middle.new.headers.items
          (before_items r state c.args.from c.args.to n c.args.key c.cut_behind.result middle F B stands.front stands.back c.cut_behind.new.headers.items c.cut_before-middle.new.headers.items c.cut_behind.ensures.apart
          (behind_items r state c.args.from c.args.to n c.args.key c.cut_behind.result middle F B stands.front stands.back c.take.new.self.items c.cut_behind.new.headers.items c.take.ensures.apart
          (held_items r state c.args.from c.args.to n c.args.key c.cut_behind.result middle F B stands.front stands.back
          c.args.headers.now.items c.take.new.self.items (record { key = c.args.key; value = r }) c.requires.apart stands.is refl refl c.take.ensures.items)
          (c.cut_behind.ensures.items ∙ ap (λ (k : ℕ). edited c.args.key (behind_if B c.args.to c.cut_behind.result (k + 1)) c.take.new.self.items) c.take.ensures.insertions))
          (c.cut_before-middle.ensures.items
          ∙ ap (λ (k : ℕ). edited c.args.key (before_if F c.args.from middle (k + 1)) c.cut_behind.new.headers.items)
          (c.cut_behind.ensures.insertions ∙ ap (λ (k : ℕ). k + count_if B) c.take.ensures.insertions))
          c.cut_before-middle.ensures.key);
    }

pub returns-clause-ranges : goal.returns-clause-ranges
returns-clause-ranges c = λ front back e is same.
    let r = c.get.result.now.span in
    let n = c.args.headers.now.insertions in
    let middle = c.cut_before-middle.result in
    let B = nat_lt c.args.to (r.addr + r.whole) in
    let F = nat_lt r.addr c.args.from in
    let one : e.value ≡ r =
    holds_of (λ span. span ≡ r) c.args.key c.args.headers.now.items front e back c.requires.apart is same (node_at c.args.headers.now.items c.args.key c.get.result.now c.get.ensures.stands) in
    left_spans r state c.args.from c.args.to n c.args.key c.cut_behind.result middle F B front back c.hide.new.self.items refl refl
    (hidden_items r state c.args.from c.args.to n c.args.key c.cut_behind.result middle F B front back c.cut_before-middle.new.headers.items c.hide.new.self.items c.cut_before-middle.ensures.apart
    (before_items r state c.args.from c.args.to n c.args.key c.cut_behind.result middle F B front back c.cut_behind.new.headers.items c.cut_before-middle.new.headers.items c.cut_behind.ensures.apart
    (behind_items r state c.args.from c.args.to n c.args.key c.cut_behind.result middle F B front back c.take.new.self.items c.cut_behind.new.headers.items c.take.ensures.apart
    (held_items r state c.args.from c.args.to n c.args.key c.cut_behind.result middle F B front back
    c.args.headers.now.items c.take.new.self.items e c.requires.apart is same one c.take.ensures.items)
    (c.cut_behind.ensures.items ∙ ap (λ (k : ℕ). edited c.args.key (behind_if B c.args.to c.cut_behind.result (k + 1)) c.take.new.self.items) c.take.ensures.insertions))
    (c.cut_before-middle.ensures.items
    ∙ ap (λ (k : ℕ). edited c.args.key (before_if F c.args.from middle (k + 1)) c.cut_behind.new.headers.items)
    (c.cut_behind.ensures.insertions ∙ ap (λ (k : ℕ). k + count_if B) c.take.ensures.insertions))
    c.cut_before-middle.ensures.key)
    c.hide.ensures.items)
    ∙ ap (λ (s : Span). spans_of front ++ (rests_of (bare_cut s c.args.from c.args.to) n ++ spans_of back)) (sym one)

pub returns-clause-insertions : goal.returns-clause-insertions
returns-clause-insertions c = λ front back e is same.
    let r = c.get.result.now.span in
    let one : e.value ≡ r =
    holds_of (λ span. span ≡ r) c.args.key c.args.headers.now.items front e back c.requires.apart is same (node_at c.args.headers.now.items c.args.key c.get.result.now c.get.ensures.stands) in
    c.hide.ensures.insertions ∙ c.cut_before-middle.ensures.insertions
    ∙ ap (λ (k : ℕ). k + count_if (nat_lt r.addr c.args.from)) (c.cut_behind.ensures.insertions ∙ ap (λ (k : ℕ). k + count_if (nat_lt c.args.to (r.addr + r.whole))) c.take.ensures.insertions)
    ∙ ap (λ (s : Span). insertions_cut s c.args.from c.args.to c.args.headers.now.insertions) (sym one)
