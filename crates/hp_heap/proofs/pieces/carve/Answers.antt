use Rattle.std.proofs.Common.{◌≡◌, ℕ, ◌+◌, ◌-◌, ◌++◌, sym, ap, ◌∙◌}
use Rattle.hp_base.specs.declared.span.Span.{Span}
use Rattle.hp_base.specs.declared.span.SpanState.TheVariants.{Busy}
use Rattle.hp_chain.specs.Edits.{edited}
use Rattle.hp_elem.specs.Items.{after_set}
use Rattle.hp_heap.specs.Placing.{pieces_of, count_if}
use Rattle.hp_heap.specs.Headers.{spans_of}
use Rattle.hp_heap.specs.Cutting.{behind_if, before_if}
use Rattle.hp_heap.proofs.AllocFacts.SplitLemmas.{holds_of}
use Rattle.hp_heap.proofs.CutFacts.CutLemmas.{carving_of, node_at, carved_items, carved_insertions, may_cut_behind, may_cut_before}
use Rattle.hp_heap.proofs.pieces.carve.Goals as goal

pub has_rest_before-before-requires : goal.has_rest_before-before-requires
has_rest_before-before-requires c =
    (carving_of c.args.headers.now.items c.args.key c.get.result.now c.args.address c.args.size c.requires.apart c.requires.free c.get.ensures.stands).within.before

pub has_rest_behind-behind-requires : goal.has_rest_behind-behind-requires
has_rest_behind-behind-requires c =
    (carving_of c.args.headers.now.items c.args.key c.get.result.now c.args.address c.args.size c.requires.apart c.requires.free c.get.ensures.stands).within

pub busy_start-requires : goal.busy_start-requires
busy_start-requires c =
    (carving_of c.args.headers.now.items c.args.key c.get.result.now c.args.address c.args.size c.requires.apart c.requires.free c.get.ensures.stands).within.before

pub cut_behind-requires-clause-busy : goal.cut_behind-requires-clause-busy
cut_behind-requires-clause-busy c =
    may_cut_behind c.get.result.now.span c.args.address c.args.size c.args.headers.now.insertions c.args.key 0 0 c.args.tag
    (carving_of c.args.headers.now.items c.args.key c.get.result.now c.args.address c.args.size c.requires.apart c.requires.free c.get.ensures.stands)
    c.has_rest_before-before.result c.has_rest_behind-behind.result c.args.headers.now.items c.take.new.self.items c.requires.apart (node_at c.args.headers.now.items c.args.key c.get.result.now c.get.ensures.stands)
    (c.take.ensures.items ∙ ap (λ (s : ℕ). after_set c.args.key (Busy (c.args.address - 128 - s) c.args.size c.args.tag) c.args.headers.now.items) c.busy_start.ensures.start)
    c.has_rest_behind-behind.ensures

pub cut_before-requires-clause-busy : goal.cut_before-requires-clause-busy
cut_before-requires-clause-busy c =
    may_cut_before c.get.result.now.span c.args.address c.args.size c.args.headers.now.insertions c.args.key c.cut_behind.result 0 c.args.tag
    (carving_of c.args.headers.now.items c.args.key c.get.result.now c.args.address c.args.size c.requires.apart c.requires.free c.get.ensures.stands)
    c.has_rest_before-before.result c.has_rest_behind-behind.result c.args.headers.now.items c.take.new.self.items c.cut_behind.new.headers.items
    c.requires.apart c.take.ensures.apart (node_at c.args.headers.now.items c.args.key c.get.result.now c.get.ensures.stands)
    (c.take.ensures.items ∙ ap (λ (s : ℕ). after_set c.args.key (Busy (c.args.address - 128 - s) c.args.size c.args.tag) c.args.headers.now.items) c.busy_start.ensures.start)
    (c.cut_behind.ensures.items ∙ ap (λ (n : ℕ). edited c.args.key (behind_if c.has_rest_behind-behind.result (c.args.address + c.args.size) c.cut_behind.result (n + 1)) c.take.new.self.items) c.take.ensures.insertions)
    c.has_rest_before-before.ensures

pub returns-clause-items : goal.returns-clause-items
returns-clause-items c = λ front back e is same.
    let one : e.value ≡ c.get.result.now.span =
    holds_of (λ span. span ≡ c.get.result.now.span) c.args.key c.args.headers.now.items front e back c.requires.apart is same (node_at c.args.headers.now.items c.args.key c.get.result.now c.get.ensures.stands) in
    carved_items c.get.result.now.span c.args.address c.args.size c.args.headers.now.insertions c.args.key c.cut_behind.result c.cut_before.result c.args.tag
    (carving_of c.args.headers.now.items c.args.key c.get.result.now c.args.address c.args.size c.requires.apart c.requires.free c.get.ensures.stands)
    c.has_rest_before-before.result c.has_rest_behind-behind.result c.args.headers.now.items c.take.new.self.items c.cut_behind.new.headers.items c.cut_before.new.headers.items front back e
    c.requires.apart c.take.ensures.apart c.cut_behind.ensures.apart is same one
    (c.take.ensures.items ∙ ap (λ (s : ℕ). after_set c.args.key (Busy (c.args.address - 128 - s) c.args.size c.args.tag) c.args.headers.now.items) c.busy_start.ensures.start)
    (c.cut_behind.ensures.items ∙ ap (λ (n : ℕ). edited c.args.key (behind_if c.has_rest_behind-behind.result (c.args.address + c.args.size) c.cut_behind.result (n + 1)) c.take.new.self.items) c.take.ensures.insertions)
    (c.cut_before.ensures.items
    ∙ ap (λ (n : ℕ). edited c.args.key (before_if c.has_rest_before-before.result (c.args.address - 128) c.cut_before.result (n + 1)) c.cut_behind.new.headers.items)
    (c.cut_behind.ensures.insertions ∙ ap (λ (n : ℕ). n + count_if c.has_rest_behind-behind.result) c.take.ensures.insertions))
    c.has_rest_before-before.ensures c.has_rest_behind-behind.ensures
    ∙ ap (λ (s : Span). spans_of front ++ (pieces_of s c.args.address c.args.size c.args.tag c.args.headers.now.insertions ++ spans_of back)) (sym one)

pub returns-clause-insertions : goal.returns-clause-insertions
returns-clause-insertions c = λ front back e is same.
    carved_insertions c.has_rest_before-before.result c.has_rest_behind-behind.result e.value c.get.result.now.span c.args.address c.args.size c.args.headers.now.insertions
    c.take.new.self.insertions c.cut_behind.new.headers.insertions c.cut_before.new.headers.insertions
    (holds_of (λ span. span ≡ c.get.result.now.span) c.args.key c.args.headers.now.items front e back c.requires.apart is same (node_at c.args.headers.now.items c.args.key c.get.result.now c.get.ensures.stands))
    c.take.ensures.insertions c.cut_behind.ensures.insertions c.cut_before.ensures.insertions c.has_rest_before-before.ensures c.has_rest_behind-behind.ensures
