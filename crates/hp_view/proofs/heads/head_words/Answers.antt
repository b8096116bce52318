use Rattle.std.proofs.Common.{◌∙◌, ap, sym}
use Rattle.std.proofs.lemmas.Result.{IfOk-weaker}
use Rattle.hp_view.specs.Heaps.{head_words}
use Rattle.hp_view.proofs.StepLemmas.{three_texts}
use Rattle.hp_view.proofs.heads.head_words.Goals as goal

pub returns-in_ok-rest-in-Heap : goal.returns-in_ok-rest-in-Heap
returns-in_ok-rest-in-Heap c =
    let front = c.as_bytes.ensures.value ∙ c.in_ok-front-in-Heap.ensures in
    let rest = c.as_bytes-in-Heap-2.ensures.value ∙ c.in_ok-rest-in-Heap.ensures in
    let all = three_texts _ _ _ _ _ _ front c.as_bytes-in-Heap.ensures rest in
    IfOk-weaker c.joined.result _ _ (λ words is. is ∙ (all ∙ ap (head_words c.args.start) (sym c.in-Heap.is))) c.joined.ensures
