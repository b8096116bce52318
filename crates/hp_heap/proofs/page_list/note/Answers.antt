use Rattle.std.proofs.Common.{◌≡◌, None, [], ◌∷◌, ◌++◌, slice_set, refl, sym, ap, subst, ◌∙◌}
use Rattle.hp_heap.specs.declared.page_list.PageList.{PageList}
use Rattle.hp_heap.specs.PageLists.{list_at, IsPlaceOf, IsNoted}
use Rattle.hp_heap.proofs.CutFacts.PageListLemmas.{noted_set, noted_push}
use Rattle.hp_heap.proofs.page_list.note.Goals as goal

pub returns-in-Some-clause-noted : goal.returns-in-Some-clause-noted
returns-in-Some-clause-noted c =
    let at : IsPlaceOf c.args.lists.now.items c.args.run.now.list c.in-Some.place
    = subst (λ ls. IsPlaceOf ls c.args.run.now.list c.in-Some.place) c.as_slice.ensures.value c.in-Some.ensures.found in
    subst (λ (e : PageList). IsNoted c.args.run.now c.args.lists.now.items (slice_set c.args.lists.now.items c.in-Some.place e)) (sym c.list_of_run-entry.ensures)
    (noted_set c.args.lists.now.items c.args.run.now.list c.in-Some.place at c.args.run.now refl)

pub returns-in-None-clause-noted : goal.returns-in-None-clause-noted
returns-in-None-clause-noted c =
    let none : list_at c.args.run.now.list c.args.lists.now.items ≡ None
    = subst (λ ls. list_at c.args.run.now.list ls ≡ None) c.as_slice.ensures.value c.in-None.ensures.none in
    subst (λ ls. IsNoted c.args.run.now c.args.lists.now.items ls) (sym (c.push_reserved.ensures.items ∙ ap (λ (e : PageList). c.args.lists.now.items ++ e ∷ []) c.list_of_run-entry.ensures))
    (noted_push c.args.lists.now.items c.args.run.now none)
