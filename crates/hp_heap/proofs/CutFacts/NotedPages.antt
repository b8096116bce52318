-- The pages of a heap lie on the segment lists that it has noted.
use Rattle.std.proofs.Common.{◌≡◌, ℕ, ◌+◌, ◌-◌, ◌*◌, ◌<◌, ◌≤◌, ◌++◌, List, Option, IsSomeAnd, refl, sym, ap, subst, ◌∙◌, inl, inr, arith, Contains}
use Rattle.std.proofs.Math.Nat.{add-mul}
use Rattle.std.proofs.lemmas.Bool.{eqb-true, eqb-false, cases_Bool}
use Rattle.std.proofs.lemmas.List.Elements.{Contains-append_cases}
use Rattle.hp_base.specs.declared.row.Run.{Run}
use Rattle.hp_heap.specs.declared.page_list.PageList.{PageList}
use Rattle.hp_heap.specs.PlainHeap.{PlainHeap, HeapPage}
use Rattle.hp_heap.specs.Growing.{run_page, run_pages, after_grow, CanGrow, IsAlike}
use Rattle.hp_heap.specs.PageLists.{list_at, list_of_run, IsNoted, LiesOn, AreNoted}
use Rattle.hp_heap.proofs.AllocFacts.ChoiceLaw.{AllByRecursion-contains}
use Rattle.hp_heap.proofs.Members.{AllByRecursion-each}
use Rattle.hp_heap.proofs.CutFacts.RunPages.{of_run}

module _ (heap : PlainHeap) (run : Run) (can : CanGrow run heap) (old new : List PageList) (noted : IsNoted run old new) where
  -- a page of the run's list lies on what was noted of it
  old_page : (page : HeapPage) → IsAlike run page → LiesOn page (list_of_run run)
  old_page page alike = record {
    size = alike.size;
    socket = alike.socket;
    place = omega (arith, alike.base, can.base);
  }

  new_page : (i : ℕ) → LiesOn (run_page run i) (list_of_run run)
  new_page i = record {
    size = refl;
    socket = refl;
    place = omega (arith, can.base, add-mul run.first i run.page);
  }

  on_own : (page : HeapPage) → page.list ≡ run.list → LiesOn page (list_of_run run) → IsSomeAnd (list_at page.list new) (LiesOn page)
  on_own page own lies = subst (λ (o : Option PageList). IsSomeAnd o (LiesOn page)) (sym (ap (λ (l : ℕ). list_at l new) own ∙ noted.own)) lies

  kept_page : (page : HeapPage) → Contains heap.pages page → IsSomeAnd (list_at page.list old) (LiesOn page) → IsSomeAnd (list_at page.list new) (LiesOn page)
  kept_page page has lies = elim (cases_Bool (Rattle.std.proofs.Common.nat_eq page.list run.list)) [
    | inl same ↦
        let own : page.list ≡ run.list = eqb-true page.list run.list same in
        on_own page own (old_page page (AllByRecursion-contains (λ g. g.list ≡ run.list → IsAlike run g) heap.pages page can.alike has own))
    | inr other ↦ subst (λ (o : Option PageList). IsSomeAnd o (LiesOn page)) (sym (noted.others page.list (eqb-false page.list run.list other))) lies
  ]

  -- the pages of the heap after a growth
  pub noted_grown : AreNoted heap.pages old → AreNoted (after_grow run heap).pages new
  unfolding after_grow
  noted_grown all = AllByRecursion-each (λ page. IsSomeAnd (list_at page.list new) (LiesOn page)) (heap.pages ++ run_pages run)
      (λ page has. elim (Contains-append_cases heap.pages (run_pages run) page has) [
        | inl before ↦ kept_page page before (AllByRecursion-contains (λ g. IsSomeAnd (list_at g.list old) (LiesOn g)) heap.pages page all before)
        | inr added ↦ (let one = of_run run page added in subst (λ (g : HeapPage). IsSomeAnd (list_at g.list new) (LiesOn g)) one.is (on_own (run_page run one.place) refl (new_page one.place)))
      ])
