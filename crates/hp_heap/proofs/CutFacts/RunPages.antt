-- The pages of a run: which they are, and that a heap with them is laid out.
use Rattle.std.proofs.Common.{◌≡◌, ℕ, zero, suc, ◌+◌, ◌*◌, ◌<◌, ◌≤◌, ◌∷◌, ◌++◌, refl, sym, ap, subst, ◌∙◌, inl, inr, arith, Contains}
use Rattle.std.proofs.Math.Nat.{add-mul, mul-le-mul_right, add-mul-mod_self_right}
use Rattle.std.proofs.lemmas.List.Elements.{Contains-append_cases}
use Rattle.std.specs.List.{AllByRecursion, range_with_len}
use Rattle.hp_base.specs.declared.row.Run.{Run}
use Rattle.hp_heap.specs.PlainHeap.{PlainHeap, HeapPage}
use Rattle.hp_heap.specs.LaidOut.{IsPage, AreAlike, IsLaidOut}
use Rattle.hp_heap.specs.Growing.{run_page, run_pages, IsAlike, CanGrow}
use Rattle.hp_heap.proofs.RangeLemmas.{AllByRecursion-append}
use Rattle.hp_heap.proofs.AllocFacts.ChoiceLaw.{Contains-here, Contains-there, Contains-cases, Contains-none, AllByRecursion-contains}
use Rattle.hp_heap.proofs.Members.{AllByRecursion-each, Contains-image, Contains-imaged}

-- the numbers from one on
numbers_within : (a n i : ℕ) → Contains (range_with_len a n) i → (a ≤ i) × (i < a + n)
numbers_within a zero i has = absurd (Contains-none i has)
numbers_within a (suc n) i has = elim (Contains-cases a i (range_with_len (a + 1) n) has) [
  | inl is ↦ (omega (arith, is), omega (arith, is))
  | inr rest ↦ (let found = numbers_within (a + 1) n i rest in (omega (arith, found.0), omega (arith, found.1)))
]

numbers_have : (a n i : ℕ) → i < n → Contains (range_with_len a n) (a + i)
numbers_have a zero i within = absurd (omega arith)
numbers_have a (suc n) zero within = subst (λ (k : ℕ). Contains (a ∷ range_with_len (a + 1) n) k) (let same : a ≡ a + 0 = omega arith in same) (Contains-here a (range_with_len (a + 1) n))
numbers_have a (suc n) (suc i) within = subst (λ (k : ℕ). Contains (a ∷ range_with_len (a + 1) n) k) (let same : a + 1 + i ≡ a + suc i = omega arith in same)
    (Contains-there a (a + 1 + i) (range_with_len (a + 1) n) (numbers_have (a + 1) n i (omega arith)))

-- a page of a run, and its place
pub record IsOfRun (run : Run) (page : HeapPage) : Type 0 where
  pub place : ℕ
  pub within : place < run.count
  pub is : run_page run place ≡ page

pub of_run : (run : Run) (page : HeapPage) → Contains (run_pages run) page → IsOfRun run page
unfolding run_pages
of_run run page has =
    let one = Contains-imaged (run_page run) (range_with_len 0 run.count) page has in
    record { place = one.0; within = (let inside = numbers_within 0 run.count one.0 one.1 in omega (arith, inside.1)); is = one.2 }

pub has_run_page : (run : Run) (i : ℕ) → i < run.count → Contains (run_pages run) (run_page run i)
unfolding run_pages
has_run_page run i within = Contains-image (run_page run) (range_with_len 0 run.count) i
    (subst (λ (k : ℕ). Contains (range_with_len 0 run.count) k) (let same : 0 + i ≡ i = omega arith in same) (numbers_have 0 run.count i within))

-- the numbers of two pages of one grid
mixed_base : (addr slot first from page i : ℕ) → addr + first * page ≡ from + slot * page → from + i * page + slot * page ≡ addr + (first + i) * page
mixed_base addr slot first from page i same = omega (arith, same, add-mul first i page)

module _ (heap : PlainHeap) (run : Run) (can : CanGrow run heap) where
  page_is : (i : ℕ) → i < run.count → IsPage (run_page run i)
  page_is i within =
      let most : (i + 1) * run.page ≤ run.count * run.page = mul-le-mul_right run.page (omega (arith, within)) in
      record {
        size = can.size;
        aligned = add-mul-mod_self_right run.addr i run.page ∙ can.aligned;
        base = omega (arith, can.base, add-mul run.first i run.page);
        slot = omega (arith, within, can.slots);
        end = omega (arith, most, can.end, add-mul i 1 run.page);
      }

  pages_are : AllByRecursion IsPage (run_pages run)
  pages_are = AllByRecursion-each IsPage (run_pages run) (λ page has. (let one = of_run run page has in subst IsPage one.is (page_is one.place one.within)))

  -- a page that was there and one of the run
  old_new : (page : HeapPage) (i : ℕ) → IsAlike run page → AreAlike page (run_page run i)
  old_new page i alike = record {
    size = sym alike.size;
    socket = sym alike.socket;
    base = subst (λ (p : ℕ). run.addr + i * run.page + page.slot * p ≡ page.addr + (run.first + i) * p) (sym alike.size) (mixed_base page.addr page.slot run.first run.addr run.page i alike.base);
  }

  new_old : (page : HeapPage) (i : ℕ) → IsAlike run page → AreAlike (run_page run i) page
  new_old page i alike = record {
    size = alike.size;
    socket = alike.socket;
    base = sym (mixed_base page.addr page.slot run.first run.addr run.page i alike.base);
  }

  new_new : (i j : ℕ) → AreAlike (run_page run i) (run_page run j)
  new_new i j = record { size = refl; socket = refl; base = omega (arith, add-mul run.first i run.page, add-mul run.first j run.page) }

  -- the pages of a heap with those of a run are laid out
  pub laid_grown : IsLaidOut heap.pages heap.chunks → IsLaidOut (heap.pages ++ run_pages run) heap.chunks
  laid_grown laid = record {
    each_page = AllByRecursion-append IsPage heap.pages (run_pages run) laid.each_page pages_are;
    alike = λ page other first second same. elim (Contains-append_cases heap.pages (run_pages run) page first) [
      | inl old ↦ elim (Contains-append_cases heap.pages (run_pages run) other second) [
        | inl older ↦ laid.alike page other old older same
        | inr new ↦ (let one = of_run run other new in
            subst (λ (g : HeapPage). AreAlike page g) one.is (old_new page one.place
            (AllByRecursion-contains (λ g. g.list ≡ run.list → IsAlike run g) heap.pages page can.alike old (sym same ∙ ap (λ (g : HeapPage). g.list) (sym one.is)))))
      ]
      | inr new ↦ (let one = of_run run page new in elim (Contains-append_cases heap.pages (run_pages run) other second) [
        | inl old ↦ subst (λ (g : HeapPage). AreAlike g other) one.is (new_old other one.place
            (AllByRecursion-contains (λ g. g.list ≡ run.list → IsAlike run g) heap.pages other can.alike old (same ∙ ap (λ (g : HeapPage). g.list) (sym one.is))))
        | inr newer ↦ (let two = of_run run other newer in
            subst (λ (g : HeapPage). AreAlike g other) one.is (subst (λ (g : HeapPage). AreAlike (run_page run one.place) g) two.is (new_new one.place two.place)))
      ])
    ];
    each_chunk = laid.each_chunk;
    own_lists = laid.own_lists;
  }
