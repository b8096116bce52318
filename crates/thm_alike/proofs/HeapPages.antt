-- Where the pages of a heap come from: each is one of a run by which its history grew it.
use Rattle.std.proofs.Common.{◌≡◌, ◌⊎◌, ℕ, not, List, [], ◌∷◌, ◌++◌, Option, Some, None, inl, inr, refl, subst}
use Rattle.std.specs.Prelude.{Contains}
use Rattle.std.proofs.lemmas.List.Elements.{Contains-append_cases, Contains-append_left, Contains-append_right}
use Rattle.hp_base.specs.declared.chunk.Chunk.{Chunk}
use Rattle.hp_base.specs.declared.row.Run.{Run}
use Rattle.hp_heap.specs.Chunks.{after_chunk, after_share, after_unchunk, after_unshare, chunk_at, without_chunk}
use Rattle.hp_heap.specs.Cut.{PageCut, after_cut, after_cut_of, cut_at, is_cut_page}
use Rattle.hp_heap.specs.Growing.{after_grow, run_pages}
use Rattle.hp_heap.specs.History.{after_entry, replay}
use Rattle.hp_heap.specs.Joining.{after_free, busy_at}
use Rattle.hp_heap.specs.PlainHeap.{HeapPage, PlainHeap}
use Rattle.hp_heap.specs.Resizing.{after_resize}
use Rattle.hp_heap.specs.Step.{after, after_name}
use Rattle.hp_heap.specs.declared.entry.Entry.{Entry}
use Rattle.hp_heap.specs.declared.entry.HeapCall.{HeapCall}
use Rattle.hp_heap.specs.declared.entry.HeapCall.TheVariants as call
use Rattle.hp_heap.proofs.AllocFacts.AllocKept.{alloc_kept}
use Rattle.hp_heap.proofs.AllocFacts.ChoiceLaw.{Contains-filter, Contains-here}
use Rattle.hp_heap.specs.HistoryLaws.{run_grown, runs_grown}
use Rattle.hp_proc.proofs.PagesStay.{freed_pages, resized_pages}

-- a page is one of a run of these
pub record IsRunPage (runs : List Run) (page : HeapPage) : Type 0 where
  pub run : Run
  pub its_run : Contains runs run
  pub its_page : Contains (run_pages run) page

chunkless_pages : (heap : PlainHeap) (found : Option Chunk) → (without_chunk found heap).pages ≡ heap.pages
chunkless_pages heap None = refl
chunkless_pages heap (Some chunk) = refl

-- a cut leaves some of the pages
left_pages : (heap : PlainHeap) (found : Option PageCut) (page : HeapPage) → Contains (after_cut_of found heap).pages page
    → Contains heap.pages page
left_pages heap None page among = among
left_pages heap (Some cut) page among = (Contains-filter (λ page. not (is_cut_page cut page)) heap.pages page among).1

-- a page after a call was there, or is one of the run by which the call grows the heap
after_pages : (who : ℕ) (made : HeapCall) (heap : PlainHeap) (page : HeapPage) → Contains (after who made heap).pages page
    → Contains heap.pages page ⊎ IsRunPage (run_grown made) page
unfolding after after_free after_resize after_grow after_cut after_name after_chunk after_unchunk after_share after_unshare
after_pages who (call.Alloc request tag) heap page among =
    inl (subst (λ (pages : List HeapPage). Contains pages page) (alloc_kept heap who request tag).pages among)
after_pages who (call.Find tag) heap page among = inl among
after_pages who (call.Free addr zone) heap page among =
    inl (subst (λ (pages : List HeapPage). Contains pages page) (freed_pages zone heap (busy_at addr heap)) among)
after_pages who (call.Resize addr size) heap page among =
    inl (subst (λ (pages : List HeapPage). Contains pages page) (resized_pages size heap (busy_at addr heap)) among)
after_pages who (call.Grow run) heap page among =
    elim (Contains-append_cases heap.pages (run_pages run) page among) [
      | inl before ↦ inl before
      | inr came ↦ inr (record { run = run; its_run = Contains-here run []; its_page = came })
    ]
after_pages who (call.Cut addr) heap page among = inl (left_pages heap (cut_at addr heap) page among)
after_pages who call.Stats heap page among = inl among
after_pages who (call.Name name socket) heap page among = inl among
after_pages who call.Unname heap page among = inl among
after_pages who (call.Chunk chunk) heap page among = inl among
after_pages who (call.Unchunk addr len) heap page among =
    inl (subst (λ (pages : List HeapPage). Contains pages page) (chunkless_pages heap (chunk_at addr len heap)) among)
after_pages who (call.Share addr len) heap page among = inl among
after_pages who (call.Unshare addr len) heap page among = inl among

of_more : (runs more : List Run) (page : HeapPage) → IsRunPage more page → IsRunPage (runs ++ more) page
of_more runs more page is = record { run = is.run; its_run = Contains-append_right runs more is.run is.its_run; its_page = is.its_page }

of_first : (runs more : List Run) (page : HeapPage) → IsRunPage runs page → IsRunPage (runs ++ more) page
of_first runs more page is = record { run = is.run; its_run = Contains-append_left runs more is.run is.its_run; its_page = is.its_page }

-- so is a page after the calls of a history
pub replayed_pages : (history : List Entry) (heap : PlainHeap) (page : HeapPage) → Contains (replay heap history).pages page
    → Contains heap.pages page ⊎ IsRunPage (runs_grown history) page
unfolding after_entry runs_grown
replayed_pages [] heap page among = inl among
replayed_pages (entry ∷ history) heap page among =
    elim (replayed_pages history (after_entry heap entry) page among) [
      | inl before ↦ elim (after_pages entry.caller.participant entry.call heap page before) [
        | inl there ↦ inl there
        | inr came ↦ inr (of_first (run_grown entry.call) (runs_grown history) page came)
      ]
      | inr later ↦ inr (of_more (run_grown entry.call) (runs_grown history) page later)
    ]
