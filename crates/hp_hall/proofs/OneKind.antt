-- Two values of one kind: what is said of each kind is said of them, and goes on from value to value.
use Rattle.hp_segs.specs.SegsView.{SegsView}
use Rattle.hp_zone.specs.declared.names.Names.{Names as NamesView}
use Rattle.hp_hall.specs.Views.{AreOfOneKind, HeldHeap}
use Rattle.hp_hall.specs.declared.kept.Kept.{Kept}
use Rattle.hp_hall.specs.declared.kept.Kept.TheVariants.{Heap, Names, Segments}

module _ (OfHeaps : HeldHeap → HeldHeap → Type 0) (OfSegs : SegsView → SegsView → Type 0) (OfNames : NamesView → NamesView → Type 0) where
  -- what follows from each kind follows
  pub by_kind : (P : Kept → Kept → Type 0) → ((a b : HeldHeap) → OfHeaps a b → P (Heap a.heap a.pen) (Heap b.heap b.pen))
      → ((a b : SegsView) → OfSegs a b → P (Segments a) (Segments b)) → ((a b : NamesView) → OfNames a b → P (Names a) (Names b))
      → (a b : Kept) → AreOfOneKind OfHeaps OfSegs OfNames a b → P a b
  by_kind P heaps segs names (Heap a before) (Heap b pen) are = heaps (record { heap = a; pen = before }) (record { heap = b; pen = pen }) are
  by_kind P heaps segs names (Heap a before) (Segments b) are = absurd are
  by_kind P heaps segs names (Heap a before) (Names b) are = absurd are
  by_kind P heaps segs names (Segments a) (Heap b pen) are = absurd are
  by_kind P heaps segs names (Segments a) (Segments b) are = segs a b are
  by_kind P heaps segs names (Segments a) (Names b) are = absurd are
  by_kind P heaps segs names (Names a) (Heap b pen) are = absurd are
  by_kind P heaps segs names (Names a) (Segments b) are = absurd are
  by_kind P heaps segs names (Names a) (Names b) are = names a b are

  -- a value is of one kind with itself
  pub kind_same : ((a : HeldHeap) → OfHeaps a a) → ((a : SegsView) → OfSegs a a) → ((a : NamesView) → OfNames a a)
      → (a : Kept) → AreOfOneKind OfHeaps OfSegs OfNames a a
  kind_same heaps segs names (Heap a pen) = heaps (record { heap = a; pen = pen })
  kind_same heaps segs names (Segments a) = segs a
  kind_same heaps segs names (Names a) = names a

  -- and with those that follow on one another
  pub kind_then : ((a b c : HeldHeap) → OfHeaps a b → OfHeaps b c → OfHeaps a c)
      → ((a b c : SegsView) → OfSegs a b → OfSegs b c → OfSegs a c) → ((a b c : NamesView) → OfNames a b → OfNames b c → OfNames a c)
      → (a b c : Kept) → AreOfOneKind OfHeaps OfSegs OfNames a b → AreOfOneKind OfHeaps OfSegs OfNames b c
      → AreOfOneKind OfHeaps OfSegs OfNames a c
  kind_then heaps segs names a b c here =
      by_kind (λ a b. AreOfOneKind OfHeaps OfSegs OfNames b c → AreOfOneKind OfHeaps OfSegs OfNames a c)
      (λ a b here. heaps_then a b here c) (λ a b here. segs_then a b here c) (λ a b here. names_then a b here c) a b here
    where
      heaps_then : (a b : HeldHeap) → OfHeaps a b → (c : Kept) → AreOfOneKind OfHeaps OfSegs OfNames (Heap b.heap b.pen) c
          → AreOfOneKind OfHeaps OfSegs OfNames (Heap a.heap a.pen) c
      heaps_then a b here (Heap c pen) next = heaps a b (record { heap = c; pen = pen }) here next
      heaps_then a b here (Segments c) next = absurd next
      heaps_then a b here (Names c) next = absurd next

      segs_then : (a b : SegsView) → OfSegs a b → (c : Kept) → AreOfOneKind OfHeaps OfSegs OfNames (Segments b) c
          → AreOfOneKind OfHeaps OfSegs OfNames (Segments a) c
      segs_then a b here (Heap c pen) next = absurd next
      segs_then a b here (Segments c) next = segs a b c here next
      segs_then a b here (Names c) next = absurd next

      names_then : (a b : NamesView) → OfNames a b → (c : Kept) → AreOfOneKind OfHeaps OfSegs OfNames (Names b) c
          → AreOfOneKind OfHeaps OfSegs OfNames (Names a) c
      names_then a b here (Heap c pen) next = absurd next
      names_then a b here (Segments c) next = absurd next
      names_then a b here (Names c) next = names a b c here next
