-- What the names say of a heap over several calls that are beside them.
use Rattle.std.proofs.Common.{◌≡◌, refl, sym, ap, subst, ◌∙◌, ℕ}
use Rattle.hp_base.specs.declared.tag.Caller.{Caller}
use Rattle.hp_heap.specs.History.{HeapView, IsCall}
use Rattle.hp_heap.specs.PlainHeap.{PlainHeap}
use Rattle.hp_heap.specs.Tiling.{IsTiled}
use Rattle.hp_heap.specs.declared.entry.HeapAnswer.{HeapAnswer}
use Rattle.hp_heap.specs.declared.entry.HeapCall.{HeapCall}
use Rattle.hp_hall.specs.Naming.{IsBesideNames, LeavesNames, marked_by, naming_of}
use Rattle.hp_hall.proofs.LeavesNaming.{calls_leave_names}

pub leaves_itself : (who : ℕ) (heap : PlainHeap) → LeavesNames who heap heap
leaves_itself who heap = record { naming = refl; marks = λ other apart. refl }

pub leaves_then : (who : ℕ) (old mid new : PlainHeap) → LeavesNames who old mid → LeavesNames who mid new → LeavesNames who old new
leaves_then who old mid new first second = record {
  naming = second.naming ∙ first.naming;
  marks = λ other apart. second.marks other apart ∙ first.marks other apart;
}

-- a heap that is as another one is so to the names
pub leaves_same : (who : ℕ) (old new : PlainHeap) → new ≡ old → LeavesNames who old new
leaves_same who old new same = record { naming = ap naming_of same; marks = λ other apart. ap (marked_by other) same }

-- a call of a heap that is tiled
pub call_leaves : (caller : Caller) (call : HeapCall) (answer : HeapAnswer) (old new : HeapView) → IsCall caller call answer old new
    → IsTiled old.plain → IsBesideNames call old.plain → LeavesNames caller.participant old.plain new.plain
call_leaves caller call answer old new is tiled beside =
    subst (LeavesNames caller.participant old.plain) (sym is.heap)
    (calls_leave_names caller.participant call old.plain tiled is.allowed beside)
