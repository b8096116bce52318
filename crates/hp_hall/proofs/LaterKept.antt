-- Values later on: each is later than itself, and this goes on from value to value; and a value that is given is later than the taken one.
use Rattle.std.proofs.Common.{◌≡◌, List, [], ◌∷◌, ◌++◌, Some, refl, sym, ap, subst, ◌∙◌}
use Rattle.std.proofs.lemmas.List.{append-nil}
use Rattle.hp_heap.specs.History.{HeapView}
use Rattle.hp_segs.specs.Moved.{SegsCall, Leads, after}
use Rattle.hp_segs.specs.SegsView.{SegsView}
use Rattle.hp_hall.specs.Giving.{GivesFor, GivesHeap, GivesHeld, GivesSegments, GivesTheNames, Knows}
use Rattle.hp_hall.specs.Later.{AreLaterNames, IsLaterHeap, IsLaterKept, IsLaterSegs}
use Rattle.hp_hall.specs.Named.{seen_of_names}
use Rattle.hp_hall.specs.Views.{HeldHeap}
use Rattle.hp_hall.specs.declared.kept.Kept.{Kept}
use Rattle.hp_hall.proofs.Formed.{appends_given, calls_given}
use Rattle.hp_hall.proofs.HallStates.{more_then, names_same, names_then}
use Rattle.hp_hall.proofs.OneKind.{by_kind, kind_same, kind_then}

leads_then : (first second : List SegsCall) (a b c : SegsView) → Leads first a b → Leads second b c → Leads (first ++ second) a c
leads_then [] second a b c here next = subst (λ (x : SegsView). Leads second x c) here next
leads_then (call ∷ calls) second a b c here next = (here.0, leads_then calls second (after call a) b c here.1 next)

pub kept_same : (kept : Kept) → IsLaterKept kept kept
kept_same =
    kind_same (λ (old new : HeldHeap). IsLaterHeap old.heap new.heap) IsLaterSegs AreLaterNames
    (λ held. record { index = refl; serves = refl; more = []; history = sym (append-nil held.heap.history) })
    (λ segs. record {
      calls = [];
      leads = refl;
      more = [];
      log = sym (append-nil segs.log);
      outcomes = [];
      asks = sym (append-nil segs.asks);
    })
    (λ names. names_same (seen_of_names names))

heaps_then : (a b c : HeldHeap) → IsLaterHeap a.heap b.heap → IsLaterHeap b.heap c.heap → IsLaterHeap a.heap c.heap
heaps_then a b c here next = record {
  index = next.index ∙ here.index;
  serves = next.serves ∙ here.serves;
  more = here.more ++ next.more;
  history = more_then a.heap.history b.heap.history c.heap.history here.more next.more here.history next.history;
}

segs_then : (a b c : SegsView) → IsLaterSegs a b → IsLaterSegs b c → IsLaterSegs a c
segs_then a b c here next = record {
  calls = here.calls ++ next.calls;
  leads = leads_then here.calls next.calls a b c here.leads next.leads;
  more = here.more ++ next.more;
  log = more_then a.log b.log c.log here.more next.more here.log next.log;
  outcomes = here.outcomes ++ next.outcomes;
  asks = more_then a.asks b.asks c.asks here.outcomes next.outcomes here.asks next.asks;
}

pub kept_then : (a b c : Kept) → IsLaterKept a b → IsLaterKept b c → IsLaterKept a c
kept_then =
    kind_then (λ (old new : HeldHeap). IsLaterHeap old.heap new.heap) IsLaterSegs AreLaterNames heaps_then segs_then
    (λ a b c here next. names_then here next)

module _ (knows : Knows) where
  -- a heap that may be given in place of another is that one later on
  pub heap_given : (taken given : HeapView) → GivesHeap knows taken given → IsLaterHeap taken given
  heap_given taken given gives = record { index = gives.index; serves = gives.serves; more = gives.own; history = gives.history }

  -- so is a segment value, whichever the form of the give
  pub segs_given : (taken given : SegsView) → GivesSegments knows taken given → IsLaterSegs taken given
  segs_given taken given gives =
      let moved = calls_given knows taken given gives.form in
      let appends = appends_given knows taken given gives.form in
      record { calls = moved.0; leads = moved.1; more = gives.more; log = gives.log; outcomes = appends.outcomes; asks = appends.asks }

  -- and each value
  pub later_given : (taken given : Kept) → GivesFor knows (Some taken) given → IsLaterKept taken given
  later_given =
      by_kind (GivesHeld knows) (GivesSegments knows) (GivesTheNames knows) IsLaterKept
      (λ taken given gives. heap_given taken.heap given.heap gives.heap) segs_given (λ taken given gives. gives.names.goes_on)
