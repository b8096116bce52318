-- What a run in one thread has come to of its names, of external memory and of who has attached it.
use Rattle.std.proofs.Common.{◌≡◌, ◌∙◌, ℕ, ◌<◌, List, [], ◌∷◌, map, Some, ap, sym, subst, arith}
use Rattle.std.specs.List.{All, AllByRecursion, slice_get}
use Rattle.std.specs.List.Sorted.{IsPermutation}
use Rattle.std.proofs.lemmas.List.Elements.{recursion_from_All}
use Rattle.std.proofs.lemmas.Option.{slice_get_within}
use Rattle.hp_heap.specs.History.{HeapView}
use Rattle.hp_maps.specs.declared.table.Table.{Table}
use Rattle.hp_plain.specs.HallView.{HallView}
use Rattle.hp_proc.specs.Ends.{history_by, none_made}
use Rattle.hp_proc.specs.Handed.{AreNamesHanded, AreStatesHanded, names_shown}
use Rattle.hp_proc.specs.Handing.{shared_of}
use Rattle.hp_proc.specs.Heaps.{sockets_of}
use Rattle.hp_proc.specs.LinesDone.{Course}
use Rattle.hp_proc.specs.NamesLog.{changes_in, changes_made}
use Rattle.hp_proc.specs.OneThread.{names_by}
use Rattle.hp_proc.specs.RunEnds.{HasAttached, did_of}
use Rattle.hp_proc.specs.SharedNames.{SharedNames, no_changes}
use Rattle.hp_script.specs.Facts.{AwaitEarlier}
use Rattle.hp_script.specs.declared.answer.Answer.{Answer}
use Rattle.hp_script.specs.declared.workload.Workload.{Workload}
use Rattle.hp_segs.specs.SegsView.{SegsView}
use Rattle.hp_serve.specs.Party.{Party}
use Rattle.hp_zone.specs.Directory.{HasSocketHeaps, directory_at}
use Rattle.thm_run.proofs.HallFacts.HallHeaps.{all_from_places, heap_at}
use Rattle.thm_run.proofs.HallFacts.HallHistories.{in_order}
use Rattle.thm_run.proofs.NamesEnd.AwaitedFor.{awaited_for}
use Rattle.thm_run.proofs.NamesEnd.NamesInOrder.{names_handed, names_made}
use Rattle.thm_run.proofs.NamesEnd.NamesLeft.{attached, claimed, count, directory, leave, sockets, sound, zones}
use Rattle.thm_run.proofs.NamesEnd.NextCalls.{stands_next}
use Rattle.thm_run.proofs.NamesEnd.StatesHanded.{states_handed}
use Rattle.thm_run.proofs.RunFacts.SoFarFacts.{at_place}
use Rattle.thm_run.specs.EndLaws.{IsAtEnd, IsGiven}
use Rattle.thm_run.specs.Handing.{AreOfLinesBefore, NamesEndSo}
use Rattle.thm_run.specs.SoFar.{IsOfDeclared, SoFar}

declared_few : (many : ℕ) (courses : List Course) → AllByRecursion (IsOfDeclared many) courses
    → AllByRecursion (λ course. course.line.participant < many) courses
declared_few many [] all = tt
declared_few many (course ∷ courses) all = (all.0.declared, declared_few many courses all.1)

module _ (workload : Workload) (courses : List Course) (answers : List Answer) (parties : List Party) (hall : HallView) (heaps : List HeapView)
    (segs : SegsView) (tables : List Table) (given : IsGiven workload) (so : SoFar workload courses parties hall)
    (is_end : IsAtEnd workload courses answers parties hall heaps segs tables) (are : AreOfLinesBefore workload courses) where
  leaves : shared_of is_end.names ≡ names_by courses
  leaves = leave workload courses parties hall so is_end.hall_is heaps segs is_end.names is_end.values

  made : IsPermutation (changes_made workload.participants (did_of courses)) (changes_in (shared_of is_end.names))
  made =
      subst (λ (names : SharedNames). IsPermutation (changes_made workload.participants (did_of courses)) (changes_in names)) (sym leaves)
      (names_made workload courses are
      (declared_few workload.participants courses (recursion_from_All (IsOfDeclared workload.participants) courses so.built)))

  socket_heaps : (front : ℕ) → HasSocketHeaps (sockets_of workload.pools.items)
      (directory_at (sockets_of workload.pools.items) (shared_of is_end.names).heaps front)
  socket_heaps front =
      subst (λ (own : List ℕ). HasSocketHeaps own (directory_at own is_end.names.heaps.log front))
      (sockets workload courses parties hall so is_end.hall_is heaps segs is_end.names is_end.values)
      ((sound workload courses parties hall so is_end.hall_is heaps segs is_end.names is_end.values).1.fronts front)

  history_there : (index : ℕ) (heap : HeapView) → slice_get heaps index ≡ Some heap → heap.history ≡ history_by index none_made courses
  history_there = in_order workload courses parties hall so heaps segs is_end.names is_end.values

  own_history : (index : ℕ) (heap : HeapView) → slice_get heaps index ≡ Some heap → heap.history ≡ history_by heap.plain.index none_made courses
  own_history index heap at =
      history_there index heap at
      ∙ ap (λ (index : ℕ). history_by index none_made courses)
      (sym (heap_at workload courses parties hall so heaps segs is_end.names is_end.values index heap at).index)

  shown : (who : ℕ) → AreNamesHanded (shared_of is_end.names) (names_shown no_changes (did_of courses who))
  shown who =
      subst (λ (names : SharedNames). AreNamesHanded names (names_shown no_changes (did_of courses who))) (sym leaves)
      (names_handed workload courses are who)

  states : (who : ℕ) → All (AreStatesHanded who (did_of courses who)) heaps
  states who =
      all_from_places (AreStatesHanded who (did_of courses who)) heaps
      (λ index heap at. states_handed workload courses heap (own_history index heap at) are who)

  awaits : AwaitEarlier workload.participants (map (λ course. course.line) courses)
  awaits = subst (AwaitEarlier workload.participants) (sym is_end.lines) given.awaits

  tables_have : (who : ℕ) (table : Table) → slice_get tables who ≡ Some table → HasAttached heaps segs who table
  tables_have who table at =
      let party = at_place parties who (omega (arith, slice_get_within tables who table at, is_end.count)) in
      attached workload courses parties hall so is_end.hall_is heaps segs is_end.names is_end.values who party.it table party.there
      (is_end.tables_are who party.it table party.there at)

pub names_end_so : NamesEndSo
names_end_so workload courses answers parties hall heaps segs tables given so is_end are = (
  record {
    changes = record {
      made = made workload courses answers parties hall heaps segs tables given so is_end are;
      sockets = socket_heaps workload courses answers parties hall heaps segs tables given so is_end are;
    };
    count = count workload courses parties hall so is_end.hall_is heaps segs is_end.names is_end.values;
    directory = directory workload courses parties hall so is_end.hall_is heaps segs is_end.names is_end.values;
    zones = zones workload courses parties hall so is_end.hall_is heaps segs is_end.names is_end.values;
    claimed = claimed workload courses parties hall so is_end.hall_is heaps segs is_end.names is_end.values;
    handed = λ who. record {
      shown = shown workload courses answers parties hall heaps segs tables given so is_end are who;
      states = states workload courses answers parties hall heaps segs tables given so is_end are who;
    };
    awaited_for = awaited_for workload courses heaps
        (own_history workload courses answers parties hall heaps segs tables given so is_end are)
        (awaits workload courses answers parties hall heaps segs tables given so is_end are) are;
    attached = tables_have workload courses answers parties hall heaps segs tables given so is_end are;
  },
  record {
    handed = are.handed;
    together = are.together;
    next = stands_next workload courses heaps
        (history_there workload courses answers parties hall heaps segs tables given so is_end are) are;
    leave = leaves workload courses answers parties hall heaps segs tables given so is_end are;
  },
)
