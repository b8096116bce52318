-- The watchers that participants leave at the end are those of their lines, each told of its table.
use Rattle.std.proofs.Common.{◌≡◌, ◌∙◌, ℕ, ◌≤◌, Bool, true, List, Some, ap, sym, subst, arith}
use Rattle.std.specs.List.{All}
use Rattle.std.specs.Prelude.{slice_get}
use Rattle.std.proofs.lemmas.List.Elements.{All-weaker}
use Rattle.std.proofs.lemmas.Option.{slice_get_within}
use Rattle.hp_base.specs.Telling.{Listener}
use Rattle.hp_base.specs.declared.row.Row.{Row}
use Rattle.hp_heap.specs.History.{HeapView}
use Rattle.hp_maps.specs.Bytes.{AreTold}
use Rattle.hp_maps.specs.MapsView.{table_in}
use Rattle.hp_maps.specs.declared.table.Table.{Table}
use Rattle.hp_plain.specs.HallView.{HallView, own_at}
use Rattle.hp_proc.specs.LinesDone.{Course, courses_of, opening_standing}
use Rattle.hp_proc.specs.WatchedBytes.{AreWatchersOf, IsRegistered, IsRegisteredWithGrants}
use Rattle.hp_script.specs.declared.answer.Answer.{Answer}
use Rattle.hp_script.specs.declared.workload.Workload.{Workload}
use Rattle.hp_segs.specs.SegsView.{SegsView}
use Rattle.hp_serve.specs.Ending.{LeavesTable}
use Rattle.hp_serve.specs.Party.{Party}
use Rattle.hp_serve.specs.Tied.{part_of}
use Rattle.hp_proc.specs.Courses.{Standing}
use Rattle.thm_run.proofs.HallFacts.HallEnds.{segs_same}
use Rattle.thm_run.proofs.RunFacts.SoFarFacts.{at_place}
use Rattle.thm_run.specs.EndLaws.{IsAtEnd}
use Rattle.thm_run.specs.Handing.{GrantsEndSo, WatchersEndSo}
use Rattle.thm_run.specs.Registered.{IsRegisteredBy}
use Rattle.thm_run.specs.SoFar.{SoFar}
use Rattle.thm_run.specs.Watching.{WatchedSoFar}

-- a registered watcher is so by the table that its participant leaves
at_end : (who reached : ℕ) (opening : Standing) (segs : SegsView) (courses : List Course) (table : Table) (listener : Listener)
    → (table.joined ≡ true → reached ≤ table.number)
    → IsRegisteredBy who reached opening segs.log segs.asks courses listener.name listener.since
    → IsRegisteredWithGrants who opening segs courses table listener
at_end who reached opening segs courses table listener most is = record {
  is = record {
    place = is.place;
    course = is.course;
    name = is.name;
    there = is.there;
    watches = is.watches;
    named = is.named;
    answered = is.answered;
    still = is.still;
    number = is.number;
    seen = is.seen;
    within = is.within;
    lags = is.lags;
    since = is.since;
    beyond = is.beyond;
    until = λ joined.
        let below = most joined in
        omega (arith, is.until, below);
  };
  own = is.own;
}

module _ (workload : Workload) (courses : List Course) (answers : List Answer) (parties : List Party) (hall : HallView) (heaps : List HeapView)
    (segs : SegsView) (tables : List Table) (so : SoFar workload courses parties hall)
    (is_end : IsAtEnd workload courses answers parties hall heaps segs tables) (who : ℕ) (party : Party) (table : Table)
    (there : slice_get parties who ≡ Some party) (at : slice_get tables who ≡ Some table) where
  abbrev opening : Standing
  opening = opening_standing workload who

  same : so.now.segs ≡ segs
  same = segs_same workload courses parties hall so heaps segs is_end.names is_end.values

  leaves : LeavesTable party table
  leaves = is_end.tables_are who party table there at

  most : table.joined ≡ true → (own_at hall who).number ≤ table.number
  most joined =
      let number =
      (so.each who party there).tied.table.number
      ∙ ap (λ (joined : Bool). (part_of joined (own_at hall who)).number) (sym leaves.joined ∙ joined) in
      omega (arith, number, leaves.number)

  pub its_grants : All (IsRegisteredWithGrants who opening segs (courses_of who courses) table) party.listeners
  its_grants =
      All-weaker
      (λ (listener : Listener).
      IsRegisteredBy who (own_at hall who).number opening segs.log segs.asks (courses_of who courses) listener.name listener.since)
      (IsRegisteredWithGrants who opening segs (courses_of who courses) table)
      (λ listener its. at_end who (own_at hall who).number opening segs (courses_of who courses) table listener most its) party.listeners
      (subst (λ (segs : SegsView). All (λ (listener : Listener).
      IsRegisteredBy who (own_at hall who).number opening segs.log segs.asks (courses_of who courses) listener.name listener.since)
      party.listeners) same (so.registered who party there))

  pub its_watchers : WatchedSoFar → AreWatchersOf who opening segs (courses_of who courses) table party.listeners
  its_watchers law =
      let watched = law workload courses parties hall so who party there in
      record {
        names_are = watched.names;
        registered =
            All-weaker (IsRegisteredWithGrants who opening segs (courses_of who courses) table)
            (IsRegistered who opening segs (courses_of who courses) table) (λ listener its. its.is) party.listeners its_grants;
        told =
            subst (λ (rows : List Row).
            All (λ (listener : Listener). AreTold listener.events (table_in listener.since) (table_in rows)) party.listeners)
            (sym leaves.rows) watched.know;
      }

-- so it is with all of them
pub watchers_end_so : WatchedSoFar → WatchersEndSo
watchers_end_so law workload courses answers parties hall heaps segs tables watchers given so is_end leave = record {
  count = leave.many ∙ so.count;
  each = λ who table listeners at at_watchers.
      let party = at_place parties who (omega (arith, slice_get_within watchers who listeners at_watchers, leave.many)) in
      subst (AreWatchersOf who (opening_standing workload who) segs (courses_of who courses) table)
      (sym (leave.are who party.it listeners party.there at_watchers))
      (its_watchers workload courses answers parties hall heaps segs tables so is_end who party.it table party.there at law);
}

pub grants_end_so : GrantsEndSo
grants_end_so workload courses answers parties hall heaps segs tables watchers given so is_end leave = record {
  each = λ who table listeners at at_watchers.
      let party = at_place parties who (omega (arith, slice_get_within watchers who listeners at_watchers, leave.many)) in
      subst (All (IsRegisteredWithGrants who (opening_standing workload who) segs (courses_of who courses) table))
      (sym (leave.are who party.it listeners party.there at_watchers))
      (its_grants workload courses answers parties hall heaps segs tables so is_end who party.it table party.there at);
}
