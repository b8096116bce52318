-- The names that lines read at a board are fronts of those that it hands out, and never grow shorter from line to line; and these have the
-- changes of the lines and no others.
use Rattle.std.proofs.Common.{◌≡◌, ◌∙◌, ◌==◌, ℕ, ◌<◌, ◌≤◌, Bool, true, false, cond, eqb, eq-eqb, List, [], ◌∷◌, None, ⊎_elim, map, refl, ap, sym, subst, arith}
use Rattle.std.specs.List.{AllByRecursion}
use Rattle.std.proofs.lemmas.Bool.{cases_lt, cond-true}
use Rattle.hp_board.proofs.KeptAt.{names_kept}
use Rattle.hp_board.specs.Closing.{HandedOut, IsLeftIn, handed_out}
use Rattle.hp_board.specs.MovesKept.{OpensWith, all_free}
use Rattle.hp_board.specs.declared.opening.Opening.{Opening}
use Rattle.hp_hall.specs.declared.kept.Kept.{Kept}
use Rattle.hp_hall.specs.declared.kept.Kept.TheVariants.{Names}
use Rattle.hp_hall.specs.declared.slot.TheConstants.{NAMES_SLOT}
use Rattle.hp_heap.specs.History.{HeapView}
use Rattle.hp_maps.specs.declared.table.Table.{Table}
use Rattle.hp_script.specs.declared.answer.Answer.{Answer}
use Rattle.hp_script.specs.declared.workload.Workload.{Workload}
use Rattle.hp_segs.specs.SegsView.{SegsView}
use Rattle.hp_weave.specs.Holds.{Chain, Hold, holds_of}
use Rattle.hp_zone.specs.declared.names.Names.{Names as NamesView}
use Rattle.hp_proc.specs.Handed.{names_shown}
use Rattle.hp_proc.specs.Handing.{shared_of}
use Rattle.hp_proc.specs.LinesDone.{Course, trace_of}
use Rattle.hp_proc.specs.SharedNames.{SharedNames, no_changes}
use Rattle.thm_run.specs.SoFar.{first_names}
use Rattle.thm_moved.proofs.CameToBoard.{came_by, went}
use Rattle.thm_run.proofs.NamesEnd.LinesHeld.{held_in}
use Rattle.thm_run.proofs.NamesEnd.NamesChain.{AreOnward, GivesLater, HoldOnward, lines_onward, onward_handed, own_onward}
use Rattle.thm_run.proofs.NamesEnd.NamesChanged.{changes_are_made}
use Rattle.thm_moved.proofs.NamesHeld.{GoesOn, names_by, names_held_from_free, names_stay}
use Rattle.thm_moved.proofs.NamesOfWays.{AreHoldsOf, shared_hold, way_holds}
use Rattle.thm_moved.specs.AtBoard.{AllCameToTheirSeats}
use Rattle.thm_moved.specs.NamesLeft.{NamesChangedAtBoard, NamesHandedAtBoard}

-- HOLDS AS LINES KNOW THEM

later_shared : (hold : Hold NamesView) → GoesOn hold → GivesLater (shared_hold hold)
later_shared hold later = record { zones = (later.more_zones, later.zones); heaps = (later.more_heaps, later.heaps) }

all_later : (holds : List (Hold NamesView)) → AllByRecursion GoesOn holds → AllByRecursion GivesLater (map shared_hold holds)
all_later [] all = tt
all_later (hold ∷ holds) all = (later_shared hold all.0, all_later holds all.1)

chain_shared : (first : NamesView) (holds : List (Hold NamesView)) (last : NamesView) → Chain first holds last
    → Chain (shared_of first) (map shared_hold holds) (shared_of last)
chain_shared first [] last chain = ap (λ (names : NamesView). shared_of names) chain
chain_shared first (hold ∷ holds) last chain =
    (ap (λ (names : NamesView). shared_of names) chain.0, chain_shared hold.given holds last chain.1)

own_shared : (who : ℕ) (holds : List (Hold NamesView)) → holds_of who (map shared_hold holds) ≡ map shared_hold (holds_of who holds)
own_shared who [] = refl
own_shared who (hold ∷ holds) = by_owner (hold.who == who) (own_shared who holds)
  where
    by_owner : (its : Bool) → holds_of who (map shared_hold holds) ≡ map shared_hold (holds_of who holds)
        → cond its (shared_hold hold ∷ holds_of who (map shared_hold holds)) (holds_of who (map shared_hold holds))
        ≡ map shared_hold (cond its (hold ∷ holds_of who holds) (holds_of who holds))
    by_owner true rest = ap (λ (rest : List (Hold SharedNames)). shared_hold hold ∷ rest) rest
    by_owner false rest = rest

-- AT A BOARD

-- the names of a slot that opened with them, and of one that was left
opened_names : (opening : Opening) (kept : Kept) (names : NamesView) → kept ≡ Names names → OpensWith opening kept
    → names ≡ opening.names.value
opened_names opening kept names is opens = subst (OpensWith opening) is opens

left_names : (out : HandedOut) (kept : Kept) (names : NamesView) → kept ≡ Names names → IsLeftIn out NAMES_SLOT kept → names ≡ out.names
left_names out kept names is left = subst (IsLeftIn out NAMES_SLOT) is left

module _ (workload : Workload) (answers : List Answer) (heaps : List HeapView) (segs : SegsView) (tables : List Table)
    (all : AllCameToTheirSeats workload answers heaps segs tables) where
  -- the first names, and the last ones
  names_first : all.moved.first NAMES_SLOT ≡ Names (first_names workload)
  names_first =
      let first = all.moved.opened NAMES_SLOT (omega arith) in
      let early = names_kept all.opening (all.moved.first NAMES_SLOT) first.at in
      early.1
      ∙ ap (λ (names : NamesView). Names names)
      (opened_names all.opening (all.moved.first NAMES_SLOT) early.0 early.1 first.opens ∙ all.names_are)

  names_last : all.moved.last NAMES_SLOT ≡ Names all.names
  names_last =
      let late = names_stay all.moved.moves (all_free all.moved.first) (all_free all.moved.last) all.moved.replay (first_names workload) names_first in
      late.1
      ∙ ap (λ (names : NamesView). Names names)
      (left_names (handed_out heaps all.pens segs all.names) (all.moved.last NAMES_SLOT) late.0 late.1
      (all.moved.left NAMES_SLOT (omega arith)))

  -- the holds of each are those of its lines
  pub its_holds : (who : ℕ) → AreHoldsOf who (all.courses who) (all.steps who)
  its_holds who =
      ⊎_elim (λ (below : who < workload.participants). way_holds (went workload answers heaps segs tables all who below).way)
      (λ (beyond : workload.participants ≤ who).
      subst (λ (courses : List Course). AreHoldsOf who courses (all.steps who)) (sym (all.no_lines who beyond))
      (subst (AreHoldsOf who []) (sym (all.no_steps who beyond)) (record { are = refl; left = refl; first = tt })))
      (cases_lt who workload.participants)

  -- all holds of the names, from the first ones to the last
  pub record HaveNamesCome : Type 0 where
    pub holds : List (Hold SharedNames)
    pub chain : Chain no_changes holds (shared_of all.names)
    pub own : (who : ℕ) → holds_of who holds ≡ held_in who (all.courses who)
    pub later : AllByRecursion GivesLater holds

  pub names_came : HaveNamesCome
  names_came =
      let by = came_by workload answers heaps segs tables all in
      let held =
      names_held_from_free all.moved.moves all.moved.first (all_free all.moved.last) (first_names workload) all.names names_first names_last
      all.moved.replay in
      record {
        holds = map shared_hold held.0;
        chain = chain_shared (first_names workload) held.0 all.names held.1;
        own = λ who.
            own_shared who held.0
            ∙ (ap (map shared_hold) (held.2 who ∙ ap (names_by who None) (by.own who)) ∙ (its_holds who).are);
        later = all_later held.0 held.3;
      }

  onward : (who : ℕ) → AreOnward no_changes (names_shown no_changes (trace_of (all.courses who))) (shared_of all.names)
  onward who =
      let came = names_came in
      lines_onward (shared_of all.names) who (all.courses who) no_changes no_changes (its_holds who).first
      (subst (λ (holds : List (Hold SharedNames)). HoldOnward no_changes holds (shared_of all.names)) (came.own who)
      (own_onward no_changes came.holds (shared_of all.names) came.chain came.later who))

pub names_handed_at_board : NamesHandedAtBoard
names_handed_at_board workload answers heaps segs tables all who =
    onward_handed (names_shown no_changes (trace_of (all.courses who))) (shared_of all.names)
    (onward workload answers heaps segs tables all who)

-- WHOSE CHANGES THERE ARE

-- holds of nobody past the last participant
none_behind : (hold : Hold SharedNames) (holds : List (Hold SharedNames)) (who : ℕ) → holds_of who (hold ∷ holds) ≡ [] → holds_of who holds ≡ []
none_behind hold holds who none = by_owner (hold.who == who) none
  where
    by_owner : (its : Bool) → cond its (hold ∷ holds_of who holds) (holds_of who holds) ≡ [] → holds_of who holds ≡ []
    by_owner true none = cc
    by_owner false none = none

not_its : (hold : Hold SharedNames) (holds : List (Hold SharedNames)) → holds_of hold.who (hold ∷ holds) ≡ [] → ⊥
not_its hold holds none =
    let some : hold ∷ holds_of hold.who holds ≡ [] =
    sym (cond-true (eqb hold.who hold.who) (hold ∷ holds_of hold.who holds) (holds_of hold.who holds) (eq-eqb hold.who hold.who refl)) ∙ none in
    cc

all_few : (count : ℕ) (holds : List (Hold SharedNames)) → ((who : ℕ) → count ≤ who → holds_of who holds ≡ [])
    → AllByRecursion (λ hold. hold.who < count) holds
all_few count [] none = tt
all_few count (hold ∷ holds) none = (
  ⊎_elim (λ (below : hold.who < count). below) (λ (beyond : count ≤ hold.who). absurd (not_its hold holds (none hold.who beyond)))
      (cases_lt hold.who count),
  all_few count holds (λ who beyond. none_behind hold holds who (none who beyond)),
)

pub names_changed_at_board : NamesChangedAtBoard
names_changed_at_board workload answers heaps segs tables all =
    let came = names_came workload answers heaps segs tables all in
    changes_are_made workload.participants all.courses came.holds (shared_of all.names) came.chain came.later
    (all_few workload.participants came.holds
    (λ who beyond. came.own who ∙ ap (held_in who) (all.no_lines who beyond))) came.own
    (λ who. (its_holds workload answers heaps segs tables all who).first)
