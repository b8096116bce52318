-- The names that a participant was handed after it awaited first lines of another begin with all names that these were shown.
use Rattle.std.proofs.Common.{◌≡◌, ◌∙◌, ℕ, ◌+◌, ◌<◌, ◌≤◌, List, [], ◌∷◌, ◌++◌, append-nil, Contains, drop, length, take, inl, inr, refl, sym, ap, subst, arith}
use Rattle.std.specs.List.{AllByRecursion, filter_map}
use Rattle.std.proofs.lemmas.Grind.{flat_map-append}
use Rattle.std.proofs.lemmas.List.{take-append-drop, take_at}
use Rattle.hp_board.specs.Closing.{history_at}
use Rattle.hp_board.specs.Lines.{HoldsLines, IsAwaited}
use Rattle.hp_board.specs.Views.{BeginsWith}
use Rattle.hp_board.specs.declared.view.LinesDone.{LinesDone}
use Rattle.hp_board.specs.declared.view.Mine.{Mine}
use Rattle.hp_hall.specs.declared.kept.Kept.TheVariants.{Names}
use Rattle.hp_hall.specs.declared.slot.TheConstants.{NAMES_SLOT}
use Rattle.hp_heap.proofs.AllocFacts.ChoiceLaw.{Contains-cases, Contains-none}
use Rattle.hp_heap.specs.History.{HeapView}
use Rattle.hp_maps.specs.declared.table.Table.{Table}
use Rattle.hp_script.specs.declared.answer.Answer.{Answer}
use Rattle.hp_script.specs.declared.workload.Workload.{Workload}
use Rattle.hp_segs.specs.SegsView.{SegsView}
use Rattle.hp_weave.specs.Holds.{Hold}
use Rattle.hp_zone.specs.declared.name_change.NameChange.{NameChange}
use Rattle.hp_zone.specs.declared.names.Names.{Names as NamesView}
use Rattle.hp_zone.specs.declared.zone.ZoneChange.{ZoneChange}
use Rattle.hp_proc.specs.Doing.{Done}
use Rattle.hp_proc.specs.Doing.Done.{NamesRead}
use Rattle.hp_proc.specs.Handed.{AreFrontNames, names_shown}
use Rattle.hp_proc.specs.Handing.{shared_of}
use Rattle.hp_proc.specs.LinesDone.{Course, trace_of}
use Rattle.hp_proc.specs.NamesLog.{change_made}
use Rattle.hp_proc.specs.SharedNames.{SharedNames, no_changes}
use Rattle.thm_moved.proofs.AwaitedAtBoard.{first_are, its, looked_up, mine}
use Rattle.thm_moved.proofs.CameToBoard.{came}
use Rattle.thm_moved.proofs.NamesAtBoard.{its_holds, names_came}
use Rattle.thm_run.proofs.NamesEnd.NamesChain.{AreLater, AreOnward, GivesLater, HoldOnward, front_is, later_after, later_on, later_same, lines_onward, onward_whole, own_onward}
use Rattle.thm_run.proofs.NamesEnd.LinesHeld.{held_for, held_in}
use Rattle.thm_run.specs.Handing.{ReadsFirst}
use Rattle.thm_moved.specs.AtBoard.{AllCameToTheirSeats, HasLooked, HasTold, given_by, given_last}

-- HOLDS

-- what holds gave back last
abbrev last_given : SharedNames → List (Hold SharedNames) → SharedNames
last_given low [] = low
last_given low (hold ∷ holds) = last_given hold.given holds

-- holds from some names on are later than these
whole_onward : (low : SharedNames) (holds : List (Hold SharedNames)) (high : SharedNames) → AllByRecursion GivesLater holds
    → HoldOnward low holds high → AreLater low high
whole_onward low [] high later on = on
whole_onward low (hold ∷ holds) high later on =
    later_on low hold.taken high on.0 (later_on hold.taken hold.given high later.0 (whole_onward hold.given holds high later.1 on.1))

-- the first ones go on to the last ones of all
less_onward : (low : SharedNames) (first rest : List (Hold SharedNames)) (high : SharedNames) → AllByRecursion GivesLater rest
    → HoldOnward low (first ++ rest) high → HoldOnward low first high
less_onward low [] rest high later on = whole_onward low rest high later on
less_onward low (hold ∷ first) rest high later on = (on.0, less_onward hold.given first rest high later on.1)

-- and to what they gave back last themselves
front_onward : (low : SharedNames) (first rest : List (Hold SharedNames)) (high : SharedNames) → HoldOnward low (first ++ rest) high
    → HoldOnward low first (last_given low first)
front_onward low [] rest high on = later_same low
front_onward low (hold ∷ first) rest high on = (on.0, front_onward hold.given first rest high on.1)

-- from where the others go on
rest_onward : (low : SharedNames) (first rest : List (Hold SharedNames)) (high : SharedNames) → HoldOnward low (first ++ rest) high
    → HoldOnward (last_given low first) rest high
rest_onward low [] rest high on = on
rest_onward low (hold ∷ first) rest high on = rest_onward hold.given first rest high on.1

-- LINES

pub last_both : (known : SharedNames) (courses more : List Course)
    → given_last known (courses ++ more) ≡ given_last (given_last known courses) more
last_both known [] more = refl
last_both known (course ∷ courses) more = last_both (given_by known course.trace) courses more

module _ (who : ℕ) where
  -- what lines give is later than what they take
  held_later : (trace : List Done) → AllByRecursion GivesLater (held_for who trace)
  held_later [] = tt
  held_later (NamesRead names ∷ rest) = (later_after names (filter_map change_made rest), tt)
  held_later (_ ∷ rest) = tt

  both_later : (first rest : List (Hold SharedNames)) → AllByRecursion GivesLater first → AllByRecursion GivesLater rest
      → AllByRecursion GivesLater (first ++ rest)
  both_later [] rest one two = two
  both_later (hold ∷ first) rest one two = (one.0, both_later first rest one.1 two)

  lines_later : (courses : List Course) → AllByRecursion GivesLater (held_in who courses)
  lines_later [] = tt
  lines_later (course ∷ courses) = both_later (held_for who course.trace) (held_in who courses) (held_later course.trace) (lines_later courses)

  -- what their holds gave back last is what they did
  line_gave : (known : SharedNames) (trace : List Done) (more : List (Hold SharedNames))
      → last_given known (held_for who trace ++ more) ≡ last_given (given_by known trace) more
  line_gave known [] more = refl
  line_gave known (NamesRead names ∷ rest) more = refl
  line_gave known (_ ∷ rest) more = refl

  lines_gave : (known : SharedNames) (courses : List Course) → last_given known (held_in who courses) ≡ given_last known courses
  lines_gave known [] = refl
  lines_gave known (course ∷ courses) =
      line_gave known course.trace (held_in who courses) ∙ lines_gave (given_by known course.trace) courses

  firsts : (first rest : List Course) → AllByRecursion (λ course. ReadsFirst course.trace) (first ++ rest)
      → AllByRecursion (λ course. ReadsFirst course.trace) first
  firsts [] rest all = tt
  firsts (course ∷ first) rest all = (all.0, firsts first rest all.1)

  held_both : (first rest : List Course) → held_in who (first ++ rest) ≡ held_in who first ++ held_in who rest
  held_both first rest = flat_map-append (λ (course : Course). held_for who course.trace) first rest

  -- so of first lines: they go on to what they gave back last, which all of them go on from
  module _ (courses first rest : List Course) (high : SharedNames) (are : courses ≡ first ++ rest)
      (on : HoldOnward no_changes (held_in who courses) high) where
    both : HoldOnward no_changes (held_in who first ++ held_in who rest) high
    both =
        subst (λ (holds : List (Hold SharedNames)). HoldOnward no_changes holds high) (ap (held_in who) are ∙ held_both first rest) on

    first_on : HoldOnward no_changes (held_in who first) (given_last no_changes first)
    first_on =
        subst (HoldOnward no_changes (held_in who first)) (lines_gave no_changes first)
        (front_onward no_changes (held_in who first) (held_in who rest) high both)

    gave_more : AreLater (given_last no_changes first) (given_last no_changes courses)
    gave_more =
        let rest_on : HoldOnward (given_last no_changes first) (held_in who rest) high =
        subst (λ (low : SharedNames). HoldOnward low (held_in who rest) high) (lines_gave no_changes first)
        (rest_onward no_changes (held_in who first) (held_in who rest) high both) in
        let further : HoldOnward (given_last no_changes first) (held_in who rest) (last_given (given_last no_changes first) (held_in who rest)) =
        front_onward (given_last no_changes first) (held_in who rest) [] high
        (subst (λ (holds : List (Hold SharedNames)). HoldOnward (given_last no_changes first) holds high) (sym (append-nil (held_in who rest))) rest_on)
        in
        let last : last_given (given_last no_changes first) (held_in who rest) ≡ given_last no_changes courses =
        lines_gave (given_last no_changes first) rest ∙ (sym (last_both no_changes first rest) ∙ ap (given_last no_changes) (sym are)) in
        subst (AreLater (given_last no_changes first)) last
        (whole_onward (given_last no_changes first) (held_in who rest) (last_given (given_last no_changes first) (held_in who rest))
        (lines_later rest) further)

-- names that are shown one after another are earlier than the last ones
onward_has : (low : SharedNames) (shown : List SharedNames) (high : SharedNames) → AreOnward low shown high → (names : SharedNames)
    → Contains shown names → AreLater names high
onward_has low [] high on names has = absurd (Contains-none names has)
onward_has low (one ∷ shown) high on names has = elim (Contains-cases one names shown has) [
  | inl is ↦ subst (λ (names : SharedNames). AreLater names high) is (onward_whole one shown high on.1)
  | inr later ↦ onward_has one shown high on.1 names later
]

-- WHAT WAS MARKED

-- a list that begins with as much of another as one that this begins with has, begins with that one
marked_front : {A : Type 0} (mark : ℕ) (value whole early : List A) → BeginsWith value (take mark whole) → BeginsWith whole early
    → mark ≡ length early → BeginsWith value early
marked_front mark value whole early begins (rest, is) many =
    subst (BeginsWith value)
    (ap (λ (n : ℕ). take n whole) many ∙ (ap (take (length early)) is ∙ take_at early rest (length early) refl)) begins

-- AT A BOARD

module _ (workload : Workload) (answers : List Answer) (heaps : List HeapView) (segs : SegsView) (tables : List Table)
    (all : AllCameToTheirSeats workload answers heaps segs tables) where
  its_onward : (who : ℕ) → HoldOnward no_changes (held_in who (all.courses who)) (shared_of all.names)
  its_onward who =
      let by = names_came workload answers heaps segs tables all in
      subst (λ (holds : List (Hold SharedNames)). HoldOnward no_changes holds (shared_of all.names)) (by.own who)
      (own_onward no_changes by.holds (shared_of all.names) by.chain by.later who)

  module _ (other lines : ℕ) (own : Mine) (mark : LinesDone) (told : HasTold other (all.courses other) own mark)
      (few : lines ≤ mark.lines) where
    early_on : HoldOnward no_changes (held_in other told.early) (given_last no_changes told.early)
    early_on = first_on other (all.courses other) told.early told.late (shared_of all.names) told.are (its_onward other)

    abbrev front : List Course
    front = take lines told.early

    split : told.early ≡ front ++ drop lines told.early
    split = sym (take-append-drop lines told.early)

    front_holds : HoldOnward no_changes (held_in other front) (given_last no_changes told.early)
    front_holds =
        less_onward no_changes (held_in other front) (held_in other (drop lines told.early)) (given_last no_changes told.early)
        (lines_later other (drop lines told.early))
        (subst (λ (holds : List (Hold SharedNames)). HoldOnward no_changes holds (given_last no_changes told.early))
        (ap (held_in other) split ∙ held_both other front (drop lines told.early)) early_on)

    front_reads : AllByRecursion (λ course. ReadsFirst course.trace) front
    front_reads =
        firsts other front (drop lines told.early)
        (subst (AllByRecursion (λ course. ReadsFirst course.trace)) split
        (firsts other told.early told.late
        (subst (AllByRecursion (λ course. ReadsFirst course.trace)) told.are (its_holds workload answers heaps segs tables all other).first)))

    front_shown : AreOnward no_changes (names_shown no_changes (trace_of front)) (given_last no_changes told.early)
    front_shown =
        lines_onward (given_last no_changes told.early) other front no_changes no_changes front_reads front_holds

    -- names that hold what was told begin with those that these lines were shown
    names_on : (view : NamesView) (shown : SharedNames) → HoldsLines NAMES_SLOT own mark (Names view)
        → own.zones ≡ (given_last no_changes (all.courses other)).zones → own.names ≡ (given_last no_changes (all.courses other)).heaps
        → Contains (names_shown no_changes (trace_of front)) shown → AreFrontNames (shared_of view) shown
    names_on view shown holds zones names has =
        let gave = gave_more other (all.courses other) told.early told.late (shared_of all.names) told.are (its_onward other) in
        let before = onward_has no_changes (names_shown no_changes (trace_of front)) (given_last no_changes told.early) front_shown shown has in
        let seen : AreLater (given_last no_changes told.early) (shared_of view) =
        record {
          zones = marked_front mark.zones view.zones.log own.zones (given_last no_changes told.early).zones holds.0
              (subst (λ (whole : List ZoneChange). BeginsWith whole (given_last no_changes told.early).zones) (sym zones) gave.zones)
              told.zones;
          heaps = marked_front mark.names view.heaps.log own.names (given_last no_changes told.early).heaps holds.1
              (subst (λ (whole : List NameChange). BeginsWith whole (given_last no_changes told.early).heaps) (sym names) gave.heaps)
              told.names;
        } in
        let later = later_on shown (given_last no_changes told.early) (shared_of view) before seen in
        record {
          zones = front_is view.zones.log shown.zones later.zones;
          heaps = front_is view.heaps.log shown.heaps later.heaps;
        }

  -- what one participant was handed since it looked up another's first lines
  module _ (who other place lines : ℕ) (below : who < workload.participants) (there : other < workload.participants)
      (looked : HasLooked who place other lines (all.courses who) (mine workload answers heaps segs tables all who other below there).mine) where
    is : IsAwaited (history_at heaps) (mine workload answers heaps segs tables all who other below there).mine
        (its workload answers heaps segs tables all who other below there).mine looked.awaited
    is = looked_up workload answers heaps segs tables all who other below there place lines looked

    few : lines ≤ is.mark.lines
    few =
        let enough = looked.enough in
        let many = is.lines in
        omega (arith, enough, many)

    told : HasTold other (all.courses other) (its workload answers heaps segs tables all who other below there).mine is.mark
    told = (came workload answers heaps segs tables all other there).told is.mark is.told

    pub names_since : (shown read : SharedNames) (first rest : List Done)
        → Contains (names_shown no_changes (trace_of (take lines (all.courses other)))) shown
        → trace_of (drop place (all.courses who)) ≡ first ++ NamesRead read ∷ rest → AreFrontNames read shown
    names_since shown read first rest has comes =
        let came_two = came workload answers heaps segs tables all other there in
        let got = looked.names read first rest comes in
        let front = first_are other lines (all.courses other) (its workload answers heaps segs tables all who other below there).mine is.mark told few in
        subst (λ (names : SharedNames). AreFrontNames names shown) got.1
        (names_on other lines (its workload answers heaps segs tables all who other below there).mine is.mark told few got.0 shown
        (is.taken NAMES_SLOT (Names got.0) got.2) came_two.zones came_two.names
        (subst (λ (l : List Course). Contains (names_shown no_changes (trace_of l)) shown) front has))
