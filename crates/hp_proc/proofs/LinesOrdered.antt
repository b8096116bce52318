-- Lines take slots in the lock order, tell of runs with nothing in hand, and have the names in hand beside a heap only where they may.
use Rattle.std.proofs.Common.{◌≡◌, ◌∙◌, ℕ, ◌<◌, Bool, true, false, List, [], ◌∷◌, ◌++◌, filter_map, take, Option, Some, None, refl, ap, sym, subst, arith, inl, inr}
use Rattle.std.specs.Prelude.{◌⊎◌, ⊤}
use Rattle.std.specs.List.{All}
use Rattle.std.proofs.lemmas.List.Elements.{All-cons, All-nil, filter_map-append}
use Rattle.hp_base.specs.declared.limits.TheConstants.{MAX_HEAPS}
use Rattle.hp_base.specs.declared.row.Run.{Run}
use Rattle.hp_frame.specs.declared.frame.Frame.{Frame}
use Rattle.hp_frame.proofs.SpellingLemmas.{same_message}
use Rattle.hp_frame.specs.declared.message.Body.{Body}
use Rattle.hp_frame.specs.declared.message.Message.{Message}
use Rattle.hp_frame.specs.declared.message.Body.TheVariants.{Free}
use Rattle.hp_hall.specs.Mail.{MailStep, Fetches, Gives, Notes, Posts, Takes}
use Rattle.hp_hall.specs.declared.kept.Kept.{Kept}
use Rattle.hp_hall.specs.declared.kept.Kept.TheVariants.{Names}
use Rattle.hp_hall.specs.declared.slot.TheConstants.{NAMES_SLOT}
use Rattle.hp_base.specs.declared.plan.Action.{Action}
use Rattle.hp_mail.specs.declared.posted.Posted.{Posted}
use Rattle.hp_serve.specs.AskSteps.{StopsNotifying}
use Rattle.hp_serve.specs.Asking.{free_body}
use Rattle.hp_serve.specs.Frames.{Says, to_handler}
use Rattle.hp_proc.specs.Acting.{Acts}
use Rattle.hp_proc.specs.Denying.{denials_of}
use Rattle.hp_proc.specs.Doing.{Done}
use Rattle.hp_proc.specs.Doing.Done.{GaveUp, NamesRead}
use Rattle.hp_proc.specs.Halting.{ActsOn}
use Rattle.hp_proc.specs.Handing.{shared_of}
use Rattle.hp_proc.specs.LockOrder.{AreInOrderFrom, AreToldEmptyHandedFrom, ComesAfterHand, GivesNamesFirst, GivesNamesFirstFrom, IsInLockOrder, IsToldEmptyHanded, TakesNoHeapWith, TellsEmptyHanded, hand_after, rank}
use Rattle.hp_proc.specs.NamesOfLines.{AreUntold, ChangesNames, names_read}
use Rattle.hp_proc.specs.ParticipantView.{ParticipantView}
use Rattle.hp_proc.specs.SharedNames.{SharedNames}
use Rattle.hp_proc.proofs.StepsOrdered.{Allows, Along, AreBut, IsFewHand, Suits, acts_along, along_both, aside_by, low_after, names_given, rank_by, rank_of_heap, segs_by, slots}
use Rattle.hp_proc.proofs.ServesAside.{IsNoNotice}
use Rattle.hp_proc.proofs.WaitsAside.{ask_on_aside, turn_aside, wait_aside}
use Rattle.hp_zone.specs.declared.names.Names.{Names as NamesView}

-- WHAT A TRACE HAS, BY ITS PARTS

none_parts : {X : Type 0} (first rest : List X) → first ++ rest ≡ [] → (first ≡ []) × (rest ≡ [])
none_parts [] rest none = (refl, none)
none_parts (x ∷ first) rest none = cc

some_none : {X : Type 0} (x : X) (xs : List X) → x ∷ xs ≡ [] → ⊥
some_none x xs none = cc

pub read_on : (first rest : List Done) → names_read (first ++ rest) ≡ names_read first ++ names_read rest
read_on [] rest = refl
read_on (NamesRead names ∷ first) rest = ap (λ (read : List SharedNames). names ∷ read) (read_on first rest)
read_on (_ ∷ first) rest = read_on first rest

unread_parts : (first rest : List Done) → names_read (first ++ rest) ≡ [] → (names_read first ≡ []) × (names_read rest ≡ [])
unread_parts first rest none = none_parts (names_read first) (names_read rest) (sym (read_on first rest) ∙ none)

pub untold_parts : (first rest : List Done) → AreUntold (first ++ rest) → AreUntold first × AreUntold rest
untold_parts [] rest are = (tt, are)
untold_parts (done ∷ first) rest are =
    let parts = untold_parts first rest are.1 in
    ((are.0, parts.0), parts.1)

pub untold_both : (first rest : List Done) → AreUntold first → AreUntold rest → AreUntold (first ++ rest)
untold_both [] rest here there = there
untold_both (done ∷ first) rest here there = (here.0, untold_both first rest here.1 there)

-- THE LOCK ORDER, AND WHAT IS TOLD

-- with the names in hand it reads them no more, and tells of no run
abbrev IsQuiet : Bool → List ℕ → List Done → Type 0
IsQuiet names held trace = names ≡ true → (names_read trace ≡ []) × AreUntold trace

quiet_none : (held : List ℕ) (trace : List Done) → IsQuiet false held trace
quiet_none held trace = λ is. cc

module _ (names : Bool) (held more : List ℕ) (trace rest : List Done) where
  quiet_first : IsQuiet names (held ++ more) (trace ++ rest) → IsQuiet names held trace
  quiet_first ok = λ is. ((unread_parts trace rest (ok is).0).0, (untold_parts trace rest (ok is).1).0)

  quiet_rest : IsQuiet names (held ++ more) (trace ++ rest) → IsQuiet names more rest
  quiet_rest ok = λ is. ((unread_parts trace rest (ok is).0).1, (untold_parts trace rest (ok is).1).1)

rank_of_segs : rank MAX_HEAPS ≡ 2
rank_of_segs = rank_by MAX_HEAPS false true refl refl

rank_of_names : rank NAMES_SLOT ≡ 0
rank_of_names = rank_by NAMES_SLOT true false refl refl

comes_suits : Suits ComesAfterHand
comes_suits = record {
  notes = λ note hand. tt;
  fetches = λ frame hand. tt;
  gives = λ slot kept hand. tt;
  takes = λ kept hand but. subst (λ (n : ℕ). All (λ other. rank other < n) hand) (sym rank_of_segs) (low_after hand but);
  names = λ kept. All-nil (λ other. rank other < rank NAMES_SLOT);
  posts = λ to frame action posted hand body says other. tt;
  tells = λ to frame action posted. tt;
}

comes_heap : (names : Bool) (slot : ℕ) (kept : Kept) → slot < MAX_HEAPS → ComesAfterHand (Takes slot kept) (slots None names)
comes_heap false slot kept few = All-nil (λ other. rank other < rank slot)
comes_heap true slot kept few =
    All-cons (λ other. rank other < rank slot) NAMES_SLOT [] (omega (arith, rank_of_names, rank_of_heap slot few))
    (All-nil (λ other. rank other < rank slot))

comes_allows : Allows ComesAfterHand IsQuiet
comes_allows = record {
  first = quiet_first;
  rest = quiet_rest;
  inner = λ held taken given trace changes ok is. (changes.unread, changes.untold);
  once = λ held names trace ok. some_none names (names_read trace) (ok refl).0;
  heap = λ names slot kept trace few ok. comes_heap names slot kept few;
  notice = λ heap run ok. (ok refl).1.0;
}

-- a message that is no notice is none of a run
not_notice : (frame : Frame) (body : Body) (hand : List ℕ) → Says frame body → IsNoNotice body → (who number heap : ℕ) (run : Run)
    → Says frame (free_body who number heap run) → hand ≡ []
not_notice frame body hand says other who number heap run speaks = no_free body hand other (says_one frame body _ says speaks)
  where
    says_one : (frame : Frame) (body other : Body) → Says frame body → Says frame other → body ≡ other
    says_one frame body other says speaks =
        ap (λ (message : Message). message.body)
        (same_message (take frame.len frame.bytes) (to_handler body) (to_handler other) says speaks)

    no_free : (body : Body) (hand : List ℕ) → IsNoNotice body → body ≡ free_body who number heap run → hand ≡ []
    no_free (Free from its_number its_heap address len) hand other is = absurd other
    no_free _ hand other is = cc

told_suits : Suits IsToldEmptyHanded
told_suits = record {
  notes = λ note hand. tt;
  fetches = λ frame hand. tt;
  gives = λ slot kept hand. tt;
  takes = λ kept hand but. tt;
  names = λ kept. tt;
  posts = λ to frame action posted hand body says other. not_notice frame body hand says other;
  tells = λ to frame action posted who number heap run speaks. refl;
}

told_allows : Allows IsToldEmptyHanded IsQuiet
told_allows = record {
  first = quiet_first;
  rest = quiet_rest;
  inner = λ held taken given trace changes ok is. (changes.unread, changes.untold);
  once = λ held names trace ok. some_none names (names_read trace) (ok refl).0;
  heap = λ names slot kept trace few ok. tt;
  notice = λ heap run ok. (ok refl).1.0;
}

-- THE NAMES BESIDE A HEAP

-- it takes no heap, or it has not the names in hand and does not read them
abbrev IsApart : Bool → List ℕ → List Done → Type 0
IsApart names held trace = IsQuiet names held trace × ((held ≡ []) ⊎ ((names ≡ false) × (names_read trace ≡ [])))

abbrev HoldsOrReads : Bool → List ℕ → List Done → Type 0
HoldsOrReads names held trace = (held ≡ []) ⊎ ((names ≡ false) × (names_read trace ≡ []))

module _ (names : Bool) (held more : List ℕ) (trace rest : List Done) where
  apart_first : HoldsOrReads names (held ++ more) (trace ++ rest) → HoldsOrReads names held trace
  apart_first (inl none) = inl (none_parts held more none).0
  apart_first (inr free) = inr (free.0, (unread_parts trace rest free.1).0)

  apart_rest : HoldsOrReads names (held ++ more) (trace ++ rest) → HoldsOrReads names more rest
  apart_rest (inl none) = inl (none_parts held more none).1
  apart_rest (inr free) = inr (free.0, (unread_parts trace rest free.1).1)

apart_inner : (held : List ℕ) (names : SharedNames) (trace : List Done) → HoldsOrReads false held (NamesRead names ∷ trace)
    → HoldsOrReads true held trace
apart_inner held names trace (inl none) = inl none
apart_inner held names trace (inr free) = absurd (some_none names (names_read trace) free.1)

apart_heap : (names : Bool) (slot : ℕ) (kept : Kept) (trace : List Done) → HoldsOrReads names (slot ∷ []) trace
    → TakesNoHeapWith (Takes slot kept) (slots None names)
apart_heap false slot kept trace ok = All-nil (λ other. other ≡ NAMES_SLOT → slot ≡ MAX_HEAPS)
apart_heap true slot kept trace (inl none) = absurd (some_none slot [] none)
apart_heap true slot kept trace (inr free) = absurd cc

segs_apart : (hand : List ℕ) → All (λ other. other ≡ NAMES_SLOT → MAX_HEAPS ≡ MAX_HEAPS) hand
segs_apart [] = All-nil (λ other. other ≡ NAMES_SLOT → MAX_HEAPS ≡ MAX_HEAPS)
segs_apart (slot ∷ hand) = All-cons (λ other. other ≡ NAMES_SLOT → MAX_HEAPS ≡ MAX_HEAPS) slot hand (λ is. refl) (segs_apart hand)

apart_suits : Suits TakesNoHeapWith
apart_suits = record {
  notes = λ note hand. tt;
  fetches = λ frame hand. tt;
  gives = λ slot kept hand. tt;
  takes = λ kept hand but. segs_apart hand;
  names = λ kept. All-nil (λ other. other ≡ NAMES_SLOT → NAMES_SLOT ≡ MAX_HEAPS);
  posts = λ to frame action posted hand body says other. tt;
  tells = λ to frame action posted. tt;
}

apart_allows : Allows TakesNoHeapWith IsApart
apart_allows = record {
  first = λ names held more trace rest ok. (quiet_first names held more trace rest ok.0, apart_first names held more trace rest ok.1);
  rest = λ names held more trace rest ok. (quiet_rest names held more trace rest ok.0, apart_rest names held more trace rest ok.1);
  inner = λ held taken given trace changes ok. (
    λ is. (changes.unread, changes.untold),
    apart_inner held (shared_of taken) trace ok.1,
  );
  once = λ held names trace ok. some_none names (names_read trace) (ok.0 refl).0;
  heap = λ names slot kept trace few ok. apart_heap names slot kept trace ok.1;
  notice = λ heap run ok. (ok.0 refl).1.0;
}

-- AS LINES SAY IT

ordered_from : (hand ends : List ℕ) (steps : List MailStep) → Along ComesAfterHand hand ends steps → AreInOrderFrom hand steps
ordered_from hand ends [] along = tt
ordered_from hand ends (step ∷ steps) along = (along.0, ordered_from (hand_after step hand) ends steps along.1)

told_from : (hand ends : List ℕ) (steps : List MailStep) → Along IsToldEmptyHanded hand ends steps → AreToldEmptyHandedFrom hand steps
told_from hand ends [] along = tt
told_from hand ends (step ∷ steps) along = (along.0, told_from (hand_after step hand) ends steps along.1)

apart_from : (hand ends : List ℕ) (steps : List MailStep) → Along TakesNoHeapWith hand ends steps → GivesNamesFirstFrom hand steps
apart_from hand ends [] along = tt
apart_from hand ends (step ∷ steps) along = (along.0, apart_from (hand_after step hand) ends steps along.1)

-- what a line did from no heap in hand on
module _ {count : ℕ} {held : List ℕ} {doer after : ParticipantView} {trace : List Done} {steps : List MailStep} where
  pub acts_ordered : {last : Option ℕ} → Acts count None last held doer after trace steps → IsInLockOrder steps
  acts_ordered {last} acts =
      ordered_from [] (slots last false) steps
      (acts_along ComesAfterHand comes_suits IsQuiet comes_allows count false None last held doer after trace steps acts tt
      (quiet_none held trace)).0

  pub acts_told : {last : Option ℕ} → Acts count None last held doer after trace steps → TellsEmptyHanded steps
  acts_told {last} acts =
      told_from [] (slots last false) steps
      (acts_along IsToldEmptyHanded told_suits IsQuiet told_allows count false None last held doer after trace steps acts tt
      (quiet_none held trace)).0

  -- it took no heap, or it did not read the names
  pub acts_apart : Acts count None None held doer after trace steps → (held ≡ []) ⊎ (names_read trace ≡ []) → Along TakesNoHeapWith [] [] steps
  acts_apart acts (inl none) =
      (acts_along TakesNoHeapWith apart_suits IsApart apart_allows count false None None held doer after trace steps acts tt
      (quiet_none held trace, inl none)).0
  acts_apart acts (inr unread) =
      (acts_along TakesNoHeapWith apart_suits IsApart apart_allows count false None None held doer after trace steps acts tt
      (quiet_none held trace, inr (refl, unread))).0

pub names_first : (steps : List MailStep) → Along TakesNoHeapWith [] [] steps → GivesNamesFirst steps
names_first steps along = apart_from [] [] steps along

pub apart_both : (first rest : List MailStep) → Along TakesNoHeapWith [] [] first → Along TakesNoHeapWith [] [] rest
    → Along TakesNoHeapWith [] [] (first ++ rest)
apart_both first rest here there = along_both TakesNoHeapWith [] [] [] first rest here there

-- WHERE IT STOPS

module _ (count : ℕ) where
  stopped_along : (names : Bool) (denies_of doer after : ParticipantView) (heap : ℕ) (run : Run) (steps : List MailStep)
      → StopsNotifying (denials_of denies_of.context.standing) count doer.party after.party heap run steps
      → Along ComesAfterHand (slots None names) (slots None names) steps
  stopped_along names teller doer after heap run steps (StopsNotifying.no_number out same none) =
      subst (Along ComesAfterHand (slots None names) (slots None names)) (sym none) refl
  stopped_along names teller doer after heap run steps (StopsNotifying.stops frame posted since waited says waits are) =
      subst (Along ComesAfterHand (slots None names) (slots None names)) (sym are) (
        tt,
        (
          tt,
          (aside_by ComesAfterHand comes_suits IsQuiet comes_allows count None names waited waited tt refl
              (wait_aside (denials_of teller.context.standing) count _ true _ after.party waited None waits)).0,
        ),
      )

  on_along : (names : Bool) (hand last : Option ℕ) (held : List ℕ) (doer after : ParticipantView) (trace : List Done) (steps : List MailStep)
      → ActsOn count hand last held doer after trace steps → IsFewHand hand → IsQuiet names held trace
      → Along ComesAfterHand (slots hand names) (slots last names) steps × IsFewHand last
  on_along names _ _ _ _ _ _ _ (ActsOn.acts hand behind held doer after trace steps acts) few ok =
      acts_along ComesAfterHand comes_suits IsQuiet comes_allows count names hand behind held doer after trace steps acts few ok
  on_along names _ _ _ _ _ _ _ (ActsOn.turn_stops until doer after steps turned) few ok =
      aside_by ComesAfterHand comes_suits IsQuiet comes_allows count None names steps steps tt refl
      (turn_aside (denials_of doer.context.standing) count until doer.party after steps None turned)
  on_along names _ _ _ _ _ _ _ (ActsOn.asks_nothing doer heap taken) few ok =
      segs_by ComesAfterHand comes_suits IsQuiet comes_allows count (Some heap) names taken taken few
  on_along names _ _ _ _ _ _ _ (ActsOn.asks_on doer after asked run steps does) few ok =
      aside_by ComesAfterHand comes_suits IsQuiet comes_allows count (Some asked.heap) names steps steps few refl
      (ask_on_aside (denials_of doer.context.standing) count doer.party after asked steps run true does)
  on_along names _ _ _ _ _ _ _ (ActsOn.attaches_not doer taken watched) few ok =
      segs_by ComesAfterHand comes_suits IsQuiet comes_allows count None names taken taken tt
  on_along names _ _ _ _ _ _ _ (ActsOn.notice_stops doer after heap run steps stops) few ok =
      (stopped_along names doer doer (record doer { party = after }) heap run steps stops, tt)
  on_along true _ _ _ _ _ _ _ (ActsOn.holds_names held doer after taken given trace steps acts changes) few ok =
      absurd (some_none (shared_of taken) (names_read trace) (ok refl).0)
  on_along false _ _ _ _ _ _ _ (ActsOn.holds_names held doer after taken given trace steps acts changes) few ok =
      let inner = on_along true None None held doer after trace steps acts tt (λ is. (changes.unread, changes.untold)) in (
        (
          comes_suits.names (Names taken),
          along_both ComesAfterHand (NAMES_SLOT ∷ []) (NAMES_SLOT ∷ []) [] steps (Gives NAMES_SLOT (Names given) ∷ []) inner.0 (tt, names_given),
        ),
        tt,
      )
  on_along names _ _ _ _ _ _ _ (ActsOn.and_then hand between last held more doer mid after first rest before behind here there) few ok =
      let one = acts_along ComesAfterHand comes_suits IsQuiet comes_allows count names hand between held doer mid first before here few
      (quiet_first names held more first rest ok) in
      let two = on_along names between last more mid after rest behind there one.1 (quiet_rest names held more first rest ok) in
      (along_both ComesAfterHand (slots hand names) (slots between names) (slots last names) before behind one.0 two.0, two.1)
  on_along names _ _ _ _ _ _ _ (ActsOn.ends_with hand between last held doer mid after first rest before behind here there) few ok =
      let one = on_along names hand between held doer mid first before here few
      (λ is. ((unread_parts first rest (ok is).0).0, (untold_parts first rest (ok is).1).0)) in
      let two = acts_along ComesAfterHand comes_suits IsQuiet comes_allows count names between last [] mid after rest behind there one.1
      (λ is. ((unread_parts first rest (ok is).0).1, (untold_parts first rest (ok is).1).1)) in
      (along_both ComesAfterHand (slots hand names) (slots between names) (slots last names) before behind one.0 two.0, two.1)

  pub halts_ordered : {last : Option ℕ} {held : List ℕ} {doer after : ParticipantView} {trace : List Done} {steps : List MailStep}
      → ActsOn count None last held doer after trace steps → IsInLockOrder steps
  halts_ordered {last} {held} {doer} {after} {trace} {steps} stopped =
      ordered_from [] (slots last false) steps (on_along false None last held doer after trace steps stopped tt (quiet_none held trace)).0
