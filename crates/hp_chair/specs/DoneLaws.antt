-- What steps make of what a seat knows, those of one course after those of another.
use Rattle.std.proofs.Common.{◌≡◌, ℕ, List, [], ◌∷◌, ◌++◌, map, length, Option, refl, sym, ap, ap₂, ◌∙◌}
use Rattle.std.specs.List.{fold}
use Rattle.std.proofs.lemmas.Grind.{flat_map-append}
use Rattle.std.proofs.lemmas.List.{append-nil, append_assoc}
use Rattle.std.proofs.lemmas.List.Sums.{fold-append}
use Rattle.hp_heap.specs.declared.entry.Entry.{Entry}
use Rattle.hp_hall.specs.Mail.{MailStep}
use Rattle.hp_hall.specs.declared.kept.Kept.{Kept}
use Rattle.hp_zone.specs.declared.name_change.NameChange.{NameChange}
use Rattle.hp_zone.specs.declared.zone.ZoneChange.{ZoneChange}
use Rattle.hp_board.specs.declared.view.Awaited.{Awaited}
use Rattle.hp_board.specs.declared.view.LinesDone.{LinesDone}
use Rattle.hp_board.specs.declared.view.Mine.{Mine}
use Rattle.hp_board.specs.declared.view.Move.{Move}
use Rattle.hp_chair.specs.DoneBy.{IsDoneBy, adds, changes_after, entries_by, hand_of, looks_at, looks_by, looks_in, marks_at, marks_by, tells_in, zones_after}
use Rattle.hp_chair.specs.Steps.{hand_after, in_hand, move_in, moves_in}

-- what is in hand after steps and further ones
pub in_hand-append : (slot : ℕ) (kept : Option Kept) (steps more : List MailStep) → in_hand slot kept (steps ++ more) ≡ in_hand slot (in_hand slot kept steps) more
in_hand-append slot kept [] more = refl
in_hand-append slot kept (step ∷ steps) more = in_hand-append slot (hand_after slot step kept) steps more

-- what stands when so many lines of another are found done, once these entries and moves were made
abbrev pub look_of : List (ℕ × Entry) → List Move → ℕ → Awaited
look_of made moves lines = record { lines = lines; entries = length made; moves = length moves }

-- what stands when so many lines are told to be done, once these entries were made and these changes seen
abbrev pub mark_of : List (ℕ × Entry) → List ZoneChange → List NameChange → ℕ → LinesDone
mark_of made zones changes lines = record { lines = lines; entries = length made; zones = length zones; names = length changes }

-- no step
pub done_none : (mine : Mine) → IsDoneBy mine mine []
done_none mine = record {
  hand = λ slot. refl;
  moves = sym (append-nil mine.moves);
  made = sym (append-nil mine.made);
  zones = refl;
  changes = refl;
  looked = refl;
  told = refl;
}

-- two lists of which each goes on from the one before
more_on : {X : Type 0} (a b c first second both : List X) → b ≡ a ++ first → c ≡ b ++ second → first ++ second ≡ both → c ≡ a ++ both
more_on a b c first second both here next all =
    next ∙ ap (λ l. l ++ second) here ∙ append_assoc a first second ∙ ap (λ l. a ++ l) all

-- the entries of steps and further ones
pub entries_by-append : (hand : ℕ → Option Kept) (steps more : List MailStep)
    → entries_by hand (steps ++ more) ≡ entries_by hand steps ++ entries_by (λ slot. in_hand slot (hand slot) steps) more
entries_by-append hand [] more = refl
entries_by-append hand (step ∷ steps) more =
    ap (λ l. adds hand step ++ l) (entries_by-append (λ slot. hand_after slot step (hand slot)) steps more)
    ∙ sym (append_assoc (adds hand step) (entries_by (λ slot. hand_after slot step (hand slot)) steps)
    (entries_by (λ slot. in_hand slot (hand_after slot step (hand slot)) steps) more))

-- the looks of steps and further ones, and what was told in them
looks_by-append : (mine : Mine) (before steps more : List MailStep)
    → looks_by mine before (steps ++ more) ≡ looks_by mine (before ++ steps) more ++ looks_by mine before steps
looks_by-append mine before [] more =
    ap (λ l. looks_by mine l more) (sym (append-nil before)) ∙ sym (append-nil (looks_by mine (before ++ []) more))
looks_by-append mine before (step ∷ steps) more =
    ap (λ l. l ++ looks_at mine before step) (looks_by-append mine (before ++ step ∷ []) steps more)
    ∙ append_assoc (looks_by mine ((before ++ step ∷ []) ++ steps) more) (looks_by mine (before ++ step ∷ []) steps) (looks_at mine before step)
    ∙ ap (λ l. looks_by mine l more ++ (looks_by mine (before ++ step ∷ []) steps ++ looks_at mine before step)) (append_assoc before (step ∷ []) steps)

marks_by-append : (mine : Mine) (before steps more : List MailStep)
    → marks_by mine before (steps ++ more) ≡ marks_by mine (before ++ steps) more ++ marks_by mine before steps
marks_by-append mine before [] more =
    ap (λ l. marks_by mine l more) (sym (append-nil before)) ∙ sym (append-nil (marks_by mine (before ++ []) more))
marks_by-append mine before (step ∷ steps) more =
    ap (λ l. l ++ marks_at mine before step) (marks_by-append mine (before ++ step ∷ []) steps more)
    ∙ append_assoc (marks_by mine ((before ++ step ∷ []) ++ steps) more) (marks_by mine (before ++ step ∷ []) steps) (marks_at mine before step)
    ∙ ap (λ l. marks_by mine l more ++ (marks_by mine (before ++ step ∷ []) steps ++ marks_at mine before step)) (append_assoc before (step ∷ []) steps)

-- from a state after steps, further steps leave what they leave after these
module _ (old mid : Mine) (first : List MailStep) (here : IsDoneBy old mid first) where
  made_on : (more : List MailStep) → mid.made ++ entries_by (hand_of mid) more ≡ old.made ++ entries_by (hand_of old) (first ++ more)
  made_on more =
      let hands : hand_of mid ≡ (λ slot. in_hand slot (hand_of old slot) first) = λ i slot. (here.hand slot) i in
      more_on old.made mid.made (mid.made ++ entries_by (hand_of mid) more) (entries_by (hand_of old) first) (entries_by (hand_of mid) more)
      (entries_by (hand_of old) (first ++ more)) here.made refl
      (ap (λ (hand : ℕ → Option Kept). entries_by (hand_of old) first ++ entries_by hand more) hands ∙ sym (entries_by-append (hand_of old) first more))

  moves_on : (more : List MailStep) → mid.moves ++ moves_in more ≡ old.moves ++ moves_in (first ++ more)
  moves_on more =
      more_on old.moves mid.moves (mid.moves ++ moves_in more) (moves_in first) (moves_in more) (moves_in (first ++ more)) here.moves refl
      (sym (flat_map-append move_in first more))

  zones_on : (more : List MailStep) → fold zones_after mid.zones more ≡ fold zones_after old.zones (first ++ more)
  zones_on more = ap (λ (zones : List ZoneChange). fold zones_after zones more) here.zones ∙ sym (fold-append zones_after old.zones first more)

  changes_on : (more : List MailStep) → fold changes_after mid.names more ≡ fold changes_after old.names (first ++ more)
  changes_on more = ap (λ (names : List NameChange). fold changes_after names more) here.changes ∙ sym (fold-append changes_after old.names first more)

  looks_on : (before : List MailStep) (step : MailStep) → looks_at mid before step ≡ looks_at old (first ++ before) step
  looks_on before step =
      ap₂ (λ (made : List (ℕ × Entry)) (moves : List Move). map (λ (look : ℕ × ℕ). (look.0, look_of made moves look.1)) (looks_in step))
      (made_on before)
      (moves_on before)

  marks_on : (before : List MailStep) (step : MailStep) → marks_at mid before step ≡ marks_at old (first ++ before) step
  marks_on before step =
      ap₂ (λ (made : List (ℕ × Entry)) (zones : List ZoneChange). map (mark_of made zones (fold changes_after mid.names before)) (tells_in step))
      (made_on before) (zones_on before)
      ∙ ap
      (λ (changes : List NameChange). map (mark_of (old.made ++ entries_by (hand_of old) (first ++ before))
      (fold zones_after old.zones (first ++ before)) changes) (tells_in step)) (changes_on before)

  looks_later : (before more : List MailStep) → looks_by mid before more ≡ looks_by old (first ++ before) more
  looks_later before [] = refl
  looks_later before (step ∷ more) =
      ap₂ (λ (l : List (ℕ × Awaited)) (m : List (ℕ × Awaited)). l ++ m)
      (looks_later (before ++ step ∷ []) more ∙ ap (λ l. looks_by old l more) (sym (append_assoc first before (step ∷ []))))
      (looks_on before step)

  marks_later : (before more : List MailStep) → marks_by mid before more ≡ marks_by old (first ++ before) more
  marks_later before [] = refl
  marks_later before (step ∷ more) =
      ap₂ (λ (l : List LinesDone) (m : List LinesDone). l ++ m)
      (marks_later (before ++ step ∷ []) more ∙ ap (λ l. marks_by old l more) (sym (append_assoc first before (step ∷ []))))
      (marks_on before step)

  module _ (new : Mine) (second : List MailStep) (next : IsDoneBy mid new second) where
    looked : new.awaited ≡ looks_by old [] (first ++ second) ++ old.awaited
    looked =
        next.looked
        ∙ ap₂ (λ (l : List (ℕ × Awaited)) (m : List (ℕ × Awaited)). l ++ m)
        (looks_later [] second ∙ ap (λ l. looks_by old l second) (append-nil first)) here.looked
        ∙ sym (append_assoc (looks_by old first second) (looks_by old [] first) old.awaited)
        ∙ ap (λ l. l ++ old.awaited) (sym (looks_by-append old [] first second))

    told : new.done ≡ marks_by old [] (first ++ second) ++ old.done
    told =
        next.told
        ∙ ap₂ (λ (l : List LinesDone) (m : List LinesDone). l ++ m)
        (marks_later [] second ∙ ap (λ l. marks_by old l second) (append-nil first)) here.told
        ∙ sym (append_assoc (marks_by old first second) (marks_by old [] first) old.done)
        ∙ ap (λ l. l ++ old.done) (sym (marks_by-append old [] first second))

    pub done_then : IsDoneBy old new (first ++ second)
    done_then = record {
      hand = λ slot.
          next.hand slot ∙ ap (λ (kept : Option Kept). in_hand slot kept second) (here.hand slot)
          ∙ sym (in_hand-append slot (hand_of old slot) first second);
      moves = next.moves ∙ moves_on second;
      made = next.made ∙ made_on second;
      zones = next.zones ∙ zones_on second;
      changes = next.changes ∙ changes_on second;
      looked = looked;
      told = told;
    }
