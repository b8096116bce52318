-- What a participant looked up of another's lines stands on as histories and views go on.
use Rattle.std.proofs.Common.{◌≡◌, ◌∙◌, ◌⊎◌, ⊎_elim, ℕ, ◌<◌, ◌≤◌, List, ◌++◌, length, take, drop, refl, sym, ap, subst, arith}
use Rattle.std.specs.List.{Contains}
use Rattle.std.proofs.lemmas.List.{append_assoc, take-append-drop, take-append-le}
use Rattle.hp_heap.specs.declared.entry.Entry.{Entry}
use Rattle.hp_heap.specs.History.{entries_of}
use Rattle.hp_hall.specs.declared.kept.Kept.{Kept}
use Rattle.hp_hall.specs.declared.kept.Kept.TheVariants.{Heap, Names, Segments}
use Rattle.hp_board.specs.Lines.{HoldsLines, IsAwaited, IsMarkOf, StandsBefore, made_by_then}
use Rattle.hp_board.specs.Views.{BeginsWith, lines_told, values_of}
use Rattle.hp_board.specs.declared.view.Awaited.{Awaited}
use Rattle.hp_board.specs.declared.view.LinesDone.{LinesDone}
use Rattle.hp_board.specs.declared.view.Mine.{Mine}
use Rattle.hp_board.specs.declared.view.Move.TheVariants.{Took}
use Rattle.hp_board.specs.declared.words.TheConstants.{SLOTS}
use Rattle.hp_board.proofs.Fronts.{front_itself, front_length}
use Rattle.hp_board.proofs.Pairs.{values_of-append}

-- a view goes on from another: nothing that it made, saw of the names or told of lines is lost
pub record GoesOn (old new : Mine) : Type 0 where
  pub who : new.who ≡ old.who
  pub made : BeginsWith new.made old.made
  pub zones : BeginsWith new.zones old.zones
  pub names : BeginsWith new.names old.names
  pub done : (mark : LinesDone) → Contains old.done mark → Contains new.done mark

pub goes_same : (mine : Mine) → GoesOn mine mine
goes_same mine = record {
  who = refl;
  made = front_itself mine.made;
  zones = front_itself mine.zones;
  names = front_itself mine.names;
  done = λ mark has. has;
}

-- the first of a list are those of one that goes on
take_front : {A : Type 0} (n : ℕ) (old new : List A) → BeginsWith new old → n ≤ length old → take n new ≡ take n old
take_front n old new more within = ap (take n) more.1 ∙ take-append-le n old more.0 within

-- and what they are for one number begin with the first of those
pub values_front : {A : Type 0} (slot n : ℕ) (pairs : List (ℕ × A)) → BeginsWith (values_of slot pairs) (values_of slot (take n pairs))
values_front slot n pairs =
    (values_of slot (drop n pairs), ap (values_of slot) (sym (take-append-drop n pairs)) ∙ values_of-append slot (take n pairs) (drop n pairs))

module _ (old new : Mine) (goes : GoesOn old new) where
  -- what was made by then stays that
  made_still : (slot : ℕ) (mark : LinesDone) → mark.entries ≤ length old.made → made_by_then slot mark new ≡ made_by_then slot mark old
  made_still slot mark within = ap (values_of slot) (take_front mark.entries old.made new.made goes.made within)

  -- a value that holds what was made in lines holds it
  pub holds_on : (slot : ℕ) (mark : LinesDone) (value : Kept) → IsMarkOf old mark → HoldsLines slot old mark value → HoldsLines slot new mark value
  holds_on slot mark (Heap heap pen) within holds =
      subst (λ (who : ℕ). BeginsWith (entries_of who heap.history) (made_by_then slot mark new)) (sym goes.who)
      (subst (BeginsWith (entries_of old.who heap.history)) (sym (made_still slot mark within.entries)) holds)
  holds_on slot mark (Segments segs) within holds = tt
  holds_on slot mark (Names names) within holds = (
    subst (BeginsWith names.zones.log) (sym (take_front mark.zones old.zones new.zones goes.zones within.zones)) holds.0,
    subst (BeginsWith names.heaps.log) (sym (take_front mark.names old.names new.names goes.names within.names)) holds.1,
  )

  -- a mark is within what a later view made and saw
  pub mark_on : lines_told old ≤ lines_told new → (mark : LinesDone) → IsMarkOf old mark → IsMarkOf new mark
  mark_on rises mark is = record {
    lines = let low = is.lines in omega (arith, low, rises);
    entries = let low = is.entries in let long = front_length new.made old.made goes.made in omega (arith, low, long);
    zones = let low = is.zones in let long = front_length new.zones old.zones goes.zones in omega (arith, low, long);
    names = let low = is.names in let long = front_length new.names old.names goes.names in omega (arith, low, long);
  }

module _ (histories later : ℕ → List Entry) (grows : (slot : ℕ) → slot < SLOTS → BeginsWith (later slot) (histories slot))
    (mine mine' other other' : Mine) (goes : GoesOn mine mine') (their : GoesOn other other') (awaited : Awaited) (is : IsAwaited histories mine other awaited)
    (within : awaited.entries ≤ length mine.made) (mark : IsMarkOf other is.mark) where
  stands_on : (slot : ℕ) → slot < SLOTS → StandsBefore slot (later slot) mine' other' is.mark awaited
  stands_on slot inside =
      let was = is.before slot inside in
      let more = grows slot inside in
      record {
        front = was.front;
        back = was.back ++ more.0;
        split = more.1 ∙ (ap (λ l. l ++ more.0) was.split ∙ append_assoc was.front was.back more.0);
        stood =
            subst (λ (who : ℕ). BeginsWith (entries_of who was.front) (made_by_then slot is.mark other')) (sym their.who)
            (subst (BeginsWith (entries_of other.who was.front)) (sym (made_still other other' their slot is.mark mark.entries)) was.stood);
        later =
            subst (λ (who : ℕ). BeginsWith (values_of slot (take awaited.entries mine'.made)) (entries_of who was.front)) (sym goes.who)
            (subst (λ l. BeginsWith l (entries_of mine.who was.front)) (sym (ap (values_of slot) (take_front awaited.entries mine.made mine'.made goes.made within))) was.later);
      }

  -- what was taken since holds the lines, also what comes to it
  pub awaited_on : ((slot : ℕ) (value : Kept) → Contains (drop awaited.moves mine'.moves) (Took slot value)
      → Contains (drop awaited.moves mine.moves) (Took slot value) ⊎ HoldsLines slot other is.mark value) → IsAwaited later mine' other' awaited
  awaited_on taken = record {
    mark = is.mark;
    told = their.done is.mark is.told;
    lines = is.lines;
    before = stands_on;
    taken = λ slot value has. holds_on other other' their slot is.mark value mark (⊎_elim (λ old. is.taken slot value old) (λ new. new) (taken slot value has));
  }
