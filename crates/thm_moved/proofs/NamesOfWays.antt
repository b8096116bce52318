-- The holds of the names among the steps of a participant's way are those that its lines read: each takes what a line was handed, and gives back
-- what the line's changes leave of that.
use Rattle.std.proofs.Common.{◌≡◌, ◌∙◌, ℕ, List, [], ◌∷◌, ◌++◌, append-nil, append_assoc, map, Option, Some, None, refl, sym, ap, ap₂, subst}
use Rattle.std.specs.List.{AllByRecursion}
use Rattle.std.proofs.lemmas.Grind.{flat_map-append}
use Rattle.hp_chair.specs.Steps.{moves_in}
use Rattle.hp_hall.specs.Mail.{Fetches, Gives, MailStep, Notes, Posts, Takes}
use Rattle.hp_hall.specs.declared.kept.Kept.TheVariants.{Heap, Names, Segments}
use Rattle.hp_proc.specs.Doing.{Done}
use Rattle.hp_proc.specs.Doing.Done.{NamesRead}
use Rattle.hp_proc.specs.Handing.{shared_of}
use Rattle.hp_proc.specs.LinesDone.{Course}
use Rattle.hp_proc.specs.NamesOfLines.{NamesOfLine, names_read, steps_of_names}
use Rattle.hp_proc.specs.SharedNames.{SharedNames}
use Rattle.hp_weave.specs.Holds.{Hold}
use Rattle.hp_zone.specs.declared.names.Names.{Names as NamesView}
use Rattle.thm_run.specs.Handing.{ReadsFirst}
use Rattle.thm_run.specs.OwnLines.{AreOfNoHeap, WentByLines}
use Rattle.thm_run.specs.Seats.{Seat}
use Rattle.thm_run.proofs.CountedReads.NewestRead.{all_both}
use Rattle.thm_run.proofs.NamesEnd.LinesHeld.{held_for, held_in, unread_first}
use Rattle.thm_moved.proofs.NamesHeld.{hold_given, names_by}

-- WHAT LINES READ

-- a hold of the names, as lines know them
abbrev pub shared_hold : Hold NamesView → Hold SharedNames
shared_hold hold = record { who = hold.who; taken = shared_of hold.taken; given = shared_of hold.given }

unread_held : (who : ℕ) (trace : List Done) → names_read trace ≡ [] → held_for who trace ≡ []
unread_held who [] none = refl
unread_held who (NamesRead names ∷ rest) none = cc
unread_held who (_ ∷ rest) none = refl

-- THE HOLDS OF STEPS

-- the names that are in hand after steps, before which these were
abbrev pub left_in : Option NamesView → List MailStep → Option NamesView
left_in taken [] = taken
left_in taken (Takes slot (Names names) ∷ steps) = left_in (Some names) steps
left_in taken (Gives slot (Names names) ∷ steps) = left_in None steps
left_in taken (_ ∷ steps) = left_in taken steps

module _ (who : ℕ) where
  -- they go by the steps of the names alone
  names_only : (taken : Option NamesView) (steps : List MailStep)
      → names_by who taken (moves_in steps) ≡ names_by who taken (moves_in (steps_of_names steps))
  names_only taken [] = refl
  names_only taken (Posts to frame action posted ∷ steps) = names_only taken steps
  names_only taken (Fetches frame ∷ steps) = names_only taken steps
  names_only taken (Notes note ∷ steps) = names_only taken steps
  names_only taken (Takes slot (Heap heap pen) ∷ steps) = names_only taken steps
  names_only taken (Takes slot (Segments segs) ∷ steps) = names_only taken steps
  names_only taken (Takes slot (Names names) ∷ steps) = names_only (Some names) steps
  names_only taken (Gives slot (Heap heap pen) ∷ steps) = names_only taken steps
  names_only taken (Gives slot (Segments segs) ∷ steps) = names_only taken steps
  names_only taken (Gives slot (Names names) ∷ steps) =
      ap (λ (rest : List (Hold NamesView)). hold_given who taken names ++ rest) (names_only None steps)

  left_only : (taken : Option NamesView) (steps : List MailStep) → left_in taken steps ≡ left_in taken (steps_of_names steps)
  left_only taken [] = refl
  left_only taken (Posts to frame action posted ∷ steps) = left_only taken steps
  left_only taken (Fetches frame ∷ steps) = left_only taken steps
  left_only taken (Notes note ∷ steps) = left_only taken steps
  left_only taken (Takes slot (Heap heap pen) ∷ steps) = left_only taken steps
  left_only taken (Takes slot (Segments segs) ∷ steps) = left_only taken steps
  left_only taken (Takes slot (Names names) ∷ steps) = left_only (Some names) steps
  left_only taken (Gives slot (Heap heap pen) ∷ steps) = left_only taken steps
  left_only taken (Gives slot (Segments segs) ∷ steps) = left_only taken steps
  left_only taken (Gives slot (Names names) ∷ steps) = left_only None steps

  -- of steps one after another
  names_then : (taken : Option NamesView) (before steps : List MailStep) → names_by who taken (moves_in (before ++ steps))
      ≡ names_by who taken (moves_in before) ++ names_by who (left_in taken before) (moves_in steps)
  names_then taken [] steps = refl
  names_then taken (Posts to frame action posted ∷ before) steps = names_then taken before steps
  names_then taken (Fetches frame ∷ before) steps = names_then taken before steps
  names_then taken (Notes note ∷ before) steps = names_then taken before steps
  names_then taken (Takes slot (Heap heap pen) ∷ before) steps = names_then taken before steps
  names_then taken (Takes slot (Segments segs) ∷ before) steps = names_then taken before steps
  names_then taken (Takes slot (Names names) ∷ before) steps = names_then (Some names) before steps
  names_then taken (Gives slot (Heap heap pen) ∷ before) steps = names_then taken before steps
  names_then taken (Gives slot (Segments segs) ∷ before) steps = names_then taken before steps
  names_then taken (Gives slot (Names names) ∷ before) steps =
      ap (λ (rest : List (Hold NamesView)). hold_given who taken names ++ rest) (names_then None before steps)
      ∙ sym (append_assoc (hold_given who taken names) (names_by who None (moves_in before))
      (names_by who (left_in None before) (moves_in steps)))

  left_then : (taken : Option NamesView) (before steps : List MailStep) → left_in taken (before ++ steps) ≡ left_in (left_in taken before) steps
  left_then taken [] steps = refl
  left_then taken (Posts to frame action posted ∷ before) steps = left_then taken before steps
  left_then taken (Fetches frame ∷ before) steps = left_then taken before steps
  left_then taken (Notes note ∷ before) steps = left_then taken before steps
  left_then taken (Takes slot (Heap heap pen) ∷ before) steps = left_then taken before steps
  left_then taken (Takes slot (Segments segs) ∷ before) steps = left_then taken before steps
  left_then taken (Takes slot (Names names) ∷ before) steps = left_then (Some names) before steps
  left_then taken (Gives slot (Heap heap pen) ∷ before) steps = left_then taken before steps
  left_then taken (Gives slot (Segments segs) ∷ before) steps = left_then taken before steps
  left_then taken (Gives slot (Names names) ∷ before) steps = left_then None before steps

  -- what the names' holds among some steps are, after which there are none in hand
  pub record AreHoldsOf (courses : List Course) (steps : List MailStep) : Type 0 where
    pub are : map shared_hold (names_by who None (moves_in steps)) ≡ held_in who courses
    pub left : left_in None steps ≡ None
    pub first : AllByRecursion (λ course. ReadsFirst course.trace) courses

  -- of one line
  abbrev one_hold : Hold SharedNames → List (Hold SharedNames)
  one_hold hold = hold ∷ []

  one_course : (course : Course) → held_in who (course ∷ []) ≡ held_for who course.trace
  one_course course = append-nil (held_for who course.trace)

  line_holds : (course : Course) (steps : List MailStep) → NamesOfLine course.trace steps → AreHoldsOf (course ∷ []) steps
  line_holds course steps (NamesOfLine.none aside unread unchanged) = record {
    are = ap (map shared_hold) (names_only None steps ∙ ap (λ (steps : List MailStep). names_by who None (moves_in steps)) aside)
        ∙ sym (one_course course ∙ unread_held who course.trace unread);
    left = left_only None steps ∙ ap (left_in None) aside;
    first = (unread_first course.trace unread unchanged, tt);
  }
  line_holds course steps (NamesOfLine.once taken given rest both trace unread leaves) = record {
    are = ap (map shared_hold) (names_only None steps ∙ ap (λ (steps : List MailStep). names_by who None (moves_in steps)) both)
        ∙ (ap (λ (left : SharedNames). one_hold (record { who = who; taken = shared_of taken; given = left })) leaves
        ∙ sym (one_course course ∙ ap (held_for who) trace));
    left = left_only None steps ∙ ap (left_in None) both;
    first = (subst ReadsFirst (sym trace) unread, tt);
  }

  -- steps beside a line take no names
  pub none_of_names : (steps : List MailStep) → AreOfNoHeap steps → steps_of_names steps ≡ []
  none_of_names [] none = refl
  none_of_names (Posts to frame action posted ∷ steps) none = none_of_names steps none.1
  none_of_names (Fetches frame ∷ steps) none = none_of_names steps none.1
  none_of_names (Notes note ∷ steps) none = none_of_names steps none.1
  none_of_names (Takes slot (Heap heap pen) ∷ steps) none = absurd (none.0 tt)
  none_of_names (Takes slot (Segments segs) ∷ steps) none = none_of_names steps none.1
  none_of_names (Takes slot (Names names) ∷ steps) none = absurd (none.0 tt)
  none_of_names (Gives slot (Heap heap pen) ∷ steps) none = absurd (none.0 tt)
  none_of_names (Gives slot (Segments segs) ∷ steps) none = none_of_names steps none.1
  none_of_names (Gives slot (Names names) ∷ steps) none = absurd (none.0 tt)

  -- of a way, and steps after it
  map_both : (first rest : List (Hold NamesView)) → map shared_hold (first ++ rest) ≡ map shared_hold first ++ map shared_hold rest
  map_both [] rest = refl
  map_both (hold ∷ first) rest = ap (λ (holds : List (Hold SharedNames)). shared_hold hold ∷ holds) (map_both first rest)

  both_holds : (courses more : List Course) (before steps : List MailStep) → AreHoldsOf courses before → AreHoldsOf more steps
      → AreHoldsOf (courses ++ more) (before ++ steps)
  both_holds courses more before steps early late = record {
    are = ap (map shared_hold)
        (names_then None before steps
        ∙ ap (λ (taken : Option NamesView). names_by who None (moves_in before) ++ names_by who taken (moves_in steps)) early.left)
        ∙ (map_both (names_by who None (moves_in before)) (names_by who None (moves_in steps))
        ∙ (ap₂ (λ (first rest : List (Hold SharedNames)). first ++ rest) early.are late.are
        ∙ sym (flat_map-append (λ (course : Course). held_for who course.trace) courses more)));
    left = left_then None before steps ∙ (ap (λ (taken : Option NamesView). left_in taken steps) early.left ∙ late.left);
    first = all_both (λ (course : Course). ReadsFirst course.trace) courses more early.first late.first;
  }

-- so are those of a way by lines
pub way_holds : {count who : ℕ} {first last : Seat} {courses : List Course} {steps : List MailStep}
    → WentByLines count who first last courses steps → AreHoldsOf who courses steps
way_holds {count} {who} (WentByLines.begins seat) = record { are = refl; left = refl; first = tt }
way_holds {count} {who} (WentByLines.beside first old new courses before steps went path same stays none) =
    let aside = none_of_names who steps none in
    subst (λ (courses : List Course). AreHoldsOf who courses (before ++ steps)) (append-nil courses)
    (both_holds who courses [] before steps (way_holds went) (record {
      are = ap (map shared_hold) (names_only who None steps ∙ ap (λ (steps : List MailStep). names_by who None (moves_in steps)) aside);
      left = left_only who None steps ∙ ap (left_in None) aside;
      first = tt;
    }))
way_holds {count} {who} (WentByLines.does_line first old new courses course before steps went is) =
    both_holds who courses (course ∷ []) before steps (way_holds went) (line_holds who course steps is.names)
