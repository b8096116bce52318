-- What a course shows of its steps and values: what is read of a value and left by each give is left by the course.
use Rattle.std.proofs.Common.{◌≡◌, ◌≢◌, ℕ, eqb, cond, Bool, true, false, true≢false, List, [], ◌∷◌, ◌++◌, length, map, set, Option, Some, None, refl, sym, ap, subst, ◌∙◌, ⊎_elim, arith}
use Rattle.std.specs.List.{AllByRecursion, filter, slice_get}
use Rattle.std.specs.Option.{option_map}
use Rattle.std.proofs.lemmas.Bool.{cases_eq, cond-true, eq-eqb}
use Rattle.std.proofs.lemmas.List.{append-nil, append_assoc}
use Rattle.std.proofs.lemmas.Option.{slice_get_within, same_Some}
use Rattle.hp_base.specs.declared.limits.TheConstants.{MAX_HEAPS}
use Rattle.hp_heap.specs.declared.entry.Entry.{Entry}
use Rattle.hp_heap.specs.History.{entries_of}
use Rattle.hp_segs.specs.LaterSteps.{armed_ask}
use Rattle.hp_segs.specs.SegsView.{SegsView, is_member}
use Rattle.hp_segs.specs.declared.ask.Ask.{Ask}
use Rattle.hp_segs.specs.declared.external_range.ExternalRange.{ExternalRange}
use Rattle.hp_hall.specs.declared.kept.Kept.{Kept}
use Rattle.hp_hall.specs.declared.kept.Kept.TheVariants.{Heap, Names, Segments}
use Rattle.hp_hall.specs.Views.{HeldHeap, segs_of}
use Rattle.hp_hall.proofs.OneKind.{by_kind}
use Rattle.hp_zone.specs.declared.names.Names.{Names as NamesView}
use Rattle.hp_plain.specs.Course.{IsCourse, IsLater}
use Rattle.hp_plain.specs.CourseLaws.{AreSegsOf, IdleAddNoEntries, IdleStayInPlace, IsSoundAndArmed, MovesSound, RangesStay, SoloStepsAreItsOwn, UndeclaredDoNothing, ValuesStaySound}
use Rattle.hp_plain.specs.HallView.{HallView, SlotView, history_in, segs_in, slot_at}
use Rattle.hp_plain.specs.PlainPosts.{undeclared}
use Rattle.hp_plain.specs.UnderNames.{AreUnderNames, HaveNoNamesAtGives, ShowsRanges}
use Rattle.hp_hall.specs.Later.{AreLaterNames}
use Rattle.hp_plain.specs.Keeping.{AreSegsGivenBy, IsGivenBy, IsHeapGivenBy, IsKeptBy, ShowsValues, values_after, values_in}
use Rattle.hp_hall.specs.Mail.{MailStep, Posts, Fetches, Takes, Gives, Notes, steps_of}
use Rattle.hp_hall.specs.Telling.{has_names}
use Rattle.hp_hall.specs.Values.{IsSoundKept, history_of}
use Rattle.hp_plain.proofs.Given.{entries_of-append, entries_of-other}
use Rattle.hp_plain.proofs.Slotted.{value_at, slice_get-set_other, slice_get-set_same}

module _ {X : Type 0} (of : ℕ → Type 0) (read : Kept → X)
    (given : (who : ℕ) (before kept : Kept) → of who → IsGivenBy who before kept → read kept ≡ read before) where
  -- a step leaves a value of which that is read which was
  stepped : (who : ℕ) (step : MailStep) (values : List Kept) (number : ℕ) (before : Kept) → of who → ShowsValues who step values
      → slice_get values number ≡ Some before
      → (kept : Kept) × (slice_get (values_after step values) number ≡ Some kept) × (read kept ≡ read before)
  stepped who (Posts to frame action posted) values number before maker shows there = (before, there, refl)
  stepped who (Fetches frame) values number before maker shows there = (before, there, refl)
  stepped who (Takes slot kept) values number before maker shows there = (before, there, refl)
  stepped who (Gives slot kept) values number before maker shows there =
      ⊎_elim
      (λ (same : number ≡ slot).
      let was : shows.before ≡ before = same_Some shows.before before (sym shows.there ∙ ap (slice_get values) (sym same) ∙ there) in
      let now : slice_get (set values slot kept) number ≡ Some kept =
      ap (slice_get (set values slot kept)) same ∙ slice_get-set_same values slot kept (slice_get_within values slot shows.before shows.there) in
      (kept, now, given who shows.before kept maker shows.by ∙ ap read was))
      (λ (apart : number ≢ slot). (before, slice_get-set_other values slot number kept apart ∙ there, refl))
      (cases_eq number slot)
  stepped who (Notes note) values number before maker shows there = (before, there, refl)

  pub read_kept : (count : ℕ) (steps : List (ℕ × MailStep)) (old new : List Kept) → IsKeptBy count steps old new
      → AllByRecursion (λ step. of step.0) steps → (number : ℕ) (before kept : Kept) → slice_get old number ≡ Some before
      → slice_get new number ≡ Some kept → read kept ≡ read before
  read_kept count [] old new by makers number before kept early late =
      ap read (same_Some kept before (sym late ∙ ap (λ (l : List Kept). slice_get l number) by ∙ early))
  read_kept count (step ∷ steps) old new by makers number before kept early late =
      let mid = stepped step.0 step.1 old number before makers.0 by.0.shows early in
      read_kept count steps (values_after step.1 old) new by.1 makers.1 number mid.0 kept mid.1 late ∙ mid.2

-- what follows from each kind of give that a participant made follows
by_maker : (who : ℕ) (P : Kept → Kept → Type 0)
    → ((before kept : HeldHeap) → IsHeapGivenBy who before.heap kept.heap → P (Heap before.heap before.pen) (Heap kept.heap kept.pen))
    → ((before kept : SegsView) → AreSegsGivenBy who before kept → P (Segments before) (Segments kept))
    → ((before kept : NamesView) → AreLaterNames before kept → P (Names before) (Names kept))
    → (before kept : Kept) → IsGivenBy who before kept → P before kept
by_maker who = by_kind (λ (taken given : HeldHeap). IsHeapGivenBy who taken.heap given.heap) (AreSegsGivenBy who) AreLaterNames

-- the makers of steps, where one made none
module _ (who : ℕ) where
  apart_by : (step : ℕ × MailStep) (rest : List (ℕ × MailStep)) (is : Bool) → eqb step.0 who ≡ is
      → map (λ (s : ℕ × MailStep). s.1) (cond is (step ∷ rest) rest) ≡ []
      → (step.0 ≢ who) × (map (λ (s : ℕ × MailStep). s.1) rest ≡ [])
  apart_by step rest true is none = cc
  apart_by step rest false is none = (λ same. true≢false (sym (eq-eqb step.0 who same) ∙ is), none)

  idle_apart : (steps : List (ℕ × MailStep)) → steps_of who steps ≡ [] → AllByRecursion (λ step. step.0 ≢ who) steps
  idle_apart [] none = tt
  idle_apart (step ∷ steps) none =
      let apart = apart_by step (filter (λ (s : ℕ × MailStep). eqb s.0 who) steps) (eqb step.0 who) refl none in
      (apart.0, idle_apart steps apart.1)

  entries_left : (maker : ℕ) (before kept : Kept) → maker ≢ who → IsGivenBy maker before kept
      → entries_of who (history_of kept) ≡ entries_of who (history_of before)
  entries_left maker before kept apart =
      by_maker maker (λ before kept. entries_of who (history_of kept) ≡ entries_of who (history_of before))
      (λ before kept by.
      ap (entries_of who) by.history ∙ entries_of-append who before.heap.history by.own
      ∙ ap (λ (own : List Entry). entries_of who before.heap.history ++ own) (entries_of-other maker who by.own (λ same. apart (sym same)) by.only)
      ∙ append-nil (entries_of who before.heap.history))
      (λ before kept by. refl) (λ before kept by. refl) before kept

  -- the ask with which it is armed, and whether it is in the roster
  abbrev armed_of : Kept → Option (Option Ask)
  armed_of kept = option_map (λ segs. armed_ask segs who) (segs_of kept)

  armed_left : (maker : ℕ) (before kept : Kept) → maker ≢ who → IsGivenBy maker before kept → armed_of kept ≡ armed_of before
  armed_left maker before kept apart =
      by_maker maker (λ before kept. armed_of kept ≡ armed_of before) (λ before kept by. refl)
      (λ before kept by. ap Some (by.armed who (λ same. apart (sym same)))) (λ before kept by. refl) before kept

  abbrev member_of : Kept → Option Bool
  member_of kept = option_map (λ segs. is_member segs.roster who) (segs_of kept)

  member_left : (maker : ℕ) (before kept : Kept) → maker ≢ who → IsGivenBy maker before kept → member_of kept ≡ member_of before
  member_left maker before kept apart =
      by_maker maker (λ before kept. member_of kept ≡ member_of before) (λ before kept by. refl)
      (λ before kept by. ap Some (by.members who (λ same. apart (sym same)))) (λ before kept by. refl) before kept

abbrev ranges_of : Kept → Option (List ExternalRange)
ranges_of kept = option_map (λ segs. segs.ranges) (segs_of kept)

-- external memory stays at a give of the segment value by who has not the names in hand, and at a give of another one
ranges_left : (maker slot : ℕ) (naming : Bool) (values : List Kept) (before kept : Kept) → IsGivenBy maker before kept
    → ((segs : SegsView) → kept ≡ Segments segs → naming ≡ false) → ShowsRanges naming (Gives slot kept) values
    → slice_get values slot ≡ Some before → ranges_of kept ≡ ranges_of before
ranges_left maker slot naming values before kept by =
    by_maker maker
    (λ before kept. ((segs : SegsView) → kept ≡ Segments segs → naming ≡ false) → ShowsRanges naming (Gives slot kept) values
    → slice_get values slot ≡ Some before → ranges_of kept ≡ ranges_of before)
    (λ before kept by none shows there. refl)
    (λ before kept by none shows there. ap Some (shows (none kept refl) before there))
    (λ before kept by none shows there. refl)
    before kept by

-- and at each step that is no give of it by one who has them
ranges_step : (who : ℕ) (naming : Bool) (step : MailStep) (values : List Kept) (number : ℕ) (before : Kept)
    → ((slot : ℕ) (segs : SegsView) → step ≡ Gives slot (Segments segs) → naming ≡ false)
    → ShowsRanges naming step values → ShowsValues who step values → slice_get values number ≡ Some before
    → (kept : Kept) × (slice_get (values_after step values) number ≡ Some kept) × (ranges_of kept ≡ ranges_of before)
ranges_step who naming (Posts to frame action posted) values number before none ranges shows there = (before, there, refl)
ranges_step who naming (Fetches frame) values number before none ranges shows there = (before, there, refl)
ranges_step who naming (Takes slot kept) values number before none ranges shows there = (before, there, refl)
ranges_step who naming (Notes note) values number before none ranges shows there = (before, there, refl)
ranges_step who naming (Gives slot kept) values number before none ranges shows there =
    ⊎_elim
    (λ (same : number ≡ slot).
    let was : shows.before ≡ before = same_Some shows.before before (sym shows.there ∙ ap (slice_get values) (sym same) ∙ there) in
    let now : slice_get (set values slot kept) number ≡ Some kept =
    ap (slice_get (set values slot kept)) same ∙ slice_get-set_same values slot kept (slice_get_within values slot shows.before shows.there) in
    let own : (segs : SegsView) → kept ≡ Segments segs → naming ≡ false =
    λ segs is. none slot segs (ap (λ (given : Kept). Gives slot given) is) in
    (kept, now, ranges_left who slot naming values shows.before kept shows.by own ranges shows.there ∙ ap ranges_of was))
    (λ (apart : number ≢ slot). (before, slice_get-set_other values slot number kept apart ∙ there, refl))
    (cases_eq number slot)

-- of a first step and the rest: its maker has not the names in hand where it gives the segment value, and so it is with the rest
unnamed_here : (before : List (ℕ × MailStep)) (step : ℕ × MailStep) (steps : List (ℕ × MailStep)) → HaveNoNamesAtGives before (step ∷ steps)
    → (slot : ℕ) (segs : SegsView) → step.1 ≡ Gives slot (Segments segs) → has_names (steps_of step.0 before) ≡ false
unnamed_here before step steps apart slot segs is =
    subst (λ (made : List (ℕ × MailStep)). has_names (steps_of step.0 made) ≡ false) (append-nil before)
    (apart [] steps step.0 slot segs (ap (λ (made : MailStep). (step.0, made) ∷ steps) is))

unnamed_on : (before : List (ℕ × MailStep)) (step : ℕ × MailStep) (steps : List (ℕ × MailStep)) → HaveNoNamesAtGives before (step ∷ steps)
    → HaveNoNamesAtGives (before ++ step ∷ []) steps
unnamed_on before step steps apart = λ first rest who number segs is.
    subst (λ (made : List (ℕ × MailStep)). has_names (steps_of who made) ≡ false) (sym (append_assoc before (step ∷ []) first))
    (apart (step ∷ first) rest who number segs (ap (λ (more : List (ℕ × MailStep)). step ∷ more) is))

ranges_kept : (count : ℕ) (before steps : List (ℕ × MailStep)) (old new : List Kept) → IsKeptBy count steps old new
    → AreUnderNames before steps old → HaveNoNamesAtGives before steps → (number : ℕ) (was kept : Kept) → slice_get old number ≡ Some was
    → slice_get new number ≡ Some kept → ranges_of kept ≡ ranges_of was
ranges_kept count before [] old new by under apart number was kept early late =
    ap ranges_of (same_Some kept was (sym late ∙ ap (λ (l : List Kept). slice_get l number) by ∙ early))
ranges_kept count before (step ∷ steps) old new by under apart number was kept early late =
    let mid = ranges_step step.0 (has_names (steps_of step.0 before)) step.1 old number was (unnamed_here before step steps apart) under.0
    by.0.shows early in
    ranges_kept count (before ++ step ∷ []) steps (values_after step.1 old) new by.1 under.1 (unnamed_on before step steps apart) number
    mid.0 kept mid.1 late
    ∙ mid.2

primary_steps : (count : ℕ) → count ≡ 1 → (steps : List (ℕ × MailStep)) (old new : List Kept) → IsKeptBy count steps old new
    → steps ≡ map (λ (step : MailStep). (0, step)) (steps_of 0 steps)
primary_steps count one [] old new by = refl
primary_steps count one (step ∷ steps) old new by =
    let below = by.0.declared in
    let primary : step.0 ≡ 0 = omega (arith, one, below) in
    let rest : List (ℕ × MailStep) = filter (λ (s : ℕ × MailStep). eqb s.0 0) steps in
    let kept : steps_of 0 (step ∷ steps) ≡ step.1 ∷ steps_of 0 steps =
    ap (map (λ (s : ℕ × MailStep). s.1)) (cond-true (eqb step.0 0) (step ∷ rest) rest (eq-eqb step.0 0 primary)) in
    ap (λ (n : ℕ). (n, step.1) ∷ steps) primary
    ∙ ap (λ (l : List (ℕ × MailStep)). (0, step.1) ∷ l) (primary_steps count one steps (values_after step.1 old) new by.1)
    ∙ ap (map (λ (s : MailStep). (0, s))) (sym kept)

-- what is given is sound and armed where what it replaces is
given_sound : (who : ℕ) (before kept : Kept) → IsGivenBy who before kept → IsSoundKept kept → IsSoundAndArmed before → IsSoundAndArmed kept
given_sound who =
    by_maker who (λ before kept. IsSoundKept kept → IsSoundAndArmed before → IsSoundAndArmed kept) (λ before kept by sound old. sound)
    (λ before kept by sound old. (sound, by.of_armed old.1)) (λ before kept by sound old. sound)

abbrev AreSound : List Kept → Type 0
AreSound values = (number : ℕ) (kept : Kept) → slice_get values number ≡ Some kept → IsSoundAndArmed kept

sound_step : (who : ℕ) (step : MailStep) (values : List Kept) → ShowsValues who step values → AreSound values
    → MovesSound step × AreSound (values_after step values)
sound_step who (Posts to frame action posted) values shows sound = (tt, sound)
sound_step who (Fetches frame) values shows sound = (tt, sound)
sound_step who (Takes slot kept) values shows sound = (sound slot kept shows, sound)
sound_step who (Gives slot kept) values shows sound =
    let now : IsSoundAndArmed kept = given_sound who shows.before kept shows.by shows.sound (sound slot shows.before shows.there) in
    let here = slice_get-set_same values slot kept (slice_get_within values slot shows.before shows.there) in (
      now,
      λ number value there.
          ⊎_elim
          (λ (same : number ≡ slot).
          subst IsSoundAndArmed (same_Some kept value (sym here ∙ ap (slice_get (set values slot kept)) (sym same) ∙ there)) now)
          (λ (apart : number ≢ slot). sound number value (sym (slice_get-set_other values slot number kept apart) ∙ there))
          (cases_eq number slot),
    )
sound_step who (Notes note) values shows sound = (tt, sound)

sound_steps : (count : ℕ) (steps : List (ℕ × MailStep)) (old new : List Kept) → IsKeptBy count steps old new → AreSound old
    → AllByRecursion (λ step. MovesSound step.1) steps × AreSound new
sound_steps count [] old new by sound = (tt, subst AreSound (sym by) sound)
sound_steps count (step ∷ steps) old new by sound =
    let here = sound_step step.0 step.1 old by.0.shows sound in
    let rest = sound_steps count steps (values_after step.1 old) new by.1 here.1 in
    ((here.0, rest.0), rest.1)

-- the segment value is the one that its slot keeps
segs_is : (kept : Kept) (segs : SegsView) → segs_of kept ≡ Some segs → kept ≡ Segments segs
segs_is (Heap heap pen) segs is = cc
segs_is (Names names) segs is = cc
segs_is (Segments value) segs is = ap Segments (same_Some value segs is)

segs_value : (hall : HallView) (number : ℕ) (segs : SegsView) (slot : Option SlotView) → slot_at hall number ≡ slot → segs_in slot ≡ Some segs
    → slice_get (values_in hall) number ≡ Some (Segments segs)
segs_value hall number segs None at is = cc
segs_value hall number segs (Some slot) at is = value_at hall number slot at ∙ ap Some (segs_is slot.kept segs is)

module _ (old new : HallView) (course : IsCourse old new) where
  module _ (number who : ℕ) (idle : steps_of who course.steps ≡ []) where
    entries_by : (before slot : Option SlotView) → slot_at old number ≡ before → slot_at new number ≡ slot → IsLater before slot
        → entries_of who (history_in slot) ≡ entries_of who (history_in before)
    entries_by None None early late later = refl
    entries_by None (Some slot) early late later = absurd later
    entries_by (Some before) None early late later = absurd later
    entries_by (Some before) (Some slot) early late later =
        read_kept (λ maker. maker ≢ who) (λ kept. entries_of who (history_of kept)) (entries_left who) (length old.owns) course.steps
        (values_in old) (values_in new) course.kept (idle_apart who course.steps idle) number before.kept slot.kept
        (value_at old number before early) (value_at new number slot late)

  module _ (before segs : SegsView) (are : AreSegsOf old new before segs) where
    early : slice_get (values_in old) MAX_HEAPS ≡ Some (Segments before)
    early = segs_value old MAX_HEAPS before (slot_at old MAX_HEAPS) refl are.early

    late : slice_get (values_in new) MAX_HEAPS ≡ Some (Segments segs)
    late = segs_value new MAX_HEAPS segs (slot_at new MAX_HEAPS) refl are.late

    segs_read : {X : Type 0} (of : ℕ → Type 0) (read : Kept → X)
        → ((who : ℕ) (before kept : Kept) → of who → IsGivenBy who before kept → read kept ≡ read before)
        → AllByRecursion (λ step. of step.0) course.steps → read (Segments segs) ≡ read (Segments before)
    segs_read of read given makers =
        read_kept of read given (length old.owns) course.steps (values_in old) (values_in new) course.kept makers MAX_HEAPS
        (Segments before) (Segments segs) early late

pub undeclared_do_nothing : UndeclaredDoNothing
undeclared_do_nothing old new course who past =
    undeclared who (length old.owns) past course.steps (values_in old) (values_in new) course.kept

pub solo_steps_are_its_own : SoloStepsAreItsOwn
solo_steps_are_its_own old new course one =
    primary_steps (length old.owns) one course.steps (values_in old) (values_in new) course.kept

pub idle_add_no_entries : IdleAddNoEntries
idle_add_no_entries old new course who idle number =
    entries_by old new course number who idle (slot_at old number) (slot_at new number) refl refl (course.slots number)

pub idle_stay_in_place : IdleStayInPlace
idle_stay_in_place old new course who idle before segs are =
    let makers = idle_apart who course.steps idle in
    record {
      armed = same_Some (armed_ask segs who) (armed_ask before who)
          (segs_read old new course before segs are (λ maker. maker ≢ who) (armed_of who) (armed_left who) makers);
      member = same_Some (is_member segs.roster who) (is_member before.roster who)
          (segs_read old new course before segs are (λ maker. maker ≢ who) (member_of who) (member_left who) makers);
    }

pub ranges_stay : RangesStay
ranges_stay old new course apart before segs are =
    same_Some segs.ranges before.ranges
    (ranges_kept (length old.owns) old.mail course.steps (values_in old) (values_in new) course.kept course.ranges apart MAX_HEAPS
    (Segments before) (Segments segs) (early old new course before segs are) (late old new course before segs are))

pub values_stay_sound : ValuesStaySound
values_stay_sound old new course sound =
    sound_steps (length old.owns) course.steps (values_in old) (values_in new) course.kept sound
