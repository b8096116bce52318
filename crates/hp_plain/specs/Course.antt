-- The course of a hall of plain values: what later states keep of earlier ones, and that this joins. The rule "What a hall shows" of
-- docs/HALLS.md.
use Rattle.std.specs.Prelude.{◌≡◌, ℕ, Bool, ◌≤◌, ◌<◌, List, [], ◌∷◌, ◌++◌, length, Option, Some, None, refl, ⊤}
use Rattle.std.proofs.Common.{sym, subst, ◌∙◌, arith}
use Rattle.std.proofs.lemmas.List.{append-nil, append_assoc}
use Rattle.std.proofs.lemmas.List.Sums.{sum_by-append}
use Rattle.hp_base.specs.declared.limits.TheConstants.{MAX_HEAPS}
use Rattle.hp_frame.specs.declared.frame.Frame.{Frame}
use Rattle.hp_log.specs.declared.log_record.LogRecord.{LogRecord}
use Rattle.hp_segs.specs.declared.outcome.AskLog.{AskLog}
use Rattle.hp_hall.specs.declared.kept.Kept.{Kept}
use Rattle.hp_hall.specs.declared.slot.TheConstants.{NAMES_SLOT}
use Rattle.hp_hall.specs.Later.{AreLaterNames, IsLaterHeap, IsLaterKept, IsLaterSegs}
use Rattle.hp_hall.specs.Named.{NamesGoOn}
use Rattle.hp_hall.specs.Views.{HeldHeap}
use Rattle.hp_hall.proofs.HallStates.{more_then, names_same}
use Rattle.hp_hall.proofs.LaterKept.{kept_same, kept_then}
use Rattle.hp_hall.proofs.OneKind.{by_kind}
use Rattle.hp_plain.specs.Told.{AreTold, Told, told_after, told_of}
use Rattle.hp_plain.specs.HallView.{HallView, SlotView, slot_at, asks_in, heard_in, log_in, named_at, named_in, names_seen, no_names, seen_in, own_at, HasDone}
use Rattle.hp_plain.specs.InTurn.{AreTakenInTurn, homes_after, homes_in}
use Rattle.hp_plain.specs.Keeping.{AreAgreed, IsKeptBy, values_after, values_in}
use Rattle.hp_hall.specs.Mail.{MailStep, counted_on, full_post, steps_of}
use Rattle.hp_plain.specs.Boxes.{IsMail, after_step, fulls_among}
use Rattle.hp_plain.specs.Meters.{AreMetered, Meters, meters_in}
use Rattle.hp_plain.specs.UnderNames.{AreUnderNames}
use Rattle.hp_hall.specs.Values.{asks_of, log_of}

-- a slot later on: its value is one of later on
abbrev pub IsLater : Option SlotView → Option SlotView → Type 0
IsLater None None = ⊤
IsLater None (Some new) = ⊥
IsLater (Some old) None = ⊥
IsLater (Some old) (Some new) = IsLaterKept old.kept new.kept

-- from one state of a hall to a later one: the same participants; each slot's value is one of later on; numbers and the clock do not fall;
-- the mailboxes and the count of full ones, the values in the slots, the clock and the numbers are those that the steps made on the way
-- leave, and so are the lines that were told to be done and the newest pairs of heaps; by these steps each slot was taken and given back in
-- turn, and nobody changed external memory but with the names in hand; and granted records that all members have taken in stay so
pub record IsCourse (old new : HallView) : Type 0 where
  pub count : length new.owns ≡ length old.owns
  pub slots : (number : ℕ) → IsLater (slot_at old number) (slot_at new number)
  pub numbers : (who : ℕ) → (own_at old who).number ≤ (own_at new who).number
  pub clock : old.clock ≤ new.clock
  pub steps : List (ℕ × MailStep)
  pub mail : new.mail ≡ old.mail ++ steps
  pub full_mailboxes : new.full_mailboxes ≡ counted_on (fulls_among steps) old.full_mailboxes
  pub boxes : IsMail steps old.boxes new.boxes
  pub kept : IsKeptBy (length old.owns) steps (values_in old) (values_in new)
  pub ranges : AreUnderNames old.mail steps (values_in old)
  pub turns : AreTakenInTurn steps (homes_in old) (homes_in new)
  pub meters : AreMetered steps (meters_in old) (meters_in new)
  pub told : AreTold steps (told_of old) (told_of new)
  pub agreed : AreAgreed old → AreAgreed new

mail_then : (first second : List (ℕ × MailStep)) (a b c : List (List Frame)) → IsMail first a b → IsMail second b c
    → IsMail (first ++ second) a c
mail_then [] second a b c here next = subst (λ (x : List (List Frame)). IsMail second x c) here next
mail_then (step ∷ steps) second a b c here next = (here.0, mail_then steps second (after_step step.0 step.1 a) b c here.1 next)

values_then : (count : ℕ) (first second : List (ℕ × MailStep)) (a b c : List Kept) → IsKeptBy count first a b → IsKeptBy count second b c
    → IsKeptBy count (first ++ second) a c
values_then count [] second a b c here next = subst (λ (values : List Kept). IsKeptBy count second values c) here next
values_then count (step ∷ steps) second a b c here next =
    (here.0, values_then count steps second (values_after step.1 a) b c here.1 next)

ranges_then : (count : ℕ) (before first second : List (ℕ × MailStep)) (a b : List Kept) → IsKeptBy count first a b
    → AreUnderNames before first a → AreUnderNames (before ++ first) second b → AreUnderNames before (first ++ second) a
ranges_then count before [] second a b leads here next =
    subst (λ (values : List Kept). AreUnderNames before second values) leads
    (subst (λ (mail : List (ℕ × MailStep)). AreUnderNames mail second b) (append-nil before) next)
ranges_then count before (step ∷ steps) second a b leads here next = (
  here.0,
  ranges_then count (before ++ step ∷ []) steps second (values_after step.1 a) b leads.1 here.1
      (subst (λ (mail : List (ℕ × MailStep)). AreUnderNames mail second b) (sym (append_assoc before (step ∷ []) steps)) next),
)

turns_then : (first second : List (ℕ × MailStep)) (a b c : List Bool) → AreTakenInTurn first a b → AreTakenInTurn second b c
    → AreTakenInTurn (first ++ second) a c
turns_then [] second a b c here next = subst (λ (homes : List Bool). AreTakenInTurn second homes c) here next
turns_then (step ∷ steps) second a b c here next = (here.0, turns_then steps second (homes_after step.1 a) b c here.1 next)

meters_then : (first second : List (ℕ × MailStep)) (a b c : Meters) → AreMetered first a b → AreMetered second b c
    → AreMetered (first ++ second) a c
meters_then [] second a b c here next = subst (λ (meters : Meters). AreMetered second meters c) here next
meters_then (step ∷ steps) second a b c here next = (here.0, here.1, meters_then steps second here.0 b c here.2 next)

told_then : (first second : List (ℕ × MailStep)) (a b c : Told) → AreTold first a b → AreTold second b c → AreTold (first ++ second) a c
told_then [] second a b c here next = subst (λ (told : Told). AreTold second told c) here next
told_then (step ∷ steps) second a b c here next = (here.0, told_then steps second (told_after step.0 step.1 a) b c here.1 next)

pub slot_same : (slot : Option SlotView) → IsLater slot slot
slot_same None = tt
slot_same (Some slot) = kept_same slot.kept

slot_then : (a b c : Option SlotView) → IsLater a b → IsLater b c → IsLater a c
slot_then None None None here next = tt
slot_then None None (Some c) here next = absurd next
slot_then None (Some b) c here next = absurd here
slot_then (Some a) None c here next = absurd here
slot_then (Some a) (Some b) None here next = absurd next
slot_then (Some a) (Some b) (Some c) here next = kept_then a.kept b.kept c.kept here next

kept_log : (a b : Kept) → IsLaterKept a b → (more : List LogRecord) × (log_of b ≡ log_of a ++ more)
kept_log =
    by_kind (λ (old new : HeldHeap). IsLaterHeap old.heap new.heap) IsLaterSegs AreLaterNames
    (λ a b. (more : List LogRecord) × (log_of b ≡ log_of a ++ more)) (λ a b later. ([], refl)) (λ a b later. (later.more, later.log))
    (λ a b later. ([], refl))

log_later : (a b : Option SlotView) → IsLater a b → (more : List LogRecord) × (log_in b ≡ log_in a ++ more)
log_later None None later = ([], refl)
log_later None (Some b) later = absurd later
log_later (Some a) None later = absurd later
log_later (Some a) (Some b) later = kept_log a.kept b.kept later

kept_asks : (a b : Kept) → IsLaterKept a b → (more : List AskLog) × (asks_of b ≡ asks_of a ++ more)
kept_asks =
    by_kind (λ (old new : HeldHeap). IsLaterHeap old.heap new.heap) IsLaterSegs AreLaterNames
    (λ a b. (more : List AskLog) × (asks_of b ≡ asks_of a ++ more)) (λ a b later. ([], refl)) (λ a b later. (later.outcomes, later.asks))
    (λ a b later. ([], refl))

kept_names : (a b : Kept) → IsLaterKept a b → NamesGoOn (names_seen a) (names_seen b)
kept_names =
    by_kind (λ (old new : HeldHeap). IsLaterHeap old.heap new.heap) IsLaterSegs AreLaterNames
    (λ a b. NamesGoOn (names_seen a) (names_seen b)) (λ a b later. names_same no_names) (λ a b later. names_same no_names) (λ a b later. later)

names_later : (a b : Option SlotView) → IsLater a b → NamesGoOn (named_at a) (named_at b)
names_later None None later = names_same no_names
names_later None (Some b) later = absurd later
names_later (Some a) None later = absurd later
names_later (Some a) (Some b) later = kept_names a.kept b.kept later

asks_later : (a b : Option SlotView) → IsLater a b → (more : List AskLog) × (asks_in b ≡ asks_in a ++ more)
asks_later None None later = ([], refl)
asks_later None (Some b) later = absurd later
asks_later (Some a) None later = absurd later
asks_later (Some a) (Some b) later = kept_asks a.kept b.kept later

pub course_same : (a : HallView) → IsCourse a a
course_same a = record {
  count = refl;
  slots = λ number. slot_same (slot_at a number);
  numbers = λ who. omega arith;
  full_mailboxes = omega arith;
  clock = omega arith;
  steps = [];
  mail = sym (append-nil a.mail);
  boxes = refl;
  kept = refl;
  ranges = tt;
  turns = refl;
  meters = refl;
  told = refl;
  agreed = λ agreed. agreed;
}

pub course_then : (a b c : HallView) → IsCourse a b → IsCourse b c → IsCourse a c
course_then a b c here next = record {
  count = next.count ∙ here.count;
  slots = λ number. slot_then (slot_at a number) (slot_at b number) (slot_at c number) (here.slots number) (next.slots number);
  numbers = λ who. omega (arith, here.numbers who, next.numbers who);
  full_mailboxes = omega (arith, here.full_mailboxes, next.full_mailboxes, sum_by-append (λ (step : ℕ × MailStep). full_post step.1) here.steps next.steps);
  clock = omega (arith, here.clock, next.clock);
  steps = here.steps ++ next.steps;
  mail = more_then a.mail b.mail c.mail here.steps next.steps here.mail next.mail;
  boxes = mail_then here.steps next.steps a.boxes b.boxes c.boxes here.boxes next.boxes;
  kept = values_then (length a.owns) here.steps next.steps (values_in a) (values_in b) (values_in c) here.kept
      (subst (λ (n : ℕ). IsKeptBy n next.steps (values_in b) (values_in c)) here.count next.kept);
  ranges = ranges_then (length a.owns) a.mail here.steps next.steps (values_in a) (values_in b) here.kept here.ranges
      (subst (λ (mail : List (ℕ × MailStep)). AreUnderNames mail next.steps (values_in b)) here.mail next.ranges);
  turns = turns_then here.steps next.steps (homes_in a) (homes_in b) (homes_in c) here.turns next.turns;
  meters = meters_then here.steps next.steps (meters_in a) (meters_in b) (meters_in c) here.meters next.meters;
  told = told_then here.steps next.steps (told_of a) (told_of b) (told_of c) here.told next.told;
  agreed = λ agreed. next.agreed (here.agreed agreed);
}

pub course_serves : (a b : HallView) (who : ℕ) → IsCourse a b → who < length a.owns → who < length b.owns
course_serves a b who course below = omega (arith, course.count)

pub course_seen : (a b : HallView) → IsCourse a b → (more : List LogRecord) × (seen_in b ≡ seen_in a ++ more)
course_seen a b course = log_later (slot_at a MAX_HEAPS) (slot_at b MAX_HEAPS) (course.slots MAX_HEAPS)

pub course_heard : (a b : HallView) → IsCourse a b → (more : List AskLog) × (heard_in b ≡ heard_in a ++ more)
course_heard a b course = asks_later (slot_at a MAX_HEAPS) (slot_at b MAX_HEAPS) (course.slots MAX_HEAPS)

pub course_named : (a b : HallView) → IsCourse a b → NamesGoOn (named_in a) (named_in b)
course_named a b course = names_later (slot_at a NAMES_SLOT) (slot_at b NAMES_SLOT) (course.slots NAMES_SLOT)

pub done_same : (a : HallView) (who : ℕ) → HasDone a a who []
done_same a who = sym (append-nil (steps_of who a.mail))

pub done_then : (a b c : HallView) (who : ℕ) (first second : List MailStep) → HasDone a b who first → HasDone b c who second
    → HasDone a c who (first ++ second)
done_then a b c who first second here next =
    more_then (steps_of who a.mail) (steps_of who b.mail) (steps_of who c.mail) first second here next
