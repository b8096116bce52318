-- A hall publishes statistics of a heap that its seat holds, or reads those of any.
use Rattle.std.proofs.Common.{◌≡◌, ◌≢◌, ◌⊎◌, inl, inr, ⊎_elim, ℕ, suc, ◌<◌, ◌≤◌, ◌==◌, if◌then◌else◌, eqb, eq-eqb, ne_eqb, List, [], ◌∷◌, ◌++◌, append-nil, length, Option, Some, refl, sym, ap, subst, ◌∙◌, arith}
use Rattle.std.specs.List.{Contains}
use Rattle.std.proofs.lemmas.Bool.{cases_eq, cond-false, cond-true}
use Rattle.std.proofs.lemmas.List.{get_or-set_other, get_or-set_same, length-set}
use Rattle.std.proofs.lemmas.Option.{same_Some}
use Rattle.hp_base.specs.declared.limits.TheConstants.{MAX_HEAPS}
use Rattle.atomic_table.specs.Seated.{TableId}
use Rattle.hp_mail.specs.PassView.{MailboxView}
use Rattle.hp_stats.specs.Pairs.{IsNotBelow}
use Rattle.hp_stats.specs.StatViews as stats
use Rattle.hp_stats.specs.StatViews.{seen_of, sees}
use Rattle.hp_stats.specs.declared.stat_pair.StatPair.{StatPair}
use Rattle.hp_hall.specs.HallCalls.{HasPublished, HasReadPair, IsKeptAfter}
use Rattle.hp_hall.specs.Holding.{HeapPart, part_told}
use Rattle.hp_hall.specs.Mail.{Notes}
use Rattle.hp_hall.specs.Values.{pair_in}
use Rattle.hp_hall.specs.declared.kept.Kept.{Kept}
use Rattle.hp_hall.specs.declared.note.Note.{Note}
use Rattle.hp_hall.specs.declared.note.Note.TheVariants.{Published, ReadStats}
use Rattle.hp_board.specs.BoardView.{BoardView}
use Rattle.hp_board.specs.Knowing.{heap_part}
use Rattle.hp_board.specs.Views.{BeginsWith}
use Rattle.hp_board.proofs.Fronts.{front_same}
use Rattle.hp_hall.specs.Mail.{MailStep}
use Rattle.hp_hall.specs.Telling.{acked_after, acked_since_take}
use Rattle.hp_chair.specs.ChairCourse.{IsChairCourse}
use Rattle.hp_chair.specs.ChairInside.{IsAckedBy, IsChair, IsReader}
use Rattle.hp_chair.specs.ChairLaws.{greatest_front}
use Rattle.hp_chair.specs.ChairView.{ChairView, chair_state, greatest_count, shown_of}
use Rattle.hp_chair.specs.Steps.{pairs_at, pairs_in, told_after, told_in}
use Rattle.hp_chair.proofs.ChairKept.{chair_quiet}
use Rattle.hp_chair.proofs.ChairNotes.{hand_same}
use Rattle.hp_chair.proofs.ChairSteps.{DoesOne, MakesStep, course_step, did_steps, does_one, joined_new, joined_old, lines_stay, mail_still, others_stay, own_new, own_old, part_new, part_old, part_stays, slots_stay, told_alike}
use Rattle.hp_chair.proofs.SeatGoes.{goes_same, leaves_same}
use Rattle.hp_chair.proofs.StepsDone.{IsBeside, before_same, beside_note, done_beside}
use Rattle.hp_chair.proofs.PairsRead.{rise_step}
use Rattle.hp_chair.proofs.StepsOn.{flat_push, quiet_note, told_push}

at_most : (n : ℕ) → n ≤ n
at_most n = omega arith

-- the greatest count with one pair more
greatest_push : (pairs : List StatPair) (pair : StatPair) → greatest_count pairs ≤ pair.entries → greatest_count (pairs ++ pair ∷ []) ≡ pair.entries
greatest_push [] pair most = omega arith
greatest_push (first ∷ pairs) pair most = let rest = greatest_push pairs pair (omega (arith, most)) in omega (arith, most, rest)

greatest_least : (pairs : List StatPair) (pair : StatPair) → pair.entries ≤ greatest_count (pairs ++ pair ∷ [])
greatest_least [] pair = omega arith
greatest_least (first ∷ pairs) pair = let rest = greatest_least pairs pair in omega (arith, rest)

contains_first : (first : StatPair) (pairs : List StatPair) → Contains (first ∷ pairs) first
contains_first first pairs = (0, omega arith, refl)

contains_rest : (first other : StatPair) (pairs : List StatPair) → Contains pairs other → Contains (first ∷ pairs) other
contains_rest first other pairs among = let within = among.1 in (suc among.0, omega (arith, within), among.2)

greatest_most : (pairs : List StatPair) (count : ℕ) → IsNotBelow pairs count → greatest_count pairs ≤ count
greatest_most [] count below = omega arith
greatest_most (first ∷ pairs) count below =
    let here = below first (contains_first first pairs) in
    let rest = greatest_most pairs count (λ other among. below other (contains_rest first other pairs among)) in
    omega (arith, here, rest)

-- the hall after a step that its pass shows
abbrev pub with_stats : stats.PassView → List MailStep → ChairView → ChairView
with_stats pass steps chair = record chair { stats = pass; steps = steps }

-- the one pair that a note shows is this one, of the heap of that index
abbrev ShowsPair : ℕ → StatPair → Note → Type 0
ShowsPair index pair note = (heap : ℕ) → pairs_at heap (Notes note) ≡ if index == heap then pair ∷ [] else []

-- what was published of heaps is as it was, but for the heap of an index that it may be this pair
abbrev TellsPair : ℕ → StatPair → Note → Type 0
TellsPair index pair note = (heap : ℕ) (told : Option StatPair) (other : StatPair) → told_after heap told (Notes note) ≡ Some other
    → (told ≡ Some other) ⊎ ((heap ≡ index) × (pair ≡ other))

module _ (me index : ℕ) (pair : StatPair) (note : Note) (old : ChairView) (pass : stats.PassView) (board : BoardView) (boxes : List MailboxView)
    (cells : List TableId) (its : me ≡ old.seat.mine.who) (was : IsChair board boxes cells old) (is : pass ≡ sees index pair old.stats)
    (below : index < MAX_HEAPS) where
  abbrev new : ChairView
  new = with_stats pass (old.steps ++ Notes note ∷ []) old

  within : index < length old.stats.seen
  within = omega (arith, below, was.reads.long)

  pub seen_here : seen_of index pass ≡ seen_of index old.stats ++ pair ∷ []
  seen_here =
      ap (seen_of index) is ∙ get_or-set_same old.stats.seen index (seen_of index old.stats ++ pair ∷ []) [] within

  seen_else : (heap : ℕ) → heap ≢ index → seen_of heap pass ≡ seen_of heap old.stats
  seen_else heap apart =
      ap (seen_of heap) is ∙ get_or-set_other old.stats.seen index heap (seen_of index old.stats ++ pair ∷ []) [] apart

  grows : (heap : ℕ) → BeginsWith (seen_of heap pass) (seen_of heap old.stats)
  grows heap =
      ⊎_elim
      (λ (same : heap ≡ index).
      subst (λ (k : ℕ). BeginsWith (seen_of k pass) (seen_of k old.stats)) (sym same) (pair ∷ [], seen_here))
      (λ (apart : heap ≢ index). front_same (seen_of heap old.stats) (seen_of heap pass) (seen_else heap apart))
      (cases_eq heap index)

  makes : IsBeside (Notes note) → MakesStep (Notes note) old new
  makes beside = record {
    board = refl;
    boxes = refl;
    cells = ap (λ (p : stats.PassView). p.cells) is;
    goes = goes_same old.seat.mine;
    shown = grows;
    made = refl;
    done = done_beside old.seat.mine old.seat.mine (Notes note) beside (before_same old.seat.mine);
    mail = mail_still (Notes note) old new refl tt refl refl refl;
    planned = tt;
    full_mailboxes = omega arith;
    turns = omega arith;
    stopped = λ has. has;
  }

  pub course : IsBeside (Notes note) → IsChairCourse old new
  course beside = course_step (Notes note) old new was.declared (makes beside)

  shown_least : pair.entries ≤ shown_of index new
  shown_least = subst (λ (l : List StatPair). pair.entries ≤ greatest_count l) (sym seen_here) (greatest_least (seen_of index old.stats) pair)

  shown_told : (heap : ℕ) (other : StatPair) → (told_in heap old.steps ≡ Some other) ⊎ ((heap ≡ index) × (pair ≡ other))
      → other.entries ≤ shown_of heap new
  shown_told heap other tells =
      ⊎_elim
      (λ (before : told_in heap old.steps ≡ Some other).
      let told = was.reads.told heap other before in
      let more = greatest_front (seen_of heap old.stats) (seen_of heap pass) (grows heap) in
      omega (arith, told, more))
      (λ (now : (heap ≡ index) × (pair ≡ other)).
      subst (λ (p : StatPair). p.entries ≤ shown_of heap new) now.1 (subst (λ (k : ℕ). pair.entries ≤ shown_of k new) (sym now.0) shown_least))
      tells

  -- what the pass has read and published is what the steps say, with that pair
  shows : ShowsPair index pair note → (heap : ℕ) → seen_of heap pass ≡ pairs_in heap new.steps
  shows says heap =
      let pushed = flat_push (pairs_at heap) old.steps (Notes note) in
      let before : List StatPair = pairs_in heap old.steps in
      ⊎_elim
      (λ (same : heap ≡ index).
      let one : pairs_at heap (Notes note) ≡ pair ∷ [] =
      says heap ∙ cond-true (eqb index heap) (pair ∷ []) [] (eq-eqb index heap (sym same)) in
      subst (λ (k : ℕ). seen_of k pass ≡ seen_of k old.stats ++ pair ∷ []) (sym same) seen_here
      ∙ ap (λ (l : List StatPair). l ++ pair ∷ []) (was.reads.read.seen heap)
      ∙ ap (λ (l : List StatPair). before ++ l) (sym one) ∙ sym pushed)
      (λ (apart : heap ≢ index).
      let none : pairs_at heap (Notes note) ≡ [] =
      says heap ∙ cond-false (eqb index heap) (pair ∷ []) [] (ne_eqb index heap (λ same. apart (sym same))) in
      seen_else heap apart ∙ was.reads.read.seen heap ∙ sym (append-nil before) ∙ ap (λ (l : List StatPair). before ++ l) (sym none) ∙ sym pushed)
      (cases_eq heap index)

  reads : TellsPair index pair note → ShowsPair index pair note
      → ((heap : ℕ) (other : StatPair) → Notes note ≡ Notes (ReadStats heap other) → IsNotBelow (pairs_in heap old.steps) other.entries)
      → IsReader cells new
  reads tells says rises = record {
    many = was.reads.many;
    opened = was.reads.opened;
    its = ap (λ (p : stats.PassView). p.cells) is ∙ was.reads.its;
    long = ap (λ (p : stats.PassView). length p.seen) is ∙ length-set old.stats.seen index (seen_of index old.stats ++ pair ∷ []) ∙ was.reads.long;
    told = λ heap other has.
        shown_told heap other (tells heap (told_in heap old.steps) other (sym (told_push heap old.steps (Notes note)) ∙ has));
    read = record { seen = shows says; rising = rise_step old.steps (Notes note) was.reads.read.rising rises };
  }

  kept_on : TellsPair index pair note → ShowsPair index pair note
      → ((heap : ℕ) (other : StatPair) → Notes note ≡ Notes (ReadStats heap other) → IsNotBelow (pairs_in heap old.steps) other.entries)
      → IsAckedBy (acked_after (acked_since_take old.steps) (Notes note)) old.seat.mine → IsChair board boxes cells new
  kept_on tells says rises acked =
      chair_quiet board boxes cells old new was refl (goes_same old.seat.mine) refl (Notes note) (quiet_note note) refl refl
      (hand_same old.seat.mine) acked (reads tells says rises)

-- what a hall has read
pub record HasRead (me index : ℕ) (pair : StatPair) (old new : ChairView) : Type 0 where
  pub read : HasReadPair me index pair (chair_state old) (chair_state new)
  pub measure : new.turns ≤ old.turns
  pub goes_on : IsChairCourse old new

-- the newest pair was read
module _ (me index : ℕ) (pair : StatPair) (old : ChairView) (pass : stats.PassView) (board : BoardView) (boxes : List MailboxView)
    (cells : List TableId) (its : me ≡ old.seat.mine.who) (was : IsChair board boxes cells old) (is : pass ≡ sees index pair old.stats)
    (below : index < MAX_HEAPS) where
  abbrev note_read : Note
  note_read = ReadStats index pair

  abbrev read_view : ChairView
  read_view = with_stats pass (old.steps ++ Notes note_read ∷ []) old

  pub read_here : IsNotBelow (seen_of index old.stats) pair.entries → HasRead me index pair old read_view
  read_here newest =
      let most = greatest_most (seen_of index old.stats) pair.entries newest in
      let one : DoesOne me (Notes note_read) old read_view =
      does_one me (Notes note_read) old read_view its was.declared (makes me index pair note_read old pass board boxes cells its was is below (beside_note note_read refl refl))
      (leaves_same old.seat.mine) (λ heap told. refl) refl in
      record {
        read = record {
          not_below = most;
          shown = ap greatest_count (seen_here me index pair note_read old pass board boxes cells its was is below)
              ∙ greatest_push (seen_of index old.stats) pair most;
          did = one.did;
          stays = one.stays;
        };
        measure = one.measure;
        goes_on = one.goes_on;
      }

  -- no pair that was read or published of that heap before has a greater count
  rises_here : IsNotBelow (seen_of index old.stats) pair.entries → (heap : ℕ) (other : StatPair) → Notes note_read ≡ Notes (ReadStats heap other)
      → IsNotBelow (pairs_in heap old.steps) other.entries
  rises_here newest heap other same =
      let heaps : index ≡ heap = cc in
      let pairs : pair ≡ other = cc in
      subst (λ (p : StatPair). IsNotBelow (pairs_in heap old.steps) p.entries) pairs
      (subst (λ (k : ℕ). IsNotBelow (pairs_in k old.steps) pair.entries) heaps
      (subst (λ (l : List StatPair). IsNotBelow l pair.entries) (was.reads.read.seen index) newest))

  pub chair_read : IsNotBelow (seen_of index old.stats) pair.entries → IsChair board boxes cells read_view
  chair_read newest =
      kept_on me index pair note_read old pass board boxes cells its was is below (λ heap told other has. inl has) (λ heap. refl)
      (rises_here newest) was.acked

-- what a hall has published
pub record HasTold (me index : ℕ) (kept after : Kept) (old new : ChairView) : Type 0 where
  pub published : HasPublished me index kept after (chair_state old) (chair_state new)
  pub measure : new.turns ≤ old.turns
  pub goes_on : IsChairCourse old new

-- the pair of a heap that its seat holds was published
module _ (me index : ℕ) (kept after : Kept) (old : ChairView) (pass : stats.PassView) (board : BoardView) (boxes : List MailboxView)
    (cells : List TableId) (its : me ≡ old.seat.mine.who) (was : IsChair board boxes cells old) (is : pass ≡ sees index (pair_in kept) old.stats)
    (below : index < MAX_HEAPS) where
  abbrev note_told : Note
  note_told = Published index (pair_in kept)

  abbrev told_view : ChairView
  told_view = with_stats pass (old.steps ++ Notes note_told ∷ []) old

  told_here : told_in index told_view.steps ≡ Some (pair_in kept)
  told_here =
      told_push index old.steps (Notes note_told)
      ∙ cond-true (eqb index index) (Some (pair_in kept)) (told_in index old.steps) (eq-eqb index index refl)

  told_else : (heap : ℕ) → heap ≢ index → told_in heap told_view.steps ≡ told_in heap old.steps
  told_else heap apart =
      told_push heap old.steps (Notes note_told)
      ∙ cond-false (eqb index heap) (Some (pair_in kept)) (told_in heap old.steps) (ne_eqb index heap (λ same. apart (sym same)))

  tells_pair : TellsPair index (pair_in kept) note_told
  tells_pair heap told other has =
      ⊎_elim
      (λ (same : index ≡ heap).
      inr (sym same, same_Some (pair_in kept) other (sym (cond-true (eqb index heap) (Some (pair_in kept)) told (eq-eqb index heap same)) ∙ has)))
      (λ (apart : index ≢ heap). inl (sym (cond-false (eqb index heap) (Some (pair_in kept)) told (ne_eqb index heap apart)) ∙ has))
      (cases_eq index heap)

  pub publish_here : IsKeptAfter kept after → HasTold me index kept after old told_view
  publish_here goes =
      let on : IsChairCourse old told_view =
      course me index (pair_in kept) note_told old pass board boxes cells its was is below (beside_note note_told refl refl) in
      record {
        published = record {
          kept_after = goes;
          told = ap (λ (p : ℕ → HeapPart). p index) (part_new me old told_view its refl)
              ∙ told_alike (heap_part old.seat.mine index) (heap_part old.seat.mine index) (told_in index told_view.steps) (Some (pair_in kept)) refl told_here
              ∙ sym (ap (λ (p : ℕ → HeapPart). part_told (pair_in kept) (p index)) (part_old me old told_view its refl));
          apart = λ other apart. part_stays me old told_view its refl other refl (told_else other apart);
          shown = shown_least me index (pair_in kept) note_told old pass board boxes cells its was is below;
          joined = joined_new me old told_view its refl ∙ sym (joined_old me old told_view its refl);
          own = own_new me old told_view its refl ∙ sym (own_old me old told_view its refl);
          lines = lines_stay me old told_view its refl refl;
          seen = refl;
          heard = refl;
          slots = slots_stay me old told_view its refl refl;
          others = others_stay me old told_view its refl on;
          did = did_steps me old told_view its refl (Notes note_told ∷ []) refl;
        };
        measure = at_most _;
        goes_on = on;
      }

  pub chair_told : IsChair board boxes cells told_view
  chair_told =
      kept_on me index (pair_in kept) note_told old pass board boxes cells its was is below tells_pair (λ heap. refl)
      (λ heap other same. absurd (cc)) was.acked
