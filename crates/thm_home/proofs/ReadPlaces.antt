-- Where a participant reads statistics on its way: what it had published and read by then, and what it made afterwards.
use Rattle.std.proofs.Common.{◌≡◌, ◌≢◌, ◌⊎◌, ◌∙◌, ℕ, ◌+◌, ◌≤◌, eqb, eq-eqb, List, [], ◌∷◌, ◌++◌, append-nil, append_assoc, length, Option, Some, None, ⊎_elim, refl, ap, sym, subst, arith}
use Rattle.std.specs.Prelude.{Contains, ◌==◌}
use Rattle.std.proofs.lemmas.Bool.{cases_eq, cond-true}
use Rattle.std.proofs.lemmas.Grind.{flat_map-append}
use Rattle.std.proofs.lemmas.List.Elements.{Contains-append_left, Contains-append_right}
use Rattle.std.proofs.lemmas.Option.{same_Some}
use Rattle.hp_chair.specs.Steps.{pairs_at, pairs_in}
use Rattle.hp_hall.specs.HeapPairs.{pair_of}
use Rattle.hp_hall.specs.Mail.{Gives, MailStep, Notes, Takes}
use Rattle.hp_hall.specs.declared.kept.Kept.TheVariants.{Heap, Names}
use Rattle.hp_hall.specs.declared.note.Note.TheVariants.{Published, ReadStats}
use Rattle.hp_hall.specs.declared.slot.TheConstants.{NAMES_SLOT}
use Rattle.hp_heap.specs.History.{HeapView}
use Rattle.hp_proc.specs.Acting.{Acts}
use Rattle.hp_proc.specs.Courses.{calls_in}
use Rattle.hp_proc.specs.Denying.{denials_of}
use Rattle.hp_proc.specs.Doing.{Counted, Done}
use Rattle.hp_proc.specs.Doing.Done.{StatsRead}
use Rattle.hp_proc.specs.Handing.{counted_in}
use Rattle.hp_proc.specs.Histories.{entries_for}
use Rattle.hp_proc.specs.LinesDone.{Course}
use Rattle.hp_proc.specs.ParticipantView.{ParticipantView}
use Rattle.hp_serve.specs.Attaching.{after_attaching}
use Rattle.hp_serve.specs.Serving.{acks_after, gives_segments, takes_segments}
use Rattle.hp_stats.specs.StatViews.{PenView}
use Rattle.hp_stats.specs.declared.stat_pair.StatPair.{StatPair}
use Rattle.thm_run.proofs.ServesNoHeap.{none_both}
use Rattle.thm_run.proofs.WaitsNoHeap.{acks_none, ask_none, notice_none, turn_none}
use Rattle.thm_run.specs.OwnLines.{WentByLines}
use Rattle.thm_run.specs.Seats.{Seat}
use Rattle.thm_home.proofs.ActsApart.{none_of}
use Rattle.thm_home.proofs.BesideHeap.{AreBeside, added, beside_both, held_after, none_beside, others_beside}

-- WHAT IT GAVE BACK LAST

-- a heap was never in hand, or was given back with its pair published right before that, and not touched since
pub data IsFresh (index : ℕ) (steps : List MailStep) : Type 0 where
  never : AreBeside index steps → IsFresh index steps
  given : (before : List MailStep) (heap : HeapView) (pen : PenView) (behind : List MailStep) → heap.plain.index ≡ index
      → steps ≡ before ++ Notes (Published heap.plain.index (pair_of heap)) ∷ Gives heap.plain.index (Heap heap pen) ∷ behind
      → AreBeside index behind → IsFresh index steps

fresh_more : (index : ℕ) (steps more : List MailStep) → IsFresh index steps → AreBeside index more → IsFresh index (steps ++ more)
fresh_more index steps more (IsFresh.never beside) late = IsFresh.never (beside_both index steps more beside late)
fresh_more index steps more (IsFresh.given before heap pen behind its is beside) late =
    IsFresh.given before heap pen (behind ++ more) its
    (ap (λ (l : List MailStep). l ++ more) is
    ∙ append_assoc before (Notes (Published heap.plain.index (pair_of heap)) ∷ Gives heap.plain.index (Heap heap pen) ∷ behind) more)
    (beside_both index behind more beside late)

fresh_same : (index : ℕ) (steps : List MailStep) → IsFresh index steps → IsFresh index (steps ++ [])
fresh_same index steps fresh = subst (IsFresh index) (sym (append-nil steps)) fresh

pub acts_fresh : {count : ℕ} {hand fin : Option ℕ} {held : List ℕ} {doer after : ParticipantView} {trace : List Done} {steps : List MailStep}
    → Acts count hand fin held doer after trace steps → (index : ℕ) (so_far : List MailStep) → (hand ≢ Some index → IsFresh index so_far)
    → fin ≢ Some index → IsFresh index (so_far ++ steps)
acts_fresh (Acts.nothing hand doer) index so_far was apart = fresh_same index so_far (was apart)
acts_fresh {count} (Acts.waits_turn until doer after moved steps turned) index so_far was apart =
    fresh_more index so_far steps (was apart)
    (none_beside index steps (turn_none (denials_of doer.context.standing) count until doer.party after steps moved turned))
acts_fresh (Acts.takes_heap doer heap pen few) index so_far was apart =
    fresh_more index so_far (Takes heap.plain.index (Heap heap pen) ∷ []) (was (none_of index)) ((λ same. apart (ap Some same)), tt)
acts_fresh (Acts.sees_heap doer heap pen few) index so_far was apart =
    fresh_more index so_far (Takes heap.plain.index (Heap heap pen) ∷ []) (was (none_of index)) ((λ same. apart (ap Some same)), tt)
acts_fresh (Acts.gives_heap doer heap pen) index so_far was apart =
    ⊎_elim
    (λ (same : heap.plain.index ≡ index). IsFresh.given so_far heap pen [] same refl tt)
    (λ (differ : heap.plain.index ≢ index).
    fresh_more index so_far (Notes (Published heap.plain.index (pair_of heap)) ∷ Gives heap.plain.index (Heap heap pen) ∷ [])
    (was (λ same. differ (same_Some heap.plain.index index same))) (tt, (differ, tt)))
    (cases_eq heap.plain.index index)
acts_fresh (Acts.makes_call doer its call answer uncut) index so_far was apart = fresh_same index so_far (was apart)
acts_fresh (Acts.cuts_run doer its addr run segs) index so_far was apart = fresh_more index so_far _ (was apart) (tt, (tt, tt))
acts_fresh {count} (Acts.asks_pages doer after asked run steps does) index so_far was apart =
    fresh_more index so_far steps (was apart)
    (none_beside index steps (ask_none (denials_of doer.context.standing) count doer.party after asked steps run does))
acts_fresh {count} (Acts.notifies_run doer after its run steps does) index so_far was apart =
    fresh_more index so_far steps (was apart)
    (none_beside index steps (notice_none (denials_of doer.context.standing) count doer.party after its run steps does))
acts_fresh (Acts.attaches doer after segs caught tried) index so_far was apart =
    let acks : List MailStep = acks_after caught (length segs.log) in
    let gives : List MailStep = gives_segments (after_attaching doer.party.me caught segs) ∷ [] in
    fresh_more index so_far (takes_segments segs ∷ (acks ++ gives)) (was apart)
    (none_beside index (takes_segments segs ∷ (acks ++ gives)) (tt, none_both acks gives (acks_none caught (length segs.log)) (tt, tt)))
acts_fresh (Acts.detaches doer segs told above left bare heard) index so_far was apart = fresh_more index so_far _ (was apart) (tt, (tt, (tt, tt)))
acts_fresh (Acts.notes_left doer elements) index so_far was apart = fresh_same index so_far (was apart)
acts_fresh (Acts.reads_names doer names) index so_far was apart = fresh_more index so_far _ (was apart) (tt, (tt, tt))
acts_fresh (Acts.holds_names held doer after names left trace steps does changes) index so_far was apart =
    let takes : List MailStep = Takes NAMES_SLOT (Names names) ∷ [] in
    let gives : List MailStep = Gives NAMES_SLOT (Names left) ∷ [] in
    subst (IsFresh index) (append_assoc (so_far ++ takes) steps gives ∙ append_assoc so_far takes (steps ++ gives))
    (fresh_more index ((so_far ++ takes) ++ steps) gives
    (acts_fresh does index (so_far ++ takes) (λ differ. fresh_more index so_far takes (was differ) (tt, tt)) apart) (tt, tt))
acts_fresh (Acts.changes_names hand doer change) index so_far was apart = fresh_same index so_far (was apart)
acts_fresh (Acts.looks_at_segs doer its segs) index so_far was apart = fresh_more index so_far _ (was apart) (tt, (tt, tt))
acts_fresh (Acts.plans_range doer its addr len page segs) index so_far was apart = fresh_more index so_far _ (was apart) (tt, (tt, tt))
acts_fresh (Acts.claims doer its chunk segs planned) index so_far was apart = fresh_more index so_far _ (was apart) (tt, (tt, tt))
acts_fresh (Acts.releases doer its chunk segs) index so_far was apart = fresh_more index so_far _ (was apart) (tt, (tt, tt))
acts_fresh (Acts.maps_chunk doer its chunk maps ended is) index so_far was apart = fresh_same index so_far (was apart)
acts_fresh (Acts.shares doer its chunk is) index so_far was apart = fresh_same index so_far (was apart)
acts_fresh (Acts.leaves doer its chunk maps is) index so_far was apart = fresh_same index so_far (was apart)
acts_fresh (Acts.looks_up_lines doer other lines) index so_far was apart = fresh_more index so_far _ (was apart) (tt, tt)
acts_fresh (Acts.reads_stats doer its pair) index so_far was apart = fresh_more index so_far _ (was apart) (tt, tt)
acts_fresh (Acts.and_then hand between fin held more doer mid after first rest before behind one two) index so_far was apart =
    subst (IsFresh index) (append_assoc so_far before behind)
    (acts_fresh two index (so_far ++ before) (λ differ. acts_fresh one index so_far was differ) apart)

pub way_fresh : {count who : ℕ} {first last : Seat} {courses : List Course} {steps : List MailStep} → WentByLines count who first last courses steps
    → (index : ℕ) → IsFresh index steps
way_fresh (WentByLines.begins seat) index = IsFresh.never tt
way_fresh (WentByLines.beside first old new courses before steps went path same same_lines none) index =
    fresh_more index before steps (way_fresh went index) (others_beside index steps none)
way_fresh (WentByLines.does_line first old new courses course before steps went is) index =
    acts_fresh is.acts index before (λ apart. way_fresh went index) (none_of index)

-- WHAT IT READ BEFORE

pairs_both : (index : ℕ) (first last : List MailStep) → pairs_in index (first ++ last) ≡ pairs_in index first ++ pairs_in index last
pairs_both index first last = flat_map-append (pairs_at index) first last

-- a pair that was read is among those of the steps
pub pair_among : (index : ℕ) (steps before behind : List MailStep) (pair : StatPair)
    → steps ≡ before ++ Notes (ReadStats index pair) ∷ behind → Contains (pairs_in index steps) pair
pair_among index steps before behind pair is =
    let here : pairs_in index (Notes (ReadStats index pair) ∷ behind) ≡ pair ∷ pairs_in index behind =
    ap (λ (l : List StatPair). l ++ pairs_in index behind) (cond-true (eqb index index) (pair ∷ []) [] (eq-eqb index index refl)) in
    subst (λ (l : List StatPair). Contains l pair) (sym (ap (pairs_in index) is ∙ pairs_both index before (Notes (ReadStats index pair) ∷ behind)))
    (Contains-append_right (pairs_in index before) (pairs_in index (Notes (ReadStats index pair) ∷ behind)) pair
    (subst (λ (l : List StatPair). Contains l pair) (sym here) (0, omega arith, refl)))

-- a pair that was read is shown by those of the steps
pub record IsShown (index : ℕ) (counted : Counted) (steps : List MailStep) : Type 0 where
  pub pair : StatPair
  pub is : counted ≡ counted_in pair
  pub among : Contains (pairs_in index steps) pair

pub shown_early : (index : ℕ) (counted : Counted) (first last : List MailStep) → IsShown index counted first → IsShown index counted (first ++ last)
shown_early index counted first last shown = record {
  pair = shown.pair;
  is = shown.is;
  among = subst (λ (l : List StatPair). Contains l shown.pair) (sym (pairs_both index first last))
      (Contains-append_left (pairs_in index first) (pairs_in index last) shown.pair shown.among);
}

pub shown_late : (index : ℕ) (counted : Counted) (first last : List MailStep) → IsShown index counted last → IsShown index counted (first ++ last)
shown_late index counted first last shown = record {
  pair = shown.pair;
  is = shown.is;
  among = subst (λ (l : List StatPair). Contains l shown.pair) (sym (pairs_both index first last))
      (Contains-append_right (pairs_in index first) (pairs_in index last) shown.pair shown.among);
}

-- ON ITS WAY

-- It read that after the first part of its trace: by then the heap was given back, and all that it had read was shown; and what it added to
-- the heap afterwards are its later calls.
pub record IsReadAt (who index : ℕ) (first rest : List Done) (counted : Counted) (steps : List MailStep) : Type 0 where
  pub pair : StatPair
  pub is : counted ≡ counted_in pair
  pub before : List MailStep
  pub behind : List MailStep
  pub steps_are : steps ≡ before ++ Notes (ReadStats index pair) ∷ behind
  pub fresh : IsFresh index before
  pub free : held_after index None behind ≡ None
  pub late : added who index None behind ≡ entries_for who index (1 + length (calls_in first)) (calls_in rest)
  pub shown : (other : Counted) (early between : List Done) → first ≡ early ++ StatsRead index other ∷ between → IsShown index other before
