-- The heap goes back with the calls that it got, once its statistics are published, and the participant is ready for its next one.
use Rattle.std.proofs.Common.{◌≡◌, ◌∙◌, ℕ, ◌<◌, true, false, List, [], ◌∷◌, Option, None, Some, ap, refl, sym, subst, ⊎_elim, true≢false}
use Rattle.hp_base.specs.declared.limits.TheConstants.{MAX_HEAPS}
use Rattle.hp_hall.proofs.HallStates.{but_then, did_then, others_then, slots_but}
use Rattle.hp_hall.proofs.HeldPairs.{keeps_pen}
use Rattle.hp_hall.proofs.Published.{gives_after, may_publish}
use Rattle.hp_hall.specs.Giving.{IsGiveOf}
use Rattle.hp_hall.specs.HallCalls.{GivesOnceTold, HasPublished, MayPublish}
use Rattle.hp_hall.specs.HallState.{Did, HallState, OthersStay, SlotsStayBut, known_to}
use Rattle.hp_hall.specs.HeapPairs.{ArePairsOf, pair_of}
use Rattle.hp_hall.specs.Holding.{AreApart, HeapPart, IsGivenAs, part_ended}
use Rattle.hp_hall.specs.Mail.{Gives, MailStep, Notes}
use Rattle.hp_hall.specs.Telling.{has_names}
use Rattle.hp_hall.specs.Values.{SeesAsBefore, joined_after}
use Rattle.hp_hall.specs.declared.kept.Kept.{Kept}
use Rattle.hp_hall.specs.declared.kept.Kept.TheVariants.{Heap}
use Rattle.hp_hall.specs.declared.note.Note.TheVariants.{Published}
use Rattle.hp_hall.specs.declared.slot.TheConstants.{NAMES_SLOT}
use Rattle.hp_heap.specs.History.{HeapView}
use Rattle.hp_stats.specs.StatViews.{PenView}
use Rattle.hp_stats.specs.declared.stat_pair.StatPair.{StatPair}
use Rattle.hp_proc.specs.Acting.{Acts}
use Rattle.hp_proc.specs.LineInHall.{IsFreeAt, MayGiveBeside, moment}
use Rattle.hp_proc.specs.ParticipantView.{ParticipantView}
use Rattle.hp_proc.specs.Progress.{AreSettled, IsInHand, IsTakenWith, in_hand}
use Rattle.hp_serve.proofs.Carrying.{same_party}
use Rattle.hp_proc.proofs.HandFacts.BesideNames.{given_agrees, told_given}
use Rattle.hp_proc.proofs.HandFacts.HandCalls.{hand_serves}
use Rattle.hp_proc.proofs.HandFacts.HandGiven.{given_entries, given_marked, given_serves, ready_given}
use Rattle.hp_proc.proofs.HandFacts.HandMarks.{tied_given}
use Rattle.hp_proc.proofs.Joining.{does_still}
use Rattle.hp_proc.proofs.participant.Participant.put.Goals as goal

-- the pen that was taken with the heap in hand
same_pen : {a b : HeapView} {first second : PenView} → Some (Heap a first) ≡ Some (Heap b second) → first ≡ second
same_pen same = cc

-- what was not told is not told to be less
none_told : (told : Option StatPair) (pair : StatPair) → told ≡ None → told ≡ Some pair → ⊥
none_told told pair none some = cc

-- who may give a heap without the names has them in nobody's hand that its hall shows
names_out : (state : HallState) (me : ℕ) → MayGiveBeside me state → has_names (state.done me) ≡ false → state.taken NAMES_SLOT ≡ None
names_out state me beside none =
    ⊎_elim (λ (out : state.taken NAMES_SLOT ≡ None). out)
    (λ (has : has_names (state.done me) ≡ true). absurd (true≢false (sym has ∙ none))) beside

-- the heap in hand may be given once its pair is published
gives_told : (doer : ParticipantView) (heap : HeapView) (pen : PenView) (state : HallState)
    → IsInHand state.taken (moment doer.party.me doer state) heap → IsTakenWith state.taken heap.plain.index pen
    → AreSettled (moment doer.party.me doer state) → MayGiveBeside doer.party.me state
    → GivesOnceTold (known_to doer.party.me state) heap.plain.index (record { heap = heap; pen = pen })
gives_told doer heap pen state hand with_it settled beside =
    let same : hand.pen ≡ pen = same_pen (sym hand.taken_is ∙ with_it.out) in
    record {
      taken = record { heap = hand.was; pen = pen };
      out = hand.taken_is ∙ ap (λ (pen : PenView). Some (Heap hand.was pen)) same;
      index_is = refl;
      gives = record {
        index = hand.index;
        serves = hand.serves;
        own = hand.own;
        history = hand.history;
        numbered = hand.numbered;
        held = hand.held;
        settled = settled heap.plain.index;
        named = λ none. hand.named (names_out state doer.party.me beside none);
        claimed = λ has. hand.claimed;
        marks = hand.marks;
      };
      told = λ pair is. absurd (none_told (state.part doer.party.me heap.plain.index).told pair hand.untold is);
      pen_is = keeps_pen hand.was heap hand.own pen hand.index hand.serves hand.history (subst (λ (pen : PenView). ArePairsOf hand.was pen) same hand.pairs);
    }

pub publish-requires : goal.publish-requires
publish-requires g c =
    let doer = c.args.self.now in
    let heap = c.args.heap in
    let pen = c.args.pen in
    let old = g.H.Hall.state c.args.hall.now in
    let once = gives_told doer heap pen old c.requires.in_hand c.requires.taken_with c.requires.settled c.requires.beside in
    record {
      serves = subst old.serves (sym c.number.ensures) c.requires.serves;
      may = subst (λ (who : ℕ). MayPublish (known_to who old) c.index-index.result (Heap heap pen)) (sym c.number.ensures)
          (subst (λ (index : ℕ). MayPublish (known_to doer.party.me old) index (Heap heap pen)) (sym c.index-index.ensures)
          (may_publish (known_to doer.party.me old) heap.plain.index (record { heap = heap; pen = pen }) once));
    }

-- what was published, as who it is and of the heap that it is
published : (me who number : ℕ) (heap : HeapView) (pen : PenView) (after : Kept) (old mid : HallState) → who ≡ me → number ≡ heap.plain.index
    → HasPublished who number (Heap heap pen) after old mid → HasPublished me heap.plain.index (Heap heap pen) after old mid
published me who number heap pen after old mid mine its is =
    subst (λ (who : ℕ). HasPublished who heap.plain.index (Heap heap pen) after old mid) mine
    (subst (λ (number : ℕ). HasPublished who number (Heap heap pen) after old mid) its is)

pub give-requires : goal.give-requires
give-requires g c =
    let doer = c.args.self.now in
    let me = doer.party.me in
    let heap = c.args.heap in
    let pen = c.args.pen in
    let after = c.publish.new.kept in
    let old = g.H.Hall.state c.args.hall.now in
    let mid = g.H.Hall.state c.publish.new.self in
    let is =
    published me c.number.result c.index-index.result heap pen after old mid c.number.ensures c.index-index.ensures c.publish.ensures.published in
    let once = gives_told doer heap pen old c.requires.in_hand c.requires.taken_with c.requires.settled c.requires.beside in
    record {
      serves = is.others.later.serves c.number-2.result (subst old.serves (sym c.number-2.ensures) c.requires.serves);
      slot = subst (λ (index : ℕ). index < MAX_HEAPS) (sym c.index-index.ensures) c.requires.in_hand.few;
      gives = subst (λ (who : ℕ). IsGiveOf (known_to who mid) c.index-index.result after) (sym c.number-2.ensures)
          (subst (λ (index : ℕ). IsGiveOf (known_to me mid) index after) (sym c.index-index.ensures)
          (gives_after me heap.plain.index (record { heap = heap; pen = pen }) after old mid c.requires.in_hand.sound once is));
    }

pub returns : goal.returns
returns g c =
    let doer = c.args.self.now in
    let me = doer.party.me in
    let heap = c.args.heap in
    let after = c.publish.new.kept in
    let old = g.H.Hall.state c.args.hall.now in
    let mid = g.H.Hall.state c.publish.new.self in
    let new = g.H.Hall.state c.give.new.self in
    let told =
    published me c.number.result c.index-index.result heap c.args.pen after old mid c.number.ensures c.index-index.ensures
    c.publish.ensures.published in
    let pen = told.kept_after.pen_after in
    let is = c.give.ensures in
    let index = c.index-index.result in
    let mine = c.number-2.ensures in
    let gave =
    subst (λ (kept : Kept). IsGivenAs me kept (mid.part me) (new.part me)) told.kept_after.kept
    (subst (λ (who : ℕ). IsGivenAs who after (mid.part who) (new.part who)) mine is.gave.part) in
    let here : new.part me heap.plain.index ≡ part_ended me heap (old.part me heap.plain.index) =
    gave.0 ∙ ap (λ (part : HeapPart). part_ended me heap part) told.told in
    let apart : AreApart heap.plain.index (old.part me) (new.part me) = λ other away. gave.1 other away ∙ told.apart other away in
    let marks = given_marked me heap (old.part me) (new.part me) here apart in
    let others = others_then told.others (subst (λ (who : ℕ). OthersStay who mid new) mine is.others) in
    let own = subst (λ (who : ℕ). new.own who ≡ mid.own who) mine is.gave.own ∙ told.own in
    let joined =
    subst (λ (kept : Kept). new.joined me ≡ joined_after me kept (mid.joined me)) told.kept_after.kept
    (subst (λ (who : ℕ). new.joined who ≡ joined_after who after (mid.joined who)) mine is.gave.joined) ∙ told.joined in
    let sees =
    subst (λ (kept : Kept). SeesAsBefore kept (mid.seen me) (new.seen me)) told.kept_after.kept
    (subst (λ (who : ℕ). SeesAsBefore after (mid.seen who) (new.seen who)) mine is.gave.sees) ∙ told.seen in
    let seen = others.later.seen me in
    let heard = others.later.heard me in
    let gives =
    subst (λ (kept : Kept). Did me (Gives heap.plain.index kept ∷ []) mid new) told.kept_after.kept
    (subst (λ (index : ℕ). Did me (Gives index after ∷ []) mid new) c.index-index.ensures
    (subst (λ (who : ℕ). Did who (Gives index after ∷ []) mid new) mine is.gave.did)) in
    let steps : List MailStep = Notes (Published heap.plain.index (pair_of heap)) ∷ Gives heap.plain.index (Heap heap pen) ∷ [] in
    let did : Did me steps old new = did_then told.did gives in
    record {
      does = λ doing.
          does_still old.count (λ (steps : List MailStep). Did me steps old new) doing (in_hand heap (moment me doer old)) (moment me doer new)
          steps did (Acts.gives_heap doer heap pen)
          (given_entries me heap (old.part me) (new.part me) here apart)
          (λ at. given_serves me heap (old.part me) (new.part me) here apart at ∙ sym (hand_serves me heap (old.part me) at))
          (same_party doer.party) refl refl seen.0 seen.1 heard.0 heard.1;
      ready = ready_given me heap (old.part me) (new.part me) here apart old.taken doer (old.seen me) (new.seen me) (old.heard me)
          (new.heard me) heard.0 refl c.requires.in_hand heard.1 c.requires.settled;
      marks = marks;
      tied = tied_given me doer.party heap others.later joined own marks;
      table = record { joined = joined; seen = sees; own = own };
      agreed = record { agrees = given_agrees me heap (old.part me) (new.part me) here apart; told = told_given did };
      free = subst (λ (index : ℕ). IsFreeAt index new) c.index-index.ensures (record { taken = is.gave.taken; home = is.gave.home });
      slots = subst (λ (index : ℕ). SlotsStayBut index old new) c.index-index.ensures (but_then (slots_but told.slots) is.slots);
      others = others;
      goes_on = g.met.H.Hall.goes_on_then _ _ _ c.publish.ensures.goes_on is.goes_on;
    }
