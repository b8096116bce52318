-- What a participant may tell in a new hall, and what it may publish of a heap in its hand.
use Rattle.std.proofs.Common.{◌≡◌, ◌∙◌, ℕ, ◌≤◌, Option, Some, None, List, [], ◌∷◌, ◌++◌, refl, sym, ap, subst, arith}
use Rattle.std.specs.Prelude.{IsSome}
use Rattle.hp_heap.specs.declared.entry.Entry.{Entry}
use Rattle.hp_heap.specs.declared.entry.HeapAnswer.{HeapAnswer}
use Rattle.hp_heap.specs.declared.entry.HeapCall.TheVariants as call
use Rattle.hp_heap.specs.History.{HeapView, IsCall, SameButSpare}
use Rattle.hp_heap.specs.PlainHeap.{PlainHeap}
use Rattle.hp_heap.specs.Step.{after}
use Rattle.hp_base.specs.declared.tag.Caller.{Caller}
use Rattle.hp_mail.specs.PassView.{MailboxView, PassView}
use Rattle.hp_stats.specs.StatViews as stats
use Rattle.hp_stats.specs.StatViews.{PenView}
use Rattle.hp_stats.specs.declared.stat_pair.StatPair.{StatPair}
use Rattle.atomic_table.specs.Seated.{TableId}
use Rattle.hp_hall.specs.HallCalls.{HasTaken, MayPublish}
use Rattle.hp_hall.specs.HallState.{HallState, known_to}
use Rattle.hp_hall.specs.Holding.{HeapPart}
use Rattle.hp_hall.specs.Values.{Fits, IsHeap}
use Rattle.hp_hall.specs.declared.kept.Kept.{Kept}
use Rattle.hp_hall.specs.declared.kept.Kept.TheVariants.{Heap, Names, Segments}
use Rattle.hp_hall.proofs.HeldPairs.{keeps_pen}
use Rattle.hp_board.specs.BoardView.{BoardView}
use Rattle.hp_board.specs.SeatView.{SeatView, new_seat}
use Rattle.hp_chair.specs.ChairView.{ChairView, chair_part, chair_state, lines_of, no_part, opening_chair}
use Rattle.hp_chair.proofs.LinesKnown.{known_own}
use Rattle.hp_chair.proofs.OneOf.{one_here}
use Rattle.test_board.specs.Seating.{HasGoneOn, IsSeated, MayTell}
use Rattle.test_board.proofs.Players.{opens}
use Rattle.test_board.proofs.Taking.{held_some}

-- the value of heap 0's slot is a heap
pub is_first : (kept : Kept) → Fits 0 kept → IsHeap kept
is_first (Heap heap pen) fits = tt
is_first (Segments segs) fits = absurd (omega (arith, fits))
is_first (Names names) fits = absurd (omega (arith, fits))

pub after_stats : (who : ℕ) (heap : PlainHeap) → after who call.Stats heap ≡ heap
unfolding after
after_stats who heap = refl

-- a heap goes on by a question
pub gone_on : (caller : Caller) (answer : HeapAnswer) (old mid new : HeapView) → SameButSpare old mid → IsCall caller call.Stats answer mid new
    → HasGoneOn old new
gone_on caller answer old mid new same is =
    let plain : new.plain ≡ old.plain = is.heap ∙ after_stats caller.participant mid.plain ∙ same.plain in
    record {
      index = ap (λ (p : PlainHeap). p.index) plain;
      serves = ap (λ (p : PlainHeap). p.serves) plain;
      more = record { caller = caller; call = call.Stats; answer = answer } ∷ [];
      history = is.history
          ∙ ap (λ (l : List Entry). l ++ record { caller = caller; call = call.Stats; answer = answer } ∷ []) same.history;
    }

pub none_told : (told : Option StatPair) (pair : StatPair) → told ≡ None → told ≡ Some pair → ⊥
none_told told pair none some = cc

-- the pair of a heap that was taken and went on may be published
pub may_publish : (me : ℕ) (old mid : HallState) (taken given : HeapView) (pen : PenView) → HasTaken me 0 (Heap taken pen) old mid
    → HasGoneOn taken given → MayPublish (known_to me mid) 0 (Heap given pen)
may_publish me old mid taken given pen took on = record {
  taken = record { heap = taken; pen = pen };
  out = took.taken;
  held = subst (λ (n : ℕ). IsSome (mid.part me n).holding) took.fits.0
      (held_some taken (mid.part me taken.plain.index).holding took.stands.held);
  index_is = on.index ∙ took.fits.0;
  serves = on.serves;
  more = on.more;
  history = on.history;
  told = λ pair is.
      absurd (none_told (mid.part me 0).told pair (ap (λ (k : ℕ). (mid.part me k).told) (sym took.fits.0) ∙ took.part.0.untold) is);
  pen_is = keeps_pen taken given on.more pen on.index on.serves on.history took.pairs;
}

-- who has done nothing in a new hall may tell of a line
module _ (who : ℕ) (board : BoardView) (boxes : List MailboxView) (cells : List TableId) (seat : SeatView) (passes : List PassView)
    (pass : stats.PassView) (is : IsSeated who board boxes cells seat passes pass) (chair : ChairView)
    (opened : chair ≡ opening_chair seat boxes passes pass) where
  abbrev first : ChairView
  first = opening_chair (new_seat board who) boxes passes pass

  part_first : (chair_state first).part who ≡ chair_part first
  part_first = one_here {A = ℕ → HeapPart} who who (chair_part first) (λ heap. no_part) refl

  lines_first : (chair_state first).lines who ≤ 1
  lines_first =
      let lines : (chair_state first).lines who ≡ 0 = one_here who who (lines_of who first) 0 refl ∙ known_own first.seat.mine who refl in
      omega (arith, lines)

  tells_first : MayTell who (chair_state first)
  tells_first = record {
    serves = refl;
    declared = omega (arith, is.for_two.two);
    stores = record {
      rises = lines_first;
      free = λ heap. ap (λ (p : ℕ → HeapPart). (p heap).holding) part_first;
      names = refl;
    };
    home = omega arith;
  }

  pub tells : MayTell who (chair_state chair)
  tells = subst (λ (c : ChairView). MayTell who (chair_state c)) (sym (opens who board boxes cells seat passes pass is chair opened)) tells_first
