-- What the two do in their halls: a heap that was taken may be given after the first call of the taker, and nothing is in hand before and after.
use Rattle.std.proofs.Common.{◌≡◌, ◌≢◌, ◌∙◌, ⊎_elim, ℕ, ◌+◌, [], Option, Some, None, Contains, refl, sym, ap, subst}
use Rattle.std.proofs.lemmas.Bool.{cases_eq}
use Rattle.hp_base.specs.declared.tag.Caller.{Caller}
use Rattle.hp_heap.specs.declared.entry.HeapAnswer.{HeapAnswer}
use Rattle.hp_heap.specs.declared.entry.HeapCall.TheVariants as call
use Rattle.hp_heap.specs.History.{HeapView, IsCall, SameButSpare}
use Rattle.hp_heap.specs.HistoryLaws.{run_cut}
use Rattle.hp_heap.specs.PlainHeap.{PlainHeap}
use Rattle.hp_stats.specs.StatViews.{PenView}
use Rattle.hp_stats.specs.declared.stat_pair.StatPair.{StatPair}
use Rattle.hp_hall.specs.AgreedNames.{chunk_memory}
use Rattle.hp_hall.specs.Giving.{GivesHeap, Knows, entries_made}
use Rattle.hp_hall.specs.HallCalls.{GivesOnceTold, HasTaken}
use Rattle.hp_hall.specs.HallState.{HallState, IsLater, SlotsStayBut, known_to}
use Rattle.hp_hall.specs.HeapPairs.{ArePairsOf}
use Rattle.hp_hall.specs.declared.kept.Kept.TheVariants.{Heap}
use Rattle.hp_hall.proofs.Gives.{armed_taken, entries_made-none, entries_taken, gives_call, held_called, unarmed_settled}
use Rattle.hp_hall.proofs.HeldPairs.{keeps_pen}
use Rattle.hp_hall.proofs.NamesLeft.{leaves_same}
use Rattle.test_board.specs.Visiting.{IsIdle, IsUntouched}
use Rattle.test_board.proofs.Telling.{after_stats, none_told}

-- a heap of which nothing was published since it was taken
once_told : (knows : Knows) (index : ℕ) (taken given : HeapView) (pen : PenView) → knows.taken index ≡ Some (Heap taken pen)
    → taken.plain.index ≡ index → ArePairsOf taken pen → (knows.part index).told ≡ None → GivesHeap knows taken given
    → GivesOnceTold knows index (record { heap = given; pen = pen })
once_told knows index taken given pen out fits pairs untold gives = record {
  taken = record { heap = taken; pen = pen };
  out = out;
  index_is = gives.index ∙ fits;
  gives = gives;
  told = λ pair is. absurd (none_told (knows.part index).told pair untold is);
  pen_is = keeps_pen taken given gives.own pen gives.index gives.serves gives.history pairs;
}

-- who has made no call in any heap takes heap 0 and asks for its statistics
module _ (me : ℕ) (old new : HallState) (taken mid given : HeapView) (pen : PenView) (answer : HeapAnswer) (took : HasTaken me 0 (Heap taken pen) old new)
    (untouched : (heap : ℕ) → IsUntouched (old.part me heap)) (same : SameButSpare taken mid) (no_run : run_cut answer ≡ [])
    (is : IsCall (record { participant = me; number = 1 }) call.Stats answer mid given) where
  abbrev knows : Knows
  knows = known_to me new

  still : given.plain ≡ mid.plain
  still = is.heap ∙ after_stats me mid.plain

  first : ◌≡◌ {A = Caller} (record { participant = me; number = 1 }) (record { participant = me; number = entries_made knows.part + 1 })
  first =
      ap (λ (n : ℕ). record { participant = me; number = n + 1 })
      (sym (entries_made-none knows.part (λ heap. entries_taken (Heap taken pen) (old.part me) (new.part me) took.part heap ∙ (untouched heap).entries)))

  gives : GivesHeap knows taken given
  gives =
      gives_call knows taken mid given _ call.Stats answer same is (ap (λ (p : PlainHeap). p.index) still) (ap (λ (p : PlainHeap). p.serves) still)
      first
      (held_called taken mid given knows.part _ call.Stats answer same is (still ∙ same.plain) refl no_run took.stands.held)
      (unarmed_settled given.plain.index knows.heard (knows.part given.plain.index)
      (armed_taken (Heap taken pen) (old.part me) (new.part me) took.part given.plain.index ∙ (untouched given.plain.index).unarmed))
      (leaves_same me mid.plain given.plain still)
      (λ claims chunk. subst (λ (p : PlainHeap). (knows.part p.index).claims ≡ Some claims → Contains p.chunks chunk → Contains claims (chunk_memory chunk))
      (sym (still ∙ same.plain)) (took.stands.claimed claims chunk))

  pub may_give_called : GivesOnceTold knows 0 (record { heap = given; pen = pen })
  may_give_called =
      once_told knows 0 taken given pen took.taken took.fits.0 took.pairs
      (ap (λ (k : ℕ). (knows.part k).told) (sym took.fits.0) ∙ took.part.0.untold) gives

-- who has nothing in hand has nothing once it has taken a value out of a slot and given one back
pub idle_again : (who slot : ℕ) (old mid new : HallState) → IsIdle who old → SlotsStayBut slot old mid → IsLater old mid → SlotsStayBut slot mid new
    → IsLater mid new → new.taken slot ≡ None → IsIdle who new
idle_again who slot old mid new idle first here second next none = record {
  serves = next.serves who (here.serves who idle.serves);
  two = next.count ∙ here.count ∙ idle.two;
  free = λ number.
      ⊎_elim (λ (same : number ≡ slot). ap (λ (n : ℕ). new.taken n) same ∙ none)
      (λ (apart : number ≢ slot). second.taken number apart ∙ first.taken number apart ∙ idle.free number) (cases_eq number slot);
}
