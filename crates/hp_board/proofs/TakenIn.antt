-- What has been taken in, by words and by views.
use Rattle.std.proofs.Common.{◌≡◌, ℕ, ◌<◌, ◌≤◌, true, List, Some, slice_index, arith}
use Rattle.std.specs.List.{Contains}
use Rattle.hp_hall.specs.TakenIn.{AreTakenIn}
use Rattle.hp_hall.specs.declared.kept.Kept.{Kept}
use Rattle.hp_segs.specs.SegsView.{SegsView, granted_by, is_member}
use Rattle.hp_segs.specs.declared.outcome.AskLog.{AskLog}
use Rattle.hp_board.specs.Agreement.{IsDeclaredRoster}
use Rattle.hp_board.specs.SegsKept.{AreSegs}
use Rattle.hp_board.specs.Words.{IsTold, ack_word, number_by}
use Rattle.hp_board.specs.declared.view.Mine.{Mine}

-- a participant that is in the roster has taken in each record that was granted: what AreTakenIn says of it
pub record HasTakenIn (segs : SegsView) (who : ℕ) (mine : Mine) : Type 0 where
  pub granted : is_member segs.roster who ≡ true → (entry : AskLog) (generation : ℕ) → Contains segs.asks entry
      → granted_by entry.outcome ≡ Some generation → generation ≤ mine.number

-- what each member has taken in by its word it has by its view
pub has_taken : (participants : ℕ) (words : List ℕ) (segs : SegsView) (who : ℕ) (m : Mine) → IsTold participants words who m → AreTakenIn (number_by words) segs
    → HasTakenIn segs who m
has_taken participants words segs who m told agreed = record {
  granted = λ its entry generation among granted.
      let low : generation ≤ slice_index words (ack_word who) = agreed entry generation who among granted its in
      let own : slice_index words (ack_word who) ≡ m.number = told.own in
      omega (arith, low, own);
}

pub member_taken : (participants : ℕ) (words : List ℕ) (kept : ℕ → Kept) (mine : ℕ → Mine) (old : AreSegs participants words kept mine) (who : ℕ) → who < participants
    → HasTakenIn old.segs who (mine who)
member_taken participants words kept mine old who low = has_taken participants words old.segs who (mine who) (old.told who low) old.agreed

-- and what each has taken in by its view it has by its word
pub are_taken : (participants : ℕ) (words : List ℕ) (mine : ℕ → Mine) (segs : SegsView) → ((who : ℕ) → who < participants → IsTold participants words who (mine who))
    → ((who : ℕ) → who < participants → HasTakenIn segs who (mine who)) → IsDeclaredRoster participants segs → AreTakenIn (number_by words) segs
are_taken participants words mine segs told taken roster entry generation member among granted its =
    let low = roster member its in
    let had = (taken member low).granted its entry generation among granted in
    let own : slice_index words (ack_word member) ≡ (mine member).number = (told member low).own in
    omega (arith, had, own)
