-- What the turns of participants that attach and detach rest on.
use Rattle.std.proofs.Common.{◌≡◌, ◌∙◌, ℕ, ◌<◌, ◌≤◌, true, false, not, [], ◌∷◌, length, Some, None, refl, sym, ap, subst, arith, if◌then◌else◌}
use Rattle.std.specs.Option.{is_some}
use Rattle.atomic_table.specs.Seated.{TableId}
use Rattle.hp_segs.specs.Calls.{MayJoin, MayLeave}
use Rattle.hp_segs.specs.LaterSteps.{after_join, after_leave}
use Rattle.hp_segs.specs.SegsView.{SegsView, is_member}
use Rattle.hp_segs.specs.Sound.{IsSound}
use Rattle.hp_hall.specs.Giving.{GivesSegments}
use Rattle.hp_board.specs.Giving.{IsGiveAt}
use Rattle.hp_hall.specs.Values.{HasMember}
use Rattle.hp_hall.specs.declared.kept.Kept.{Kept}
use Rattle.hp_hall.specs.declared.kept.Kept.TheVariants.{Segments}
use Rattle.hp_hall.proofs.Gives.{gives_join, gives_leave}
use Rattle.hp_board.proofs.OwnershipFacts.GivenTaken.{gives_at}
use Rattle.hp_board.specs.BoardView.{BoardView}
use Rattle.hp_board.specs.Handed.{GoesOnFrom, HasTakenLater, IsHanded}
use Rattle.hp_board.specs.Knowing.{knows_of}
use Rattle.hp_board.specs.SeatView.{SeatView, new_seat}
use Rattle.hp_board.specs.Views.{after_acking, after_give, holds_segments, log_seen, value_of, without}
use Rattle.hp_board.specs.declared.view.Mine.{Mine}
use Rattle.hp_board.proofs.Fronts.{front_length}
use Rattle.bench_board.specs.Rounds.{IsBack}
use Rattle.bench_board.specs.Visits.{Changes, HoldsAll, IsReady, IsReadyAgain}

-- THE SEGMENT VALUE IN HAND

module _ (old first : Mine) (kept : Kept) (segs : SegsView) (takes : HasTakenLater 32 kept old first) (is : kept ≡ Segments segs) (free : old.held ≡ []) where
  held_alone : first.held ≡ (32, Segments segs) ∷ []
  held_alone = ap (λ (m : Mine). m.held) takes.view.1 ∙ ap (λ held. (32, kept) ∷ held) free ∙ ap (λ (k : Kept). (32, k) ∷ []) is

  log_whole : first.log ≡ segs.log
  log_whole = ap (λ (m : Mine). m.log) takes.view.1 ∙ ap (λ (k : Kept). log_seen k old.log) is

  -- it may acknowledge all records
  pub hand : holds_segments first ≡ true
  hand = ap (λ held. is_some (value_of 32 held)) held_alone

  pub rises : (number : ℕ) → IsHanded old 32 kept first → old.number ≤ length old.log → number ≡ length segs.log → first.number ≤ number
  rises number handed seen all =
      let front = subst (GoesOnFrom old) is handed.front in
      let long = front_length segs.log old.log front.0 in
      let same : first.number ≡ old.number = ap (λ (m : Mine). m.number) takes.view.1 in
      omega (arith, long, same, seen, all)

  pub within : (number : ℕ) → number ≡ length segs.log → number ≤ length first.log
  within number all = let long = ap length log_whole in omega (arith, long, all)

  -- where it is out it joins, and has acknowledged them since it took the value
  joins_with : (number : ℕ) (second : Mine) → IsHanded old 32 kept first → number ≡ length segs.log → second ≡ after_acking number first
      → is_member segs.roster second.who ≡ false → (knows_of second).acked ≡ Some (length segs.log)
  joins_with number second handed all acked out =
      let who : second.who ≡ old.who = ap (λ (m : Mine). m.who) acked ∙ ap (λ (m : Mine). m.who) takes.view.1 in
      let known : is_member segs.roster old.who ≡ old.joined = subst (HasMember old.who old.joined) is handed.roster in
      let was : first.joined ≡ false =
      ap (λ (m : Mine). m.joined) takes.view.1 ∙ (sym known ∙ (ap (is_member segs.roster) (sym who) ∙ out)) in
      let joins : second.joining ≡ true = ap (λ (m : Mine). m.joining) acked ∙ ap not was in
      ap (λ b. if b then Some second.number else None) joins ∙ ap Some (ap (λ (m : Mine). m.number) acked ∙ all)

  pub holds_all : (number : ℕ) (second : Mine) → IsSound segs → IsHanded old 32 kept first → number ≡ length segs.log
      → second ≡ after_acking number first → HoldsAll old segs second
  holds_all number second sound handed all acked = record {
    sound = sound;
    who = ap (λ (m : Mine). m.who) acked ∙ ap (λ (m : Mine). m.who) takes.view.1;
    held = ap (λ (m : Mine). m.held) acked ∙ held_alone;
    number = ap (λ (m : Mine). m.number) acked ∙ all;
    acked = joins_with number second handed all acked;
    log = ap (λ (m : Mine). m.log) acked ∙ log_whole;
  }

-- it may give what comes of the value, and is ready again then
pub may_give_all : (old holder : Mine) (segs given : SegsView) → HoldsAll old segs holder → GivesSegments (knows_of holder) segs given → IsGiveAt (knows_of holder) 32 (Segments given)
may_give_all old holder segs given holds gives = gives_at (knows_of holder) 32 (Segments segs) (Segments given) (ap (value_of 32) holds.held) gives

pub ready_again : (board : TableId) (old new : SeatView) (holder : Mine) (segs given : SegsView) → IsReady board old → new.board ≡ board → HoldsAll old.mine segs holder
    → GivesSegments (knows_of holder) segs given → new.mine ≡ after_give 32 (Segments given) holder → IsReadyAgain board old new
ready_again board old new holder segs given was here holds gives gave =
    let who : new.mine.who ≡ old.mine.who = ap (λ (m : Mine). m.who) gave ∙ holds.who in
    record {
      ready = record {
        board_is = here;
        declared = let low = was.declared in omega (arith, who, low);
        free = ap (λ (m : Mine). m.held) gave ∙ ap (without 32) holds.held;
        seen =
            let number : new.mine.number ≡ length segs.log = ap (λ (m : Mine). m.number) gave ∙ holds.number in
            let long : length new.mine.log ≡ length given.log = ap (λ (m : Mine). length m.log) gave in
            let more = front_length given.log segs.log (gives.more, gives.log) in
            omega (arith, number, long, more);
      };
      who = who;
    }

-- the participant joins, or leaves
pub joins : (who : ℕ) (segs : SegsView) → MayJoin who (length segs.log) segs → Changes who segs (after_join who segs)
joins who segs may knows is number acked emptied =
    subst (λ (w : ℕ). GivesSegments knows segs (after_join w segs)) is
    (gives_join knows segs (record { declared = let low = may.declared in omega (arith, low, is); out = ap (is_member segs.roster) is ∙ may.out; all = number })
    (acked may.out))

pub leaves : (who : ℕ) (segs : SegsView) → MayLeave who segs → Changes who segs (after_leave who segs)
leaves who segs may knows is number acked emptied =
    subst (λ (w : ℕ). GivesSegments knows segs (after_leave w segs)) is
    (gives_leave knows segs (record { member = ap (is_member segs.roster) is ∙ may.member; secondary = let low = may.secondary in omega (arith, low, is) })
    emptied)

pub gives_changed : (old holder : Mine) (segs given : SegsView) → HoldsAll old segs holder → Changes holder.who segs given → GivesSegments (knows_of holder) segs given
gives_changed old holder segs given holds changes = changes (knows_of holder) refl holds.number holds.acked refl

-- SEATS

pub new_ready : (board : BoardView) (who : ℕ) (seat : SeatView) → who < 3 → seat ≡ new_seat board who → IsReady board.id seat
new_ready board who seat low is = subst (IsReady board.id) (sym is) (record { board_is = refl; declared = low; free = refl; seen = omega arith })

-- a turn after another
pub again_none : (board : TableId) (seat : SeatView) → IsReady board seat → IsReadyAgain board seat seat
again_none board seat ready = record { ready = ready; who = refl }

pub again_then : (board : TableId) (old between new : SeatView) → IsReadyAgain board old between → IsReadyAgain board between new → IsReadyAgain board old new
again_then board old between new first second = record { ready = second.ready; who = second.who ∙ first.who }

-- who comes back ready holds nothing
pub back : (board : BoardView) (who : ℕ) (old new : SeatView) → old ≡ new_seat board who → IsReadyAgain board.id old new → IsBack board.id who new
back board who old new is again = record {
  board_is = again.ready.board_is;
  who_is = again.who ∙ ap (λ (s : SeatView). s.mine.who) is;
  holds = again.ready.free;
}
