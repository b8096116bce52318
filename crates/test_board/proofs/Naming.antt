-- A participant may give back names in its hand as they were, and a new hall may take them.
use Rattle.std.proofs.Common.{◌≡◌, ℕ, List, [], Option, refl, sym, subst, arith}
use Rattle.std.specs.List.{Contains}
use Rattle.std.proofs.lemmas.List.{append-nil}
use Rattle.hp_mail.specs.PassView.{MailboxView, PassView}
use Rattle.hp_stats.specs.StatViews as stats
use Rattle.atomic_table.specs.Seated.{TableId}
use Rattle.hp_zone.specs.declared.names.Names.{Names as NamesView}
use Rattle.hp_zone.specs.declared.zone.Zone.{Zone}
use Rattle.hp_zone.specs.declared.zone.ZoneChange.{ZoneChange}
use Rattle.hp_zone.specs.declared.zone.ZoneChange.TheVariants.{Put}
use Rattle.hp_hall.specs.Giving.{GivesFor, IsGiveOf}
use Rattle.hp_hall.specs.HallCalls.{HasTaken}
use Rattle.hp_hall.specs.HallState.{HallState, known_to}
use Rattle.hp_hall.specs.Values.{Fits, IsNames}
use Rattle.hp_hall.specs.declared.kept.Kept.{Kept}
use Rattle.hp_hall.specs.declared.kept.Kept.TheVariants.{Heap, Names, Segments}
use Rattle.hp_hall.specs.declared.slot.TheConstants.{NAMES_SLOT}
use Rattle.hp_hall.proofs.HallStates.{names_taken}
use Rattle.hp_board.specs.BoardView.{BoardView}
use Rattle.hp_board.specs.SeatView.{SeatView, new_seat}
use Rattle.hp_chair.specs.ChairView.{ChairView, chair_state, opening_chair}
use Rattle.test_board.specs.Seating.{IsSeated, MayName}
use Rattle.test_board.proofs.Players.{opens}

-- the value of the names' slot is names
pub are_names : (kept : Kept) → Fits NAMES_SLOT kept → IsNames kept
are_names (Heap heap pen) fits = let below = fits.1 in absurd (omega (arith, below))
are_names (Segments segs) fits = absurd (omega (arith, fits))
are_names (Names names) fits = tt

no_zone : (zone : Zone) → Contains {X = ZoneChange} [] (Put zone) → ⊥
no_zone zone among = let within = among.1 in omega (arith, within)

-- names may be given by who took them, as they were
pub may_give : (me : ℕ) (old mid : HallState) (taken : NamesView) → HasTaken me NAMES_SLOT (Names taken) old mid
    → IsGiveOf (known_to me mid) NAMES_SLOT (Names taken)
may_give me old mid taken took =
    subst (λ (out : Option Kept). GivesFor (known_to me mid) out (Names taken)) (sym took.taken) (record {
      naming = names_taken took.did;
      names = record {
        goes_on = record {
          sockets = refl;
          more_zones = [];
          zones = sym (append-nil taken.zones.log);
          more_heaps = [];
          heaps = sym (append-nil taken.heaps.log);
        };
        allocated = λ zone among. absurd (no_zone zone among);
      };
      agrees = took.stands;
    })

-- who has done nothing in a new hall may take the names
module _ (who : ℕ) (board : BoardView) (boxes : List MailboxView) (cells : List TableId) (seat : SeatView) (passes : List PassView)
    (pass : stats.PassView) (is : IsSeated who board boxes cells seat passes pass) (chair : ChairView)
    (opened : chair ≡ opening_chair seat boxes passes pass) where
  abbrev first : ChairView
  first = opening_chair (new_seat board who) boxes passes pass

  names_first : MayName who (chair_state first)
  names_first = record { serves = refl; home = omega arith }

  pub may_name : MayName who (chair_state chair)
  may_name = subst (λ (c : ChairView). MayName who (chair_state c)) (sym (opens who board boxes cells seat passes pass is chair opened)) names_first
