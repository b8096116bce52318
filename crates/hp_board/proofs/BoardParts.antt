-- A table that keeps the rule of the board: what of it each step starts from.
use Rattle.std.proofs.Common.{◌≡◌, ℕ, ◌<◌, List, length, get_or, Option, sym, subst, ◌∙◌, arith}
use mathlib.Core.Option.{some}
use lib.ListN.{get_elem?}
use Rattle.atomic_table.specs.Table.{State, Act, Valid, carried_after, stepped}
use Rattle.hp_hall.specs.declared.kept.Kept.{Kept}
use Rattle.hp_board.specs.declared.opening.Opening.{Opening}
use Rattle.hp_board.specs.declared.words.TheConstants.{SLOTS}
use Rattle.hp_board.specs.declared.view.Mine.{Mine}
use Rattle.hp_board.specs.declared.view.View.{View}
use Rattle.hp_board.specs.BoardRule.{IsBoard}
use Rattle.hp_board.specs.KeptValues.{IsKeptAt}
use Rattle.hp_base.specs.declared.limits.TheConstants.{MAX_HEAPS}
use Rattle.hp_hall.specs.declared.kept.Kept.TheVariants.{Segments}
use Rattle.hp_board.specs.Seated.{IsSeatedAt}
use Rattle.hp_board.specs.Steps.{Sat}
use Rattle.hp_board.specs.Parts.{one_part}
use Rattle.hp_segs.specs.SegsView.{SegsView}
use Rattle.hp_board.specs.Knowing.{HasMappedHeld}
use Rattle.hp_board.specs.Lag.{IsLagging}
use Rattle.hp_board.proofs.Learned.{mapped_held}
use Rattle.hp_segs.specs.Sound.{IsSound}
use Rattle.hp_board.proofs.TakenIn.{HasTakenIn, member_taken}
use Rattle.hp_board.proofs.StepsOfSeats.SeatSteps.{seated_one}

abbrev pub BoardState : Type 0
BoardState = State (Option Kept) View

abbrev pub state : List ℕ → List (mathlib.Core.Option.Option (Option Kept)) → List View → BoardState
state words homes views = record { words = words; homes = homes; views = views }

-- a step with one word stored, after which the seat and the act keep the rule, and which tells `then`
abbrev pub Goes : Opening → BoardState → ℕ → ℕ → Sat → (ℕ → Sat → Type 0) → ℕ → Type 0
Goes opening s slot id me then word = (w : View) × (a : Act (Option Kept)) × Valid s.homes me.1 a × IsBoard opening (stepped s slot word id me.1 w a) × then (get_or s.words slot 0) (w, carried_after me.1 a)

-- the segment value is sound
pub segs_sound : (opening : Opening) (s : BoardState) (board : IsBoard opening s) → IsSound board.segments.segs
segs_sound opening s board = (subst (IsKeptAt opening MAX_HEAPS) board.segments.there (board.heaps.at MAX_HEAPS (omega arith))).sound

module _ (opening : Opening) (s : BoardState) (board : IsBoard opening s) where
  -- the segment value of which ownership speaks is that of the other parts
  pub one_segs : board.segments.segs ≡ board.owned.segs
  one_segs =
      let both : Segments board.segments.segs ≡ Segments board.owned.segs = sym board.segments.there ∙ board.owned.there in
      cc

  pub owned_sound : IsSound board.owned.segs
  owned_sound = subst IsSound one_segs (segs_sound opening s board)

  -- the table of each member has the pages of the heaps that it holds
  pub all_mapped : (who : ℕ) → who < opening.participants → HasMappedHeld (board.mine who)
  all_mapped who may =
      mapped_held board.owned.segs who (board.mine who) owned_sound (board.owned.owners who may) (board.segments.told who may).its
      (subst (λ (v : SegsView). IsLagging v who (board.mine who)) one_segs (board.segments.lagging who may))
      (subst (λ (v : SegsView). HasTakenIn v who (board.mine who)) one_segs
      (member_taken opening.participants s.words board.kept board.mine board.segments who may))

-- what a participant knows has its number
pub who_is : (opening : Opening) (s : BoardState) (board : IsBoard opening s) (w : ℕ) → w < opening.participants → (board.mine w).who ≡ w
who_is opening s board w may = (board.segments.told w may).its

module _ (opening : Opening) (s : BoardState) (board : IsBoard opening s) (id : ℕ) (part : Mine) (at : get_elem? s.views id ≡ some (one_part part)) where
  -- what is known of a seat's part
  pub its : IsSeatedAt opening.participants board.seat_of board.mine id part
  its = seated_one opening.participants s.views board.seat_of board.mine board.seated id part at

  pub seat_mapped : HasMappedHeld part
  seat_mapped = subst HasMappedHeld (sym its.known) (all_mapped opening s board part.who its.declared)

-- each slot has a word
pub in_words : (opening : Opening) (s : BoardState) (board : IsBoard opening s) (slot : ℕ) → slot < SLOTS → slot < length s.words
in_words opening s board slot inside = let wide = board.words in omega (arith, inside, wide)
