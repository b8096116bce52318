-- Each form of a give leaves what the parts of the rule ask for.
use Rattle.std.proofs.Common.{◌≡◌, ◌⊎◌, inl, inr, ⊎_elim, ◌∙◌, Bool, true, false, List, length, drop, refl, sym, ap, subst}
use Rattle.std.specs.List.{Contains}
use Rattle.std.proofs.lemmas.List.Elements.{Contains-append_cases}
use Rattle.std.proofs.Math.Seq.{drop-append_seam}
use Rattle.hp_segs.specs.Moved.{Appends, is_log_call}
use Rattle.hp_segs.specs.SegsView.{SegsView, is_member}
use Rattle.hp_segs.specs.declared.outcome.AskLog.{AskLog}
use Rattle.hp_segs.specs.Sound.{IsSound}
use Rattle.hp_segs.proofs.Appending.{moves_append}
use Rattle.hp_segs.proofs.FormCalls.{log_form_leaves, owner_form_leaves, range_form_leaves, roster_form_leaves}
use Rattle.hp_hall.specs.SegsGives.{Giver, IsLogGive, IsOwnerGive, IsRangeGive, IsRosterGive, SegsGive, claims_ranges, logs, enrols, owns}
use Rattle.hp_hall.specs.Giving as by_form
use Rattle.hp_hall.specs.Giving.{GivesForm, Knows, giver_of}
use Rattle.hp_board.specs.Left.{IsLeft}
use Rattle.hp_board.proofs.Fronts.{front_same}

module _ (giver : Giver) (taken given : SegsView) (sound : IsSound taken) where
  log_left : IsLogGive giver taken given → IsLeft giver taken given
  log_left gives =
      let came : Appends taken given = moves_append is_log_call 1 taken given gives.moved in
      let roster : given.roster ≡ taken.roster = (log_form_leaves 1 taken given sound gives.moved).roster in
      let after : drop (length taken.asks) given.asks ≡ came.outcomes = ap (drop (length taken.asks)) came.asks ∙ drop-append_seam taken.asks came.outcomes in
      record {
        log = (came.records, came.log);
        asks = (came.outcomes, came.asks);
        others = λ other apart. ap (λ (l : List Bool). is_member l other) roster;
        agreed = λ entry generation member among granted its.
            ⊎_elim (λ old. inl old)
            (λ more. inr (gives.agreed entry generation member (subst (λ (l : List AskLog). Contains l entry) (sym after) more) granted its))
            (Contains-append_cases taken.asks came.outcomes entry (subst (λ (l : List AskLog). Contains l entry) came.asks among));
        own = λ its. inl (ap (λ (l : List Bool). is_member l giver.who) (sym roster) ∙ its);
      }

  joins_by : (gives : IsRosterGive giver taken given) (was : Bool) → is_member taken.roster giver.who ≡ was → is_member given.roster giver.who ≡ true
      → (is_member taken.roster giver.who ≡ true) ⊎ (giver.number ≡ length given.log)
  joins_by gives true is its = inl is
  joins_by gives false is its = inr (gives.joins is its)

  roster_left : IsRosterGive giver taken given → IsLeft giver taken given
  roster_left gives =
      let left = roster_form_leaves 0 taken given gives.moved in
      let asks : given.asks ≡ taken.asks = ap (λ (s : SegsView). s.asks) left in
      record {
        log = front_same taken.log given.log (ap (λ (s : SegsView). s.log) left);
        asks = front_same taken.asks given.asks asks;
        others = gives.others;
        agreed = λ entry generation member among granted its. inl (subst (λ (l : List AskLog). Contains l entry) asks among);
        own = λ its. joins_by gives (is_member taken.roster giver.who) refl its;
      }

  -- log, outcomes and roster are as they were
  same_left : given.log ≡ taken.log → given.asks ≡ taken.asks → given.roster ≡ taken.roster → IsLeft giver taken given
  same_left log asks roster = record {
    log = front_same taken.log given.log log;
    asks = front_same taken.asks given.asks asks;
    others = λ other apart. ap (λ (l : List Bool). is_member l other) roster;
    agreed = λ entry generation member among granted its. inl (subst (λ (l : List AskLog). Contains l entry) asks among);
    own = λ its. inl (ap (λ (l : List Bool). is_member l giver.who) (sym roster) ∙ its);
  }

  owned_left : IsOwnerGive taken given → IsLeft giver taken given
  owned_left gives =
      let left = owner_form_leaves 0 taken given gives.moved in
      same_left (ap (λ (s : SegsView). s.log) left) (ap (λ (s : SegsView). s.asks) left) (ap (λ (s : SegsView). s.roster) left)

  ranges_left : IsRangeGive taken given → IsLeft giver taken given
  ranges_left gives =
      let left = range_form_leaves 0 taken given gives.moved in
      same_left (ap (λ (s : SegsView). s.log) left) (ap (λ (s : SegsView). s.asks) left) (ap (λ (s : SegsView). s.roster) left)

  pub given_left : SegsGive giver taken given → IsLeft giver taken given
  given_left (logs gives) = log_left gives
  given_left (enrols gives) = roster_left gives
  given_left (owns gives) = owned_left gives
  given_left (claims_ranges gives) = ranges_left gives

-- so does a give of each form by what its giver owes for heaps and asks besides
pub form_gives : (knows : Knows) (taken given : SegsView) → GivesForm knows taken given → SegsGive (giver_of knows) taken given
form_gives knows taken given (by_form.logs form) = logs form.give
form_gives knows taken given (by_form.enrols form) = enrols form
form_gives knows taken given (by_form.owns form) = owns form.give
form_gives knows taken given (by_form.claims_ranges form) = claims_ranges form.give
