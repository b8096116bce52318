-- A segment value in which nobody is armed yet.
use Rattle.std.proofs.Common.{◌≡◌, ◌∙◌, ℕ, zero, suc, List, [], replicate, slice_index_or, Option, None, refl, sym, ap, subst, IfSome}
use Rattle.std.specs.Prelude.{Contains}
use Rattle.hp_segs.specs.GrowthLaws.{IsOfArmed}
use Rattle.hp_segs.specs.LaterSteps.{armed_ask}
use Rattle.hp_segs.specs.SegsView.{SegsView}
use Rattle.hp_segs.specs.declared.ask.Ask.{Ask}
use Rattle.hp_segs.specs.declared.growth.Growth.{Growth}
use Rattle.hp_segs.specs.declared.outcome.AskLog.{AskLog}
use Rattle.hp_segs.specs.Standing.{IsArmed}
use Rattle.hp_hall.proofs.Gives.{has_nothing}

-- a value without growth and outcomes has no growth and no outcome but of armed asks
pub armed_new : (segs : SegsView) → segs.asks ≡ [] → segs.growth ≡ None → IsArmed segs
armed_new segs none closed = record {
  growth = subst (λ (growth : Option Growth). IfSome growth (IsOfArmed segs.asks segs.armed)) (sym closed) tt;
  kept = λ entry kept armed has. absurd (has_nothing entry (subst (λ (l : List AskLog). Contains l entry) none has));
}

-- at each place of equal ones is one of them, and after them what is told
pub all_alike : {X : Type 0} (x : X) (count who : ℕ) → slice_index_or (replicate count x) who x ≡ x
all_alike x zero who = refl
all_alike x (suc count) zero = refl
all_alike x (suc count) (suc who) = all_alike x count who

-- nobody is armed with an ask where a value opens
pub unarmed_new : (segs : SegsView) (who : ℕ) → segs.armed ≡ replicate 16 None → armed_ask segs who ≡ None
unarmed_new segs who armed = ap (λ (l : List (Option Ask)). slice_index_or l who None) armed ∙ all_alike None 16 who
