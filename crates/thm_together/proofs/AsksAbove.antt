-- What a participant asks for in its own holds, once it has seen so many records, is granted by later ones.
use Rattle.std.proofs.Common.{◌≡◌, ◌∙◌, ◌==◌, ◌&&◌, ℕ, zero, suc, ◌+◌, ◌<◌, ◌≤◌, not, List, [], ◌∷◌, ◌++◌, Option, Some, length, append_assoc, ap, sym, subst, arith}
use Rattle.std.specs.Prelude.{Contains}
use Rattle.std.proofs.lemmas.List.Elements.{Contains-append_left}
use Rattle.std.proofs.lemmas.Option.{slice_get_within}
use Rattle.std.proofs.lemmas.Bool.{and_parts, eqb-true}
use Rattle.hp_base.specs.declared.row.Run.{Run}
use Rattle.hp_heap.proofs.Members.{counted_once, find_some}
use Rattle.hp_log.specs.declared.log_record.LogRecord.{LogRecord}
use Rattle.hp_segs.specs.SegsView.{SegsView, grants_or_refuses, is_grant_or_refusal, is_outcome_for, is_stale}
use Rattle.hp_segs.specs.Sound.{IsSound}
use Rattle.hp_segs.specs.declared.outcome.AskLog.{AskLog}
use Rattle.hp_segs.specs.declared.outcome.Outcome.TheVariants.{Granted}
use Rattle.hp_serve.specs.declared.pages_asked.PagesAsked.{PagesAsked}
use Rattle.hp_proc.specs.Courses.{numbered_in}
use Rattle.hp_proc.specs.Doing.{Done}
use Rattle.hp_proc.specs.Doing.Done.{Asked, GaveUp}
use Rattle.hp_weave.specs.Holds.{Hold}
use Rattle.thm_run.proofs.AfterLemmas.{behind_longer, behind_then}
use Rattle.thm_run.proofs.InTurnByHolds.AskedInHolds.{IsAskAt}
use Rattle.thm_run.proofs.InTurnByHolds.HoldsLeft.{AreLeft, one_left, pass_on}
use Rattle.thm_run.proofs.InTurnByHolds.NextHolds.{hold_after, to_last}
use Rattle.thm_run.proofs.InTurnByHolds.SeenByHolds.{granted_later}
use Rattle.thm_run.proofs.InTurnByHolds.TurnsByHolds.{gives_shown, settles}
use Rattle.thm_run.specs.OwnHolds.{DoesInHolds, HasLater, IsAskedBetween}
use Rattle.thm_together.proofs.PathsKnown.{AreLonger, longer_past, records_longer}

-- an ask of that number was made when there were no fewer records than so many
pub record IsAskedAbove (who : ℕ) (last : SegsView) (low number : ℕ) : Type 0 where
  pub asked : PagesAsked
  pub run : Option Run
  pub armed : SegsView
  pub heard : SegsView
  pub was : IsSound armed
  pub sound : IsSound heard
  pub above : low ≤ length armed.log
  pub mid : HasLater armed heard
  pub after : HasLater heard last
  pub is : IsAskedBetween who number asked run armed heard

pub above_lower : (who : ℕ) (last : SegsView) (low high number : ℕ) → low ≤ high → IsAskedAbove who last high number
    → IsAskedAbove who last low number
above_lower who last low high number few is = record {
  asked = is.asked;
  run = is.run;
  armed = is.armed;
  heard = is.heard;
  was = is.was;
  sound = is.sound;
  above = omega (arith, few, is.above);
  mid = is.mid;
  after = is.after;
  is = is.is;
}

-- IN ITS HOLDS

ask_next : (done : Done) (numbered : List Done) (place : ℕ) → IsAskAt (done ∷ numbered) (suc place) → IsAskAt numbered place
ask_next done numbered place at = record { asked = at.asked; run = at.run; there = at.there }

no_ask : (heap : ℕ) (run : Run) (asked : PagesAsked) (given : Option Run) → Some (GaveUp heap run) ≡ Some (Asked asked given) → ⊥
no_ask heap run asked given same = cc

none_there : (place : ℕ) → IsAskAt [] place → ⊥
none_there place at = omega (arith, slice_get_within [] place (Asked at.asked at.run) at.there)

module _ (who : ℕ) (last : SegsView) where
  -- the one that is made and heard in these holds
  made_above : (number : ℕ) (asked : PagesAsked) (run : Option Run) (arming : Hold SegsView) (between : List (Hold SegsView))
      (hearing : Hold SegsView) (others : List (Hold SegsView)) (from : SegsView) (log : List LogRecord)
      → IsAskedBetween who number asked run arming.given hearing.given → AreLeft who last (arming ∷ (between ++ hearing ∷ others)) from
      → AreLonger log (arming ∷ (between ++ hearing ∷ others)) last.log → IsAskedAbove who last (length log) number
  made_above number asked run arming between hearing others from log is left longer =
      let one = one_left who last from arming (between ++ hearing ∷ others) left in
      let heard =
      hold_after who last arming.given one.left.all between hearing others one.left.chain one.left.each one.left.own in
      let first = records_longer log arming.taken.log longer.0 in
      let next = behind_longer arming.taken arming.given one.goes.later in
      record {
        asked = asked;
        run = run;
        armed = arming.given;
        heard = hearing.given;
        was = one.goes.sound;
        sound = heard.goes.sound;
        above = omega (arith, first, next);
        mid = behind_then arming.given hearing.taken hearing.given heard.before heard.goes.later;
        after = to_last who last hearing.given heard.rest heard.chain heard.each;
        is = is;
      }

  pub asked_above : (number : ℕ) (trace : List Done) (holds : List (Hold SegsView)) → DoesInHolds who number trace holds
      → (others : List (Hold SegsView)) (from : SegsView) (log : List LogRecord) → AreLeft who last (holds ++ others) from
      → AreLonger log (holds ++ others) last.log → (place : ℕ) → IsAskAt (numbered_in trace) place
      → IsAskedAbove who last (length log) (number + place)
  asked_above _ _ _ (DoesInHolds.ends number) others from log left longer place at = absurd (none_there place at)
  asked_above _ _ _ (DoesInHolds.passes number trace hold holds stays does) others from log left longer place at =
      above_lower who last (length log) (length hold.taken.log) (number + place) (records_longer log hold.taken.log longer.0)
      (asked_above number trace holds does others hold.given hold.taken.log (one_left who last from hold (holds ++ others) left).left longer.2
      place at)
  asked_above _ _ _ (DoesInHolds.looks number trace hold holds stays does) others from log left longer place at =
      above_lower who last (length log) (length hold.taken.log) (number + place) (records_longer log hold.taken.log longer.0)
      (asked_above number trace holds does others hold.given hold.taken.log (one_left who last from hold (holds ++ others) left).left longer.2
      place at)
  asked_above _ _ _ (DoesInHolds.asks number asked run trace arming between hearing holds is stays does) others from log left longer zero at =
      let all : arming ∷ ((between ++ hearing ∷ holds) ++ others) ≡ arming ∷ (between ++ hearing ∷ (holds ++ others)) =
      ap (λ (rest : List (Hold SegsView)). arming ∷ rest) (append_assoc between (hearing ∷ holds) others) in
      let same : number ≡ number + 0 = omega arith in
      subst (IsAskedAbove who last (length log)) same
      (made_above number asked run arming between hearing (holds ++ others) from log is
      (subst (λ (holds : List (Hold SegsView)). AreLeft who last holds from) all left)
      (subst (λ (holds : List (Hold SegsView)). AreLonger log holds last.log) all longer))
  asked_above _ _ _ (DoesInHolds.asks number asked run trace arming between hearing holds is stays does) others from log left longer
      (suc place) at =
      let all : (between ++ hearing ∷ holds) ++ others ≡ (between ++ hearing ∷ []) ++ (holds ++ others) =
      append_assoc between (hearing ∷ holds) others ∙ sym (append_assoc between (hearing ∷ []) (holds ++ others)) in
      let one = one_left who last from arming ((between ++ hearing ∷ holds) ++ others) left in
      let passed =
      pass_on who last (between ++ hearing ∷ []) (holds ++ others) arming.given
      (subst (λ (holds : List (Hold SegsView)). AreLeft who last holds arming.given) all one.left) stays in
      let past =
      longer_past arming.taken.log (between ++ hearing ∷ []) (holds ++ others) last.log
      (subst (λ (holds : List (Hold SegsView)). AreLonger arming.taken.log holds last.log) all longer.2) in
      let first = records_longer log arming.taken.log longer.0 in
      let next = records_longer arming.taken.log past.to past.has in
      let same : number + 1 + place ≡ number + suc place = omega arith in
      subst (IsAskedAbove who last (length log)) same
      (above_lower who last (length log) (length past.to) (number + 1 + place) (omega (arith, first, next))
      (asked_above (number + 1) trace holds does others passed.to past.to passed.left past.longer place
      (ask_next (Asked asked run) (numbered_in trace) place at)))
  asked_above _ _ _ (DoesInHolds.gives_up number heap run trace holds does) others from log left longer zero at =
      absurd (no_ask heap run at.asked at.run at.there)
  asked_above _ _ _ (DoesInHolds.gives_up number heap run trace holds does) others from log left longer (suc place) at =
      let same : number + 1 + place ≡ number + suc place = omega arith in
      subst (IsAskedAbove who last (length log)) same
      (asked_above (number + 1) trace holds does others from log left longer place (ask_next (GaveUp heap run) (numbered_in trace) place at))
  asked_above _ _ _ (DoesInHolds.calls number heap call answer trace holds does) others from log left longer place at =
      asked_above number trace holds does others from log left longer place at
  asked_above _ _ _ (DoesInHolds.reads_names number names trace holds does) others from log left longer place at =
      asked_above number trace holds does others from log left longer place at
  asked_above _ _ _ (DoesInHolds.reads_stats number heap counted trace holds does) others from log left longer place at =
      asked_above number trace holds does others from log left longer place at
  asked_above _ _ _ (DoesInHolds.changes_names number change trace holds does) others from log left longer place at =
      asked_above number trace holds does others from log left longer place at
  asked_above _ _ _ (DoesInHolds.sees_heap number heap history trace holds does) others from log left longer place at =
      asked_above number trace holds does others from log left longer place at
  asked_above _ _ _ (DoesInHolds.plans_range number addr len page plan trace holds does) others from log left longer place at =
      asked_above number trace holds does others from log left longer place at
  asked_above _ _ _ (DoesInHolds.maps_chunk number chunk ended trace holds does) others from log left longer place at =
      asked_above number trace holds does others from log left longer place at
  asked_above _ _ _ (DoesInHolds.catches_up number to caught trace holds does) others from log left longer place at =
      asked_above number trace holds does others from log left longer place at

-- WHAT IT IS GRANTED

-- the outcome that grants it grants a later record
pub granted_above : (who : ℕ) (last : SegsView) (low number generation : ℕ) (entry : AskLog) → IsSound last
    → IsAskedAbove who last low number → Contains last.asks entry → entry.from ≡ who → entry.number ≡ number
    → entry.outcome ≡ Granted generation → low < generation
granted_above who last low number generation entry sound asked among from which granted =
    let its = asked.is.answer in
    let found = find_some (is_outcome_for who number) asked.heard.asks its.entry its.logged in
    let both = and_parts (its.entry.from == who) ((its.entry.number == number) && not (is_stale its.entry.outcome)) found.0 in
    let rest = and_parts (its.entry.number == number) (not (is_stale its.entry.outcome)) both.1 in
    let there : Contains last.asks its.entry =
    subst (λ (asks : List AskLog). Contains asks its.entry) (sym asked.after.asks)
    (Contains-append_left asked.heard.asks asked.after.others its.entry found.1) in
    let shown = gives_shown asked.heard.log its.entry.outcome asked.run its.given in
    let same : entry ≡ its.entry =
    counted_once (grants_or_refuses who number) last.asks entry its.entry (sound.asks.once who number)
    (settles who number entry from which (ap is_grant_or_refusal granted), among)
    (settles who number its.entry (eqb-true its.entry.from who both.0) (eqb-true its.entry.number number rest.0) shown, there) in
    let later =
    granted_later who number asked.asked asked.run asked.armed asked.heard last asked.was asked.sound asked.mid asked.after asked.is generation
    (ap (λ (entry : AskLog). entry.outcome) (sym same) ∙ granted) in
    omega (arith, later, asked.above)
