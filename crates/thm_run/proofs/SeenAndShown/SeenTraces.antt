-- What a trace shows of the log: of two traces one after the other, and as records and outcomes come after, where its asks are answered.
use Rattle.std.proofs.Common.{◌≡◌, ◌∙◌, ℕ, zero, suc, ◌+◌, ◌≤◌, List, [], ◌∷◌, ◌++◌, length, Option, Some, refl, ap, sym, subst, arith, append_assoc}
use Rattle.std.specs.List.{find, slice_get}
use Rattle.hp_base.specs.declared.row.Run.{Run}
use Rattle.hp_heap.proofs.Members.{find_some}
use Rattle.hp_log.specs.declared.log_record.LogRecord.{LogRecord}
use Rattle.hp_segs.proofs.SlotFacts.ListFacts.{get_stays}
use Rattle.hp_segs.specs.SegsView.{is_outcome_for}
use Rattle.hp_segs.specs.declared.outcome.AskLog.{AskLog}
use Rattle.hp_proc.specs.Courses.{numbered_in}
use Rattle.hp_proc.specs.Doing.{Done}
use Rattle.hp_proc.specs.Doing.Done.{Asked, GaveUp, Looked}
use Rattle.hp_proc.specs.Outcomes.{AreAnsweredSo, IsAnsweredSo}
use Rattle.hp_proc.specs.Seen.{seen_by, seen_by_ask, seen_in}
use Rattle.hp_serve.specs.declared.pages_asked.PagesAsked.{PagesAsked}
use Rattle.hp_proc.proofs.LawLemmas.{find_stays}
use Rattle.thm_run.proofs.GrownHeaps.GrantTurns.{among_read}
use Rattle.thm_run.proofs.GrownHeaps.LaterGrants.{GrantsLater, failed_stays}
use Rattle.thm_run.proofs.TracesTold.Numbers.{numbered_both}

-- each ask of a trace whose numbers go on from one is answered
abbrev pub AreAnsweredFrom : List LogRecord → List AskLog → ℕ → ℕ → List Done → Type 0
AreAnsweredFrom log asks who number trace = (place : ℕ) (asked : PagesAsked) (run : Option Run)
    → slice_get (numbered_in trace) place ≡ Some (Asked asked run) → IsAnsweredSo log asks who (number + place) asked run

module _ (log : List LogRecord) (asks : List AskLog) (who : ℕ) where
  -- that of a trace, and of what was done after it
  pub front_answered : (number : ℕ) (trace more : List Done) → AreAnsweredFrom log asks who number (trace ++ more)
      → AreAnsweredFrom log asks who number trace
  front_answered number trace more all place asked run there =
      all place asked run
      (subst (λ numbered. slice_get numbered place ≡ Some (Asked asked run)) (sym (numbered_both trace more))
      (get_stays (numbered_in trace) (numbered_in more) place (Asked asked run) there))

  pub behind_answered : (number last : ℕ) (trace more : List Done) → number + length (numbered_in trace) ≡ last
      → AreAnsweredFrom log asks who number (trace ++ more) → AreAnsweredFrom log asks who last more
  behind_answered number last trace more is all place asked run there =
      let same : number + (length (numbered_in trace) + place) ≡ last + place = omega (arith, is) in
      subst (λ number. IsAnsweredSo log asks who number asked run) same
      (all (length (numbered_in trace) + place) asked run
      (subst (λ numbered. slice_get numbered (length (numbered_in trace) + place) ≡ Some (Asked asked run)) (sym (numbered_both trace more))
      (get_past (numbered_in trace) (numbered_in more) place (length (numbered_in trace) + place) (Asked asked run) refl there)))
    where
      get_past : {X : Type 0} (xs ys : List X) (place at : ℕ) (y : X) → at ≡ length xs + place → slice_get ys place ≡ Some y
          → slice_get (xs ++ ys) at ≡ Some y
      get_past [] ys place at y is there =
          let same : place ≡ at = omega (arith, is) in
          subst (λ at. slice_get ys at ≡ Some y) same there
      get_past (x ∷ xs) ys place zero y is there = absurd (omega (arith, is))
      get_past (x ∷ xs) ys place (suc at) y is there = get_past xs ys place at y (omega (arith, is)) there

-- each ask of a whole trace is answered, from number 1 on
pub answered_from : (log : List LogRecord) (asks : List AskLog) (who : ℕ) (trace : List Done) → AreAnsweredSo log asks who trace
    → AreAnsweredFrom log asks who 1 trace
answered_from log asks who trace all place asked run there =
    let same : place + 1 ≡ 1 + place = omega arith in
    subst (λ number. IsAnsweredSo log asks who number asked run) same (all place asked run there)

-- what two traces show, one after the other
pub seen_append : (log : List LogRecord) (asks : List AskLog) (who number last : ℕ) (trace more : List Done)
    → number + length (numbered_in trace) ≡ last
    → seen_in log asks who number (trace ++ more) ≡ seen_in log asks who number trace ++ seen_in log asks who last more
seen_append log asks who number last [] more is =
    let same : number ≡ last = omega (arith, is) in
    ap (λ number. seen_in log asks who number more) same
seen_append log asks who number last (Asked asked run ∷ trace) more is =
    let one = seen_by_ask log asks asked.heap (find (is_outcome_for who number) asks) in
    ap (λ rest. one ++ rest) (seen_append log asks who (number + 1) last trace more (omega (arith, is)))
    ∙ sym (append_assoc one (seen_in log asks who (number + 1) trace) (seen_in log asks who last more))
seen_append log asks who number last (GaveUp heap run ∷ trace) more is =
    seen_append log asks who (number + 1) last trace more (omega (arith, is))
seen_append log asks who number last (Looked records ∷ trace) more is =
    ap (λ rest. records ∷ rest) (seen_append log asks who number last trace more is)
seen_append log asks who number last (_ ∷ trace) more is = seen_append log asks who number last trace more is

-- records and outcomes come after
module _ (log more : List LogRecord) (asks others : List AskLog) (later : GrantsLater (length log) others)
    (within : (place : ℕ) (entry : AskLog) → slice_get asks place ≡ Some entry → entry.at ≤ length log) where
  entry_stays : (heap : ℕ) (entry : AskLog) → entry.at ≤ length log
      → seen_by_ask (log ++ more) (asks ++ others) heap (Some entry) ≡ seen_by_ask log asks heap (Some entry)
  entry_stays heap entry before =
      ap (λ failed. seen_by failed entry.at entry.outcome) (failed_stays log more asks others later heap entry.at before)

  ask_stays : (who number heap : ℕ) (entry : AskLog) → find (is_outcome_for who number) asks ≡ Some entry
      → seen_by_ask (log ++ more) (asks ++ others) heap (find (is_outcome_for who number) (asks ++ others))
      ≡ seen_by_ask log asks heap (find (is_outcome_for who number) asks)
  ask_stays who number heap entry found =
      let among = (find_some (is_outcome_for who number) asks entry found).1 in
      let read = among_read asks entry among in
      ap (seen_by_ask (log ++ more) (asks ++ others) heap) (find_stays (is_outcome_for who number) asks others entry found)
      ∙ (entry_stays heap entry (within read.0 entry read.1) ∙ ap (seen_by_ask log asks heap) (sym found))

  -- what a trace shows stays, where each of its asks is answered
  pub trace_stays : (who number : ℕ) (trace : List Done) → AreAnsweredFrom log asks who number trace
      → seen_in (log ++ more) (asks ++ others) who number trace ≡ seen_in log asks who number trace
  trace_stays who number [] all = refl
  trace_stays who number (Asked asked run ∷ trace) all =
      let first = all 0 asked run refl in
      let here : number + 0 ≡ number = omega arith in
      let found : find (is_outcome_for who number) asks ≡ Some first.entry =
      subst (λ number. find (is_outcome_for who number) asks ≡ Some first.entry) here first.logged in
      let one = ask_stays who number asked.heap first.entry found in
      ap (λ shown. shown ++ seen_in (log ++ more) (asks ++ others) who (number + 1) trace) one
      ∙ ap (λ rest. seen_by_ask log asks asked.heap (find (is_outcome_for who number) asks) ++ rest)
      (trace_stays who (number + 1) trace
      (behind_answered log asks who number (number + 1) (Asked asked run ∷ []) trace refl all))
  trace_stays who number (GaveUp heap run ∷ trace) all =
      trace_stays who (number + 1) trace (behind_answered log asks who number (number + 1) (GaveUp heap run ∷ []) trace refl all)
  trace_stays who number (Looked records ∷ trace) all = ap (λ rest. records ∷ rest) (trace_stays who number trace all)
  trace_stays who number (_ ∷ trace) all = trace_stays who number trace all
