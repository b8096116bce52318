-- Worked values: of a pool of one page participant 0 takes the page and gives it back, and then participant 1 asks for it. Where the Drop comes
-- after the ask of participant 1, which is refused as the pool is empty, what was given up had not gone in time.
use Rattle.std.proofs.Common.{◌≡◌, ℕ, zero, suc, ◌+◌, ◌^◌, ◌≤◌, false, List, [], ◌∷◌, length, take, Some, None, refl, sym, ap, subst, arith}
use Rattle.std.specs.List.{All}
use Rattle.std.specs.Prelude.{drop}
use Rattle.std.proofs.lemmas.List.Elements.{All-cons, All-head, All-nil}
use Rattle.std.proofs.lemmas.List.Sorted.{IsPermutation-refl, length_permutation}
use Rattle.hp_base.specs.declared.request.Request.{Request}
use Rattle.hp_base.specs.declared.row.Run.{Run}
use Rattle.hp_heap.specs.declared.entry.HeapAnswer.TheVariants as gives
use Rattle.hp_heap.specs.declared.entry.HeapCall.TheVariants as call
use Rattle.hp_log.specs.declared.log_record.LogRecord.{LogRecord}
use Rattle.hp_log.specs.declared.log_record.LogRecord.TheVariants.{Add, Drop}
use Rattle.hp_script.specs.declared.answer.Answer.{Answer}
use Rattle.hp_script.specs.declared.answer.Answer.TheVariants as answer
use Rattle.hp_script.specs.declared.line.Act.{Act}
use Rattle.hp_segs.specs.Returned.{returned_runs}
use Rattle.hp_segs.specs.declared.outcome.AskLog.{AskLog}
use Rattle.hp_segs.specs.declared.outcome.Cause.TheVariants.{TooFew}
use Rattle.hp_segs.specs.declared.outcome.Outcome.{Outcome}
use Rattle.hp_segs.specs.declared.outcome.Outcome.TheVariants.{Freed, Granted, Refused}
use Rattle.hp_proc.specs.Doing.{Done}
use Rattle.hp_proc.specs.Doing.Done.{Asked, Called, GaveUp}
use Rattle.hp_proc.specs.LinesDone.{Course, courses_of, trace_of}
use Rattle.hp_proc.specs.Seen.{seen_in}
use Rattle.hp_serve.specs.declared.pages_asked.PagesAsked.{PagesAsked}
use Rattle.thm_run.proofs.WhatWentBack.DropsOn.{one_else}
use Rattle.thm_run.specs.Drops.{DropsComeFirst, HasGoneBetween, cut_by_lines, numbers_made}

-- the page of the pool
abbrev run : Run
run = record { list = 0; first = 0; count = 1; addr = 2 ^ 32; page = 2 ^ 21; socket = 0 }

module _ (alloc free : Act) (request : Request) where
  abbrev page : PagesAsked
  page = record { heap = 0; socket = 0; page = 2 ^ 21; request = request }

  abbrev did : ℕ → Act → Answer → List Done → Course
  did who act answer trace = record { line = record { line = 1; participant = who; act = act }; answer = answer; trace = trace }

  abbrev lines : List Course
  lines =
      did 0 alloc (answer.Address 128) (Asked page (Some run) ∷ [])
      ∷ did 0 free answer.Done (Called 0 (call.Cut 128) (gives.Pages run) ∷ GaveUp 0 run ∷ [])
      ∷ did 1 alloc answer.None (Asked page None ∷ []) ∷ []

  abbrev outcome : ℕ → ℕ → ℕ → Outcome → AskLog
  outcome who number at its = record { from = who; number = number; ask = None; outcome = its; at = at }

  -- the page comes and goes
  abbrev log : List LogRecord
  log = Add run 0 ∷ Drop run ∷ []

  -- the ask of participant 1 is refused before the page has gone back, though its line comes later
  abbrev too_late : List AskLog
  too_late = outcome 0 1 1 (Granted 1) ∷ outcome 1 1 1 (Refused (TooFew 0 1)) ∷ outcome 0 2 2 (Freed 2) ∷ []

  none_yet : (records : ℕ) → records ≤ 1 → returned_runs too_late false 1 (take records log) ≡ []
  none_yet zero few = refl
  none_yet (suc zero) few = refl
  none_yet (suc (suc records)) few = absurd (omega (arith, few))

  never : DropsComeFirst 2 log too_late lines → ⊥
  never comes =
      let has : HasGoneBetween 2 log too_late (take 2 lines) (drop 2 lines) = comes 2 in
      let few : has.records ≤ 1 = All-head (λ shown. has.records ≤ shown) 1 (1 ∷ []) (has.seen 1) in
      let long = length_permutation (cut_by_lines 2 (take 2 lines)) (returned_runs too_late false 1 (take has.records log)) has.gone in
      let none = ap length (none_yet has.records few) in
      absurd (omega (arith, long, none))

  -- where the page has gone back first, and the ask is refused for another reason, it had
  abbrev in_time : List AskLog
  in_time = outcome 0 1 1 (Granted 1) ∷ outcome 0 2 2 (Freed 2) ∷ outcome 1 1 2 (Refused (TooFew 1 2)) ∷ []

  has_gone : HasGoneBetween 2 log in_time (take 2 lines) (drop 2 lines)
  has_gone = record {
    records = 2;
    most = omega arith;
    gone = IsPermutation-refl (run ∷ []);
    seen = seen_by;
  }
    where
      seen_by : (who : ℕ) → All (λ shown. 2 ≤ shown) (seen_in log in_time who (numbers_made who (take 2 lines) + 1) (trace_of (courses_of who (drop 2 lines))))
      seen_by zero = All-nil (λ shown. 2 ≤ shown)
      seen_by (suc zero) = All-cons (λ shown. 2 ≤ shown) 2 (2 ∷ []) (omega arith) (All-cons (λ shown. 2 ≤ shown) 2 [] (omega arith) (All-nil (λ shown. 2 ≤ shown)))
      seen_by (suc (suc who)) =
          subst (λ (trace : List Done). All (λ shown. 2 ≤ shown)
          (seen_in log in_time (suc (suc who)) (numbers_made (suc (suc who)) (take 2 lines) + 1) trace))
          (sym (one_else (suc (suc who)) (did 1 alloc answer.None (Asked page None ∷ [])) (λ same. omega (arith, same))))
          (All-nil (λ shown. 2 ≤ shown))
