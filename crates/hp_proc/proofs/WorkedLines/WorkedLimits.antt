-- Worked values: a participant limits socket 0 to the bytes of one page. Its first allocation takes that page, and the growth for its
-- second one is denied.
use Rattle.std.proofs.Common.{◌≡◌, ◌∙◌, refl, ap, sym, subst, ℕ, ◌+◌, ◌*◌, ◌^◌, Bool, true, false, List, [], ◌∷◌, Option, Some, None}
use Rattle.std.specs.Prelude.{codes, find}
use Rattle.std.specs.List.{list_any}
use Rattle.std.proofs.lemmas.Option.{same_Some}
use Rattle.hp_base.specs.Flags as flags
use Rattle.hp_base.specs.Requests.{IsAccepted}
use Rattle.hp_base.specs.declared.request.Request.{Request}
use Rattle.hp_events.specs.Validators.{AreAnswered}
use Rattle.hp_events.specs.declared.validator.Validator.{Validator}
use Rattle.hp_heap.specs.declared.entry.HeapAnswer.TheVariants as gives
use Rattle.hp_heap.specs.declared.entry.HeapCall.TheVariants as call
use Rattle.hp_log.specs.Log.{table_at}
use Rattle.hp_log.specs.declared.log_record.LogRecord.{LogRecord}
use Rattle.hp_log.specs.declared.log_record.LogRecord.TheVariants.{Add}
use Rattle.hp_script.specs.declared.answer.Answer.TheVariants as answer
use Rattle.hp_script.specs.declared.line.Act.{Act}
use Rattle.hp_script.specs.declared.line.Act.TheVariants as act
use Rattle.hp_script.specs.declared.line.Line.{Line}
use Rattle.hp_script.specs.declared.options.SocketChoice.TheVariants as choose
use Rattle.hp_script.specs.declared.workload.Workload.{Workload}
use Rattle.hp_segs.specs.Refusals.{bytes_on}
use Rattle.hp_segs.specs.SegsView.{SegsView, is_outcome_for}
use Rattle.hp_segs.specs.declared.outcome.AskLog.{AskLog}
use Rattle.hp_segs.specs.declared.outcome.Cause.TheVariants.{Denied}
use Rattle.hp_segs.specs.declared.outcome.Outcome.{Outcome}
use Rattle.hp_segs.specs.declared.outcome.Outcome.TheVariants.{Granted, Refused}
use Rattle.hp_serve.specs.declared.pages_asked.PagesAsked.{PagesAsked}
use Rattle.hp_proc.specs.LineTrees.{doing_of}
use Rattle.hp_proc.specs.Lines.{Facts}
use Rattle.hp_proc.specs.Doing.{Doing, Done, Goes, Leads}
use Rattle.hp_proc.specs.Doing.Done.{Asked, Called}
use Rattle.hp_proc.specs.LinesDone.{Course}
use Rattle.hp_proc.specs.OneThread.{WasAllowed, WasDenied, validators_by}
use Rattle.hp_proc.specs.Outcomes.{registers}
use Rattle.hp_serve.specs.Denials.{AnswersSo}
use Rattle.hp_proc.proofs.WorkedLines.WorkedHanded.{denied}
use Rattle.hp_proc.proofs.WorkedLines.WorkedPools.{large, run}
use Rattle.hp_proc.proofs.WorkedLines.WorkedWatching.{at_the_limit, cap, part}

abbrev limits : Act
limits = act.Limit (part (codes "cap")) 0 (2 ^ 21) false

abbrev allocates : List ℕ → Act
allocates label = act.Alloc (part label) 2000000 (record { socket = choose.Any; heap = None; align = 0; bound = 0; flags = 0 })

abbrev line_of : ℕ → Act → Line
line_of number act = record { line = number; participant = 0; act = act }

abbrev facts : List (Validator Bool) → Option Request → Facts
facts validators request = record {
  attached = true;
  own_socket = 0;
  pools = record { socket = 0; page = 2 ^ 21; pages = 4; slots = 4 } ∷ [];
  request = request;
  maker = None;
  own_heap = None;
  watchers = [];
  validators = validators;
  chunks = [];
}

a_limit_line : Leads (doing_of (line_of 2 limits) limits (facts [] None)) [] (Doing.Ended answer.Done)
unfolding Leads doing_of
a_limit_line = refl

-- the log has the page of the first allocation, and the asks of both
abbrev log : List LogRecord
log = Add (run 0 1) 0 ∷ []

abbrev outcome : ℕ → Outcome → AskLog
outcome number its = record { from = 0; number = number; outcome = its; at = 1; ask = None }

abbrev asks : List AskLog
asks = outcome 1 (Granted 1) ∷ outcome 2 (Refused (Denied (codes "cap") (2 ^ 21) (2 ^ 22))) ∷ []

-- the first page is all that the limit allows, and with a second one the socket would have twice as much
one_page : bytes_on (table_at log 1) 0 ≡ 2 ^ 21
one_page = refl

two_pages : bytes_on (table_at log 1) 0 + (run 1 1).count * (run 1 1).page ≡ 2 ^ 22
two_pages = refl

-- the validator that denies is one that a line registers
a_cause : list_any (λ (line : Line). registers (codes "cap") 0 (2 ^ 21) line.act)
    (line_of 2 limits ∷ line_of 3 (allocates (codes "a")) ∷ line_of 4 (allocates (codes "b")) ∷ []) ≡ true
a_cause = refl

module _ (accepted : IsAccepted 2000000 64 0) where
  abbrev request : Request
  request = record { size = 2000000; align = 64; bound = 0; flags = 0; accepted = accepted }

  abbrev asked : PagesAsked
  asked = record { heap = 0; socket = 0; page = 2 ^ 21; request = request }

  abbrev first_trace : List Done
  first_trace =
      Called 0 (large accepted 3) gives.Nothing ∷ Asked asked (Some (run 0 1)) ∷ Called 0 (call.Grow (run 0 1)) gives.Done
      ∷ Called 0 (large accepted 3) (gives.Address 0x100017b80) ∷ []

  a_first_growth : Leads (doing_of (line_of 3 (allocates (codes "a"))) (allocates (codes "a")) (facts (cap false ∷ []) (Some request)))
      first_trace (Doing.Ended (answer.Address 0x100017b80))
  unfolding Goes Leads doing_of flags.is_hint
  a_first_growth = (gives.Nothing, refl, (Some (run 0 1), refl, (gives.Done, refl, (gives.Address 0x100017b80, refl, refl))))

  a_second_denied : Leads (doing_of (line_of 4 (allocates (codes "b"))) (allocates (codes "b")) (facts (cap false ∷ []) (Some request)))
      (Called 0 (large accepted 4) gives.Nothing ∷ Asked asked None ∷ []) (Doing.Ended answer.None)
  unfolding Goes Leads doing_of flags.is_hint
  a_second_denied = (gives.Nothing, refl, (None, refl, refl))

  -- the lines until the first asks, and until the second does
  abbrev limited : Course
  limited = record { line = line_of 2 limits; answer = answer.Done; trace = [] }

  abbrev until_first : List Course
  until_first =
      limited ∷ record {
        line = line_of 3 (allocates (codes "a"));
        answer = answer.Address 0x100017b80;
        trace = Called 0 (large accepted 3) gives.Nothing ∷ [];
      } ∷ []

  abbrev until_second : List Course
  until_second =
      limited ∷ record { line = line_of 3 (allocates (codes "a")); answer = answer.Address 0x100017b80; trace = first_trace }
      ∷ record {
        line = line_of 4 (allocates (codes "b"));
        answer = answer.None;
        trace = Called 0 (large accepted 4) gives.Nothing ∷ [];
      } ∷ []

  -- the first growth was allowed, and the second one was denied by the validator that is named, at the bytes that it would have made
  first_allowed : (workload : Workload) (segs : SegsView) → segs.log ≡ log → segs.asks ≡ asks
      → WasAllowed workload segs until_first 0 (Asked asked (Some (run 0 1)))
  first_allowed workload segs log_is asks_are entry generation next granted =
      let same : outcome 1 (Granted 1) ≡ entry =
      same_Some (outcome 1 (Granted 1)) entry (sym (ap (find (is_outcome_for 0 1)) asks_are) ∙ next) in
      let its : Granted 1 ≡ Granted generation = ap (λ (entry : AskLog). entry.outcome) same ∙ granted in
      let first : 1 ≡ generation = cc in
      subst (λ (generation : ℕ). AreAnswered AnswersSo 0 (bytes_on (table_at segs.log generation) 0) (validators_by workload until_first) None)
      first
      (subst (λ (log : List LogRecord). AreAnswered AnswersSo 0 (bytes_on (table_at log 1) 0) (validators_by workload until_first) None)
      (sym log_is) at_the_limit)

  second_denied : (workload : Workload) (segs : SegsView) → segs.asks ≡ asks → WasDenied workload segs until_second 0 (Asked asked None)
  second_denied workload segs asks_are entry name limit total next refused =
      let last : AskLog = outcome 2 (Refused (Denied (codes "cap") (2 ^ 21) (2 ^ 22))) in
      let same : last ≡ entry = same_Some last entry (sym (ap (find (is_outcome_for 0 2)) asks_are) ∙ next) in
      let its : Refused (Denied (codes "cap") (2 ^ 21) (2 ^ 22)) ≡ Refused (Denied name limit total) =
      ap (λ (entry : AskLog). entry.outcome) same ∙ refused in
      let its_name : codes "cap" ≡ name = cc in
      let its_limit : 2 ^ 21 ≡ limit = cc in
      let its_total : 2 ^ 22 ≡ total = cc in
      subst (λ (total : ℕ). AreAnswered AnswersSo 0 total (validators_by workload until_second) (Some (name, limit))) its_total
      (subst (λ (limit : ℕ). AreAnswered AnswersSo 0 (2 ^ 22) (validators_by workload until_second) (Some (name, limit))) its_limit
      (subst (λ (name : List ℕ). AreAnswered AnswersSo 0 (2 ^ 22) (validators_by workload until_second) (Some (name, 2 ^ 21))) its_name
      (denied workload)))
