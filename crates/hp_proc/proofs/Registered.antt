-- How a line that registers a watcher or a validator, or takes one back, is answered, and what it leaves of its participant.
use Rattle.std.proofs.Common.{◌≡◌, ◌∙◌, ℕ, suc, nat_le, Bool, true, false, not, ◌||◌, List, [], ◌∷◌, length, map, Option, Some, None, Result, Ok, Err, refl, ap, sym, subst, if◌then◌else◌}
use Rattle.std.specs.Prelude.{IfOk, OnErr, OnOk}
use Rattle.std.specs.List.{list_any}
use Rattle.hp_base.specs.Telling.{Listener}
use Rattle.hp_events.specs.Validators.{AnswersLimit, HasNone, Unregisters, is_its, limit_refusal}
use Rattle.hp_events.specs.Watchers.{AnswersUnwatch, AnswersWatch, has_name, is_name, unwatch_refusal, watch_refusal}
use Rattle.hp_events.specs.declared.fault.LimitFault.{LimitFault}
use Rattle.hp_events.specs.declared.fault.LimitFault.TheVariants as limit
use Rattle.hp_events.specs.declared.fault.NotFound.{NotFound}
use Rattle.hp_events.specs.declared.fault.UnwatchFault.{UnwatchFault}
use Rattle.hp_events.specs.declared.fault.UnwatchFault.TheVariants as unwatch
use Rattle.hp_events.specs.declared.fault.WatchFault.{WatchFault}
use Rattle.hp_events.specs.declared.fault.WatchFault.TheVariants as watch
use Rattle.hp_events.specs.declared.validator.Validator.{Validator}
use Rattle.hp_script.specs.Part.{Part}
use Rattle.hp_script.specs.declared.answer.Answer.{Answer}
use Rattle.hp_script.specs.declared.answer.Answer.TheVariants as answer
use Rattle.hp_script.specs.declared.line.Act.{Act}
use Rattle.hp_script.specs.declared.line.Act.TheVariants as act
use Rattle.hp_proc.specs.Contexts.{Context}
use Rattle.hp_proc.specs.ParticipantView.{after_registering, knowing, participant_of, watched_after}
use Rattle.hp_proc.specs.Registering.{IsLimitAnswer, IsUnlimitAnswer, IsUnwatchAnswer, IsWatchAnswer, limit_answer, limiting, unheard, unlimiting, unwatch_answer, unwatching, validators_after, watch_answer, watching}
use Rattle.hp_proc.proofs.RegisteredLines.{names_registered}
use Rattle.hp_serve.specs.Party.{Party}
use Rattle.hp_serve.specs.Watched.{names_of, with_watcher, without_watcher}

-- ITS PARTICIPANT THEN

-- what serves and what judges make the participant that the line leaves
pub registered_as : (deed : Act) (given : Answer) (party after : Party) (validators kept : List (Validator Bool)) (context : Context)
    → after ≡ watched_after deed given party → kept ≡ validators_after deed given validators
    → participant_of after kept context ≡ after_registering deed given (participant_of party validators context)
registered_as deed given party after validators kept context after_is kept_is =
    ap (λ (party : Party). participant_of party kept context) after_is
    ∙ (ap (λ (kept : List (Validator Bool)). participant_of (watched_after deed given party) kept context) kept_is
    ∙ ap
    (λ (names : List (List ℕ)). record {
      party = watched_after deed given party;
      context = knowing names (validators_after deed given validators) context;
    })
    (names_registered deed given party))

-- WATCHERS

-- whether one is refused does not depend on what the others were told
any_known : (name : List ℕ) (listeners : List Listener)
    → list_any (has_name name) (map unheard (names_of listeners)) ≡ list_any (has_name name) listeners
any_known name [] = refl
any_known name (listener ∷ listeners) = ap (λ (rest : Bool). has_name name listener || rest) (any_known name listeners)

many_known : (listeners : List Listener) → length (map unheard (names_of listeners)) ≡ length listeners
many_known [] = refl
many_known (listener ∷ listeners) = ap (λ (count : ℕ). suc count) (many_known listeners)

watch_known : (listeners : List Listener) (name : List ℕ) → watch_refusal listeners name ≡ watch_refusal (map unheard (names_of listeners)) name
watch_known listeners name =
    ap
    (λ (there : Bool). if not (is_name name) then Some (watch.NameLong (length name))
    else (if there then Some watch.Exists else (if nat_le 4 (length listeners) then Some (watch.Full 4) else None)))
    (sym (any_known name listeners))
    ∙ ap
    (λ (count : ℕ). if not (is_name name) then Some (watch.NameLong (length name))
    else (if list_any (has_name name) (map unheard (names_of listeners)) then Some watch.Exists
    else (if nat_le 4 count then Some (watch.Full 4) else None)))
    (sym (many_known listeners))

unwatch_known : (listeners : List Listener) (name : List ℕ)
    → unwatch_refusal listeners name ≡ unwatch_refusal (map unheard (names_of listeners)) name
unwatch_known listeners name =
    ap
    (λ (there : Bool). if not (is_name name) then Some (unwatch.NameLong (length name))
    else (if there then None else Some unwatch.NotFound))
    (sym (any_known name listeners))

watch_given : (E : Type 0) (fault : WatchFault) (given : Answer) → IsWatchAnswer {E = E} (Err fault) (Ok given)
    → given ≡ watch_answer (Some fault)
watch_given E (watch.NameLong len) given is = is
watch_given E watch.Exists given is = is
watch_given E (watch.Full limit) given is = is
watch_given E watch.OutOfMemory given is = absurd is

module _ {E : Type 0} where
  watch_judged : (refusal : Option WatchFault) (judged : Result Unit WatchFault) (result : Result Answer E) → AnswersWatch refusal judged
      → IsWatchAnswer judged result → IfOk result (λ given. given ≡ watch_answer refusal)
  watch_judged refusal judged (Err stopped) answers is = tt
  watch_judged None (Ok done) (Ok given) answers is = is
  watch_judged None (Err fault) (Ok given) answers is = absurd (subst (λ (fault : WatchFault). IsWatchAnswer {E = E} (Err fault) (Ok given)) answers is)
  watch_judged (Some fault) (Ok done) (Ok given) answers is = absurd answers
  watch_judged (Some fault) (Err told) (Ok given) answers is =
      watch_given E fault given (subst (λ (fault : WatchFault). IsWatchAnswer {E = E} (Err fault) (Ok given)) answers is)

  pub watch_answered : (listeners : List Listener) (name : List ℕ) (judged : Result Unit WatchFault) (result : Result Answer E)
      → AnswersWatch (watch_refusal listeners name) judged → IsWatchAnswer judged result
      → IfOk result (λ given. given ≡ watching (names_of listeners) name)
  watch_answered listeners name judged result answers is =
      subst (λ (refusal : Option WatchFault). IfOk result (λ given. given ≡ watch_answer refusal)) (watch_known listeners name)
      (watch_judged (watch_refusal listeners name) judged result answers is)

  pub watch_leaves : (name : Part) (party after : Party) (judged : Result Unit WatchFault) (result : Result Answer E)
      → IsWatchAnswer judged result → OnOk judged (after ≡ with_watcher name.text party) → OnErr judged (after ≡ party)
      → IfOk result (λ given. after ≡ watched_after (act.Watch name) given party)
  watch_leaves name party after judged (Err stopped) is ok err = tt
  watch_leaves name party after (Ok done) (Ok given) is ok err =
      subst (λ (given : Answer). after ≡ watched_after (act.Watch name) given party) (sym is) ok
  watch_leaves name party after (Err (watch.NameLong len)) (Ok given) is ok err =
      subst (λ (given : Answer). after ≡ watched_after (act.Watch name) given party) (sym is) err
  watch_leaves name party after (Err watch.Exists) (Ok given) is ok err =
      subst (λ (given : Answer). after ≡ watched_after (act.Watch name) given party) (sym is) err
  watch_leaves name party after (Err (watch.Full limit)) (Ok given) is ok err =
      subst (λ (given : Answer). after ≡ watched_after (act.Watch name) given party) (sym is) err
  watch_leaves name party after (Err watch.OutOfMemory) (Ok given) is ok err = absurd is

  -- where memory was wanting nothing changed
  pub watch_stops : (party after : Party) (Q : Type 0) (judged : Result Unit WatchFault) (result : Result Answer E)
      → IsWatchAnswer judged result → OnErr judged (after ≡ party) → (after ≡ party → Q) → OnErr result Q
  watch_stops party after Q judged (Ok given) is err so = tt
  watch_stops party after Q (Ok done) (Err stopped) is err so = absurd is
  watch_stops party after Q (Err fault) (Err stopped) is err so = so err

unwatch_judged : (refusal : Option UnwatchFault) (judged : Result Unit UnwatchFault) (given : Answer) → AnswersUnwatch refusal judged
    → IsUnwatchAnswer judged given → given ≡ unwatch_answer refusal
unwatch_judged None (Ok done) given answers is = is
unwatch_judged None (Err fault) given answers is = absurd answers
unwatch_judged (Some fault) (Ok done) given answers is = absurd answers
unwatch_judged (Some (unwatch.NameLong len)) (Err told) given answers is =
    subst (λ (fault : UnwatchFault). IsUnwatchAnswer (Err fault) given) answers is
unwatch_judged (Some unwatch.NotFound) (Err told) given answers is =
    subst (λ (fault : UnwatchFault). IsUnwatchAnswer (Err fault) given) answers is

pub unwatch_answered : (listeners : List Listener) (name : List ℕ) (judged : Result Unit UnwatchFault) (given : Answer)
    → AnswersUnwatch (unwatch_refusal listeners name) judged → IsUnwatchAnswer judged given → given ≡ unwatching (names_of listeners) name
unwatch_answered listeners name judged given answers is =
    subst (λ (refusal : Option UnwatchFault). given ≡ unwatch_answer refusal) (unwatch_known listeners name)
    (unwatch_judged (unwatch_refusal listeners name) judged given answers is)

pub unwatch_leaves : (name : Part) (party after : Party) (judged : Result Unit UnwatchFault) (given : Answer) → IsUnwatchAnswer judged given
    → OnOk judged (after ≡ without_watcher name.text party) → OnErr judged (after ≡ party)
    → after ≡ watched_after (act.Unwatch name) given party
unwatch_leaves name party after (Ok done) given is ok err =
    subst (λ (given : Answer). after ≡ watched_after (act.Unwatch name) given party) (sym is) ok
unwatch_leaves name party after (Err (unwatch.NameLong len)) given is ok err =
    subst (λ (given : Answer). after ≡ watched_after (act.Unwatch name) given party) (sym is) err
unwatch_leaves name party after (Err unwatch.NotFound) given is ok err =
    subst (λ (given : Answer). after ≡ watched_after (act.Unwatch name) given party) (sym is) err

-- VALIDATORS

limit_given : (E : Type 0) (fault : LimitFault) (given : Answer) → IsLimitAnswer {E = E} (Err fault) (Ok given)
    → given ≡ limit_answer (Some fault)
limit_given E (limit.NameLong len) given is = is
limit_given E limit.Exists given is = is
limit_given E limit.OutOfMemory given is = absurd is

module _ {E : Type 0} where
  limit_judged : (refusal : Option LimitFault) (judged : Result Unit LimitFault) (result : Result Answer E) → AnswersLimit refusal judged
      → IsLimitAnswer judged result → IfOk result (λ given. given ≡ limit_answer refusal)
  limit_judged refusal judged (Err stopped) answers is = tt
  limit_judged None (Ok done) (Ok given) answers is = is
  limit_judged None (Err fault) (Ok given) answers is = absurd (subst (λ (fault : LimitFault). IsLimitAnswer {E = E} (Err fault) (Ok given)) answers is)
  limit_judged (Some fault) (Ok done) (Ok given) answers is = absurd answers
  limit_judged (Some fault) (Err told) (Ok given) answers is =
      limit_given E fault given (subst (λ (fault : LimitFault). IsLimitAnswer {E = E} (Err fault) (Ok given)) answers is)

  pub limit_answered : (validators : List (Validator Bool)) (name : List ℕ) (socket : ℕ) (judged : Result Unit LimitFault)
      (result : Result Answer E) → AnswersLimit (limit_refusal validators name socket) judged → IsLimitAnswer judged result
      → IfOk result (λ given. given ≡ limiting validators name socket)
  limit_answered validators name socket judged result answers is =
      limit_judged (limit_refusal validators name socket) judged result answers is

  pub limit_leaves : (name : Part) (socket bytes : ℕ) (allow : Bool) (validators kept : List (Validator Bool))
      (judged : Result Unit LimitFault) (result : Result Answer E) → IsLimitAnswer judged result
      → OnOk judged (kept ≡ validators_after (act.Limit name socket bytes allow) answer.Done validators) → OnErr judged (kept ≡ validators)
      → IfOk result (λ given. kept ≡ validators_after (act.Limit name socket bytes allow) given validators)
  limit_leaves name socket bytes allow validators kept judged (Err stopped) is ok err = tt
  limit_leaves name socket bytes allow validators kept (Ok done) (Ok given) is ok err =
      subst (λ (given : Answer). kept ≡ validators_after (act.Limit name socket bytes allow) given validators) (sym is) ok
  limit_leaves name socket bytes allow validators kept (Err (limit.NameLong len)) (Ok given) is ok err =
      subst (λ (given : Answer). kept ≡ validators_after (act.Limit name socket bytes allow) given validators) (sym is) err
  limit_leaves name socket bytes allow validators kept (Err limit.Exists) (Ok given) is ok err =
      subst (λ (given : Answer). kept ≡ validators_after (act.Limit name socket bytes allow) given validators) (sym is) err
  limit_leaves name socket bytes allow validators kept (Err limit.OutOfMemory) (Ok given) is ok err = absurd is

  pub limit_stops : (validators kept : List (Validator Bool)) (Q : Type 0) (judged : Result Unit LimitFault) (result : Result Answer E)
      → IsLimitAnswer judged result → OnErr judged (kept ≡ validators) → (kept ≡ validators → Q) → OnErr result Q
  limit_stops validators kept Q judged (Ok given) is err so = tt
  limit_stops validators kept Q (Ok done) (Err stopped) is err so = absurd is
  limit_stops validators kept Q (Err fault) (Err stopped) is err so = so err

-- one that was there goes
found_if : (there : Bool) → there ≡ true → answer.Done ≡ (if there then answer.Done else answer.NotFound)
found_if true is = refl
found_if false is = cc

none_if : (there : Bool) → there ≡ false → answer.NotFound ≡ (if there then answer.Done else answer.NotFound)
none_if true is = cc
none_if false is = refl

pub unlimit_answered : (validators kept : List (Validator Bool)) (name : List ℕ) (socket : ℕ) (judged : Result Unit NotFound) (given : Answer)
    → IsUnlimitAnswer judged given → OnOk judged (Unregisters name socket validators kept) → OnErr judged (HasNone name socket validators kept)
    → given ≡ unlimiting validators name socket
unlimit_answered validators kept name socket (Ok done) given is ok err = is ∙ found_if (list_any (is_its name socket) validators) ok.was
unlimit_answered validators kept name socket (Err fault) given is ok err = is ∙ none_if (list_any (is_its name socket) validators) err.none

pub unlimit_leaves : (validators kept : List (Validator Bool)) (name : Part) (socket : ℕ) (judged : Result Unit NotFound) (given : Answer)
    → IsUnlimitAnswer judged given → OnOk judged (Unregisters name.text socket validators kept)
    → OnErr judged (HasNone name.text socket validators kept) → kept ≡ validators_after (act.Unlimit name socket) given validators
unlimit_leaves validators kept name socket (Ok done) given is ok err =
    subst (λ (given : Answer). kept ≡ validators_after (act.Unlimit name socket) given validators) (sym is) ok.left
unlimit_leaves validators kept name socket (Err fault) given is ok err =
    subst (λ (given : Answer). kept ≡ validators_after (act.Unlimit name socket) given validators) (sym is) err.same
