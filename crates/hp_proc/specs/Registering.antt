-- What the lines of watchers and validators do, by those that the participant has registered, and what they leave of them: the rules
-- "Watchers" and "Validators" of docs/OUTSIDE.md.
use Rattle.std.specs.Prelude.{◌≡◌, ℕ, Bool, nat_eq, not, List, [], ◌∷◌, ◌++◌, filter, map, Option, Some, None, Result, Ok, Err, if◌then◌else◌, ⊤}
use Rattle.std.specs.List.{list_any}
use Rattle.std.specs.Cmp.Lexicographic.{pointwise}
use Rattle.hp_base.specs.Telling.{Listener}
use Rattle.hp_events.specs.Validators.{is_its, limit_refusal}
use Rattle.hp_events.specs.Watchers.{unwatch_refusal, watch_refusal}
use Rattle.hp_events.specs.declared.fault.LimitFault.{LimitFault}
use Rattle.hp_events.specs.declared.fault.LimitFault.TheVariants as limit
use Rattle.hp_events.specs.declared.fault.NotFound.{NotFound}
use Rattle.hp_events.specs.declared.fault.UnwatchFault.{UnwatchFault}
use Rattle.hp_events.specs.declared.fault.UnwatchFault.TheVariants as unwatch
use Rattle.hp_events.specs.declared.fault.WatchFault.{WatchFault}
use Rattle.hp_events.specs.declared.fault.WatchFault.TheVariants as watch
use Rattle.hp_events.specs.declared.validator.Validator.{Validator}
use Rattle.hp_script.specs.declared.answer.Answer.{Answer}
use Rattle.hp_script.specs.declared.answer.Answer.TheVariants as answer
use Rattle.hp_script.specs.declared.line.Act.{Act}
use Rattle.hp_script.specs.declared.line.Act.TheVariants as act

-- a line registers a watcher or a validator, or unregisters one
abbrev pub IsRegistering : Act → Type 0
IsRegistering (act.Watch name) = ⊤
IsRegistering (act.Unwatch name) = ⊤
IsRegistering (act.Limit name socket bytes allow) = ⊤
IsRegistering (act.Unlimit name socket) = ⊤
IsRegistering _ = ⊥

-- a watcher of that name that was told nothing; whether one is refused does not depend on more
abbrev pub unheard : List ℕ → Listener
unheard name = record { name = name; since = []; events = [] }

-- `watch`, among the watchers with these names, in the order of registration. None is refused for want of memory, so the last equation is
-- met by no line
abbrev pub watch_answer : Option WatchFault → Answer
watch_answer None = answer.Done
watch_answer (Some (watch.NameLong len)) = answer.NameTooLong
watch_answer (Some watch.Exists) = answer.Exists
watch_answer (Some (watch.Full limit)) = answer.Full
watch_answer (Some watch.OutOfMemory) = answer.Full

abbrev pub watching : List (List ℕ) → List ℕ → Answer
watching watchers name = watch_answer (watch_refusal (map unheard watchers) name)

-- `unwatch`
abbrev pub unwatch_answer : Option UnwatchFault → Answer
unwatch_answer None = answer.Done
unwatch_answer (Some (unwatch.NameLong len)) = answer.NameTooLong
unwatch_answer (Some unwatch.NotFound) = answer.NotFound

abbrev pub unwatching : List (List ℕ) → List ℕ → Answer
unwatching watchers name = unwatch_answer (unwatch_refusal (map unheard watchers) name)

-- `limit`, among these validators, of which each has what its closure always answers. None is refused for want of memory, so the last
-- equation is met by no line
abbrev pub limit_answer : Option LimitFault → Answer
limit_answer None = answer.Done
limit_answer (Some (limit.NameLong len)) = answer.NameTooLong
limit_answer (Some limit.Exists) = answer.Exists
limit_answer (Some limit.OutOfMemory) = answer.Exists

abbrev pub limiting : List (Validator Bool) → List ℕ → ℕ → Answer
limiting validators name socket = limit_answer (limit_refusal validators name socket)

-- `unlimit`
abbrev pub unlimiting : List (Validator Bool) → List ℕ → ℕ → Answer
unlimiting validators name socket = if list_any (is_its name socket) validators then answer.Done else answer.NotFound

-- the watchers' names after a line
abbrev pub watchers_after : Act → Answer → List (List ℕ) → List (List ℕ)
watchers_after (act.Watch name) answer.Done watchers = watchers ++ name.text ∷ []
watchers_after (act.Unwatch name) answer.Done watchers = filter (λ other. not (pointwise nat_eq other name.text)) watchers
watchers_after _ given watchers = watchers

-- the validators after a line
abbrev pub validators_after : Act → Answer → List (Validator Bool) → List (Validator Bool)
validators_after (act.Limit name socket bytes allow) answer.Done validators =
    validators ++ record { name = name.text; socket = socket; limit = bytes; allows = allow } ∷ []
validators_after (act.Unlimit name socket) answer.Done validators =
    filter (λ own. not (is_its name.text socket own)) validators
validators_after _ given validators = validators

-- what is answered where that was judged; for want of memory nothing is
module _ {E : Type 0} where
  abbrev pub IsWatchAnswer : Result Unit WatchFault → Result Answer E → Type 0
  IsWatchAnswer (Ok done) (Ok given) = given ≡ answer.Done
  IsWatchAnswer (Ok done) (Err stopped) = ⊥
  IsWatchAnswer (Err (watch.NameLong len)) (Ok given) = given ≡ answer.NameTooLong
  IsWatchAnswer (Err watch.Exists) (Ok given) = given ≡ answer.Exists
  IsWatchAnswer (Err (watch.Full limit)) (Ok given) = given ≡ answer.Full
  IsWatchAnswer (Err watch.OutOfMemory) (Ok given) = ⊥
  IsWatchAnswer (Err fault) (Err stopped) = fault ≡ watch.OutOfMemory

  abbrev pub IsLimitAnswer : Result Unit LimitFault → Result Answer E → Type 0
  IsLimitAnswer (Ok done) (Ok given) = given ≡ answer.Done
  IsLimitAnswer (Ok done) (Err stopped) = ⊥
  IsLimitAnswer (Err (limit.NameLong len)) (Ok given) = given ≡ answer.NameTooLong
  IsLimitAnswer (Err limit.Exists) (Ok given) = given ≡ answer.Exists
  IsLimitAnswer (Err limit.OutOfMemory) (Ok given) = ⊥
  IsLimitAnswer (Err fault) (Err stopped) = fault ≡ limit.OutOfMemory

abbrev pub IsUnwatchAnswer : Result Unit UnwatchFault → Answer → Type 0
IsUnwatchAnswer (Ok done) given = given ≡ answer.Done
IsUnwatchAnswer (Err (unwatch.NameLong len)) given = given ≡ answer.NameTooLong
IsUnwatchAnswer (Err unwatch.NotFound) given = given ≡ answer.NotFound

abbrev pub IsUnlimitAnswer : Result Unit NotFound → Answer → Type 0
IsUnlimitAnswer (Ok done) given = given ≡ answer.Done
IsUnlimitAnswer (Err fault) given = given ≡ answer.NotFound

-- how a line that registers one, or takes one back, is answered, by what is registered
abbrev pub registering : List (List ℕ) → List (Validator Bool) → Act → Answer
registering watchers validators (act.Watch name) = watching watchers name.text
registering watchers validators (act.Unwatch name) = unwatching watchers name.text
registering watchers validators (act.Limit name socket bytes allow) = limiting validators name.text socket
registering watchers validators (act.Unlimit name socket) = unlimiting validators name.text socket
registering watchers validators _ = answer.NotFound
