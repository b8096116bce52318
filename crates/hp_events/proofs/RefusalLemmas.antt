-- Which refusal comes.
use Rattle.std.proofs.Common.{◌≡◌, ℕ, Bool, true, false, not, nat_le, List, map, filter, length, Option, Some, None, Result, Ok, Err, refl, ap, ◌∙◌, sym, subst}
use Rattle.std.specs.Prelude.{IfErr, if◌then◌else◌}
use Rattle.std.specs.List.{list_any}
use Rattle.std.proofs.lemmas.Bool.{and_from, le-leb}
use Rattle.hp_base.specs.Names.{IsNameText}
use Rattle.hp_base.specs.Telling.{Listener}
use Rattle.hp_events.specs.Watchers.{AnswersUnwatch, AnswersWatch, WatchersView, has_name, is_name, unregistered, unwatch_refusal, watch_refusal}
use Rattle.hp_events.specs.Watching.{WatcherView, listener_of}
use Rattle.hp_events.specs.declared.fault.UnwatchFault.{UnwatchFault}
use Rattle.hp_events.specs.declared.fault.UnwatchFault.TheVariants as unwatch
use Rattle.hp_events.specs.declared.fault.WatchFault.{WatchFault}
use Rattle.hp_events.specs.declared.fault.WatchFault.TheVariants as watch
use Rattle.hp_events.proofs.ListFacts.{any_map, map_filter}

is_text : (name : List ℕ) → IsNameText name → is_name name ≡ true
is_text name text = and_from (nat_le 1 (length name)) (nat_le (length name) 63) (le-leb _ _ text.some) (le-leb _ _ text.short)

-- who listens has the name where a watcher has
pub has_it : (list : List WatcherView) (spare : ℕ) (now : WatchersView) (name : List ℕ)
    → record { listeners = map listener_of list; spare = spare } ≡ now
    → list_any (has_name name) now.listeners ≡ list_any (λ watcher. has_name name watcher.listener) list
has_it list spare now name is =
    ap (λ (w : WatchersView). list_any (has_name name) w.listeners) (sym is) ∙ any_map listener_of (has_name name) list

module _ (listeners : List Listener) (name : List ℕ) (text : IsNameText name) where
  named : watch_refusal listeners name
      ≡ (if list_any (has_name name) listeners then Some watch.Exists else (if nat_le 4 (length listeners) then Some (watch.Full 4) else None))
  named =
      ap (λ (b : Bool). if not b then Some (watch.NameLong (length name))
      else (if list_any (has_name name) listeners then Some watch.Exists
      else (if nat_le 4 (length listeners) then Some (watch.Full 4) else None)))
      (is_text name text)

  pub it_exists : list_any (has_name name) listeners ≡ true → AnswersWatch (watch_refusal listeners name) (Err watch.Exists)
  it_exists there =
      subst (λ (r : Option WatchFault). AnswersWatch r (Err watch.Exists))
      (sym (named ∙ ap (λ (b : Bool). if b then Some watch.Exists else (if nat_le 4 (length listeners) then Some (watch.Full 4) else None)) there))
      refl

  fresh : list_any (has_name name) listeners ≡ false
      → watch_refusal listeners name ≡ (if nat_le 4 (length listeners) then Some (watch.Full 4) else None)
  fresh none =
      named ∙ ap (λ (b : Bool). if b then Some watch.Exists else (if nat_le 4 (length listeners) then Some (watch.Full 4) else None)) none

  pub it_is_full : list_any (has_name name) listeners ≡ false → nat_le 4 (length listeners) ≡ true
      → AnswersWatch (watch_refusal listeners name) (Err (watch.Full 4))
  it_is_full none full =
      subst (λ (r : Option WatchFault). AnswersWatch r (Err (watch.Full 4)))
      (sym (fresh none ∙ ap (λ (b : Bool). if b then Some (watch.Full 4) else None) full)) refl

  -- where nothing stands against it, only want of memory refuses it
  by_memory : (X : Type 0) (result : Result Unit WatchFault) → IfErr result (λ fault. (fault ≡ watch.OutOfMemory) × X) → AnswersWatch None result
  by_memory X (Ok done) err = tt
  by_memory X (Err fault) err = err.0

  pub it_comes : (X : Type 0) (result : Result Unit WatchFault) → list_any (has_name name) listeners ≡ false → nat_le 4 (length listeners) ≡ false
      → IfErr result (λ fault. (fault ≡ watch.OutOfMemory) × X) → AnswersWatch (watch_refusal listeners name) result
  it_comes X result none room err =
      subst (λ (r : Option WatchFault). AnswersWatch r result)
      (sym (fresh none ∙ ap (λ (b : Bool). if b then Some (watch.Full 4) else None) room)) (by_memory X result err)

  unnamed : unwatch_refusal listeners name ≡ (if list_any (has_name name) listeners then None else Some unwatch.NotFound)
  unnamed =
      ap (λ (b : Bool). if not b then Some (unwatch.NameLong (length name))
      else (if list_any (has_name name) listeners then None else Some unwatch.NotFound))
      (is_text name text)

  pub it_is_gone : list_any (has_name name) listeners ≡ true → AnswersUnwatch (unwatch_refusal listeners name) (Ok tt)
  it_is_gone there =
      subst (λ (r : Option UnwatchFault). AnswersUnwatch r (Ok tt))
      (sym (unnamed ∙ ap (λ (b : Bool). if b then None else Some unwatch.NotFound) there)) tt

  pub it_was_none : list_any (has_name name) listeners ≡ false → AnswersUnwatch (unwatch_refusal listeners name) (Err unwatch.NotFound)
  it_was_none none =
      subst (λ (r : Option UnwatchFault). AnswersUnwatch r (Err unwatch.NotFound))
      (sym (unnamed ∙ ap (λ (b : Bool). if b then None else Some unwatch.NotFound) none)) refl

-- the others are left
pub others_listen : (name : List ℕ) (list left : List WatcherView) (spare : ℕ) (now : WatchersView)
    → record { listeners = map listener_of list; spare = spare } ≡ now
    → left ≡ filter (λ watcher. not (has_name name watcher.listener)) list
    → record { listeners = map listener_of left; spare = spare } ≡ unregistered name now
others_listen name list left spare now is left_is =
    subst (λ (now : WatchersView). record { listeners = map listener_of left; spare = spare } ≡ unregistered name now) is
    (ap (λ (l : List Listener). record { listeners = l; spare = spare })
    (ap (map listener_of) left_is ∙ map_filter listener_of (λ listener. not (has_name name listener)) list))
