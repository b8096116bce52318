-- What an asker reads off the segment value, and what it then knows of the outcome that stands for its ask.
use Rattle.std.proofs.Common.{◌≡◌, ◌==◌, ◌∙◌, ℕ, Bool, true, false, not, cond, ◌||◌, List, [], ◌∷◌, Option, Some, None, refl, ap, sym, subst}
use Rattle.std.specs.List.{find, list_any}
use Rattle.std.specs.Option.{option_and_then, option_map}
use Rattle.std.proofs.lemmas.Bool.{and_from, and_parts}
use Rattle.hp_base.specs.declared.row.Run.{Run}
use Rattle.hp_heap.proofs.Members.{find_some}
use Rattle.hp_hall.specs.Holding.{HeapPart}
use Rattle.hp_log.specs.declared.log_record.LogRecord.{LogRecord}
use Rattle.hp_segs.specs.LaterSteps.{closing_by}
use Rattle.hp_segs.specs.SegsView.{SegsView, grant_of, grant_or_refusal_of, granted_by, grants_or_refuses, is_grant_or_refusal, is_outcome_for, is_stale}
use Rattle.hp_segs.specs.declared.ask.Ask.{Ask}
use Rattle.hp_segs.specs.declared.fault.Closing.TheVariants as closing
use Rattle.hp_segs.specs.declared.outcome.AskLog.{AskLog}
use Rattle.hp_segs.specs.declared.outcome.Cause.{Cause}
use Rattle.hp_segs.specs.declared.outcome.Outcome.{Outcome}
use Rattle.hp_segs.specs.declared.outcome.Outcome.TheVariants.{Granted, Refused, Stale, Freed}
use Rattle.hp_serve.specs.Asking.{Settles}

-- where an element is found one passes
any_by : {X : Type 0} (p : X → Bool) (x y : X) (xs : List X) (first : Bool) → (find p xs ≡ Some x → list_any p xs ≡ true)
    → cond first (Some y) (find p xs) ≡ Some x → (first || list_any p xs) ≡ true
any_by p x y xs true rest found = refl
any_by p x y xs false rest found = rest found

pub any_of_found : {X : Type 0} (p : X → Bool) (xs : List X) (x : X) → find p xs ≡ Some x → list_any p xs ≡ true
any_of_found p [] x found = cc
any_of_found p (y ∷ ys) x found = any_by p x y ys (p y) (any_of_found p ys x) found

-- the first grant or refusal of that number is that outcome
pub record Stands (asks : List AskLog) (from number : ℕ) (outcome : Outcome) : Type 0 where
  pub entry : AskLog
  pub found : find (grants_or_refuses from number) asks ≡ Some entry
  pub is : entry.outcome ≡ outcome

stands_by : (asks : List AskLog) (from number : ℕ) (outcome : Outcome) (found : Option AskLog)
    → find (grants_or_refuses from number) asks ≡ found
    → option_map (λ (entry : AskLog). entry.outcome) found ≡ Some outcome → Stands asks from number outcome
stands_by asks from number outcome None found is = cc
stands_by asks from number outcome (Some entry) found is =
    let its : entry.outcome ≡ outcome = cc in
    record { entry = entry; found = found; is = its }

-- the grant or refusal that is looked up stands
pub grant_or_refusal_stands : (asks : List AskLog) (from number : ℕ) (outcome : Outcome)
    → grant_or_refusal_of asks from number ≡ Some outcome
    → Stands asks from number outcome
grant_or_refusal_stands asks from number outcome is = stands_by asks from number outcome (find (grants_or_refuses from number) asks) refl is

none_by : {X : Type 0} (p : X → Bool) (y : X) (ys : List X) (first : Bool) → (find p ys ≡ None → list_any p ys ≡ false)
    → cond first (Some y) (find p ys) ≡ None → (first || list_any p ys) ≡ false
none_by p y ys true rest none = cc
none_by p y ys false rest none = rest none

none_of_found : {X : Type 0} (p : X → Bool) (xs : List X) → find p xs ≡ None → list_any p xs ≡ false
none_of_found p [] none = refl
none_of_found p (y ∷ ys) none = none_by p y ys (p y) (none_of_found p ys) none

none_there : (found : Option AskLog) → option_map (λ (entry : AskLog). entry.outcome) found ≡ None → found ≡ None
none_there None is = refl
none_there (Some entry) is = cc

-- and where none is looked up none stands
pub none_stands : (asks : List AskLog) (from number : ℕ) → grant_or_refusal_of asks from number ≡ None
    → list_any (grants_or_refuses from number) asks ≡ false
none_stands asks from number none =
    none_of_found (grants_or_refuses from number) asks (none_there (find (grants_or_refuses from number) asks) none)

fresh_by : (outcome : Outcome) → is_grant_or_refusal outcome ≡ true → not (is_stale outcome) ≡ true
fresh_by (Granted generation) is = refl
fresh_by (Refused cause) is = refl
fresh_by (Stale done) is = cc
fresh_by (Freed generation) is = cc

-- a grant or a refusal is an outcome but a stale one
pub narrower : (from number : ℕ) (entry : AskLog) → grants_or_refuses from number entry ≡ true → is_outcome_for from number entry ≡ true
narrower from number entry is =
    let both = and_parts (entry.from == from) _ is in
    let rest = and_parts (entry.number == number) _ both.1 in
    and_from (entry.from == from) _ both.0 (and_from (entry.number == number) _ rest.0 (fresh_by entry.outcome rest.1))

-- what stands is a grant or a refusal
pub stands_settles : (asks : List AskLog) (from number : ℕ) (outcome : Outcome) → Stands asks from number outcome
    → is_grant_or_refusal outcome ≡ true
stands_settles asks from number outcome stands =
    let is = find_some (grants_or_refuses from number) asks stands.entry stands.found in
    let both = and_parts (stands.entry.from == from) _ is.0 in
    let rest = and_parts (stands.entry.number == number) _ both.1 in
    ap is_grant_or_refusal (sym stands.is) ∙ rest.1

-- where a refusal stands nothing is granted
pub grants_none : (segs : SegsView) (from number : ℕ) (cause : Cause) → Stands segs.asks from number (Refused cause)
    → grant_of segs.asks from number ≡ None
grants_none segs from number cause stands =
    ap (λ (found : Option AskLog). option_and_then granted_by (option_map (λ entry. entry.outcome) found)) stands.found
    ∙ ap granted_by stands.is

-- what `withdraw` answers of what stood
granted_closing : (standing : Option Outcome) → closing_by standing ≡ closing.Granted
    → (generation : ℕ) × (standing ≡ Some (Granted generation))
granted_closing None is = cc
granted_closing (Some (Granted generation)) is = (generation, refl)
granted_closing (Some (Refused cause)) is = cc
granted_closing (Some (Stale done)) is = cc
granted_closing (Some (Freed generation)) is = cc

refused_closing : (standing : Option Outcome) (cause : Cause) → closing_by standing ≡ closing.Refused cause
    → (why : Cause) × (standing ≡ Some (Refused why))
refused_closing None cause is = cc
refused_closing (Some (Granted generation)) cause is = cc
refused_closing (Some (Refused why)) cause is = (why, refl)
refused_closing (Some (Stale done)) cause is = cc
refused_closing (Some (Freed generation)) cause is = cc

withdrawn_closing : (standing : Option Outcome) → ((outcome : Outcome) → standing ≡ Some outcome → is_grant_or_refusal outcome ≡ true)
    → closing_by standing ≡ closing.Withdrawn → standing ≡ None
withdrawn_closing None settles is = refl
withdrawn_closing (Some (Granted generation)) settles is = cc
withdrawn_closing (Some (Refused cause)) settles is = cc
withdrawn_closing (Some (Stale done)) settles is =
    let wrong : false ≡ true = settles (Stale done) refl in
    cc
withdrawn_closing (Some (Freed generation)) settles is =
    let wrong : false ≡ true = settles (Freed generation) refl in
    cc

module _ (asks : List AskLog) (from number : ℕ) where
  pub closing_granted : closing_by (grant_or_refusal_of asks from number) ≡ closing.Granted
      → (generation : ℕ) × (grant_or_refusal_of asks from number ≡ Some (Granted generation))
  closing_granted = granted_closing (grant_or_refusal_of asks from number)

  pub closing_refused : (cause : Cause) → closing_by (grant_or_refusal_of asks from number) ≡ closing.Refused cause
      → (why : Cause) × (grant_or_refusal_of asks from number ≡ Some (Refused why))
  closing_refused = refused_closing (grant_or_refusal_of asks from number)

  pub closing_withdrawn : closing_by (grant_or_refusal_of asks from number) ≡ closing.Withdrawn
      → grant_or_refusal_of asks from number ≡ None
  closing_withdrawn =
      withdrawn_closing (grant_or_refusal_of asks from number)
      (λ outcome is. stands_settles asks from number outcome (grant_or_refusal_stands asks from number outcome is))

-- what is settled by a log and outcomes is so by equal ones
pub settles_at : (log now : List LogRecord) (asks heard : List AskLog) (ask : Ask) (old new : ℕ → HeapPart) (run : Option Run) → now ≡ log
    → heard ≡ asks → Settles log asks ask old new run → Settles now heard ask old new run
settles_at log now asks heard ask old new run log_is asks_is settles =
    subst (λ log. Settles log heard ask old new run) (sym log_is) (subst (λ asks. Settles log asks ask old new run) (sym asks_is) settles)
