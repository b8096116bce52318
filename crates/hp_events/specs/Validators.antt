-- The allocation validators of all sockets, and what they answer: the rule "Validators" of docs/OUTSIDE.md.
use Rattle.std.specs.Prelude.{◌≡◌, ℕ, ◌<◌, Bool, true, false, not, ◌&&◌, ◌==◌, nat_eq, List, filter, length, take, Option, Some, None, IfSome, Result, Ok, Err, slice_get, if◌then◌else◌}
use Rattle.std.proofs.Common.{subst, sym}
use Rattle.std.specs.List.{All, list_any}
use Rattle.std.specs.Cmp.Lexicographic.{pointwise}
use Rattle.hp_events.specs.Watchers.{is_name}
use Rattle.hp_events.specs.declared.fault.LimitFault.{LimitFault}
use Rattle.hp_events.specs.declared.fault.LimitFault.TheVariants.{NameLong, Exists, OutOfMemory}
use Rattle.hp_events.specs.declared.validator.Validator.{Validator}
use Rattle.hp_events.specs.declared.validators.Validators.{Validators}

module _ {F : Type 0} where
  -- the validators, in the order of their registration
  abbrev pub validators_in : Validators F → List (Validator F)
  validators_in validators = validators.list.items

  -- it is the one of that socket and name
  abbrev pub is_its : List ℕ → ℕ → Validator F → Bool
  is_its name socket own = (own.socket == socket) && pointwise nat_eq own.name name

  -- why a validator is not registered, whether or not there is memory: for its name, or for one of the socket that has it
  abbrev pub limit_refusal : List (Validator F) → List ℕ → ℕ → Option LimitFault
  limit_refusal validators name socket =
      if not (is_name name) then Some (NameLong (length name))
      else (if list_any (is_its name socket) validators then Some Exists else None)

  -- the one of that socket and name was there, and is there no more
  pub record Unregisters (name : List ℕ) (socket : ℕ) (old new : List (Validator F)) : Type 0 where
    pub was : list_any (is_its name socket) old ≡ true
    pub left : new ≡ filter (λ own. not (is_its name socket own)) old

  -- there is none of that socket and name, and none goes
  pub record HasNone (name : List ℕ) (socket : ℕ) (old new : List (Validator F)) : Type 0 where
    pub none : list_any (is_its name socket) old ≡ false
    pub same : new ≡ old

  -- it is asked for a socket and the bytes that it would have: it is of that socket, and its limit is below the bytes
  pub record IsAsked (socket total : ℕ) (own : Validator F) : Type 0 where
    pub its_socket : own.socket ≡ socket
    pub above : own.limit < total

  module _ (answers : F → ℕ → ℕ → ℕ → Bool → Type 0) (socket total : ℕ) where
    -- where it is asked, its closure answers true
    abbrev pub Allows : Validator F → Type 0
    Allows own = IsAsked socket total own → answers own.allows socket own.limit total true

    -- it is asked, and its closure answers false
    pub record IsDenying (own : Validator F) : Type 0 where
      pub asked : IsAsked socket total own
      pub answered : answers own.allows socket own.limit total false

    -- the validator of that name and limit is the first that denies the bytes: those before it allow them
    pub record IsFirstToDeny (validators : List (Validator F)) (name : List ℕ) (limit : ℕ) : Type 0 where
      pub place : ℕ
      pub own : Validator F
      pub its_place : slice_get validators place ≡ Some own
      pub denies : IsDenying own
      pub before : All Allows (take place validators)
      pub its_name : name ≡ own.name
      pub its_limit : limit ≡ own.limit

    -- who denies the bytes; nobody does where all validators allow them
    abbrev pub AreAnswered : List (Validator F) → Option (List ℕ × ℕ) → Type 0
    AreAnswered validators None = All Allows validators
    AreAnswered validators (Some (name, limit)) = IsFirstToDeny validators name limit

    -- a validator that denies has a limit below the bytes
    pub limit_below : (validators : List (Validator F)) (answer : Option (List ℕ × ℕ)) → AreAnswered validators answer
        → IfSome answer (λ denied. denied.1 < total)
    limit_below validators None is = tt
    limit_below validators (Some (name, limit)) is = subst (λ limit. limit < total) (sym is.its_limit) is.denies.asked.above

-- a validator is refused for that reason, and else registered, unless memory is wanting
abbrev pub AnswersLimit : Option LimitFault → Result Unit LimitFault → Type 0
AnswersLimit (Some fault) (Ok done) = ⊥
AnswersLimit (Some fault) (Err given) = given ≡ fault
AnswersLimit None (Ok done) = Unit {0}
AnswersLimit None (Err given) = given ≡ OutOfMemory
