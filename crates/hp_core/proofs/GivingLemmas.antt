-- What is given after a value: outcomes of which each grant is acknowledged; who has acknowledged a growth that is granted; and that a
-- member that has caught up only notes.
use Rattle.std.proofs.Common.{◌≡◌, ℕ, zero, suc, ◌<◌, ◌≤◌, Bool, true, false, ◌&&◌, List, [], ◌∷◌, ◌++◌, length, drop, get_or, Contains, Option, Some, None, refl, ap, ◌∙◌, sym, subst, arith, append-nil, inl, inr, if◌then◌else◌}
use Rattle.std.specs.Prelude.{nat_lt, slice_index, slice_set}
use Rattle.std.specs.List.{find, range_with_len}
use Rattle.std.specs.Option.{option_map}
use Rattle.std.proofs.lemmas.Bool.Decides.{nat_tests}
use Rattle.std.proofs.lemmas.List.{drop_at}
use Rattle.std.proofs.lemmas.List.Elements.{Contains-push_cases}
use Rattle.std.proofs.lemmas.List.FromFn.{get_or-range_with_len, length-range_with_len}
use Rattle.hp_segs.specs.LaterSteps.{is_failure, is_noted, noting}
use Rattle.hp_segs.specs.Moved.{IsMovedBy, NoteFailed, is_log_call}
use Rattle.hp_segs.specs.SegsView.{SegsView, granted_by, is_member, roster_bits}
use Rattle.hp_segs.specs.Sound.{IsSound}
use Rattle.hp_segs.specs.SoundRows.{IsGrowth, IsLogged}
use Rattle.hp_segs.specs.Steps.{is_below, lowest_member_below}
use Rattle.hp_segs.specs.declared.growth.Growth.{Growth}
use Rattle.hp_segs.specs.declared.outcome.AskLog.{AskLog}
use Rattle.hp_segs.specs.declared.outcome.Cause.{Cause}
use Rattle.hp_segs.specs.declared.outcome.Cause.TheVariants.{MapFailed}
use Rattle.hp_segs.proofs.Finds.{any_found}
use Rattle.hp_segs.proofs.SlotFacts.ListFacts.{any_off}
use Rattle.hp_segs.proofs.Moves.{calls_move, moves_stay}
use Rattle.hp_core.specs.Following.{failure_of, noted}
use Rattle.hp_core.specs.Giving.{CatchesNote, OnlyNotes}
use Rattle.hp_core.specs.declared.following.Failure.{Failure}
use Rattle.hp_core.proofs.StepLemmas.{failure_is}

-- the armed asks and the roster stay, outcomes come after, and each growth that they grant is acknowledged by all members
pub record Gives (acked : ℕ → ℕ → Type 0) (old new : SegsView) : Type 0 where
  pub armed : new.armed ≡ old.armed
  pub roster : new.roster ≡ old.roster
  pub outcomes : List AskLog
  pub asks : new.asks ≡ old.asks ++ outcomes
  pub agreed : (entry : AskLog) (generation member : ℕ) → Contains outcomes entry → granted_by entry.outcome ≡ Some generation
      → is_member old.roster member ≡ true → acked generation member

-- the one element of a list
pub only_one : (one entry : AskLog) → Contains (one ∷ []) entry → one ≡ entry
only_one one entry has = elim (Contains-push_cases [] one entry has) [
  | inl nothing ↦ absurd (omega (arith, nothing.1))
  | inr same ↦ same
]

module _ (acked : ℕ → ℕ → Type 0) where
  -- no outcome comes
  pub gives_none : (old new : SegsView) → new.armed ≡ old.armed → new.roster ≡ old.roster → new.asks ≡ old.asks → Gives acked old new
  gives_none old new armed roster asks = record {
    armed = armed;
    roster = roster;
    outcomes = [];
    asks = asks ∙ sym (append-nil old.asks);
    agreed = λ entry generation member has is within. absurd (omega (arith, has.1));
  }

  -- one comes
  pub gives_one : (old new : SegsView) (one : AskLog) → new.armed ≡ old.armed → new.roster ≡ old.roster → new.asks ≡ old.asks ++ one ∷ []
      → ((generation member : ℕ) → granted_by one.outcome ≡ Some generation → is_member old.roster member ≡ true → acked generation member)
      → Gives acked old new
  gives_one old new one armed roster asks agreed = record {
    armed = armed;
    roster = roster;
    outcomes = one ∷ [];
    asks = asks;
    agreed = λ entry generation member has is within.
        agreed generation member (ap (λ entry. granted_by entry.outcome) (only_one one entry has) ∙ is) within;
  }

  -- one comes that grants nothing
  pub gives_ungranted : (old new : SegsView) (one : AskLog) → new.armed ≡ old.armed → new.roster ≡ old.roster
      → new.asks ≡ old.asks ++ one ∷ [] → granted_by one.outcome ≡ None → Gives acked old new
  gives_ungranted old new one armed roster asks none =
      gives_one old new one armed roster asks (λ generation member is within. absurd (never generation (sym none ∙ is)))
    where
      never : (generation : ℕ) → None ≡ Some generation → ⊥
      never generation same = cc

  -- outcomes come after a value with the same armed asks, roster and outcomes
  pub gives_behind : (old mid new : SegsView) → mid.armed ≡ old.armed → mid.roster ≡ old.roster → mid.asks ≡ old.asks → Gives acked mid new
      → Gives acked old new
  gives_behind old mid new armed roster asks given = record {
    armed = given.armed ∙ armed;
    roster = given.roster ∙ roster;
    outcomes = given.outcomes;
    asks = given.asks ∙ ap (λ asks. asks ++ given.outcomes) asks;
    agreed = λ entry generation member has is within.
        given.agreed entry generation member has is (ap (λ roster. is_member roster member) roster ∙ within);
  }

  -- the outcomes that came are those after the old ones
  pub gives_new : (old new : SegsView) → Gives acked old new → (entry : AskLog) (generation member : ℕ)
      → Contains (drop (length old.asks) new.asks) entry → granted_by entry.outcome ≡ Some generation → is_member old.roster member ≡ true
      → acked generation member
  gives_new old new given entry generation member has is within =
      let behind : drop (length old.asks) new.asks ≡ given.outcomes =
      ap (drop (length old.asks)) given.asks ∙ drop_at old.asks given.outcomes (length old.asks) refl in
      given.agreed entry generation member (subst (λ outcomes. Contains outcomes entry) behind has) is within

-- a member's number is one of the roster's places
pub member_within : (roster : List Bool) (member : ℕ) → is_member roster member ≡ true → member < length roster
member_within [] member is = cc
member_within (here ∷ roster) zero is = omega arith
member_within (here ∷ roster) (suc member) is = omega (arith, member_within roster member is)

unmapped : {X Y : Type 0} (f : X → Y) (found : Option X) → option_map f found ≡ None → found ≡ None
unmapped f None none = refl
unmapped f (Some x) none = cc

-- where no number of a range is found, none passes
none_passes : (p : ℕ → Bool) (n k : ℕ) → find p (range_with_len 0 n) ≡ None → k < n → p k ≡ false
none_passes p n k none within =
    let fails = any_off p (range_with_len 0 n) (any_found p (range_with_len 0 n) none) in
    let place : get_or (range_with_len 0 n) k 0 ≡ k = omega (arith, get_or-range_with_len 0 n k 0 within) in
    subst (λ k. p k ≡ false) place (fails k 0 (omega (arith, within, length-range_with_len 0 n)))

not_below : (member : Bool) (acked generation : ℕ) → (member && nat_lt acked generation) ≡ false → member ≡ true → generation ≤ acked
not_below true acked generation fails is = grind (arith, nat_tests)
not_below false acked generation fails is = cc

-- where no member is below a generation, the number of each is not below it
pub all_acknowledged : (roster : List Bool) (acks : List ℕ) (generation member : ℕ) → length roster ≡ 16
    → lowest_member_below roster acks generation ≡ None → is_member roster member ≡ true → generation ≤ slice_index acks member
all_acknowledged roster acks generation member places none is =
    let below = is_below roster acks generation in
    not_below (is_member roster member) (slice_index acks member) generation
    (none_passes below 16 member (unmapped _ (find below (range_with_len 0 16)) none) (omega (arith, places, member_within roster member is)))
    is

no_member : (roster : List Bool) (member : ℕ) → roster_bits roster ≡ 0 → is_member roster member ≡ true → ⊥
no_member [] member none is = cc
no_member (true ∷ roster) zero none is = omega (arith, none)
no_member (false ∷ roster) zero none is = cc
no_member (here ∷ roster) (suc member) none is = no_member roster member (omega (arith, none)) is

-- where participant 0 has no other member beside it, each member is participant 0
pub primary_alone : (roster : List Bool) (member : ℕ) → roster_bits (slice_set roster 0 false) ≡ 0 → is_member roster member ≡ true
    → member ≡ 0
primary_alone [] member none is = cc
primary_alone (here ∷ roster) zero none is = refl
primary_alone (here ∷ roster) (suc member) none is = absurd (no_member roster member (omega (arith, none)) is)

-- the open growth of a sound value is that of the last record
pub growth_is_last : (segs : SegsView) (growth : Growth) → IsSound segs → segs.growth ≡ Some growth → growth.generation ≡ length segs.log
growth_is_last segs growth sound is =
    let logged : IsGrowth segs.pools segs.log segs.segments growth = subst (IsLogged segs.pools segs.log segs.segments) is sound.rows.logged in
    logged.last

noting_only : (cause : Cause) (segs : SegsView) (taken : Bool)
    → IsMovedBy is_log_call 0 segs (if taken then record segs { growth = noting cause segs.growth } else segs)
    → OnlyNotes segs (if taken then record segs { growth = noting cause segs.growth } else segs)
noting_only cause segs true moved = record { moved = moved; log = refl; asks = refl; armed = refl; roster = refl }
noting_only cause segs false moved = record { moved = moved; log = refl; asks = refl; armed = refl; roster = refl }

noted_only : (participant : ℕ) (segs : SegsView) (failure : Option Failure) → is_member segs.roster participant ≡ true
    → ((one : Failure) → failure ≡ Some one → is_failure one.row one.got ≡ true) → OnlyNotes segs (noted participant segs failure)
noted_only participant segs None member fails =
    record { moved = moves_stay is_log_call segs; log = refl; asks = refl; armed = refl; roster = refl }
noted_only participant segs (Some one) member fails =
    noting_only (MapFailed participant one.call one.row.addr one.got) segs (is_noted segs participant one.call one.row segs.growth)
    (calls_move is_log_call (NoteFailed participant one.call one.row one.got) segs refl
    (record { member = member; failure = fails one refl }))

-- a member that has caught up, or failed to, only notes
pub catches_note : CatchesNote
catches_note participant caught segs member = noted_only participant segs (failure_of caught) member (failure_is caught)
