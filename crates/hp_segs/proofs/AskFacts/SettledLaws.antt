-- What settles an ask: a refusal, and a claim of its grant.
use Rattle.std.proofs.Common.{◌≡◌, ◌==◌, ◌∙◌, ℕ, Bool, true, false, not, ◌&&◌, ◌||◌, cond, List, [], ◌∷◌, map, Option, Some, None, IsSomeAnd, IsTrue, refl, ap, sym, subst, if◌then◌else◌}
use Rattle.std.specs.List.{find, list_any}
use Rattle.std.specs.Option.{option_and_then, option_map}
use Rattle.std.proofs.lemmas.Bool.{and_from, and_left, and_parts, and_right, or_from, or_right}
use Rattle.hp_segs.specs.SegsView.{SegsView, grant_of, grant_or_refusal_of, granted_by, grants_or_refuses, is_agreed, is_grant_or_refusal, is_outcome_for, is_stale, is_unclaimed}
use Rattle.hp_segs.specs.SettledAsks.{AboveIsUnsettled, ClaimSettles, IsSettled, RefusalSettles, UnclaimedIsUnsettled}
use Rattle.hp_segs.specs.Steps.{claimed_grant, claimed_segment, claimed_state, segment_of}
use Rattle.hp_segs.specs.declared.outcome.AskLog.{AskLog}
use Rattle.hp_segs.specs.declared.outcome.Outcome.{Outcome}
use Rattle.hp_segs.specs.declared.outcome.Outcome.TheVariants.{Granted, Refused, Stale, Freed}
use Rattle.hp_segs.specs.declared.row_state.RowState.{RowState}
use Rattle.hp_segs.specs.declared.row_state.RowState.TheVariants.{Opened, Agreed, Owned, Retiring}
use Rattle.hp_segs.specs.declared.row_state.Segment.{Segment}
use Rattle.hp_segs.proofs.Finds.{any_found}
use Rattle.hp_segs.proofs.SinceLemmas.{none_above}

not_stale : (outcome : Outcome) → is_grant_or_refusal outcome ≡ true → not (is_stale outcome) ≡ true
not_stale (Granted generation) is = refl
not_stale (Refused cause) is = refl
not_stale (Stale done) is = cc
not_stale (Freed generation) is = refl

module _ (from number : ℕ) where
  -- a grant or a refusal is an outcome other than Stale
  pub answers : (entry : AskLog) → grants_or_refuses from number entry ≡ true → is_outcome_for from number entry ≡ true
  answers entry is =
      let who = and_parts (entry.from == from) _ is in
      let which = and_parts (entry.number == number) _ who.1 in
      and_from (entry.from == from) _ who.0
      (and_from (entry.number == number) (not (is_stale entry.outcome)) which.0 (not_stale entry.outcome which.1))

  answered_by : (entry : AskLog) (asks : List AskLog) (outcome : Outcome) (here : Bool) → grants_or_refuses from number entry ≡ here
      → option_map (λ entry. entry.outcome) (cond here (Some entry) (find (grants_or_refuses from number) asks)) ≡ Some outcome
      → (grant_or_refusal_of asks from number ≡ Some outcome → list_any (is_outcome_for from number) asks ≡ true)
      → (is_outcome_for from number entry || list_any (is_outcome_for from number) asks) ≡ true
  answered_by entry asks outcome true passes is rest =
      ap (λ b. b || list_any (is_outcome_for from number) asks) (answers entry passes)
  answered_by entry asks outcome false fails is rest =
      or_right (is_outcome_for from number entry) (list_any (is_outcome_for from number) asks) (rest is)

  answered : (asks : List AskLog) (outcome : Outcome) → grant_or_refusal_of asks from number ≡ Some outcome
      → list_any (is_outcome_for from number) asks ≡ true
  answered [] outcome is = cc
  answered (entry ∷ asks) outcome is =
      answered_by entry asks outcome (grants_or_refuses from number entry) refl is (answered asks outcome)

  answered_grant : (asks : List AskLog) (generation : ℕ) (found : Option Outcome) → grant_or_refusal_of asks from number ≡ found
      → option_and_then granted_by found ≡ Some generation → list_any (is_outcome_for from number) asks ≡ true
  answered_grant asks generation None none is = cc
  answered_grant asks generation (Some outcome) found is = answered asks outcome found

unagreed : (state : RowState) → is_agreed (claimed_state state) ≡ false
unagreed Opened = refl
unagreed (Agreed heap) = refl
unagreed (Owned heap) = refl
unagreed Retiring = refl

claimed_off : (generation : ℕ) (segment : Segment) (own : Bool) → (segment.row.generation == generation) ≡ own
    → (((if own then segment_of (claimed_state segment.state) segment.row else segment).row.generation == generation)
    && is_agreed (if own then segment_of (claimed_state segment.state) segment.row else segment).state)
    ≡ false
claimed_off generation segment true is =
    and_right (segment.row.generation == generation) (is_agreed (claimed_state segment.state)) (unagreed segment.state)
claimed_off generation segment false is = and_left (segment.row.generation == generation) (is_agreed segment.state) is

-- no row of a claimed generation is Agreed
none_unclaimed : (generation : ℕ) (segments : List Segment) → is_unclaimed (map (claimed_segment generation) segments) generation ≡ false
none_unclaimed generation [] = refl
none_unclaimed generation (segment ∷ segments) =
    or_from _ _ (claimed_off generation segment (segment.row.generation == generation) refl) (none_unclaimed generation segments)

pub refusal_settles : RefusalSettles
refusal_settles segs from number cause is = record {
  answered = answered from number segs.asks (Refused cause) is;
  claimed = λ generation granted.
      let none : grant_of segs.asks from number ≡ None = ap (option_and_then granted_by) is in
      let wrong : None ≡ Some generation = sym none ∙ granted in
      absurd (cc);
}

claim_by : (segs : SegsView) (from number : ℕ) (grant : Option ℕ) → grant_of segs.asks from number ≡ grant
    → IsSomeAnd grant (λ generation. IsTrue (is_unclaimed segs.segments generation)) → IsSettled from number (claimed_grant segs grant)
claim_by segs from number None is unclaimed = absurd unclaimed
claim_by segs from number (Some generation) is unclaimed = record {
  answered = answered_grant from number segs.asks generation (grant_or_refusal_of segs.asks from number) refl is;
  claimed = λ other granted.
      let both : Some generation ≡ Some other = sym is ∙ granted in
      let same : generation ≡ other = cc in
      subst (λ stamp. is_unclaimed (map (claimed_segment generation) segs.segments) stamp ≡ false) same
      (none_unclaimed generation segs.segments);
}

pub claim_settles : ClaimSettles
claim_settles segs from number unclaimed = claim_by segs from number (grant_of segs.asks from number) refl unclaimed

unsettled_by : (segs : SegsView) (from number : ℕ) (grant : Option ℕ) → grant_of segs.asks from number ≡ grant
    → IsSomeAnd grant (λ generation. IsTrue (is_unclaimed segs.segments generation)) → ¬ (IsSettled from number segs)
unsettled_by segs from number None is unclaimed settled = absurd unclaimed
unsettled_by segs from number (Some generation) is unclaimed settled =
    let wrong : true ≡ false = sym unclaimed ∙ settled.claimed generation is in
    absurd (cc)

pub unclaimed_is_unsettled : UnclaimedIsUnsettled
unclaimed_is_unsettled segs from number unclaimed settled =
    unsettled_by segs from number (grant_of segs.asks from number) refl unclaimed settled

pub above_is_unsettled : AboveIsUnsettled
above_is_unsettled segs from number above settled =
    let none = any_found (is_outcome_for from number) segs.asks (none_above segs.asks from number above) in
    let wrong : true ≡ false = sym settled.answered ∙ none in
    absurd (cc)
