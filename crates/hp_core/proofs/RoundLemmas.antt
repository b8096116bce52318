-- The growth of a round, the members below it, and outcomes that are logged for its ask.
use Rattle.std.proofs.Common.{◌≡◌, ℕ, zero, suc, ◌+◌, ◌<◌, ◌≤◌, ◌==◌, Bool, true, false, not, cond, List, [], ◌∷◌, ◌++◌, length, replicate, Option, Some, None, refl, ap, ◌∙◌, sym, arith, length-append, eq-eqb}
use Rattle.std.proofs.lemmas.Bool.{and_parts, and_from, and_right, eqb-true}
use Rattle.std.proofs.lemmas.Bool.Decides.{nat_tests}
use Rattle.std.proofs.lemmas.List.{get_or-replicate}
use Rattle.std.specs.Prelude.{nat_lt, slice_index, if◌then◌else◌}
use Rattle.std.specs.List.{find, range_with_len}
use Rattle.std.specs.Option.{option_map}
use Rattle.hp_segs.specs.SegsView.{SegsView, is_member, is_outcome_for, is_stale, outcome_of}
use Rattle.hp_segs.specs.LaterSteps.{is_noted, noting}
use Rattle.hp_segs.specs.Steps.{after_agree, after_cancel, after_grant, agreed_growth, cancelled_growth, granted_unless, is_below, lowest_member_below}
use Rattle.hp_segs.specs.declared.fault.NotAll.{NotAll}
use Rattle.hp_segs.specs.declared.growth.Growth.{Growth}
use Rattle.hp_segs.specs.declared.outcome.AskLog.{AskLog}
use Rattle.hp_segs.specs.declared.outcome.Cause.{Cause}
use Rattle.hp_segs.specs.declared.outcome.Cause.TheVariants.{MapFailed}
use Rattle.hp_segs.specs.declared.outcome.Outcome.{Outcome}
use Rattle.hp_segs.specs.declared.outcome.Outcome.TheVariants.{Granted}
use Rattle.hp_log.specs.declared.log_record.LogRecord.TheVariants.{Drop}
use Rattle.hp_core.specs.Core.{is_growth, is_open_for}
use Rattle.hp_core.specs.Following.{noted}
use Rattle.hp_core.specs.declared.following.Failure.{Failure}
use Rattle.hp_core.specs.declared.phase.Round.{Round}

-- the growth that is open for a round has its generation and its ask
pub record IsGrowthOf (round : Round) (open_now : Option Growth) : Type 0 where
  pub growth : Growth
  pub its_growth : open_now ≡ Some growth
  pub generation : growth.generation ≡ round.generation
  pub from : growth.ask.from ≡ round.from
  pub number : growth.ask.number ≡ round.number

pub growth_of : (round : Round) (open_now : Option Growth) → is_open_for round open_now ≡ true → IsGrowthOf round open_now
growth_of round None is_open = cc
growth_of round (Some growth) is_open =
    let all = and_parts (is_growth round.kind) _ is_open in
    let parts = and_parts (growth.generation == round.generation) _ all.1 in
    let ask = and_parts (growth.ask.from == round.from) (growth.ask.number == round.number) parts.1 in
    record {
      growth = growth;
      its_growth = refl;
      generation = eqb-true growth.generation round.generation parts.0;
      from = eqb-true growth.ask.from round.from ask.0;
      number = eqb-true growth.ask.number round.number ask.1;
    }

-- a round that is not of a growth has none
pub none_open : (round : Round) (open_now : Option Growth) → is_growth round.kind ≡ false → is_open_for round open_now ≡ false
none_open round None other = refl
none_open round (Some growth) other = rw other refl

-- a noted failure changes neither which round the open growth is of, nor the log and the roster
pub record IsKept (round : Round) (old new : SegsView) : Type 0 where
  pub is_open : is_open_for round new.growth ≡ is_open_for round old.growth
  pub log : new.log ≡ old.log
  pub roster : new.roster ≡ old.roster
  pub asks : new.asks ≡ old.asks

open_noting : (round : Round) (cause : Cause) (open_now : Option Growth)
    → is_open_for round (noting cause open_now) ≡ is_open_for round open_now
open_noting round cause None = refl
open_noting round cause (Some growth) = refl

kept_by : (round : Round) (cause : Cause) (segs : SegsView) (taken : Bool)
    → IsKept round segs (if taken then record segs { growth = noting cause segs.growth } else segs)
kept_by round cause segs true = record { is_open = open_noting round cause segs.growth; log = refl; roster = refl; asks = refl }
kept_by round cause segs false = record { is_open = refl; log = refl; roster = refl; asks = refl }

pub kept_noted : (round : Round) (participant : ℕ) (segs : SegsView) (failure : Option Failure) → IsKept round segs (noted participant segs failure)
kept_noted round participant segs None = record { is_open = refl; log = refl; roster = refl; asks = refl }
kept_noted round participant segs (Some failure) =
    kept_by round (MapFailed participant failure.call failure.row.addr failure.got) segs
    (is_noted segs participant failure.call failure.row segs.growth)

found_by : {X : Type 0} (passes : Bool) (x : X) (rest : Option X) → ((y : X) × (rest ≡ Some y)) → (y : X) × (cond passes (Some x) rest ≡ Some y)
found_by true x rest found = (x, refl)
found_by false x rest found = found

-- something is found among elements of which the last passes
found_last : {X : Type 0} (p : X → Bool) (xs : List X) (x : X) → p x ≡ true → (y : X) × (find p (xs ++ x ∷ []) ≡ Some y)
found_last p [] x passes = (x, rw passes refl)
found_last p (other ∷ xs) x passes = found_by (p other) other (find p (xs ++ x ∷ [])) (found_last p xs x passes)

-- an ask has an outcome once one other than Stale is logged for it
pub has_outcome : (asks : List AskLog) (entry : AskLog) (from number : ℕ) → is_outcome_for from number entry ≡ true
    → (outcome : Outcome) × (outcome_of (asks ++ entry ∷ []) from number ≡ Some outcome)
has_outcome asks entry from number is =
    let found = found_last (is_outcome_for from number) asks entry is in
    (found.0.outcome, ap (option_map (λ entry. entry.outcome)) found.1)

-- the entry of that ask is its outcome
pub is_its_outcome : (entry : AskLog) (from number : ℕ) → entry.from ≡ from → entry.number ≡ number → is_stale entry.outcome ≡ false
    → is_outcome_for from number entry ≡ true
is_its_outcome entry from number who which fresh =
    and_from (entry.from == from) _ (eq-eqb entry.from from who)
    (and_from (entry.number == number) _ (eq-eqb entry.number number which) (ap not fresh))

granted_asks : (round : Round) (acks : List ℕ) (segs : SegsView) (growth : Growth) → segs.growth ≡ Some growth
    → growth.generation ≡ round.generation → lowest_member_below segs.roster acks round.generation ≡ None
    → after_agree acks segs ≡ after_grant growth segs
granted_asks round acks segs growth open_now generation all =
    ap (agreed_growth acks segs) open_now
    ∙ (ap (λ g. granted_unless growth segs (lowest_member_below segs.roster acks g)) generation ∙ ap (granted_unless growth segs) all)

-- a growth that all have acknowledged is granted
pub grant_of_round : (round : Round) (acks : List ℕ) (segs : SegsView) (of : IsGrowthOf round segs.growth)
    → lowest_member_below segs.roster acks round.generation ≡ None → after_agree acks segs ≡ after_grant of.growth segs
grant_of_round round acks segs of all = granted_asks round acks segs of.growth of.its_growth of.generation all

-- then the round's ask has an outcome
pub grant_has_outcome : (round : Round) (acks : List ℕ) (segs : SegsView) → is_open_for round segs.growth ≡ true
    → lowest_member_below segs.roster acks round.generation ≡ None
    → (outcome : Outcome) × (outcome_of (after_agree acks segs).asks round.from round.number ≡ Some outcome)
grant_has_outcome round acks segs is_open all =
    let of = growth_of round segs.growth is_open in
    let entry : AskLog = record {
      from = of.growth.ask.from;
      number = of.growth.ask.number;
      outcome = Granted of.growth.generation;
      at = length segs.log;
      ask = Some of.growth.ask;
    } in
    let found = has_outcome segs.asks entry round.from round.number (is_its_outcome entry round.from round.number of.from of.number refl) in
    (found.0, ap (λ after. outcome_of after.asks round.from round.number) (grant_of_round round acks segs of all) ∙ found.1)

-- a cancelled growth has a record more
cancel_by : (cause : Cause) (segs : SegsView) (growth : Growth) → segs.growth ≡ Some growth → length segs.log < length (after_cancel cause segs).log
cancel_by cause segs growth open_now =
    let log : (after_cancel cause segs).log ≡ segs.log ++ Drop growth.run ∷ [] =
    ap (λ open_now. (cancelled_growth cause segs open_now).log) open_now in
    omega (arith, ap length log, length-append segs.log (Drop growth.run ∷ []))

pub cancel_appends : (round : Round) (cause : Cause) (segs : SegsView) → is_open_for round segs.growth ≡ true
    → length segs.log < length (after_cancel cause segs).log
cancel_appends round cause segs is_open =
    let of = growth_of round segs.growth is_open in cancel_by cause segs of.growth of.its_growth

-- no number of a range is found where none passes
none_found : (p : ℕ → Bool) (end len a : ℕ) → a + len ≤ end → ((k : ℕ) → k < end → p k ≡ false) → find p (range_with_len a len) ≡ None
none_found p end zero a within fails = refl
none_found p end (suc len) a within fails = rw (fails a (omega arith)) (none_found p end len (a + 1) (omega arith) fails)

below_self : (n : ℕ) → nat_lt n n ≡ false
below_self n = grind (arith, nat_tests)

own_word : (roster : List Bool) (generation k : ℕ) → k < 16 → is_below roster (replicate 16 generation) generation k ≡ false
own_word roster generation k within =
    and_right (is_member roster k) (nat_lt (slice_index (replicate 16 generation) k) generation)
    (ap (λ n. nat_lt n generation) (get_or-replicate 16 k generation 0 within) ∙ below_self generation)

-- no member is below its own generation
pub none_below : (roster : List Bool) (generation : ℕ) → lowest_member_below roster (replicate 16 generation) generation ≡ None
none_below roster generation =
    ap (option_map (λ participant. record { participant = participant; acked = slice_index (replicate 16 generation) participant }))
    (none_found (is_below roster (replicate 16 generation) generation) 16 16 0 (omega arith) (own_word roster generation))

passes_by : {X : Type 0} (p : X → Bool) (passes : Bool) (x y : X) (rest : Option X) → p x ≡ passes → cond passes (Some x) rest ≡ Some y
    → (rest ≡ Some y → p y ≡ true) → p y ≡ true
passes_by p true x y rest is found then_rest = cc
passes_by p false x y rest is found then_rest = then_rest found

-- what is found passes
found_passes : {X : Type 0} (p : X → Bool) (xs : List X) (y : X) → find p xs ≡ Some y → p y ≡ true
found_passes p [] y found = cc
found_passes p (x ∷ xs) y found = passes_by p (p x) x y (find p xs) refl found (found_passes p xs y)

member_by : (roster : List Bool) (acks : List ℕ) (generation : ℕ) (found : Option ℕ) (member : NotAll)
    → find (is_below roster acks generation) (range_with_len 0 16) ≡ found
    → option_map (λ participant. record { participant = participant; acked = slice_index acks participant }) found ≡ Some member
    → is_member roster member.participant ≡ true
member_by roster acks generation None member is found = cc
member_by roster acks generation (Some participant) member is found =
    let passes = found_passes (is_below roster acks generation) (range_with_len 0 16) participant is in
    let who : participant ≡ member.participant = ap (λ found. participant_of found) found in
    ap (is_member roster) (sym who) ∙ (and_parts (is_member roster participant) _ passes).0
  where
    participant_of : Option NotAll → ℕ
    participant_of None = 0
    participant_of (Some one) = one.participant

-- the lowest member below a generation is in the roster
pub found_member : (roster : List Bool) (acks : List ℕ) (generation : ℕ) (member : NotAll)
    → lowest_member_below roster acks generation ≡ Some member → is_member roster member.participant ≡ true
found_member roster acks generation member found =
    member_by roster acks generation (find (is_below roster acks generation) (range_with_len 0 16)) member refl found
