-- What one serving makes of a turn: while participant 0 serves, which comes first, and while the others do, one after another.
use Rattle.std.proofs.Common.{◌≡◌, ◌≢◌, ◌∙◌, ◌+◌, ◌<◌, ◌≤◌, ℕ, zero, suc, Bool, true, false, List, [], Option, Some, inl, inr, refl, sym, ap, subst, arith}
use Rattle.std.specs.Prelude.{slice_get, slice_set}
use Rattle.std.specs.List.{list_any}
use Rattle.std.proofs.lemmas.Bool.{cases_eq}
use Rattle.hp_core.specs.Core.{Core}
use Rattle.hp_core.specs.declared.asked.Asked.{Asked}
use Rattle.hp_core.specs.declared.phase.Phase.TheVariants.{Idle, Waiting}
use Rattle.hp_frame.specs.declared.message.Body.{Body}
use Rattle.hp_plain.specs.Boxes.{box_of}
use Rattle.hp_serve.specs.Denials.{Denials}
use Rattle.hp_serve.specs.Coordinating.{IsToComeAt, core_holds}
use Rattle.hp_serve.specs.Falling.{if_moved}
use Rattle.hp_serve.specs.Party.{Party, due_in}
use Rattle.hp_serve.specs.Waiting.{most_servings}
use Rattle.thm_causes.specs.RoundTrip.{AreOthersEmpty, IsBase, Setting, AskPhase, RunState, is_sync, mail_of}
use Rattle.thm_causes.specs.Servings.{CoreServes, MemberServes}
use Rattle.thm_causes.specs.Shared.{Shared}
use Rattle.thm_causes.specs.Stages.{ComesTo, IsSent, world_with}
use Rattle.thm_causes.specs.Waits.{AreServingsKnown, core_in, is_last, measure_in}
use Rattle.thm_causes.specs.Measuring.{measure_of}
use Rattle.thm_causes.proofs.Said.{set_found, set_unfound}
use Rattle.thm_causes.proofs.TurnSteps.TurnsMembers.{IsDoneWith, box_empty, done_with, first_stays, member_boxes, member_clock, member_rests, never_waits, one_phase, open_closed}
use Rattle.thm_causes.proofs.IdleServings.{member_idle}

-- while participant 0 serves
pub record LeadsAt (set : Setting) (call : Asked) (sent : ℕ) (world : RunState) : Type 0 where
  pub base : IsBase set world
  pub stage : AskPhase set call sent true world
  pub light : measure_in world < most_servings

-- nothing is left for participant 0: it holds no ask that it can start, and the deadline of no round has passed
pub record IsCoreAtRest (clock : ℕ) (core : Option Core) : Type 0 where
  pub holds : core_holds core ≡ false
  pub to_come : IsToComeAt clock (due_in core)

-- after participant 0's visit, once those below a number have been visited: their mailboxes are empty, and where the ask is over nothing
-- came to participant 0 since
pub record FollowsAt (set : Setting) (call : Asked) (sent visited : ℕ) (world : RunState) : Type 0 where
  pub base : IsBase set world
  pub stage : AskPhase set call sent false world
  pub light : measure_in world < most_servings
  pub rested : (primary : Party) → slice_get world.parties 0 ≡ Some primary → IsCoreAtRest world.shared.clock primary.core
  pub last : is_last stage ≡ true → box_of world.shared.boxes 0 ≡ []
  pub emptied : (who : ℕ) → who ≢ 0 → who < visited → box_of world.shared.boxes who ≡ []

-- while the participant of that number is visited
abbrev pub IsDuring : Setting → Asked → ℕ → ℕ → RunState → Type 0
IsDuring set call sent zero world = LeadsAt set call sent world
IsDuring set call sent (suc who) world = FollowsAt set call sent (suc who) world

-- who is visited after a serving: where that did nothing, the next one
abbrev pub next_behind : ℕ → Bool → ℕ
next_behind who true = who
next_behind who false = suc who

-- what a serving leads to, where that holds while each is visited
pub record ServedTo (During : ℕ → RunState → Type 0) (who : ℕ) (moved : Bool) (world : RunState) (at : Shared) (after : Party) : Type 0 where
  pub mail : List (List Body)
  pub during : During (next_behind who moved) (world_with at mail who after world)
  pub lighter : measure_in (world_with at mail who after world) + if_moved moved ≤ measure_in world
  pub rests : moved ≡ false → (at ≡ world.shared) × (box_of at.boxes who ≡ [])

-- PARTICIPANT 0

pub record IsCoreRest (old new : Shared) (party after : Party) : Type 0 where
  pub empty : box_of old.boxes party.me ≡ []
  pub at_rest : IsCoreAtRest old.clock party.core
  pub same : new ≡ old
  pub stays : after ≡ party

core_rests : {denies : Denials} (count : ℕ) (old new : Shared) (party after : Party) → CoreServes denies count old new party after false
    → IsCoreRest old new party after
core_rests count old new party after (CoreServes.rests none holds to_come new_is after_is) =
    record { empty = none; at_rest = record { holds = holds; to_come = to_come }; same = new_is; stays = after_is }

-- others have no turn before it
to_follow : (set : Setting) (call : Asked) (sent : ℕ) (world : RunState) → AskPhase set call sent true world → AskPhase set call sent false world
to_follow set call sent world (AskPhase.fresh clock unanswered coordinator alone to_do copies some empty doubled level) =
    AskPhase.fresh clock unanswered coordinator alone to_do copies some empty doubled level
to_follow set call sent world (AskPhase.lost clock unanswered coordinator alone to_do none empty doubled back loses) =
    AskPhase.lost clock unanswered coordinator alone to_do none empty doubled back loses
to_follow set call sent world
    (AskPhase.growing round holds kind from number unanswered coordinator its to_do clock bodies doubled follow awaited level) =
    AskPhase.growing round holds kind from number unanswered coordinator its to_do clock bodies doubled follow (λ leads. cc) level
to_follow set call sent world
    (AskPhase.settling round since holds kind from number unanswered coordinator alone closed early clock logged bodies doubled waits
    answered level) =
    AskPhase.settling round since holds kind from number unanswered coordinator alone closed early clock logged bodies doubled (λ leads. cc)
    answered level
to_follow set call sent world (AskPhase.over holds coordinator alone closed bodies doubled told answered level) =
    AskPhase.over holds coordinator alone closed bodies doubled told answered level

module _ (known : AreServingsKnown) (set : Setting) (call : Asked) (sent : ℕ) (is_sent : IsSent set call sent) (world : RunState) (at : Shared)
    (party after : Party) where
  -- the measure of what participant 0 has, after its own serving
  own_weighs : (mail : List (List Body)) → slice_get world.parties 0 ≡ Some party
      → measure_in (world_with at mail 0 after world) ≡ measure_of at after.core
  own_weighs mail there = ap (λ (found : Option Party). measure_of at (core_in found)) (set_found world.parties 0 party after there)

  its_measure : slice_get world.parties 0 ≡ Some party → measure_in world ≡ measure_of world.shared party.core
  its_measure there = ap (λ (found : Option Party). measure_of world.shared (core_in found)) there

  primary_moves : (denies : Denials) → LeadsAt set call sent world → slice_get world.parties 0 ≡ Some party
      → CoreServes denies set.count world.shared at party after true
      → ServedTo (IsDuring set call sent) 0 true world at after
  primary_moves denies leads there serves =
      let comes = known.primary denies set call sent world at party after true is_sent leads.base leads.stage there serves in
      let lighter = known.core_lighter denies set.count world.shared at party after true (leads.base.places 0 party there).me serves in
      let less : measure_in (world_with at comes.mail 0 after world) + 1 ≤ measure_in world =
      omega (arith, lighter, own_weighs comes.mail there, its_measure there) in
      record {
        mail = comes.mail;
        during = record { base = comes.base; stage = comes.stage; light = omega (arith, less, leads.light) };
        lighter = less;
        rests = λ still. cc;
      }

  -- after its last serving
  rest_there : (mail : List (List Body)) → slice_get world.parties 0 ≡ Some party → IsCoreRest world.shared at party after → (primary : Party)
      → slice_get (slice_set world.parties 0 after) 0 ≡ Some primary → IsCoreAtRest at.clock primary.core
  rest_there mail there rest primary found =
      let one : Some after ≡ Some primary = sym (set_found world.parties 0 party after there) ∙ found in
      let found_is : after ≡ primary = cc in
      let its : primary ≡ party = sym found_is ∙ rest.stays in
      subst (λ (clock : ℕ). IsCoreAtRest clock primary.core) (sym (ap (λ (at : Shared). at.clock) rest.same))
      (subst (λ (party : Party). IsCoreAtRest world.shared.clock party.core) (sym its) rest.at_rest)

  primary_rests : (denies : Denials) → LeadsAt set call sent world → slice_get world.parties 0 ≡ Some party
      → CoreServes denies set.count world.shared at party after false
      → ServedTo (IsDuring set call sent) 0 false world at after
  primary_rests denies leads there serves =
      let comes = known.primary denies set call sent world at party after false is_sent leads.base leads.stage there serves in
      let me : party.me ≡ 0 = (leads.base.places 0 party there).me in
      let lighter = known.core_lighter denies set.count world.shared at party after false me serves in
      let less : measure_in (world_with at comes.mail 0 after world) + 0 ≤ measure_in world =
      omega (arith, lighter, own_weighs comes.mail there, its_measure there) in
      let rest = core_rests set.count world.shared at party after serves in
      let none : box_of at.boxes 0 ≡ [] =
      ap (λ (at : Shared). box_of at.boxes 0) rest.same ∙ ap (box_of world.shared.boxes) (sym me) ∙ rest.empty in
      record {
        mail = comes.mail;
        during = record {
          base = comes.base;
          stage = to_follow set call sent (world_with at comes.mail 0 after world) comes.stage;
          light = omega (arith, less, leads.light);
          rested = rest_there comes.mail there rest;
          last = λ last. none;
          emptied = λ who beside below. absurd (beside (omega arith));
        };
        lighter = less;
        rests = λ still. (rest.same, none);
      }

-- OTHERS

-- where the ask is over after a serving of another, it was over before
module _ (set : Setting) (call : Asked) (sent who : ℕ) (world other : RunState) (at : Shared) (party after : Party) (moved : Bool)
    (base : IsBase set world) (beside : who ≢ 0) (me : party.me ≡ who) (serves : MemberServes world.shared at party after moved)
    (shared : other.shared ≡ at) (same : slice_get other.parties 0 ≡ slice_get world.parties 0) where
  -- where its mailbox was empty nothing was closed
  still_open : AreOthersEmpty world → other.shared ≡ world.shared
  still_open empty =
      shared
      ∙ (member_idle world.shared at party after moved serves
      (ap (box_of world.shared.boxes) me ∙ box_empty set world who base (empty who beside))).same

  was_last : (stage : AskPhase set call sent false world) → IsDoneWith set call other
      → (is_last stage ≡ true) × (list_any is_sync (mail_of world who) ≡ false)
  was_last (AskPhase.fresh clock unanswered coordinator alone to_do copies some empty doubled level) done =
      absurd (open_closed call world other (still_open empty) to_do done.closed)
  was_last (AskPhase.lost clock unanswered coordinator alone to_do none empty doubled back loses) done =
      absurd (open_closed call world other (still_open empty) to_do done.closed)
  was_last (AskPhase.growing round holds kind from number unanswered coordinator its to_do clock bodies doubled follow awaited level) done =
      absurd (never_waits round sent
      (one_phase set call world other (Waiting round sent) Idle holds done.holds coordinator done.coordinator same))
  was_last
      (AskPhase.settling round since holds kind from number unanswered coordinator alone closed early clock logged bodies doubled waits
      answered level)
      done =
      absurd (never_waits round since
      (one_phase set call world other (Waiting round since) Idle holds done.holds coordinator done.coordinator same))
  was_last (AskPhase.over holds coordinator alone closed bodies doubled told answered level) done = (refl, told who)

module _ (known : AreServingsKnown) (set : Setting) (call : Asked) (sent : ℕ) (is_sent : IsSent set call sent) (who : ℕ) (world : RunState)
    (at : Shared) (party after : Party) (moved : Bool) (follows : FollowsAt set call sent who world) (beside : who ≢ 0)
    (there : slice_get world.parties who ≡ Some party) (serves : MemberServes world.shared at party after moved) where
  me : party.me ≡ who
  me = (follows.base.places who party there).me

  comes : ComesTo set call sent false world who at after
  comes = known.member set call sent world who at party after moved is_sent follows.base follows.stage beside there serves

  abbrev behind : RunState
  behind = world_with at comes.mail who after world

  first_same : slice_get behind.parties 0 ≡ slice_get world.parties 0
  first_same = set_unfound world.parties who 0 after (λ (same : 0 ≡ who). beside (sym same))

  member_lighter : measure_in behind + if_moved moved ≤ measure_in world
  member_lighter =
      let less = known.member_lighter world.shared at party after moved (core_in (slice_get world.parties 0)) serves in
      let same : measure_in behind ≡ measure_of at (core_in (slice_get world.parties 0)) =
      ap (λ (found : Option Party). measure_of at (core_in found)) first_same in
      omega (arith, less, same)

  -- nothing came to participant 0 where the ask is over
  last_behind : is_last comes.stage ≡ true → box_of at.boxes 0 ≡ []
  last_behind last =
      let done = done_with set call sent false _ comes.stage last in
      let was = was_last set call sent who world (world_with at comes.mail who after world) at party after moved follows.base beside me serves
      refl (set_unfound world.parties who 0 after (λ (same : 0 ≡ who). beside (sym same))) follows.stage done in
      first_stays set world who at party after moved follows.base me beside serves was.1 ∙ follows.last was.0

  emptied_behind : (other : ℕ) → other ≢ 0 → other < who → box_of at.boxes other ≡ []
  emptied_behind other some below =
      member_boxes world.shared at party after moved serves other (λ (same : other ≡ party.me). omega (arith, same, me, below)) some
      ∙ follows.emptied other some below

  clock_same : at.clock ≡ world.shared.clock
  clock_same = member_clock world.shared at party after moved serves

  follows_on : (visited : ℕ) → ((other : ℕ) → other ≢ 0 → other < visited → box_of at.boxes other ≡ [])
      → FollowsAt set call sent visited (world_with at comes.mail who after world)
  follows_on visited emptied = record {
    base = comes.base;
    stage = comes.stage;
    light = omega (arith, member_lighter, follows.light);
    rested = λ primary found. subst (λ (clock : ℕ). IsCoreAtRest clock primary.core) (sym clock_same)
        (follows.rested primary (sym (set_unfound world.parties who 0 after (λ (same : 0 ≡ who). beside (sym same))) ∙ found));
    last = last_behind;
    emptied = emptied;
  }

-- one serves, whoever it is
module _ (known : AreServingsKnown) (set : Setting) (call : Asked) (sent : ℕ) (is_sent : IsSent set call sent) (world : RunState) (at : Shared)
    (party after : Party) where
  pub serve_to : (denies : Denials) (who : ℕ) (moved : Bool) → IsDuring set call sent who world → slice_get world.parties who ≡ Some party
      → (who ≡ 0 → CoreServes denies set.count world.shared at party after moved)
      → (who ≢ 0 → MemberServes world.shared at party after moved)
      → ServedTo (IsDuring set call sent) who moved world at after
  serve_to denies zero true leads there primary member =
      primary_moves known set call sent is_sent world at party after denies leads there (primary refl)
  serve_to denies zero false leads there primary member =
      primary_rests known set call sent is_sent world at party after denies leads there (primary refl)
  serve_to denies (suc who) true follows there primary member =
      let beside : suc who ≢ 0 = λ (same : suc who ≡ 0). omega arith in
      let serves = member beside in
      record {
        mail = (comes known set call sent is_sent (suc who) world at party after true follows beside there serves).mail;
        during = follows_on known set call sent is_sent (suc who) world at party after true follows beside there serves (suc who)
            (emptied_behind known set call sent is_sent (suc who) world at party after true follows beside there serves);
        lighter = member_lighter known set call sent is_sent (suc who) world at party after true follows beside there serves;
        rests = λ still. cc;
      }
  serve_to denies (suc who) false follows there primary member =
      let beside : suc who ≢ 0 = λ (same : suc who ≡ 0). omega arith in
      let serves = member beside in
      let rest = member_rests world.shared at party after serves in
      let none : box_of at.boxes (suc who) ≡ [] =
      ap (λ (at : Shared). box_of at.boxes (suc who)) rest.same
      ∙ ap (box_of world.shared.boxes) (sym (follows.base.places (suc who) party there).me) ∙ rest.empty in
      record {
        mail = (comes known set call sent is_sent (suc who) world at party after false follows beside there serves).mail;
        during = follows_on known set call sent is_sent (suc who) world at party after false follows beside there serves (suc (suc who))
            (λ other some below. elim (cases_eq other (suc who)) [
              | inl same ↦ ap (box_of at.boxes) same ∙ none
              | inr apart ↦ emptied_behind known set call sent is_sent (suc who) world at party after false follows beside there serves other some
                  (omega (arith, apart, below))
            ]);
        lighter = member_lighter known set call sent is_sent (suc who) world at party after false follows beside there serves;
        rests = λ still. (rest.same, none);
      }
