-- Participants that serve in one thread: their ties over the course of the hall, and what serving one after another leaves.
use Rattle.std.proofs.Common.{◌≡◌, ◌≢◌, ℕ, ◌<◌, Bool, true, false, List, [], ◌++◌, length, set, Option, Some, None, refl, sym, ap, subst, ◌∙◌, ⊎_elim, arith}
use Rattle.std.specs.List.{slice_get}
use Rattle.std.specs.Option.{option_map}
use Rattle.std.proofs.lemmas.Bool.{cases_eq}
use Rattle.std.proofs.lemmas.Option.{slice_get_within}
use Rattle.hp_plain.proofs.Slotted.{slice_get-set_other, slice_get-set_same}
use Rattle.hp_plain.specs.Course.{IsCourse, course_same, course_seen, course_then, done_same, done_then}
use Rattle.hp_plain.specs.HallView.{HallView, HasDone, SlotView, IsHome, joined_in, own_at, part_in, seen_in, taken_from}
use Rattle.hp_hall.specs.Holding.{HeapPart}
use Rattle.hp_hall.specs.Mail.{MailStep}
use Rattle.hp_serve.specs.Denials.{Denials}
use Rattle.hp_serve.specs.Coordinating.{IsServed}
use Rattle.hp_serve.specs.Party.{Party}
use Rattle.hp_serve.proofs.MemberLemmas.{at_each}
use Rattle.hp_serve.proofs.Handed.{tied_still}
use Rattle.hp_solo.specs.Served.{HasServed, HasServedAs, HasServedAt}
use Rattle.hp_solo.specs.Served.ServesOn.{serves}
use Rattle.hp_solo.specs.Solo.{AreLater, AreTied, IsLaterAt, IsLaterParty, IsPartyServed, IsServedAs, IsServing, IsTiedAt, IsTiedFor, IsTiedIn, AloneView, denials_in, marked_at, party_at, party_in, server_at}
use Rattle.hp_solo.specs.SoloCourse.{same_then, server_stays}

-- who is tied stays so along the course of the hall where its own part stays, its marks, and whether it is in the roster
pub tied_marked : (old new : HallView) (who : ℕ) (party : Party) → IsCourse old new → own_at new who ≡ own_at old who
    → joined_in new who ≡ joined_in old who → ((heap : ℕ) → marked_at new who heap ≡ marked_at old who heap) → IsTiedAt old who party
    → IsTiedAt new who party
tied_marked old new who party course own joined marks at =
    let seen = course_seen old new course in
    record {
      number = at.number;
      tied = record {
        table = tied_still (seen_in old) (seen_in new) seen.0 (own_at old who) (own_at new who) (marked_at old who) (marked_at new who) party.joined
            party.maps seen.1 own marks at.tied.table;
        same = joined ∙ at.tied.same;
        left = λ out heap. marks heap ∙ at.tied.left out heap;
      };
    }

-- as it does where its parts in heaps stay
pub tied_on : (old new : HallView) (who : ℕ) (party : Party) → IsCourse old new → own_at new who ≡ own_at old who
    → joined_in new who ≡ joined_in old who → ((heap : ℕ) → part_in new who heap ≡ part_in old who heap) → IsTiedAt old who party
    → IsTiedAt new who party
tied_on old new who party course own joined part at =
    tied_marked old new who party course own joined (λ heap. ap (λ (p : HeapPart). p.marked) (part heap)) at

-- what is there was not taken
pub free_home : (slot : Option SlotView) → IsHome slot → taken_from slot ≡ None
free_home None home = absurd home
free_home (Some slot) home = ap (option_map (λ holder. slot.kept)) home

-- serving: from a state to itself, on from state to state, and for fewer that are apart
pub serving_same : (apart : ℕ → Type 0) (hall : HallView) → IsServing apart hall hall
serving_same apart hall = record {
  course = course_same hall;
  taken = λ number. refl;
  home = λ number home. home;
  part = λ who heap. refl;
  joined = λ who. refl;
  lines = λ who. refl;
  own = λ who is. refl;
  did = λ who is. done_same hall who;
  clock = refl;
}

pub serving_then : (apart : ℕ → Type 0) (a b c : HallView) → IsServing apart a b → IsServing apart b c → IsServing apart a c
serving_then apart a b c here next = record {
  course = course_then a b c here.course next.course;
  taken = λ number. next.taken number ∙ here.taken number;
  home = λ number home. next.home number (here.home number home);
  part = λ who heap. next.part who heap ∙ here.part who heap;
  joined = λ who. next.joined who ∙ here.joined who;
  lines = λ who. next.lines who ∙ here.lines who;
  own = λ who is. next.own who is ∙ here.own who is;
  did = λ who is. done_then a b c who [] [] (here.did who is) (next.did who is);
  clock = next.clock ∙ here.clock;
}

pub serving_narrow : (apart fewer : ℕ → Type 0) (old new : HallView) → ((who : ℕ) → fewer who → apart who) → IsServing apart old new
    → IsServing fewer old new
serving_narrow apart fewer old new narrow is = record {
  course = is.course;
  taken = is.taken;
  home = is.home;
  part = is.part;
  joined = is.joined;
  lines = is.lines;
  own = λ who few. is.own who (narrow who few);
  did = λ who few. is.did who (narrow who few);
  clock = is.clock;
}

-- one participant that serves: nothing yet, and on from serving to serving
pub party_served_same : (hall : HallView) (party : Party) → IsTiedFor hall party.me party
    → IsPartyServed hall hall party party
party_served_same hall party tied = record {
  serving = serving_same (λ who. who ≢ party.me) hall;
  same = record { me = refl; socket = refl; plan = refl; deadline = refl };
  tied = tied;
}

pub served_nothing : (hall : HallView) (party : Option Party) → IsTiedIn hall party → IsServedAs hall hall party party
served_nothing hall None tied = refl
served_nothing hall (Some party) tied = party_served_same hall party tied.1

pub party_served_then : (a b c : HallView) (first second third : Party) → IsPartyServed a b first second → IsPartyServed b c second third
    → IsPartyServed a c first third
party_served_then a b c first second third here next = record {
  serving = serving_then (λ who. who ≢ first.me) a b c here.serving
      (serving_narrow (λ who. who ≢ second.me) (λ who. who ≢ first.me) b c (λ who apart same. apart (same ∙ here.same.me)) next.serving);
  same = same_then first second third here.same next.same;
  tied = subst (λ (me : ℕ). IsTiedFor c me third) here.same.me next.tied;
}

-- one serving more
pub served_more_by : {denies : Denials} → (a b c : HallView) (party mid after : Party) (moved : Bool) (answer : Option Bool)
    → answer ≡ Some moved
    → IsPartyServed a b party mid → HasServed denies (length a.owns) party.me a b party mid
    → (steps : List MailStep) × HasDone b c mid.me steps × IsServed denies (length b.owns) mid after steps answer
    → HasServed denies (length a.owns) party.me a c party after
served_more_by {denies} a b c party mid after moved answer is so_far was one = record {
  steps = was.steps ++ one.0;
  did = done_then a b c party.me was.steps one.0 was.did (subst (λ (who : ℕ). HasDone b c who one.0) so_far.same.me one.1);
  serves = serves party mid after was.steps one.0 moved was.serves
      (subst (λ (o : Option Bool). IsServed denies (length a.owns) mid after one.0 o) is
      (subst (λ (n : ℕ). IsServed denies n mid after one.0 answer) so_far.serving.course.count one.2));
}

-- one that served by its own number did so at its place
served_at : (denies : Denials) (old new : HallView) (number : ℕ) (party after : Option Party)
    → ((there : Party) → party ≡ Some there → there.me ≡ number)
    → HasServedAs denies old new party after → HasServedAt denies old new number party after
served_at denies old new number None after numbered served = tt
served_at denies old new number (Some party) None numbered served = absurd served
served_at denies old new number (Some party) (Some after) numbered served =
    subst (λ (who : ℕ). HasServed denies (length old.owns) who old new party after) (numbered party refl) served

-- the participant of a number has served
pub record IsServedOne (old new : HallView) (servers : List AloneView) (number : ℕ) (after : AloneView) : Type 0 where
  pub serving : IsServing (λ who. who ≢ number) old new
  pub tied : AreTied new (set servers number after)
  pub later : AreLater (record { plain = old; servers = servers }) (record { plain = new; servers = set servers number after })

served_apart : (old new : HallView) (number : ℕ) (party after : Option Party)
    → ((there : Party) → party ≡ Some there → there.me ≡ number) → IsServedAs old new party after → IsServing (λ who. who ≢ number) old new
served_apart old new number None None numbered served =
    subst (λ (hall : HallView). IsServing (λ who. who ≢ number) old hall) (sym served) (serving_same (λ who. who ≢ number) old)
served_apart old new number None (Some after) numbered served = absurd served
served_apart old new number (Some party) None numbered served = absurd served
served_apart old new number (Some party) (Some after) numbered served =
    serving_narrow (λ who. who ≢ party.me) (λ who. who ≢ number) old new (λ who apart same. apart (same ∙ numbered party refl)) served.serving

tied_here : (old new : HallView) (number : ℕ) (party now : Party) → party.me ≡ number → IsPartyServed old new party now → IsTiedAt new number now
tied_here old new number party now me served = record {
  number = served.same.me ∙ me;
  tied = subst (λ (who : ℕ). IsTiedFor new who now) me served.tied;
}

tied_now : (old new : HallView) (number : ℕ) (now : Party) (party : Option Party) → ((there : Party) → party ≡ Some there → there.me ≡ number)
    → IsServedAs old new party (Some now) → IsTiedAt new number now
tied_now old new number now None numbered served = absurd served
tied_now old new number now (Some party) numbered served = tied_here old new number party now (numbered party refl) served

served_tied : (old new : HallView) (number : ℕ) (party after : Option Party) (now : Party)
    → ((there : Party) → party ≡ Some there → there.me ≡ number) → IsServedAs old new party after → after ≡ Some now → IsTiedAt new number now
served_tied old new number party after now numbered served is =
    tied_now old new number now party numbered (subst (λ (o : Option Party). IsServedAs old new party o) is served)

pub served_later : (old new : HallView) (party after : Option Party) → IsServedAs old new party after → IsLaterParty party after
served_later old new None None served = tt
served_later old new None (Some after) served = absurd served
served_later old new (Some party) None served = absurd served
served_later old new (Some party) (Some after) served = served.same

module _ (old new : HallView) (servers : List AloneView) (number : ℕ) (server after : AloneView) (there : slice_get servers number ≡ Some server)
    (tied : AreTied old servers) (served : IsServedAs old new server.party after.party) (limits : after.validators ≡ server.validators) (stops : server.stopped ≡ true → after.stopped ≡ true)
    (going : after.stopped ≡ false → HasServedAs (denials_in (Some server)) old new server.party after.party) where
  here : slice_get (set servers number after) number ≡ Some after
  here = slice_get-set_same servers number after (slice_get_within servers number server there)

  numbered : (party : Party) → server.party ≡ Some party → party.me ≡ number
  numbered party is = (tied number party (ap party_in there ∙ is)).number

  apart_from : IsServing (λ who. who ≢ number) old new
  apart_from = served_apart old new number server.party after.party numbered served

  tied_one : AreTied new (set servers number after)
  tied_one who party is =
      ⊎_elim
      (λ (same : who ≡ number).
      subst (λ (n : ℕ). IsTiedAt new n party) (sym same)
      (served_tied old new number server.party after.party party numbered served (sym (ap party_in here) ∙ ap (party_at (set servers number after)) (sym same) ∙ is)))
      (λ (apart : who ≢ number).
      tied_on old new who party apart_from.course (apart_from.own who apart) (apart_from.joined who) (apart_from.part who)
      (tied who party (sym (ap party_in (slice_get-set_other servers number who after apart)) ∙ is)))
      (cases_eq who number)

  later_here : IsLaterAt old new number (server_at servers number) (server_at (set servers number after) number)
  later_here =
      subst (λ (o : Option AloneView). IsLaterAt old new number o (server_at (set servers number after) number)) (sym there)
      (subst (λ (o : Option AloneView). IsLaterAt old new number (Some server) o) (sym here) (record {
        party = served_later old new server.party after.party served;
        validators = limits;
        stopped = stops;
        served = λ goes. served_at (denials_in (Some server)) old new number server.party after.party numbered (going goes);
      }))

  later_one : AreLater (record { plain = old; servers = servers }) (record { plain = new; servers = set servers number after })
  later_one =
      at_each (λ who. IsLaterAt old new who (server_at servers who) (server_at (set servers number after) who)) number later_here
      (λ who apart.
      subst (λ (o : Option AloneView). IsLaterAt old new who (server_at servers who) o) (sym (slice_get-set_other servers number who after apart))
      (server_stays old new who (server_at servers who) (λ some. apart_from.did who apart)))

  pub served_one : IsServedOne old new servers number after
  served_one = record { serving = apart_from; tied = tied_one; later = later_one }

-- who is there may serve
tied_some : (hall : HallView) (servers : List AloneView) (number : ℕ) (party : Option Party) → party_at servers number ≡ party
    → number < length hall.owns → AreTied hall servers → IsTiedIn hall party
tied_some hall servers number None is below tied = tt
tied_some hall servers number (Some party) is below tied =
    let at = tied number party is in
    (omega (arith, at.number, below), subst (λ (who : ℕ). IsTiedFor hall who party) (sym at.number) at.tied)

pub tied_in : (hall : HallView) (servers : List AloneView) (number : ℕ) (server : AloneView) → slice_get servers number ≡ Some server
    → number < length hall.owns → AreTied hall servers → IsTiedIn hall server.party
tied_in hall servers number server there below tied = tied_some hall servers number server.party (ap party_in there) below tied
