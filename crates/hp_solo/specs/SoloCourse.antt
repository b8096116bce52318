-- The course of a hall of one thread: what later states keep of earlier ones, in which order all was done, and that this joins: the rule
-- "Turns in one thread" of docs/RUNS.md.
use Rattle.std.specs.Prelude.{◌≡◌, ℕ, zero, suc, Bool, true, false, List, [], ◌∷◌, ◌++◌, length, Option, Some, None, IsSome, refl, ⊤}
use Rattle.std.proofs.Common.{◌∙◌, sym, subst}
use Rattle.std.proofs.lemmas.Bool.{or_from, or_parts}
use Rattle.std.proofs.lemmas.List.{append-nil, append_assoc}
use Rattle.hp_plain.specs.Course.{IsCourse, course_same, course_then, done_same, done_then}
use Rattle.hp_plain.specs.HallView.{HallView, HasDone}
use Rattle.hp_hall.specs.Mail.{MailStep, Notes}
use Rattle.hp_hall.specs.declared.note.Note.TheVariants.{Paused}
use Rattle.hp_events.specs.declared.validator.Validator.{Validator}
use Rattle.hp_serve.specs.Denials.{Denials, denials_by}
use Rattle.hp_serve.specs.Party.{IsSameParty, Party}
use Rattle.hp_solo.specs.Sequence.{IsAloneAway, IsInSequence, Sequence}
use Rattle.hp_solo.specs.Served.{HasServed, HasServedAt, ServesOn}
use Rattle.hp_solo.specs.Served.ServesOn.{pauses, rests, serves}
use Rattle.hp_solo.specs.Solo.{AreLater, IsAway, IsLaterAt, IsLaterParty, AloneView, SoloView, denials_in, has_stopped, party_in, server_at}

-- from one state to a later one: the plain values keep their course, each that serves goes on from itself; and where one alone is away,
-- what it did and what the others did meanwhile stands in a sequence of its calls
pub record IsSoloCourse (old new : SoloView) : Type 0 where
  pub plain : IsCourse old.plain new.plain
  pub servers : AreLater old new
  pub sequence : IsInSequence old new

-- servings join
pub servings_join : {denies : Denials} → (count : ℕ) (first last : List MailStep) (party mid after : Party)
    → ServesOn denies count party mid first → ServesOn denies count mid after last → ServesOn denies count party after (first ++ last)
servings_join {denies} count first _ party mid _ before (rests _) =
    subst (λ (steps : List MailStep). ServesOn denies count party mid steps) (sym (append-nil first)) before
servings_join {denies} count first _ party mid _ before (serves _ between after front rear moved here one) =
    subst (λ (steps : List MailStep). ServesOn denies count party after steps) (append_assoc first front rear)
    (serves party between after (first ++ front) rear moved (servings_join count first front party mid between before here) one)
servings_join {denies} count first _ party mid _ before (pauses _ after front here) =
    subst (λ (steps : List MailStep). ServesOn denies count party after steps) (append_assoc first front (Notes (Paused false None) ∷ []))
    (pauses party after (first ++ front) (servings_join count first front party mid after before here))

pub served_then : {denies : Denials} → (count who : ℕ) (a b c : HallView) (party mid after : Party)
    → HasServed denies count who a b party mid → HasServed denies count who b c mid after → HasServed denies count who a c party after
served_then count who a b c party mid after here next = record {
  steps = here.steps ++ next.steps;
  did = done_then a b c who here.steps next.steps here.did next.did;
  serves = servings_join count here.steps next.steps party mid after here.serves next.serves;
}

-- one that is there and does nothing serves no more
served_none : (denies : Denials) (old new : HallView) (who : ℕ) (party : Option Party) → (IsSome party → HasDone old new who [])
    → HasServedAt denies old new who party party
served_none denies old new who None nothing = tt
served_none denies old new who (Some party) nothing = record { steps = []; did = nothing refl; serves = rests party }

served_on : (denies : Denials) (a b c : HallView) (who : ℕ) → length b.owns ≡ length a.owns → (party mid after : Option Party)
    → HasServedAt denies a b who party mid → HasServedAt denies b c who mid after → HasServedAt denies a c who party after
served_on denies a b c who count None mid after here next = tt
served_on denies a b c who count (Some party) None after here next = absurd here
served_on denies a b c who count (Some party) (Some mid) None here next = absurd next
served_on denies a b c who count (Some party) (Some mid) (Some after) here next =
    served_then (length a.owns) who a b c party mid after here (subst (λ (n : ℕ). HasServed denies n who b c mid after) count next)

pub party_same : (party : Option Party) → IsLaterParty party party
party_same None = tt
party_same (Some party) = record { me = refl; socket = refl; plan = refl; deadline = refl }

-- a place stays where one that is there does nothing
pub server_stays : (old new : HallView) (who : ℕ) (server : Option AloneView) → (IsSome (party_in server) → HasDone old new who [])
    → IsLaterAt old new who server server
server_stays old new who None nothing = tt
server_stays old new who (Some server) nothing = record {
  party = party_same server.party;
  validators = refl;
  stopped = λ is. is;
  served = λ going. served_none (denials_in (Some server)) old new who server.party nothing;
}

pub same_then : (a b c : Party) → IsSameParty a b → IsSameParty b c → IsSameParty a c
same_then a b c here next = record {
  me = next.me ∙ here.me;
  socket = next.socket ∙ here.socket;
  plan = next.plan ∙ here.plan;
  deadline = next.deadline ∙ here.deadline;
}

party_then : (a b c : Option Party) → IsLaterParty a b → IsLaterParty b c → IsLaterParty a c
party_then None None None here next = tt
party_then None None (Some c) here next = absurd next
party_then None (Some b) c here next = absurd here
party_then (Some a) None c here next = absurd here
party_then (Some a) (Some b) None here next = absurd next
party_then (Some a) (Some b) (Some c) here next = same_then a b c here next

-- one that has not stopped later on had not before
pub not_before : (old new : Bool) → (old ≡ true → new ≡ true) → new ≡ false → old ≡ false
not_before false new later going = refl
not_before true new later going = let is : new ≡ true = later refl in cc

server_then : (a b c : HallView) (who : ℕ) → length b.owns ≡ length a.owns → (first second third : Option AloneView)
    → IsLaterAt a b who first second → IsLaterAt b c who second third → IsLaterAt a c who first third
server_then a b c who count None None None here next = tt
server_then a b c who count None None (Some third) here next = absurd next
server_then a b c who count None (Some second) third here next = absurd here
server_then a b c who count (Some first) None third here next = absurd here
server_then a b c who count (Some first) (Some second) None here next = absurd next
server_then a b c who count (Some first) (Some second) (Some third) here next = record {
  party = party_then first.party second.party third.party here.party next.party;
  validators = next.validators ∙ here.validators;
  stopped = λ is. next.stopped (here.stopped is);
  served = λ going.
      served_on (denials_in (Some first)) a b c who count first.party second.party third.party
      (here.served (not_before second.stopped third.stopped next.stopped going))
      (subst (λ (validators : List (Validator Bool)). HasServedAt (denials_by validators) b c who second.party third.party) here.validators
      (next.served going));
}

pub later_then : (a b c : SoloView) → IsCourse a.plain b.plain → AreLater a b → AreLater b c → AreLater a c
later_then a b c course here next who =
    server_then a.plain b.plain c.plain who course.count (server_at a.servers who) (server_at b.servers who) (server_at c.servers who)
    (here who) (next who)

none_stays : (a b : Option Party) → IsLaterParty a b → a ≡ None → b ≡ None
none_stays None None later none = refl
none_stays None (Some b) later none = absurd later
none_stays (Some a) None later none = refl
none_stays (Some a) (Some b) later none = cc

away_stays : (old new : HallView) (who : ℕ) (a b : Option AloneView) → IsLaterAt old new who a b → IsAway a → IsAway b
away_stays old new who None b later away = absurd away
away_stays old new who (Some a) None later away = absurd later
away_stays old new who (Some a) (Some b) later away = none_stays a.party b.party later.party away

none_before : (a b : Option Party) → IsLaterParty a b → b ≡ None → a ≡ None
none_before None b later none = refl
none_before (Some a) None later none = absurd later
none_before (Some a) (Some b) later none = cc

away_before : (old new : HallView) (who : ℕ) (a b : Option AloneView) → IsLaterAt old new who a b → IsAway b → IsAway a
away_before old new who None None later away = absurd away
away_before old new who None (Some b) later away = absurd later
away_before old new who (Some a) None later away = absurd later
away_before old new who (Some a) (Some b) later away = none_before a.party b.party later.party away

-- who alone is away is so later on
pub alone_later : (a b : SoloView) (me : ℕ) → AreLater a b → IsAloneAway me a.servers → IsAloneAway me b.servers
alone_later a b me later is = record {
  away = away_stays a.plain b.plain me (server_at a.servers me) (server_at b.servers me) (later me) is.away;
  alone = λ who away.
      is.alone who (away_before a.plain b.plain who (server_at a.servers who) (server_at b.servers who) (later who) away);
}

-- who has stopped has stopped later on
abbrev StaysStopped : Option AloneView → Option AloneView → Type 0
StaysStopped None after = ⊤
StaysStopped (Some server) None = ⊥
StaysStopped (Some server) (Some after) = server.stopped ≡ true → after.stopped ≡ true

stays_stopped : (old new : HallView) (who : ℕ) (a b : Option AloneView) → IsLaterAt old new who a b → StaysStopped a b
stays_stopped old new who None b later = tt
stays_stopped old new who (Some a) None later = later
stays_stopped old new who (Some a) (Some b) later = later.stopped

none_so_far : (old new : List AloneView) → ((who : ℕ) → StaysStopped (server_at old who) (server_at new who)) → has_stopped new ≡ false
    → has_stopped old ≡ false
none_so_far [] new stays off = refl
none_so_far (server ∷ old) [] stays off = absurd (stays zero)
none_so_far (server ∷ old) (after ∷ new) stays off =
    let both = or_parts after.stopped (has_stopped new) off in
    or_from server.stopped (has_stopped old) (not_before server.stopped after.stopped (stays zero) both.0)
    (none_so_far old new (λ who. stays (suc who)) both.1)

-- where nobody has stopped later on, nobody had before
pub going_before : (a b : SoloView) → AreLater a b → has_stopped b.servers ≡ false → has_stopped a.servers ≡ false
going_before a b later off =
    none_so_far a.servers b.servers
    (λ who. stays_stopped a.plain b.plain who (server_at a.servers who) (server_at b.servers who) (later who)) off

-- sequences of calls join
pub sequence_then : (me : ℕ) (a b c : SoloView) (first last : List MailStep) → Sequence me a first b → Sequence me b last c
    → Sequence me a (first ++ last) c
sequence_then me _ b c _ last (Sequence.stands _) next = next
sequence_then me a b c _ last (Sequence.goes_on _ mid _ step steps made here) next =
    Sequence.goes_on a mid c step (steps ++ last) made (sequence_then me mid b c steps last here next)

pub solo_same : (a : SoloView) → IsSoloCourse a a
solo_same a = record {
  plain = course_same a.plain;
  servers = λ who. server_stays a.plain a.plain who (server_at a.servers who) (λ there. done_same a.plain who);
  sequence = λ me alone going. ([], done_same a.plain me, Sequence.stands a);
}

in_sequence : (a b c : SoloView) → IsSoloCourse a b → IsSoloCourse b c → IsInSequence a c
in_sequence a b c here next me alone going =
    let first = here.sequence me alone (going_before b c next.servers going) in
    let last = next.sequence me (alone_later a b me here.servers alone) going in (
      first.0 ++ last.0,
      done_then a.plain b.plain c.plain me first.0 last.0 first.1 last.1,
      sequence_then me a b c first.0 last.0 first.2 last.2,
    )

pub solo_then : (a b c : SoloView) → IsSoloCourse a b → IsSoloCourse b c → IsSoloCourse a c
solo_then a b c here next = record {
  plain = course_then a.plain b.plain c.plain here.plain next.plain;
  servers = later_then a b c here.plain here.servers next.servers;
  sequence = in_sequence a b c here next;
}

-- who is away stays away
pub solo_serves : (a b : SoloView) (who : ℕ) → IsSoloCourse a b → IsAway (server_at a.servers who) → IsAway (server_at b.servers who)
solo_serves a b who course away =
    away_stays a.plain b.plain who (server_at a.servers who) (server_at b.servers who) (course.servers who) away
