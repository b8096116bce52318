-- One goes away for a line and comes back, and all others serve meanwhile.
use Rattle.std.proofs.Common.{◌≡◌, ◌≢◌, ◌∙◌, ℕ, suc, ◌+◌, ◌<◌, ◌≤◌, ◌^◌, ◌||◌, ⊎_elim, Bool, false, List, [], ◌∷◌, length, Option, Some, None, refl, sym, ap, subst}
use Rattle.std.specs.List.{slice_get, slice_set}
use Rattle.std.specs.Option.{option_map}
use Rattle.std.proofs.lemmas.Bool.{cases_eq}
use Rattle.std.proofs.lemmas.List.{append_cancel_left}
use Rattle.std.proofs.lemmas.Option.{slice_get_within}
use Rattle.hp_plain.specs.HallView.{HallView, HasDone, own_at, part_in, seen_in}
use Rattle.hp_hall.specs.Mail.{MailStep, steps_of}
use Rattle.hp_plain.proofs.Slotted.{slice_get-set_other, slice_get-set_same}
use Rattle.hp_events.specs.declared.validator.Validator.{Validator}
use Rattle.hp_proc.specs.Courses.{Standing}
use Rattle.hp_serve.specs.Party.{Party}
use Rattle.hp_serve.specs.Tied.{IsTied}
use Rattle.hp_solo.specs.Sequence.{IsAloneAway, Sequence, going_place}
use Rattle.hp_solo.specs.Solo.{IsAway, IsSolo, IsTiedAt, AloneView, SoloView, has_stopped, nobody, party_at, party_in, server_at, with_party}
use Rattle.hp_solo.specs.SoloCourse.{IsSoloCourse}
use Rattle.hp_solo.proofs.SoloDrained.{none_stopped}
use Rattle.thm_run.specs.EndLaws.{OthersServe}
use Rattle.thm_causes.specs.Threads.{ArePlaces, with_place}
use Rattle.thm_causes.proofs.Placed.{placed}
use Rattle.hp_run.proofs.Beside.{came_to, served_filled, served_so}
use Rattle.hp_run.proofs.Coming.{alike_same}
use Rattle.hp_run.proofs.Places.{IsFilled, filled_by, filled_places, place_at}

-- one leaves its place with its validators, the others serve while it does its line, and it comes back with those that the line left; nobody
-- has run out of memory
pub record IsBackFrom (who : ℕ) (after : Party) (left : ℕ → Standing) (now : ℕ → List (Validator Bool)) (parties : List Party)
    (first away back last : SoloView) : Type 0 where
  pub are : ArePlaces (λ other. (left other).validators) first.servers parties
  pub stay : (other : ℕ) → other ≢ who → now other ≡ (left other).validators
  pub gone_others : (other : ℕ) → other ≢ who → server_at away.servers other ≡ server_at first.servers other
  pub gone_here : server_at away.servers who ≡ option_map (with_party None []) (server_at first.servers who)
  pub gone_plain : away.plain ≡ first.plain
  pub course : IsSoloCourse away back
  pub rises : back.plain.clock ≤ away.plain.clock + 2 ^ 40
  pub me : after.me ≡ who
  pub here : party_at last.servers after.me ≡ Some after
  pub came : server_at last.servers after.me ≡ option_map (with_party (Some after) (now who)) (server_at back.servers after.me)
  pub came_others : (other : ℕ) → other ≢ after.me → server_at last.servers other ≡ server_at back.servers other
  pub came_plain : last.plain ≡ back.plain
  pub going : has_stopped last.servers ≡ false
  pub sound : IsSolo last

module _ (who : ℕ) (after : Party) (left : ℕ → Standing) (now : ℕ → List (Validator Bool)) (parties : List Party)
    (first away back last : SoloView) (is : IsBackFrom who after left now parties first away back last) where
  -- what each place had, and what it has
  abbrev given : ℕ → List (Validator Bool)
  given other = (left other).validators

  place_away : (other : ℕ) → other ≢ who
      → server_at away.servers other ≡ option_map (going_place (given other)) (slice_get parties other)
  place_away other differ = is.gone_others other differ ∙ place_at given first.servers parties is.are other

  stays_last : (other : ℕ) → other ≢ who → server_at last.servers other ≡ server_at back.servers other
  stays_last other differ = is.came_others other (λ same. differ (same ∙ is.me))

  filled : (other : ℕ) (server : AloneView) → server_at last.servers other ≡ Some server → IsFilled (now other) server
  filled other server there =
      let going : server.stopped ≡ false = none_stopped last.servers other server is.going there in
      ⊎_elim
      (λ (same : other ≡ who).
      let at : server_at last.servers after.me ≡ Some server =
      subst (λ (n : ℕ). server_at last.servers n ≡ Some server) (same ∙ sym is.me) there in
      let came = came_to (now who) after (server_at back.servers after.me) server (sym is.came ∙ at) in
      subst (λ (n : ℕ). IsFilled (now n) server) (sym same) (filled_by (now who) server after came.0 came.1 going))
      (λ (differ : other ≢ who).
      subst (λ (validators : List (Validator Bool)). IsFilled validators server) (sym (is.stay other differ))
      (served_filled away back (left other) parties other (place_away other differ) is.course.servers server
      (sym (stays_last other differ) ∙ there) going))
      (cases_eq other who)

  -- the participants after the line
  pub behind : (behind : List Party) × ArePlaces now last.servers behind
  behind = filled_places now last.servers filled

  pub its_place : slice_get behind.0 who ≡ Some after
  its_place =
      sym (placed now last.servers behind.0 behind.1 who)
      ∙ subst (λ (n : ℕ). party_at last.servers n ≡ Some after) is.me is.here

  pub others_serve : OthersServe (λ other. other ≡ who) (length away.plain.owns) left away.plain back.plain parties behind.0
  others_serve = λ other party after_one apart there at.
      let place : server_at last.servers other ≡ Some (going_place (now other) after_one) =
      place_at now last.servers behind.0 behind.1 other ∙ ap (option_map (going_place (now other))) at in
      let stood : server_at back.servers other ≡ Some (going_place (given other) after_one) =
      sym (stays_last other apart) ∙ place
      ∙ ap (λ (validators : List (Validator Bool)). Some (going_place validators after_one)) (is.stay other apart) in
      let so = served_so away back (left other) parties other (place_away other apart) is.course.servers party after_one there stood in
      let tied : IsTiedAt last.plain other after_one = is.sound.tied other after_one (ap party_in place) in
      record {
        served = so.0;
        same = so.1;
        tied = subst (λ (hall : HallView). IsTied (seen_in hall) (own_at hall other)
            (λ (heap : ℕ). (part_in hall other heap).marked) after_one.joined after_one.maps) is.came_plain
            tied.tied.table;
        left = λ out heap.
            subst (λ (hall : HallView). (part_in hall other heap).marked ≡ []) is.came_plain (tied.tied.left out heap);
      }

  pub as_before : length behind.0 ≡ length first.plain.owns
  as_before =
      sym behind.1.count
      ∙ is.sound.count
      ∙ ap (λ (hall : HallView). length hall.owns) is.came_plain
      ∙ is.course.plain.count
      ∙ ap (λ (hall : HallView). length hall.owns) is.gone_plain

-- WHAT IT DID IS A SEQUENCE OF CALLS

-- whether places have stopped, one by one
abbrev stopped_in : Option AloneView → Option Bool
stopped_in place = option_map (λ server. server.stopped) place

stopped_alike : (old new : List AloneView) → ((who : ℕ) → stopped_in (server_at old who) ≡ stopped_in (server_at new who))
    → has_stopped old ≡ has_stopped new
stopped_alike [] [] each = refl
stopped_alike [] (server ∷ new) each = let none = each 0 in cc
stopped_alike (server ∷ old) [] each = let none = each 0 in cc
stopped_alike (server ∷ old) (after ∷ new) each =
    let first : Some server.stopped ≡ Some after.stopped = each 0 in
    let same : server.stopped ≡ after.stopped = cc in
    ap (λ (stopped : Bool). stopped || has_stopped old) same
    ∙ ap (λ (others : Bool). after.stopped || others) (stopped_alike old new (λ who. each (suc who)))

came_stopped : (after : Party) (given : List (Validator Bool)) (place : Option AloneView)
    → stopped_in (option_map (with_party (Some after) given) place) ≡ stopped_in place
came_stopped after given None = refl
came_stopped after given (Some server) = refl

-- something stood where something of it stands
stood_before : (after : Party) (given : List (Validator Bool)) (place : Option AloneView) (now : AloneView)
    → option_map (with_party (Some after) given) place ≡ Some now → (server : AloneView) × (place ≡ Some server)
stood_before after given None now is = cc
stood_before after given (Some server) now is = (server, refl)

-- a place with its participant is not one whose participant is away
never_away : (validators : List (Validator Bool)) (place : Option Party) → IsAway (option_map (going_place validators) place) → ⊥
never_away validators None away = absurd away
never_away validators (Some party) away = cc

-- what one has done is one list of steps
steps_same : (old new : HallView) (who : ℕ) (one other : List MailStep) → HasDone old new who one → HasDone old new who other → one ≡ other
steps_same old new who one other first second = append_cancel_left (steps_of who old.mail) one other (sym first ∙ second)

-- a hall whose places are those of another but for one
all_but : (who : ℕ) (place : AloneView) (old new : SoloView) → who < length old.servers → new.plain ≡ old.plain
    → server_at new.servers who ≡ Some place → ((other : ℕ) → other ≢ who → server_at new.servers other ≡ server_at old.servers other)
    → new ≡ with_place who place old
all_but who place old new within plain here others =
    let servers : new.servers ≡ slice_set old.servers who place =
    alike_same new.servers (slice_set old.servers who place) (λ other.
    ⊎_elim
    (λ (same : other ≡ who).
    subst (λ (n : ℕ). server_at new.servers n ≡ server_at (slice_set old.servers who place) n) (sym same)
    (here ∙ sym (slice_get-set_same old.servers who place within)))
    (λ (differ : other ≢ who). others other differ ∙ sym (slice_get-set_other old.servers who other place differ))
    (cases_eq other who)) in
    ap (λ (plain : HallView). record { plain = plain; servers = new.servers }) plain
    ∙ ap (λ (servers : List AloneView). record { plain = old.plain; servers = servers }) servers

module _ (who : ℕ) (party after : Party) (left : ℕ → Standing) (now : ℕ → List (Validator Bool)) (parties : List Party)
    (first away back last : SoloView) (is : IsBackFrom who after left now parties first away back last)
    (there : slice_get parties who ≡ Some party) where
  abbrev had : ℕ → List (Validator Bool)
  had other = (left other).validators

  pub first_there : server_at first.servers who ≡ Some (going_place (had who) party)
  first_there = place_at had first.servers parties is.are who ∙ ap (option_map (going_place (had who))) there

  away_here : server_at away.servers who ≡ Some nobody
  away_here = is.gone_here ∙ ap (option_map (with_party None [])) first_there

  alone : IsAloneAway who away.servers
  alone = record {
    away = subst IsAway (sym away_here) refl;
    alone = λ other gone.
        ⊎_elim (λ (same : other ≡ who). same)
        (λ (differ : other ≢ who).
        absurd
        (never_away (had other) (slice_get parties other)
        (subst IsAway (is.gone_others other differ ∙ place_at had first.servers parties is.are other) gone)))
        (cases_eq other who);
  }

  came_as : server_at last.servers who ≡ option_map (with_party (Some after) (now who)) (server_at back.servers who)
  came_as =
      subst (λ (me : ℕ). server_at last.servers me ≡ option_map (with_party (Some after) (now who)) (server_at back.servers me)) is.me is.came

  going_back : has_stopped back.servers ≡ false
  going_back =
      stopped_alike back.servers last.servers (λ other.
      ⊎_elim
      (λ (same : other ≡ who).
      subst (λ (n : ℕ). stopped_in (server_at back.servers n) ≡ stopped_in (server_at last.servers n)) (sym same)
      (sym (ap stopped_in came_as ∙ came_stopped after (now who) (server_at back.servers who))))
      (λ (differ : other ≢ who). ap stopped_in (sym (is.came_others other (λ same. differ (same ∙ is.me)))))
      (cases_eq other who))
      ∙ is.going

  last_here : server_at last.servers who ≡ Some (going_place (now who) after)
  last_here =
      let all = behind who after left now parties first away back last is in
      place_at now last.servers all.0 all.1 who
      ∙ ap (option_map (going_place (now who))) (its_place who after left now parties first away back last is)

  -- its place was vacated, and is filled again
  pub gone_from : away ≡ with_place who nobody first
  gone_from =
      all_but who nobody first away (slice_get_within first.servers who (going_place (had who) party) first_there) is.gone_plain away_here
      is.gone_others

  pub back_in : last ≡ with_place who (going_place (now who) after) back
  back_in =
      let stood = stood_before after (now who) (server_at back.servers who) (going_place (now who) after) (sym came_as ∙ last_here) in
      all_but who (going_place (now who) after) back last (slice_get_within back.servers who stood.0 stood.1) is.came_plain last_here
      (λ other differ. is.came_others other (λ same. differ (same ∙ is.me)))

  -- the steps that it made meanwhile are a sequence of its calls
  pub in_sequence : (steps : List MailStep) → HasDone away.plain back.plain who steps → Sequence who away steps back
  in_sequence steps done =
      let did = is.course.sequence who alone going_back in
      subst (λ (steps : List MailStep). Sequence who away steps back) (steps_same away.plain back.plain who did.0 steps did.1 done) did.2
