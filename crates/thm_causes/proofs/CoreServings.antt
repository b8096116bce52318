-- What one serving makes of participant 0 and of what is shared.
use Rattle.std.proofs.Common.{◌≡◌, ◌≢◌, ◌∙◌, ℕ, zero, suc, ◌<◌, Bool, true, false, true≢false, nat_lt, List, [], ◌∷◌, ◌++◌, drop, length, Some, if◌then◌else◌, sym, ap, subst, ⊎_elim, arith}
use Rattle.std.specs.Prelude.{slice_get, slice_index}
use Rattle.std.proofs.lemmas.Bool.{cases_eq}
use Rattle.std.proofs.lemmas.Bool.Decides.{nat_tests}
use Rattle.std.proofs.lemmas.Option.{get_or_from_slice_get, none-some, same_Some}
use Rattle.hp_core.specs.Core.{Core}
use Rattle.hp_core.specs.declared.event.CoreEvent.{CoreEvent}
use Rattle.hp_core.specs.declared.event.CoreEvent.TheVariants.{Poll, SelfMapped}
use Rattle.hp_core.specs.declared.out.Out.{Out}
use Rattle.hp_frame.specs.declared.frame.Frame.{Frame}
use Rattle.hp_frame.specs.declared.message.Body.{Body}
use Rattle.hp_segs.specs.Standing.{IsArmed}
use Rattle.hp_hall.specs.Mail.{MailStep, Notes}
use Rattle.hp_plain.specs.Boxes.{box_of}
use Rattle.hp_hall.specs.declared.note.Note.TheVariants.{Loaded, Read}
use Rattle.hp_segs.specs.SegsView.{SegsView}
use Rattle.hp_segs.specs.Sound.{IsSound}
use Rattle.hp_serve.specs.Denials.{Denials, nobody_denies}
use Rattle.hp_serve.specs.Coordinating.{IsAnswered, IsCarried, IsCoreServed, IsHanded, IsHandled, IsMapped, IsNoAsk, IsFrameHandled, IsPolled, IsRested, IsSettled, IsToComeAt, loads_of, with_core}
use Rattle.hp_serve.specs.Falling.{IsDue}
use Rattle.hp_serve.specs.Frames.{Says}
use Rattle.hp_serve.specs.Party.{Party, due_in}
use Rattle.hp_serve.specs.Serving.{CatchesUp, after_catching_up, tells_after_catching}
use Rattle.thm_causes.specs.Servings.{CarriesOut, CoordinatesSo, CoreServes, Handles, MapsItself, Polls, Steps, numbered}
use Rattle.thm_causes.specs.Shared.{MakesAll, Shared, fetched_by}
use Rattle.thm_causes.proofs.Postings.{posted}
use Rattle.thm_causes.proofs.Sharing.{cut_at, fetched_one, found_nothing, gave, loaded, numbered_clock, numbered_segs, read_clock, told_behind, took}

-- WHAT ITS COORDINATOR DOES

-- it makes a step with the value that is shared, by an answer that its judge may give
handed : {denies : Denials} (event : CoreEvent) (core next : Core) (steps : List MailStep) (answer : Out) (old new : Shared)
    → IsHanded denies event core next old.segs steps (Some answer) → MakesAll 0 steps old new
    → Steps denies event core answer next old new
handed event core next steps answer old new (IsHanded.handed denied may did next_is is) makes =
    let back = gave 0 _ [] old new (subst (λ (steps : List MailStep). MakesAll 0 steps old new) did makes) in
    record {
      denied = denied;
      may = may;
      core_is = next_is;
      answer_is = same_Some answer _ is;
      shared = back.rest;
      sound = subst (λ (at : Shared). IsSound at.segs) (sym back.rest) back.sound;
      armed = λ armed. subst (λ (at : Shared). IsArmed at.segs) (sym back.rest) (back.armed armed);
    }
handed event core next steps answer old new (IsHanded.no_room did next_is is) makes = absurd (none-some answer (sym is))

-- it catches up for its coordinator
mapped : (party after : Party) (steps : List MailStep) (answer : Out) (old new : Shared) → IsMapped party after steps (Some answer)
    → MakesAll 0 steps old new → MapsItself old new party after answer
mapped party after steps answer old new
    (IsMapped.maps core next taken ended table own now more there did caught_up is_handed after_is) makes =
    let rest : List MailStep = Notes (Loaded 0 own) ∷ Notes (Read now) ∷ more in
    let had =
    took 0 taken (tells_after_catching ended (length taken.log) ++ rest) old new
    (subst (λ (steps : List MailStep). MakesAll 0 steps old new) did makes) in
    let mid = numbered 0 ended old in
    let noted =
    told_behind 0 ended rest old new
    (subst (λ (segs : SegsView). MakesAll 0 (tells_after_catching ended (length segs.log) ++ rest) old new) had.0 had.1) in
    let read = read_clock 0 now more mid new (loaded 0 0 own (Notes (Read now) ∷ more) mid new noted) in
    let same : taken ≡ mid.segs = had.0 ∙ sym (numbered_segs 0 ended old) in
    let reading : now ≡ old.clock = read.0 ∙ numbered_clock 0 ended old in
    record {
      core = core;
      next = next;
      caught = ended;
      table = table;
      there = there;
      caught_up_is = subst (λ (segs : SegsView). CatchesUp segs.log party.maps table ended) had.0 caught_up;
      steps = handed (SelfMapped ended old.clock) core next more answer mid new
          (subst (λ (now : ℕ). IsHanded nobody_denies (SelfMapped ended now) core next mid.segs more (Some answer)) reading
          (subst (λ (segs : SegsView). IsHanded nobody_denies (SelfMapped ended now) core next segs more (Some answer)) same is_handed)) read.1;
      after_is = subst (λ (segs : SegsView). after ≡ with_core next (after_catching_up segs.log ended table party)) had.0 after_is;
    }
mapped party after steps answer old new (IsMapped.worn taken is_worn did after_is none) makes = absurd (none-some answer (sym none))

module _ (count : ℕ) where
  -- what it answers is carried out
  settled : (party after : Party) (answer : Out) (steps : List MailStep) (old new : Shared)
      → IsSettled count party after answer steps true → MakesAll 0 steps old new → CarriesOut count old new party after answer
  settled party after answer steps old new (IsSettled.posts is_posted is) makes =
      CarriesOut.posts old new party after answer (posted count party after answer steps old new is_posted makes)
  settled party after answer steps old new (IsSettled.stops must is_mapped is) makes = absurd (true≢false is)

  carried : (path : List Party) (party after : Party) (answer : Out) (steps : List MailStep) (old new : Shared)
      → IsCarried count path party after answer steps true → MakesAll 0 steps old new → CarriesOut count old new party after answer
  carried [] party after answer steps old new is makes = settled party after answer steps old new is makes
  carried (between ∷ path) party after answer steps old new is makes =
      let cut = cut_at 0 is.1 is.2 old new (subst (λ (steps : List MailStep). MakesAll 0 steps old new) is.3 makes) in
      CarriesOut.maps old cut.mid new party between after answer is.0 is.4 (mapped party between is.1 is.0 old cut.mid is.5 cut.begins)
      (carried path between after is.0 is.2 cut.mid new is.6 cut.ends)

module _ {denies : Denials} (count : ℕ) where
  handled : (event : CoreEvent) (party after : Party) (steps : List MailStep) (old new : Shared)
      → IsHandled denies count event party after steps true → MakesAll 0 steps old new → Handles denies count event old new party after
  handled event party after steps old new (IsHandled.carries core next answer path first more there hands is_carried did) makes =
      let cut = cut_at 0 first more old new (subst (λ (steps : List MailStep). MakesAll 0 steps old new) did makes) in
      let had =
      took 0 hands.taken hands.more old cut.mid
      (subst (λ (steps : List MailStep). MakesAll 0 steps old cut.mid) hands.begins cut.begins) in
      record {
        core = core;
        next = next;
        answer = answer;
        mid = cut.mid;
        there = there;
        steps = handed event core next hands.more answer old cut.mid
            (subst (λ (segs : SegsView). IsHanded denies event core next segs hands.more (Some answer)) had.0 hands.is_handed) had.1;
        carries = carried count path (with_core next party) after answer more cut.mid new is_carried cut.ends;
      }
  handled event party after steps old new (IsHandled.stops core next there hands after_is is) makes = absurd (true≢false is)

-- WHAT IT LOOKS UP

-- one number, or none
looked_up_one : (is : Bool) (member number : ℕ) (old new : Shared)
    → MakesAll 0 (if is then Notes (Loaded member number) ∷ [] else []) old new
    → (new ≡ old) × (is ≡ true → slice_get old.numbers member ≡ Some number)
looked_up_one true member number old new makes = (makes.2 ∙ makes.1.1, λ is. makes.1.0)
looked_up_one false member number old new makes = (makes, λ is. absurd (true≢false (sym is)))

-- the numbers of so many
looked_up : (count : ℕ) (acks : List ℕ) (n : ℕ) (old new : Shared) → MakesAll 0 (loads_of count acks n) old new
    → (new ≡ old) × ((who : ℕ) → who < count → who < n → slice_index acks who ≡ slice_index old.numbers who)
unfolding loads_of
looked_up count acks zero old new makes = (makes, λ who declared few. absurd (omega (arith, few)))
looked_up count acks (suc n) old new makes =
    let cut = cut_at 0 (loads_of count acks n) _ old new makes in
    let before = looked_up count acks n old cut.mid cut.begins in
    let last = looked_up_one (nat_lt n count) n (slice_index acks n) cut.mid new cut.ends in (
      last.0 ∙ before.0,
      λ who declared few.
          ⊎_elim
          (λ (same : who ≡ n).
          let is : nat_lt n count ≡ true = grind (arith, nat_tests) in
          let its : slice_get old.numbers n ≡ Some (slice_index acks n) =
          ap (λ (at : Shared). slice_get at.numbers n) (sym before.0) ∙ last.1 is in
          subst (λ (who : ℕ). slice_index acks who ≡ slice_index old.numbers who) (sym same)
          (sym (get_or_from_slice_get old.numbers n (slice_index acks n) 0 its)))
          (λ (apart : who ≢ n). before.1 who declared (omega (arith, apart, few)))
          (cases_eq who n),
    )

module _ {denies : Denials} (count : ℕ) where
  -- it polls its coordinator
  polled : (now : ℕ) (party after : Party) (steps : List MailStep) (old new : Shared)
      → IsPolled denies count now party after steps true
      → now ≡ old.clock → MakesAll 0 steps old new → Polls denies count old new party after
  polled now party after steps old new is reading makes =
      let cut =
      cut_at 0 (loads_of count is.acks 16) is.more old new
      (subst (λ (steps : List MailStep). MakesAll 0 steps old new)
      (is.are ∙ ap (λ (looks : List MailStep). looks ++ is.more) is.looked_up.looked_up) makes) in
      let has = looked_up count is.acks 16 old cut.mid cut.begins in
      record {
        acks = is.acks;
        known = has.1;
        nobody = is.looked_up.nobody;
        handles = handled count (Poll old.clock is.acks) party after is.more old new
            (subst (λ (now : ℕ). IsHandled denies count (Poll now is.acks) party after is.more true) reading is.handled)
            (subst (λ (at : Shared). MakesAll 0 is.more at new) has.0 cut.ends);
      }

  -- WHAT IT FETCHES

  module _ (old new : Shared) (party after : Party) (frame : Frame) (box : List Frame)
      (there : box_of old.boxes party.me ≡ frame ∷ box) where
    -- a message that is no ask
    answered : (body : Body) (steps : List MailStep) → Says frame body → IsNoAsk count body
        → IsAnswered denies count party after body steps true
        → MakesAll 0 steps (fetched_by party.me old) new → CoreServes denies count old new party after true
    answered body steps says none (IsAnswered.polls due now more reply due_is did is_polled) makes =
        let mid = fetched_by party.me old in
        let read = read_clock 0 now more mid new (subst (λ (steps : List MailStep). MakesAll 0 steps mid new) did makes) in
        CoreServes.replied frame box body due there says reply due_is (polled now party after more mid new is_polled read.0 read.1)
    answered body steps says none (IsAnswered.rests reply late did after_is is) makes =
        CoreServes.late_reply frame box body there says reply late
        (subst (λ (steps : List MailStep). MakesAll 0 steps (fetched_by party.me old) new) did makes) after_is
    answered body steps says none (IsAnswered.hears reply did after_is is) makes =
        CoreServes.hears frame box body there says none reply
        (subst (λ (steps : List MailStep). MakesAll 0 steps (fetched_by party.me old) new) did makes) after_is

    -- a frame
    obeyed : (steps : List MailStep) → IsFrameHandled denies count party after frame steps true
        → MakesAll 0 steps (fetched_by party.me old) new
        → CoreServes denies count old new party after true
    obeyed steps (IsFrameHandled.drops says did after_is is) makes =
        CoreServes.drops frame box there says
        (subst (λ (steps : List MailStep). MakesAll 0 steps (fetched_by party.me old) new) did makes) after_is
    obeyed steps (IsFrameHandled.asks body event says ask is_handled) makes =
        CoreServes.asks frame box body event there says ask
        (handled count event party after steps (fetched_by party.me old) new is_handled makes)
    obeyed steps (IsFrameHandled.others body says none is_answered) makes = answered body steps says none is_answered makes

  -- nothing
  rested : (party after : Party) (steps : List MailStep) (moved : Bool) (old new : Shared) → box_of old.boxes party.me ≡ []
      → IsRested denies count party after steps (Some moved) → MakesAll 0 steps old new → CoreServes denies count old new party after moved
  rested party after steps moved old new none (IsRested.rests now holds early did after_is is) makes =
      let read = read_clock 0 now [] old new (subst (λ (steps : List MailStep). MakesAll 0 steps old new) did makes) in
      subst (CoreServes denies count old new party after) (same_Some false moved (sym is))
      (CoreServes.rests none holds (subst (λ (now : ℕ). IsToComeAt now (due_in party.core)) read.0 early) read.1 after_is)
  rested party after steps moved old new none (IsRested.polls now more true due did is_polled is) makes =
      let read = read_clock 0 now more old new (subst (λ (steps : List MailStep). MakesAll 0 steps old new) did makes) in
      subst (CoreServes denies count old new party after) (same_Some true moved (sym is))
      (CoreServes.polls none (subst (λ (now : ℕ). IsDue party.core (Poll now [])) read.0 due)
      (polled now party after more old new is_polled read.0 read.1))
  rested party after steps moved old new none (IsRested.polls now more false due did is_polled is) makes = absurd (none-some moved (sym is))

pub coordinates : (denies : Denials) → CoordinatesSo denies
coordinates denies count old new party after steps moved primary boxes numbers some few (IsCoreServed.rests more did is_rested) makes =
    let found = found_nothing 0 more old new (subst (λ (steps : List MailStep). MakesAll 0 steps old new) did makes) in
    rested count party after more moved old new (ap (box_of old.boxes) primary ∙ found.0) is_rested found.1
coordinates denies count old new party after steps moved primary boxes numbers some few
    (IsCoreServed.heeds frame more true did is_obeyed is) makes =
    let has = fetched_one 0 frame more old new (subst (λ (steps : List MailStep). MakesAll 0 steps old new) did makes) in
    subst (CoreServes denies count old new party after) (same_Some true moved (sym is))
    (obeyed count old new party after frame (drop 1 (box_of old.boxes 0)) (ap (box_of old.boxes) primary ∙ has.0) more is_obeyed
    (subst (λ (who : ℕ). MakesAll 0 more (fetched_by who old) new) (sym primary) has.1))
coordinates denies count old new party after steps moved primary boxes numbers some few
    (IsCoreServed.heeds frame more false did is_obeyed is) makes =
    absurd (none-some moved (sym is))
