-- What is done of a line is done so in its participant's own holds, where each of its asks takes the next number, nobody else's growth is open
-- for its heap meanwhile, and it has its outcome at last.
use Rattle.std.proofs.Common.{◌≡◌, ◌≢◌, ◌∙◌, ℕ, ◌+◌, ◌<◌, ◌≤◌, List, [], ◌∷◌, ◌++◌, length, None, Some, Option, IfSome, inl, inr, refl, ap, sym, subst, arith, append-nil, append_assoc, Ok}
use Rattle.std.specs.List.{All}
use Rattle.std.proofs.lemmas.List.Elements.{All-head}
use Rattle.hp_base.specs.declared.limits.TheConstants.{MAX_PARTICIPANTS}
use Rattle.hp_base.specs.declared.row.Run.{Run}
use Rattle.hp_hall.specs.Mail.{Gives, MailStep}
use Rattle.hp_hall.specs.declared.kept.Kept.TheVariants.{Names}
use Rattle.hp_hall.specs.declared.slot.TheConstants.{NAMES_SLOT}
use Rattle.hp_heap.specs.declared.entry.HeapAnswer.TheVariants as gives
use Rattle.hp_heap.specs.declared.entry.HeapCall.TheVariants as call
use Rattle.hp_heap.proofs.AllocFacts.ChoiceLaw.{Contains-cases}
use Rattle.hp_segs.specs.Ranges.{range_plan}
use Rattle.hp_segs.specs.SegsView.{SegsView}
use Rattle.hp_segs.specs.LaterSteps.{armed_ask}
use Rattle.hp_serve.specs.Asking.{ask_of}
use Rattle.hp_serve.specs.Attaching.{after_attaching}
use Rattle.hp_serve.specs.Serving.{acks_after, gives_segments, takes_segments}
use Rattle.hp_serve.specs.declared.pages_asked.PagesAsked.{PagesAsked}
use Rattle.hp_proc.specs.Acting.{Acts}
use Rattle.hp_proc.specs.Courses.{numbered_in}
use Rattle.hp_proc.specs.Denying.{denials_of}
use Rattle.hp_proc.specs.Doing.{Done}
use Rattle.hp_proc.specs.Doing.Done.{Asked, Called, CaughtUp, ChunkMapped, GaveUp, HeapSeen, Looked, NamesChanged, NamesRead, RangePlanned, StatsRead}
use Rattle.hp_proc.specs.Handing.{counted_in, shared_of}
use Rattle.hp_proc.specs.Outcomes.{IsAnsweredSo}
use Rattle.hp_proc.specs.ParticipantView.{ParticipantView}
use Rattle.hp_proc.specs.SharedNames.NamesChange.{OfHeaps}
use Rattle.hp_weave.specs.Holds.{Hold}
use Rattle.hp_zone.specs.declared.name_change.NameChange.TheVariants.{Range, RangeGone}
use Rattle.thm_run.proofs.InTurnByHolds.AsksInHolds.{IsAskedInHolds, all_last, all_front, all_stay, armed_good, ask_in_holds, asked_in}
use Rattle.thm_run.proofs.GrownHeaps.GrowthsAlone.{IsAloneIn, growths_past, holds_alone, of_no_heap}
use Rattle.thm_run.proofs.InTurnByHolds.HoldsLeft.{AreLeft, IsAnswered, answered_heard, answered_on, answered_then, none_own, one_left, pass_on}
use Rattle.thm_run.proofs.InTurnByHolds.HoldsOfPaths.{AsksNone, does_then, done_in_holds, holds_then, none_at_all}
use Rattle.thm_run.proofs.InTurnByHolds.NextHolds.{to_last}
use Rattle.thm_run.proofs.PathSteps.PathsActing.{acting_path}
use Rattle.thm_run.proofs.PathSteps.PathsAsking.{longest}
use Rattle.thm_run.proofs.SeenAndShown.SeenTraces.{AreAnsweredFrom, behind_answered, front_answered}
use Rattle.thm_run.proofs.ServesNoHeap.{none_both}
use Rattle.thm_run.proofs.TracesTold.ToldNumbers.{HoldMore, MailMore, hold_more, long, mail_more, quiet_more}
use Rattle.thm_run.proofs.WaitsNoHeap.{acks_none, ask_none, notice_none, turn_none}
use Rattle.thm_run.specs.Apart.{holds_from}
use Rattle.thm_run.specs.OwnHolds.{DoesInHolds, NoneGrows, StaysArmed}
use Rattle.thm_run.specs.OwnLines.{IsOfGood, NoneElseGrowsAlong}
use Rattle.thm_run.specs.Seats.{SeatTrace, Seat, leaving}

-- EACH ASK AND EACH NOTICE TAKES A NUMBER

-- so many numbers were taken at least
abbrev RisesBy : Seat → Seat → Type 0
RisesBy old new = old.party.asked + length (numbered_in new.trace) ≤ new.party.asked + length (numbered_in old.trace)

rise_mail : (old mid new : Seat) → MailMore old mid → RisesBy mid new → RisesBy old new
rise_mail old mid new (MailMore.none more) rest = omega (arith, more.asked, more.numbered, rest)
rise_mail old mid new (MailMore.one more) rest = omega (arith, more.asked, more.numbered, rest)

rise_hold : (who : ℕ) (old mid new : Seat) (taken : SegsView) → HoldMore who old mid taken → RisesBy mid new → RisesBy old new
rise_hold who old mid new taken (HoldMore.none more) rest = omega (arith, more.asked, more.numbered, rest)
rise_hold who old mid new taken (HoldMore.arms asked numbered) rest = omega (arith, asked, numbered, rest)

pub path_rises : {count who : ℕ} {old new : Seat} {steps : List MailStep} → SeatTrace count who old new steps → RisesBy old new
path_rises (SeatTrace.ends seat) = omega arith
path_rises (SeatTrace.quietly old mid new steps did path) =
    let more = quiet_more did in
    omega (arith, more.asked, more.numbered, path_rises path)
path_rises (SeatTrace.holds old new step steps is path) = path_rises path
path_rises (SeatTrace.mails old mid new step steps did path) = rise_mail old mid new (mail_more did) (path_rises path)
path_rises {count} {who} (SeatTrace.handles old mid new taken given held steps did path) =
    rise_hold who old mid new taken (hold_more did) (path_rises path)

pub acts_rise : {count who : ℕ} {hand fin : Option ℕ} {held : List ℕ} {doer after : ParticipantView} {trace : List Done}
    {steps : List MailStep} → Acts count hand fin held doer after trace steps → doer.party.me ≡ who → doer.party.deadline ≤ longest → Seat
    → doer.party.asked + length (numbered_in trace) ≤ after.party.asked
acts_rise {count} {who} {hand} {fin} {held} {doer} {after} {trace} {steps} acts me deadline seat =
    let acted = acting_path count who hand fin held doer after trace steps acts me deadline seat in
    let numbered : length (numbered_in acted.behind.trace) ≡ length (numbered_in seat.trace) + length (numbered_in trace) =
    ap (λ trace. length (numbered_in trace)) acted.trace ∙ long seat.trace trace in
    omega (arith, path_rises acted.path, numbered)

-- WHAT IS IN HAND

-- what is done of a line leaves in hand what it says
pub growths_acts : {count : ℕ} (who : ℕ) {hand fin : Option ℕ} {held : List ℕ} {doer after : ParticipantView} {trace : List Done}
    {steps : List MailStep} → Acts count hand fin held doer after trace steps → (more : List MailStep)
    → NoneElseGrowsAlong who hand (steps ++ more) → NoneElseGrowsAlong who fin more
growths_acts who (Acts.nothing hand doer) more along = along
growths_acts {count} who (Acts.waits_turn until doer after moved steps turned) more along =
    growths_past who None steps more
    (of_no_heap steps (turn_none (denials_of doer.context.standing) count until doer.party after steps moved turned)) along
growths_acts who (Acts.takes_heap doer heap pen few) more along = along
growths_acts who (Acts.gives_heap doer heap pen) more along = along
growths_acts who (Acts.makes_call doer heap call answer uncut) more along = along
growths_acts who (Acts.cuts_run doer heap addr run taken) more along = along.1.1
growths_acts {count} who (Acts.asks_pages doer after asked run steps does) more along =
    growths_past who (Some asked.heap) steps more
    (of_no_heap steps (ask_none (denials_of doer.context.standing) count doer.party after asked steps run does)) along
growths_acts {count} who (Acts.notifies_run doer after heap run steps does) more along =
    growths_past who None steps more
    (of_no_heap steps (notice_none (denials_of doer.context.standing) count doer.party after heap run steps does)) along
growths_acts {count} who (Acts.attaches doer after taken caught tried) more along =
    let acks : List MailStep = acks_after caught (length taken.log) in
    let gives : List MailStep = gives_segments (after_attaching doer.party.me caught taken) ∷ [] in
    growths_past who None (takes_segments taken ∷ (acks ++ gives)) more
    (of_no_heap (takes_segments taken ∷ (acks ++ gives)) (tt, none_both acks gives (acks_none caught (length taken.log)) (tt, tt))) along
growths_acts who (Acts.detaches doer taken told above gone bare heard) more along = along.1.1
growths_acts who (Acts.notes_left doer elements) more along = along
growths_acts who (Acts.reads_names doer names) more along = along
growths_acts who (Acts.looks_up_lines doer other lines) more along = along
growths_acts who (Acts.reads_stats doer heap pair) more along = along
growths_acts who (Acts.changes_names hand doer change) more along = along
growths_acts who (Acts.holds_names held doer after taken given trace steps inner changes) more along =
    let back : List MailStep = Gives NAMES_SLOT (Names given) ∷ [] in
    growths_acts who inner (back ++ more) (subst (NoneElseGrowsAlong who None) (append_assoc steps back more) along)
growths_acts who (Acts.sees_heap doer heap pen few) more along = along
growths_acts who (Acts.looks_at_segs doer heap taken) more along = along.1.1
growths_acts who (Acts.plans_range doer heap addr len page taken) more along = along.1.1
growths_acts who (Acts.claims doer heap chunk taken plan) more along = along.1.1
growths_acts who (Acts.releases doer heap chunk taken) more along = along.1.1
growths_acts who (Acts.maps_chunk doer heap chunk after ended did) more along = along
growths_acts who (Acts.shares doer heap chunk same) more along = along
growths_acts who (Acts.leaves doer heap chunk after did) more along = along
growths_acts {count} who (Acts.and_then hand between fin held held_more doer mid after first rest before behind one two) more along =
    growths_acts who two more
    (growths_acts who one (behind ++ more) (subst (NoneElseGrowsAlong who hand) (append_assoc before behind more) along))

-- what is no ask
none_of : (done : Done) (rest : List Done) → ((asked : PagesAsked) (run : Option Run) → done ≡ Asked asked run → ⊥) → AsksNone rest
    → AsksNone (done ∷ rest)
none_of done rest not later asked run among =
    elim (Contains-cases done (Asked asked run) rest among) [
      | inl same ↦ not asked run same
      | inr among_rest ↦ later asked run among_rest
    ]

-- IN WHICH HOLDS

module _ (count who : ℕ) (last : SegsView) where
  -- steps of a participant, whose holds come first of those that are left: it did that in them, and what is left then
  pub record IsDoneOn (number : ℕ) (trace : List Done) (steps : List MailStep) (others : List (Hold SegsView)) : Type 0 where
    pub does : DoesInHolds who number trace (holds_from who None steps)
    pub to : SegsView
    pub left : AreLeft who last others to
    pub answered : IsAnswered who to

  -- where nothing is asked for
  pub path_on : {old new : Seat} {steps : List MailStep} (trace : List Done) (number : ℕ) → SeatTrace count who old new steps
      → new.trace ≡ old.trace ++ trace → AsksNone trace → (others : List (Hold SegsView)) (from : SegsView)
      → AreLeft who last (holds_from who None steps ++ others) from → IsAnswered who from → IsDoneOn number trace steps others
  path_on {old} {new} {steps} trace number path is none others from left answered =
      let holds : List (Hold SegsView) = holds_from who None steps in
      let does = done_in_holds trace number path (armed_good holds (all_front IsOfGood holds others left.good)) is none in
      let on = pass_on who last holds others from left (all_stay does none) in
      record { does = does; to = on.to; left = on.left; answered = answered_on who from on.to on.later on.armed answered }

  -- an ask, whose holds are these
  ask_on : (number : ℕ) (asked : PagesAsked) (run : Option Run) (steps : List MailStep) (others : List (Hold SegsView)) (from : SegsView)
      → IsAskedInHolds who number asked (holds_from who None steps) → IsAnsweredSo last.log last.asks who number asked run
      → All (IsAloneIn who asked.heap) (holds_from who None steps) → AreLeft who last (holds_from who None steps ++ others) from
      → IsAnswered who from → IsDoneOn number (Asked asked run ∷ []) steps others
  ask_on number asked run steps others from is so alone left was =
      let both : All (IsAloneIn who asked.heap) (is.arming ∷ (is.between ++ is.hearing ∷ [])) =
      subst (All (IsAloneIn who asked.heap)) is.are alone in
      let one =
      one_left who last from is.arming ((is.between ++ is.hearing ∷ []) ++ others)
      (subst (λ holds. AreLeft who last (holds ++ others) from) is.are left) in
      let passed =
      pass_on who last is.between (is.hearing ∷ others) is.arming.given
      (subst (λ holds. AreLeft who last holds is.arming.given) (append_assoc is.between (is.hearing ∷ []) others) one.left)
      (all_front (StaysArmed who) is.between (is.hearing ∷ []) is.stays) in
      let heard = one_left who last passed.to is.hearing others passed.left in
      let stays = All-head (StaysArmed who) is.hearing [] (all_last (StaysArmed who) is.between (is.hearing ∷ []) is.stays) in
      let its : armed_ask is.hearing.given who ≡ Some (ask_of who number asked) =
      stays ∙ (heard.armed ∙ (passed.armed ∙ is.its)) in
      let answered : IsAnswered who is.hearing.given = answered_heard who (ask_of who number asked) is.hearing.given its is.heard in
      let taken : NoneGrows asked.heap is.arming.taken =
      none_own who is.arming.taken asked.heap one.good.taken
      (All-head (IsAloneIn who asked.heap) is.arming (is.between ++ is.hearing ∷ []) both).0
      (answered_on who from is.arming.taken one.before one.armed was) in
      let before : NoneGrows asked.heap is.arming.given =
      subst (λ growth. IfSome growth (λ growth. growth.ask.heap ≢ asked.heap)) (sym is.growth) taken in
      let after : NoneGrows asked.heap is.hearing.given =
      none_own who is.hearing.given asked.heap heard.good.given
      (All-head (IsAloneIn who asked.heap) is.hearing []
      (all_last (IsAloneIn who asked.heap) (is.arming ∷ is.between) (is.hearing ∷ []) both)).1 answered in
      let answer =
      answered_then is.hearing.given last who number asked run heard.goes.sound
      (to_last who last is.hearing.given heard.left.all heard.left.chain heard.left.each) is.heard so in
      record { does = ask_in_holds run is before answer after; to = is.hearing.given; left = heard.left; answered = answered }

  module _ (few : who < MAX_PARTICIPANTS) where
    -- what asks for nothing
    by_path : {hand fin : Option ℕ} {held : List ℕ} {doer after : ParticipantView} {trace : List Done} {steps : List MailStep} (number : ℕ)
        → Acts count hand fin held doer after trace steps → doer.party.me ≡ who → doer.party.deadline ≤ longest → Seat → AsksNone trace
        → (others : List (Hold SegsView)) (from : SegsView) → AreLeft who last (holds_from who None steps ++ others) from
        → IsAnswered who from → IsDoneOn number trace steps others
    by_path {hand} {fin} {held} {doer} {after} {trace} {steps} number acts me deadline seat none others from left was =
        let acted = acting_path count who hand fin held doer after trace steps acts me deadline seat in
        path_on trace number acted.path acted.trace none others from left was

    -- what is done of a line
    pub acts_on : {hand fin : Option ℕ} {held : List ℕ} {doer after : ParticipantView} {trace : List Done} {steps : List MailStep}
        (number : ℕ) → Acts count hand fin held doer after trace steps → doer.party.me ≡ who → doer.party.deadline ≤ longest → Seat
        → doer.party.asked + 1 ≡ number → after.party.asked ≤ doer.party.asked + length (numbered_in trace)
        → AreAnsweredFrom last.log last.asks who number trace → (more : List MailStep) → NoneElseGrowsAlong who hand (steps ++ more)
        → (others : List (Hold SegsView)) (from : SegsView) → AreLeft who last (holds_from who None steps ++ others) from
        → IsAnswered who from → IsDoneOn number trace steps others
    acts_on number (Acts.nothing hand doer) me deadline seat next exact answers more along others from left was =
        by_path number (Acts.nothing hand doer) me deadline seat none_at_all others from left was
    acts_on number (Acts.waits_turn until doer after moved steps turned) me deadline seat next exact answers more along others from left was =
        by_path number (Acts.waits_turn until doer after moved steps turned) me deadline seat none_at_all others from left was
    acts_on number (Acts.takes_heap doer heap pen few) me deadline seat next exact answers more along others from left was =
        by_path number (Acts.takes_heap doer heap pen few) me deadline seat none_at_all others from left was
    acts_on number (Acts.gives_heap doer heap pen) me deadline seat next exact answers more along others from left was =
        by_path number (Acts.gives_heap doer heap pen) me deadline seat none_at_all others from left was
    acts_on number (Acts.makes_call doer heap call answer uncut) me deadline seat next exact answers more along others from left was =
        by_path number (Acts.makes_call doer heap call answer uncut) me deadline seat
        (none_of (Called heap call answer) [] (λ asked got same. cc) none_at_all) others from left was
    acts_on number (Acts.cuts_run doer heap addr run taken) me deadline seat next exact answers more along others from left was =
        by_path number (Acts.cuts_run doer heap addr run taken) me deadline seat
        (none_of (Called heap _ _) [] (λ asked got same. cc) none_at_all) others from left was
    acts_on number (Acts.asks_pages doer after asked run steps does) me deadline seat next exact answers more along others from left was =
        let least = acts_rise (Acts.asks_pages doer after asked run steps does) me deadline seat in
        let which : after.asked ≡ number = omega (arith, next, exact, least) in
        let good : All IsOfGood (holds_from who None steps) = all_front IsOfGood (holds_from who None steps) others left.good in
        let is : IsAskedInHolds who number asked (holds_from who None steps) =
        subst (λ (number : ℕ). IsAskedInHolds who number asked (holds_from who None steps)) which
        (asked_in count who (leaving doer.context.standing seat) doer.party after asked steps run me does few good) in
        let here : number + 0 ≡ number = omega arith in
        let so : IsAnsweredSo last.log last.asks who number asked run =
        subst (λ (number : ℕ). IsAnsweredSo last.log last.asks who number asked run) here (answers 0 asked run refl) in
        ask_on number asked run steps others from is so
        (holds_alone who asked.heap None steps more tt (ask_none (denials_of doer.context.standing) count doer.party after asked steps run does) along) left was
    acts_on number (Acts.notifies_run doer after heap run steps does) me deadline seat next exact answers more along others from left was =
        by_path number (Acts.notifies_run doer after heap run steps does) me deadline seat
        (none_of (GaveUp heap run) [] (λ asked got same. cc) none_at_all) others from left was
    acts_on number (Acts.attaches doer after taken caught tried) me deadline seat next exact answers more along others from left was =
        by_path number (Acts.attaches doer after taken caught tried) me deadline seat
        (none_of (Looked (length taken.log)) (CaughtUp (length taken.log) caught ∷ []) (λ asked got same. cc)
        (none_of (CaughtUp (length taken.log) caught) [] (λ asked got same. cc) none_at_all)) others from left was
    acts_on number (Acts.detaches doer taken told above gone bare heard) me deadline seat next exact answers more along others from left was =
        by_path number (Acts.detaches doer taken told above gone bare heard) me deadline seat none_at_all others from left was
    acts_on number (Acts.notes_left doer elements) me deadline seat next exact answers more along others from left was =
        by_path number (Acts.notes_left doer elements) me deadline seat none_at_all others from left was
    acts_on number (Acts.reads_names doer names) me deadline seat next exact answers more along others from left was =
        by_path number (Acts.reads_names doer names) me deadline seat
        (none_of (NamesRead (shared_of names)) [] (λ asked got same. cc) none_at_all) others from left was
    acts_on number (Acts.looks_up_lines doer other lines) me deadline seat next exact answers more along others from left was =
        by_path number (Acts.looks_up_lines doer other lines) me deadline seat none_at_all others from left was
    acts_on number (Acts.reads_stats doer heap pair) me deadline seat next exact answers more along others from left was =
        by_path number (Acts.reads_stats doer heap pair) me deadline seat
        (none_of (StatsRead heap (counted_in pair)) [] (λ asked got same. cc) none_at_all) others from left was
    acts_on number (Acts.changes_names hand doer change) me deadline seat next exact answers more along others from left was =
        by_path number (Acts.changes_names hand doer change) me deadline seat
        (none_of (NamesChanged change) [] (λ asked got same. cc) none_at_all) others from left was
    acts_on number (Acts.sees_heap doer heap pen few) me deadline seat next exact answers more along others from left was =
        by_path number (Acts.sees_heap doer heap pen few) me deadline seat
        (none_of (HeapSeen heap.plain.index heap.history) [] (λ asked got same. cc) none_at_all) others from left was
    acts_on number (Acts.looks_at_segs doer heap taken) me deadline seat next exact answers more along others from left was =
        by_path number (Acts.looks_at_segs doer heap taken) me deadline seat none_at_all others from left was
    acts_on number (Acts.plans_range doer heap addr len page taken) me deadline seat next exact answers more along others from left was =
        by_path number (Acts.plans_range doer heap addr len page taken) me deadline seat
        (none_of (RangePlanned addr len page (range_plan addr len page taken)) [] (λ asked got same. cc) none_at_all) others from left was
    acts_on number (Acts.claims doer heap chunk taken plan) me deadline seat next exact answers more along others from left was =
        by_path number (Acts.claims doer heap chunk taken plan) me deadline seat
        (none_of (RangePlanned chunk.addr chunk.len chunk.page (Ok chunk.list)) (NamesChanged (OfHeaps (Range heap chunk.addr chunk.len chunk.page)) ∷ Called heap (call.Chunk chunk) gives.Done ∷ []) (λ asked got same. cc) (none_of (NamesChanged (OfHeaps (Range heap chunk.addr chunk.len chunk.page))) (Called heap (call.Chunk chunk) gives.Done ∷ []) (λ asked got same. cc) (none_of (Called heap (call.Chunk chunk) gives.Done) [] (λ asked got same. cc) none_at_all))) others from left was
    acts_on number (Acts.releases doer heap chunk taken) me deadline seat next exact answers more along others from left was =
        by_path number (Acts.releases doer heap chunk taken) me deadline seat
        (none_of (NamesChanged (OfHeaps (RangeGone heap chunk.addr))) (Called heap (call.Unchunk chunk.addr chunk.len) gives.Done ∷ []) (λ asked got same. cc) (none_of (Called heap (call.Unchunk chunk.addr chunk.len) gives.Done) [] (λ asked got same. cc) none_at_all)) others from left was
    acts_on number (Acts.maps_chunk doer heap chunk after ended did) me deadline seat next exact answers more along others from left was =
        by_path number (Acts.maps_chunk doer heap chunk after ended did) me deadline seat
        (none_of (ChunkMapped chunk ended) [] (λ asked got same. cc) none_at_all) others from left was
    acts_on number (Acts.shares doer heap chunk same) me deadline seat next exact answers more along others from left was =
        by_path number (Acts.shares doer heap chunk same) me deadline seat
        (none_of (Called heap (call.Share chunk.addr chunk.len) gives.Done) [] (λ asked got same. cc) none_at_all) others from left was
    acts_on number (Acts.leaves doer heap chunk after did) me deadline seat next exact answers more along others from left was =
        by_path number (Acts.leaves doer heap chunk after did) me deadline seat
        (none_of (Called heap (call.Unshare chunk.addr chunk.len) gives.Done) [] (λ asked got same. cc) none_at_all) others from left was
    acts_on number (Acts.holds_names held doer after taken given trace steps inner changes) me deadline seat next exact answers more along
        others from left was =
        let begins = acting_path count who None None held doer after trace steps inner me deadline seat in
        let back : List MailStep = Gives NAMES_SLOT (Names given) ∷ [] in
        let holds : List (Hold SegsView) = holds_from who None steps in
        let all : holds_from who None (steps ++ back) ≡ holds = holds_then back begins.path ∙ append-nil holds in
        let here =
        acts_on number inner me deadline seat next exact answers (back ++ more)
        (subst (NoneElseGrowsAlong who None) (append_assoc steps back more) along) others from
        (subst (λ holds. AreLeft who last (holds ++ others) from) all left) was in
        record {
          does = subst (DoesInHolds who number (NamesRead (shared_of taken) ∷ trace)) (sym all)
              (DoesInHolds.reads_names number (shared_of taken) trace holds here.does);
          to = here.to;
          left = here.left;
          answered = here.answered;
        }
    acts_on number (Acts.and_then hand between fin held held_more doer mid after first rest before behind one two) me deadline seat next exact
        answers more along others from left was =
        let begins = acting_path count who hand between held doer mid first before one me deadline seat in
        let early : List (Hold SegsView) = holds_from who None before in
        let late : List (Hold SegsView) = holds_from who None behind in
        let all : holds_from who None (before ++ behind) ≡ early ++ late = holds_then behind begins.path in
        let both : AreLeft who last (early ++ (late ++ others)) from =
        subst (λ holds. AreLeft who last holds from) (ap (λ holds. holds ++ others) all ∙ append_assoc early late others) left in
        let on : NoneElseGrowsAlong who hand (before ++ (behind ++ more)) =
        subst (NoneElseGrowsAlong who hand) (append_assoc before behind more) along in
        let deadline_on : mid.party.deadline ≤ longest = omega (arith, deadline, begins.deadline) in
        let later : ℕ = number + length (numbered_in first) in
        let least_one = acts_rise one me deadline seat in
        let least_two = acts_rise two (begins.me ∙ me) deadline_on begins.behind in
        let whole = long first rest in
        let here =
        acts_on number one me deadline seat next (omega (arith, exact, least_two, whole))
        (front_answered last.log last.asks who number first rest answers) (behind ++ more) on (late ++ others) from both was in
        let further =
        acts_on later two (begins.me ∙ me) deadline_on begins.behind (omega (arith, next, exact, least_one, least_two, whole))
        (omega (arith, exact, least_one, whole)) (behind_answered last.log last.asks who number later first rest refl answers) more
        (growths_acts who one (behind ++ more) on) others here.to here.left here.answered in
        record {
          does = subst (DoesInHolds who number (first ++ rest)) (sym all)
              (does_then who later rest late further.does here.does refl);
          to = further.to;
          left = further.left;
          answered = further.answered;
        }
