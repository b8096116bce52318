-- Each ask of a participant has its outcome where the outcomes of notices were told: no notice of it has the number of an ask.
use Rattle.std.proofs.Common.{◌≡◌, ◌∙◌, ◌==◌, ◌&&◌, ℕ, zero, suc, ◌+◌, ◌-◌, ◌≤◌, Bool, true, false, true≢false, not, cond, List, [], ◌∷◌, ◌++◌, length, map, Option, Some, Contains, inl, inr, refl, ap, sym, subst, arith, append-nil, append_assoc, eq-eqb}
use Rattle.std.specs.List.{find, slice_get}
use Rattle.std.proofs.lemmas.Bool.{and_from, and_parts, eqb-true, not-true}
use Rattle.std.proofs.lemmas.List.Elements.{Contains-append_cases}
use Rattle.std.proofs.lemmas.Option.{same_Some}
use Rattle.hp_base.specs.declared.plan.Action.{Action}
use Rattle.hp_base.specs.declared.row.Run.{Run}
use Rattle.hp_frame.specs.declared.frame.Frame.{Frame}
use Rattle.hp_hall.specs.Mail.{MailStep, Notes, Posts}
use Rattle.hp_heap.proofs.AllocFacts.ChoiceLaw.{Contains-cases, Contains-none}
use Rattle.hp_heap.proofs.Members.{find_some}
use Rattle.hp_mail.specs.declared.posted.Posted.{Posted}
use Rattle.hp_segs.specs.SegsView.{SegsView, grants_or_refuses, is_grant_or_refusal, is_outcome_for, is_stale}
use Rattle.hp_segs.specs.declared.outcome.AskLog.{AskLog}
use Rattle.hp_segs.specs.declared.outcome.Outcome.{Outcome}
use Rattle.hp_segs.specs.declared.outcome.Outcome.TheVariants.{Freed, Granted, Refused, Stale}
use Rattle.hp_serve.proofs.AskingFacts.AskLooks.{any_of_found, narrower}
use Rattle.hp_serve.specs.Asking.{free_body}
use Rattle.hp_serve.specs.Frames.{Says}
use Rattle.hp_serve.specs.Serving.{gives_segments, takes_segments}
use Rattle.hp_serve.specs.declared.pages_asked.PagesAsked.{PagesAsked}
use Rattle.hp_proc.specs.Courses.{numbered_in}
use Rattle.hp_proc.specs.Doing.{Done}
use Rattle.hp_proc.specs.Doing.Done.{Asked, Called, CaughtUp, ChunkMapped, GaveUp, HeapSeen, Looked, NamesChanged, NamesRead, RangePlanned, StatsRead}
use Rattle.thm_run.proofs.InTurnByHolds.ActsInHolds.{path_rises}
use Rattle.thm_run.proofs.TracesTold.AnsweredTrace.{all_have}
use Rattle.thm_run.proofs.InTurnByHolds.HoldsLeft.{find_wider}
use Rattle.thm_run.proofs.TracesTold.Numbers.{numbered_both}
use Rattle.thm_run.proofs.TracesTold.ToldNumbers.{HoldMore, MailMore, gives_tells, heap_tells, hold_more, mail_more, mail_tells, notes_tell, quiet_more, takes_tells}
use Rattle.thm_run.specs.OwnLines.{AnswersByTold}
use Rattle.thm_run.specs.Seats.{Handles, Mails, SeatTrace, Quietly, Seat}
use Rattle.thm_run.specs.Told.{IsCounted, TellsIn}

-- WHAT COMES TO A TRACE

-- more was done
record IsFurther (old new : Seat) : Type 0 where
  pub more : List Done
  pub is : new.trace ≡ old.trace ++ more

further_same : (seat : Seat) → IsFurther seat seat
further_same seat = record { more = []; is = sym (append-nil seat.trace) }

further_then : (old mid new : Seat) → IsFurther old mid → IsFurther mid new → IsFurther old new
further_then old mid new here there = record {
  more = here.more ++ there.more;
  is = there.is ∙ (ap (λ trace. trace ++ there.more) here.is ∙ append_assoc old.trace here.more there.more);
}

further_quiet : {old new : Seat} → Quietly old new → IsFurther old new
further_quiet (Quietly.hears seat answered) = record { more = []; is = sym (append-nil seat.trace) }
further_quiet (Quietly.counts seat sent) = record { more = []; is = sym (append-nil seat.trace) }
further_quiet (Quietly.calls seat heap call answer none) = record { more = Called heap call answer ∷ []; is = refl }
further_quiet (Quietly.notes seat elements chunks) = record { more = []; is = sym (append-nil seat.trace) }
further_quiet (Quietly.reads_names seat names) = record { more = NamesRead names ∷ []; is = refl }
further_quiet (Quietly.reads_stats seat heap counted) = record { more = StatsRead heap counted ∷ []; is = refl }
further_quiet (Quietly.changes_names seat change) = record { more = NamesChanged change ∷ []; is = refl }
further_quiet (Quietly.sees_heap seat heap history) = record { more = HeapSeen heap history ∷ []; is = refl }
further_quiet (Quietly.plans_range seat addr len page plan) = record { more = RangePlanned addr len page plan ∷ []; is = refl }
further_quiet (Quietly.maps_chunk seat chunk maps ended is) = record { more = ChunkMapped chunk ended ∷ []; is = refl }
further_quiet (Quietly.leaves_chunk seat chunk maps is) = record { more = []; is = sym (append-nil seat.trace) }
further_quiet (Quietly.ends_line seat deed given) = record { more = []; is = sym (append-nil seat.trace) }

further_mail : {who : ℕ} {old new : Seat} {step : MailStep} → Mails who old new step → IsFurther old new
further_mail (Mails.notes seat note) = further_same seat
further_mail (Mails.finds_nothing seat) = further_same seat
further_mail (Mails.fetches seat frame) = record { more = []; is = sym (append-nil seat.trace) }
further_mail (Mails.asks seat ask frame action posted its says) = further_same seat
further_mail (Mails.tells seat heap run frame action posted says) = record { more = GaveUp heap run ∷ []; is = refl }
further_mail (Mails.speaks seat to frame body action posted nothing says) = further_same seat

further_hold : {count who : ℕ} {old new : Seat} {taken given : SegsView} → Handles count who old new taken given → IsFurther old new
further_hold (Handles.looks seat segs) = further_same seat
further_hold (Handles.moves_ranges seat segs ranges moves) = further_same seat
further_hold (Handles.steps seat segs event core primary its knows denied may) = record { more = []; is = sym (append-nil seat.trace) }
further_hold (Handles.maps seat segs caught table now core primary its up) = record { more = []; is = sym (append-nil seat.trace) }
further_hold (Handles.follows seat segs caught table member up) = record { more = []; is = sym (append-nil seat.trace) }
further_hold (Handles.arms seat segs asked run number is) = record { more = Asked asked run ∷ []; is = refl }
further_hold (Handles.claims seat segs) = further_same seat
further_hold (Handles.settles seat segs since now late) = further_same seat
further_hold (Handles.cuts seat segs heap addr run) = record { more = Called heap _ _ ∷ []; is = refl }
further_hold (Handles.attaches seat segs caught after tried) =
    record { more = Looked (length segs.log) ∷ CaughtUp (length segs.log) caught ∷ []; is = refl }
further_hold (Handles.detaches seat segs told secondary none heard) = record { more = []; is = sym (append-nil seat.trace) }

further_path : {count who : ℕ} {old new : Seat} {steps : List MailStep} → SeatTrace count who old new steps → IsFurther old new
further_path (SeatTrace.ends seat) = further_same seat
further_path (SeatTrace.quietly old mid new steps did path) = further_then old mid new (further_quiet did) (further_path path)
further_path (SeatTrace.holds old new step steps is path) = further_path path
further_path (SeatTrace.mails old mid new step steps did path) = further_then old mid new (further_mail did) (further_path path)
further_path (SeatTrace.handles old mid new taken given held steps did path) =
    further_then old mid new (further_hold did) (further_path path)

-- WHAT STANDS AT A NUMBER THAT IS TOLD

-- a notice stands at that number
record IsNoticeAt (number : ℕ) (trace : List Done) : Type 0 where
  pub heap : ℕ
  pub run : Run
  pub there : slice_get (numbered_in trace) (number - 1) ≡ Some (GaveUp heap run)

next_of_all : {X : Type 0} (front : List X) (x : X) (rest : List X) (place : ℕ) → place ≡ length front
    → slice_get (front ++ x ∷ rest) place ≡ Some x
next_of_all [] x rest zero is = refl
next_of_all [] x rest (suc place) is = absurd (omega (arith, is))
next_of_all (y ∷ front) x rest zero is = absurd (omega (arith, is))
next_of_all (y ∷ front) x rest (suc place) is = next_of_all front x rest place (omega (arith, is))

-- the number that comes next after those of a trace, where a notice is what follows there
notice_next : (number heap : ℕ) (run : Run) (old mid new : Seat) → number ≡ length (numbered_in old.trace) + 1
    → mid.trace ≡ old.trace ++ GaveUp heap run ∷ [] → IsFurther mid new → IsNoticeAt number new.trace
notice_next number heap run old mid new which is on =
    let whole : numbered_in new.trace ≡ numbered_in old.trace ++ GaveUp heap run ∷ numbered_in on.more =
    ap numbered_in (on.is ∙ (ap (λ trace. trace ++ on.more) is ∙ append_assoc old.trace (GaveUp heap run ∷ []) on.more))
    ∙ numbered_both old.trace (GaveUp heap run ∷ on.more) in
    record {
      heap = heap;
      run = run;
      there = ap (λ numbered. slice_get numbered (number - 1)) whole
          ∙ next_of_all (numbered_in old.trace) (GaveUp heap run) (numbered_in on.more) (number - 1) (omega (arith, which));
    }

-- a notice that takes that number
record TakesIt (number : ℕ) (old new : Seat) : Type 0 where
  pub heap : ℕ
  pub run : Run
  pub is : new.trace ≡ old.trace ++ GaveUp heap run ∷ []

number_same : (n number : ℕ) → n + 1 ≡ number → n ≡ number → ⊥
number_same n number next same = omega (arith, next, same)

takes_it : {who : ℕ} {old new : Seat} {step : MailStep} (number : ℕ) → Mails who old new step → old.party.asked + 1 ≡ number
    → new.party.asked ≡ number → TakesIt number old new
takes_it number (Mails.notes seat note) before after = absurd (number_same seat.party.asked number before after)
takes_it number (Mails.finds_nothing seat) before after = absurd (number_same seat.party.asked number before after)
takes_it number (Mails.fetches seat frame) before after = absurd (number_same seat.party.asked number before after)
takes_it number (Mails.asks seat ask frame action posted its says) before after =
    absurd (number_same seat.party.asked number before after)
takes_it number (Mails.tells seat heap run frame action posted says) before after = record { heap = heap; run = run; is = refl }
takes_it number (Mails.speaks seat to frame body action posted nothing says) before after =
    absurd (number_same seat.party.asked number before after)

-- a piece after which no more numbers are taken than things are done takes no more either
counted_mail : (old mid : Seat) → MailMore old mid → IsCounted old → IsCounted mid
counted_mail old mid (MailMore.none more) was = omega (arith, more.asked, more.numbered, was)
counted_mail old mid (MailMore.one more) was = omega (arith, more.asked, more.numbered, was)

counted_hold : (who : ℕ) (old mid new : Seat) (taken : SegsView) → HoldMore who old mid taken
    → mid.party.asked + length (numbered_in new.trace) ≤ new.party.asked + length (numbered_in mid.trace) → IsCounted old → IsCounted new
    → IsCounted mid
counted_hold who old mid new taken (HoldMore.none more) rises was now = omega (arith, more.asked, more.numbered, was)
counted_hold who old mid new taken (HoldMore.arms asked numbered) rises was now = omega (arith, asked, numbered, rises, was, now)

module _ (count who number its_heap : ℕ) (its_run : Run) (frame : Frame) (action : Action) (posted : Posted)
    (says : Says frame (free_body who number its_heap its_run)) where
  abbrev told : MailStep
  told = Posts 0 frame action posted

  told_at : {old new : Seat} {steps : List MailStep} → SeatTrace count who old new steps → Contains steps told → IsCounted old → IsCounted new
      → IsNoticeAt number new.trace
  told_at (SeatTrace.ends seat) among was now = absurd (Contains-none told among)
  told_at (SeatTrace.quietly old mid new steps did path) among was now =
      let more = quiet_more did in
      told_at path among (omega (arith, more.asked, more.numbered, was)) now
  told_at (SeatTrace.holds old new step steps is path) among was now = elim (Contains-cases step told steps among) [
    | inl same ↦ absurd (heap_tells who number its_heap its_run frame action posted says step is same)
    | inr rest ↦ told_at path rest was now
  ]
  told_at (SeatTrace.mails old mid new step steps did path) among was now = elim (Contains-cases step told steps among) [
    | inl same ↦
        let tells = mail_tells who number its_heap its_run frame action posted says did same in
        let takes = takes_it number did tells.before tells.after in
        notice_next number takes.heap takes.run old mid new (omega (arith, tells.before, was)) takes.is (further_path path)
    | inr rest ↦ told_at path rest (counted_mail old mid (mail_more did) was) now
  ]
  told_at (SeatTrace.handles old mid new taken given held steps did path) among was now =
      let later : Contains steps told = elim (Contains-cases (takes_segments taken) told
      (map Notes held ++ (gives_segments given ∷ steps)) among) [
        | inl same ↦ absurd (takes_tells who number its_heap its_run frame action posted says taken same)
        | inr rest ↦ elim (Contains-append_cases (map Notes held) (gives_segments given ∷ steps) told rest) [
          | inl noted ↦ absurd (notes_tell who number its_heap its_run frame action posted says held noted)
          | inr more ↦ elim (Contains-cases (gives_segments given) told steps more) [
            | inl same ↦ absurd (gives_tells who number its_heap its_run frame action posted says given same)
            | inr on ↦ on
          ]
        ]
      ] in
      told_at path later (counted_hold who old mid new taken (hold_more did) (path_rises path) was now) now

-- THE OUTCOME OF AN ASK

stronger_by : {X : Type 0} (p q : X → Bool) (x y : X) (ys : List X) (strong weak : Bool) → p y ≡ strong → q y ≡ weak
    → (p y ≡ true → q y ≡ true) → p x ≡ true → (find q ys ≡ Some x → find p ys ≡ Some x) → cond weak (Some y) (find q ys) ≡ Some x
    → cond strong (Some y) (find p ys) ≡ Some x
stronger_by p q x y ys true true is its implies passes rest found = found
stronger_by p q x y ys false false is its implies passes rest found = rest found
stronger_by p q x y ys true false is its implies passes rest found =
    let wrong : true ≡ false = sym (implies is) ∙ its in
    absurd (true≢false wrong)
stronger_by p q x y ys false true is its implies passes rest found =
    let same : y ≡ x = same_Some y x found in
    let wrong : true ≡ false = sym passes ∙ (ap p (sym same) ∙ is) in
    absurd (true≢false wrong)

-- what is found by a weaker test and passes a stronger one is what is found by that
find_stronger : {X : Type 0} (p q : X → Bool) → ((x : X) → p x ≡ true → q x ≡ true) → (x : X) → p x ≡ true → (xs : List X)
    → find q xs ≡ Some x → find p xs ≡ Some x
find_stronger p q implies x passes [] found = found
find_stronger p q implies x passes (y ∷ ys) found =
    stronger_by p q x y ys (p y) (q y) refl refl (implies y) passes (find_stronger p q implies x passes ys) found

-- the outcome that is found of a number is a grant or a refusal, where no notice of that number was told
module _ (who number : ℕ) (asks : List AskLog) (entry : AskLog) (found : find (is_outcome_for who number) asks ≡ Some entry)
    (none : (generation : ℕ) → entry.outcome ≡ Freed generation → ⊥) where
  its : (is_outcome_for who number entry ≡ true) × Contains asks entry
  its = find_some (is_outcome_for who number) asks entry found

  pub its_from : entry.from ≡ who
  its_from =
      eqb-true entry.from who
      (and_parts (entry.from == who) ((entry.number == number) && not (is_stale entry.outcome)) its.0).0

  rest : ((entry.number == number) ≡ true) × (not (is_stale entry.outcome) ≡ true)
  rest =
      and_parts (entry.number == number) (not (is_stale entry.outcome))
      (and_parts (entry.from == who) ((entry.number == number) && not (is_stale entry.outcome)) its.0).1

  shown : (outcome : Outcome) → entry.outcome ≡ outcome → is_stale outcome ≡ false → is_grant_or_refusal outcome ≡ true
  shown (Granted generation) is fresh = refl
  shown (Refused cause) is fresh = refl
  shown (Stale done) is fresh = absurd (true≢false fresh)
  shown (Freed generation) is fresh = absurd (none generation is)

  grants : grants_or_refuses who number entry ≡ true
  grants =
      and_from (entry.from == who) ((entry.number == number) && is_grant_or_refusal entry.outcome) (eq-eqb entry.from who its_from)
      (and_from (entry.number == number) (is_grant_or_refusal entry.outcome) rest.0
      (shown entry.outcome refl (not-true (is_stale entry.outcome) rest.1)))

  pub first_shown : find (grants_or_refuses who number) asks ≡ Some entry
  first_shown = find_stronger (grants_or_refuses who number) (is_outcome_for who number) (narrower who number) entry grants asks found

no_notice : (number heap : ℕ) (run : Run) (numbered : List Done) (asked : PagesAsked) (got : Option Run)
    → slice_get numbered number ≡ Some (GaveUp heap run) → slice_get numbered number ≡ Some (Asked asked got) → ⊥
no_notice number heap run numbered asked got one other =
    let wrong : Some (GaveUp heap run) ≡ Some (Asked asked got) = sym one ∙ other in
    never wrong
  where
    never : {heap : ℕ} {run : Run} {asked : PagesAsked} {got : Option Run} → Some (GaveUp heap run) ≡ Some (Asked asked got) → ⊥
    never wrong = cc

pub answers_by_told : AnswersByTold
answers_by_told count who first last steps segs path unasked none counted asked freed place wanted run there =
    let has = all_have segs.log segs.asks who last.party.asked last.trace asked counted place wanted run there in
    let any = any_of_found (grants_or_refuses who (place + 1)) segs.asks has.entry has.logged in
    let found =
    find_wider (grants_or_refuses who (place + 1)) (is_outcome_for who (place + 1)) (narrower who (place + 1)) segs.asks any in
    let shown =
    first_shown who (place + 1) segs.asks found.0 found.1 (λ generation is. not_told found.0 found.1 generation is) in
    let same : found.0 ≡ has.entry = same_Some found.0 has.entry (sym shown ∙ has.logged) in
    record {
      entry = has.entry;
      logged = found.1 ∙ ap (λ (entry : AskLog). Some entry) same;
      kept = has.kept;
      given = has.given;
    }
  where
    start : IsCounted first
    start = unasked ∙ ap (λ trace. length (numbered_in trace)) (sym none)

    its_number : (entry : AskLog) → is_outcome_for who (place + 1) entry ≡ true → (entry.from ≡ who) × (entry.number ≡ place + 1)
    its_number entry is =
        let both = and_parts (entry.from == who) ((entry.number == place + 1) && not (is_stale entry.outcome)) is in
        let rest = and_parts (entry.number == place + 1) (not (is_stale entry.outcome)) both.1 in
        (eqb-true entry.from who both.0, eqb-true entry.number (place + 1) rest.0)

    -- a notice of that number would stand where the ask does
    told_wrong : TellsIn who (place + 1) (steps who) → ⊥
    told_wrong tells =
        let notice =
        told_at count who (place + 1) tells.heap tells.run tells.frame tells.action tells.posted tells.says path tells.there start counted in
        let at : place + 1 - 1 ≡ place = omega arith in
        no_notice place notice.heap notice.run (numbered_in last.trace) wanted run
        (subst (λ place. slice_get (numbered_in last.trace) place ≡ Some (GaveUp notice.heap notice.run)) at notice.there) there

    not_told : (entry : AskLog) → find (is_outcome_for who (place + 1)) segs.asks ≡ Some entry → (generation : ℕ)
        → entry.outcome ≡ Freed generation → ⊥
    not_told entry found generation is =
        let passes = find_some (is_outcome_for who (place + 1)) segs.asks entry found in
        let whose = its_number entry passes.0 in
        told_wrong (subst (λ number. TellsIn who number (steps who)) whose.1
        (subst (λ from. TellsIn from entry.number (steps from)) whose.0 (freed entry generation passes.1 is)))
