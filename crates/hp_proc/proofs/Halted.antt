-- What was done of a line that ends without an answer joins with what was done before and after it.
use Rattle.std.proofs.Common.{◌≡◌, ◌∙◌, ℕ, ◌+◌, List, [], ◌∷◌, ◌++◌, length, append-nil, append_assoc, Option, None, refl, ap, sym, subst, ◌<◌, drop, get_or, map, take}
use Rattle.std.proofs.lemmas.List.{length-append}
use Rattle.hp_hall.specs.HallState.{HallState}
use Rattle.hp_hall.specs.Mail.{MailStep}
use Rattle.hp_hall.proofs.HallStates.{did_then}
use Rattle.hp_script.specs.declared.line.Line.{Line}
use Rattle.hp_proc.specs.LineTrees.{doing_of}
use Rattle.hp_proc.specs.Denying.{denials_of}
use Rattle.hp_serve.specs.Party.{IsSameParty}
use Rattle.hp_serve.specs.Waiting.{IsTurned}
use Rattle.hp_serve.proofs.Carrying.{same_then}
use Rattle.hp_proc.specs.Acting.{Acts}
use Rattle.hp_proc.specs.Contexts.{AreFactsOf, Context, after_calls}
use Rattle.hp_proc.specs.Courses.{OwnCall, calls_in}
use Rattle.hp_proc.specs.Doing.{Doing, Done, Leads}
use Rattle.hp_proc.specs.Halting.{ActsOn, Halts, HaltsLine}
use Rattle.hp_proc.specs.Histories.{entries_for}
use Rattle.hp_proc.specs.LineInHall.{did_in, moment}
use Rattle.hp_proc.specs.Lines.{Facts}
use Rattle.hp_proc.specs.ParticipantView.{ParticipantView}
use Rattle.hp_proc.specs.Progress.{AreOnce, Does, Moment, doer_at}
use Rattle.hp_proc.proofs.HallMoments.{told_alike}
use Rattle.hp_proc.proofs.Joining.{calls_on, context_joined, context_still, does_same, entries_joined, goes_as}
use Rattle.hp_proc.proofs.LawLemmas.{leads_on}
use Rattle.hp_proc.proofs.HandFacts.OnceHeld.{heaps_more, heaps_whole, once_none}
use Rattle.hp_proc.proofs.LinesOrdered.{halts_ordered}

-- what was done of an answered line, as a front
pub halts_of : {held : List ℕ} (count : ℕ) (did : List MailStep → Type 0) (doing rest : Doing) (old new : Moment)
    → Does held count did doing rest old new → Halts held count did doing old new
halts_of {held} count did doing rest old new does = record {
  rest = rest;
  trace = does.trace;
  steps = does.steps;
  held = held;
  others = [];
  front = sym (append-nil held);
  leads = does.leads;
  made = does.made;
  acts = ActsOn.acts old.hand new.hand held (doer_at old) (doer_at new) does.trace does.steps does.acts;
  entries = does.entries;
  counted = does.counted;
  same = does.same;
}

-- nothing was done
pub halts_same : (heaps : List ℕ) (count : ℕ) (did : List MailStep → Type 0) (doing : Doing) (moment : Moment) → did []
    → Halts heaps count did doing moment moment
halts_same heaps count did doing moment none =
    let does = does_same count did doing moment none in
    record {
      rest = doing;
      trace = does.trace;
      steps = does.steps;
      held = [];
      others = heaps;
      front = refl;
      leads = does.leads;
      made = does.made;
      acts = ActsOn.acts moment.hand moment.hand [] (doer_at moment) (doer_at moment) does.trace does.steps does.acts;
      entries = does.entries;
      counted = does.counted;
      same = does.same;
    }

-- nothing of what was to do was done, and it stopped over the next thing, by which no heap was taken
pub halts_by : (heaps : List ℕ) (count : ℕ) (did : List MailStep → Type 0) (doing : Doing) (old new : Moment) (steps : List MailStep) → did steps
    → ActsOn count old.hand new.hand [] (doer_at old) (doer_at new) [] steps
    → ((heap : ℕ) → (new.parts heap).entries ≡ (old.parts heap).entries) → IsSameParty old.party new.party → new.context ≡ old.context
    → Halts heaps count did doing old new
unfolding Leads
halts_by heaps count did doing old new steps made stopped entries same known = record {
  rest = doing;
  trace = [];
  steps = steps;
  held = [];
  others = heaps;
  front = refl;
  leads = refl;
  made = made;
  acts = stopped;
  entries = λ heap. entries heap ∙ sym (append-nil (old.parts heap).entries);
  counted = context_still old.context new.context known;
  same = same;
}

-- turns were waited, and somebody stopped in the next one
pub stops_more : (count counted until : ℕ) (doer mid after : ParticipantView) (first last : List MailStep) → counted ≡ count
    → after.context ≡ mid.context → Acts count None None [] doer mid [] first
    → IsTurned (denials_of mid.context.standing) counted until mid.party after.party last None
    → ActsOn count None None [] doer after [] (first ++ last)
stops_more count counted until doer mid after first last same knew here turned =
    ActsOn.and_then None None None [] [] doer mid after [] [] first last here
    (subst (λ (after : ParticipantView). ActsOn count None None [] mid after [] last) (goes_as mid after knew)
    (ActsOn.turn_stops until mid after.party last (subst (λ (count : ℕ). IsTurned
    (denials_of mid.context.standing) count until mid.party after.party last None) same turned)))

-- what two stretches of a line come to, one after the other
module _ (old mid new : Moment) (first rest : List Done) (here : IsSameParty old.party mid.party)
    (counted : mid.context ≡ record (after_calls (length (calls_in first)) old.context) { standing = mid.context.standing })
    (more : new.context ≡ record (after_calls (length (calls_in rest)) mid.context) { standing = new.context.standing }) where
  calls_are : calls_in (first ++ rest) ≡ calls_in first ++ calls_in rest
  calls_are = calls_on first rest

  length_is : length (calls_in first) + length (calls_in rest) ≡ length (calls_in (first ++ rest))
  length_is = sym (ap (λ (calls : List OwnCall). length calls) calls_are ∙ length-append (calls_in first) (calls_in rest))

  both_counted : new.context ≡ record (after_calls (length (calls_in (first ++ rest))) old.context) { standing = new.context.standing }
  both_counted =
      subst (λ (calls : ℕ). new.context ≡ record (after_calls calls old.context) { standing = new.context.standing }) length_is
      (context_joined (length (calls_in first)) (length (calls_in rest)) old.context mid.context new.context counted more)

  both_entries : ((heap : ℕ) → (mid.parts heap).entries
      ≡ (old.parts heap).entries ++ entries_for old.party.me heap (old.context.calls + 1) (calls_in first))
      → ((heap : ℕ) → (new.parts heap).entries
      ≡ (mid.parts heap).entries ++ entries_for mid.party.me heap (mid.context.calls + 1) (calls_in rest))
      → (heap : ℕ) → (new.parts heap).entries
      ≡ (old.parts heap).entries ++ entries_for old.party.me heap (old.context.calls + 1) (calls_in (first ++ rest))
  both_entries before behind heap =
      entries_joined old.party.me mid.party.me heap old.context.calls mid.context.calls (calls_in first) (calls_in rest)
      (old.parts heap).entries (mid.parts heap).entries (new.parts heap).entries here.me
      (ap (λ (context : Context). context.calls) counted) (before heap) (behind heap)
      ∙ ap (λ (calls : List OwnCall). (old.parts heap).entries ++ entries_for old.party.me heap (old.context.calls + 1) calls) (sym calls_are)

module _ (count : ℕ) (here_did there_did did : List MailStep → Type 0) (old mid new : Moment)
    (join : (first second : List MailStep) → here_did first → there_did second → did (first ++ second)) where
  -- what was done before that stopped
  pub then_halts : {held : List ℕ} (heaps : List ℕ) (doing left : Doing) → Does held count here_did doing left old mid
      → Halts heaps count there_did left mid new → Halts (held ++ heaps) count did doing old new
  then_halts {held} heaps doing left here there = record {
    rest = there.rest;
    trace = here.trace ++ there.trace;
    steps = here.steps ++ there.steps;
    held = held ++ there.held;
    others = there.others;
    front = ap (λ (heaps : List ℕ). held ++ heaps) there.front ∙ sym (append_assoc held there.held there.others);
    leads = leads_on doing here.trace there.trace left there.rest here.leads there.leads;
    made = join here.steps there.steps here.made there.made;
    acts = ActsOn.and_then old.hand mid.hand new.hand held there.held (doer_at old) (doer_at mid) (doer_at new) here.trace there.trace
        here.steps there.steps here.acts there.acts;
    entries = both_entries old mid new here.trace there.trace here.same here.counted there.counted here.entries there.entries;
    counted = both_counted old mid new here.trace there.trace here.same here.counted there.counted;
    same = same_then old.party mid.party new.party here.same there.same;
  }

  -- what was done after that, over which nobody stopped, and by which no heap was taken
  pub halts_then : (heaps : List ℕ) (doing : Doing) (here : Halts heaps count here_did doing old mid) (rest : Doing)
      → Does [] count there_did here.rest rest mid new → Halts heaps count did doing old new
  halts_then heaps doing here rest there = record {
    rest = rest;
    trace = here.trace ++ there.trace;
    steps = here.steps ++ there.steps;
    held = here.held;
    others = here.others;
    front = here.front;
    leads = leads_on doing here.trace there.trace here.rest rest here.leads there.leads;
    made = join here.steps there.steps here.made there.made;
    acts = ActsOn.ends_with old.hand mid.hand new.hand here.held (doer_at old) (doer_at mid) (doer_at new) here.trace there.trace here.steps
        there.steps here.acts there.acts;
    entries = both_entries old mid new here.trace there.trace here.same here.counted there.counted here.entries there.entries;
    counted = both_counted old mid new here.trace there.trace here.same here.counted there.counted;
    same = same_then old.party mid.party new.party here.same there.same;
  }

  -- and in both cases its trace is that of the one and then of the other
  pub then_halts_trace : {held : List ℕ} (heaps : List ℕ) (doing left : Doing) (here : Does held count here_did doing left old mid)
      (there : Halts heaps count there_did left mid new) → (then_halts {held = held} heaps doing left here there).trace ≡ here.trace ++ there.trace
  unfolding then_halts
  then_halts_trace heaps doing left here there = refl

  pub halts_then_trace : (heaps : List ℕ) (doing : Doing) (here : Halts heaps count here_did doing old mid) (rest : Doing)
      (there : Does [] count there_did here.rest rest mid new) → (halts_then heaps doing here rest there).trace ≡ here.trace ++ there.trace
  unfolding halts_then
  halts_then_trace heaps doing here rest there = refl

-- in a hall: what stopped joins with what was done before it, and what was done after with what stopped
module _ (heaps : List ℕ) (first second third : HallState) (now who : ℕ) (mid behind : Moment → Moment) (doer after : ParticipantView) (old : Moment)
    (doing : Doing) (same : now ≡ who) (many : second.count ≡ first.count) where
  pub halts_more : {held : List ℕ} (left : Doing) → Does held first.count (did_in who first second) doing left old (mid (moment who doer second))
      → Halts heaps second.count (did_in now second third) left (mid (moment now doer second)) (behind (moment now after third))
      → Halts (held ++ heaps) first.count (did_in who first third) doing old (behind (moment who after third))
  halts_more left here there =
      then_halts first.count (did_in who first second) (did_in who second third) (did_in who first third) old (mid (moment who doer second))
      (behind (moment who after third)) (λ one two. did_then) heaps doing left here
      (told_alike (λ count did before later. Halts heaps count did left before later) second.count first.count second third now who mid behind doer
      after same many there)

  pub halts_on : Halts heaps first.count (did_in who first second) doing old (mid (moment who doer second))
      → ((rest : Doing) → Does [] second.count (did_in now second third) rest rest (mid (moment now doer second)) (behind (moment now after third)))
      → Halts heaps first.count (did_in who first third) doing old (behind (moment who after third))
  halts_on here there =
      halts_then first.count (did_in who first second) (did_in who second third) (did_in who first third) old (mid (moment who doer second))
      (behind (moment who after third)) (λ one two. did_then) heaps doing here here.rest
      (told_alike (λ count did before later. Does [] count did here.rest here.rest before later) second.count first.count second third now who mid
      behind doer after same many (there here.rest))

-- no more heaps than these are taken, where a front of fewer is
pub halts_within : (heaps more : List ℕ) (count : ℕ) (did : List MailStep → Type 0) (doing : Doing) (old new : Moment)
    → Halts heaps count did doing old new → Halts (heaps ++ more) count did doing old new
halts_within heaps more count did doing old new halts = record {
  rest = halts.rest;
  trace = halts.trace;
  steps = halts.steps;
  held = halts.held;
  others = halts.others ++ more;
  front = ap (λ (front : List ℕ). front ++ more) halts.front ∙ append_assoc halts.held halts.others more;
  leads = halts.leads;
  made = halts.made;
  acts = halts.acts;
  entries = halts.entries;
  counted = halts.counted;
  same = halts.same;
}

-- what was done of a line's tree, by what is known when it begins
pub line_halted : (count : ℕ) (did : List MailStep → Type 0) (line : Line) (old new : Moment) (facts : Facts)
    → AreFactsOf old.party.socket old.context line facts → (doing : Doing) → doing ≡ doing_of line line.act facts → old.hand ≡ None
    → (heaps : List ℕ) × AreOnce heaps × Halts heaps count did doing old new → HaltsLine count did line old new
line_halted count did line old new facts known doing is empty stopped =
    let halts : Halts stopped.0 count did (doing_of line line.act facts) old new =
    subst (λ (doing : Doing). Halts stopped.0 count did doing old new) is stopped.2 in
    record {
      facts = facts;
      known = known;
      heaps = stopped.0;
      once = stopped.1;
      halts = halts;
      order = halts_ordered count
          (subst (λ (hand : Option ℕ). ActsOn count hand new.hand halts.held (doer_at old) (doer_at new) halts.trace halts.steps) empty halts.acts);
    }

-- nothing was done of it
pub nothing_halts : (count : ℕ) (did : List MailStep → Type 0) (line : Line) (moment : Moment) (facts : Facts) → did []
    → AreFactsOf moment.party.socket moment.context line facts → moment.hand ≡ None → HaltsLine count did line moment moment
nothing_halts count did line moment facts none known empty =
    line_halted count did line moment moment facts known (doing_of line line.act facts) refl empty
    ([], once_none, halts_same [] count did (doing_of line line.act facts) moment none)

-- it stopped over one of some places, after those before it
pub halts_among : {X : Type 0} (heap_of : X → ℕ) (places : List X) (index : ℕ) (place : X) (count : ℕ) (did : List MailStep → Type 0) (doing : Doing)
    (old new : Moment) → index < length places
    → Halts (map heap_of (take index places) ++ heap_of (get_or places index place) ∷ []) count did doing old new
    → Halts (map heap_of places) count did doing old new
halts_among heap_of places index place count did doing old new within halts =
    subst (λ (heaps : List ℕ). Halts heaps count did doing old new) (heaps_whole heap_of places (index + 1))
    (halts_within (map heap_of (take (index + 1) places)) (map heap_of (drop (index + 1) places)) count did doing old new
    (subst (λ (heaps : List ℕ). Halts heaps count did doing old new) (heaps_more heap_of places index place within) halts))
