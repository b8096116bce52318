-- What was done with the names and a heap in hand, between taking that heap and giving it back.
use Rattle.std.proofs.Common.{◌≡◌, ◌∙◌, ℕ, ◌+◌, ◌<◌, List, [], ◌∷◌, ◌++◌, length, Option, Some, refl, ap, sym, subst, arith}
use Rattle.hp_base.specs.declared.limits.TheConstants.{MAX_HEAPS}
use Rattle.hp_hall.proofs.HallStates.{did_same, did_then}
use Rattle.hp_hall.specs.HallState.{HallState, OthersStay, SlotsStayBut}
use Rattle.hp_hall.specs.Holding.{HeapPart}
use Rattle.hp_hall.specs.Named.{GivesNames}
use Rattle.hp_hall.specs.declared.slot.TheConstants.{NAMES_SLOT}
use Rattle.hp_heap.specs.History.{HeapView}
use Rattle.hp_script.specs.declared.answer.Answer.TheVariants as answer
use Rattle.hp_zone.specs.declared.names.Names.{Names as NamesView}
use Rattle.hp_proc.specs.Contexts.{Context, after_calls}
use Rattle.hp_proc.specs.Courses.{calls_in}
use Rattle.hp_proc.specs.Doing.{Doing, Done, Goes, Leads}
use Rattle.hp_proc.specs.Halting.{ActsOn}
use Rattle.hp_proc.specs.Heaps.{sockets_of}
use Rattle.hp_proc.specs.Histories.{entries_for}
use Rattle.hp_proc.specs.LineInHall.{HaltsHere, HasCalledBeside, IsBesideTheNames, did_in, moment, moment_with}
use Rattle.hp_proc.specs.NamesInHand.{AgreesStill, DoesNamed, DoesNamedHeld, DoesNamedOnce, HaltsNamed, HasCalledNamed, HasNamesBeside, IsReadyNamed, KeepsAgreed, KeepsNamed, TakesAgreed, entries_in, entries_with}
use Rattle.hp_proc.specs.NamesOfLines.{ChangesNames}
use Rattle.hp_proc.specs.ParticipantView.{ParticipantView}
use Rattle.hp_proc.specs.Progress.{Does, doer_at, with_hand}
use Rattle.hp_proc.proofs.InHandUntold.{changes_between, changes_none, still_leads}
use Rattle.hp_proc.proofs.HandFacts.OnceHeld.{once_none}
use Rattle.hp_proc.proofs.Joining.{does_same, does_still, does_then}
use Rattle.hp_proc.proofs.NamesAround.{names_give_on}

ended_leads : (trace : List Done) (rest : Doing) → Leads (Doing.Ended answer.Done) trace rest → trace ≡ []
unfolding Leads Goes
ended_leads [] rest leads = refl
ended_leads (done ∷ trace) rest leads = absurd leads

-- it stopped before it did anything of its line, so it did nothing with the names
pub named_quiet : {heaps : List ℕ} {me : ℕ} {old new : ParticipantView} {from to : HallState} (names : NamesView)
    → ((doing : Doing) → HaltsHere heaps me old new from to doing) → (doing : Doing) → HaltsNamed heaps me old new names names from to doing
unfolding Leads
named_quiet {heaps} {me} {old} {new} {from} {to} names halts doing =
    let one = halts (Doing.Ended answer.Done) in
    let none = ended_leads one.trace one.rest one.leads in
    let before = moment me old from in
    let behind = moment me new to in
    record {
      halts = record {
        rest = doing;
        trace = [];
        steps = one.steps;
        held = one.held;
        others = one.others;
        front = one.front;
        leads = refl;
        made = one.made;
        acts = subst (λ (trace : List Done). ActsOn from.count before.hand behind.hand one.held (doer_at before) (doer_at behind) trace one.steps) none
            one.acts;
        entries = subst (λ (trace : List Done). (heap : ℕ) → (behind.parts heap).entries
            ≡ (before.parts heap).entries ++ entries_for before.party.me heap (before.context.calls + 1) (calls_in trace)) none one.entries;
        counted = subst (λ (trace : List Done). behind.context
            ≡ record (after_calls (length (calls_in trace)) before.context) { standing = behind.context.standing }) none one.counted;
        same = one.same;
      };
      names = changes_none names;
    }

-- where it stopped before, what came in among the names is allocated still
pub stopped_gives : {heaps : List ℕ} {me : ℕ} {old new : ParticipantView} {from to : HallState} {taken names : NamesView}
    → ((doing : Doing) → HaltsHere heaps me old new from to doing) → GivesNames (entries_in me from) taken names
    → GivesNames (entries_in me to) taken names
stopped_gives {heaps} {me} {old} {new} {from} {to} {taken} {names} halts gives =
    let one = halts (Doing.Ended answer.Done) in
    names_give_on {old = entries_in me from} {new = entries_in me to} {taken = taken} {given = names}
    (λ (at : ℕ). (entries_for old.party.me at (old.context.calls + 1) (calls_in one.trace), one.entries at)) gives

-- the names are in hand beside the heap that was taken
pub beside_taken : (first second : HallState) (doer mid : ParticipantView) (heap : HeapView) (index : ℕ) (was names : NamesView)
    → mid.party.me ≡ doer.party.me
    → ((doing : Doing) → Does (index ∷ []) first.count (did_in doer.party.me first second) doing doing (moment doer.party.me doer first)
    (moment_with heap doer.party.me mid second))
    → GivesNames (entries_in doer.party.me first) was names → GivesNames (entries_with doer.party.me heap second) was names
beside_taken first second doer mid heap index was names here took gives =
    let me = doer.party.me in
    let one = took (Doing.Ended answer.Done) in
    names_give_on {old = entries_in me first} {new = entries_with me heap second} {taken = was} {given = names}
    (λ (at : ℕ). (
      entries_for me at (doer.context.calls + 1) (calls_in one.trace),
      subst (λ (who : ℕ). (with_hand who heap (second.part me) at).entries
          ≡ (first.part me at).entries ++ entries_for me at (doer.context.calls + 1) (calls_in one.trace)) here (one.entries at),
    )) gives

module _ (first second third last : HallState) (doer mid after : ParticipantView) (heap next : HeapView) (names given : NamesView) (index : ℕ)
    (here : mid.party.me ≡ doer.party.me) (there : after.party.me ≡ doer.party.me) (count : second.count ≡ first.count)
    (later : third.count ≡ first.count)
    (took : (doing : Doing) → Does (index ∷ []) first.count (did_in doer.party.me first second) doing doing (moment doer.party.me doer first)
    (moment_with heap doer.party.me mid second))
    (put : (doing : Doing) → Does [] third.count (did_in after.party.me third last) doing doing (moment_with next after.party.me after third)
    (moment after.party.me after last)) where
  abbrev me : ℕ
  me = doer.party.me

  back : (doing : Doing) → Does [] first.count (did_in me third last) doing doing (moment_with next me after third) (moment me after last)
  back doing =
      subst (λ (count : ℕ). Does [] count (did_in me third last) doing doing (moment_with next me after third) (moment me after last)) later
      (subst (λ (who : ℕ). Does [] third.count (did_in who third last) doing doing (moment_with next who after third) (moment who after last)) there
      (put doing))

  module _ (doing rest : Doing) (did : DoesNamedHeld mid.party.me mid after names given heap next second third doing rest) where
    abbrev Middle : ℕ → ℕ → Type 0
    Middle who count =
        (does : Does [] count (did_in who second third) doing rest (moment_with heap who mid second) (moment_with next who after third))
        × ChangesNames names given does.trace

    middle : Middle me first.count
    middle = subst (λ (count : ℕ). Middle me count) count (subst (λ (who : ℕ). Middle who second.count) here (did.does, did.names))

    -- it was done while the heap was taken and given back
    pub named_between : DoesNamed (index ∷ []) me doer after names given first last doing rest
    unfolding does_then
    named_between =
        let front = took doing in
        let behind = back rest in
        record {
          does = does_then first.count (did_in me first third) (did_in me third last) (did_in me first last) doing rest rest (moment me doer first)
              (moment_with next me after third) (moment me after last) (λ one two. did_then)
              (does_then first.count (did_in me first second) (did_in me second third) (did_in me first third) doing doing rest (moment me doer first)
              (moment_with heap me mid second) (moment_with next me after third) (λ one two. did_then) front middle.0)
              behind;
          names = changes_between names given front.trace middle.0.trace behind.trace (still_leads doing front.trace front.leads)
              (still_leads rest behind.trace behind.leads) middle.1;
        }

  -- and alone once that was given back
  pub alone_given : {was : NamesView} → GivesNames (entries_with me next third) was given → GivesNames (entries_in me last) was given
  alone_given {was} gives =
      let one = back (Doing.Ended answer.Done) in
      names_give_on {old = entries_with me next third} {new = entries_in me last} {taken = was} {given = given}
      (λ (at : ℕ). (
        entries_for after.party.me at (after.context.calls + 1) (calls_in one.trace),
        subst (λ (who : ℕ). (last.part me at).entries
            ≡ (with_hand who next (third.part me) at).entries ++ entries_for after.party.me at (after.context.calls + 1) (calls_in one.trace)) there
            (one.entries at),
      )) gives

-- it has the names in hand beside a heap that it took
pub names_beside : {me : ℕ} {doer mid : ParticipantView} {names : NamesView} {heap : HeapView} {first second : HallState}
    → (ready : IsReadyNamed me doer names first) → IsBesideTheNames me first second → mid.context ≡ doer.context → TakesAgreed me heap first second
    → GivesNames (entries_with me heap second) ready.was names → HasNamesBeside me mid names heap second
names_beside {me} {doer} {mid} {names} {heap} {first} {second} ready beside context agreed gives = record {
  told = beside.told ∙ ready.told;
  was = ready.was;
  taken = beside.slot.taken ∙ ready.taken;
  sound = ready.sound;
  goes_on = gives;
  agrees = agreed names ready.agrees;
  sockets = ready.sockets ∙ sym (ap (λ (context : Context). sockets_of context.pools) context);
}

-- and is ready with them again once it gave that back
pub named_again : {me : ℕ} {doer after : ParticipantView} {given : NamesView} {next : HeapView} {first third last : HallState}
    → HasCalledBeside me doer after first last → (has : HasNamesBeside me after given next third) → KeepsAgreed me next third last
    → SlotsStayBut next.plain.index third last → next.plain.index < MAX_HEAPS → GivesNames (entries_in me last) has.was given
    → HasCalledNamed me doer after given last
named_again {me} {doer} {after} {given} {next} {first} {third} {last} called has keeps slots few gives = record {
  same = called.same;
  ready = record {
    but = called.but;
    told = keeps.told ∙ has.told;
    was = has.was;
    taken = slots.taken NAMES_SLOT (λ same. omega (arith, few, same)) ∙ has.taken;
    sound = has.sound;
    goes_on = gives;
    agrees = keeps.agrees given has.agrees;
    sockets = has.sockets;
  };
  context = called.context;
}

-- also where it could not take it
pub named_stopped : {me : ℕ} {doer after : ParticipantView} {names : NamesView} {first last : HallState} → HasCalledBeside me doer after first last
    → (ready : IsReadyNamed me doer names first) → AgreesStill me first last → GivesNames (entries_in me last) ready.was names
    → HasCalledNamed me doer after names last
named_stopped {me} {doer} {after} {names} {first} {last} called ready still gives = record {
  same = called.same;
  ready = record {
    but = called.but;
    told = called.names.told ∙ ready.told;
    was = ready.was;
    taken = called.names.slot.taken ∙ ready.taken;
    sound = ready.sound;
    goes_on = gives;
    agrees = still names ready.agrees;
    sockets = ready.sockets ∙ sym (ap (λ (context : Context). sockets_of context.pools) called.context);
  };
  context = called.context;
}

-- nothing was done
pub named_nothing : (me : ℕ) (doer : ParticipantView) (names : NamesView) (state : HallState) (doing : Doing)
    → DoesNamedOnce me doer doer names names state state doing doing
unfolding does_same does_still
named_nothing me doer names state doing = record {
  does = record { held = []; once = once_none; does = does_same state.count (did_in me state state) doing (moment me doer state) (did_same me state) };
  names = changes_none names;
}
