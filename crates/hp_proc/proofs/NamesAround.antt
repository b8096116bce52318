-- A line that has the names in hand while it does more: it took them, did that, and gave them back.
use Rattle.std.proofs.Common.{◌≡◌, ◌∙◌, ℕ, ◌+◌, List, [], ◌∷◌, ◌++◌, append_assoc, length, map, Option, Some, None, refl, ap, sym, subst, arith}
use Rattle.std.specs.List.{Contains}
use Rattle.std.proofs.lemmas.List.Elements.{Contains-append_left}
use Rattle.hp_hall.specs.Giving.{GivesFor, IsGiveOf}
use Rattle.hp_hall.specs.HallCalls.{HasGiven}
use Rattle.hp_hall.specs.HallState.{Did, HallState, OthersStay, SlotsStayBut, known_to}
use Rattle.hp_hall.specs.Mail.{Gives, MailStep, Takes}
use Rattle.hp_hall.specs.Named.{GivesNames, IsAllocated, NamesSeen}
use Rattle.hp_hall.specs.declared.kept.Kept.{Kept}
use Rattle.hp_hall.specs.declared.kept.Kept.TheVariants.{Names}
use Rattle.hp_hall.specs.declared.slot.TheConstants.{NAMES_SLOT}
use Rattle.hp_hall.proofs.HallStates.{did_then, later_then}
use Rattle.hp_heap.specs.declared.entry.Entry.{Entry}
use Rattle.hp_log.specs.declared.log_record.LogRecord.{LogRecord}
use Rattle.hp_segs.specs.declared.outcome.AskLog.{AskLog}
use Rattle.hp_serve.proofs.Carrying.{same_then}
use Rattle.hp_serve.proofs.InHalls.{tied_later}
use Rattle.hp_zone.specs.declared.names.Names.{Names as NamesView}
use Rattle.hp_zone.specs.declared.zone.Zone.{Zone}
use Rattle.hp_zone.specs.declared.zone.ZoneChange.TheVariants.{Put}
use Rattle.hp_proc.specs.Acting.{Acts, AreAsked}
use Rattle.hp_proc.specs.Contexts.{Context, after_calls}
use Rattle.hp_proc.specs.Courses.{calls_in}
use Rattle.hp_proc.specs.Doing.{Doing, Done, Goes, Leads}
use Rattle.hp_proc.specs.Doing.Done.{NamesRead}
use Rattle.hp_proc.specs.Halting.{ActsOn}
use Rattle.hp_proc.specs.Handing.{shared_of}
use Rattle.hp_proc.specs.Heaps.{sockets_of}
use Rattle.hp_proc.specs.Histories.{entries_for}
use Rattle.hp_proc.specs.LineInHall.{DoesHere, HaltsHere, HoldsNames, IsReadyAgain, IsReadyIn}
use Rattle.hp_proc.specs.Lines.{reading_names}
use Rattle.hp_proc.specs.NamesInHand.{DoesNamed, HaltsNamed, HasCalledNamed, IsReadyNamed, MayGiveNames, entries_in}
use Rattle.hp_proc.specs.OwnChunks.{own_chunk}
use Rattle.hp_proc.specs.ParticipantView.{ParticipantView, with_calls}
use Rattle.hp_proc.specs.SharedNames.{SharedNames}
use Rattle.hp_proc.proofs.Joining.{all_asked_stay}
use Rattle.hp_proc.proofs.LinesInHall.{idle_again}
use Rattle.hp_proc.proofs.NamesHeld.{ready_beside}

-- who has taken the names may go on with them
pub named_ready : {me : ℕ} {doer mid : ParticipantView} {names : NamesView} {from at : HallState} → HoldsNames me doer mid names from at
    → IsReadyNamed me mid names at
named_ready {me} {doer} {mid} {names} {from} {at} held =
    let gives = subst (λ (out : Option Kept). GivesFor (known_to me at) out (Names names)) held.taken held.gives in
    record {
      but = held.but;
      told = gives.naming;
      was = names;
      taken = held.taken;
      sound = held.sound;
      goes_on = gives.names;
      agrees = gives.agrees;
      sockets = ap (λ (seen : NamesSeen). seen.sockets) held.seen ∙ held.but.named;
    }

-- and may give them back
pub may_give : {me : ℕ} {doer : ParticipantView} {names : NamesView} {state : HallState} → IsReadyNamed me doer names state
    → MayGiveNames me doer names state
may_give {me} {doer} {names} {state} ready = record {
  serves = ready.but.serves;
  gives = subst (λ (out : Option Kept). GivesFor (known_to me state) out (Names names)) (sym ready.taken)
      (record { naming = ready.told; names = ready.goes_on; agrees = ready.agrees });
}

-- what came in among the names is allocated still, whatever entries follow
pub names_give_on : {old new : ℕ → List Entry} {taken given : NamesView} → ((heap : ℕ) → (more : List Entry) × (new heap ≡ old heap ++ more))
    → GivesNames old taken given → GivesNames new taken given
names_give_on {old} {new} grow gives = record {
  goes_on = gives.goes_on;
  allocated = λ zone among.
      subst (IsAllocated zone.addr) (sym (grow zone.heap).1) (allocated_on (old zone.heap) (grow zone.heap).0 (gives.allocated zone among));
}
  where
    allocated_on : {addr : ℕ} (entries more : List Entry) → IsAllocated addr entries → IsAllocated addr (entries ++ more)
    allocated_on entries more is =
        record { entry = is.entry; there = Contains-append_left entries more is.entry is.there; at = is.at }

module _ {doer mid : ParticipantView} {names given : NamesView} {from at between to : HallState}
    (held : HoldsNames doer.party.me doer mid names from at) (gave : HasGiven doer.party.me NAMES_SLOT (Names given) between to)
    (slots : SlotsStayBut NAMES_SLOT between to) (others : OthersStay doer.party.me between to) where
  abbrev me : ℕ
  me = doer.party.me

  -- the steps of what it did with the names in hand, with those around it
  abbrev pub around : List MailStep → List MailStep
  around steps = held.waited ++ (Takes NAMES_SLOT (Names names) ∷ (steps ++ Gives NAMES_SLOT (Names given) ∷ []))

  pub around_did : (steps : List MailStep) → Did me steps at between → Did me (around steps) from to
  around_did steps did =
      subst (λ (steps : List MailStep). Did me steps from to)
      (append_assoc held.waited (Takes NAMES_SLOT (Names names) ∷ []) (steps ++ Gives NAMES_SLOT (Names given) ∷ []))
      (did_then held.did (did_then did gave.did))

  pub around_entries : (trace : List Done)
      → ((heap : ℕ) → (between.part me heap).entries
      ≡ (at.part me heap).entries ++ entries_for mid.party.me heap (mid.context.calls + 1) (calls_in trace))
      → (heap : ℕ) → (to.part me heap).entries
      ≡ (from.part me heap).entries ++ entries_for doer.party.me heap (doer.context.calls + 1) (calls_in trace)
  around_entries trace made heap =
      (gave.part heap).beside.entries ∙ made heap
      ∙ ap (λ (entries : List Entry). entries ++ entries_for mid.party.me heap (mid.context.calls + 1) (calls_in trace)) (held.beside heap).entries
      ∙ ap (λ (who : ℕ). (from.part me heap).entries ++ entries_for who heap (mid.context.calls + 1) (calls_in trace)) held.same.me
      ∙ ap (λ (context : Context). (from.part me heap).entries ++ entries_for doer.party.me heap (context.calls + 1) (calls_in trace)) held.context

  pub around_counted : (new : ParticipantView) (trace : List Done)
      → new.context ≡ record (after_calls (length (calls_in trace)) mid.context) { standing = new.context.standing }
      → new.context ≡ record (after_calls (length (calls_in trace)) doer.context) { standing = new.context.standing }
  around_counted new trace counted =
      subst (λ (context : Context). new.context ≡ record (after_calls (length (calls_in trace)) context) { standing = new.context.standing })
      held.context counted

  -- what it did is what reading the names leads to
  pub does_around : {new : ParticipantView} {heaps : List ℕ} (goes : SharedNames → Doing) (rest : Doing)
      → (did : DoesNamed heaps me mid new names given at between (goes (shared_of names)) rest)
      → DoesHere heaps me doer new from to (reading_names goes) rest
  unfolding Leads Goes AreAsked
  does_around {new} {heaps} goes rest did =
      let does = did.does in
      let behind = others.later.seen me in
      let heard = others.later.heard me in
      let before = held.later.seen me in
      let first = held.later.heard me in
      record {
        trace = NamesRead (shared_of names) ∷ does.trace;
        steps = around does.steps;
        leads = (shared_of names, refl, does.leads);
        made = around_did does.steps does.made;
        acts = Acts.and_then None None None [] heaps doer mid new [] (NamesRead (shared_of names) ∷ does.trace) held.waited _ held.acts
            (Acts.holds_names heaps mid new names given does.trace does.steps
            (subst (λ (count : ℕ). Acts count None None heaps mid new does.trace does.steps) held.later.count does.acts) did.names);
        entries = around_entries does.trace does.entries;
        serves = λ heap. (gave.part heap).beside.serves ∙ does.serves heap ∙ (held.beside heap).serves;
        counted = around_counted new does.trace does.counted;
        same = same_then doer.party mid.party new.party held.same does.same;
        asked =
            subst (λ (asks : List AskLog). AreAsked (to.seen me) asks doer.party.me doer.party.asked new.party.asked does.trace) (sym heard.1)
            (subst (λ (log : List LogRecord). AreAsked log (between.heard me ++ heard.0) doer.party.me doer.party.asked new.party.asked does.trace)
            (sym behind.1)
            (all_asked_stay (between.seen me) behind.0 (between.heard me) heard.0 doer.party.me doer.party.asked new.party.asked does.trace
            (subst (λ (who : ℕ). AreAsked (between.seen me) (between.heard me) who doer.party.asked new.party.asked does.trace) held.same.me
            (subst (λ (asked : ℕ). AreAsked (between.seen me) (between.heard me) mid.party.me asked new.party.asked does.trace) held.asked
            does.asked))));
        more = before.0 ++ (does.more ++ behind.0);
        log = behind.1
            ∙ ap (λ (log : List LogRecord). log ++ behind.0) (does.log ∙ ap (λ (log : List LogRecord). log ++ does.more) before.1)
            ∙ append_assoc (from.seen me ++ before.0) does.more behind.0
            ∙ append_assoc (from.seen me) before.0 (does.more ++ behind.0);
        outcomes = first.0 ++ (does.outcomes ++ heard.0);
        asks = heard.1
            ∙ ap (λ (asks : List AskLog). asks ++ heard.0) (does.asks ∙ ap (λ (asks : List AskLog). asks ++ does.outcomes) first.1)
            ∙ append_assoc (from.heard me ++ first.0) does.outcomes heard.0
            ∙ append_assoc (from.heard me) first.0 (does.outcomes ++ heard.0);
      }

  -- with the trace and the steps that this has
  pub around_trace : {new : ParticipantView} {heaps : List ℕ} (goes : SharedNames → Doing) (rest : Doing)
      → (did : DoesNamed heaps me mid new names given at between (goes (shared_of names)) rest)
      → (does_around goes rest did).trace ≡ NamesRead (shared_of names) ∷ did.does.trace
  unfolding does_around
  around_trace {new} {heaps} goes rest did = refl

  pub around_steps : {new : ParticipantView} {heaps : List ℕ} (goes : SharedNames → Doing) (rest : Doing)
      → (did : DoesNamed heaps me mid new names given at between (goes (shared_of names)) rest)
      → (does_around goes rest did).steps ≡ around did.does.steps
  unfolding does_around
  around_steps {new} {heaps} goes rest did = refl

  -- so is what it did where it stopped
  pub halts_around : {new : ParticipantView} {heaps : List ℕ} (goes : SharedNames → Doing)
      → (did : HaltsNamed heaps me mid new names given at between (goes (shared_of names)))
      → HaltsHere heaps me doer new from to (reading_names goes)
  unfolding Leads Goes
  halts_around {new} {heaps} goes did =
      let halts = did.halts in
      record {
        rest = halts.rest;
        trace = NamesRead (shared_of names) ∷ halts.trace;
        steps = around halts.steps;
        held = halts.held;
        others = halts.others;
        front = halts.front;
        leads = (shared_of names, refl, halts.leads);
        made = around_did halts.steps halts.made;
        acts = ActsOn.and_then None None None [] halts.held doer mid new [] (NamesRead (shared_of names) ∷ halts.trace) held.waited _ held.acts
            (ActsOn.holds_names halts.held mid new names given halts.trace halts.steps
            (subst (λ (count : ℕ). ActsOn count None None halts.held mid new halts.trace halts.steps) held.later.count halts.acts) did.names);
        entries = around_entries halts.trace halts.entries;
        counted = around_counted new halts.trace halts.counted;
        same = same_then doer.party mid.party new.party held.same halts.same;
      }

  -- and it is ready for its next line
  pub ready_around : {new : ParticipantView} → IsReadyNamed me new given between → IsReadyIn me new to
  ready_around {new} ready =
      let but = ready.but in
      let more = others.later.heard me in
      record {
        idle = idle_again (others.later.serves me but.serves) (omega (arith, others.later.count, but.declared))
            (tied_later me new.party others.later gave.joined gave.own (λ heap. (gave.part heap).beside.marked) but.tied)
            (record {
              taken = λ number apart. slots.taken number apart ∙ but.free.taken number apart;
              home = λ number few apart. slots.home number apart (but.free.home number few apart);
            })
            (record { taken = gave.taken; home = gave.home });
        ready = ready_beside new (between.part me) (to.part me) (between.seen me) (to.seen me) (between.heard me) (to.heard me) more.0
            (λ heap. (gave.part heap).beside) more.1 but.ready;
        attached = gave.joined ∙ but.attached;
        named = (others.later.named me).sockets ∙ but.named;
        chunks = λ heap. ap (map (own_chunk heap)) (gave.part heap).beside.marked ∙ but.chunks heap;
      }
