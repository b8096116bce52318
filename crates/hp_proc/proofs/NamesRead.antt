-- What a participant does that reads the names, or the newest statistics of a heap.
use Rattle.std.proofs.Common.{◌≡◌, ◌∙◌, ℕ, ◌++◌, ◌<◌, List, [], ◌∷◌, map, append-nil, append_assoc, Option, Some, None, refl, ap, sym, subst, arith}
use Rattle.hp_hall.specs.HallCalls.{HasGiven}
use Rattle.hp_hall.specs.HallState.{Did, HallState, OthersStay, SlotsStayBut}
use Rattle.hp_hall.specs.Mail.{Gives, MailStep, Takes}
use Rattle.hp_hall.specs.declared.kept.Kept.TheVariants.{Names}
use Rattle.hp_hall.specs.declared.slot.TheConstants.{NAMES_SLOT}
use Rattle.hp_hall.proofs.HallStates.{did_then, later_then}
use Rattle.hp_zone.specs.Directory.{DirectoryView, IsDirectory, directory_after, opening}
use Rattle.hp_zone.specs.declared.names.Names.{Names as NamesView}
use Rattle.hp_proc.specs.Acting.{Acts, AreAsked}
use Rattle.hp_proc.specs.Doing.{Doing, Goes, Leads}
use Rattle.hp_proc.specs.Doing.Done.{NamesRead}
use Rattle.hp_proc.specs.Handing.{shared_of}
use Rattle.hp_proc.specs.Heaps.{sockets_of}
use Rattle.hp_proc.specs.LineInHall.{DoesHere, HoldsNames, IsReadyAgain, ReadsNames}
use Rattle.hp_proc.specs.Lines.{reading_names}
use Rattle.hp_proc.specs.ParticipantView.{ParticipantView}
use Rattle.hp_proc.specs.SharedNames.{SharedNames, directory_in}
use Rattle.hp_proc.proofs.Joining.{context_still}
use Rattle.hp_proc.proofs.LinesInHall.{idle_again}
use Rattle.hp_proc.proofs.NamesHeld.{ready_beside}
use Rattle.hp_proc.proofs.TreeDeeds.{acts_unnamed, steps_on}
use Rattle.hp_serve.proofs.InHalls.{tied_later}
use Rattle.hp_proc.specs.OwnChunks.{own_chunk}

-- the directory that is in hand is that which the names leave of the pools' sockets
pub as_leaves : (doer : ParticipantView) (names : NamesView) → IsDirectory names.heaps → names.heaps.sockets ≡ sockets_of doer.context.pools
    → names.heaps.plain ≡ directory_in doer.context.pools (shared_of names)
as_leaves doer names is sockets =
    is.replayed ∙ ap (λ (sockets : List ℕ). directory_after (opening sockets) names.heaps.log) sockets

module _ (doer mid : ParticipantView) (names : NamesView) (from at to : HallState) (held : HoldsNames doer.party.me doer mid names from at)
    (gave : HasGiven doer.party.me NAMES_SLOT (Names names) at to) (slots : SlotsStayBut NAMES_SLOT at to)
    (others : OthersStay doer.party.me at to) where
  abbrev me : ℕ
  me = doer.party.me

  -- it read them
  does_read : (goes : SharedNames → Doing) → DoesHere [] me doer mid from to (reading_names goes) (goes (shared_of names))
  unfolding Leads Goes AreAsked
  does_read goes =
      let later = later_then held.later others.later in
      let seen = later.seen me in
      let heard = later.heard me in
      record {
        trace = NamesRead (shared_of names) ∷ [];
        steps = held.waited ++ (Takes NAMES_SLOT (Names names) ∷ Gives NAMES_SLOT (Names names) ∷ []);
        leads = (shared_of names, refl, refl);
        made = subst (λ (steps : List MailStep). Did me steps from to)
            (append_assoc held.waited (Takes NAMES_SLOT (Names names) ∷ []) (Gives NAMES_SLOT (Names names) ∷ []))
            (did_then held.did gave.did);
        acts = Acts.and_then None None None [] [] doer mid mid [] (NamesRead (shared_of names) ∷ []) held.waited
            (Takes NAMES_SLOT (Names names) ∷ Gives NAMES_SLOT (Names names) ∷ []) held.acts (Acts.reads_names mid names);
        entries = λ heap. (gave.part heap).beside.entries ∙ ((held.beside heap).entries ∙ sym (append-nil (from.part me heap).entries));
        serves = λ heap. (gave.part heap).beside.serves ∙ (held.beside heap).serves;
        counted = context_still doer.context mid.context held.context;
        same = held.same;
        asked = held.asked;
        more = seen.0;
        log = seen.1;
        outcomes = heard.0;
        asks = heard.1;
      }

  pub names_read : (goes : SharedNames → Doing) → ReadsNames me doer mid names from to goes
  unfolding does_read
  names_read goes = record {
    does = does_read goes;
    trace = refl;
    steps = steps_on held.waited (Takes NAMES_SLOT (Names names) ∷ Gives NAMES_SLOT (Names names) ∷ [])
        ∙ ap (λ (waited : List MailStep). waited ++ (Takes NAMES_SLOT (Names names) ∷ Gives NAMES_SLOT (Names names) ∷ []))
        (acts_unnamed from.count None None [] doer mid [] held.waited held.acts refl);
  }

  -- and is ready for its next line
  pub ready_read : IsReadyAgain me doer mid to
  ready_read =
      let more = others.later.heard me in
      record {
        same = held.same;
        ready = record {
          idle = idle_again (others.later.serves me held.but.serves) (omega (arith, others.later.count, held.but.declared))
              (tied_later me mid.party others.later gave.joined gave.own (λ heap. (gave.part heap).beside.marked) held.but.tied)
              (record {
                taken = λ number apart. slots.taken number apart ∙ held.but.free.taken number apart;
                home = λ number few apart. slots.home number apart (held.but.free.home number few apart);
              })
              (record { taken = gave.taken; home = gave.home });
          ready = ready_beside mid (at.part me) (to.part me) (at.seen me) (to.seen me) (at.heard me) (to.heard me) more.0
              (λ heap. (gave.part heap).beside) more.1 held.but.ready;
          attached = gave.joined ∙ held.but.attached;
          named = (others.later.named me).sockets ∙ held.but.named;
          chunks = λ heap. ap (map (own_chunk heap)) (gave.part heap).beside.marked ∙ held.but.chunks heap;
        };
      }
