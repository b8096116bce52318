-- A reservation line: it takes the names, is judged and served with them in hand, and gives them back.
use Rattle.std.proofs.Common.{◌≡◌, ◌∙◌, ℕ, Bool, true, [], None, Result, Ok, Err, OnErr, refl, ap, sym, subst}
use Rattle.std.specs.Prelude.{IfOk}
use Rattle.hp_hall.specs.HallState.{HallState}
use Rattle.hp_hall.proofs.HallStates.{did_same}
use Rattle.hp_script.specs.Part.{Part}
use Rattle.hp_script.specs.declared.answer.Answer.{Answer}
use Rattle.hp_script.specs.declared.line.Act.{Act}
use Rattle.hp_script.specs.declared.line.Act.TheVariants as act
use Rattle.hp_script.specs.declared.line.Line.{Line}
use Rattle.hp_script.specs.declared.options.Options.{Options}
use Rattle.hp_zone.specs.declared.fault.ZoneFault.{ZoneFault}
use Rattle.hp_zone.specs.declared.fault.ZoneFault.TheVariants as fault
use Rattle.hp_zone.specs.declared.names.Names.{Names as NamesView}
use Rattle.hp_proc.specs.Contexts.{AreFactsOf, Context}
use Rattle.hp_proc.specs.Doing.{Doing}
use Rattle.hp_proc.specs.Halting.{ActsOn}
use Rattle.hp_proc.specs.Handing.{shared_of}
use Rattle.hp_proc.specs.LineInHall.{HaltsHere, HaltsLineHere, HoldsNames, IsKnownMapped, did_in, moment}
use Rattle.hp_proc.specs.LineTrees.{doing_of, reserving_line}
use Rattle.hp_proc.specs.Lines.{Facts, if_attached, reading_names}
use Rattle.hp_proc.specs.NamesInHand.{DoesNamedOnce, HaltsNamedOnce, HasCalledNamed, IsReadyNamed}
use Rattle.hp_proc.specs.ParticipantView.{ParticipantView}
use Rattle.hp_proc.specs.ZoneLines.{zone_answer}
use Rattle.hp_proc.specs.ZonesInHand.{reserving_by}
use Rattle.hp_proc.proofs.Halted.{line_halted}
use Rattle.hp_proc.proofs.HandFacts.OnceHeld.{once_none}
use Rattle.hp_proc.proofs.Joining.{does_same, does_still}
use Rattle.hp_proc.proofs.LineFacts.{facts_for, facts_known, has_request}
use Rattle.hp_proc.proofs.LinesNamed.{MayHaveNames}

-- what holds of an answer says more of it, and so where there is none
pub ok_by : {A E : Type 0} (result : Result A E) (P Q : A → Type 0) → ((given : A) → P given → Q given) → IfOk result P → IfOk result Q
ok_by (Ok given) P Q goes has = goes given has
ok_by (Err e) P Q goes has = tt

pub err_by : {A E P Q : Type 0} (result : Result A E) → (P → Q) → OnErr result P → OnErr result Q
err_by (Ok given) goes has = tt
err_by (Err e) goes has = goes has

-- WITH THE NAMES IN HAND

-- nothing was done
ended_named : (me : ℕ) (doer : ParticipantView) (names : NamesView) (at : HallState) (doing : Doing)
    → DoesNamedOnce me doer doer names names at at doing doing
unfolding does_same does_still
ended_named me doer names at doing = record {
  does = record { held = []; once = once_none; does = does_same at.count (did_in me at at) doing (moment me doer at) (did_same me at) };
  names = record { changed = refl; unread = refl; untold = tt };
}

pub nothing_named : (me : ℕ) (doer : ParticipantView) (names : NamesView) (at : HallState) (doing : Doing) (told : Answer) → Doing.Ended told ≡ doing
    → DoesNamedOnce me doer doer names names at at doing (Doing.Ended told)
nothing_named me doer names at doing told tree =
    subst (λ (doing : Doing). DoesNamedOnce me doer doer names names at at doing (Doing.Ended told)) tree
    (ended_named me doer names at (Doing.Ended told))

-- and it stopped
pub halts_named : (me : ℕ) (doer : ParticipantView) (names now : NamesView) (at : HallState) (doing : Doing) → shared_of now ≡ shared_of names
    → HaltsNamedOnce me doer doer names now at at doing
unfolding does_same does_still
halts_named me doer names now at doing same =
    let does = does_same at.count (did_in me at at) doing (moment me doer at) (did_same me at) in
    record {
      heaps = [];
      once = once_none;
      halts = record {
        halts = record {
          rest = doing;
          trace = does.trace;
          steps = does.steps;
          held = [];
          others = [];
          front = refl;
          leads = does.leads;
          made = does.made;
          acts = ActsOn.acts None None [] doer doer does.trace does.steps does.acts;
          entries = does.entries;
          counted = does.counted;
          same = does.same;
        };
        names = record { changed = same; unread = refl; untold = tt };
      };
    }

pub named_same : (doer : ParticipantView) (names : NamesView) {at : HallState} → IsReadyNamed doer.party.me doer names at
    → HasCalledNamed doer.party.me doer doer names at
named_same doer names ready = record {
  same = record { me = refl; socket = refl; plan = refl; deadline = refl };
  ready = ready;
  context = refl;
}

-- a fault answers no address
pub fault_lies : (me : ℕ) (at : HallState) (fault : ZoneFault) → IsKnownMapped me at (zone_answer fault)
fault_lies me at fault.NameLong = tt
fault_lies me at fault.Exists = tt
fault_lies me at (fault.NoSpace limit) = tt
fault_lies me at fault.BadAlign = tt
fault_lies me at fault.BadBound = tt

-- ITS LINE

-- it may have the names in hand beside heaps
pub zone_may : (name : Part) (len : ℕ) (options : Options) → MayHaveNames (act.Zone name len options)
zone_may name len options = record { hands = λ steps. tt; holds = λ held. tt; brings = tt; alone = tt }

module _ (doer mid : ParticipantView) (from at : HallState) (line : Line) (name : Part) (len : ℕ) (options : Options)
    (its_act : line.act ≡ act.Zone name len options) (attached : doer.context.standing.attached ≡ true) where
  abbrev pub zone_facts : Facts
  zone_facts = facts_for doer.party.socket doer.context line.act (has_request line.act).0

  pub zone_known : AreFactsOf doer.party.socket doer.context line zone_facts
  zone_known = facts_known doer.party.socket doer.context line (has_request line.act).0 (has_request line.act).1

  pub zone_tree : reading_names (reserving_by line.act line zone_facts) ≡ doing_of line line.act zone_facts
  unfolding doing_of
  zone_tree =
      ap (λ (deed : Act). reading_names (reserving_by deed line zone_facts)) its_act
      ∙ (ap (λ (attached : Bool). if_attached attached (reading_names (reserving_line zone_facts line name.text len options))) (sym attached)
      ∙ ap (λ (deed : Act). doing_of line deed zone_facts) (sym its_act))

  -- that is known still once the names are in hand
  pub zone_still : {names : NamesView} → HoldsNames doer.party.me doer mid names from at → AreFactsOf mid.party.socket mid.context line zone_facts
  zone_still {names} held =
      subst (λ (socket : ℕ). AreFactsOf socket mid.context line zone_facts) (sym held.same.socket)
      (subst (λ (context : Context). AreFactsOf doer.party.socket context line zone_facts) (sym held.context) zone_known)

  -- it stopped before it had them
  pub zone_not : ((doing : Doing) → HaltsHere [] doer.party.me doer mid from at doing) → HaltsLineHere doer.party.me doer mid from at line
  zone_not halts =
      line_halted from.count (did_in doer.party.me from at) line (moment doer.party.me doer from) (moment doer.party.me mid at) zone_facts zone_known
      (doing_of line line.act zone_facts) refl refl ([], once_none, halts (doing_of line line.act zone_facts))
