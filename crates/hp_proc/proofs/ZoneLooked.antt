-- A line looks a memzone up: it reads the names, and does nothing else.
use Rattle.std.proofs.Common.{◌≡◌, ℕ, Bool, true, [], None, refl, ap, ◌∙◌, sym, subst}
use Rattle.hp_hall.specs.HallState.{HallState}
use Rattle.hp_script.specs.Part.{Part}
use Rattle.hp_script.specs.declared.answer.Answer.{Answer}
use Rattle.hp_script.specs.declared.line.Act.{Act}
use Rattle.hp_script.specs.declared.line.Act.TheVariants as act
use Rattle.hp_script.specs.declared.line.Line.{Line}
use Rattle.hp_zone.specs.declared.names.Names.{Names as NamesView}
use Rattle.hp_proc.specs.Contexts.{AreFactsOf}
use Rattle.hp_proc.specs.Courses.{HasLineRequest}
use Rattle.hp_proc.specs.Doing.{Doing}
use Rattle.hp_proc.specs.Handing.{shared_of}
use Rattle.hp_proc.specs.LineInHall.{DoesApartHere, DoesLineHere, HaltsHere, HaltsLineHere, ReadsNames, did_in, moment}
use Rattle.hp_proc.specs.LineTrees.{doing_of}
use Rattle.hp_proc.specs.Lines.{Facts, if_attached, reading_names}
use Rattle.hp_proc.specs.NamesOfLines.{NamesOfLine}
use Rattle.hp_proc.specs.ParticipantView.{ParticipantView}
use Rattle.hp_proc.specs.SharedNames.{SharedNames, zone_named}
use Rattle.hp_proc.specs.ZoneLines.{found_zone}
use Rattle.hp_proc.proofs.Halted.{line_halted}
use Rattle.hp_proc.proofs.HandFacts.Holds.{knew_same}
use Rattle.hp_proc.proofs.HandFacts.OnceHeld.{once_none}
use Rattle.hp_proc.proofs.LineFacts.{apart_idle, facts_for, facts_known, line_done}

module _ (doer mid : ParticipantView) (from to : HallState) (line : Line) (name : Part) (its_act : line.act ≡ act.Lookup name)
    (attached : doer.context.standing.attached ≡ true) where
  abbrev me : ℕ
  me = doer.party.me

  abbrev facts : Facts
  facts = facts_for doer.party.socket doer.context line.act None

  known : AreFactsOf doer.party.socket doer.context line facts
  known = facts_known doer.party.socket doer.context line None (subst (λ (deed : Act). HasLineRequest deed None) (sym its_act) tt)

  abbrev goes : SharedNames → Doing
  goes names = found_zone (zone_named name.text names)

  tree : reading_names goes ≡ doing_of line line.act facts
  unfolding doing_of
  tree =
      ap (λ (attached : Bool). if_attached attached (reading_names goes)) (sym attached)
      ∙ ap (λ (deed : Act). doing_of line deed facts) (sym its_act)

  pub looked : (names : NamesView) (told : Answer) → ReadsNames me doer mid names from to goes
      → Doing.Ended told ≡ found_zone (zone_named name.text (shared_of names)) → mid.context ≡ doer.context → DoesLineHere me doer mid from to line told
  looked names told reads found same =
      let apart : DoesApartHere me doer mid from to (reading_names goes) (goes (shared_of names)) =
      record {
        does = record { held = []; once = once_none; does = reads.does };
        names = NamesOfLine.once names names [] reads.steps reads.trace refl refl;
        apart = apart_idle refl refl reads.does;
      } in
      line_done from.count (did_in me from to) line told (moment me doer from) (moment me mid to) facts (act.Lookup name) known
      (subst (λ (doing : Doing). DoesApartHere me doer mid from to doing (Doing.Ended told)) tree
      (subst (λ (rest : Doing). DoesApartHere me doer mid from to (reading_names goes) rest) (sym found) apart)) refl
      (knew_same doer.context mid.context same) its_act tt tt tt

  pub looked_not : ((doing : Doing) → HaltsHere [] me doer mid from to doing) → HaltsLineHere me doer mid from to line
  looked_not halts =
      line_halted from.count (did_in me from to) line (moment me doer from) (moment me mid to) facts known (doing_of line line.act facts) refl refl
      ([], once_none, halts (doing_of line line.act facts))
