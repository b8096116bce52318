-- What a line has to do with the names: it takes them once at most, and gives them back as its changes leave them.
use Rattle.std.specs.Prelude.{◌≡◌, List, [], ◌∷◌, filter_map, fold, Option, Some, None, ⊤}
use Rattle.hp_hall.specs.Mail.{MailStep, Gives, Takes}
use Rattle.hp_hall.specs.declared.kept.Kept.TheVariants.{Names}
use Rattle.hp_hall.specs.declared.slot.TheConstants.{NAMES_SLOT}
use Rattle.hp_proc.specs.Doing.{Done}
use Rattle.hp_proc.specs.Doing.Done.{GaveUp, NamesRead, StatsRead}
use Rattle.hp_proc.specs.Handing.{shared_of}
use Rattle.hp_proc.specs.NamesLog.{change_made}
use Rattle.hp_proc.specs.SharedNames.{SharedNames, names_with}
use Rattle.hp_zone.specs.declared.names.Names.{Names as NamesView}

-- the names that a trace read
abbrev pub names_read : List Done → List SharedNames
names_read [] = []
names_read (NamesRead names ∷ trace) = names ∷ names_read trace
names_read (_ ∷ trace) = names_read trace

-- a step is one on the names' slot, and the steps of a trace that are
abbrev pub step_of_names : MailStep → Option MailStep
step_of_names (Takes slot (Names names)) = Some (Takes slot (Names names))
step_of_names (Gives slot (Names names)) = Some (Gives slot (Names names))
step_of_names _ = None

abbrev pub steps_of_names : List MailStep → List MailStep
steps_of_names steps = filter_map step_of_names steps

-- the names after the changes of a trace, by what they were before
abbrev pub names_after : SharedNames → List Done → SharedNames
names_after names trace = fold names_with names (filter_map change_made trace)

-- What the names that a participant has in hand have to do with what it did: a line takes them once at most. Where it does, it is handed what
-- it took, before it does anything else, and gives back what its changes leave of that.
pub data NamesOfLine (trace : List Done) (steps : List MailStep) : Type 0 where
  none : steps_of_names steps ≡ [] → names_read trace ≡ [] → filter_map change_made trace ≡ [] → NamesOfLine trace steps
  once : (taken given : NamesView) (rest : List Done)
      → steps_of_names steps ≡ Takes NAMES_SLOT (Names taken) ∷ Gives NAMES_SLOT (Names given) ∷ [] → trace ≡ NamesRead (shared_of taken) ∷ rest
      → names_read rest ≡ [] → shared_of given ≡ names_after (shared_of taken) rest → NamesOfLine trace steps

-- a trace tells the coordinator of no run that was given up, and reads no statistics
abbrev pub IsUntold : Done → Type 0
IsUntold (GaveUp heap run) = ⊥
IsUntold (StatsRead heap counted) = ⊥
IsUntold _ = ⊤

abbrev pub AreUntold : List Done → Type 0
AreUntold [] = ⊤
AreUntold (done ∷ trace) = IsUntold done × AreUntold trace

-- What it did with the names in hand, from one value of them to another one, beside what it did else: their changes are those of its trace, in
-- order; it read them no more, told the coordinator of no run, and read no statistics.
pub record ChangesNames (before after : NamesView) (trace : List Done) : Type 0 where
  pub changed : shared_of after ≡ names_after (shared_of before) trace
  pub unread : names_read trace ≡ []
  pub untold : AreUntold trace
