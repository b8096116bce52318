-- What an asker's look in the segment value finds.
use Rattle.std.specs.Prelude.{◌≡◌, ℕ, true, false, List, [], ◌∷◌}
use Rattle.std.specs.List.{list_any}
use Rattle.hp_hall.specs.Holding.{HeapPart}
use Rattle.hp_hall.specs.Mail.{MailStep}
use Rattle.hp_log.specs.declared.log_record.LogRecord.{LogRecord}
use Rattle.hp_segs.specs.SegsView.{SegsView, grants_or_refuses}
use Rattle.hp_segs.specs.Steps.{after_claim}
use Rattle.hp_segs.specs.declared.ask.Ask.{Ask}
use Rattle.hp_segs.specs.declared.outcome.AskLog.{AskLog}
use Rattle.hp_serve.specs.Asking.{Settles}
use Rattle.hp_serve.specs.Serving.{gives_segments, takes_segments}
use Rattle.hp_serve.specs.declared.settling.Found.{Found}
use Rattle.hp_serve.specs.declared.settling.Found.TheVariants.{Settled, Open}

-- the ask is settled, or all is as it was
abbrev pub HasFound : List LogRecord → List AskLog → Ask → (ℕ → HeapPart) → (ℕ → HeapPart) → Found → Type 0
HasFound log asks ask old new (Settled run) = Settles log asks ask old new run
HasFound log asks ask old new Open = (heap : ℕ) → new heap ≡ old heap

-- what a look gives back in place of the segment value that it takes: a grant is claimed
abbrev pub after_look : Ask → Found → SegsView → SegsView
after_look ask (Settled run) segs = after_claim ask.from ask.number segs
after_look ask Open segs = segs

-- what finds an ask settled found a grant or a refusal of it in the segment value, and what finds it open found neither
abbrev pub IsFoundIn : Ask → SegsView → Found → Type 0
IsFoundIn ask segs (Settled run) = list_any (grants_or_refuses ask.from ask.number) segs.asks ≡ true
IsFoundIn ask segs Open = list_any (grants_or_refuses ask.from ask.number) segs.asks ≡ false

-- the steps of a look
pub record IsLookAt (ask : Ask) (steps : List MailStep) (answer : Found) : Type 0 where
  pub taken : SegsView
  pub found : IsFoundIn ask taken answer
  pub are : steps ≡ takes_segments taken ∷ gives_segments (after_look ask answer taken) ∷ []
