-- Names that a participant takes, and gives back as they were.
use Rattle.std.proofs.Common.{◌≡◌, ◌∙◌, ℕ, ◌++◌, List, [], length, append-nil, refl, Option, ap, sym, subst, arith}
use Rattle.std.specs.List.{Contains, range_with_len}
use Rattle.hp_hall.specs.Giving.{GivesFor, IsGiveOf}
use Rattle.hp_hall.specs.HallCalls.{HasTaken}
use Rattle.hp_hall.specs.HallState.{HallState, known_to}
use Rattle.hp_hall.specs.Holding.{HeapPart, IsPartBeside}
use Rattle.hp_hall.specs.Values.{Fits, IsNames}
use Rattle.hp_hall.specs.declared.kept.Kept.{Kept}
use Rattle.hp_hall.specs.declared.kept.Kept.TheVariants.{Heap, Names, Segments}
use Rattle.hp_hall.specs.declared.slot.TheConstants.{NAMES_SLOT, SLOTS}
use Rattle.hp_hall.proofs.HallStates.{names_taken}
use Rattle.hp_log.specs.declared.log_record.LogRecord.{LogRecord}
use Rattle.hp_segs.specs.declared.outcome.AskLog.{AskLog}
use Rattle.hp_zone.specs.declared.names.Names.{Names as NamesView}
use Rattle.hp_zone.specs.declared.zone.Zone.{Zone}
use Rattle.hp_zone.specs.declared.zone.ZoneChange.{ZoneChange}
use Rattle.hp_zone.specs.declared.zone.ZoneChange.TheVariants.{Put}
use Rattle.hp_proc.specs.ParticipantView.{ParticipantView}
use Rattle.hp_proc.specs.Progress.{MayDo, moment_of}
use Rattle.hp_proc.proofs.HandFacts.HandGiven.{settled_unheld, sums_same}

-- the value of the names' slot is names
pub are_names : (kept : Kept) → Fits NAMES_SLOT kept → IsNames kept
are_names (Heap heap pen) fits = let below = fits.1 in absurd (omega (arith, below))
are_names (Segments segs) fits = absurd (omega (arith, fits))
are_names (Names names) fits = tt

no_zone : (zone : Zone) → Contains {X = ZoneChange} [] (Put zone) → ⊥
no_zone zone among = let within = among.1 in omega (arith, within)

-- they may be given back as they were taken
pub gives_same : (me : ℕ) (old new : HallState) (names : NamesView) → HasTaken me NAMES_SLOT (Names names) old new
    → IsGiveOf (known_to me new) NAMES_SLOT (Names names)
gives_same me old new names took =
    subst (λ (out : Option Kept). GivesFor (known_to me new) out (Names names)) (sym took.taken) (record {
      naming = names_taken took.did;
      names = record {
        goes_on = record {
          sockets = refl;
          more_zones = [];
          zones = sym (append-nil names.zones.log);
          more_heaps = [];
          heaps = sym (append-nil names.heaps.log);
        };
        allocated = λ zone among. absurd (no_zone zone among);
      };
      agrees = took.stands;
    })

-- a participant may do its line still, where its parts are as they were but for what it knows for the names, and outcomes follow
pub ready_beside : (doer : ParticipantView) (old new : ℕ → HeapPart) (log later : List LogRecord) (asks now more : List AskLog)
    → ((heap : ℕ) → IsPartBeside (old heap) (new heap)) → now ≡ asks ++ more → MayDo (moment_of doer old log asks)
    → MayDo (moment_of doer new later now)
ready_beside doer old new log later asks now more beside grown ready = record {
  sockets = λ heap. (beside heap).serves ∙ ready.sockets heap;
  unheld = λ heap. (beside heap).holding ∙ ready.unheld heap;
  settled = settled_unheld old new asks now more grown (λ heap. (beside heap).armed) ready.settled
      (λ heap. (beside heap).holding ∙ ready.unheld heap);
  counted = omega (
    arith,
    ready.counted,
    sums_same (λ index. length (old index).entries) (λ index. length (new index).entries) (range_with_len 0 SLOTS)
        (λ index. ap length (beside index).entries),
  );
}
