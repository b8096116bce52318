-- It was ready but for the names' slot, and is so again.
use Rattle.std.proofs.Common.{◌≡◌, ◌∙◌, ℕ, refl, ap, sym, subst}
use Rattle.hp_hall.specs.HallState.{HallState}
use Rattle.hp_hall.specs.declared.slot.TheConstants.{NAMES_SLOT}
use Rattle.hp_serve.proofs.Carrying.{same_party, same_then}
use Rattle.hp_proc.specs.Contexts.{Context}
use Rattle.hp_proc.specs.LineInHall.{HasCalledBeside, IsBesideTheNames, IsReadyBut}
use Rattle.hp_proc.specs.ParticipantView.{ParticipantView, with_calls}
use Rattle.hp_proc.proofs.HandFacts.BesideNames.{names_same, names_then}

-- where nothing was done
pub beside_same : (doer : ParticipantView) {a : HallState} → IsReadyBut NAMES_SLOT doer.party.me doer a
    → HasCalledBeside doer.party.me doer doer a a
beside_same doer {a} ready = record { same = same_party doer.party; but = ready; context = refl; names = names_same doer.party.me a }

-- one after the other
pub beside_then : {me : ℕ} {first mid last : ParticipantView} {a b c : HallState} → HasCalledBeside me first mid a b
    → HasCalledBeside mid.party.me mid last b c → mid.party.me ≡ me → HasCalledBeside me first last a c
beside_then {me} {first} {mid} {last} {a} {b} {c} here there mine =
    let next : HasCalledBeside me mid last b c = subst (λ (who : ℕ). HasCalledBeside who mid last b c) mine there in
    record {
      same = same_then first.party mid.party last.party here.same next.same;
      but = next.but;
      context = next.context ∙ ap (with_calls last.context.calls) here.context;
      names = names_then here.names next.names;
    }
