-- What serving makes of participant 0, put together of its parts: the rule "Coordinating" of docs/PARTICIPANTS.md.
use Rattle.std.proofs.Common.{◌≡◌, ◌≢◌, ◌∙◌, ℕ, ◌≤◌, Bool, true, false, Option, Some, None, refl, sym, subst, arith}
use Rattle.std.specs.Prelude.{Result, Ok, Err, is_some}
use Rattle.hp_core.specs.Core.{Core}
use Rattle.hp_core.specs.declared.event.CoreEvent.{CoreEvent}
use Rattle.hp_frame.specs.declared.message.Body.{Body}
use Rattle.hp_hall.specs.Measures.{moved_of}
use Rattle.hp_serve.specs.Coordinating.{IsAskIn, IsOutside, IsTrueOf}
use Rattle.hp_serve.specs.Falling.{served_of}
use Rattle.hp_serve.specs.Party.{due_in}

-- an ask of a participant is known without a mapping, and is true of whatever is known
pub ask_outside : (count : ℕ) (body : Body) (event : CoreEvent) → IsAskIn count body event → IsOutside event
ask_outside count body event (IsAskIn.asks ask size align bound flags is declared request event_is) = subst IsOutside (sym event_is) tt
ask_outside count body event (IsAskIn.frees from number heap address len is declared event_is) = subst IsOutside (sym event_is) tt

pub ask_true : (noted : ℕ → ℕ) (records count : ℕ) (body : Body) (event : CoreEvent) → IsAskIn count body event → IsTrueOf noted records event
ask_true noted records count body event (IsAskIn.asks ask size align bound flags is declared request event_is) =
    subst (IsTrueOf noted records) (sym event_is) tt
ask_true noted records count body event (IsAskIn.frees from number heap address len is declared event_is) =
    subst (IsTrueOf noted records) (sym event_is) tt

-- without a coordinator no deadline comes
pub no_due : (core : Option Core) → is_some core ≡ false → due_in core ≡ None
no_due None is = refl
no_due (Some core) is = cc

pub none_due : {due : Option ℕ} (deadline : ℕ) → due ≡ None → due ≡ Some deadline → ⊥
none_due deadline none some = cc

-- who is no participant of that number is not participant 0, where that is its number
pub apart_from : (who me : ℕ) → me ≡ 0 → who ≢ me → who ≢ 0
apart_from who me is apart = λ same. apart (same ∙ sym is)

-- who did something has moved
pub served_moved : {E : Type 0} (result : Result Bool E) → served_of result ≤ moved_of result
served_moved (Ok true) = omega arith
served_moved (Ok false) = omega arith
served_moved (Err refusal) = omega arith
