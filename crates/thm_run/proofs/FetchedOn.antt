-- What a deed without the segment value leaves: what was fetched has been fetched still, and the coordinator is as it was.
use Rattle.std.proofs.Common.{◌≡◌, ℕ, [], ◌∷◌, Contains, inl, inr, refl, sym, subst}
use Rattle.std.proofs.lemmas.List.Elements.{Contains-append_left}
use Rattle.hp_frame.specs.declared.frame.Frame.{Frame}
use Rattle.hp_hall.specs.Mail.{MailStep}
use Rattle.hp_weave.specs.Deeds.{Deed}
use Rattle.thm_run.specs.Apart.{IsDeed}
use Rattle.thm_run.specs.Seats.{Mails, Quietly, Seat}

-- what a participant has fetched it has fetched still
mail_fetched : {who : ℕ} {old new : Seat} {step : MailStep} → Mails who old new step → (frame : Frame) → Contains old.fetched frame
    → Contains new.fetched frame
mail_fetched (Mails.notes seat note) frame among = among
mail_fetched (Mails.finds_nothing seat) frame among = among
mail_fetched (Mails.fetches seat other) frame among = Contains-append_left seat.fetched (other ∷ []) frame among
mail_fetched (Mails.asks seat ask other action posted armed says) frame among = among
mail_fetched (Mails.tells seat heap run other action posted says) frame among = among
mail_fetched (Mails.speaks seat to other body action posted nothing says) frame among = among

quiet_fetched : {old new : Seat} → Quietly old new → new.fetched ≡ old.fetched
quiet_fetched (Quietly.hears seat answered) = refl
quiet_fetched (Quietly.counts seat sent) = refl
quiet_fetched (Quietly.calls seat heap call answer none) = refl
quiet_fetched (Quietly.notes seat elements chunks) = refl
quiet_fetched (Quietly.reads_names seat names) = refl
quiet_fetched (Quietly.reads_stats seat heap counted) = refl
quiet_fetched (Quietly.changes_names seat change) = refl
quiet_fetched (Quietly.sees_heap seat heap history) = refl
quiet_fetched (Quietly.plans_range seat addr len page plan) = refl
quiet_fetched (Quietly.maps_chunk seat chunk maps ended is) = refl
quiet_fetched (Quietly.leaves_chunk seat chunk maps is) = refl
quiet_fetched (Quietly.ends_line seat deed given) = refl

-- its coordinator is as it was but by the steps of that
mail_core : {who : ℕ} {old new : Seat} {step : MailStep} → Mails who old new step → new.party.core ≡ old.party.core
mail_core (Mails.notes seat note) = refl
mail_core (Mails.finds_nothing seat) = refl
mail_core (Mails.fetches seat other) = refl
mail_core (Mails.asks seat ask other action posted armed says) = refl
mail_core (Mails.tells seat heap run other action posted says) = refl
mail_core (Mails.speaks seat to other body action posted nothing says) = refl

quiet_core : {old new : Seat} → Quietly old new → new.party.core ≡ old.party.core
quiet_core (Quietly.hears seat answered) = refl
quiet_core (Quietly.counts seat sent) = refl
quiet_core (Quietly.calls seat heap call answer none) = refl
quiet_core (Quietly.notes seat elements chunks) = refl
quiet_core (Quietly.reads_names seat names) = refl
quiet_core (Quietly.reads_stats seat heap counted) = refl
quiet_core (Quietly.changes_names seat change) = refl
quiet_core (Quietly.sees_heap seat heap history) = refl
quiet_core (Quietly.plans_range seat addr len page plan) = refl
quiet_core (Quietly.maps_chunk seat chunk maps ended is) = refl
quiet_core (Quietly.leaves_chunk seat chunk maps is) = refl
quiet_core (Quietly.ends_line seat deed given) = refl

pub alone_core : (count who : ℕ) (old new : Seat) → IsDeed count who (Deed.Alone old new) → new.party.core ≡ old.party.core
alone_core count who old new (inl did) = quiet_core did
alone_core count who old new (inr (step, did)) = mail_core did

pub alone_fetched : (count who : ℕ) (old new : Seat) → IsDeed count who (Deed.Alone old new) → (frame : Frame) → Contains old.fetched frame
    → Contains new.fetched frame
alone_fetched count who old new (inl did) frame among = subst (λ fetched. Contains fetched frame) (sym (quiet_fetched did)) among
alone_fetched count who old new (inr (step, did)) frame among = mail_fetched did frame among
