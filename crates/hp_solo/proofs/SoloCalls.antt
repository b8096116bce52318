-- A hall of one thread over a call of one that is away: it goes on, by one call more of its sequence, and what holds of it holds after it.
use Rattle.std.proofs.Common.{◌≡◌, ◌≢◌, ℕ, ◌<◌, List, [], ◌∷◌, length, Option, Some, None, IsSome, refl, sym, ap, subst, ◌∙◌, arith}
use Rattle.std.proofs.lemmas.List.{append-nil}
use Rattle.std.proofs.lemmas.Option.{slice_get_within}
use Rattle.hp_plain.specs.Course.{IsCourse}
use Rattle.hp_plain.specs.HallView.{HallView, HasDone, joined_in, own_at, part_in}
use Rattle.hp_hall.specs.HallState.{Did, OthersStay}
use Rattle.hp_hall.specs.Mail.{MailStep, steps_of}
use Rattle.hp_plain.specs.PlainState.{plain_state}
use Rattle.hp_serve.specs.Party.{Party}
use Rattle.hp_solo.specs.Sequence.{IsCall, IsInSequence, Makes}
use Rattle.hp_solo.specs.Solo.{AreLater, AreTied, IsAway, IsSolo, AloneView, SoloView, party_at, party_in, server_at}
use Rattle.hp_solo.specs.SoloCourse.{IsSoloCourse, server_stays}
use Rattle.hp_solo.proofs.Sequenced.{made_by, one_call}
use Rattle.hp_solo.proofs.SoloTies.{tied_on}

-- who is away is not there
away_none : (server : Option AloneView) → IsAway server → party_in server ≡ None
away_none None away = absurd away
away_none (Some server) away = away

away_some : (server : Option AloneView) → IsAway server → (there : AloneView) × (server ≡ Some there)
away_some None away = absurd away
away_some (Some server) away = (server, refl)

pub away_below : (servers : List AloneView) (who : ℕ) → IsAway (server_at servers who) → who < length servers
away_below servers who away =
    let there = away_some (server_at servers who) away in slice_get_within servers who there.0 there.1

none_not_some : (o : Option Party) (party : Party) → o ≡ None → o ≡ Some party → ⊥
none_not_some o party none some = cc

none_not_there : (o : Option Party) → o ≡ None → IsSome o → ⊥
none_not_there None none there = cc
none_not_there (Some party) none there = cc

-- after a call of one that is away all others are tied still
pub tied_after_call : (old new : HallView) (servers : List AloneView) (me : ℕ) → IsAway (server_at servers me) → IsCourse old new
    → ((who : ℕ) → who ≢ me → own_at new who ≡ own_at old who) → ((who : ℕ) → who ≢ me → joined_in new who ≡ joined_in old who)
    → ((who heap : ℕ) → who ≢ me → part_in new who heap ≡ part_in old who heap) → AreTied old servers → AreTied new servers
tied_after_call old new servers me away course own joined part tied who party there =
    let apart : who ≢ me = λ (same : who ≡ me).
    none_not_some (party_at servers me) party (away_none (server_at servers me) away) (ap (party_at servers) (sym same) ∙ there) in
    tied_on old new who party course (own who apart) (joined who apart) (λ heap. part who heap apart) (tied who party there)

-- a hall that is opened for a call of one that is away: who calls is one of the values', the course of the whole is that of the values, and
-- what holds of every hall holds after it
module _ (value : SoloView) (old : HallView) (servers : List AloneView)
    (value_is : ◌≡◌ {A = SoloView} (record { plain = old; servers = servers }) value) (me : ℕ) (away : IsAway (server_at value.servers me)) where
  away_here : IsAway (server_at servers me)
  away_here = subst (λ (hall : SoloView). IsAway (server_at hall.servers me)) (sym value_is) away

  -- who is there did nothing
  pub later_after : (new : HallView) → ((who : ℕ) → who ≢ me → HasDone old new who [])
      → AreLater value (record { plain = new; servers = servers })
  later_after new nothing =
      subst (λ (hall : SoloView). AreLater hall (record { plain = new; servers = servers })) value_is
      (λ who. server_stays old new who (server_at servers who) (λ there.
      nothing who (λ same.
      none_not_there (party_at servers who) (ap (party_at servers) same ∙ away_none (server_at servers me) away_here) there)))

  pub goes_on : (new : HallView) → IsCourse old new → ((who : ℕ) → who ≢ me → HasDone old new who [])
      → IsInSequence value (record { plain = new; servers = servers }) → IsSoloCourse value (record { plain = new; servers = servers })
  goes_on new course nothing sequence = record {
    plain = subst (λ (hall : SoloView). IsCourse hall.plain new) value_is course;
    servers = later_after new nothing;
    sequence = sequence;
  }

  -- by a step of the one that calls
  pub goes_on_by : (new : HallView) (step : MailStep) → IsCall step → IsCourse old new → Did me (step ∷ []) (plain_state old) (plain_state new)
      → OthersStay me (plain_state old) (plain_state new) → IsSoloCourse value (record { plain = new; servers = servers })
  goes_on_by new step call course did others =
      let nothing : (who : ℕ) → who ≢ me → HasDone old new who [] = λ who apart. others.done who apart ∙ sym (append-nil (steps_of who old.mail)) in
      goes_on new course nothing
      (subst (λ (hall : SoloView). IsInSequence hall (record { plain = new; servers = servers })) value_is
      (one_call me (record { plain = old; servers = servers }) (record { plain = new; servers = servers }) away_here step did.made
      (λ going. Makes.calls step call (made_by me (step ∷ []) old new course did.made nothing) refl others.clock)))

  module _ (is : IsSolo (record { plain = old; servers = servers })) where
    pub may_call : me < length old.owns
    may_call = omega (arith, away_below servers me away_here, is.count)

    pub holds_after : (new : HallView) → IsCourse old new → ((who : ℕ) → who ≢ me → own_at new who ≡ own_at old who)
        → ((who : ℕ) → who ≢ me → joined_in new who ≡ joined_in old who)
        → ((who heap : ℕ) → who ≢ me → part_in new who heap ≡ part_in old who heap) → IsSolo (record { plain = new; servers = servers })
    holds_after new course own joined part = record {
      count = is.count ∙ sym course.count;
      tied = tied_after_call old new servers me away_here course own joined part is.tied;
    }
