-- A turn of a wait for the answer to an ask goes on by servings, stage by stage.
use Rattle.std.proofs.Common.{◌≡◌, ◌≢◌, ◌∙◌, ◌<◌, ◌≤◌, ℕ, zero, suc, List, [], ◌∷◌, length, None, inl, inr, ap, arith}
use Rattle.std.specs.Prelude.{slice_get}
use Rattle.std.proofs.lemmas.Bool.{cases_eq}
use Rattle.std.proofs.lemmas.List.{get_or_past}
use Rattle.hp_core.specs.declared.asked.Asked.{Asked}
use Rattle.hp_plain.specs.Boxes.{box_of}
use Rattle.hp_serve.specs.Party.{Party}
use Rattle.hp_serve.specs.Waiting.{most_servings}
use Rattle.hp_solo.specs.Solo.{SoloView, party_at}
use Rattle.thm_causes.specs.RoundTrip.{IsBase, Setting, RunState}
use Rattle.thm_causes.specs.Stages.{IsSent}
use Rattle.thm_causes.specs.Waits.{AreServingsKnown, measure_in}
use Rattle.thm_causes.specs.RunStates.{IsRunStateOf}
use Rattle.thm_causes.proofs.TurnSteps.TurnsServings.{IsDuring, serve_to}
use Rattle.thm_causes.proofs.TurnSteps.TurnsVisits.{AreOn}

base_during : (set : Setting) (call : Asked) (sent who : ℕ) (world : RunState) → IsDuring set call sent who world → IsBase set world
base_during set call sent zero world during = during.base
base_during set call sent (suc who) world during = during.base

light_during : (set : Setting) (call : Asked) (sent who : ℕ) (world : RunState) → IsDuring set call sent who world
    → measure_in world < most_servings
light_during set call sent zero world during = during.light
light_during set call sent (suc who) world during = during.light

-- who is not there has no mailbox
pub no_place : {X : Type 0} (xs : List X) (n : ℕ) → slice_get xs n ≡ None → length xs ≤ n
no_place [] n is = omega arith
no_place (x ∷ xs) zero is = cc
no_place (x ∷ xs) (suc n) is = omega (arith, no_place xs n is)

pub no_box : (set : Setting) (world : RunState) (who : ℕ) → IsBase set world → slice_get world.parties who ≡ None
    → box_of world.shared.boxes who ≡ []
no_box set world who base is =
    get_or_past world.shared.boxes who [] (omega (arith, no_place world.parties who is, base.parties, base.boxes))

pub some_first : (parties : List Party) → slice_get parties 0 ≡ None → 0 < length parties → ⊥
some_first [] is some = omega arith
some_first (first ∷ parties) is some = cc

module _ (known : AreServingsKnown) (set : Setting) (call : Asked) (sent : ℕ) (is_sent : IsSent set call sent) (me : ℕ) where
  passes_on : (who : ℕ) (hall : SoloView) (party : Party) (world : RunState) → who ≢ me → IsRunStateOf hall me party world
      → IsDuring set call sent who world → party_at hall.servers who ≡ None → IsDuring set call sent (suc who) world
  passes_on zero hall party world apart its during none =
      let base = during.base in
      absurd (some_first world.parties (its.others 0 apart ∙ none) (omega (arith, base.parties, is_sent.setting.some)))
  passes_on (suc who) hall party world apart its during none = record {
    base = during.base;
    stage = during.stage;
    light = during.light;
    rested = during.rested;
    last = during.last;
    emptied = λ other some below. elim (cases_eq other (suc who)) [
      | inl same ↦
          ap (box_of world.shared.boxes) same ∙ no_box set world (suc who) during.base (its.others (suc who) apart ∙ none)
      | inr beside ↦ during.emptied other some (omega (arith, beside, below))
    ];
  }

  pub stages_on : AreOn set me (IsDuring set call sent)
  stages_on = record {
    setting = is_sent.setting;
    base = base_during set call sent;
    light = light_during set call sent;
    serves = λ denies who moved world at party after during there core member.
        serve_to known set call sent is_sent world at party after denies who moved during there core member;
    passes = passes_on;
  }
