-- What each step of a seat leaves, but for takes and gives.
use Rattle.std.proofs.Common.{◌≡◌, ◌≢◌, ⊎_elim, ℕ, ◌≤◌, eqb, cond, eq-eqb, ne_eqb, length, Option, unwrap_or, refl, sym, ap, subst, ◌∙◌, arith}
use Rattle.std.proofs.lemmas.Bool.{cases_eq, cond-false, cond-true}
use Rattle.hp_hall.specs.Own.{after_ack, after_partial}
use Rattle.hp_board.specs.Views.{after_acking, after_load, after_look, after_unmapping, noted_of, own_of, value_of}
use Rattle.hp_board.specs.declared.view.Mine.{Mine}
use Rattle.hp_board.proofs.Fronts.{front_itself}
use Rattle.hp_board.proofs.Pairs.{value_of-else, value_of-here}
use Rattle.hp_chair.proofs.ChairSteps.{GoesOn, LeavesSlots}

at_most : (n : ℕ) → n ≤ n
at_most n = omega arith

not_above : (a b low high : ℕ) → a ≡ low → b ≡ high → low ≤ high → a ≤ b
not_above a b low high first second most = omega (arith, first, second, most)

-- nothing changed
pub goes_same : (mine : Mine) → GoesOn mine mine
goes_same mine = record {
  who = refl;
  opening = refl;
  seen = front_itself mine.log;
  heard = front_itself mine.heard;
  zones = front_itself mine.zones;
  names = front_itself mine.names;
  noted = λ other. at_most _;
  lines = λ other. at_most _;
}

pub leaves_same : (mine : Mine) → LeavesSlots mine mine
leaves_same mine = record { held = refl; part = λ heap. refl; joined = refl; lines = refl }

-- a lock word was found held
pub goes_looked : (mine after : Mine) (slot word : ℕ) → after ≡ after_look slot word mine → GoesOn mine after
goes_looked mine after slot word is = subst (GoesOn mine) (sym is) (record {
  who = refl;
  opening = refl;
  seen = front_itself mine.log;
  heard = front_itself mine.heard;
  zones = front_itself mine.zones;
  names = front_itself mine.names;
  noted = λ other. at_most _;
  lines = λ other. at_most _;
})

pub leaves_looked : (mine after : Mine) (slot word : ℕ) → after ≡ after_look slot word mine → LeavesSlots mine after
leaves_looked mine after slot word is = subst (LeavesSlots mine) (sym is) (record { held = refl; part = λ heap. refl; joined = refl; lines = refl })

-- records were acknowledged
module _ (mine after : Mine) (number : ℕ) (is : after ≡ after_acking number mine) where
  noted_acked : mine.number ≤ number → (other : ℕ) → noted_of other mine ≤ noted_of other (after_acking number mine)
  noted_acked rises other =
      ⊎_elim
      (λ (own : other ≡ mine.who).
      let before : noted_of other mine ≡ mine.number = cond-true (eqb other mine.who) mine.number (unwrap_or (value_of other mine.noted) 0) (eq-eqb other mine.who own) in
      let behind : noted_of other (after_acking number mine) ≡ number = cond-true (eqb other mine.who) number (unwrap_or (value_of other mine.noted) 0) (eq-eqb other mine.who own) in
      not_above _ _ mine.number number before behind rises)
      (λ (apart : other ≢ mine.who).
      let before : noted_of other mine ≡ unwrap_or (value_of other mine.noted) 0 =
      cond-false (eqb other mine.who) mine.number (unwrap_or (value_of other mine.noted) 0) (ne_eqb other mine.who apart) in
      let behind : noted_of other (after_acking number mine) ≡ unwrap_or (value_of other mine.noted) 0 =
      cond-false (eqb other mine.who) number (unwrap_or (value_of other mine.noted) 0) (ne_eqb other mine.who apart) in
      not_above _ _ _ _ before behind (at_most _))
      (cases_eq other mine.who)

  pub goes_acked : mine.number ≤ number → GoesOn mine after
  goes_acked rises = subst (GoesOn mine) (sym is) (record {
    who = refl;
    opening = refl;
    seen = front_itself mine.log;
    heard = front_itself mine.heard;
    zones = front_itself mine.zones;
    names = front_itself mine.names;
    noted = noted_acked rises;
    lines = λ other. at_most _;
  })

  pub leaves_acked : LeavesSlots mine after
  leaves_acked = subst (LeavesSlots mine) (sym is) (record { held = refl; part = λ heap. refl; joined = refl; lines = refl })

  pub own_acked : own_of after ≡ after_ack number
  own_acked = ap own_of is

-- what further records drop was unmapped
module _ (mine after : Mine) (is : after ≡ after_unmapping mine) where
  pub goes_unmapped : GoesOn mine after
  goes_unmapped = subst (GoesOn mine) (sym is) (record {
    who = refl;
    opening = refl;
    seen = front_itself mine.log;
    heard = front_itself mine.heard;
    zones = front_itself mine.zones;
    names = front_itself mine.names;
    noted = λ other. at_most _;
    lines = λ other. at_most _;
  })

  pub leaves_unmapped : LeavesSlots mine after
  leaves_unmapped = subst (LeavesSlots mine) (sym is) (record { held = refl; part = λ heap. refl; joined = refl; lines = refl })

  pub own_unmapped : own_of after ≡ after_partial (length mine.log) (own_of mine)
  own_unmapped = ap own_of is

-- a participant's number was loaded
module _ (mine after : Mine) (from number : ℕ) (is : after ≡ after_load from number mine) (own : from ≡ mine.who → number ≡ mine.number) where
  noted_here : noted_of from (after_load from number mine) ≡ number
  noted_here =
      ⊎_elim
      (λ (its : from ≡ mine.who).
      cond-true (eqb from mine.who) mine.number (unwrap_or (value_of from (after_load from number mine).noted) 0) (eq-eqb from mine.who its) ∙ sym (own its))
      (λ (apart : from ≢ mine.who).
      cond-false (eqb from mine.who) mine.number (unwrap_or (value_of from (after_load from number mine).noted) 0) (ne_eqb from mine.who apart)
      ∙ ap (λ (o : Option ℕ). unwrap_or o 0) (value_of-here from number mine.noted))
      (cases_eq from mine.who)

  noted_else : (other : ℕ) → other ≢ from → noted_of other (after_load from number mine) ≡ noted_of other mine
  noted_else other apart =
      ap (λ (o : Option ℕ). cond (eqb other mine.who) mine.number (unwrap_or o 0)) (value_of-else from other number mine.noted apart)

  noted_loaded : noted_of from mine ≤ number → (other : ℕ) → noted_of other mine ≤ noted_of other (after_load from number mine)
  noted_loaded rises other =
      ⊎_elim
      (λ (here : other ≡ from).
      subst (λ (n : ℕ). noted_of n mine ≤ noted_of n (after_load from number mine)) (sym here)
      (not_above _ _ (noted_of from mine) number refl noted_here rises))
      (λ (apart : other ≢ from). not_above _ _ (noted_of other mine) (noted_of other mine) refl (noted_else other apart) (at_most _))
      (cases_eq other from)

  pub goes_loaded : noted_of from mine ≤ number → GoesOn mine after
  goes_loaded rises = subst (GoesOn mine) (sym is) (record {
    who = refl;
    opening = refl;
    seen = front_itself mine.log;
    heard = front_itself mine.heard;
    zones = front_itself mine.zones;
    names = front_itself mine.names;
    noted = noted_loaded rises;
    lines = λ other. at_most _;
  })

  pub leaves_loaded : LeavesSlots mine after
  leaves_loaded = subst (LeavesSlots mine) (sym is) (record { held = refl; part = λ heap. refl; joined = refl; lines = refl })

  pub own_loaded : own_of after ≡ own_of mine
  own_loaded = ap own_of is

  pub now_noted : number ≡ noted_of from after
  now_noted = sym (ap (noted_of from) is ∙ noted_here)
