-- SYNCs that are posted in rising number: the rule "Coordinating" of docs/PARTICIPANTS.md.
use Rattle.std.proofs.Common.{◌≡◌, ℕ, suc, ◌+◌, ◌*◌, ◌<◌, ◌≤◌, Bool, true, List, [], ◌++◌, refl, subst, sym, ap, arith}
use Rattle.std.specs.Prelude.{if◌then◌else◌, nat_lt}
use Rattle.std.proofs.lemmas.Bool.{and_parts}
use Rattle.std.proofs.lemmas.Bool.Decides.{nat_tests}
use Rattle.hp_base.specs.Flags.{has_bit}
use Rattle.hp_base.specs.declared.plan_entry.PlanEntry.{PlanEntry}
use Rattle.hp_frame.specs.declared.frame.Frame.{Frame}
use Rattle.hp_hall.specs.Mail.{MailStep}
use Rattle.hp_serve.specs.Posting.{AreTold, IsToldOne, is_told, sent_once_more, syncs_after}

-- nobody is told yet
pub none_told : (plan : List PlanEntry) (counts : List ℕ) (frame : Frame) (told : ℕ → Bool) → AreTold plan counts frame told 0 []
unfolding AreTold
none_told plan counts frame told = refl

pub none_sent : (told : ℕ → Bool) (counts : List ℕ) → counts ≡ syncs_after told counts 0
unfolding syncs_after
none_sent told counts = refl

module _ (plan : List PlanEntry) (counts : List ℕ) (frame : Frame) (told : ℕ → Bool) (n : ℕ) where
  told_suc : (before last : List MailStep) → AreTold plan counts frame told n before
      → IsToldOne plan frame (syncs_after told counts n) (suc n) (told (suc n)) last → AreTold plan counts frame told (suc n) (before ++ last)
  unfolding AreTold
  told_suc before last so_far one = (before, last, so_far, one, refl)

  -- one more is told, or passed over
  pub told_more : (so_far : List ℕ) (who : ℕ) (before last : List MailStep) → who ≡ n + 1 → so_far ≡ syncs_after told counts n
      → AreTold plan counts frame told n before → IsToldOne plan frame so_far who (told who) last
      → AreTold plan counts frame told (n + 1) (before ++ last)
  told_more so_far who before last who_is sent are one =
      let next : who ≡ suc n = omega arith in
      let count : suc n ≡ n + 1 = omega arith in
      subst (λ m. AreTold plan counts frame told m (before ++ last)) count
      (told_suc before last are
      (subst (λ m. IsToldOne plan frame (syncs_after told counts n) m (told m) last) next
      (subst (λ now. IsToldOne plan frame now who (told who) last) sent one)))

  sent_suc : syncs_after told counts (suc n)
      ≡ (if told (suc n) then sent_once_more (syncs_after told counts n) (suc n) else syncs_after told counts n)
  unfolding syncs_after
  sent_suc = refl

  pub sent_more : (so_far : List ℕ) (who : ℕ) → who ≡ n + 1 → so_far ≡ syncs_after told counts n
      → (if told who then sent_once_more so_far who else so_far) ≡ syncs_after told counts (n + 1)
  sent_more so_far who who_is sent =
      let next : suc n ≡ who = omega arith in
      let count : suc n ≡ n + 1 = omega arith in
      subst (λ m. (if told who then sent_once_more so_far who else so_far) ≡ syncs_after told counts m) count
      (subst (λ now. (if told who then sent_once_more now who else now) ≡ syncs_after told counts (suc n)) (sym sent)
      (subst (λ m. (if told m then sent_once_more (syncs_after told counts n) m else syncs_after told counts n) ≡ syncs_after told counts (suc n)) next
      (sym sent_suc)))

-- each that is told raises the number by 6 at most, since a SYNC weighs 3 and may come twice
pub told_weighs : (scale start before behind measure n : ℕ) → measure ≡ 3 → before ≤ start + scale * (6 * n)
    → behind ≤ before + scale * (2 * measure) → behind ≤ start + scale * (6 * (n + 1))
told_weighs scale start before behind measure n is so_far posted =
    let six : scale * (2 * measure) ≡ scale * 6 = ap (λ w. scale * (2 * w)) is in
    omega (arith, six, so_far, posted)

-- whoever is told, the hall has
pub told_declared : (count members who : ℕ) → is_told count members who ≡ true → who < count
told_declared count members who is = below (and_parts (nat_lt who count) (has_bit members who) is).0
  where
    below : nat_lt who count ≡ true → who < count
    below less = grind (arith, nat_tests)
