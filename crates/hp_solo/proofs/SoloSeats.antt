-- A hall of one thread when a participant goes away for its line, and when it comes back.
use Rattle.std.proofs.Common.{◌≡◌, ℕ, zero, suc, ◌<◌, List, length, replicate, set, Option, Some, None, refl, sym, ap, ◌∙◌, subst, length-set}
use Rattle.std.specs.Global.{Box}
use Rattle.std.specs.Option.{IfSome}
use Rattle.std.proofs.lemmas.List.{length-replicate}
use Rattle.hp_plain.proofs.Slotted.{slice_get-set_other, slice_get-set_same}
use Rattle.hp_plain.specs.HallView.{HallView}
use Rattle.hp_serve.proofs.MemberLemmas.{at_each}
use Rattle.hp_serve.specs.Party.{Party}
use Rattle.hp_serve.specs.declared.judged_server.JudgedServer.{JudgedServer}
use Rattle.hp_solo.specs.Solo.{AreTied, IsSolo, IsTiedAt, AloneView, nobody, party_at, party_in, party_of}

none_not_some : (o : Option Party) (party : Party) → o ≡ None → o ≡ Some party → ⊥
none_not_some o party none some = cc

same_party : (o : Option Party) (party other : Party) → o ≡ Some party → o ≡ Some other → party ≡ other
same_party o party other here there = cc

-- the one of a number goes away
pub solo_away : (hall : HallView) (servers : List AloneView) (me : ℕ) (after : AloneView) → IsSolo (record { plain = hall; servers = servers })
    → me < length servers → after.party ≡ None → IsSolo (record { plain = hall; servers = set servers me after })
solo_away hall servers me after is below gone = record {
  count = length-set servers me after ∙ is.count;
  tied = at_each (λ who. (party : Party) → party_at (set servers me after) who ≡ Some party → IsTiedAt hall who party) me
      (λ party found. absurd
      (none_not_some (party_at (set servers me after) me) party (ap party_in (slice_get-set_same servers me after below) ∙ gone) found))
      (λ who apart party found. is.tied who party (sym (ap party_in (slice_get-set_other servers me who after apart)) ∙ found));
}

-- who is there is tied
pub who_goes : {M F : Type 0} (hall : HallView) (servers : List AloneView) (me : ℕ) (judged : Option (Box (JudgedServer M F)))
    → AreTied hall servers → party_of judged ≡ party_at servers me → IfSome judged (λ judged. IsTiedAt hall me judged.value.server)
who_goes hall servers me None tied is = tt
who_goes hall servers me (Some judged) tied is = tied me judged.value.server (sym is)

-- the one of a number comes back
pub solo_back : (hall : HallView) (servers : List AloneView) (me : ℕ) (after : AloneView) (party : Party)
    → IsSolo (record { plain = hall; servers = servers }) → me < length servers → after.party ≡ Some party → IsTiedAt hall me party
    → IsSolo (record { plain = hall; servers = set servers me after })
solo_back hall servers me after party is below there tied = record {
  count = length-set servers me after ∙ is.count;
  tied = at_each (λ who. (party : Party) → party_at (set servers me after) who ≡ Some party → IsTiedAt hall who party) me
      (λ other found. subst (IsTiedAt hall me)
      (same_party (party_at (set servers me after) me) party other (ap party_in (slice_get-set_same servers me after below) ∙ there) found) tied)
      (λ who apart party found. is.tied who party (sym (ap party_in (slice_get-set_other servers me who after apart)) ∙ found));
}

nobody_at : (count who : ℕ) → party_at (replicate count nobody) who ≡ None
nobody_at zero who = refl
nobody_at (suc count) zero = refl
nobody_at (suc count) (suc who) = nobody_at count who

-- where all are away
pub solo_vacant : (hall : HallView) (count : ℕ) → count ≡ length hall.owns → IsSolo (record { plain = hall; servers = replicate count nobody })
solo_vacant hall count is = record {
  count = length-replicate count nobody ∙ is;
  tied = λ who party found. absurd (none_not_some (party_at (replicate count nobody) who) party (nobody_at count who) found);
}
