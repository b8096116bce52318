-- What stands apart while one participant does its line: beside the records of a growth that fails or is granted one outcome alone is
-- logged, what is granted is of the line, and all other armed asks are closed. What one outcome more leaves of that.
use Rattle.std.proofs.Common.{◌≡◌, ◌==◌, ◌⊎◌, ℕ, ◌<◌, ◌≤◌, max, not, ◌&&◌, false, List, [], ◌∷◌, ◌++◌, length, Option, Some, None, IfSome, inl, inr, sym, subst, arith}
use Rattle.std.specs.List.{slice_get}
use Rattle.std.proofs.lemmas.Bool.{cond_both}
use Rattle.hp_segs.specs.LaterSteps.{armed_ask}
use Rattle.hp_segs.specs.SegsView.{SegsView, closed_number, is_grant_or_refusal, is_stale}
use Rattle.hp_segs.specs.SoundAsks.{AreAsks}
use Rattle.hp_segs.specs.declared.ask.Ask.{Ask}
use Rattle.hp_segs.specs.declared.growth.Growth.{Growth}
use Rattle.hp_segs.specs.declared.outcome.AskLog.{AskLog}
use Rattle.hp_segs.specs.declared.outcome.Outcome.TheVariants.{Granted}
use Rattle.hp_segs.proofs.AskFacts.ClosedLemmas.{closed_push}
use Rattle.thm_run.proofs.GrownHeaps.UngrantedAdds.{AreApart, AreElsewhere, elsewhere_push, pushed_at}

-- its outcomes are sound
abbrev pub HasSoundAsks : SegsView → Type 0
HasSoundAsks segs = AreAsks segs.pools segs.log segs.asks segs.growth

-- an outcome more takes no closed number back
closed_on : (asks : List AskLog) (entry : AskLog) (from : ℕ) → closed_number asks from ≤ closed_number (asks ++ entry ∷ []) from
closed_on asks entry from =
    subst (λ n. closed_number asks from ≤ n) (sym (closed_push asks entry from))
    (cond_both ((entry.from == from) && not (is_stale entry.outcome)) (max (closed_number asks from) entry.number)
    (closed_number asks from) (λ n. closed_number asks from ≤ n) (λ counts. omega arith) (λ other. omega arith))

-- a participant does its line: it had made so many asks and notices, and there were so many outcomes and records
module _ (who before base start : ℕ) where
  -- an outcome came in the line: beside no fewer records, and a grant is of an ask and of a growth of the line
  pub record IsOwnGrant (entry : AskLog) (generation : ℕ) : Type 0 where
    pub own : entry.from ≡ who
    pub above : before < entry.number
    pub later : start < generation

  pub record IsSince (entry : AskLog) : Type 0 where
    pub at : start ≤ entry.at
    pub granted : (generation : ℕ) → entry.outcome ≡ Granted generation → IsOwnGrant entry generation

  -- the open growth is of an ask of the line, and no grant and no refusal stands beside its Add
  pub record IsOwnGrowth (asks : List AskLog) (growth : Growth) : Type 0 where
    pub own : growth.ask.from ≡ who
    pub above : before < growth.ask.number
    pub later : start < growth.generation
    pub elsewhere : AreElsewhere asks growth.generation

  -- each ask that somebody is armed with is closed or of the line
  abbrev pub AreClosedOrOwn : SegsView → Type 0
  AreClosedOrOwn segs = (other : ℕ) (ask : Ask) → armed_ask segs other ≡ Some ask
      → (ask.number ≤ closed_number segs.asks other) ⊎ ((other ≡ who) × (before < ask.number))

  -- a value while the line is done
  pub record StandsApart (segs : SegsView) : Type 0 where
    pub armed : AreClosedOrOwn segs
    pub apart : AreApart base segs.log segs.asks
    pub since : (place : ℕ) (entry : AskLog) → base ≤ place → slice_get segs.asks place ≡ Some entry → IsSince entry
    pub log : start ≤ length segs.log
    pub growth : IfSome segs.growth (IsOwnGrowth segs.asks)

  -- it is so where its outcomes are sound
  abbrev pub ApartIfSound : SegsView → Type 0
  ApartIfSound segs = HasSoundAsks segs → StandsApart segs

  pub growth_push : (growth : Option Growth) (asks : List AskLog) (entry : AskLog) → is_grant_or_refusal entry.outcome ≡ false
      → IfSome growth (IsOwnGrowth asks) → IfSome growth (IsOwnGrowth (asks ++ entry ∷ []))
  growth_push None asks entry none old = tt
  growth_push (Some growth) asks entry none old = record {
    own = old.own;
    above = old.above;
    later = old.later;
    elsewhere = elsewhere_push asks entry growth.generation none old.elsewhere;
  }

  -- an outcome comes
  module _ (asks : List AskLog) (entry : AskLog)
      (old : (place : ℕ) (other : AskLog) → base ≤ place → slice_get asks place ≡ Some other → IsSince other) (new : IsSince entry) where
    pub since_push : (place : ℕ) (other : AskLog) → base ≤ place → slice_get (asks ++ entry ∷ []) place ≡ Some other → IsSince other
    since_push place other behind here =
        elim (pushed_at asks entry other place here) [
          | inl early ↦ old place other behind early
          | inr last ↦ subst IsSince last.1 new
        ]

  pub armed_push : (armed : ℕ → Option Ask) (asks : List AskLog) (entry : AskLog)
      → ((other : ℕ) (ask : Ask) → armed other ≡ Some ask
      → (ask.number ≤ closed_number asks other) ⊎ ((other ≡ who) × (before < ask.number)))
      → (other : ℕ) (ask : Ask) → armed other ≡ Some ask
      → (ask.number ≤ closed_number (asks ++ entry ∷ []) other) ⊎ ((other ≡ who) × (before < ask.number))
  armed_push armed asks entry old other ask is =
      elim (old other ask is) [
        | inl closed ↦ inl (omega (arith, closed, closed_on asks entry other))
        | inr own ↦ inr own
      ]
