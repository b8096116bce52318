-- A world in which participant 0 has become another of the same kind, with what is shared and what the mailboxes say.
use Rattle.std.proofs.Common.{◌≡◌, ◌≢◌, ◌∙◌, ◌⊎◌, ℕ, zero, suc, false, List, [], ◌∷◌, drop, length, Some, inl, inr, refl, ap, sym, subst}
use Rattle.std.specs.Prelude.{slice_get, slice_set}
use Rattle.std.proofs.lemmas.Option.{same_Some}
use Rattle.hp_core.specs.Asks.{asker}
use Rattle.hp_core.specs.declared.asked.Asked.{Asked}
use Rattle.hp_frame.specs.declared.frame.Frame.{Frame}
use Rattle.hp_frame.specs.declared.message.Body.{Body}
use Rattle.hp_segs.specs.Standing.{IsArmed}
use Rattle.hp_plain.specs.Boxes.{box_of}
use Rattle.hp_segs.specs.SegsView.{SegsView}
use Rattle.hp_segs.specs.Sound.{IsSound}
use Rattle.hp_serve.specs.Party.{Party}
use Rattle.thm_causes.specs.RoundTrip.{AreSaid, IsBase, Setting, RunState, mail_of}
use Rattle.thm_causes.proofs.CopyStages.CopiesAlong.{CameOf, IsAlong, IsLike, IsSameBut, base_along}
use Rattle.thm_causes.proofs.CopyStages.CopiesCarried.{IsUnheard}
use Rattle.thm_causes.proofs.Said.{get_set, set_found, set_long}

-- what is set twice is set once
pub set_twice : {X : Type 0} (xs : List X) (place : ℕ) (x y : X) → slice_set (slice_set xs place x) place y ≡ slice_set xs place y
set_twice [] place x y = refl
set_twice (z ∷ xs) zero x y = refl
set_twice (z ∷ xs) (suc place) x y = ap (λ (l : List _). z ∷ l) (set_twice xs place x y)

-- one who did nothing is the same
pub same_party : (party : Party) → IsSameBut party party
same_party party = record { me = refl; deadline = refl; plan = refl; joined = refl; maps = refl; sent = refl; asked = refl }

-- the world with such a segment value, such mailboxes, such mail and such a participant 0
abbrev pub world_set : SegsView → List (List Frame) → List (List Body) → Party → RunState → RunState
world_set segs boxes mail after world = record {
  shared = record { segs = segs; boxes = boxes; clock = world.shared.clock; numbers = world.shared.numbers };
  mail = mail;
  parties = slice_set world.parties 0 after;
}

-- whoever is there after such a change was there before
pub came_from : (world : RunState) (primary after : Party) → slice_get world.parties 0 ≡ Some primary → IsSameBut primary after
    → (who : ℕ) (party : Party) → slice_get (slice_set world.parties 0 after) who ≡ Some party → CameOf world who party
came_from world primary after there same who party is =
    elim (get_set world.parties 0 who after party is) [
      | inl own ↦
          record {
            its = primary;
            there = ap (slice_get world.parties) own.0 ∙ there;
            same = subst (IsSameBut primary) (sym own.1) same;
            apart = λ other. absurd (other own.0);
          }
      | inr other ↦ record { its = party; there = other.1; same = same_party party; apart = λ apart. refl }
    ]

module _ (set : Setting) (world : RunState) (segs : SegsView) (boxes : List (List Frame)) (mail : List (List Body)) (primary after : Party)
    (there : slice_get world.parties 0 ≡ Some primary) (same : IsSameBut primary after) (like : IsLike world.shared.segs segs) where
  -- nothing else has happened
  pub along_set : ((who : ℕ) → who ≢ 0 → mail_of (world_set segs boxes mail after world) who ≡ mail_of world who)
      → (mail_of (world_set segs boxes mail after world) 0 ≡ mail_of world 0)
      ⊎ (mail_of (world_set segs boxes mail after world) 0 ≡ drop 1 (mail_of world 0))
      → IsAlong world (world_set segs boxes mail after world)
  along_set others first = record {
    segs = like;
    clock = refl;
    numbers = refl;
    others = others;
    first = first;
    before = came_from world primary after there same;
    primary = λ party is. record {
      after = after;
      there = set_found world.parties 0 primary after there;
      same = subst (λ (p : Party). IsSameBut p after) (same_Some primary party (sym there ∙ is)) same;
    };
  }

  -- nobody has heard of an answer who had not
  pub unheard_set : (call : Asked) → IsUnheard call world → (asker call ≡ 0 → after.answered ≡ false)
      → IsUnheard call (world_set segs boxes mail after world)
  unheard_set call unheard primary_is party is =
      elim (get_set world.parties 0 (asker call) after party is) [
        | inl its ↦ ap (λ (p : Party). p.answered) its.1 ∙ primary_is its.0
        | inr other ↦ unheard party other.1
      ]

  -- and all that holds at each moment holds
  pub base_set : (along : IsAlong world (world_set segs boxes mail after world)) → IsBase set world
      → length boxes ≡ length world.shared.boxes → length mail ≡ length world.mail
      → ((who : ℕ) → AreSaid (box_of boxes who) (mail_of (world_set segs boxes mail after world) who)) → IsSound segs → IsArmed segs
      → IsBase set (world_set segs boxes mail after world)
  base_set along base wide long said sound armed =
      base_along set world (world_set segs boxes mail after world) along base (wide ∙ base.boxes) (long ∙ base.mail)
      (set_long world.parties 0 after ∙ base.parties) said sound armed
