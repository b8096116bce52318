-- A give asks no more of a giver that has told more: what may be given by what one knows may be given by what another does, that knows the same
-- but for what was told since the segment value was taken.
use Rattle.std.proofs.Common.{◌≡◌, ℕ, Bool, true, false, length, Option, Some, None, refl, ap}
use Rattle.hp_segs.specs.SegsView.{SegsView, is_member}
use Rattle.hp_hall.specs.declared.kept.Kept.{Kept}
use Rattle.hp_hall.specs.declared.kept.Kept.TheVariants.{Segments}
use Rattle.hp_heap.specs.History.{HeapView}
use Rattle.hp_hall.specs.Giving.{GivesFor, GivesForm, GivesHeap, GivesHeld, GivesKept, GivesSegments, GivesTheNames, IsGiveOf, Knows, claims_ranges, enrols, logs, owns}
use Rattle.hp_hall.proofs.OneKind.{by_kind}

abbrev pub telling : Option ℕ → Bool → Knows → Knows
telling acked emptied knows = record knows { acked = acked; emptied = emptied }

module _ (knows : Knows) (acked : Option ℕ) (emptied : Bool) (leaves : knows.emptied ≡ true → emptied ≡ true) where
  form_told : (taken given : SegsView)
      → (is_member taken.roster knows.who ≡ false → (number : ℕ) → knows.acked ≡ Some number → acked ≡ Some number)
      → GivesForm knows taken given → GivesForm (telling acked emptied knows) taken given
  form_told taken given joins (logs form) =
      logs (record {
        give = record { moved = form.give.moved; agreed = form.give.agreed };
        arms = form.arms;
        opens = form.opens;
      })
  form_told taken given joins (enrols form) =
      enrols (record {
        moved = form.moved;
        others = form.others;
        joins = form.joins;
        caught_up = λ out came. joins out (length given.log) (form.caught_up out came);
        leaves = λ was gone. leaves (form.leaves was gone);
      })
  form_told taken given joins (owns form) = owns (record { give = form.give; others = form.others })
  form_told taken given joins (claims_ranges form) =
      claims_ranges (record {
        give = form.give;
        naming = form.naming;
        released = form.released;
      })

  heap_told : (taken given : HeapView) → GivesHeap knows taken given → GivesHeap (telling acked emptied knows) taken given
  heap_told taken given gives = record {
    index = gives.index;
    serves = gives.serves;
    own = gives.own;
    history = gives.history;
    numbered = gives.numbered;
    held = gives.held;
    settled = gives.settled;
    named = gives.named;
    claimed = gives.claimed;
    marks = gives.marks;
  }

  for_told : (out : Option Kept) (kept : Kept)
      → ((taken : SegsView) → out ≡ Some (Segments taken) → is_member taken.roster knows.who ≡ false → (number : ℕ)
      → knows.acked ≡ Some number → acked ≡ Some number)
      → GivesFor knows out kept → GivesFor (telling acked emptied knows) out kept
  for_told None kept joins gives = absurd gives
  for_told (Some taken) kept joins gives =
      by_kind (GivesHeld knows) (GivesSegments knows) (GivesTheNames knows)
      (λ taken given. ((number : ℕ) (segs : SegsView) → taken ≡ Segments segs → is_member segs.roster knows.who ≡ false
      → knows.acked ≡ Some number → acked ≡ Some number) → GivesKept (telling acked emptied knows) taken given)
      (λ taken given gives joins. record { heap = heap_told taken.heap given.heap gives.heap; told = gives.told; pen = gives.pen })
      (λ taken given gives joins.
      record { more = gives.more; log = gives.log; form = form_told taken given (λ out number. joins number taken refl out) gives.form })
      (λ taken given gives joins. record { naming = gives.naming; names = gives.names; agrees = gives.agrees }) taken kept gives (λ number segs same out. joins segs (ap Some same) out number)

  -- who is out has acknowledged as much there, and who leaves has told as much
  pub gives_told : (slot : ℕ) (kept : Kept)
      → ((taken : SegsView) → knows.taken slot ≡ Some (Segments taken) → is_member taken.roster knows.who ≡ false → (number : ℕ)
      → knows.acked ≡ Some number → acked ≡ Some number)
      → IsGiveOf knows slot kept → IsGiveOf (telling acked emptied knows) slot kept
  gives_told slot kept joins gives = for_told (knows.taken slot) kept joins gives
