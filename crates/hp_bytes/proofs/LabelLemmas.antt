-- What labels have, as a finite map.
use Rattle.std.proofs.Common.{◌≡◌, ℕ, ◌⊎◌, inl, inr, Bool, true, false, cond, List, [], ◌∷◌, map, Option, Some, None, refl, sym, ap, ◌∙◌}
use Rattle.std.proofs.lemmas.Bool.{cases_Bool, false≢true}
use Rattle.std.proofs.lemmas.Map.Text.{is_eq-slice_cmp}
use Rattle.std.proofs.lemmas.Slice.Eq.{bytes_eq-Decides}
use Rattle.std.specs.Cmp.Lexicographic.{slice_cmp, nat_list_cmp_total}
use Rattle.std.specs.FinMap as finite
use Rattle.std.specs.Map.{lookup}
use Rattle.std.specs.Option.{option_map}
use Rattle.std.specs.Ordering.{nat_cmp}
use Rattle.std.specs.Str.{bytes_eq}
use Rattle.hp_heap.specs.PlainHeap.{PlainHeap}
use Rattle.hp_bytes.specs.StoreView.{StoreView}
use Rattle.hp_bytes.specs.Places.{place_of}
use Rattle.hp_bytes.specs.PlainSession.{Held}
use Rattle.hp_bytes.specs.Sessions.{held_at, labels_held}
use Rattle.hp_bytes.specs.declared.labels.Labels.{Labels}
use Rattle.hp_bytes.specs.declared.labels.Place.{Place}
use Rattle.hp_bytes.specs.declared.word.WordKey.{WordKey}

abbrev pub texts_alike : finite.IsAntisymmetric (slice_cmp nat_cmp)
texts_alike = finite.slice_cmp-IsAntisymmetric finite.nat_cmp-IsAntisymmetric

module _ (store : StoreView) (heap : PlainHeap) where
  abbrev entry_held : WordKey × Place → List ℕ × Held
  entry_held e = (e.0.text.now, held_at store heap e.1)

  found_held : (label : List ℕ) (es : List (WordKey × Place))
      → finite.find (slice_cmp nat_cmp) label (map entry_held es) ≡ option_map (held_at store heap) (lookup (λ key. bytes_eq label key.text.now) es)
  found_held label [] = refl
  found_held label (e ∷ es) =
      ap (λ (b : Bool). cond b (Some (held_at store heap e.1)) (finite.find (slice_cmp nat_cmp) label (map entry_held es))) (is_eq-slice_cmp label e.0.text.now)
      ∙ by_test (found_held label es) (bytes_eq label e.0.text.now)
    where
      by_test : finite.find (slice_cmp nat_cmp) label (map entry_held es) ≡ option_map (held_at store heap) (lookup (λ key. bytes_eq label key.text.now) es)
          → (b : Bool) → cond b (Some (held_at store heap e.1)) (finite.find (slice_cmp nat_cmp) label (map entry_held es))
          ≡ option_map (held_at store heap) (cond b (Some e.1) (lookup (λ key. bytes_eq label key.text.now) es))
      by_test rest true = refl
      by_test rest false = rest

  -- a label has what its place has
  pub get-labels : (labels : Labels) (label : List ℕ) → finite.get (labels_held store heap labels) label ≡ option_map (held_at store heap) (place_of labels label)
  unfolding labels_held
  get-labels labels label = finite.get-from_entries nat_list_cmp_total (map entry_held labels.places.entries) label ∙ found_held label labels.places.entries

module _ (store store' : StoreView) (heap heap' : PlainHeap) (labels labels' : Labels) where
  -- what a label has before and after
  abbrev IsSame : List ℕ → Type 0
  IsSame label = option_map (held_at store' heap') (place_of labels' label) ≡ option_map (held_at store heap) (place_of labels label)

  got : (label : List ℕ) → IsSame label → finite.get (labels_held store' heap' labels') label ≡ finite.get (labels_held store heap labels) label
  got label same = get-labels store' heap' labels' label ∙ same ∙ sym (get-labels store heap labels label)

  -- all labels have what they had
  pub same_labels : ((label : List ℕ) → IsSame label) → labels_held store' heap' labels' ≡ labels_held store heap labels
  same_labels same = finite.same_map nat_list_cmp_total texts_alike (labels_held store' heap' labels') (labels_held store heap labels) (λ label. got label (same label))

  module _ (label : List ℕ) (others : (other : List ℕ) → bytes_eq other label ≡ false → IsSame other) where
    -- one has something else
    pub labels_with : (held : Held) → option_map (held_at store' heap') (place_of labels' label) ≡ Some held
        → labels_held store' heap' labels' ≡ finite.insert (labels_held store heap labels) label held
    labels_with held is =
        finite.same_map nat_list_cmp_total texts_alike (labels_held store' heap' labels') (finite.insert (labels_held store heap labels) label held) (λ other.
        by_test other (bytes_eq other label) refl
        ∙ sym (finite.get-insert nat_list_cmp_total (labels_held store heap labels) label held other
        ∙ ap (λ (b : Bool). cond b (Some held) (finite.get (labels_held store heap labels) other)) (is_eq-slice_cmp other label)))
      where
        by_test : (other : List ℕ) (b : Bool) → bytes_eq other label ≡ b
            → finite.get (labels_held store' heap' labels') other ≡ cond b (Some held) (finite.get (labels_held store heap labels) other)
        by_test other true here =
            get-labels store' heap' labels' other
            ∙ ap (λ (text : List ℕ). option_map (held_at store' heap') (place_of labels' text)) ((bytes_eq-Decides other label).0 here) ∙ is
        by_test other false away = got other (others other away)

    -- one has nothing
    pub labels_without : option_map (held_at store' heap') (place_of labels' label) ≡ None
        → labels_held store' heap' labels' ≡ finite.remove (labels_held store heap labels) label
    labels_without is =
        finite.same_map nat_list_cmp_total texts_alike (labels_held store' heap' labels') (finite.remove (labels_held store heap labels) label) (λ other.
        by_test other (bytes_eq other label) refl
        ∙ sym (finite.get-remove nat_list_cmp_total (labels_held store heap labels) label other
        ∙ ap (λ (b : Bool). cond b None (finite.get (labels_held store heap labels) other)) (is_eq-slice_cmp other label)))
      where
        by_test : (other : List ℕ) (b : Bool) → bytes_eq other label ≡ b
            → finite.get (labels_held store' heap' labels') other ≡ cond b None (finite.get (labels_held store heap labels) other)
        by_test other true here =
            get-labels store' heap' labels' other
            ∙ ap (λ (text : List ℕ). option_map (held_at store' heap') (place_of labels' text)) ((bytes_eq-Decides other label).0 here) ∙ is
        by_test other false away = got other (others other away)
