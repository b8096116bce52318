-- A participant calls a heap while it has that in hand alone: a heap that it does not take during a line gets no entry of the line.
use Rattle.std.proofs.Common.{◌≡◌, ◌∙◌, ◌⊎◌, ◌==◌, ℕ, ◌+◌, Bool, true, false, cond, List, [], ◌∷◌, Option, Some, None, Contains, inl, inr, refl, ap, sym, subst}
use Rattle.std.proofs.lemmas.Bool.{eqb-true}
use Rattle.std.proofs.lemmas.List.Elements.{Contains-append_cases, Contains-append_left, Contains-append_right}
use Rattle.hp_heap.proofs.AllocFacts.ChoiceLaw.{Contains-cases, Contains-here, Contains-none, Contains-there}
use Rattle.hp_hall.specs.Mail.{MailStep}
use Rattle.hp_proc.proofs.Joining.{calls_on}
use Rattle.hp_proc.specs.Acting.{Acts}
use Rattle.hp_proc.specs.Courses.{OwnCall, calls_in}
use Rattle.hp_proc.specs.Doing.{Done}
use Rattle.hp_proc.specs.Histories.{entries_for, entry_for}
use Rattle.hp_proc.specs.ParticipantView.{ParticipantView}

-- the one call is of the heap in hand
of_hand : (heap : ℕ) (call own : OwnCall) → call.heap ≡ heap → Contains (call ∷ []) own → Some heap ≡ Some own.heap
of_hand heap call own is among =
    elim (Contains-cases call own [] among) [
      | inl same ↦ ap Some (sym is ∙ ap (λ (own : OwnCall). own.heap) same)
      | inr none ↦ absurd (Contains-none own none)
    ]

module _ (count : ℕ) where
  -- a heap in hand was so before, or was taken
  pub hand_held : {hand last : Option ℕ} {held : List ℕ} {doer after : ParticipantView} {trace : List Done} {steps : List MailStep}
      → Acts count hand last held doer after trace steps → (heap : ℕ) → last ≡ Some heap → (hand ≡ Some heap) ⊎ Contains held heap
  hand_held (Acts.nothing hand doer) heap is = inl is
  hand_held (Acts.waits_turn until doer after moved steps turned) heap is = inl is
  hand_held (Acts.takes_heap doer taken pen few) heap is =
      let same : taken.plain.index ≡ heap = cc in
      inr (subst (Contains (taken.plain.index ∷ [])) same (Contains-here taken.plain.index []))
  hand_held (Acts.gives_heap doer given pen) heap is = cc
  hand_held (Acts.makes_call doer its call answer none) heap is = inl is
  hand_held (Acts.cuts_run doer its addr run taken) heap is = inl is
  hand_held (Acts.asks_pages doer after asked run steps does) heap is = inl is
  hand_held (Acts.notifies_run doer after its run steps does) heap is = inl is
  hand_held (Acts.attaches doer after taken caught tried) heap is = inl is
  hand_held (Acts.detaches doer taken told some left bare heard) heap is = inl is
  hand_held (Acts.notes_left doer elements) heap is = inl is
  hand_held (Acts.reads_names doer names) heap is = inl is
  hand_held (Acts.looks_up_lines doer other lines) heap is = inl is
  hand_held (Acts.reads_stats doer its pair) heap is = inl is
  hand_held (Acts.changes_names hand doer change) heap is = inl is
  hand_held (Acts.holds_names held doer after taken given trace steps inner changes) heap is = hand_held inner heap is
  hand_held (Acts.sees_heap doer taken pen few) heap is =
      let same : taken.plain.index ≡ heap = cc in
      inr (subst (Contains (taken.plain.index ∷ [])) same (Contains-here taken.plain.index []))
  hand_held (Acts.looks_at_segs doer its taken) heap is = inl is
  hand_held (Acts.plans_range doer its addr len page taken) heap is = inl is
  hand_held (Acts.claims doer its chunk taken plan) heap is = inl is
  hand_held (Acts.releases doer its chunk taken) heap is = inl is
  hand_held (Acts.maps_chunk doer its chunk after ended did) heap is = inl is
  hand_held (Acts.shares doer its chunk same) heap is = inl is
  hand_held (Acts.leaves doer its chunk after did) heap is = inl is
  hand_held (Acts.and_then hand between last held more doer mid after first rest before behind one two) heap is =
      elim (hand_held two heap is) [
        | inl earlier ↦ elim (hand_held one heap earlier) [
          | inl first ↦ inl first
          | inr took ↦ inr (Contains-append_left held more heap took)
        ]
        | inr took ↦ inr (Contains-append_right held more heap took)
      ]

  -- a heap that is called is in hand, or was taken
  pub calls_held : {hand last : Option ℕ} {held : List ℕ} {doer after : ParticipantView} {trace : List Done} {steps : List MailStep}
      → Acts count hand last held doer after trace steps → (own : OwnCall) → Contains (calls_in trace) own
      → (hand ≡ Some own.heap) ⊎ Contains held own.heap
  calls_held (Acts.nothing hand doer) own among = absurd (Contains-none own among)
  calls_held (Acts.waits_turn until doer after moved steps turned) own among = absurd (Contains-none own among)
  calls_held (Acts.takes_heap doer taken pen few) own among = absurd (Contains-none own among)
  calls_held (Acts.gives_heap doer given pen) own among = absurd (Contains-none own among)
  calls_held (Acts.makes_call doer its call answer none) own among =
      inl (of_hand its (record { heap = its; call = call; answer = answer }) own refl among)
  calls_held (Acts.cuts_run doer its addr run taken) own among =
      inl (of_hand its (record { heap = its; call = _; answer = _ }) own refl among)
  calls_held (Acts.asks_pages doer after asked run steps does) own among = absurd (Contains-none own among)
  calls_held (Acts.notifies_run doer after its run steps does) own among = absurd (Contains-none own among)
  calls_held (Acts.attaches doer after taken caught tried) own among = absurd (Contains-none own among)
  calls_held (Acts.detaches doer taken told some left bare heard) own among = absurd (Contains-none own among)
  calls_held (Acts.notes_left doer elements) own among = absurd (Contains-none own among)
  calls_held (Acts.reads_names doer names) own among = absurd (Contains-none own among)
  calls_held (Acts.looks_up_lines doer other lines) own among = absurd (Contains-none own among)
  calls_held (Acts.reads_stats doer its pair) own among = absurd (Contains-none own among)
  calls_held (Acts.changes_names hand doer change) own among = absurd (Contains-none own among)
  calls_held (Acts.holds_names held doer after taken given trace steps inner changes) own among = calls_held inner own among
  calls_held (Acts.sees_heap doer taken pen few) own among = absurd (Contains-none own among)
  calls_held (Acts.looks_at_segs doer its taken) own among = absurd (Contains-none own among)
  calls_held (Acts.plans_range doer its addr len page taken) own among = absurd (Contains-none own among)
  calls_held (Acts.claims doer its chunk taken plan) own among =
      inl (of_hand its (record { heap = its; call = _; answer = _ }) own refl among)
  calls_held (Acts.releases doer its chunk taken) own among =
      inl (of_hand its (record { heap = its; call = _; answer = _ }) own refl among)
  calls_held (Acts.maps_chunk doer its chunk after ended did) own among = absurd (Contains-none own among)
  calls_held (Acts.shares doer its chunk same) own among =
      inl (of_hand its (record { heap = its; call = _; answer = _ }) own refl among)
  calls_held (Acts.leaves doer its chunk after did) own among =
      inl (of_hand its (record { heap = its; call = _; answer = _ }) own refl among)
  calls_held (Acts.and_then hand between last held more doer mid after first rest before behind one two) own among =
      elim (Contains-append_cases (calls_in first) (calls_in rest) own (subst (λ calls. Contains calls own) (calls_on first rest) among)) [
        | inl early ↦ elim (calls_held one own early) [
          | inl in_hand ↦ inl in_hand
          | inr took ↦ inr (Contains-append_left held more own.heap took)
        ]
        | inr late ↦ elim (calls_held two own late) [
          | inl in_hand ↦ elim (hand_held one own.heap in_hand) [
            | inl from_first ↦ inl from_first
            | inr took ↦ inr (Contains-append_left held more own.heap took)
          ]
          | inr took ↦ inr (Contains-append_right held more own.heap took)
        ]
      ]

-- of a heap that no call is of there is no entry
pub none_for : (who heap number : ℕ) (calls : List OwnCall) → ((own : OwnCall) → Contains calls own → own.heap ≡ heap → ⊥)
    → entries_for who heap number calls ≡ []
none_for who heap number [] none = refl
none_for who heap number (own ∷ calls) none =
    by (own.heap == heap) refl (none_for who heap (number + 1) calls (λ other among. none other (Contains-there own other calls among)))
  where
    by : (mine : Bool) → (own.heap == heap) ≡ mine → entries_for who heap (number + 1) calls ≡ []
        → cond mine (entry_for who number own ∷ entries_for who heap (number + 1) calls) (entries_for who heap (number + 1) calls) ≡ []
    by true is rest = absurd (none own (Contains-here own calls) (eqb-true own.heap heap is))
    by false is rest = rest

-- so it is with a heap that a line does not take
pub untaken : (count who heap number : ℕ) (held : List ℕ) (doer after : ParticipantView) (trace : List Done) (steps : List MailStep)
    → Acts count None None held doer after trace steps → (Contains held heap → ⊥) → entries_for who heap number (calls_in trace) ≡ []
untaken count who heap number held doer after trace steps acts never =
    none_for who heap number (calls_in trace) (λ own among is. no_call own is (calls_held count acts own among))
  where
    no_call : (own : OwnCall) → own.heap ≡ heap → (None ≡ Some own.heap) ⊎ Contains held own.heap → ⊥
    no_call own is (inl wrong) = cc
    no_call own is (inr took) = never (subst (Contains held) is took)
