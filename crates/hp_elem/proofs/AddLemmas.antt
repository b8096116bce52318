-- What adding an element and hiding one keep of the order, the starts and the gaps.
use Rattle.std.proofs.Common.{◌≡◌, ℕ, ◌+◌, ◌-◌, ◌<◌, ◌≤◌, List, [], ◌∷◌, ◌++◌, true, Bool, Option, Some, None, is_some, nat_eq, nat_lt, length, refl, sym, ap, ◌∙◌, subst, cond, arith, inl, inr, length-append}
use Rattle.std.proofs.lemmas.Bool.{cases_Bool, cond-true, cond-false, eqb-true, eqb-false, ne_eqb}
use Rattle.hp_base.specs.declared.span.Span.{Span}
use Rattle.hp_chain.specs.Chain.{Keyed, AreApart, first_key, has_key}
use Rattle.hp_chain.specs.Edits.{without_key}
use Rattle.hp_chain.proofs.Keys.{has_key_back, first_key_among}
use Rattle.hp_chain.proofs.EditLemmas.{without_key-at}
use Rattle.hp_elem.specs.Items.{Items, IsAt, HasKey, end_of, after_add, before}
use Rattle.hp_elem.specs.Order.{IsRising, FitsBeside, KeysBelow}
use Rattle.hp_elem.specs.Index.{with_start, start_key, gap, gap_starts, reach, IsIndexed, HasSpare}
use Rattle.hp_elem.specs.Gaps.{SplitsAt, IsCutAt, without_first, at_first}
use Rattle.hp_elem.proofs.OrderLemmas.{rising_front, rising_back, rising_whole, rising_lower, below_front, below_back, below_whole}
use Rattle.hp_elem.proofs.StartLemmas.{lacks_above, lacks_below, starts-added, starts-removed}
use Rattle.hp_elem.proofs.GapLemmas.{gaps-append, gaps_within, gap-none}
use Rattle.hp_elem.proofs.ChainLemmas.{before_is}
use Rattle.hp_elem.proofs.PlaceLemmas.{IsCutBy, cut_by, after_add-is, place_is, first_is, gaps_first, closed, dropped}
use Rattle.hp_elem.proofs.IndexLemmas.{IsSound}

module _ (items : Items) (key_end : ℕ) (starts : ℕ → Option ℕ) (gaps : List ℕ) (span : Span) (indexed : IsIndexed items key_end starts gaps) (fits : FitsBeside span items) where
  -- where a new element belongs
  abbrev pub added_cut : IsCutBy span 0 items
  added_cut = cut_by span 0 items (omega arith) fits.ends fits.beside indexed.ordered.rising

  low_rising : IsRising 0 added_cut.low
  low_rising = rising_front 0 added_cut.low added_cut.high (subst (λ (zs : Items). IsRising 0 zs) added_cut.is indexed.ordered.rising)

  pub added_place : (place : ℕ) → SplitsAt gaps span.addr place → IsCutAt gaps (gap_starts 0 added_cut.low) (gap_starts (reach 0 added_cut.low) added_cut.high) place
  added_place place splits =
      place_is gaps added_cut.low added_cut.high span.addr (end_of span) place (indexed.gapped ∙ ap (λ (zs : Items). gap_starts 0 zs) added_cut.is)
      low_rising added_cut.reached added_cut.above (omega arith) splits

  -- the key behind it
  pub added_next : at_first starts (gap_starts (reach 0 added_cut.low) added_cut.high) ≡ first_key added_cut.high None
  added_next =
      ap (λ (table : ℕ → Option ℕ). at_first table (gap_starts (reach 0 added_cut.low) added_cut.high)) (indexed.started ∙ ap (λ (zs : Items). start_key zs) added_cut.is)
      ∙ first_is added_cut.low added_cut.high (end_of span) (subst (λ (zs : Items). IsRising 0 zs) added_cut.is indexed.ordered.rising) added_cut.above (omega (arith, added_cut.reached, fits.least))

  pub added_has : (next : Option ℕ) → next ≡ first_key added_cut.high None → HasKey next items
  added_has next is k same =
      subst (λ (zs : Items). has_key k zs ≡ true) (sym added_cut.is) (has_key_back k added_cut.low added_cut.high (first_key_among added_cut.high k (sym is ∙ same)))

  -- the list
  pub added_list : (key : ℕ) → after_add (record { key = key; value = span }) items ≡ added_cut.low ++ (record { key = key; value = span }) ∷ added_cut.high
  added_list key =
      ap (λ (zs : Items). after_add (record { key = key; value = span }) zs) added_cut.is
      ∙ after_add-is 0 added_cut.low (record { key = key; value = span }) added_cut.high low_rising added_cut.reached fits.least added_cut.above

  pub added_before : (key : ℕ) (next : Option ℕ) → next ≡ first_key added_cut.high None
      → before next (record { key = key; value = span }) items ≡ added_cut.low ++ (record { key = key; value = span }) ∷ added_cut.high
  added_before key next is =
      ap (λ (zs : Items). before next (record { key = key; value = span }) zs) added_cut.is
      ∙ before_is added_cut.low added_cut.high next (record { key = key; value = span }) is (subst (λ (zs : Items). AreApart zs) added_cut.is indexed.ordered.apart)

  -- the gaps, as they are closed and opened
  pub added_gaps : (key : ℕ) → gap_starts 0 (added_cut.low ++ (record { key = key; value = span }) ∷ added_cut.high)
      ≡ gap_starts 0 added_cut.low ++ (gap (reach 0 added_cut.low) span.addr ++ without_first (end_of span) (gap_starts (reach 0 added_cut.low) added_cut.high))
  added_gaps key =
      gaps-append 0 added_cut.low ((record { key = key; value = span }) ∷ added_cut.high)
      ∙ ap (λ (gs : List ℕ). gap_starts 0 added_cut.low ++ (gap (reach 0 added_cut.low) span.addr ++ gs))
      (sym (closed (reach 0 added_cut.low) (end_of span) added_cut.high (omega (arith, added_cut.reached, fits.least)) added_cut.above))

  pub added_shut : (closed_gaps : List ℕ) (place end : ℕ) → end ≡ end_of span → SplitsAt gaps span.addr place
      → ((low high : List ℕ) → IsCutAt gaps low high place → closed_gaps ≡ low ++ without_first end high)
      → (closed_gaps ≡ gap_starts 0 added_cut.low ++ without_first (end_of span) (gap_starts (reach 0 added_cut.low) added_cut.high)) × (place ≤ length closed_gaps)
  added_shut closed_gaps place end end_is splits closes =
      let low : List ℕ = gap_starts 0 added_cut.low in
      let high : List ℕ = gap_starts (reach 0 added_cut.low) added_cut.high in
      let cut = added_place place splits in
      let shut : closed_gaps ≡ low ++ without_first (end_of span) high = closes low high cut ∙ ap (λ (a : ℕ). low ++ without_first a high) end_is in
      (shut, omega (arith, cut.at, ap (λ (gs : List ℕ). length gs) shut, length-append low (without_first (end_of span) high)))

  pub added_starts : (closed_gaps opened_gaps : List ℕ) (place end ends_before : ℕ) (opens_one : Bool)
      → end ≡ end_of span → ends_before ≡ reach 0 added_cut.low → opens_one ≡ nat_lt ends_before span.addr → SplitsAt gaps span.addr place
      → ((low high : List ℕ) → IsCutAt gaps low high place → closed_gaps ≡ low ++ without_first end high)
      → ((low high : List ℕ) → IsCutAt closed_gaps low high place → opened_gaps ≡ low ++ (cond opens_one (span.addr ∷ []) [] ++ high))
      → opened_gaps ≡ gap_starts 0 added_cut.low ++ (gap (reach 0 added_cut.low) span.addr ++ without_first (end_of span) (gap_starts (reach 0 added_cut.low) added_cut.high))
  added_starts closed_gaps opened_gaps place end ends_before opens_one end_is before_means opens_means splits closes opens =
      let low : List ℕ = gap_starts 0 added_cut.low in
      let high : List ℕ = gap_starts (reach 0 added_cut.low) added_cut.high in
      let cut = added_place place splits in
      let shut = added_shut closed_gaps place end end_is splits closes in
      opens low (without_first (end_of span) high) (record { is = shut.0; at = cut.at })
      ∙ ap (λ (b : Bool). low ++ (cond b (span.addr ∷ []) [] ++ without_first (end_of span) high)) opens_means
      ∙ ap (λ (r : ℕ). low ++ (gap r span.addr ++ without_first (end_of span) high)) before_means

  -- all of it
  pub sound_add : (news : Items) (new_end : ℕ) (new_starts : ℕ → Option ℕ) (new_gaps : List ℕ) (spare room new_room capacity key : ℕ)
      → HasSpare spare (length items) key_end room capacity → 0 < spare → news ≡ added_cut.low ++ (record { key = key; value = span }) ∷ added_cut.high → AreApart news → new_end ≡ key_end → key < key_end
      → new_starts ≡ with_start span.addr (Some key) starts → room ≤ new_room + 1
      → new_gaps ≡ gap_starts 0 added_cut.low ++ (gap (reach 0 added_cut.low) span.addr ++ without_first (end_of span) (gap_starts (reach 0 added_cut.low) added_cut.high))
      → IsSound news new_end new_starts new_gaps (spare - 1) new_room capacity
  sound_add news new_end new_starts new_gaps spare room new_room capacity key has left is apart ends within started rooms gapped =
      let new : Keyed Span = record { key = key; value = span } in
      let low : Items = added_cut.low in
      let high : Items = added_cut.high in
      let list : Items = low ++ new ∷ high in
      let below = subst (λ (zs : Items). KeysBelow key_end zs) added_cut.is indexed.ordered.below in
      let rising : IsRising 0 list = rising_whole 0 low (new ∷ high) low_rising (added_cut.reached, fits.least, added_cut.above) in
      let indexed_list : IsIndexed list key_end new_starts new_gaps = record {
        ordered = record {
          apart = subst (λ (zs : Items). AreApart zs) is apart;
          rising = rising;
          below = below_whole key_end low (new ∷ high) (below_front key_end low high below) (within, below_back key_end low high below);
        };
        started = started ∙ ap (λ (table : ℕ → Option ℕ). with_start span.addr (Some key) table) (indexed.started ∙ ap (λ (zs : Items). start_key zs) added_cut.is) ∙ sym (starts-added low new high rising);
        gapped = gapped ∙ sym (added_gaps key);
      } in
      let len : length news ≡ length items + 1 =
      omega (arith, ap (λ (zs : Items). length zs) is, ap (λ (zs : Items). length zs) added_cut.is, length-append low (new ∷ high), length-append low high) in (
        subst (λ (zs : Items). IsIndexed zs new_end new_starts new_gaps) (sym is) (subst (λ (end : ℕ). IsIndexed list end new_starts new_gaps) (sym ends) indexed_list),
        record { keys = omega (arith, len, left, ends, has.keys); starts_fit = omega (arith, left, rooms, has.starts_fit); gaps_fit = omega (arith, len, left, has.gaps_fit) },
      )

-- the next element begins where one ends, or there is a gap between
skip : (addr : ℕ) (xs ys : Items) → start_key xs addr ≡ None → start_key (xs ++ ys) addr ≡ start_key ys addr
skip addr [] ys lacks = refl
skip addr (x ∷ xs) ys lacks = elim (cases_Bool (nat_eq x.value.addr addr)) [
  | inl same ↦ absurd (Rattle.std.proofs.lemmas.Option.none-some x.key (sym lacks ∙ cond-true (nat_eq x.value.addr addr) (Some x.key) (start_key xs addr) same))
  | inr differs ↦
      cond-false (nat_eq x.value.addr addr) (Some x.key) (start_key (xs ++ ys) addr) differs
      ∙ skip addr xs ys (sym (cond-false (nat_eq x.value.addr addr) (Some x.key) (start_key xs addr) differs) ∙ lacks)
]

pub adjacent_is : (xs : Items) (e : Keyed Span) (ys : Items) → IsRising 0 (xs ++ e ∷ ys) → start_key (xs ++ e ∷ ys) (end_of e.value) ≡ start_key ys (end_of e.value)
adjacent_is xs e ys rising =
    let parts = rising_back 0 xs (e ∷ ys) rising in
    let above : reach 0 xs ≤ end_of e.value = omega (arith, parts.0) in
    let differs : e.value.addr ≡ end_of e.value → ⊥ = λ same. omega (arith, same, parts.1) in
    skip (end_of e.value) xs (e ∷ ys) (lacks_above (end_of e.value) 0 xs above (rising_front 0 xs (e ∷ ys) rising))
    ∙ cond-false (nat_eq e.value.addr (end_of e.value)) (Some e.key) (start_key ys (end_of e.value)) (ne_eqb e.value.addr (end_of e.value) differs)

pub opened : (before end : ℕ) (ys : Items) → before < end → IsRising end ys
    → cond (is_some (start_key ys end)) (end ∷ []) [] ++ gap_starts end ys ≡ gap_starts before ys
opened before end [] below rising = refl
opened before end (y ∷ ys) below rising =
    let later : List ℕ = gap_starts (end_of y.value) ys in
    let first = gaps_first before y ys (omega (arith, below, rising.0)) in
    elim (cases_Bool (nat_eq y.value.addr end)) [
      | inl same ↦
          let is : y.value.addr ≡ end = eqb-true y.value.addr end same in
          ap (λ (o : Option ℕ). cond (is_some o) (end ∷ []) [] ++ gap_starts end (y ∷ ys)) (cond-true (nat_eq y.value.addr end) (Some y.key) (start_key ys end) same)
          ∙ ap (λ (zs : List ℕ). end ∷ (zs ++ later)) (gap-none end y.value.addr (omega (arith, is)))
          ∙ ap (λ (a : ℕ). a ∷ later) (sym is) ∙ sym first
      | inr differs ↦
          let apart : y.value.addr ≡ end → ⊥ = eqb-false y.value.addr end differs in
          let above : end < y.value.addr = omega (arith, rising.0, apart) in
          ap (λ (o : Option ℕ). cond (is_some o) (end ∷ []) [] ++ gap_starts end (y ∷ ys))
          (cond-false (nat_eq y.value.addr end) (Some y.key) (start_key ys end) differs ∙ lacks_below end (end_of y.value) ys (omega (arith, above)) rising.2)
          ∙ gaps_first end y ys above ∙ sym first
    ]

module _ (items : Items) (key_end : ℕ) (starts : ℕ → Option ℕ) (gaps : List ℕ) (key : ℕ) (at : IsAt (λ _. Unit {0}) key items) (indexed : IsIndexed items key_end starts gaps) where
  parts : IsRising 0 (at.front ++ at.found ∷ at.back)
  parts = subst (λ (zs : Items). IsRising 0 zs) at.is indexed.ordered.rising

  pub hidden_place : (place : ℕ) → SplitsAt gaps at.found.value.addr place → IsCutAt gaps (gap_starts 0 at.front) (gap_starts (reach 0 at.front) (at.found ∷ at.back)) place
  hidden_place place splits =
      let back = rising_back 0 at.front (at.found ∷ at.back) parts in
      place_is gaps at.front (at.found ∷ at.back) at.found.value.addr at.found.value.addr place (indexed.gapped ∙ ap (λ (zs : Items). gap_starts 0 zs) at.is)
      (rising_front 0 at.front (at.found ∷ at.back) parts) back.0 (omega arith, back.1, back.2) (omega arith) splits

  -- the gaps, as one is closed and one is opened
  pub hidden_closed : without_first at.found.value.addr (gap_starts (reach 0 at.front) (at.found ∷ at.back)) ≡ gap_starts (end_of at.found.value) at.back
  hidden_closed =
      let back = rising_back 0 at.front (at.found ∷ at.back) parts in
      dropped (reach 0 at.front) at.found at.back back.0 back.1 back.2

  pub hidden_opened : cond (is_some (starts (end_of at.found.value))) (end_of at.found.value ∷ []) [] ++ gap_starts (end_of at.found.value) at.back ≡ gap_starts (reach 0 at.front) at.back
  hidden_opened =
      let back = rising_back 0 at.front (at.found ∷ at.back) parts in
      let end : ℕ = end_of at.found.value in
      let entry : starts end ≡ start_key at.back end =
      ap (λ (table : ℕ → Option ℕ). table end) (indexed.started ∙ ap (λ (zs : Items). start_key zs) at.is) ∙ adjacent_is at.front at.found at.back parts in
      ap (λ (o : Option ℕ). cond (is_some o) (end ∷ []) [] ++ gap_starts end at.back) entry
      ∙ opened (reach 0 at.front) end at.back (omega (arith, back.0, back.1)) back.2

  -- so the list of starts, as it is closed at a place
  pub hidden_shut : (closed_gaps : List ℕ) (place addr : ℕ) → addr ≡ at.found.value.addr → SplitsAt gaps addr place
      → ((low high : List ℕ) → IsCutAt gaps low high place → closed_gaps ≡ low ++ without_first addr high)
      → (closed_gaps ≡ gap_starts 0 at.front ++ gap_starts (end_of at.found.value) at.back) × (place ≤ length closed_gaps)
  hidden_shut closed_gaps place addr addr_is splits closes =
      let low : List ℕ = gap_starts 0 at.front in
      let later : List ℕ = gap_starts (end_of at.found.value) at.back in
      let cut = hidden_place place (subst (λ (a : ℕ). SplitsAt gaps a place) addr_is splits) in
      let shut : closed_gaps ≡ low ++ later =
      closes low (gap_starts (reach 0 at.front) (at.found ∷ at.back)) cut
      ∙ ap (λ (a : ℕ). low ++ without_first a (gap_starts (reach 0 at.front) (at.found ∷ at.back))) addr_is
      ∙ ap (λ (gs : List ℕ). low ++ gs) hidden_closed in
      (shut, omega (arith, cut.at, ap (λ (gs : List ℕ). length gs) shut, length-append low later))

  -- and as it is closed and opened
  pub hidden_gaps : (closed_gaps opened_gaps : List ℕ) (place addr end : ℕ) (adjacent : Bool)
      → addr ≡ at.found.value.addr → end ≡ end_of at.found.value → adjacent ≡ is_some (starts end) → SplitsAt gaps addr place
      → ((low high : List ℕ) → IsCutAt gaps low high place → closed_gaps ≡ low ++ without_first addr high)
      → ((low high : List ℕ) → IsCutAt closed_gaps low high place → opened_gaps ≡ low ++ (cond adjacent (end ∷ []) [] ++ high))
      → opened_gaps ≡ gap_starts 0 at.front ++ gap_starts (reach 0 at.front) at.back
  hidden_gaps closed_gaps opened_gaps place addr end adjacent addr_is end_is adjacent_means splits closes opens =
      let low : List ℕ = gap_starts 0 at.front in
      let later : List ℕ = gap_starts (end_of at.found.value) at.back in
      let cut = hidden_place place (subst (λ (a : ℕ). SplitsAt gaps a place) addr_is splits) in
      let shut = hidden_shut closed_gaps place addr addr_is splits closes in
      opens low later (record { is = shut.0; at = cut.at })
      ∙ ap (λ (b : Bool). low ++ (cond b (end ∷ []) [] ++ later)) adjacent_means
      ∙ ap (λ (a : ℕ). low ++ (cond (is_some (starts a)) (a ∷ []) [] ++ later)) end_is
      ∙ ap (λ (gs : List ℕ). low ++ gs) hidden_opened

  -- there is room to open one, once one element is out
  pub hidden_room : (len : ℕ) (closed_gaps : List ℕ) → len ≡ length closed_gaps → closed_gaps ≡ gap_starts 0 at.front ++ gap_starts (end_of at.found.value) at.back → len < length items
  hidden_room len closed_gaps len_is is =
      omega (
        arith,
        len_is,
        ap (λ (gs : List ℕ). length gs) is,
        length-append (gap_starts 0 at.front) (gap_starts (end_of at.found.value) at.back),
        gaps_within 0 at.front,
        gaps_within (end_of at.found.value) at.back,
        ap (λ (zs : Items). length zs) at.is,
        length-append at.front (at.found ∷ at.back),
      )

  pub sound_hide : (news : Items) (new_end : ℕ) (new_starts : ℕ → Option ℕ) (new_gaps : List ℕ) (spare room new_room capacity : ℕ)
      → HasSpare spare (length items) key_end room capacity → news ≡ without_key key items → AreApart news → new_end ≡ key_end
      → new_starts ≡ with_start at.found.value.addr None starts → room ≤ new_room
      → new_gaps ≡ gap_starts 0 at.front ++ gap_starts (reach 0 at.front) at.back
      → IsSound news new_end new_starts new_gaps spare new_room capacity
  sound_hide news new_end new_starts new_gaps spare room new_room capacity has is apart ends started rooms gapped =
      let xs : Items = at.front in
      let e : Keyed Span = at.found in
      let ys : Items = at.back in
      let list : without_key key items ≡ xs ++ ys =
      ap (λ (zs : Items). without_key key zs) at.is
      ∙ subst (λ (k : ℕ). without_key k (xs ++ e ∷ ys) ≡ xs ++ ys) at.same (without_key-at xs e ys (subst (λ (zs : Items). AreApart zs) at.is indexed.ordered.apart)) in
      let below = subst (λ (zs : Items). KeysBelow key_end zs) at.is indexed.ordered.below in
      let back = rising_back 0 xs (e ∷ ys) parts in
      let indexed_list : IsIndexed (xs ++ ys) key_end new_starts new_gaps = record {
        ordered = record {
          apart = subst (λ (zs : Items). AreApart zs) (is ∙ list) apart;
          rising = rising_whole 0 xs ys (rising_front 0 xs (e ∷ ys) parts) (rising_lower (reach 0 xs) (end_of e.value) ys (omega (arith, back.0)) back.2);
          below = below_whole key_end xs ys (below_front key_end xs (e ∷ ys) below) (below_back key_end xs (e ∷ ys) below).1;
        };
        started = started ∙ ap (λ (table : ℕ → Option ℕ). with_start e.value.addr None table) (indexed.started ∙ ap (λ (zs : Items). start_key zs) at.is) ∙ sym (starts-removed xs e ys parts);
        gapped = gapped ∙ sym (gaps-append 0 xs ys);
      } in
      let len : length news + 1 ≡ length items =
      omega (arith, ap (λ (zs : Items). length zs) (is ∙ list), ap (λ (zs : Items). length zs) at.is, length-append xs (e ∷ ys), length-append xs ys) in (
        subst (λ (zs : Items). IsIndexed zs new_end new_starts new_gaps) (sym (is ∙ list)) (subst (λ (end : ℕ). IsIndexed (xs ++ ys) end new_starts new_gaps) (sym ends) indexed_list),
        record { keys = omega (arith, len, ends, has.keys); starts_fit = omega (arith, rooms, has.starts_fit); gaps_fit = omega (arith, len, has.gaps_fit) },
      )
