-- Each kind of step keeps what is known of lines that are done: takes and gives, and what is told of lines and looked up.
use Rattle.std.proofs.Common.{◌≡◌, ◌≢◌, ◌∙◌, ◌⊎◌, inl, inr, ⊎_elim, ℕ, zero, suc, ◌<◌, ◌≤◌, ◌^◌, cond, eqb, eq-eqb, ne_eqb, List, [], ◌∷◌, length, take, drop, get_or, set, refl, sym, ap, subst, arith, get_or-set_other, get_or-set_same}
use Rattle.std.specs.Prelude.{slice_get, unwrap_or}
use Rattle.std.specs.Option.{option_map}
use Rattle.std.specs.List.{All, Contains}
use Rattle.std.proofs.lemmas.Bool.{cond-true, cond-false}
use Rattle.std.proofs.lemmas.List.{append-nil, drop_all, take_all, take-append-drop}
use Rattle.std.proofs.lemmas.List.Elements.{All-cons, All-weaker, Contains-get_or}
use Rattle.std.proofs.lemmas.Option.{slice_get-get_or}
use mathlib.Core.Logic.{dite}
use native.Mathlib.Decide.{ℕ_discrete}
use Rattle.hp_heap.specs.declared.entry.Entry.{Entry}
use Rattle.hp_heap.specs.History.{entries_of}
use Rattle.hp_hall.specs.Values.{history_of}
use Rattle.hp_hall.specs.declared.kept.Kept.{Kept}
use Rattle.hp_hall.specs.declared.kept.Kept.TheVariants.{Heap, Names, Segments}
use Rattle.hp_board.specs.HeapsKept.{AreKept}
use Rattle.hp_board.specs.KeptValues.{IsKeptAt, entries_added}
use Rattle.hp_board.specs.Lines.{AreLines, HoldsLines, IsAwaited, IsMarkOf}
use Rattle.hp_board.specs.NamesKept.{AreNamed}
use Rattle.hp_board.specs.Views.{Learned, BeginsWith, after_give, after_lookup, after_take, after_telling, awaited_now, done_now, lines_known, lines_told, names_seen, none_done, under, value_of, values_of, zones_seen}
use Rattle.hp_board.specs.Words.{done_word, lines_by}
use Rattle.hp_board.specs.declared.opening.Opening.{Opening}
use Rattle.hp_board.specs.declared.view.Awaited.{Awaited}
use Rattle.hp_board.specs.declared.view.LinesDone.{LinesDone}
use Rattle.hp_board.specs.declared.view.Mine.{Mine}
use Rattle.hp_board.specs.declared.view.Move.{Move}
use Rattle.hp_board.specs.declared.view.Move.TheVariants.{Gave, Took}
use Rattle.hp_board.specs.declared.words.TheConstants.{SLOTS, WORDS}
use Rattle.hp_board.proofs.Fronts.{front_itself, front_on, front_same}
use Rattle.hp_board.proofs.LinesKept.{GoesOn, awaited_on, goes_same, mark_on, values_front}
use Rattle.hp_board.proofs.StepsOfSeats.LinesSteps.{IsWithin, histories, lines_kept, lines_step, awaits_on, known_part, mark_of}
use Rattle.hp_board.proofs.Pairs.{value_of-here, value_of-else}
use Rattle.hp_board.proofs.Updates.{with_at, each}

-- what is known of lines, by who it is, what it has told and what it has looked up
abbrev known_by : ℕ → ℕ → List LinesDone → List (ℕ × Awaited) → ℕ
known_by other who done awaited =
    cond (eqb other who) (unwrap_or (slice_get done 0) none_done).lines (unwrap_or (option_map (λ a. a.lines) (value_of other awaited)) 0)

known_same : (other : ℕ) (old new : Mine) → new.who ≡ old.who → new.done ≡ old.done → new.awaited ≡ old.awaited → lines_known other new ≡ lines_known other old
known_same other old new who done awaited =
    ap (λ (w : ℕ). known_by other w new.done new.awaited) who
    ∙ (ap (λ (l : List LinesDone). known_by other old.who l new.awaited) done ∙ ap (λ (l : List (ℕ × Awaited)). known_by other old.who old.done l) awaited)

-- one thing is among one thing
only : {A : Type 0} (x y : A) → Contains (x ∷ []) y → x ≡ y
only x y (k, inside, is) = by k inside is
  where
    by : (k : ℕ) → k < 1 → get_or (x ∷ []) k y ≡ y → x ≡ y
    by zero inside is = is
    by (suc k) inside is = absurd (omega (arith, inside))

first_or : {A : Type 0} (x : A) (xs : List A) (y : A) → Contains (x ∷ xs) y → (x ≡ y) ⊎ Contains xs y
first_or x xs y (k, inside, is) = by k inside is
  where
    by : (k : ℕ) → k < length (x ∷ xs) → get_or (x ∷ xs) k y ≡ y → (x ≡ y) ⊎ Contains xs y
    by zero inside is = inl is
    by (suc k) inside is = inr (k, omega (arith, inside), is)

none_among : {A : Type 0} (x : A) → Contains [] x → ⊥
none_among x (k, inside, is) = omega (arith, inside)

module _ (opening : Opening) (words : List ℕ) (kept : ℕ → Kept) (mine : ℕ → Mine) (old : AreLines opening words kept mine)
    (part : Mine) (known : part ≡ mine part.who) (declared : part.who < opening.participants) where
  -- a step that changes nothing of it
  pub lines_same : (words' : List ℕ) (new : Mine) → new.who ≡ part.who → new.made ≡ part.made → new.zones ≡ part.zones → new.names ≡ part.names
      → new.done ≡ part.done → new.awaited ≡ part.awaited → new.moves ≡ part.moves → ((w : ℕ) → w < opening.participants → lines_by words' w ≡ lines_by words w)
      → AreLines opening words' kept (with_at part.who new mine)
  lines_same words' new who made zones names done awaited moves still =
      let told : lines_told new ≡ lines_told part = ap (λ (l : List LinesDone). (unwrap_or (slice_get l 0) none_done).lines) done in
      let goes : GoesOn part new = record {
        who = who;
        made = front_same part.made new.made made;
        zones = front_same part.zones new.zones zones;
        names = front_same part.names new.names names;
        done = λ mark has. subst (λ (l : List LinesDone). Contains l mark) (sym done) has;
      } in
      lines_kept opening words kept mine old part known declared new goes words' kept (λ slot within. front_itself (history_of (kept slot)))
      (λ w apart may. still w may) (still part.who declared ∙ (old.told part.who declared ∙ (ap lines_told (sym known) ∙ sym told))) (omega (arith, told))
      still done awaited [] (moves ∙ sym (append-nil part.moves)) (λ other mark slot value may is has. absurd (none_among (Took slot value) has))
      (λ other. known_same other part new who done awaited)

  module _ (wide : length words ≡ WORDS) (slot : ℕ) (inside : slot < SLOTS) where
    -- lock words are no done words
    lock_else : (word w : ℕ) → lines_by (set words slot word) w ≡ lines_by words w
    lock_else word w = get_or-set_other words slot (done_word w) word 0 (λ same. omega (arith, same, inside))

    -- a value holds what others made in their lines
    module _ (heaps : AreKept opening kept mine) (named : AreNamed opening kept mine) (its : (w : ℕ) → w < opening.participants → (mine w).who ≡ w) where
      value_holds : (other : ℕ) (mark : LinesDone) → other < opening.participants → (value : Kept) → kept slot ≡ value → IsKeptAt opening slot value → HoldsLines slot (mine other) mark value
      value_holds other mark may (Heap heap pen) is at =
          subst (λ (l : List Entry). BeginsWith l (values_of slot (take mark.entries (mine other).made)))
          (sym (ap (λ (w : ℕ). entries_of w heap.history) (its other may) ∙ (ap (λ (v : Kept). entries_of other (history_of v)) (sym is) ∙ heaps.own other slot may inside)))
          (values_front slot mark.entries (mine other).made)
      value_holds other mark may (Segments segs) is at = tt
      value_holds other mark may (Names names) is at =
          let both : Names names ≡ Names named.names = sym is ∙ (ap kept at.last ∙ named.there) in
          subst (λ (v : Kept). HoldsLines slot (mine other) mark v) (sym both) (
            front_on (mine other).zones named.names.zones.log (take mark.zones (mine other).zones) (named.zones other may)
                (drop mark.zones (mine other).zones, sym (take-append-drop mark.zones (mine other).zones)),
            front_on (mine other).names named.names.heaps.log (take mark.names (mine other).names) (named.heaps other may)
                (drop mark.names (mine other).names, sym (take-append-drop mark.names (mine other).names)),
          )

      -- the logs of a taken value go on from what was seen of them
      logs_on : (value : Kept) → kept slot ≡ value → IsKeptAt opening slot value → BeginsWith (zones_seen value part.zones) part.zones × BeginsWith (names_seen value part.names) part.names
      logs_on (Heap heap pen) is at = (front_itself part.zones, front_itself part.names)
      logs_on (Segments segs) is at = (front_itself part.zones, front_itself part.names)
      logs_on (Names names) is at =
          let both : Names names ≡ Names named.names = sym is ∙ (ap kept at.last ∙ named.there) in
          subst (λ (v : Kept). BeginsWith (zones_seen v part.zones) part.zones × BeginsWith (names_seen v part.names) part.names) (sym both) (
            subst (λ (m : Mine). BeginsWith named.names.zones.log m.zones) (sym known) (named.zones part.who declared),
            subst (λ (m : Mine). BeginsWith named.names.heaps.log m.names) (sym known) (named.heaps part.who declared),
          )

      -- a slot is taken
      pub lines_take : (word : ℕ) (learned : Learned) → AreLines opening (set words slot word) kept (with_at part.who (after_take slot (kept slot) learned part) mine)
      lines_take word learned =
          let new : Mine = after_take slot (kept slot) learned part in
          let logs = logs_on (kept slot) refl (heaps.at slot inside) in
          lines_kept opening words kept mine old part known declared new
          (record { who = refl; made = front_itself part.made; zones = logs.0; names = logs.1; done = λ mark has. has })
          (set words slot word) kept (λ k within. front_itself (history_of (kept k))) (λ w apart may. lock_else word w)
          (lock_else word part.who ∙ (old.told part.who declared ∙ ap lines_told (sym known))) (omega arith)
          (λ w may. lock_else word w) refl refl (Took slot (kept slot) ∷ []) refl
          (λ other mark k value may is has.
          let same = only (Took slot (kept slot)) (Took k value) has in
          let slot_is : slot ≡ k = cc in
          let value_is : kept slot ≡ value = cc in
          subst (λ (j : ℕ). HoldsLines j (mine other) mark value) slot_is
          (subst (HoldsLines slot (mine other) mark) value_is (value_holds other mark may (kept slot) refl (heaps.at slot inside))))
          (λ other. refl)

    -- a value is given, whose history and logs go on
    pub lines_give : (given : Kept) → BeginsWith (history_of given) (history_of (kept slot)) → BeginsWith (zones_seen given part.zones) part.zones
        → BeginsWith (names_seen given part.names) part.names → AreLines opening (set words slot 0) (with_at slot given kept) (with_at part.who (after_give slot given part) mine)
    lines_give given grows zones names =
        let new : Mine = after_give slot given part in
        lines_kept opening words kept mine old part known declared new
        (record {
          who = refl;
          made = (under slot (entries_added (value_of slot part.held) given), refl);
          zones = zones;
          names = names;
          done = λ mark has. has;
        })
        (set words slot 0) (with_at slot given kept)
        (each (λ k v. k < SLOTS → BeginsWith (history_of v) (history_of (kept k))) slot given kept (λ _. grows) (λ k apart within. front_itself (history_of (kept k))))
        (λ w apart may. lock_else 0 w) (lock_else 0 part.who ∙ (old.told part.who declared ∙ ap lines_told (sym known))) (omega arith)
        (λ w may. lock_else 0 w) refl refl (Gave slot given ∷ []) refl
        (λ other mark k value may is has.
        let same = only (Gave slot given) (Took k value) has in
        absurd (cc))
        (λ other. refl)

  -- so many lines are told to be done
  pub lines_tell : (lines : ℕ) → done_word part.who < length words → lines < 2 ^ 32 → lines_told part ≤ lines
      → AreLines opening (set words (done_word part.who) lines) kept (with_at part.who (after_telling lines part) mine)
  lines_tell lines inside few rises =
      let new : Mine = after_telling lines part in
      let words' : List ℕ = set words (done_word part.who) lines in
      let here : lines_by words' part.who ≡ lines = get_or-set_same words (done_word part.who) lines 0 inside in
      let goes : GoesOn part new = record {
        who = refl;
        made = front_itself part.made;
        zones = front_itself part.zones;
        names = front_itself part.names;
        done = λ mark has. (suc has.0, omega (arith, has.1), has.2);
      } in
      let rest : (w : ℕ) → w ≢ part.who → w < opening.participants → lines_by words' w ≡ lines_by words w =
      λ w apart may. get_or-set_other words (done_word part.who) (done_word w) lines 0 (λ same. apart (omega (arith, same))) in
      let grows : (slot : ℕ) → slot < SLOTS → BeginsWith (history_of (kept slot)) (history_of (kept slot)) = λ slot within. front_itself (history_of (kept slot)) in
      lines_step opening words kept mine old part known declared new goes words' kept grows rest here rises
      (subst (λ (n : ℕ). n < 2 ^ 32) (sym here) few)
      (λ other may.
      dite (ℕ_discrete other part.who)
      (λ same.
      let mine_is : lines_known other new ≡ lines = cond-true (eqb other part.who) lines (unwrap_or (option_map (λ a. a.lines) (value_of other part.awaited)) 0) (eq-eqb other part.who same) in
      let its : lines_by words' other ≡ lines = ap (lines_by words') same ∙ here in
      omega (arith, mine_is, its))
      (λ apart.
      let low = known_part opening words kept mine old part known declared other may in
      let as_was : lines_known other new ≡ lines_known other part =
      cond-false (eqb other part.who) lines (unwrap_or (option_map (λ a. a.lines) (value_of other part.awaited)) 0) (ne_eqb other part.who apart)
      ∙ sym (cond-false (eqb other part.who) (lines_told part) (unwrap_or (option_map (λ a. a.lines) (value_of other part.awaited)) 0) (ne_eqb other part.who apart)) in
      let still = rest other apart may in
      omega (arith, low, as_was, still)))
      (omega arith)
      (All-cons (IsMarkOf new) (done_now lines part) part.done (record { lines = omega arith; entries = omega arith; zones = omega arith; names = omega arith })
      (All-weaker (IsMarkOf part) (IsMarkOf new) (λ mark is. mark_on part new goes rises mark is) part.done
      (subst (λ (m : Mine). All (IsMarkOf m) m.done) (sym known) (old.marks part.who declared))))
      (subst (λ (m : Mine). All (IsWithin m) m.awaited) (sym known) (old.within part.who declared))
      (λ other one may has.
      awaits_on opening words kept mine old part known declared new goes words' kept grows rest here rises [] (sym (append-nil part.moves))
      (λ w mark slot value may' is none. absurd (none_among (Took slot value) none)) other one may has)

  module _ (heaps : AreKept opening kept mine) (its : (w : ℕ) → w < opening.participants → (mine w).who ≡ w) (from : ℕ) (low : from < opening.participants) where
    -- the lines of a participant, as its word has them, are those of its last mark
    abbrev last_mark : LinesDone
    last_mark = get_or (mine from).done 0 none_done

    last_lines : last_mark.lines ≡ lines_by words from
    last_lines =
        ap (λ o. (unwrap_or o none_done).lines) (sym (slice_get-get_or (mine from).done 0 none_done (old.some from low)))
        ∙ sym (old.told from low)

    -- what was made in them stands in what stands now
    looked_up : IsAwaited (histories kept) part (mine from) (awaited_now (lines_by words from) part)
    looked_up = record {
      mark = last_mark;
      told = Contains-get_or (mine from).done 0 none_done (old.some from low);
      lines = last_lines;
      before = λ slot inside. record {
        front = history_of (kept slot);
        back = [];
        split = sym (append-nil (history_of (kept slot)));
        stood =
            subst (λ (l : List Entry). BeginsWith l (values_of slot (take last_mark.entries (mine from).made)))
            (sym (ap (λ (w : ℕ). entries_of w (history_of (kept slot))) (its from low) ∙ heaps.own from slot low inside))
            (values_front slot last_mark.entries (mine from).made);
        later =
            front_same (entries_of part.who (history_of (kept slot))) (values_of slot (take (length part.made) part.made))
            (ap (values_of slot) (take_all (length part.made) part.made (omega arith))
            ∙ sym (heaps.own part.who slot declared inside ∙ ap (λ (m : Mine). values_of slot m.made) (sym known)));
      };
      taken = λ slot value has.
          absurd (none_among (Took slot value) (subst (λ (l : List Move). Contains l (Took slot value)) (drop_all (length part.moves) part.moves (omega arith)) has));
    }

    -- the lines of a participant are looked up
    pub lines_lookup : AreLines opening words kept (with_at part.who (after_lookup from (lines_by words from) part) mine)
    lines_lookup =
        let lines : ℕ = lines_by words from in
        let new : Mine = after_lookup from lines part in
        let goes : GoesOn part new = record {
          who = refl;
          made = front_itself part.made;
          zones = front_itself part.zones;
          names = front_itself part.names;
          done = λ mark has. has;
        } in
        let grows : (slot : ℕ) → slot < SLOTS → BeginsWith (history_of (kept slot)) (history_of (kept slot)) = λ slot within. front_itself (history_of (kept slot)) in
        let told : lines_by words part.who ≡ lines_told new = old.told part.who declared ∙ ap lines_told (sym known) in
        let on = awaited_on (histories kept) (histories kept) grows part new (mine from) (with_at part.who new mine from) goes
        (each (λ w m. GoesOn (mine w) m) part.who new mine (subst (λ (m : Mine). GoesOn m new) known goes) (λ w apart. goes_same (mine w)) from)
        (awaited_now lines part) looked_up (omega arith)
        (mark_of opening words kept mine old part known declared from looked_up.mark low looked_up.told)
        (λ slot value has. absurd (none_among (Took slot value) (subst (λ (l : List Move). Contains l (Took slot value)) (drop_all (length part.moves) part.moves (omega arith)) has))) in
        lines_step opening words kept mine old part known declared new goes words kept grows (λ w apart may. refl) told (omega arith)
        (old.few part.who declared)
        (λ other may.
        let was = known_part opening words kept mine old part known declared other may in
        dite (ℕ_discrete other part.who)
        (λ same.
        let mine_is : lines_known other new ≡ lines_told part =
        cond-true (eqb other part.who) (lines_told part) (unwrap_or (option_map (λ a. a.lines) (value_of other new.awaited)) 0) (eq-eqb other part.who same) in
        let its : lines_by words other ≡ lines_told part = ap (lines_by words) same ∙ told in
        omega (arith, mine_is, its))
        (λ apart.
        let is : lines_known other new ≡ unwrap_or (option_map (λ a. a.lines) (value_of other new.awaited)) 0 =
        cond-false (eqb other part.who) (lines_told part) (unwrap_or (option_map (λ a. a.lines) (value_of other new.awaited)) 0) (ne_eqb other part.who apart) in
        dite (ℕ_discrete other from)
        (λ here.
        let found : lines_known other new ≡ lines =
        is ∙ (ap (λ (k : ℕ). unwrap_or (option_map (λ a. a.lines) (value_of k new.awaited)) 0) here
        ∙ ap (λ o. unwrap_or (option_map (λ a. a.lines) o) 0) (value_of-here from (awaited_now lines part) part.awaited)) in
        let its : lines_by words other ≡ lines = ap (lines_by words) here in
        omega (arith, found, its))
        (λ else.
        let same : lines_known other new ≡ lines_known other part =
        is ∙ (ap (λ o. unwrap_or (option_map (λ a. a.lines) o) 0) (value_of-else from other (awaited_now lines part) part.awaited else)
        ∙ sym (cond-false (eqb other part.who) (lines_told part) (unwrap_or (option_map (λ a. a.lines) (value_of other part.awaited)) 0) (ne_eqb other part.who apart))) in
        omega (arith, same, was))))
        (subst (λ (m : Mine). 0 < length m.done) (sym known) (old.some part.who declared))
        (All-weaker (IsMarkOf part) (IsMarkOf new) (λ mark is. mark_on part new goes (omega arith) mark is) part.done
        (subst (λ (m : Mine). All (IsMarkOf m) m.done) (sym known) (old.marks part.who declared)))
        (All-cons (IsWithin new) (from, awaited_now lines part) part.awaited (omega arith, omega arith)
        (subst (λ (m : Mine). All (IsWithin m) m.awaited) (sym known) (old.within part.who declared)))
        (λ other one may has.
        ⊎_elim
        (λ same.
        let other_is : from ≡ other = ap (λ (p : ℕ × Awaited). p.0) same in
        let one_is : awaited_now lines part ≡ one = ap (λ (p : ℕ × Awaited). p.1) same in
        subst (λ (w : ℕ). IsAwaited (histories kept) new (with_at part.who new mine w) one) other_is
        (subst (IsAwaited (histories kept) new (with_at part.who new mine from)) one_is on))
        (λ before.
        awaits_on opening words kept mine old part known declared new goes words kept grows (λ w apart may. refl) told (omega arith) [] (sym (append-nil part.moves))
        (λ w mark slot value may' is none. absurd (none_among (Took slot value) none)) other one may before)
        (first_or (from, awaited_now lines part) part.awaited (other, one) has))
