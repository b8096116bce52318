-- Answers are woven by how many of each participant's were taken.
use Rattle.std.proofs.Common.{◌≡◌, ◌∙◌, ℕ, zero, suc, ◌+◌, ◌<◌, ◌≤◌, ◌==◌, eq-eqb, ne_eqb, List, [], ◌∷◌, ◌++◌, drop, take, set, length, map, replicate, get_or, get_or-set_same, get_or-set_other, Some, None, refl, sym, ap, subst, inl, inr, arith}
use Rattle.std.specs.List.{slice_get}
use Rattle.std.proofs.lemmas.Bool.{cases_eq, cond-false, cond-true}
use Rattle.std.proofs.lemmas.List.{append_assoc, drop-drop, drop_more, length-append, length-set, length-take-le, take-append-drop}
use Rattle.std.proofs.lemmas.List.Elements.{filter-append}
use Rattle.std.proofs.lemmas.Option.{none-some, same_Some}
use Rattle.hp_script.specs.declared.answer.Answer.{Answer}
use Rattle.hp_script.specs.declared.line.Line.{Line}
use Rattle.thm_run.proofs.RunFacts.SoFarFacts.{at_place}
use Rattle.hp_weave.specs.Weaving.{without_first, woven}
use Rattle.hp_threads.specs.Working.{lines_for}
use Rattle.hp_proc.proofs.Unarmed.{all_alike}
use Rattle.hp_threads.proofs.OwnLines.{other_more, own_more}

-- what is left of each one's items where so many of its were taken
abbrev pub left : {A : Type 0} → List ℕ → (ℕ → List A) → ℕ → List A
left next items who = drop (get_or next who 0) (items who)

module _ {A : Type 0} where
  drop_twice : (n : ℕ) (xs : List A) → drop 1 (drop n xs) ≡ drop (n + 1) xs
  drop_twice n xs = drop-drop 1 n xs

  take_one : (n : ℕ) (xs : List A) (x : A) → slice_get xs n ≡ Some x → take 1 (drop n xs) ≡ x ∷ []
  take_one zero [] x at = absurd (none-some x at)
  take_one (suc n) [] x at = absurd (none-some x at)
  take_one zero (y ∷ xs) x at = ap (λ (one : A). one ∷ []) (same_Some y x at)
  take_one (suc n) (y ∷ xs) x at = take_one n xs x at

  module _ (next : List ℕ) (items : ℕ → List A) (who : ℕ) (within : who < length next) where
    abbrev later : List ℕ
    later = set next who (get_or next who 0 + 1)

    without_is : (other : ℕ) → without_first who (left next items) other ≡ left later items other
    without_is other = elim (cases_eq other who) [
      | inl same ↦
          cond-true (other == who) (drop 1 (left next items other)) (left next items other) (eq-eqb other who same)
          ∙ drop_twice (get_or next other 0) (items other)
          ∙ ap (λ (n : ℕ). drop n (items other))
          (ap (λ (it : ℕ). get_or next it 0 + 1) same ∙ sym (get_or-set_same next who (get_or next who 0 + 1) 0 within)
          ∙ ap (λ (it : ℕ). get_or later it 0) (sym same))
      | inr apart ↦
          cond-false (other == who) (drop 1 (left next items other)) (left next items other) (ne_eqb other who apart)
          ∙ ap (λ (n : ℕ). drop n (items other)) (sym (get_or-set_other next who other (get_or next who 0 + 1) 0 apart))
    ]

    -- the next one is the first that its participant has left
    pub woven_next : (whos : List ℕ) (x : A) → slice_get (items who) (get_or next who 0) ≡ Some x
        → woven (who ∷ whos) (left next items) ≡ x ∷ woven whos (left later items)
    woven_next whos x at =
        ap (λ (first : List A). first ++ woven whos (without_first who (left next items)))
        (take_one (get_or next who 0) (items who) x at)
        ∙ ap (λ (rest : ℕ → List A). x ∷ woven whos rest) (λ i other. without_is other i)

-- nothing was taken yet
pub left_none : {A : Type 0} (next : List ℕ) (items : ℕ → List A) → ((who : ℕ) → get_or next who 0 ≡ 0) → (who : ℕ)
    → left next items who ≡ items who
left_none next items none who = ap (λ (n : ℕ). drop n (items who)) (none who)

-- nobody's items were taken
pub begin_weaving : (next : List ℕ) (whos : List ℕ) (items : ℕ → List Answer) → next ≡ replicate 16 0
    → [] ++ woven whos (left next items) ≡ woven whos items
begin_weaving next whos items none =
    ap (woven whos) (λ i who. left_none next items (λ who. ap (λ (all : List ℕ). get_or all who 0) none ∙ all_alike 0 16 who) who i)

abbrev whos_of : List Line → List ℕ
whos_of lines = map (λ (line : Line). line.participant) lines

-- one more is woven
module _ (lines : List Line) (index : ℕ) (line : Line) (within : index < length lines) (is : line ≡ get_or lines index line) where
  pub weave_one : (next : List ℕ) (items : ℕ → List Answer) (done whole : List Answer) (answer : Answer) → line.participant < length next
      → slice_get (items line.participant) (get_or next line.participant 0) ≡ Some answer
      → done ++ woven (whos_of (drop index lines)) (left next items) ≡ whole
      → (done ++ answer ∷ [])
      ++ woven (whos_of (drop (index + 1) lines)) (left (set next line.participant (get_or next line.participant 0 + 1)) items) ≡ whole
  weave_one next items done whole answer low at before =
      append_assoc done (answer ∷ [])
      (woven (whos_of (drop (index + 1) lines)) (left (set next line.participant (get_or next line.participant 0 + 1)) items))
      ∙ ap (λ (all : List Answer). done ++ all)
      (sym (woven_next next items line.participant low (whos_of (drop (index + 1) lines)) answer at))
      ∙ ap (λ (all : List Line). done ++ woven (whos_of all) (left next items))
      (sym (drop_more lines index line within ∙ ap (λ (one : Line). one ∷ drop (index + 1) lines) (sym is)))
      ∙ before

-- HOW MANY WERE TAKEN

-- none yet
pub counted_none : (next : List ℕ) (lines : List Line) → next ≡ replicate 16 0 → (who : ℕ) → who < length next
    → get_or next who 0 ≡ length (lines_for who (take 0 lines))
counted_none next lines none who low = ap (λ (all : List ℕ). get_or all who 0) none ∙ all_alike 0 16 who

-- of each participant as many were taken as it has lines among the first ones
abbrev pub AreCounted : List ℕ → List Line → Type 0
AreCounted next lines = (who : ℕ) → who < length next → get_or next who 0 ≡ length (lines_for who lines)

module _ (lines : List Line) (index : ℕ) (line : Line) (within : index < length lines) (is : line ≡ get_or lines index line) where
  pub counted_next : (next : List ℕ) → AreCounted next (take index lines) → line.participant < length next
      → AreCounted (set next line.participant (get_or next line.participant 0 + 1)) (take (index + 1) lines)
  counted_next next before low who few = elim (cases_eq who line.participant) [
    | inl same ↦
        let own = own_more lines index line within is who (sym same) in
        ap (λ (it : ℕ). get_or (set next line.participant (get_or next line.participant 0 + 1)) it 0) same
        ∙ get_or-set_same next line.participant (get_or next line.participant 0 + 1) 0 low
        ∙ omega (
          arith,
          before line.participant low,
          ap (λ (it : ℕ). length (lines_for it (take index lines))) same,
          ap (λ (all : List Line). length all) own,
          length-append (lines_for who (take index lines)) (line ∷ []),
        )
    | inr apart ↦
        get_or-set_other next line.participant who (get_or next line.participant 0 + 1) 0 apart
        ∙ before who (subst (λ (n : ℕ). who < n) (length-set next line.participant (get_or next line.participant 0 + 1)) few)
        ∙ sym (ap (λ (all : List Line). length all) (other_more lines index line within is who (λ own. apart (sym own))))
  ]

  -- and the one whose line comes next has one left
  pub one_left : (who : ℕ) → line.participant ≡ who → length (lines_for who (take index lines)) < length (lines_for who lines)
  one_left who own =
      let more = own_more lines index line within is who own in
      omega (
        arith,
        ap (λ (all : List Line). length all) more,
        length-append (lines_for who (take index lines)) (line ∷ []),
        front_less who,
      )
    where
      front_less : (who : ℕ) → length (lines_for who (take (index + 1) lines)) ≤ length (lines_for who lines)
      front_less who =
          let all : lines ≡ take (index + 1) lines ++ drop (index + 1) lines = sym (take-append-drop (index + 1) lines) in
          omega (
            arith,
            ap (λ (all : List Line). length (lines_for who all)) all,
            ap (λ (all : List Line). length all)
                (filter-append (λ (one : Line). one.participant == who) (take (index + 1) lines) (drop (index + 1) lines)),
            length-append (lines_for who (take (index + 1) lines)) (lines_for who (drop (index + 1) lines)),
          )

  -- of its answers, which are as many as its lines, one is left
  module _ (by : ℕ → List Answer) (count : (who : ℕ) → length (by who) ≡ length (lines_for who lines)) (next : List ℕ)
      (before : AreCounted next (take index lines)) (low : line.participant < length next) where
    pub taken_fewer : get_or next line.participant 0 < length (by line.participant)
    taken_fewer = omega (arith, before line.participant low, one_left line.participant refl, count line.participant)

    pub not_over : (A : Type 0) → slice_get (by line.participant) (get_or next line.participant 0) ≡ None → A
    not_over A none =
        let one = at_place (by line.participant) (get_or next line.participant 0) taken_fewer in
        absurd (none-some one.it (sym none ∙ one.there))

-- as many as there are lines at most
few_lines : (who : ℕ) (lines : List Line) → length (lines_for who lines) ≤ length lines
few_lines who [] = omega arith
few_lines who (line ∷ lines) = elim (cases_eq line.participant who) [
  | inl own ↦
      omega (
        arith,
        ap (λ (all : List Line). length all)
            (cond-true (line.participant == who) (line ∷ lines_for who lines) (lines_for who lines) (eq-eqb line.participant who own)),
        few_lines who lines,
      )
  | inr apart ↦
      omega (
        arith,
        ap (λ (all : List Line). length all)
            (cond-false (line.participant == who) (line ∷ lines_for who lines) (lines_for who lines) (ne_eqb line.participant who apart)),
        few_lines who lines,
      )
]

pub counted_few : (next : List ℕ) (lines : List Line) (index who : ℕ) → AreCounted next (take index lines) → who < length next
    → index < length lines → get_or next who 0 ≤ index
counted_few next lines index who counted low within =
    omega (arith, counted who low, few_lines who (take index lines), length-take-le index lines (omega (arith, within)))
