-- Words and noted numbers are kept by each kind of step.
use Rattle.std.proofs.Common.{◌≡◌, ◌≢◌, ◌∙◌, ℕ, ◌<◌, ◌≤◌, eqb, eq-eqb, ne_eqb, List, length, get_or, set, slice_index, Option, unwrap_or, refl, sym, ap, subst, arith, get_or-set_other, get_or-set_same}
use Rattle.std.proofs.lemmas.Bool.{cond-true, cond-false}
use mathlib.Core.Logic.{dite}
use native.Mathlib.Decide.{ℕ_discrete}
use Rattle.hp_board.proofs.Pairs.{value_of-here, value_of-else}
use Rattle.hp_board.specs.Views.{value_of}
use Rattle.hp_board.specs.declared.words.TheConstants.{SLOTS}
use Rattle.hp_board.specs.declared.view.Mine.{Mine}
use Rattle.hp_board.specs.Views.{after_acking, after_load, noted_of}
use Rattle.hp_board.specs.Words.{IsTold, ack_word}

pub noted_own : (mine : Mine) → noted_of mine.who mine ≡ mine.number
noted_own mine = cond-true (eqb mine.who mine.who) mine.number (unwrap_or (value_of mine.who mine.noted) 0) (eq-eqb mine.who mine.who refl)

pub noted_other : (other : ℕ) (mine : Mine) → other ≢ mine.who → noted_of other mine ≡ unwrap_or (value_of other mine.noted) 0
noted_other other mine apart = cond-false (eqb other mine.who) mine.number (unwrap_or (value_of other mine.noted) 0) (ne_eqb other mine.who apart)

module _ (participants : ℕ) (words : List ℕ) where
  -- a lock word changes
  pub told_lock : (slot word who : ℕ) (mine : Mine) → slot < SLOTS → IsTold participants words who mine → IsTold participants (set words slot word) who mine
  told_lock slot word who mine inside told = record {
    its = told.its;
    own = get_or-set_other words slot (ack_word who) word 0 (λ same. omega arith) ∙ told.own;
    noted = λ other declared. subst (λ (n : ℕ). noted_of other mine ≤ n) (sym (get_or-set_other words slot (ack_word other) word 0 (λ same. omega arith))) (told.noted other declared);
  }

  -- a view that knows no other numbers
  pub told_same : (who : ℕ) (old new : Mine) → new.who ≡ old.who → new.number ≡ old.number → new.noted ≡ old.noted → IsTold participants words who old → IsTold participants words who new
  told_same who old new its number noted told =
      let known : (other : ℕ) → noted_of other new ≡ noted_of other old = λ other. cc in
      record {
        its = its ∙ told.its;
        own = told.own ∙ sym number;
        noted = λ other declared. subst (λ (n : ℕ). n ≤ slice_index words (ack_word other)) (sym (known other)) (told.noted other declared);
      }

  module _ (by number : ℕ) (inside : ack_word by < length words) (rises : slice_index words (ack_word by) ≤ number) where
    word_else : (other : ℕ) → other ≢ by → get_or (set words (ack_word by) number) (ack_word other) 0 ≡ get_or words (ack_word other) 0
    word_else other apart = get_or-set_other words (ack_word by) (ack_word other) number 0 (λ same. apart (omega arith))

    word_rises : (other : ℕ) → get_or words (ack_word other) 0 ≤ get_or (set words (ack_word by) number) (ack_word other) 0
    word_rises other =
        dite (ℕ_discrete other by)
        (λ same. subst (λ (k : ℕ). get_or words (ack_word k) 0 ≤ get_or (set words (ack_word by) number) (ack_word k) 0) (sym same)
        (let new = get_or-set_same words (ack_word by) number 0 inside in omega (arith, new, rises)))
        (λ apart. let same = word_else other apart in omega (arith, same))

    -- a word rises, of another
    pub told_other : (who : ℕ) (mine : Mine) → who ≢ by → IsTold participants words who mine → IsTold participants (set words (ack_word by) number) who mine
    told_other who mine apart told = record {
      its = told.its;
      own = word_else who apart ∙ told.own;
      noted = λ other declared. let low = told.noted other declared in let more = word_rises other in omega (arith, low, more);
    }

    -- and one's own
    pub told_own : (mine : Mine) → IsTold participants words by mine → IsTold participants (set words (ack_word by) number) by (after_acking number mine)
    told_own mine told = record {
      its = told.its;
      own = get_or-set_same words (ack_word by) number 0 inside;
      noted = λ other declared.
          dite (ℕ_discrete other by)
          (λ same. let mine_is = told.its in
          subst (λ (k : ℕ). noted_of k (after_acking number mine) ≤ get_or (set words (ack_word by) number) (ack_word k) 0) (sym same)
          (let new = get_or-set_same words (ack_word by) number 0 inside in
          let known : noted_of by (after_acking number mine) ≡ number = ap (λ (k : ℕ). noted_of k (after_acking number mine)) (sym mine_is) ∙ noted_own (after_acking number mine) in
          omega (arith, new, known)))
          (λ apart.
          let its = told.its in
          let same = word_else other apart in
          let low = told.noted other declared in
          let was = noted_other other mine (λ is. apart (is ∙ its)) in
          let now = noted_other other (after_acking number mine) (λ is. apart (is ∙ its)) in
          omega (arith, same, low, was, now));
    }

  -- a number is loaded
  pub told_load : (who from : ℕ) (mine : Mine) → IsTold participants words who mine → IsTold participants words who (after_load from (slice_index words (ack_word from)) mine)
  told_load who from mine told =
      let new : Mine = after_load from (slice_index words (ack_word from)) mine in
      record {
        its = told.its;
        own = told.own;
        noted = λ other declared.
            dite (ℕ_discrete other mine.who)
            (λ self. let low = told.noted other declared in
            let was : noted_of other mine ≡ mine.number = ap (λ (k : ℕ). noted_of k mine) self ∙ noted_own mine in
            let now : noted_of other new ≡ mine.number = ap (λ (k : ℕ). noted_of k new) self ∙ noted_own new in
            omega (arith, low, was, now))
            (λ not_self. let low = told.noted other declared in
            let was = noted_other other mine not_self in
            let now = noted_other other new not_self in
            dite (ℕ_discrete other from)
            (λ same. let here = value_of-here from (slice_index words (ack_word from)) mine.noted in
            let is : noted_of other new ≡ slice_index words (ack_word other) =
            now ∙ (ap (λ (k : ℕ). unwrap_or (value_of k new.noted) 0) same ∙ (ap (λ (o : Option ℕ). unwrap_or o 0) here ∙ ap (λ (k : ℕ). slice_index words (ack_word k)) (sym same))) in
            omega (arith, is))
            (λ apart. let same = ap (λ (o : Option ℕ). unwrap_or o 0) (value_of-else from other (slice_index words (ack_word from)) mine.noted apart) in
            omega (arith, low, was, now, same)));
      }

  -- what is known of another's number never falls
  pub load_rises : (who from : ℕ) (mine : Mine) → from < participants → IsTold participants words who mine → noted_of from mine ≤ slice_index words (ack_word from)
  load_rises who from mine declared told = told.noted from declared
