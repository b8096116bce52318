-- What a closed board says of a participant's table.
use Rattle.std.proofs.Common.{◌≡◌, ◌∙◌, Bool, true, false, ◌||◌, List, [], refl, sym, ap, subst, arith, if◌then◌else◌}
use Rattle.std.specs.Prelude.{Contains, not}
use Rattle.std.proofs.lemmas.Bool.{false≢true}
use Rattle.std.specs.Option.{is_some}
use Rattle.hp_base.specs.declared.limits.TheConstants.{MAX_HEAPS}
use Rattle.hp_base.specs.declared.row.Row.{Row}
use Rattle.hp_segs.specs.SegsView.{SegsView}
use Rattle.hp_segs.specs.Sound.{IsSound}
use Rattle.hp_hall.specs.Own.{rows_known}
use Rattle.hp_board.proofs.TakenIn.{HasTakenIn}
use Rattle.hp_board.specs.Closing.{KeepsTableOf}
use Rattle.hp_board.specs.Lag.{IsLagging}
use Rattle.hp_board.specs.Views.{holds_segments, own_of, table_of, value_of}
use Rattle.hp_board.specs.declared.view.Mine.{Mine}
use Rattle.hp_board.proofs.Fronts.{front_length}
use Rattle.hp_board.proofs.InUse.{in_use_known}
use Rattle.hp_board.proofs.OwnershipFacts.TablesKnown.{known_front}

-- who is in the roster has the table that it took in
pub table_joined : (mine : Mine) → mine.joined ≡ true → table_of mine ≡ rows_known mine.log (own_of mine)
table_joined mine is = ap (λ (b : Bool). if b || mine.joining then rows_known mine.log (own_of mine) else []) is

-- and so has who joins
pub table_joining : (mine : Mine) (joined : Bool) → mine.joined ≡ joined → mine.joining ≡ not joined → table_of mine ≡ rows_known mine.log (own_of mine)
table_joining mine true is joins = table_joined mine is
table_joining mine false is joins =
    ap (λ (b : Bool). if b || mine.joining then rows_known mine.log (own_of mine) else []) is
    ∙ ap (λ (b : Bool). if b then rows_known mine.log (own_of mine) else []) joins

module _ (segs : SegsView) (mine : Mine) (sound : IsSound segs) (lag : IsLagging segs mine.who mine) (taken : HasTakenIn segs mine.who mine) (free : mine.held ≡ []) where
  table_is : mine.joined ≡ true → table_of mine ≡ rows_known segs.log (own_of mine)
  table_is is = table_joined mine is ∙ known_front segs.log mine.log (own_of mine) lag.log lag.behind lag.within

  joins_by : (joining : Bool) → mine.joining ≡ joining → mine.joining ≡ false
  joins_by false is = is
  joins_by true is =
      let none : holds_segments mine ≡ false = ap (λ held. is_some (value_of MAX_HEAPS held)) free in
      absurd (false≢true (sym none ∙ lag.joining is))

  pub keeps_table : KeepsTableOf segs mine
  keeps_table = record {
    log = lag.log;
    heard = lag.heard;
    behind = lag.behind;
    within = let long = front_length segs.log mine.log lag.log in omega (arith, lag.within, long);
    joined = lag.joined;
    table = table_is;
    rows = λ is row has.
        subst (λ (l : List Row). Contains l row) (sym (table_is is)) (in_use_known segs mine.who mine row sound (lag.joined ∙ is) taken has);
    out = λ is.
        ap (λ (b : Bool). if b || mine.joining then rows_known mine.log (own_of mine) else []) is
        ∙ ap (λ (b : Bool). if b then rows_known mine.log (own_of mine) else []) (joins_by mine.joining refl);
  }
