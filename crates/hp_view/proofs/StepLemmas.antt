-- One line more of what is drawn line by line.
use Rattle.std.proofs.Common.{◌≡◌, ℕ, ◌+◌, ◌<◌, Bool, true, false, cond, List, [], ◌∷◌, ◌++◌, length, drop, get_or, refl, sym, ap, ◌∙◌, append_assoc, append-nil}
use Rattle.std.specs.Prelude.{max, Option, Some, None}
use Rattle.std.proofs.lemmas.List.{drop_more}
use Rattle.hp_view.specs.declared.asks.RefusedMark.{RefusedMark}
use Rattle.hp_view.specs.declared.bands.Band.{Band}
use Rattle.hp_view.specs.declared.line.Line.{Line}
use Rattle.hp_view.specs.declared.lists.Slots.{Slots}
use Rattle.hp_view.specs.declared.log.Chart.{Chart}
use Rattle.hp_view.specs.declared.log.Key.{Key}
use Rattle.hp_view.specs.declared.mark.Mark.{Mark}
use Rattle.hp_view.specs.declared.shape.Shape.{Shape}
use Rattle.hp_view.specs.Asks.{after_ask, drawn_before, last_shapes, mark_after, mark_of_ask, refusals}
use Rattle.hp_view.specs.Bands.{band_after, drawn_unless, joins, mark_shapes, next_mark}
use Rattle.hp_view.specs.Heaps.{below, below_shapes, chart_of, caption_shapes, heap_or_nothing, heaps, key_of}
use Rattle.hp_view.specs.Lists.{holds, list_at}
use Rattle.hp_view.specs.Logs.{peak, record_shapes, records_after, steps, total_after}
use Rattle.hp_view.specs.Scales.{plus}
use Rattle.hp_view.specs.Tables.{below_row, row_shapes, tables}
use Rattle.hp_view.specs.Ticks.{bytes_past, page_of, tick_of, ticks}

-- a piece is drawn: the page and what is left are together what they were
pub moved : (page page' piece left left' whole : List Shape) → page ++ left ≡ whole → left ≡ piece ++ left' → page' ≡ page ++ piece → page' ++ left' ≡ whole
moved page page' piece left left' whole so_far is drawn =
    ap (λ (p : List Shape). p ++ left') drawn ∙ (append_assoc page piece left' ∙ (ap (λ (l : List Shape). page ++ l) (sym is) ∙ so_far))

-- nothing is drawn
pub stayed : (page left left' whole : List Shape) → page ++ left ≡ whole → left ≡ left' → page ++ left' ≡ whole
stayed page left left' whole so_far is = ap (λ (l : List Shape). page ++ l) (sym is) ∙ so_far

-- the list from a place on
pub from_here : {X : Type 0} (xs : List X) (i : ℕ) (x : X) → i < length xs → x ≡ get_or xs i x → drop i xs ≡ x ∷ drop (i + 1) xs
from_here xs i x within is = drop_more xs i x within ∙ ap (λ (y : _). y ∷ drop (i + 1) xs) (sym is)

-- an element of a list, whatever would stand for one that is not there
pub item_is : {X : Type 0} (xs : List X) (i : ℕ) (x d : X) → i < length xs → x ≡ get_or xs i x → x ≡ get_or xs i d
item_is xs i x d within is = ap (λ (ys : List _). get_or ys 0 x) (sym (from_here xs i x within is) ∙ drop_more xs i d within)

-- three texts, each of which is another
pub three_texts : (a a_is b b_is c c_is : List ℕ) → a ≡ a_is → b ≡ b_is → c ≡ c_is → a ++ (b ++ c) ≡ a_is ++ (b_is ++ c_is)
three_texts a a_is b b_is c c_is first second third =
    ap (λ (text : List ℕ). text ++ (b ++ c)) first
    ∙ (ap (λ (text : List ℕ). a_is ++ (text ++ c)) second ∙ ap (λ (text : List ℕ). a_is ++ (b_is ++ text)) third)

-- two pieces are drawn, one after the other
pub and_then : (before between after first second : List Shape) → between ≡ before ++ first → after ≡ between ++ second
    → after ≡ before ++ (first ++ second)
and_then before between after first second one two =
    two ∙ (ap (λ (page : List Shape). page ++ second) one ∙ append_assoc before first second)

-- the second at a height that is known by another name
pub and_at : (piece : ℕ → List Shape) (y at : ℕ) (before between after first : List Shape) → y ≡ at → between ≡ before ++ first
    → after ≡ between ++ piece y → after ≡ before ++ (first ++ piece at)
and_at piece y at before between after first is one two =
    and_then before between after first (piece at) one (two ∙ ap (λ (k : ℕ). between ++ piece k) is)

pub ticks_more : (lists : List Slots) (heap total y before : ℕ) (rest : List Line) (line : Line) (left : List Line) → left ≡ line ∷ rest
    → ticks lists heap total y before left ≡ tick_of lists total y before (page_of heap line) ++ ticks lists heap total y (bytes_past lists before (page_of heap line)) rest
unfolding ticks
ticks_more lists heap total y before rest line left is = rw is refl

pub no_ticks : (lists : List Slots) (heap total y before : ℕ) (left : List Line) → left ≡ [] → ticks lists heap total y before left ≡ []
unfolding ticks
no_ticks lists heap total y before left none = rw none refl

pub steps_more : (all : List Line) (lists : List Slots) (chart : Chart) (at total : ℕ) (rest : List Line) (line : Line) (left : List Line) → left ≡ line ∷ rest
    → steps all lists chart at total left ≡ record_shapes all lists chart at (total_after chart.key lists total line) line
    ++ steps all lists chart (records_after at line) (total_after chart.key lists total line) rest
unfolding steps
steps_more all lists chart at total rest line left is = rw is refl

pub no_steps : (all : List Line) (lists : List Slots) (chart : Chart) (at total : ℕ) (left : List Line) → left ≡ [] → steps all lists chart at total left ≡ []
unfolding steps
no_steps all lists chart at total left none = rw none refl

pub no_peak : (key : Key) (lists : List Slots) (total most : ℕ) (left : List Line) → left ≡ [] → peak key lists total most left ≡ most
unfolding peak
no_peak key lists total most left none = rw none refl

pub peak_more : (key : Key) (lists : List Slots) (total most : ℕ) (rest : List Line) (line : Line) (left : List Line) → left ≡ line ∷ rest
    → peak key lists total most left ≡ peak key lists (total_after key lists total line) (max most (total_after key lists total line)) rest
unfolding peak
peak_more key lists total most rest line left is = rw is refl

pub tables_more : (records y : ℕ) (rest : List Line) (line : Line) (left : List Line) → left ≡ line ∷ rest
    → tables records y left ≡ row_shapes records y line ++ tables records (below_row y line) rest
unfolding tables
tables_more records y rest line left is = rw is refl

pub no_tables : (records y : ℕ) (left : List Line) → left ≡ [] → tables records y left ≡ []
unfolding tables
no_tables records y left none = rw none refl

pub heaps_more : (all : List Line) (lists : List Slots) (records y : ℕ) (rest : List Line) (line : Line) (left : List Line) → left ≡ line ∷ rest
    → heaps all lists records y left ≡ heap_or_nothing all lists records y (key_of line) line rest ++ heaps all lists records (below y (key_of line)) rest
unfolding heaps
heaps_more all lists records y rest line left is = rw is refl

pub no_heaps : (all : List Line) (lists : List Slots) (records y : ℕ) (left : List Line) → left ≡ [] → heaps all lists records y left ≡ []
unfolding heaps
no_heaps all lists records y left none = rw none refl

pub refusals_more : (all : List Line) (records y at after : ℕ) (mark : Option RefusedMark) (rest : List Line) (line : Line) (left : List Line) → left ≡ line ∷ rest
    → refusals all records y at after mark left ≡ drawn_before all y mark (mark_of_ask records at after line)
    ++ refusals all records y (at + 1) (after_ask after line) (mark_after mark (mark_of_ask records at after line)) rest
unfolding refusals
refusals_more all records y at after mark rest line left is = rw is refl

pub no_refusals : (all : List Line) (records y at after : ℕ) (mark : Option RefusedMark) (left : List Line) → left ≡ []
    → refusals all records y at after mark left ≡ last_shapes all y mark
unfolding refusals
no_refusals all records y at after mark left none = rw none refl

pub band_more : (band : Band) (first : Line) (mark : Mark) (rest : List Line) (next : Line) (left : List Line) → left ≡ next ∷ rest
    → band_after band first mark left ≡ drawn_unless (joins first mark next band.total) band first mark
    ++ band_after band (cond (joins first mark next band.total) first next) (next_mark (joins first mark next band.total) mark next) rest
unfolding band_after
band_more band first mark rest next left is = rw is refl

pub no_more : (band : Band) (first : Line) (mark : Mark) (left : List Line) → left ≡ [] → band_after band first mark left ≡ mark_shapes band first mark
unfolding band_after
no_more band first mark left none = rw none refl

-- the first element of the next mark, by its place
pub chosen : (joined : Bool) (elements : List Line) (at i : ℕ) (d : Line) → get_or elements (cond joined at i) d ≡ cond joined (get_or elements at d) (get_or elements i d)
chosen true elements at i d = refl
chosen false elements at i d = refl

pub chosen_within : (joined : Bool) (at i n : ℕ) → at < n → i < n → cond joined at i < n
chosen_within true at i n first second = first
chosen_within false at i n first second = second

abbrev pub no_slots : Slots
no_slots = record { socket = 0; page = 0; base = 0; slots = 0 }

module _ (addr : ℕ) (rest : List Slots) (list : Slots) (left : List Slots) (is : left ≡ list ∷ rest) where
  pub list_holds : holds list addr ≡ true → list_at addr left ≡ Some list
  unfolding list_at
  list_holds has = rw (is, has) refl

  pub list_passed : holds list addr ≡ false → list_at addr left ≡ list_at addr rest
  unfolding list_at
  list_passed has = rw (is, has) refl

pub no_list : (addr : ℕ) (left : List Slots) → left ≡ [] → list_at addr left ≡ None
unfolding list_at
no_list addr left none = rw none refl

-- what a loop has drawn, one line further
pub ticks_step : (lists : List Slots) (heap total y before before' : ℕ) (addr : Option ℕ) (rest left : List Line) (line : Line) (page page' whole : List Shape)
    → page ++ ticks lists heap total y before left ≡ whole → left ≡ line ∷ rest → addr ≡ page_of heap line → page' ≡ page ++ tick_of lists total y before addr
    → before' ≡ bytes_past lists before addr → page' ++ ticks lists heap total y before' rest ≡ whole
ticks_step lists heap total y before before' addr rest left line page page' whole so_far is addr_is drawn past =
    moved page page' (tick_of lists total y before addr) _ _ whole so_far (ticks_more lists heap total y before rest line left is ∙ rw (past, addr_is) refl) drawn

pub steps_step : (all : List Line) (lists : List Slots) (chart : Chart) (at at' total total' : ℕ) (rest left : List Line) (line : Line) (page page' whole : List Shape)
    → page ++ steps all lists chart at total left ≡ whole → left ≡ line ∷ rest → total' ≡ total_after chart.key lists total line
    → page' ≡ page ++ record_shapes all lists chart at total' line → at' ≡ records_after at line → page' ++ steps all lists chart at' total' rest ≡ whole
steps_step all lists chart at at' total total' rest left line page page' whole so_far is after drawn past =
    moved page page' (record_shapes all lists chart at total' line) _ _ whole so_far (steps_more all lists chart at total rest line left is ∙ rw (past, after) refl) drawn

pub peak_step : (key : Key) (lists : List Slots) (total total' most most' whole : ℕ) (rest left : List Line) (line : Line) → peak key lists total most left ≡ whole
    → left ≡ line ∷ rest → total' ≡ total_after key lists total line → most' ≡ max most total' → peak key lists total' most' rest ≡ whole
peak_step key lists total total' most most' whole rest left line so_far is after past =
    sym (peak_more key lists total most rest line left is ∙ rw (past, after) refl) ∙ so_far

pub tables_step : (records y y' : ℕ) (rest left : List Line) (line : Line) (page page' whole : List Shape) → page ++ tables records y left ≡ whole → left ≡ line ∷ rest
    → page' ≡ page ++ row_shapes records y line → y' ≡ below_row y line → page' ++ tables records y' rest ≡ whole
tables_step records y y' rest left line page page' whole so_far is drawn past =
    moved page page' (row_shapes records y line) _ _ whole so_far (tables_more records y rest line left is ∙ rw past refl) drawn

pub heaps_step : (all : List Line) (lists : List Slots) (records y y' : ℕ) (key : Option Key) (rest left : List Line) (line : Line) (page page' whole : List Shape)
    → page ++ heaps all lists records y left ≡ whole → left ≡ line ∷ rest → key ≡ key_of line
    → page' ≡ page ++ heap_or_nothing all lists records y key line rest → y' ≡ below y key → page' ++ heaps all lists records y' rest ≡ whole
heaps_step all lists records y y' key rest left line page page' whole so_far is key_is drawn past =
    moved page page' (heap_or_nothing all lists records y key line rest) _ _ whole so_far
    (heaps_more all lists records y rest line left is ∙ rw (past, key_is) refl) drawn

pub refusals_step : (all : List Line) (records y at after after' : ℕ) (mark mark' next : Option RefusedMark) (rest left : List Line) (line : Line)
    (page page' whole : List Shape) → page ++ refusals all records y at after mark left ≡ whole → left ≡ line ∷ rest → next ≡ mark_of_ask records at after line
    → page' ≡ page ++ drawn_before all y mark next → mark' ≡ mark_after mark next → after' ≡ after_ask after line
    → page' ++ refusals all records y (at + 1) after' mark' rest ≡ whole
refusals_step all records y at after after' mark mark' next rest left line page page' whole so_far is next_is drawn marked past =
    moved page page' (drawn_before all y mark next) _ _ whole so_far (refusals_more all records y at after mark rest line left is ∙ rw (marked, past, next_is) refl) drawn

pub band_step : (band : Band) (first first' : Line) (mark mark' : Mark) (joined : Bool) (rest left : List Line) (next : Line) (page page' whole : List Shape)
    → page ++ band_after band first mark left ≡ whole → left ≡ next ∷ rest → joined ≡ joins first mark next band.total
    → page' ≡ page ++ drawn_unless joined band first mark → mark' ≡ next_mark joined mark next → first' ≡ cond joined first next
    → page' ++ band_after band first' mark' rest ≡ whole
band_step band first first' mark mark' joined rest left next page page' whole so_far is joined_is drawn marked chose =
    moved page page' (drawn_unless joined band first mark) _ _ whole so_far
    (band_more band first mark rest next left is ∙ rw (marked, chose, joined_is) refl) drawn

-- what stands below the band of a heap
pub below_drawn : (all : List Line) (lists : List Slots) (records y : ℕ) (key : Key) (total most at_ticks at_log at_caption : ℕ)
    (page ticked logged captioned : List Shape) → at_ticks ≡ plus y 74 → most ≡ peak key lists 0 0 all → at_log ≡ plus y 110 → at_caption ≡ plus y 104
    → ticked ≡ page ++ ticks lists key.index total at_ticks 0 all
    → logged ≡ ticked ++ steps all lists (record { key = key; records = records; peak = most; y = at_log }) 0 0 all
    → captioned ≡ logged ++ caption_shapes records most at_caption → captioned ≡ page ++ below_shapes all lists records y key total
below_drawn all lists records y key total most at_ticks at_log at_caption page ticked logged captioned ticks_at most_is log_at caption_at first second third =
    let one = first ∙ ap (λ (k : ℕ). page ++ ticks lists key.index total k 0 all) ticks_at in
    let two =
    second
    ∙ (ap (λ (k : ℕ). ticked ++ steps all lists (record { key = key; records = records; peak = k; y = at_log }) 0 0 all) most_is
    ∙ ap (λ (k : ℕ). ticked ++ steps all lists (record { key = key; records = records; peak = peak key lists 0 0 all; y = k }) 0 0 all) log_at) in
    let three =
    third
    ∙ (ap (λ (k : ℕ). logged ++ caption_shapes records k at_caption) most_is
    ∙ ap (λ (k : ℕ). logged ++ caption_shapes records (peak key lists 0 0 all) k) caption_at) in
    let ticks_drawn = ticks lists key.index total (plus y 74) 0 all in
    let log_drawn = steps all lists (chart_of all lists records y key) 0 0 all in
    and_then page logged captioned (ticks_drawn ++ log_drawn) (caption_shapes records (peak key lists 0 0 all) (plus y 104))
    (and_then page ticked logged ticks_drawn log_drawn one two) three

-- all is drawn
pub all_drawn : (page whole : List Shape) (left : List Shape) → page ++ left ≡ whole → left ≡ [] → page ≡ whole
all_drawn page whole left so_far none = sym (append-nil page) ∙ (ap (λ (l : List Shape). page ++ l) (sym none) ∙ so_far)

-- the last piece is drawn
pub last_drawn : (page page' piece left whole : List Shape) → page ++ left ≡ whole → left ≡ piece → page' ≡ page ++ piece → page' ≡ whole
last_drawn page page' piece left whole so_far is drawn = drawn ∙ (ap (λ (l : List Shape). page ++ l) (sym is) ∙ so_far)
