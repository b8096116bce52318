-- What is drawn of heaps: for each its band, its pages and its log.
use Rattle.std.specs.Prelude.{ℕ, ◌+◌, false, slice_index_or, drop, List, [], ◌∷◌, ◌++◌, codes, Option, Some, None}
use Rattle.std.specs.Fmt.{decimal, digits}
use Rattle.std.specs.List.{take_while}
use Rattle.hp_view.specs.declared.line.Line.{Line}
use Rattle.hp_view.specs.declared.line.Line.TheVariants as line
use Rattle.hp_view.specs.declared.lists.Slots.{Slots}
use Rattle.hp_view.specs.declared.log.Chart.{Chart}
use Rattle.hp_view.specs.declared.log.Key.{Key}
use Rattle.hp_view.specs.declared.shape.Shape.{Shape}
use Rattle.hp_view.specs.declared.shape.Style.TheVariants as style
use Rattle.hp_view.specs.Bands.{band_of}
use Rattle.hp_view.specs.Elements.{is_element, start_of}
use Rattle.hp_view.specs.Logs.{peak, steps}
use Rattle.hp_view.specs.Scales.{plus}
use Rattle.hp_view.specs.Shapes.{label}
use Rattle.hp_view.specs.Ticks.{ticks}

abbrev pub key_of : Line → Option Key
key_of (line.Heap index name socket total used busy frees) = Some (record { index = index; socket = socket })
key_of _ = None

abbrev pub total_of : Line → ℕ
total_of (line.Heap index name socket total used busy frees) = total
total_of _ = 0

-- the elements at the front of what comes after a heap's line
abbrev pub elements_of : List Line → List Line
elements_of lines = take_while is_element lines

-- the address of the first byte, or 0 where there is none
abbrev pub first_byte : List Line → ℕ
first_byte [] = 0
first_byte (first ∷ others) = start_of first

abbrev pub head_front : ℕ → List ℕ
head_front index =
    codes "Heap " ++ (decimal index ++ codes ", ")

abbrev pub head_rest : ℕ → ℕ → ℕ → ℕ → ℕ → ℕ → List ℕ
head_rest socket total used busy frees start =
    codes ", of socket " ++ (decimal socket
    ++ (codes ": " ++ (decimal total
    ++ (codes " bytes from 0x" ++ (digits 16 false start
    ++ (codes " on, " ++ (decimal used
    ++ (codes " of them used; busy elements " ++ (decimal busy
    ++ (codes ", free ones " ++ decimal frees))))))))))

-- the line above a band: the numbers of the heap's line, and its first address
abbrev pub head_words : ℕ → Line → List ℕ
head_words start (line.Heap index name socket total used busy frees) =
    head_front index ++ (name ++ head_rest socket total used busy frees start)
head_words start _ = []

abbrev pub head_shapes : ℕ → Line → List Line → List Shape
head_shapes y heap elements = label 20 (plus y 14) style.Head (head_words (first_byte elements) heap) ∷ []

-- the line above the log of a heap
abbrev pub caption_words : ℕ → ℕ → List ℕ
caption_words records most =
    codes "size after each record of the log, 1 on the left, " ++ (decimal records
    ++ (codes " on the right; at most " ++ (decimal most ++ codes " bytes")))

abbrev pub caption_shapes : ℕ → ℕ → ℕ → List Shape
caption_shapes records most y = label 20 y style.Note (caption_words records most) ∷ []

-- how the log of a heap is drawn
abbrev pub chart_of : List Line → List Slots → ℕ → ℕ → Key → Chart
chart_of all lists records y key = record { key = key; records = records; peak = peak key lists 0 0 all; y = plus y 110 }

-- the ticks of a heap's pages, and its log
abbrev pub below_shapes : List Line → List Slots → ℕ → ℕ → Key → ℕ → List Shape
below_shapes all lists records y key total =
    ticks lists key.index total (plus y 74) 0 all ++ steps all lists (chart_of all lists records y key) 0 0 all
    ++ caption_shapes records (peak key lists 0 0 all) (plus y 104)

-- what is drawn of one heap
abbrev pub heap_shapes : List Line → List Slots → ℕ → ℕ → Key → Line → List Line → List Shape
heap_shapes all lists records y key heap elements =
    head_shapes y heap elements ++ band_of (total_of heap) (plus y 28) elements ++ below_shapes all lists records y key (total_of heap)

abbrev pub heap_or_nothing : List Line → List Slots → ℕ → ℕ → Option Key → Line → List Line → List Shape
heap_or_nothing all lists records y None heap others = []
heap_or_nothing all lists records y (Some key) heap others = heap_shapes all lists records y key heap (elements_of others)

-- what is drawn of the line at a place among all lines
abbrev pub drawn_at : List Slots → ℕ → ℕ → Option Key → List Line → ℕ → List Shape
drawn_at lists records y key all at =
    heap_or_nothing all lists records y key (slice_index_or all at line.Other) (drop (at + 1) all)

abbrev pub below : ℕ → Option Key → ℕ
below y None = y
below y (Some key) = plus y 190

-- what is drawn of the heaps among lines
unfoldable pub heaps : List Line → List Slots → ℕ → ℕ → List Line → List Shape
heaps all lists records y [] = []
heaps all lists records y (first ∷ others) =
    heap_or_nothing all lists records y (key_of first) first others ++ heaps all lists records (below y (key_of first)) others
