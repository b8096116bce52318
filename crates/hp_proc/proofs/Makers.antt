-- The element that a label stands for is looked for where the participant says that it lies.
use Rattle.std.proofs.Common.{◌≡◌, ◌∙◌, ℕ, Bool, true, false, cond, List, Option, None, Some, refl, ap, sym}
use Rattle.std.specs.Option.{option_map, option_to_list}
use Rattle.hp_base.specs.declared.pool_line.PoolLine.{PoolLine}
use Rattle.hp_base.specs.declared.tag.Tag.{Tag}
use Rattle.hp_script.specs.ShapeWords.Acts.{label_used}
use Rattle.hp_script.specs.Labels.{maker_of}
use Rattle.hp_script.specs.Part.{Part}
use Rattle.hp_script.specs.declared.answer.Answer.TheVariants as answer
use Rattle.hp_script.specs.declared.line.Act.{Act}
use Rattle.hp_script.specs.declared.line.Act.TheVariants as act
use Rattle.hp_script.specs.declared.line.Line.{Line}
use Rattle.hp_zone.specs.Directory.{PlainDirectory}
use Rattle.hp_proc.specs.Contexts.{AreFactsOf, Context}
use Rattle.hp_proc.specs.Courses.{heap_of_element, maker_for, maker_from, name_meant}
use Rattle.hp_proc.specs.Doing.{Doing}
use Rattle.hp_proc.specs.LineTrees.{on_made}
use Rattle.hp_proc.specs.Lines.{Facts, Maker, by_heaps, is_own_maker, places_of, reading_names, tag_made}
use Rattle.hp_proc.specs.SharedNames.{SharedNames, directory_in, heaps_in}
use Rattle.hp_proc.specs.declared.searched_heap.SearchedHeap.{SearchedHeap}

-- the label that a line uses is the name that it means
meant_as_used : (deed : Act) (label : Part) → label_used deed ≡ Some label → name_meant deed ≡ Some label
meant_as_used (act.Zone name len options) label is = cc
meant_as_used _ label is = is

-- an element that is not one's own is looked for in all heaps that have a name
abbrev pub searching_all : List PoolLine → Tag → (Tag → List SearchedHeap → Doing) → SharedNames → Doing
searching_all pools tag goes names = goes tag (places_of (heaps_in (directory_in pools names)))

module _ (who socket : ℕ) (context : Context) (line : Line) (label : Part) (facts : Facts) (known : AreFactsOf socket context line facts)
    (names : label_used line.act ≡ Some label) (goes : Tag → List SearchedHeap → Doing) where
  maker_known : facts.maker ≡ option_map maker_from (maker_of context.lines label.text)
  maker_known = known.maker ∙ ap (maker_for context.lines) (meant_as_used line.act label names)

  -- no line makes it
  pub unmade : maker_of context.lines label.text ≡ None → Doing.Ended answer.NoElement ≡ on_made who facts goes facts.maker
  unmade none = ap (on_made who facts goes) (sym (maker_known ∙ ap (option_map maker_from) none))

  module _ (made : Line) (is : maker_of context.lines label.text ≡ Some made) where
    abbrev maker : Maker
    maker = maker_from made

    maker_is : facts.maker ≡ Some maker
    maker_is = maker_known ∙ ap (option_map maker_from) is

    tree_by : (own : Bool) → is_own_maker who maker ≡ own
        → cond own (goes (tag_made who maker) (option_to_list facts.own_heap))
        (by_heaps facts (λ named. goes (tag_made who maker) (places_of named))) ≡ on_made who facts goes facts.maker
    tree_by own its =
        ap (λ (own : Bool). cond own (goes (tag_made who maker) (option_to_list facts.own_heap))
        (by_heaps facts (λ named. goes (tag_made who maker) (places_of named)))) (sym its)
        ∙ sym (ap (on_made who facts goes) maker_is)

    -- it is one's own
    pub own_made : is_own_maker who maker ≡ true
        → goes (tag_made who maker) (option_to_list (heap_of_element context.pools context.standing.elements (Some maker)))
        ≡ on_made who facts goes facts.maker
    own_made its =
        ap (λ (heap : Option SearchedHeap). goes (tag_made who maker) (option_to_list heap))
        (sym (known.own_heap ∙ ap (heap_of_element context.pools context.standing.elements) maker_is))
        ∙ tree_by true its

    -- it is not
    pub other_made : is_own_maker who maker ≡ false
        → reading_names (searching_all context.pools (tag_made who maker) goes) ≡ on_made who facts goes facts.maker
    other_made its =
        ap (λ (pools : List PoolLine). reading_names (searching_all pools (tag_made who maker) goes)) (sym known.pools) ∙ tree_by false its
