-- The tree of a reservation line, by what stands against it.
use Rattle.std.proofs.Common.{◌≡◌, ◌∙◌, ℕ, List, Option, Some, None, ap, sym, subst}
use Rattle.std.proofs.Props.{props}
use Rattle.std.specs.Option.{option_map}
use Rattle.hp_base.specs.Requests.{IsAccepted, refusal_of}
use Rattle.hp_base.specs.declared.pool_line.PoolLine.{PoolLine}
use Rattle.hp_base.specs.declared.request.BadRequest.{BadRequest}
use Rattle.hp_base.specs.declared.request.Request.{Request}
use Rattle.hp_base.specs.declared.tag.Tag.{Tag}
use Rattle.hp_script.specs.Part.{Part}
use Rattle.hp_script.specs.declared.answer.Answer.TheVariants as answer
use Rattle.hp_script.specs.declared.line.Act.{Act}
use Rattle.hp_script.specs.declared.line.Act.TheVariants as act
use Rattle.hp_script.specs.declared.line.Line.{Line}
use Rattle.hp_script.specs.declared.options.Options.{Options}
use Rattle.hp_zone.specs.Directory.{PlainDirectory}
use Rattle.hp_zone.specs.declared.fault.ZoneFault.{ZoneFault}
use Rattle.hp_zone.specs.declared.names.Names.{Names as NamesView}
use Rattle.hp_zone.specs.declared.zone.Zone.{Zone}
use Rattle.hp_proc.specs.Allocating.{serving}
use Rattle.hp_proc.specs.Contexts.{AreFactsOf, Context}
use Rattle.hp_proc.specs.Courses.{HasLineRequest, IsRequestFor, maker_for, name_meant}
use Rattle.hp_proc.specs.Doing.{Doing}
use Rattle.hp_proc.specs.Handing.{shared_of}
use Rattle.hp_proc.specs.Heaps.{NamedHeap, heaps_for}
use Rattle.hp_proc.specs.Lines.{Facts, Maker, allocating_by, judged_by}
use Rattle.hp_proc.specs.SharedNames.{SharedNames, directory_in, heaps_in, zones_in}
use Rattle.hp_proc.specs.ZoneLines.{continued, put_zone, reserving, zone_answer, zone_fault, zone_tag}
use Rattle.hp_proc.specs.ZonesInHand.{reserving_by}

-- that a request was accepted says one thing, so requests with the same numbers are one
accepted_once : (size align bound : ℕ) → IsProp (IsAccepted size align bound)
accepted_once size align bound = hlevel props

abbrev request_of : (size align bound flags : ℕ) → IsAccepted size align bound → Request
request_of size align bound flags accepted = record { size = size; align = align; bound = bound; flags = flags; accepted = accepted }

module _ (size align bound flags : ℕ) (accepted : IsAccepted size align bound) where
  abbrev IsSame : (size align bound flags : ℕ) → Type 0
  IsSame other_size other_align other_bound other_flags =
      (other : IsAccepted other_size other_align other_bound)
      → request_of size align bound flags accepted ≡ request_of other_size other_align other_bound other_flags other

  same_numbers : (other_size other_align other_bound other_flags : ℕ) → size ≡ other_size → align ≡ other_align → bound ≡ other_bound
      → flags ≡ other_flags → IsSame other_size other_align other_bound other_flags
  same_numbers other_size other_align other_bound other_flags sizes aligns bounds flag_bits =
      subst (λ n. IsSame n other_align other_bound other_flags) sizes
      (subst (λ n. IsSame size n other_bound other_flags) aligns
      (subst (λ n. IsSame size align n other_flags) bounds
      (subst (λ n. IsSame size align bound n) flag_bits
      (λ other. ap (request_of size align bound flags) (accepted_once size align bound accepted other)))))

one_request : (size : ℕ) (options : Options) (one other : Request) → IsRequestFor size options one → IsRequestFor size options other → one ≡ other
one_request size options one other is its =
    same_numbers one.size one.align one.bound one.flags one.accepted other.size other.align other.bound other.flags (is.size_is ∙ sym its.size_is)
    (is.align_is ∙ sym its.align_is) (is.bound_is ∙ sym its.bound_is) (is.flags_are ∙ sym its.flags_are) other.accepted

-- what is known of names that are sound, as lines know them
pub record AreThese (context : Context) (names : NamesView) : Type 0 where
  pub replayed : names.zones.zones ≡ zones_in (shared_of names)
  pub directory : names.heaps.plain ≡ directory_in context.pools (shared_of names)

module _ (line : Line) (name : Part) (len : ℕ) (options : Options) (its_act : line.act ≡ act.Zone name len options) (socket : ℕ)
    (context : Context) (names : NamesView) (these : AreThese context names) (facts : Facts) (known : AreFactsOf socket context line facts) where
  abbrev shared : SharedNames
  shared = shared_of names

  abbrev plain : PlainDirectory
  plain = names.heaps.plain

  abbrev its_tree : Doing
  its_tree = reserving_by line.act line facts shared

  abbrev tag : Tag
  tag = zone_tag line (maker_for context.lines (Some name))

  abbrev chosen : ℕ → List NamedHeap
  chosen own = heaps_for own (heaps_in plain) (option_map (λ (name : Part). name.text) options.heap) options.socket

  by_fault : (fault : Option ZoneFault) → zone_fault names.zones.zones name.text len options ≡ fault
      → its_tree ≡ reserving plain facts line name.text len options fault
  by_fault fault judged =
      ap (λ (deed : Act). reserving_by deed line facts shared) its_act
      ∙ (ap (λ (pools : List PoolLine). reserving (directory_in pools shared) facts line name.text len options
      (zone_fault (zones_in shared) name.text len options)) known.pools
      ∙ (ap (λ (plain : PlainDirectory). reserving plain facts line name.text len options (zone_fault (zones_in shared) name.text len options))
      (sym these.directory)
      ∙ ap (λ (fault : Option ZoneFault). reserving plain facts line name.text len options fault)
      (ap (λ (zones : List Zone). zone_fault zones name.text len options) (sym these.replayed) ∙ judged)))

  -- something stands against it
  pub fault_tree : (fault : ZoneFault) → zone_fault names.zones.zones name.text len options ≡ Some fault
      → Doing.Ended (zone_answer fault) ≡ its_tree
  fault_tree fault judged = sym (by_fault (Some fault) judged)

  -- its request is refused
  pub bad_tree : zone_fault names.zones.zones name.text len options ≡ None → (kind : BadRequest)
      → refusal_of len options.align options.bound ≡ Some kind → Doing.Ended (answer.BadRequest kind) ≡ its_tree
  unfolding continued
  bad_tree judged kind refused =
      sym (by_fault None judged
      ∙ ap (λ (refused : Option BadRequest). continued (put_zone plain name.text len) None
      (judged_by (heaps_in plain) facts (zone_tag line facts.maker) options refused facts.request)) refused)

  -- it is served
  module _ (request : Request) (accepted : refusal_of len options.align options.bound ≡ None) (is : IsRequestFor len options request) where
    its_request : facts.request ≡ Some request
    its_request =
        let has = subst (λ (deed : Act). HasLineRequest deed facts.request) its_act known.request accepted in
        has.1 ∙ ap Some (one_request len options has.0 request has.2 is)

    its_maker : facts.maker ≡ maker_for context.lines (Some name)
    its_maker = known.maker ∙ ap (λ (deed : Act). maker_for context.lines (name_meant deed)) its_act

    its_allocation : allocating_by (heaps_in plain) facts (zone_tag line facts.maker) len options ≡ serving context.pools request tag (chosen socket)
    its_allocation =
        ap (λ (refused : Option BadRequest). judged_by (heaps_in plain) facts (zone_tag line facts.maker) options refused facts.request) accepted
        ∙ (ap (λ (asked : Option Request). judged_by (heaps_in plain) facts (zone_tag line facts.maker) options None asked) its_request
        ∙ (ap (λ (pools : List PoolLine). serving pools request (zone_tag line facts.maker) (chosen facts.own_socket)) known.pools
        ∙ (ap (λ (maker : Option Maker). serving context.pools request (zone_tag line maker) (chosen facts.own_socket)) its_maker
        ∙ ap (λ (own : ℕ). serving context.pools request tag (chosen own)) known.own_socket)))

    pub served_tree : zone_fault names.zones.zones name.text len options ≡ None
        → continued (put_zone plain name.text len) None (serving context.pools request tag (chosen socket)) ≡ its_tree
    served_tree judged = sym (by_fault None judged ∙ ap (continued (put_zone plain name.text len) None) its_allocation)
