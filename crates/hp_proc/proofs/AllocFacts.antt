-- What an allocation line leaves, and what notes where its element lies.
use Rattle.std.proofs.Common.{◌≡◌, ◌≢◌, ◌∙◌, ℕ, Bool, List, [], ◌∷◌, ◌++◌, append-nil, refl, ap, sym, arith, Some}
use Rattle.hp_hall.specs.Holding.{HeapPart}
use Rattle.hp_hall.specs.Mail.{MailStep}
use Rattle.hp_log.specs.declared.log_record.LogRecord.{LogRecord}
use Rattle.hp_script.specs.Part.{Part}
use Rattle.hp_script.specs.declared.answer.Answer.{Answer}
use Rattle.hp_script.specs.declared.answer.Answer.TheVariants as gives
use Rattle.hp_script.specs.declared.line.Act.{Act}
use Rattle.hp_script.specs.declared.line.Act.TheVariants as act
use Rattle.hp_script.specs.declared.line.Line.{Line}
use Rattle.hp_script.specs.declared.options.Options.{Options}
use Rattle.hp_segs.specs.declared.outcome.AskLog.{AskLog}
use Rattle.hp_events.specs.declared.validator.Validator.{Validator}
use Rattle.hp_proc.specs.Acting.{Acts, AreAsked}
use Rattle.hp_proc.specs.Courses.{Standing, after_line, attached_after, calls_in, chunks_after, element_brought, element_in, last_heap, records_after}
use Rattle.hp_proc.specs.Doing.{Doing, Done, Leads}
use Rattle.hp_proc.specs.ParticipantView.{ParticipantView, with_standing}
use Rattle.hp_proc.specs.Progress.{Does, moment_of}
use Rattle.hp_proc.specs.Registering.{validators_after, watchers_after}
use Rattle.hp_proc.specs.declared.own_chunk.OwnChunk.{OwnChunk}
use Rattle.hp_proc.specs.declared.own_element.OwnElement.{OwnElement}

-- where the elements of its lines lie is noted, which is none of its calls and asks
unfoldable pub does_noted : (count : ℕ) (did : List MailStep → Type 0) (doing : Doing) (doer : ParticipantView) (parts : ℕ → HeapPart)
    (log : List LogRecord) (asks : List AskLog) (elements : List OwnElement) → did []
    → Does [] count did doing doing (moment_of doer parts log asks)
    (moment_of (with_standing (record doer.context.standing { elements = elements }) doer) parts log asks)
unfolding Leads AreAsked
does_noted count did doing doer parts log asks elements none = record {
  trace = [];
  steps = [];
  leads = refl;
  made = none;
  acts = Acts.notes_left doer elements;
  entries = λ heap. sym (append-nil (parts heap).entries);
  serves = λ heap. refl;
  counted = ap (λ (calls : ℕ). record doer.context { standing = record doer.context.standing { elements = elements }; calls = calls }) (omega arith);
  same = record { me = refl; socket = refl; plan = refl; deadline = refl };
  asked = refl;
  more = [];
  log = sym (append-nil log);
  outcomes = [];
  asks = sym (append-nil asks);
}

module _ (line : Line) (label : Part) (size : ℕ) (options : Options) (its_act : line.act ≡ act.Alloc label size options) where
  brought_none : (given : Answer) (trace : List Done) → ((address : ℕ) → given ≢ gives.Address address)
      → element_brought line (act.Alloc label size options) given trace ≡ []
  brought_none (gives.Address address) trace other = absurd (other address refl)
  brought_none _ trace other = refl

  attached_stays : (given : Answer) (attached : Bool) → attached_after line.act given attached ≡ attached
  attached_stays given attached = ap (λ (done : Act). attached_after done given attached) its_act

  records_stay : (given : Answer) (records : ℕ) → records_after line.act given records ≡ records
  records_stay given records = ap (λ (done : Act). records_after done given records) its_act

  watchers_stay : (given : Answer) (watchers : List (List ℕ)) → watchers_after line.act given watchers ≡ watchers
  watchers_stay given watchers = ap (λ (done : Act). watchers_after done given watchers) its_act

  chunks_stay : (given : Answer) (trace : List Done) (chunks : List OwnChunk) → chunks_after line.act given trace chunks ≡ chunks
  chunks_stay given trace chunks = ap (λ (done : Act). chunks_after done given trace chunks) its_act

  validators_stay : (given : Answer) (validators : List (Validator Bool)) → validators_after line.act given validators ≡ validators
  validators_stay given validators = ap (λ (done : Act). validators_after done given validators) its_act

  left_so : (given : Answer) (trace : List Done) (standing : Standing) (elements : List OwnElement)
      → element_brought line line.act given trace ≡ elements
      → record standing { elements = standing.elements ++ elements } ≡ after_line line given trace standing
  left_so given trace standing elements brought = sym (λ i. record {
    attached = attached_stays given standing.attached i;
    records = records_stay given standing.records i;
    elements = standing.elements ++ brought i;
    chunks = chunks_stay given trace standing.chunks i;
    watchers = watchers_stay given standing.watchers i;
    validators = validators_stay given standing.validators i;
  })

  -- an allocation that brings no address leaves what there was
  pub left_none : (given : Answer) (trace : List Done) (standing : Standing) → ((address : ℕ) → given ≢ gives.Address address)
      → standing ≡ after_line line given trace standing
  left_none given trace standing other =
      ap (λ (elements : List OwnElement). record standing { elements = elements }) (sym (append-nil standing.elements))
      ∙ left_so given trace standing []
      (ap (λ (done : Act). element_brought line done given trace) its_act ∙ brought_none given trace other)

  -- one that does leaves an element in the heap of its last call
  pub left_one : (address heap : ℕ) (trace : List Done) (standing : Standing) → last_heap (calls_in trace) ≡ Some heap
      → record standing { elements = standing.elements ++ record { line = line.line; heap = heap } ∷ [] }
      ≡ after_line line (gives.Address address) trace standing
  left_one address heap trace standing last =
      left_so (gives.Address address) trace standing (record { line = line.line; heap = heap } ∷ [])
      (ap (λ (done : Act). element_brought line done (gives.Address address) trace) its_act ∙ ap (element_in line.line) last)
