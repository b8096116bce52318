-- A text on its way to a sink, step by step.
use Rattle.std.proofs.Common.{◌≡◌, ℕ, ◌+◌, Bool, true, false, List, [], ◌++◌, length, take, drop, Option, Some, None, Result, Ok, Err, refl, sym, ap, subst, ◌∙◌, append_assoc, append-nil, arith, rules}
use Rattle.std.proofs.Math.Seq.{take-append-add, take-append_seam}
use Rattle.std.proofs.lemmas.List.{take-append-drop}
use Rattle.hp_base.specs.Streams.{CountsFault}
use Rattle.hp_report.specs.Adding.{Adds, HasAdded, HasStopped, IsNextLine, MakesLine, Way, is_write_fault, way}
use Rattle.std.specs.Result.{IsErrAnd, OnErr, OnOk}
use Rattle.std.proofs.lemmas.Result.{err_from_is_err_and}
use Rattle.hp_report.specs.Writing.{Holds, HoldsFront}
use Rattle.hp_report.specs.declared.render_fault.RenderFault.{RenderFault}
use Rattle.hp_report.specs.declared.render_fault.RenderFault.TheVariants.{OutOfMemory}
use Rattle.hp_report.proofs.Streaming.{Holds-nothing, Holds-then}

-- nothing was added
pub added_nothing : (a : Way) → HasAdded a a []
added_nothing a = record { sent = []; held = Holds-nothing a.held; page = sym (append-nil a.page); faults = refl }

-- a text was added to the page alone
pub added_page : (held : Option (List ℕ)) (faults : ℕ) (page page' x : List ℕ) → page' ≡ page ++ x → HasAdded (way held faults page) (way held faults page') x
added_page held faults page page' x is = record { sent = []; held = Holds-nothing held; page = is; faults = refl }

module _ (a b c : Way) (x y : List ℕ) (first : HasAdded a b x) where
  pages_joined : first.sent ++ (b.page ++ y) ≡ a.page ++ (x ++ y)
  pages_joined = sym (append_assoc first.sent b.page y) ∙ ap (λ t. t ++ y) first.page ∙ append_assoc a.page x y

  -- two texts were added, one after the other
  pub then_added : HasAdded b c y → HasAdded a c (x ++ y)
  then_added second = record {
    sent = first.sent ++ second.sent;
    held = Holds-then a.held b.held c.held first.sent second.sent first.held second.held;
    page = append_assoc first.sent second.sent c.page ∙ ap (λ t. first.sent ++ t) second.page ∙ pages_joined;
    faults = second.faults ∙ first.faults;
  }

  -- after a text that was added it stopped
  pub then_stopped : {failed : Bool} → HasStopped b c y failed → HasStopped a c (x ++ y) failed
  then_stopped {failed} second =
      let len = second.front.len in
      let taken : first.sent ++ take len (b.page ++ y) ≡ take (length first.sent + len) (a.page ++ (x ++ y)) =
      sym (take-append-add first.sent (b.page ++ y) len) ∙ ap (take (length first.sent + len)) pages_joined in
      record {
        front = record {
          len = length first.sent + len;
          front = subst (λ (t : List ℕ). Holds a.held c.held t) taken
              (Holds-then a.held b.held c.held first.sent (take len (b.page ++ y)) first.held second.front.front);
        };
        cause = subst (λ (n : ℕ). CountsFault n c.faults failed) first.faults second.cause;
      }

-- it stopped on the way to a longer text too
pub stopped_more : {a b : Way} {failed : Bool} (x y : List ℕ) → HasStopped a b x failed → HasStopped a b (x ++ y) failed
stopped_more {a} {b} {failed} x y was =
    let len = was.front.len in
    let t = a.page ++ x in
    let taken : take len t ≡ take (length (take len t)) (a.page ++ (x ++ y)) =
    sym (take-append_seam (take len t) (drop len t ++ y))
    ∙ ap (take (length (take len t))) (sym (append_assoc (take len t) (drop len t) y) ∙ ap (λ z. z ++ y) (take-append-drop len t) ∙ append_assoc a.page x y) in
    record {
      front = record { len = length (take len t); front = subst (λ (z : List ℕ). Holds a.held b.held z) taken was.front.front };
      cause = was.cause;
    }

-- memory ran out before anything more went to the sink
pub stopped_here : (a : Way) (page text : List ℕ) → HasStopped a (way a.held a.faults page) text false
stopped_here a page text = record {
  front = record { len = 0; front = Holds-nothing a.held };
  cause = record { never_falls = omega arith; rose = λ no. search rules; same = λ is. refl };
}

-- a front of a whole text was added, and the rest of it is left
pub record IsOnWay (begin now : Way) (left whole : List ℕ) : Type 0 where
  pub done : List ℕ
  pub added : HasAdded begin now done
  pub is : done ++ left ≡ whole

pub begins : (a : Way) (whole : List ℕ) → IsOnWay a a whole whole
begins a whole = record { done = []; added = added_nothing a; is = refl }

-- a text more was added
pub goes_on : {a b c : Way} {left whole : List ℕ} (x left' : List ℕ) → IsOnWay a b left whole → HasAdded b c x → left ≡ x ++ left' → IsOnWay a c left' whole
goes_on {a} {b} {c} {left} {whole} x left' was more is = record {
  done = was.done ++ x;
  added = then_added a b c was.done x was.added more;
  is = append_assoc was.done x left' ∙ ap (λ t. was.done ++ t) (sym is) ∙ was.is;
}

-- it stopped in a text that comes next
pub stops : {a b c : Way} {left whole : List ℕ} {failed : Bool} (x left' : List ℕ) → IsOnWay a b left whole → HasStopped b c x failed → left ≡ x ++ left' → HasStopped a c whole failed
stops {a} {b} {c} {left} {whole} {failed} x left' was more is =
    subst (λ (t : List ℕ). HasStopped a c t failed) (ap (λ t. was.done ++ t) (sym is) ∙ was.is)
    (then_stopped a b c was.done (x ++ left') was.added (stopped_more x left' more))

-- memory ran out in the middle
pub stops_here : {a b : Way} {left whole : List ℕ} (page : List ℕ) → IsOnWay a b left whole → HasStopped a (way b.held b.faults page) whole false
stops_here {a} {b} {left} {whole} page was =
    subst (λ (t : List ℕ). HasStopped a (way b.held b.faults page) t false) was.is
    (then_stopped a b (way b.held b.faults page) was.done left was.added (stopped_here b page left))

-- nothing is left
pub ends : {a b : Way} {left whole : List ℕ} → IsOnWay a b left whole → left ≡ [] → HasAdded a b whole
ends {a} {b} {left} {whole} was none =
    subst (λ (t : List ℕ). HasAdded a b t) (sym (append-nil was.done) ∙ ap (λ t. was.done ++ t) (sym none) ∙ was.is) was.added

-- what the last call leaves
pub ends_so : {T : Type 0} {a b : Way} (c : Way) {left whole : List ℕ} (result : Result T RenderFault) → IsOnWay a b left whole → Adds b c left result → Adds a c whole result
ends_so {T} {a} {b} c {left} {whole} (Ok done) was last = subst (λ (t : List ℕ). HasAdded a c t) was.is (then_added a b c was.done left was.added last)
ends_so {T} {a} {b} c {left} {whole} (Err fault) was last = subst (λ (t : List ℕ). HasStopped a c t (is_write_fault fault)) was.is (then_stopped a b c was.done left was.added last)

-- the same fault goes on to the caller
pub exits : {T : Type 0} {Q : RenderFault → Type 0} {a b c : Way} {left whole : List ℕ} (x left' : List ℕ) (result : Result T RenderFault) (fault : RenderFault)
    → IsOnWay a b left whole → HasStopped b c x (is_write_fault fault) → left ≡ x ++ left' → IsErrAnd result Q → ((other : RenderFault) → Q other → other ≡ fault) → Adds a c whole result
exits {T} {Q} {a} {b} {c} {left} {whole} x left' result fault was stopped is err same =
    let gives = err_from_is_err_and {Q = Q} result err in
    let is_fault : result ≡ Err fault = gives.1 ∙ ap (λ f. Err f) (same gives.0 gives.2) in
    subst (λ (r : Result T RenderFault). Adds a c whole r) (sym is_fault) (stops x left' was stopped is)

-- that memory ran out goes on to the caller
pub exits_here : {T : Type 0} {a b : Way} {left whole : List ℕ} (page : List ℕ) (result : Result T RenderFault)
    → IsOnWay a b left whole → IsErrAnd result (λ fault. fault ≡ OutOfMemory) → Adds a (way b.held b.faults page) whole result
exits_here {T} {a} {b} {left} {whole} page result was err =
    let gives = err_from_is_err_and {Q = λ fault. fault ≡ OutOfMemory} result err in
    let is_fault : result ≡ Err OutOfMemory = gives.1 ∙ ap (λ f. Err f) gives.2 in
    subst (λ (r : Result T RenderFault). Adds a (way b.held b.faults page) whole r) (sym is_fault) (stops_here page was)

-- a line was made, where there was one
pub line_made : (page page' rest rest' : List ℕ) (count count' : ℕ) (more : Bool) → more ≡ true → MakesLine page page' rest rest' count count' more → IsNextLine page page' rest rest' count count'
line_made page page' rest rest' count count' more is made = subst (λ (b : Bool). MakesLine page page' rest rest' count count' b) is made

module _ (a b c : Way) (text : List ℕ) (empty : a.page ≡ []) where
  -- what stood on the page goes to the sink after a whole text
  whole_sent : HasAdded a b text → HasAdded b c [] → c.page ≡ [] → Holds a.held c.held text
  whole_sent added last none =
      let both = then_added a b c text [] added last in
      let sent_is : both.sent ≡ text =
      sym (append-nil both.sent) ∙ ap (λ t. both.sent ++ t) (sym none) ∙ both.page ∙ ap (λ t. t ++ (text ++ [])) empty ∙ append-nil text in
      subst (λ (t : List ℕ). Holds a.held c.held t) sent_is both.held

  pub holds_whole : {T : Type 0} (result : Result T RenderFault) → HasAdded a b text → Adds b c [] result → OnOk result (c.page ≡ []) → OnOk result (Holds a.held c.held text)
  holds_whole (Ok done) added last none = whole_sent added last none
  holds_whole (Err fault) added last none = tt

  -- where that fails, a front of it
  front_of : {failed : Bool} (more : List ℕ) → more ≡ text → HasStopped a c more failed → HoldsFront a.held c.held text
  front_of more is stopped =
      subst (λ (t : List ℕ). HoldsFront a.held c.held t) (ap (λ page. page ++ more) empty ∙ is) stopped.front

  pub holds_front : {T : Type 0} (result : Result T RenderFault) → HasAdded a b text → Adds b c [] result → OnErr result (HoldsFront a.held c.held text)
  holds_front (Ok done) added last = tt
  holds_front (Err fault) added last = front_of (text ++ []) (append-nil text) (then_stopped a b c text [] added last)

  pub holds_stopped : {failed : Bool} → HasStopped a c text failed → HoldsFront a.held c.held text
  holds_stopped stopped = front_of text refl stopped

-- what holds in every case
pub always : {T E P : Type 0} (result : Result T E) → P → OnErr result P
always (Ok done) so = tt
always (Err fault) so = so
