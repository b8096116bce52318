use Rattle.std.proofs.Common.{◌≡◌, ℕ, ◌+◌, ◌*◌, ◌^◌, ◌<◌, sym, subst, ap, ◌∙◌}
use Rattle.std.specs.Int.{div_ceil}
use Rattle.hp_base.specs.Round.{ceil_of}
use Rattle.hp_base.specs.Pages.{pages_of, HoldsRequest}
use Rattle.hp_base.specs.declared.round.TheConstants.{HEADER}
use Rattle.hp_base.proofs.RequestLemmas.{fitting_is}
use Rattle.hp_base.proofs.PageLemmas.{pages_of-holds, pages_bytes}
use Rattle.hp_base.proofs.page_size.pages_for.Goals as goal

pub returns : goal.returns
unfolding pages_of
returns c =
    let rounded : c.unwrap-data.result ≡ ceil_of c.args.req.now.size c.args.req.now.align =
    fitting_is (ceil_of c.args.req.now.size c.args.req.now.align) c.unwrap-data.result (sym c.unwrap-data.ensures ∙ c.align_ceil.ensures) in
    let number : c.div_ceil.result ≡ pages_of c.args.req.now c.args.page = c.div_ceil.ensures ∙ ap (λ (n : ℕ). div_ceil (n + HEADER) c.args.page) rounded in
    record {
      number = number;
      enough = λ unbound at_most. subst (λ (count : ℕ). HoldsRequest c.args.req.now c.args.page count) (sym number)
          (pages_of-holds c.args.req.now c.args.page c.requires unbound at_most);
      bytes = subst (λ (count : ℕ). count * c.args.page < 2 ^ 64) (sym number) (pages_bytes c.args.req.now c.args.page c.requires);
    }
