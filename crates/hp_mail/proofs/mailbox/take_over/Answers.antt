use Rattle.std.proofs.Common.{◌≡◌, ℕ, length, set, refl, ap, ◌∙◌, arith}
use Rattle.std.proofs.lemmas.List.FromFn.{length-map-range_with_len}
use Rattle.std.proofs.lemmas.Option.{slice_get_read}
use Rattle.crossbeam_queue.specs.Passes.{view}
use Rattle.hp_mail.specs.PassInside.{dealt_pass}
use Rattle.hp_mail.specs.PassView.{PassView}
use Rattle.hp_mail.proofs.Dealings.{dealt_all, found_is}
use Rattle.hp_mail.proofs.mailbox.take_over.Goals as goal

pub index_mut-requires : goal.index_mut-requires
index_mut-requires c =
    let passes = c.args.passes.now.items in
    let owner : ℕ = c.args.owner in
    let dealt : ℕ = (view c.args.first).dealt in
    let id = c.args.queue.now.table.shared.table_id in
    let long : length passes ≡ dealt = ap length c.requires.passes ∙ length-map-range_with_len (dealt_pass id owner) 0 dealt in
    omega (arith, c.args.passes.now.ok.0, long, c.requires.owner)

pub deal_on-requires-clause-pass : goal.deal_on-requires-clause-pass
deal_on-requires-clause-pass c =
    let passes = c.args.passes.now.items in
    let id = c.args.queue.now.table.shared.table_id in
    let owner : ℕ = c.args.owner in
    let dealt : ℕ = (view c.args.first).dealt in
    let found : PassView = c.index_mut.result.now in
    let long : length passes ≡ dealt = ap length c.requires.passes ∙ length-map-range_with_len (dealt_pass id owner) 0 dealt in
    let there = slice_get_read passes (length passes) owner found refl (omega (arith, long, c.requires.owner)) c.index_mut.ensures.value in
    ap (λ (p : PassView). p.mailbox) (found_is id dealt owner passes c.requires.owner c.requires.passes found there)

pub returns : goal.returns
returns c =
    let passes = c.args.passes.now.items in
    let id = c.args.queue.now.table.shared.table_id in
    let owner : ℕ = c.args.owner in
    let dealt : ℕ = (view c.args.first).dealt in
    let found : PassView = c.index_mut.result.now in
    let long : length passes ≡ dealt = ap length c.requires.passes ∙ length-map-range_with_len (dealt_pass id owner) 0 dealt in
    let there = slice_get_read passes (length passes) owner found refl (omega (arith, long, c.requires.owner)) c.index_mut.ensures.value in
    ap (set passes owner) c.deal_on.ensures ∙ dealt_all id dealt owner passes c.requires.owner c.requires.passes found there
