use Rattle.std.proofs.Common.{length, sym, ◌∙◌, ap}
use Rattle.rr_window.proofs.Adding.{adds_moves}
use Rattle.rr_window.proofs.list.Beginning.with.Goals as goal

pub compare_exchange-found-requires : goal.compare_exchange-found-requires
compare_exchange-found-requires g c =
    let h = c.args.list_length.now.word_is in
    let again = c.again-seen.ensures in
    let offer = c.plain-offer.ensures in
    let pen = c.no_pen-pen.ensures in
    let book = ap (λ s. s.book) again ∙ (ap (λ b. b.book) c.self.view_is ∙ c.requires.own ∙ sym (ap (λ w. w.book) h)) in (
      ap (λ w. w.tracked) h,
      book,
      pen.0 ∙ book,
      offer.0,
      rw (ap (λ w. w.key) h, pen.1, offer.1, offer.3) (adds_moves c.again-seen.result.log c.args.command.now c.self.inside.count (ap (λ s. length s.log) again ∙ sym c.self.invariant)),
    )
