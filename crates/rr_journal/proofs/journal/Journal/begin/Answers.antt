use Rattle.std.proofs.Common.{◌≡◌, ◌^◌, ◌<◌, ◌++◌, length, refl, sym, ap, subst, ◌∙◌, arith}
use Rattle.std.proofs.lemmas.Bool.{ltb-true}
use Rattle.rr_frame.specs.GroupFormat.{group_bytes}
use Rattle.rr_journal.specs.Flushes.{Flush}
use Rattle.rr_journal.specs.Moments.{IsAt, body_due, with_group}
use Rattle.rr_journal.specs.Calls.{frame_bytes}
use Rattle.rr_journal.specs.Held.{Holds}
use Rattle.rr_journal.specs.Journals.{IsOver, once_flushed}
use Rattle.rr_journal.proofs.FlushLaws.{grounded, over_after}
use Rattle.rr_journal.proofs.journal.Journal.begin.Goals as goal

pub returns-in-Ok-frame-clause-table : goal.returns-in-Ok-frame-clause-table
returns-in-Ok-frame-clause-table g c start facts rest over fit serial =
    let journal = c.args.self.now in
    let flush : Flush = record { nodes = journal.nodes; node = journal.node; area = journal.area; gate = journal.gate; body = c.in-Ok-frame.body.items; group = c.args.group } in
    let body : c.in-Ok-frame.body.items ≡ frame_bytes (group_bytes c.args.group) = c.in-Ok-frame.ensures.ok ∙ ap frame_bytes c.in-Ok.ensures.ok in
    let short : length (group_bytes c.args.group) < 2 ^ 32 = omega (arith, ap length c.in-Ok.ensures.ok, c.in-Ok.payload.ok, ltb-true _ _ (sym c.fits.ensures ∙ c.if-not-fits.false)) in
    subst
    (λ (f : Flush). IsAt body_due (Holds journal.nodes journal.node) f start facts (g.D.Disk.areas journal.disk) × IsOver {D = g.row.D.Denot} (once_flushed {D = g.row.D.Denot} f journal) (with_group f start) (facts ++ c.args.group.facts))
    (sym c.new.ensures) (
      record { grounded = grounded {D = g.row.D.Denot} journal start facts flush over refl refl body c.in-Ok.ensures.lawful short fit serial; stands = rest },
      over_after {D = g.row.D.Denot} journal start facts flush over refl refl body c.in-Ok.ensures.lawful short fit serial,
    )
