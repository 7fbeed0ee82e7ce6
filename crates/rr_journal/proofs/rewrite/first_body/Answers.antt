use Rattle.std.proofs.Common.{ap, ◌∙◌}
use Rattle.std.proofs.lemmas.Bool.{false≢true}
use Rattle.rr_frame.specs.Snapshots.{Snapped}
use Rattle.rr_journal.proofs.SnapshotSize.{is_snapshot, snapshot_fits}
use Rattle.rr_journal.proofs.rewrite.first_body.Goals as goal

pub frame-requires : goal.frame-requires
frame-requires c =
    snapshot_fits c.in-Ok.snapshot c.in_ok-payload-in-Ok.payload.items c.in_ok-payload-in-Ok.ensures.ok
    (ap (λ (s : Snapped). s.entries) c.in-Ok.ensures.ok ∙ c.new-2.ensures ∙ c.new.ensures.items)

pub unreachable-requires : goal.unreachable-requires
unreachable-requires c = false≢true (c.in-Err.ensures.valid.1 (is_snapshot c.args.nodes c.args.node c.new-2.result c.requires (c.new-2.ensures ∙ c.new.ensures.items)))
