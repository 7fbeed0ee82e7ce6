use Rattle.std.proofs.Common.{◌≡◌, ◌∷◌, [], ◌++◌, ap, ◌∙◌}
use Rattle.std.proofs.lemmas.Result.{err_from_is_err_and}
use Rattle.rr_frame.specs.declared.stop.Stop.TheVariants as stops
use Rattle.rr_frame.specs.SnapshotFormat.{entries_at}
use Rattle.rr_frame.proofs.SnapshotLaws.{entries_go_on, entries_stop, entries_end}
use Rattle.rr_frame.proofs.snapshot.read_entries.Goals as goal

pub returns-in_err-entry : goal.returns-in_err-entry
returns-in_err-entry c =
    let p = err_from_is_err_and c.from_residual.result c.from_residual.ensures.1 in
    rw (p.1, p.2) (entries_stop c.args.version c.args.nodes c.args.node c.loop.low (stops.Malformed c.in_err-entry.field-0.0) c.loop.entries.items c.args.count c.loop.counter c.loop.reader (entries_at c.args.version c.args.nodes c.args.node 0 c.args.count c.args.reader.now) c.loop-test.true c.in_err-entry.ensures c.loop.invariant)

pub returns : goal.returns
returns c = entries_end c.args.version c.args.nodes c.args.node c.loop.low c.loop.entries.items c.args.count c.loop.counter c.loop.reader (entries_at c.args.version c.args.nodes c.args.node 0 c.args.count c.args.reader.now) c.loop-test.false c.loop.invariant

pub loop-preserved : goal.loop-preserved
loop-preserved c =
    let x = c.in_ok-entry.entry in
    let e : c.push.new.self.items ≡ c.loop.entries.items ++ x ∷ [] = c.in_ok-push.ensures.items ∙ ap (λ k. c.loop.entries.items ++ k ∷ []) c.in_ok-kept.ensures.ok in
    rw (e, c.number-low.ensures.value) (entries_go_on c.args.version c.args.nodes c.args.node c.loop.low c.loop.entries.items c.args.count c.loop.counter c.loop.reader x c.read_entry.new.reader (entries_at c.args.version c.args.nodes c.args.node 0 c.args.count c.args.reader.now) c.loop-test.true c.in_ok-entry.ensures c.loop.invariant)
