use Rattle.std.proofs.Common.{◌≡◌, ◌⊎◌, ℕ, ◌+◌, List, length, ◌∙◌, ap, subst}
use Rattle.rr_disk.specs.Areas.{Torn, extent_of, replaced, written}
use Rattle.rr_journal.specs.Held.{Holds}
use Rattle.rr_journal.specs.Flushes.{Flush}
use Rattle.rr_journal.proofs.Table.{due_holds, out_holds, to_out, body_refused}
use Rattle.rr_journal.proofs.job.Job+Body.step.Goals as goal

pub returns-in-Ok-clause-table : goal.returns-in-Ok-clause-table
returns-in-Ok-clause-table g c tells start facts at =
    let flush = c.args.self in
    let inside = c.self.inside in
    let holds = Holds flush.nodes flush.node in
    let old = g.D.Disk.areas c.args.journal.now.disk in
    let new = g.D.Disk.areas c.write.new.journal.disk in
    let ok = c.in-Ok.ensures.ok tells in
    let is : new ≡ replaced old flush.area (written (flush.gate + 1) flush.body (extent_of old flush.area)) =
    ok.1
    ∙ ap (λ (bs : List ℕ). replaced old inside.area (written (inside.gate + 1) bs (extent_of old inside.area))) c.deref.ensures.value
    ∙ ap (λ (f : Flush). replaced old f.area (written (f.gate + 1) f.body (extent_of old f.area))) c.self.view_is in
    let out = to_out holds flush start facts old new at is in
    (due_holds holds flush start facts old at, out_holds holds flush start facts new out, out)

pub returns-in-Err-clause-table : goal.returns-in-Err-clause-table
returns-in-Err-clause-table g c tells start facts at =
    let flush = c.args.self in
    let inside = c.self.inside in
    let holds = Holds flush.nodes flush.node in
    let old = g.D.Disk.areas c.args.journal.now.disk in
    let new = g.D.Disk.areas c.write.new.journal.disk in
    let err = c.in-Err.ensures.err tells in
    let torn : (new ≡ old) ⊎ (Torn (flush.gate + 1) (length c.deref.result.now) (extent_of old flush.area) (extent_of new flush.area) × (new ≡ replaced old flush.area (extent_of new flush.area))) =
    subst (λ (f : Flush). (new ≡ old) ⊎ (Torn (f.gate + 1) (length c.deref.result.now) (extent_of old f.area) (extent_of new f.area) × (new ≡ replaced old f.area (extent_of new f.area)))) c.self.view_is err in
    (due_holds holds flush start facts old at, body_refused holds flush start facts old new (length c.deref.result.now) at torn, tt)
