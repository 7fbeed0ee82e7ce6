use Rattle.std.proofs.Common.{◌≡◌, ◌⊎◌, [], ◌∷◌, ◌∙◌, ap, subst}
use Rattle.rr_disk.specs.Areas.{Torn, extent_of, replaced, written}
use Rattle.rr_journal.specs.Held.{Holds}
use Rattle.rr_journal.specs.Flushes.{Flush}
use Rattle.rr_journal.proofs.Table.{safe_holds, set_holds, to_set, gate_refused}
use Rattle.rr_journal.proofs.job.Job+BodySafe.step.Goals as goal

pub returns-in-Ok-clause-table : goal.returns-in-Ok-clause-table
returns-in-Ok-clause-table g c tells start facts at =
    let flush = c.args.self in
    let holds = Holds flush.nodes flush.node in
    let old = g.D.Disk.areas c.args.journal.now.disk in
    let new = g.D.Disk.areas c.write.new.journal.disk in
    let is : new ≡ replaced old flush.area (written flush.gate (165 ∷ []) (extent_of old flush.area)) =
    (c.in-Ok.ensures.ok tells).1 ∙ ap (λ (f : Flush). replaced old f.area (written f.gate (165 ∷ []) (extent_of old f.area))) c.self.view_is in
    let set = to_set holds flush start facts old new at is in
    (safe_holds holds flush start facts old at, set_holds holds flush start facts new set, set)

pub returns-in-Err-clause-table : goal.returns-in-Err-clause-table
returns-in-Err-clause-table g c tells start facts at =
    let flush = c.args.self in
    let holds = Holds flush.nodes flush.node in
    let old = g.D.Disk.areas c.args.journal.now.disk in
    let new = g.D.Disk.areas c.write.new.journal.disk in
    let torn : (new ≡ old) ⊎ (Torn flush.gate 1 (extent_of old flush.area) (extent_of new flush.area) × (new ≡ replaced old flush.area (extent_of new flush.area))) =
    subst (λ (f : Flush). (new ≡ old) ⊎ (Torn f.gate 1 (extent_of old f.area) (extent_of new f.area) × (new ≡ replaced old f.area (extent_of new f.area)))) c.self.view_is (c.in-Err.ensures.err tells) in
    (safe_holds holds flush start facts old at, gate_refused holds flush start facts old new at torn, tt)
