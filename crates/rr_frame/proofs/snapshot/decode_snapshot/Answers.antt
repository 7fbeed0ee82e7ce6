use Rattle.std.proofs.Common.{subst, ap, ◌∙◌, arith}
use Rattle.rr_frame.specs.Reading.{Decodes}
use Rattle.rr_frame.specs.SnapshotFormat.{snapshot_in}
use Rattle.rr_frame.proofs.SnapshotLaws.{snapshot_answer_found, snapshot_spelt}
use Rattle.rr_frame.proofs.snapshot.decode_snapshot.Goals as goal

pub returns-clause-found : goal.returns-clause-found
returns-clause-found c = snapshot_answer_found c.args.bytes.now c.read_whole.result (λ i. omega (arith, c.type_inv.bytes i)) c.read_whole.ensures

pub returns-clause-only : goal.returns-clause-only
returns-clause-only c = λ version s lawful e. subst (λ r. Decodes c.read_whole.result r) (ap snapshot_in e ∙ snapshot_spelt version s lawful) c.read_whole.ensures
