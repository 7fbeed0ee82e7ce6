use Rattle.std.proofs.Common.{refl}
use Rattle.rr_cli.proofs.MigrateLemmas.{unlocked_migrates}
use Rattle.rr_cli.proofs.migrate.migrate_alone.Goals as goal

pub returns-in-Err-clause-ends : goal.returns-in-Err-clause-ends
returns-in-Err-clause-ends g c = unlocked_migrates c.end_by_unlocked.result _ _ c.end_by_unlocked.ensures refl
