use Rattle.rr_cli.proofs.MigrateLemmas.{tells_some, refused_so}
use Rattle.rr_cli.proofs.migrate.show_opened.Goals as goal

pub returns-clause-told : goal.returns-clause-told
returns-clause-told g c = λ tells.
    let both = c.measure.ensures tells in
    c.show_disk.ensures.told tells both.0 both.1

pub returns-clause-some : goal.returns-clause-some
returns-clause-some g c = tells_some c.show_disk.result c.show_disk.ensures.some

pub returns-clause-cause : goal.returns-clause-cause
returns-clause-cause g c = refused_so c.show_disk.result c.show_disk.ensures.some
