use Rattle.rr_cli.proofs.ShowLemmas.{text_shown, refusal_shown, no_memory_shown}
use Rattle.rr_cli.proofs.show.show_disk_in.Goals as goal

pub returns-in-Ok-text_in-clause-some : goal.returns-in-Ok-text_in-clause-some
returns-in-Ok-text_in-clause-some g c = text_shown c.args.form g.D.Disk.read_gives _ _ c.in-Ok.first c.in-Ok.second c.in-Ok-text_in.text c.in-Ok.ensures.exact c.in-Ok-text_in.ensures

pub returns-in-Err-text_in-clause-some : goal.returns-in-Err-text_in-clause-some
returns-in-Err-text_in-clause-some g c = no_memory_shown c.args.form

pub returns-in-Err-clause-some : goal.returns-in-Err-clause-some
returns-in-Err-clause-some g c = refusal_shown c.args.form g.D.Disk.read_gives _ _ c.in-Err.refusal c.in-Err.ensures.exact
