use Rattle.std.proofs.Common.{ap, ◌∙◌}
use Rattle.rr_disk.specs.Areas.{written}
use Rattle.rr_disk.proofs.Fresh.{settled_fresh}
use Rattle.rr_disk.proofs.strip.Strip.with_bytes.Goals as goal

pub returns-in-Ok : goal.returns-in-Ok
returns-in-Ok c = c.settle.ensures ∙ settled_fresh c.args.bytes.now c.write.new.self (c.in-Ok.ensures.ok.1 ∙ ap (written 0 c.args.bytes.now) c.new-strip.ensures)
