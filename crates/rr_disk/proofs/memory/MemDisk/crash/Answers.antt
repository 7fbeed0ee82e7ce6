use Rattle.rr_disk.proofs.Named.{named}
use Rattle.rr_disk.proofs.memory.MemDisk.crash.Goals as goal

pub returns-clause-named : goal.returns-clause-named
returns-clause-named c = named c.args.self.now.areas
