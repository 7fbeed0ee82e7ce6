use Rattle.rr_disk.proofs.OneByOne.{torn_done}
use Rattle.rr_disk.proofs.failing.write_failing.Goals as goal

pub returns-then-not-is_empty-clause-torn : goal.returns-then-not-is_empty-clause-torn
returns-then-not-is_empty-clause-torn g c tells =
    let ok = c.in-Ok.ensures.ok tells in
    c.overwrite.ensures.torn (c.write_at.ensures.tells tells) (g.D.Disk.areas c.args.disk.now)
    (torn_done c.args.area c.args.at c.args.bytes.now (g.D.Disk.areas c.args.disk.now) (g.D.Disk.areas c.write_at.new.self) ok.0 ok.1)

pub returns-else-not-is_empty-clause-torn : goal.returns-else-not-is_empty-clause-torn
returns-else-not-is_empty-clause-torn g c tells =
    let ok = c.in-Ok.ensures.ok tells in
    torn_done c.args.area c.args.at c.args.bytes.now (g.D.Disk.areas c.args.disk.now) (g.D.Disk.areas c.write_at.new.self) ok.0 ok.1
