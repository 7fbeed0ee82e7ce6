use Rattle.std.proofs.Common.{rules, ◌≡◌, true, false, Bool, sym, subst}
use Rattle.rr_disk.specs.Files.{HeldSync, unneeded}
use Rattle.rr_disk.proofs.held.HeldArea.sync.Goals as goal

pub returns-else-self : goal.returns-else-self
returns-else-self g c =
    let off : c.args.doubted ≡ false = c.if-doubted.false in
    let clean : c.args.self.now.unsynced ≡ false = search rules in
    subst (λ (b : Bool). HeldSync g.F.AreaFile.gives b true c.args.self.now c.args.self.now) (sym off) (unneeded c.args.self.now clean)
