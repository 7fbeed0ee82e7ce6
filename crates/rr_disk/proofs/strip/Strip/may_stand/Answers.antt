use Rattle.std.proofs.Common.{arith}
use Rattle.rr_disk.specs.Strips.{cells_from, is_loose}
use Rattle.rr_disk.proofs.Standing.{stands}
use Rattle.rr_disk.proofs.Strips.{length-cells, fits-cells}
use Rattle.rr_disk.proofs.strip.Strip.may_stand.Goals as goal

pub returns : goal.returns
returns c =
    let f = is_loose c.self.inside.loose in
    let bytes = c.self.inside.bytes.items in
    stands (cells_from f 0 bytes) c.self.inside.safe c.args.self.now c.self.view_is (omega (arith, length-cells f 0 bytes, c.self.invariant.safe_there)) (fits-cells f 0 bytes c.self.invariant.bytes_fit)
