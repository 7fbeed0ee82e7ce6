use Rattle.std.proofs.Common.{arith, length, ◌≡◌, ◌∙◌, ap, sym}
use Rattle.rr_disk.specs.Areas.{Extent}
use Rattle.rr_disk.specs.Strips.{is_loose}
use Rattle.rr_disk.proofs.Strips.{length-cells}
use Rattle.rr_disk.proofs.strip.Strip.len.Goals as goal

pub returns : goal.returns
returns c =
    let f = is_loose c.self.inside.loose in
    let bytes = c.self.inside.bytes.items in
    let here : length c.args.self.now.cells ≡ length bytes = ap (λ (e : Extent). length e.cells) (sym c.self.view_is) ∙ length-cells f 0 bytes in
    omega (arith, here, c.self.inside.bytes.ok)
