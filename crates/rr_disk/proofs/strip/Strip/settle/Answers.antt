use Rattle.std.proofs.Common.{◌≡◌, ℕ, List, length, map, arith, ◌∙◌, ap, sym}
use Rattle.rr_disk.specs.declared.cell.Cell.{Cell}
use Rattle.rr_disk.specs.Areas.{firm_cell, settled}
use Rattle.rr_disk.specs.Strips.{cells_from, is_loose}
use Rattle.rr_disk.proofs.Strips.{bytes-cells, cells_firm, same_extent}
use Rattle.rr_disk.proofs.strip.Strip.settle.Goals as goal

pub returns : goal.returns
returns c =
    let f = is_loose c.self.inside.loose in
    let g = is_loose c.clear.new.self in
    let bytes = c.self.inside.bytes.items in
    let own : List ℕ = map (λ (cell : Cell). cell.byte) (cells_from f 0 bytes) in
    let same : own ≡ bytes = bytes-cells f 0 bytes in
    same_extent (cells_from g 0 bytes) (map firm_cell own) c.len-self-inside.result (length own)
    (cells_firm g 0 bytes c.clear.ensures.none ∙ ap (map firm_cell) (sym same)) (omega (arith, c.self.inside.bytes.ok, ap length same))
    ∙ ap settled c.self.view_is
