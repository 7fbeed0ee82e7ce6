use Rattle.std.proofs.Common.{◌≡◌, ◌∙◌, ℕ, List, IfOk, ap, sym, subst, take, drop, map}
use Rattle.std.proofs.lemmas.List.{take-map, drop-map}
use Rattle.rr_disk.specs.declared.cell.Cell.{Cell}
use Rattle.rr_disk.specs.Areas.{read_of}
use Rattle.rr_disk.specs.Strips.{cells_from, is_loose}
use Rattle.rr_disk.proofs.Strips.{bytes-cells}
use Rattle.rr_disk.proofs.strip.Strip.read.Goals as goal

pub returns : goal.returns
returns c =
    let at = c.args.at in
    let count = c.args.count in
    let f = is_loose c.self.inside.loose in
    let bytes = c.self.inside.bytes.items in
    let cells : List Cell = cells_from f 0 bytes in
    let byte : Cell → ℕ = λ cell. cell.byte in
    let front : c.front.result.now ≡ take count (drop at bytes) = c.front.ensures ∙ ap (take count) (c.behind.ensures ∙ ap (drop at) c.deref.ensures.value) in
    let own : take count (drop at bytes) ≡ map byte (take count (drop at cells)) =
    ap (λ zs. take count (drop at zs)) (sym (bytes-cells f 0 bytes)) ∙ ap (take count) (drop-map byte at cells) ∙ take-map byte count (drop at cells) in
    subst (λ (zs : List ℕ). IfOk c.from_slice.result (λ v. v.items ≡ zs)) (front ∙ own ∙ ap (read_of at count) c.self.view_is) c.from_slice.ensures.items
