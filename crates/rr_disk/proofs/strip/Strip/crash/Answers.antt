use Rattle.std.proofs.Common.{◌≡◌, ◌≤◌, ◌<◌, ℕ, min, max, List, length, map, take, All, arith, ◌∙◌, ap, subst, sym}
use Rattle.std.proofs.lemmas.List.{length-take-le, length-take}
use Rattle.std.proofs.lemmas.List.Elements.{All-from_get_or, All-take}
use Rattle.rr_disk.specs.declared.cell.Cell.{Cell}
use Rattle.rr_disk.specs.Areas.{Extent, firm_cell, at_rest}
use Rattle.rr_disk.specs.Crash.{MayLeave, clamped, left_of, loose_count}
use Rattle.rr_disk.specs.Strips.{cells_from, is_loose}
use Rattle.rr_disk.proofs.Strips.{same_extent, cells_firm, length-cells, take-cells, fits-cells}
use Rattle.rr_disk.proofs.Filled.{length-left_of, left_fits, agrees_left}
use Rattle.rr_disk.proofs.strip.Strip.crash.Goals as goal

pub invariant_of-self : goal.invariant_of-self
invariant_of-self c =
    let f = is_loose c.self.inside.loose in
    let cut = c.truncate.new.self.items in
    let new = c.fill_within-count.new.bytes.items in
    let size : length new ≡ length cut = ap length c.fill_within-count.ensures.bytes ∙ length-left_of c.args.fill.now c.args.skip (cells_from f 0 cut) ∙ length-cells f 0 cut in
    let fewer : length cut ≡ min c.max-keep.result (length c.self.inside.bytes.items) = ap length c.truncate.ensures.items ∙ length-take c.max-keep.result c.self.inside.bytes.items in
    let bits = ap (λ (v : _). length v.items) c.clear.ensures.bits in record {
      safe_there = omega (arith, size, fewer, c.self.inside.bytes.ok, c.self.invariant.safe_there);
      ranged = c.clear.ensures.ranged;
      high_there = omega (arith, c.clear.ensures.high);
      room = omega (arith, size, fewer, bits, c.self.invariant.room);
      bytes_fit = subst (λ (zs : List ℕ). All (λ b. b < 256) zs) (sym c.fill_within-count.ensures.bytes)
          (left_fits c.args.fill.now c.args.skip (cells_from f 0 cut) (All-from_get_or (λ b. b < 256) c.args.fill.now 0 (λ i lt. omega (arith, c.type_inv.fill i)))
          (fits-cells f 0 cut (subst (λ (zs : List ℕ). All (λ b. b < 256) zs) (sym c.truncate.ensures.items) (All-take (λ b. b < 256) c.max-keep.result c.self.inside.bytes.items c.self.invariant.bytes_fit))));
    }

pub returns-clause-image : goal.returns-clause-image
returns-clause-image c =
    let f = is_loose c.self.inside.loose in
    let g = is_loose c.clear.new.self in
    let items = c.self.inside.bytes.items in
    let fill = c.args.fill.now in
    let skip = c.args.skip in
    let keep = c.max-keep.result in
    let cells : List Cell = cells_from f 0 items in
    let new = c.fill_within-count.new.bytes.items in
    let bytes : List ℕ = left_of fill skip (take keep cells) in
    let is : new ≡ bytes = c.fill_within-count.ensures.bytes ∙ ap (λ (zs : List ℕ). left_of fill skip (cells_from f 0 zs)) c.truncate.ensures.items ∙ ap (left_of fill skip) (sym (take-cells f 0 keep items)) in
    let upto : keep ≤ length cells = omega (arith, c.self.inside.bytes.ok, c.self.invariant.safe_there, length-cells f 0 items) in
    let size : keep ≡ length bytes = sym (length-left_of fill skip (take keep cells) ∙ length-take-le keep cells upto) in
    let clamps : keep ≡ max c.self.inside.safe (min c.args.cut (length cells)) = omega (arith, c.self.inside.bytes.ok, length-cells f 0 items) in
    same_extent (cells_from g 0 new) (map firm_cell bytes) keep (length bytes) (cells_firm g 0 new c.clear.ensures.none ∙ ap (map firm_cell) is) size
    ∙ ap (λ (k : ℕ). at_rest (left_of fill skip (take k cells))) clamps
    ∙ ap (λ (e : Extent). at_rest (left_of fill skip (take (clamped c.args.cut e) e.cells))) c.self.view_is

pub returns-clause-count : goal.returns-clause-count
returns-clause-count c =
    let f = is_loose c.self.inside.loose in
    let items = c.self.inside.bytes.items in
    let keep = c.max-keep.result in
    let cells : List Cell = cells_from f 0 items in
    let clamps : keep ≡ max c.self.inside.safe (min c.args.cut (length cells)) = omega (arith, c.self.inside.bytes.ok, length-cells f 0 items) in
    c.fill_within-count.ensures.count
    ∙ ap (λ (zs : List ℕ). loose_count (cells_from f 0 zs)) c.truncate.ensures.items
    ∙ ap loose_count (sym (take-cells f 0 keep items))
    ∙ ap (λ (k : ℕ). loose_count (take k cells)) clamps
    ∙ ap (λ (e : Extent). loose_count (take (clamped c.args.cut e) e.cells)) c.self.view_is

pub returns-clause-among : goal.returns-clause-among
returns-clause-among c =
    let f = is_loose c.self.inside.loose in
    let items : List Cell = cells_from f 0 c.self.inside.bytes.items in
    let fit = All-from_get_or (λ b. b < 256) c.args.fill.now 0 (λ i lt. omega (arith, c.type_inv.fill i)) in
    let e : Extent = record { cells = items; safe = c.self.inside.safe } in
    let n = clamped c.args.cut e in
    let size : length (left_of c.args.fill.now c.args.skip (take n items)) ≡ n =
    length-left_of c.args.fill.now c.args.skip (take n items) ∙ length-take-le n items (omega (arith, c.self.invariant.safe_there, length-cells f 0 c.self.inside.bytes.items)) in
    let may : MayLeave e (left_of c.args.fill.now c.args.skip (take n items)) = record {
      no_shorter = omega (arith, size);
      agrees = agrees_left c.args.fill.now c.args.skip n items fit (fits-cells f 0 c.self.inside.bytes.items c.self.invariant.bytes_fit);
    } in
    subst (λ (x : Extent). MayLeave x (left_of c.args.fill.now c.args.skip (take (clamped c.args.cut x) x.cells))) c.self.view_is may
