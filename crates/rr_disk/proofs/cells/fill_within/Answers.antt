use Rattle.std.proofs.Common.{◌+◌, ◌<◌, Bool, length, get_or, set, arith, refl, ◌∙◌, ap, if◌then◌else◌}
use Rattle.rr_disk.specs.Crash.{filled}
use Rattle.rr_disk.specs.Strips.{is_loose}
use Rattle.rr_disk.proofs.Filled.{fill_from, fill_more, fill_count, fill_to}
use Rattle.rr_disk.proofs.Ranges.{before_range, after_range}
use Rattle.rr_disk.proofs.cells.fill_within.Goals as goal

pub loop-k-init : goal.loop-k-init
loop-k-init c =
    let loose = c.args.loose.now in
    let start = fill_from (is_loose loose) c.args.fill.now c.args.skip c.min-k.result c.args.bytes.now.items (λ j lt. before_range loose j (omega arith)) in
    (start.0, start.1, omega arith, refl, omega arith)

pub loop-k-preserved : goal.loop-k-preserved
loop-k-preserved c =
    let f = is_loose c.args.loose.now in
    let bs = c.args.bytes.now.items in
    let ys = c.loop-k.bytes.items in
    let k = c.loop-k.k in
    let fill = c.args.fill.now in
    let skip = c.args.skip in
    let was = c.loop-k.invariant in
    let lt : k < length bs = omega (arith, c.args.bytes.now.ok) in
    let bytes =
    c.fill_at-count.ensures.bytes
    ∙ ap (λ (b : Bool). set ys k (if b then filled fill (skip + c.loop-k.count) (get_or ys k 0) else get_or ys k 0)) c.has.ensures
    ∙ fill_more f fill skip c.loop-k.count bs ys k lt was.1 was.0 in
    let counts = fill_count f c.loop-k.count c.fill_at-count.result bs k lt was.1 (c.fill_at-count.ensures.count ∙ ap (λ (b : Bool). if b then 1 else 0) c.has.ensures) in
    (bytes, counts, omega arith, omega arith, omega arith)

pub returns-clause-bytes : goal.returns-clause-bytes
returns-clause-bytes c =
    let loose = c.args.loose.now in
    c.loop-k.invariant.0
    ∙ (fill_to (is_loose loose) c.args.fill.now c.args.skip c.loop-k.k c.args.bytes.now.items (λ j from to. after_range loose j (omega (arith, c.args.bytes.now.ok)))).0

pub returns-clause-count : goal.returns-clause-count
returns-clause-count c =
    let loose = c.args.loose.now in
    c.loop-k.invariant.1
    ∙ (fill_to (is_loose loose) c.args.fill.now c.args.skip c.loop-k.k c.args.bytes.now.items (λ j from to. after_range loose j (omega (arith, c.args.bytes.now.ok)))).1
