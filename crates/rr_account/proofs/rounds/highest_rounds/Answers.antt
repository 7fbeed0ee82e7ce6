use Rattle.std.proofs.Common.{◌≡◌, ◌∙◌, ◌<◌, [], List, ap, arith, drop, get_or, map, max, sym}
use Rattle.std.specs.List.{range_with_len}
use Rattle.std.proofs.Math.ListN.{drop_of_length-le}
use Rattle.std.proofs.lemmas.List.{ext_get_or}
use Rattle.std.proofs.lemmas.List.FromFn.{length-map-range_with_len, get_or-map-range_with_len}
use Rattle.rr_text.specs.declared.report.ReportLine.{ReportLine}
use Rattle.rr_account.specs.Counts.{highest_round}
use Rattle.rr_account.proofs.rounds.highest_rounds.Goals as goal

pub returns : goal.returns
returns c =
    let items = c.loop-line.highest.items in
    let none : drop c.loop-line.line-index c.args.lines.now ≡ [] = drop_of_length-le c.args.lines.now {i = c.loop-line.line-index} (omega (arith, c.loop-line-test.false)) in
    ext_get_or 0 items (map (λ i. highest_round i c.args.lines.now) (range_with_len 0 c.args.instances))
    (c.loop-line.invariant.long ∙ sym (length-map-range_with_len (λ i. highest_round i c.args.lines.now) 0 c.args.instances))
    (λ i within.
    let below : i < c.args.instances = omega (arith, within, c.loop-line.invariant.long) in
    let alone : get_or c.loop-line.highest.items i 0 ≡ max (get_or c.loop-line.highest.items i 0) 0 = omega arith in
    alone ∙ ap (λ (ls : List ReportLine). max (get_or c.loop-line.highest.items i 0) (highest_round i ls)) (sym none) ∙ c.loop-line.invariant.each i below
    ∙ sym (get_or-map-range_with_len (λ k. highest_round k c.args.lines.now) 0 c.args.instances i i 0 below (omega arith)))
