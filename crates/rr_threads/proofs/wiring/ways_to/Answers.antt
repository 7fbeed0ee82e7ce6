use Rattle.std.proofs.Common.{◌≡◌, ◌∙◌, ◌++◌, ◌∷◌, [], Some, sym, ap, arith}
use Rattle.std.specs.Prelude.{slice_get}
use Rattle.rr_threads.specs.declared.wires.Way.{Way}
use Rattle.rr_threads.specs.Ways.{named, led_to}
use Rattle.rr_threads.proofs.WayLemmas.{next_named}
use Rattle.rr_threads.proofs.wiring.ways_to.Goals as goal

pub loop-place-preserved : goal.loop-place-preserved
loop-place-preserved c =
    let l = c.loop-place in
    let names = named c.args.inboxes.now in
    let way = c.new.result in
    let leads : slice_get names l.place ≡ Some way.port.queue =
    ap (λ ns. slice_get ns l.place) (sym l.invariant.2) ∙ c.in_ok-port.ensures.leads ∙ ap (λ (w : Way). Some w.port.queue) (sym c.new.ensures) in
    let pushed : c.push.new.self.items ≡ l.ways.items ++ way ∷ [] = c.in_ok-push.ensures.items in (
      omega arith,
      ap led_to pushed ∙ next_named (λ (w : Way). w.port.queue) names l.ways.items way l.place l.invariant.1 leads,
      c.port_to.ensures.same ∙ l.invariant.2,
    )
