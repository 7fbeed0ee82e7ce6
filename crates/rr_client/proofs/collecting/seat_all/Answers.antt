use Rattle.std.proofs.Common.{rules, ◌∙◌, sym, length-set}
use Rattle.rr_client.proofs.Rows.{none_yet, one_more}
use Rattle.rr_client.proofs.collecting.seat_all.Goals as goal

pub places-init : goal.places-init
places-init g c = (c.in_ok-rows.ensures.count ∙ c.nodes-nodes.ensures, none_yet c.args.promises.now c.in_ok-rows.rows.items c.in_ok-rows.ensures.empty)

pub places-preserved : goal.places-preserved
places-preserved g c = (
  length-set c.places.rows.items c.from.result c.push.new.self ∙ c.places.invariant.0,
  one_more c.args.promises.now c.places.rows.items c.from.result c.in-Some-get_mut.row.now c.push.new.self _ c.places.invariant.1 (search (rules, c.in-Some-get_mut.ensures.variant)) (sym c.in-Some-get_mut.ensures.value)
      c.in_ok-push.ensures.items c.in_ok-coming.ensures.own,
)
