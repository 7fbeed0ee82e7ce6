use Rattle.std.proofs.Common.{rules, refl, ◌∙◌}
use Rattle.rr_draw.proofs.PictureLaws.{shown_none, shown_more, shown_all}
use Rattle.rr_draw.proofs.picture.draw_events.Goals as goal

pub loop-elements-init : goal.loop-elements-init
loop-elements-init g c =
    record {
      shown = shown_none c.args.nodes c.args.bytes.now c.args.cut.now c.args.cluster.now c.args.report.now.items _ c.args.picture.now.heard c.requires.untold (search rules) c.requires.unheard;
      unprinted = refl;
    }

pub loop-elements-preserved-in_ok-draw_line : goal.loop-elements-preserved-in_ok-draw_line
loop-elements-preserved-in_ok-draw_line g c =
    record {
      shown = shown_more c.args.nodes c.args.bytes.now c.args.cut.now c.args.cluster.now c.args.report.now.items c.loop-elements.line _ c.loop-elements.rest.now c.in-Some.behind.now c.loop-elements.cluster c.draw_line.new.cluster
          c.loop-elements.report.items c.draw_line.new.report.items c.loop-elements.elements.items c.draw_line.new.elements.items c.loop-elements.picture.heard c.draw_line.new.picture.heard c.in-Some.event
          c.loop-elements.invariant.shown (search rules) c.in_ok-draw_line.ensures.ok (search rules);
      unprinted = c.tell_read.ensures ∙ c.loop-elements.invariant.unprinted;
    }

pub loop-elements-preserved-in_ok-draw_line-2 : goal.loop-elements-preserved-in_ok-draw_line-2
loop-elements-preserved-in_ok-draw_line-2 g c =
    record {
      shown = shown_more c.args.nodes c.args.bytes.now c.args.cut.now c.args.cluster.now c.args.report.now.items c.loop-elements.line _ c.loop-elements.rest.now c.in-Some.behind.now c.loop-elements.cluster c.draw_line.new.cluster
          c.loop-elements.report.items c.draw_line.new.report.items c.loop-elements.elements.items c.draw_line.new.elements.items c.loop-elements.picture.heard c.draw_line.new.picture.heard c.in-Some.event
          c.loop-elements.invariant.shown (search rules) c.in_ok-draw_line.ensures.ok (search rules);
      unprinted = c.tell_read.ensures ∙ c.loop-elements.invariant.unprinted;
    }

pub loop-elements-preserved : goal.loop-elements-preserved
loop-elements-preserved g c =
    record {
      shown = shown_more c.args.nodes c.args.bytes.now c.args.cut.now c.args.cluster.now c.args.report.now.items c.loop-elements.line _ c.loop-elements.rest.now c.in-Some.behind.now c.loop-elements.cluster c.draw_line.new.cluster
          c.loop-elements.report.items c.draw_line.new.report.items c.loop-elements.elements.items c.draw_line.new.elements.items c.loop-elements.picture.heard c.draw_line.new.picture.heard c.in-Some.event
          c.loop-elements.invariant.shown (search rules) c.in_ok-draw_line.ensures.ok (search rules);
      unprinted = c.tell_read.ensures ∙ c.loop-elements.invariant.unprinted;
    }

pub returns-clause-ok : goal.returns-clause-ok
returns-clause-ok g c =
    shown_all c.args.nodes c.args.bytes.now c.args.cut.now c.args.cluster.now c.args.report.now.items c.loop-elements.line c.loop-elements.rest.now c.loop-elements.cluster c.loop-elements.report.items c.loop-elements.elements.items c.loop-elements.picture.heard c.loop-elements.invariant.shown (search rules)
