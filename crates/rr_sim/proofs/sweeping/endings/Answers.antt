use Rattle.rr_sim.specs.declared.ending.Ending.TheVariants.{Open, Closed, Cut, Kept, Drawn}
use Rattle.rr_sim.proofs.Five.{IsLineOf, five}
use Rattle.rr_sim.proofs.sweeping.endings.Goals as goal

pub returns : goal.returns
returns c =
    record {
      ok = let at = c.args.line in
          let p = c.args.node in
          let w = c.args.word in
          let seat = c.args.seat.now in
          let a : IsLineOf at p seat w Open c.in_ok-line_of.field-0 = record { line = c.in_ok-line_of.ensures.line; ending = c.in_ok-line_of.ensures.ending; restart = c.in_ok-line_of.ensures.restart } in
          let b : IsLineOf at p seat w Closed c.in_ok-line_of-2.field-0 = record { line = c.in_ok-line_of-2.ensures.line; ending = c.in_ok-line_of-2.ensures.ending; restart = c.in_ok-line_of-2.ensures.restart } in
          let d : IsLineOf at p seat w Cut c.in_ok-line_of-3.field-0 = record { line = c.in_ok-line_of-3.ensures.line; ending = c.in_ok-line_of-3.ensures.ending; restart = c.in_ok-line_of-3.ensures.restart } in
          let e : IsLineOf at p seat w Kept c.in_ok-line_of-4.field-0 = record { line = c.in_ok-line_of-4.ensures.line; ending = c.in_ok-line_of-4.ensures.ending; restart = c.in_ok-line_of-4.ensures.restart } in
          let f : IsLineOf at p seat w Drawn c.in_ok-line_of-5.field-0 = record { line = c.in_ok-line_of-5.ensures.line; ending = c.in_ok-line_of-5.ensures.ending; restart = c.in_ok-line_of-5.ensures.restart } in
          five at p seat w _ _ _ _ _ a b d e f _ _ _ _ _ _ c.new-lines.ensures.items c.in_ok-push.ensures.items c.in_ok-push-2.ensures.items c.in_ok-push-3.ensures.items c.in_ok-push-4.ensures.items
          c.in_ok-push-5.ensures.items;
    }
