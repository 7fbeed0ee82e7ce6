use Rattle.std.proofs.Common.{ap}
use Rattle.std.specs.Prelude.{◌||◌}
use Rattle.rr_turn.proofs.looking.look.Goals as goal

pub returns : goal.returns
returns g c = record {
  back = c.in_ok-has_marked.ensures.0;
  submitted = c.in_ok-has_submitted.has_submitted;
  sent = c.in_ok-has_sent.has_sent;
  heard = c.in_ok-has_heard.has_heard;
  staged = c.in_ok-has_staged.has_staged;
  marked_at = c.mark_next.new.links;
  submitted_at = c.submit_next.new.links;
  sent_at = c.send_all.new.links;
  heard_at = c.hear_next.new.links;
  submitted_chase = c.submit_next.new.chase;
  sent_chase = c.send_all.new.chase;
  marks = c.in_ok-has_marked.ensures.2;
  submits = c.in_ok-has_submitted.ensures;
  sends = c.in_ok-has_sent.ensures;
  hears = c.in_ok-has_heard.ensures;
  flushes = c.in_ok-has_staged.ensures;
  answer = ap (λ b. (((b || c.in_ok-has_submitted.has_submitted) || c.in_ok-has_sent.has_sent) || c.in_ok-has_heard.has_heard) || c.in_ok-has_staged.has_staged) c.in_ok-has_marked.ensures.1;
}
