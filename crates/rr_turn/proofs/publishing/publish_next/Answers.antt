use Rattle.std.proofs.Common.{◌≡◌, ◌∙◌, [], List, length, nat_lt, cond, ap, subst}
use Rattle.std.specs.Prelude.{◌||◌}
use Rattle.rr_types.specs.declared.command.RequestNo.{RequestNo}
use Rattle.rr_window.specs.Windows.{Publishing}
use Rattle.rr_turn.specs.Listed.{listed}
use Rattle.rr_turn.specs.Tells.{Tells}
use Rattle.rr_turn.proofs.publishing.publish_next.Goals as goal

pub returns : goal.returns
returns g c =
    let p = c.args.follower.now in
    let q = c.follow_in.new.follower in
    let r = c.publish_behind.new.follower in
    let all : Publishing = record { published = listed q; appended = [] } in
    let count : c.count-before.result ≡ length (listed p) = c.count-before.ensures ∙ ap (λ (x : Publishing). length (listed x)) c.publisher.ensures in
    record {
      state = c.in_ok-told.ensures.0;
      told = c.in_ok-told.told;
      has_told = c.tell_next-has_told.result;
      q = q;
      mid = c.follow_in.new.counters;
      follows = c.in_ok-told.ensures.1;
      publishes = c.in_ok-has_more.ensures.published ∙ ap (λ n. cond (nat_lt n (length (listed q))) all q) count;
      tells = subst (λ (w : List RequestNo). Tells g.C.Counters.gives r.published w c.tell_next-has_told.new.acknowledged.items c.tell_next-has_told.result c.follow_in.new.counters c.tell_next-has_told.new.counters)
          c.in_ok-note.ensures c.tell_next-has_told.ensures;
      answer = ap (λ b. b || c.tell_next-has_told.result) (c.in_ok-has_more.ensures.has ∙ ap (λ n. nat_lt n (length (listed q))) count);
    }
