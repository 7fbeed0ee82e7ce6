use Rattle.std.proofs.Common.{refl, ◌∙◌, ◌+◌}
use Rattle.rr_state.proofs.PrefixLemmas.{move_next}
use Rattle.rr_state.proofs.marks.Marks.close_up.Goals as goal

pub loop-command-preserved : goal.loop-command-preserved
loop-command-preserved c =
    let so_far = c.loop-command.invariant in
    let moved =
    move_next c.args.rows.now c.loop-command.self (record { moved = c.loop-command.self.moved + 1; entries = c.pop_first.new.self; prefix = c.loop-command.self.prefix }) _ c.in-Some-pop_first.field-0
    so_far.marks so_far.moved c.in-Some.ensures c.in-Some-pop_first.ensures.removal refl refl in
    record {
      value = moved.value ∙ so_far.value;
      marks = moved.marks;
      moved = moved.moved;
      prefix = so_far.prefix;
      places = λ i. moved.places i ∙ so_far.places i;
    }
