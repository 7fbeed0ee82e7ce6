use Rattle.std.proofs.Common.{◌∙◌, ap, arith, sym, length}
use Rattle.rr_types.specs.Promises.{decided_from}
use Rattle.rr_state.proofs.PrefixLemmas.{counted_on}
use Rattle.rr_state.proofs.marks.Marks.count_on.Goals as goal

pub returns-clause-counted : goal.returns-clause-counted
returns-clause-counted c =
    record {
      count =
          c.close_up.ensures.prefix
          ∙ counted_on c.args.rows.now c.args.self.now c.prefix_end-self.result c.requires.marks c.requires.begun c.prefix_end-self.ensures.range.0 c.prefix_end-self.ensures.decided c.prefix_end-self.ensures.end
          ∙ ap (λ es. length (decided_from 0 es)) (sym c.close_up.ensures.value);
      small = let p = c.close_up.ensures.prefix in let r = c.prefix_end-self.ensures.range.1 in omega (arith, p, r);
    }
