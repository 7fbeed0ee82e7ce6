use Rattle.std.proofs.Common.{ap, sym, cond, ◌∙◌}
use Rattle.std.specs.BTreeMap.{is_at}
use Rattle.rr_registry.specs.Places.{filled}
use Rattle.rr_registry.proofs.PlaceLemmas.{filled-put, count-put, lookup-filled, joined, joined_cond}
use Rattle.rr_registry.proofs.places.put.Goals as goal

pub returns-clause-filled : goal.returns-clause-filled
returns-clause-filled g c = ap filled c.in-Ok.ensures.entries ∙ filled-put g.K.Ord.cmp g.met.K.Ord.total c.requires.exact c.args.key c.args.value c.args.map.now.entries c.insert.ensures.was_ordered

pub returns-clause-count : goal.returns-clause-count
returns-clause-count g c = rw c.in-Ok.ensures.entries (count-put g.K.Ord.cmp g.met.K.Ord.total c.args.key c.args.value c.args.map.now.entries c.insert.ensures.was_ordered)

pub returns-clause-values : goal.returns-clause-values
returns-clause-values g c = λ q.
    lookup-filled g.K.Ord.cmp g.met.K.Ord.total q c.insert.new.self.entries c.insert.ensures.ordered
    ∙ ap joined (c.in-Ok.ensures.updates.0 q)
    ∙ joined_cond (is_at (g.K.Ord.cmp c.args.key) q) c.args.value _
    ∙ ap (λ o. cond (is_at (g.K.Ord.cmp c.args.key) q) c.args.value o) (sym (lookup-filled g.K.Ord.cmp g.met.K.Ord.total q c.args.map.now.entries c.insert.ensures.was_ordered))
