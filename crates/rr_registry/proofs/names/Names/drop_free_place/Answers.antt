use Rattle.std.proofs.Common.{◌≡◌, length, is_some, sym, ap, ◌∙◌, arith}
use Rattle.std.specs.Ordering.{nat_cmp}
use Rattle.std.specs.Cmp.Lexicographic.{slice_cmp}
use Rattle.std.specs.BTreeMap.{is_at}
use Rattle.std.proofs.lemmas.Map.Text.{is_eq-slice_cmp}
use Rattle.rr_registry.specs.Tables.{bindings_in, may_free}
use Rattle.rr_registry.proofs.TableLemmas.{lookup-name}
use Rattle.rr_registry.proofs.PlacedLemmas.{all_bound}
use Rattle.rr_registry.proofs.NameLemmas.{gone_at}
use Rattle.rr_registry.proofs.names.Names.drop_free_place.Goals as goal

pub returns-in-Claim-clause-gone : goal.returns-in-Claim-clause-gone
returns-in-Claim-clause-gone c = λ n free. gone_at (bindings_in c.args.self.now) c.drop_free_place.new.map.entries c.in-Claim.name n (sym (ap (λ op. may_free op n) c.in-Claim.is) ∙ free) c.drop_free_place.ensures.gone

pub returns-in-Claim-clause-only : goal.returns-in-Claim-clause-only
returns-in-Claim-clause-only c = λ n other. c.drop_free_place.ensures.only n (is_eq-slice_cmp c.in-Claim.name n ∙ sym (ap (λ op. may_free op n) c.in-Claim.is) ∙ other)

pub returns-in-Release-clause-gone : goal.returns-in-Release-clause-gone
returns-in-Release-clause-gone c = λ n free. gone_at (bindings_in c.args.self.now) c.drop_free_place-in-Release.new.map.entries c.in-Release.name n (sym (ap (λ op. may_free op n) c.in-Release.is) ∙ free) c.drop_free_place-in-Release.ensures.gone

pub returns-in-Release-clause-only : goal.returns-in-Release-clause-only
returns-in-Release-clause-only c = λ n other. c.drop_free_place-in-Release.ensures.only n (is_eq-slice_cmp c.in-Release.name n ∙ sym (ap (λ op. may_free op n) c.in-Release.is) ∙ other)

pub returns-then-len-self-clause-gone : goal.returns-then-len-self-clause-gone
returns-then-len-self-clause-gone c = λ n free.
    let m = bindings_in c.args.self.now in
    let es = c.args.self.now.places.entries in
    let same : length es ≡ length m = (let places = c.len.ensures.len in let test = c.if-len-self.true in let counted = c.requires in omega arith) in
    all_bound (is_at (slice_cmp nat_cmp n)) es same ∙ ap is_some (lookup-name n m)
