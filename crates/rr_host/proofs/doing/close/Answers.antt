use Rattle.std.proofs.Common.{◌≡◌, Option, None, Some, IsSome, refl, sym, ap, ◌∙◌}
use Rattle.std.proofs.lemmas.Bool.{false≢true}
use Rattle.rr_model.specs.NodeState.{NodeState}
use Rattle.rr_model.specs.NodeStep.{started}
use Rattle.rr_journal.specs.declared.journal.Journal.{Journal}
use Rattle.rr_host.specs.Disks.{DiskState}
use Rattle.rr_host.proofs.doing.close.Goals as goal

-- where something is there, what holds of each that is there holds of one
one_of : {A : Type 0} {P : A → Type 0} (found : Option A) → IsSome found → ((a : A) → found ≡ Some a → P a) → (a : A) × P a
one_of None some each = absurd (false≢true some)
one_of (Some a) some each = (a, each a refl)

pub returns-in-Ok : goal.returns-in-Ok
returns-in-Ok c =
    let whose = c.args.opening in
    let up = c.new.result in
    let (end, is) = one_of whose.end c.requires c.in-Ok.ensures.ok in
    let next : up.journal.next ≡ end.next = ap (λ (j : Journal DiskState). j.next) (c.new.ensures.journal ∙ is.2) in
    let marked : up.core.marked ≡ end.promise = ap (λ (s : NodeState). s.marked) c.new.ensures.core ∙ is.1 in (
      c.new.ensures.core ∙ is.0 ∙ ap (λ q. started whose.nodes whose.node q end.next) (sym marked) ∙ ap (λ k. started whose.nodes whose.node up.core.marked k) (sym next),
      c.new.ensures.rests,
    )
