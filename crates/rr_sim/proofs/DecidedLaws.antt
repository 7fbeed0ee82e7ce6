-- What a node that serves has decided is a beginning of the decided list.
use Rattle.std.proofs.Common.{◌≡◌, ℕ, if◌then◌else◌, List, [], ◌++◌, length, take, refl, sym, ◌∙◌, ap, append_assoc}
use Rattle.std.proofs.lemmas.List.{take_at}
use Rattle.rr_types.specs.declared.command.Command.{Command}
use Rattle.rr_types.specs.declared.fact.Fact.{Fact}
use Rattle.rr_model.specs.NodeState.{decided_prefix}
use Rattle.rr_model.specs.NodeLaws.{marked_facts}
use Rattle.rr_model.specs.NodeInWorld.{group_of}
use Rattle.rr_model.specs.Sound.{IsDecidedList}
use Rattle.rr_model.specs.World as world
use Rattle.rr_model.specs.World.{Step, IsRun, end_of}
use Rattle.rr_model.proofs.Fits.{fitting_prefix}
use Rattle.rr_model.proofs.NodeInWorld.{reached_front_fits}
use Rattle.rr_model.proofs.NodeReached.{reached_truthful}
use Rattle.rr_model.proofs.Prefixes.{Begins}
use Rattle.rr_model.proofs.Soundness.{prefix_begins}
use Rattle.rr_disk.specs.Areas.{Areas}
use Rattle.rr_node.specs.Seats.{Doing, Stopped, Faulted, Opening, Serving}
use Rattle.rr_node.specs.Worlds.{is_settled, DoesSo}
use Rattle.rr_sim.specs.Headline.{DecidesAsListed}

module _ (n : ℕ) (run : List Step) (list : List Command) (r : IsRun n run) (d : IsDecidedList n (end_of run).wire list) where
  -- the marked facts are a beginning of the kept ones, and these decide as the list has it
  pub decides_as_listed : (p : ℕ) (both : Areas) (doing : Doing) → DoesSo n p (end_of run) both doing → DecidesAsListed list doing
  decides_as_listed p both Stopped h = tt
  decides_as_listed p both Faulted h = tt
  decides_as_listed p both (Opening phase) h = tt
  decides_as_listed p both (Serving s journal flush) h =
      let marked : List Fact = marked_facts h.facts s in
      let group : List Fact = if is_settled flush then group_of s else [] in
      let own : decided_prefix s ≡ world.decided_prefix marked = (reached_truthful n p h.facts h.heard s h.reached).prefix in
      let more : Begins (world.decided_prefix marked) (world.decided_prefix (marked ++ group)) = fitting_prefix n p marked group (reached_front_fits n p h.facts h.heard s h.reached (is_settled flush)) in
      let kept : Begins (world.decided_prefix ((end_of run).kept p)) list = prefix_begins n run r list d p in
      let whole : decided_prefix s ++ (more.rest ++ kept.rest) ≡ list =
      ap (λ (cs : List Command). cs ++ (more.rest ++ kept.rest)) own
      ∙ sym (append_assoc (world.decided_prefix marked) more.rest kept.rest)
      ∙ ap (λ (cs : List Command). cs ++ kept.rest) (more.is ∙ ap world.decided_prefix (sym h.in_world.kept))
      ∙ kept.is in
      sym (take_at (decided_prefix s) (more.rest ++ kept.rest) (length (decided_prefix s)) refl) ∙ ap (take (length (decided_prefix s))) whole
