-- A flush of a node that is up: what it rests on, where its journal stands behind it, and what a crash may leave meanwhile.
use Rattle.std.proofs.Common.{◌≡◌, ◌⊎◌, inl, inr, ℕ, ◌+◌, ◌^◌, ◌<◌, ◌≤◌, true, false, List, [], ◌++◌, length, take, length-append, append-nil, append_assoc, Option, Some, refl, sym, ap, subst, ◌∙◌, arith}
use Rattle.std.specs.Option.{option_map_or}
use Rattle.std.proofs.lemmas.List.{take_at}
use Rattle.rr_types.specs.declared.fact.Fact.{Fact}
use Rattle.rr_types.specs.Groups.{Grouped}
use Rattle.rr_types.specs.Promises.{all_fit}
use Rattle.rr_model.specs.Lawful.{Heard}
use Rattle.rr_model.specs.World.{World}
use Rattle.rr_model.specs.NodeState.{NodeState}
use Rattle.rr_model.specs.NodeStep.{running_group}
use Rattle.rr_model.specs.NodeLaws.{marked_facts}
use Rattle.rr_model.specs.NodeReached.{IsReached}
use Rattle.rr_model.specs.NodeInWorld.{group_of, IsInWorld}
use Rattle.rr_model.proofs.Fits.{fit_first}
use Rattle.rr_model.proofs.NodeReached.{reached_truthful, reached_itself, reached_fits}
use Rattle.rr_disk.specs.Areas.{Areas}
use Rattle.rr_disk.specs.Crash.{Images, IsCrashImage, restarted}
use Rattle.rr_frame.specs.GroupFormat.{group_bytes, IsLawfulGroup}
use Rattle.rr_journal.specs.Moments.{with_group, EachHolds, EachHoldsEither, IsGrounded}
use Rattle.rr_journal.proofs.Table.{due_holds, out_holds, safe_holds, set_holds}
use Rattle.rr_journal.specs.Held.{Holds}
use Rattle.rr_journal.specs.Journals.{IsOver, once_flushed}
use Rattle.rr_journal.proofs.FlushLaws.{grounded, over_after}
use Rattle.rr_core.proofs.GroupLemmas.{runs_is}
use Rattle.rr_node.specs.Seats.{Journaled}
use Rattle.rr_node.specs.Worlds.{Moment, BodyDue, BodyOut, BodySafe, GateSet, areas_at, flush_of, HoldsSome, journal_at}
use Rattle.rr_node.proofs.InOrder.{rest_image}

-- every image that a crash may leave holds the kept facts and some of the staged ones
abbrev pub EachSome : ℕ → ℕ → List Fact → List Fact → Areas → Type 0
EachSome n p kept staged both = (images : Images) → IsCrashImage both images → HoldsSome n p kept staged images

-- none of the staged ones
pub each_none : (n p : ℕ) (kept staged : List Fact) (both : Areas) → EachHolds (Holds n p) both kept → EachSome n p kept staged both
each_none n p kept staged both holds images is = record { count = 0; there = omega arith; holds = subst (λ (fs : List Fact). Holds n p images fs) (sym (append-nil kept)) (holds images is) }

-- the same ones each time
pub each_first : (n p : ℕ) (kept staged : List Fact) (count : ℕ) (both : Areas) → count ≤ length staged → EachHolds (Holds n p) both (kept ++ take count staged) → EachSome n p kept staged both
each_first n p kept staged count both there holds images is = record { count = count; there = there; holds = holds images is }

-- none, or those of the group at their front
pub each_either : (n p : ℕ) (kept group behind staged : List Fact) (both : Areas) → staged ≡ group ++ behind → EachHoldsEither (Holds n p) both kept group → EachSome n p kept staged both
each_either n p kept group behind staged both is holds images left = by (holds images left)
  where
    front : take (length group) staged ≡ group
    front = ap (take (length group)) is ∙ take_at group behind (length group) refl

    by : Holds n p images kept ⊎ Holds n p images (kept ++ group) → HoldsSome n p kept staged images
    by (inl h) = record { count = 0; there = omega arith; holds = subst (λ (fs : List Fact). Holds n p images fs) (sym (append-nil kept)) h }
    by (inr h) = record {
      count = length group;
      there = omega (arith, ap length is, length-append group behind);
      holds = subst (λ (fs : List Fact). Holds n p images (kept ++ fs)) (sym front) h;
    }

-- a disk at rest holds what its bytes hold
pub rest_holds : (n p : ℕ) (facts : List Fact) (start : Images) (both : Areas) → both ≡ restarted start → Holds n p start facts → EachHolds (Holds n p) both facts
rest_holds n p facts start both stands holds images is =
    subst (λ (x : Images). Holds n p x facts) (rest_image start images (subst (λ (b : Areas). IsCrashImage b images) stands is)) holds

module _ (n p : ℕ) (w : World) (facts : List Fact) (h : Heard) (s : NodeState) (group : Grouped) (reached : IsReached n p facts h s) (world : IsInWorld false n p facts h s w) (runs : running_group s ≡ Some group) where
  -- the facts of the group are those of the running group
  pub own_group : group_of s ≡ group.facts
  own_group = ap (λ (o : Option (List Fact)). option_map_or (λ g. g) o []) (runs_is s group runs).0

  -- the kept facts are the marked ones
  pub kept_marked : w.kept p ≡ marked_facts facts s
  kept_marked = world.kept ∙ append-nil (marked_facts facts s)

  -- the group stands at the front of what is staged
  pub staged_group : w.staged p ≡ group.facts ++ s.staged
  staged_group = world.staged ∙ ap (λ (fs : List Fact). fs ++ s.staged) own_group

  -- it begins with the number of the next fact
  pub serial_kept : group.serial ≡ length (w.kept p)
  serial_kept = (runs_is s group runs).1 ∙ (reached_itself n p facts h s reached).marked_end ∙ ap length (sym kept_marked)

  -- its facts fit behind the kept ones
  pub group_fits : all_fit n p [] (w.kept p ++ group.facts) ≡ true
  group_fits =
      let together : facts ≡ marked_facts facts s ++ (group_of s ++ s.staged) = (reached_truthful n p facts h s reached).together in
      let whole : facts ≡ (w.kept p ++ group.facts) ++ s.staged =
      together
      ∙ ap (λ (fs : List Fact). fs ++ (group_of s ++ s.staged)) (sym kept_marked)
      ∙ ap (λ (fs : List Fact). w.kept p ++ (fs ++ s.staged)) own_group
      ∙ sym (append_assoc (w.kept p) group.facts s.staged) in
      fit_first n p [] (w.kept p ++ group.facts) s.staged (subst (λ (fs : List Fact). all_fit n p [] fs ≡ true) whole (reached_fits n p facts h s reached))

  module _ (journal : Journaled) (start : Images) (over : IsOver (journal_at n p journal (length (w.kept p))) start (w.kept p))
      (lawful : IsLawfulGroup group) (small : journal.gate + 6 + length (group_bytes group) < 2 ^ 32) where
    -- the flush rests on what it needs
    pub flush_grounded : IsGrounded (Holds n p) (flush_of n p journal group) start (w.kept p)
    flush_grounded =
        grounded (journal_at n p journal (length (w.kept p))) start (w.kept p) (flush_of n p journal group) over refl refl refl lawful (omega (arith, small)) group_fits serial_kept

    -- behind it the journal is over the facts with the group's
    pub flushed_over : IsOver (once_flushed (flush_of n p journal group) (journal_at n p journal (length (w.kept p)))) (with_group (flush_of n p journal group) start) (w.kept p ++ group.facts)
    flushed_over =
        over_after (journal_at n p journal (length (w.kept p))) start (w.kept p) (flush_of n p journal group) over refl refl refl lawful (omega (arith, small)) group_fits serial_kept

    -- whatever a crash leaves at one of its moments holds the kept facts, and the group's where its gate is open
    pub flush_holds : (moment : Moment) (both : Areas) → both ≡ areas_at moment (flush_of n p journal group) start → EachSome n p (w.kept p) (w.staged p) both
    flush_holds BodyDue both is = each_none n p (w.kept p) (w.staged p) both (due_holds (Holds n p) (flush_of n p journal group) start (w.kept p) both (record { grounded = flush_grounded; stands = is }))
    flush_holds BodyOut both is = each_none n p (w.kept p) (w.staged p) both (out_holds (Holds n p) (flush_of n p journal group) start (w.kept p) both (record { grounded = flush_grounded; stands = is }))
    flush_holds BodySafe both is = each_none n p (w.kept p) (w.staged p) both (safe_holds (Holds n p) (flush_of n p journal group) start (w.kept p) both (record { grounded = flush_grounded; stands = is }))
    flush_holds GateSet both is = each_either n p (w.kept p) group.facts s.staged (w.staged p) both staged_group (set_holds (Holds n p) (flush_of n p journal group) start (w.kept p) both (record { grounded = flush_grounded; stands = is }))
