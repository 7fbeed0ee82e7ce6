-- What happens at another node keeps a node in step.
use Rattle.std.proofs.Common.{ℕ, ◌≤◌, ◌++◌, List, length, take, sym, subst, ◌∙◌}
use Rattle.rr_types.specs.declared.fact.Fact.{Fact}
use Rattle.rr_model.specs.World.{World}
use Rattle.rr_model.specs.NodeState.{NodeState}
use Rattle.rr_model.specs.NodeInWorld.{LeavesAlone}
use Rattle.rr_disk.specs.Areas.{Areas}
use Rattle.rr_journal.specs.Journals.{IsOver}
use Rattle.rr_journal.specs.Openings as opening
use Rattle.rr_node.specs.Seats.{Flush, Journaled, Doing, Stopped, Faulted, Opening, Serving, Seat}
use Rattle.rr_node.specs.Worlds.{EachHoldsSome, IsDown, OpensOver, OpensSome, IsOpening, journal_at, FlushesSo, IsServing, DoesSo, InStep}
use Rattle.rr_node.proofs.Flushing.{EachSome}

module _ (n q : ℕ) (w v : World) (alone : LeavesAlone q w v) where
  down_stays : IsDown q w → IsDown q v
  down_stays down = record { down = alone.up ∙ down.down; heard = alone.heard ∙ down.heard }

  each_stays : (both : Areas) → EachHoldsSome n q w both → EachHoldsSome n q v both
  each_stays both each =
      subst (λ (kept : List Fact). EachSome n q kept (v.staged q) both) (sym alone.kept)
      (subst (λ (staged : List Fact). EachSome n q (w.kept q) staged both) (sym alone.staged) each)

  opens_stays : (both : Areas) (phase : opening.Phase) → OpensSome n q w both phase → OpensSome n q v both phase
  opens_stays both phase some = record {
    count = some.count;
    there = subst (λ (staged : List Fact). some.count ≤ length staged) (sym alone.staged) some.there;
    opens = subst (λ (kept : List Fact). OpensOver n q (kept ++ take some.count (v.staged q)) both phase) (sym alone.kept)
        (subst (λ (staged : List Fact). OpensOver n q (w.kept q ++ take some.count staged) both phase) (sym alone.staged) some.opens);
  }

  opening_stays : (both : Areas) (phase : opening.Phase) → IsOpening n q w both phase → IsOpening n q v both phase
  opening_stays both opening.Settling h = (down_stays h.0, each_stays both h.1)
  opening_stays both opening.ReadingFirst h = (down_stays h.0, opens_stays both opening.ReadingFirst h.1)
  opening_stays both (opening.ReadingSecond first) h = (down_stays h.0, opens_stays both (opening.ReadingSecond first) h.1)
  opening_stays both (opening.Rewriting found calls) h = (down_stays h.0, opens_stays both (opening.Rewriting found calls) h.1)

  serving_stays : (both : Areas) (s : NodeState) (journal : Journaled) (flush : Flush) → IsServing n q w both s journal flush → IsServing n q v both s journal flush
  serving_stays both s journal flush h =
      let in_world = h.in_world in
      record {
        facts = h.facts;
        heard = h.heard;
        reached = h.reached;
        in_world = record {
          exists = in_world.exists;
          up = alone.up ∙ in_world.up;
          runs = in_world.runs;
          kept = alone.kept ∙ in_world.kept;
          staged = alone.staged ∙ in_world.staged;
          heard = alone.heard ∙ in_world.heard;
          submitted = λ c held. alone.submitted c (in_world.submitted c held);
        };
        start = h.start;
        over = subst (λ (kept : List Fact). IsOver (journal_at n q journal (length kept)) h.start kept) (sym alone.kept) h.over;
        flushes = subst (λ (kept : List Fact). FlushesSo n q s journal kept h.start both flush) (sym alone.kept) h.flushes;
      }

  doing_stays : (both : Areas) (doing : Doing) → DoesSo n q w both doing → DoesSo n q v both doing
  doing_stays both Stopped h = (down_stays h.0, each_stays both h.1)
  doing_stays both Faulted h = (down_stays h.0, each_stays both h.1)
  doing_stays both (Opening phase) h = opening_stays both phase h
  doing_stays both (Serving s journal flush) h = serving_stays both s journal flush h

  pub seat_stays : (seat : Seat) → InStep n q seat w → InStep n q seat v
  seat_stays seat h = record { exists = h.exists; nodes = h.nodes; node = h.node; in_order = h.in_order; doing = doing_stays seat.areas seat.doing h.doing }
