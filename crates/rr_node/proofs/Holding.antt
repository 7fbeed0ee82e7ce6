-- Whatever a crash leaves of a node in step holds its kept facts and some of its staged ones.
use Rattle.std.proofs.Common.{ℕ, ◌++◌, List, take, length}
use Rattle.rr_types.specs.declared.fact.Fact.{Fact}
use Rattle.rr_model.specs.World.{World}
use Rattle.rr_model.specs.NodeState.{NodeState}
use Rattle.rr_disk.specs.Areas.{Areas}
use Rattle.rr_journal.specs.Moments.{EachHolds}
use Rattle.rr_journal.specs.Calls.{Call}
use Rattle.rr_journal.specs.Image.{Found}
use Rattle.rr_journal.specs.Held.{Holds}
use Rattle.rr_journal.specs.Openings as opening
use Rattle.rr_journal.proofs.RewriteLaws.{held_rewriting}
use Rattle.rr_journal.proofs.SwitchLaws.{held}
use Rattle.rr_node.specs.Seats.{Flush, Resting, Writing, Flushed, Switching, Journaled, Doing, Stopped, Faulted, Opening, Serving, Seat}
use Rattle.rr_node.specs.Worlds.{EachHoldsSome, WritesAnew, IsOpening, journal_at, IsServing, DoesSo, InStep}
use Rattle.rr_node.proofs.Flushing.{each_none, each_first, rest_holds, flush_holds}

-- while an area is written anew a disk holds its facts
pub anew_holds : (n p : ℕ) (facts : List Fact) (both : Areas) (found : Found) (calls : List Call) → WritesAnew n p facts both found calls → EachHolds (Holds n p) both facts
anew_holds n p facts both found calls anew =
    let r = anew.rewrites in
    held_rewriting n p found r.due r.start r.finds r.spelt facts anew.holds anew.stage both r.stands

opening_holds : (n p : ℕ) (w : World) (both : Areas) (phase : opening.Phase) → IsOpening n p w both phase → EachHoldsSome n p w both
opening_holds n p w both opening.Settling opens = opens.1
opening_holds n p w both opening.ReadingFirst opens =
    let some = opens.1 in
    each_first n p (w.kept p) (w.staged p) some.count both some.there (rest_holds n p (w.kept p ++ take some.count (w.staged p)) some.opens.start both some.opens.stands some.opens.holds)
opening_holds n p w both (opening.ReadingSecond first) opens =
    let some = opens.1 in
    each_first n p (w.kept p) (w.staged p) some.count both some.there (rest_holds n p (w.kept p ++ take some.count (w.staged p)) some.opens.0.start both some.opens.0.stands some.opens.0.holds)
opening_holds n p w both (opening.Rewriting found calls) opens =
    let some = opens.1 in
    each_first n p (w.kept p) (w.staged p) some.count both some.there (anew_holds n p (w.kept p ++ take some.count (w.staged p)) both found calls some.opens)

serving_holds : (n p : ℕ) (w : World) (both : Areas) (s : NodeState) (journal : Journaled) (flush : Flush) → IsServing n p w both s journal flush → EachHoldsSome n p w both
serving_holds n p w both s journal Resting serves = each_none n p (w.kept p) (w.staged p) both (rest_holds n p (w.kept p) serves.start both serves.flushes.1 serves.over.holds)
serving_holds n p w both s journal (Writing calls) serves =
    let f = serves.flushes in
    flush_holds n p w serves.facts serves.heard s f.group serves.reached serves.in_world f.runs journal serves.start serves.over f.lawful f.small f.moment both f.stands
serving_holds n p w both s journal (Switching calls) serves =
    let f = serves.flushes in
    each_none n p (w.kept p) (w.staged p) both (held (journal_at n p journal (length (w.kept p))) (w.kept p) (length (w.kept p)) f.stage serves.start both serves.over f.stands)
serving_holds n p w both s journal Flushed serves = each_none n p (w.kept p) (w.staged p) both (rest_holds n p (w.kept p) serves.start both serves.flushes.2 serves.over.holds)

doing_holds : (n p : ℕ) (w : World) (both : Areas) (doing : Doing) → DoesSo n p w both doing → EachHoldsSome n p w both
doing_holds n p w both Stopped does = does.1
doing_holds n p w both Faulted does = does.1
doing_holds n p w both (Opening phase) does = opening_holds n p w both phase does
doing_holds n p w both (Serving s journal flush) does = serving_holds n p w both s journal flush does

pub seat_holds : (n p : ℕ) (seat : Seat) (w : World) → InStep n p seat w → EachHoldsSome n p w seat.areas
seat_holds n p seat w h = doing_holds n p w seat.areas seat.doing h.doing
