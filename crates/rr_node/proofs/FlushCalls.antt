-- The device calls of a flush, one at a time: what each leaves where it succeeds, and where it fails.
use Rattle.std.proofs.Common.{◌≡◌, inl, inr, ℕ, ◌+◌, ◌^◌, ◌<◌, List, [], ◌∷◌, length, refl, ap, ◌∙◌, arith}
use Rattle.std.proofs.lemmas.List.{length-map}
use Rattle.std.proofs.lemmas.List.Elements.{All-nil, All-cons}
use Rattle.rr_types.specs.declared.fact.Fact.{Fact}
use Rattle.rr_disk.specs.declared.area.Area.{Area}
use Rattle.rr_disk.specs.Areas.{Extent, Areas, extent_of, firm_cell, synced}
use Rattle.rr_disk.specs.Crash.{Images, restarted}
use Rattle.rr_journal.specs.Flushes as gate
use Rattle.rr_journal.specs.Moments.{image_of, body_written, with_body, IsGrounded, IsAt, EachHolds, EachHoldsEither}
use Rattle.rr_journal.proofs.FlushStates.{extent_restarted, image_of_with, body_there}
use Rattle.rr_journal.proofs.Table.{out_holds, set_holds, body_refused, gate_refused, same_holds, same_either, to_out, to_safe, to_set}
use Rattle.rr_journal.specs.Calls.{Call, Write, Sync, after_call}
use Rattle.rr_journal.specs.OpeningTable.{IsLeftBy}
use Rattle.rr_node.specs.Worlds.{Moment, BodyDue, BodyOut, BodySafe, GateSet, calls_at, areas_at}
use Rattle.rr_node.proofs.InOrder.{Bytes, IsSmall, StartsWithin}

-- the device call that is due at a moment, and those behind it
abbrev pub call_of : gate.Flush → Moment → Call
call_of flush BodyDue = Write flush.area (flush.gate + 1) flush.body
call_of flush BodyOut = Sync
call_of flush BodySafe = Write flush.area flush.gate (165 ∷ [])
call_of flush GateSet = Sync

abbrev pub calls_behind : gate.Flush → Moment → List Call
calls_behind flush BodyDue = calls_at flush BodyOut
calls_behind flush BodyOut = calls_at flush BodySafe
calls_behind flush BodySafe = calls_at flush GateSet
calls_behind flush GateSet = []

pub calls_are : (flush : gate.Flush) (moment : Moment) → calls_at flush moment ≡ call_of flush moment ∷ calls_behind flush moment
calls_are flush BodyDue = refl
calls_are flush BodyOut = refl
calls_are flush BodySafe = refl
calls_are flush GateSet = refl

-- the calls that are left begin with the one that is due
pub call_is : (flush : gate.Flush) (moment : Moment) (call : Call) (calls : List Call) → call ∷ calls ≡ calls_at flush moment → (call ≡ call_of flush moment) × (calls ≡ calls_behind flush moment)
call_is flush moment call calls e = by (e ∙ calls_are flush moment)
  where
    by : call ∷ calls ≡ call_of flush moment ∷ calls_behind flush moment → (call ≡ call_of flush moment) × (calls ≡ calls_behind flush moment)
    by e = (cc, cc)

-- a flush writes bytes, below byte 4,294,967,296
pub record IsSmallFlush (flush : gate.Flush) : Type 0 where
  pub bytes : Bytes flush.body
  pub small : flush.gate + 1 + length flush.body < 2 ^ 32

pub call_small : (flush : gate.Flush) (moment : Moment) → IsSmallFlush flush → IsSmall (call_of flush moment)
call_small flush BodyDue small = (small.bytes, small.small)
call_small flush BodyOut small = tt
call_small flush BodySafe small = (All-cons (λ b. b < 256) 165 [] (omega arith) (All-nil (λ b. b < 256)), omega (arith, small.small))
call_small flush GateSet small = tt

-- an area of a disk at rest is as long as its image
rest_length : (start : Images) (area : Area) (both : Areas) → both ≡ restarted start → length (extent_of both area).cells ≡ length (image_of start area)
rest_length start area both is =
    ap (λ (b : Areas). length (extent_of b area).cells) is ∙ ap (λ (e : Extent). length e.cells) (extent_restarted start area) ∙ length-map (image_of start area) firm_cell

module _ (holds : Images → List Fact → Type 0) (flush : gate.Flush) (start : Images) (facts : List Fact) (grounded : IsGrounded holds flush start facts) where
  -- each write starts within its area
  pub call_within : (moment : Moment) (both : Areas) → both ≡ areas_at moment flush start → StartsWithin (call_of flush moment) both
  call_within BodyDue both is = omega (arith, grounded.there, rest_length start flush.area both is)
  call_within BodyOut both is = tt
  call_within BodySafe both is =
      let bodied : image_of (with_body flush start) flush.area ≡ body_written flush (image_of start flush.area) = image_of_with start flush.area (body_written flush (image_of start flush.area)) in
      omega (arith, rest_length (with_body flush start) flush.area both is, ap (λ (bytes : List ℕ). length bytes) bodied, body_there flush (image_of start flush.area) grounded.there)
  call_within GateSet both is = tt

  at : (moment : Moment) (both : Areas) → both ≡ areas_at moment flush start → IsAt (areas_at moment) holds flush start facts both
  at moment both is = record { grounded = grounded; stands = is }

  either : (both : Areas) → EachHolds holds both facts → EachHoldsEither holds both facts flush.group.facts
  either both each images is = inl (each images is)

  -- whatever a call leaves that fails, each image holds the facts, or these and the group's
  pub moment_fails : (moment : Moment) (old new : Areas) → old ≡ areas_at moment flush start → IsLeftBy (call_of flush moment) old new → EachHoldsEither holds new facts flush.group.facts
  moment_fails BodyDue old new is left = either new (body_refused holds flush start facts old new (length flush.body) (at BodyDue old is) (inr left))
  moment_fails BodyOut old new is left = either new (same_holds holds flush start facts old new (out_holds holds flush start facts old (at BodyOut old is)) left)
  moment_fails BodySafe old new is left = gate_refused holds flush start facts old new (at BodySafe old is) (inr left)
  moment_fails GateSet old new is left = same_either holds flush start facts old new flush.group.facts (set_holds holds flush start facts old (at GateSet old is)) left

  -- and a call that succeeds leads to the next moment
  pub goes_out : (old new : Areas) → old ≡ areas_at BodyDue flush start → new ≡ after_call (call_of flush BodyDue) old → new ≡ areas_at BodyOut flush start
  goes_out old new is after = (to_out holds flush start facts old new (at BodyDue old is) after).stands

  pub goes_safe : (old new : Areas) → old ≡ areas_at BodyOut flush start → new ≡ synced old → new ≡ areas_at BodySafe flush start
  goes_safe old new is after = (to_safe holds flush start facts old new (at BodyOut old is) after).stands

  pub goes_set : (old new : Areas) → old ≡ areas_at BodySafe flush start → new ≡ after_call (call_of flush BodySafe) old → new ≡ areas_at GateSet flush start
  goes_set old new is after = (to_set holds flush start facts old new (at BodySafe old is) after).stands
