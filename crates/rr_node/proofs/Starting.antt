-- A node that was never started is in step with the empty world.
use Rattle.std.proofs.Common.{◌≡◌, ℕ, ◌<◌, [], refl, sym, subst, arith}
use Rattle.std.proofs.lemmas.List.Elements.{All-nil}
use Rattle.rr_disk.specs.Crash.{Images, restarted}
use Rattle.rr_journal.specs.Image.{Found, Unformatted, found}
use Rattle.rr_journal.specs.Held.{StandsFor, Holds}
use Rattle.rr_journal.proofs.FormatLaws.{both_blank, short_blank}
use Rattle.rr_node.specs.Runs.{StartsInStep}
use Rattle.rr_node.proofs.InOrder.{rest_in_order}
use Rattle.rr_node.proofs.Flushing.{each_none, rest_holds}

-- no bytes
nothing : Images
nothing = record { of_first = []; of_second = [] }

blank : (n p : ℕ) → found n p [] [] ≡ Unformatted
blank n p = both_blank n p [] [] (short_blank n p [] (omega arith)) (short_blank n p [] (omega arith))

empty_holds : (n p : ℕ) → Holds n p nothing []
unfolding nothing
empty_holds n p = record { fit = refl; stands = subst (λ (f : Found). StandsFor f []) (sym (blank n p)) refl }

pub starts_in_step : (n p : ℕ) → StartsInStep n p
unfolding nothing
starts_in_step n p exists =
    let order = rest_in_order [] (All-nil (λ b. b < 256)) (omega arith) in
    record {
      exists = exists;
      nodes = refl;
      node = refl;
      in_order = (order, order);
      doing = (record { down = refl; heard = refl }, each_none n p [] [] (restarted nothing) (rest_holds n p [] nothing (restarted nothing) refl (empty_holds n p)));
    }
